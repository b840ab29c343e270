-- What one read after another leaves.
use Rattle.std.proofs.Common.{◌≡◌, ℕ, ◌+◌, ◌<◌, List, ◌++◌, length, take, drop, Option, Some, None, refl, sym, subst, ap, ◌∙◌, append_assoc, arith}
use Rattle.std.proofs.Math.Seq.{take-append_seam, drop-append_seam}
use Rattle.std.proofs.lemmas.List.{length-append, take-append-drop}
use Rattle.cb_host.specs.Host.{IfTold, Reads, Took}

-- the front of a buffer behind what was taken before
pub Took-then : (before between now : Option (List ℕ)) (xs buffer : List ℕ) (n : ℕ) → Took before between xs → IfTold between (λ bytes. Reads bytes now buffer n) → Took before now (xs ++ take n buffer)
Took-then before between now xs buffer n t r = record {
  told = λ all e.
      let a = t.told all e in
      let q : Reads a.0 now buffer n = subst (λ o. IfTold o (λ bytes. Reads bytes now buffer n)) a.1.0 r in
      let parted : a.0 ≡ take n buffer ++ drop n a.0 = sym (take-append-drop n a.0) ∙ ap (λ l. l ++ drop n a.0) (sym q.front) in
      (drop n a.0, (q.rest, a.1.1 ∙ ap (λ l. xs ++ l) parted ∙ sym (append_assoc xs (take n buffer) (drop n a.0))));
}

-- so many bytes that were taken, one more than a limit, are the first ones, and the others are left
pub Took-front : (before now : Option (List ℕ)) (xs : List ℕ) (limit : ℕ) → length xs ≡ limit + 1 → Took before now xs → IfTold before (λ bytes. (limit < length bytes) × ((xs ≡ take (limit + 1) bytes) × (now ≡ Some (drop (limit + 1) bytes))))
Took-front None now xs limit l t = tt
Took-front (Some all) now xs limit l t =
    let a = t.told all refl in
    let longer : limit < length all = subst (λ (ys : List ℕ). limit < length ys) (sym a.1.1) (omega (arith, l, length-append xs a.0)) in
    let front : xs ≡ take (length xs) all = sym (ap (take (length xs)) a.1.1 ∙ take-append_seam xs a.0) in
    let rest : drop (length xs) all ≡ a.0 = ap (drop (length xs)) a.1.1 ∙ drop-append_seam xs a.0 in
    (longer, subst (λ k. (xs ≡ take k all) × (now ≡ Some (drop k all))) l (front, a.1.0 ∙ ap (λ (r : List ℕ). Some r) (sym rest)))
