-- What one write after another leaves.
use Rattle.std.proofs.Common.{◌≡◌, ℕ, ◌+◌, ◌-◌, ◌≤◌, List, [], ◌++◌, length, take, drop, Option, sym, ap, ◌∙◌, arith, append_assoc, append-nil, length-drop, length-take}
use Rattle.std.proofs.Math.Seq.{take-add}
use Rattle.std.proofs.lemmas.List.{take_all}
use Rattle.cb_model.specs.Outside.{Wrote}

-- nothing was written
pub Wrote-none : (s : Option (List ℕ)) → Wrote s s []
Wrote-none s = record { told = λ all e. (all, e, sym (append-nil all)) }

-- one write after another
pub Wrote-then : (s t u : Option (List ℕ)) (x y : List ℕ) → Wrote s t x → Wrote t u y → Wrote s u (x ++ y)
Wrote-then s t u x y p q = record {
  told = λ all e.
      let b = q.told all e in
      let a = p.told b.0 b.1 in
      (a.0, a.1, b.2 ∙ ap (λ l. l ++ y) a.2 ∙ append_assoc a.0 x y);
}

-- the next n bytes of a piece, behind those before
pub piece-more : (piece : List ℕ) (at n : ℕ) → at ≤ length piece → take at piece ++ take n (take (length piece - at) (drop at piece)) ≡ take (at + n) piece
piece-more piece at n h =
    let all : length (drop at piece) ≤ length piece - at = omega (arith, length-drop at piece) in
    ap (λ l. take at piece ++ take n l) (take_all (length piece - at) (drop at piece) all) ∙ sym (take-add at n piece)

pub piece-within : (piece : List ℕ) (at n : ℕ) → at ≤ length piece → n ≤ length (take (length piece - at) (drop at piece)) → at + n ≤ length piece
piece-within piece at n h b = omega (arith, length-take (length piece - at) (drop at piece), length-drop at piece)
