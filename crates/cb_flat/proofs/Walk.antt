-- The steps of the walk.
use Rattle.std.proofs.Common.{◌≡◌, ℕ, ◌+◌, ◌-◌, ◌<◌, ◌≤◌, true, false, nat_lt, List, [], ◌∷◌, ◌++◌, map, length, flat_map, inl, inr, refl, sym, ◌∙◌, ap, arith, append-nil, append_assoc}
use Rattle.std.proofs.lemmas.Bool.{cases_lt}
use Rattle.std.proofs.lemmas.List.{get_or-map}
use Rattle.std.proofs.lemmas.Bool.Decides.{nat_tests}
use Rattle.std.proofs.lemmas.List.Concat.{flat_map-cons}
use Rattle.cb_model.specs.declared.GateKind.{GateKind}
use Rattle.cb_flat.specs.Walk.{Numbered, AGate, AModule, Filled, Numbers, placed_net, placed_gate, part_gates, Frame, whole_net, whole_gate, frame_gates, still, behind, entered, WalkKeeps}

module _ (modules : ℕ → Numbers) (gates : ℕ → List Numbered) (inputs : ℕ) where
  still-last : (ts : List Frame) (t : Frame) → still modules gates inputs (ts ++ t ∷ []) ≡ frame_gates modules gates inputs t ++ still modules gates inputs ts
  still-last [] t = sym (append-nil (frame_gates modules gates inputs t))
  still-last (u ∷ ts) t = ap (λ l. l ++ frame_gates modules gates inputs u) (still-last ts t) ∙ append_assoc (frame_gates modules gates inputs t) (still modules gates inputs ts) (frame_gates modules gates inputs u)

  -- the gates of a frame's next instance and the others
  frame-next : (t : Frame) (f : Filled) (fs : List Filled) → t.left ≡ f ∷ fs → frame_gates modules gates inputs t
      ≡ map (whole_gate modules inputs t) (part_gates gates (λ q. (modules q).inputs) (modules t.module').inputs f) ++ frame_gates modules gates inputs (behind t fs)
  frame-next t f fs e =
      ap (λ l. map (whole_gate modules inputs t) (flat_map (part_gates gates (λ q. (modules q).inputs) (modules t.module').inputs) l)) e
      ∙ ap (map (whole_gate modules inputs t)) (flat_map-cons (part_gates gates (λ q. (modules q).inputs) (modules t.module').inputs) f fs)
      ∙ map-over (whole_gate modules inputs t) (part_gates gates (λ q. (modules q).inputs) (modules t.module').inputs f) (flat_map (part_gates gates (λ q. (modules q).inputs) (modules t.module').inputs) fs)
    where
      map-over : {X Y : Type 0} (h : X → Y) (xs ys : List X) → map h (xs ++ ys) ≡ map h xs ++ map h ys
      map-over h [] ys = refl
      map-over h (x ∷ xs) ys = ap (λ l. h x ∷ l) (map-over h xs ys)

  -- a net of an instance in the whole, by the instance's own frame
  net-entered : (t : Frame) (f : Filled) (q : ℕ) → length f.ins ≡ (modules q).inputs → (n : ℕ) → whole_net modules inputs t (placed_net (modules q).inputs (modules t.module').inputs f.first f.ins n) ≡ whole_net modules inputs (entered modules inputs t f q) n
  net-entered t f q long n = elim (cases_lt n (modules q).inputs) [
    | inl lt ↦
        let b : nat_lt n (modules q).inputs ≡ true = tests-lt n (modules q).inputs lt in
        rw (b, get_or-map (whole_net modules inputs t) f.ins n 0 0 (omega (arith, lt, long))) refl
    | inr ge ↦
        let b : nat_lt n (modules q).inputs ≡ false = tests-ge n (modules q).inputs ge in
        let c : nat_lt ((modules t.module').inputs + f.first + (n - (modules q).inputs)) (modules t.module').inputs ≡ false = tests-ge ((modules t.module').inputs + f.first + (n - (modules q).inputs)) (modules t.module').inputs (omega arith) in
        rw (b, c) (omega arith)
  ]
    where
      tests-lt : (a b : ℕ) → a < b → nat_lt a b ≡ true
      tests-lt a b l = grind (arith, nat_tests)

      tests-ge : (a b : ℕ) → b ≤ a → nat_lt a b ≡ false
      tests-ge a b l = grind (arith, nat_tests)

  map-cong : {X Y : Type 0} (h k : X → Y) → ((x : X) → h x ≡ k x) → (xs : List X) → map h xs ≡ map k xs
  map-cong h k e [] = refl
  map-cong h k e (x ∷ xs) = λ j. e x j ∷ map-cong h k e xs j

  map-two : {X Y Z : Type 0} (h : Y → Z) (k : X → Y) (xs : List X) → map h (map k xs) ≡ map (λ x. h (k x)) xs
  map-two h k [] = refl
  map-two h k (x ∷ xs) = ap (λ l. h (k x) ∷ l) (map-two h k xs)

  -- the gates of a module that is an instance, by its own frame
  gates-entered : (t : Frame) (f : Filled) (q : ℕ) → length f.ins ≡ (modules q).inputs → (gs : List Numbered)
      → map (whole_gate modules inputs t) (map (placed_gate (modules q).inputs (modules t.module').inputs f.first f.ins) gs) ≡ map (whole_gate modules inputs (entered modules inputs t f q)) gs
  gates-entered t f q long gs =
      map-two (whole_gate modules inputs t) (placed_gate (modules q).inputs (modules t.module').inputs f.first f.ins) gs
      ∙ map-cong (λ g. whole_gate modules inputs t (placed_gate (modules q).inputs (modules t.module').inputs f.first f.ins g)) (whole_gate modules inputs (entered modules inputs t f q))
      (λ g. ap (λ ns. (g.0, ns)) (map-two (whole_net modules inputs t) (placed_net (modules q).inputs (modules t.module').inputs f.first f.ins) g.1
      ∙ map-cong (λ n. whole_net modules inputs t (placed_net (modules q).inputs (modules t.module').inputs f.first f.ins n)) (whole_net modules inputs (entered modules inputs t f q)) (net-entered t f q long) g.1)) gs

-- the gates of a part by its kind
pub of-gate : (gates : ℕ → List Numbered) (inputs : ℕ → ℕ) (from : ℕ) (f : Filled) (kind : GateKind) → f.part ≡ AGate kind → part_gates gates inputs from f ≡ (kind, f.ins) ∷ []
of-gate gates inputs from f kind e = rw e refl

pub of-module : (gates : ℕ → List Numbered) (inputs : ℕ → ℕ) (from : ℕ) (f : Filled) (q : ℕ) → f.part ≡ AModule q → part_gates gates inputs from f ≡ map (placed_gate (inputs q) from f.first f.ins) (gates q)
of-module gates inputs from f q e = rw e refl

pub walk_keeps : WalkKeeps
walk_keeps = record {
  gate = λ modules gates inputs ts t f fs kind e p.
      still-last modules gates inputs ts t
      ∙ ap (λ l. l ++ still modules gates inputs ts) (frame-next modules gates inputs t f fs e ∙ ap (λ l. map (whole_gate modules inputs t) l ++ frame_gates modules gates inputs (behind t fs)) (of-gate gates (λ q. (modules q).inputs) (modules t.module').inputs f kind p))
      ∙ ap (λ l. (kind, map (whole_net modules inputs t) f.ins) ∷ l) (sym (still-last modules gates inputs ts (behind t fs)));
  enter = λ modules gates inputs ts t f fs q e p long are.
      let u = entered modules inputs t f q in
      let mine : map (whole_gate modules inputs t) (part_gates gates (λ q. (modules q).inputs) (modules t.module').inputs f) ≡ frame_gates modules gates inputs u =
      ap (map (whole_gate modules inputs t)) (of-module gates (λ q. (modules q).inputs) (modules t.module').inputs f q p) ∙ gates-entered modules gates inputs t f q long (gates q) ∙ ap (map (whole_gate modules inputs u)) are in
      still-last modules gates inputs ts t
      ∙ ap (λ l. l ++ still modules gates inputs ts) (frame-next modules gates inputs t f fs e ∙ ap (λ l. l ++ frame_gates modules gates inputs (behind t fs)) mine)
      ∙ append_assoc (frame_gates modules gates inputs u) (frame_gates modules gates inputs (behind t fs)) (still modules gates inputs ts)
      ∙ ap (λ l. frame_gates modules gates inputs u ++ l) (sym (still-last modules gates inputs ts (behind t fs)))
      ∙ sym (still-last modules gates inputs (ts ++ behind t fs ∷ []) u);
  drop = λ modules gates inputs ts t e.
      still-last modules gates inputs ts t
      ∙ ap (λ l. map (whole_gate modules inputs t) (flat_map (part_gates gates (λ q. (modules q).inputs) (modules t.module').inputs) l) ++ still modules gates inputs ts) e;
}
