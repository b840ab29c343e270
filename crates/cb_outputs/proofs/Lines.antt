-- A branch whose equations are solvable has a line.
use Rattle.std.proofs.Common.{◌≡◌, inl, inr, ℕ, zero, suc, ◌+◌, ◌≤◌, Bool, true, false, not, List, [], ◌∷◌, ◌++◌, map, length, get_or, refl, sym, ◌∙◌, ap, subst, arith, length-append}
use Rattle.std.proofs.lemmas.List.{length-map}
use Rattle.std.specs.Prelude.{flat_map, codes}
use Rattle.cb_model.specs.declared.Tree.{Tree}
use Rattle.cb_model.specs.Bits.{Bits, numbers, numbers_from}
use Rattle.cb_model.specs.Equations.{Solvable}
use Rattle.cb_model.specs.Answers.{leaves, IsShape, Gives, Gen, Picks}
use Rattle.cb_model.specs.Program.{Program}
use Rattle.cb_model.specs.Derivation.{Branch}
use Rattle.cb_model.specs.Text.{Text}
use Rattle.cb_model.specs.Line.{Names, IsLine, wide, told, is_wide, line_text, parameters, AreGen, printed_terms}
use Rattle.cb_laws.proofs.Search.{Decision}
use Rattle.cb_laws.proofs.Shaped.{shape_decided}
use Rattle.cb_outputs.specs.Exists.{LineExists}
use Rattle.cb_outputs.proofs.Runs.{items_bound}

-- ---- a relation that is decided has its leaf bits for all parameters

module _ (R : List Bool → Type 0) (m : ℕ) (decided : (bits : List Bool) → length bits ≤ m → Decision (R bits)) where
  pick : (prefix : List Bool) (y : Bool) → Decision (R (prefix ++ y ∷ [])) → (z : Bool) × Picks R prefix y z
  pick prefix y (inl r) = (y, inl (r, refl))
  pick prefix y (inr n) = (not y, inr (n, refl))

  gen_from : (prefix ys : List Bool) → length prefix + length ys ≤ m → (zs : List Bool) × (length zs ≡ length ys) × Gen R prefix ys zs
  gen_from prefix [] l = ([], refl, tt)
  gen_from prefix (y ∷ ys) l =
      let e : length (prefix ++ y ∷ []) ≡ length prefix + length (y ∷ []) = length-append prefix (y ∷ []) in
      let z = pick prefix y (decided (prefix ++ y ∷ []) (omega (arith, l, e))) in
      let e' : length (prefix ++ z.0 ∷ []) ≡ length prefix + length (z.0 ∷ []) = length-append prefix (z.0 ∷ []) in
      let rest = gen_from (prefix ++ z.0 ∷ []) ys (omega (arith, l, e')) in
      (z.0 ∷ rest.0, ap suc rest.1, (z.1, rest.2))

-- ---- functions of the assignment

-- the functions that read the bits of lists of m bits
abbrev columns_from : (Bits → List Bool) → ℕ → ℕ → List (Bits → Bool)
columns_from f at n = map (λ j a. get_or (f a) j false) (numbers_from at n)

numbers_count : (at n : ℕ) → length (numbers_from at n) ≡ n
numbers_count at zero = refl
numbers_count at (suc n) = ap suc (numbers_count (suc at) n)

columns_count : (f : Bits → List Bool) (at n : ℕ) → length (columns_from f at n) ≡ n
columns_count f at n = length-map (numbers_from at n) _ ∙ numbers_count at n

columns_at : (f : Bits → List Bool) (a : Bits) (at n : ℕ) (zs : List Bool) → length zs ≡ n → ((i : ℕ) → get_or (f a) (at + i) false ≡ get_or zs i false) → map (λ g. g a) (columns_from f at n) ≡ zs
columns_at f a at zero [] l h = refl
columns_at f a at zero (z ∷ zs) l h = absurd (omega (arith, l))
columns_at f a at (suc n) [] l h = absurd (omega (arith, l))
columns_at f a at (suc n) (z ∷ zs) l h =
    let here : get_or (f a) at false ≡ z = ap (λ k. get_or (f a) k false) (omega arith) ∙ h 0 in
    ap (λ y. y ∷ map (λ g. g a) (columns_from f (suc at) n)) here
    ∙ ap (λ ys. z ∷ ys) (columns_at f a (suc at) n zs (omega (arith, l)) (λ i. ap (λ k. get_or (f a) k false) (omega arith) ∙ h (suc i)))

-- ---- the line

line : (p : Program) (names : Names) (b : Branch) → Solvable p.world b.items → (x : Text) × IsLine p names b x
line p names b solvable = at (is_wide shape.0) refl
  where
    terms : List Tree
    terms = printed_terms names b

    shape : (shape : List Tree) × IsShape p.world b.items (printed_terms names b) shape ×
        ((a : Bits) (bits : List Bool) → length bits ≤ length (flat_map leaves shape) → Decision (Gives p.world b.items (printed_terms names b) shape a bits))
    shape = let s = items_bound b.items in shape_decided p.world s.0 s.0 b.items (printed_terms names b) s.1 solvable

    count : ℕ
    count = length (flat_map leaves shape.0)

    given : (a : Bits) → (zs : List Bool) × (length zs ≡ length (parameters p.constants count a)) × Gen (Gives p.world b.items (printed_terms names b) shape.0 a) [] (parameters p.constants count a) zs
    given a = gen_from (Gives p.world b.items (printed_terms names b) shape.0 a) count (shape.2 a) [] (parameters p.constants count a)
        (let e : length (parameters p.constants count a) ≡ count = length-map (numbers count) _ ∙ numbers_count 0 count in omega (arith, e))

    gens : List (Bits → Bool)
    gens = columns_from (λ a. (given a).0) 0 count

    are_gen : AreGen p b (printed_terms names b) shape.0 gens
    are_gen a =
        let n : length gens ≡ count = columns_count (λ a. (given a).0) 0 count in
        let e : length (parameters p.constants count a) ≡ count = length-map (numbers count) _ ∙ numbers_count 0 count in
        let zs : map (λ g. g a) gens ≡ (given a).0 = columns_at (λ a. (given a).0) a 0 count (given a).0 ((given a).1 ∙ e) (λ i. ap (λ k. get_or (given a).0 k false) (omega arith)) in
        subst (λ k. Gen (Gives p.world b.items (printed_terms names b) shape.0 a) [] (parameters p.constants k a) (map (λ g. g a) gens)) (sym n)
        (subst (Gen (Gives p.world b.items (printed_terms names b) shape.0 a) [] (parameters p.constants count a)) (sym zs) (given a).2)

    at : (x : Bool) → is_wide shape.0 ≡ x → (x : Text) × IsLine p names b x
    at true e = (codes "(wide)", wide shape.0 shape.1 e refl)
    at false e = (line_text p.constants names shape.0 gens, told shape.0 gens shape.1 e are_gen (columns_count (λ a. (given a).0) 0 count) refl)

pub line_exists : LineExists
line_exists = line
