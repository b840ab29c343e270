-- The values of the nodes of a diagram, built up from their children.
use Rattle.std.proofs.Common.{◌≡◌, ℕ, zero, suc, ◌+◌, ◌<◌, List, [], ◌∷◌, length, get_or, slice_get, Some, refl, sym, ap, subst, ◌∙◌, arith, length-append}
use Rattle.std.proofs.lemmas.List.{get_or_append_left}
use Rattle.std.proofs.Math.Seq.{get_or-append_seam}
use Rattle.std.proofs.lemmas.Option.{same_Some}
use Rattle.std.specs.List.{fold}
use Rattle.cb_dd.specs.declared.Triple.{Triple}
use Rattle.cb_dd.specs.declared.Node.{Node}
use Rattle.cb_dd.specs.Diagram.{IsNode, IsDiagram, parts_of, triple}
use Rattle.cb_dd.proofs.Parts.{parts-some}
use Rattle.cb_paths.specs.Products.{with_built, built}

module _ {A : Type 0} (bottom : A) (join : ℕ → A → A → A) where
  -- the values of the triples after those whose values are vs
  abbrev from : List A → List Triple → List A
  from vs ts = fold (with_built bottom join) vs ts

  from-keeps : (vs : List A) (ts : List Triple) (n : ℕ) → n < length vs → get_or (from vs ts) n bottom ≡ get_or vs n bottom
  from-keeps vs [] n h = refl
  from-keeps vs (t ∷ ts) n h =
      let h2 : n < length (with_built bottom join vs t) = omega (arith, length-append {A = A}) in
      from-keeps (with_built bottom join vs t) ts n h2 ∙ get_or_append_left vs _ bottom n h

  joined : (level : ℕ) (x y z w : A) → x ≡ z → y ≡ w → join level x y ≡ join level z w
  joined level x y z w p q = λ j. join level (p j) (q j)

  from-first : (vs : List A) (ts : List Triple) (t : Triple) → t.lo < length vs → t.hi < length vs
      → get_or (from (with_built bottom join vs t) ts) (length vs) bottom ≡ join t.level (get_or (from (with_built bottom join vs t) ts) t.lo bottom) (get_or (from (with_built bottom join vs t) ts) t.hi bottom)
  from-first vs ts t lo hi =
      let here : length vs < length (with_built bottom join vs t) = omega (arith, length-append {A = A}) in
      let lo2 : t.lo < length (with_built bottom join vs t) = omega (arith, length-append {A = A}) in
      let hi2 : t.hi < length (with_built bottom join vs t) = omega (arith, length-append {A = A}) in
      from-keeps (with_built bottom join vs t) ts (length vs) here
      ∙ get_or-append_seam vs _ [] bottom
      ∙ joined t.level _ _ _ _
      (sym (from-keeps (with_built bottom join vs t) ts t.lo lo2 ∙ get_or_append_left vs _ bottom t.lo lo))
      (sym (from-keeps (with_built bottom join vs t) ts t.hi hi2 ∙ get_or_append_left vs _ bottom t.hi hi))

  -- the value of the k-th triple
  from-at : (vs : List A) (ts : List Triple) (k : ℕ) (t : Triple) → slice_get ts k ≡ Some t → t.lo < length vs + k → t.hi < length vs + k
      → get_or (from vs ts) (length vs + k) bottom ≡ join t.level (get_or (from vs ts) t.lo bottom) (get_or (from vs ts) t.hi bottom)
  from-at vs [] k t at lo hi = absurd (cc)
  from-at vs (u ∷ us) zero t at lo hi =
      let e : length vs + 0 ≡ length vs = omega arith in
      let same : u ≡ t = same_Some u t at in
      let lo2 : t.lo < length vs = omega arith in
      let hi2 : t.hi < length vs = omega arith in
      let P : Triple → Type 0 = λ w. get_or (from (with_built bottom join vs w) us) (length vs) bottom ≡ join t.level (get_or (from (with_built bottom join vs w) us) t.lo bottom) (get_or (from (with_built bottom join vs w) us) t.hi bottom) in
      ap (λ n. get_or (from (with_built bottom join vs u) us) n bottom) e ∙ subst P (sym same) (from-first vs us t lo2 hi2)
  from-at vs (u ∷ us) (suc k) t at lo hi =
      let e : length vs + suc k ≡ length (with_built bottom join vs u) + k = omega (arith, length-append {A = A}) in
      let lo2 : t.lo < length (with_built bottom join vs u) + k = omega (arith, length-append {A = A}) in
      let hi2 : t.hi < length (with_built bottom join vs u) + k = omega (arith, length-append {A = A}) in
      ap (λ n. get_or (from (with_built bottom join vs u) us) n bottom) e ∙ from-at (with_built bottom join vs u) us k t at lo2 hi2

  module _ (top : A) (ts : List Triple) where
    pub built-zero : built bottom top join ts 0 ≡ bottom
    unfolding built
    built-zero = from-keeps (bottom ∷ top ∷ []) ts 0 (omega arith)

    pub built-one : built bottom top join ts 1 ≡ top
    unfolding built
    built-one = from-keeps (bottom ∷ top ∷ []) ts 1 (omega arith)

    pub built-triple : IsDiagram ts → (k : ℕ) (t : Triple) → slice_get ts k ≡ Some t → built bottom top join ts (k + 2) ≡ join t.level (built bottom top join ts t.lo) (built bottom top join ts t.hi)
    unfolding built
    built-triple is k t at =
        let o = is.ordered k t at in
        let e : k + 2 ≡ 2 + k = omega arith in
        let lo : t.lo < 2 + k = omega (arith, o.lo) in
        let hi : t.hi < 2 + k = omega (arith, o.hi) in
        ap (λ n. get_or (from (bottom ∷ top ∷ []) ts) n bottom) e ∙ from-at (bottom ∷ top ∷ []) ts k t at lo hi

    -- a node has what its parts give
    pub built-parts : IsDiagram ts → (n level : ℕ) (lo hi : Node) → IsNode ts n → parts_of ts n ≡ Some (level, lo, hi) → built bottom top join ts n ≡ join level (built bottom top join ts lo.0) (built bottom top join ts hi.0)
    built-parts is n level lo hi w e =
        let p = parts-some ts n level lo hi w e in
        ap (built bottom top join ts) p.1 ∙ built-triple is p.0 (triple level lo.0 hi.0) p.2
