-- The terms of an answer's items, with the goals under the numbers of their predicates.
use Rattle.std.proofs.Common.{◌≡◌, ℕ, List, [], ◌∷◌, map, get_or, refl, sym, ap, ap₂, subst, ◌∙◌}
use Rattle.cb_model.specs.Text.{Text}
use Rattle.cb_laws.proofs.OpenTrees.{Plains, ANode, Nil, Cons}
use Rattle.cb_heap.specs.declared.Ref.{Ref}
use Rattle.cb_heap.specs.declared.Stored.{Stored}
use Rattle.cb_shape.specs.Terms.{AreCells, AreRoots, IsTerm}
use Rattle.cb_shape.specs.Text.{AreOfLine}
use Rattle.cb_answer.specs.declared.Item.{Item}
use Rattle.cb_answer.specs.declared.Item.TheVariants as item
use Rattle.cb_answer.specs.Items.{AreItems, printed_of, roots_of, waiting_of}

-- the terms of the variables' cells, and the compounds of these calls
abbrev pub AreTermsOf : List Stored → List (ℕ × List Ref) → List Item → Plains → Type 0
AreTermsOf cells cs (item.Var name cell ∷ xs) (Cons p ps) = IsTerm cells cell.0 p × AreTermsOf cells cs xs ps
AreTermsOf cells (c ∷ cs) (item.Waiting name args ∷ xs) (Cons (ANode n qs) ps) = (n ≡ c.0) × AreCells cells args.now qs × AreTermsOf cells cs xs ps
AreTermsOf cells [] [] Nil = Unit {0}
AreTermsOf cells _ _ _ = ⊥

module _ (made : List ℕ) (ns : List Text) where
  -- the terms with these names
  pub termed : (cells : List Stored) (vs : List (ℕ × Text)) (cs : List (ℕ × List Ref)) (xs : List Item) (qs : Plains) → AreItems made ns vs cs xs → AreRoots cells (roots_of xs) qs →
      (ps : Plains) × AreTermsOf cells cs xs ps
  termed cells [] [] [] Nil a h = (Nil, tt)
  termed cells (v ∷ vs) cs (item.Var name cell ∷ xs) (Cons q qs) a h = let r = termed cells vs cs xs qs a.2 h.1 in (Cons q r.0, (h.0, r.1))
  termed cells [] (c ∷ cs) (item.Waiting name args ∷ xs) (Cons (ANode n us) qs) a h =
      let r = termed cells [] cs xs qs a.2 h.1 in (Cons (ANode c.0 us) r.0, (refl, h.0, r.1))
  termed cells vs cs [] (Cons q qs) a h = absurd h
  termed cells vs cs (x ∷ xs) Nil a h = absurd h
  termed cells [] (c ∷ cs) (item.Waiting name args ∷ xs) (Cons q qs) a h = absurd h.0
  termed cells vs cs xs qs a h = absurd a

  -- ---- goals alone

  none-printed : (cs : List (ℕ × List Ref)) (xs : List Item) → AreItems made ns [] cs xs → printed_of xs ≡ []
  none-printed [] [] a = refl
  none-printed (c ∷ cs) (item.Waiting name args ∷ xs) a = none-printed cs xs a.2
  none-printed cs xs a = absurd a

  goals-line : (cells : List Stored) (cs : List (ℕ × List Ref)) (xs : List Item) (ps : Plains) → AreItems made ns [] cs xs → AreTermsOf cells cs xs ps →
      AreOfLine ns [] (waiting_of xs) (roots_of xs) ps
  goals-line cells [] [] Nil a h = tt
  goals-line cells (c ∷ cs) (item.Waiting name args ∷ xs) (Cons (ANode n qs) ps) a h = (ap (λ m. get_or ns m []) h.0 ∙ sym a.0, goals-line cells cs xs ps a.2 h.2)
  goals-line cells cs [] (Cons p ps) a h = absurd h
  goals-line cells (c ∷ cs) (item.Waiting name args ∷ xs) Nil a h = absurd h
  goals-line cells (c ∷ cs) (item.Waiting name args ∷ xs) (Cons p ps) a h = absurd h
  goals-line cells cs xs ps a h = absurd a

  -- ---- the items of a line

  -- their terms are those of a line
  pub of-line : (cells : List Stored) (vs : List (ℕ × Text)) (cs : List (ℕ × List Ref)) (xs : List Item) (ps : Plains) → AreItems made ns vs cs xs → AreTermsOf cells cs xs ps →
      AreOfLine ns (printed_of xs) (waiting_of xs) (roots_of xs) ps
  of-line cells [] cs xs ps a h = subst (λ us. AreOfLine ns us (waiting_of xs) (roots_of xs) ps) (sym (none-printed cs xs a)) (goals-line cells cs xs ps a h)
  of-line cells (v ∷ vs) cs (item.Var name cell ∷ xs) (Cons p ps) a h = of-line cells vs cs xs ps a.2 h.1
  of-line cells (v ∷ vs) cs (item.Var name cell ∷ xs) Nil a h = absurd h
  of-line cells (v ∷ vs) cs xs ps a h = absurd a

  -- the names of the printed variables
  pub printed-named : (vs : List (ℕ × Text)) (cs : List (ℕ × List Ref)) (xs : List Item) → AreItems made ns vs cs xs → map (λ v. v.1) (printed_of xs) ≡ map (λ v. v.1) vs
  printed-named [] cs xs a = ap (λ (us : List (ℕ × Text)). map (λ v. v.1) us) (none-printed cs xs a)
  printed-named (v ∷ vs) cs (item.Var name cell ∷ xs) a = ap₂ (λ (n : Text) (us : List Text). n ∷ us) a.0 (printed-named vs cs xs a.2)
  printed-named (v ∷ vs) cs xs a = absurd a

-- the terms are the roots'
pub terms-roots : (cells : List Stored) (cs : List (ℕ × List Ref)) (xs : List Item) (ps : Plains) → AreTermsOf cells cs xs ps → AreRoots cells (roots_of xs) ps
terms-roots cells cs (item.Var name cell ∷ xs) (Cons p ps) h = (h.0, terms-roots cells cs xs ps h.1)
terms-roots cells (c ∷ cs) (item.Waiting name args ∷ xs) (Cons (ANode n qs) ps) h = (h.1, terms-roots cells cs xs ps h.2)
terms-roots cells [] [] Nil h = tt
terms-roots cells cs xs ps h = absurd h
