-- The terms of cells: their leaves' slots are there.
use Rattle.std.proofs.Common.{ℕ, suc, ◌<◌, List, [], ◌∷◌, ◌++◌, Option}
use Rattle.cb_model.specs.Bits.{Each}
use Rattle.cb_laws.proofs.OpenTrees.{Plain, Plains, ALeaf, ABus, AVar, AnInt, ANode, Nil, Cons, plain_leaves, all_leaves}
use Rattle.cb_heap.specs.declared.Ref.{Ref}
use Rattle.cb_heap.specs.declared.Stored.{Stored}
use Rattle.cb_join.specs.Joins.{Rising}
use Rattle.cb_unify.proofs.Cells.{rise-below}
use Rattle.cb_shape.specs.declared.Root.{Root}
use Rattle.cb_shape.specs.declared.Root.TheVariants as root
use Rattle.cb_shape.specs.Terms.{IsLeaf, IsBus, IsTerm, AreCells, AreTerms, IsRoot, AreRoots}
use Rattle.cb_answer.specs.Writing.{slots_of}

each-append : (P : ℕ → Type 0) (xs ys : List ℕ) → Each P xs → Each P ys → Each P (xs ++ ys)
each-append P [] ys a b = b
each-append P (x ∷ xs) ys a b = (a.0, each-append P xs ys a.1 b)

module _ (cs : List Stored) (n : ℕ) (rise : Rising n 0 cs) where
  leaf-below : (r x : ℕ) → IsLeaf cs r x → x < n
  leaf-below r x l = rise-below n 0 cs rise l.0 x l.1.there

  bus-below : (r : ℕ) (ss : List ℕ) (t : Option ℕ) → IsBus cs r ss t → Each (λ x. x < n) ss
  bus-below r [] t b = tt
  bus-below r (s ∷ ss) t b = (leaf-below b.1.0 s b.4, bus-below b.2.0 ss t b.5)

  mutual
    term-below : (r : ℕ) (p : Plain) → IsTerm cs r p → Each (λ x. x < n) (plain_leaves p)
    term-below r (ALeaf s) h = (leaf-below r s h, tt)
    term-below r (ABus ss t) h = bus-below r ss t h
    term-below r (AVar c) h = tt
    term-below r (AnInt z) h = tt
    term-below r (ANode m ps) h = terms-below (suc h.0) ps h.2

    terms-below : (r : ℕ) (ps : Plains) → AreTerms cs r ps → Each (λ x. x < n) (all_leaves ps)
    terms-below r Nil h = tt
    terms-below r (Cons p ps) h = each-append (λ x. x < n) (plain_leaves p) (all_leaves ps) (term-below r p h.0) (terms-below (suc r) ps h.1)

  cells-below : (rs : List Ref) (ps : Plains) → AreCells cs rs ps → Each (λ x. x < n) (all_leaves ps)
  cells-below [] Nil h = tt
  cells-below (r ∷ rs) (Cons p ps) h = each-append (λ x. x < n) (plain_leaves p) (all_leaves ps) (term-below r.0 p h.0) (cells-below rs ps h.1)
  cells-below [] (Cons p ps) h = absurd h
  cells-below (r ∷ rs) Nil h = absurd h

  root-below : (r : Root) (p : Plain) → IsRoot cs r p → Each (λ x. x < n) (plain_leaves p)
  root-below (root.Term r) p h = term-below r.0 p h
  root-below (root.Goal args) (ANode m ps) h = cells-below args.now ps h
  root-below (root.Goal args) p h = absurd h

  -- the slots of the leaves are there
  pub roots-below : (roots : List Root) (ps : Plains) → AreRoots cs roots ps → Each (λ x. x < n) (all_leaves ps)
  roots-below [] Nil h = tt
  roots-below (r ∷ roots) (Cons p ps) h = each-append (λ x. x < n) (plain_leaves p) (all_leaves ps) (root-below r p h.0) (roots-below roots ps h.1)
  roots-below [] (Cons p ps) h = absurd h
  roots-below (r ∷ roots) Nil h = absurd h

-- slots by their numbers
pub slots-below : (n : ℕ) (xs : List ℕ) → Each (λ x. x < n) xs → Each (λ l. l.0 < n) (slots_of xs)
slots-below n [] h = tt
slots-below n (x ∷ xs) h = (h.0, slots-below n xs h.1)
