-- What stands in cells as terms. A cell's term is told by the end of its chain of links: leaves by their slots, and open
-- places by their cells.
use Rattle.std.specs.Prelude.{◌≡◌, ℕ, suc, ◌<◌, List, [], ◌∷◌, Option, Some, None, slice_get}
use Rattle.cb_model.specs.Bits.{Each}
use Rattle.cb_laws.proofs.OpenTrees.{Plain, Plains, ALeaf, ABus, AVar, AnInt, ANode, Nil, Cons}
use Rattle.cb_heap.specs.declared.Ref.{Ref}
use Rattle.cb_heap.specs.declared.Stored.{Stored}
use Rattle.cb_heap.specs.declared.Stored.TheVariants as cell
use Rattle.cb_heap.specs.Links.{LeadsTo}
use Rattle.cb_shape.specs.declared.Root.{Root}
use Rattle.cb_shape.specs.declared.Root.TheVariants as root

-- the links from cell r lead to cell e, where this stands
pub record EndsAt (cs : List Stored) (r e : ℕ) (c : Stored) : Type 0 where
  pub leads : LeadsTo cs r e
  pub there : slice_get cs e ≡ Some c

-- cell r is the leaf of this slot
abbrev pub IsLeaf : List Stored → ℕ → ℕ → Type 0
IsLeaf cs r s = (e : ℕ) × EndsAt cs r e (cell.Leaf s)

-- cell r is a bus with leaves of these slots, and an open tail or none
abbrev pub IsBus : List Stored → ℕ → List ℕ → Option ℕ → Type 0
IsBus cs r [] None = (e : ℕ) × EndsAt cs r e cell.BusNil
IsBus cs r [] (Some c) = EndsAt cs r c cell.BusVar
IsBus cs r (s ∷ ss) t = (e : ℕ) × (h : Ref) × (l : Ref) × EndsAt cs r e (cell.BusCons h l) × IsLeaf cs h.0 s × IsBus cs l.0 ss t

-- how many terms
abbrev pub how_many : Plains → ℕ
how_many Nil = 0
how_many (Cons p ps) = suc (how_many ps)

abbrev mutual
  -- cell r is this term
  pub IsTerm : List Stored → ℕ → Plain → Type 0
  IsTerm cs r (ALeaf s) = IsLeaf cs r s
  IsTerm cs r (ABus ss t) = IsBus cs r ss t
  IsTerm cs r (AVar c) = EndsAt cs r c cell.TermVar
  IsTerm cs r (AnInt z) = (e : ℕ) × EndsAt cs r e (cell.Int z)
  IsTerm cs r (ANode n ps) = (e : ℕ) × EndsAt cs r e (cell.Node n (how_many ps)) × AreTerms cs (suc e) ps

  -- the cells from r on are these terms
  pub AreTerms : List Stored → ℕ → Plains → Type 0
  AreTerms cs r Nil = Unit {0}
  AreTerms cs r (Cons p ps) = IsTerm cs r p × AreTerms cs (suc r) ps

-- these cells are these terms
abbrev pub AreCells : List Stored → List Ref → Plains → Type 0
AreCells cs [] Nil = Unit {0}
AreCells cs (r ∷ rs) (Cons p ps) = IsTerm cs r.0 p × AreCells cs rs ps
AreCells cs _ _ = ⊥

-- the root is this term: a goal is the compound of its arguments under a name, whichever
abbrev pub IsRoot : List Stored → Root → Plain → Type 0
IsRoot cs (root.Term r) p = IsTerm cs r.0 p
IsRoot cs (root.Goal args) (ANode n ps) = AreCells cs args.now ps
IsRoot cs (root.Goal args) p = ⊥

-- these roots are these terms
abbrev pub AreRoots : List Stored → List Root → Plains → Type 0
AreRoots cs [] Nil = Unit {0}
AreRoots cs (r ∷ rs) (Cons p ps) = IsRoot cs r p × AreRoots cs rs ps
AreRoots cs _ _ = ⊥

-- the root's cells are there
abbrev pub IsRootThere : ℕ → Root → Type 0
IsRootThere n (root.Term r) = r.0 < n
IsRootThere n (root.Goal args) = Each (λ r. r.0 < n) args.now
