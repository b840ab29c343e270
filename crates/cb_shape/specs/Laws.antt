-- Laws of terms in cells: each is the contract of a function that does nothing.
use Rattle.std.specs.Prelude.{◌≡◌, ℕ, List, length, map, Some, slice_get}
use Rattle.cb_model.specs.Bits.{Each}
use Rattle.cb_model.specs.Values.{Word, Sorts, Valuation, grounds}
use Rattle.cb_laws.proofs.OpenTrees.{Plains, plain_values}
use Rattle.cb_heap.specs.declared.Ref.{Ref}
use Rattle.cb_heap.specs.declared.Stored.{Stored}
use Rattle.cb_heap.specs.declared.Stored.TheVariants as cell
use Rattle.cb_heap.specs.Reading.{Reading, CellsHold}
use Rattle.cb_heap.specs.Finite.{AllFinite, IsSorted}
use Rattle.cb_heap.specs.Heap.{Terms}
use Rattle.cb_shape.specs.declared.Root.{Root}
use Rattle.cb_shape.specs.Terms.{AreCells, AreRoots, IsRootThere}

-- in a heap without cycles, whose cells fit a table, all roots whose cells are there are terms
abbrev pub CellsAreTerms : Type 0
CellsAreTerms = (t : Sorts) (h : Terms) → AllFinite h.cells → IsSorted t h.sorts h.cells → (roots : List Root) → Each (IsRootThere (length h.cells)) roots →
    (ps : Plains) × AreRoots h.cells roots ps

-- the unbound cells have the values of the valuation
pub record OpensHave (cs : List Stored) (g : Reading) (o : Valuation) : Type 0 where
  pub buses : (c : ℕ) → slice_get cs c ≡ Some cell.BusVar → g c ≡ Word (o.words c)
  pub terms : (c : ℕ) → slice_get cs c ≡ Some cell.TermVar → g c ≡ o.terms c

-- at values of the cells, by bits of the slots and values of the unbound cells, each cell has the value of its term
abbrev pub TermsHaveValues : Type 0
TermsHaveValues = (cs : List Stored) (g : Reading) (o : Valuation) → CellsHold o.bits cs g → OpensHave cs g o → (cells : List Ref) (ps : Plains) → AreCells cs cells ps →
    grounds (map (λ r. g r.0) cells) ≡ plain_values o ps
