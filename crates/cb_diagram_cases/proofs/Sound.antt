-- A heap without cells.
use Rattle.std.proofs.Common.{◌≡◌, refl, subst, sym}
use Rattle.cb_heap.specs.Finite.{AllFinite, ends}
use Rattle.cb_heap.specs.Heap.{Terms, IsHeap, no_terms}
use Rattle.cb_heap.proofs.Steps.{no_some}
use Rattle.cb_diagram_cases.specs.Sound.{IsSound}

none-finite : AllFinite no_terms.cells
none-finite r = ends (λ j child. absurd (no_some _ child.0 refl child.1))

pub none-sound : (h : Terms) → h ≡ no_terms → IsHeap h → IsSound h
none-sound h e is = record { heap = is; finite = subst (λ (t : Terms). AllFinite t.cells) (sym e) none-finite }
