-- Heaps of which every cell has a finite value.
use Rattle.cb_heap.specs.Finite.{AllFinite}
use Rattle.cb_heap.specs.Heap.{Terms, IsHeap}

pub record IsSound (t : Terms) : Type 0 where
  pub heap : IsHeap t
  pub finite : AllFinite t.cells
