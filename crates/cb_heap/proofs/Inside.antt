-- What contracts see of the fields.
use Rattle.cb_heap.specs.declared.Heap.TheInside.{Inside}
use Rattle.cb_heap.specs.Heap.{Terms}

abbrev pub seen : Inside → Terms
seen h = record { cells = h.cells.items; sorts = h.sorts.items; trail = h.trail }
