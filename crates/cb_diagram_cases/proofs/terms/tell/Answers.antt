use Rattle.cb_diagram_cases.proofs.Sound.{none-sound}
use Rattle.cb_diagram_cases.proofs.terms.tell.Goals as goal

pub work-told-requires : goal.work-told-requires
work-told-requires c = record { sound = none-sound c.new-heap.result c.new-heap.ensures.new c.new-heap.ensures.heap }
