-- What contracts see of the fields.
use Rattle.cb_elim.specs.declared.Store.TheInside.{Inside}
use Rattle.cb_elim.specs.Store.{Seen}

abbrev pub seen : Inside → Seen
seen s = record { constants = s.constants; drawn = s.drawn; free = s.free.items; slots = s.slots.items; trail = s.trail; nodes = s.ops }
