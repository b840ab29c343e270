-- What contracts see of the fields.
use Rattle.cb_unify.specs.declared.State.TheInside.{Inside}
use Rattle.cb_unify.specs.State.{Seen}

abbrev pub seen : Inside → Seen
seen s = record { heap = s.heap; store = s.store; made = s.made.items }
