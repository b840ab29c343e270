use Rattle.cb_solution.proofs.Places.{none-map, place-is, place-none, some-map}
use Rattle.cb_solution.proofs.parts.place.Goals as goal

pub returns-clause-found : goal.returns-clause-found
returns-clause-found c = some-map c.last_of.result _ _ (rw c.as_slice.ensures at c.last_of.ensures.last) (λ at last.
    place-is c.args.ops.now.triples c.args.f.0 c.in_ok-support.support.items c.args.levels.now.keys c.in_ok-support.ensures.enough c.in_ok-support.ensures.rise c.in_ok-support.ensures.needed c.requires.fall at last)

pub returns-clause-none : goal.returns-clause-none
returns-clause-none c = none-map c.last_of.result _ _ (rw c.as_slice.ensures at c.last_of.ensures.none) (λ absent.
    place-none c.args.ops.now.triples c.args.f.0 c.in_ok-support.support.items c.args.levels.now.keys c.in_ok-support.ensures.enough absent)
