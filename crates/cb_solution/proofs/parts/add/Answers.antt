use Rattle.std.proofs.Common.{refl}
use Rattle.std.proofs.lemmas.Bool.{eqb-true, eqb-false}
use Rattle.cb_solution.proofs.Places.{ok-is, out-of, placed, zero-placed}
use Rattle.cb_solution.proofs.parts.add.Goals as goal

pub returns-in_default-found-clause-placed : goal.returns-in_default-found-clause-placed
returns-in_default-found-clause-placed c = λ yes. zero-placed c.args.ops.now c.args.levels.now.keys c.args.f.0 c.args.nodes.now c.requires.places (eqb-true c.args.f.0 0 (ok-is _ _ yes))

pub returns-in_default-found-clause-out : goal.returns-in_default-found-clause-out
returns-in_default-found-clause-out c = λ no.
    out-of c.args.ops.now c.count-count.ensures.diagram c.args.levels.now.keys c.args.f.0 c.requires.f (eqb-false c.args.f.0 0 (ok-is _ _ no)) (rw c.in_default-found.is at c.in-Ok.ensures.none)

pub returns-clause-placed : goal.returns-clause-placed
returns-clause-placed c = λ yes.
    placed c.args.ops.now c.or.new.self c.or.ensures.made.grows c.args.levels.now.keys c.args.f.0 c.in-Some.k c.requires.f c.args.nodes.now c.requires.places (rw c.in-Some.is at c.in-Ok.ensures.found)
    (record { 0 = 0 }) c.in_ok-n.n c.in_ok-n.ensures.made.is_node c.in_ok-n.ensures.function _ refl
