use Rattle.std.proofs.Common.{arith, ◌≡◌, ◌^◌, refl, sym, subst}
use Rattle.cb_dd.specs.Diagram.{HasParts, level_of}
use Rattle.cb_ops.proofs.Joins.{sides-self, sides-meet, meet-room}
use Rattle.cb_ops.proofs.Ops.enter.Goals as goal

pub returns-in_default-clause-down : goal.returns-in_default-clause-down
returns-in_default-clause-down c = (refl, sides-self c.args.level c.args.sides c.args.self.now.triples c.count-count.ensures.diagram c.args.n.0 c.requires.node (let e = c.in_default.ensures.constant in let z : level_of c.args.self.now.triples c.args.n.0 ≡ 2 ^ 32 = e.0 in omega (arith, c.ranges.level.fits)))

pub returns-then-level-at-clause-down : goal.returns-then-level-at-clause-down
returns-then-level-at-clause-down c = (refl, sides-self c.args.level c.args.sides c.args.self.now.triples c.count-count.ensures.diagram c.args.n.0 c.requires.node (omega (arith, c.in-Some.ensures.inner.at, c.if-level-at.true)))

pub returns-in_err-r-clause-room : goal.returns-in_err-r-clause-room
returns-in_err-r-clause-room c = meet-room c.args.self.now c.meet.new.self c.args.n.0 c.in-Some.at c.in-Some.lo.0 c.in-Some.hi.0 c.in-Some.ensures.inner c.meet.ensures.room

pub returns-then-level-at-2-clause-room : goal.returns-then-level-at-2-clause-room
returns-then-level-at-2-clause-room c = meet-room c.args.self.now c.meet.new.self c.args.n.0 c.in-Some.at c.in-Some.lo.0 c.in-Some.hi.0 c.in-Some.ensures.inner c.meet.ensures.room

pub returns-then-level-at-2-clause-down : goal.returns-then-level-at-2-clause-down
returns-then-level-at-2-clause-down c =
    let parts : HasParts c.args.self.now.triples c.args.n.0 c.args.level c.in-Some.lo.0 c.in-Some.hi.0 = subst (λ l. HasParts c.args.self.now.triples c.args.n.0 l c.in-Some.lo.0 c.in-Some.hi.0) (sym c.if-level-at-2.true) c.in-Some.ensures.inner in
    (refl, sides-meet c.args.level c.args.sides c.args.self.now c.meet.new.self c.meet.ensures.grows c.args.n.0 c.in-Some.lo.0 c.in-Some.hi.0 c.in_ok-r.r.0 c.requires.node parts c.in_ok-r.ensures.is_node c.in_ok-r.ensures.function)
