use Rattle.std.proofs.Common.{refl, ap, subst}
use Rattle.cb_ops.specs.Walk.{IsMadeSide, side_of, sides_of}
use Rattle.cb_ops.proofs.Walks.{rest-low, all-grown, made-more}
use Rattle.cb_ops.proofs.Ite.{Grows-same}
use Rattle.cb_ops.proofs.Joins.{side-child, sides-step, sides-stay}
use Rattle.cb_ops.proofs.Ops.leave.Goals as goal

pub node-requires-clause-lo_child : goal.node-requires-clause-lo_child
node-requires-clause-lo_child c =
    let low = rest-low (sides_of c.args.level c.args.sides) c.args.self.now.triples c.args.top.node.0 c.args.top.level c.in-Low.low c.args.top.rest c.in-Low.is c.requires.visit.rest in
    side-child c.args.level c.args.sides c.args.self.now.triples c.count-count.ensures.diagram c.args.top c.requires.visit _ c.in-Low.low.0 low

pub node-requires-clause-hi_child : goal.node-requires-clause-hi_child
node-requires-clause-hi_child c = side-child c.args.level c.args.sides c.args.self.now.triples c.count-count.ensures.diagram c.args.top c.requires.visit (side_of c.args.top.rest) c.args.r.0 c.requires.side

made : goal.returns-in_ok-n-in-Low-clause-up
made c =
    let low = rest-low (sides_of c.args.level c.args.sides) c.args.self.now.triples c.args.top.node.0 c.args.top.level c.in-Low.low c.args.top.rest c.in-Low.is c.requires.visit.rest in
    let high = subst (λ b. IsMadeSide (sides_of c.args.level c.args.sides) c.args.self.now.triples c.args.top.node.0 c.args.top.level b c.args.r.0) (ap side_of c.in-Low.is) c.requires.side in (
      refl,
      ap side_of c.in-Low.is,
      sides-step c.args.level c.args.sides c.args.self.now c.node.new.self c.node.ensures.grows c.count-count.ensures.diagram c.args.top c.requires.visit c.in-Low.low.0 c.args.r.0 c.in_ok-n-in-Low.n.0 low high c.in_ok-n-in-Low.ensures.is_node c.in_ok-n-in-Low.ensures.function,
    )

pub returns-in_ok-n-in-Low-clause-up : goal.returns-in_ok-n-in-Low-clause-up
returns-in_ok-n-in-Low-clause-up c = made c

pub returns-in_ok-n-in-Low-clause-done : goal.returns-in_ok-n-in-Low-clause-done
returns-in_ok-n-in-Low-clause-done c =
    made-more (sides_of c.args.level c.args.sides) c.args.level c.node.new.self.triples c.args.done.now c.remember.new.done c.args.top.node c.in_ok-n-in-Low.n
    (all-grown (sides_of c.args.level c.args.sides) c.args.level c.args.self.now (sides-stay c.args.level c.args.sides c.args.self.now) c.args.self.now c.node.new.self (Grows-same c.args.self.now) c.node.ensures.grows c.args.done.now c.requires.done)
    (made c).2
    c.remember.ensures
