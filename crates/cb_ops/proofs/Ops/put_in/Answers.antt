use Rattle.std.proofs.Common.{refl, ap, subst, ◌^◌}
use Rattle.cb_ops.specs.Walk.{IsMadeSide, side_of, images_of}
use Rattle.cb_ops.proofs.Ite.{Grows-same}
use Rattle.cb_ops.proofs.Walks.{rest-low, all-grown, made-more}
use Rattle.cb_ops.proofs.Replaced.{images-stay, images-step, images-room, images-still}
use Rattle.cb_ops.proofs.Ops.put_in.Goals as goal

pub choose-requires-clause-low : goal.choose-requires-clause-low
choose-requires-clause-low c =
    let low = rest-low (images_of c.args.list.now) c.args.self.now.triples c.args.top.node.0 c.args.top.level c.in-Low.low c.args.top.rest c.in-Low.is c.requires.visit.rest in
    low.1.1.answer

pub choose-requires-clause-high : goal.choose-requires-clause-high
choose-requires-clause-high c = c.requires.side.1.1.answer

pub returns-in-Ok-clause-room : goal.returns-in-Ok-clause-room
returns-in-Ok-clause-room c = images-still c.args.list.now c.args.self.now c.args.top

made : goal.returns-in_ok-n-in-Low-clause-up
made c =
    let low = rest-low (images_of c.args.list.now) c.args.self.now.triples c.args.top.node.0 c.args.top.level c.in-Low.low c.args.top.rest c.in-Low.is c.requires.visit.rest in
    let high = subst (λ b. IsMadeSide (images_of c.args.list.now) c.args.self.now.triples c.args.top.node.0 c.args.top.level b c.args.r.0) (ap side_of c.in-Low.is) c.requires.side in (
      refl,
      ap side_of c.in-Low.is,
      images-step c.args.list.now c.args.self.now c.count-count.ensures.diagram c.requires.nodes c.args.top c.requires.visit c.choose.new.self c.choose.ensures.grows c.in-Low.low.0 c.args.r.0 c.in_ok-n-in-Low.n.0 low high c.in_ok-n-in-Low.ensures.is_node c.in_ok-n-in-Low.ensures.function,
    )

pub returns-in_ok-n-in-Low-clause-up : goal.returns-in_ok-n-in-Low-clause-up
returns-in_ok-n-in-Low-clause-up c = made c

pub returns-in_ok-n-in-Low-clause-done : goal.returns-in_ok-n-in-Low-clause-done
returns-in_ok-n-in-Low-clause-done c =
    made-more (images_of c.args.list.now) (2 ^ 32) c.choose.new.self.triples c.args.done.now c.remember.new.done c.args.top.node c.in_ok-n-in-Low.n
    (all-grown (images_of c.args.list.now) (2 ^ 32) c.args.self.now (images-stay c.args.list.now c.args.self.now c.requires.nodes) c.args.self.now c.choose.new.self (Grows-same c.args.self.now) c.choose.ensures.grows c.args.done.now c.requires.done)
    (made c).2
    c.remember.ensures

pub returns-in_ok-n-in-Low-clause-room : goal.returns-in_ok-n-in-Low-clause-room
returns-in_ok-n-in-Low-clause-room c =
    let low = rest-low (images_of c.args.list.now) c.args.self.now.triples c.args.top.node.0 c.args.top.level c.in-Low.low c.args.top.rest c.in-Low.is c.requires.visit.rest in
    let high = subst (λ b. IsMadeSide (images_of c.args.list.now) c.args.self.now.triples c.args.top.node.0 c.args.top.level b c.args.r.0) (ap side_of c.in-Low.is) c.requires.side in
    images-room c.args.list.now c.args.self.now c.count-count.ensures.diagram c.requires.nodes c.args.top c.requires.visit c.choose.new.self c.in-Low.low.0 c.args.r.0 c.in-Low.is low high c.choose.ensures.room

pub returns-in_err-n-in-Low-clause-room : goal.returns-in_err-n-in-Low-clause-room
returns-in_err-n-in-Low-clause-room c =
    let low = rest-low (images_of c.args.list.now) c.args.self.now.triples c.args.top.node.0 c.args.top.level c.in-Low.low c.args.top.rest c.in-Low.is c.requires.visit.rest in
    let high = subst (λ b. IsMadeSide (images_of c.args.list.now) c.args.self.now.triples c.args.top.node.0 c.args.top.level b c.args.r.0) (ap side_of c.in-Low.is) c.requires.side in
    images-room c.args.list.now c.args.self.now c.count-count.ensures.diagram c.requires.nodes c.args.top c.requires.visit c.choose.new.self c.in-Low.low.0 c.args.r.0 c.in-Low.is low high c.choose.ensures.room

pub returns-in_err-n-in-Low-clause-done : goal.returns-in_err-n-in-Low-clause-done
returns-in_err-n-in-Low-clause-done c = all-grown (images_of c.args.list.now) (2 ^ 32) c.args.self.now (images-stay c.args.list.now c.args.self.now c.requires.nodes) c.args.self.now c.choose.new.self (Grows-same c.args.self.now) c.choose.ensures.grows c.args.done.now c.requires.done
