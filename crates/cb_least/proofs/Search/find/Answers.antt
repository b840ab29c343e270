use Rattle.std.proofs.Common.{◌≡◌, length, subst, arith}
use Rattle.cb_least.specs.Beginning.{CanBegin}
use Rattle.cb_least.proofs.Rows.{has-next, all-least}
use Rattle.cb_least.proofs.Search.find.Goals as goal

pub ones_from-next-requires-clause-found : goal.ones_from-next-requires-clause-found
ones_from-next-requires-clause-found c =
    let s = c.args.self.now in
    let ts = s.ops.now.triples in
    let order = s.order.now in
    let i = c.loop-next.invariant in
    let n = has-next ts order c.requires.search.inverse.0 c.requires.search.inverse.1 s.root.0 c.loop-next.bits c.loop-next.next c.reach_of_root-reach.result i.bits_so_far i.some i.least c.reach_of_root-reach.ensures c.if-reach-self.false in
    record { bits_so_far = n.found; some = n.some; least = n.least }

pub loop-next-smaller : goal.loop-next-smaller
loop-next-smaller c =
    let s = c.args.self.now in
    let ts = s.ops.now.triples in
    let order = s.order.now in
    let i = c.loop-next.invariant in
    let n = has-next ts order c.requires.search.inverse.0 c.requires.search.inverse.1 s.root.0 c.loop-next.bits c.loop-next.next c.reach_of_root-reach.result i.bits_so_far i.some i.least c.reach_of_root-reach.ensures c.if-reach-self.false in
    omega (arith, n.later, c.loop-next-test.true, c.ones_from-next.ensures.on)

pub returns-then-reach-self : goal.returns-then-reach-self
returns-then-reach-self c levels inverse d =
    let s = c.args.self.now in
    let ts = s.ops.now.triples in
    let order = s.order.now in
    let i = c.loop-next.invariant in
    let w = (c.reach_of_root-reach.ensures.is (length order) i.bits_so_far.within (omega arith)).0 (omega (arith, c.if-reach-self.true)) in
    all-least ts order levels inverse s.root.0 c.loop-next.bits c.loop-next.next i.bits_so_far i.least w d

pub returns : goal.returns
returns c levels inverse d =
    let s = c.args.self.now in
    let ts = s.ops.now.triples in
    let order = s.order.now in
    let i = c.loop-next.invariant in
    let e : c.loop-next.next ≡ length order = omega (arith, c.loop-next-test.false, i.bits_so_far.within) in
    all-least ts order levels inverse s.root.0 c.loop-next.bits c.loop-next.next i.bits_so_far i.least (subst (λ m. CanBegin ts order c.loop-next.bits m s.root.0) e i.some) d
