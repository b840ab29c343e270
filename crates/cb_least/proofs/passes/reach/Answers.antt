use Rattle.std.proofs.Common.{◌≡◌, ◌+◌, ◌<◌, ◌≤◌, min, max, true, false, get_or, length, sym, ap, subst, ◌∙◌, arith, rules}
use Rattle.cb_least.specs.Beginning.{IsReach}
use Rattle.cb_least.proofs.Reaches.{later-step, found-step}
use Rattle.cb_least.proofs.passes.reach.Goals as goal

pub returns-then-input-prefix : goal.returns-then-input-prefix
returns-then-input-prefix c =
    let p = c.args.prefix.now in
    let ts = c.args.ops.now.triples in
    let h = c.in-Some.ensures.inner in
    let children = c.requires.children c.in-Some.level c.in-Some.lo c.in-Some.hi (sym c.in-Some.ensures.parts) in
    let v = get_or c.args.reaches.now c.in-Some.lo.0 0 in
    let w = get_or c.args.reaches.now c.in-Some.hi.0 0 in
    let at = c.input_at-input.ensures.input in
    let later : p.next ≤ get_or p.order.now c.in-Some.level (length p.order.now) = omega (arith, at, c.if-input-prefix.true) in
    let is : c.max.result ≡ max v (min w (get_or p.order.now c.in-Some.level (length p.order.now) + 1)) = c.max.ensures ∙ ap (max v) (c.min.ensures ∙ ap (λ i. min w (i + 1)) at) in
    subst (IsReach ts p.order.now p.bits.now p.next c.args.n.0) (sym is)
    (later-step ts p.order.now p.bits.now p.next c.requires.bits c.args.n.0 c.in-Some.level c.in-Some.lo.0 c.in-Some.hi.0 h v w later children.0 children.1)

pub returns-then-prefix-input : goal.returns-then-prefix-input
returns-then-prefix-input c =
    let p = c.args.prefix.now in
    let ts = c.args.ops.now.triples in
    let h = c.in-Some.ensures.inner in
    let children = c.requires.children c.in-Some.level c.in-Some.lo c.in-Some.hi (sym c.in-Some.ensures.parts) in
    let at = c.input_at-input.ensures.input in
    let found : get_or p.order.now c.in-Some.level (length p.order.now) < p.next = omega (arith, at, c.if-input-prefix.false) in
    let one : get_or p.bits.now c.input_at-input.result false ≡ true = search rules in
    found-step ts p.order.now p.bits.now p.next c.requires.bits c.args.n.0 c.in-Some.level c.in-Some.lo.0 c.in-Some.hi.0 h found true (ap (λ i. get_or p.bits.now i false) (sym at) ∙ one) (get_or c.args.reaches.now c.in-Some.hi.0 0) children.1

pub returns-else-prefix-input : goal.returns-else-prefix-input
returns-else-prefix-input c =
    let p = c.args.prefix.now in
    let ts = c.args.ops.now.triples in
    let h = c.in-Some.ensures.inner in
    let children = c.requires.children c.in-Some.level c.in-Some.lo c.in-Some.hi (sym c.in-Some.ensures.parts) in
    let at = c.input_at-input.ensures.input in
    let found : get_or p.order.now c.in-Some.level (length p.order.now) < p.next = omega (arith, at, c.if-input-prefix.false) in
    let nil : get_or p.bits.now c.input_at-input.result false ≡ false = search rules in
    found-step ts p.order.now p.bits.now p.next c.requires.bits c.args.n.0 c.in-Some.level c.in-Some.lo.0 c.in-Some.hi.0 h found false (ap (λ i. get_or p.bits.now i false) (sym at) ∙ nil) (get_or c.args.reaches.now c.in-Some.lo.0 0) children.0
