use Rattle.std.proofs.Common.{◌≡◌, ◌<◌, true, false, get_or, length, sym, ap, ◌∙◌, arith, rules}
use Rattle.cb_least.proofs.Ones.{ones-in, ones-out, ones-found}
use Rattle.cb_least.proofs.passes.ones.Goals as goal

pub returns-then-prefix-input : goal.returns-then-prefix-input
returns-then-prefix-input c =
    let p = c.args.prefix.now in
    let children = c.requires.children c.in-Some.level c.in-Some.lo c.in-Some.hi (sym c.in-Some.ensures.parts) in
    let at = c.input_at-input.ensures.input in
    let found : get_or p.order.now c.in-Some.level (length p.order.now) < p.next = omega (arith, at, c.if-input-prefix.true) in
    let one : get_or p.bits.now c.input_at-input.result false ≡ true = search rules in
    ones-found c.args.ops.now.triples p.order.now p.bits.now p.next c.args.upto c.requires.bits c.args.n.0 c.in-Some.level c.in-Some.lo.0 c.in-Some.hi.0 c.in-Some.ensures.inner found true (ap (λ i. get_or p.bits.now i false) (sym at) ∙ one) (get_or c.args.counts.now c.in-Some.hi.0 0) children.1

pub returns-else-prefix-input : goal.returns-else-prefix-input
returns-else-prefix-input c =
    let p = c.args.prefix.now in
    let children = c.requires.children c.in-Some.level c.in-Some.lo c.in-Some.hi (sym c.in-Some.ensures.parts) in
    let at = c.input_at-input.ensures.input in
    let found : get_or p.order.now c.in-Some.level (length p.order.now) < p.next = omega (arith, at, c.if-input-prefix.true) in
    let nil : get_or p.bits.now c.input_at-input.result false ≡ false = search rules in
    ones-found c.args.ops.now.triples p.order.now p.bits.now p.next c.args.upto c.requires.bits c.args.n.0 c.in-Some.level c.in-Some.lo.0 c.in-Some.hi.0 c.in-Some.ensures.inner found false (ap (λ i. get_or p.bits.now i false) (sym at) ∙ nil) (get_or c.args.counts.now c.in-Some.lo.0 0) children.0

pub returns-then-input-upto : goal.returns-then-input-upto
returns-then-input-upto c =
    let p = c.args.prefix.now in
    let children = c.requires.children c.in-Some.level c.in-Some.lo c.in-Some.hi (sym c.in-Some.ensures.parts) in
    let at = c.input_at-input.ensures.input in
    let v = get_or c.args.counts.now c.in-Some.lo.0 0 in
    let w = get_or c.args.counts.now c.in-Some.hi.0 0 in
    ones-in c.args.ops.now.triples p.order.now p.bits.now p.next c.args.upto c.requires.bits c.args.n.0 c.in-Some.level c.in-Some.lo.0 c.in-Some.hi.0 c.in-Some.ensures.inner v w c.min.result (omega (arith, at, c.if-input-prefix.false)) (omega (arith, at, c.if-input-upto.true)) c.requires.upto children.0 children.1
    (omega (arith, c.min.ensures)) (omega (arith, c.min.ensures, c.saturating_add.ensures))

pub returns : goal.returns
returns c =
    let p = c.args.prefix.now in
    let children = c.requires.children c.in-Some.level c.in-Some.lo c.in-Some.hi (sym c.in-Some.ensures.parts) in
    let v = get_or c.args.counts.now c.in-Some.lo.0 0 in
    let w = get_or c.args.counts.now c.in-Some.hi.0 0 in
    ones-out c.args.ops.now.triples p.order.now p.bits.now p.next c.args.upto c.requires.bits c.args.n.0 c.in-Some.level c.in-Some.lo.0 c.in-Some.hi.0 c.in-Some.ensures.inner v w c.min-2.result children.0 children.1
    (omega (arith, c.min-2.ensures)) (omega (arith, c.min-2.ensures))
