use Rattle.std.proofs.Common.{arith, ap, sym, subst, length}
use Rattle.cb_dd.specs.Diagram.{Store}
use Rattle.cb_ops.specs.Ops.{IsXor}
use Rattle.cb_ops.proofs.Pairs.{pair-answer}
use Rattle.cb_ops.proofs.Ops.recall_pair.Goals as goal

pub returns-in-Some-clause-node : goal.returns-in-Some-clause-node
returns-in-Some-clause-node c =
    let w = c.self.invariant.1.right _ _ (sym c.in-Some.ensures.value) in
    omega (arith, w.answer, c.self.invariant.0.within, ap (λ s. length s.triples) c.self.view_is)

pub returns-in-Some-clause-xor : goal.returns-in-Some-clause-xor
returns-in-Some-clause-xor c =
    let w = c.self.invariant.1.right _ _ (sym c.in-Some.ensures.value) in
    pair-answer c.args.self.now.triples c.args.f.0 c.args.g.0 c.in_ok-pair.pair.f c.in_ok-pair.pair.g c.in-Some.r.now c.in_ok-pair.ensures
    (subst (λ (s : Store). IsXor s.triples s.triples c.in_ok-pair.pair.f c.in_ok-pair.pair.g c.in-Some.r.now) c.self.view_is w.is)

pub returns-in-Some-get-clause-node : goal.returns-in-Some-get-clause-node
returns-in-Some-get-clause-node c =
    let w = c.self.invariant.3.right _ _ (sym c.in-Some-get.ensures.value) in
    omega (arith, w.answer, c.self.invariant.0.within, ap (λ s. length s.triples) c.self.view_is)

pub returns-in-Some-get-clause-xor : goal.returns-in-Some-get-clause-xor
returns-in-Some-get-clause-xor c =
    let w = c.self.invariant.3.right _ _ (sym c.in-Some-get.ensures.value) in
    pair-answer c.args.self.now.triples c.args.f.0 c.args.g.0 c.in_ok-pair.pair.f c.in_ok-pair.pair.g c.in-Some-get.r.now c.in_ok-pair.ensures
    (subst (λ (s : Store). IsXor s.triples s.triples c.in_ok-pair.pair.f c.in_ok-pair.pair.g c.in-Some-get.r.now) c.self.view_is w.is)
