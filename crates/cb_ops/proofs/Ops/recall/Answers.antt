use Rattle.std.proofs.Common.{arith, ap, sym, subst, length}
use Rattle.cb_dd.specs.Diagram.{Store}
use Rattle.cb_ops.specs.Ops.{IsIte}
use Rattle.cb_ops.proofs.Same.{same-answer}
use Rattle.cb_ops.proofs.Ops.recall.Goals as goal

pub returns-in-Some-clause-node : goal.returns-in-Some-clause-node
returns-in-Some-clause-node c =
    let w = c.self.invariant.0.right _ _ (sym c.in-Some.ensures.value) in
    omega (arith, w.answer, c.self.invariant.0.within, ap (λ s. length s.triples) c.self.view_is)

pub returns-in-Some-clause-ite : goal.returns-in-Some-clause-ite
returns-in-Some-clause-ite c =
    let w = c.self.invariant.0.right _ _ (sym c.in-Some.ensures.value) in
    same-answer c.args.self.now.triples c.args.f.0 c.args.g.0 c.args.h.0 c.in_ok-call.call.f c.in_ok-call.call.g c.in_ok-call.call.h c.in-Some.r.now c.in_ok-call.ensures
    (subst (λ (s : Store). IsIte s.triples s.triples c.in_ok-call.call.f c.in_ok-call.call.g c.in_ok-call.call.h c.in-Some.r.now) c.self.view_is w.is)

pub returns-in-Some-get-clause-node : goal.returns-in-Some-get-clause-node
returns-in-Some-get-clause-node c =
    let w = c.self.invariant.2.right _ _ (sym c.in-Some-get.ensures.value) in
    omega (arith, w.answer, c.self.invariant.0.within, ap (λ s. length s.triples) c.self.view_is)

pub returns-in-Some-get-clause-ite : goal.returns-in-Some-get-clause-ite
returns-in-Some-get-clause-ite c =
    let w = c.self.invariant.2.right _ _ (sym c.in-Some-get.ensures.value) in
    same-answer c.args.self.now.triples c.args.f.0 c.args.g.0 c.args.h.0 c.in_ok-call.call.f c.in_ok-call.call.g c.in_ok-call.call.h c.in-Some-get.r.now c.in_ok-call.ensures
    (subst (λ (s : Store). IsIte s.triples s.triples c.in_ok-call.call.f c.in_ok-call.call.g c.in_ok-call.call.h c.in-Some-get.r.now) c.self.view_is w.is)
