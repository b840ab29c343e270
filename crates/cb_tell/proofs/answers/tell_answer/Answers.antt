use Rattle.std.proofs.Common.{ap, refl, subst}
use Rattle.cb_model.specs.Output.{printed_from}
use Rattle.cb_unify.specs.State.{IsAsBefore}
use Rattle.cb_unify.specs.State as state
use Rattle.cb_sorts.specs.OverFile.{asked_names}
use Rattle.cb_branch.specs.Running.{calls_of}
use Rattle.cb_solve.specs.Lending.{with_state}
use Rattle.cb_tell.proofs.Printing.{of-calls}
use Rattle.cb_tell.proofs.Written.{answer-told-at, lent, lent-none, tellable-at}
use Rattle.cb_tell.proofs.answers.tell_answer.Goals as goal

pub returns-in_default-clause-lent : goal.returns-in_default-clause-lent
returns-in_default-clause-lent g c = lent-none c.args.engine.now

pub returns-in_default-items-clause-lent : goal.returns-in_default-items-clause-lent
returns-in_default-items-clause-lent g c = lent-none c.args.engine.now

pub answer-requires : goal.answer-requires
answer-requires g c =
    let s = c.args.program.now in
    let a = c.args.query.now in
    let r = c.args.engine.now in
    let told = of-calls r.state.state.made (asked_names s a).names _ (printed_from 0 a.variables) c.as_slice.result.now c.in-Ok.calls.items (calls_of r.state) c.in-Ok-items.items.items
    c.in-Ok-items.ensures refl c.as_slice.ensures.value c.in-Ok.ensures in
    record {
      tellable = tellable-at c.branch_has_its_values.ensures s a r c.requires.answered c.in-Ok-items.items.items told c.state.result.now c.state.ensures.value c.deref.result.now c.deref.ensures.value;
    }

pub returns-clause-told : goal.returns-clause-told
returns-clause-told g c =
    let s = c.args.program.now in
    let a = c.args.query.now in
    let r = c.args.engine.now in
    let told = of-calls r.state.state.made (asked_names s a).names _ (printed_from 0 a.variables) c.as_slice.result.now c.in-Ok.calls.items (calls_of r.state) c.in-Ok-items.items.items
    c.in-Ok-items.ensures refl c.as_slice.ensures.value c.in-Ok.ensures in
    answer-told-at c.branch_has_its_values.ensures s a r c.requires.answered c.in-Ok-items.items.items told
    c.state.result.now c.state.ensures.value c.deref.result.now c.deref.ensures.value (g.O.Sink.written c.args.out.now) (g.O.Sink.written c.answer.new.out) c.answer.result
    c.answer.ensures.written c.answer.ensures.front (λ x e. ap g.O.Sink.written (c.answer.ensures.nothing x e)) (λ e. (c.answer.ensures.nodes e).bounded)

pub returns-clause-lent : goal.returns-clause-lent
returns-clause-lent g c =
    lent c.args.engine.now (with_state c.answer.new.state c.args.engine.now) refl (subst (λ (v : state.Seen). IsAsBefore v c.answer.new.state) c.state.ensures.value c.answer.ensures.as_before)
