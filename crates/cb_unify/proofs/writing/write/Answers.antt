use Rattle.std.proofs.Common.{◌++◌, ◌∷◌, [], List, subst, rules}
use Rattle.cb_unify.specs.Works.{IsUnderWay, Work, work_of, works, written}
use Rattle.cb_unify.proofs.Working.{last-work, next-open, next-scope, stop-spent}
use Rattle.cb_unify.proofs.writing.write.Goals as goal

pub step-requires-clause-scope : goal.step-requires-clause-scope
step-requires-clause-scope c =
    next-scope c.args.state.now c.parts.state c.args.frame.now (works c.pop.new.self.items) (work_of c.in-Some.next) c.parts.cells.items (written (works c.args.pending.now.items) [])
    (subst (λ (l : List Work). IsUnderWay c.args.state.now c.parts.state c.args.frame.now l c.parts.cells.items (written (works c.args.pending.now.items) []))
    (last-work c.parts.pending.items c.pop.new.self.items c.in-Some.next c.in-Some.ensures.items) c.parts.invariant.way)

pub step-requires-clause-start : goal.step-requires-clause-start
step-requires-clause-start c =
    next-open c.args.state.now c.parts.state c.args.frame.now (works c.pop.new.self.items) (work_of c.in-Some.next) c.parts.cells.items (written (works c.args.pending.now.items) [])
    (subst (λ (l : List Work). IsUnderWay c.args.state.now c.parts.state c.args.frame.now l c.parts.cells.items (written (works c.args.pending.now.items) []))
    (last-work c.parts.pending.items c.pop.new.self.items c.in-Some.next c.in-Some.ensures.items) c.parts.invariant.way)

pub returns-in_err-step-clause-spent : goal.returns-in_err-step-clause-spent
returns-in_err-step-clause-spent c =
    stop-spent c.args.state.now c.parts.state c.step.new.state c.args.frame.now (works c.pop.new.self.items) (work_of c.in-Some.next) c.parts.cells.items (written (works c.args.pending.now.items) []) c.step.result c.from_residual.result c.in_err-step.field-0.0
    (search rules) (search rules)
    (subst (λ (l : List Work). IsUnderWay c.args.state.now c.parts.state c.args.frame.now l c.parts.cells.items (written (works c.args.pending.now.items) []))
    (last-work c.parts.pending.items c.pop.new.self.items c.in-Some.next c.in-Some.ensures.items) c.parts.invariant.way)
    c.step.ensures.spent
