use Rattle.std.proofs.Common.{◌++◌, ◌∷◌, [], length, sym, subst}
use Rattle.cb_unify.specs.Works.{GoesOn, IsOpen, Work, work_of, works}
use Rattle.cb_unify.specs.declared.writing.Pending.{Pending}
use Rattle.cb_unify.proofs.Working.{close-goes}
use Rattle.cb_unify.proofs.Written.{slots-later}
use Rattle.cb_unify.proofs.writing.step.Goals as goal

pub returns-in-Ok-clause-slots : goal.returns-in-Ok-clause-slots
returns-in-Ok-clause-slots c = slots-later c.args.state.now c.close.new.state 0 c.args.frame.now c.args.slots.now.items c.requires.state c.in-Ok.ensures.closed.2.added c.requires.frame c.requires.slots

pub returns-in-Ok-clause-goes : goal.returns-in-Ok-clause-goes
returns-in-Ok-clause-goes c =
    let rs = c.args.cells.now.items in
    let qs = c.close.new.cells.items in
    let ws = works c.args.pending.now.items in
    subst (λ (p : Pending). GoesOn c.args.state.now c.close.new.state c.args.frame.now (ws ++ work_of p ∷ []) ws rs qs) (sym c.in-Node.is)
    (close-goes c.args.state.now c.close.new.state c.args.frame.now ws rs qs c.in-Node.name c.in-Node.start (subst (λ (p : Pending). IsOpen (work_of p) (length rs)) c.in-Node.is c.requires.start) c.in-Ok.ensures.closed c.close.ensures.nodes)
