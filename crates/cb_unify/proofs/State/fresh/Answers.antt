use Rattle.cb_unify.proofs.Making.{gone-back}
use Rattle.cb_unify.proofs.State.fresh.Goals as goal

pub returns-in-Err-clause-as_before : goal.returns-in-Err-clause-as_before
returns-in-Err-clause-as_before c =
    gone-back c.args.self.now c.variables.new.state c.undo.new.self (c.undo.ensures.back c.args.self.now c.requires.state c.mark-before.ensures.moment c.variables.ensures.moments) c.variables.ensures.risen
