use Rattle.std.proofs.Common.{refl}
use Rattle.cb_branch.specs.Running.{program_of, query_of}
use Rattle.cb_solve.proofs.Chosen.{choose-tries}
use Rattle.cb_solve.proofs.choose.Goals as goal

pub returns-in-Ok-clause-at : goal.returns-in-Ok-clause-at
returns-in-Ok-clause-at c =
    let m = c.args.m.now in
    choose-tries (program_of m.branch) (query_of m.branch) m _ c.args.call.0 c.args.clause (record { mark = c.mark-mark.result; call = c.args.call; clause = c.args.clause }) c.requires refl refl c.mark-mark.ensures
    c.in-Ok.ensures.items refl refl refl refl

pub mark-mark-requires : goal.mark-mark-requires
mark-mark-requires c = let h = c.requires in (h.b, h.is)
