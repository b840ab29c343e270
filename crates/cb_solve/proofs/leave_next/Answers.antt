use Rattle.std.proofs.Common.{refl}
use Rattle.cb_solve.proofs.Resolving.{leaves-none, leaves-some}
use Rattle.cb_branch.specs.Running.{program_of}
use Rattle.cb_solve.proofs.Clauses.{got-below}
use Rattle.cb_solve.proofs.leave_next.Goals as goal

pub returns-in_default-clause-stacked : goal.returns-in_default-clause-stacked
returns-in_default-clause-stacked c = leaves-none c.args.m.now c.args.call.0 c.args.clause c.in_default.ensures

pub returns-in-Ok-clause-stacked : goal.returns-in-Ok-clause-stacked
returns-in-Ok-clause-stacked c =
    leaves-some c.args.m.now (record c.args.m.now { choices = c.push.new.self }) c.args.call.0 c.args.clause c.in-Some.next (record { mark = c.mark-mark.result; call = c.args.call; clause = c.in-Some.next }) c.in-Some.ensures refl refl c.mark-mark.ensures c.in-Ok.ensures.items refl

pub next_clause-requires : goal.next_clause-requires
next_clause-requires c = let h = c.requires in got-below (program_of c.args.m.now.branch).clauses c.args.clause h.c h.there

pub mark-mark-requires : goal.mark-mark-requires
mark-mark-requires c = let h = c.requires in (h.b, h.is)
