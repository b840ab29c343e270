use Rattle.std.proofs.Common.{refl, false}
use Rattle.cb_model.specs.Program.{Program}
use Rattle.cb_model.specs.Derivation.{Query}
use Rattle.cb_solve.specs.Machine.{TriesAt}
use Rattle.cb_branch.proofs.Laws.{keeps-refl}
use Rattle.cb_solve.proofs.Adds.{err-as}
use Rattle.cb_solve.proofs.Stacks.{few-running}
use Rattle.cb_solve.proofs.Chosen.{moved, attempt-none, attempt-some}
use Rattle.cb_solve.proofs.attempt.Goals as goal

pub returns-in_default-clause-at : goal.returns-in_default-clause-at
returns-in_default-clause-at c =
    let m = c.args.m.now in let a = c.requires in
    (refl, attempt-none m c.args.pred a c.in_default.ensures)

pub returns-in_default-clause-step : goal.returns-in_default-clause-step
returns-in_default-clause-step c = record { budget = refl; answers = refl; used = refl; keeps = keeps-refl c.args.m.now.branch }

pub choose-requires : goal.choose-requires
choose-requires c =
    let m = c.args.m.now in let a = c.requires in
    attempt-some m c.args.pred c.in-Some.clause c.in-Ok.call.0 c.call.new.self a c.in-Some.ensures c.in-Ok.ensures.keeps (c.in-Ok.ensures.branch a.b c.args.pred a.args a.rest a.runs.is a.starts)

pub returns-in-Ok-choose-clause-at : goal.returns-in-Ok-choose-clause-at
returns-in-Ok-choose-clause-at c =
    let m = c.args.m.now in
    (c.in-Ok-choose.ensures.same.running, moved (λ (p : Program) (q : Query). TriesAt p q c.choose.new.m) m.branch c.call.new.self c.in-Ok.ensures.keeps c.in-Ok-choose.ensures.at)

pub first_clause-requires : goal.first_clause-requires
first_clause-requires c = let h = c.requires in (h.args, record { b = h.b; is = h.runs.is; rest = h.rest; goals = h.starts })

pub call-requires : goal.call-requires
call-requires c = let h = c.requires in record { first = (c.args.pred, h.args, record { b = h.b; is = h.runs.is; rest = h.rest; goals = h.starts }) }

pub returns-in-Err-clause-few : goal.returns-in-Err-clause-few
returns-in-Err-clause-few c = λ e.
    let m = c.args.m.now in let h = c.requires in
    few-running m (record m { branch = c.call.new.self; running = false }) h.b h.runs (c.in-Err.ensures.nodes (err-as _ _ e) h.b h.runs.is)
