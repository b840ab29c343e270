use Rattle.std.proofs.Common.{◌≡◌, IfOk, List, map, length, sym, ◌∙◌, subst, ap, Bor}
use Rattle.std.specs.Prelude.{Result}
use Rattle.std.proofs.lemmas.Result.{IfOk-weaker}
use Rattle.cb_model.specs.Text.{Text}
use Rattle.cb_model.specs.Circuits.{flat_named}
use Rattle.cb_model.specs.Output.{module_named}
use Rattle.cb_lines.specs.Ends.{line_bytes}
use Rattle.cb_verify.specs.declared.Verdict.{Verdict}
use Rattle.cb_verify.specs.declared.modules.VerifyError.{VerifyError}
use Rattle.cb_commands.specs.declared.answer.Answer.{Answer}
use Rattle.cb_commands.specs.Answers.{VerdictSays, ComparisonSays, FitsPorts, ports_of}
use Rattle.cb_commands.proofs.Deciding.{ports-long, verdict-shown}
use Rattle.cb_commands.proofs.comparing.answer.Goals as goal

pub verdict_answer-requires : goal.verdict_answer-requires
verdict_answer-requires c =
    subst (λ n. FitsPorts n c.in-Ok.verdict)
    (ports-long c.args.circuits.now c.args.name.now c.ports.ensures.flats c.as_slice.result.now (ap (map (λ (p : Bor Text). p.now)) c.as_slice.ensures.value ∙ c.in_ok-ports-in-Ok.ensures.names))
    (subst (λ (r : Result Verdict VerifyError). IfOk r (FitsPorts (flat_named c.args.circuits.now.flats c.args.name.now).inputs)) c.in-Ok.is c.requires)

pub returns-in_ok-ports-in-Ok : goal.returns-in_ok-ports-in-Ok
returns-in_ok-ports-in-Ok c =
    let ports : List Text = ports_of (module_named c.args.circuits.now c.args.name.now) in
    let e = ap (map (λ (p : Bor Text). p.now)) c.as_slice.ensures.value ∙ c.in_ok-ports-in-Ok.ensures.names in
    IfOk-weaker c.verdict_answer.result (λ (a : Answer). VerdictSays c.args.pair (map (λ (p : Bor Text). p.now) c.as_slice.result.now) c.in-Ok.verdict (line_bytes a.line) a.outcome)
    (λ (a : Answer). ComparisonSays c.args.pair ports c.args.compared.now (line_bytes a.line) a.outcome)
    (λ (a : Answer) s.
    subst (λ (r : Result Verdict VerifyError). ComparisonSays c.args.pair ports r (line_bytes a.line) a.outcome) (sym c.in-Ok.is)
    (verdict-shown c.args.pair ports c.in-Ok.verdict (line_bytes a.line) a.outcome (subst (λ (xs : List Text). VerdictSays c.args.pair xs c.in-Ok.verdict (line_bytes a.line) a.outcome) e s)))
    c.verdict_answer.ensures
