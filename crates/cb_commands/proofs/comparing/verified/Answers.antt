use Rattle.std.proofs.Common.{ℕ, subst, IfOk}
use Rattle.std.proofs.lemmas.Result.{IfOk-weaker}
use Rattle.cb_model.specs.Output.{module_named, spec_named}
use Rattle.cb_lines.specs.Ends.{line_bytes}
use Rattle.cb_lines.specs.Words.{nodes_view}
use Rattle.cb_lines.specs.declared.lines.Pair.TheVariants as pair
use Rattle.cb_verify.specs.Modules.{VerifyAnswers}
use Rattle.cb_accept.specs.File.{holds}
use Rattle.cb_commands.specs.declared.answer.Answer.{Answer}
use Rattle.cb_commands.specs.Answers.{Says, ComparisonSays, ports_of}
use Rattle.cb_commands.specs.Says.{VerifyOver}
use Rattle.cb_commands.proofs.Deciding.{verify-says, verify-fits}
use Rattle.cb_commands.proofs.comparing.verified.Goals as goal

pub answer-requires : goal.answer-requires
answer-requires c =
    let k = c.args.file.now.circuits in
    verify-fits k c.args.name (nodes_view c.args.nodes) c.verify-verdict.result (module_named k c.args.name.now) (spec_named k c.args.name.now)
    (subst (λ (n : ℕ). VerifyAnswers k c.args.name.now n (module_named k c.args.name.now) (spec_named k c.args.name.now) c.verify-verdict.result) c.budget.ensures c.verify-verdict.ensures)

pub returns : goal.returns
returns c =
    let k = c.args.file.now.circuits in
    let h = subst (λ (n : ℕ). VerifyAnswers k c.args.name.now n (module_named k c.args.name.now) (spec_named k c.args.name.now) c.verify-verdict.result) c.budget.ensures c.verify-verdict.ensures in
    IfOk-weaker c.answer.result (λ (a : Answer). ComparisonSays (pair.Specified c.args.name) (ports_of (module_named k c.args.name.now)) c.verify-verdict.result (line_bytes a.line) a.outcome)
    (Says (VerifyOver (holds c.args.file.now) c.args.name.now (nodes_view c.args.nodes)))
    (λ (a : Answer) s. verify-says k c.args.name (nodes_view c.args.nodes) c.verify-verdict.result (line_bytes a.line) a.outcome (module_named k c.args.name.now) (spec_named k c.args.name.now) h s) c.answer.ensures
