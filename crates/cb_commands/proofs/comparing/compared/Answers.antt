use Rattle.std.proofs.Common.{ℕ, subst, IfOk}
use Rattle.std.proofs.lemmas.Result.{IfOk-weaker}
use Rattle.cb_model.specs.Output.{module_named}
use Rattle.cb_lines.specs.Ends.{line_bytes}
use Rattle.cb_lines.specs.Words.{nodes_view}
use Rattle.cb_lines.specs.declared.lines.Pair.TheVariants as pair
use Rattle.cb_verify.specs.Modules.{SameAnswers}
use Rattle.cb_accept.specs.File.{holds}
use Rattle.cb_commands.specs.declared.answer.Answer.{Answer}
use Rattle.cb_commands.specs.Answers.{Says, ComparisonSays, ports_of}
use Rattle.cb_commands.specs.Says.{SameOver}
use Rattle.cb_commands.proofs.Deciding.{same-says, same-fits}
use Rattle.cb_commands.proofs.comparing.compared.Goals as goal

pub answer-requires : goal.answer-requires
answer-requires c =
    let k = c.args.file.now.circuits in
    same-fits k c.args.one c.args.two (nodes_view c.args.nodes) c.same-verdict.result (module_named k c.args.one.now) (module_named k c.args.two.now)
    (subst (λ (n : ℕ). SameAnswers k c.args.one.now c.args.two.now n (module_named k c.args.one.now) (module_named k c.args.two.now) c.same-verdict.result) c.budget.ensures c.same-verdict.ensures)

pub returns : goal.returns
returns c =
    let k = c.args.file.now.circuits in
    let h = subst (λ (n : ℕ). SameAnswers k c.args.one.now c.args.two.now n (module_named k c.args.one.now) (module_named k c.args.two.now) c.same-verdict.result) c.budget.ensures c.same-verdict.ensures in
    IfOk-weaker c.answer.result (λ (a : Answer). ComparisonSays (pair.Modules c.args.one c.args.two) (ports_of (module_named k c.args.one.now)) c.same-verdict.result (line_bytes a.line) a.outcome)
    (Says (SameOver (holds c.args.file.now) c.args.one.now c.args.two.now (nodes_view c.args.nodes)))
    (λ (a : Answer) s. same-says k c.args.one c.args.two (nodes_view c.args.nodes) c.same-verdict.result (line_bytes a.line) a.outcome (module_named k c.args.one.now) (module_named k c.args.two.now) h s) c.answer.ensures
