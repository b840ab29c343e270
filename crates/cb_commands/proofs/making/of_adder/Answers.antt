use Rattle.std.proofs.Common.{◌≡◌, ℕ, sym, subst, IfOk}
use Rattle.std.proofs.lemmas.Result.{IfOk-weaker}
use Rattle.cb_model.specs.Text.{Text}
use Rattle.cb_model.specs.Output.{IsLoaded}
use Rattle.cb_lines.specs.Words.{nodes_view}
use Rattle.cb_accept.specs.File.{holds}
use Rattle.cb_accept.proofs.Accepting.{accepted-loaded}
use Rattle.cb_commands.specs.declared.answer.Answer.{Answer}
use Rattle.cb_commands.specs.Answers.{Says, TellsSize}
use Rattle.cb_commands.specs.Says.{MakeOver}
use Rattle.cb_commands.proofs.Sized.{size-said, stop-said}
use Rattle.cb_commands.proofs.making.of_adder.Goals as goal

pub returns-in-Done : goal.returns-in-Done
returns-in-Done c n least most e =
    let l = subst (λ (t : Text). IsLoaded t (holds c.args.file.now)) e (accepted-loaded c.args.file.now c.requires) in
    IfOk-weaker c.summary.result (TellsSize n) (Says (MakeOver (holds c.args.file.now) n (nodes_view c.args.nodes)))
    (λ (a : Answer) s. size-said (holds c.args.file.now) n (nodes_view c.args.nodes) a s)
    (c.summary.ensures n (c.adders_hold.ensures.loaded n (holds c.args.file.now) least most l))

pub returns-in_default : goal.returns-in_default
returns-in_default c n least most e =
    let l = subst (λ (t : Text). IsLoaded t (holds c.args.file.now)) e (accepted-loaded c.args.file.now c.requires) in
    stop-said (holds c.args.file.now) n (nodes_view c.args.nodes) c.in_ok-answer.answer least most l c.in_default.not-Done c.in_ok-answer.ensures
