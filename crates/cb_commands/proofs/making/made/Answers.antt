use Rattle.std.proofs.Common.{◌≡◌, ℕ, ◌≤◌, List, length, sym, ◌∙◌, ap, subst, IfOk}
use Rattle.std.proofs.lemmas.Result.{IfOk-weaker}
use Rattle.cb_model.specs.Text.{Text}
use Rattle.cb_model.specs.Adder.{adder_text}
use Rattle.cb_model.specs.Output.{IsLoaded}
use Rattle.cb_lines.specs.Words.{nodes_view}
use Rattle.cb_accept.specs.File.{holds}
use Rattle.cb_accept.proofs.Accepting.{accepted-loaded}
use Rattle.cb_commands.specs.declared.answer.Answer.{Answer}
use Rattle.cb_commands.specs.Answers.{Says}
use Rattle.cb_commands.specs.Says.{MakeOver, MakeSays}
use Rattle.cb_commands.proofs.Sized.{over-said}
use Rattle.cb_commands.proofs.making.made.Goals as goal

pub accept-requires : goal.accept-requires
accept-requires c =
    let e : c.as_slice.result.now ≡ adder_text c.args.bits = c.as_slice.ensures.value ∙ c.in_ok-text.ensures in
    subst (λ (t : Text). length t ≤ 4194304) (sym e) (c.adders_hold.ensures.hold c.args.bits c.requires.0 c.requires.1).loaded.short

pub returns-in-Ok : goal.returns-in-Ok
returns-in-Ok c =
    let e : c.in-Ok.file.text.now ≡ adder_text c.args.bits = c.in-Ok.ensures.text ∙ c.as_slice.ensures.value ∙ c.in_ok-text.ensures in
    let l : IsLoaded (adder_text c.args.bits) (holds c.in-Ok.file) = subst (λ (t : Text). IsLoaded t (holds c.in-Ok.file)) e (accepted-loaded c.in-Ok.file c.in-Ok.ensures.accepted) in
    IfOk-weaker c.of_adder-answer.result (Says (MakeOver (holds c.in-Ok.file) c.args.bits (nodes_view c.args.nodes))) (Says (MakeSays c.args.bits (nodes_view c.args.nodes)))
    (λ (a : Answer) s. over-said (holds c.in-Ok.file) c.args.bits (nodes_view c.args.nodes) a l s)
    (c.of_adder-answer.ensures c.args.bits c.requires.0 c.requires.1 e)
