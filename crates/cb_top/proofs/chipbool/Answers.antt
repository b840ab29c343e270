use Rattle.std.proofs.Common.{sym, subst, ◌∙◌}
use Rattle.std.specs.Prelude.{map, string_bytes}
use Rattle.cb_top.specs.Top.{Prints, IsRun, MakesFew, MayStop}
use Rattle.cb_top.proofs.Few.{words-few}
use Rattle.cb_top.proofs.chipbool.Goals as goal

pub over_command-requires : goal.over_command-requires
over_command-requires g c = subst MakesFew (sym c.command_in-command.ensures) (words-few (map string_bytes c.args.words.now))

pub returns-clause-prints : goal.returns-clause-prints
returns-clause-prints g c =
    subst
    (λ k. Prints k (g.F.Files.list c.args.files.now) (g.I.Source.left c.args.input.now) (g.I.Source.left c.over_command.new.input) (g.O.Sink.written c.args.out.now) (g.O.Sink.written c.over_command.new.out) c.over_command.result)
    c.command_in-command.ensures c.over_command.ensures.ran.prints

pub returns-clause-usage : goal.returns-clause-usage
returns-clause-usage g c = record {
  refuses = λ e. c.over_command.ensures.ran.refuses (c.command_in-command.ensures ∙ e);
  only = λ e. sym c.command_in-command.ensures ∙ c.over_command.ensures.ran.only e;
}

pub returns-clause-stopped : goal.returns-clause-stopped
returns-clause-stopped g c = λ e. subst MayStop c.command_in-command.ensures (c.over_command.ensures.ran.stopped e)

pub returns-clause-input_unread : goal.returns-clause-input_unread
returns-clause-input_unread g c = λ n. c.over_command.ensures.input_unread (λ h. n (subst IsRun c.command_in-command.ensures h))

pub returns-clause-input_of_run : goal.returns-clause-input_of_run
returns-clause-input_of_run g c = λ e. subst IsRun c.command_in-command.ensures (c.over_command.ensures.ran.input_of_run e)
