use Rattle.std.proofs.Common.{◌≡◌, Some, ap, rules}
use Rattle.std.specs.Option.{option_map}
use Rattle.cb_lines.specs.Words.{command_view}
use Rattle.cb_lines.specs.declared.words.Command.TheVariants.{Make}
use Rattle.cb_top.proofs.Ending.{usage-ran, make-ran}
use Rattle.cb_top.proofs.over_command.Goals as goal

pub returns-in-None-clause-ran : goal.returns-in-None-clause-ran
returns-in-None-clause-ran g c = usage-ran _ _ _ _ _ _ (ap (option_map command_view) c.in-None.is) c.finish.ensures.written

pub returns-in-Some-Make-clause-ran : goal.returns-in-Some-Make-clause-ran
returns-in-Some-Make-clause-ran g c =
    let k : c.args.command ≡ Some (Make c.in-Some-Make.bits c.in-Some-Make.nodes) = search rules in
    make-ran _ _ _ _ _ _ _ _ (ap (option_map command_view) k) c.make.ensures.says
