use Rattle.std.proofs.Common.{◌⊎◌, ◌<◌, IsSome, subst}
use Rattle.std.proofs.lemmas.List.{take_all}
use Rattle.cb_model.specs.Bits.{Each}
use Rattle.cb_project.specs.Renaming.{names_in}
use Rattle.cb_project.proofs.Names.{listed-from}
use Rattle.cb_project.proofs.renaming.have_names.Goals as goal

pub returns : goal.returns
returns c = λ yes_all l there. listed-from (λ k. (k < c.args.constants) ⊎ IsSome (names_in c.args.names.now.entries k)) c.args.levels.now
    (subst (Each (λ k. (k < c.args.constants) ⊎ IsSome (names_in c.args.names.now.entries k))) (take_all c.loop-level.level-index c.args.levels.now c.loop-level-test.false) c.loop-level.invariant) l there
