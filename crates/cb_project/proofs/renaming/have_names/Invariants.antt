use Rattle.std.proofs.Common.{◌⊎◌, ◌<◌, IsSome, take}
use Rattle.cb_model.specs.Bits.{Each}
use Rattle.cb_project.specs.Renaming.{names_in}
use Rattle.cb_project.proofs.renaming.have_names.Given as goal

abbrev pub invariant-loop-level : goal.invariant-loop-level
invariant-loop-level l = Each (λ k. (k < l.constants) ⊎ IsSome (names_in l.names.entries k)) (take l.level-index l.levels)
