use Rattle.std.proofs.Common.{◌≡◌, drop}
use Rattle.cb_model.specs.Directives.{nonvar_at_bool}
use Rattle.cb_directives.proofs.words.has_nonvar.Given as goal

abbrev pub invariant-loop-place : goal.invariant-loop-place
invariant-loop-place l = nonvar_at_bool l.words l.sorts ≡ nonvar_at_bool (drop l.place l.words) (drop l.place l.sorts)
