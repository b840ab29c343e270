use Rattle.std.proofs.Common.{◌≡◌, map, take}
use Rattle.cb_model.specs.Text.{shown_name}
use Rattle.cb_circ.specs.At.{module_at}
use Rattle.cb_commands.proofs.comparing.ports.Given as goal

abbrev pub invariant-loop-k : goal.invariant-loop-k
invariant-loop-k l = map (λ p. p.now) l.ports.items ≡ map shown_name (take l.k (module_at l.circuits l.m).inputs)
