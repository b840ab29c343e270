use Rattle.std.proofs.Common.{◌≡◌, ◌++◌, map, drop}
use Rattle.cb_model.specs.Verdicts.{port_texts}
use Rattle.cb_lines.specs.Lines.{spaced}
use Rattle.cb_lines.proofs.lines.push_inputs.Given as goal

abbrev pub invariant-loop-i : goal.invariant-loop-i
invariant-loop-i l =
    l.line.items ++ spaced (port_texts (drop l.i (map (λ p. p.now) l.ports)) (drop l.i l.input)) ≡
    l.initial.line.items ++ spaced (port_texts (map (λ p. p.now) l.ports) l.input)
