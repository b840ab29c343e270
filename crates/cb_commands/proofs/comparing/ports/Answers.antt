use Rattle.std.proofs.Common.{◌≡◌, map, sym, ◌∙◌, ap, arith, take_all, Bor}
use Rattle.cb_model.specs.Text.{Text, shown_name}
use Rattle.cb_circ.specs.At.{module_at}
use Rattle.cb_commands.proofs.Ports.{no-ports, all-ports}
use Rattle.cb_commands.proofs.comparing.ports.Goals as goal

pub returns-in_default-clause-names : goal.returns-in_default-clause-names
returns-in_default-clause-names c =
    no-ports c.args.circuits.now c.args.name.now (sym c.find.ensures.number ∙ c.in_default.is) (map (λ (p : Bor Text). p.now) c.new-ports.result.items) (ap (map (λ (p : Bor Text). p.now)) c.new-ports.ensures.items)

pub returns-clause-names : goal.returns-clause-names
returns-clause-names c =
    all-ports c.args.circuits.now c.args.name.now c.in-Some.m c.find.ensures.flats (sym c.find.ensures.number ∙ c.in-Some.is) (map (λ (p : Bor Text). p.now) c.loop-k.ports.items)
    (c.loop-k.invariant ∙ ap (map shown_name) (take_all c.loop-k.k (module_at c.args.circuits.now c.in-Some.m).inputs (omega (arith, c.loop-k-test.false, c.inputs-k-end.ensures))))
