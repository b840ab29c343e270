use Rattle.std.proofs.Common.{ap, ◌∙◌, List, [], ◌∷◌, ◌++◌, ℕ}
use Rattle.cb_flat.specs.Walk.{Filled}
use Rattle.cb_netlist.specs.Wiring.{Wiring, with_instance}
use Rattle.cb_netlist.specs.Parts.{filled_is, filled_of}
use Rattle.cb_netlist.specs.declared.netlist.Instance.{Instance}
use Rattle.cb_netlist.proofs.Parts.{filled-pushed}
use Rattle.cb_netlist.proofs.netlist.Netlist.push_instance.Goals as goal

pub returns-in-Ok-clause-added : goal.returns-in-Ok-clause-added
returns-in-Ok-clause-added c =
    let n : Wiring = record { inputs = c.self.inside.inputs; filled = filled_of c.self.inside.instances.items c.self.inside.pins; outputs = c.self.inside.outputs.items; gates = c.self.inside.gates } in
    ap (λ (is : List Instance). record n { filled = filled_of is c.push-2.new.self }) c.in_ok-push.ensures.items
    ∙ ap (λ (ps : List (List ℕ)). record n { filled = filled_of (c.self.inside.instances.items ++ record { part = c.args.part; first = c.args.first } ∷ []) ps }) c.in-Ok.ensures.added
    ∙ ap (λ (fs : List Filled). record n { filled = fs }) (filled-pushed c.self.inside.instances.items c.self.inside.pins (record { part = c.args.part; first = c.args.first }) c.args.pins.now c.self.invariant)
    ∙ ap (λ (m : Wiring). with_instance m (filled_is c.args.part c.args.first c.args.pins.now)) c.self.view_is
