use Rattle.std.proofs.Common.{◌≡◌, ◌+◌, sym, ap, ◌∙◌}
use Rattle.std.proofs.lemmas.List.{get_or_read}
use Rattle.cb_netlist.specs.Wiring.{Wiring, no_wiring, wiring_at}
use Rattle.cb_netlist.specs.Walking.{frames_of}
use Rattle.cb_netlist.proofs.Wholes.{are-gates, gates_by, first-walk, walk-first, all-first, circuit-is}
use Rattle.cb_netlist.proofs.walk.flatten.Goals as goal

pub finish-requires : goal.finish-requires
finish-requires c =
    let ns = c.args.netlists.now in
    let m = c.args.number in
    let e : c.index-netlists-number.result ≡ wiring_at ns m = get_or_read ns m c.index-netlists-number.result c.requires.number c.index-netlists-number.is no_wiring in
    let w = c.in_ok-walk.ensures in
    walk-first ns m c.in_ok-walk.walk.inputs c.in_ok-walk.walk.count c.in_ok-walk.walk.gates.items (frames_of ns c.in_ok-walk.walk.frames.items)
    (w.inputs ∙ ap (λ (n : Wiring). n.inputs) e) (w.count ∙ ap (λ (n : Wiring). n.gates) e) w.gates (w.frames ns (sym e))
    (first-walk c.requires.known.0 ns m c.requires.known.1 c.requires.number c.requires.small)

pub returns : goal.returns
returns c flats are =
    let ns = c.args.netlists.now in
    let m = c.args.number in
    let e : c.index-netlists-number.result ≡ wiring_at ns m = get_or_read ns m c.index-netlists-number.result c.requires.number c.index-netlists-number.is no_wiring in
    let w = c.in_ok-walk.ensures in
    let inputs = ap (λ (n : Wiring). n.inputs) e in
    let gates = c.from_vec.ensures ∙ c.in_ok-finish.ensures.gates (gates_by flats ns are) (are-gates flats ns are)
    ∙ all-first ns m c.in_ok-walk.walk.inputs c.in_ok-walk.walk.gates.items (frames_of ns c.in_ok-walk.walk.frames.items) (w.inputs ∙ inputs) w.gates (w.frames ns (sym e)) (gates_by flats ns are) (are-gates flats ns are) c.requires.number in
    circuit-is flats ns m are c.requires.number c.inputs.result (c.inputs-2.result + c.gates.result) c.in_ok-outputs.outputs c.from_vec.result
    (c.inputs.ensures ∙ inputs)
    (ap (λ x. x + c.gates.result) (c.inputs-2.ensures ∙ inputs) ∙ ap (λ x. (wiring_at ns m).inputs + x) (c.gates.ensures ∙ ap (λ (n : Wiring). n.gates) e))
    (c.in_ok-outputs.ensures ∙ c.outputs.ensures ∙ ap (λ (n : Wiring). n.outputs) e)
    gates
