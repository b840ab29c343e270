use Rattle.std.proofs.Common.{◌≡◌, ◌<◌, ◌≤◌, ◌-◌, true, false, Some, length, slice_get, slice_set, get_or, sym, ap, subst, ◌∙◌, arith, rules}
use Rattle.std.proofs.lemmas.List.{get_or_default}
use Rattle.std.proofs.lemmas.Result.{on_ok_weaker}
use Rattle.cb_levels.specs.Meeting.{to_look}
use Rattle.cb_levels.proofs.Marks.{pins-marked}
use Rattle.cb_levels.proofs.Meeting.look.Goals as goal

pub returns-clause-less : goal.returns-clause-less
returns-clause-less c =
    let entered = c.args.self.now.entered.items in
    let gates = c.args.circuit.now.gates in
    let at = c.args.net - c.args.circuit.now.inputs in
    let within = c.in-Some.ensures.within in
    let l : at < length entered = omega (arith, within, c.requires.gates) in
    let off : c.index.result.now ≡ false = search rules in
    let here : get_or entered at true ≡ false = get_or_default entered at true c.index.result.now l ∙ sym c.index.ensures ∙ off in
    let is : slice_get gates at ≡ Some c.in-Some.gate.now = sym c.in-Some.ensures.value in
    let pins = pins-marked gates entered at c.in-Some.gate.now l here is in
    let marked : c.look_below.new.self.entered.items ≡ slice_set entered at true = search (rules, c.look_below.ensures.entered) in
    let ins = ap length c.as_slice.ensures in
    on_ok_weaker c.look_below.result
    (λ pending. subst (λ e. to_look c.args.circuit.now e c.look_below.new.self.pending.items ≤ to_look c.args.circuit.now entered c.args.self.now.pending.items) (sym marked) (omega (arith, pending, pins, ins)))
    c.look_below.ensures.pending
