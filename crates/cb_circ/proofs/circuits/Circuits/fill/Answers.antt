use Rattle.std.proofs.Common.{◌≡◌, ◌+◌, ◌<◌, ◌≤◌, length, get_or, [], refl, sym, subst, ◌∙◌, arith}
use Rattle.std.proofs.lemmas.List.{get_or_read}
use Rattle.cb_flat.proofs.Accepted.{accepted-has}
use Rattle.cb_netlist.specs.Parts.{part_is}
use Rattle.cb_netlist.specs.Netlists.{gates_in}
use Rattle.cb_circ.specs.View.{module_view}
use Rattle.cb_circ.proofs.Marking.{within-as, ins-at}
use Rattle.cb_circ.proofs.Filling.{Filling, filling-none, filling-over, filling-on, filling-end, named-gates}
use Rattle.cb_circ.proofs.Tabling.{pins-read, parts-in, parts-out, in-ins, in-parts, in-firsts, this, this-named}
use Rattle.cb_circ.proofs.circuits.Circuits.fill.Goals.{then-part_gates-gt0+in_ok-read+in_ok-push_instance, else-part_gates-gt0}
use Rattle.cb_circ.proofs.circuits.Circuits.fill.Goals as goal

pub loop-at-init : goal.loop-at-init
loop-at-init c = filling-none c.args.self.now.flats (module_view c.args.raw.now) c.args.netlist.now c.requires.bare

pub index-part-requires : goal.index-part-requires
index-part-requires c =
    let lp : c.loop-at.at < length c.args.raw.now.parts.items = omega (arith, c.loop-at-test.true, c.len-at-end.ensures, c.args.raw.now.parts.ok) in
    let l = parts-in c.args.raw.now c.requires.well c.loop-at.at lp in
    let h = in-parts c.args.self.now.flats c.args.raw.now c.requires.well c.args.found.now c.requires.placed c.loop-at.at l in
    omega (arith, h, c.args.found.now.parts.ok)

pub part_gates-requires : goal.part_gates-requires
part_gates-requires c =
    let lp : c.loop-at.at < length c.args.raw.now.parts.items = omega (arith, c.loop-at-test.true, c.len-at-end.ensures, c.args.raw.now.parts.ok) in
    let l = parts-in c.args.raw.now c.requires.well c.loop-at.at lp in
    this-named c.args.self.now.flats c.args.raw.now c.requires.well c.args.found.now c.requires.placed c.loop-at.at l c.index-part.result.now c.index-part.ensures c.index.result.now lp c.index.ensures

pub list-requires : goal.list-requires
list-requires c =
    let lp : c.loop-at.at < length c.args.raw.now.parts.items = omega (arith, c.loop-at-test.true, c.len-at-end.ensures, c.args.raw.now.parts.ok) in
    let l = parts-in c.args.raw.now c.requires.well c.loop-at.at lp in
    in-ins c.args.self.now.flats c.args.raw.now c.requires.well c.args.found.now c.requires.placed c.loop-at.at l

pub read-requires : goal.read-requires
read-requires c =
    let lp : c.loop-at.at < length c.args.raw.now.parts.items = omega (arith, c.loop-at-test.true, c.len-at-end.ensures, c.args.raw.now.parts.ok) in
    let l = parts-in c.args.raw.now c.requires.well c.loop-at.at lp in
    let w = in-ins c.args.self.now.flats c.args.raw.now c.requires.well c.args.found.now c.requires.placed c.loop-at.at l in
    within-as (length c.args.raw.now.nets) _ _ c.list.result.now (ins-at c.args.raw.now c.requires.well c.loop-at.at w) c.requires.drivers.long c.list.ensures

pub index-requires-then-part_gates-gt0 : goal.index-requires-then-part_gates-gt0
index-requires-then-part_gates-gt0 c =
    let lp : c.loop-at.at < length c.args.raw.now.parts.items = omega (arith, c.loop-at-test.true, c.len-at-end.ensures, c.args.raw.now.parts.ok) in
    let l = parts-in c.args.raw.now c.requires.well c.loop-at.at lp in
    let h = in-firsts c.args.self.now.flats c.args.raw.now c.requires.well c.args.found.now c.requires.placed c.loop-at.at l in
    omega (arith, h, c.args.found.now.firsts.ok)

pub loop-at-preserved : goal.loop-at-preserved
loop-at-preserved c =
    let lp : c.loop-at.at < length c.args.raw.now.parts.items = omega (arith, c.loop-at-test.true, c.len-at-end.ensures, c.args.raw.now.parts.ok) in
    let l = parts-in c.args.raw.now c.requires.well c.loop-at.at lp in
    let r = c.args.raw.now in
    let fs = c.args.self.now.flats in
    let at = c.loop-at.at in
    let a = accepted-has fs (module_view r) c.requires.placed.carrying c.requires.placed.accepted in
    let i = in-firsts fs r c.requires.well c.args.found.now c.requires.placed at l in
    elim c.if-part_gates-gt0.branch [
      | then-part_gates-gt0+in_ok-read+in_ok-push_instance w ↦
          let f = get_or_read c.args.found.now.firsts.items at _ i w.index-then-part_gates-gt0.ensures 0 in
          let h = this fs r c.requires.well c.args.found.now c.requires.placed at l a c.index-part.result.now c.index-part.ensures w.index-then-part_gates-gt0.result.now f in
          let e = pins-read w.read.new.found.items _ _ c.args.drivers.now _ (get_or r.ins at []) w.in_ok-read.ensures w.clear.ensures.items refl w.list.ensures in
          filling-on fs (module_view r) a r.nets at c.index-part.result.now w.index-then-part_gates-gt0.result.now (get_or r.ins at []) (get_or r.outs at []) h c.args.netlist.now c.loop-at.netlist c.loop-at.invariant c.args.drivers.now w.as_slice.result.now _ c.requires.drivers (w.as_slice.ensures.value ∙ e) (w.netlist-is ∙ w.in_ok-push_instance.ensures.added)
      | else-part_gates-gt0 w ↦
          let h = this fs r c.requires.well c.args.found.now c.requires.placed at l a c.index-part.result.now c.index-part.ensures (get_or c.args.found.now.firsts.items at 0) refl in
          let n = named-gates fs c.index.result.now.now c.index-part.result.now (this-named fs r c.requires.well c.args.found.now c.requires.placed at l c.index-part.result.now c.index-part.ensures c.index.result.now lp c.index.ensures) in
          let z : gates_in fs (part_is c.index-part.result.now) ≡ 0 = omega (arith, n, c.part_gates.ensures.gates, w.if-part_gates-gt0.false) in
          subst (λ n. Filling fs (module_view r) c.args.netlist.now n (at + 1)) (sym w.netlist-is)
          (filling-over fs (module_view r) a r.nets at c.index-part.result.now (get_or c.args.found.now.firsts.items at 0) (get_or r.ins at []) (get_or r.outs at []) h c.args.netlist.now c.loop-at.netlist c.loop-at.invariant z)
    ]

pub returns : goal.returns
returns c =
    let n : length c.args.raw.now.parts.items ≤ c.loop-at.at = omega (arith, c.loop-at-test.false, c.len-at-end.ensures, c.args.raw.now.parts.ok) in
    filling-end c.args.self.now.flats (module_view c.args.raw.now) c.args.netlist.now c.loop-at.netlist c.loop-at.at c.requires.bare (parts-out c.args.self.now.flats c.args.raw.now c.requires.well c.loop-at.at n) c.loop-at.invariant
