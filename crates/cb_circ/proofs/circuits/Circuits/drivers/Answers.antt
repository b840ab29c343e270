use Rattle.std.proofs.Common.{length, get_or, [], refl, ap, sym, ◌∙◌, arith}
use Rattle.std.proofs.lemmas.List.{get_or_read, length-map}
use Rattle.cb_circ.specs.View.{module_view}
use Rattle.cb_circ.proofs.Marking.{within-as, ins-at, outs-at}
use Rattle.cb_circ.proofs.Driving.{put-long}
use Rattle.cb_flat.proofs.Accepted.{accepted-has}
use Rattle.cb_circ.proofs.Tabling.{back, pins-read, outs-read, write-read, in-ins, in-outs, in-parts, in-firsts, this-pins, this-small, outs-count, next-drivers, place-in, drivers-start, drivers-end}
use Rattle.cb_circ.proofs.circuits.Circuits.drivers.Goals as goal

pub loop-instance-init : goal.loop-instance-init
loop-instance-init c =
    let a = accepted-has c.args.self.now.flats (module_view c.args.raw.now) c.requires.placed.carrying c.requires.placed.accepted in
    drivers-start c.args.self.now.flats c.args.raw.now c.requires.well a c.in_ok-drivers.drivers.items (c.in_ok-drivers.ensures.long ∙ c.len.ensures) c.in_ok-drivers.ensures.inputs

pub list-requires : goal.list-requires
list-requires c = in-ins c.args.self.now.flats c.args.raw.now c.requires.well c.args.found.now c.requires.placed _ (place-in (module_view c.args.raw.now) c.args.order.now c.loop-instance.instance-index c.requires.order c.loop-instance-test.true)

pub read-requires : goal.read-requires
read-requires c =
    let l = in-ins c.args.self.now.flats c.args.raw.now c.requires.well c.args.found.now c.requires.placed _ (place-in (module_view c.args.raw.now) c.args.order.now c.loop-instance.instance-index c.requires.order c.loop-instance-test.true) in
    within-as (length c.args.raw.now.nets) _ _ c.list.result.now (ins-at c.args.raw.now c.requires.well _ l) (ap length c.as_slice.ensures.value ∙ c.loop-instance.invariant.long) c.list.ensures

pub index-part-requires : goal.index-part-requires
index-part-requires c =
    let l = in-parts c.args.self.now.flats c.args.raw.now c.requires.well c.args.found.now c.requires.placed _ (place-in (module_view c.args.raw.now) c.args.order.now c.loop-instance.instance-index c.requires.order c.loop-instance-test.true) in
    omega (arith, l, c.args.found.now.parts.ok)

pub index-requires : goal.index-requires
index-requires c =
    let l = in-firsts c.args.self.now.flats c.args.raw.now c.requires.well c.args.found.now c.requires.placed _ (place-in (module_view c.args.raw.now) c.args.order.now c.loop-instance.instance-index c.requires.order c.loop-instance-test.true) in
    omega (arith, l, c.args.found.now.firsts.ok)

pub outs-requires-clause-pins : goal.outs-requires-clause-pins
outs-requires-clause-pins c =
    let a = accepted-has c.args.self.now.flats (module_view c.args.raw.now) c.requires.placed.carrying c.requires.placed.accepted in
    let k = get_or c.args.order.now c.loop-instance.instance-index 0 in
    let p = place-in (module_view c.args.raw.now) c.args.order.now c.loop-instance.instance-index c.requires.order c.loop-instance-test.true in
    let l = in-firsts c.args.self.now.flats c.args.raw.now c.requires.well c.args.found.now c.requires.placed k p in
    let e = pins-read c.read.new.found.items _ _ c.loop-instance.drivers.items _ (get_or c.args.raw.now.ins k []) c.in_ok-read.ensures c.clear.ensures.items c.as_slice.ensures.value c.list.ensures in
    this-pins c.args.self.now.flats c.args.raw.now c.requires.well c.args.found.now c.requires.placed k p a c.index-part.result.now c.index-part.ensures c.index.result.now (get_or_read c.args.found.now.firsts.items k _ l c.index.ensures 0) _
    (ap length (c.as_slice-in-loop-instance.ensures.value ∙ e) ∙ length-map (get_or c.args.raw.now.ins k []) (λ j. get_or c.loop-instance.drivers.items j 0))

pub outs-requires-clause-small : goal.outs-requires-clause-small
outs-requires-clause-small c =
    let a = accepted-has c.args.self.now.flats (module_view c.args.raw.now) c.requires.placed.carrying c.requires.placed.accepted in
    let k = get_or c.args.order.now c.loop-instance.instance-index 0 in
    let p = place-in (module_view c.args.raw.now) c.args.order.now c.loop-instance.instance-index c.requires.order c.loop-instance-test.true in
    let l = in-firsts c.args.self.now.flats c.args.raw.now c.requires.well c.args.found.now c.requires.placed k p in
    this-small c.args.self.now.flats c.args.raw.now c.requires.well c.args.found.now c.requires.placed k p a c.index-part.result.now c.index-part.ensures c.index.result.now (get_or_read c.args.found.now.firsts.items k _ l c.index.ensures 0)

pub list-requires-in-loop-instance : goal.list-requires-in-loop-instance
list-requires-in-loop-instance c = in-outs c.args.self.now.flats c.args.raw.now c.requires.well c.args.found.now c.requires.placed _ (place-in (module_view c.args.raw.now) c.args.order.now c.loop-instance.instance-index c.requires.order c.loop-instance-test.true)

pub write-requires-clause-within : goal.write-requires-clause-within
write-requires-clause-within c =
    let l = in-outs c.args.self.now.flats c.args.raw.now c.requires.well c.args.found.now c.requires.placed _ (place-in (module_view c.args.raw.now) c.args.order.now c.loop-instance.instance-index c.requires.order c.loop-instance-test.true) in
    within-as (length c.args.raw.now.nets) _ _ c.list-in-loop-instance.result.now (outs-at c.args.raw.now c.requires.well _ l) (ap length c.as_mut_slice.ensures.value ∙ c.loop-instance.invariant.long) c.list-in-loop-instance.ensures

pub write-requires-clause-as_many : goal.write-requires-clause-as_many
write-requires-clause-as_many c =
    let a = accepted-has c.args.self.now.flats (module_view c.args.raw.now) c.requires.placed.carrying c.requires.placed.accepted in
    let k = get_or c.args.order.now c.loop-instance.instance-index 0 in
    let p = place-in (module_view c.args.raw.now) c.args.order.now c.loop-instance.instance-index c.requires.order c.loop-instance-test.true in
    let l = in-firsts c.args.self.now.flats c.args.raw.now c.requires.well c.args.found.now c.requires.placed k p in
    let f = get_or_read c.args.found.now.firsts.items k _ l c.index.ensures 0 in
    let e = pins-read c.read.new.found.items _ _ c.loop-instance.drivers.items _ (get_or c.args.raw.now.ins k []) c.in_ok-read.ensures c.clear.ensures.items c.as_slice.ensures.value c.list.ensures in
    let n = ap length (c.as_slice-in-loop-instance.ensures.value ∙ e) ∙ length-map (get_or c.args.raw.now.ins k []) (λ j. get_or c.loop-instance.drivers.items j 0) in
    let o = outs-read c.outs.new.found.items _ _ c.in_ok-outs.ensures c.clear-in-loop-instance.ensures.items in
    ap length c.as_slice-in-loop-instance-2.ensures.value ∙ outs-count c.args.self.now.flats c.args.raw.now c.requires.well c.args.found.now c.requires.placed k p a c.index-part.result.now c.index-part.ensures c.index.result.now f _ c.outs.new.found.items n o ∙ ap length (sym c.list-in-loop-instance.ensures)

pub loop-instance-preserved : goal.loop-instance-preserved
loop-instance-preserved c =
    let a = accepted-has c.args.self.now.flats (module_view c.args.raw.now) c.requires.placed.carrying c.requires.placed.accepted in
    let k = get_or c.args.order.now c.loop-instance.instance-index 0 in
    let p = place-in (module_view c.args.raw.now) c.args.order.now c.loop-instance.instance-index c.requires.order c.loop-instance-test.true in
    let l = in-firsts c.args.self.now.flats c.args.raw.now c.requires.well c.args.found.now c.requires.placed k p in
    let f = get_or_read c.args.found.now.firsts.items k _ l c.index.ensures 0 in
    let e = pins-read c.read.new.found.items _ _ c.loop-instance.drivers.items _ (get_or c.args.raw.now.ins k []) c.in_ok-read.ensures c.clear.ensures.items c.as_slice.ensures.value c.list.ensures in
    let n = ap length (c.as_slice-in-loop-instance.ensures.value ∙ e) ∙ length-map (get_or c.args.raw.now.ins k []) (λ j. get_or c.loop-instance.drivers.items j 0) in
    let o = outs-read c.outs.new.found.items _ _ c.in_ok-outs.ensures c.clear-in-loop-instance.ensures.items in
    let w = write-read c.write.new.values _ _ _ c.loop-instance.drivers.items (get_or c.args.raw.now.outs k []) c.outs.new.found.items c.write.ensures c.as_mut_slice.ensures.value c.list-in-loop-instance.ensures c.as_slice-in-loop-instance-2.ensures.value in
    let b = back c.write.new.values c.loop-instance.drivers.items c.loop-instance.drivers.len (omega (arith, ap length w, put-long c.loop-instance.drivers.items (get_or c.args.raw.now.outs k []) c.outs.new.found.items, c.loop-instance.drivers.ok)) in
    next-drivers c.args.self.now.flats c.args.raw.now c.requires.well c.args.found.now c.requires.placed k p a c.index-part.result.now c.index-part.ensures c.index.result.now f c.args.order.now c.loop-instance.instance-index c.requires.order c.loop-instance-test.true refl c.loop-instance.drivers.items _ c.outs.new.found.items _
    c.loop-instance.invariant (c.as_slice-in-loop-instance.ensures.value ∙ e) o (b ∙ w)

pub returns : goal.returns
returns c =
    let a = accepted-has c.args.self.now.flats (module_view c.args.raw.now) c.requires.placed.carrying c.requires.placed.accepted in
    drivers-end c.args.self.now.flats (module_view c.args.raw.now) a c.args.raw.now.nets c.args.order.now c.loop-instance.drivers.items c.loop-instance.instance-index c.requires.order c.loop-instance-test.false c.loop-instance.invariant
