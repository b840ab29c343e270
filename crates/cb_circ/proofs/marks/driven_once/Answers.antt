use Rattle.std.proofs.Common.{◌≡◌, ◌&&◌, length, replicate, true, false, flat_map, ap, sym, ◌∙◌, arith, rules}
use Rattle.cb_circ.specs.Marks.{marked, are_marked}
use Rattle.cb_circ.proofs.Marking.{within-as, marked-long, written-back, marks-made, driven-twice, driven-by-marks, outs-within, outputs-within, ins-within}
use Rattle.cb_circ.proofs.marks.driven_once.Goals as goal

pub mark-requires : goal.mark-requires
mark-requires c =
    within-as (length c.args.raw.now.nets) _ _ c.items.result.now (outs-within c.args.raw.now c.requires) (omega (arith, c.as_mut_slice.ensures.len, c.in_ok-resize.ensures.len, c.len.ensures)) c.items.ensures

pub returns-then-not-mark : goal.returns-then-not-mark
returns-then-not-mark c =
    let r = c.args.raw.now in
    let v : c.in_ok-marks.marks.items ≡ replicate r.inputs true = search rules in
    let e = c.as_mut_slice.ensures.value ∙ marks-made r c.requires c.in_ok-marks.marks.items _ c.len.result _ v c.len.ensures c.in_ok-marks.ensures.len c.in_ok-resize.ensures.items in
    sym (driven-twice r c.requires c.as_mut_slice.result.now e (ap (marked c.as_mut_slice.result.now) (sym c.items.ensures) ∙ c.if-not-mark.ensures))

pub all_marked-requires : goal.all_marked-requires
all_marked-requires c =
    let back = written-back c.mark.new.marks c.resize.new.self.items c.resize.new.self.len (omega (arith, marked-long c.as_mut_slice.result.now c.mark.new.marks c.items.result.now c.if-not-mark.ensures, c.as_mut_slice.ensures.len, c.resize.new.self.ok)) in
    let m = marked-long c.as_mut_slice.result.now c.mark.new.marks c.items.result.now c.if-not-mark.ensures in
    within-as (length c.args.raw.now.nets) _ _ c.as_slice-2.result.now (outputs-within c.args.raw.now c.requires)
    (omega (arith, m, ap length (c.as_slice.ensures.value ∙ back), c.as_mut_slice.ensures.len, c.in_ok-resize.ensures.len, c.len.ensures)) c.as_slice-2.ensures.value

pub returns-then-not-all_marked : goal.returns-then-not-all_marked
returns-then-not-all_marked c =
    let r = c.args.raw.now in
    let v : c.in_ok-marks.marks.items ≡ replicate r.inputs true = search rules in
    let e = c.as_mut_slice.ensures.value ∙ marks-made r c.requires c.in_ok-marks.marks.items _ c.len.result _ v c.len.ensures c.in_ok-marks.ensures.len c.in_ok-resize.ensures.items in
    let d = driven-by-marks r c.requires c.as_mut_slice.result.now e c.mark.new.marks (ap (marked c.as_mut_slice.result.now) (sym c.items.ensures) ∙ c.if-not-mark.ensures) in
    let back = written-back c.mark.new.marks c.resize.new.self.items c.resize.new.self.len (omega (arith, marked-long c.as_mut_slice.result.now c.mark.new.marks c.items.result.now c.if-not-mark.ensures, c.as_mut_slice.ensures.len, c.resize.new.self.ok)) in
    let f : are_marked c.mark.new.marks r.outputs.items ≡ false = ap (λ v. are_marked v r.outputs.items) (sym (c.as_slice.ensures.value ∙ back)) ∙ ap (are_marked c.as_slice.result.now) (sym c.as_slice-2.ensures.value) ∙ sym c.if-not-all_marked.ensures in
    sym (d ∙ ap (λ b. b && are_marked c.mark.new.marks (flat_map (λ ks. ks) r.ins)) f)

pub all_marked-requires-2 : goal.all_marked-requires-2
all_marked-requires-2 c =
    let back = written-back c.mark.new.marks c.resize.new.self.items c.resize.new.self.len (omega (arith, marked-long c.as_mut_slice.result.now c.mark.new.marks c.items.result.now c.if-not-mark.ensures, c.as_mut_slice.ensures.len, c.resize.new.self.ok)) in
    let m = marked-long c.as_mut_slice.result.now c.mark.new.marks c.items.result.now c.if-not-mark.ensures in
    within-as (length c.args.raw.now.nets) _ _ c.items-2.result.now (ins-within c.args.raw.now c.requires)
    (omega (arith, m, ap length (c.as_slice-3.ensures.value ∙ back), c.as_mut_slice.ensures.len, c.in_ok-resize.ensures.len, c.len.ensures)) c.items-2.ensures

pub returns : goal.returns
returns c =
    let r = c.args.raw.now in
    let v : c.in_ok-marks.marks.items ≡ replicate r.inputs true = search rules in
    let e = c.as_mut_slice.ensures.value ∙ marks-made r c.requires c.in_ok-marks.marks.items _ c.len.result _ v c.len.ensures c.in_ok-marks.ensures.len c.in_ok-resize.ensures.items in
    let d = driven-by-marks r c.requires c.as_mut_slice.result.now e c.mark.new.marks (ap (marked c.as_mut_slice.result.now) (sym c.items.ensures) ∙ c.if-not-mark.ensures) in
    let back = written-back c.mark.new.marks c.resize.new.self.items c.resize.new.self.len (omega (arith, marked-long c.as_mut_slice.result.now c.mark.new.marks c.items.result.now c.if-not-mark.ensures, c.as_mut_slice.ensures.len, c.resize.new.self.ok)) in
    let f : are_marked c.mark.new.marks r.outputs.items ≡ true = ap (λ v. are_marked v r.outputs.items) (sym (c.as_slice.ensures.value ∙ back)) ∙ ap (are_marked c.as_slice.result.now) (sym c.as_slice-2.ensures.value) ∙ sym c.if-not-all_marked.ensures in
    c.all_marked-2.ensures ∙ ap (are_marked c.as_slice-3.result.now) c.items-2.ensures ∙ ap (λ v. are_marked v (flat_map (λ ks. ks) r.ins)) (c.as_slice-3.ensures.value ∙ back)
    ∙ sym (d ∙ ap (λ b. b && are_marked c.mark.new.marks (flat_map (λ ks. ks) r.ins)) f)
