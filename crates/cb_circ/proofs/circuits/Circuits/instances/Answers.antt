use Rattle.std.proofs.Common.{◌+◌, ◌<◌, ◌++◌, min, length, drop, get_or, [], refl, ap, sym, subst, ◌∙◌, arith, append-nil}
use Rattle.std.proofs.lemmas.List.{length-map, take_all}
use Rattle.cb_model.specs.Circuits.{placed_from, part_of}
use Rattle.cb_flat.specs.Flatten.{placed_of}
use Rattle.cb_model.specs.Facts.{instances_fault}
use Rattle.cb_circ.specs.View.{module_view}
use Rattle.cb_circ.specs.Parts.{AreNamed, gates_of, all_gates}
use Rattle.cb_circ.proofs.Filling.{named-on, firsts-on, firsts_of}
use Rattle.cb_circ.proofs.Names.{no_instance}
use Rattle.cb_circ.proofs.Loops.{next, past}
use Rattle.cb_circ.proofs.Marking.{lists-long}
use Rattle.cb_circ.proofs.Refusing.{shape-at, no-such-part, wrong-pins, no-fault, named-part, gates-on}
use Rattle.cb_circ.proofs.circuits.Circuits.instances.Goals as goal

pub list-requires : goal.list-requires
list-requires c =
    let long = lists-long c.args.raw.now c.requires in
    let t = length-map c.args.raw.now.parts.items (λ p. p.now) in
    omega (arith, long.0, long.1, t, c.loop-at-test.true, c.len-at-end.ensures, c.args.raw.now.parts.ok)

pub list-requires-in-loop-at : goal.list-requires-in-loop-at
list-requires-in-loop-at c =
    let long = lists-long c.args.raw.now c.requires in
    let t = length-map c.args.raw.now.parts.items (λ p. p.now) in
    omega (arith, long.0, long.2, t, c.loop-at-test.true, c.len-at-end.ensures, c.args.raw.now.parts.ok)

pub returns-in_default : goal.returns-in_default
returns-in_default c =
    let r = c.args.raw.now in
    let fs = c.args.self.now.flats in
    let at = c.loop-at.at in
    let l : at < length r.parts.items = omega (arith, c.loop-at-test.true, c.len-at-end.ensures, r.parts.ok) in
    let long = lists-long r c.requires in
    let t = length-map r.parts.items (λ p. p.now) in
    let s = shape-at r c.requires at c.index-name.result.now (get_or r.ins at []) (get_or r.outs at []) l c.index-name.ensures refl refl in
    c.loop-at.invariant.faults ∙ ap (instances_fault fs) (next (module_view r).instances at no_instance (omega (arith, l, long.0, t)))
    ∙ no-such-part fs (get_or (module_view r).instances at no_instance) (drop (at + 1) (module_view r).instances) _ _ _ s c.in_default.ensures

pub returns-then-not-fits : goal.returns-then-not-fits
returns-then-not-fits c =
    let r = c.args.raw.now in
    let fs = c.args.self.now.flats in
    let at = c.loop-at.at in
    let l : at < length r.parts.items = omega (arith, c.loop-at-test.true, c.len-at-end.ensures, r.parts.ok) in
    let long = lists-long r c.requires in
    let t = length-map r.parts.items (λ p. p.now) in
    let s = shape-at r c.requires at c.index-name.result.now c.list.result.now c.list-in-loop-at.result.now l c.index-name.ensures c.list.ensures c.list-in-loop-at.ensures in
    c.loop-at.invariant.faults ∙ ap (instances_fault fs) (next (module_view r).instances at no_instance (omega (arith, l, long.0, t)))
    ∙ wrong-pins fs (get_or (module_view r).instances at no_instance) (drop (at + 1) (module_view r).instances) c.index-name.result.now.now (length c.list.result.now) (length c.list-in-loop-at.result.now) s (named-part fs c.index-name.result.now.now c.in-Some.part c.in-Some.ensures) (sym c.if-not-fits.ensures)

pub loop-at-preserved : goal.loop-at-preserved
loop-at-preserved c =
    let r = c.args.raw.now in
    let fs = c.args.self.now.flats in
    let at = c.loop-at.at in
    let i = get_or (module_view r).instances at no_instance in
    let rest = drop (at + 1) (module_view r).instances in
    let l : at < length r.parts.items = omega (arith, c.loop-at-test.true, c.len-at-end.ensures, r.parts.ok) in
    let long = lists-long r c.requires in
    let t = length-map r.parts.items (λ p. p.now) in
    let d = next (module_view r).instances at no_instance (omega (arith, l, long.0, t)) in
    let s = shape-at r c.requires at c.index-name.result.now c.list.result.now c.list-in-loop-at.result.now l c.index-name.ensures c.list.ensures c.list-in-loop-at.ensures in
    record {
      faults = c.loop-at.invariant.faults ∙ ap (instances_fault fs) d ∙ no-fault fs i rest c.index-name.result.now.now (length c.list.result.now) (length c.list-in-loop-at.result.now) s (named-part fs c.index-name.result.now.now c.in-Some.part c.in-Some.ensures) (sym c.if-not-fits.ensures);
      gates = gates-on fs i rest c.index-name.result.now.now (length c.list.result.now) (length c.list-in-loop-at.result.now) c.loop-at.gates c.part_gates.result c.min-gates.result (all_gates fs (module_view r).instances) s c.part_gates.ensures.gates c.min-gates.ensures
          (sym (ap (λ is. min (c.loop-at.gates + all_gates fs is) 1000001) d) ∙ c.loop-at.invariant.gates);
      small = omega (arith, c.min-gates.ensures);
      named = named-on fs (module_view r).instances at c.loop-at.parts.items c.push.new.self.items c.in-Some.part c.index-name.result.now.now (omega (arith, l, long.0, t)) s.named c.in-Some.ensures c.in_ok-push.ensures.items c.loop-at.invariant.named;
      first = firsts-on fs i (drop at (module_view r).instances) rest c.loop-at.firsts.items c.push-in-loop-at.new.self.items (firsts_of (placed_of fs (module_view r))) c.loop-at.gates c.min-gates.result c.part_gates.result d (ap (gates_of fs) s.named ∙ sym c.part_gates.ensures.gates) c.min-gates.ensures c.in_ok-push-2.ensures.items c.loop-at.invariant.first;
    }

pub returns : goal.returns
returns c =
    let r = c.args.raw.now in
    let fs = c.args.self.now.flats in
    let at = c.loop-at.at in
    let long = lists-long r c.requires in
    let t = length-map r.parts.items (λ p. p.now) in
    let d = past (module_view r).instances at (omega (arith, c.loop-at-test.false, c.len-at-end.ensures, r.parts.ok, long.0, t)) in
    record {
      faultless = c.loop-at.invariant.faults ∙ ap (instances_fault fs) d;
      named = subst (λ is. AreNamed fs is c.loop-at.parts.items) (take_all at (module_view r).instances (omega (arith, c.loop-at-test.false, c.len-at-end.ensures, r.parts.ok, long.0, t))) c.loop-at.invariant.named;
      gates = let g = sym (ap (λ is. min (c.loop-at.gates + all_gates fs is) 1000001) d) ∙ c.loop-at.invariant.gates in omega (arith, g, c.loop-at.invariant.small);
      first = λ few. sym (ap (λ is. c.loop-at.firsts.items ++ firsts_of (placed_from (part_of fs) c.loop-at.gates is)) d ∙ append-nil c.loop-at.firsts.items) ∙ c.loop-at.invariant.first few;
    }
