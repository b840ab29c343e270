use Rattle.std.proofs.Common.{rules, ◌≡◌, ◌++◌, length, [], ◌∷◌, sym, ap, ◌∙◌, arith, length-append}
use Rattle.cb_shape.specs.declared.walk.Pending.TheVariants as pending
use Rattle.cb_shape.specs.Walk.{leaves_of, turned}
use Rattle.cb_shape.proofs.Resting.{walking-starts, walking-last, walking-on, walking-falls, walking-ends}
use Rattle.cb_shape.proofs.Wide.{wide-so-far, narrow, within}
use Rattle.cb_shape.proofs.shape.Goals as goal

pub steps-init : goal.steps-init
steps-init c = record {
  walks = λ ps are.
      walking-starts c.args.heap.now.cells c.args.roots.now ps c.new-walk.result c.push.new.self.items are c.new-walk.ensures.tokens c.new-walk.ensures.slots c.new-walk.ensures.opens
      c.new-walk.ensures.places (c.in_ok-push.ensures.items ∙ ap (λ q. q ++ pending.Roots 0 ∷ []) c.new-pending.ensures.items);
  few = let e = c.new-walk.ensures.places in omega arith;
  short = let e = ap length c.new-walk.ensures.slots in omega arith;
}

pub step-requires-clause-work : goal.step-requires-clause-work
step-requires-clause-work c =
    walking-last c.args.heap.now.cells c.args.roots.now c.requires.terms.0 c.steps.walk c.steps.pending.items c.pop.new.self.items c.in-Some.next
    (c.steps.invariant.walks c.requires.terms.0 c.requires.terms.1) c.in-Some.ensures.items

pub returns-then-is_wide : goal.returns-then-is_wide
returns-then-is_wide c = λ ps are.
    let h =
    walking-on c.args.heap.now.cells c.args.roots.now ps c.steps.walk c.step.new.walk c.steps.pending.items c.pop.new.self.items c.step.new.pending.items c.in-Some.next
    (c.steps.invariant.walks ps are) c.in-Some.ensures.items c.in_ok-step.ensures in
    let p = h.places in
    let s = ap length h.slots in
    let l = length-append c.step.new.walk.slots.items (leaves_of (turned h.works)) in
    wide-so-far ps c.step.new.walk.places (length c.step.new.walk.slots.items) (sym c.is_wide.ensures ∙ c.if-is_wide.true) (omega arith) (omega arith)

pub steps-smaller : goal.steps-smaller
steps-smaller c =
    let w = walking-last c.args.heap.now.cells c.args.roots.now c.requires.terms.0 c.steps.walk c.steps.pending.items c.pop.new.self.items c.in-Some.next
    (c.steps.invariant.walks c.requires.terms.0 c.requires.terms.1) c.in-Some.ensures.items in
    let s = c.in_ok-step.ensures w.0 w.1 in
    let up = s.writes.adds.places in
    let l = ap length c.in-Some.ensures.items ∙ length-append c.pop.new.self.items (c.in-Some.next ∷ []) in
    walking-falls c.steps.walk.places c.step.new.walk.places (length c.steps.pending.items) (length c.pop.new.self.items) (length c.step.new.pending.items) c.steps.invariant.few l s.on (omega arith)

pub steps-preserved : goal.steps-preserved
steps-preserved c =
    let w = within c.step.new.walk.places (length c.step.new.walk.slots.items) (sym c.is_wide.ensures ∙ c.if-is_wide.false) in
    record {
      walks = λ ps are.
          walking-on c.args.heap.now.cells c.args.roots.now ps c.steps.walk c.step.new.walk c.steps.pending.items c.pop.new.self.items c.step.new.pending.items c.in-Some.next
          (c.steps.invariant.walks ps are) c.in-Some.ensures.items c.in_ok-step.ensures;
      few = w.0;
      short = w.1;
    }

pub returns : goal.returns
returns c = λ ps are.
    let none : c.steps.pending.items ≡ [] = search rules in
    let r = walking-ends c.args.heap.now.cells c.args.roots.now ps c.steps.walk c.steps.pending.items (c.steps.invariant.walks ps are) none in
    let f = c.steps.invariant.few in
    let s = c.steps.invariant.short in
    let p = r.2 in
    let l = ap length r.1 in
    record { narrow = narrow ps (omega arith) (omega arith); tokens = r.0; slots = r.1 }
