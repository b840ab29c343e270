use Rattle.std.proofs.Common.{◌≡◌, ◌<◌, ◌++◌, true, false, length, slice_set, get_or, sym, subst, ◌∙◌, arith, rules, length-set}
use Rattle.std.specs.List.Sorted.{IsPermutation}
use Rattle.std.proofs.lemmas.List.{get_or_default}
use Rattle.cb_model.specs.Bits.{numbers}
use Rattle.cb_levels.specs.Meeting.{unmarked}
use Rattle.cb_levels.proofs.Marks.{met-next}
use Rattle.cb_levels.proofs.Meeting.meet.Goals as goal

pub returns-in_ok-push-clause-meeting : goal.returns-in_ok-push-clause-meeting
returns-in_ok-push-clause-meeting c =
    let met = c.args.self.now.met.items in
    let old = c.requires.meeting in
    let l : c.args.input < length met = omega (arith, c.requires.input, old.inputs) in
    let off : c.index.result.now ≡ false = search rules in
    let here : get_or met c.args.input true ≡ false = get_or_default met c.args.input true c.index.result.now l ∙ sym c.index.ensures ∙ off in
    record {
      inputs = length-set met c.args.input true ∙ old.inputs;
      gates = old.gates;
      once = subst (λ o. IsPermutation (numbers c.args.circuit.now.inputs) (o ++ unmarked 0 (slice_set met c.args.input true))) (sym c.in_ok-push.ensures.items)
          (met-next (numbers c.args.circuit.now.inputs) c.args.self.now.order.items met c.args.input l here old.once);
    }
