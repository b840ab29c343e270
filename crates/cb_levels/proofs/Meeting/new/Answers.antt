use Rattle.std.proofs.Common.{◌≡◌, ◌++◌, [], false, length, replicate, sym, subst, rules}
use Rattle.std.specs.List.Sorted.{IsPermutation}
use Rattle.std.proofs.lemmas.List.Sorted.{IsPermutation-refl}
use Rattle.cb_model.specs.Bits.{numbers}
use Rattle.cb_levels.specs.Meeting.{unmarked}
use Rattle.cb_levels.proofs.Marks.{none-marked}
use Rattle.cb_levels.proofs.Meeting.new.Goals as goal

pub returns : goal.returns
returns c =
    let n = c.args.circuit.now.inputs in
    let met : c.in_ok-vec.field-0.items ≡ replicate n false = search rules in
    let order : c.in_ok-with_capacity.field-0.items ≡ [] = search rules in
    let inputs : length c.in_ok-vec.field-0.items ≡ n = search rules in
    let gates : length c.in_ok-vec-2.field-0.items ≡ length c.args.circuit.now.gates = search rules in
    record {
      inputs = inputs;
      gates = gates;
      once = subst (λ o. IsPermutation (numbers n) (o ++ unmarked 0 c.in_ok-vec.field-0.items)) (sym order)
          (subst (λ ms. IsPermutation (numbers n) (unmarked 0 ms)) (sym met) (subst (IsPermutation (numbers n)) (sym (none-marked 0 n)) (IsPermutation-refl (numbers n))));
    }
