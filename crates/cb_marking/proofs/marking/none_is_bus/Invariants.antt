use Rattle.std.specs.Prelude.{Contains}
use Rattle.std.proofs.Common.{◌≡◌, ℕ, take, get_or}
use Rattle.cb_model.specs.declared.Sort.TheVariants as sort
use Rattle.cb_marking.proofs.marking.none_is_bus.Given as goal

abbrev pub invariant-loop-equation : goal.invariant-loop-equation
invariant-loop-equation l = (k : ℕ) → Contains (take l.equation-index l.equations) k → get_or l.sorts k sort.Term ≡ sort.Bus → ⊥
