use Rattle.std.proofs.Common.{◌≡◌, Some, rules, subst, sym}
use Rattle.std.specs.Vec.{with_item}
use Rattle.std.specs.Prelude.{Bool, List, true, false, slice_get}
use Rattle.cb_wake.specs.contracts.Waiting.{the_view}
use Rattle.cb_wake.specs.Waits.{Waits, without}
use Rattle.cb_wake.specs.Moments.{KeepsMoments}
use Rattle.cb_wake.proofs.Back.{keeps-taken}
use Rattle.cb_wake.proofs.Waiting.take_next.Goals as goal

pub returns-else-is_err-clause-moments : goal.returns-else-is_err-clause-moments
returns-else-is_err-clause-moments g c =
    let t = rw c.in-Some.is at c.in_ok-found.ensures.some in
    let e : the_view (record { still = with_item c.self.inside.still c.in-Some.k false; taken = c.push.new.self }) ≡ without c.in-Some.k c.args.self.now = search rules in
    subst (λ u. KeepsMoments c.args.self.now u) (sym e) (keeps-taken c.args.self.now c.in-Some.k (subst (λ (w : Waits). slice_get w.still c.in-Some.k ≡ Some true) c.self.view_is (subst (λ (xs : List Bool). slice_get xs c.in-Some.k ≡ Some true) c.as_slice.ensures.value t.0)))
