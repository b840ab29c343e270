-- What a call comes to that is asked whether it is ready.
use Rattle.std.proofs.Common.{◌≡◌, ℕ, ◌≤◌, false, refl, arith, Ok, Err, Result, IfOk}
use Rattle.cb_model.specs.declared.Goal.TheVariants as goal
use Rattle.cb_model.specs.Derivation.{Becomes, Branch, Moves, Ready, Run, is_demon, waits}
use Rattle.cb_dd.specs.declared.Stop.{Stop}
use Rattle.cb_branch.specs.declared.First.TheVariants as first
use Rattle.cb_branch.specs.Running.{IsBranch, Keeps, Seen, behind, program_of, query_of, work_of}
use Rattle.cb_branch.proofs.Laws.{call-plain, keeps-then}
use Rattle.cb_solve.specs.declared.Machine.{Machine}
use Rattle.cb_solve.specs.declared.Stepped.{Stepped}
use Rattle.cb_solve.specs.declared.Stepped.TheVariants as stepped
use Rattle.cb_solve.specs.Machine.{AtStep, Attempts, Has, IsFew, IsSame, IsStep, RunsAt, Waits}
use Rattle.cb_solve.proofs.Stacks.{runs-step, wait-moves}
use Rattle.cb_solve.proofs.Chosen.{moved, moved-to, runs-later, same-branch, with_branch}
use Rattle.cb_solve.proofs.Resolving.{few-from, same-run}
use Rattle.cb_solve.proofs.Loops.{same-then}

-- the branch is the same in a later state
module _ (m : Machine) (pred : ℕ) (t : Seen) (h : Has m (first.Call pred)) (k : Keeps m.branch t) (is : IsBranch t h.b) where
  runs-on : RunsAt (program_of t) (query_of t) (with_branch m t) h.b
  runs-on = moved-to (λ p q. RunsAt p q (with_branch m t) h.b) m.branch t k (runs-later (program_of m.branch) (query_of m.branch) m t h.b h.runs k is)

  plain : is_demon (program_of m.branch) pred ≡ false
  plain = call-plain m.branch h.b pred h.starts.0 h.starts.1 h.runs.is h.starts.2

  pub call-waits : (Ready (program_of m.branch) h.b.items (goal.Call pred h.starts.0) → ⊥) → Waits (with_branch m t)
  call-waits n = record {
    b = h.b;
    runs = runs-on;
    on = h.on;
    pred = pred;
    args = h.starts.0;
    rest = h.starts.1;
    starts = h.starts.2;
    moves = moved-to (λ p q. Moves p (Run h.b) (Becomes (Run (waits (behind h.b h.starts.1) (goal.Call pred h.starts.0))))) m.branch t k
        (wait-moves (program_of m.branch) h.b pred h.starts.0 h.starts.1 h.starts.2 plain n);
  }

  pub call-attempts : Ready (program_of m.branch) h.b.items (goal.Call pred h.starts.0) → Attempts (with_branch m t) pred
  call-attempts r = record {
    b = h.b;
    runs = runs-on;
    args = h.starts.0;
    rest = h.starts.1;
    starts = h.starts.2;
    plain = moved-to (λ p q. is_demon p pred ≡ false) m.branch t k plain;
    ready = moved-to (λ p q. Ready p h.b.items (goal.Call pred h.starts.0)) m.branch t k r;
  }

-- what it comes to then
module _ (m n : Machine) (t : Seen) (k : Keeps m.branch t) where
  pub at-later : (x : Result Stepped Stop) → IfOk x (λ r. AtStep (program_of t) (query_of t) n r) → IfOk x (λ r. AtStep (program_of m.branch) (query_of m.branch) n r)
  at-later x h = moved (λ p q. IfOk x (λ r. AtStep p q n r)) m.branch t k h

  same-later : IsSame (with_branch m t) n → IsSame m n
  same-later h = same-then m (with_branch m t) n (same-branch m t k) h

  step-at : (r : Stepped) → work_of t ≤ work_of m.branch → IsStep (with_branch m t) n r → IsStep m n r
  step-at stepped.Goes w h = (same-later h.0, let l = h.1 in omega arith)
  step-at stepped.Left w h = same-later h
  step-at stepped.Answer w h = (h.0, (h.1.0, (h.1.1.0, keeps-then m.branch t n.branch k h.1.1.1)))
  step-at (stepped.Stopped b) w h = same-later h
  step-at stepped.End w h = h

  pub step-later : (x : Result Stepped Stop) → work_of t ≤ work_of m.branch → IfOk x (λ r. IsStep (with_branch m t) n r) → IfOk x (λ r. IsStep m n r)
  step-later (Ok r) w h = step-at r w h
  step-later (Err s) w h = h

  pub few-later : IsFew (with_branch m t) n → IsFew m n
  few-later h = few-from m (with_branch m t) n (same-run m (with_branch m t) (same-branch m t k)) h

-- a call that waits
pub park-runs : (m : Machine) (t : Seen) (w : Waits m) → IsBranch t (waits (behind w.b w.rest) (goal.Call w.pred w.args)) → Keeps m.branch t →
    (b : Branch) × RunsAt (program_of m.branch) (query_of m.branch) (with_branch m t) b
park-runs m t w is k = let b = waits (behind w.b w.rest) (goal.Call w.pred w.args) in (
  b,
  runs-step (program_of m.branch) (query_of m.branch) m (with_branch m t) w.b b (Becomes (Run b)) w.runs w.moves refl refl refl refl (same-branch m t k) refl is,
)
