-- The loops over steps.
use Rattle.std.proofs.Common.{◌≡◌, ℕ, ◌+◌, refl, ap, ◌∙◌}
use Rattle.cb_branch.specs.Running.{program_of, query_of}
use Rattle.cb_branch.proofs.Laws.{keeps-then}
use Rattle.cb_solve.specs.declared.Machine.{Machine}
use Rattle.cb_solve.specs.declared.Stepped.{Stepped}
use Rattle.cb_solve.specs.declared.Stepped.TheVariants as stepped
use Rattle.cb_solve.specs.Machine.{AtStep, IsFew, IsRan, IsSame, IsStep, Ongoing, Runs, RunsAt}
use Rattle.cb_solve.proofs.Adds.{same-self}
use Rattle.cb_solve.proofs.Chosen.{moved, moved-to}
use Rattle.cb_solve.proofs.Resolving.{few-from, same-run}

pub same-then : (m n o : Machine) → IsSame m n → IsSame n o → IsSame m o
same-then m n o h k = record { budget = k.budget ∙ h.budget; answers = k.answers ∙ h.answers; used = k.used ∙ h.used; keeps = keeps-then m.branch n.branch o.branch h.keeps k.keeps }

pub ongoing-start : (m : Machine) → Runs m → Ongoing m m
ongoing-start m h = record { b = h.b; runs = h.runs; on = h.on; same = same-self m }

module _ (old m : Machine) (h : Ongoing old m) where
  pub ongoing-runs : Runs m
  ongoing-runs = record { b = h.b; runs = moved-to (λ p q. RunsAt p q m h.b) old.branch m.branch h.same.keeps h.runs; on = h.on }

  pub ongoing-at : (n : Machine) (r : Stepped) → AtStep (program_of m.branch) (query_of m.branch) n r → AtStep (program_of old.branch) (query_of old.branch) n r
  ongoing-at n r a = moved (λ p q. AtStep p q n r) old.branch m.branch h.same.keeps a

  pub ongoing-step : (n : Machine) → AtStep (program_of m.branch) (query_of m.branch) n stepped.Goes → IsStep m n stepped.Goes → Ongoing old n
  ongoing-step n a s = let x = ongoing-at n stepped.Goes a in record { b = x.1.0; runs = x.1.1; on = x.0; same = same-then old m n h.same s.0 }

  pub ongoing-ran : (n : Machine) (r : Stepped) → (r ≡ stepped.Goes → ⊥) → IsStep m n r → IsRan old n r
  ongoing-ran n stepped.Goes ne s = absurd (ne refl)
  ongoing-ran n stepped.Left ne s = same-then old m n h.same s
  ongoing-ran n stepped.Answer ne s =
      (s.0 ∙ h.same.budget, (s.1.0 ∙ ap (λ (x : ℕ). x + 1) h.same.answers, (s.1.1.0 ∙ h.same.used, keeps-then old.branch m.branch n.branch h.same.keeps s.1.1.1)))
  ongoing-ran n (stepped.Stopped w) ne s = same-then old m n h.same s
  ongoing-ran n stepped.End ne s = s

  pub ongoing-few : (n : Machine) → IsFew m n → IsFew old n
  ongoing-few n f = few-from old m n (same-run old m h.same) f
