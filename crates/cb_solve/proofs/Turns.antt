-- Turns of the machine.
use Rattle.std.proofs.Common.{◌≡◌, ◌-◌, ◌<◌, inl, inr, true, false, refl, ◌∙◌, arith, Ok, Err, Result, IfOk}
use Rattle.cb_model.specs.Derivation.{Query}
use Rattle.cb_model.specs.Program.{Program}
use Rattle.cb_dd.specs.declared.Stop.{Stop}
use Rattle.cb_branch.specs.Running.{program_of, query_of}
use Rattle.cb_branch.proofs.Laws.{asked-keeps, fulls-keep, nodes-keep, program-keeps, query-keeps, source-keeps}
use Rattle.cb_solve.specs.declared.Machine.{Machine}
use Rattle.cb_solve.specs.declared.Stepped.{Stepped}
use Rattle.cb_solve.specs.declared.Stepped.TheVariants as stepped
use Rattle.cb_solve.specs.Machine.{AtStep, IsFew, IsNext, IsRan, IsSame, IsTurn, IsTurned, IsEvent, IsHeardOf, Onward, Runs, Stands, TriesAt, answers_of}
use Rattle.cb_solve.proofs.Resolving.{as-of, to-of, few-from, same-run}

pub stands-off : (p : Program) (q : Query) (m : Machine) → Stands p q m → m.running ≡ false → TriesAt p q m
stands-off p q m (inl h) e = let t = h.0 in absurd (cc)
stands-off p q m (inr h) e = h.1

pub stands-on : (m : Machine) → Stands (program_of m.branch) (query_of m.branch) m → m.running ≡ true → Runs m
stands-on m (inl h) e = record { b = h.1.0; runs = h.1.1; on = e }
stands-on m (inr h) e = let t = h.0 in absurd (cc)

-- a turn that is one resolution
pub turned-turn : (m n : Machine) (x : Result Stepped Stop) → IfOk x (λ r. IsTurn m n r) → IfOk x (λ r. IsTurned m n r)
turned-turn m n (Ok r) h = record {
  budget = h.budget;
  answers = let a = h.answers in let q = h.quiet in omega arith;
  program = h.program;
  query = h.query;
  source = h.source;
  asked = h.asked;
  nodes = h.nodes;
  fulls = h.fulls;
  used = h.used;
  counts = λ next. let c = h.counts next in (let e = c.0 in omega arith, c.1);
}
turned-turn m n (Err s) h = h

-- a turn behind steps of the branch that runs
pub turned-ran : (m o n : Machine) (x : Result Stepped Stop) → IsSame m o → IfOk x (λ r. IsTurn o n r) → IfOk x (λ r. IsTurned m n r)
turned-ran m o n (Ok r) s h = record {
  budget = h.budget ∙ s.budget;
  answers = let a = h.answers in let q = h.quiet in let b = s.answers in omega arith;
  program = h.program ∙ program-keeps m.branch o.branch s.keeps;
  query = h.query ∙ query-keeps m.branch o.branch s.keeps;
  source = h.source ∙ source-keeps m.branch o.branch s.keeps;
  asked = h.asked ∙ asked-keeps m.branch o.branch s.keeps;
  nodes = h.nodes ∙ nodes-keep m.branch o.branch s.keeps;
  fulls = let a = h.fulls in let b = fulls-keep m.branch o.branch s.keeps in omega arith;
  used = let u = h.used in let v = s.used in omega arith;
  counts = λ next. let c = h.counts next in let e = c.0 in let l = c.1 in let u = s.used in let b = s.budget in (omega arith, omega arith);
}
turned-ran m o n (Err e) s h = h

pub at-ran : (m o n : Machine) (x : Result Stepped Stop) → IsSame m o → IfOk x (λ r. AtStep (program_of o.branch) (query_of o.branch) n r) → IfOk x (λ r. AtStep (program_of m.branch) (query_of m.branch) n r)
at-ran m o n x s h = as-of (λ p q. IfOk x (λ r. AtStep p q n r)) m.branch o.branch (program-keeps m.branch o.branch s.keeps) (query-keeps m.branch o.branch s.keeps) h

pub few-ran : (m o n : Machine) → IsSame m o → IsFew o n → IsFew m n
few-ran m o n s h = few-from m o n (same-run m o s) h

pub tries-ran : (m o : Machine) → IsSame m o → TriesAt (program_of m.branch) (query_of m.branch) o → TriesAt (program_of o.branch) (query_of o.branch) o
tries-ran m o s h = to-of (λ p q. TriesAt p q o) m.branch o.branch (program-keeps m.branch o.branch s.keeps) (query-keeps m.branch o.branch s.keeps) h

pub turned-answer : (m n : Machine) → IsRan m n stepped.Answer → IsTurned m n stepped.Answer
turned-answer m n h = record {
  budget = h.0;
  answers = h.1.0;
  program = program-keeps m.branch n.branch h.1.1.1;
  query = query-keeps m.branch n.branch h.1.1.1;
  source = source-keeps m.branch n.branch h.1.1.1;
  asked = asked-keeps m.branch n.branch h.1.1.1;
  nodes = nodes-keep m.branch n.branch h.1.1.1;
  fulls = fulls-keep m.branch n.branch h.1.1.1;
  used = let u = h.1.1.0 in omega arith;
  counts = λ next. absurd next;
}

pub turned-stopped : (m n : Machine) (r : Stepped) → IsSame m n → answers_of r ≡ 0 → (IsNext r → ⊥) → IsTurned m n r
turned-stopped m n r s q no_next = record {
  budget = s.budget;
  answers = let a = s.answers in omega arith;
  program = program-keeps m.branch n.branch s.keeps;
  query = query-keeps m.branch n.branch s.keeps;
  source = source-keeps m.branch n.branch s.keeps;
  asked = asked-keeps m.branch n.branch s.keeps;
  nodes = nodes-keep m.branch n.branch s.keeps;
  fulls = fulls-keep m.branch n.branch s.keeps;
  used = let u = s.used in omega arith;
  counts = λ next. absurd (no_next next);
}

-- ---- the loop

pub onward-start : (m : Machine) → Stands (program_of m.branch) (query_of m.branch) m → Onward m m
onward-start m h = record { stands = h; budget = refl; answers = refl; program = refl; query = refl; source = refl; asked = refl; nodes = refl; fulls = omega arith; used = omega arith }

module _ (old m : Machine) (h : Onward old m) where
  pub onward-stands : Stands (program_of m.branch) (query_of m.branch) m
  onward-stands = to-of (λ p q. Stands p q m) old.branch m.branch h.program h.query h.stands

  pub onward-at : (n : Machine) (r : Stepped) → AtStep (program_of m.branch) (query_of m.branch) n r → AtStep (program_of old.branch) (query_of old.branch) n r
  onward-at n r a = as-of (λ p q. AtStep p q n r) old.branch m.branch h.program h.query a

  pub onward-turned : (n : Machine) (r : Stepped) → IsTurned m n r → IsTurned old n r
  onward-turned n r t = record {
    budget = t.budget ∙ h.budget;
    answers = let a = t.answers in let b = h.answers in omega arith;
    program = t.program ∙ h.program;
    query = t.query ∙ h.query;
    source = t.source ∙ h.source;
    asked = t.asked ∙ h.asked;
    nodes = t.nodes ∙ h.nodes;
    fulls = let a = t.fulls in let b = h.fulls in omega arith;
    used = let u = t.used in let v = h.used in omega arith;
    counts = λ next. let c = t.counts next in let l = c.0 in let r = c.1 in let u = h.used in let b = h.budget in (omega arith, omega arith);
  }

  pub onward-next : (n : Machine) (r : Stepped) → IsNext r → AtStep (program_of m.branch) (query_of m.branch) n r → IsTurned m n r → Onward old n
  onward-next n r next a t = record {
    stands = stand r next (onward-at n r a);
    budget = t.budget ∙ h.budget;
    answers = let x = t.answers in let b = h.answers in let z = quiet r next in omega arith;
    program = t.program ∙ h.program;
    query = t.query ∙ h.query;
    source = t.source ∙ h.source;
    asked = t.asked ∙ h.asked;
    nodes = t.nodes ∙ h.nodes;
    fulls = let a = t.fulls in let b = h.fulls in omega arith;
    used = let u = t.used in let v = h.used in omega arith;
  }
    where
      quiet : (r : Stepped) → IsNext r → answers_of r ≡ 0
      quiet stepped.Goes h = refl
      quiet stepped.Left h = refl
      quiet stepped.Answer h = absurd h
      quiet (stepped.Stopped w) h = absurd h
      quiet stepped.End h = absurd h

      stand : (r : Stepped) → IsNext r → AtStep (program_of old.branch) (query_of old.branch) n r → Stands (program_of old.branch) (query_of old.branch) n
      stand stepped.Goes k a = inl a
      stand stepped.Left k a = inr a
      stand stepped.Answer k a = absurd k
      stand (stepped.Stopped w) k a = absurd k
      stand stepped.End k a = absurd k

  pub onward-few : (n : Machine) → IsFew m n → IsFew old n
  onward-few n f = few-from old m n (record { program = h.program; query = h.query; source = h.source; asked = h.asked; budget = h.budget; answers = h.answers; nodes = h.nodes; fulls = h.fulls }) f

  pub onward-smaller : (n : Machine) (r : Stepped) → IsNext r → IsTurned m n r → n.budget - n.used < m.budget - m.used
  onward-smaller n r next t = let c = t.counts next in let l = c.0 in let k = c.1 in let b = t.budget in omega arith

pub is-event : (r : Stepped) → IsHeardOf r → IsEvent r
is-event stepped.Goes h = h
is-event stepped.Left h = h
is-event stepped.Answer h = h
is-event (stepped.Stopped w) h = h
is-event stepped.End h = h
