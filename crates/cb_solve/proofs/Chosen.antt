-- What the first goal of the branch that runs comes to.
use Rattle.std.proofs.Common.{◌≡◌, ℕ, ◌+◌, false, List, [], ◌∷◌, ◌++◌, Some, None, refl, sym, ap, subst, ◌∙◌, arith}
use Rattle.std.specs.Prelude.{slice_get}
use Rattle.cb_model.specs.declared.Goal.{Goal}
use Rattle.cb_model.specs.declared.Goal.TheVariants as goal
use Rattle.cb_model.specs.Program.{Program, first_clause}
use Rattle.cb_model.specs.Derivation.{Branch, Entry, Run, Try, Query, SoFar, Becomes, Dropped}
use Rattle.cb_branch.specs.Running.{Seen, IsBranch, IsCall, Keeps, moment_of, program_of, query_of, behind}
use Rattle.cb_branch.proofs.Laws.{keeps-refl, program-keeps, query-keeps}
use Rattle.cb_solve.specs.declared.Choice.{Choice}
use Rattle.cb_solve.specs.declared.Machine.{Machine}
use Rattle.cb_model.specs.Derivation.{RunMoves, Answered}
use Rattle.cb_solve.proofs.Runs.{moves-first}
use Rattle.cb_solve.specs.Machine.{Attempts, Runs, AnswersAt, more, Counted, RunsAt, TriesAt, Chooses, IsSame}
use Rattle.cb_solve.proofs.Stacks.{stacked-later, counted-step, runs-step, leaves-step, try-moves}
use Rattle.cb_solve.proofs.Clauses.{first-there}

-- the run is that of a machine with the same counts
pub counted-as : (p : Program) (q : Query) (m n : Machine) (es : List Entry) → Counted p q m es → n.branch ≡ m.branch → n.budget ≡ m.budget → n.used ≡ m.used → n.answers ≡ m.answers → Counted p q n es
counted-as p q m n es h hs hb hu ha = record {
  notes = h.notes;
  so_far = subst (λ (x : ℕ). SoFar p q x h.notes n.used es) (sym hb) (subst (λ (x : ℕ). SoFar p q m.budget h.notes x es) (sym hu) h.so_far);
  many = h.many ∙ sym ha;
  program = ap (λ (s : Seen). program_of s) hs ∙ h.program;
  query = ap (λ (s : Seen). query_of s) hs ∙ h.query;
}

pub choose-tries : (p : Program) (q : Query) (m n : Machine) (call k : ℕ) (top : Choice) → Chooses p q m call k → top.call.0 ≡ call → top.clause ≡ k → top.mark ≡ moment_of m.branch →
    n.choices.items ≡ m.choices.items ++ top ∷ [] → n.branch ≡ m.branch → n.budget ≡ m.budget → n.used ≡ m.used → n.answers ≡ m.answers → TriesAt p q n
choose-tries p q m n call k top h ec ek em hc hs hb hu ha = record {
  lower = Try h.b h.pred h.args k ∷ h.lower;
  counted = counted-as p q m n _ h.counted hs hb hu ha;
  stacked =
      more m.branch h.b h.pred h.args h.c m.choices.items top h.lower hc (ap (λ (x : ℕ). Try h.b h.pred h.args x ∷ h.lower) (sym ek))
      (subst (λ (s : Seen). Keeps m.branch s) (sym hs) (keeps-refl m.branch)) em h.is (subst (λ (x : ℕ). IsCall m.branch x h.pred h.args) (sym ec) h.cells)
      (subst (λ (x : ℕ). slice_get (program_of m.branch).clauses x ≡ Some h.c) (sym ek) h.there) h.of h.stacked;
  few = let f = h.few in omega (arith, hu, ha);
}

-- ---- other branches of the same program

pub moved : (F : Program → Query → Type 0) (s t : Seen) → Keeps s t → F (program_of t) (query_of t) → F (program_of s) (query_of s)
moved F s t k f = subst (λ (x : Program). F x (query_of s)) (program-keeps s t k) (subst (λ (x : Query). F (program_of t) x) (query-keeps s t k) f)

pub moved-to : (F : Program → Query → Type 0) (s t : Seen) → Keeps s t → F (program_of s) (query_of s) → F (program_of t) (query_of t)
moved-to F s t k f = subst (λ (x : Program). F x (query_of t)) (sym (program-keeps s t k)) (subst (λ (x : Query). F (program_of s) x) (sym (query-keeps s t k)) f)

abbrev pub with_branch : Machine → Seen → Machine
with_branch m t = record m { branch = t }

pub same-branch : (m : Machine) (t : Seen) → Keeps m.branch t → IsSame m (with_branch m t)
same-branch m t k = record { budget = refl; answers = refl; used = refl; keeps = k }

-- the branch runs on over the same branch in a later state
pub runs-later : (p : Program) (q : Query) (m : Machine) (t : Seen) (b : Branch) → RunsAt p q m b → Keeps m.branch t → IsBranch t b → RunsAt p q (with_branch m t) b
runs-later p q m t b h k is = record {
  lower = h.lower;
  counted = record {
    notes = h.counted.notes;
    so_far = h.counted.so_far;
    many = h.counted.many;
    program = program-keeps m.branch t k ∙ h.counted.program;
    query = query-keeps m.branch t k ∙ h.counted.query;
  };
  is = is;
  stacked = stacked-later m.branch t m.choices.items h.lower k h.stacked;
  few = h.few;
}

-- ---- a call that is tried

abbrev pub left : Machine → Seen → Machine
left m t = record m { branch = t; running = false }

pub attempt-none : (m : Machine) (pred : ℕ) (a : Attempts m pred) → None ≡ first_clause (program_of m.branch) pred → TriesAt (program_of m.branch) (query_of m.branch) (left m m.branch)
attempt-none m pred a e =
    leaves-step (program_of m.branch) (query_of m.branch) m (left m m.branch) a.b Dropped a.runs (try-moves (program_of m.branch) a.b pred a.args a.rest None a.starts a.plain a.ready e) refl refl refl refl
    (record { budget = refl; answers = refl; used = refl; keeps = keeps-refl m.branch }) refl

pub attempt-some : (m : Machine) (pred k call : ℕ) (t : Seen) (a : Attempts m pred) → Some k ≡ first_clause (program_of m.branch) pred → Keeps m.branch t →
    IsBranch t (behind a.b a.rest) × IsCall t call pred a.args → Chooses (program_of t) (query_of t) (left m t) call k
attempt-some m pred k call t a e kp h =
    let there = first-there pred k (program_of m.branch).clauses (sym e) in
    moved-to (λ p q. Chooses p q (left m t) call k) m.branch t kp (record {
      b = behind a.b a.rest;
      pred = pred;
      args = a.args;
      c = there.0;
      lower = a.runs.lower;
      counted = counted-step (program_of m.branch) (query_of m.branch) m (left m t) (Run a.b) a.runs.lower (Becomes (Try (behind a.b a.rest) pred a.args k)) (Try (behind a.b a.rest) pred a.args k ∷ [])
          a.runs.counted (try-moves (program_of m.branch) a.b pred a.args a.rest (Some k) a.starts a.plain a.ready e) refl refl refl (omega arith) (omega arith) kp;
      is = h.0;
      cells = h.1;
      there = subst (λ (p : Program). slice_get p.clauses k ≡ Some there.0) (sym (program-keeps m.branch t kp)) there.1;
      of = there.2;
      stacked = stacked-later m.branch t m.choices.items a.runs.lower kp a.runs.stacked;
      few = let f = a.runs.few in omega arith;
    })

-- ---- the other steps of the branch that runs

pub answer-at : (m : Machine) (h : Runs m) → h.b.goals ≡ [] → AnswersAt (program_of m.branch) (query_of m.branch) (record m { answers = m.answers + 1; running = false }) h.b
unfolding counted-step
answer-at m h e = record {
  lower = h.runs.lower;
  counted = counted-step (program_of m.branch) (query_of m.branch) m (record m { answers = m.answers + 1; running = false }) (Run h.b) h.runs.lower (Answered h.b) [] h.runs.counted
      (subst (λ (gs : List Goal). RunMoves (program_of m.branch) h.b gs (Answered h.b)) (sym e) refl) refl refl refl (omega arith) refl (keeps-refl m.branch);
  stacked = h.runs.stacked;
  few = let f = h.runs.few in omega arith;
  before = h.runs.counted.notes;
  last = refl;
  is = h.runs.is;
}

pub true-runs : (m : Machine) (t : Seen) (h : Runs m) (rest : List Goal) → h.b.goals ≡ goal.True ∷ rest → IsBranch t (behind h.b rest) → Keeps m.branch t →
    (b' : Branch) × RunsAt (program_of m.branch) (query_of m.branch) (with_branch m t) b'
true-runs m t h rest e is k = (
  behind h.b rest,
  runs-step (program_of m.branch) (query_of m.branch) m (with_branch m t) h.b (behind h.b rest) (Becomes (Run (behind h.b rest))) h.runs
      (moves-first (program_of m.branch) h.b goal.True rest (Becomes (Run (behind h.b rest))) e refl) refl refl refl refl (same-branch m t k) refl is,
)

pub fail-tries : (m : Machine) (h : Runs m) (rest : List Goal) → h.b.goals ≡ goal.Fail ∷ rest → TriesAt (program_of m.branch) (query_of m.branch) (left m m.branch)
fail-tries m h rest e =
    leaves-step (program_of m.branch) (query_of m.branch) m (left m m.branch) h.b Dropped h.runs (moves-first (program_of m.branch) h.b goal.Fail rest Dropped e refl) refl refl refl refl
    (record { budget = refl; answers = refl; used = refl; keeps = keeps-refl m.branch }) refl
