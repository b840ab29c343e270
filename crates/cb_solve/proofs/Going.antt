-- A run stays one, after a step and after a loan of its terms.
use Rattle.std.proofs.Common.{◌≡◌, inl, inr, ℕ, ◌≤◌, Bool, true, false, List, Option, Some, None, refl, sym, ap, subst, ◌∙◌, Global}
use Rattle.cb_model.specs.Program.{Program}
use Rattle.cb_model.specs.Derivation.{Entry, Query}
use Rattle.cb_branch.specs.Running.{Keeps, Seen, fulls_of, program_of, query_of, with_fulls}
use Rattle.cb_branch.proofs.Laws.{branch-fulls, keeps-with, left-is, program-keeps, query-keeps}
use Rattle.std.specs.declared.vec.Vec.{Vec}
use Rattle.cb_solve.specs.declared.Choice.{Choice}
use Rattle.cb_solve.specs.declared.Event.{Event}
use Rattle.cb_solve.specs.declared.Machine.{Machine}
use Rattle.cb_solve.specs.declared.Stepped.{Stepped}
use Rattle.cb_solve.specs.declared.Stepped.TheVariants as stepped
use Rattle.cb_solve.specs.Machine.{AtStep, Counted, IsTurned, Stacked, Stands, TriesAt}
use Rattle.cb_solve.specs.Run.{IsEngine, IsHeard, IsRun, Run, last_of, machine_with}
use Rattle.cb_solve.specs.Lending.{LoanKeepsTheRun}
use Rattle.cb_solve.specs.Run.{run_of}
use Rattle.cb_solve.proofs.Stacks.{stacked-later}

pub none-of : (o : Option Event) → ((x : Event) → o ≡ Some x → ⊥) → o ≡ None
none-of None h = refl
none-of (Some x) h = absurd (h x refl)

answered : (m n : Machine) → AtStep (program_of m.branch) (query_of m.branch) n stepped.Answer → IsTurned m n stepped.Answer → Stands (program_of n.branch) (query_of n.branch) n
answered m n a t =
    let h = a.1.1 in
    let tries : TriesAt (program_of m.branch) (query_of m.branch) n = record { lower = h.lower; counted = h.counted; stacked = h.stacked; few = h.few } in
    subst (λ (p : Program). Stands p (query_of n.branch) n) (sym t.program) (subst (λ (q : Query). Stands (program_of m.branch) q n) (sym t.query) (inr (a.0, tries)))

goes-engine : (n : Machine) (s : Bool) → Stands (program_of n.branch) (query_of n.branch) n → IsEngine n None s
goes-engine n true h = tt
goes-engine n false h = h

is-run : (m : Machine) (o : Option Event) (s : Bool) → IsEngine m o s → IsRun (run_of m o s)
unfolding IsRun
is-run m o s h = (m.choices, refl, h)

pub run-after : (m n : Machine) (o : Option Event) (s : Bool) (x : Stepped) (y : Event) → AtStep (program_of m.branch) (query_of m.branch) n x → IsTurned m n x → IsHeard x y → o ≡ last_of y → IsRun (run_of n o s)
run-after m n o s stepped.Answer y a t h e = is-run n o s (subst (λ (z : Option Event). IsEngine n z s) (sym (e ∙ ap last_of h)) (goes-engine n s (answered m n a t)))
run-after m n o s (stepped.Stopped w) y a t h e = is-run n o s (subst (λ (z : Option Event). IsEngine n z s) (sym (e ∙ ap last_of h)) tt)
run-after m n o s stepped.End y a t h e = is-run n o s (subst (λ (z : Option Event). IsEngine n z s) (sym (e ∙ ap last_of h)) tt)
run-after m n o s stepped.Goes y a t h e = absurd h
run-after m n o s stepped.Left y a t h e = absurd h

pub run-over : (n : Machine) (x : Event) (s : Bool) → IsRun (run_of n (Some x) s)
run-over n x s = is-run n (Some x) s tt

pub run-starved : (n : Machine) (o : Option Event) → IsRun (run_of n o true)
run-starved n None = is-run n None true tt
run-starved n (Some x) = is-run n (Some x) true tt

-- the vector of the choices doesn't matter
module _ (m : Machine) (v : Vec Choice Global) (p : Program) (q : Query) (e : v.items ≡ m.choices.items) where
  counted-in : (es : List Entry) → Counted p q (record m { choices = v }) es → Counted p q m es
  counted-in es h = record { notes = h.notes; so_far = h.so_far; many = h.many; program = h.program; query = h.query }

  stands-in : Stands p q (record m { choices = v }) → Stands p q m
  stands-in (inl h) = inl (
    h.0,
    (
      h.1.0,
      record {
        lower = h.1.1.lower;
        counted = counted-in _ h.1.1.counted;
        is = h.1.1.is;
        stacked = subst (λ (xs : List Choice). Stacked m.branch xs h.1.1.lower) e h.1.1.stacked;
        few = h.1.1.few;
      },
    ),
  )
  stands-in (inr h) = inr (
    h.0,
    record {
      lower = h.1.lower;
      counted = counted-in h.1.lower h.1.counted;
      stacked = subst (λ (xs : List Choice). Stacked m.branch xs h.1.lower) e h.1.stacked;
      few = h.1.few;
    },
  )

-- what a run that goes on stands on
pub run-stands : (m : Machine) (o : Option Event) (s : Bool) (old : Run) → run_of m o s ≡ old → IsRun old → o ≡ None → s ≡ false → Stands (program_of m.branch) (query_of m.branch) m
unfolding IsRun
run-stands m o s old v h e f =
    let k = subst (λ (r : Run). (w : Vec Choice Global) × (w.items ≡ r.rest.choices) × IsEngine (machine_with w r) r.over r.starved) (sym v) h in
    let none : IsEngine (record m { choices = k.0 }) None s = subst (λ (z : Option Event). IsEngine (record m { choices = k.0 }) z s) e k.2 in
    let goes : IsEngine (record m { choices = k.0 }) None false = subst (λ (z : Bool). IsEngine (record m { choices = k.0 }) None z) f none in
    stands-in m k.0 (program_of m.branch) (query_of m.branch) k.1 goes

-- a later count of refusals
module _ (n : ℕ) (m : Machine) (f : fulls_of m.branch ≤ n) where
  abbrev relent : Machine
  relent = record m { branch = with_fulls n m.branch }

  kept : Keeps m.branch (with_fulls n m.branch)
  kept = keeps-with n m.branch f

  counted-later : (p : Program) (q : Query) (es : List Entry) → Counted p q m es → Counted p q relent es
  counted-later p q es h = record {
    notes = h.notes;
    so_far = h.so_far;
    many = h.many;
    program = program-keeps m.branch (with_fulls n m.branch) kept ∙ h.program;
    query = query-keeps m.branch (with_fulls n m.branch) kept ∙ h.query;
  }

  pub stands-later : (p : Program) (q : Query) → Stands p q m → Stands p q relent
  stands-later p q (inl h) = inl (
    h.0,
    (
      h.1.0,
      record {
        lower = h.1.1.lower;
        counted = counted-later p q _ h.1.1.counted;
        is = branch-fulls n m.branch h.1.0 h.1.1.is;
        stacked = stacked-later m.branch (with_fulls n m.branch) m.choices.items h.1.1.lower kept h.1.1.stacked;
        few = h.1.1.few;
      },
    ),
  )
  stands-later p q (inr h) = inr (
    h.0,
    record {
      lower = h.1.lower;
      counted = counted-later p q h.1.lower h.1.counted;
      stacked = stacked-later m.branch (with_fulls n m.branch) m.choices.items h.1.lower kept h.1.stacked;
      few = h.1.few;
    },
  )

loan-engine : (m : Machine) (n : ℕ) (o : Option Event) (s : Bool) → fulls_of m.branch ≤ n → IsEngine m o s → IsEngine (record m { branch = with_fulls n m.branch }) o s
loan-engine m n None false f h =
    let t = with_fulls n m.branch in
    let k = keeps-with n m.branch f in
    subst (λ (p : Program). Stands p (query_of t) (record m { branch = t })) (sym (program-keeps m.branch t k))
    (subst (λ (q : Query). Stands (program_of m.branch) q (record m { branch = t })) (sym (query-keeps m.branch t k)) (stands-later n m f (program_of m.branch) (query_of m.branch) h))
loan-engine m n None true f h = tt
loan-engine m n (Some x) s f h = tt

pub loan-run : LoanKeepsTheRun
unfolding IsRun
loan-run r n h f = (
  h.0,
  h.1,
  subst (λ (t : Seen). IsEngine (record (machine_with h.0 r) { branch = t }) r.over r.starved) (sym (left-is n r.state)) (loan-engine (machine_with h.0 r) n r.over r.starved f h.2),
)
