-- The beginning of a run.
use Rattle.std.proofs.Common.{◌≡◌, ℕ, ◌+◌, ◌<◌, ◌≤◌, inl, Bool, true, false, List, [], ◌∷◌, Option, Some, None, refl, sym, ap, subst, ◌∙◌, arith, Global}
use Rattle.std.specs.Prelude.{nat_lt, if◌then◌else◌}
use Rattle.cb_model.specs.Program.{Program, bools}
use Rattle.cb_model.specs.Derivation.{Branch, Entry, Run, Made, SoFar, here, Plain, stopped, Query, first_branch, passed}
use Rattle.cb_model.specs.Derivation as derivation
use Rattle.cb_branch.specs.Running.{Seen, IsBranch, Keeps, WantsNodes, nodes_of, program_of, query_of, unbegun}
use Rattle.cb_branch.proofs.Laws.{asked-keeps, nodes-keep, nodes-unbegun, program-keeps, program-unbegun, query-keeps, query-unbegun, source-keeps}
use Rattle.cb_solve.specs.declared.Choice.{Choice}
use Rattle.cb_solve.specs.declared.Machine.{Machine}
use Rattle.cb_solve.specs.Machine.{HasRoomFor, Stands, Stacked, none, RunsAt}
use Rattle.cb_solve.specs.Run.{Begins, BeginsWith, IsBegun, IsEngine, IsRun, IsUnbegun, OnNone}
use Rattle.cb_solve.specs.Run.{run_of}
use Rattle.cb_solve.specs.declared.Event.{Event}
use Rattle.std.specs.declared.vec.Vec.{Vec}
use Rattle.cb_sorts.specs.Source.{Source}
use Rattle.cb_sorts.specs.Asked.{Asked}
use Rattle.cb_branch.specs.Scope.{IsRunnable}
use Rattle.std.proofs.lemmas.Bool.{le-ltb, lt-ltb}
use Rattle.cb_solve.specs.declared.Event.TheVariants as event
use Rattle.cb_solve.specs.declared.Budget.TheVariants as budget

-- where the numbers are within the budgets, there is room
pub room-for : (s : Seen) (n variables steps : ℕ) → ((b : Branch) → IsBranch s b → variables ≡ (program_of s).constants + bools b.sorts) → ((b : Branch) → IsBranch s b → steps ≡ b.steps) →
    variables + n ≤ 4096 → steps + 1 ≤ 1000000 → HasRoomFor s n
room-for s n variables steps ev es hv hs b is = record { b = b; is = is; variables = let e = ev b is in omega arith; steps = let e = es b is in omega arith }

first-none : (p : Program) (q : Query) (n : ℕ) → p.constants + bools q.sorts ≤ 4096 → passed p n 0 (first_branch q) ≡ None
first-none p q n h =
    ap (λ (x : Bool). if x then Some derivation.Resolutions else (if nat_lt 4096 (p.constants + bools q.sorts) then Some derivation.Variables else None)) (le-ltb n 0 (omega arith))
    ∙ ap (λ (x : Bool). if x then Some derivation.Variables else None) (le-ltb 4096 (p.constants + bools q.sorts) h)

first-variables : (p : Program) (q : Query) (n : ℕ) → 4096 < p.constants + bools q.sorts → passed p n 0 (first_branch q) ≡ Some derivation.Variables
first-variables p q n h =
    ap (λ (x : Bool). if x then Some derivation.Resolutions else (if nat_lt 4096 (p.constants + bools q.sorts) then Some derivation.Variables else None)) (le-ltb n 0 (omega arith))
    ∙ ap (λ (x : Bool). if x then Some derivation.Variables else None) (lt-ltb 4096 (p.constants + bools q.sorts) h)

first-made : (p : Program) (q : Query) (n : ℕ) → p.constants + bools q.sorts ≤ 4096 → SoFar p q n (Made (first_branch q) ∷ []) 0 (Run (first_branch q) ∷ [])
first-made p q n h = record { begins = first-none p q n h; rest = []; goes = here; is = refl }

module _ (m : Machine) (u : IsUnbegun m) where
  module _ (t : Seen) (few : (program_of m.branch).constants + bools (query_of m.branch).sorts ≤ 4096) (kept : Keeps m.branch t) where
    abbrev on : Machine
    on = record m { branch = t }

    first-runs : IsBranch t (first_branch (query_of m.branch)) → RunsAt (program_of m.branch) (query_of m.branch) on (first_branch (query_of m.branch))
    first-runs is = record {
      lower = [];
      counted = record {
        notes = Made (first_branch (query_of m.branch)) ∷ [];
        so_far = subst (λ (x : ℕ). SoFar (program_of m.branch) (query_of m.branch) m.budget (Made (first_branch (query_of m.branch)) ∷ []) x (Run (first_branch (query_of m.branch)) ∷ [])) (sym u.used)
            (first-made (program_of m.branch) (query_of m.branch) m.budget few);
        many = sym u.answers;
        program = program-keeps m.branch t kept;
        query = query-keeps m.branch t kept;
      };
      is = is;
      stacked = subst (λ (xs : List Choice). Stacked t xs []) (sym u.choices) none;
      few = let a = u.answers in let b = u.used in omega arith;
    }

    pub begun-goes : IsBranch t (first_branch (query_of m.branch)) → IsBegun m on None
    begun-goes is = record {
      budget = refl;
      answers = u.answers;
      program = program-keeps m.branch t kept;
      query = query-keeps m.branch t kept;
      source = source-keeps m.branch t kept;
      asked = asked-keeps m.branch t kept;
      nodes = nodes-keep m.branch t kept;
      begins = tt;
      stands = inl (
        u.running,
        (
          first_branch (query_of m.branch),
          subst (λ (p : Program). RunsAt p (query_of t) on (first_branch (query_of m.branch))) (sym (program-keeps m.branch t kept))
              (subst (λ (q : Query). RunsAt (program_of m.branch) q on (first_branch (query_of m.branch))) (sym (query-keeps m.branch t kept)) (first-runs is)),
        ),
      );
    }

    pub begun-few : WantsNodes m.branch t (first_branch (query_of m.branch)) → IsBegun m on (Some (event.Stopped budget.Nodes))
    begun-few w = record {
      budget = refl;
      answers = u.answers;
      program = program-keeps m.branch t kept;
      query = query-keeps m.branch t kept;
      source = source-keeps m.branch t kept;
      asked = asked-keeps m.branch t kept;
      nodes = nodes-keep m.branch t kept;
      begins = (
        record {
          notes = Made (first_branch (query_of m.branch)) ∷ [];
          used = 0;
          top = Run (first_branch (query_of m.branch));
          lower = [];
          so_far = first-made (program_of m.branch) (query_of m.branch) m.budget few;
          many = refl;
          b = first_branch (query_of m.branch);
          of = inl refl;
          too_few = w.few;
        },
        w.rose,
      );
      stands = tt;
    }

  pub begun-variables : 4096 < (program_of m.branch).constants + bools (query_of m.branch).sorts → IsBegun m m (Some (event.Stopped budget.Variables))
  begun-variables h = record {
    budget = refl;
    answers = u.answers;
    program = refl;
    query = refl;
    source = refl;
    asked = refl;
    nodes = refl;
    begins = stopped derivation.Variables (first-variables (program_of m.branch) (query_of m.branch) m.budget h);
    stands = tt;
  }

-- a run that has begun
module _ (s : Source) (a : Asked) (resolutions nodes : ℕ) (u : Seen) (is : u ≡ unbegun s a nodes) (cs : Vec Choice Global) (no_choice : cs.items ≡ []) (runnable : IsRunnable s a) where
  abbrev fresh : Machine
  fresh = record { branch = u; choices = cs; budget = resolutions; used = 0; answers = 0; running = true }

  pub fresh-unbegun : IsUnbegun fresh
  fresh-unbegun = record {
    nodes = nodes;
    branch = subst (λ (x : Seen). x ≡ unbegun x.program x.query nodes) (sym is) refl;
    runnable = subst (λ (x : Seen). IsRunnable x.program x.query) (sym is) runnable;
    choices = no_choice;
    used = refl;
    answers = refl;
    running = refl;
  }

  module _ (n : Machine) (over : Option Event) (b : IsBegun fresh n over) where
    engine-stands : IsEngine n over false
    engine-stands = stood over b.stands
      where
        stood : (o : Option Event) → OnNone o (Stands (program_of n.branch) (query_of n.branch) n) → IsEngine n o false
        stood None h = h
        stood (Some x) h = tt

    pub engine-begins : Begins s a resolutions nodes (run_of n over false)
    unfolding IsRun
    engine-begins = record {
      program = b.program ∙ ap program_of is ∙ program-unbegun s a nodes;
      query = b.query ∙ ap query_of is ∙ query-unbegun s a nodes;
      source = b.source ∙ ap (λ (x : Seen). x.program) is;
      asked = b.asked ∙ ap (λ (x : Seen). x.query) is;
      nodes_are = b.nodes ∙ ap nodes_of is ∙ nodes-unbegun s a nodes;
      budget = b.budget;
      answers = b.answers;
      starved = refl;
      run = (n.choices, refl, engine-stands);
      begins = subst (λ (x : Seen). BeginsWith x n.branch resolutions over) is b.begins;
    }
