-- What is accepted can be run, where nothing commits.
use Rattle.std.proofs.Common.{ℕ, List, [], ◌∷◌, length}
use Rattle.cb_model.specs.declared.Sort.{Sort}
use Rattle.cb_model.specs.declared.Tree.{Tree}
use Rattle.cb_model.specs.declared.Goal.{Goal}
use Rattle.cb_model.specs.declared.Goal.TheVariants as goal
use Rattle.cb_model.specs.Bits.{Each}
use Rattle.cb_model.specs.Program.{Program}
use Rattle.cb_sorts.specs.OverFile.{asked_program}
use Rattle.cb_sorts.specs.Accepted.{GoalIsSound, IsPlaced}
use Rattle.cb_sorts.specs.Commits.{NeverCommits}
use Rattle.cb_sorts.proofs.Accepted.{accepted_are_sound}
use Rattle.cb_ready.proofs.FewWords.{few-words}
use Rattle.cb_branch.specs.Scope.{IsGoalFor, IsTreeFor}
use Rattle.cb_branch.specs.Accepted.{AcceptedCanRun}

module _ (p : Program) (n : ℕ) (zs : List Sort) where
  tree-for : (z : Sort) (x : Tree) → IsPlaced p zs z x → IsTreeFor p zs z x
  tree-for z x h = record { scope = h.scope; fits = h.fits }

  goals-for : (gs : List Goal) → Each (GoalIsSound p n zs) gs → Each (NeverCommits p) gs → Each (IsGoalFor p n zs) gs
  goals-for [] h w = tt
  goals-for (goal.True ∷ gs) h w = (tt, goals-for gs h.1 w.1)
  goals-for (goal.Fail ∷ gs) h w = (tt, goals-for gs h.1 w.1)
  goals-for (goal.Equal l r ∷ gs) h w = ((h.0.0, tree-for h.0.0 l h.0.1, tree-for h.0.0 r h.0.2), goals-for gs h.1 w.1)
  goals-for (goal.Circuit m ins outs ∷ gs) h w = absurd w.0
  goals-for (goal.Call pred args ∷ gs) h w = ((h.0.0, w.0, tree-for _ _ h.0.1), goals-for gs h.1 w.1)

pub accepted-can-run : AcceptedCanRun
accepted-can-run file l s gs a loaded same loads few asks plain =
    let h = accepted_are_sound file l s gs a loaded same loads few asks in
    let p = asked_program s a [] in
    record {
      clauses = λ k c e. let q = h.clauses k c e in
          record { head = tree-for p (length s.names) c.sorts _ _ q.head; body = goals-for p (length s.names) c.sorts c.body q.body (plain.clauses k c e); few = q.few };
      goals = goals-for p (length s.names) a.sorts a.goals h.goals plain.goals;
      few = h.few;
      variables = h.variables;
      words = few-words file l s a loaded same;
    }
