-- What a branch asks of its program and its query: their trees have constants and variables that exist, and fit the sorts
-- of their places; and no goal is a circuit's or calls a demon.
use Rattle.std.specs.Prelude.{◌≡◌, ℕ, ◌<◌, ◌^◌, true, false, List, [], length, Some, slice_get}
use Rattle.cb_model.specs.declared.Sort.{Sort}
use Rattle.cb_model.specs.declared.Sort.TheVariants as sort
use Rattle.cb_model.specs.declared.Tree.{Tree}
use Rattle.cb_model.specs.declared.Tree.TheVariants as tree
use Rattle.cb_model.specs.declared.Goal.{Goal}
use Rattle.cb_model.specs.declared.Goal.TheVariants as goal
use Rattle.cb_model.specs.declared.Clause.{Clause}
use Rattle.cb_model.specs.Bits.{Each}
use Rattle.cb_model.specs.Sorted.{tree_fits}
use Rattle.cb_model.specs.Values.{tree_in_scope}
use Rattle.cb_model.specs.Program.{Program}
use Rattle.cb_model.specs.Derivation.{is_demon}
use Rattle.cb_sorts.specs.Source.{Source}
use Rattle.cb_sorts.specs.Asked.{Asked}
use Rattle.cb_sorts.specs.OverFile.{asked_program}
use Rattle.cb_ready.specs.Ready.{HasFewWords}

-- a tree over variables of these sorts, in a place of this sort
pub record IsTreeFor (p : Program) (zs : List Sort) (z : Sort) (x : Tree) : Type 0 where
  pub scope : tree_in_scope p.constants (length zs) x ≡ true
  pub fits : tree_fits p.world.arguments zs z x ≡ true

-- A goal over variables of these sorts, which calls one of the first n names. It is no goal of a circuit, and its name is
-- no demon's.
abbrev pub IsGoalFor : Program → ℕ → List Sort → Goal → Type 0
IsGoalFor p n zs goal.True = Unit {0}
IsGoalFor p n zs goal.Fail = Unit {0}
IsGoalFor p n zs (goal.Equal l r) = (z : Sort) × IsTreeFor p zs z l × IsTreeFor p zs z r
IsGoalFor p n zs (goal.Circuit m ins outs) = ⊥
IsGoalFor p n zs (goal.Call pred args) =
    (pred < n) × (is_demon p pred ≡ false) × IsTreeFor p zs sort.Term (tree.Node pred args)

-- a clause
pub record IsClauseFor (p : Program) (n : ℕ) (c : Clause) : Type 0 where
  pub head : IsTreeFor p c.sorts sort.Term (tree.Node c.pred c.head)
  pub body : Each (IsGoalFor p n c.sorts) c.body
  pub few : length c.body < 2 ^ 32

-- a program and a query that a branch can run
pub record IsRunnable (s : Source) (q : Asked) : Type 0 where
  pub clauses : (k : ℕ) (c : Clause) → slice_get s.clauses k ≡ Some c → IsClauseFor (asked_program s q []) (length s.names) c
  pub goals : Each (IsGoalFor (asked_program s q []) (length s.names) q.sorts) q.goals
  pub few : length q.goals < 2 ^ 32
  pub variables : length q.variables ≡ length q.sorts
  pub words : HasFewWords (asked_program s q [])
