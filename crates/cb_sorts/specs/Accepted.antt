-- What an accepted file and an accepted query over it are for those who run them.
use Rattle.std.specs.Prelude.{◌≡◌, ℕ, ◌<◌, ◌^◌, true, List, [], length, Some, slice_get}
use Rattle.cb_model.specs.declared.Sort.{Sort}
use Rattle.cb_model.specs.declared.Sort.TheVariants as sort
use Rattle.cb_model.specs.declared.Tree.{Tree}
use Rattle.cb_model.specs.declared.Tree.TheVariants as tree
use Rattle.cb_model.specs.declared.Goal.{Goal}
use Rattle.cb_model.specs.declared.Goal.TheVariants as goal
use Rattle.cb_model.specs.declared.Clause.{Clause}
use Rattle.cb_model.specs.Bits.{Each}
use Rattle.cb_model.specs.Text.{Text}
use Rattle.cb_model.specs.Grammar.{FormGoal}
use Rattle.cb_model.specs.Directives.{heads}
use Rattle.cb_model.specs.Loading.{module_names}
use Rattle.cb_model.specs.Output.{Loaded, IsLoaded}
use Rattle.cb_model.specs.Program.{Program}
use Rattle.cb_model.specs.Sorted.{tree_fits}
use Rattle.cb_model.specs.Values.{tree_in_scope}
use Rattle.cb_sorts.specs.Source.{Source, Loads}
use Rattle.cb_sorts.specs.Asked.{Asked, Asks}
use Rattle.cb_sorts.specs.OverFile.{asked_program}

-- a tree over variables of these sorts, in a place of this sort: its constants are the program's, its names have their arguments
pub record IsPlaced (p : Program) (zs : List Sort) (z : Sort) (x : Tree) : Type 0 where
  pub scope : tree_in_scope p.constants (length zs) x ≡ true
  pub fits : tree_fits p.world.arguments zs z x ≡ true

-- a goal over variables of these sorts, which calls one of the first n names
abbrev pub GoalIsSound : Program → ℕ → List Sort → Goal → Type 0
GoalIsSound p n zs (goal.Equal l r) = (z : Sort) × IsPlaced p zs z l × IsPlaced p zs z r
GoalIsSound p n zs (goal.Circuit m ins outs) = IsPlaced p zs sort.Bus ins × IsPlaced p zs sort.Bus outs
GoalIsSound p n zs (goal.Call pred args) = (pred < n) × IsPlaced p zs sort.Term (tree.Node pred args)
GoalIsSound p n zs _ = Unit {0}

-- a clause over variables of its own
pub record ClauseIsSound (p : Program) (n : ℕ) (c : Clause) : Type 0 where
  pub head : IsPlaced p c.sorts sort.Term (tree.Node c.pred c.head)
  pub body : Each (GoalIsSound p n c.sorts) c.body
  pub few : length c.body < 2 ^ 32

-- the clauses of a program, and the goals of a query over it, whose names stand behind those of the program
pub record AreSound (s : Source) (a : Asked) : Type 0 where
  pub clauses : (k : ℕ) (c : Clause) → slice_get s.clauses k ≡ Some c → ClauseIsSound (asked_program s a []) (length s.names) c
  pub goals : Each (GoalIsSound (asked_program s a []) (length s.names) a.sorts) a.goals
  pub few : length a.goals < 2 ^ 32
  pub variables : length a.variables ≡ length a.sorts

-- the program of an accepted file and an accepted query over it are sound
abbrev pub AcceptedAreSound : Type 0
AcceptedAreSound = (file : Text) (l : Loaded) (s : Source) (gs : List FormGoal) (a : Asked) → IsLoaded file l → l.declared ≡ s.declared → Loads l.clauses s → length gs < 2 ^ 32 →
    Asks s.declared (heads l.clauses) s.names (module_names l.clauses) gs a → AreSound s a
