-- When a call is ready, by the cells of its arguments.
use Rattle.std.specs.Prelude.{◌≡◌, ◌≢◌, ◌↔◌, ℕ, ◌-◌, ◌^◌, ◌<◌, ◌≤◌, Bool, false, List, [], length, get_or, Some, slice_get, IsTrue}
use Rattle.cb_model.specs.declared.Tree.{Tree}
use Rattle.cb_model.specs.declared.Goal.TheVariants as goal
use Rattle.cb_model.specs.declared.When.{When}
use Rattle.cb_model.specs.declared.When.TheVariants as when
use Rattle.cb_model.specs.Values.{Sorts}
use Rattle.cb_model.specs.Equations.{Item}
use Rattle.cb_model.specs.Program.{Program}
use Rattle.cb_model.specs.Derivation.{Ready, is_demon, words_of}
use Rattle.cb_sorts.specs.Source.{Source, program_of}
use Rattle.cb_sorts.specs.Asked.{Asked}
use Rattle.cb_sorts.specs.OverFile.{asked_program}
use Rattle.cb_heap.specs.declared.Ref.{Ref}
use Rattle.cb_unify.specs.State.{Seen, FitsTable}
use Rattle.cb_unify.specs.Delays.{HoldsAt}
use Rattle.cb_items.specs.Calls.{AreStanding}
use Rattle.cb_items.specs.Standing.{IsVals}

-- no name has more delay words than arguments, and none has very many
pub record HasFewWords (p : Program) : Type 0 where
  pub counted : (pred : ℕ) → length (words_of p pred) ≤ length (get_or p.world.arguments pred [])
  pub few : (pred : ℕ) → length (words_of p pred) < 2 ^ 32

-- a call with as many arguments as its predicate has, whose clauses are no demon rules
pub record IsPlainCall (p : Program) (pred : ℕ) (xs : List Tree) : Type 0 where
  pub plain : is_demon p pred ≡ false
  pub number : length xs ≡ length (get_or p.world.arguments pred [])
  pub words : HasFewWords p

-- the values of the state are the solutions of the items, and these cells stand for the arguments of a call
pub record IsAsked (s : Seen) (p : Program) (es : List Item) (pred : ℕ) (refs : List Ref) (xs : List Tree) : Type 0 where
  pub vals : IsVals p.world s es
  pub fits : FitsTable p.world.arguments s
  pub args : AreStanding p.world.arguments s refs xs
  pub call : IsPlainCall p pred xs

-- it tells whether the call with its arguments in these cells is ready, whatever query is asked
abbrev pub TellsReady : Seen → Source → ℕ → List Ref → Bool → Type 0
TellsReady s p pred refs b =
    (a : Asked) (es : List Item) (xs : List Tree) → IsAsked s (asked_program p a []) es pred refs xs →
    IsTrue b ↔ Ready (asked_program p a []) es (goal.Call pred xs)

-- the delay words of a name of the file
abbrev pub named_words : Source → ℕ → List When
named_words p pred = words_of (program_of p []) pred

-- one of so many arguments has a word to wait for
abbrev pub HasWord : Source → ℕ → ℕ → Type 0
HasWord p pred count = (k : ℕ) × (k < count) × (get_or (named_words p pred) k when.Any ≢ when.Any)

-- each call of the name with at most so many arguments is ready, whatever query is asked
abbrev pub RunsAtOnce : Source → ℕ → ℕ → Type 0
RunsAtOnce p pred count =
    (a : Asked) (es : List Item) (xs : List Tree) → IsPlainCall (asked_program p a []) pred xs → length xs ≤ count →
    Ready (asked_program p a []) es (goal.Call pred xs)

-- at each of the first places, so many as a number can tell, the word holds of the cell there; where there is no word,
-- nothing is asked
abbrev pub AllHold : Sorts → Seen → List When → List Ref → Type 0
AllHold t s words refs = (k : ℕ) (r : Ref) → k < 2 ^ 32 - 1 → slice_get refs k ≡ Some r → HoldsAt t s (get_or words k when.Any) r.0

-- it tells whether the words of a name's delay hold of these cells
abbrev pub TellsHeld : Sorts → Seen → Source → ℕ → List Ref → Bool → Type 0
TellsHeld t s p pred refs b = IsTrue b ↔ AllHold t s (named_words p pred) refs
