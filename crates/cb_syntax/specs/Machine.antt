-- The tokens of a text, read with a stack of what is still expected.
use Rattle.std.specs.Prelude.{ℕ, Bool, true, false, nat_le, if◌then◌else◌, List, [], ◌∷◌, ◌++◌, length, Option, Some, None}
use Rattle.cb_model.specs.declared.Kind.{Kind}
use Rattle.cb_model.specs.declared.Kind.TheVariants as kind
use Rattle.cb_model.specs.Tokens.{Token}
use Rattle.cb_model.specs.Grammar.{Op, Plus, Hash, Star, nest, depth}

-- what may be expected
pub data Item : Type 0 where
  Chain : Op → Item
  Operands : Op → Item
  Operand : Item
  Args : Item
  Commas : Item
  ListRest : Item
  ListEnd : Item
  Close : Item
  CloseBracket : Item
  End : Item
  Equals : Item
  AnAtom : Item
  Goal : Item
  GoalTail : Item
  MoreGoals : Item
  ClauseTail : Item
  Clauses : Item
  Queries : Item

-- what an expected item does with a token
pub data Move : Type 0 where
  Takes : List Item → Move
  Skips : Move
  Refuses : Move

-- the items follow what the move takes
abbrev pub follow : Move → List Item → Move
follow (Takes js) is = Takes (js ++ is)
follow Skips is = Refuses
follow Refuses is = Refuses

-- the item may be left out
abbrev pub or_skips : Move → Move
or_skips (Takes js) = Takes js
or_skips Skips = Skips
or_skips Refuses = Skips

-- an operand of the tightest chain
abbrev pub operand_move : Kind → Move
operand_move kind.Tilde = Takes (Operand ∷ [])
operand_move kind.Variable = Takes []
operand_move (kind.Integer z) = Takes []
operand_move kind.Atom = Takes (Args ∷ [])
operand_move kind.Quoted = Takes (Args ∷ [])
operand_move kind.LeftParen = Takes (Chain Plus ∷ Close ∷ [])
operand_move kind.LeftBracket = Takes (ListRest ∷ [])
operand_move _ = Refuses

-- what may follow the first operand of a chain
abbrev pub tails : Op → List Item
tails Star = Operands Star ∷ []
tails Hash = Operands Star ∷ Operands Hash ∷ []
tails Plus = Operands Star ∷ Operands Hash ∷ Operands Plus ∷ []

-- what follows the first operand of a goal that is no call
abbrev pub equation : List Item
equation = Operands Star ∷ Operands Hash ∷ Operands Plus ∷ Equals ∷ Chain Plus ∷ []

-- a goal
abbrev pub goal_move : Kind → Move
goal_move kind.Atom = Takes (Args ∷ GoalTail ∷ [])
goal_move kind.Quoted = Takes (Args ∷ GoalTail ∷ [])
goal_move k = follow (operand_move k) equation

-- the rest of a list
abbrev pub list_move : Kind → Move
list_move kind.RightBracket = Takes []
list_move k = follow (operand_move k) (Operands Star ∷ Operands Hash ∷ Operands Plus ∷ Commas ∷ ListEnd ∷ [])

-- the move of an item
abbrev pub move : Item → Kind → Move
move (Chain op) k = follow (operand_move k) (tails op)
move (Operands Star) kind.Star = Takes (Operand ∷ Operands Star ∷ [])
move (Operands Star) _ = Skips
move (Operands Hash) kind.Hash = Takes (Chain Star ∷ Operands Hash ∷ [])
move (Operands Hash) _ = Skips
move (Operands Plus) kind.Plus = Takes (Chain Hash ∷ Operands Plus ∷ [])
move (Operands Plus) _ = Skips
move Operand k = operand_move k
move Args kind.LeftParen = Takes (Chain Plus ∷ Commas ∷ Close ∷ [])
move Args _ = Skips
move Commas kind.Comma = Takes (Chain Plus ∷ Commas ∷ [])
move Commas _ = Skips
move ListRest k = list_move k
move ListEnd kind.RightBracket = Takes []
move ListEnd kind.Bar = Takes (Chain Plus ∷ CloseBracket ∷ [])
move ListEnd _ = Refuses
move Close kind.RightParen = Takes []
move Close _ = Refuses
move CloseBracket kind.RightBracket = Takes []
move CloseBracket _ = Refuses
move End kind.Dot = Takes []
move End _ = Refuses
move Equals kind.Equals = Takes []
move Equals _ = Refuses
move AnAtom kind.Atom = Takes []
move AnAtom kind.Quoted = Takes []
move AnAtom _ = Refuses
move Goal k = goal_move k
move GoalTail kind.Star = Takes (Operand ∷ equation)
move GoalTail kind.Hash = Takes (Chain Star ∷ Operands Hash ∷ Operands Plus ∷ Equals ∷ Chain Plus ∷ [])
move GoalTail kind.Plus = Takes (Chain Hash ∷ Operands Plus ∷ Equals ∷ Chain Plus ∷ [])
move GoalTail kind.Equals = Takes (Chain Plus ∷ [])
move GoalTail _ = Skips
move MoreGoals kind.Comma = Takes (Goal ∷ MoreGoals ∷ [])
move MoreGoals kind.Dot = Takes []
move MoreGoals _ = Refuses
move ClauseTail kind.Neck = Takes (Goal ∷ MoreGoals ∷ [])
move ClauseTail kind.Dot = Takes []
move ClauseTail _ = Refuses
move Clauses kind.Neck = Takes (AnAtom ∷ Chain Plus ∷ Commas ∷ End ∷ Clauses ∷ [])
move Clauses kind.Atom = Takes (Args ∷ ClauseTail ∷ Clauses ∷ [])
move Clauses kind.Quoted = Takes (Args ∷ ClauseTail ∷ Clauses ∷ [])
move Clauses _ = Skips
move Queries k = or_skips (follow (goal_move k) (MoreGoals ∷ Queries ∷ []))

-- what is expected then
abbrev pub pass : Move → List Item → Option (List Item) → Option (List Item)
pass (Takes js) is below = Some (js ++ is)
pass Skips is below = below
pass Refuses is below = None

-- what is expected after a token
abbrev pub step : List Item → Kind → Option (List Item)
step [] k = None
step (i ∷ is) k = pass (move i k) is (step is k)

-- the item may be left out
abbrev pub is_optional : Item → Bool
is_optional (Operands op) = true
is_optional Args = true
is_optional Commas = true
is_optional GoalTail = true
is_optional Clauses = true
is_optional Queries = true
is_optional _ = false

-- the text may end here
abbrev pub can_end : List Item → Bool
can_end [] = true
can_end (i ∷ is) = if is_optional i then can_end is else false

-- what becomes of the tokens, where a number counts the tokens from the bad one on
pub data Outcome : Type 0 where
  Whole : Outcome
  Ended : Outcome
  Wrong : ℕ → Outcome
  Deep : ℕ → Outcome

-- the end of the tokens
abbrev pub at_end : Bool → Outcome
at_end true = Whole
at_end false = Ended

-- one token
abbrev pub choose : Option (List Item) → ℕ → Bool → (List Item → Outcome) → Outcome
choose None left deep go = Wrong left
choose (Some is) left true go = Deep left
choose (Some is) left false go = go is

-- the tokens, where this is expected and this is open
abbrev pub run : List Item → List ℕ → List Token → Outcome
run is ns [] = at_end (can_end is)
run is ns (t ∷ ts) = choose (step is t.kind) (length (t ∷ ts)) (nat_le 257 (depth (nest t.kind ts ns))) (λ js. run js (nest t.kind ts ns) ts)
