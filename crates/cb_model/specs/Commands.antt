-- The words of the command line.
use Rattle.std.specs.Prelude.{ℕ, ◌-◌, ◌^◌, Bool, false, not, ◌&&◌, nat_le, ◌==◌, if◌then◌else◌, List, [], ◌∷◌, Option, Some, None, option_map, codes, bytes_eq}
use Rattle.cb_model.specs.Text.{Text}
use Rattle.cb_model.specs.Tokens.{is_number, digits_value}

-- a budget of nodes: a number, or `max`
pub data Nodes : Type 0 where
  Max : Nodes
  Only : ℕ → Nodes

-- the budget is a number
abbrev pub IsNumber : Nodes → Type 0
IsNumber Max = ⊥
IsNumber (Only n) = Unit {0}

-- the most nodes of a store with this budget; `max` is the greatest number
abbrev pub budget_of : Nodes → ℕ
budget_of Max = 2 ^ 64 - 1
budget_of (Only n) = n

-- the five commands
pub data Command : Type 0 where
  Check : (file : Text) → Command
  Run : (file : Text) (resolutions : ℕ) (nodes : Nodes) → Command
  Verify : (file name : Text) (nodes : Nodes) → Command
  Same : (file one two : Text) (nodes : Nodes) → Command
  Make : (bits : ℕ) (nodes : Nodes) → Command

-- whether a numeral of several digits begins with 0
abbrev pub leads_zero : Text → Bool
leads_zero (x ∷ y ∷ ys) = x == 48
leads_zero _ = false

-- a decimal number without leading zeros, from 1 to a limit
abbrev pub number_upto : ℕ → Text → Option ℕ
number_upto limit x =
    let n = digits_value 0 x in
    if is_number x && not (leads_zero x) && nat_le 1 n && nat_le n limit then Some n else None

-- a number of nodes, or `max`
abbrev pub nodes_of : Text → Option Nodes
nodes_of x = if bytes_eq x (codes "max") then Some Max else option_map (λ n. Only n) (number_upto 16777216 x)

-- a command of two numbers
abbrev pub with_two : {A B : Type 0} → (A → B → Command) → Option A → Option B → Option Command
with_two f (Some a) (Some b) = Some (f a b)
with_two f _ _ = None

-- the command that the words name, if they are of one of the five forms
abbrev pub command_of : List Text → Option Command
command_of (c ∷ f ∷ []) = if bytes_eq c (codes "check") then Some (Check f) else None
command_of (c ∷ f ∷ r ∷ []) =
    if bytes_eq c (codes "make") then with_two Make (number_upto 64 f) (nodes_of r) else None
command_of (c ∷ f ∷ r ∷ n ∷ []) =
    if bytes_eq c (codes "run") then with_two (Run f) (number_upto 10000000 r) (nodes_of n)
    else (if bytes_eq c (codes "verify") then option_map (Verify f r) (nodes_of n) else None)
command_of (c ∷ f ∷ a ∷ b ∷ n ∷ []) =
    if bytes_eq c (codes "same") then option_map (Same f a b) (nodes_of n) else None
command_of _ = None

-- the name of the file that a command loads
abbrev pub file_name : Option Command → Option Text
file_name (Some (Check f)) = Some f
file_name (Some (Run f r n)) = Some f
file_name (Some (Verify f m n)) = Some f
file_name (Some (Same f a b n)) = Some f
file_name _ = None
