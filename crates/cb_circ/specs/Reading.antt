-- What is read of facts, one after another.
use Rattle.std.specs.Prelude.{◌≡◌, ◌⊎◌, ℕ, Bool, true, false, List, map, length, Some, None, bytes_eq}
use Rattle.std.specs.List.{list_any}
use Rattle.cb_model.specs.Bits.{all_of}
use Rattle.cb_model.specs.Values.{in_scope}
use Rattle.cb_model.specs.Text.{Text}
use Rattle.cb_model.specs.Grammar.{Form, FormGoal, FormClause, Rule}
use Rattle.cb_model.specs.Written.{line_of_clause}
use Rattle.cb_model.specs.Loading.{is_fact}
use Rattle.cb_model.specs.Facts.{Circuits, Spec, FactRefusal, FactReads, FactsRead}
use Rattle.cb_circ.specs.declared.checks.Fault.{Fault}
use Rattle.cb_circ.specs.declared.checks.Fault.TheVariants as fault
use Rattle.cb_circ.specs.declared.reading.CircError.{CircError}
use Rattle.cb_circ.specs.declared.reading.CircError.TheVariants as error

-- the refusal of a fact at a line
abbrev pub error_at : ℕ → Fault → CircError
error_at n fault.Twice = error.Twice n
error_at n fault.Pins = error.Pins n
error_at n fault.Driven = error.Driven n
error_at n fault.Cycle = error.Cycle n
error_at n fault.Part = error.Part n
error_at n fault.Large = error.Large n

-- whether a specification has the name
abbrev pub is_spec_name : Circuits → Text → Bool
is_spec_name c x = list_any (λ s. bytes_eq s.name x) c.specs

-- the expressions have only the inputs
abbrev pub IsScoped : Spec → Type 0
IsScoped s = all_of (map (in_scope 0 (length s.inputs)) s.exprs) ≡ true

-- a fact with this head is read, wherever it stands
abbrev pub Reads : Circuits → Form → Bool → Circuits → Type 0
Reads c f b c' = (n : ℕ) (gs : List FormGoal) → FactReads c (Rule n f b gs) None c'

-- a fact with this head is refused, wherever it stands
abbrev pub IsRefused : Circuits → Form → Bool → FactRefusal → Type 0
IsRefused c f b r = (n : ℕ) (gs : List FormGoal) → FactReads c (Rule n f b gs) (Some r) c

-- a clause is no fact, or is read
abbrev pub ClauseReads : Circuits → FormClause → Circuits → Type 0
ClauseReads c x c' = ((is_fact x ≡ false) × (c' ≡ c)) ⊎ ((is_fact x ≡ true) × FactReads c x None c')

-- a clause is a fact that is refused
abbrev pub ClauseRefused : Circuits → FormClause → ℕ → FactRefusal → Type 0
ClauseRefused c x n r = (is_fact x ≡ true) × (line_of_clause x ≡ n) × FactReads c x (Some r) c

-- the first refused fact
abbrev pub FactsRefused : Circuits → List FormClause → ℕ → FactRefusal → Type 0
FactsRefused c xs n r = (c' : Circuits) × FactsRead c xs (Some (r, n)) c'
