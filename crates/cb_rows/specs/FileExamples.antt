-- Worked files: words of the command line, directives, sorts, facts and their refusals.
use Rattle.std.specs.Prelude.{◌≡◌, ℕ, List, [], ◌∷◌, codes, Option, Some, None, option_map}
use Rattle.cb_model.specs.declared.Sort.TheVariants as sort
use Rattle.cb_model.specs.Text.{Text}
use Rattle.cb_model.specs.Grammar.{Form, Forms, Last, More, one, Name, Variable, Closed, FormGoal, ACall, AnEqual, FormClause, Directive}
use Rattle.cb_model.specs.Commands.{command_of, Verify, Make, Max}
use Rattle.cb_model.specs.Refusals.{usage, refusal_line}
use Rattle.cb_model.specs.Circuits.{Module}
use Rattle.cb_model.specs.Directives.{directives, nothing, BadDirective, Twice, SortClash, Unknown, Declared}
use Rattle.cb_model.specs.Sorts.{HasSort, Var, Equation}
use Rattle.cb_model.specs.Loading.{BodyRefusal, body_of, query_body}
use Rattle.cb_model.specs.Facts.{module_of, spec_of, ModuleRefusal, Pins, Part, Driven, Cycle}
use Rattle.cb_model.specs.Facts as facts
use Rattle.cb_model.specs.Output.{sort_refused}

-- an atom
abbrev pub atom : Text → Form
atom x = Name x Last

-- a directive with one argument, a name with one word
abbrev pub declares : ℕ → Text → Text → Text → FormClause
declares line word name argument = Directive line word (one (Name name (one (atom argument))))

-- `:- sorts f(bool). :- sorts f(term).`
abbrev pub two_sorts : List FormClause
two_sorts = declares 1 (codes "sorts") (codes "f") (codes "bool") ∷ declares 1 (codes "sorts") (codes "f") (codes "term") ∷ []

-- `:- delay p(nonvar).` and on the next line `:- sorts p(bool).`
abbrev pub nonvar_bool : List FormClause
nonvar_bool = declares 1 (codes "delay") (codes "p") (codes "nonvar") ∷ declares 2 (codes "sorts") (codes "p") (codes "bool") ∷ []

-- `:- delay p(known).` alone
abbrev pub delay_alone : List FormClause
delay_alone = declares 1 (codes "delay") (codes "p") (codes "known") ∷ []

-- `:- constants a. :- sorts f(term).`
abbrev pub constant_and_sorts : List FormClause
constant_and_sorts = Directive 1 (codes "constants") (one (atom (codes "a"))) ∷ declares 1 (codes "sorts") (codes "f") (codes "term") ∷ []

-- what it declares
abbrev pub the_declared : Declared
the_declared = record { constants = codes "a" ∷ []; sorts = ((codes "f", 1), sort.Term ∷ []) ∷ []; demons = []; delays = [] }

-- `f(a)`
abbrev pub the_head : Form
the_head = Name (codes "f") (one (atom (codes "a")))

-- `p` has a Boolean argument
abbrev pub p_bool : Declared
p_bool = record nothing { sorts = ((codes "p", 1), sort.Bool ∷ []) ∷ [] }

-- a variable
abbrev pub var : Text → Form
var x = Variable x

-- `X = Y, Y = Z, p(Z)`
abbrev pub chain_goals : List FormGoal
chain_goals =
    AnEqual (var (codes "X")) (var (codes "Y")) ∷ AnEqual (var (codes "Y")) (var (codes "Z")) ∷ ACall (Name (codes "p") (one (var (codes "Z")))) ∷ []

-- `p(X) :- X = f`
abbrev pub clash_goals : List FormGoal
clash_goals = AnEqual (var (codes "X")) (atom (codes "f")) ∷ []

-- a list of nets
abbrev pub nets_of : List Text → Form
nets_of xs = Closed (nets xs)
  where
    nets : List Text → Forms
    nets [] = Last
    nets (y ∷ ys) = More (Variable y) (nets ys)

-- an instance with one output
abbrev pub part_form : Text → List Text → Text → Form
part_form part ins out = Name part (More (nets_of ins) (one (nets_of (out ∷ []))))

-- the module `m` with this input, the output Y and these instances
abbrev pub module_form : Text → Forms → Form
module_form input instances =
    Name (codes "module") (More (atom (codes "m")) (More (nets_of (input ∷ [])) (More (nets_of (codes "Y" ∷ [])) (one (Closed instances)))))

-- the module `m` with one instance of this part and these inputs
abbrev pub with_part : Text → List Text → Form
with_part part ins = module_form (codes "A") (one (part_form part ins (codes "Y")))

-- a module, where there is one
abbrev pub read : Option Module → Module
read (Some m) = m
read None = record { name = []; inputs = []; outputs = []; instances = [] }

-- two `not` gates that feed each other
abbrev pub ring : Module
ring = read (module_of (module_form (codes "A") (More (part_form (codes "not") (codes "X" ∷ []) (codes "Y")) (one (part_form (codes "not") (codes "Y" ∷ []) (codes "X"))))))

-- two `not` gates in a row, the later one first
abbrev pub row : Module
row = read (module_of (module_form (codes "A") (More (part_form (codes "not") (codes "X" ∷ []) (codes "Y")) (one (part_form (codes "not") (codes "A" ∷ []) (codes "X"))))))

pub record FileExamples : Type 0 where
  -- words
  pub verify_words : command_of (codes "verify" ∷ codes "F" ∷ codes "half_adder" ∷ codes "max" ∷ []) ≡ Some (Verify (codes "F") (codes "half_adder") Max)
  pub make_words : command_of (codes "make" ∷ codes "16" ∷ codes "max" ∷ []) ≡ Some (Make 16 Max)
  pub too_many_bits : command_of (codes "make" ∷ codes "65" ∷ codes "1000" ∷ []) ≡ None
  pub no_resolutions : command_of (codes "run" ∷ codes "F" ∷ codes "0" ∷ codes "1" ∷ []) ≡ None
  pub leading_zeros : command_of (codes "run" ∷ codes "F" ∷ codes "1000" ∷ codes "0010" ∷ []) ≡ None
  pub max_resolutions : command_of (codes "run" ∷ codes "F" ∷ codes "max" ∷ codes "10" ∷ []) ≡ None
  pub usage_line : refusal_line usage ≡ codes "error: usage"
  -- directives
  pub sorts_twice : (directives two_sorts).refusal ≡ Some (Twice, 1)
  pub sorts_twice_line : option_map (λ e. refusal_line (sort_refused e)) (directives two_sorts).refusal ≡ Some (codes "error: line 1: declared twice")
  -- `delay` directives come last, so `nonvar` is seen at the Boolean place
  pub nonvar_at_bool : (directives nonvar_bool).refusal ≡ Some (BadDirective, 1)
  pub delays_unknown : (directives delay_alone).refusal ≡ Some (Unknown, 1)
  pub declared : directives constant_and_sorts ≡ record { refusal = None; declared = the_declared }
  -- sorts: the constant stands at `term`
  pub constant_at_term : BodyRefusal the_declared ((codes "f", 1) ∷ []) [] (body_of the_head []) (Some SortClash)
  -- a mark goes through a chain of equations to its other end, and nothing clashes
  pub chain_start : HasSort p_bool (query_body chain_goals) (Var (codes "X")) sort.Bool
  pub chain_equation : HasSort p_bool (query_body chain_goals) (Equation 0) sort.Bool
  pub chain_accepted : BodyRefusal p_bool ((codes "p", 1) ∷ []) [] (query_body chain_goals) None
  -- a name at a Boolean variable's side clashes
  pub name_clashes : BodyRefusal p_bool ((codes "p", 1) ∷ []) [] (body_of (Name (codes "p") (one (var (codes "X")))) clash_goals) (Some SortClash)
  -- an unknown goal comes before a clash
  pub unknown_goal : BodyRefusal p_bool [] [] (query_body (ACall (atom (codes "q")) ∷ clash_goals)) (Some Unknown)
  -- facts: a net without a driver, a number of pins, an unknown part, a name that stands twice
  pub undriven : ModuleRefusal [] (read (module_of (with_part (codes "and") (codes "A" ∷ codes "N" ∷ [])))) (Some Driven)
  pub pins_of_gate : ModuleRefusal [] (read (module_of (with_part (codes "and") (codes "A" ∷ [])))) (Some Pins)
  pub unknown_part : ModuleRefusal [] (read (module_of (with_part (codes "foo") (codes "A" ∷ [])))) (Some Part)
  pub inputs_twice : module_of (Name (codes "module") (More (atom (codes "m")) (More (nets_of (codes "A" ∷ codes "A" ∷ [])) (More (nets_of []) (one (Closed Last)))))) ≡ None
  pub strange_in_spec : spec_of (Name (codes "spec") (More (atom (codes "m")) (More (nets_of (codes "A" ∷ [])) (one (nets_of (codes "B" ∷ [])))))) ≡ None
  pub gate_name : ModuleRefusal [] (record ring { name = codes "and" }) (Some facts.Twice)
  -- a cycle, and the same gates without one, in the other order
  pub cycle : ModuleRefusal [] ring (Some Cycle)
  pub no_cycle : ModuleRefusal [] row None
