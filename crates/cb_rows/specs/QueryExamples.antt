-- Worked queries: what the plain derivation does with them, and the lines that they print.
use Rattle.std.specs.Prelude.{◌≡◌, true, false, [], ◌∷◌, codes, Some}
use Rattle.cb_model.specs.declared.Tree.TheVariants as tree
use Rattle.cb_model.specs.Commands.{Max}
use Rattle.cb_model.specs.Equations.{Sat, Part}
use Rattle.cb_model.specs.Derivation.{Made, Printed, Whole, Plain, first_branch}
use Rattle.cb_model.specs.Answers.{IsShape}
use Rattle.cb_model.specs.Line.{IsLine, is_wide}
use Rattle.cb_model.specs.Output.{QuerySays}
use Rattle.cb_rows.specs.PlainRow as plain
use Rattle.cb_rows.specs.TryRow as try
use Rattle.cb_rows.specs.DelayRow as delay
use Rattle.cb_rows.specs.WakeRow as wake
use Rattle.cb_rows.specs.DemonRow as demon
use Rattle.cb_rows.specs.CircuitGoalRow as circuit
use Rattle.cb_rows.specs.BusRow as bus
use Rattle.cb_rows.specs.CompoundRow as compound
use Rattle.cb_rows.specs.ParameterRow as parameter
use Rattle.cb_rows.specs.TwoWokenRow as two_woken
use Rattle.cb_rows.specs.TwoRulesRow as two_rules
use Rattle.cb_rows.specs.WideRow as wide_row

pub record QueryExamples : Type 0 where
  -- `X = a`: one equation step, and an answer
  pub one_equation : Plain plain.p plain.q 10 (Made (first_branch plain.q) ∷ Made plain.answer ∷ Printed plain.answer ∷ []) Whole
  -- `p(X), X = 1` over `p(0). p(1).`: two resolutions, the first of which fails at the equation
  pub next_clause : Plain try.p try.q 2 (Made (first_branch try.q) ∷ try.notes) Whole
  -- the equation of `X * a = a` holds where both bits are 1
  pub holds_at_ones : Sat parameter.es (λ _. true) (parameter.at_bits (λ _. true))
  -- its line has a parameter
  pub parameter_line : IsLine parameter.program parameter.names parameter.branch (codes "X = ~a*_1 + a")
  -- `inv(X, Y)` with `:- delay inv(const, any).`: the goal waits, and is printed
  pub waits : QuerySays delay.p delay.q delay.names 10 Max (codes "X = _1, Y = _2, waiting inv(_1, _2)" ∷ codes "end" ∷ []) false
  -- `inv(X, Y), X = 1`: the equation wakes the goal, and its second clause answers
  pub wakes : QuerySays wake.p wake.q wake.names 2 Max (codes "X = 1, Y = 0" ∷ codes "end" ∷ []) false
  -- `inv(X, Y), X = 1, fail` with one resolution: the woken goal runs before `fail`
  pub woken_first : QuerySays wake.p wake.q2 wake.names 1 Max (codes "stopped: resolutions" ∷ []) true
  -- `andd(a, Y, Z), Y = a`: the demon waits, and then commits to its second rule
  pub commits : QuerySays demon.p demon.q demon.names 1 Max (codes "Y = a, Z = a" ∷ codes "end" ∷ []) false
  -- `circuit(half_adder, [a, b], [S, C])`: the fresh variables of the inputs are numbered behind the query's
  pub own_variables : (circuit.answer).items ≡ Part circuit.half circuit.ins circuit.outs (2 ∷ 3 ∷ []) ∷ []
  pub circuit_goal : QuerySays circuit.p circuit.q circuit.names 1 Max (codes "S = ~a*b + a*~b, C = a*b" ∷ codes "end" ∷ []) false
  -- `q(B, X)` over `q(B, X).`, a bus and a term: one counter numbers the open places of both sorts
  pub one_counter : QuerySays bus.p bus.q bus.names 1 Max (codes "B = _T1, X = _T2" ∷ codes "end" ∷ []) false
  pub not_one_number : IsShape bus.p.world bus.answer.items bus.args (tree.Bus [] (Some 0) ∷ tree.Var 0 ∷ []) → ⊥
  -- `X = f(Y, [Z|B])`: a compound with a Boolean place and a bus, whose open end stands twice
  pub compound : QuerySays compound.p compound.q compound.names 1 Max (codes "X = f(_1, [_2|_T1]), Y = _1, Z = _2, B = _T1" ∷ codes "end" ∷ []) false
  -- `p(X), q(X), X = 1`: both goals are woken, and the first of them has no clause
  pub two_woken : QuerySays two_woken.p two_woken.q two_woken.names 1 Max (codes "no" ∷ []) false
  -- `d(0)` with the demon rules `d(X) :- fail.` and `d(X).`: the first is taken, and the second isn't tried
  pub first_rule : QuerySays two_rules.p two_rules.q two_rules.names 1 Max (codes "no" ∷ []) false
  -- `B = [0, .., 0]` with 4097 zeros; with one less it isn't wide
  pub wide : QuerySays wide_row.p (wide_row.q 4097) wide_row.names 1 Max (codes "(wide)" ∷ codes "end" ∷ []) false
  pub not_wide : is_wide (wide_row.shape 4096) ≡ false
