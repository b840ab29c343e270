-- What the comparisons of the modules of a file answer.
use Rattle.std.specs.Prelude.{◌≡◌, ◌≢◌, ℕ, ◌+◌, ◌*◌, ◌-◌, ◌<◌, ◌≤◌, ◌^◌, Bool, ◌&&◌, ◌==◌, List, [], ◌∷◌, map, length, sum, sum_by, Option, Some, None, Result, Err, IfOk, IfErr, MatchBool}
use Rattle.cb_model.specs.declared.Circuit.{Circuit}
use Rattle.cb_model.specs.declared.Expr.{Expr}
use Rattle.cb_model.specs.Text.{Text}
use Rattle.cb_model.specs.Circuits.{Module, circuit_of, flat_named, BySpec, Outputs}
use Rattle.cb_model.specs.Facts.{Circuits, Spec}
use Rattle.cb_model.specs.Room.{circuit_pins, expr_size, room_v}
use Rattle.cb_model.specs.Output.{IsDetermined, room_of}
use Rattle.cb_model.specs.Outside.{Rose}
use Rattle.cb_dd.specs.declared.Node.{Node}
use Rattle.cb_dd.specs.declared.Stop.TheVariants as stop
use Rattle.cb_dd.specs.Diagram.{Store}
use Rattle.cb_verify.specs.Nodes.{DependOn}
use Rattle.cb_circ.specs.At.{module_at, flat_at, spec_at}
use Rattle.cb_verify.specs.declared.Verdict.{Verdict}
use Rattle.cb_verify.specs.declared.modules.VerifyError.{VerifyError}
use Rattle.cb_verify.specs.declared.modules.VerifyError.TheVariants as error
use Rattle.cb_verify.specs.Verdict.{IsRight}

-- ---- by number

-- the circuit of a module when it is flattened
abbrev pub circuit_at : Circuits → ℕ → Circuit
circuit_at c m = circuit_of (flat_at c m)

-- whether a module has as many ports as a specification
abbrev pub spec_fits : Circuits → ℕ → ℕ → Bool
spec_fits c m p = length (module_at c m).inputs == length (spec_at c p).inputs && length (module_at c m).outputs == length (spec_at c p).exprs

-- whether a module has as many ports as another one
abbrev pub module_fits : Circuits → ℕ → ℕ → Bool
module_fits c m n = length (module_at c m).inputs == length (module_at c n).inputs && length (module_at c m).outputs == length (module_at c n).outputs

-- the room of a module's circuit and expressions alone, which is no more than that of the definition
abbrev pub exprs_room : Circuits → ℕ → List Expr → ℕ
exprs_room c m es = room_v (circuit_pins (circuit_at c m) + sum (map expr_size es)) 0 (length (module_at c m).outputs) (length (module_at c m).inputs)

-- the same of two modules' circuits
abbrev pub modules_room : Circuits → ℕ → ℕ → ℕ
modules_room c m n = room_v (circuit_pins (circuit_at c m) + circuit_pins (circuit_at c n)) 0 (length (module_at c m).outputs) (length (module_at c m).inputs)

-- ---- by name

-- a stop
abbrev pub IsStop : VerifyError → Type 0
IsStop (error.Stop s) = Unit {0}
IsStop e = ⊥

-- The comparison was made of a circuit that has exactly one consistent valuation for each input: the verdict is right, and
-- nothing but a stop comes in its place; one for nodes only where the budget is below the room and isn't the greatest.
pub record Compares (c : Circuit) (Wanted : List Bool → List Bool → Type 0) (room budget : ℕ) (result : Result Verdict VerifyError) : Type 0 where
  pub determined : IsDetermined c
  pub verdict : IfOk result (IsRight c Wanted)
  pub stops : IfErr result IsStop
  pub nodes : result ≡ Err (error.Stop stop.Nodes) → budget < room
  pub unbounded : result ≡ Err (error.Stop stop.Nodes) → budget ≢ 2 ^ 64 - 1

-- `verify`, where the module and its specification were looked up: without a module, without a specification, or with
-- other numbers of ports, it is refused, in this order; else the flattened module is compared with the expressions
abbrev pub VerifyAnswers : Circuits → Text → ℕ → Option Module → Option Spec → Result Verdict VerifyError → Type 0
VerifyAnswers c name budget None s result = result ≡ Err error.NoModule
VerifyAnswers c name budget (Some m) None result = result ≡ Err error.NoSpec
VerifyAnswers c name budget (Some m) (Some s) result =
    MatchBool (length m.inputs == length s.inputs && length m.outputs == length s.exprs)
    (Compares (circuit_of (flat_named c.flats name)) (BySpec s.exprs) (room_of c (name ∷ []) (sum_by expr_size s.exprs)) budget result)
    (result ≡ Err error.Shape)

-- `same`, where the two modules were looked up: the outputs of the second are wanted, which are determined too
abbrev pub SameAnswers : Circuits → Text → Text → ℕ → Option Module → Option Module → Result Verdict VerifyError → Type 0
SameAnswers c one two budget None n result = result ≡ Err error.NoModule
SameAnswers c one two budget (Some m) None result = result ≡ Err error.NoModule
SameAnswers c one two budget (Some m) (Some n) result =
    MatchBool (length m.inputs == length n.inputs && length m.outputs == length n.outputs)
    (IsDetermined (circuit_of (flat_named c.flats two)) × Compares (circuit_of (flat_named c.flats one)) (Outputs (circuit_of (flat_named c.flats two))) (room_of c (one ∷ two ∷ []) 0) budget result)
    (result ≡ Err error.Shape)

-- the most nodes that a module with so many pins adds over inputs that depend on so many levels
abbrev pub unfold_room : ℕ → ℕ → ℕ
unfold_room pins levels = 8 * (pins + 1) * 2 ^ (levels + 1)

-- no more nodes were added
pub record UnfoldRoom (pins : ℕ) (inputs : List Node) (old new : Store) : Type 0 where
  pub most : (ls : List ℕ) → DependOn old.triples inputs ls → length new.triples ≤ length old.triples + unfold_room pins (length ls)

-- a stop for nodes has its cause: the count of refusals rose, and the budget is below the nodes at the call and those that it
-- may add
pub record UnfoldCause (pins : ℕ) (inputs : List Node) (old new : Store) : Type 0 where
  pub rose : Rose old.fulls new.fulls
  pub below : (ls : List ℕ) → DependOn old.triples inputs ls → old.budget < length old.triples + unfold_room pins (length ls)
