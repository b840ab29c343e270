-- Worked circuits: gates, flattening, outputs, differences, and the lines of comparisons.
use Rattle.std.specs.Prelude.{◌≡◌, ℕ, zero, ◌++◌, ◌||◌, ◌&&◌, not, Bool, true, false, List, [], ◌∷◌, map, codes, get_or}
use Rattle.cb_model.specs.declared.GateKind.TheVariants as gate
use Rattle.cb_model.specs.declared.GateKind.{GateKind}
use Rattle.cb_model.specs.declared.Gate.{Gate}
use Rattle.cb_model.specs.declared.Circuit.{Circuit}
use Rattle.cb_model.specs.declared.Expr.{Expr}
use Rattle.cb_model.specs.declared.Expr.TheVariants as expr
use Rattle.cb_model.specs.declared.Outcome.TheVariants as outcome
use Rattle.cb_model.specs.Bits.{rows, weight}
use Rattle.cb_model.specs.Text.{Text}
use Rattle.cb_model.specs.Circuits.{gate_value, Module, Instance, flats, circuit_of, no_flat, Outputs, LeastDifference, BySpec}
use Rattle.cb_model.specs.Answers.{value_text}
use Rattle.cb_model.specs.Adder.{adder_text}
use Rattle.cb_model.specs.Verdicts.{differs_text, Compared}

abbrev pub A : Text
A = codes "A"

abbrev pub B : Text
B = codes "B"

abbrev pub C : Text
C = codes "C"

abbrev pub S : Text
S = codes "S"

abbrev pub D : Text
D = codes "D"

abbrev pub T : Text
T = codes "T"

abbrev pub U : Text
U = codes "U"

abbrev pub V : Text
V = codes "V"

-- an instance with these pins
abbrev pub with_pins : List Text → List Text → Text → Instance
with_pins ins outs part = record { part = part; ins = ins; outs = outs }

-- a half adder whose carry is made by this gate
abbrev pub half_with : Text → Module
half_with carry = record {
  name = codes "half_adder";
  inputs = A ∷ B ∷ [];
  outputs = S ∷ C ∷ [];
  instances = with_pins (A ∷ B ∷ []) (S ∷ []) (codes "xor") ∷ with_pins (A ∷ B ∷ []) (C ∷ []) carry ∷ [];
}

-- a half adder
abbrev pub half_adder : Module
half_adder = half_with (codes "and")

-- a full adder of two half adders
abbrev pub full_adder : Module
full_adder = record {
  name = codes "full_adder";
  inputs = A ∷ B ∷ C ∷ [];
  outputs = S ∷ D ∷ [];
  instances =
      with_pins (A ∷ B ∷ []) (T ∷ U ∷ []) (codes "half_adder") ∷ with_pins (T ∷ C ∷ []) (S ∷ V ∷ []) (codes "half_adder") ∷
      with_pins (U ∷ V ∷ []) (D ∷ []) (codes "or") ∷ [];
}

-- a module without gates, which exchanges its inputs
abbrev pub swap : Module
swap = record { name = codes "swap"; inputs = A ∷ B ∷ []; outputs = B ∷ A ∷ []; instances = [] }

-- a module that reads through it, with an input as an output and an output that stands twice, its instances in the other order
abbrev pub through : Module
through = record {
  name = codes "through";
  inputs = A ∷ B ∷ C ∷ [];
  outputs = C ∷ S ∷ S ∷ T ∷ [];
  instances = with_pins (U ∷ T ∷ C ∷ []) (S ∷ []) (codes "mux") ∷ with_pins (A ∷ B ∷ []) (T ∷ U ∷ []) (codes "swap") ∷ [];
}

-- the circuit of the last of these modules
abbrev pub circuit_at : ℕ → List Module → Circuit
circuit_at n ms = circuit_of (get_or (flats [] ms) n no_flat)

-- a gate with these nets
abbrev pub gate_at : GateKind → List ℕ → ℕ → Gate
gate_at kind ins out = record { kind = kind; ins = ins; out = out }

-- the specification `[A # B, A * B]`
abbrev pub half_spec : List Expr
half_spec = expr.Xor (expr.Var 0 ∷ expr.Var 1 ∷ []) ∷ expr.And (expr.Var 0 ∷ expr.Var 1 ∷ []) ∷ []

-- the specification `[~(A # B), ~(A * B)]`
abbrev pub not_half : List Expr
not_half = map expr.Not half_spec

-- the names of a constant and of the first parameter
abbrev pub name_at : ℕ → Text
name_at zero = codes "a"
name_at _ = codes "_1"

pub record CircuitExamples : Type 0 where
  pub exclusive_nor : gate_value gate.Xnor (true ∷ true ∷ []) ≡ true
  -- a `mux` gives its second input where its first is 0, and its third where that is 1
  pub selects_first : gate_value gate.Mux (false ∷ true ∷ false ∷ []) ≡ true
  pub selects_second : gate_value gate.Mux (true ∷ true ∷ false ∷ []) ≡ false
  pub odd_of_three : gate_value gate.Xor (true ∷ true ∷ true ∷ []) ≡ true
  -- rows come by their weight
  pub weights : map weight (rows 2) ≡ 0 ∷ 1 ∷ 2 ∷ 3 ∷ []
  pub full_adder_flat : circuit_at 1 (half_adder ∷ full_adder ∷ []) ≡ record {
    inputs = 3;
    nets = 8;
    outputs = 5 ∷ 7 ∷ [];
    gates =
        gate_at gate.Xor (0 ∷ 1 ∷ []) 3 ∷ gate_at gate.And (0 ∷ 1 ∷ []) 4 ∷ gate_at gate.Xor (3 ∷ 2 ∷ []) 5 ∷
        gate_at gate.And (3 ∷ 2 ∷ []) 6 ∷ gate_at gate.Or (4 ∷ 6 ∷ []) 7 ∷ [];
  }
  pub full_adder_outputs : Outputs (circuit_at 1 (half_adder ∷ full_adder ∷ [])) (true ∷ false ∷ true ∷ []) (false ∷ true ∷ [])
  -- a pin is driven through a module without gates; an output may be an input, and may stand twice
  pub through_flat : circuit_at 1 (swap ∷ through ∷ []) ≡ record { inputs = 3; nets = 4; outputs = 2 ∷ 3 ∷ 3 ∷ 1 ∷ []; gates = gate_at gate.Mux (0 ∷ 1 ∷ 2 ∷ []) 3 ∷ [] }
  -- the half adder agrees with its specification
  pub verified : Compared (codes "half_adder") (codes "verified ") (A ∷ B ∷ []) (circuit_at 0 (half_adder ∷ [])) (BySpec half_spec) ⊥
      (codes "verified half_adder" ∷ []) outcome.Done
  -- with `or` in place of `and` it differs first at the second input, in its second output alone
  pub differs : Compared (codes "half_adder") (codes "verified ") (A ∷ B ∷ []) (circuit_at 0 (half_with (codes "or") ∷ [])) (BySpec half_spec) ⊥
      (codes "differs half_adder at A=0 B=1: output 2 is 1, wanted 0" ∷ []) outcome.Differs
  -- where both outputs are wrong at the first input, they differ first there and at the first output; not at the second
  -- output, and not at another input
  pub first_output : LeastDifference (circuit_at 0 (half_adder ∷ [])) (BySpec not_half) (false ∷ false ∷ []) 0 false true
  pub not_second_output : (x y : Bool) → LeastDifference (circuit_at 0 (half_adder ∷ [])) (BySpec not_half) (false ∷ false ∷ []) 1 x y → ⊥
  pub not_second_input : (x y : Bool) → LeastDifference (circuit_at 0 (half_adder ∷ [])) (BySpec not_half) (false ∷ true ∷ []) 0 x y → ⊥
  -- without inputs the ports are left out
  pub without_ports : differs_text (codes "m") [] [] 0 true false ≡ codes "differs m: output 1 is 1, wanted 0"
  -- the text of a function of a constant and a parameter
  pub value : value_text name_at (λ e. e 0 || (not (e 0) && e 1)) (0 ∷ 1 ∷ []) ≡ codes "~a*_1 + a"
  pub adder_of_one : adder_text 1 ≡
      codes "module(half,[A,B],[S,C],[xor([A,B],[S]),and([A,B],[C])])." ++ (10 ∷
      (codes "module(full,[A,B,C],[S,D],[half([A,B],[T,U]),half([T,C],[S,V]),or([U,V],[D])])." ++ (10 ∷
      (codes "module(adder,[C0,A0,B0],[S0,C1],[full([A0,B0,C0],[S0,C1])])." ++ (10 ∷
      (codes "spec(adder,[C0,A0,B0],[A0#B0#C0,(A0*B0+(A0+B0)*C0)])." ++ (10 ∷ [])))))))
  -- the carry of the second bit goes through that of the first
  pub adder_of_two : adder_text 2 ≡
      codes "module(half,[A,B],[S,C],[xor([A,B],[S]),and([A,B],[C])])." ++ (10 ∷
      (codes "module(full,[A,B,C],[S,D],[half([A,B],[T,U]),half([T,C],[S,V]),or([U,V],[D])])." ++ (10 ∷
      (codes "module(adder,[C0,A0,B0,A1,B1],[S0,S1,C2],[full([A0,B0,C0],[S0,C1]),full([A1,B1,C1],[S1,C2])])." ++ (10 ∷
      (codes "spec(adder,[C0,A0,B0,A1,B1],[A0#B0#C0,A1#B1#(A0*B0+(A0+B0)*C0),(A1*B1+(A1+B1)*(A0*B0+(A0+B0)*C0))])." ++ (10 ∷ [])))))))
