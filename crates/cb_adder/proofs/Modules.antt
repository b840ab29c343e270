-- The modules and the specification of the generated adder.
use Rattle.std.specs.Prelude.{◌≡◌, ℕ, zero, suc, ◌+◌, ◌*◌, List, [], ◌∷◌, ◌++◌, map, length, flat_map, codes}
use Rattle.cb_model.specs.declared.Expr.{Expr}
use Rattle.cb_model.specs.declared.Expr.TheVariants as expr
use Rattle.cb_model.specs.Bits.{numbers}
use Rattle.cb_model.specs.Text.{Text}
use Rattle.cb_model.specs.Adder.{named}
use Rattle.cb_model.specs.Circuits.{Module, Instance, Flat, flat, circuit_of, Agrees, BySpec}
use Rattle.cb_model.specs.Facts.{Spec}

-- the names of the inputs of a bit, of its sum, and of the carry into it
abbrev pub a_name : ℕ → Text
a_name i = named (codes "A") i

abbrev pub b_name : ℕ → Text
b_name i = named (codes "B") i

abbrev pub s_name : ℕ → Text
s_name i = named (codes "S") i

abbrev pub c_name : ℕ → Text
c_name i = named (codes "C") i

-- an instance
abbrev pub placed_as : Text → List Text → List Text → Instance
placed_as part ins outs = record { part = part; ins = ins; outs = outs }

-- the half adder
abbrev pub half : Module
half = record {
  name = codes "half";
  inputs = codes "A" ∷ codes "B" ∷ [];
  outputs = codes "S" ∷ codes "C" ∷ [];
  instances = placed_as (codes "xor") (codes "A" ∷ codes "B" ∷ []) (codes "S" ∷ []) ∷ placed_as (codes "and") (codes "A" ∷ codes "B" ∷ []) (codes "C" ∷ []) ∷ [];
}

-- the full adder of two half adders
abbrev pub full : Module
full = record {
  name = codes "full";
  inputs = codes "A" ∷ codes "B" ∷ codes "C" ∷ [];
  outputs = codes "S" ∷ codes "D" ∷ [];
  instances =
      placed_as (codes "half") (codes "A" ∷ codes "B" ∷ []) (codes "T" ∷ codes "U" ∷ []) ∷ placed_as (codes "half") (codes "T" ∷ codes "C" ∷ []) (codes "S" ∷ codes "V" ∷ []) ∷
      placed_as (codes "or") (codes "U" ∷ codes "V" ∷ []) (codes "D" ∷ []) ∷ [];
}

-- the two, flattened
abbrev pub half_flat : Flat
half_flat = flat [] half

abbrev pub full_flat : Flat
full_flat = flat (half_flat ∷ []) full

abbrev pub parts : List Flat
parts = half_flat ∷ full_flat ∷ []

-- the full adder of a bit
abbrev pub adder_part : ℕ → Instance
adder_part i = placed_as (codes "full") (a_name i ∷ b_name i ∷ c_name i ∷ []) (s_name i ∷ c_name (suc i) ∷ [])

-- the inputs and the outputs
abbrev pub adder_inputs : ℕ → List Text
adder_inputs n = codes "C0" ∷ flat_map (λ i. a_name i ∷ b_name i ∷ []) (numbers n)

abbrev pub adder_outputs : ℕ → List Text
adder_outputs n = map s_name (numbers n) ++ c_name n ∷ []

-- full adders in a row
abbrev pub adder_module : ℕ → Module
adder_module n = record { name = codes "adder"; inputs = adder_inputs n; outputs = adder_outputs n; instances = map adder_part (numbers n) }

abbrev pub adder_flat : ℕ → Flat
adder_flat n = flat parts (adder_module n)

-- the inputs of a bit as expressions, by their places
abbrev pub a_expr : ℕ → Expr
a_expr i = expr.Var (1 + 2 * i)

abbrev pub b_expr : ℕ → Expr
b_expr i = expr.Var (2 + 2 * i)

-- the carry into a bit
abbrev pub carry_expr : ℕ → Expr
carry_expr zero = expr.Var 0
carry_expr (suc i) = expr.Or (expr.And (a_expr i ∷ b_expr i ∷ []) ∷ expr.And (expr.Or (a_expr i ∷ b_expr i ∷ []) ∷ carry_expr i ∷ []) ∷ [])

-- the sum of a bit
abbrev pub sum_expr : ℕ → Expr
sum_expr i = expr.Xor (a_expr i ∷ b_expr i ∷ carry_expr i ∷ [])

abbrev pub adder_exprs : ℕ → List Expr
adder_exprs n = map sum_expr (numbers n) ++ carry_expr n ∷ []

abbrev pub adder_spec : ℕ → Spec
adder_spec n = record { name = codes "adder"; inputs = adder_inputs n; exprs = adder_exprs n }

-- five gates for each bit, and at each input the outputs of the specification
pub record Adds (n : ℕ) : Type 0 where
  pub inputs : length (adder_module n).inputs ≡ 2 * n + 1
  pub outputs : length (adder_module n).outputs ≡ n + 1
  pub exprs : length (adder_exprs n) ≡ n + 1
  pub gates : length (adder_flat n).gates ≡ 5 * n
  pub agrees : Agrees (circuit_of (adder_flat n)) (BySpec (adder_exprs n))
