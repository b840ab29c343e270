-- `circuit(half_adder, [a, b], [S, C])`: a step with two fresh variables, whose outputs are fixed by the circuit.
use Rattle.std.specs.Prelude.{[], ◌∷◌, codes, None}
use Rattle.cb_model.specs.declared.Sort.TheVariants as sort
use Rattle.cb_model.specs.declared.Expr.TheVariants as expr
use Rattle.cb_model.specs.declared.Tree.{Tree}
use Rattle.cb_model.specs.declared.Tree.TheVariants as tree
use Rattle.cb_model.specs.declared.Goal.TheVariants as goal
use Rattle.cb_model.specs.declared.GateKind.TheVariants as gate
use Rattle.cb_model.specs.declared.Circuit.{Circuit}
use Rattle.cb_model.specs.Program.{Program}
use Rattle.cb_model.specs.Derivation.{Query, Branch, with_circuit, first_branch}
use Rattle.cb_model.specs.Line.{Names}

abbrev pub half : Circuit
half = record {
  inputs = 2;
  nets = 4;
  outputs = 2 ∷ 3 ∷ [];
  gates = record { kind = gate.Xor; ins = 0 ∷ 1 ∷ []; out = 2 } ∷ record { kind = gate.And; ins = 0 ∷ 1 ∷ []; out = 3 } ∷ [];
}

abbrev pub ins : Tree
ins = tree.Bus (expr.Const 0 ∷ expr.Const 1 ∷ []) None

abbrev pub outs : Tree
outs = tree.Bus (expr.Var 0 ∷ expr.Var 1 ∷ []) None

abbrev pub p : Program
p = record { constants = 2; world = record { arguments = [] }; words = []; demons = []; clauses = []; circuits = half ∷ [] }

abbrev pub q : Query
q = record { goals = goal.Circuit 0 ins outs ∷ []; sorts = sort.Bool ∷ sort.Bool ∷ [] }

abbrev pub names : Names
names = record { names = []; constants = codes "a" ∷ codes "b" ∷ []; printed = (0, codes "S") ∷ (1, codes "C") ∷ [] }

abbrev pub answer : Branch
answer = with_circuit (record (first_branch q) { goals = [] }) half ins outs
