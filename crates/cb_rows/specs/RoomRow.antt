-- `~X = X` over an empty file: what the first branch and the branch that is dropped allow as a stop for nodes.
use Rattle.std.specs.Prelude.{false, [], ◌∷◌, codes, None, pos}
use Rattle.cb_model.specs.declared.Sort.TheVariants as sort
use Rattle.cb_model.specs.declared.Expr.{Expr}
use Rattle.cb_model.specs.declared.Expr.TheVariants as expr
use Rattle.cb_model.specs.declared.Tree.TheVariants as tree
use Rattle.cb_model.specs.declared.Goal.TheVariants as goal
use Rattle.cb_model.specs.Equations.{Pair}
use Rattle.cb_model.specs.Program.{Program, no_program}
use Rattle.cb_model.specs.Derivation.{Query, Branch, extended, first_branch}
use Rattle.cb_model.specs.declared.Circuit.{Circuit}
use Rattle.cb_model.specs.Circuits.{Module, Instance}
use Rattle.cb_model.specs.Facts.{Circuits, no_circuits, with_module}
use Rattle.cb_model.specs.Text.{Text}
use Rattle.cb_model.specs.Line.{Names}

abbrev pub X : Expr
X = expr.Var 0

abbrev pub p : Program
p = no_program 0

abbrev pub q : Query
q = record { goals = goal.Equal (tree.Leaf (expr.Not X)) (tree.Leaf X) ∷ []; sorts = sort.Bool ∷ [] }

abbrev pub names : Names
names = record { names = []; constants = []; printed = (0, codes "X") ∷ [] }

abbrev pub dropped : Branch
dropped = extended (record (first_branch q) { goals = [] }) [] (Pair (tree.Leaf (expr.Not X)) (tree.Leaf X) ∷ []) []

-- `X * a = a`
abbrev pub times : Query
times = record { goals = goal.Equal (tree.Leaf (expr.And (X ∷ expr.Const 0 ∷ []))) (tree.Leaf (expr.Const 0)) ∷ []; sorts = sort.Bool ∷ [] }

-- `p, X = 1` over `p.`, where X is a term: the item `p = p` has two leaves
abbrev pub name_program : Program
name_program = record { constants = 0; world = record { arguments = [] ∷ [] }; words = [] ∷ []; demons = false ∷ []; clauses = record { pred = 0; sorts = []; head = []; body = [] } ∷ []; circuits = [] }

abbrev pub name_query : Query
name_query = record { goals = goal.Call 0 [] ∷ goal.Equal (tree.Var 0) (tree.Int (pos 1)) ∷ []; sorts = sort.Term ∷ [] }

abbrev pub name_behind : Branch
name_behind = record (first_branch name_query) { goals = goal.Equal (tree.Var 0) (tree.Int (pos 1)) ∷ [] }

-- `circuit(m, [1], [])` over `module(m, [A], [], []).`: the item counts its name, its trees and its own variable
abbrev pub bare : Circuit
bare = record { inputs = 1; nets = 1; outputs = []; gates = [] }

abbrev pub bare_program : Program
bare_program = record (no_program 0) { circuits = bare ∷ [] }

abbrev pub bare_query : Query
bare_query = record { goals = goal.Circuit 0 (tree.Bus (expr.One ∷ []) None) (tree.Bus [] None) ∷ []; sorts = [] }

-- `verify half_adder`, with its specification `[A # B, A * B]`
abbrev pub of : Text → Text → Instance
of part out = record { part = part; ins = codes "A" ∷ codes "B" ∷ []; outs = out ∷ [] }

abbrev pub half_adder : Module
half_adder = record { name = codes "half_adder"; inputs = codes "A" ∷ codes "B" ∷ []; outputs = codes "S" ∷ codes "C" ∷ []; instances = of (codes "xor") (codes "S") ∷ of (codes "and") (codes "C") ∷ [] }

abbrev pub circuits : Circuits
circuits = with_module no_circuits half_adder

abbrev pub A : Expr
A = expr.Var 0

abbrev pub B : Expr
B = expr.Var 1
