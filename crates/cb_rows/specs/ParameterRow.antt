-- The answer line of `X * a = a`.
use Rattle.std.specs.Prelude.{List, [], ◌∷◌, codes, pos}
use Rattle.cb_model.specs.declared.Sort.TheVariants as sort
use Rattle.cb_model.specs.declared.Expr.{Expr}
use Rattle.cb_model.specs.declared.Expr.TheVariants as expr
use Rattle.cb_model.specs.declared.Tree.{Tree}
use Rattle.cb_model.specs.declared.Tree.TheVariants as tree
use Rattle.cb_model.specs.Bits.{Bits}
use Rattle.cb_model.specs.Values.{Int, Valuation, World}
use Rattle.cb_model.specs.Equations.{Item, Pair}
use Rattle.cb_model.specs.Program.{Program}
use Rattle.cb_model.specs.Derivation.{Branch}
use Rattle.cb_model.specs.Line.{Names}

abbrev pub world : World
world = record { arguments = [] }

abbrev pub x : Expr
x = expr.Var 0

abbrev pub a : Expr
a = expr.Const 0

abbrev pub es : List Item
es = Pair (tree.Leaf (expr.And (x ∷ a ∷ []))) (tree.Leaf a) ∷ []

-- Sat at given bits
abbrev pub at_bits : Bits → Valuation
at_bits f = record { bits = f; words = λ n. []; terms = λ n. Int (pos 0) }

abbrev pub terms : List Tree
terms = tree.Leaf x ∷ []

abbrev pub program : Program
program = record { constants = 1; world = world; words = []; demons = []; clauses = []; circuits = [] }

abbrev pub branch : Branch
branch = record { goals = []; waiting = []; next = 0; items = es; sorts = sort.Bool ∷ []; steps = 1 }

abbrev pub names : Names
names = record { names = []; constants = codes "a" ∷ []; printed = (0, codes "X") ∷ [] }
