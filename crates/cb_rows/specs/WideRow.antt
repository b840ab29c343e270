-- `B = [0, .., 0]` with so many zeros.
use Rattle.std.specs.Prelude.{ℕ, zero, suc, List, [], ◌∷◌, map, codes, Some, None}
use Rattle.cb_model.specs.declared.Sort.TheVariants as sort
use Rattle.cb_model.specs.declared.Expr.{Expr}
use Rattle.cb_model.specs.declared.Expr.TheVariants as expr
use Rattle.cb_model.specs.declared.Tree.{Tree}
use Rattle.cb_model.specs.declared.Tree.TheVariants as tree
use Rattle.cb_model.specs.declared.Goal.TheVariants as goal
use Rattle.cb_model.specs.Bits.{numbers}
use Rattle.cb_model.specs.Program.{Program, no_program}
use Rattle.cb_model.specs.Derivation.{Query}
use Rattle.cb_model.specs.Line.{Names}

-- so many zeros
abbrev pub zeros : ℕ → List Expr
zeros zero = []
zeros (suc n) = expr.Zero ∷ zeros n

abbrev pub p : Program
p = no_program 0

abbrev pub q : ℕ → Query
q n = record { goals = goal.Equal (tree.Bus [] (Some 0)) (tree.Bus (zeros n) None) ∷ []; sorts = sort.Bus ∷ [] }

abbrev pub names : Names
names = record { names = []; constants = []; printed = (0, codes "B") ∷ [] }

-- its shape: a leaf for each zero
abbrev pub shape : ℕ → List Tree
shape n = tree.Bus (map expr.Var (numbers n)) None ∷ []
