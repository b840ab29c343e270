-- Expressions over the inputs of a specification.
use Rattle.std.specs.Prelude.{◌≡◌, true, false, ℕ, zero, suc, ℤ, pos, List, [], map, length, Option, Some, None, MatchOption}
use Rattle.cb_model.specs.declared.Expr.{Expr}
use Rattle.cb_model.specs.declared.Expr.TheVariants as expr
use Rattle.cb_model.specs.Text.{Text}
use Rattle.cb_model.specs.Grammar.{Form, Forms}
use Rattle.cb_model.specs.Sorts.{Numbering, as_expr, as_exprs}
use Rattle.cb_model.specs.Facts.{is_spec, are_spec}

-- 0 or 1
abbrev pub bit_of : ℤ → Option Expr
bit_of (pos zero) = Some expr.Zero
bit_of (pos (suc zero)) = Some expr.One
bit_of _ = None

-- the inputs number the variables
abbrev pub over : List Text → Numbering
over xs = record { variables = xs; constants = []; names = [] }

-- the expression of a form, where it is one over the inputs
abbrev pub IsExpr : List Text → Form → Option Expr → Type 0
IsExpr xs f o = MatchOption o (is_spec xs f ≡ false) (λ e. (is_spec xs f ≡ true) × (e ≡ as_expr (over xs) f))

-- the expressions of forms, where they are some over the inputs
abbrev pub AreExprs : List Text → Forms → Option (List Expr) → Type 0
AreExprs xs fs o = MatchOption o (are_spec xs fs ≡ false) (λ es. (are_spec xs fs ≡ true) × (es ≡ as_exprs (over xs) fs))
