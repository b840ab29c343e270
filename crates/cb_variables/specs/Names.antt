-- The names of variables.
use Rattle.std.specs.Prelude.{Bool, ◌^◌, nat_lt}
use Rattle.cb_model.specs.Text.{Text, is_variable}
use Rattle.cb_model.specs.Sorts.{own_name}
use Rattle.cb_variables.specs.declared.Variable.{Variable}
use Rattle.cb_variables.specs.declared.Variable.TheVariants as variable

-- the name of a variable; each `_` has one of its own
abbrev pub variable_name : Variable → Text
variable_name (variable.Named x) = x.now
variable_name (variable.Own k) = own_name k

-- whether a text can give the variable, and fewer than 2 ^ 64 others
abbrev pub is_proper : Variable → Bool
is_proper (variable.Named x) = is_variable x.now
is_proper (variable.Own k) = nat_lt k (2 ^ 64)
