-- What numbers the names of a rule or query.
use Rattle.std.specs.Prelude.{◌++◌}
use Rattle.cb_model.specs.Sorts.{Numbering}
use Rattle.cb_trees.specs.declared.numbers.Numbers.{Numbers}

-- the variables, the constants, and the names of the program with those behind them
abbrev pub numbering_of : Numbers → Numbering
numbering_of n = record { variables = n.variables.now; constants = n.declared.now.constants; names = n.names.now ++ n.more.now }
