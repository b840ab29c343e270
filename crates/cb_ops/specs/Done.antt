-- The nodes for which an operation is done, with its answers.
use Rattle.std.specs.Prelude.{Bool, nat_eq}
use Rattle.cb_dd.specs.declared.Node.{Node}

abbrev pub node_eq : Node → Node → Bool
node_eq x y = nat_eq x.0 y.0
