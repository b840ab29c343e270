use Rattle.std.proofs.Common.{◌≡◌, ◌≤◌, take}
use Rattle.cb_model.specs.Program.{bools}
use Rattle.cb_branch.proofs.additions.booleans.Given as goal

abbrev pub invariant-loop-sort : goal.invariant-loop-sort
invariant-loop-sort l = record {
  count : l.count ≡ bools (take l.sort-index l.sorts);
  most : l.count ≤ l.sort-index;
}
