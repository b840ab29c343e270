use Rattle.std.specs.List.{prefix_len}
use Rattle.std.proofs.Common.{◌≡◌, ◌≤◌, ◌+◌, ◌-◌, length, take, drop}
use Rattle.cb_model.specs.Text.{is_digit}
use Rattle.cb_lex.specs.Digits.{Writes}
use Rattle.cb_lex.proofs.bytes.digits.Given as goal

abbrev pub invariant-loop-n : goal.invariant-loop-n
invariant-loop-n l = record {
  within : l.n ≤ length l.bytes;
  so_far : prefix_len is_digit l.bytes ≡ l.n + prefix_len is_digit (drop l.n l.bytes);
  writes : Writes (take l.n l.bytes) l.value;
}

abbrev pub decreases-loop-n : goal.decreases-loop-n
decreases-loop-n l = length l.bytes - l.n
