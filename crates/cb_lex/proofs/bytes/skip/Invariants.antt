use Rattle.std.proofs.Common.{◌≤◌, ◌+◌, ◌-◌, length, drop}
use Rattle.cb_lex.specs.Scans.{SameTokens}
use Rattle.cb_lex.proofs.bytes.skip.Given as goal

abbrev pub invariant-loop-at : goal.invariant-loop-at
invariant-loop-at l = record {
  within : l.at ≤ length l.source;
  forward : l.fn.place ≤ l.at;
  line_within : l.line ≤ l.at + 1;
  same : SameTokens l.fn.place l.fn.line (drop l.fn.place l.source) l.at l.line (drop l.at l.source);
}

abbrev pub decreases-loop-at : goal.decreases-loop-at
decreases-loop-at l = length l.source - l.at
