use Rattle.std.proofs.Common.{◌≡◌, drop}
use Rattle.cb_lines.specs.Words.{digits_upto}
use Rattle.cb_lines.proofs.words.number_up_to.Given as goal

abbrev pub invariant-loop-byte : goal.invariant-loop-byte
invariant-loop-byte l = digits_upto l.limit l.value (drop l.byte-index l.bytes) ≡ digits_upto l.limit 0 l.word
