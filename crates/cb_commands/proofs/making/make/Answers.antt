use Rattle.std.proofs.Common.{[], refl}
use Rattle.cb_host.proofs.Writes.{Wrote-none}
use Rattle.cb_lines.specs.Ends.{wanting, nothing_yet}
use Rattle.cb_lines.specs.Words.{nodes_view}
use Rattle.cb_lines.proofs.Writing.{finish-tells}
use Rattle.cb_commands.proofs.Outcomes.{make-facts}
use Rattle.cb_commands.proofs.making.make.Goals as goal

pub write-requires : goal.write-requires
write-requires g c = let h = c.in-Ok.ensures in (make-facts c.args.bits (nodes_view c.args.nodes) h.lines c.in-Ok.answer.outcome h.says).ends

pub returns-in-Ok-clause-says : goal.returns-in-Ok-clause-says
returns-in-Ok-clause-says g c = finish-tells c.in-Ok.ensures c.write.ensures.written

pub returns-in-Err-clause-says : goal.returns-in-Err-clause-says
returns-in-Err-clause-says g c = wanting [] (nothing_yet refl) refl (Wrote-none _)
