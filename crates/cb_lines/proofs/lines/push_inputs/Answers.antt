use Rattle.std.proofs.Common.{◌<◌, length, ◌∙◌, arith}
use Rattle.std.proofs.lemmas.Grind.{common_steps}
use Rattle.cb_lines.proofs.Inputs.{line-whole, line-port}
use Rattle.cb_lines.proofs.lines.push_inputs.Goals as goal

pub loop-i-preserved : goal.loop-i-preserved
loop-i-preserved c =
    line-port c.loop-i.line.items c.push_port.new.line.items c.args.ports.now c.args.input.now c.loop-i.i _ _ (omega arith) (omega arith) c.in_ok-push_port.ensures ∙ c.loop-i.invariant

pub returns : goal.returns
returns c =
    let some : 0 < length c.args.ports.now = grind (arith, common_steps) in
    line-whole c.loop-i.line.items c.extend_from_slice.new.self.items c.args.line.now.items c.args.ports.now c.args.input.now c.loop-i.i some c.requires c.loop-i-test.false
    c.in_ok-extend_from_slice.ensures.items c.loop-i.invariant
