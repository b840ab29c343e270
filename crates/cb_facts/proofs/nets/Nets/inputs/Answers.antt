use Rattle.std.proofs.Common.{◌≡◌, length, sym, ◌∙◌, arith}
use Rattle.cb_model.specs.Forms.{form_of}
use Rattle.cb_facts.proofs.Ports.{inputs-twice, inputs-are}
use Rattle.cb_facts.proofs.nets.Nets.inputs.Goals as goal

pub returns-then-len : goal.returns-then-len
returns-then-len c =
    inputs-twice c.args.self.now c.list.new.self (form_of c.args.term.now) c.in-Some.inputs.items c.requires.first (rw c.in-Some.is at c.in_ok-inputs.ensures)
    (λ e. c.if-len.true (omega (arith, c.len.ensures, c.len-2.ensures, c.in-Some.inputs.ok, e)))

pub returns-in-Ok : goal.returns-in-Ok
returns-in-Ok c =
    inputs-are c.args.self.now c.list.new.self (form_of c.args.term.now) c.in-Some.inputs.items c.requires.first (rw c.in-Some.is at c.in_ok-inputs.ensures) c.in-Ok.count
    (omega (arith, c.len.ensures, c.len-2.ensures, c.in-Some.inputs.ok, c.if-len.false)) (omega (arith, c.in-Ok.ensures, c.len-3.ensures, c.in-Some.inputs.ok))
