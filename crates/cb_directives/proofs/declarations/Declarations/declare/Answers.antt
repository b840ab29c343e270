use Rattle.std.proofs.Common.{refl, sym, subst}
use Rattle.cb_directives.specs.Checks.{check_other, arguments_of, Refuses}
use Rattle.cb_directives.proofs.Steps.{leaves_on, leaves_stop, leaves_end}
use Rattle.cb_directives.proofs.Reading.{drop_past}
use Rattle.cb_directives.proofs.declarations.Declarations.declare.Goals as goal

pub loop-term-init : goal.loop-term-init
loop-term-init c = λ go. refl

pub returns-in-Err : goal.returns-in-Err
returns-in-Err c =
    subst (Refuses (check_other) (arguments_of c.args.line c.args.word.now c.args.terms.now) c.args.self.now) (sym c.at.ensures)
    (leaves_stop (check_other) c.args.line c.args.word.now c.args.terms.now c.loop-term.term-index c.term-item.result c.args.self.now c.loop-term.self c.in-Err.fault c.loop-term-test.true c.term-item.is
    c.loop-term.invariant c.in-Err.ensures)

pub loop-term-preserved : goal.loop-term-preserved
loop-term-preserved c =
    leaves_on (check_other) c.args.line c.args.word.now c.args.terms.now c.loop-term.term-index c.term-item.result c.args.self.now c.loop-term.self c.argument.new.self c.loop-term-test.true c.term-item.is
    c.loop-term.invariant c.in-Ok.ensures

pub returns : goal.returns
returns c =
    leaves_end (check_other) c.args.line c.args.word.now c.args.terms.now c.loop-term.term-index c.args.self.now c.loop-term.self c.loop-term.invariant (drop_past c.args.terms.now c.loop-term.term-index c.loop-term-test.false)
