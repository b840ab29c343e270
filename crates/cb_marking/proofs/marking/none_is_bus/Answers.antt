use Rattle.cb_model.specs.declared.Sort.TheVariants as sort
use Rattle.cb_marking.proofs.Ends.{here_within, bus_found, bus_none, bus_end}
use Rattle.cb_marking.proofs.marking.none_is_bus.Goals as goal

pub bounds-sorts-equation : goal.bounds-sorts-equation
bounds-sorts-equation c = here_within c.args.sorts.now c.args.equations.now c.loop-equation.equation-index c.loop-equation-test.true sort.Bool c.requires

pub returns-then-is_bus : goal.returns-then-is_bus
returns-then-is_bus c = bus_found c.args.sorts.now c.args.equations.now c.loop-equation.equation-index c.loop-equation-test.true sort.Bool c.requires c.if-is_bus.ensures

pub loop-equation-preserved : goal.loop-equation-preserved
loop-equation-preserved c = bus_none c.args.sorts.now c.args.equations.now c.loop-equation.equation-index c.loop-equation-test.true sort.Bool c.requires c.loop-equation.invariant c.if-is_bus.ensures

pub returns : goal.returns
returns c = bus_end c.args.sorts.now c.args.equations.now c.loop-equation.equation-index c.loop-equation-test.false c.loop-equation.invariant
