use Rattle.cb_directives.proofs.Reading.{nonvar_found, nonvar_on, nonvar_end}
use Rattle.cb_directives.proofs.words.has_nonvar.Goals as goal

pub returns-then-is_nonvar : goal.returns-then-is_nonvar
returns-then-is_nonvar c = nonvar_found c.args.words.now c.args.sorts.now c.loop-place.place _ c.at.result c.loop-place-test.true c.at.ensures c.loop-place.invariant c.if-is_nonvar.ensures

pub loop-place-preserved : goal.loop-place-preserved
loop-place-preserved c = nonvar_on c.args.words.now c.args.sorts.now c.loop-place.place _ c.at.result c.loop-place-test.true c.at.ensures c.loop-place.invariant c.if-is_nonvar.ensures

pub returns : goal.returns
returns c = nonvar_end c.args.words.now c.args.sorts.now c.loop-place.place c.loop-place-test.false c.loop-place.invariant
