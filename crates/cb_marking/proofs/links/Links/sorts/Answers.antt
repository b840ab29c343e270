use Rattle.std.proofs.Common.{sym}
use Rattle.cb_model.specs.declared.Sort.TheVariants as sort
use Rattle.cb_marking.proofs.One.{one_found, tells, sorted_more}
use Rattle.cb_marking.proofs.links.Links.sorts.Goals as goal

pub loop-thing-preserved : goal.loop-thing-preserved
loop-thing-preserved c =
    let m = c.args.self.now in
    let x = c.loop-thing.thing in
    let k = c.in-Ok.marks in
    sorted_more m x c.loop-thing.sorts c.push.new.self c.in-Some.sort c.loop-thing.invariant
    (one_found m x _ _ _ (tells m sort.Bool c.args.things k.bools c.in-Ok.ensures.bools x) (tells m sort.Bus c.args.things k.buses c.in-Ok.ensures.buses x) (tells m sort.Term c.args.things k.terms c.in-Ok.ensures.terms x) c.in-Some.sort (sym c.in-Some.ensures))
    c.in-Ok-push.ensures.ok
