use Rattle.std.proofs.Common.{sym}
use Rattle.cb_trees.specs.Numbered.{numbering_of}
use Rattle.cb_trees.specs.Places.{sorts_given}
use Rattle.cb_trees.proofs.Walk.{written_on, own_on}
use Rattle.cb_trees.proofs.InPlaces.{compound_is, trees_on}
use Rattle.cb_trees.proofs.trees.+trees.Goals as goal

pub compound-returns-clause-tree : goal.compound-returns-clause-tree
compound-returns-clause-tree t c =
    compound_is c.args.numbers.now.declared.now (numbering_of c.args.numbers.now) c.args.name.now c.args.args.now c.args.own.now c.in_ok-number.number c.in_ok-trees.field-0
    (sorts_given c.of-places.result.declared c.of-places.result.count) c.in_ok-number.ensures c.of-places.ensures.sorts c.in_ok-trees.ensures.trees

pub trees-loop-place-preserved : goal.trees-loop-place-preserved
trees-loop-place-preserved t c =
    let now = c.loop-place.invariant in
    let d = c.args.numbers.now.declared.now in
    let n = numbering_of c.args.numbers.now in
    let ss = sorts_given c.args.places.now.declared c.args.places.now.count in
    let ts = c.args.args.now in
    let i = c.loop-place.place in
    let x = c.index-args-place.result in
    record {
      written = written_on ts i x c.loop-place-test.true c.index-args-place.is now.written;
      own = own_on ts i x c.loop-place-test.true c.index-args-place.is c.args.own.now c.loop-place.own c.tree.new.own now.own c.in_ok-tree.ensures.own;
      trees = trees_on d n ss ts i x c.loop-place-test.true c.index-args-place.is c.args.own.now c.loop-place.own c.tree.new.own c.loop-place.all c.push.new.self c.sort.result c.in_ok-tree.field-0
          now.trees (sym c.sort.ensures) c.in_ok-tree.ensures.tree c.in_ok-tree.ensures.own c.in_ok-push.ensures.ok;
    }
