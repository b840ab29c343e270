use Rattle.std.proofs.Common.{◌∙◌}
use Rattle.cb_join.proofs.Follow.{finite-on, link-falls, link-there, marked, more-then, one-done, wide}
use Rattle.cb_join.proofs.Ways.{noted-as}
use Rattle.std.proofs.lemmas.List.{length-set}
use Rattle.cb_join.specs.declared.cycle.Mark.TheVariants as mark
use Rattle.cb_join.proofs.cycle.mark_links.Goals as goal

pub links-smaller : goal.links-smaller
links-smaller c =
    link-falls c.args.heap.now.cells c.requires.heap.linked c.links.at c.in-Some.to (c.open_link.ensures.link c.in-Some.to c.in-Some.is)

pub links-preserved : goal.links-preserved
links-preserved c =
    let cs = c.args.heap.now.cells in
    let ms = c.links.work.marks.items in
    let link = c.open_link.ensures.link c.in-Some.to c.in-Some.is in
    let number = wide cs c.args.work.now.marks.items ms c.requires.number c.links.invariant.number in
    record {
      there = link-there cs c.requires.heap.linked c.links.at c.in-Some.to link;
      finite = finite-on cs c.links.at c.in-Some.to link c.links.invariant.finite;
      done = more-then cs c.args.work.now.marks.items ms _ c.links.invariant.done (one-done cs ms c.links.at c.in-Some.to number link c.links.invariant.finite);
      number = length-set ms c.links.at mark.Done ∙ c.links.invariant.number;
      noted = noted-as mark.Done ms c.links.work.met.items c.push.new.self.items c.links.at c.links.invariant.noted (marked cs ms c.links.at c.in-Some.to number link) c.in_ok-push.ensures.items;
      way = c.links.invariant.way;
    }
