use Rattle.std.proofs.Common.{rules, ◌∙◌, ◌≡◌, [], List, arith, sym, subst}
use Rattle.cb_join.specs.declared.cycle.Frame.{Frame}
use Rattle.cb_join.specs.Cycle.{Frames}
use Rattle.cb_join.proofs.Follow.{wide}
use Rattle.cb_join.proofs.Joins.{no-items}
use Rattle.cb_join.proofs.Ways.{next-small}
use Rattle.cb_join.proofs.cycle.descend.Goals as goal

pub go_on-requires-clause-search : goal.go_on-requires-clause-search
go_on-requires-clause-search c =
    record {
      low = c.requires.search.low;
      number = wide c.args.heap.now.cells c.args.work.now.marks.items c.way.work.marks.items c.requires.search.number c.way.invariant.number;
      noted = c.way.invariant.noted;
      done = c.way.invariant.done;
      frames = subst (λ (x : List Frame). Frames c.args.heap.now.cells c.way.work.marks.items x) c.in-Some.ensures.items c.way.invariant.frames;
    }

pub go_on-requires-clause-next : goal.go_on-requires-clause-next
go_on-requires-clause-next c = next-small c.args.heap.now.cells c.way.work.marks.items c.way.work.way.items c.pop.new.self.items c.in-Some.frame c.requires.heap.linked (let n = c.len-count.ensures.number in let m = c.len-count.ensures.small in omega (arith, n, m)) c.way.invariant.frames c.in-Some.ensures.items

pub returns-clause-idle : goal.returns-clause-idle
returns-clause-idle c _ =
    let none : c.way.work.way.items ≡ [] = no-items c.way.work.way.items (sym c.way.work.way.ok.0 ∙ c.in_default.ensures.cases.0) in
    let still : c.pop.new.self.items ≡ [] = search rules in
    record {
      search = record {
        low = c.requires.search.low;
        number = wide c.args.heap.now.cells c.args.work.now.marks.items c.way.work.marks.items c.requires.search.number c.way.invariant.number;
        noted = c.way.invariant.noted;
        done = c.way.invariant.done;
        frames = subst (λ (x : List Frame). Frames c.args.heap.now.cells c.way.work.marks.items x) none c.way.invariant.frames;
      };
      empty = still;
    }
