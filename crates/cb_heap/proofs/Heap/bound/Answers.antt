use Rattle.std.proofs.Common.{◌∙◌, Option, drop, sym, ap}
use Rattle.std.specs.Option.{option_map}
use Rattle.cb_heap.specs.declared.Change.{Change}
use Rattle.cb_heap.proofs.Back.{cell-listed, changed-contains}
use Rattle.cb_heap.proofs.Heap.bound.Goals as goal

pub returns-in-Some-clause-listed : goal.returns-in-Some-clause-listed
returns-in-Some-clause-listed c =
    sym (ap (λ (o : Option Change). option_map (λ (x : Change). x.cell) o) c.in-Some.is) ∙ cell-listed (drop c.args.since.trail c.args.self.now.trail) c.args.k c.change.result c.change.ensures

pub returns-in-Some-clause-whole : goal.returns-in-Some-clause-whole
returns-in-Some-clause-whole c = λ x h. changed-contains (drop c.args.since.trail c.args.self.now.trail) c.args.self.now.cells x h

pub returns-in-None-clause-listed : goal.returns-in-None-clause-listed
returns-in-None-clause-listed c =
    sym (ap (λ (o : Option Change). option_map (λ (x : Change). x.cell) o) c.in-None.is) ∙ cell-listed (drop c.args.since.trail c.args.self.now.trail) c.args.k c.change.result c.change.ensures

pub returns-in-None-clause-whole : goal.returns-in-None-clause-whole
returns-in-None-clause-whole c = λ x h. changed-contains (drop c.args.since.trail c.args.self.now.trail) c.args.self.now.cells x h
