use Rattle.std.proofs.Common.{◌∙◌, ◌<◌, List, ap, sym, subst}
use Rattle.std.specs.Prelude.{slice_set}
use Rattle.cb_heap.specs.Heap.{Terms}
use Rattle.cb_heap.specs.Links.{IsLinked, LeadsTo, chain}
use Rattle.cb_heap.specs.declared.Stored.{Stored}
use Rattle.cb_join.specs.Joins.{IsShortened}
use Rattle.cb_join.proofs.Shorten.{link-here, link-less, link-shortened, still-leads, then-linked}
use Rattle.cb_join.proofs.relink.Goals as goal

pub rewrite-requires-clause-linked : goal.rewrite-requires-clause-linked
rewrite-requires-clause-linked c =
    subst (λ (x : Stored). IsLinked (slice_set c.args.heap.now.cells c.args.at x)) (sym c.relinked.ensures)
    (then-linked c.args.heap.now.sorts c.args.heap.now.cells c.requires.heap.linked c.args.at c.stored-link.result c.args.to c.args.end c.stored-link.ensures (link-here c.args.heap.now.cells c.args.at c.stored-link.result c.args.to c.stored-link.ensures c.requires.link) c.requires.leads c.requires.end)

pub returns-clause-shortened : goal.returns-clause-shortened
returns-clause-shortened c =
    subst (λ (x : List Stored). IsShortened c.args.heap.now.sorts c.args.heap.now.cells x) (sym (ap (λ (t : Terms). t.cells) (c.in_ok-rewrite.ensures.rewritten c.stored-link.result c.stored-link.ensures) ∙ ap (λ (x : Stored). slice_set c.args.heap.now.cells c.args.at x) c.relinked.ensures))
    (link-shortened c.args.heap.now.sorts c.args.heap.now.cells c.requires.heap.linked c.args.at c.stored-link.result c.args.to c.args.end c.stored-link.ensures (link-here c.args.heap.now.cells c.args.at c.stored-link.result c.args.to c.stored-link.ensures c.requires.link) c.requires.leads c.requires.end)

pub returns-clause-leads : goal.returns-clause-leads
returns-clause-leads c =
    subst (λ (x : List Stored). LeadsTo x c.args.to.0 c.args.end.0) (sym (ap (λ (t : Terms). t.cells) (c.in_ok-rewrite.ensures.rewritten c.stored-link.result c.stored-link.ensures) ∙ ap (λ (x : Stored). slice_set c.args.heap.now.cells c.args.at x) c.relinked.ensures))
    (still-leads c.args.heap.now.sorts c.args.heap.now.cells c.requires.heap.linked c.args.at c.stored-link.result c.args.to c.args.end c.stored-link.ensures (link-here c.args.heap.now.cells c.args.at c.stored-link.result c.args.to c.stored-link.ensures c.requires.link) c.requires.leads c.requires.end)

pub returns-clause-less : goal.returns-clause-less
returns-clause-less c =
    subst (λ (x : List Stored). chain x c.args.to.0 < chain c.args.heap.now.cells c.args.at) (sym (ap (λ (t : Terms). t.cells) (c.in_ok-rewrite.ensures.rewritten c.stored-link.result c.stored-link.ensures) ∙ ap (λ (x : Stored). slice_set c.args.heap.now.cells c.args.at x) c.relinked.ensures))
    (link-less c.args.heap.now.sorts c.args.heap.now.cells c.requires.heap.linked c.args.at c.stored-link.result c.args.to c.args.end c.stored-link.ensures (link-here c.args.heap.now.cells c.args.at c.stored-link.result c.args.to c.stored-link.ensures c.requires.link) c.requires.leads c.requires.end)

pub returns-clause-sorts : goal.returns-clause-sorts
returns-clause-sorts c = ap (λ (t : Terms). t.sorts) (c.in_ok-rewrite.ensures.rewritten c.stored-link.result c.stored-link.ensures)
