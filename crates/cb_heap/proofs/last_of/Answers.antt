use Rattle.std.proofs.Common.{◌∙◌, sym}
use Rattle.std.proofs.lemmas.Option.{slice_get-get_or}
use Rattle.cb_heap.specs.declared.Stored.TheVariants as cell
use Rattle.cb_heap.specs.Links.{arrives}
use Rattle.cb_heap.proofs.Chains.{chain-falls, link-within, leads-on, last-is}
use Rattle.cb_heap.proofs.last_of.Goals as goal

pub links-init : goal.links-init
links-init c = record { there = c.requires.cell; leads = arrives }

pub links-smaller : goal.links-smaller
links-smaller c =
    let at = slice_get-get_or c.args.cells.now c.links.at (cell.Leaf 0) c.links.invariant.there in
    chain-falls c.args.cells.now c.requires.linked c.links.at _ c.in-Some.to at (sym c.link.ensures ∙ c.in-Some.is)

pub links-preserved : goal.links-preserved
links-preserved c =
    let at = slice_get-get_or c.args.cells.now c.links.at (cell.Leaf 0) c.links.invariant.there in
    record {
      there = link-within c.args.cells.now c.requires.linked c.links.at _ c.in-Some.to at (sym c.link.ensures ∙ c.in-Some.is);
      leads = leads-on c.args.cells.now c.args.r.0 c.links.at _ c.in-Some.to c.links.invariant.leads at (sym c.link.ensures ∙ c.in-Some.is);
    }

pub returns : goal.returns
returns c = last-is c.args.cells.now c.args.r.0 c.links.at _ (slice_get-get_or c.args.cells.now c.links.at (cell.Leaf 0) c.links.invariant.there) (sym c.link.ensures ∙ c.in_default.is) c.links.invariant.leads
