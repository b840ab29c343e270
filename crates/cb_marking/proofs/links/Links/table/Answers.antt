use Rattle.std.proofs.Common.{List, ℕ, [], ◌∷◌, ◌++◌, length, get_or, ◌∙◌, ap, subst, arith}
use Rattle.std.proofs.Math.ListN.{length-set}
use Rattle.cb_marking.specs.Search.{IsTable}
use Rattle.cb_marking.proofs.Lists.{take_end}
use Rattle.cb_marking.proofs.Table.{pair_within, table_next}
use Rattle.cb_marking.proofs.links.Links.table.Goals as goal

pub put-requires : goal.put-requires
put-requires c =
    omega (arith, (pair_within c.args.self.now c.args.things c.requires c.as_slice-thing-items.result.now c.as_slice-thing-items.ensures c.loop-thing.thing-index c.loop-thing-test.true).0, c.loop-thing.invariant.len)

pub put-requires-in-loop-thing : goal.put-requires-in-loop-thing
put-requires-in-loop-thing c =
    let p = get_or c.as_slice-thing-items.result.now c.loop-thing.thing-index (0, 0) in
    let t = c.loop-thing.table.items in
    let n = ap length c.in_ok-put.ensures ∙ length-set t p.0 (get_or t p.0 [] ++ p.1 ∷ []) in
    omega (arith, (pair_within c.args.self.now c.args.things c.requires c.as_slice-thing-items.result.now c.as_slice-thing-items.ensures c.loop-thing.thing-index c.loop-thing-test.true).1, c.loop-thing.invariant.len, n)

pub loop-thing-preserved : goal.loop-thing-preserved
loop-thing-preserved c =
    table_next c.args.self.now c.args.things c.requires c.as_slice-thing-items.result.now c.as_slice-thing-items.ensures c.loop-thing.thing-index c.loop-thing-test.true
    c.loop-thing.table.items c.put.new.table.items c.put-in-loop-thing.new.table.items c.loop-thing.invariant c.in_ok-put.ensures c.in_ok-put-2.ensures

pub returns : goal.returns
returns c =
    subst (λ (l : List (ℕ × ℕ)). IsTable l c.args.things c.loop-thing.table.items)
    (take_end c.args.self.now.edges c.loop-thing.thing-index (omega (arith, c.loop-thing-test.false, ap length c.as_slice-thing-items.ensures))) c.loop-thing.invariant
