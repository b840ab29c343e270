use Rattle.std.proofs.Common.{◌≡◌, ◌-◌, ◌<◌, length, slice_index_or, ◌∙◌, arith, length-set, ℕ}
use Rattle.cb_levels.proofs.Inverses.{order-has, order-long, order-low, inverse-is, inverse-next}
use Rattle.cb_levels.proofs.levels.Goals as goal

pub index_mut-requires : goal.index_mut-requires
index_mut-requires c =
    let order = c.args.order.now in
    let h = order-low order c.requires.0 c.requires.1 c.loop-level.level (omega arith) in
    omega (arith, h, c.loop-level.invariant.long, c.loop-level.levels.ok, order-long order c.requires.0 c.requires.1)

pub overflow_cast-level : goal.overflow_cast-level
overflow_cast-level c =
    let order = c.args.order.now in
    let long = order-long order c.requires.0 c.requires.1 in
    let last = order-has order c.requires.0 c.requires.1 (length order - 1) (omega (arith, long)) in
    let fits = c.type_inv.order last.0 in
    omega (arith, fits, last.1.1)

pub loop-level-preserved : goal.loop-level-preserved
loop-level-preserved c =
    let order = c.args.order.now in
    let m = c.loop-level.level in
    let old = c.loop-level.invariant in
    record {
      long = length-set c.loop-level.levels.items (slice_index_or order m 0) m ∙ old.long;
      at = inverse-next order c.requires.0 c.requires.1 c.loop-level.levels.items m old.long (omega arith) old.at;
    }

pub returns : goal.returns
returns c =
    let order = c.args.order.now in
    let at : (k : ℕ) → k < length order → slice_index_or c.loop-level.levels.items (slice_index_or order k 0) 0 ≡ k = λ k l. c.loop-level.invariant.at k (omega (arith, l)) in
    inverse-is order c.requires.0 c.requires.1 c.loop-level.levels.items c.loop-level.invariant.long at
