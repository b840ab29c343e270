use Rattle.std.proofs.Common.{inr, arith}
use Rattle.cb_marking.proofs.Ends.{bits_within, bus_undecided, decided, goals_within}
use Rattle.cb_marking.proofs.walk.Walk.sorts.Goals as goal

pub none_is_bus-requires : goal.none_is_bus-requires
none_is_bus-requires c =
    bits_within c.args.self.now c.in-Some.things c.len.result c.in_ok-sorts.sorts c.as_slice.result.now c.as_slice-2.result.now c.requires c.in-Some.ensures.1 c.len.ensures c.in_ok-sorts.ensures c.as_slice.ensures c.as_slice-2.ensures

pub returns-then-none_is_bus : goal.returns-then-none_is_bus
returns-then-none_is_bus c = (
  goals_within c.args.self.now c.in-Some.things c.len.result c.in_ok-sorts.sorts c.as_slice.result.now c.as_slice-2.result.now c.requires c.in-Some.ensures.1 c.len.ensures c.in_ok-sorts.ensures c.as_slice.ensures c.as_slice-2.ensures,
  decided c.args.self.now c.in-Some.things c.len.result c.in_ok-sorts.sorts c.as_slice.result.now c.as_slice-2.result.now c.requires c.in-Some.ensures.1 c.len.ensures c.in_ok-sorts.ensures c.as_slice.ensures c.as_slice-2.ensures
      c.if-none_is_bus.ensures,
)

pub returns-else-none_is_bus : goal.returns-else-none_is_bus
returns-else-none_is_bus c =
    inr (bus_undecided c.args.self.now c.in-Some.things c.len.result c.in_ok-sorts.sorts c.as_slice.result.now c.as_slice-2.result.now c.requires c.in-Some.ensures.1 c.len.ensures c.in_ok-sorts.ensures c.as_slice.ensures c.as_slice-2.ensures
    c.if-none_is_bus.ensures)
