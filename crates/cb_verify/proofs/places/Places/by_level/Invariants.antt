use Rattle.std.proofs.Common.{◌≡◌, map, take}
use Rattle.cb_model.specs.Bits.{bits_of}
use Rattle.cb_verify.proofs.places.Places.by_level.Given as goal

abbrev pub invariant-loop-input : goal.invariant-loop-input
invariant-loop-input l = record {
  items : l.input-items ≡ l.self.order.items;
  bits : l.bits.items ≡ map (bits_of l.row) (take l.input-index l.self.order.items);
}
