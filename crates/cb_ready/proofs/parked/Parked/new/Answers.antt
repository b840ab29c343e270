use Rattle.std.proofs.Common.{refl}
use Rattle.cb_ready.proofs.Calls.{behind-lent, compound-lent, parked-lent}
use Rattle.cb_ready.proofs.parked.Parked.new.Goals as goal

pub arguments-requires : goal.arguments-requires
arguments-requires c =
    behind-lent c.args.state.now c.requires.state c.heap-heap.result.now c.heap-heap.ensures c.last-last.result.0 c.stored.result c.stored.ensures c.in-Node.field-0 c.in-Node.count c.in-Node.is

pub returns-in_ok-args-in-Node-clause-parked : goal.returns-in_ok-args-in-Node-clause-parked
returns-in_ok-args-in-Node-clause-parked c = λ t xs fits st.
    parked-lent c.args.state.now c.requires.state c.heap-heap.result.now c.heap-heap.ensures c.last-last.result.0 c.stored.result c.stored.ensures c.args.call c.last-last.ensures c.args.pred t xs fits st
    c.in-Node.field-0 c.in-Node.count c.in-Node.is c.requires.there c.in_ok-args-in-Node.args.items c.in_ok-args-in-Node.ensures.cells c.in_ok-args-in-Node.ensures.number

pub returns-in_default : goal.returns-in_default
returns-in_default c = record {
  call = (refl, refl);
  parked = λ t xs fits st. absurd (compound-lent c.args.state.now c.requires.state c.heap-heap.result.now c.heap-heap.ensures c.last-last.result.0 c.stored.result c.stored.ensures c.args.call c.last-last.ensures
      c.args.pred t xs fits st c.in_default.not-Node);
}
