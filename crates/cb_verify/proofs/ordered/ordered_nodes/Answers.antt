use Rattle.std.proofs.Common.{◌≡◌, ℕ, ◌<◌, ◌+◌, ◌*◌, ◌^◌, ◌++◌, true, map, length, replicate, slice_index_or, get_or, sym, ◌∙◌, ap, subst, arith}
use Rattle.std.proofs.lemmas.List.{get_or_default}
use Rattle.cb_model.specs.declared.Gate.{Gate}
use Rattle.cb_model.specs.Bits.{Bits, Each}
use Rattle.cb_model.specs.Circuits.{pins_of, gate_value}
use Rattle.cb_dd.specs.Diagram.{IsNode, function_of}
use Rattle.cb_ops.proofs.Ite.{Grows-then, Grows-same}
use Rattle.cb_verify.specs.Nodes.{Adds, node_at, node_bits}
use Rattle.cb_verify.specs.Order.{no_gate}
use Rattle.cb_verify.proofs.Kept.{AreNodes-kept}
use Rattle.cb_verify.proofs.Evaluates.{evaluates-start, gate-in, pins-within, net-within, evaluates-more, evaluates-room-of, evaluates-end, order-room, each-set, each-append, zero-node}
use Rattle.cb_verify.proofs.ordered.ordered_nodes.Goals as goal

pub loop-k-init : goal.loop-k-init
loop-k-init c =
    let e = c.in_ok-nodes.ensures.nodes ∙ ap (λ n. c.args.inputs.now ++ replicate n (record { 0 = 0 })) c.len.ensures in
    record {
      nodes = rw e (each-append (λ n. IsNode c.args.ops.now.triples n.0) c.args.inputs.now (length c.args.circuit.now.gates) (record { 0 = 0 }) c.requires.inputs (zero-node c.args.ops.now.triples));
      bits = rw e (evaluates-start c.args.circuit.now c.args.inputs.now c.args.order.now c.requires.order c.args.ops.now.triples c.requires.as_many);
      grows = Grows-same c.args.ops.now;
      room = λ ls d. omega arith;
    }

pub bounds-as_slice-k : goal.bounds-as_slice-k
bounds-as_slice-k c =
    let s = c.loop-k.ops in
    let now = c.loop-k.invariant in
    let i : c.loop-k.k-index < length c.args.order.now = omega arith in
    let k : ℕ = slice_index_or c.args.order.now c.loop-k.k-index 0 in
    let kg : k < length c.args.circuit.now.gates = gate-in c.args.circuit.now c.args.inputs.now c.args.order.now c.requires.order c.args.ops.now.triples c.requires.as_many s c.loop-k.nodes.items now.nodes c.loop-k.k-index i now.bits in
    let g = ap length c.as_slice.ensures in
    omega (arith, kg, g)

pub gate_node-requires-clause-within : goal.gate_node-requires-clause-within
gate_node-requires-clause-within c =
    let s = c.loop-k.ops in
    let now = c.loop-k.invariant in
    let i : c.loop-k.k-index < length c.args.order.now = omega arith in
    let k : ℕ = slice_index_or c.args.order.now c.loop-k.k-index 0 in
    let kg : k < length c.args.circuit.now.gates = gate-in c.args.circuit.now c.args.inputs.now c.args.order.now c.requires.order c.args.ops.now.triples c.requires.as_many s c.loop-k.nodes.items now.nodes c.loop-k.k-index i now.bits in
    let the_gate : c.index-as_slice-k.result ≡ get_or c.args.circuit.now.gates k no_gate = c.index-as_slice-k.is ∙ ap (λ gs. get_or gs k c.index-as_slice-k.result) c.as_slice.ensures ∙ get_or_default c.args.circuit.now.gates k c.index-as_slice-k.result no_gate kg in
    subst (λ ms. Each (λ n. n < length ms) c.index-as_slice-k.result.ins) (sym c.deref.ensures.value)
    (subst (λ (q : Gate). Each (λ n. n < length c.loop-k.nodes.items) q.ins) (sym the_gate) (pins-within c.args.circuit.now c.args.inputs.now c.args.order.now c.requires.order c.args.ops.now.triples c.requires.as_many s c.loop-k.nodes.items now.nodes c.loop-k.k-index i now.bits))

pub gate_node-requires-clause-number : goal.gate_node-requires-clause-number
gate_node-requires-clause-number c =
    let s = c.loop-k.ops in
    let now = c.loop-k.invariant in
    let i : c.loop-k.k-index < length c.args.order.now = omega arith in
    let k : ℕ = slice_index_or c.args.order.now c.loop-k.k-index 0 in
    let kg : k < length c.args.circuit.now.gates = gate-in c.args.circuit.now c.args.inputs.now c.args.order.now c.requires.order c.args.ops.now.triples c.requires.as_many s c.loop-k.nodes.items now.nodes c.loop-k.k-index i now.bits in
    let the_gate : c.index-as_slice-k.result ≡ get_or c.args.circuit.now.gates k no_gate = c.index-as_slice-k.is ∙ ap (λ gs. get_or gs k c.index-as_slice-k.result) c.as_slice.ensures ∙ get_or_default c.args.circuit.now.gates k c.index-as_slice-k.result no_gate kg in
    subst (λ (q : Gate). pins_of q.kind (length q.ins) ≡ true) (sym the_gate) (c.requires.order.pins k kg)

pub index_mut-requires : goal.index_mut-requires
index_mut-requires c =
    let s = c.loop-k.ops in
    let now = c.loop-k.invariant in
    let i : c.loop-k.k-index < length c.args.order.now = omega arith in
    let k : ℕ = slice_index_or c.args.order.now c.loop-k.k-index 0 in
    let kg : k < length c.args.circuit.now.gates = gate-in c.args.circuit.now c.args.inputs.now c.args.order.now c.requires.order c.args.ops.now.triples c.requires.as_many s c.loop-k.nodes.items now.nodes c.loop-k.k-index i now.bits in
    let w : c.args.circuit.now.inputs + k < length c.loop-k.nodes.items = net-within c.args.circuit.now c.args.inputs.now c.args.order.now c.requires.order c.args.ops.now.triples c.requires.as_many s c.loop-k.nodes.items now.nodes c.loop-k.k-index i now.bits in
    omega (arith, w, c.loop-k.nodes.ok)

pub returns-in_err-node-clause-room : goal.returns-in_err-node-clause-room
returns-in_err-node-clause-room c ls d =
    let s = c.loop-k.ops in
    let now = c.loop-k.invariant in
    let i : c.loop-k.k-index < length c.args.order.now = omega arith in
    let k : ℕ = slice_index_or c.args.order.now c.loop-k.k-index 0 in
    let kg : k < length c.args.circuit.now.gates = gate-in c.args.circuit.now c.args.inputs.now c.args.order.now c.requires.order c.args.ops.now.triples c.requires.as_many s c.loop-k.nodes.items now.nodes c.loop-k.k-index i now.bits in
    let the_gate : c.index-as_slice-k.result ≡ get_or c.args.circuit.now.gates k no_gate = c.index-as_slice-k.is ∙ ap (λ gs. get_or gs k c.index-as_slice-k.result) c.as_slice.ensures ∙ get_or_default c.args.circuit.now.gates k c.index-as_slice-k.result no_gate kg in
    let adds : Adds s c.gate_node.new.ops (length (get_or c.args.circuit.now.gates k no_gate).ins) (map (node_at c.loop-k.nodes.items) (get_or c.args.circuit.now.gates k no_gate).ins) =
    subst (λ (q : Gate). Adds s c.gate_node.new.ops (length q.ins) (map (node_at c.loop-k.nodes.items) q.ins)) the_gate
    (subst (λ ms. Adds s c.gate_node.new.ops (length c.index-as_slice-k.result.ins) (map (node_at ms) c.index-as_slice-k.result.ins)) c.deref.ensures.value c.gate_node.ensures.room) in
    order-room c.args.circuit.now c.args.order.now (c.loop-k.k-index + 1) (2 * 2 ^ length ls) (length c.gate_node.new.ops.triples) (length c.args.ops.now.triples) (evaluates-room-of c.args.circuit.now c.args.inputs.now c.args.order.now c.requires.order c.args.ops.now.triples c.requires.as_many s c.loop-k.nodes.items now.nodes c.loop-k.k-index i now.bits c.gate_node.new.ops adds (length c.args.ops.now.triples) ls d (now.room ls d))

pub loop-k-preserved : goal.loop-k-preserved
loop-k-preserved c =
    let s = c.loop-k.ops in
    let now = c.loop-k.invariant in
    let i : c.loop-k.k-index < length c.args.order.now = omega arith in
    let k : ℕ = slice_index_or c.args.order.now c.loop-k.k-index 0 in
    let kg : k < length c.args.circuit.now.gates = gate-in c.args.circuit.now c.args.inputs.now c.args.order.now c.requires.order c.args.ops.now.triples c.requires.as_many s c.loop-k.nodes.items now.nodes c.loop-k.k-index i now.bits in
    let the_gate : c.index-as_slice-k.result ≡ get_or c.args.circuit.now.gates k no_gate = c.index-as_slice-k.is ∙ ap (λ gs. get_or gs k c.index-as_slice-k.result) c.as_slice.ensures ∙ get_or_default c.args.circuit.now.gates k c.index-as_slice-k.result no_gate kg in
    let made : (a : Bits) → function_of c.gate_node.new.ops.triples c.in_ok-node.node.0 a ≡ gate_value (get_or c.args.circuit.now.gates k no_gate).kind (node_bits s.triples (map (node_at c.loop-k.nodes.items) (get_or c.args.circuit.now.gates k no_gate).ins) a) =
    subst (λ (q : Gate). (a : Bits) → function_of c.gate_node.new.ops.triples c.in_ok-node.node.0 a ≡ gate_value q.kind (node_bits s.triples (map (node_at c.loop-k.nodes.items) q.ins) a)) the_gate
    (subst (λ ms. (a : Bits) → function_of c.gate_node.new.ops.triples c.in_ok-node.node.0 a ≡ gate_value c.index-as_slice-k.result.kind (node_bits s.triples (map (node_at ms) c.index-as_slice-k.result.ins) a)) c.deref.ensures.value c.in_ok-node.ensures.function) in
    let adds : Adds s c.gate_node.new.ops (length (get_or c.args.circuit.now.gates k no_gate).ins) (map (node_at c.loop-k.nodes.items) (get_or c.args.circuit.now.gates k no_gate).ins) =
    subst (λ (q : Gate). Adds s c.gate_node.new.ops (length q.ins) (map (node_at c.loop-k.nodes.items) q.ins)) the_gate
    (subst (λ ms. Adds s c.gate_node.new.ops (length c.index-as_slice-k.result.ins) (map (node_at ms) c.index-as_slice-k.result.ins)) c.deref.ensures.value c.gate_node.ensures.room) in
    record {
      nodes = each-set (λ n. IsNode c.gate_node.new.ops.triples n.0) c.loop-k.nodes.items (c.args.circuit.now.inputs + k) c.in_ok-node.node (AreNodes-kept s c.gate_node.new.ops c.gate_node.ensures.grows c.loop-k.nodes.items now.nodes) c.in_ok-node.ensures.is_node;
      bits = evaluates-more c.args.circuit.now c.args.inputs.now c.args.order.now c.requires.order c.args.ops.now.triples c.requires.as_many s c.loop-k.nodes.items now.nodes c.loop-k.k-index i now.bits c.gate_node.new.ops c.gate_node.ensures.grows c.in_ok-node.node made;
      grows = Grows-then c.args.ops.now s c.gate_node.new.ops now.grows c.gate_node.ensures.grows;
      room = λ ls d. evaluates-room-of c.args.circuit.now c.args.inputs.now c.args.order.now c.requires.order c.args.ops.now.triples c.requires.as_many s c.loop-k.nodes.items now.nodes c.loop-k.k-index i now.bits c.gate_node.new.ops adds (length c.args.ops.now.triples) ls d (now.room ls d);
    }

pub returns-clause-nets : goal.returns-clause-nets
returns-clause-nets c a v h =
    evaluates-end c.args.circuit.now c.args.inputs.now c.args.order.now c.requires.order c.args.ops.now.triples c.requires.as_many c.loop-k.ops.triples c.loop-k.nodes.items c.loop-k.k-index (omega arith) c.loop-k.invariant.bits a v h
