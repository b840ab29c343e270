-- The two constant nodes may be handed to each store.
use Rattle.std.proofs.Common.{[], sym, ◌∙◌, arith}
use Rattle.cb_dd.proofs.Diagrams.{function_of-zero, function_of-one}
use Rattle.cb_ops.proofs.Ite.{Grows-same}
use Rattle.cb_elim.specs.Store.{Seen, IsStore, IsArgument}
use Rattle.cb_elim.proofs.Views.{decided-argument}

pub zero-argument : (s : Seen) → IsStore s → IsArgument s 0
zero-argument s st = decided-argument s st s.nodes (Grows-same s.nodes) [] 0 tt (record {
  node = omega arith;
  decided = λ p q e. function_of-zero s.nodes.triples p ∙ sym (function_of-zero s.nodes.triples q);
})

pub one-argument : (s : Seen) → IsStore s → IsArgument s 1
one-argument s st = decided-argument s st s.nodes (Grows-same s.nodes) [] 1 tt (record {
  node = omega arith;
  decided = λ p q e. function_of-one s.nodes.triples p ∙ sym (function_of-one s.nodes.triples q);
})
