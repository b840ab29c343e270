use Rattle.std.proofs.Common.{◌≡◌, ◌+◌, ◌-◌, ◌<◌, List, length, drop, sym, subst, arith}
use Rattle.std.specs.Prelude.{get_or}
use Rattle.std.proofs.Math.Seq.{drop-length}
use Rattle.cb_dd.specs.declared.Node.{Node}
use Rattle.cb_unify.specs.Growth.{IsBusOf}
use Rattle.cb_unify.proofs.Leaves.{cons-of, each-get, nil-bus, cell-there, sort-later}
use Rattle.cb_unify.proofs.bus.elements.Goals as goal

pub loop-k-init : goal.loop-k-init
loop-k-init c = record {
  within = omega arith;
  bus = subst (λ (ns : List Node). IsBusOf c.args.state.now c.put.new.self ns c.in_ok-at.at.0) (sym (drop-length c.args.nodes.now)) (nil-bus c.args.state.now c.put.new.self c.in_ok-at.at.0 c.requires.state c.in_ok-at.ensures.put);
}

pub leaf-requires-clause-argument : goal.leaf-requires-clause-argument
leaf-requires-clause-argument c =
    let less : c.loop-k.k - 1 < length c.args.nodes.now = (let a = c.loop-k.invariant.within in let b = c.loop-k-test.true in omega arith) in
    c.loop-k.invariant.bus.added.arguments (get_or c.args.nodes.now (c.loop-k.k - 1) (record { 0 = 0 })).0
    (each-get _ c.args.nodes.now (c.loop-k.k - 1) (record { 0 = 0 }) less c.requires.arguments)

pub put-requires-in-loop-k-clause-addable : goal.put-requires-in-loop-k-clause-addable
put-requires-in-loop-k-clause-addable c = (
  cell-there c.leaf.new.self _ _ c.in_ok-head.ensures.leaf.added.state c.in_ok-head.ensures.leaf.placed.sort,
  cell-there c.leaf.new.self _ _ c.in_ok-head.ensures.leaf.added.state (sort-later c.loop-k.state c.leaf.new.self _ _ c.in_ok-head.ensures.leaf.added.extended.grown c.loop-k.invariant.bus.placed.sort),
)

pub loop-k-preserved : goal.loop-k-preserved
loop-k-preserved c =
    let k = c.loop-k.k - 1 in
    let same : c.loop-k.k ≡ k + 1 = (let b = c.loop-k-test.true in omega arith) in
    let less : k < length c.args.nodes.now = (let a = c.loop-k.invariant.within in omega arith) in
    record {
      within = omega arith;
      bus = cons-of c.args.state.now c.loop-k.state c.leaf.new.self c.put-in-loop-k.new.self c.args.nodes.now k (record { 0 = 0 }) c.in_ok-head.head c.loop-k.at c.in_ok-at-2.at.0 less
          (subst (λ n. IsBusOf c.args.state.now c.loop-k.state (drop n c.args.nodes.now) c.loop-k.at.0) same c.loop-k.invariant.bus) c.in_ok-head.ensures.leaf c.leaf.ensures.nodes c.in_ok-at-2.ensures.put;
    }

pub returns-clause-bus : goal.returns-clause-bus
returns-clause-bus c =
    let none : c.loop-k.k ≡ 0 = (let b = c.loop-k-test.false in omega arith) in
    subst (λ n. IsBusOf c.args.state.now c.loop-k.state (drop n c.args.nodes.now) c.loop-k.at.0) none c.loop-k.invariant.bus
