use Rattle.std.proofs.Common.{◌≡◌, ◌+◌, false, length, replicate, inl, sym, ap, subst, ◌∙◌, arith, rules}
use Rattle.cb_ops.specs.Ops.{IsLeastTrue}
use Rattle.cb_least.specs.Beginning.{AreMarks, AreNexts}
use Rattle.cb_least.proofs.Marking.{written}
use Rattle.cb_least.proofs.Reaches.{some-true}
use Rattle.cb_least.proofs.Rows.{start-bits, start-begins}
use Rattle.cb_least.proofs.least_input.Goals as goal

pub find-requires-clause-search : goal.find-requires-clause-search
find-requires-clause-search c =
    let ne = c.if-f-eq0.false in
    record {
      node = c.requires.node;
      some = omega (arith, ne);
      marked = subst (AreMarks c.args.ops.now.triples c.args.f.0 1) (sym c.deref-2.ensures.value) c.in_ok-marks.ensures;
      next_marked = subst (AreNexts c.deref-2.result.now) (sym c.deref-3.ensures.value)
          (subst (λ ms. AreNexts ms c.in_ok-nexts.nexts.items) (c.deref.ensures.value ∙ sym c.deref-2.ensures.value) c.in_ok-nexts.ensures);
      inverse = c.requires.order;
    }

pub find-requires-clause-found : goal.find-requires-clause-found
find-requires-clause-found c =
    let ts = c.args.ops.now.triples in
    let bits = c.deref_mut.result.now in
    let made : c.in_ok-bits.bits.items ≡ replicate (length c.args.order.now) false = search rules in
    let some = some-true ts c.count-count.ensures.diagram (c.args.f.0 + 1) c.args.f.0 (omega arith) c.requires.node c.if-f-eq0.false in
    record {
      bits_so_far = start-bits c.args.order.now bits (c.deref_mut.ensures.value ∙ made);
      some = (some.0, (start-begins c.args.order.now bits some.0, some.1));
      least = λ a f. inl (start-begins c.args.order.now bits a);
    }

pub returns-clause-least : goal.returns-clause-least
returns-clause-least c levels inverse d =
    let items = c.in_ok-bits.bits.items in
    let long : length c.find.new.bits ≡ length items = c.find.auto.bits ∙ ap length c.deref_mut.ensures.value in
    subst (IsLeastTrue c.args.ops.now.triples c.args.f.0 levels) (sym (written c.find.new.bits items c.in_ok-bits.bits.len long (omega (arith, c.in_ok-bits.bits.ok)))) (c.find.ensures levels inverse d)
