use Rattle.std.proofs.Common.{ℕ, refl, sym, subst, ◌∙◌, arith}
use Rattle.cb_paths.specs.Walk.{IsWalk}
use Rattle.cb_paths.proofs.Walking.{turned-come, turned-walk, gone-come, gone-walk, gone-as_many, to_come-zero}
use Rattle.cb_paths.proofs.turn.Goals as goal

pub returns-then-other-ne0-clause-come : goal.returns-then-other-ne0-clause-come
returns-then-other-ne0-clause-come c = λ ts. c.loop-i.invariant.come ts ∙ turned-come c.loop-i.literals.items c.loop-i.others.items c.in-Some.i c.index.result.now c.index-other.result.now (omega arith) (omega arith) c.index.ensures c.index-other.ensures (record { 0 = 0 }) refl ts

pub returns-then-other-ne0-clause-walk : goal.returns-then-other-ne0-clause-walk
returns-then-other-ne0-clause-walk c = λ ts room w. turned-walk c.loop-i.literals.items c.loop-i.others.items c.in-Some.i c.index.result.now c.index-other.result.now (omega arith) (omega arith) c.index.ensures c.index-other.ensures (record { 0 = 0 }) refl ts room (c.loop-i.invariant.walk ts room w)

pub loop-i-preserved : goal.loop-i-preserved
loop-i-preserved c = record {
  as_many = gone-as_many c.loop-i.literals.items c.truncate-in-Some.new.self.items c.loop-i.others.items c.truncate.new.self.items c.in-Some.i c.index-other.result.now (omega arith) (omega arith) c.index-other.ensures c.truncate-in-Some.ensures.items c.truncate.ensures.items;
  come = λ ts. c.loop-i.invariant.come ts ∙ gone-come c.loop-i.literals.items c.truncate-in-Some.new.self.items c.loop-i.others.items c.truncate.new.self.items c.in-Some.i c.index-other.result.now (omega arith) (omega arith) c.index-other.ensures c.truncate-in-Some.ensures.items c.truncate.ensures.items c.if-other-ne0.false ts;
  walk = λ ts room w. gone-walk c.loop-i.literals.items c.truncate-in-Some.new.self.items c.loop-i.others.items c.truncate.new.self.items c.in-Some.i c.index-other.result.now (omega arith) (omega arith) c.index-other.ensures c.truncate-in-Some.ensures.items c.truncate.ensures.items ts room (c.loop-i.invariant.walk ts room w);
  literals_room = c.truncate-in-Some.ensures.capacity ∙ c.loop-i.invariant.literals_room;
  others_room = c.truncate.ensures.capacity ∙ c.loop-i.invariant.others_room;
}

pub returns-clause-come : goal.returns-clause-come
returns-clause-come c = λ ts. c.loop-i.invariant.come ts ∙ sym (to_come-zero ts c.loop-i.literals.items c.loop-i.others.items 0 refl)

pub loop-i-init : goal.loop-i-init
loop-i-init c = record {
  as_many = c.requires;
  come = λ ts. to_come-zero ts c.args.literals.now.items c.args.others.now.items c.args.from.0 c.if-from-ne0.false;
  walk = λ ts room w. let P : ℕ → Type 0 = λ n. IsWalk ts room c.args.literals.now.items c.args.others.now.items n in subst P c.if-from-ne0.false w;
  literals_room = refl;
  others_room = refl;
}
