use Rattle.std.proofs.Common.{◌≡◌, ℕ, ◌<◌, ◌≤◌, false, inr, List, ◌++◌, length, take, drop, map, subst, sym, ap, ◌∙◌, arith, rules, length-append}
use Rattle.cb_model.specs.Bits.{Each}
use Rattle.cb_dd.specs.declared.Node.{Node}
use Rattle.cb_ops.specs.Support.{IsListed}
use Rattle.cb_elim.specs.Store.{Seen}
use Rattle.cb_elim.specs.Moments.{changes_from, undone}
use Rattle.cb_elim.specs.Equation.{AreMoved, AreRewritten}
use Rattle.cb_elim.specs.Unified.{OnlyValues}
use Rattle.cb_elim.specs.Store.{OnlyNodes}
use Rattle.cb_elim.specs.Watch.{IsWatched}
use Rattle.cb_elim.proofs.Inside.{seen}
use Rattle.cb_elim.proofs.Back.{length-undone}
use Rattle.cb_elim.proofs.Moved.{all-moved}
use Rattle.cb_elim.proofs.Kept.{put-back, put-only, watched-restored, whole-slice}
use Rattle.cb_elim.proofs.Store.put_in.Goals as goal

pub returns-in-Ok-rewrite-clause-moved : goal.returns-in-Ok-rewrite-clause-moved
returns-in-Ok-rewrite-clause-moved c =
    let r : AreRewritten c.self.inside.slots.items c.rewrite.new.slots c.self.inside.trail c.rewrite.new.trail = rw c.deref_mut.ensures.value at c.rewrite.ensures.rewritten in
    let n : c.self.inside.slots.len ≡ length c.self.inside.slots.items = (let o = c.self.inside.slots.ok.0 in omega arith) in
    let e : take c.self.inside.slots.len (c.rewrite.new.slots ++ drop (length c.rewrite.new.slots) c.self.inside.slots.items) ≡ c.rewrite.new.slots = whole-slice c.self.inside.slots.len c.rewrite.new.slots c.self.inside.slots.items r.number n in
    let below : c.len.result ≡ length c.self.inside.slots.items = search rules in
    subst (λ (o : Seen). AreMoved o.nodes.triples c.rewrite.new.ops.triples c.args.images.now o.slots (take c.self.inside.slots.len (c.rewrite.new.slots ++ drop (length c.rewrite.new.slots) c.self.inside.slots.items))) c.self.view_is
    (subst (λ (zs : List Node). AreMoved c.self.inside.ops.triples c.rewrite.new.ops.triples c.args.images.now c.self.inside.slots.items zs) (sym e)
    (all-moved c.self.inside.ops c.rewrite.new.ops c.args.images.now c.self.inside.constants c.in-Ok-dependents.at.keys c.self.inside.slots.items c.rewrite.new.slots c.self.inside.trail c.watch.new.uses r.number c.rewrite.ensures.watched.there
    (rw (c.deref_mut.ensures.value, c.as_slice.ensures.keys) at c.in-Ok-rewrite.ensures.values) (rw (c.deref_mut.ensures.value, c.as_slice.ensures.keys) at c.in-Ok-rewrite.ensures.others)
    (rw c.deref.ensures.value at c.in-Ok.ensures.covers)
    (subst (λ (o : Seen). (l : ℕ) → IsListed (map (λ i. i.0) c.args.images.now) l → o.constants ≤ l) (sym c.self.view_is) c.requires.free)
    (λ l x k listed less u. c.in-Ok-dependents.ensures.whole l x k listed (omega arith) u)))

pub returns-in-Ok-rewrite-clause-values : goal.returns-in-Ok-rewrite-clause-values
returns-in-Ok-rewrite-clause-values c =
    let r : AreRewritten c.self.inside.slots.items c.rewrite.new.slots c.self.inside.trail c.rewrite.new.trail = rw c.deref_mut.ensures.value at c.rewrite.ensures.rewritten in
    let n : c.self.inside.slots.len ≡ length c.self.inside.slots.items = (let o = c.self.inside.slots.ok.0 in omega arith) in
    let e : take c.self.inside.slots.len (c.rewrite.new.slots ++ drop (length c.rewrite.new.slots) c.self.inside.slots.items) ≡ c.rewrite.new.slots = whole-slice c.self.inside.slots.len c.rewrite.new.slots c.self.inside.slots.items r.number n in
    subst (λ (zs : List Node). OnlyValues c.args.self.now (record { constants = c.self.inside.constants; drawn = c.self.inside.drawn; free = c.self.inside.free.items; slots = zs; trail = c.rewrite.new.trail; nodes = c.rewrite.new.ops })) (sym e)
    (put-only c.args.self.now (seen c.self.inside) c.self.view_is c.requires.store c.rewrite.new.ops c.rewrite.ensures.grows c.rewrite.new.slots c.rewrite.new.trail r)

pub restore-requires-clause-within : goal.restore-requires-clause-within
restore-requires-clause-within c =
    let r : AreRewritten c.self.inside.slots.items c.rewrite.new.slots c.self.inside.trail c.rewrite.new.trail = rw c.deref_mut.ensures.value at c.rewrite.ensures.rewritten in
    let n : c.self.inside.slots.len ≡ length c.self.inside.slots.items = (let o = c.self.inside.slots.ok.0 in omega arith) in
    let e : take c.self.inside.slots.len (c.rewrite.new.slots ++ drop (length c.rewrite.new.slots) c.self.inside.slots.items) ≡ c.rewrite.new.slots = whole-slice c.self.inside.slots.len c.rewrite.new.slots c.self.inside.slots.items r.number n in
    subst (λ (zs : List Node). Each (λ d. d.slot < length zs) c.rewrite.new.trail) (sym (c.deref_mut-in-Err.ensures.value ∙ e)) c.rewrite.ensures.watched.within

pub invariant_of-self-in-Err : goal.invariant_of-self-in-Err
invariant_of-self-in-Err c =
    let r : AreRewritten c.self.inside.slots.items c.rewrite.new.slots c.self.inside.trail c.rewrite.new.trail = rw c.deref_mut.ensures.value at c.rewrite.ensures.rewritten in
    let n : c.self.inside.slots.len ≡ length c.self.inside.slots.items = (let o = c.self.inside.slots.ok.0 in omega arith) in
    let e : take c.self.inside.slots.len (c.rewrite.new.slots ++ drop (length c.rewrite.new.slots) c.self.inside.slots.items) ≡ c.rewrite.new.slots = whole-slice c.self.inside.slots.len c.rewrite.new.slots c.self.inside.slots.items r.number n in
    let start : c.mark-start.result ≡ length c.self.inside.trail = c.mark-start.ensures in
    let d : c.deref_mut-in-Err.result.now ≡ c.rewrite.new.slots = c.deref_mut-in-Err.ensures.value ∙ e in
    let ws : c.restore.new.slots ≡ undone (drop (length c.self.inside.trail) c.rewrite.new.trail) c.rewrite.new.slots = c.restore.ensures.slots ∙ ap (λ k. undone (drop k c.rewrite.new.trail) c.deref_mut-in-Err.result.now) start ∙ ap (λ zs. undone (drop (length c.self.inside.trail) c.rewrite.new.trail) zs) d in
    let cs : c.restore.new.trail ≡ take (length c.self.inside.trail) c.rewrite.new.trail = c.restore.ensures.trail ∙ ap (λ k. take k c.rewrite.new.trail) start in
    let long : length c.restore.new.slots ≡ length c.rewrite.new.slots = ap length ws ∙ length-undone (drop (length c.self.inside.trail) c.rewrite.new.trail) c.rewrite.new.slots in
    let back : take c.self.inside.slots.len (c.restore.new.slots ++ drop (length c.restore.new.slots) (take c.self.inside.slots.len (c.rewrite.new.slots ++ drop (length c.rewrite.new.slots) c.self.inside.slots.items))) ≡ c.restore.new.slots
    = ap (λ zs. take c.self.inside.slots.len (c.restore.new.slots ++ drop (length c.restore.new.slots) zs)) e ∙ whole-slice c.self.inside.slots.len c.restore.new.slots c.rewrite.new.slots long (n ∙ sym r.number) in
    let count : c.len-in-Err.result ≡ length (take c.self.inside.slots.len (c.restore.new.slots ++ drop (length c.restore.new.slots) (take c.self.inside.slots.len (c.rewrite.new.slots ++ drop (length c.rewrite.new.slots) c.self.inside.slots.items)))) = search rules in
    let slots : c.len-in-Err.result ≡ length c.restore.new.slots = count ∙ ap length back in
    let more : length c.self.inside.trail ≤ length c.rewrite.new.trail = (let q = ap length r.changes in omega (arith, length-append c.self.inside.trail (changes_from 0 c.self.inside.slots.items c.rewrite.new.slots))) in
    subst (λ (zs : List Node). IsWatched false c.rewrite.new.ops.triples c.self.inside.constants zs c.restore.new.trail c.cut.new.self) (sym back)
    (inr (watched-restored c.rewrite.new.ops.triples c.self.inside.constants c.self.inside.slots.items c.rewrite.new.slots c.restore.new.slots c.self.inside.trail c.rewrite.new.trail c.restore.new.trail c.rewrite.new.uses c.cut.new.self r.number c.rewrite.ensures.watched cs ws more
    (rw (slots, start) at c.cut.ensures) (long ∙ r.number)))

pub returns-clause-only_nodes : goal.returns-clause-only_nodes
returns-clause-only_nodes c =
    let r : AreRewritten c.self.inside.slots.items c.rewrite.new.slots c.self.inside.trail c.rewrite.new.trail = rw c.deref_mut.ensures.value at c.rewrite.ensures.rewritten in
    let n : c.self.inside.slots.len ≡ length c.self.inside.slots.items = (let o = c.self.inside.slots.ok.0 in omega arith) in
    let e : take c.self.inside.slots.len (c.rewrite.new.slots ++ drop (length c.rewrite.new.slots) c.self.inside.slots.items) ≡ c.rewrite.new.slots = whole-slice c.self.inside.slots.len c.rewrite.new.slots c.self.inside.slots.items r.number n in
    let start : c.mark-start.result ≡ length c.self.inside.trail = c.mark-start.ensures in
    let d : c.deref_mut-in-Err.result.now ≡ c.rewrite.new.slots = c.deref_mut-in-Err.ensures.value ∙ e in
    let ws : c.restore.new.slots ≡ undone (drop (length c.self.inside.trail) c.rewrite.new.trail) c.rewrite.new.slots = c.restore.ensures.slots ∙ ap (λ k. undone (drop k c.rewrite.new.trail) c.deref_mut-in-Err.result.now) start ∙ ap (λ zs. undone (drop (length c.self.inside.trail) c.rewrite.new.trail) zs) d in
    let cs : c.restore.new.trail ≡ take (length c.self.inside.trail) c.rewrite.new.trail = c.restore.ensures.trail ∙ ap (λ k. take k c.rewrite.new.trail) start in
    let long : length c.restore.new.slots ≡ length c.rewrite.new.slots = ap length ws ∙ length-undone (drop (length c.self.inside.trail) c.rewrite.new.trail) c.rewrite.new.slots in
    let back : take c.self.inside.slots.len (c.restore.new.slots ++ drop (length c.restore.new.slots) (take c.self.inside.slots.len (c.rewrite.new.slots ++ drop (length c.rewrite.new.slots) c.self.inside.slots.items))) ≡ c.restore.new.slots
    = ap (λ zs. take c.self.inside.slots.len (c.restore.new.slots ++ drop (length c.restore.new.slots) zs)) e ∙ whole-slice c.self.inside.slots.len c.restore.new.slots c.rewrite.new.slots long (n ∙ sym r.number) in
    subst (λ (zs : List Node). OnlyNodes c.args.self.now (record { constants = c.self.inside.constants; drawn = c.self.inside.drawn; free = c.self.inside.free.items; slots = zs; trail = c.restore.new.trail; nodes = c.rewrite.new.ops })) (sym back)
    (put-back c.args.self.now (seen c.self.inside) c.self.view_is c.requires.store c.rewrite.new.ops c.rewrite.ensures.grows c.rewrite.new.slots c.rewrite.new.trail r c.restore.new.slots ws c.restore.new.trail cs)
