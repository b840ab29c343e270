use Rattle.std.proofs.Common.{◌≡◌, ℕ, ◌<◌, ◌≤◌, [], ◌∷◌, arith, length, map, drop, slice_set, slice_index_or, Vec, Global, Contains, refl, ap, sym, subst, ◌∙◌, add-one, List, drop-cons, ◌+◌}
use Rattle.std.proofs.lemmas.List.{drop_all}
use Rattle.std.proofs.lemmas.List.Elements.{Contains-get_or}
use Rattle.cb_order.specs.declared.Wait.{Wait}
use Rattle.cb_order.specs.Sorting.{state_of, IsSorting, IsNext}
use Rattle.cb_order.proofs.Looks.{waits-long, waits-get, waits-set}
use Rattle.cb_order.proofs.Steps.{in_placed, within, placed-parts}
use Rattle.cb_order.proofs.Sorting.place.Goals as goal

pub index_mut-requires : goal.index_mut-requires
index_mut-requires c =
    let n = c.requires.next in
    let l : c.args.item < length c.args.self.now.placed.items = in_placed c.args.graph.now c.requires.items n.0 c.args.item (state_of c.args.self.now) n.1 in
    omega (arith, l, c.args.self.now.placed.ok)

pub index_mut-requires-2 : goal.index_mut-requires-2
index_mut-requires-2 c =
    let n = c.requires.next in
    let l : c.args.item < length c.args.graph.now = within c.args.graph.now c.requires.items n.0 c.args.item (state_of c.args.self.now) n.1 in
    let w : length (state_of c.args.self.now).waits ≡ length c.args.graph.now = n.1.sorting.shape.waiting in
    let long : length (state_of c.args.self.now).waits ≡ length c.args.self.now.waiting.items = waits-long (λ v. v.items) c.args.self.now.waiting.items in
    omega (arith, l, w, long, c.args.self.now.waiting.ok)

pub loop-wait-init : goal.loop-wait-init
loop-wait-init c =
    let n = c.requires.next in
    let l : c.args.item < length c.args.graph.now = within c.args.graph.now c.requires.items n.0 c.args.item (state_of c.args.self.now) n.1 in
    let w : length (state_of c.args.self.now).waits ≡ length c.args.graph.now = n.1.sorting.shape.waiting in
    let long : length (state_of c.args.self.now).waits ≡ length c.args.self.now.waiting.items = waits-long (λ v. v.items) c.args.self.now.waiting.items in
    let small : c.args.item < length c.args.self.now.waiting.items = omega (arith, l, w, long) in
    let f : Vec Wait Global → List Wait = λ v. v.items in
    let cleared = waits-set f c.args.self.now.waiting.items c.args.item c.replace-woken.new.dest ∙ ap (slice_set (map f c.args.self.now.waiting.items) c.args.item) (ap f c.replace-woken.ensures.after ∙ c.new.ensures.items) in
    let woken : c.deref-wait-items.result.now ≡ slice_index_or (state_of c.args.self.now).waits c.args.item [] =
    c.deref-wait-items.ensures.value ∙ ap f c.replace-woken.ensures.value ∙ ap f c.index_mut-2.ensures.value ∙ sym (waits-get f c.args.self.now.waiting.items c.args.item c.index_mut-2.result.now [] small) in
    let all = λ (seen : ℕ) (m : IsNext c.args.graph.now seen c.args.item (state_of c.args.self.now)). placed-parts c.args.graph.now c.requires.items seen c.args.item (state_of c.args.self.now) m _ _ c.deref-wait-items.result.now c.in_ok-push.ensures.items cleared woken in
    record {
      shape = (all n.0 n.1).shape;
      placed = refl;
      sorting = λ seen m. all seen m;
    }

pub look-requires-clause-item : goal.look-requires-clause-item
look-requires-clause-item c =
    let n = c.requires.next in
    let l : c.args.item < length c.args.graph.now = within c.args.graph.now c.requires.items n.0 c.args.item (state_of c.args.self.now) n.1 in
    let w : length (state_of c.args.self.now).waits ≡ length c.args.graph.now = n.1.sorting.shape.waiting in
    let long : length (state_of c.args.self.now).waits ≡ length c.args.self.now.waiting.items = waits-long (λ v. v.items) c.args.self.now.waiting.items in
    let small : c.args.item < length c.args.self.now.waiting.items = omega (arith, l, w, long) in
    let f : Vec Wait Global → List Wait = λ v. v.items in
    let woken : c.deref-wait-items.result.now ≡ slice_index_or (state_of c.args.self.now).waits c.args.item [] =
    c.deref-wait-items.ensures.value ∙ ap f c.replace-woken.ensures.value ∙ ap f c.index_mut-2.ensures.value ∙ sym (waits-get f c.args.self.now.waiting.items c.args.item c.index_mut-2.result.now [] small) in
    let k : c.loop-wait.wait-index < length c.deref-wait-items.result.now = omega arith in
    n.1.sorting.shape.items c.args.item _ (subst (λ ws. Contains ws (slice_index_or c.deref-wait-items.result.now c.loop-wait.wait-index (record { item = 0; at = 0 }))) woken (Contains-get_or c.deref-wait-items.result.now c.loop-wait.wait-index (record { item = 0; at = 0 }) k))

pub loop-wait-preserved : goal.loop-wait-preserved
loop-wait-preserved c =
    let k : c.loop-wait.wait-index < length c.deref-wait-items.result.now = omega arith in
    let parts : drop c.loop-wait.wait-index c.deref-wait-items.result.now ≡ slice_index_or c.deref-wait-items.result.now c.loop-wait.wait-index (record { item = 0; at = 0 }) ∷ drop (c.loop-wait.wait-index + 1) c.deref-wait-items.result.now =
    rw add-one (drop-cons c.deref-wait-items.result.now c.loop-wait.wait-index (record { item = 0; at = 0 }) k) in
    record {
      shape = c.in_ok-look.ensures.shape;
      placed = c.in_ok-look.ensures.placed ∙ c.loop-wait.invariant.placed;
      sorting = λ seen m. c.in_ok-look.ensures.sorting seen (drop (c.loop-wait.wait-index + 1) c.deref-wait-items.result.now) (subst (λ late. IsSorting c.args.graph.now seen late (state_of c.loop-wait.self)) parts (c.loop-wait.invariant.sorting seen m));
    }

pub returns-clause-sorting : goal.returns-clause-sorting
returns-clause-sorting c seen m =
    let k : length c.deref-wait-items.result.now ≤ c.loop-wait.wait-index = omega arith in
    subst (λ late. IsSorting c.args.graph.now seen late (state_of c.loop-wait.self)) (drop_all c.loop-wait.wait-index c.deref-wait-items.result.now k) (c.loop-wait.invariant.sorting seen m)
