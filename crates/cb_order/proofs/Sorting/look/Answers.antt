use Rattle.std.proofs.Common.{◌≡◌, ℕ, ◌<◌, true, false, length, slice_get, slice_index_or, Some, Contains, Vec, Global, sym, subst, ◌∙◌, inl, inr, arith, rules}
use Rattle.std.proofs.lemmas.Bool.{cases_lt}
use Rattle.std.proofs.lemmas.Option.{slice_get-get_or}
use Rattle.std.proofs.lemmas.List.Elements.{Contains-get_or}
use Rattle.cb_order.specs.declared.Wait.{Wait}
use Rattle.cb_model.specs.Order.{needs_of}
use Rattle.cb_order.specs.Sorting.{state_of}
use Rattle.cb_order.proofs.Looks.{look-passed, look-waits, look-ready, look-shape, all-placed, mark-at, waits-long, pushed-waits, pushed-long}
use Rattle.cb_order.proofs.Orders.{cons-here}
use Rattle.cb_order.proofs.Sorting.look.Goals as goal

pub returns-then-index-clause-sorting : goal.returns-then-index-clause-sorting
returns-then-index-clause-sorting c seen late old =
    let i = c.requires.item in
    let p = c.requires.shape.placed in
    let t : c.index.result.now ≡ true = search rules in
    look-passed c.args.graph.now seen c.args.wait late (state_of c.args.self.now) old (mark-at c.args.self.now.placed.items c.args.wait.item c.index.result.now (omega (arith, i, p)) c.index.ensures ∙ t)

pub first_missing-requires : goal.first_missing-requires
first_missing-requires c =
    let i = c.requires.item in
    let list : c.list-list.result.now ≡ needs_of c.args.graph.now c.args.wait.item = c.list-list.ensures in
    record { items = λ n h. let l : n < length c.args.graph.now = c.requires.items c.args.wait.item n (subst (λ ns. Contains ns n) list h) in let p = c.requires.shape.placed in omega (arith, l, p) }

pub index_mut-requires : goal.index_mut-requires
index_mut-requires c =
    let i = c.requires.item in
    let list : c.list-list.result.now ≡ needs_of c.args.graph.now c.args.wait.item = c.list-list.ensures in
    let n : ℕ = slice_index_or c.list-list.result.now c.in-Some.at 0 in
    let l : n < length c.args.graph.now = c.requires.items c.args.wait.item n (subst (λ ns. Contains ns n) list (Contains-get_or c.list-list.result.now c.in-Some.at 0 c.in-Some.ensures.within)) in
    let w : length (state_of c.args.self.now).waits ≡ length c.args.graph.now = c.requires.shape.waiting in
    let long : length (state_of c.args.self.now).waits ≡ length c.args.self.now.waiting.items = waits-long (λ v. v.items) c.args.self.now.waiting.items in
    omega (arith, l, w, long, c.args.self.now.waiting.ok)

pub returns-in_default-clause-sorting : goal.returns-in_default-clause-sorting
returns-in_default-clause-sorting c seen late old =
    let i = c.requires.item in
    let p = c.requires.shape.placed in
    let list : c.list-list.result.now ≡ needs_of c.args.graph.now c.args.wait.item = c.list-list.ensures in
    let f : c.index.result.now ≡ false = search rules in
    look-ready c.args.graph.now seen c.args.wait late (state_of c.args.self.now) old c.insert.new.self.keys c.in_ok-insert.ensures.keys (mark-at c.args.self.now.placed.items c.args.wait.item c.index.result.now (omega (arith, i, p)) c.index.ensures ∙ f)
    (λ n h. all-placed c.args.self.now.placed.items (needs_of c.args.graph.now c.args.wait.item) c.args.wait.at n (old.are_late c.args.wait (cons-here c.args.wait late)).before (λ k m g e. c.in_default.ensures.none k m g (subst (λ ns. slice_get ns k ≡ Some m) (sym list) e)) h)

pub returns-clause-shape : goal.returns-clause-shape
returns-clause-shape c =
    let i = c.requires.item in
    let list : c.list-list.result.now ≡ needs_of c.args.graph.now c.args.wait.item = c.list-list.ensures in
    let n : ℕ = slice_index_or c.list-list.result.now c.in-Some.at 0 in
    let l : n < length c.args.graph.now = c.requires.items c.args.wait.item n (subst (λ ns. Contains ns n) list (Contains-get_or c.list-list.result.now c.in-Some.at 0 c.in-Some.ensures.within)) in
    let w : length (state_of c.args.self.now).waits ≡ length c.args.graph.now = c.requires.shape.waiting in
    let long : length (state_of c.args.self.now).waits ≡ length c.args.self.now.waiting.items = waits-long (λ v. v.items) c.args.self.now.waiting.items in
    let at : Wait = record { item = c.args.wait.item; at = c.in-Some.at } in
    let small : n < length c.args.self.now.waiting.items = omega (arith, l, w, long) in
    let e = pushed-waits (λ (v : Vec Wait Global). v.items) c.args.self.now.waiting.items n c.index_mut.result.now c.push.new.self at small c.index_mut.ensures.value c.in_ok-push.ensures.items in
    look-shape c.args.graph.now (state_of c.args.self.now) c.args.wait _ n c.in-Some.at c.requires.shape i l e (pushed-long (λ (v : Vec Wait Global). v.items) c.args.self.now.waiting.items n c.push.new.self)

pub returns-clause-sorting : goal.returns-clause-sorting
returns-clause-sorting c seen late old =
    let i = c.requires.item in
    let list : c.list-list.result.now ≡ needs_of c.args.graph.now c.args.wait.item = c.list-list.ensures in
    let n : ℕ = slice_index_or c.list-list.result.now c.in-Some.at 0 in
    let l : n < length c.args.graph.now = c.requires.items c.args.wait.item n (subst (λ ns. Contains ns n) list (Contains-get_or c.list-list.result.now c.in-Some.at 0 c.in-Some.ensures.within)) in
    let w : length (state_of c.args.self.now).waits ≡ length c.args.graph.now = c.requires.shape.waiting in
    let long : length (state_of c.args.self.now).waits ≡ length c.args.self.now.waiting.items = waits-long (λ v. v.items) c.args.self.now.waiting.items in
    let at : Wait = record { item = c.args.wait.item; at = c.in-Some.at } in
    let small : n < length c.args.self.now.waiting.items = omega (arith, l, w, long) in
    let e = pushed-waits (λ (v : Vec Wait Global). v.items) c.args.self.now.waiting.items n c.index_mut.result.now c.push.new.self at small c.index_mut.ensures.value c.in_ok-push.ensures.items in
    let here : slice_get c.list-list.result.now c.in-Some.at ≡ Some n = slice_get-get_or c.list-list.result.now c.in-Some.at 0 c.in-Some.ensures.within in
    look-waits c.args.graph.now seen c.args.wait late (state_of c.args.self.now) old c.in-Some.at n _ e (subst (λ ns. slice_get ns c.in-Some.at ≡ Some n) list here) l (c.in-Some.ensures.found n here)
    (λ k m lt f. elim (cases_lt k c.args.wait.at) [
      | inl before ↦ (old.are_late c.args.wait (cons-here c.args.wait late)).before k m before f
      | inr from ↦ c.in-Some.ensures.before k m from lt (subst (λ ns. slice_get ns k ≡ Some m) (sym list) f)
    ])
    (pushed-long (λ (v : Vec Wait Global). v.items) c.args.self.now.waiting.items n c.push.new.self)
