use Rattle.std.proofs.Common.{◌≡◌, [], ◌∷◌, ◌++◌, length, Some, None, refl, sym, ap, subst, ◌∙◌, arith, append_assoc, length-append, inl, inr, nat_eq}
use Rattle.std.specs.List.{position_or_len}
use Rattle.indexmap.specs.IndexSet.{insert_key}
use Rattle.cb_shape.specs.declared.walk.Walk.{Walk}
use Rattle.std.specs.Prelude.{slice_get}
use Rattle.std.proofs.lemmas.Option.{slice_get_within}
use Rattle.cb_model.specs.declared.Sort.TheVariants as sort
use Rattle.cb_laws.proofs.OpenTrees.{ABus}
use Rattle.cb_heap.specs.declared.Stored.{Stored}
use Rattle.cb_heap.specs.declared.Stored.TheVariants as cell
use Rattle.cb_shape.specs.declared.Token.TheVariants as token
use Rattle.cb_shape.specs.declared.walk.Pending.TheVariants as pending
use Rattle.cb_shape.specs.Walk.{Tail, Adds, Steps}
use Rattle.cb_shape.proofs.Ends.{term-there, bus-ends, bus-at, bus-nil, bus-var}
use Rattle.cb_shape.proofs.Opens.{bus-place}
use Rattle.cb_shape.proofs.Telling.{on-ok, plain-writes, open-writes, element-writes}
use Rattle.cb_shape.proofs.walk.tell_tail.Goals as goal

pub last-end-requires-clause-there : goal.last-end-requires-clause-there
last-end-requires-clause-there c =
    let t = term-there c.args.heap.now.cells c.args.r.0 (ABus c.requires.bus.0 c.requires.bus.1) c.requires.bus.2 in
    slice_get_within c.args.heap.now.cells c.args.r.0 t.0 t.1

pub stored-requires : goal.stored-requires
stored-requires c = slice_get_within c.args.heap.now.cells c.last-end.result.0 c.last-end.ensures.cell c.last-end.ensures.there

pub slot_of-requires-clause-leaf : goal.slot_of-requires-clause-leaf
slot_of-requires-clause-leaf c =
    let f = bus-at c.args.heap.now.cells c.args.r.0 c.last-end.result.0 c.in-BusCons.head c.in-BusCons.tail c.requires.bus.0 c.requires.bus.1 c.last-end.ensures
    (c.stored.ensures ∙ ap (λ (y : Stored). Some y) c.in-BusCons.is) c.requires.bus.2 in
    (f.s, f.leaf)

pub unreachable-requires : goal.unreachable-requires
unreachable-requires c =
    bus-ends c.args.heap.now.cells c.args.r.0 c.last-end.result.0 c.stored.result c.requires.bus.0 c.requires.bus.1 c.last-end.ensures c.stored.ensures c.requires.bus.2
    c.in_default.not-BusNil c.in_default.not-BusVar c.in_default.not-BusCons

pub returns-in-BusNil : goal.returns-in-BusNil
returns-in-BusNil c =
    on-ok c.put_place.result (λ a roots ss t h.
    let f = bus-nil c.args.heap.now.cells c.args.r.0 c.last-end.result.0 ss t c.last-end.ensures (c.stored.ensures ∙ ap (λ (y : Stored). Some y) c.in-BusNil.is) h in
    subst (λ x. Steps c.args.heap.now.cells roots (Tail x.0 x.1) c.args.walk.now c.put_place.new.walk c.args.pending.now.items c.args.pending.now.items) (sym f)
    (record {
      writes = plain-writes c.args.heap.now.cells roots (Tail [] None) c.args.walk.now c.put_place.new.walk c.args.pending.now.items _ _ 1 a (λ os. refl) refl refl (omega arith);
      on = inr (omega arith);
    }))
    c.put_place.ensures

pub returns-in_ok-push-in-BusVar-2 : goal.returns-in_ok-push-in-BusVar-2
returns-in_ok-push-in-BusVar-2 c = λ roots ss t h.
    let cs = c.args.heap.now.cells in
    let e = c.last-end.result.0 in
    let is : slice_get cs e ≡ Some cell.BusVar = c.stored.ensures ∙ ap (λ (y : Stored). Some y) c.in-BusVar.is in
    let f = bus-var cs c.args.r.0 e ss t c.last-end.ensures is h in
    let a = c.in_ok-put_open-in-BusVar.ensures in
    let old = c.args.walk.now.tokens.items in
    let n = position_or_len (nat_eq e) c.args.walk.now.opens.keys in
    let new : Walk = record { tokens = c.push-in-BusVar.new.self; slots = c.put_open.new.walk.slots; opens = c.put_open.new.walk.opens; places = c.put_open.new.walk.places } in
    let b : Adds c.args.walk.now new (token.Bar ∷ token.Open n ∷ token.RightBracket ∷ []) [] (insert_key nat_eq c.args.walk.now.opens.keys e) 1 =
    record {
      tokens =
          c.in_ok-push-in-BusVar-2.ensures.items
          ∙ ap (λ q. q ++ token.RightBracket ∷ []) (a.tokens ∙ ap (λ q. q ++ token.Open n ∷ []) c.in_ok-push-in-BusVar.ensures.items ∙ append_assoc old (token.Bar ∷ []) (token.Open n ∷ []))
          ∙ append_assoc old (token.Bar ∷ token.Open n ∷ []) (token.RightBracket ∷ []);
      slots = a.slots;
      opens = a.opens;
      places = a.places;
    } in
    subst (λ x. Steps cs roots (Tail x.0 x.1) c.args.walk.now new c.args.pending.now.items c.args.pending.now.items) (sym f)
    (record {
      writes = open-writes cs roots (Tail [] (Some e)) c.args.walk.now new c.args.pending.now.items (λ n. token.Bar ∷ token.Open n ∷ token.RightBracket ∷ []) (sort.Bus, e) e b
          (bus-place cs e is) (λ os. refl) refl refl (omega arith);
      on = inr (omega arith);
    })

pub returns-in_ok-push-in-BusCons-2 : goal.returns-in_ok-push-in-BusCons-2
returns-in_ok-push-in-BusCons-2 c = λ roots ss t h.
    let cs = c.args.heap.now.cells in
    let f = bus-at cs c.args.r.0 c.last-end.result.0 c.in-BusCons.head c.in-BusCons.tail ss t c.last-end.ensures (c.stored.ensures ∙ ap (λ (y : Stored). Some y) c.in-BusCons.is) h in
    let a = c.in_ok-put_leaf-in-BusCons.ensures in
    let j = length c.args.walk.now.slots.items in
    let slot : c.slot_of.result ≡ f.s = c.slot_of.ensures f.s f.leaf in
    let b : Adds c.args.walk.now c.put_leaf.new.walk (token.Comma ∷ token.Leaf j ∷ []) (f.s ∷ []) c.args.walk.now.opens.keys 1 =
    record {
      tokens = a.tokens ∙ ap (λ q. q ++ token.Leaf j ∷ []) c.in_ok-push-in-BusCons.ensures.items ∙ append_assoc c.args.walk.now.tokens.items (token.Comma ∷ []) (token.Leaf j ∷ []);
      slots = a.slots ∙ ap (λ s. c.args.walk.now.slots.items ++ s ∷ []) slot;
      opens = a.opens;
      places = a.places;
    } in
    let pushed = c.in_ok-push-in-BusCons-2.ensures.items in
    subst (λ x. Steps cs roots (Tail x t) c.args.walk.now c.put_leaf.new.walk c.args.pending.now.items c.push-in-BusCons-2.new.self.items) (sym f.is)
    (record {
      writes =
          element-writes cs roots (Tail (f.s ∷ f.rest) t) c.args.walk.now c.put_leaf.new.walk c.args.pending.now.items c.push-in-BusCons-2.new.self.items
          token.Comma f.s f.rest t c.in-BusCons.tail b pushed f.bus (λ os. refl) refl refl refl;
      on = inl (let p = a.places in omega arith, let l = ap length pushed in let m = length-append c.args.pending.now.items (pending.Tail c.in-BusCons.tail ∷ []) in omega arith);
    })
