use Rattle.std.proofs.Common.{rules, ◌≡◌, [], ◌∷◌, ◌++◌, length, Some, None, refl, sym, ap, subst, ◌∙◌, arith, append_assoc, length-append}
use Rattle.std.specs.Prelude.{slice_get, FitsSigned}
use Rattle.std.specs.Int.{w64}
use Rattle.std.proofs.lemmas.Int.{to_z-of_z}
use Rattle.std.proofs.lemmas.Option.{slice_get_within}
use Rattle.cb_model.specs.declared.Sort.TheVariants as sort
use Rattle.cb_laws.proofs.OpenTrees.{ALeaf, ABus, AVar, AnInt}
use Rattle.cb_heap.specs.declared.Stored.{Stored}
use Rattle.cb_heap.specs.declared.Stored.TheVariants as cell
use Rattle.cb_shape.specs.declared.Token.TheVariants as token
use Rattle.cb_shape.specs.declared.walk.Pending.TheVariants as pending
use Rattle.cb_shape.specs.Walk.{Whole, Adds, Begins}
use Rattle.cb_shape.proofs.Ends.{FormAt, form-at, term-there, node-behind}
use Rattle.cb_shape.proofs.Opens.{bus-place, term-place}
use Rattle.cb_shape.proofs.Telling.{on-ok, plain-writes, open-writes, element-writes, name-begins, whole-begins}
use Rattle.cb_shape.proofs.walk.tell_cell.Goals as goal

pub last-end-requires-clause-there : goal.last-end-requires-clause-there
last-end-requires-clause-there c =
    let t = term-there c.args.heap.now.cells c.args.r.0 c.requires.term.0 c.requires.term.1 in
    slice_get_within c.args.heap.now.cells c.args.r.0 t.0 t.1

pub stored-requires : goal.stored-requires
stored-requires c = slice_get_within c.args.heap.now.cells c.last-end.result.0 c.last-end.ensures.cell c.last-end.ensures.there

pub slot_of-requires-clause-leaf : goal.slot_of-requires-clause-leaf
slot_of-requires-clause-leaf c =
    let x = cell.BusCons c.in-BusCons.head c.in-BusCons.tail in
    let f : FormAt c.args.heap.now.cells c.last-end.result.0 x c.requires.term.0 =
    form-at c.args.heap.now.cells c.args.r.0 c.last-end.result.0 x c.requires.term.0 c.last-end.ensures (c.stored.ensures ∙ ap (λ (y : Stored). Some y) c.in-BusCons.is) c.requires.term.1 in
    (f.0, f.4)

pub tell_name-requires-clause-there : goal.tell_name-requires-clause-there
tell_name-requires-clause-there c =
    node-behind c.args.heap.now.cells c.requires.heap.linked c.last-end.result.0 c.in-Node.name c.in-Node.count (c.stored.ensures ∙ ap (λ (y : Stored). Some y) c.in-Node.is)

pub returns-in-Leaf : goal.returns-in-Leaf
returns-in-Leaf c =
    on-ok c.put_leaf.result (λ a roots p h.
    let x = cell.Leaf c.in-Leaf.slot in
    let f : p ≡ ALeaf c.in-Leaf.slot = form-at c.args.heap.now.cells c.args.r.0 c.last-end.result.0 x p c.last-end.ensures (c.stored.ensures ∙ ap (λ (y : Stored). Some y) c.in-Leaf.is) h in
    subst (λ q. Begins c.args.heap.now.cells roots q c.args.walk.now c.put_leaf.new.walk c.args.pending.now.items c.args.pending.now.items) (sym f)
    (whole-begins c.args.heap.now.cells roots (ALeaf c.in-Leaf.slot) c.args.walk.now c.put_leaf.new.walk c.args.pending.now.items c.args.pending.now.items a.places (omega arith)
    (plain-writes c.args.heap.now.cells roots (Whole (ALeaf c.in-Leaf.slot)) c.args.walk.now c.put_leaf.new.walk c.args.pending.now.items _ _ 1 a (λ os. refl) refl refl refl)))
    c.put_leaf.ensures

pub returns-in-BusVar : goal.returns-in-BusVar
returns-in-BusVar c =
    on-ok c.put_open.result (λ a roots p h.
    let e = c.last-end.result.0 in
    let is : slice_get c.args.heap.now.cells e ≡ Some cell.BusVar = c.stored.ensures ∙ ap (λ (y : Stored). Some y) c.in-BusVar.is in
    let f : p ≡ ABus [] (Some e) = form-at c.args.heap.now.cells c.args.r.0 e cell.BusVar p c.last-end.ensures is h in
    subst (λ q. Begins c.args.heap.now.cells roots q c.args.walk.now c.put_open.new.walk c.args.pending.now.items c.args.pending.now.items) (sym f)
    (whole-begins c.args.heap.now.cells roots (ABus [] (Some e)) c.args.walk.now c.put_open.new.walk c.args.pending.now.items c.args.pending.now.items a.places (omega arith)
    (open-writes c.args.heap.now.cells roots (Whole (ABus [] (Some e))) c.args.walk.now c.put_open.new.walk c.args.pending.now.items (λ n. token.Open n ∷ []) (sort.Bus, e) e a
    (bus-place c.args.heap.now.cells e is) (λ os. refl) refl refl refl)))
    c.put_open.ensures

pub returns-in_ok-push-in-BusNil : goal.returns-in_ok-push-in-BusNil
returns-in_ok-push-in-BusNil c =
    on-ok c.put_place.result (λ a roots p h.
    let e = c.last-end.result.0 in
    let f : p ≡ ABus [] None = form-at c.args.heap.now.cells c.args.r.0 e cell.BusNil p c.last-end.ensures (c.stored.ensures ∙ ap (λ (y : Stored). Some y) c.in-BusNil.is) h in
    let b : Adds c.args.walk.now c.put_place.new.walk (token.LeftBracket ∷ token.RightBracket ∷ []) [] c.args.walk.now.opens.keys 1 =
    record {
      tokens = a.tokens ∙ ap (λ q. q ++ token.RightBracket ∷ []) c.in_ok-push-in-BusNil.ensures.items ∙ append_assoc c.args.walk.now.tokens.items (token.LeftBracket ∷ []) (token.RightBracket ∷ []);
      slots = a.slots;
      opens = a.opens;
      places = a.places;
    } in
    subst (λ q. Begins c.args.heap.now.cells roots q c.args.walk.now c.put_place.new.walk c.args.pending.now.items c.args.pending.now.items) (sym f)
    (whole-begins c.args.heap.now.cells roots (ABus [] None) c.args.walk.now c.put_place.new.walk c.args.pending.now.items c.args.pending.now.items a.places (omega arith)
    (plain-writes c.args.heap.now.cells roots (Whole (ABus [] None)) c.args.walk.now c.put_place.new.walk c.args.pending.now.items _ _ 1 b (λ os. refl) refl refl refl)))
    c.put_place.ensures

pub returns-in_ok-push-in-BusCons-2 : goal.returns-in_ok-push-in-BusCons-2
returns-in_ok-push-in-BusCons-2 c = λ roots p h.
    let e = c.last-end.result.0 in
    let x = cell.BusCons c.in-BusCons.head c.in-BusCons.tail in
    let f : FormAt c.args.heap.now.cells e x p = form-at c.args.heap.now.cells c.args.r.0 e x p c.last-end.ensures (c.stored.ensures ∙ ap (λ (y : Stored). Some y) c.in-BusCons.is) h in
    let a = c.in_ok-put_leaf-in-BusCons.ensures in
    let slot : c.slot_of.result ≡ f.0 = c.slot_of.ensures f.0 f.4 in
    let b : Adds c.args.walk.now c.put_leaf-in-BusCons.new.walk (token.LeftBracket ∷ token.Leaf (length c.args.walk.now.slots.items) ∷ []) (f.0 ∷ []) c.args.walk.now.opens.keys 1 =
    record {
      tokens = a.tokens ∙ ap (λ q. q ++ token.Leaf (length c.args.walk.now.slots.items) ∷ []) c.in_ok-push-in-BusCons.ensures.items
          ∙ append_assoc c.args.walk.now.tokens.items (token.LeftBracket ∷ []) (token.Leaf (length c.args.walk.now.slots.items) ∷ []);
      slots = a.slots ∙ ap (λ s. c.args.walk.now.slots.items ++ s ∷ []) slot;
      opens = a.opens;
      places = a.places;
    } in
    let pushed = c.in_ok-push-in-BusCons-2.ensures.items in
    subst (λ q. Begins c.args.heap.now.cells roots q c.args.walk.now c.put_leaf-in-BusCons.new.walk c.args.pending.now.items c.push-in-BusCons-2.new.self.items) (sym f.3)
    (whole-begins c.args.heap.now.cells roots (ABus (f.0 ∷ f.1) f.2) c.args.walk.now c.put_leaf-in-BusCons.new.walk c.args.pending.now.items c.push-in-BusCons-2.new.self.items a.places
    (let l = ap length pushed in let m = length-append c.args.pending.now.items (pending.Tail c.in-BusCons.tail ∷ []) in omega arith)
    (element-writes c.args.heap.now.cells roots (Whole (ABus (f.0 ∷ f.1) f.2)) c.args.walk.now c.put_leaf-in-BusCons.new.walk c.args.pending.now.items c.push-in-BusCons-2.new.self.items
    token.LeftBracket f.0 f.1 f.2 c.in-BusCons.tail b pushed f.5 (λ os. refl) refl refl refl))

pub returns-in-TermVar : goal.returns-in-TermVar
returns-in-TermVar c =
    on-ok c.put_open-in-TermVar.result (λ a roots p h.
    let e = c.last-end.result.0 in
    let is : slice_get c.args.heap.now.cells e ≡ Some cell.TermVar = c.stored.ensures ∙ ap (λ (y : Stored). Some y) c.in-TermVar.is in
    let f : p ≡ AVar e = form-at c.args.heap.now.cells c.args.r.0 e cell.TermVar p c.last-end.ensures is h in
    subst (λ q. Begins c.args.heap.now.cells roots q c.args.walk.now c.put_open-in-TermVar.new.walk c.args.pending.now.items c.args.pending.now.items) (sym f)
    (whole-begins c.args.heap.now.cells roots (AVar e) c.args.walk.now c.put_open-in-TermVar.new.walk c.args.pending.now.items c.args.pending.now.items a.places (omega arith)
    (open-writes c.args.heap.now.cells roots (Whole (AVar e)) c.args.walk.now c.put_open-in-TermVar.new.walk c.args.pending.now.items (λ n. token.Open n ∷ []) (sort.Term, e) e a
    (term-place c.args.heap.now.cells e is) (λ os. refl) refl refl refl)))
    c.put_open-in-TermVar.ensures

pub returns-in-Int : goal.returns-in-Int
returns-in-Int c =
    let z = c.in-Int.value in
    let fits : FitsSigned w64 z = search rules in
    let same = to_z-of_z w64 z fits in
    on-ok c.put_place-in-Int.result (λ a roots p h.
    let x = cell.Int z in
    let f : p ≡ AnInt z = form-at c.args.heap.now.cells c.args.r.0 c.last-end.result.0 x p c.last-end.ensures (c.stored.ensures ∙ ap (λ (y : Stored). Some y) c.in-Int.is) h in
    let b : Adds c.args.walk.now c.put_place-in-Int.new.walk (token.Int z ∷ []) [] c.args.walk.now.opens.keys 1 =
    record { tokens = a.tokens ∙ ap (λ y. c.args.walk.now.tokens.items ++ token.Int y ∷ []) same; slots = a.slots; opens = a.opens; places = a.places } in
    subst (λ q. Begins c.args.heap.now.cells roots q c.args.walk.now c.put_place-in-Int.new.walk c.args.pending.now.items c.args.pending.now.items) (sym f)
    (whole-begins c.args.heap.now.cells roots (AnInt z) c.args.walk.now c.put_place-in-Int.new.walk c.args.pending.now.items c.args.pending.now.items a.places (omega arith)
    (plain-writes c.args.heap.now.cells roots (Whole (AnInt z)) c.args.walk.now c.put_place-in-Int.new.walk c.args.pending.now.items _ _ 1 b (λ os. refl) refl refl refl)))
    c.put_place-in-Int.ensures

pub returns-in-Node : goal.returns-in-Node
returns-in-Node c =
    on-ok c.tell_name.result (λ a roots p h.
    let e = c.last-end.result.0 in
    let x = cell.Node c.in-Node.name c.in-Node.count in
    let f : FormAt c.args.heap.now.cells e x p = form-at c.args.heap.now.cells c.args.r.0 e x p c.last-end.ensures (c.stored.ensures ∙ ap (λ (y : Stored). Some y) c.in-Node.is) h in
    subst (λ q. Begins c.args.heap.now.cells roots q c.args.walk.now c.tell_name.new.walk c.args.pending.now.items c.tell_name.new.pending.items) (sym f.1)
    (name-begins c.args.heap.now.cells roots e c.in-Node.name c.in-Node.count f.0 c.args.walk.now c.tell_name.new.walk c.args.pending.now.items c.tell_name.new.pending.items f.2 f.3 a))
    c.tell_name.ensures
