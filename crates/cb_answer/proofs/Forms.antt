-- The line of an answer within the limits.
use Rattle.std.proofs.Common.{◌≡◌, ℕ, ◌+◌, ◌-◌, ◌<◌, ◌≤◌, ◌^◌, Bool, true, false, ◌||◌, nat_lt, List, [], ◌∷◌, length, refl, sym, ap, subst, ◌∙◌, arith}
use Rattle.std.proofs.lemmas.Bool.{ltb-false}
use Rattle.std.proofs.lemmas.List.{length-map}
use Rattle.cb_model.specs.Bits.{Each}
use Rattle.cb_model.specs.Text.{Text}
use Rattle.cb_model.specs.Line.{Names, is_wide}
use Rattle.cb_laws.proofs.OpenTrees.{Plains, all_leaves}
use Rattle.cb_dd.specs.declared.Node.{Node}
use Rattle.cb_dd.specs.Diagram.{Store as Nodes, function_of}
use Rattle.cb_elim.specs.declared.Slot.{Slot}
use Rattle.cb_elim.specs.Store.{Seen as Booleans}
use Rattle.cb_project.specs.Answer.{AnswerCause, AreSlots, IsAnswer, IsProjected}
use Rattle.cb_project.specs.Leaves.{functions_of}
use Rattle.cb_shape.specs.declared.Printed.{Printed}
use Rattle.cb_shape.specs.Shapes.{shape_of}
use Rattle.cb_shape.specs.Terms.{AreRoots, IsRootThere}
use Rattle.cb_shape.proofs.Standing.{roots-stand}
use Rattle.cb_shape.proofs.Wide.{wide-is}
use Rattle.cb_unify.specs.State.{Seen}
use Rattle.cb_answer.specs.declared.Item.{Item}
use Rattle.cb_answer.specs.declared.Item.TheVariants as item
use Rattle.cb_answer.specs.Items.{IsItemThere, item_root, roots_of}
use Rattle.cb_answer.specs.Lines.{AreTold, form_line}
use Rattle.cb_answer.specs.Writing.{IsShownFor, IsTellable, IsToldLine, WantsNodes, leaf_slots, slots_of}
use Rattle.cb_answer.proofs.Standing.{roots-below, slots-below}

or-left : (a b : Bool) → (a || b) ≡ false → a ≡ false
or-left false b h = refl
or-left true b h = h

-- within the limits there are no more leaves than a line may have
pub few-leaves : (ps : Plains) → is_wide (shape_of ps) ≡ false → length (all_leaves ps) ≤ 4096
few-leaves ps h = ltb-false 4096 (length (all_leaves ps)) (or-left (nat_lt 4096 (length (all_leaves ps))) _ (sym (wide-is ps) ∙ h))

slots-count : (ps : Plains) → length (leaf_slots ps) ≡ length (all_leaves ps)
slots-count ps = length-map (all_leaves ps) (λ n. record { 0 = n })

root-there : (n : ℕ) (x : Item) → IsItemThere n x → IsRootThere n (item_root x)
root-there n (item.Var name cell) h = h
root-there n (item.Waiting name args) h = h

roots-there : (n : ℕ) (items : List Item) → Each (IsItemThere n) items → Each (IsRootThere n) (roots_of items)
roots-there n [] h = tt
roots-there n (x ∷ items) h = (root-there n x h.0, roots-there n items h.1)

module _ (s : Seen) (items : List Item) (tellable : IsTellable s items) where
  -- the items' cells are terms
  pub terms : (ps : Plains) × AreRoots s.heap.cells (roots_of items) ps
  terms = roots-stand tellable.table s.heap.sorts s.heap.cells tellable.fits tellable.state.finite (roots_of items) (roots-there (length s.heap.cells) items tellable.there)

  module _ (printed : Printed) (shown : IsShownFor s items printed) (slots : List Slot) (e : slots ≡ slots_of printed.slots.items) where
    pub slots-are : (ps : Plains) → AreRoots s.heap.cells (roots_of items) ps → slots ≡ leaf_slots ps
    slots-are ps r = e ∙ ap slots_of (shown ps r).slots

    pub slots-there : AreSlots s.store slots
    slots-there =
        let ps = terms.0 in
        subst (λ (ls : List Slot). Each (λ l. l.0 < length s.store.slots) ls) (sym (slots-are ps terms.1))
        (slots-below (length s.store.slots) (all_leaves ps) (roots-below s.heap.cells (length s.store.slots) tellable.state.rise (roots_of items) ps terms.1))

    pub levels-there : s.store.drawn + length slots < 2 ^ 32
    levels-there =
        let ps = terms.0 in
        let a = ap length (slots-are ps terms.1) in
        let b = slots-count ps in
        let c = few-leaves ps (shown ps terms.1).narrow in
        let d = tellable.room in
        omega (arith, a, b, c, d)

    module _ (new : Booleans) (first : ℕ) (ns : List Node) (projected : IsProjected s.store new slots first ns) where
      pub are-told : (ps : Plains) → AreRoots s.heap.cells (roots_of items) ps → AreTold items (length ns) ps printed
      are-told ps r = record {
        shown = shown ps r;
        leaves_are = sym (slots-count ps) ∙ ap length (sym (slots-are ps r)) ∙ sym projected.as_many;
      }

      pub line-told : (c : ℕ) (read : Nodes) (names : Names) (text : Text) (ps : Plains) → AreRoots s.heap.cells (roots_of items) ps → c ≡ s.store.constants → read ≡ new.nodes →
          text ≡ form_line c names items ps first (functions_of read.triples ns) → IsToldLine s.store.constants names s.store items ps text
      line-told c read names text ps r k e is = record {
        first = first;
        gens = functions_of new.nodes.triples ns;
        order = subst (λ n. s.store.constants ≤ n) (sym projected.first) tellable.state.store.constants;
        many = length-map ns (λ n. function_of new.nodes.triples n.0) ∙ projected.as_many ∙ ap length (slots-are ps r) ∙ slots-count ps;
        answer = subst (λ (ls : List Slot). IsAnswer s.store ls first (functions_of new.nodes.triples ns)) (slots-are ps r) projected.answer;
        whole = is ∙ ap (λ n. form_line n names items ps first (functions_of read.triples ns)) k ∙ ap (λ (m : Nodes). form_line s.store.constants names items ps first (functions_of m.triples ns)) e;
      }

    pub wants : (new : Seen) → (s.store.nodes.budget ≡ 2 ^ 64 - 1 → ⊥) → AnswerCause s.store new.store slots → WantsNodes s new items
    wants new bounded cause = record {
      rose = cause.rose;
      bounded = bounded;
      below = λ ps r. subst (λ (ls : List Slot). AnswerCause s.store new.store ls) (slots-are ps r) cause;
    }
