-- The line of an answer, past its limits or within them.
use Rattle.std.proofs.Common.{◌≡◌, suc, ◌-◌, true, false, List, [], ◌∷◌, ◌++◌, length, refl, sym, ap, subst, ◌∙◌, arith, codes}
use Rattle.std.specs.Prelude.{Option, Some, None, Result, Ok, Err, IfOk, take}
use Rattle.cb_model.specs.Text.{Text, lines_text}
use Rattle.cb_model.specs.Line.{is_wide}
use Rattle.cb_laws.proofs.OpenTrees.{Plains}
use Rattle.cb_shape.specs.Shapes.{shape_of}
use Rattle.cb_shape.specs.Terms.{AreRoots}
use Rattle.cb_shape.specs.Tokens.{Shows, told_tokens}
use Rattle.cb_shape.specs.declared.Printed.{Printed}
use Rattle.cb_shape.specs.declared.Root.{Root}
use Rattle.cb_heap.specs.Heap.{Terms}
use Rattle.cb_unify.specs.State.{Seen}
use Rattle.cb_answer.specs.declared.Item.{Item}
use Rattle.cb_answer.specs.Items.{roots_of}
use Rattle.cb_answer.specs.Lines.{form_text, line_names}
use Rattle.cb_answer.specs.Writing.{IsLineOfItems, IsLineOf, IsShownFor, IsTellable, IsText, IsToldFor}
use Rattle.cb_answer.proofs.Forms.{terms}

one-less : (xs : Text) → suc (length (xs ++ 10 ∷ []) - 1) ≡ length (xs ++ 10 ∷ [])
one-less [] = refl
one-less (x ∷ xs) = omega arith

-- a text without its end
but-last : (xs : Text) → take (length (xs ++ 10 ∷ []) - 1) (xs ++ 10 ∷ []) ≡ xs
but-last [] = refl
but-last (x ∷ xs) =
    let m = one-less xs in
    let e : suc (length (xs ++ 10 ∷ [])) - 1 ≡ suc (length (xs ++ 10 ∷ []) - 1) = omega (arith, m) in
    ap (λ n. take n (x ∷ xs ++ 10 ∷ [])) e ∙ ap (λ ys. x ∷ ys) (but-last xs)

module _ (ns cs : List Text) (s : Seen) (items : List Item) where
  -- a text within the limits is that of one line, whatever terms the cells are
  pub told-text : (text : Text) → ((ps : Plains) → AreRoots s.heap.cells (roots_of items) ps → is_wide (shape_of ps) ≡ false) → (ps : Plains) → AreRoots s.heap.cells (roots_of items) ps →
      IsToldFor ns cs s items text → IsText (IsLineOfItems ns cs s items) text
  told-text text narrow ps r told =
      let line = take (length text - 1) text in
      record {
        line = line;
        is = λ qs q. is qs q;
        whole = (told ps r).whole ∙ ap (λ l. lines_text (l ∷ [])) (sym (line-is ps r));
      }
    where
      line-is : (qs : Plains) (q : AreRoots s.heap.cells (roots_of items) qs) →
          take (length text - 1) text ≡ form_text s.store.constants (line_names ns cs items) items (told qs q).first (told qs q).gens (told_tokens (roots_of items) qs)
      line-is qs q =
          let l = form_text s.store.constants (line_names ns cs items) items (told qs q).first (told qs q).gens (told_tokens (roots_of items) qs) in
          ap (λ (t : Text). take (length t - 1) t) (told qs q).whole ∙ but-last l

      is : (qs : Plains) (q : AreRoots s.heap.cells (roots_of items) qs) → IsLineOf s.store.constants (line_names ns cs items) s.store items qs (take (length text - 1) text)
      is qs q = IsLineOf.told (told qs q).first (told qs q).gens (narrow qs q) (told qs q).order (told qs q).many (told qs q).answer (line-is qs q)

  -- past the limits it is `(wide)`
  pub wide-text : (text : Text) → ((ps : Plains) → AreRoots s.heap.cells (roots_of items) ps → is_wide (shape_of ps) ≡ true) → text ≡ lines_text (codes "(wide)" ∷ []) →
      IsText (IsLineOfItems ns cs s items) text
  wide-text text wide e = record { line = codes "(wide)"; is = λ qs q. IsLineOf.wide (wide qs q) refl; whole = e }

pub if-ok : {A E : Type 0} (r : Result A E) (P Q : A → Type 0) → ((x : A) → P x → Q x) → IfOk r P → IfOk r Q
if-ok (Ok x) P Q f h = f x h
if-ok (Err e) P Q f h = tt

-- the cells that were collected are terms
pub roots-there : (s : Seen) (items : List Item) → IsTellable s items → (heap : Terms) (roots : List Root) → heap ≡ s.heap → roots ≡ roots_of items →
    (ps : Plains) × AreRoots heap.cells roots ps
roots-there s items tellable heap roots e f =
    let t = terms s items tellable in
    (t.0, subst (λ (h : Terms). AreRoots h.cells roots t.0) (sym e) (subst (λ (rs : List Root). AreRoots s.heap.cells rs t.0) (sym f) t.1))

pub shows-for : (s : Seen) (items : List Item) (heap : Terms) (roots : List Root) → heap ≡ s.heap → roots ≡ roots_of items → (found : Option Printed) →
    ((ps : Plains) → AreRoots heap.cells roots ps → Shows roots ps found) → (ps : Plains) → AreRoots s.heap.cells (roots_of items) ps → Shows (roots_of items) ps found
shows-for s items heap roots e f found h ps r =
    subst (λ (rs : List Root). Shows rs ps found) f (h ps (subst (λ (h : Terms). AreRoots h.cells roots ps) (sym e) (subst (λ (rs : List Root). AreRoots s.heap.cells rs ps) (sym f) r)))

pub shows-some : (s : Seen) (items : List Item) (found : Option Printed) (printed : Printed) → found ≡ Some printed →
    ((ps : Plains) → AreRoots s.heap.cells (roots_of items) ps → Shows (roots_of items) ps found) → IsShownFor s items printed
shows-some s items found printed e h ps r = subst (λ (x : Option Printed). Shows (roots_of items) ps x) e (h ps r)

pub shows-none : (s : Seen) (items : List Item) (found : Option Printed) → found ≡ None →
    ((ps : Plains) → AreRoots s.heap.cells (roots_of items) ps → Shows (roots_of items) ps found) → (ps : Plains) → AreRoots s.heap.cells (roots_of items) ps → is_wide (shape_of ps) ≡ true
shows-none s items found e h ps r = subst (λ (x : Option Printed). Shows (roots_of items) ps x) e (h ps r)
