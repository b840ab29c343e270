-- What stands before a term, and pieces one after another.
use Rattle.std.proofs.Common.{◌≡◌, ℕ, zero, suc, ◌+◌, ◌<◌, true, List, map, [], ◌∷◌, ◌++◌, length, take, get_or, codes, refl, sym, ap, ◌∙◌, arith, append_assoc}
use Rattle.std.proofs.lemmas.List.{append-nil, take_more}
use Rattle.std.proofs.lemmas.Grind.{flat_map-append}
use Rattle.cb_model.specs.Text.{Text}
use Rattle.cb_model.specs.Line.{Names}
use Rattle.cb_boole.specs.Elimination.{Function}
use Rattle.cb_shape.specs.declared.Token.{Token}
use Rattle.cb_shape.specs.Text.{token_text, tokens_text}
use Rattle.cb_answer.specs.declared.Item.{Item}
use Rattle.cb_answer.specs.declared.Item.TheVariants as item
use Rattle.cb_answer.specs.Items.{begins, item_start, item_starts, leads}
use Rattle.cb_answer.specs.Lines.{form_leaf, form_text}

start-at : (items : List Item) (i : ℕ) (d : Item) → i < length items → get_or (map (λ t. codes ", " ++ t) (map item_start items)) i [] ≡ codes ", " ++ item_start (get_or items i d)
start-at [] i d lt = absurd (omega (arith, lt))
start-at (x ∷ items) zero d lt = refl
start-at (x ∷ items) (suc i) d lt = start-at items i d (omega (arith, lt))

-- where a variable leads
pub first-told : (items : List Item) (i : ℕ) (d : Item) (line new : Text) → i ≡ 0 → leads items ≡ true → new ≡ line ++ item_start (get_or items i d) → new ≡ line ++ get_or (item_starts items) i []
first-told [] i d line new e l f = absurd (cc)
first-told (item.Var name cell ∷ items) i d line new e l f =
    f ∙ ap (λ k. line ++ item_start (get_or (item.Var name cell ∷ items) k d)) e ∙ ap (λ k. line ++ get_or (item_starts (item.Var name cell ∷ items)) k []) (sym e)
first-told (item.Waiting name args ∷ items) i d line new e l f = absurd (cc)

next-start : (items : List Item) (i : ℕ) (d : Item) → (i ≡ 0 → leads items ≡ true → ⊥) → i < length items → get_or (item_starts items) i [] ≡ codes ", " ++ item_start (get_or items i d)
next-start [] i d ne lt = absurd (omega (arith, lt))
next-start (item.Var name cell ∷ items) zero d ne lt = absurd (ne refl refl)
next-start (item.Var name cell ∷ items) (suc i) d ne lt = start-at items i d (omega (arith, lt))
next-start (item.Waiting name args ∷ items) i d ne lt = start-at (item.Waiting name args ∷ items) i d lt

pub next-told : (items : List Item) (i : ℕ) (d : Item) (line mid new : Text) → (i ≡ 0 → leads items ≡ true → ⊥) → i < length items → mid ≡ line ++ codes ", " →
    new ≡ mid ++ item_start (get_or items i d) → new ≡ line ++ get_or (item_starts items) i []
next-told items i d line mid new ne lt e f =
    let n = item_start (get_or items i d) in
    f ∙ ap (λ x. x ++ n) e ∙ append_assoc line (codes ", ") n ∙ ap (λ x. line ++ x) (sym (next-start items i d ne lt))

pub form-start : (c : ℕ) (names : Names) (items : List Item) (first : ℕ) (gens : List Function) (line : Text) → line ≡ begins items → line ≡ form_text c names items first gens []
form-start c names items first gens line e = e ∙ sym (append-nil (begins items))

pub form-next : (c : ℕ) (names : Names) (items : List Item) (first : ℕ) (gens : List Function) (ts : List Token) (i : ℕ) (d : Token) (line line' : Text) → i < length ts →
    line ≡ form_text c names items first gens (take i ts) → line' ≡ line ++ token_text names (item_starts items) (form_leaf c names first gens) (get_or ts i d) → line' ≡ form_text c names items first gens (take (i + 1) ts)
form-next c names items first gens ts i d line line' lt e f =
    let leaf = form_leaf c names first gens in
    let t = get_or ts i d in
    let us = item_starts items in
    let s = begins items in
    f ∙ ap (λ x. x ++ token_text names us leaf t) e
    ∙ append_assoc s (tokens_text names us leaf (take i ts)) (token_text names us leaf t)
    ∙ ap (λ x. s ++ x) (ap (λ x. tokens_text names us leaf (take i ts) ++ x) (sym (append-nil (token_text names us leaf t))) ∙ sym (flat_map-append (token_text names us leaf) (take i ts) (t ∷ []))
    ∙ ap (tokens_text names us leaf) (sym (take_more ts i d lt)))
