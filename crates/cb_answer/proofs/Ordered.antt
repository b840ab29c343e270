-- The pieces of items whose variables stand before the goals are the line of their shape.
use Rattle.std.proofs.Common.{◌≡◌, ℕ, List, [], ◌∷◌, ◌++◌, map, codes, refl, sym, ap, ◌∙◌}
use Rattle.std.specs.Borrow.{Bor}
use Rattle.cb_model.specs.Text.{Text, name_text}
use Rattle.cb_model.specs.Line.{line_text}
use Rattle.cb_laws.proofs.OpenTrees.{Plains, Nil, Cons}
use Rattle.cb_boole.specs.Elimination.{Function}
use Rattle.cb_heap.specs.declared.Ref.{Ref}
use Rattle.cb_shape.specs.declared.Root.{Root}
use Rattle.cb_shape.specs.declared.Root.TheVariants as root
use Rattle.cb_shape.specs.Shapes.{shape_of}
use Rattle.cb_shape.specs.Text.{AreOfLine, line_start, starts, term_starts, tokens_text}
use Rattle.cb_shape.specs.Tokens.{told_tokens}
use Rattle.cb_shape.proofs.Texts.{pieces-line}
use Rattle.cb_answer.specs.declared.Item.{Item}
use Rattle.cb_answer.specs.declared.Item.TheVariants as item
use Rattle.cb_answer.specs.Items.{begins, item_start, item_starts, printed_of, roots_of, waiting_of}
use Rattle.cb_answer.specs.Lines.{form_leaf, form_text, line_names, spread_all}

-- goals alone
goals-start : (xs : List Item) → printed_of xs ≡ [] → map item_start xs ≡ starts [] (waiting_of xs)
goals-start [] e = refl
goals-start (item.Waiting name args ∷ xs) e = ap (λ (us : List Text). (codes "waiting " ++ name_text name.now) ∷ us) (goals-start xs e)
goals-start (item.Var name cell ∷ xs) e = absurd (cc)

module _ (ns : List Text) where
  -- behind a goal no variable stands
  goal-leads : (us : List (ℕ × Text)) (ws : List Text) (args : Bor (List Ref)) (rs : List Root) (ps : Plains) → AreOfLine ns us ws (root.Goal args ∷ rs) ps → us ≡ []
  goal-leads [] ws args rs ps h = refl
  goal-leads (u ∷ us) ws args rs ps h = absurd h

  starts-are : (xs : List Item) (ps : Plains) → AreOfLine ns (printed_of xs) (waiting_of xs) (roots_of xs) ps → map item_start xs ≡ starts (printed_of xs) (waiting_of xs)
  starts-are [] ps h = refl
  starts-are (item.Var name cell ∷ xs) (Cons p ps) h = ap (λ (us : List Text). (name.now ++ codes " = ") ∷ us) (starts-are xs ps h)
  starts-are (item.Var name cell ∷ xs) Nil h = absurd h
  starts-are (item.Waiting name args ∷ xs) ps h =
      let e = goal-leads (printed_of xs) (name.now ∷ waiting_of xs) args (roots_of xs) ps h in
      goals-start (item.Waiting name args ∷ xs) e ∙ ap (λ us. starts us (name.now ∷ waiting_of xs)) (sym e)

  items-start : (xs : List Item) (ps : Plains) → AreOfLine ns (printed_of xs) (waiting_of xs) (roots_of xs) ps → item_starts xs ≡ term_starts (printed_of xs) (waiting_of xs)
  items-start [] ps h = refl
  items-start (item.Var name cell ∷ xs) (Cons p ps) h = ap (λ us. (name.now ++ codes " = ") ∷ map (λ t. codes ", " ++ t) us) (starts-are xs ps h)
  items-start (item.Var name cell ∷ xs) Nil h = absurd h
  items-start (item.Waiting name args ∷ xs) ps h =
      let e = goal-leads (printed_of xs) (name.now ∷ waiting_of xs) args (roots_of xs) ps h in
      ap (map (λ t. codes ", " ++ t)) (goals-start (item.Waiting name args ∷ xs) e) ∙ ap (λ us. term_starts us (name.now ∷ waiting_of xs)) (sym e)

  items-begin : (xs : List Item) (ps : Plains) → AreOfLine ns (printed_of xs) (waiting_of xs) (roots_of xs) ps → begins xs ≡ line_start (printed_of xs)
  items-begin [] ps h = refl
  items-begin (item.Var name cell ∷ xs) ps h = refl
  items-begin (item.Waiting name args ∷ xs) ps h = ap line_start (sym (goal-leads (printed_of xs) (name.now ∷ waiting_of xs) args (roots_of xs) ps h))

pub named-pieces : (ns cs : List Text) (items : List Item) (ps : Plains) (c first : ℕ) (gens : List Function) → AreOfLine ns (printed_of items) (waiting_of items) (roots_of items) ps →
    form_text c (line_names ns cs items) items first gens (told_tokens (roots_of items) ps) ≡ line_text c (line_names ns cs items) (shape_of ps) (spread_all c first gens)
named-pieces ns cs items ps c first gens h =
    let names = line_names ns cs items in
    let leaf = form_leaf c names first gens in
    let ts = told_tokens (roots_of items) ps in
    ap (λ t. t ++ tokens_text names (item_starts items) leaf ts) (items-begin ns items ps h)
    ∙ ap (λ us. line_start (printed_of items) ++ tokens_text names us leaf ts) (items-start ns items ps h)
    ∙ pieces-line names (waiting_of items) leaf (roots_of items) ps h
