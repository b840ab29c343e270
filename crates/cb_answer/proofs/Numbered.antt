-- The pieces of terms have numbers that are there.
use Rattle.std.proofs.Common.{◌≡◌, ℕ, suc, ◌+◌, ◌≤◌, List, [], ◌∷◌, ◌++◌, length, Option, Some, None, sym, ap, subst, ◌∙◌, arith, length-append}
use Rattle.std.proofs.lemmas.List.{length-map}
use Rattle.cb_model.specs.Bits.{Each}
use Rattle.cb_model.specs.Text.{Text}
use Rattle.cb_boole.specs.Elimination.{Function}
use Rattle.cb_laws.proofs.OpenTrees.{Plain, Plains, ALeaf, ABus, AVar, AnInt, ANode, Nil, Cons, Place, plain_leaves, all_leaves, all_opens}
use Rattle.cb_model.specs.Line.{Names}
use Rattle.cb_shape.specs.declared.Printed.{Printed}
use Rattle.cb_shape.specs.declared.Root.{Root}
use Rattle.cb_shape.specs.declared.Root.TheVariants as root
use Rattle.cb_shape.specs.declared.Token.{Token}
use Rattle.cb_shape.specs.Shapes.{firsts}
use Rattle.cb_shape.specs.Tokens.{tail_tokens, bus_tokens, tokens, argument_tokens, rest_tokens, root_tokens, roots_tokens}
use Rattle.cb_answer.specs.declared.Item.{Item}
use Rattle.cb_answer.specs.Items.{item_root, roots_of}
use Rattle.cb_answer.specs.Lines.{IsNumbered, AreTold, form_text, form_line}

each-append : (P : Token → Type 0) (xs ys : List Token) → Each P xs → Each P ys → Each P (xs ++ ys)
each-append P [] ys a b = b
each-append P (x ∷ xs) ys a b = (a.0, each-append P xs ys a.1 b)

module _ (k l : ℕ) (os : List Place) where
  tail-numbered : (j : ℕ) (ss : List ℕ) (t : Option ℕ) → j + length ss ≤ l → Each (IsNumbered k l) (tail_tokens os j ss t)
  tail-numbered j [] None h = (tt, tt)
  tail-numbered j [] (Some c) h = (tt, (tt, (tt, tt)))
  tail-numbered j (s ∷ ss) t h = (tt, (omega (arith, h), tail-numbered (suc j) ss t (omega (arith, h))))

  bus-numbered : (j : ℕ) (ss : List ℕ) (t : Option ℕ) → j + length ss ≤ l → Each (IsNumbered k l) (bus_tokens os j ss t)
  bus-numbered j [] None h = (tt, (tt, tt))
  bus-numbered j [] (Some c) h = (tt, tt)
  bus-numbered j (s ∷ ss) t h = (tt, (omega (arith, h), tail-numbered (suc j) ss t (omega (arith, h))))

  mutual
    term-numbered : (j : ℕ) (p : Plain) → j + length (plain_leaves p) ≤ l → Each (IsNumbered k l) (tokens os j p)
    term-numbered j (ALeaf s) h = (omega (arith, h), tt)
    term-numbered j (ABus ss t) h = bus-numbered j ss t h
    term-numbered j (AVar c) h = (tt, tt)
    term-numbered j (AnInt z) h = (tt, tt)
    term-numbered j (ANode i ps) h = (tt, arguments-numbered j ps h)

    arguments-numbered : (j : ℕ) (ps : Plains) → j + length (all_leaves ps) ≤ l → Each (IsNumbered k l) (argument_tokens os j ps)
    arguments-numbered j Nil h = tt
    arguments-numbered j (Cons p ps) h =
        let e = length-append (plain_leaves p) (all_leaves ps) in (
          tt,
          each-append (IsNumbered k l) (tokens os j p) (rest_tokens os (j + length (plain_leaves p)) ps) (term-numbered j p (omega (arith, h, e)))
              (rest-numbered (j + length (plain_leaves p)) ps (omega (arith, h, e))),
        )

    rest-numbered : (j : ℕ) (ps : Plains) → j + length (all_leaves ps) ≤ l → Each (IsNumbered k l) (rest_tokens os j ps)
    rest-numbered j Nil h = (tt, tt)
    rest-numbered j (Cons p ps) h =
        let e = length-append (plain_leaves p) (all_leaves ps) in (
          tt,
          each-append (IsNumbered k l) (tokens os j p) (rest_tokens os (j + length (plain_leaves p)) ps) (term-numbered j p (omega (arith, h, e)))
              (rest-numbered (j + length (plain_leaves p)) ps (omega (arith, h, e))),
        )

  root-numbered : (j : ℕ) (r : Root) (p : Plain) → j + length (plain_leaves p) ≤ l → Each (IsNumbered k l) (root_tokens os j r p)
  root-numbered j (root.Term r) p h = term-numbered j p h
  root-numbered j (root.Goal args) (ANode n ps) h = arguments-numbered j ps h
  root-numbered j (root.Goal args) (ALeaf s) h = tt
  root-numbered j (root.Goal args) (ABus ss t) h = tt
  root-numbered j (root.Goal args) (AVar c) h = tt
  root-numbered j (root.Goal args) (AnInt z) h = tt

  roots-numbered : (j i : ℕ) (rs : List Root) (ps : Plains) → j + length (all_leaves ps) ≤ l → i + length rs ≤ k → Each (IsNumbered k l) (roots_tokens os j i rs ps)
  roots-numbered j i [] ps h r = tt
  roots-numbered j i (x ∷ rs) Nil h r = tt
  roots-numbered j i (x ∷ rs) (Cons p ps) h r =
      let e = length-append (plain_leaves p) (all_leaves ps) in (
        omega (arith, r),
        each-append (IsNumbered k l) (root_tokens os j x p) (roots_tokens os (j + length (plain_leaves p)) (suc i) rs ps) (root-numbered j x p (omega (arith, h, e)))
            (roots-numbered (j + length (plain_leaves p)) (suc i) rs ps (omega (arith, h, e)) (omega (arith, r))),
      )

pub told-numbered : (items : List Item) (l : ℕ) (ps : Plains) (s : Printed) → AreTold items l ps s → Each (IsNumbered (length items) l) s.tokens.items
told-numbered items l ps s h =
    let a = h.leaves_are in
    let b = length-map items item_root in
    subst (λ ts. Each (IsNumbered (length items) l) ts) (sym h.shown.tokens) (roots-numbered (length items) l (firsts [] (all_opens ps)) 0 0 (roots_of items) ps (omega (arith, a)) (omega (arith, b)))

pub told-line : (c : ℕ) (names : Names) (items : List Item) (l first : ℕ) (gens : List Function) (ps : Plains) (s : Printed) (text line : Text) → AreTold items l ps s →
    text ≡ form_text c names items first gens s.tokens.items → line ≡ text ++ 10 ∷ [] → line ≡ form_line c names items ps first gens
told-line c names items l first gens ps s text line h e f = f ∙ ap (λ x. x ++ 10 ∷ []) (e ∙ ap (λ ts. form_text c names items first gens ts) h.shown.tokens)
