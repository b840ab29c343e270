-- Solvable equations have a shape for all terms: the forms of the terms in all solutions, with their formulas as leaves and
-- their unknown parts as open places.
use Rattle.std.proofs.Common.{◌≡◌, inl, inr, ℕ, zero, suc, ◌+◌, ◌<◌, ◌≤◌, Bool, true, false, ◌||◌, if◌then◌else◌, List, [], ◌∷◌, ◌++◌, map, length, get_or, refl, sym, ◌∙◌, ap, subst, arith, pos, length-append, append_assoc, append-nil}
use Rattle.std.proofs.lemmas.List.{length-map}
use Rattle.std.specs.Prelude.{Option, Some, None, slice_get, flat_map}
use Rattle.std.specs.List.{list_all}
use Rattle.cb_model.specs.declared.Expr.{Expr}
use Rattle.cb_model.specs.declared.Expr.TheVariants as expr
use Rattle.cb_model.specs.declared.Sort.TheVariants as sort
use Rattle.cb_model.specs.declared.Tree.{Tree}
use Rattle.cb_model.specs.declared.Tree.TheVariants as tree
use Rattle.cb_model.specs.declared.Tree.TheOpen.{Tree-F}
use Rattle.cb_model.specs.declared.Tree.TheFolds.{fold-roll-Tree}
use Rattle.cb_model.specs.Bits.{Bits, AgreeBelow, Each, bits_of, first_bits, numbers, numbers_from}
use Rattle.cb_model.specs.Values.{Ground, Bit, Word, Int, Name, Grounds, Last, More, grounds, World, Valuation, IsValuation, tail_of, tree_value, tree_in_scope}
use Rattle.cb_model.specs.Equations.{Item, SolvedAt, Solvable, Meets}
use Rattle.cb_model.specs.Answers.{BitsFrom, Gives, IsShape, InOrder, is_open, is_open_step, is_leaf, leaves, opens, values, with_opens}
use Rattle.cb_laws.specs.Laws.{InScope, HasShape}
use Rattle.cb_laws.proofs.Tables.{zero_fits}
use Rattle.cb_laws.proofs.Decided.{and_true, both_true, agree_first, trimmed}
use Rattle.cb_laws.proofs.DependsTrees.{agree_self, tree_depends, items_depend}
use Rattle.cb_laws.proofs.Bounds.{items_wider}
use Rattle.cb_laws.proofs.Codes.{BusEnd, ArgumentsEnd, Number, Called, Unknown, ABus, ATerm, Code, Truth, Marked, Join, Form, Open, Formula, Fixed, Both, Truths, Choice, value, same, same_is, same_self, filled, IsBusCode, CodeFits, sort_of, AreFit}
use Rattle.cb_laws.proofs.Coded.{coded, all_coded, all_coded-inj, bus_coded, bus_decoded, bus_forth, bus_is, decoded, is_coded, coded_fits, arguments_form, tree_form}
use Rattle.cb_laws.proofs.Search.{Decision, Found, both, equal_to, same_bit, search_bits}
use Rattle.cb_laws.proofs.Unified.{Solved, plain, plain_fit, first_of, second_of, truth_in}
use Rattle.cb_laws.proofs.Solutions.{item_pairs, outputs_in, Allows, allows, row_truths, row_valuation, row_meets, row_value, RowOf, row_of}
use Rattle.cb_laws.proofs.Matching.{unknowns_in, each_front, each_behind, each_of}
use Rattle.cb_laws.proofs.ReadyGoals.{trees_bound, trees_wider, solved}
use Rattle.cb_laws.proofs.Shapes.{open-leaf, open-bus, open-term, open-node, leaf-var}
use Rattle.cb_laws.proofs.OpenTrees.{Plain, ALeaf, ABus as PlainBus, AVar, AnInt, ANode, Plains, Nil, Cons, closed, closed_all, plain_value, plain_values, values_closed, plain_leaves, all_leaves, shape_leaves, Place, bus_places, plain_opens, all_opens, shape_opens}

-- ---- trees that stand in a shape

vars_open : (ns : List ℕ) → list_all is_leaf (map expr.Var ns) ≡ true
vars_open [] = refl
vars_open (n ∷ ns) = both_true _ _ (leaf-var n) (vars_open ns)

mutual
  opened : (p : Plain) → is_open (closed p) ≡ true
  opened (ALeaf n) = open-leaf (expr.Var n) ∙ leaf-var n
  opened (PlainBus ns t) = open-bus (map expr.Var ns) t ∙ vars_open ns
  opened (AVar n) = open-term n
  opened (AnInt z) = ap is_open (sym (tree.rolls-Int z)) ∙ fold-roll-Tree Bool is_open_step (Tree-F.Int z)
  opened (ANode n ps) = open-node n (closed_all ps) ∙ all_opened ps

  all_opened : (ps : Plains) → list_all (λ b. b) (map is_open (closed_all ps)) ≡ true
  all_opened Nil = refl
  all_opened (Cons p ps) = both_true _ _ (opened p) (all_opened ps)

shape_opened : (ps : Plains) → list_all is_open (closed_all ps) ≡ true
shape_opened Nil = refl
shape_opened (Cons p ps) = both_true _ _ (opened p) (shape_opened ps)

-- ---- forms of values

abbrev IsBusForm : Form → Type 0
IsBusForm (Fixed BusEnd) = Unit {0}
IsBusForm (Open (ABus k)) = Unit {0}
IsBusForm (Both (Formula e) x) = IsBusForm x
IsBusForm x = ⊥

abbrev mutual
  IsValueForm : Form → Type 0
  IsValueForm (Formula e) = Unit {0}
  IsValueForm (Open u) = Unit {0}
  IsValueForm (Fixed (Number z)) = Unit {0}
  IsValueForm (Fixed BusEnd) = Unit {0}
  IsValueForm (Both (Fixed (Called k)) x) = AreValueForms x
  IsValueForm (Both (Formula e) x) = IsBusForm x
  IsValueForm x = ⊥

  AreValueForms : Form → Type 0
  AreValueForms (Fixed ArgumentsEnd) = Unit {0}
  AreValueForms (Both x y) = IsValueForm x × AreValueForms y
  AreValueForms x = ⊥

abbrev mutual
  IsValueCode : Code → Type 0
  IsValueCode (Truth x) = Unit {0}
  IsValueCode (Marked (Number z)) = Unit {0}
  IsValueCode (Marked BusEnd) = Unit {0}
  IsValueCode (Join (Marked (Called k)) c) = AreValueCodes c
  IsValueCode (Join (Truth x) c) = IsBusCode c
  IsValueCode c = ⊥

  AreValueCodes : Code → Type 0
  AreValueCodes (Marked ArgumentsEnd) = Unit {0}
  AreValueCodes (Join c d) = IsValueCode c × AreValueCodes d
  AreValueCodes c = ⊥

mutual
  value_code : (g : Ground) → IsValueCode (coded g)
  value_code (Bit x) = tt
  value_code (Word []) = tt
  value_code (Word (x ∷ xs)) = bus_is xs
  value_code (Int z) = tt
  value_code (Name n gs) = value_codes gs

  value_codes : (gs : Grounds) → AreValueCodes (all_coded gs)
  value_codes Last = tt
  value_codes (More g gs) = (value_code g, value_codes gs)

module _ (w : World) (f : Truths) (c : Choice) (fit : AreFit w.arguments c) where
  -- an unknown's value begins no bus and no compound
  no_start : (u : Unknown) (x : Code) → IsValueCode (Join (c u) x) → ⊥
  no_start u x h = at (c u) (fit u) h
    where
      at : (k : Code) → CodeFits w.arguments (sort_of u) k → IsValueCode (Join k x) → ⊥
      at k g j = kind u k g j
        where
          kind : (u : Unknown) (k : Code) → CodeFits w.arguments (sort_of u) k → IsValueCode (Join k x) → ⊥
          kind (ABus n) (Truth y) g j = g
          kind (ABus n) (Marked (Called m)) g j = g
          kind (ABus n) (Marked (Number z)) g j = j
          kind (ABus n) (Marked BusEnd) g j = j
          kind (ABus n) (Marked ArgumentsEnd) g j = j
          kind (ABus n) (Join d e) g j = j
          kind (ATerm n) (Truth y) g j = g
          kind (ATerm n) (Marked (Called m)) g j = g
          kind (ATerm n) (Marked (Number z)) g j = j
          kind (ATerm n) (Marked BusEnd) g j = j
          kind (ATerm n) (Marked ArgumentsEnd) g j = j
          kind (ATerm n) (Join d e) g j = j

  no_arguments : (u : Unknown) → AreValueCodes (c u) → ⊥
  no_arguments u h = kind u (c u) (fit u) h
    where
      bus_end : (k : Code) → IsBusCode k → AreValueCodes k → ⊥
      bus_end (Truth y) g j = g
      bus_end (Marked (Called m)) g j = g
      bus_end (Marked (Number z)) g j = g
      bus_end (Marked BusEnd) g j = j
      bus_end (Marked ArgumentsEnd) g j = g
      bus_end (Join (Truth y) d) g j = bus_end d g j.1
      bus_end (Join (Marked m) d) g j = g
      bus_end (Join (Join k l) d) g j = g

      kind : (u : Unknown) (k : Code) → CodeFits w.arguments (sort_of u) k → AreValueCodes k → ⊥
      kind (ABus n) k g j = bus_end k g j
      kind (ATerm n) (Truth y) g j = g
      kind (ATerm n) (Marked (Called m)) g j = g
      kind (ATerm n) (Marked (Number z)) g j = j
      kind (ATerm n) (Marked BusEnd) g j = g
      kind (ATerm n) (Marked ArgumentsEnd) g j = g
      kind (ATerm n) (Join (Truth y) d) g j = g
      kind (ATerm n) (Join (Marked (Called m)) d) g j = j.0
      kind (ATerm n) (Join (Marked (Number z)) d) g j = g
      kind (ATerm n) (Join (Marked BusEnd) d) g j = g
      kind (ATerm n) (Join (Marked ArgumentsEnd) d) g j = g
      kind (ATerm n) (Join (Join k l) d) g j = g

  no_bus : (u : Unknown) (x : Code) → IsBusCode (Join (c u) x) → ⊥
  no_bus u x h = kind u (c u) (fit u) h
    where
      kind : (u : Unknown) (k : Code) → CodeFits w.arguments (sort_of u) k → IsBusCode (Join k x) → ⊥
      kind (ABus n) (Truth y) g j = g
      kind (ABus n) (Marked m) g j = j
      kind (ABus n) (Join d e) g j = j
      kind (ATerm n) (Truth y) g j = g
      kind (ATerm n) (Marked m) g j = j
      kind (ATerm n) (Join d e) g j = j

  term_no_bus : (n : ℕ) → IsBusCode (c (ATerm n)) → ⊥
  term_no_bus n h = kind (c (ATerm n)) (fit (ATerm n)) h
    where
      kind : (k : Code) → CodeFits w.arguments sort.Term k → IsBusCode k → ⊥
      kind (Truth y) g j = j
      kind (Marked (Called m)) g j = j
      kind (Marked (Number z)) g j = j
      kind (Marked BusEnd) g j = g
      kind (Marked ArgumentsEnd) g j = j
      kind (Join (Truth y) d) g j = g
      kind (Join (Marked m) d) g j = j
      kind (Join (Join k l) d) g j = j

  bus_formed : (x : Form) → IsBusCode (value f c x) → IsBusForm x
  bus_formed (Formula e) h = h
  bus_formed (Open (ABus n)) h = tt
  bus_formed (Open (ATerm n)) h = term_no_bus n h
  bus_formed (Fixed BusEnd) h = tt
  bus_formed (Fixed ArgumentsEnd) h = h
  bus_formed (Fixed (Number z)) h = h
  bus_formed (Fixed (Called k)) h = h
  bus_formed (Both (Formula e) x) h = bus_formed x h
  bus_formed (Both (Open u) x) h = no_bus u (value f c x) h
  bus_formed (Both (Fixed m) x) h = h
  bus_formed (Both (Both s t) x) h = h

  mutual
    formed : (x : Form) → IsValueCode (value f c x) → IsValueForm x
    formed (Formula e) h = tt
    formed (Open u) h = tt
    formed (Fixed (Number z)) h = tt
    formed (Fixed BusEnd) h = tt
    formed (Fixed ArgumentsEnd) h = h
    formed (Fixed (Called k)) h = h
    formed (Both (Formula e) x) h = bus_formed x h
    formed (Both (Open u) x) h = no_start u (value f c x) h
    formed (Both (Fixed (Called k)) x) h = all_formed x h
    formed (Both (Fixed (Number z)) x) h = h
    formed (Both (Fixed BusEnd) x) h = h
    formed (Both (Fixed ArgumentsEnd) x) h = h
    formed (Both (Both s t) x) h = h

    pub all_formed : (x : Form) → AreValueCodes (value f c x) → AreValueForms x
    all_formed (Formula e) h = h
    all_formed (Open u) h = no_arguments u h
    all_formed (Fixed BusEnd) h = h
    all_formed (Fixed ArgumentsEnd) h = tt
    all_formed (Fixed (Number z)) h = h
    all_formed (Fixed (Called k)) h = h
    all_formed (Both x y) h = (formed x h.0, all_formed y h.1)

-- ---- the open tree of a form

abbrev formulas : Form → List Expr
formulas (Formula e) = e ∷ []
formulas (Open u) = []
formulas (Fixed m) = []
formulas (Both x y) = formulas x ++ formulas y

abbrev count : Form → ℕ
count x = length (formulas x)

-- formulas that have the bits from n on
abbrev HaveBits : Bits → Truths → ℕ → List Expr → Type 0
HaveBits bits f n [] = Unit {0}
HaveBits bits f n (e ∷ es) = (bits n ≡ f e) × HaveBits bits f (suc n) es

bits_front : (bits : Bits) (f : Truths) (n : ℕ) (xs ys : List Expr) → HaveBits bits f n (xs ++ ys) → HaveBits bits f n xs
bits_front bits f n [] ys h = tt
bits_front bits f n (x ∷ xs) ys h = (h.0, bits_front bits f (suc n) xs ys h.1)

bits_behind : (bits : Bits) (f : Truths) (n : ℕ) (xs ys : List Expr) → HaveBits bits f n (xs ++ ys) → HaveBits bits f (n + length xs) ys
bits_behind bits f n [] ys h = subst (λ k. HaveBits bits f k ys) (omega arith) h
bits_behind bits f n (x ∷ xs) ys h = subst (λ k. HaveBits bits f k ys) (next n (length xs)) (bits_behind bits f (suc n) xs ys h.1)
  where
    next : (n k : ℕ) → suc n + k ≡ n + suc k
    next n k = omega arith

bits_both : (bits : Bits) (f : Truths) (n : ℕ) (xs ys : List Expr) → HaveBits bits f n xs → HaveBits bits f (n + length xs) ys → HaveBits bits f n (xs ++ ys)
bits_both bits f n [] ys h k = subst (λ k. HaveBits bits f k ys) (omega arith) k
bits_both bits f n (x ∷ xs) ys h k = (h.0, bits_both bits f (suc n) xs ys h.1 (subst (λ k. HaveBits bits f k ys) (next n (length xs)) k))
  where
    next : (n k : ℕ) → n + suc k ≡ suc n + k
    next n k = omega arith

have_bits : (bits : Bits) (f : Truths) (n : ℕ) (es : List Expr) → ((i : ℕ) → i < length es → bits (n + i) ≡ get_or (map f es) i false) → HaveBits bits f n es
have_bits bits f n [] h = tt
have_bits bits f n (e ∷ es) h =
    (ap bits (omega arith) ∙ h 0 (omega arith), have_bits bits f (suc n) es (λ i l. ap bits (omega arith) ∙ h (suc i) (omega arith)))

numbers_both : (n k m : ℕ) → numbers_from n (k + m) ≡ numbers_from n k ++ numbers_from (n + k) m
numbers_both n zero m = ap (numbers_from n) (zero_plus m) ∙ ap (λ i. numbers_from i m) (plus_zero n)
  where
    zero_plus : (m : ℕ) → 0 + m ≡ m
    zero_plus m = omega arith

    plus_zero : (n : ℕ) → n ≡ n + 0
    plus_zero n = omega arith
numbers_both n (suc k) m =
    ap (numbers_from n) (suc_plus k m) ∙ ap (λ l. n ∷ l) (numbers_both (suc n) k m) ∙ ap (λ i. (n ∷ numbers_from (suc n) k) ++ numbers_from i m) (next n k)
  where
    suc_plus : (k m : ℕ) → suc k + m ≡ suc (k + m)
    suc_plus k m = omega arith

    next : (n k : ℕ) → suc n + k ≡ n + suc k
    next n k = omega arith

numbers_count : (n : ℕ) (xs ys : List Expr) → numbers_from n (length xs) ++ numbers_from (n + length xs) (length ys) ≡ numbers_from n (length (xs ++ ys))
numbers_count n xs ys = sym (numbers_both n (length xs) (length ys)) ∙ ap (numbers_from n) (sym (length-append xs ys))

module _ (number : Unknown → ℕ) where
  abbrev place : Unknown → Place
  place u = (sort_of u, number u)

  -- the tail of a bus's form
  abbrev end_of : Form → Option ℕ
  end_of (Open u) = Some (number u)
  end_of (Both s x) = end_of x
  end_of x = None

  abbrev mutual
    plain_form : ℕ → Form → Plain
    plain_form n (Formula e) = ALeaf n
    plain_form n (Open (ABus k)) = PlainBus [] (Some (number (ABus k)))
    plain_form n (Open (ATerm k)) = AVar (number (ATerm k))
    plain_form n (Fixed (Number z)) = AnInt z
    plain_form n (Fixed m) = PlainBus [] None
    plain_form n (Both (Fixed (Called k)) x) = ANode k (plain_forms n x)
    plain_form n (Both s x) = PlainBus (n ∷ numbers_from (suc n) (count x)) (end_of x)

    pub plain_forms : ℕ → Form → Plains
    plain_forms n (Both x y) = Cons (plain_form n x) (plain_forms (n + count x) y)
    plain_forms n x = Nil

  mutual
    form_leaves : (n : ℕ) (x : Form) → IsValueForm x → plain_leaves (plain_form n x) ≡ numbers_from n (count x)
    form_leaves n (Formula e) h = refl
    form_leaves n (Open (ABus k)) h = refl
    form_leaves n (Open (ATerm k)) h = refl
    form_leaves n (Fixed (Number z)) h = refl
    form_leaves n (Fixed BusEnd) h = refl
    form_leaves n (Fixed ArgumentsEnd) h = absurd h
    form_leaves n (Fixed (Called k)) h = absurd h
    form_leaves n (Both (Fixed (Called k)) x) h = forms_leaves n x h
    form_leaves n (Both (Formula e) x) h = refl
    form_leaves n (Both (Fixed (Number z)) x) h = absurd h
    form_leaves n (Both (Fixed BusEnd) x) h = absurd h
    form_leaves n (Both (Fixed ArgumentsEnd) x) h = absurd h
    form_leaves n (Both (Open u) x) h = absurd h
    form_leaves n (Both (Both s t) x) h = absurd h

    forms_leaves : (n : ℕ) (x : Form) → AreValueForms x → all_leaves (plain_forms n x) ≡ numbers_from n (count x)
    forms_leaves n (Fixed ArgumentsEnd) h = refl
    forms_leaves n (Both x y) h =
        ap (λ l. l ++ all_leaves (plain_forms (n + count x) y)) (form_leaves n x h.0) ∙ ap (λ l. numbers_from n (count x) ++ l) (forms_leaves (n + count x) y h.1)
        ∙ numbers_count n (formulas x) (formulas y)
    forms_leaves n (Fixed BusEnd) h = absurd h
    forms_leaves n (Fixed (Number z)) h = absurd h
    forms_leaves n (Fixed (Called k)) h = absurd h
    forms_leaves n (Formula e) h = absurd h
    forms_leaves n (Open u) h = absurd h

  bus_opens : (x : Form) → IsBusForm x → bus_places (end_of x) ≡ map place (unknowns_in x)
  bus_opens (Open (ABus k)) h = refl
  bus_opens (Open (ATerm k)) h = absurd h
  bus_opens (Fixed BusEnd) h = refl
  bus_opens (Fixed ArgumentsEnd) h = absurd h
  bus_opens (Fixed (Number z)) h = absurd h
  bus_opens (Fixed (Called k)) h = absurd h
  bus_opens (Formula e) h = absurd h
  bus_opens (Both (Formula e) x) h = bus_opens x h
  bus_opens (Both (Open u) x) h = absurd h
  bus_opens (Both (Fixed m) x) h = absurd h
  bus_opens (Both (Both s t) x) h = absurd h

  map_both : (xs ys : List Unknown) → map place xs ++ map place ys ≡ map place (xs ++ ys)
  map_both [] ys = refl
  map_both (x ∷ xs) ys = ap (λ l. place x ∷ l) (map_both xs ys)

  mutual
    form_opens : (n : ℕ) (x : Form) → IsValueForm x → plain_opens (plain_form n x) ≡ map place (unknowns_in x)
    form_opens n (Formula e) h = refl
    form_opens n (Open (ABus k)) h = refl
    form_opens n (Open (ATerm k)) h = refl
    form_opens n (Fixed (Number z)) h = refl
    form_opens n (Fixed BusEnd) h = refl
    form_opens n (Fixed ArgumentsEnd) h = absurd h
    form_opens n (Fixed (Called k)) h = absurd h
    form_opens n (Both (Fixed (Called k)) x) h = forms_opens n x h
    form_opens n (Both (Formula e) x) h = bus_opens x h
    form_opens n (Both (Fixed (Number z)) x) h = absurd h
    form_opens n (Both (Fixed BusEnd) x) h = absurd h
    form_opens n (Both (Fixed ArgumentsEnd) x) h = absurd h
    form_opens n (Both (Open u) x) h = absurd h
    form_opens n (Both (Both s t) x) h = absurd h

    forms_opens : (n : ℕ) (x : Form) → AreValueForms x → all_opens (plain_forms n x) ≡ map place (unknowns_in x)
    forms_opens n (Fixed ArgumentsEnd) h = refl
    forms_opens n (Both x y) h =
        ap (λ l. l ++ all_opens (plain_forms (n + count x) y)) (form_opens n x h.0) ∙ ap (λ l. map place (unknowns_in x) ++ l) (forms_opens (n + count x) y h.1)
        ∙ map_both (unknowns_in x) (unknowns_in y)
    forms_opens n (Fixed BusEnd) h = absurd h
    forms_opens n (Fixed (Number z)) h = absurd h
    forms_opens n (Fixed (Called k)) h = absurd h
    forms_opens n (Formula e) h = absurd h
    forms_opens n (Open u) h = absurd h

  -- ---- values

  -- the code of an open place's value
  abbrev open_code : Valuation → Unknown → Code
  open_code o (ABus k) = bus_coded (o.words (number (ABus k)))
  open_code o (ATerm k) = coded (o.terms (number (ATerm k)))

  abbrev HaveOpens : Valuation → Choice → List Unknown → Type 0
  HaveOpens o c us = Each (λ u. open_code o u ≡ c u) us

  module _ (o : Valuation) (f : Truths) (c : Choice) where
    bus_value : (n : ℕ) (x : Form) → IsBusForm x → HaveBits o.bits f n (formulas x) → HaveOpens o c (unknowns_in x) →
        bus_coded (map o.bits (numbers_from n (count x)) ++ tail_of o (end_of x)) ≡ value f c x
    bus_value n (Open (ABus k)) h b u = u.0
    bus_value n (Open (ATerm k)) h b u = absurd h
    bus_value n (Fixed BusEnd) h b u = refl
    bus_value n (Fixed ArgumentsEnd) h b u = absurd h
    bus_value n (Fixed (Number z)) h b u = absurd h
    bus_value n (Fixed (Called k)) h b u = absurd h
    bus_value n (Formula e) h b u = absurd h
    bus_value n (Both (Formula e) x) h b u =
        ap (λ y. Join (Truth y) (bus_coded (map o.bits (numbers_from (suc n) (count x)) ++ tail_of o (end_of x)))) b.0 ∙ ap (Join (Truth (f e))) (bus_value (suc n) x h b.1 u)
    bus_value n (Both (Open v) x) h b u = absurd h
    bus_value n (Both (Fixed m) x) h b u = absurd h
    bus_value n (Both (Both s t) x) h b u = absurd h

    mutual
      form_value : (n : ℕ) (x : Form) → IsValueForm x → HaveBits o.bits f n (formulas x) → HaveOpens o c (unknowns_in x) → coded (plain_value o (plain_form n x)) ≡ value f c x
      form_value n (Formula e) h b u = ap Truth b.0
      form_value n (Open (ABus k)) h b u = u.0
      form_value n (Open (ATerm k)) h b u = u.0
      form_value n (Fixed (Number z)) h b u = refl
      form_value n (Fixed BusEnd) h b u = refl
      form_value n (Fixed ArgumentsEnd) h b u = absurd h
      form_value n (Fixed (Called k)) h b u = absurd h
      form_value n (Both (Fixed (Called k)) x) h b u = ap (Join (Marked (Called k))) (forms_value n x h b u)
      form_value n (Both (Formula e) x) h b u =
          ap (λ y. Join (Truth y) (bus_coded (map o.bits (numbers_from (suc n) (count x)) ++ tail_of o (end_of x)))) b.0 ∙ ap (Join (Truth (f e))) (bus_value (suc n) x h b.1 u)
      form_value n (Both (Fixed (Number z)) x) h b u = absurd h
      form_value n (Both (Fixed BusEnd) x) h b u = absurd h
      form_value n (Both (Fixed ArgumentsEnd) x) h b u = absurd h
      form_value n (Both (Open v) x) h b u = absurd h
      form_value n (Both (Both s t) x) h b u = absurd h

      pub forms_value : (n : ℕ) (x : Form) → AreValueForms x → HaveBits o.bits f n (formulas x) → HaveOpens o c (unknowns_in x) → all_coded (plain_values o (plain_forms n x)) ≡ value f c x
      forms_value n (Fixed ArgumentsEnd) h b u = refl
      forms_value n (Both x y) h b u =
          ap (λ k. Join k (all_coded (plain_values o (plain_forms (n + count x) y)))) (form_value n x h.0 (bits_front o.bits f n (formulas x) (formulas y) b) (each_front _ (unknowns_in x) (unknowns_in y) u))
          ∙ ap (Join (value f c x)) (forms_value (n + count x) y h.1 (bits_behind o.bits f n (formulas x) (formulas y) b) (each_behind _ (unknowns_in x) (unknowns_in y) u))
      forms_value n (Fixed BusEnd) h b u = absurd h
      forms_value n (Fixed (Number z)) h b u = absurd h
      forms_value n (Fixed (Called k)) h b u = absurd h
      forms_value n (Formula e) h b u = absurd h
      forms_value n (Open v) h b u = absurd h

    -- and back: the leaves' bits are those of the formulas
    bus_bits : (n : ℕ) (x : Form) → IsBusForm x → bus_coded (map o.bits (numbers_from n (count x)) ++ tail_of o (end_of x)) ≡ value f c x → HaveBits o.bits f n (formulas x)
    bus_bits n (Open (ABus k)) h e = tt
    bus_bits n (Open (ATerm k)) h e = absurd h
    bus_bits n (Fixed BusEnd) h e = tt
    bus_bits n (Fixed ArgumentsEnd) h e = absurd h
    bus_bits n (Fixed (Number z)) h e = absurd h
    bus_bits n (Fixed (Called k)) h e = absurd h
    bus_bits n (Formula g) h e = absurd h
    bus_bits n (Both (Formula g) x) h e = (ap (λ k. truth_in (first_of k)) e, bus_bits (suc n) x h (ap second_of e))
    bus_bits n (Both (Open v) x) h e = absurd h
    bus_bits n (Both (Fixed m) x) h e = absurd h
    bus_bits n (Both (Both s t) x) h e = absurd h

    mutual
      form_bits : (n : ℕ) (x : Form) → IsValueForm x → coded (plain_value o (plain_form n x)) ≡ value f c x → HaveBits o.bits f n (formulas x)
      form_bits n (Formula g) h e = (ap truth_in e, tt)
      form_bits n (Open (ABus k)) h e = tt
      form_bits n (Open (ATerm k)) h e = tt
      form_bits n (Fixed (Number z)) h e = tt
      form_bits n (Fixed BusEnd) h e = tt
      form_bits n (Fixed ArgumentsEnd) h e = absurd h
      form_bits n (Fixed (Called k)) h e = absurd h
      form_bits n (Both (Fixed (Called k)) x) h e = forms_bits n x h (ap second_of e)
      form_bits n (Both (Formula g) x) h e = (ap (λ k. truth_in (first_of k)) e, bus_bits (suc n) x h (ap second_of e))
      form_bits n (Both (Fixed (Number z)) x) h e = absurd h
      form_bits n (Both (Fixed BusEnd) x) h e = absurd h
      form_bits n (Both (Fixed ArgumentsEnd) x) h e = absurd h
      form_bits n (Both (Open v) x) h e = absurd h
      form_bits n (Both (Both s t) x) h e = absurd h

      pub forms_bits : (n : ℕ) (x : Form) → AreValueForms x → all_coded (plain_values o (plain_forms n x)) ≡ value f c x → HaveBits o.bits f n (formulas x)
      forms_bits n (Fixed ArgumentsEnd) h e = tt
      forms_bits n (Both x y) h e =
          bits_both o.bits f n (formulas x) (formulas y) (form_bits n x h.0 (ap first_of e)) (forms_bits (n + count x) y h.1 (ap second_of e))
      forms_bits n (Fixed BusEnd) h e = absurd h
      forms_bits n (Fixed (Number z)) h e = absurd h
      forms_bits n (Fixed (Called k)) h e = absurd h
      forms_bits n (Formula g) h e = absurd h
      forms_bits n (Open v) h e = absurd h

-- ---- the numbers of open places

abbrev has : List Unknown → Unknown → Bool
has [] x = false
has (y ∷ ys) x = same y x || has ys x

-- those that were seen, and then the others in order of first appearance
abbrev ordered : List Unknown → List Unknown → List Unknown
ordered seen [] = seen
ordered seen (u ∷ us) = if has seen u then ordered seen us else ordered (seen ++ u ∷ []) us

abbrev index : List Unknown → Unknown → ℕ
index [] x = 0
index (y ∷ ys) x = if same y x then 0 else suc (index ys x)

has_front : (ys zs : List Unknown) (x : Unknown) → has ys x ≡ true → has (ys ++ zs) x ≡ true
has_front [] zs x h = absurd (cc)
has_front (y ∷ ys) zs x h = step (same y x) h (has_front ys zs x)
  where
    step : (b : Bool) → (b || has ys x) ≡ true → (has ys x ≡ true → has (ys ++ zs) x ≡ true) → (b || has (ys ++ zs) x) ≡ true
    step true k f = refl
    step false k f = f k

index_front : (ys zs : List Unknown) (x : Unknown) → has ys x ≡ true → index (ys ++ zs) x ≡ index ys x
index_front [] zs x h = absurd (cc)
index_front (y ∷ ys) zs x h = step (same y x) h (index_front ys zs x)
  where
    step : (b : Bool) → (b || has ys x) ≡ true → (has ys x ≡ true → index (ys ++ zs) x ≡ index ys x) → (if b then 0 else suc (index (ys ++ zs) x)) ≡ (if b then 0 else suc (index ys x))
    step true k f = refl
    step false k f = ap suc (f k)

index_next : (ys zs : List Unknown) (x : Unknown) → has ys x ≡ false → index (ys ++ x ∷ zs) x ≡ length ys
index_next [] zs x h = ap (λ (b : Bool). if b then 0 else suc (index zs x)) (same_self x)
index_next (y ∷ ys) zs x h = step (same y x) h (index_next ys zs x)
  where
    step : (b : Bool) → (b || has ys x) ≡ false → (has ys x ≡ false → index (ys ++ x ∷ zs) x ≡ length ys) → (if b then 0 else suc (index (ys ++ x ∷ zs) x)) ≡ suc (length ys)
    step true k f = absurd (cc)
    step false k f = ap suc (f k)

get_index : {A : Type 0} (g : Unknown → A) (ys : List Unknown) (x : Unknown) → has ys x ≡ true → slice_get (map g ys) (index ys x) ≡ Some (g x)
get_index g [] x h = absurd (cc)
get_index g (y ∷ ys) x h = step (same y x) refl h (get_index g ys x)
  where
    step : (b : Bool) → same y x ≡ b → (b || has ys x) ≡ true → (has ys x ≡ true → slice_get (map g ys) (index ys x) ≡ Some (g x)) → slice_get (g y ∷ map g ys) (if b then 0 else suc (index ys x)) ≡ Some (g x)
    step true e k f = ap (λ z. Some (g z)) (same_is y x e)
    step false e k f = f k

map_id : (ys : List Unknown) → map (λ y. y) ys ≡ ys
map_id [] = refl
map_id (y ∷ ys) = ap (λ l. y ∷ l) (map_id ys)

-- the seen ones stand in front
more_of : (seen us : List Unknown) → (more : List Unknown) × (ordered seen us ≡ seen ++ more)
more_of seen [] = ([], sym (append-nil seen))
more_of seen (u ∷ us) = step (has seen u) (more_of seen us) (more_of (seen ++ u ∷ []) us)
  where
    step : (b : Bool) → (more : List Unknown) × (ordered seen us ≡ seen ++ more) → (more : List Unknown) × (ordered (seen ++ u ∷ []) us ≡ (seen ++ u ∷ []) ++ more) →
        (more : List Unknown) × ((if b then ordered seen us else ordered (seen ++ u ∷ []) us) ≡ seen ++ more)
    step true h k = h
    step false h k = (u ∷ k.0, k.1 ∙ append_assoc seen (u ∷ []) k.0)

has_self : (seen : List Unknown) (u : Unknown) → has (seen ++ u ∷ []) u ≡ true
has_self [] u = ap (λ (b : Bool). b || false) (same_self u)
has_self (y ∷ ys) u = step (same y u) (has_self ys u)
  where
    step : (b : Bool) → has (ys ++ u ∷ []) u ≡ true → (b || has (ys ++ u ∷ []) u) ≡ true
    step true k = refl
    step false k = k

has_in : (seen us : List Unknown) (x : Unknown) → has seen x ≡ true → has (ordered seen us) x ≡ true
has_in seen us x h = let m = more_of seen us in ap (λ l. has l x) m.1 ∙ has_front seen m.0 x h

all_in : (seen us : List Unknown) → Each (λ u. has (ordered seen us) u ≡ true) us
all_in seen [] = tt
all_in seen (u ∷ us) = step (has seen u) refl (all_in seen us) (all_in (seen ++ u ∷ []) us)
  where
    step : (b : Bool) → has seen u ≡ b → Each (λ x. has (ordered seen us) x ≡ true) us → Each (λ x. has (ordered (seen ++ u ∷ []) us) x ≡ true) us →
        Each (λ x. has (if b then ordered seen us else ordered (seen ++ u ∷ []) us) x ≡ true) (u ∷ us)
    step true e h k = (has_in seen us u e, h)
    step false e h k = (has_in (seen ++ u ∷ []) us u (has_self seen u), k)

map_append : (ys zs : List Unknown) → map sort_of ys ++ map sort_of zs ≡ map sort_of (ys ++ zs)
map_append [] zs = refl
map_append (y ∷ ys) zs = ap (λ l. sort_of y ∷ l) (map_append ys zs)

in_order : (seen us : List Unknown) → InOrder (map sort_of seen) (map (λ u. (sort_of u, index (ordered seen us) u)) us)
in_order seen [] = tt
in_order seen (u ∷ us) = step (has seen u) refl (in_order seen us) (in_order (seen ++ u ∷ []) us)
  where
    step : (b : Bool) → has seen u ≡ b → InOrder (map sort_of seen) (map (λ x. (sort_of x, index (ordered seen us) x)) us) →
        InOrder (map sort_of (seen ++ u ∷ [])) (map (λ x. (sort_of x, index (ordered (seen ++ u ∷ []) us) x)) us) →
        InOrder (map sort_of seen) (map (λ x. (sort_of x, index (if b then ordered seen us else ordered (seen ++ u ∷ []) us) x)) (u ∷ us))
    step true e h k =
        let m = more_of seen us in
        inl (ap (slice_get (map sort_of seen)) (ap (λ l. index l u) m.1 ∙ index_front seen m.0 u e) ∙ get_index sort_of seen u e, h)
    step false e h k =
        let m = more_of (seen ++ u ∷ []) us in
        let whole : ordered (seen ++ u ∷ []) us ≡ seen ++ u ∷ m.0 = m.1 ∙ append_assoc seen (u ∷ []) m.0 in
        inr (
          ap (λ l. index l u) whole ∙ index_next seen m.0 u e ∙ sym (length-map seen sort_of),
          subst (λ l. InOrder l (map (λ x. (sort_of x, index (ordered (seen ++ u ∷ []) us) x)) us)) (sym (map_append seen (u ∷ []))) k,
        )

-- ---- bits at the front

-- the first list begins the second
abbrev BeginBits : List Bool → List Bool → Type 0
BeginBits [] xs = Unit {0}
BeginBits (y ∷ ys) [] = ⊥
BeginBits (y ∷ ys) (x ∷ xs) = (y ≡ x) × BeginBits ys xs

begin_decided : (ys xs : List Bool) → Decision (BeginBits ys xs)
begin_decided [] xs = inl tt
begin_decided (y ∷ ys) [] = inr (λ h. h)
begin_decided (y ∷ ys) (x ∷ xs) = both (same_bit y x) (begin_decided ys xs)

begin_bits : (bits : Bits) (f : Truths) (n : ℕ) (es : List Expr) (ys : List Bool) → length ys ≤ length es → HaveBits bits f n es → BitsFrom n bits ys → BeginBits ys (map f es)
begin_bits bits f n es [] l h k = tt
begin_bits bits f n [] (y ∷ ys) l h k = absurd (omega (arith, l))
begin_bits bits f n (e ∷ es) (y ∷ ys) l h k = (k.0 ∙ h.0, begin_bits bits f (suc n) es ys (omega (arith, l)) h.1 k.1)

bits_begin : (ys xs : List Bool) → BeginBits ys xs → BitsFrom 0 (bits_of xs) ys
bits_begin ys xs h = from 0 ys xs xs (λ i. ap (bits_of xs) (omega arith)) h
  where
    from : (n : ℕ) (ys xs zs : List Bool) → ((i : ℕ) → bits_of zs (n + i) ≡ get_or xs i false) → BeginBits ys xs → BitsFrom n (bits_of zs) ys
    from n [] xs zs g h = tt
    from n (y ∷ ys) [] zs g h = absurd h
    from n (y ∷ ys) (x ∷ xs) zs g h =
        (h.0 ∙ sym (g 0) ∙ ap (bits_of zs) (omega arith), from (suc n) ys xs zs (λ i. ap (bits_of zs) (omega arith) ∙ g (suc i)) h.1)

-- ---- the law

grounds-inj : (xs ys : List Ground) → grounds xs ≡ grounds ys → xs ≡ ys
grounds-inj [] [] e = refl
grounds-inj [] (y ∷ ys) e = absurd (cc)
grounds-inj (x ∷ xs) [] e = absurd (cc)
grounds-inj (x ∷ xs) (y ∷ ys) e = ap (λ z. z ∷ xs) (ap (first_ground x) e) ∙ ap (λ l. y ∷ l) (grounds-inj xs ys (ap rest_grounds e))
  where
    first_ground : Ground → Grounds → Ground
    first_ground d Last = d
    first_ground d (More g gs) = g

    rest_grounds : Grounds → Grounds
    rest_grounds Last = Last
    rest_grounds (More g gs) = gs

module _ (w : World) (c v : ℕ) (es : List Item) (scope : InScope c v es) (solvable : Solvable w es) (terms : List Tree) where
  abbrev bound : (n : ℕ) × (list_all (tree_in_scope n n) terms ≡ true)
  bound = trees_bound terms

  abbrev n : ℕ
  n = c + v + bound.0

  wide : InScope n n es
  wide = items_wider c v n n (omega arith) (omega arith) es scope

  terms_wide : list_all (tree_in_scope n n) terms ≡ true
  terms_wide = trees_wider bound.0 n (omega arith) terms bound.1

  abbrev s : Solved w.arguments (item_pairs n es)
  s = solved w c v es scope solvable n wide

  abbrev truths : List Bool → List Bool → Truths
  truths ra r = row_truths w n es wide s ra r

  -- the forms of all terms, as arguments
  abbrev forms_of : List Tree → Form
  forms_of ts = arguments_form (map (λ t. filled s.parts (tree_form t)) ts)

  abbrev form : Form
  form = forms_of terms

  forms_are : (a : Bits) (b : Valuation) (f : Truths) (k : Choice) (ts : List Tree) → list_all (tree_in_scope n n) ts ≡ true →
      ((x : Tree) → tree_in_scope n n x ≡ true → coded (tree_value a b x) ≡ value f k (filled s.parts (tree_form x))) → all_coded (grounds (values a b ts)) ≡ value f k (forms_of ts)
  forms_are a b f k [] h e = refl
  forms_are a b f k (t ∷ ts) h e =
      let q = and_true _ _ h in
      ap (λ x. Join x (all_coded (grounds (values a b ts)))) (e t q.0) ∙ ap (Join (value f k (filled s.parts (tree_form t)))) (forms_are a b f k ts q.1 e)

  row : (a : Bits) (b : Valuation) → Meets w es a b → RowOf w n es wide s a b
  row = row_of w n es wide s

  abbrev first : SolvedAt w es (λ k. false)
  first = solvable (λ k. false) tt

  -- the terms are forms of values
  are_forms : AreValueForms form
  are_forms =
      let r = row (λ k. false) first.b (record { admitted = tt; sorted = first.sorted; sat = first.sat }) in
      all_formed w (truths (first_bits n (λ k. false)) r.row) r.unknowns r.fit form
      (subst AreValueCodes (forms_are (λ k. false) first.b (truths (first_bits n (λ k. false)) r.row) r.unknowns terms terms_wide r.values) (value_codes (grounds (values (λ k. false) first.b terms))))

  abbrev order : List Unknown
  order = ordered [] (unknowns_in form)

  abbrev number : Unknown → ℕ
  number = index order

  abbrev plains : Plains
  plains = plain_forms number 0 form

  abbrev shape : List Tree
  shape = closed_all plains

  shape_values : (a : Bits) (o : Valuation) → grounds (values a o shape) ≡ plain_values o plains
  shape_values a o = values_closed a o plains

  -- ---- each solution fills the shape

  module _ (f : Truths) (k : Choice) (fit : AreFit w.arguments k) where
    abbrev word_at : Option Unknown → List Bool
    word_at (Some (ABus m)) = bus_decoded (k (ABus m))
    word_at x = []

    abbrev term_at : Option Unknown → Ground
    term_at (Some (ATerm m)) = decoded (k (ATerm m))
    term_at x = Int (pos 0)

    term_fits : (x : Option Unknown) → Rattle.cb_model.specs.Values.Fits w.arguments sort.Term (term_at x)
    term_fits None = zero_fits
    term_fits (Some (ABus m)) = zero_fits
    term_fits (Some (ATerm m)) = (is_coded w.arguments sort.Term (k (ATerm m)) (fit (ATerm m))).0

    -- the values of the leaves and of the open places
    abbrev filling : Valuation
    filling = record { bits = bits_of (map f (formulas form)); words = λ m. word_at (slice_get order m); terms = λ m. term_at (slice_get order m) }

    filling_sorted : IsValuation w filling
    filling_sorted m = term_fits (slice_get order m)

    there : (u : Unknown) → has order u ≡ true → slice_get order (number u) ≡ Some u
    there u h = ap (λ l. slice_get l (number u)) (sym (map_id order)) ∙ get_index (λ y. y) order u h

    open_is : (u : Unknown) → has order u ≡ true → open_code number filling u ≡ k u
    open_is (ABus m) h = ap (λ x. bus_coded (word_at x)) (there (ABus m) h) ∙ bus_forth (k (ABus m)) (fit (ABus m))
    open_is (ATerm m) h = ap (λ x. coded (term_at x)) (there (ATerm m) h) ∙ (is_coded w.arguments sort.Term (k (ATerm m)) (fit (ATerm m))).1

    all_open : (us : List Unknown) → Each (λ u. has order u ≡ true) us → HaveOpens number filling k us
    all_open [] h = tt
    all_open (u ∷ us) h = (open_is u h.0, all_open us h.1)

    filled_value : all_coded (plain_values filling plains) ≡ value f k form
    filled_value =
        forms_value number filling f k 0 form are_forms (have_bits filling.bits f 0 (formulas form) (λ i l. ap filling.bits (omega arith)))
        (all_open (unknowns_in form) (all_in [] (unknowns_in form)))

  covered : (a : Bits) (b : Valuation) → Meets w es a b → (o : Valuation) × (IsValuation w o × (values a b terms ≡ values a o shape))
  covered a b m =
      let r = row a b m in
      let f : Truths = truths (first_bits n a) r.row in
      let o : Valuation = filling f r.unknowns r.fit in (
        o,
        (
          filling_sorted f r.unknowns r.fit,
          grounds-inj (values a b terms) (values a o shape)
              (all_coded-inj (grounds (values a b terms)) (grounds (values a o shape))
              (forms_are a b f r.unknowns terms terms_wide r.values ∙ sym (filled_value f r.unknowns r.fit) ∙ ap all_coded (sym (shape_values a o)))),
        ),
      )

  -- ---- the open places can have any values

  abbrev opened_choice : Valuation → Choice
  opened_choice o u = open_code number o u

  opened_fit : (o : Valuation) → IsValuation w o → AreFit w.arguments (opened_choice o)
  opened_fit o h (ABus m) = bus_is (o.words (number (ABus m)))
  opened_fit o h (ATerm m) = coded_fits w.arguments sort.Term (o.terms (number (ATerm m))) (h (number (ATerm m)))

  same_open : (o o' : Valuation) (u : Unknown) → open_code number (with_opens o o') u ≡ opened_choice o' u
  same_open o o' (ABus m) = refl
  same_open o o' (ATerm m) = refl

  freed : (a : Bits) (b o o' : Valuation) → Meets w es a b → values a b terms ≡ values a o shape → IsValuation w o' →
      (b' : Valuation) × (Meets w es a b' × (values a b' terms ≡ values a (with_opens o o') shape))
  freed a b o o' m e sorted =
      let r = row a b m in
      let ra : List Bool = first_bits n a in
      let f : Truths = truths ra r.row in
      let k : Choice = opened_choice o' in
      let fit : AreFit w.arguments k = opened_fit o' sorted in
      let b' : Valuation = row_valuation w n es wide s ra r.row k in
      let near : AgreeBelow n (trimmed n a) a = agree_first n a in
      let meets' : Meets w es (trimmed n a) b' = row_meets w n es wide s ra r.row k r.allowed fit in
      let meets : Meets w es a b' = record { admitted = tt; sorted = meets'.sorted; sat = items_depend n n (trimmed n a) a b' b' near (agree_self n b') es wide meets'.sat } in
      let old : all_coded (plain_values o plains) ≡ value f r.unknowns form =
      ap all_coded (sym (shape_values a o) ∙ ap grounds (sym e)) ∙ forms_are a b f r.unknowns terms terms_wide r.values in
      let bits : HaveBits o.bits f 0 (formulas form) = forms_bits number o f r.unknowns 0 form are_forms old in
      let new : all_coded (plain_values (with_opens o o') plains) ≡ value f k form =
      forms_value number (with_opens o o') f k 0 form are_forms bits (each_of _ (unknowns_in form) (same_open o o')) in
      let terms_are : all_coded (grounds (values a b' terms)) ≡ value f k form =
      forms_are a b' f k terms terms_wide (λ x h. ap coded (sym (tree_depends n n (trimmed n a) a b' b' near (agree_self n b') x h)) ∙ row_value w n es wide s ra r.row k fit x) in (
        b',
        (
          meets,
          grounds-inj (values a b' terms) (values a (with_opens o o') shape)
              (all_coded-inj (grounds (values a b' terms)) (grounds (values a (with_opens o o') shape)) (terms_are ∙ sym new ∙ ap all_coded (sym (shape_values a (with_opens o o'))))),
        ),
      )

  leaf_numbers : flat_map leaves shape ≡ numbers (length (flat_map leaves shape))
  leaf_numbers =
      let l : flat_map leaves shape ≡ numbers_from 0 (count form) = shape_leaves plains ∙ forms_leaves number 0 form are_forms in
      let k : length (flat_map leaves shape) ≡ count form = ap length l ∙ numbers_length 0 (count form) in
      l ∙ ap numbers (sym k)
    where
      numbers_length : (at k : ℕ) → length (numbers_from at k) ≡ k
      numbers_length at zero = refl
      numbers_length at (suc k) = ap suc (numbers_length (suc at) k)

  open_numbers : InOrder [] (flat_map opens shape)
  open_numbers = subst (InOrder []) (sym (shape_opens plains ∙ forms_opens number 0 form are_forms)) (in_order [] (unknowns_in form))

  is_shape : IsShape w es terms shape
  is_shape = record { only_leaves = shape_opened plains; leaf_order = leaf_numbers; open_order = open_numbers; covers = covered; free = freed }

  -- ---- whether a solution gives some bits to the first leaves

  leaf_count : length (flat_map leaves shape) ≡ count form
  leaf_count = ap length (shape_leaves plains ∙ forms_leaves number 0 form are_forms) ∙ numbers_length 0 (count form)
    where
      numbers_length : (at k : ℕ) → length (numbers_from at k) ≡ k
      numbers_length at zero = refl
      numbers_length at (suc k) = ap suc (numbers_length (suc at) k)

  module _ (a : Bits) (bits : List Bool) (short : length bits ≤ length (flat_map leaves shape)) where
    -- a row of a solution whose formulas begin with the bits
    abbrev RowGives : List Bool → Type 0
    RowGives r = Allows w n es wide s (first_bits n a) r × BeginBits bits (map (truths (first_bits n a) r) (formulas form))

    gives_row : Gives w es terms shape a bits → Found (n + outputs_in es) RowGives
    gives_row g =
        let r = row a g.b g.meets in
        let f : Truths = truths (first_bits n a) r.row in
        let old : all_coded (plain_values g.o plains) ≡ value f r.unknowns form =
        ap all_coded (sym (shape_values a g.o) ∙ ap grounds (sym g.fills)) ∙ forms_are a g.b f r.unknowns terms terms_wide r.values in
        let have : HaveBits g.o.bits f 0 (formulas form) = forms_bits number g.o f r.unknowns 0 form are_forms old in
        let fits : length bits ≤ length (formulas form) = let e = leaf_count in let l = short in omega (arith, e, l) in
        (r.row, (r.number, (r.allowed, begin_bits g.o.bits f 0 (formulas form) bits fits have g.bits_are)))

    row_gives : (r : List Bool) → RowGives r → Gives w es terms shape a bits
    row_gives r h =
        let ra : List Bool = first_bits n a in
        let f : Truths = truths ra r in
        let k : Choice = plain w.arguments in
        let fit : AreFit w.arguments k = plain_fit w.arguments in
        let b' : Valuation = row_valuation w n es wide s ra r k in
        let near : AgreeBelow n (trimmed n a) a = agree_first n a in
        let meets' : Meets w es (trimmed n a) b' = row_meets w n es wide s ra r k h.0 fit in
        let meets : Meets w es a b' = record { admitted = tt; sorted = meets'.sorted; sat = items_depend n n (trimmed n a) a b' b' near (agree_self n b') es wide meets'.sat } in
        let o : Valuation = filling f k fit in
        let terms_are : all_coded (grounds (values a b' terms)) ≡ value f k form =
        forms_are a b' f k terms terms_wide (λ x i. ap coded (sym (tree_depends n n (trimmed n a) a b' b' near (agree_self n b') x i)) ∙ row_value w n es wide s ra r k fit x) in
        record {
          b = b';
          o = o;
          meets = meets;
          fills = grounds-inj (values a b' terms) (values a o shape)
              (all_coded-inj (grounds (values a b' terms)) (grounds (values a o shape)) (terms_are ∙ sym (filled_value f k fit) ∙ ap all_coded (sym (shape_values a o))));
          bits_are = bits_begin bits (map f (formulas form)) h.1;
        }

    gives_decided : Decision (Gives w es terms shape a bits)
    gives_decided = equal_to ((λ g. gives_row g), λ h. row_gives h.0 h.1.1)
        (search_bits (n + outputs_in es) RowGives (λ r. both (allows w n es wide s (first_bits n a) r) (begin_decided bits (map (truths (first_bits n a) r) (formulas form)))))

pub has_shape : HasShape
has_shape w c v es terms scope solvable = (shape w c v es scope solvable terms, is_shape w c v es scope solvable terms)

-- and whether a solution gives some bits to its first leaves is decided at each assignment
pub shape_decided : (w : World) (c v : ℕ) (es : List Item) (terms : List Tree) → InScope c v es → Solvable w es →
    (shape : List Tree) × IsShape w es terms shape × ((a : Bits) (bits : List Bool) → length bits ≤ length (flat_map leaves shape) → Decision (Gives w es terms shape a bits))
shape_decided w c v es terms scope solvable =
    (shape w c v es scope solvable terms, is_shape w c v es scope solvable terms, gives_decided w c v es scope solvable terms)
