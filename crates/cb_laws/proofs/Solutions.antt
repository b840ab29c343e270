-- The solutions of items, as forms with unknown parts, at rows of bits.
use Rattle.std.proofs.Common.{◌≡◌, ◌⊎◌, inl, inr, ℕ, zero, suc, ◌+◌, ◌<◌, Bool, true, false, List, [], ◌∷◌, ◌++◌, map, length, get_or, refl, sym, ◌∙◌, ap, subst, arith, length-append}
use Rattle.std.proofs.lemmas.Bool.{cases_eq}
use Rattle.std.proofs.lemmas.List.{length-map}
use Rattle.cb_model.specs.declared.Circuit.{Circuit}
use Rattle.cb_model.specs.declared.Expr.TheVariants as expr
use Rattle.cb_model.specs.declared.Tree.{Tree}
use Rattle.cb_model.specs.Bits.{Bits, AgreeBelow, bits_of, first_bits, numbers_from}
use Rattle.cb_model.specs.Circuits.{Consistent, Outputs, read_all}
use Rattle.cb_model.specs.Values.{Word, World, Valuation, expr_value, tree_value, tree_in_scope}
use Rattle.cb_model.specs.Equations.{Item, Pair, Part, PartHolds, Sat, Meets}
use Rattle.cb_laws.specs.Laws.{InScope}
use Rattle.cb_laws.proofs.Values.{value-var}
use Rattle.cb_laws.proofs.DependsTrees.{AgreeOn, item_depends, part_depends, items_depend, tree_depends, agree_self}
use Rattle.cb_laws.proofs.Search.{Decision, both, equal_to, each, same_bit, same_bits, search_bits, consistent}
use Rattle.cb_laws.proofs.Codes.{BusEnd, Truth, Join, Form, Fixed, Truths, Choice, value, filled, chosen, value_filled, value_same, AreFit}
use Rattle.cb_laws.proofs.Coded.{coded, coded-inj, bus_coded, choice, choice_fits, valuation, valuation_sorted, valuation_choice, tree_form, bus_form, tree_coded}
use Rattle.cb_laws.proofs.Unified.{Pairs, AllEqual, LeftEqual, Solved, NoneSolve}
use Rattle.cb_laws.proofs.Decided.{agree_first, and_true, length-first, trimmed}

-- ---- items as equations between forms, with Boolean variables of their own for the outputs of circuits

abbrev variables_form : List ℕ → Form
variables_form ns = bus_form (map expr.Var ns) (Fixed BusEnd)

variables_value : (a bits : Bits) (c : Choice) (ns : List ℕ) → value (expr_value a bits) c (variables_form ns) ≡ bus_coded (map bits ns)
variables_value a bits c [] = refl
variables_value a bits c (n ∷ ns) = ap (λ x. Join (Truth x) (value (expr_value a bits) c (variables_form ns))) (value-var a bits n) ∙ ap (Join (Truth (bits n))) (variables_value a bits c ns)

abbrev pub item_pairs : ℕ → List Item → Pairs
item_pairs n [] = []
item_pairs n (Pair l r ∷ es) = (tree_form l, tree_form r) ∷ item_pairs n es
item_pairs n (Part c ins outs own ∷ es) =
    (tree_form ins, variables_form own) ∷ (tree_form outs, variables_form (numbers_from n (length c.outputs))) ∷ item_pairs (n + length c.outputs) es

-- the circuits have these outputs
abbrev pub Circuits : ℕ → List Item → Bits → Type 0
Circuits n [] bits = Unit {0}
Circuits n (Pair l r ∷ es) bits = Circuits n es bits
Circuits n (Part c ins outs own ∷ es) bits = Outputs c (map bits own) (map bits (numbers_from n (length c.outputs))) × Circuits (n + length c.outputs) es bits

-- how many outputs there are
abbrev pub outputs_in : List Item → ℕ
outputs_in [] = 0
outputs_in (Pair l r ∷ es) = outputs_in es
outputs_in (Part c ins outs own ∷ es) = length c.outputs + outputs_in es

outputs_decided : (c : Circuit) (input output : List Bool) → Decision (Outputs c input output)
outputs_decided c input output = equal_to (
  (λ h. (h.v, (h.consistent.every_net, (h.consistent.every_net, (h.consistent, h.outputs))))),
  λ h. record { v = h.0; consistent = h.1.1.1.0; outputs = h.1.1.1.1 },
) (search_bits c.nets (λ v. (length v ≡ c.nets) × (Consistent c input v × (output ≡ read_all v c.outputs))) (λ v. at v (cases_eq (length v) c.nets)))
  where
    at : (v : List Bool) → (length v ≡ c.nets) ⊎ (length v ≡ c.nets → ⊥) → Decision ((length v ≡ c.nets) × (Consistent c input v × (output ≡ read_all v c.outputs)))
    at v (inr n) = inr (λ h. n h.0)
    at v (inl e) = both (inl e) (both (consistent c input v e) (same_bits output (read_all v c.outputs)))

pub circuits_decided : (n : ℕ) (es : List Item) (bits : Bits) → Decision (Circuits n es bits)
circuits_decided n [] bits = inl tt
circuits_decided n (Pair l r ∷ es) bits = circuits_decided n es bits
circuits_decided n (Part c ins outs own ∷ es) bits =
    both (outputs_decided c (map bits own) (map bits (numbers_from n (length c.outputs)))) (circuits_decided (n + length c.outputs) es bits)

-- ---- back: the items hold

word_value : (a : Bits) (b : Valuation) (t : Tree) (ns : List ℕ) → value (expr_value a b.bits) (choice b) (tree_form t) ≡ value (expr_value a b.bits) (choice b) (variables_form ns) →
    tree_value a b t ≡ Word (map b.bits ns)
word_value a b t ns h = coded-inj (tree_value a b t) (Word (map b.bits ns)) (sym (tree_coded a b t) ∙ h ∙ variables_value a b.bits (choice b) ns)

value_word : (a : Bits) (b : Valuation) (t : Tree) (ns : List ℕ) → tree_value a b t ≡ Word (map b.bits ns) →
    value (expr_value a b.bits) (choice b) (tree_form t) ≡ value (expr_value a b.bits) (choice b) (variables_form ns)
value_word a b t ns h = tree_coded a b t ∙ ap coded h ∙ sym (variables_value a b.bits (choice b) ns)

pub items_hold : (n : ℕ) (es : List Item) (a : Bits) (b : Valuation) → AllEqual (expr_value a b.bits) (choice b) (item_pairs n es) → Circuits n es b.bits → Sat es a b
items_hold n [] a b h k = tt
items_hold n (Pair l r ∷ es) a b h k = (coded-inj (tree_value a b l) (tree_value a b r) (sym (tree_coded a b l) ∙ h.0 ∙ tree_coded a b r), items_hold n es a b h.1 k)
items_hold n (Part c ins outs own ∷ es) a b h k = (
  record {
    inputs = word_value a b ins own h.0;
    output = map b.bits (numbers_from n (length c.outputs));
    given = k.0;
    outputs = word_value a b outs (numbers_from n (length c.outputs)) h.1.0;
  },
  items_hold (n + length c.outputs) es a b h.1.1 k.1,
)

-- ---- forth: with the outputs as further bits

abbrev outputs_of : (es : List Item) (a : Bits) (b : Valuation) → Sat es a b → List Bool
outputs_of [] a b s = []
outputs_of (Pair l r ∷ es) a b s = outputs_of es a b s.1
outputs_of (Part c ins outs own ∷ es) a b s = s.0.output ++ outputs_of es a b s.1

output_count : (c : Circuit) (input output : List Bool) → Outputs c input output → length output ≡ length c.outputs
output_count c input output h = ap length h.outputs ∙ length-map c.outputs (λ n. get_or h.v n false)

outputs_count : (es : List Item) (a : Bits) (b : Valuation) (s : Sat es a b) → length (outputs_of es a b s) ≡ outputs_in es
outputs_count [] a b s = refl
outputs_count (Pair l r ∷ es) a b s = outputs_count es a b s.1
outputs_count (Part c ins outs own ∷ es) a b s =
    let e : length (s.0.output ++ outputs_of es a b s.1) ≡ length s.0.output + length (outputs_of es a b s.1) = length-append s.0.output (outputs_of es a b s.1) in
    let f : length s.0.output ≡ length c.outputs = output_count c _ s.0.output s.0.given in
    let g : length (outputs_of es a b s.1) ≡ outputs_in es = outputs_count es a b s.1 in
    omega (arith, e, f, g)

-- the bits from n on are these
abbrev BitsAre : ℕ → Bits → List Bool → Type 0
BitsAre n bits xs = (i : ℕ) → i < length xs → bits (n + i) ≡ get_or xs i false

get_front : (xs ys : List Bool) (i : ℕ) → i < length xs → get_or (xs ++ ys) i false ≡ get_or xs i false
get_front [] ys i h = absurd (omega arith)
get_front (x ∷ xs) ys zero h = refl
get_front (x ∷ xs) ys (suc i) h = get_front xs ys i (omega arith)

get_behind : (xs ys : List Bool) (i : ℕ) → get_or (xs ++ ys) (length xs + i) false ≡ get_or ys i false
get_behind [] ys i = ap (λ k. get_or ys k false) (omega arith)
get_behind (x ∷ xs) ys i = ap (λ k. get_or (x ∷ (xs ++ ys)) k false) (suc_plus (length xs) i) ∙ get_behind xs ys i
  where
    suc_plus : (n i : ℕ) → suc n + i ≡ suc (n + i)
    suc_plus n i = omega arith

bits_front : (n : ℕ) (bits : Bits) (xs ys : List Bool) → BitsAre n bits (xs ++ ys) → BitsAre n bits xs
bits_front n bits xs ys h i l =
    let e : length (xs ++ ys) ≡ length xs + length ys = length-append xs ys in
    h i (omega (arith, e, l)) ∙ get_front xs ys i l

bits_behind : (n : ℕ) (bits : Bits) (xs ys : List Bool) → BitsAre n bits (xs ++ ys) → BitsAre (n + length xs) bits ys
bits_behind n bits xs ys h i l =
    let e : length (xs ++ ys) ≡ length xs + length ys = length-append xs ys in
    ap bits (omega arith) ∙ h (length xs + i) (omega (arith, e, l)) ∙ get_behind xs ys i

bits_map : (n : ℕ) (bits : Bits) (xs : List Bool) → BitsAre n bits xs → map bits (numbers_from n (length xs)) ≡ xs
bits_map n bits [] h = refl
bits_map n bits (x ∷ xs) h =
    let here : bits n ≡ x = ap bits (omega arith) ∙ h 0 (omega arith) in
    ap (λ y. y ∷ map bits (numbers_from (suc n) (length xs))) here
    ∙ ap (λ ys. x ∷ ys) (bits_map (suc n) bits xs (λ i l. ap bits (omega arith) ∙ h (suc i) (omega arith)))

module _ (v : ℕ) (a : Bits) (b b' : Valuation) (agree : AgreeOn v b b') where
  pub pairs_hold : (n : ℕ) (es : List Item) → InScope v v es → (s : Sat es a b) → BitsAre n b'.bits (outputs_of es a b s) →
      AllEqual (expr_value a b'.bits) (choice b') (item_pairs n es) × Circuits n es b'.bits
  pairs_hold n [] scope s h = (tt, tt)
  pairs_hold n (Pair l r ∷ es) scope s h =
      let q = and_true _ _ scope in
      let e : tree_value a b' l ≡ tree_value a b' r = item_depends v v a a b b' (λ k l. refl) agree (Pair l r) q.0 s.0 in
      let rest = pairs_hold n es q.1 s.1 h in
      ((tree_coded a b' l ∙ ap coded e ∙ sym (tree_coded a b' r), rest.0), rest.1)
  pairs_hold n (Part c ins outs own ∷ es) scope s h =
      let q = and_true _ _ scope in
      let d = part_depends v v a a b b' (λ k l. refl) agree c ins outs own q.0 s.0 in
      let p : PartHolds a b' c ins outs own = d.0 in
      let number : length s.0.output ≡ length c.outputs = output_count c _ s.0.output s.0.given in
      let front : BitsAre n b'.bits s.0.output = bits_front n b'.bits s.0.output (outputs_of es a b s.1) h in
      let bits : map b'.bits (numbers_from n (length c.outputs)) ≡ s.0.output = ap (λ k. map b'.bits (numbers_from n k)) (sym number) ∙ bits_map n b'.bits s.0.output front in
      let behind : BitsAre (n + length c.outputs) b'.bits (outputs_of es a b s.1) =
      subst (λ k. BitsAre (n + k) b'.bits (outputs_of es a b s.1)) number (bits_behind n b'.bits s.0.output (outputs_of es a b s.1) h) in
      let rest = pairs_hold (n + length c.outputs) es q.1 s.1 behind in
      let all_bits : map b'.bits (numbers_from n (length c.outputs)) ≡ p.output = bits ∙ sym d.1 in (
        (value_word a b' ins own p.inputs, (value_word a b' outs (numbers_from n (length c.outputs)) (p.outputs ∙ ap Word (sym all_bits)), rest.0)),
        (subst (λ o. Outputs c (map b'.bits own) o) (sym all_bits) p.given, rest.1),
      )

-- ---- a solution as a row

module _ (w : World) (v : ℕ) (es : List Item) (scope : InScope v v es) (a : Bits) (b : Valuation) (m : Meets w es a b) where
  -- the assignment with the first constants alone
  abbrev a' : Bits
  a' = trimmed v a

  near : AgreeBelow v a a'
  near k l = sym (agree_first v a k l)

  sat : Sat es a' b
  sat = items_depend v v a a' b b near (agree_self v b) es scope m.sat

  abbrev outs : List Bool
  outs = outputs_of es a' b sat

  abbrev row_bits : List Bool
  row_bits = first_bits v b.bits ++ outs

  row_count : length row_bits ≡ v + outputs_in es
  row_count =
      let e : length row_bits ≡ length (first_bits v b.bits) + length outs = length-append (first_bits v b.bits) outs in
      let f : length (first_bits v b.bits) ≡ v = length-first 0 v b.bits in
      let g : length outs ≡ outputs_in es = outputs_count es a' b sat in
      omega (arith, e, f, g)

  -- the valuation with the bits of the row
  abbrev b' : Valuation
  b' = record { bits = bits_of row_bits; words = b.words; terms = b.terms }

  agree : AgreeOn v b b'
  agree = record {
    bits = λ k l. let f : length (first_bits v b.bits) ≡ v = length-first 0 v b.bits in sym (get_front (first_bits v b.bits) outs k (omega (arith, f, l)) ∙ agree_first v b.bits k l);
    words = λ n l. refl;
    terms = λ n l. refl;
  }

  outs_are : BitsAre v (bits_of row_bits) outs
  outs_are i l =
      let f : length (first_bits v b.bits) ≡ v = length-first 0 v b.bits in
      ap (λ k. get_or row_bits (k + i) false) (sym f) ∙ get_behind (first_bits v b.bits) outs i

  holds : AllEqual (expr_value a' (bits_of row_bits)) (choice b') (item_pairs v es) × Circuits v es (bits_of row_bits)
  holds = pairs_hold v a' b b' agree v es scope sat outs_are

  pub none_meets : NoneSolve w.arguments (item_pairs v es) → ⊥
  none_meets n = n (expr_value a' (bits_of row_bits)) (choice b') (choice_fits w b' m.sorted) holds.0

-- ---- all solutions, where the items' equations have most general parts

module _ (w : World) (v : ℕ) (es : List Item) (scope : InScope v v es) (s : Solved w.arguments (item_pairs v es)) where
  abbrev pub row_truths : List Bool → List Bool → Truths
  row_truths ra r = expr_value (bits_of ra) (bits_of r)

  -- the row of the constants allows this row of the variables
  abbrev pub Allows : List Bool → List Bool → Type 0
  Allows ra r = LeftEqual (row_truths ra r) s.left × Circuits v es (bits_of r)

  pub allows : (ra r : List Bool) → Decision (Allows ra r)
  allows ra r = both (each _ (λ p. same_bit _ _) s.left) (circuits_decided v es (bits_of r))

  abbrev pub row_valuation : List Bool → List Bool → Choice → Valuation
  row_valuation ra r c = valuation (bits_of r) (chosen (row_truths ra r) c s.parts)

  row_choice : (ra r : List Bool) (c : Choice) → AreFit w.arguments c → choice (row_valuation ra r c) ≡ chosen (row_truths ra r) c s.parts
  row_choice ra r c fit = valuation_choice w.arguments (bits_of r) (chosen (row_truths ra r) c s.parts) (s.fit (row_truths ra r) c fit)

  pub row_meets : (ra r : List Bool) (c : Choice) → Allows ra r → AreFit w.arguments c → Meets w es (bits_of ra) (row_valuation ra r c)
  row_meets ra r c ok fit = record {
    admitted = tt;
    sorted = valuation_sorted w (bits_of r) (chosen (row_truths ra r) c s.parts) (s.fit (row_truths ra r) c fit);
    sat = items_hold v es (bits_of ra) (row_valuation ra r c) (subst (λ x. AllEqual (row_truths ra r) x (item_pairs v es)) (sym (row_choice ra r c fit)) (s.solves (row_truths ra r) c ok.0)) ok.1;
  }

  -- the form of a tree in all solutions
  abbrev pub solved_form : Tree → Form
  solved_form x = filled s.parts (tree_form x)

  pub row_value : (ra r : List Bool) (c : Choice) → AreFit w.arguments c → (x : Tree) → coded (tree_value (bits_of ra) (row_valuation ra r c) x) ≡ value (row_truths ra r) c (solved_form x)
  row_value ra r c fit x =
      sym (tree_coded (bits_of ra) (row_valuation ra r c) x) ∙ ap (λ k. value (row_truths ra r) k (tree_form x)) (row_choice ra r c fit)
      ∙ sym (value_filled (row_truths ra r) c s.parts (tree_form x))

  -- a solution as a row, with values of the unknowns
  pub record RowOf (a : Bits) (b : Valuation) : Type 0 where
    pub row : List Bool
    pub number : length row ≡ v + outputs_in es
    pub allowed : LeftEqual (expr_value (bits_of (first_bits v a)) (bits_of row)) s.left × Circuits v es (bits_of row)
    pub unknowns : Choice
    pub fit : AreFit w.arguments unknowns
    pub values : (x : Tree) → tree_in_scope v v x ≡ true → coded (tree_value a b x) ≡ value (expr_value (bits_of (first_bits v a)) (bits_of row)) unknowns (filled s.parts (tree_form x))

  pub row_of : (a : Bits) (b : Valuation) → Meets w es a b → RowOf a b
  row_of a b m =
      let all = s.all (expr_value (a' w v es scope a b m) (bits_of (row_bits w v es scope a b m))) (choice (b' w v es scope a b m)) (choice_fits w (b' w v es scope a b m) m.sorted) (holds w v es scope a b m).0 in
      record {
        row = row_bits w v es scope a b m;
        number = row_count w v es scope a b m;
        allowed = (all.0, (holds w v es scope a b m).1);
        unknowns = choice (b' w v es scope a b m);
        fit = choice_fits w (b' w v es scope a b m) m.sorted;
        values = λ x h.
            ap coded (tree_depends v v a (a' w v es scope a b m) b (b' w v es scope a b m) (near w v es scope a b m) (agree w v es scope a b m) x h)
            ∙ sym (tree_coded (a' w v es scope a b m) (b' w v es scope a b m) x)
            ∙ sym (value_same (row_truths (first_bits v a) (row_bits w v es scope a b m)) (chosen (row_truths (first_bits v a) (row_bits w v es scope a b m)) (choice (b' w v es scope a b m)) s.parts) (choice (b' w v es scope a b m)) (tree_form x) all.1)
            ∙ sym (value_filled (row_truths (first_bits v a) (row_bits w v es scope a b m)) (choice (b' w v es scope a b m)) s.parts (tree_form x));
      }
