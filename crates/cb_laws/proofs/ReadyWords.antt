-- Whether a delay word holds is decided.
use Rattle.std.proofs.Common.{◌≡◌, inl, inr, ℕ, ◌+◌, Bool, true, false, ◌&&◌, List, [], ◌∷◌, length, refl, sym, ◌∙◌, ap, arith, rules, ℤ, pos}
use Rattle.std.specs.Prelude.{FitsSigned}
use Rattle.std.specs.Int.{w64}
use Rattle.std.proofs.lemmas.Bool.{cases_eq}
use Rattle.cb_model.specs.declared.When.{When}
use Rattle.cb_model.specs.declared.When.TheVariants as when
use Rattle.cb_model.specs.declared.Tree.{Tree}
use Rattle.cb_model.specs.Bits.{Bits, bits_of, first_bits}
use Rattle.cb_model.specs.Values.{Ground, Bit, Word, Int, Name, Sorts, World, Valuation, tree_value, tree_in_scope}
use Rattle.cb_model.specs.Equations.{Item, SolvedAt, Meets}
use Rattle.cb_model.specs.Derivation.{Outermost, ABit, Empty, NotEmpty, AnInt, ANode, outermost, WordHolds}
use Rattle.cb_laws.specs.Laws.{InScope}
use Rattle.cb_laws.proofs.Search.{Decision, both, equal_to, implied, every_row, same_bit, one_int}
use Rattle.cb_laws.proofs.Codes.{BusEnd, ArgumentsEnd, Number, Called, Unknown, ABus, ATerm, Code, Truth, Marked, Join, Form, Open, Formula, Fixed, Both, Truths, Choice, value, filled, sort_of, AreFit, CodeFits}
use Rattle.cb_laws.proofs.Coded.{coded, coded-inj, tree_form}
use Rattle.cb_laws.proofs.Unified.{Solved, plain, plain_fit, one_mark, first_of, second_of, truth_in, mark_in}
use Rattle.cb_laws.proofs.Solutions.{item_pairs, outputs_in, row_truths, Allows, allows, row_valuation, row_meets, row_value, RowOf, row_of}
use Rattle.cb_laws.proofs.Decided.{and_false, and_true, length-first}

-- ---- values

pub same_code : (c d : Code) → Decision (c ≡ d)
same_code (Truth x) (Truth y) = equal_to ((λ e. ap truth_in e), λ e. ap Truth e) (same_bit x y)
same_code (Truth x) (Marked m) = inr (λ e. cc)
same_code (Truth x) (Join c d) = inr (λ e. cc)
same_code (Marked m) (Truth y) = inr (λ e. cc)
same_code (Marked m) (Marked n) = equal_to ((λ e. ap mark_in e), λ e. ap Marked e) (one_mark m n)
same_code (Marked m) (Join c d) = inr (λ e. cc)
same_code (Join c d) (Truth y) = inr (λ e. cc)
same_code (Join c d) (Marked m) = inr (λ e. cc)
same_code (Join c d) (Join c' d') = equal_to ((λ e. (ap first_of e, ap second_of e)), λ e. ap (λ x. Join x d) e.0 ∙ ap (Join c') e.1) (both (same_code c c') (same_code d d'))

-- ---- forms with unknown parts have different values

abbrev pub other : Choice
other (ABus n) = Join (Truth true) (Marked BusEnd)
other (ATerm n) = Marked (Number (pos 1))

one_fits : FitsSigned w64 (pos 1)
one_fits = search rules

pub other_fit : (t : Sorts) → AreFit t other
other_fit t (ABus n) = tt
other_fit t (ATerm n) = one_fits

-- no unknown stands in the form
abbrev pub closed : Form → Bool
closed (Open x) = false
closed (Formula e) = true
closed (Fixed m) = true
closed (Both s u) = closed s && closed u

pub closed_value : (f : Truths) (c d : Choice) (x : Form) → closed x ≡ true → value f c x ≡ value f d x
closed_value f c d (Open x) h = absurd (cc)
closed_value f c d (Formula e) h = refl
closed_value f c d (Fixed m) h = refl
closed_value f c d (Both s u) h =
    let q = and_true _ _ h in
    ap (λ k. Join k (value f c u)) (closed_value f c d s q.0) ∙ ap (Join (value f d s)) (closed_value f c d u q.1)

pub open_differs : (t : Sorts) (f : Truths) (x : Form) → closed x ≡ false → value f (plain t) x ≡ value f other x → ⊥
open_differs t f (Open (ABus n)) h e = absurd (cc)
open_differs t f (Open (ATerm n)) h e = differ (ap number_of e)
  where
    number_of : Code → ℤ
    number_of (Marked (Number z)) = z
    number_of c = pos 0

    zero_one : pos 0 ≡ pos 1 → ⊥
    zero_one e = elim (one_int (pos 0) (pos 1)) [ inl k ↦ absurd (bad (ap size k)) | inr n ↦ n e ]
      where
        size : ℤ → ℕ
        size (pos n) = n
        size z = 0

        bad : ◌≡◌ {A = ℕ} 0 1 → ⊥
        bad e = absurd (omega arith)

    differ : pos 0 ≡ pos 1 → ⊥
    differ e = zero_one e
open_differs t f (Formula e) h k = absurd (cc)
open_differs t f (Fixed m) h k = absurd (cc)
open_differs t f (Both s u) h e = elim (and_false _ _ h) [
  | inl q ↦ open_differs t f s q (ap first_of e)
  | inr q ↦ open_differs t f u q (ap second_of e)
]

-- two forms have one value whatever the unknowns are
abbrev pub OneValue : Sorts → Truths → Truths → Form → Form → Type 0
OneValue t f g x y = (c d : Choice) → AreFit t c → AreFit t d → value f c x ≡ value g d y

pub one_value : (t : Sorts) (f g : Truths) (x y : Form) → Decision (OneValue t f g x y)
one_value t f g x y = step (closed x) refl (closed y) refl
  where
    step : (p : Bool) → closed x ≡ p → (q : Bool) → closed y ≡ q → Decision (OneValue t f g x y)
    step false e q k = inr (λ h. open_differs t f x e (h (plain t) (plain t) (plain_fit t) (plain_fit t) ∙ sym (h other (plain t) (other_fit t) (plain_fit t))))
    step true e false k = inr (λ h. open_differs t g y k (sym (h (plain t) (plain t) (plain_fit t) (plain_fit t)) ∙ h (plain t) other (plain_fit t) (other_fit t)))
    step true e true k = equal_to (
      (λ h. h (plain t) (plain t) (plain_fit t) (plain_fit t)),
      λ h c d fc fd. closed_value f c (plain t) x e ∙ h ∙ closed_value g (plain t) d y k,
    ) (same_code (value f (plain t) x) (value g (plain t) y))

-- a form has this value whatever the unknowns are
pub always : (t : Sorts) (f : Truths) (x : Form) (k : Code) → Decision ((c : Choice) → AreFit t c → value f c x ≡ k)
always t f x k = step (closed x) refl
  where
    step : (p : Bool) → closed x ≡ p → Decision ((c : Choice) → AreFit t c → value f c x ≡ k)
    step false e = inr (λ h. open_differs t f x e (h (plain t) (plain_fit t) ∙ sym (h other (other_fit t))))
    step true e = equal_to ((λ h. h (plain t) (plain_fit t)), λ h c fc. closed_value f c (plain t) x e ∙ h) (same_code (value f (plain t) x) k)

-- ---- outermost forms

abbrev pub outer : Code → Outermost
outer (Truth x) = ABit
outer (Marked (Number z)) = AnInt z
outer (Marked m) = Empty
outer (Join (Marked (Called n)) d) = ANode n
outer (Join c d) = NotEmpty

pub outer_coded : (g : Ground) → outer (coded g) ≡ outermost g
outer_coded (Bit x) = refl
outer_coded (Word []) = refl
outer_coded (Word (x ∷ xs)) = refl
outer_coded (Int z) = refl
outer_coded (Name n gs) = refl

int_in : Outermost → ℤ
int_in (AnInt z) = z
int_in o = pos 0

name_in : Outermost → ℕ
name_in (ANode n) = n
name_in o = 0

one_form : (o p : Outermost) → Decision (o ≡ p)
unfolding int_in name_in
one_form ABit ABit = inl refl
one_form ABit Empty = inr (λ e. cc)
one_form ABit NotEmpty = inr (λ e. cc)
one_form ABit (AnInt z) = inr (λ e. cc)
one_form ABit (ANode n) = inr (λ e. cc)
one_form Empty ABit = inr (λ e. cc)
one_form Empty Empty = inl refl
one_form Empty NotEmpty = inr (λ e. cc)
one_form Empty (AnInt z) = inr (λ e. cc)
one_form Empty (ANode n) = inr (λ e. cc)
one_form NotEmpty ABit = inr (λ e. cc)
one_form NotEmpty Empty = inr (λ e. cc)
one_form NotEmpty NotEmpty = inl refl
one_form NotEmpty (AnInt z) = inr (λ e. cc)
one_form NotEmpty (ANode n) = inr (λ e. cc)
one_form (AnInt i) ABit = inr (λ e. cc)
one_form (AnInt i) Empty = inr (λ e. cc)
one_form (AnInt i) NotEmpty = inr (λ e. cc)
one_form (AnInt i) (AnInt z) = elim (one_int i z) [ inl e ↦ inl (ap AnInt e) | inr n ↦ inr (λ e. n (ap int_in e)) ]
one_form (AnInt i) (ANode n) = inr (λ e. cc)
one_form (ANode k) ABit = inr (λ e. cc)
one_form (ANode k) Empty = inr (λ e. cc)
one_form (ANode k) NotEmpty = inr (λ e. cc)
one_form (ANode k) (AnInt z) = inr (λ e. cc)
one_form (ANode k) (ANode n) = elim (cases_eq k n) [ inl e ↦ inl (ap ANode e) | inr m ↦ inr (λ e. m (ap name_in e)) ]

-- whether an unknown is the whole form
abbrev pub unknown_form : Form → Bool
unknown_form (Open x) = true
unknown_form x = false

-- the value of an unknown is no name alone
fit_no_name : (t : Sorts) (x : Unknown) (c d : Code) → CodeFits t (sort_of x) c → outer (Join c d) ≡ NotEmpty
fit_no_name t x (Truth y) d h = refl
fit_no_name t x (Marked (Number z)) d h = refl
fit_no_name t x (Marked BusEnd) d h = refl
fit_no_name t x (Marked ArgumentsEnd) d h = refl
fit_no_name t (ABus n) (Marked (Called k)) d h = absurd h
fit_no_name t (ATerm n) (Marked (Called k)) d h = absurd h
fit_no_name t x (Join c e) d h = refl

pub outer_same : (t : Sorts) (f g : Truths) (c d : Choice) → AreFit t c → AreFit t d → (x : Form) → unknown_form x ≡ false → outer (value f c x) ≡ outer (value g d x)
outer_same t f g c d fc fd (Open x) h = absurd (cc)
outer_same t f g c d fc fd (Formula e) h = refl
outer_same t f g c d fc fd (Fixed m) h = refl
outer_same t f g c d fc fd (Both (Open x) u) h = fit_no_name t x (c x) (value f c u) (fc x) ∙ sym (fit_no_name t x (d x) (value g d u) (fd x))
outer_same t f g c d fc fd (Both (Formula e) u) h = refl
outer_same t f g c d fc fd (Both (Fixed (Number z)) u) h = refl
outer_same t f g c d fc fd (Both (Fixed BusEnd) u) h = refl
outer_same t f g c d fc fd (Both (Fixed ArgumentsEnd) u) h = refl
outer_same t f g c d fc fd (Both (Fixed (Called n)) u) h = refl
outer_same t f g c d fc fd (Both (Both s v) u) h = refl

pub outer_differs : (t : Sorts) (x : Unknown) → outer (plain t x) ≡ outer (other x) → ⊥
unfolding int_in
outer_differs t (ABus n) e = absurd (cc)
outer_differs t (ATerm n) e = never_one (ap int_in e)
  where
    size : ℤ → ℕ
    size (pos n) = n
    size z = 0

    never : ◌≡◌ {A = ℕ} 0 1 → ⊥
    never e = absurd (omega arith)

    never_one : pos 0 ≡ pos 1 → ⊥
    never_one e = never (ap size e)

settled : (t : Sorts) (f : Truths) (x : Form) (o : Outermost) → unknown_form x ≡ false → Decision ((c : Choice) → AreFit t c → outer (value f c x) ≡ o)
settled t f x o h = equal_to ((λ k. k (plain t) (plain_fit t)), λ k c fc. outer_same t f f c (plain t) fc (plain_fit t) x h ∙ k) (one_form (outer (value f (plain t) x)) o)

pub always_form : (t : Sorts) (f : Truths) (x : Form) (o : Outermost) → Decision ((c : Choice) → AreFit t c → outer (value f c x) ≡ o)
always_form t f (Open x) o = inr (λ h. outer_differs t x (h (plain t) (plain_fit t) ∙ sym (h other (other_fit t))))
always_form t f (Formula e) o = settled t f (Formula e) o refl
always_form t f (Fixed m) o = settled t f (Fixed m) o refl
always_form t f (Both s u) o = settled t f (Both s u) o refl

-- ---- the words

module _ (w : World) (v : ℕ) (es : List Item) (scope : InScope v v es) (s : Solved w.arguments (item_pairs v es)) (x : Tree) (x_scope : tree_in_scope v v x ≡ true)
    (first : SolvedAt w es (λ k. false)) where
  abbrev rows : ℕ
  rows = v + outputs_in es

  abbrev truths : List Bool → List Bool → Truths
  truths ra r = row_truths w v es scope s ra r

  abbrev allowed : List Bool → List Bool → Type 0
  allowed ra r = Allows w v es scope s ra r

  abbrev form : Form
  form = filled s.parts (tree_form x)

  -- the property at each row of the constants and each row of the variables that it allows
  abbrev EachRow : (List Bool → List Bool → Type 0) → Type 0
  EachRow P = (ra : List Bool) → length ra ≡ v → (r : List Bool) → length r ≡ rows → allowed ra r → P ra r

  each_row : (P : List Bool → List Bool → Type 0) → ((ra r : List Bool) → Decision (P ra r)) → Decision (EachRow P)
  each_row P d = every_row v (λ ra. (r : List Bool) → length r ≡ rows → allowed ra r → P ra r) (λ ra. every_row rows (λ r. allowed ra r → P ra r) (λ r. implied (allows w v es scope s ra r) (d ra r)))

  value_is : (ra r : List Bool) (c : Choice) → AreFit w.arguments c → coded (tree_value (bits_of ra) (row_valuation w v es scope s ra r c) x) ≡ value (truths ra r) c form
  value_is ra r c fit = row_value w v es scope s ra r c fit x

  meets : (ra r : List Bool) (c : Choice) → allowed ra r → AreFit w.arguments c → Meets w es (bits_of ra) (row_valuation w v es scope s ra r c)
  meets = row_meets w v es scope s

  row : (a : Bits) (b : Valuation) → Meets w es a b → RowOf w v es scope s a b
  row = row_of w v es scope s

  -- known
  abbrev RowsKnown : Type 0
  RowsKnown = EachRow (λ ra r. (r' : List Bool) → length r' ≡ rows → allowed ra r' → OneValue w.arguments (truths ra r) (truths ra r') form form)

  known : Decision (WordHolds w es when.Known x)
  known = equal_to (
    (λ h ra e r k ok r' k' ok' c d fc fd.
        sym (value_is ra r c fc) ∙ ap coded (h (bits_of ra) (row_valuation w v es scope s ra r c) (row_valuation w v es scope s ra r' d) (meets ra r c ok fc) (meets ra r' d ok' fd)) ∙ value_is ra r' d fd),
    λ h a b b' m m'.
        let p = row a b m in
        let q = row a b' m' in
        coded-inj (tree_value a b x) (tree_value a b' x)
        (p.values x x_scope ∙ h (first_bits v a) (length-first 0 v a) p.row p.number p.allowed q.row q.number q.allowed p.unknowns q.unknowns p.fit q.fit ∙ sym (q.values x x_scope)),
  ) (each_row (λ ra r. (r' : List Bool) → length r' ≡ rows → allowed ra r' → OneValue w.arguments (truths ra r) (truths ra r') form form)
      (λ ra r. every_row rows (λ r'. allowed ra r' → OneValue w.arguments (truths ra r) (truths ra r') form form) (λ r'. implied (allows w v es scope s ra r') (one_value w.arguments (truths ra r) (truths ra r') form form))))

  -- one solution
  abbrev start : RowOf w v es scope s (λ k. false) first.b
  start = row (λ k. false) first.b (record { admitted = tt; sorted = first.sorted; sat = first.sat })

  abbrev start_bits : List Bool
  start_bits = first_bits v (λ k. false)

  abbrev start_truths : Truths
  start_truths = truths start_bits start.row

  abbrev start_valuation : Valuation
  start_valuation = row_valuation w v es scope s start_bits start.row (plain w.arguments)

  abbrev start_value : Code
  start_value = value start_truths (plain w.arguments) form

  start_meets : Meets w es (bits_of start_bits) start_valuation
  start_meets = meets start_bits start.row (plain w.arguments) start.allowed (plain_fit w.arguments)

  -- fixed
  fixed : Decision (WordHolds w es when.Fixed x)
  fixed = equal_to (
    (λ h ra e r k ok c fc.
        sym (value_is ra r c fc) ∙ ap coded (h.1 (bits_of ra) (row_valuation w v es scope s ra r c) (meets ra r c ok fc) ∙ sym (h.1 (bits_of start_bits) start_valuation start_meets))
        ∙ value_is start_bits start.row (plain w.arguments) (plain_fit w.arguments)),
    λ h. (
      tree_value (bits_of start_bits) start_valuation x,
      λ a b m.
          let p = row a b m in
          coded-inj (tree_value a b x) (tree_value (bits_of start_bits) start_valuation x)
          (p.values x x_scope ∙ h (first_bits v a) (length-first 0 v a) p.row p.number p.allowed p.unknowns p.fit ∙ sym (value_is start_bits start.row (plain w.arguments) (plain_fit w.arguments))),
    ),
  ) (each_row (λ ra r. (c : Choice) → AreFit w.arguments c → value (truths ra r) c form ≡ start_value) (λ ra r. always w.arguments (truths ra r) form start_value))

  -- no variable
  form_at : (a : Bits) (b : Valuation) (f : Truths) (c : Choice) → coded (tree_value a b x) ≡ value f c form → outermost (tree_value a b x) ≡ outer (value f c form)
  form_at a b f c e = sym (outer_coded (tree_value a b x)) ∙ ap outer e

  formed : Decision (WordHolds w es when.Nonvar x)
  formed = equal_to (
    (λ h ra e r k ok c fc.
        sym (form_at (bits_of ra) (row_valuation w v es scope s ra r c) (truths ra r) c (value_is ra r c fc))
        ∙ h.1 (bits_of ra) (row_valuation w v es scope s ra r c) (meets ra r c ok fc) ∙ sym (h.1 (bits_of start_bits) start_valuation start_meets)
        ∙ form_at (bits_of start_bits) start_valuation start_truths (plain w.arguments) (value_is start_bits start.row (plain w.arguments) (plain_fit w.arguments))),
    λ h. (
      outer start_value,
      λ a b m.
          let p = row a b m in
          form_at a b (truths (first_bits v a) p.row) p.unknowns (p.values x x_scope) ∙ h (first_bits v a) (length-first 0 v a) p.row p.number p.allowed p.unknowns p.fit,
    ),
  ) (each_row (λ ra r. (c : Choice) → AreFit w.arguments c → outer (value (truths ra r) c form) ≡ outer start_value) (λ ra r. always_form w.arguments (truths ra r) form (outer start_value)))

  pub word_holds : (d : When) → Decision (WordHolds w es d x)
  word_holds when.Any = inl tt
  word_holds when.Known = known
  word_holds when.Fixed = fixed
  word_holds when.Nonvar = formed
