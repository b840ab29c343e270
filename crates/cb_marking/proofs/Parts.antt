-- Written terms and the sorts of their arguments.
use Rattle.std.proofs.Common.{◌≡◌, ℕ, zero, suc, ◌+◌, ◌*◌, ◌<◌, ◌≤◌, Bool, true, false, ◌&&◌, ◌==◌, eqb, codes, bytes_eq, List, [], ◌∷◌, ◌++◌, map, length, drop, get_or, slice_get, Option, Some, None, refl, sym, ◌∙◌, ap, arith, Bor}
use Rattle.std.specs.Prelude.{unwrap_or}
use Rattle.std.specs.Option.{option_map}
use Rattle.std.specs.Bool.{if◌then◌else◌}
use Rattle.std.specs.List.{list_any}
use Rattle.std.proofs.lemmas.List.{drop_more}
use Rattle.std.proofs.lemmas.Bool.{and_parts, false≢true, eqb-true}
use Rattle.cb_model.specs.Text.{Text}
use Rattle.cb_model.specs.declared.Sort.{Sort}
use Rattle.cb_model.specs.declared.Sort.TheVariants as sort
use Rattle.cb_model.specs.declared.RawTerm.{RawTerm}
use Rattle.cb_model.specs.declared.RawTerm.TheVariants as raw
use Rattle.cb_model.specs.declared.RawTerm.TheOpen.{RawTerm-F}
use Rattle.cb_model.specs.declared.RawTerm.TheFolds.{fold-RawTerm, fold-roll-RawTerm}
use Rattle.cb_model.specs.Grammar.{Form, Forms, Name, Closed, Open, Not, And, Xor, Or, Last}
use Rattle.cb_model.specs.Forms.{form_of, forms_of, form_step}
use Rattle.cb_model.specs.Written.{is_written, are_written, parts_of, parts_in, has_one, has_two}
use Rattle.cb_model.specs.Directives.{Sign, same_sign, count_of, looked_up, Declared, nothing, sorts_of}
use Rattle.cb_model.specs.Sorts.{Place, form_sort, below, operand_places, argument_places, call_places, circuit_sign}
use Rattle.cb_marking.specs.Places.{sorts_given}

pub form_name : (x : Bor (List ℕ)) (xs : List RawTerm) → form_of (raw.Name x xs) ≡ Name x.now (forms_of (map form_of xs))
form_name x xs = ap (fold-RawTerm Form form_step) (sym (raw.rolls-Name x xs)) ∙ fold-roll-RawTerm Form form_step (RawTerm-F.Name x xs)

pub form_open : (xs : List RawTerm) (y : RawTerm) → form_of (raw.List xs (Some y)) ≡ Open (forms_of (map form_of xs)) (form_of y)
form_open xs y = ap (fold-RawTerm Form form_step) (sym (raw.rolls-List xs (Some y))) ∙ fold-roll-RawTerm Form form_step (RawTerm-F.List xs (Some y))

pub count_forms : (ts : List RawTerm) → count_of (forms_of (map form_of ts)) ≡ length ts
count_forms [] = refl
count_forms (t ∷ ts) = ap suc (count_forms ts)

-- a compound is of sort `term`
compound_form : (constants : List Text) (x : Bor (List ℕ)) (args : List RawTerm) → (args ≡ [] → ⊥) → form_sort constants (Name x.now (forms_of (map form_of args))) ≡ Some sort.Term
compound_form constants x [] n = absurd (n refl)
compound_form constants x (t ∷ ts) n = refl

pub compound_sort : (constants : List Text) (x : Bor (List ℕ)) (args : List RawTerm) (term : RawTerm) → term ≡ raw.Name x args → (args ≡ [] → ⊥) → Some sort.Term ≡ form_sort constants (form_of term)
compound_sort constants x args term e n = sym (ap (λ t. form_sort constants (form_of t)) e ∙ ap (form_sort constants) (form_name x args) ∙ compound_form constants x args n)

-- ---- sorts of arguments

pub plain_at : (n i : ℕ) → get_or (sorts_of nothing ([], n)) i sort.Term ≡ sort.Term
plain_at zero i = refl
plain_at (suc n) zero = refl
plain_at (suc n) (suc i) = plain_at n i

pub given_none : (o : Option (Bor (List Sort))) (i : ℕ) → o ≡ None → (n : ℕ) → sort.Term ≡ get_or (sorts_given o n) i sort.Term
given_none o i e n = sym (ap (λ (p : Option (Bor (List Sort))). get_or (sorts_given p n) i sort.Term) e ∙ plain_at n i)

past : (ss : List Sort) (i : ℕ) → None ≡ slice_get ss i → sort.Term ≡ get_or ss i sort.Term
past [] i h = refl
past (s ∷ ss) zero h = absurd (cc)
past (s ∷ ss) (suc i) h = past ss i h

pub given_past : (o : Option (Bor (List Sort))) (s : Bor (List Sort)) (i : ℕ) → o ≡ Some s → None ≡ slice_get s.now i → (n : ℕ) → sort.Term ≡ get_or (sorts_given o n) i sort.Term
given_past o s i e h n = past s.now i h ∙ sym (ap (λ (p : Option (Bor (List Sort))). get_or (sorts_given p n) i sort.Term) e)

pub given_sorts : (d : Declared) (x : Text) (n : ℕ) (o : Option (Bor (List Sort))) → option_map (λ s. s.now) o ≡ looked_up d.sorts (x, n) → sorts_given o n ≡ sorts_of d (x, n)
given_sorts d x n None e = ap (λ (r : Option (List Sort)). unwrap_or r (sorts_of nothing (x, n))) e
given_sorts d x n (Some s) e = ap (λ (r : Option (List Sort)). unwrap_or r (sorts_of nothing (x, n))) e

-- ---- places of a term's parts

pub inside_name : (d : Declared) (x : Bor (List ℕ)) (args slice : List RawTerm) (o : Option (Bor (List Sort))) (n : ℕ) (term : RawTerm) → term ≡ raw.Name x args → slice ≡ args → n ≡ length args → option_map (λ s. s.now) o ≡ looked_up d.sorts (x.now, n) →
    argument_places d (sorts_given o (length slice)) (forms_of (map form_of slice)) ≡ below d (form_of term)
inside_name d x args slice o n term e f k l =
    let fs : Forms = forms_of (map form_of args) in
    let count : n ≡ count_of fs = k ∙ sym (count_forms args) in
    let same : length slice ≡ n = ap length f ∙ sym k in
    ap (λ (ts : List RawTerm). argument_places d (sorts_given o (length slice)) (forms_of (map form_of ts))) f
    ∙ ap (λ m. argument_places d (sorts_given o m) fs) same
    ∙ ap (λ (ss : List Sort). argument_places d ss fs) (given_sorts d x.now n o l)
    ∙ ap (λ m. argument_places d (sorts_of d (x.now, m)) fs) count
    ∙ sym (ap (λ t. below d (form_of t)) e ∙ ap (below d) (form_name x args))

pub counted_name : (d : Declared) (x : Bor (List ℕ)) (args slice : List RawTerm) (o : Option (Bor (List Sort))) (n : ℕ) → slice ≡ args → n ≡ length args → option_map (λ s. s.now) o ≡ looked_up d.sorts (x.now, n) → ((a : Sign) → length (sorts_of d a) ≡ a.1) →
    length (sorts_given o (length slice)) ≡ length slice
counted_name d x args slice o n f k l h =
    let same : length slice ≡ n = ap length f ∙ sym k in
    ap (λ m. length (sorts_given o m)) same ∙ ap length (given_sorts d x.now n o l) ∙ h (x.now, n) ∙ sym same

pub written_at : (ts : List RawTerm) (i : ℕ) (t : RawTerm) → are_written (forms_of (map form_of ts)) ≡ true → i < length ts → t ≡ get_or ts i t → is_written (form_of t) ≡ true
written_at [] i t h l e = absurd (omega arith)
written_at (s ∷ ts) zero t h l e = ap (λ u. is_written (form_of u)) e ∙ (and_parts (is_written (form_of s)) (are_written (forms_of (map form_of ts))) h).0
written_at (s ∷ ts) (suc i) t h l e = written_at ts i t (and_parts (is_written (form_of s)) (are_written (forms_of (map form_of ts))) h).1 (omega arith) e

-- the places of a term at a sort
abbrev pub term_places : Declared → Sort → RawTerm → List Place
term_places d s t = (s, form_of t) ∷ below d (form_of t)

abbrev pub operands_from : Declared → List RawTerm → ℕ → List Place
operands_from d ts i = operand_places d (forms_of (map form_of (drop i ts)))

abbrev pub arguments_from : Declared → List Sort → List RawTerm → ℕ → List Place
arguments_from d ss ts i = argument_places d (drop i ss) (forms_of (map form_of (drop i ts)))

pub operands_at : (d : Declared) (ts : List RawTerm) (i : ℕ) (t : RawTerm) → i < length ts → t ≡ get_or ts i t → operands_from d ts i ≡ term_places d sort.Bool t ++ operands_from d ts (i + 1)
operands_at d ts i t l e =
    ap (λ (us : List RawTerm). operand_places d (forms_of (map form_of us))) (drop_more ts i t l ∙ ap (λ (u : RawTerm). u ∷ drop (i + 1) ts) (sym e))

pub arguments_at : (d : Declared) (ss : List Sort) (ts : List RawTerm) (i : ℕ) (t : RawTerm) (s : Sort) → length ss ≡ length ts → s ≡ get_or ss i sort.Term → i < length ts → t ≡ get_or ts i t →
    arguments_from d ss ts i ≡ term_places d s t ++ arguments_from d ss ts (i + 1)
arguments_at d ss ts i t s n k l e =
    let a : drop i ss ≡ s ∷ drop (i + 1) ss = drop_more ss i sort.Term (omega (arith, n)) ∙ ap (λ (u : Sort). u ∷ drop (i + 1) ss) (sym k) in
    let b : drop i ts ≡ t ∷ drop (i + 1) ts = drop_more ts i t l ∙ ap (λ (u : RawTerm). u ∷ drop (i + 1) ts) (sym e) in
    λ j. argument_places d (a j) (forms_of (map form_of (b j)))

pub operands_end : (d : Declared) (ts : List RawTerm) (i : ℕ) → drop i ts ≡ [] → operands_from d ts i ≡ []
operands_end d ts i e = ap (λ (us : List RawTerm). operand_places d (forms_of (map form_of us))) e

pub arguments_end : (d : Declared) (ss : List Sort) (ts : List RawTerm) (i : ℕ) → drop i ts ≡ [] → arguments_from d ss ts i ≡ []
arguments_end d ss ts i e = ap (λ (us : List RawTerm). argument_places d (drop i ss) (forms_of (map form_of us))) e ∙ none (drop i ss)
  where
    none : (ss : List Sort) → argument_places d ss Last ≡ []
    none [] = refl
    none (s ∷ ss) = refl

pub inside_open : (d : Declared) (xs slice : List RawTerm) (o : Option RawTerm) (y z term : RawTerm) → term ≡ raw.List xs o → o ≡ Some y → slice ≡ xs → z ≡ y →
    below d (form_of term) ≡ operand_places d (forms_of (map form_of slice)) ++ term_places d sort.Bus z
inside_open d xs slice o y z term e f k l =
    ap (λ (t : RawTerm). below d (form_of t)) (e ∙ ap (λ (p : Option RawTerm). raw.List xs p) f) ∙ ap (below d) (form_open xs y)
    ∙ sym (λ j. operand_places d (forms_of (map form_of (k j))) ++ term_places d sort.Bus (l j))

-- ---- atoms

pub some_args : (slice args : List RawTerm) → slice ≡ args → false ≡ (length slice == 0) → args ≡ [] → ⊥
some_args slice args e h n = false≢true (h ∙ ap (λ (l : List RawTerm). length l == 0) (e ∙ n))

no_args : (args : List RawTerm) → true ≡ (length args == 0) → args ≡ []
no_args [] h = refl
no_args (t ∷ ts) h = absurd (let e : length (t ∷ ts) ≡ 0 = eqb-true (length (t ∷ ts)) 0 (sym h) in omega arith)

pub atom_sort : (constants : List Text) (x : Bor (List ℕ)) (args slice : List RawTerm) (term : RawTerm) → term ≡ raw.Name x args → slice ≡ args → true ≡ (length slice == 0) → true ≡ list_any (bytes_eq x.now) constants →
    Some sort.Bool ≡ form_sort constants (form_of term)
atom_sort constants x args slice term e f h c =
    let none : args ≡ [] = no_args args (h ∙ ap (λ (l : List RawTerm). length l == 0) f) in
    sym (ap (λ t. form_sort constants (form_of t)) e ∙ ap (form_sort constants) (form_name x args) ∙ ap (λ (l : List RawTerm). form_sort constants (Name x.now (forms_of (map form_of l)))) none
    ∙ ap (λ (b : Bool). Some (if b then sort.Bool else sort.Term)) (sym c))

-- ---- how large a term is

abbrev pub weight : RawTerm → ℕ
weight t = parts_of (form_of t)

abbrev pub weights : List RawTerm → ℕ
weights ts = parts_in (forms_of (map form_of ts))

pub weight_at : (ts : List RawTerm) (i : ℕ) (t : RawTerm) → i < length ts → t ≡ get_or ts i t → weight t ≤ weights ts
weight_at [] i t l e = absurd (omega arith)
weight_at (s ∷ ts) zero t l e = let w : weight t ≡ weight s = ap weight e in omega (arith, w)
weight_at (s ∷ ts) (suc i) t l e = let w : weight t ≤ weights ts = weight_at ts i t (omega arith) e in omega (arith, w)

form_closed : (xs : List RawTerm) → form_of (raw.List xs None) ≡ Closed (forms_of (map form_of xs))
form_closed xs = ap (fold-RawTerm Form form_step) (sym (raw.rolls-List xs None)) ∙ fold-roll-RawTerm Form form_step (RawTerm-F.List xs None)

form_not : (x : RawTerm) → form_of (raw.Not x) ≡ Not (form_of x)
form_not x = ap (fold-RawTerm Form form_step) (sym (raw.rolls-Not x)) ∙ fold-roll-RawTerm Form form_step (RawTerm-F.Not x)

form_and : (xs : List RawTerm) → form_of (raw.And xs) ≡ And (forms_of (map form_of xs))
form_and xs = ap (fold-RawTerm Form form_step) (sym (raw.rolls-And xs)) ∙ fold-roll-RawTerm Form form_step (RawTerm-F.And xs)

form_xor : (xs : List RawTerm) → form_of (raw.Xor xs) ≡ Xor (forms_of (map form_of xs))
form_xor xs = ap (fold-RawTerm Form form_step) (sym (raw.rolls-Xor xs)) ∙ fold-roll-RawTerm Form form_step (RawTerm-F.Xor xs)

form_or : (xs : List RawTerm) → form_of (raw.Or xs) ≡ Or (forms_of (map form_of xs))
form_or xs = ap (fold-RawTerm Form form_step) (sym (raw.rolls-Or xs)) ∙ fold-roll-RawTerm Form form_step (RawTerm-F.Or xs)

-- the parts of a term, smaller and written
module _ (term : RawTerm) (h : is_written (form_of term) ≡ true) where
  abbrev Smaller : List RawTerm → Type 0
  Smaller slice = (3 * weights slice + 2 < 3 * weight term) × (are_written (forms_of (map form_of slice)) ≡ true)

  abbrev Less : RawTerm → Type 0
  Less t = (3 * weight t + 1 < 3 * weight term) × (is_written (form_of t) ≡ true)

  parts : (f : Form) (slice : List RawTerm) → form_of term ≡ f → parts_of f ≡ suc (weights slice) → (is_written f ≡ true → are_written (forms_of (map form_of slice)) ≡ true) → Smaller slice
  parts f slice e k w = let m : weight term ≡ suc (weights slice) = ap parts_of e ∙ k in (omega (arith, m), w (ap is_written (sym e) ∙ h))

  pub smaller_name : (x : Bor (List ℕ)) (args slice : List RawTerm) → term ≡ raw.Name x args → slice ≡ args → Smaller slice
  smaller_name x args slice e f = parts (Name x.now (forms_of (map form_of args))) slice (ap form_of e ∙ form_name x args) (ap (λ (ts : List RawTerm). suc (weights ts)) (sym f)) (λ w. ap (λ (ts : List RawTerm). are_written (forms_of (map form_of ts))) f ∙ w)

  pub smaller_and : (xs slice : List RawTerm) → term ≡ raw.And xs → slice ≡ xs → Smaller slice
  smaller_and xs slice e f =
      parts (And (forms_of (map form_of xs))) slice (ap form_of e ∙ form_and xs) (ap (λ (ts : List RawTerm). suc (weights ts)) (sym f))
      (λ w. ap (λ (ts : List RawTerm). are_written (forms_of (map form_of ts))) f ∙ (and_parts (has_two (forms_of (map form_of xs))) (are_written (forms_of (map form_of xs))) w).1)

  pub smaller_xor : (xs slice : List RawTerm) → term ≡ raw.Xor xs → slice ≡ xs → Smaller slice
  smaller_xor xs slice e f =
      parts (Xor (forms_of (map form_of xs))) slice (ap form_of e ∙ form_xor xs) (ap (λ (ts : List RawTerm). suc (weights ts)) (sym f))
      (λ w. ap (λ (ts : List RawTerm). are_written (forms_of (map form_of ts))) f ∙ (and_parts (has_two (forms_of (map form_of xs))) (are_written (forms_of (map form_of xs))) w).1)

  pub smaller_or : (xs slice : List RawTerm) → term ≡ raw.Or xs → slice ≡ xs → Smaller slice
  smaller_or xs slice e f =
      parts (Or (forms_of (map form_of xs))) slice (ap form_of e ∙ form_or xs) (ap (λ (ts : List RawTerm). suc (weights ts)) (sym f))
      (λ w. ap (λ (ts : List RawTerm). are_written (forms_of (map form_of ts))) f ∙ (and_parts (has_two (forms_of (map form_of xs))) (are_written (forms_of (map form_of xs))) w).1)

  pub smaller_list : (xs slice : List RawTerm) (o : Option RawTerm) → term ≡ raw.List xs o → slice ≡ xs → Smaller slice
  smaller_list xs slice None e f =
      parts (Closed (forms_of (map form_of xs))) slice (ap form_of e ∙ form_closed xs) (ap (λ (ts : List RawTerm). suc (weights ts)) (sym f)) (λ w. ap (λ (ts : List RawTerm). are_written (forms_of (map form_of ts))) f ∙ w)
  smaller_list xs slice (Some y) e f =
      let g : form_of term ≡ Open (forms_of (map form_of xs)) (form_of y) = ap form_of e ∙ form_open xs y in
      let m : weight term ≡ suc (weights xs + weight y) = ap parts_of g in
      let same : weights slice ≡ weights xs = ap weights f in
      let w = and_parts (has_one (forms_of (map form_of xs))) (are_written (forms_of (map form_of xs)) && is_written (form_of y)) (ap is_written (sym g) ∙ h) in
      (omega (arith, m, same), ap (λ (ts : List RawTerm). are_written (forms_of (map form_of ts))) f ∙ (and_parts (are_written (forms_of (map form_of xs))) (is_written (form_of y)) w.1).0)

  pub less_tail : (xs : List RawTerm) (o : Option RawTerm) (y z : RawTerm) → term ≡ raw.List xs o → o ≡ Some y → z ≡ y → Less z
  less_tail xs o y z e f k =
      let g : form_of term ≡ Open (forms_of (map form_of xs)) (form_of y) = ap form_of (e ∙ ap (raw.List xs) f) ∙ form_open xs y in
      let m : weight term ≡ suc (weights xs + weight y) = ap parts_of g in
      let same : weight z ≡ weight y = ap weight k in
      let w = and_parts (has_one (forms_of (map form_of xs))) (are_written (forms_of (map form_of xs)) && is_written (form_of y)) (ap is_written (sym g) ∙ h) in
      (omega (arith, m, same), ap (λ (t : RawTerm). is_written (form_of t)) k ∙ (and_parts (are_written (forms_of (map form_of xs))) (is_written (form_of y)) w.1).1)

  pub less_not : (y z : RawTerm) → term ≡ raw.Not y → z ≡ y → Less z
  less_not y z e k =
      let g : form_of term ≡ Not (form_of y) = ap form_of e ∙ form_not y in
      let m : weight term ≡ suc (weight y) = ap parts_of g in
      let same : weight z ≡ weight y = ap weight k in
      (omega (arith, m, same), ap (λ (t : RawTerm). is_written (form_of t)) k ∙ ap is_written (sym g) ∙ h)

-- ---- heads and calls

call_name : (d : Declared) (n : Text) (fs : Forms) (b : Bool) → same_sign (n, count_of fs) circuit_sign ≡ b →
    call_places d (Name n fs) ≡ (if b then argument_places d (sort.Term ∷ sort.Bus ∷ sort.Bus ∷ []) fs else argument_places d (sorts_of d (n, count_of fs)) fs)
call_name d n fs b e = ap (λ (c : Bool). if c then argument_places d (sort.Term ∷ sort.Bus ∷ sort.Bus ∷ []) fs else argument_places d (sorts_of d (n, count_of fs)) fs) e

module _ (d : Declared) (x : Bor (List ℕ)) (args slice : List RawTerm) (count : ℕ) (term : RawTerm) (e : term ≡ raw.Name x args) (f : slice ≡ args) (k : count ≡ length args) where
  counted_args : count_of (forms_of (map form_of args)) ≡ count
  counted_args = count_forms args ∙ sym k

  name_places : call_places d (form_of term) ≡ call_places d (Name x.now (forms_of (map form_of args)))
  name_places = ap (λ (t : RawTerm). call_places d (form_of t)) e ∙ ap (call_places d) (form_name x args)

  pub call_circuit : (ss : List Sort) → true ≡ same_sign (x.now, count) circuit_sign → ss ≡ sort.Term ∷ sort.Bus ∷ sort.Bus ∷ [] → argument_places d ss (forms_of (map form_of slice)) ≡ call_places d (form_of term)
  call_circuit ss h g =
      (λ j. argument_places d (g j) (forms_of (map form_of (f j))))
      ∙ sym (name_places ∙ call_name d x.now (forms_of (map form_of args)) true (ap (λ m. same_sign (x.now, m) circuit_sign) counted_args ∙ sym h))

  pub circuit_counted : (ss : List Sort) → true ≡ same_sign (x.now, count) circuit_sign → ss ≡ sort.Term ∷ sort.Bus ∷ sort.Bus ∷ [] → length ss ≡ length slice
  circuit_counted ss h g =
      let three : count ≡ 3 = eqb-true count 3 (and_parts (bytes_eq x.now (codes "circuit")) (eqb count 3) (sym h)).1 in
      let same : length slice ≡ length args = ap length f in
      let sorts : length ss ≡ 3 = ap length g in
      omega (arith, three, same, sorts, k)

  pub call_other : (o : Option (Bor (List Sort))) (n : ℕ) → false ≡ same_sign (x.now, count) circuit_sign → n ≡ length args → option_map (λ s. s.now) o ≡ looked_up d.sorts (x.now, n) →
      argument_places d (sorts_given o (length slice)) (forms_of (map form_of slice)) ≡ call_places d (form_of term)
  call_other o n h m l =
      inside_name d x args slice o n term e f m l ∙ ap (λ (t : RawTerm). below d (form_of t)) e ∙ ap (below d) (form_name x args)
      ∙ sym (name_places ∙ call_name d x.now (forms_of (map form_of args)) false (ap (λ i. same_sign (x.now, i) circuit_sign) counted_args ∙ sym h))
