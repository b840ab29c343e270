-- What a walk adds to what is known.
use Rattle.std.proofs.Common.{◌≡◌, ℕ, zero, suc, ◌+◌, ◌<◌, Bool, true, false, not, ◌&&◌, ◌||◌, cond, List, [], ◌∷◌, ◌++◌, length, Option, Some, None, position, nat_lt, refl, sym, ◌∙◌, ap, arith, bytes_eq, codes, append_assoc, length-append, get_or, inl, inr, ◌≤◌}
use Rattle.std.specs.Prelude.{unwrap_or, ◌⊎◌}
use Rattle.std.specs.Bool.{if◌then◌else◌}
use Rattle.std.specs.List.{list_any, list_all, position_or_len}
use Rattle.std.proofs.lemmas.List.{append-nil, get_or_append_left, get_or_push}
use Rattle.std.proofs.lemmas.Bool.{and_parts, and_from, or_parts, cases_lt, lt-ltb, cond-true}
use Rattle.std.proofs.lemmas.Slice.Eq.{bytes_eq-Decides}
use Rattle.cb_model.specs.Text.{Text}
use Rattle.cb_model.specs.declared.Sort.{Sort}
use Rattle.cb_model.specs.declared.Sort.TheVariants as sort
use Rattle.cb_model.specs.Grammar.{Form, Variable}
use Rattle.cb_model.specs.Sorts.{Place, own_name, renamed, number_in}
use Rattle.cb_model.specs.Loading.{add_name}
use Rattle.cb_marking.specs.declared.walk.Walk.{Walk}
use Rattle.cb_marking.specs.Walk.{name_at, own_after, saw, thing_of, linked, noted, gave_some, at}

-- ---- lists that go on

abbrev pub Extends : List Text → List Text → Type 0
Extends xs ys = (zs : List Text) × (ys ≡ xs ++ zs)

pub Extends-same : (xs : List Text) → Extends xs xs
Extends-same xs = ([], sym (append-nil xs))

pub Extends-then : (xs ys zs : List Text) → Extends xs ys → Extends ys zs → Extends xs zs
Extends-then xs ys zs a b = (a.0 ++ b.0, b.1 ∙ ap (λ (l : List Text). l ++ b.0) a.1 ∙ append_assoc xs a.0 b.0)

pub Extends-add : (xs : List Text) (x : Text) → Extends xs (add_name xs x)
Extends-add xs x = step (list_any (bytes_eq x) xs)
  where
    step : (b : Bool) → Extends xs (if b then xs else (xs ++ x ∷ []))
    step true = Extends-same xs
    step false = (x ∷ [], refl)

-- a name is there once it was added
pub there_added : (xs : List Text) (x : Text) → list_any (bytes_eq x) (add_name xs x) ≡ true
there_added xs x = step (list_any (bytes_eq x) xs) refl
  where
    at_end : (ys : List Text) → list_any (bytes_eq x) (ys ++ x ∷ []) ≡ true
    at_end [] = ap (λ (b : Bool). b || false) ((bytes_eq-Decides x x).1 refl)
    at_end (y ∷ ys) = here (bytes_eq x y) (at_end ys)
      where
        here : (b : Bool) → list_any (bytes_eq x) (ys ++ x ∷ []) ≡ true → (b || list_any (bytes_eq x) (ys ++ x ∷ [])) ≡ true
        here true h = refl
        here false h = h

    step : (b : Bool) → list_any (bytes_eq x) xs ≡ b → list_any (bytes_eq x) (if b then xs else (xs ++ x ∷ [])) ≡ true
    step true e = e
    step false e = at_end xs

module _ (t : Text → Bool) where
  pub any_within : (xs : List Text) → list_any t xs ≡ true → position_or_len t xs < length xs
  any_within [] h = absurd (cc)
  any_within (x ∷ xs) h = step (t x) h (any_within xs)
    where
      step : (b : Bool) → (b || list_any t xs) ≡ true → (list_any t xs ≡ true → position_or_len t xs < length xs) → cond (not b) (1 + position_or_len t xs) 0 < suc (length xs)
      step true h r = omega arith
      step false h r = let k = r h in omega arith

  any_prefix : (xs zs : List Text) → list_any t xs ≡ true → position_or_len t (xs ++ zs) ≡ position_or_len t xs
  any_prefix [] zs h = absurd (cc)
  any_prefix (x ∷ xs) zs h = step (t x) h (any_prefix xs zs)
    where
      step : (b : Bool) → (b || list_any t xs) ≡ true → (list_any t xs ≡ true → position_or_len t (xs ++ zs) ≡ position_or_len t xs) →
          cond (not b) (1 + position_or_len t (xs ++ zs)) 0 ≡ cond (not b) (1 + position_or_len t xs) 0
      step true h r = refl
      step false h r = ap (λ n. 1 + n) (r h)

  any_append : (xs zs : List Text) → list_any t xs ≡ true → list_any t (xs ++ zs) ≡ true
  any_append [] zs h = absurd (cc)
  any_append (x ∷ xs) zs h = step (t x) h (any_append xs zs)
    where
      step : (b : Bool) → (b || list_any t xs) ≡ true → (list_any t xs ≡ true → list_any t (xs ++ zs) ≡ true) → (b || list_any t (xs ++ zs)) ≡ true
      step true h r = refl
      step false h r = r h

  pub at_first : (xs : List Text) → list_any t xs ≡ true → unwrap_or (position t xs) 0 ≡ position_or_len t xs
  at_first xs h = ap (λ (o : Option ℕ). unwrap_or o 0) (cond-true (nat_lt (position_or_len t xs) (length xs)) (Some (position_or_len t xs)) None (lt-ltb (position_or_len t xs) (length xs) (any_within xs h)))

  first_stays : (xs zs : List Text) → list_any t xs ≡ true → unwrap_or (position t (xs ++ zs)) 0 ≡ unwrap_or (position t xs) 0
  first_stays xs zs h = at_first (xs ++ zs) (any_append xs zs h) ∙ any_prefix xs zs h ∙ sym (at_first xs h)

  pub any_on : (xs ys : List Text) → Extends xs ys → list_any t xs ≡ true → list_any t ys ≡ true
  any_on xs ys e h = ap (list_any t) e.1 ∙ any_append xs e.0 h

  stays_on : (xs ys : List Text) → Extends xs ys → list_any t xs ≡ true → unwrap_or (position t ys) 0 ≡ unwrap_or (position t xs) 0
  stays_on xs ys e h = ap (λ (l : List Text). unwrap_or (position t l) 0) e.1 ∙ first_stays xs e.0 h

-- a number stays as the list goes on
pub number_stays : (xs ys : List Text) (x : Text) → Extends xs ys → list_any (bytes_eq x) xs ≡ true → number_in ys x ≡ number_in xs x
number_stays xs ys x e h = stays_on (bytes_eq x) xs ys e h

-- ---- names without repeats

-- each name has the number of its place
abbrev pub IsDistinct : List Text → Type 0
IsDistinct xs = (i : ℕ) → i < length xs → number_in xs (get_or xs i []) ≡ i

pub there_within : (xs : List Text) (i : ℕ) → i < length xs → list_any (bytes_eq (get_or xs i [])) xs ≡ true
there_within [] i h = absurd (omega arith)
there_within (x ∷ xs) zero h = ap (λ (b : Bool). b || list_any (bytes_eq x) xs) ((bytes_eq-Decides x x).1 refl)
there_within (x ∷ xs) (suc i) h = step (bytes_eq (get_or xs i []) x) (there_within xs i (omega arith))
  where
    step : (b : Bool) → list_any (bytes_eq (get_or xs i [])) xs ≡ true → (b || list_any (bytes_eq (get_or xs i [])) xs) ≡ true
    step true k = refl
    step false k = k

module _ (t : Text → Bool) where
  none_first : (xs : List Text) (x : Text) → t x ≡ true → list_any t xs ≡ false → position_or_len t (xs ++ x ∷ []) ≡ length xs
  none_first [] x k h = rw k refl
  none_first (y ∷ ys) x k h =
      let p = or_parts (t y) (list_any t ys) h in
      let r = none_first ys x k p.1 in
      rw p.0 (omega arith)

pub IsDistinct-add : (xs : List Text) (x : Text) → IsDistinct xs → IsDistinct (add_name xs x)
IsDistinct-add xs x h = step (list_any (bytes_eq x) xs) refl
  where
    old : (i : ℕ) → i < length xs → number_in (xs ++ x ∷ []) (get_or (xs ++ x ∷ []) i []) ≡ i
    old i l =
        ap (number_in (xs ++ x ∷ [])) (get_or_append_left xs (x ∷ []) [] i l) ∙ number_stays xs (xs ++ x ∷ []) (get_or xs i []) (x ∷ [], refl) (there_within xs i l) ∙ h i l

    new : list_any (bytes_eq x) xs ≡ false → (i : ℕ) → length xs ≡ i → number_in (xs ++ x ∷ []) (get_or (xs ++ x ∷ []) i []) ≡ i
    new e i l =
        let self = (bytes_eq-Decides x x).1 refl in
        ap (number_in (xs ++ x ∷ [])) (get_or_push xs x [] i l) ∙ at_first (bytes_eq x) (xs ++ x ∷ []) (any_end self) ∙ none_first (bytes_eq x) xs x self e ∙ l
      where
        any_end : bytes_eq x x ≡ true → list_any (bytes_eq x) (xs ++ x ∷ []) ≡ true
        any_end self = ap (λ (l : List Text). list_any (bytes_eq x) l) (sym (ap (λ (b : Bool). if b then xs else (xs ++ x ∷ [])) e)) ∙ there_added xs x

    cases : list_any (bytes_eq x) xs ≡ false → (i : ℕ) → (i < length xs) ⊎ (length xs ≤ i) → i < length (xs ++ x ∷ []) → number_in (xs ++ x ∷ []) (get_or (xs ++ x ∷ []) i []) ≡ i
    cases e i (inl l) k = old i l
    cases e i (inr l) k = new e i (omega (arith, length-append xs (x ∷ [])))

    step : (b : Bool) → list_any (bytes_eq x) xs ≡ b → IsDistinct (if b then xs else (xs ++ x ∷ []))
    step true e = h
    step false e = λ i l. cases e i (cases_lt i (length xs)) l

-- ---- what is given at places

abbrev pub given_at : ℕ → List Text → Sort → Form → List (ℕ × Sort)
given_at c ys s (Variable x) = (thing_of c ys x, s) ∷ []
given_at c ys s _ = []

abbrev pub numbered : ℕ → List Text → List Place → List (ℕ × Sort)
numbered c ys [] = []
numbered c ys (p ∷ ps) = given_at c ys p.0 p.1 ++ numbered c ys ps

pub numbered-append : (c : ℕ) (ys : List Text) (ps qs : List Place) → numbered c ys (ps ++ qs) ≡ numbered c ys ps ++ numbered c ys qs
numbered-append c ys [] qs = refl
numbered-append c ys (p ∷ ps) qs =
    ap (λ (l : List (ℕ × Sort)). given_at c ys p.0 p.1 ++ l) (numbered-append c ys ps qs) ∙ sym (append_assoc (given_at c ys p.0 p.1) (numbered c ys ps) (numbered c ys qs))

-- ---- variables that are there

abbrev pub is_there : List Text → Form → Bool
is_there ys (Variable x) = list_any (bytes_eq x) ys
is_there ys _ = true

abbrev pub all_there : List Text → List Place → Bool
all_there ys ps = list_all (λ p. is_there ys p.1) ps

pub all_there-append : (ys : List Text) (ps qs : List Place) → all_there ys ps ≡ true → all_there ys qs ≡ true → all_there ys (ps ++ qs) ≡ true
all_there-append ys [] qs a b = b
all_there-append ys (p ∷ ps) qs a b =
    let c = and_parts (is_there ys p.1) (all_there ys ps) a in
    let r = all_there-append ys ps qs c.1 b in
    and_from (is_there ys p.1) (all_there ys (ps ++ qs)) c.0 r

-- ---- what a walk adds

pub record Follows (w v : Walk) (k : ℕ) (xs : List Text) (gs : List Text → List (ℕ × Sort)) (es : List Text → List (ℕ × ℕ)) (bs : List ℕ) (ms : List Place) : Type 0 where
  pub own : v.own ≡ k
  pub variables : v.variables ≡ xs
  pub goals : v.goals ≡ w.goals
  pub grows : Extends w.variables v.variables
  pub given : (ys : List Text) → Extends v.variables ys → v.links.given ≡ w.links.given ++ gs ys
  pub edges : (ys : List Text) → Extends v.variables ys → v.links.edges ≡ w.links.edges ++ es ys
  pub bits : v.bits ≡ w.bits ++ bs
  pub there : (ys : List Text) → Extends v.variables ys → all_there ys ms ≡ true
  pub distinct : IsDistinct w.variables → IsDistinct v.variables

pub Follows-none : (w : Walk) (k : ℕ) (xs : List Text) → w.own ≡ k → w.variables ≡ xs → Follows w w k xs (λ _. []) (λ _. []) [] []
Follows-none w k xs a b = record {
  own = a;
  variables = b;
  goals = refl;
  grows = Extends-same w.variables;
  given = λ ys e. sym (append-nil w.links.given);
  edges = λ ys e. sym (append-nil w.links.edges);
  bits = sym (append-nil w.bits);
  there = λ ys e. refl;
  distinct = λ h. h;
}

pub Follows-same : (w v : Walk) (k : ℕ) (xs : List Text) (gs hs : List Text → List (ℕ × Sort)) (es fs : List Text → List (ℕ × ℕ)) (bs cs : List ℕ) (ms : List Place) → Follows w v k xs gs es bs ms →
    ((ys : List Text) → gs ys ≡ hs ys) → ((ys : List Text) → es ys ≡ fs ys) → bs ≡ cs → Follows w v k xs hs fs cs ms
Follows-same w v k xs gs hs es fs bs cs ms p a b c = record {
  own = p.own;
  variables = p.variables;
  goals = p.goals;
  grows = p.grows;
  given = λ ys e. p.given ys e ∙ ap (λ (l : List (ℕ × Sort)). w.links.given ++ l) (a ys);
  edges = λ ys e. p.edges ys e ∙ ap (λ (l : List (ℕ × ℕ)). w.links.edges ++ l) (b ys);
  bits = p.bits ∙ ap (λ (l : List ℕ). w.bits ++ l) c;
  there = p.there;
  distinct = p.distinct;
}

pub Follows-then : (w v u : Walk) (k l : ℕ) (xs zs : List Text) (gs hs : List Text → List (ℕ × Sort)) (es fs : List Text → List (ℕ × ℕ)) (bs cs : List ℕ) (ms ns : List Place) → Follows w v k xs gs es bs ms → Follows v u l zs hs fs cs ns →
    Follows w u l zs (λ ys. gs ys ++ hs ys) (λ ys. es ys ++ fs ys) (bs ++ cs) (ms ++ ns)
Follows-then w v u k l xs zs gs hs es fs bs cs ms ns p q = record {
  own = q.own;
  variables = q.variables;
  goals = q.goals ∙ p.goals;
  grows = Extends-then w.variables v.variables u.variables p.grows q.grows;
  given = λ ys e. q.given ys e ∙ ap (λ (l : List (ℕ × Sort)). l ++ hs ys) (p.given ys (Extends-then v.variables u.variables ys q.grows e)) ∙ append_assoc w.links.given (gs ys) (hs ys);
  edges = λ ys e. q.edges ys e ∙ ap (λ (l : List (ℕ × ℕ)). l ++ fs ys) (p.edges ys (Extends-then v.variables u.variables ys q.grows e)) ∙ append_assoc w.links.edges (es ys) (fs ys);
  bits = q.bits ∙ ap (λ (l : List ℕ). l ++ cs) p.bits ∙ append_assoc w.bits bs cs;
  there = λ ys e. all_there-append ys ms ns (p.there ys (Extends-then v.variables u.variables ys q.grows e)) (q.there ys e);
  distinct = λ h. q.distinct (p.distinct h);
}

-- ---- a variable

pub renamed_is : (k : ℕ) (x : Text) → renamed k x ≡ (Variable (name_at k x), own_after k x)
renamed_is k x = step (bytes_eq x (codes "_"))
  where
    step : (b : Bool) → (let r : Form × ℕ = if b then (Variable (own_name k), suc k) else (Variable x, k) in r) ≡ (Variable (if b then own_name k else x), (if b then suc k else k))
    step true = refl
    step false = refl

module _ (w : Walk) (x : Text) where
  abbrev named : Text
  named = name_at w.own x

  abbrev more : List Text
  more = add_name w.variables (name_at w.own x)

  thing_stays : (ys : List Text) → Extends more ys → thing_of w.goals more named ≡ thing_of w.goals ys named
  thing_stays ys e = ap (λ n. w.goals + n) (sym (number_stays more ys named e (there_added w.variables named)))

  here_there : (ys : List Text) → Extends more ys → (list_any (bytes_eq named) ys && true) ≡ true
  here_there ys e = and_from (list_any (bytes_eq named) ys) true (any_on (bytes_eq named) more ys e (there_added w.variables named)) refl

  pub Follows-at : (s : Sort) → Follows w (at w s (Variable x)) (own_after w.own x) more (λ ys. given_at w.goals ys s (Variable named)) (λ _. []) [] ((s, Variable named) ∷ [])
  Follows-at s = record {
    own = refl;
    variables = refl;
    goals = refl;
    grows = Extends-add w.variables named;
    given = λ ys e. ap (λ n. w.links.given ++ (n, s) ∷ []) (thing_stays ys e);
    edges = λ ys e. sym (append-nil w.links.edges);
    bits = sym (append-nil w.bits);
    there = λ ys e. here_there ys e;
    distinct = λ h. IsDistinct-add w.variables named h;
  }

  pub Follows-link : (j : ℕ) → Follows w (linked (saw w x) j (thing_of w.goals more named)) (own_after w.own x) more (λ _. []) (λ ys. (j, thing_of w.goals ys named) ∷ []) [] ((sort.Bool, Variable named) ∷ [])
  Follows-link j = record {
    own = refl;
    variables = refl;
    goals = refl;
    grows = Extends-add w.variables named;
    given = λ ys e. sym (append-nil w.links.given);
    edges = λ ys e. ap (λ n. w.links.edges ++ (j, n) ∷ []) (thing_stays ys e);
    bits = sym (append-nil w.bits);
    there = λ ys e. here_there ys e;
    distinct = λ h. IsDistinct-add w.variables named h;
  }

-- ---- a side that is no variable

abbrev pub given_some : ℕ → Option Sort → List (ℕ × Sort)
given_some j None = []
given_some j (Some s) = (j, s) ∷ []

abbrev pub bit_at : ℕ → Bool → List ℕ
bit_at j true = j ∷ []
bit_at j false = []

pub Follows-note : (w : Walk) (j k : ℕ) (xs : List Text) (o : Option Sort) (bit : Bool) → w.own ≡ k → w.variables ≡ xs → Follows w (noted bit (gave_some w j o) j) k xs (λ _. given_some j o) (λ _. []) (bit_at j bit) []
Follows-note w j k xs None true a b = record { own = a; variables = b; goals = refl; grows = Extends-same w.variables; given = λ ys e. sym (append-nil w.links.given); edges = λ ys e. sym (append-nil w.links.edges); bits = refl; there = λ ys e. refl; distinct = λ h. h }
Follows-note w j k xs None false a b = record { own = a; variables = b; goals = refl; grows = Extends-same w.variables; given = λ ys e. sym (append-nil w.links.given); edges = λ ys e. sym (append-nil w.links.edges); bits = sym (append-nil w.bits); there = λ ys e. refl; distinct = λ h. h }
Follows-note w j k xs (Some s) true a b = record { own = a; variables = b; goals = refl; grows = Extends-same w.variables; given = λ ys e. refl; edges = λ ys e. sym (append-nil w.links.edges); bits = refl; there = λ ys e. refl; distinct = λ h. h }
Follows-note w j k xs (Some s) false a b = record { own = a; variables = b; goals = refl; grows = Extends-same w.variables; given = λ ys e. refl; edges = λ ys e. sym (append-nil w.links.edges); bits = sym (append-nil w.bits); there = λ ys e. refl; distinct = λ h. h }
