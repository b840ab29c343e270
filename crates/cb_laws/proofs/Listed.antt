-- The variables of a form are in the list of its variables, and the names in front stay.
use Rattle.std.proofs.Common.{◌≡◌, ◌⊎◌, inl, inr, ℕ, zero, suc, ◌+◌, ◌<◌, Bool, true, false, cond, not, ◌||◌, nat_lt, List, [], ◌∷◌, ◌++◌, length, refl, sym, ap, subst, arith, bytes_eq}
use Rattle.std.specs.Prelude.{Option, Some, None, position, if◌then◌else◌, Contains, get_or, slice_get}
use Rattle.std.specs.List.{list_any, position_or_len}
use Rattle.std.proofs.lemmas.Bool.{lt-ltb, cond-true}
use Rattle.std.proofs.lemmas.Slice.Eq.{bytes_eq-Decides}
use Rattle.std.proofs.lemmas.List.Elements.{Contains-append_cases}
use Rattle.cb_model.specs.declared.Sort.{Sort}
use Rattle.cb_model.specs.declared.Sort.TheVariants as sort
use Rattle.cb_model.specs.Text.{Text}
use Rattle.cb_model.specs.Grammar.{Form, Forms, Variable, Integer, Name, Closed, Open, Not, And, Xor, Or, Last, More, FormGoal, ACall, AnEqual}
use Rattle.cb_model.specs.Directives.{Declared, same_sign, count_of, sorts_of}
use Rattle.cb_model.specs.Sorts.{Body, Place, below, operand_places, argument_places, call_places, goals_places, head_places, all_places, number_in, circuit_sign}
use Rattle.cb_model.specs.Loading.{add_name, variables_of, variables_in, goals_variables, head_variables, body_variables}

-- ---- names that a list has

-- the second list has each name that the first has
abbrev pub Extends : List Text → List Text → Type 0
Extends xs ys = (x : Text) → list_any (bytes_eq x) xs ≡ true → list_any (bytes_eq x) ys ≡ true

pub or_left : (a b : Bool) → a ≡ true → (a || b) ≡ true
or_left true b h = refl
or_left false b h = absurd (cc)

pub or_right : (a b : Bool) → b ≡ true → (a || b) ≡ true
or_right true b h = refl
or_right false b h = h

pub or_cases : (a b : Bool) → (a || b) ≡ true → (a ≡ true) ⊎ (b ≡ true)
or_cases true b h = inl refl
or_cases false b h = inr h

pub any_front : (p : Text → Bool) (xs ys : List Text) → list_any p xs ≡ true → list_any p (xs ++ ys) ≡ true
any_front p [] ys h = absurd (cc)
any_front p (x ∷ xs) ys h = elim (or_cases (p x) (list_any p xs) h) [
  | inl e ↦ or_left (p x) (list_any p (xs ++ ys)) e
  | inr e ↦ or_right (p x) (list_any p (xs ++ ys)) (any_front p xs ys e)
]

pub any_last : (p : Text → Bool) (xs : List Text) (y : Text) → p y ≡ true → list_any p (xs ++ y ∷ []) ≡ true
any_last p [] y h = or_left (p y) false h
any_last p (x ∷ xs) y h = or_right (p x) (list_any p (xs ++ y ∷ [])) (any_last p xs y h)

-- a name that a list has is at a place of it
pub any_within : (p : Text → Bool) (xs : List Text) → list_any p xs ≡ true → position_or_len p xs < length xs
any_within p [] h = absurd (cc)
any_within p (x ∷ xs) h = step (p x) h (any_within p xs)
  where
    step : (b : Bool) → (b || list_any p xs) ≡ true → (list_any p xs ≡ true → position_or_len p xs < length xs) → cond (not b) (1 + position_or_len p xs) 0 < suc (length xs)
    step true h r = omega arith
    step false h r = let k = r h in omega arith

pub number_below : (xs : List Text) (x : Text) → list_any (bytes_eq x) xs ≡ true → number_in xs x < length xs
number_below xs x h =
    let w : position_or_len (bytes_eq x) xs < length xs = any_within (bytes_eq x) xs h in
    let at : position (bytes_eq x) xs ≡ Some (position_or_len (bytes_eq x) xs) = cond-true (nat_lt (position_or_len (bytes_eq x) xs) (length xs)) (Some (position_or_len (bytes_eq x) xs)) None (lt-ltb (position_or_len (bytes_eq x) xs) (length xs) w) in
    rw at w

-- ---- the variables of a form

pub extends_same : (xs : List Text) → Extends xs xs
extends_same xs x h = h

pub extends_then : (xs ys zs : List Text) → Extends xs ys → Extends ys zs → Extends xs zs
extends_then xs ys zs p q x h = q x (p x h)

pub add_extends : (xs : List Text) (y : Text) → Extends xs (add_name xs y)
add_extends xs y x h = step (list_any (bytes_eq y) xs)
  where
    step : (b : Bool) → list_any (bytes_eq x) (if b then xs else (xs ++ y ∷ [])) ≡ true
    step true = h
    step false = any_front (bytes_eq x) xs (y ∷ []) h

pub same_bytes : (x : Text) → bytes_eq x x ≡ true
same_bytes x = (bytes_eq-Decides x x).1 refl

pub add_has : (xs : List Text) (y : Text) → list_any (bytes_eq y) (add_name xs y) ≡ true
add_has xs y = step (list_any (bytes_eq y) xs) refl
  where
    step : (b : Bool) → list_any (bytes_eq y) xs ≡ b → list_any (bytes_eq y) (if b then xs else (xs ++ y ∷ [])) ≡ true
    step true h = h
    step false h = any_last (bytes_eq y) xs y (same_bytes y)

mutual
  pub of_extends : (xs : List Text) (f : Form) → Extends xs (variables_of xs f)
  of_extends xs (Variable x) = add_extends xs x
  of_extends xs (Integer z) = extends_same xs
  of_extends xs (Name n fs) = in_extends xs fs
  of_extends xs (Closed fs) = in_extends xs fs
  of_extends xs (Open fs f) = extends_then xs (variables_in xs fs) (variables_of (variables_in xs fs) f) (in_extends xs fs) (of_extends (variables_in xs fs) f)
  of_extends xs (Not f) = of_extends xs f
  of_extends xs (And fs) = in_extends xs fs
  of_extends xs (Xor fs) = in_extends xs fs
  of_extends xs (Or fs) = in_extends xs fs

  pub in_extends : (xs : List Text) (fs : Forms) → Extends xs (variables_in xs fs)
  in_extends xs Last = extends_same xs
  in_extends xs (More f fs) = extends_then xs (variables_of xs f) (variables_in (variables_of xs f) fs) (of_extends xs f) (in_extends (variables_of xs f) fs)

pub goals_extend : (xs : List Text) (gs : List FormGoal) → Extends xs (goals_variables xs gs)
goals_extend xs [] = extends_same xs
goals_extend xs (ACall f ∷ gs) = extends_then xs (variables_of xs f) (goals_variables (variables_of xs f) gs) (of_extends xs f) (goals_extend (variables_of xs f) gs)
goals_extend xs (AnEqual f g ∷ gs) =
    extends_then xs (variables_of (variables_of xs f) g) (goals_variables (variables_of (variables_of xs f) g) gs)
    (extends_then xs (variables_of xs f) (variables_of (variables_of xs f) g) (of_extends xs f) (of_extends (variables_of xs f) g))
    (goals_extend (variables_of (variables_of xs f) g) gs)

-- ---- places

pub no_one : {X : Type 0} (x : X) (h : Contains [] x) → ⊥
no_one x h = absurd (omega (arith, h.1))

pub one_one : {X : Type 0} (x y : X) → Contains (x ∷ []) y → x ≡ y
one_one x y h = at h.0 h.1 h.2
  where
    at : (k : ℕ) → k < 1 → get_or (x ∷ []) k y ≡ y → x ≡ y
    at zero l e = e
    at (suc k) l e = absurd (omega arith)

-- the list has each variable that is a place
abbrev pub Lists : List Text → List Place → Type 0
Lists vs ps = (s : Sort) (x : Text) → Contains ps (s, Variable x) → list_any (bytes_eq x) vs ≡ true

lists_both : (vs : List Text) (ps qs : List Place) → Lists vs ps → Lists vs qs → Lists vs (ps ++ qs)
lists_both vs ps qs h k s x c = elim (Contains-append_cases ps qs (s, Variable x) c) [ inl l ↦ h s x l | inr r ↦ k s x r ]

lists_none : (vs : List Text) → Lists vs []
lists_none vs s x c = absurd (no_one {X = Place} (s, Variable x) c)

-- a place at which no variable stands, or one of the list
lists_one : (vs : List Text) (s : Sort) (f : Form) → ((x : Text) → f ≡ Variable x → list_any (bytes_eq x) vs ≡ true) → Lists vs ((s, f) ∷ [])
lists_one vs s f h t x c = h x (ap (λ (p : Place). p.1) (one_one {X = Place} (s, f) (t, Variable x) c))

module _ (d : Declared) where
  placed : (s : Sort) (xs vs : List Text) (f : Form) → Extends (variables_of xs f) vs → Lists vs (below d f) → Lists vs ((s, f) ∷ below d f)
  placed s xs vs f e rest = lists_both vs ((s, f) ∷ []) (below d f) (lists_one vs s f (λ x is. e x (has_it x is))) rest
    where
      has_it : (x : Text) → f ≡ Variable x → list_any (bytes_eq x) (variables_of xs f) ≡ true
      has_it x is = subst (λ (g : Form). list_any (bytes_eq x) (variables_of xs g) ≡ true) (sym is) (add_has xs x)

  mutual
    pub below_listed : (xs vs : List Text) (f : Form) → Extends (variables_of xs f) vs → Lists vs (below d f)
    below_listed xs vs (Variable x) e = lists_none vs
    below_listed xs vs (Integer z) e = lists_none vs
    below_listed xs vs (Name n fs) e = arguments_listed (sorts_of d (n, count_of fs)) xs vs fs e
    below_listed xs vs (Closed fs) e = operands_listed xs vs fs e
    below_listed xs vs (Open fs f) e =
        lists_both vs (operand_places d fs) ((sort.Bus, f) ∷ below d f)
        (operands_listed xs vs fs (extends_then (variables_in xs fs) (variables_of (variables_in xs fs) f) vs (of_extends (variables_in xs fs) f) e))
        (placed sort.Bus (variables_in xs fs) vs f e (below_listed (variables_in xs fs) vs f e))
    below_listed xs vs (Not f) e = placed sort.Bool xs vs f e (below_listed xs vs f e)
    below_listed xs vs (And fs) e = operands_listed xs vs fs e
    below_listed xs vs (Xor fs) e = operands_listed xs vs fs e
    below_listed xs vs (Or fs) e = operands_listed xs vs fs e

    pub operands_listed : (xs vs : List Text) (fs : Forms) → Extends (variables_in xs fs) vs → Lists vs (operand_places d fs)
    operands_listed xs vs Last e = lists_none vs
    operands_listed xs vs (More f fs) e =
        lists_both vs ((sort.Bool, f) ∷ below d f) (operand_places d fs)
        (placed sort.Bool xs vs f (extends_then (variables_of xs f) (variables_in (variables_of xs f) fs) vs (in_extends (variables_of xs f) fs) e)
        (below_listed xs vs f (extends_then (variables_of xs f) (variables_in (variables_of xs f) fs) vs (in_extends (variables_of xs f) fs) e)))
        (operands_listed (variables_of xs f) vs fs e)

    pub arguments_listed : (ss : List Sort) (xs vs : List Text) (fs : Forms) → Extends (variables_in xs fs) vs → Lists vs (argument_places d ss fs)
    arguments_listed ss xs vs Last e = lists_none vs
    arguments_listed [] xs vs (More f fs) e = lists_none vs
    arguments_listed (s ∷ ss) xs vs (More f fs) e =
        lists_both vs ((s, f) ∷ below d f) (argument_places d ss fs)
        (placed s xs vs f (extends_then (variables_of xs f) (variables_in (variables_of xs f) fs) vs (in_extends (variables_of xs f) fs) e)
        (below_listed xs vs f (extends_then (variables_of xs f) (variables_in (variables_of xs f) fs) vs (in_extends (variables_of xs f) fs) e)))
        (arguments_listed ss (variables_of xs f) vs fs e)

  call_listed : (xs vs : List Text) (f : Form) → Extends (variables_of xs f) vs → Lists vs (call_places d f)
  call_listed xs vs (Name n fs) e = step (same_sign (n, count_of fs) circuit_sign)
    where
      step : (b : Bool) → Lists vs (if b then argument_places d (sort.Term ∷ sort.Bus ∷ sort.Bus ∷ []) fs else argument_places d (sorts_of d (n, count_of fs)) fs)
      step true = arguments_listed (sort.Term ∷ sort.Bus ∷ sort.Bus ∷ []) xs vs fs e
      step false = arguments_listed (sorts_of d (n, count_of fs)) xs vs fs e
  call_listed xs vs (Variable x) e = lists_none vs
  call_listed xs vs (Integer z) e = lists_none vs
  call_listed xs vs (Closed fs) e = lists_none vs
  call_listed xs vs (Open fs f) e = lists_none vs
  call_listed xs vs (Not f) e = lists_none vs
  call_listed xs vs (And fs) e = lists_none vs
  call_listed xs vs (Xor fs) e = lists_none vs
  call_listed xs vs (Or fs) e = lists_none vs

  goals_listed : (xs vs : List Text) (gs : List FormGoal) → Extends (goals_variables xs gs) vs → Lists vs (goals_places d gs)
  goals_listed xs vs [] e = lists_none vs
  goals_listed xs vs (ACall f ∷ gs) e =
      lists_both vs (call_places d f) (goals_places d gs)
      (call_listed xs vs f (extends_then (variables_of xs f) (goals_variables (variables_of xs f) gs) vs (goals_extend (variables_of xs f) gs) e))
      (goals_listed (variables_of xs f) vs gs e)
  goals_listed xs vs (AnEqual f g ∷ gs) e =
      let ys : List Text = variables_of xs f in
      let zs : List Text = variables_of ys g in
      let last : Extends zs vs = extends_then zs (goals_variables zs gs) vs (goals_extend zs gs) e in
      lists_both vs (below d f ++ below d g) (goals_places d gs)
      (lists_both vs (below d f) (below d g) (below_listed xs vs f (extends_then ys zs vs (of_extends ys g) last)) (below_listed ys vs g last))
      (goals_listed zs vs gs e)

  head_listed : (vs : List Text) (h : Option Form) → Extends (head_variables h) vs → Lists vs (head_places d h)
  head_listed vs None e = lists_none vs
  head_listed vs (Some f) e = call_listed [] vs f e

  -- the variables of a body are in its list
  pub body_listed : (b : Body) → Lists (body_variables b) (all_places d b)
  body_listed b =
      lists_both (body_variables b) (head_places d b.head) (goals_places d b.goals)
      (head_listed (body_variables b) b.head (goals_extend (head_variables b.head) b.goals))
      (goals_listed (head_variables b.head) (body_variables b) b.goals (extends_same (body_variables b)))

  -- a side of an equation that is a variable is among the body's
  side_listed : (xs vs : List Text) (gs : List FormGoal) (k : ℕ) (l r : Form) (x : Text) → slice_get gs k ≡ Some (AnEqual l r) → (l ≡ Variable x) ⊎ (r ≡ Variable x) →
      Extends (goals_variables xs gs) vs → list_any (bytes_eq x) vs ≡ true
  side_listed xs vs [] k l r x at is e = absurd (cc)
  side_listed xs vs (ACall f ∷ gs) zero l r x at is e = absurd (cc)
  side_listed xs vs (ACall f ∷ gs) (suc k) l r x at is e = side_listed (variables_of xs f) vs gs k l r x at is e
  side_listed xs vs (AnEqual f g ∷ gs) (suc k) l r x at is e = side_listed (variables_of (variables_of xs f) g) vs gs k l r x at is e
  side_listed xs vs (AnEqual f g ∷ gs) zero l r x at (inl is) e =
      let here : f ≡ Variable x = cc in
      let there : list_any (bytes_eq x) (variables_of xs f) ≡ true = subst (λ (h : Form). list_any (bytes_eq x) (variables_of xs h) ≡ true) (sym here) (add_has xs x) in
      e x (goals_extend (variables_of (variables_of xs f) g) gs x (of_extends (variables_of xs f) g x there))
  side_listed xs vs (AnEqual f g ∷ gs) zero l r x at (inr is) e =
      let here : g ≡ Variable x = cc in
      let there : list_any (bytes_eq x) (variables_of (variables_of xs f) g) ≡ true =
      subst (λ (h : Form). list_any (bytes_eq x) (variables_of (variables_of xs f) h) ≡ true) (sym here) (add_has (variables_of xs f) x) in
      e x (goals_extend (variables_of (variables_of xs f) g) gs x there)

  pub body_side : (b : Body) (k : ℕ) (l r : Form) (x : Text) → slice_get b.goals k ≡ Some (AnEqual l r) → (l ≡ Variable x) ⊎ (r ≡ Variable x) → list_any (bytes_eq x) (body_variables b) ≡ true
  body_side b k l r x at is = side_listed (head_variables b.head) (body_variables b) b.goals k l r x at is (extends_same (body_variables b))
