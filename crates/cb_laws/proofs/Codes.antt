-- Values as pairs and marks, and forms of them with unknown parts.
use Rattle.std.proofs.Common.{◌≡◌, ◌⊎◌, inl, inr, ℕ, suc, ◌+◌, ◌≤◌, Bool, true, false, ◌||◌, ◌==◌, if◌then◌else◌, List, [], ◌∷◌, refl, sym, ◌∙◌, ap, arith, rules, ℤ}
use Rattle.std.specs.Prelude.{FitsSigned, get_or}
use Rattle.std.specs.Int.{w64}
use Rattle.cb_model.specs.declared.Expr.{Expr}
use Rattle.cb_model.specs.declared.Sort.{Sort}
use Rattle.cb_model.specs.declared.Sort.TheVariants as sort
use Rattle.cb_model.specs.Values.{Sorts}
use Rattle.cb_laws.proofs.Decided.{or_false}

-- what stands where a bus or a list of arguments ends, an integer, and a name
pub data Mark : Type 0 where
  BusEnd : Mark
  ArgumentsEnd : Mark
  Number : ℤ → Mark
  Called : ℕ → Mark

-- a bus variable or a term variable
pub data Unknown : Type 0 where
  ABus : ℕ → Unknown
  ATerm : ℕ → Unknown

-- a value
pub data Code : Type 0 where
  Truth : Bool → Code
  Marked : Mark → Code
  Join : Code → Code → Code

-- a value with unknown parts
pub data Form : Type 0 where
  Open : Unknown → Form
  Formula : Expr → Form
  Fixed : Mark → Form
  Both : Form → Form → Form

-- ---- unknowns

abbrev pub same : Unknown → Unknown → Bool
same (ABus n) (ABus m) = n == m
same (ATerm n) (ATerm m) = n == m
same _ _ = false

number_same : (n m : ℕ) → (n == m) ≡ true → n ≡ m
number_same n m h = search rules

number_self : (n : ℕ) → (n == n) ≡ true
number_self n = search rules

pub same_is : (x y : Unknown) → same x y ≡ true → x ≡ y
same_is (ABus n) (ABus m) h = ap ABus (number_same n m h)
same_is (ATerm n) (ATerm m) h = ap ATerm (number_same n m h)
same_is (ABus n) (ATerm m) h = absurd (cc)
same_is (ATerm n) (ABus m) h = absurd (cc)

pub same_self : (x : Unknown) → same x x ≡ true
same_self (ABus n) = number_self n
same_self (ATerm n) = number_self n

-- ---- values of forms

abbrev pub Truths : Type 0
Truths = Expr → Bool

abbrev pub Choice : Type 0
Choice = Unknown → Code

abbrev pub value : Truths → Choice → Form → Code
value f b (Open x) = b x
value f b (Formula e) = Truth (f e)
value f b (Fixed m) = Marked m
value f b (Both s t) = Join (value f b s) (value f b t)

pub value_same : (f : Truths) (b b' : Choice) (t : Form) → ((x : Unknown) → b x ≡ b' x) → value f b t ≡ value f b' t
value_same f b b' (Open x) h = h x
value_same f b b' (Formula e) h = refl
value_same f b b' (Fixed m) h = refl
value_same f b b' (Both s t) h = ap (λ c. Join c (value f b t)) (value_same f b b' s h) ∙ ap (Join (value f b' s)) (value_same f b b' t h)

-- a form for each unknown
abbrev pub Parts : Type 0
Parts = Unknown → Form

abbrev pub filled : Parts → Form → Form
filled p (Open x) = p x
filled p (Formula e) = Formula e
filled p (Fixed m) = Fixed m
filled p (Both s t) = Both (filled p s) (filled p t)

-- the values that they have
abbrev pub chosen : Truths → Choice → Parts → Choice
chosen f b p x = value f b (p x)

pub value_filled : (f : Truths) (b : Choice) (p : Parts) (t : Form) → value f b (filled p t) ≡ value f (chosen f b p) t
value_filled f b p (Open x) = refl
value_filled f b p (Formula e) = refl
value_filled f b p (Fixed m) = refl
value_filled f b p (Both s t) = ap (λ c. Join c (value f b (filled p t))) (value_filled f b p s) ∙ ap (Join (value f (chosen f b p) s)) (value_filled f b p t)

-- one unknown replaced
abbrev pub one : Unknown → Form → Parts
one x u y = if same x y then u else Open y

pub one_here : (x : Unknown) (u : Form) → one x u x ≡ u
one_here x u = ap (λ (c : Bool). if c then u else Open x) (same_self x)

pub one_other : (x y : Unknown) (u : Form) → same x y ≡ false → one x u y ≡ Open y
one_other x y u h = ap (λ (c : Bool). if c then u else Open y) h

-- where the unknown has the value of the form, nothing changes
pub one_chosen : (f : Truths) (b : Choice) (x : Unknown) (u : Form) → b x ≡ value f b u → (y : Unknown) → chosen f b (one x u) y ≡ b y
one_chosen f b x u h y = step (same x y) refl
  where
    step : (c : Bool) → same x y ≡ c → chosen f b (one x u) y ≡ b y
    step true e = ap (value f b) (ap (λ (c : Bool). if c then u else Open y) e) ∙ sym h ∙ ap b (same_is x y e)
    step false e = ap (value f b) (one_other x y u e)

pub value_one : (f : Truths) (b : Choice) (x : Unknown) (u t : Form) → b x ≡ value f b u → value f b (filled (one x u) t) ≡ value f b t
value_one f b x u t h = value_filled f b (one x u) t ∙ value_same f (chosen f b (one x u)) b t (one_chosen f b x u h)

-- ---- whether an unknown stands in a form

abbrev pub stands : Unknown → Form → Bool
stands x (Open y) = same x y
stands x (Formula e) = false
stands x (Fixed m) = false
stands x (Both s t) = stands x s || stands x t

pub not_there : (x : Unknown) (u t : Form) → stands x t ≡ false → filled (one x u) t ≡ t
not_there x u (Open y) h = one_other x y u h
not_there x u (Formula e) h = refl
not_there x u (Fixed m) h = refl
not_there x u (Both s t) h =
    let q = or_false (stands x s) (stands x t) h in
    ap (λ c. Both c (filled (one x u) t)) (not_there x u s q.0) ∙ ap (Both s) (not_there x u t q.1)

abbrev pub weight : Code → ℕ
weight (Truth x) = 0
weight (Marked m) = 0
weight (Join c d) = suc (weight c + weight d)

or_one : (x y : Bool) → (x || y) ≡ true → (x ≡ true) ⊎ (y ≡ true)
or_one true y h = inl refl
or_one false y h = inr h

-- its value weighs no more than the form's
pub stands_weight : (f : Truths) (b : Choice) (x : Unknown) (t : Form) → stands x t ≡ true → weight (b x) ≤ weight (value f b t)
stands_weight f b x (Open y) h = let e : weight (b x) ≡ weight (b y) = ap (λ z. weight (b z)) (same_is x y h) in omega (arith, e)
stands_weight f b x (Formula e) h = absurd (cc)
stands_weight f b x (Fixed m) h = absurd (cc)
stands_weight f b x (Both s t) h = elim (or_one (stands x s) (stands x t) h) [
  | inl e ↦ let l = stands_weight f b x s e in omega (arith, l)
  | inr e ↦ let l = stands_weight f b x t e in omega (arith, l)
]

-- so no values make it equal to a form that it stands in
pub no_cycle : (f : Truths) (b : Choice) (x : Unknown) (s t : Form) → stands x (Both s t) ≡ true → b x ≡ value f b (Both s t) → ⊥
no_cycle f b x s t h e = elim (or_one (stands x s) (stands x t) h) [
  | inl k ↦ let l = stands_weight f b x s k in let w : weight (b x) ≡ weight (value f b (Both s t)) = ap weight e in absurd (omega (arith, l, w))
  | inr k ↦ let l = stands_weight f b x t k in let w : weight (b x) ≡ weight (value f b (Both s t)) = ap weight e in absurd (omega (arith, l, w))
]

-- ---- values of a sort

abbrev pub IsBusCode : Code → Type 0
IsBusCode (Marked BusEnd) = Unit {0}
IsBusCode (Join (Truth x) c) = IsBusCode c
IsBusCode _ = ⊥

abbrev mutual
  pub CodeFits : Sorts → Sort → Code → Type 0
  CodeFits t sort.Bool (Truth x) = Unit {0}
  CodeFits t sort.Bus c = IsBusCode c
  CodeFits t sort.Term (Marked (Number z)) = FitsSigned w64 z
  CodeFits t sort.Term (Join (Marked (Called n)) c) = CodesFit t (get_or t n []) c
  CodeFits t _ _ = ⊥

  pub CodesFit : Sorts → List Sort → Code → Type 0
  CodesFit t [] (Marked ArgumentsEnd) = Unit {0}
  CodesFit t (s ∷ ss) (Join c d) = CodeFits t s c × CodesFit t ss d
  CodesFit t _ _ = ⊥

abbrev pub sort_of : Unknown → Sort
sort_of (ABus n) = sort.Bus
sort_of (ATerm n) = sort.Term

-- each unknown has a value of its sort
abbrev pub AreFit : Sorts → Choice → Type 0
AreFit t b = (x : Unknown) → CodeFits t (sort_of x) (b x)
