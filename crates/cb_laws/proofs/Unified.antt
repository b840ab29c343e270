-- Equations between forms have most general values, or none at all: unification.
use Rattle.std.proofs.Common.{◌≡◌, ◌⊎◌, inl, inr, ◌↔◌, ℕ, zero, suc, ◌+◌, ◌<◌, ◌≤◌, Bool, true, false, ◌&&◌, ◌||◌, if◌then◌else◌, List, [], ◌∷◌, ◌++◌, map, length, refl, sym, ◌∙◌, ap, subst, arith, pos, ℤ}
use Rattle.std.proofs.lemmas.Bool.{cases_eq}
use Rattle.std.proofs.Math.Path.{fun_ext}
use Rattle.cb_model.specs.declared.Expr.{Expr}
use Rattle.cb_model.specs.Bits.{Each}
use Rattle.cb_model.specs.Values.{Sorts}
use Rattle.cb_laws.proofs.Tables.{zero_fits}
use Rattle.cb_laws.proofs.Codes.{Mark, BusEnd, ArgumentsEnd, Number, Called, Unknown, ABus, ATerm, Code, Truth, Marked, Join, Form, Open, Formula, Fixed, Both, Truths, Choice, value, Parts, filled, chosen, value_filled, same, same_is, same_self, one, one_here, one_other, one_chosen, value_one, stands, not_there, no_cycle, CodeFits, sort_of, AreFit}
use Rattle.cb_laws.proofs.CodeSorts.{code_fits, stays_fit}
use Rattle.cb_laws.proofs.Decided.{and_true, both_true, or_false}
use Rattle.cb_laws.proofs.Search.{one_int}

-- ---- lists of unknowns

abbrev has : List Unknown → Unknown → Bool
has [] x = false
has (y ∷ ys) x = same y x || has ys x

abbrev without : Unknown → List Unknown → List Unknown
without x [] = []
without x (y ∷ ys) = if same y x then without x ys else y ∷ without x ys

without_most : (x : Unknown) (ys : List Unknown) → length (without x ys) ≤ length ys
without_most x [] = omega arith
without_most x (y ∷ ys) = step (same y x) (without_most x ys)
  where
    step : (c : Bool) → length (without x ys) ≤ length ys → length (if c then without x ys else y ∷ without x ys) ≤ suc (length ys)
    step true l = omega (arith, l)
    step false l = omega (arith, l)

without_less : (x : Unknown) (ys : List Unknown) → has ys x ≡ true → length (without x ys) < length ys
without_less x [] h = absurd (cc)
without_less x (y ∷ ys) h = step (same y x) h (without_most x ys) (without_less x ys)
  where
    step : (c : Bool) → (c || has ys x) ≡ true → length (without x ys) ≤ length ys → (has ys x ≡ true → length (without x ys) < length ys) →
        length (if c then without x ys else y ∷ without x ys) < suc (length ys)
    step true k l go = omega (arith, l)
    step false k l go = let m = go k in omega (arith, m)

has_without : (x z : Unknown) (ys : List Unknown) → same x z ≡ false → has ys z ≡ true → has (without x ys) z ≡ true
has_without x z [] e h = absurd (cc)
has_without x z (y ∷ ys) e h = step (same y x) refl (same y z) refl h (has_without x z ys e)
  where
    step : (c : Bool) → same y x ≡ c → (d : Bool) → same y z ≡ d → (d || has ys z) ≡ true → (has ys z ≡ true → has (without x ys) z ≡ true) →
        has (if c then without x ys else y ∷ without x ys) z ≡ true
    step true p true q k go =
        let yx : y ≡ x = same_is y x p in
        let wrong : same x z ≡ true = subst (λ v. same v z ≡ true) yx q in
        absurd (cc)
    step true p false q k go = go k
    step false p true q k go = ap (λ (c : Bool). c || has (without x ys) z) q
    step false p false q k go = ap (λ (c : Bool). c || has (without x ys) z) q ∙ go k

-- the form's unknowns are in the list
abbrev inside : List Unknown → Form → Bool
inside ys (Open x) = has ys x
inside ys (Formula e) = true
inside ys (Fixed m) = true
inside ys (Both s t) = inside ys s && inside ys t

inside_without : (x : Unknown) (ys : List Unknown) (t : Form) → stands x t ≡ false → inside ys t ≡ true → inside (without x ys) t ≡ true
inside_without x ys (Open z) e h = has_without x z ys e h
inside_without x ys (Formula g) e h = refl
inside_without x ys (Fixed m) e h = refl
inside_without x ys (Both s t) e h =
    let p = or_false _ _ e in
    let q = and_true _ _ h in
    both_true _ _ (inside_without x ys s p.0 q.0) (inside_without x ys t p.1 q.1)

inside_filled : (x : Unknown) (u : Form) (ys : List Unknown) (t : Form) → inside (without x ys) u ≡ true → inside ys t ≡ true → inside (without x ys) (filled (one x u) t) ≡ true
inside_filled x u ys (Open z) k h = step (same x z) refl
  where
    step : (c : Bool) → same x z ≡ c → inside (without x ys) (one x u z) ≡ true
    step true e = ap (λ (c : Bool). inside (without x ys) (if c then u else Open z)) e ∙ k
    step false e = ap (λ (c : Bool). inside (without x ys) (if c then u else Open z)) e ∙ has_without x z ys e h
inside_filled x u ys (Formula g) k h = refl
inside_filled x u ys (Fixed m) k h = refl
inside_filled x u ys (Both s t) k h = let q = and_true _ _ h in both_true _ _ (inside_filled x u ys s k q.0) (inside_filled x u ys t k q.1)

-- ---- equations

abbrev pub Pairs : Type 0
Pairs = List (Form × Form)

abbrev pub AllEqual : Truths → Choice → Pairs → Type 0
AllEqual f b ps = Each (λ p. value f b p.0 ≡ value f b p.1) ps

abbrev pub Left : Type 0
Left = List (Expr × Expr)

-- the Boolean equations that are left
abbrev pub LeftEqual : Truths → Left → Type 0
LeftEqual f ls = Each (λ p. f p.0 ≡ f p.1) ls

-- Forms for the unknowns, and Boolean equations that are left: where these hold, the forms' values solve the equations
-- whatever the unknowns are, and all solutions are such.
pub record Solved (t : Sorts) (ps : Pairs) : Type 0 where
  pub parts : Parts
  pub left : Left
  pub solves : (f : Truths) (b : Choice) → LeftEqual f left → AllEqual f (chosen f b parts) ps
  pub fit : (f : Truths) (b : Choice) → AreFit t b → AreFit t (chosen f b parts)
  pub all : (f : Truths) (b : Choice) → AreFit t b → AllEqual f b ps → LeftEqual f left × ((x : Unknown) → chosen f b parts x ≡ b x)

-- no values of the right sorts solve them
abbrev pub NoneSolve : Sorts → Pairs → Type 0
NoneSolve t ps = (f : Truths) (b : Choice) → AreFit t b → AllEqual f b ps → ⊥

abbrev pub Outcome : Sorts → Pairs → Type 0
Outcome t ps = Solved t ps ⊎ NoneSolve t ps

abbrev replaced : Unknown → Form → Pairs → Pairs
replaced x u ps = map (λ p. (filled (one x u) p.0, filled (one x u) p.1)) ps

-- ---- steps

abbrev pub first_of : Code → Code
first_of (Join c d) = c
first_of c = c

abbrev pub second_of : Code → Code
second_of (Join c d) = d
second_of c = c

abbrev pub mark_in : Code → Mark
mark_in (Marked m) = m
mark_in c = BusEnd

abbrev number_in : Mark → ℤ
number_in (Number z) = z
number_in m = pos 0

abbrev called_in : Mark → ℕ
called_in (Called n) = n
called_in m = 0

abbrev pub truth_in : Code → Bool
truth_in (Truth x) = x
truth_in _ = false

pub one_mark : (m n : Mark) → (m ≡ n) ⊎ (m ≡ n → ⊥)
one_mark BusEnd BusEnd = inl refl
one_mark BusEnd ArgumentsEnd = inr (λ e. cc)
one_mark BusEnd (Number z) = inr (λ e. cc)
one_mark BusEnd (Called n) = inr (λ e. cc)
one_mark ArgumentsEnd BusEnd = inr (λ e. cc)
one_mark ArgumentsEnd ArgumentsEnd = inl refl
one_mark ArgumentsEnd (Number z) = inr (λ e. cc)
one_mark ArgumentsEnd (Called n) = inr (λ e. cc)
one_mark (Number i) BusEnd = inr (λ e. cc)
one_mark (Number i) ArgumentsEnd = inr (λ e. cc)
one_mark (Number i) (Number z) = elim (one_int i z) [ inl e ↦ inl (ap Number e) | inr n ↦ inr (λ e. n (ap number_in e)) ]
one_mark (Number i) (Called n) = inr (λ e. cc)
one_mark (Called k) BusEnd = inr (λ e. cc)
one_mark (Called k) ArgumentsEnd = inr (λ e. cc)
one_mark (Called k) (Number z) = inr (λ e. cc)
one_mark (Called k) (Called n) = elim (cases_eq k n) [ inl e ↦ inl (ap Called e) | inr f ↦ inr (λ e. f (ap called_in e)) ]

-- forms in which one unknown more is replaced
abbrev also : Parts → Unknown → Form → Parts
also p x u y = filled p (one x u y)

module _ (t : Sorts) where
  -- equations that mean the same
  alike : (ps qs : Pairs) → ((f : Truths) (b : Choice) → AllEqual f b ps ↔ AllEqual f b qs) → Outcome t qs → Outcome t ps
  alike ps qs e (inl s) = inl (record { parts = s.parts; left = s.left; solves = λ f b h. (e f (chosen f b s.parts)).1 (s.solves f b h); fit = s.fit; all = λ f b h k. s.all f b h ((e f b).0 k) })
  alike ps qs e (inr n) = inr (λ f b h k. n f b h ((e f b).0 k))

  -- two formulas are left
  owe : (g k : Expr) (ps : Pairs) → Outcome t ps → Outcome t ((Formula g, Formula k) ∷ ps)
  owe g k ps (inl s) = inl (record {
    parts = s.parts;
    left = (g, k) ∷ s.left;
    solves = λ f b h. (ap Truth h.0, s.solves f b h.1);
    fit = s.fit;
    all = λ f b h e. let r = s.all f b h e.1 in ((ap truth_in e.0, r.0), r.1);
  })
  owe g k ps (inr n) = inr (λ f b h e. n f b h e.1)

  -- values of the right sorts, whatever the equations are
  abbrev pub plain : Choice
  plain (ABus n) = Marked BusEnd
  plain (ATerm n) = Marked (Number (pos 0))

  pub plain_fit : AreFit t plain
  plain_fit (ABus n) = tt
  plain_fit (ATerm n) = zero_fits

  module _ (x : Unknown) (u : Form) (ps : Pairs) (away : stands x u ≡ false) where
    move : (f : Truths) (b : Choice) → b x ≡ value f b u → AllEqual f b ps → AllEqual f b (replaced x u ps)
    move f b e = go ps
      where
        go : (qs : Pairs) → AllEqual f b qs → AllEqual f b (replaced x u qs)
        go [] h = tt
        go (q ∷ qs) h = (value_one f b x u q.0 e ∙ h.0 ∙ sym (value_one f b x u q.1 e), go qs h.1)

    back : (f : Truths) (b : Choice) (qs : Pairs) → AllEqual f b (replaced x u qs) → AllEqual f (chosen f b (one x u)) qs
    back f b [] h = tt
    back f b (q ∷ qs) h = (sym (value_filled f b (one x u) q.0) ∙ h.0 ∙ value_filled f b (one x u) q.1, back f b qs h.1)

    -- the unknown is replaced by its form
    replace : CodeFits t (sort_of x) (value (λ e. false) plain u) → Outcome t (replaced x u ps) → Outcome t ((Open x, u) ∷ ps)
    replace ok (inr n) = inr (λ f b h e. n f b h (move f b e.0 e.1))
    replace ok (inl s) = inl (record { parts = also s.parts x u; left = s.left; solves = solves; fit = fit; all = all })
      where
        chosen_is : (f : Truths) (b : Choice) → chosen f b (also s.parts x u) ≡ chosen f (chosen f b s.parts) (one x u)
        chosen_is f b = fun_ext (λ y. value_filled f b s.parts (one x u y))

        here : (f : Truths) (b : Choice) → chosen f b (one x u) x ≡ value f (chosen f b (one x u)) u
        here f b = ap (value f b) (one_here x u) ∙ ap (value f b) (sym (not_there x u u away)) ∙ value_filled f b (one x u) u

        solves : (f : Truths) (b : Choice) → LeftEqual f s.left → AllEqual f (chosen f b (also s.parts x u)) ((Open x, u) ∷ ps)
        solves f b h = subst (λ c. AllEqual f c ((Open x, u) ∷ ps)) (sym (chosen_is f b)) (here f (chosen f b s.parts), back f (chosen f b s.parts) ps (s.solves f b h))

        fit : (f : Truths) (b : Choice) → AreFit t b → AreFit t (chosen f b (also s.parts x u))
        fit f b h = subst (AreFit t) (sym (chosen_is f b)) (λ y. at y (same x y) refl)
          where
            inner : Choice
            inner = chosen f b s.parts

            at : (y : Unknown) (c : Bool) → same x y ≡ c → CodeFits t (sort_of y) (value f (chosen f b s.parts) (one x u y))
            at y true e =
                let is : x ≡ y = same_is x y e in
                let here : one x u y ≡ u = ap (λ (c : Bool). if c then u else Open y) e in
                subst (λ (v : Form). CodeFits t (sort_of y) (value f (chosen f b s.parts) v)) (sym here)
                (subst (λ (z : Unknown). CodeFits t (sort_of z) (value f (chosen f b s.parts) u)) is
                (stays_fit t (λ e. false) f plain (chosen f b s.parts) plain_fit (s.fit f b h) (sort_of x) u ok))
            at y false e = subst (λ (v : Form). CodeFits t (sort_of y) (value f (chosen f b s.parts) v)) (sym (one_other x y u e)) (s.fit f b h y)

        all : (f : Truths) (b : Choice) → AreFit t b → AllEqual f b ((Open x, u) ∷ ps) → LeftEqual f s.left × ((y : Unknown) → chosen f b (also s.parts x u) y ≡ b y)
        all f b h e =
            let r = s.all f b h (move f b e.0 e.1) in
            let inner : chosen f b s.parts ≡ b = fun_ext r.1 in
            (r.0, λ y. ap (λ (c : Choice). c y) (chosen_is f b) ∙ ap (λ (c : Choice). chosen f c (one x u) y) inner ∙ one_chosen f b x u e.0 y)

    -- or no value of that form has its sort
    refuse : (CodeFits t (sort_of x) (value (λ e. false) plain u) → ⊥) → Outcome t ((Open x, u) ∷ ps)
    refuse never = inr (λ f b h e. never (stays_fit t f (λ e. false) b plain h plain_fit (sort_of x) u (subst (CodeFits t (sort_of x)) e.0 (h x))))

  -- ---- the loop

  -- how much the equations say
  abbrev size : Form → ℕ
  size (Open x) = 1
  size (Formula e) = 1
  size (Fixed m) = 1
  size (Both s u) = suc (size s + size u)

  abbrev sizes : Pairs → ℕ
  sizes [] = 0
  sizes (p ∷ ps) = size p.0 + size p.1 + sizes ps

  abbrev are_inside : List Unknown → Pairs → Type 0
  are_inside ys ps = Each (λ p. (inside ys p.0 ≡ true) × (inside ys p.1 ≡ true)) ps

  replaced_inside : (x : Unknown) (u : Form) (ys : List Unknown) (ps : Pairs) → inside (without x ys) u ≡ true → are_inside ys ps → are_inside (without x ys) (replaced x u ps)
  replaced_inside x u ys [] k h = tt
  replaced_inside x u ys (p ∷ ps) k h = ((inside_filled x u ys p.0 k h.0.0, inside_filled x u ys p.1 k h.0.1), replaced_inside x u ys ps k h.1)

  -- whatever equations have fewer unknowns
  abbrev Smaller : List Unknown → Type 0
  Smaller ys = (zs : List Unknown) (ps : Pairs) → length zs < length ys → are_inside zs ps → Outcome t ps

  -- an unknown and a form that isn't this unknown
  bind : (ys : List Unknown) → Smaller ys → (x : Unknown) (u : Form) (ps : Pairs) → stands x u ≡ false → has ys x ≡ true → inside ys u ≡ true → are_inside ys ps → Outcome t ((Open x, u) ∷ ps)
  bind ys less x u ps away h k i = elim (code_fits t (sort_of x) (value (λ e. false) plain u)) [
    | inl ok ↦ replace x u ps away ok (less (without x ys) (replaced x u ps) (without_less x ys h) (replaced_inside x u ys ps (inside_without x ys u away k) i))
    | inr never ↦ refuse x u ps away never
  ]

  swapped : (l r : Form) (ps : Pairs) → Outcome t ((r, l) ∷ ps) → Outcome t ((l, r) ∷ ps)
  swapped l r ps = alike ((l, r) ∷ ps) ((r, l) ∷ ps) (λ f b. ((λ h. (sym h.0, h.1)), λ h. (sym h.0, h.1)))

  clash : (l r : Form) (ps : Pairs) → ((f : Truths) (b : Choice) → value f b l ≡ value f b r → ⊥) → Outcome t ((l, r) ∷ ps)
  clash l r ps never = inr (λ f b h e. never f b e.0)

  -- an unknown and a form
  meet : (ys : List Unknown) → Smaller ys → (x : Unknown) (u : Form) (ps : Pairs) → has ys x ≡ true → inside ys u ≡ true → are_inside ys ps → Outcome t ps → Outcome t ((Open x, u) ∷ ps)
  meet ys less x (Open y) ps h k i rest = at (same x y) refl
    where
      at : (c : Bool) → same x y ≡ c → Outcome t ((Open x, Open y) ∷ ps)
      at true e = alike ((Open x, Open y) ∷ ps) ps (λ f b. ((λ q. q.1), λ q. (ap b (same_is x y e), q))) rest
      at false e = bind ys less x (Open y) ps e h k i
  meet ys less x (Formula g) ps h k i rest = bind ys less x (Formula g) ps refl h k i
  meet ys less x (Fixed m) ps h k i rest = bind ys less x (Fixed m) ps refl h k i
  meet ys less x (Both s u) ps h k i rest = at (stands x (Both s u)) refl
    where
      at : (c : Bool) → stands x (Both s u) ≡ c → Outcome t ((Open x, Both s u) ∷ ps)
      at true e = clash (Open x) (Both s u) ps (λ f b. no_cycle f b x s u e)
      at false e = bind ys less x (Both s u) ps e h k i

  join-inj : (c d c' d' : Code) → Join c d ≡ Join c' d' → (c ≡ c') × (d ≡ d')
  join-inj c d c' d' e = (ap first_of e, ap second_of e)

  go : (n : ℕ) (ys : List Unknown) → Smaller ys → (ps : Pairs) → sizes ps < n → are_inside ys ps → Outcome t ps
  go zero ys less ps m i = absurd (omega arith)
  go (suc n) ys less [] m i = inl (record { parts = Open; left = []; solves = λ f b h. tt; fit = λ f b h. h; all = λ f b h e. (tt, λ x. refl) })
  go (suc n) ys less ((Open x, u) ∷ ps) m i = meet ys less x u ps i.0.0 i.0.1 i.1 (go n ys less ps (omega arith) i.1)
  go (suc n) ys less ((Formula g, Open x) ∷ ps) m i = swapped (Formula g) (Open x) ps (meet ys less x (Formula g) ps i.0.1 i.0.0 i.1 (go n ys less ps (omega arith) i.1))
  go (suc n) ys less ((Formula g, Formula k) ∷ ps) m i = owe g k ps (go n ys less ps (omega arith) i.1)
  go (suc n) ys less ((Formula g, Fixed k) ∷ ps) m i = clash (Formula g) (Fixed k) ps (λ f b e. cc)
  go (suc n) ys less ((Formula g, Both s u) ∷ ps) m i = clash (Formula g) (Both s u) ps (λ f b e. cc)
  go (suc n) ys less ((Fixed k, Open x) ∷ ps) m i = swapped (Fixed k) (Open x) ps (meet ys less x (Fixed k) ps i.0.1 i.0.0 i.1 (go n ys less ps (omega arith) i.1))
  go (suc n) ys less ((Fixed k, Formula g) ∷ ps) m i = clash (Fixed k) (Formula g) ps (λ f b e. cc)
  go (suc n) ys less ((Fixed k, Fixed j) ∷ ps) m i = elim (one_mark k j) [
    | inl e ↦ alike ((Fixed k, Fixed j) ∷ ps) ps (λ f b. ((λ q. q.1), λ q. (ap Marked e, q))) (go n ys less ps (omega arith) i.1)
    | inr never ↦ clash (Fixed k) (Fixed j) ps (λ f b e. never (ap mark_in e))
  ]
  go (suc n) ys less ((Fixed k, Both s u) ∷ ps) m i = clash (Fixed k) (Both s u) ps (λ f b e. cc)
  go (suc n) ys less ((Both s u, Open x) ∷ ps) m i = swapped (Both s u) (Open x) ps (meet ys less x (Both s u) ps i.0.1 i.0.0 i.1 (go n ys less ps (omega arith) i.1))
  go (suc n) ys less ((Both s u, Formula g) ∷ ps) m i = clash (Both s u) (Formula g) ps (λ f b e. cc)
  go (suc n) ys less ((Both s u, Fixed k) ∷ ps) m i = clash (Both s u) (Fixed k) ps (λ f b e. cc)
  go (suc n) ys less ((Both s u, Both v w) ∷ ps) m i =
      let p = and_true _ _ i.0.0 in
      let q = and_true _ _ i.0.1 in
      alike ((Both s u, Both v w) ∷ ps) ((s, v) ∷ (u, w) ∷ ps)
      (λ f b. (
        (λ h. let j = join-inj (value f b s) (value f b u) (value f b v) (value f b w) h.0 in (j.0, (j.1, h.1))),
        λ h. (ap (λ c. Join c (value f b u)) h.0 ∙ ap (Join (value f b v)) h.1.0, h.1.1),
      ))
      (go n ys less ((s, v) ∷ (u, w) ∷ ps) (omega arith) ((p.0, q.0), ((p.1, q.1), i.1)))

  solve-in : (n : ℕ) (ys : List Unknown) (ps : Pairs) → length ys < n → are_inside ys ps → Outcome t ps
  solve-in zero ys ps m i = absurd (omega arith)
  solve-in (suc n) ys ps m i = go (suc (sizes ps)) ys (λ zs qs l j. solve-in n zs qs (omega arith) j) ps (omega arith) i

  -- ---- the unknowns of equations

  abbrev unknowns : Form → List Unknown
  unknowns (Open x) = x ∷ []
  unknowns (Formula e) = []
  unknowns (Fixed m) = []
  unknowns (Both s u) = unknowns s ++ unknowns u

  abbrev all_unknowns : Pairs → List Unknown
  all_unknowns [] = []
  all_unknowns (p ∷ ps) = (unknowns p.0 ++ unknowns p.1) ++ all_unknowns ps

  has_left : (x : Unknown) (ys zs : List Unknown) → has ys x ≡ true → has (ys ++ zs) x ≡ true
  has_left x [] zs h = absurd (cc)
  has_left x (y ∷ ys) zs h = step (same y x) h (has_left x ys zs)
    where
      step : (c : Bool) → (c || has ys x) ≡ true → (has ys x ≡ true → has (ys ++ zs) x ≡ true) → (c || has (ys ++ zs) x) ≡ true
      step true k f = refl
      step false k f = f k

  has_right : (x : Unknown) (ys zs : List Unknown) → has zs x ≡ true → has (ys ++ zs) x ≡ true
  has_right x [] zs h = h
  has_right x (y ∷ ys) zs h = step (same y x) (has_right x ys zs h)
    where
      step : (c : Bool) → has (ys ++ zs) x ≡ true → (c || has (ys ++ zs) x) ≡ true
      step true k = refl
      step false k = k

  inside_left : (ys zs : List Unknown) (u : Form) → inside ys u ≡ true → inside (ys ++ zs) u ≡ true
  inside_left ys zs (Open x) h = has_left x ys zs h
  inside_left ys zs (Formula e) h = refl
  inside_left ys zs (Fixed m) h = refl
  inside_left ys zs (Both s u) h = let q = and_true _ _ h in both_true _ _ (inside_left ys zs s q.0) (inside_left ys zs u q.1)

  inside_right : (ys zs : List Unknown) (u : Form) → inside zs u ≡ true → inside (ys ++ zs) u ≡ true
  inside_right ys zs (Open x) h = has_right x ys zs h
  inside_right ys zs (Formula e) h = refl
  inside_right ys zs (Fixed m) h = refl
  inside_right ys zs (Both s u) h = let q = and_true _ _ h in both_true _ _ (inside_right ys zs s q.0) (inside_right ys zs u q.1)

  inside_own : (u : Form) → inside (unknowns u) u ≡ true
  inside_own (Open x) = ap (λ (c : Bool). c || false) (same_self x)
  inside_own (Formula e) = refl
  inside_own (Fixed m) = refl
  inside_own (Both s u) = both_true _ _ (inside_left (unknowns s) (unknowns u) s (inside_own s)) (inside_right (unknowns s) (unknowns u) u (inside_own u))

  all_inside : (ps : Pairs) → are_inside (all_unknowns ps) ps
  all_inside [] = tt
  all_inside (p ∷ ps) = (
    (
      inside_left (unknowns p.0 ++ unknowns p.1) (all_unknowns ps) p.0 (inside_left (unknowns p.0) (unknowns p.1) p.0 (inside_own p.0)),
      inside_left (unknowns p.0 ++ unknowns p.1) (all_unknowns ps) p.1 (inside_right (unknowns p.0) (unknowns p.1) p.1 (inside_own p.1)),
    ),
    more ps (all_inside ps),
  )
    where
      more : (qs : Pairs) → are_inside (all_unknowns ps) qs → are_inside ((unknowns p.0 ++ unknowns p.1) ++ all_unknowns ps) qs
      more [] h = tt
      more (q ∷ qs) h = ((inside_right (unknowns p.0 ++ unknowns p.1) (all_unknowns ps) q.0 h.0.0, inside_right (unknowns p.0 ++ unknowns p.1) (all_unknowns ps) q.1 h.0.1), more qs h.1)

  -- every list of equations has most general values, or none
  pub unified : (ps : Pairs) → Outcome t ps
  unified ps = solve-in (suc (length (all_unknowns ps))) (all_unknowns ps) ps (omega arith) (all_inside ps)
