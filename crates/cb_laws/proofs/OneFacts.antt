-- The facts of a file are read in one way.
use Rattle.std.proofs.Common.{◌≡◌, ◌⊎◌, ℕ, suc, Bool, true, false, not, ◌&&◌, ◌==◌, nat_lt, MatchBool, List, [], ◌∷◌, length, Option, Some, None, is_some, bytes_eq, refl, sym, ap, subst, ◌∙◌, inl, inr, arith}
use Rattle.std.specs.Bool.{if◌then◌else◌}
use Rattle.std.specs.List.{list_any}
use Rattle.std.proofs.lemmas.Bool.{true≢false, and_parts, eqb-true}
use Rattle.std.proofs.lemmas.Option.{same_Some}
use Rattle.cb_model.specs.Text.{Text}
use Rattle.cb_model.specs.Grammar.{Form, Forms, Variable, Integer, Name, Closed, Open, Not, And, Xor, Or, Last, More, FormClause, Rule}
use Rattle.cb_model.specs.Directives.{Sign, same_sign, count_of}
use Rattle.cb_model.specs.Sorts.{apart, apart_all}
use Rattle.cb_model.specs.Loading.{is_fact, sign_is, module_sign, spec_sign}
use Rattle.cb_model.specs.Circuits.{Module, Flat, flat}
use Rattle.cb_model.specs.Facts.{Circuits, FactRefusal, Twice, Pins, Driven, Cycle, Part, Large, Spec, module_of, spec_of, instances_fault, is_part, all_driven_once, HasCycle, ModuleRefusal, with_module, with_spec, FactReads, bodied, bad_module, bad_spec, a_module, refused_module, a_spec, second_spec, FactsRead, no_facts, no_fact, a_fact, refused}

-- ---- forms

-- how many arguments a name has, and else 0
pub arguments : Form → ℕ
arguments (Name x fs) = count_of fs
arguments _ = 0

apart-count : (fs : Forms) (k : ℕ) → count_of (apart_all fs k).0 ≡ count_of fs
apart-count Last k = refl
apart-count (More f fs) k = ap suc (apart-count fs (apart f k).1)

-- a name has the arguments that its form asks for
pub sign-arguments : (a : Sign) (f : Form) → sign_is a f ≡ true → arguments (apart f 0).0 ≡ a.1
unfolding arguments
sign-arguments a (Name x fs) e = apart-count fs 0 ∙ sym (eqb-true a.1 (count_of fs) (and_parts _ (a.1 == count_of fs) e).1)
sign-arguments a (Variable x) e = absurd (true≢false (sym e))
sign-arguments a (Integer z) e = absurd (true≢false (sym e))
sign-arguments a (Closed fs) e = absurd (true≢false (sym e))
sign-arguments a (Open fs f) e = absurd (true≢false (sym e))
sign-arguments a (Not f) e = absurd (true≢false (sym e))
sign-arguments a (And fs) e = absurd (true≢false (sym e))
sign-arguments a (Xor fs) e = absurd (true≢false (sym e))
sign-arguments a (Or fs) e = absurd (true≢false (sym e))

some-none : {A : Type 0} {x : A} → Some x ≡ None → ⊥
some-none e = true≢false (ap is_some e)

none-some : {A : Type 0} {x : A} → None ≡ Some x → ⊥
none-some e = some-none (sym e)

pub module-arguments : (g : Form) (m : Module) → module_of g ≡ Some m → arguments g ≡ 4
unfolding arguments
module-arguments (Name x (More (Name name Last) (More ins (More outs (More is Last))))) m e = refl
module-arguments g m e = absurd (none-some e)

pub spec-arguments : (g : Form) (s : Spec) → spec_of g ≡ Some s → arguments g ≡ 3
unfolding arguments
spec-arguments (Name x (More (Name name Last) (More ins (More exprs Last)))) s e = refl
spec-arguments g s e = absurd (none-some e)

-- ---- a fact

abbrev Answer : Type 0
Answer = Option FactRefusal

-- the refusal of an accepted form of a module is one
refusal-is-one : (x y d : Bool) (C : Type 0) (first last : Answer) (r s : Answer)
    → MatchBool x (r ≡ Some Twice) (MatchBool y (r ≡ first) (MatchBool d ((C × (r ≡ Some Cycle)) ⊎ ((C → ⊥) × (r ≡ last))) (r ≡ Some Driven)))
    → MatchBool x (s ≡ Some Twice) (MatchBool y (s ≡ first) (MatchBool d ((C × (s ≡ Some Cycle)) ⊎ ((C → ⊥) × (s ≡ last))) (s ≡ Some Driven)))
    → r ≡ s
refusal-is-one true y d C first last r s h k = h ∙ sym k
refusal-is-one false true d C first last r s h k = h ∙ sym k
refusal-is-one false false false C first last r s h k = h ∙ sym k
refusal-is-one false false true C first last r s (inl h) (inl k) = h.1 ∙ sym k.1
refusal-is-one false false true C first last r s (inl h) (inr k) = absurd (k.0 h.0)
refusal-is-one false false true C first last r s (inr h) (inl k) = absurd (h.0 k.0)
refusal-is-one false false true C first last r s (inr h) (inr k) = h.1 ∙ sym k.1

module-refusal-is-one : (earlier : List Flat) (m : Module) (r s : Answer) → ModuleRefusal earlier m r → ModuleRefusal earlier m s → r ≡ s
module-refusal-is-one earlier m r s h k =
    refusal-is-one (is_part earlier m.name) (is_some (instances_fault earlier m.instances)) (all_driven_once m) (HasCycle m)
    (instances_fault earlier m.instances) (if nat_lt 1000000 (length (flat earlier m).gates) then Some Large else None) r s h k

-- what there is after a fact that is refused, or is not
after : Answer → Circuits → Circuits → Circuits
after None more c = more
after (Some r) more c = c

-- What a fact answers, by the forms that its head may have: a body; a module; a specification; or none of them.
data Read (c : Circuits) (f : Form) (b : Bool) : Answer → Circuits → Type 0 where
  with_body : b ≡ true → Read c f b (Some Pins) c
  formless : b ≡ false → module_of (apart f 0).0 ≡ None → spec_of (apart f 0).0 ≡ None → Read c f b (Some Pins) c
  module_read : {r : Answer} {c' : Circuits} (m : Module) → b ≡ false → module_of (apart f 0).0 ≡ Some m → ModuleRefusal c.flats m r →
      c' ≡ after r (with_module c m) c → Read c f b r c'
  spec_read : {r : Answer} {c' : Circuits} (s : Spec) → b ≡ false → spec_of (apart f 0).0 ≡ Some s →
      r ≡ (if list_any (λ t. bytes_eq t.name s.name) c.specs then Some Twice else None) → c' ≡ after r (with_spec c s) c → Read c f b r c'

no-spec : (g : Form) → arguments g ≡ 4 → spec_of g ≡ None
no-spec g e = by_case (spec_of g) refl
  where
    by_case : (o : Option Spec) → spec_of g ≡ o → spec_of g ≡ None
    by_case None h = h
    by_case (Some s) h = absurd (let k = spec-arguments g s h in omega arith)

no-module : (g : Form) → arguments g ≡ 3 → module_of g ≡ None
no-module g e = by_case (module_of g) refl
  where
    by_case : (o : Option Module) → module_of g ≡ o → module_of g ≡ None
    by_case None h = h
    by_case (Some m) h = absurd (let k = module-arguments g m h in omega arith)

if-first : (b : Bool) → b ≡ true → Some Twice ≡ (if b then Some Twice else None)
if-first true e = refl
if-first false e = absurd (true≢false (sym e))

if-second : (b : Bool) → b ≡ false → None ≡ (if b then Some Twice else None)
if-second false e = refl
if-second true e = absurd (true≢false e)

read-of : {c c' : Circuits} {n : ℕ} {f : Form} {b : Bool} {gs : List _} {r : Answer} → FactReads c (Rule n f b gs) r c' → Read c f b r c'
unfolding after
read-of (bodied e) = with_body e
read-of {f = f} (bad_module e s h) = formless e h (no-spec (apart f 0).0 (sign-arguments module_sign f s))
read-of {f = f} (bad_spec e s h) = formless e (no-module (apart f 0).0 (sign-arguments spec_sign f s)) h
read-of (a_module m e h k p) = module_read m e h k p
read-of (refused_module m e h k) = module_read m e h k refl
read-of {c} (a_spec s e h k p) = spec_read s e h (if-second (list_any (λ t. bytes_eq t.name s.name) c.specs) k) p
read-of {c} (second_spec s e h k) = spec_read s e h (if-first (list_any (λ t. bytes_eq t.name s.name) c.specs) k) refl

bits : {b : Bool} → b ≡ true → b ≡ false → ⊥
bits e h = true≢false (sym e ∙ h)

not-both : (g : Form) (m : Module) (s : Spec) → module_of g ≡ Some m → spec_of g ≡ Some s → ⊥
not-both g m s h k = let a = module-arguments g m h in let b = spec-arguments g s k in omega arith

one-of : {A : Type 0} {o : Option A} {x y : A} → o ≡ Some x → o ≡ Some y → x ≡ y
one-of {o = o} {x} {y} h k = same_Some x y (sym h ∙ k)

read-is-one : {c d e : Circuits} {f : Form} {b : Bool} {r s : Answer} → Read c f b r d → Read c f b s e → (r ≡ s) × (d ≡ e)
read-is-one (with_body x) (with_body y) = (refl, refl)
read-is-one (with_body x) (formless y h k) = absurd (bits x y)
read-is-one (with_body x) (module_read m y h k p) = absurd (bits x y)
read-is-one (with_body x) (spec_read m y h k p) = absurd (bits x y)
read-is-one (formless x h k) (with_body y) = absurd (bits y x)
read-is-one (formless x h k) (formless y i j) = (refl, refl)
read-is-one (formless x h k) (module_read m y i j p) = absurd (some-none (sym i ∙ h))
read-is-one (formless x h k) (spec_read m y i j p) = absurd (some-none (sym i ∙ k))
read-is-one (module_read m x h k p) (with_body y) = absurd (bits y x)
read-is-one (module_read m x h k p) (formless y i j) = absurd (some-none (sym h ∙ i))
read-is-one {c} {r = r} {s = s} (module_read m x h k p) (module_read n y i j q) =
    let e : m ≡ n = one-of h i in
    let a : r ≡ s = module-refusal-is-one c.flats m r s k (subst (λ z. ModuleRefusal c.flats z s) (sym e) j) in
    (a, p ∙ ap (λ z. after z (with_module c m) c) a ∙ ap (λ z. after s (with_module c z) c) e ∙ sym q)
read-is-one {f = f} (module_read m x h k p) (spec_read n y i j q) = absurd (not-both (apart f 0).0 m n h i)
read-is-one (spec_read m x h k p) (with_body y) = absurd (bits y x)
read-is-one (spec_read m x h k p) (formless y i j) = absurd (some-none (sym h ∙ j))
read-is-one {f = f} (spec_read m x h k p) (module_read n y i j q) = absurd (not-both (apart f 0).0 n m i h)
read-is-one {c} {r = r} {s = s} (spec_read m x h k p) (spec_read n y i j q) =
    let e : m ≡ n = one-of h i in
    let a : r ≡ s = k ∙ ap (λ z. if list_any (λ t. bytes_eq t.name z.name) c.specs then Some Twice else None) e ∙ sym j in
    (a, p ∙ ap (λ z. after z (with_spec c m) c) a ∙ ap (λ z. after s (with_spec c z) c) e ∙ sym q)

-- ---- all facts

pub fact-is-one : {c d e : Circuits} {x : FormClause} {r s : Answer} → is_fact x ≡ true → FactReads c x r d → FactReads c x s e → (r ≡ s) × (d ≡ e)
fact-is-one {x = Rule n f b gs} t h k = read-is-one (read-of h) (read-of k)
fact-is-one {x = x} t h k = absurd (true≢false (sym t))

pub facts-are-one : {c d e : Circuits} {xs : List FormClause} {r s : Option (FactRefusal × ℕ)} → FactsRead c xs r d → FactsRead c xs s e → (r ≡ s) × (d ≡ e)
facts-are-one no_facts no_facts = (refl, refl)
facts-are-one (no_fact t h) (no_fact u k) = facts-are-one h k
facts-are-one (no_fact t h) (a_fact c u i k) = absurd (bits u t)
facts-are-one (no_fact t h) (refused u k) = absurd (bits u t)
facts-are-one (a_fact c t i h) (no_fact u k) = absurd (bits t u)
facts-are-one {e = e} {xs = x ∷ xs} {s = s} (a_fact c t i h) (a_fact c' u j k) =
    let a = fact-is-one t i j in
    facts-are-one h (subst (λ z. FactsRead z xs s e) (sym a.1) k)
facts-are-one (a_fact c t i h) (refused u k) = absurd (none-some (fact-is-one t i k).0)
facts-are-one (refused t h) (no_fact u k) = absurd (bits t u)
facts-are-one (refused t h) (a_fact c u i k) = absurd (some-none (fact-is-one t h i).0)
facts-are-one (refused {n = n} t h) (refused u k) = (ap (λ z. with_line z n) (fact-is-one t h k).0, refl)
  where
    with_line : Answer → ℕ → Option (FactRefusal × ℕ)
    with_line None n = None
    with_line (Some r) n = Some (r, n)
