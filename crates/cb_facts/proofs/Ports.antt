-- Inputs and expressions.
use Rattle.std.proofs.Common.{◌≡◌, ℕ, suc, ◌+◌, ◌<◌, ◌≤◌, Bool, true, false, ◌&&◌, ◌||◌, List, [], ◌∷◌, ◌++◌, map, length, take, drop, get_or, Option, Some, None, position, bytes_eq, unwrap_or, nat_lt, ℤ, pos, negsuc, zero, refl, sym, ◌∙◌, ap, subst, arith}
use Rattle.std.specs.Bool.{if◌then◌else◌}
use Rattle.std.specs.List.{list_any, list_all}
use Rattle.std.proofs.lemmas.Bool.{true≢false, lt-ltb}
use Rattle.cb_model.specs.declared.Expr.{Expr}
use Rattle.cb_model.specs.declared.Expr.TheVariants as expr
use Rattle.cb_model.specs.declared.Expr.TheOpen.{Expr-F}
use Rattle.cb_model.specs.declared.Expr.TheFolds.{fold-roll-Expr}
use Rattle.cb_model.specs.Bits.{all_of}
use Rattle.cb_model.specs.Values.{in_scope, in_scope_step}
use Rattle.cb_model.specs.Text.{Text, all_different}
use Rattle.cb_model.specs.Grammar.{Form, Forms, Variable, Integer, Name, Closed, Open, Not, And, Xor, Or, Last, More}
use Rattle.cb_model.specs.Sorts.{apart, apart_all, as_expr, as_exprs, number_in}
use Rattle.cb_model.specs.Facts.{is_spec, are_spec, net_names, spec_with, spec_exprs, Spec}
use Rattle.cb_flat.proofs.Places.{position-cons, here_or, position-Some}
use Rattle.cb_facts.specs.declared.nets.Nets.{Nets}
use Rattle.cb_facts.specs.Reads.{add_names, AreNumbers, AreNets, ReadsList, ReadsInputs, HasNoInputs}
use Rattle.cb_facts.specs.Specs.{over, bit_of}
use Rattle.cb_facts.specs.Ports.{ports_of, ReadsPorts}
use Rattle.cb_facts.proofs.Steps.{numbers-long}
use Rattle.cb_facts.proofs.Different.{all-put, not-all-put}

-- ---- inputs

pub no-inputs : (f : Form) → net_names f ≡ None → HasNoInputs f
no-inputs f e xs h = absurd (cc)

module _ (old new : Nets) (f : Form) (ks : List ℕ) (first : old.names ≡ []) (r : ReadsList old new f ks) where
  named : new.names ≡ add_names [] r.xs
  named = r.names ∙ ap (λ ns. add_names ns r.xs) first

  long : length ks ≡ length r.xs
  long = numbers-long new.names r.xs ks r.numbers

  pub inputs-twice : (length ks ≡ length new.names → ⊥) → HasNoInputs (apart f old.own).0
  inputs-twice ne xs h =
      let same : r.xs ≡ xs = cc (r.nets, h) in
      subst (λ ys. all_different ys ≡ false) same (not-all-put r.xs (λ e. ne (long ∙ sym e ∙ sym (ap length named))))

  pub inputs-are : (n : ℕ) → length ks ≡ length new.names → n ≡ length ks → ReadsInputs old new f n
  inputs-are n same e =
      let p = all-put r.xs (sym (ap length named) ∙ sym same ∙ long) in
      record { xs = r.xs; nets = r.nets; different = p.0; own = r.own; names = named ∙ p.1; count = e ∙ long }

-- ---- expressions

abbrev found : Option ℕ → Bool
found None = false
found (Some k) = true

any-found : (xs : List Text) (x : Text) → list_any (bytes_eq x) xs ≡ found (position (bytes_eq x) xs)
any-found [] x = refl
any-found (y ∷ ys) x = step (bytes_eq x y) (position (bytes_eq x) ys) (any-found ys x) ∙ ap found (sym (position-cons (bytes_eq x) y ys))
  where
    step : (b : Bool) (o : Option ℕ) → list_any (bytes_eq x) ys ≡ found o → (b || list_any (bytes_eq x) ys) ≡ found (here_or b o)
    step true o e = refl
    step false None e = e
    step false (Some k) e = e

pub var-found : (xs : List Text) (f : Form) (x : Text) (k : ℕ) → f ≡ Variable x → Some k ≡ position (bytes_eq x) xs → (is_spec xs f ≡ true) × (expr.Var k ≡ as_expr (over xs) f)
var-found xs f x k e p =
    (ap (is_spec xs) e ∙ any-found xs x ∙ ap found (sym p), ap (λ o. expr.Var (unwrap_or o 0)) p ∙ ap (as_expr (over xs)) (sym e))

pub var-lost : (xs : List Text) (f : Form) (x : Text) → f ≡ Variable x → None ≡ position (bytes_eq x) xs → is_spec xs f ≡ false
var-lost xs f x e p = ap (is_spec xs) e ∙ any-found xs x ∙ ap found (sym p)

module _ (c v : ℕ) where
  zero-scope : in_scope c v expr.Zero ≡ true
  zero-scope = ap (in_scope c v) (sym expr.rolls-Zero) ∙ fold-roll-Expr Bool (in_scope_step c v) Expr-F.Zero

  one-scope : in_scope c v expr.One ≡ true
  one-scope = ap (in_scope c v) (sym expr.rolls-One) ∙ fold-roll-Expr Bool (in_scope_step c v) Expr-F.One

  var-scope : (n : ℕ) → nat_lt n v ≡ true → in_scope c v (expr.Var n) ≡ true
  var-scope n h = ap (in_scope c v) (sym (expr.rolls-Var n)) ∙ fold-roll-Expr Bool (in_scope_step c v) (Expr-F.Var n) ∙ h

  not-scope : (x : Expr) → in_scope c v x ≡ true → in_scope c v (expr.Not x) ≡ true
  not-scope x h = ap (in_scope c v) (sym (expr.rolls-Not x)) ∙ fold-roll-Expr Bool (in_scope_step c v) (Expr-F.Not x) ∙ h

  and-scope : (xs : List Expr) → all_of (map (in_scope c v) xs) ≡ true → in_scope c v (expr.And xs) ≡ true
  and-scope xs h = ap (in_scope c v) (sym (expr.rolls-And xs)) ∙ fold-roll-Expr Bool (in_scope_step c v) (Expr-F.And xs) ∙ h

  xor-scope : (xs : List Expr) → all_of (map (in_scope c v) xs) ≡ true → in_scope c v (expr.Xor xs) ≡ true
  xor-scope xs h = ap (in_scope c v) (sym (expr.rolls-Xor xs)) ∙ fold-roll-Expr Bool (in_scope_step c v) (Expr-F.Xor xs) ∙ h

  or-scope : (xs : List Expr) → all_of (map (in_scope c v) xs) ≡ true → in_scope c v (expr.Or xs) ≡ true
  or-scope xs h = ap (in_scope c v) (sym (expr.rolls-Or xs)) ∙ fold-roll-Expr Bool (in_scope_step c v) (Expr-F.Or xs) ∙ h

input-scope : (xs : List Text) (x : Text) → list_any (bytes_eq x) xs ≡ true → nat_lt (number_in xs x) (length xs) ≡ true
input-scope xs x h = step (position (bytes_eq x) xs) refl (sym (any-found xs x) ∙ h)
  where
    step : (o : Option ℕ) → position (bytes_eq x) xs ≡ o → found o ≡ true → nat_lt (unwrap_or o 0) (length xs) ≡ true
    step None e f = absurd (true≢false (sym f))
    step (Some k) e f = lt-ltb k (length xs) (position-Some x xs k e).0

both-parts : (a b : Bool) → (a && b) ≡ true → (a ≡ true) × (b ≡ true)
both-parts true b h = (refl, h)
both-parts false b h = absurd (true≢false (sym h))

mutual
  spec-scope : (xs : List Text) (f : Form) → is_spec xs f ≡ true → in_scope 0 (length xs) (as_expr (over xs) f) ≡ true
  spec-scope xs (Variable x) h = var-scope 0 (length xs) (number_in xs x) (input-scope xs x h)
  spec-scope xs (Integer (pos zero)) h = zero-scope 0 (length xs)
  spec-scope xs (Integer (pos (suc zero))) h = one-scope 0 (length xs)
  spec-scope xs (Integer (pos (suc (suc n)))) h = absurd (true≢false (sym h))
  spec-scope xs (Integer (negsuc n)) h = absurd (true≢false (sym h))
  spec-scope xs (Name n fs) h = absurd (true≢false (sym h))
  spec-scope xs (Closed fs) h = absurd (true≢false (sym h))
  spec-scope xs (Open fs f) h = absurd (true≢false (sym h))
  spec-scope xs (Not f) h = not-scope 0 (length xs) (as_expr (over xs) f) (spec-scope xs f h)
  spec-scope xs (And fs) h = and-scope 0 (length xs) (as_exprs (over xs) fs) (specs-scope xs fs h)
  spec-scope xs (Xor fs) h = xor-scope 0 (length xs) (as_exprs (over xs) fs) (specs-scope xs fs h)
  spec-scope xs (Or fs) h = or-scope 0 (length xs) (as_exprs (over xs) fs) (specs-scope xs fs h)

  pub specs-scope : (xs : List Text) (fs : Forms) → are_spec xs fs ≡ true → all_of (map (in_scope 0 (length xs)) (as_exprs (over xs) fs)) ≡ true
  specs-scope xs Last h = refl
  specs-scope xs (More f fs) h =
      let p = both-parts (is_spec xs f) (are_spec xs fs) h in
      ap (λ b. b && all_of (map (in_scope 0 (length xs)) (as_exprs (over xs) fs))) (spec-scope xs f p.0) ∙ specs-scope xs fs p.1

pub ports-read : (old mid : Nets) (a b : Form) (fs : Forms) (n : ℕ) (es : List Expr) → ReadsInputs old mid a n → b ≡ Closed fs
    → (are_spec mid.names (apart_all fs mid.own).0 ≡ true) × (es ≡ as_exprs (over mid.names) (apart_all fs mid.own).0) → ReadsPorts old mid a b es
ports-read old mid a b fs n es r e is = record {
  made = λ name. ap (λ (g : Form). ports_of name a g old.own) e
      ∙ ap (λ o. spec_with name (net_names (apart a old.own).0) (Closed (apart_all fs o).0)) (sym r.own)
      ∙ ap (λ o. spec_with name o (Closed (apart_all fs mid.own).0)) (r.nets ∙ ap Some (sym r.names))
      ∙ ap (λ t. if t && are_spec mid.names (apart_all fs mid.own).0 then Some (record { name = name; inputs = mid.names; exprs = spec_exprs mid.names (apart_all fs mid.own).0 }) else None) (ap all_different r.names ∙ r.different)
      ∙ ap (λ t. if t then Some (record { name = name; inputs = mid.names; exprs = spec_exprs mid.names (apart_all fs mid.own).0 }) else None) is.0
      ∙ ap (λ (l : List Expr). Some (record { name = name; inputs = mid.names; exprs = l })) (sym is.1);
  scope = ap (λ (l : List Expr). all_of (map (in_scope 0 (length mid.names)) l)) is.1 ∙ specs-scope mid.names (apart_all fs mid.own).0 is.0;
}
