-- The four clauses are accepted.
use Rattle.std.proofs.Common.{◌≡◌, ℕ, zero, suc, ◌+◌, ◌*◌, ◌<◌, ◌≤◌, Bool, true, false, ◌&&◌, nat_lt, List, [], ◌∷◌, ◌++◌, map, length, Option, Some, None, inr, refl, sym, ◌∙◌, ap, arith, codes}
use Rattle.std.specs.Prelude.{bytes_eq, position, unwrap_or, if◌then◌else◌}
use Rattle.std.specs.List.{list_any}
use Rattle.std.proofs.lemmas.Bool.Decides.{nat_tests}
use Rattle.cb_model.specs.declared.Expr.{Expr}
use Rattle.cb_model.specs.declared.Expr.TheVariants as expr
use Rattle.cb_model.specs.Bits.{numbers_from, Each}
use Rattle.cb_model.specs.Text.{Text, all_different}
use Rattle.cb_model.specs.Grammar.{Form, Variable, Name, Closed, And, Or, Last}
use Rattle.cb_model.specs.Sorts.{apart, Numbering, as_expr, as_exprs}
use Rattle.cb_model.specs.Facts.{Large, instances_fault, is_spec, are_spec, spec_of, spec_with, ModuleRefusal, Circuits, FactsRead, no_circuits, with_module, no_facts, a_fact, a_module, a_spec}
use Rattle.cb_flat.proofs.Places.{position-Some, list_any-lost}
use Rattle.cb_adder.proofs.Modules.{a_name, b_name, s_name, c_name, adder_inputs, adder_part, adder_module, adder_flat, adder_spec, half, full, parts, a_expr, b_expr, carry_expr, sum_expr}
use Rattle.cb_adder.proofs.Clauses.{forms_of, list_form, carry_form, sum_form, expr_forms, spec_form, adder_clauses, adder_circuits}
use Rattle.cb_adder.proofs.Names.{pairs, found, a-input, b-input}
use Rattle.cb_adder.proofs.Row.{adder_adds}
use Rattle.cb_adder.proofs.Apart.{Plain, PlainPins, Keeps, variable-keeps, list-keeps, closed-keeps, name-keeps, and-keeps, xor-keeps, or-keeps, nets-are, module-read}
use Rattle.cb_adder.proofs.Counts.{driven-once, inputs-different}
use Rattle.cb_adder.proofs.Cycles.{adder-no-round, half-no-round, full-no-round}

-- ---- the module

no-fault : (s k : ℕ) → instances_fault parts (map adder_part (numbers_from s k)) ≡ None
no-fault s zero = refl
no-fault s (suc k) = no-fault (suc s) k

plain-pairs : (s k : ℕ) → Each Plain (pairs s k)
plain-pairs s zero = tt
plain-pairs s (suc k) = (refl, (refl, plain-pairs (suc s) k))

plain-outs : (n s k : ℕ) → Each Plain (map s_name (numbers_from s k) ++ c_name n ∷ [])
plain-outs n s zero = (refl, tt)
plain-outs n s (suc k) = (refl, plain-outs n (suc s) k)

plain-pins : (s k : ℕ) → Each PlainPins (map adder_part (numbers_from s k))
plain-pins s zero = tt
plain-pins s (suc k) = (record { ins = (refl, (refl, (refl, tt))); outs = (refl, (refl, tt)) }, plain-pins (suc s) k)

few : (n : ℕ) → n ≤ 64 → nat_lt 1000000 (5 * n) ≡ false
few n l = grind (arith, nat_tests)

not-large : (n : ℕ) → n ≤ 64 → (if nat_lt 1000000 (length (adder_flat n).gates) then Some Large else None) ≡ None
not-large n l = ap (λ (b : Bool). if b then Some Large else None) (ap (nat_lt 1000000) (adder_adds n (omega arith)).gates ∙ few n l)

accepted : (n : ℕ) → n ≤ 64 → ModuleRefusal parts (adder_module n) None
accepted n l = rw (no-fault 0 n, driven-once n (omega arith)) (inr (adder-no-round n (omega arith), sym (not-large n l)))

-- ---- the specification

and_true : (a b : Bool) → a ≡ true → b ≡ true → (a && b) ≡ true
and_true true b e f = f
and_true false b e f = absurd (cc)

any-of : (x : Text) (xs : List Text) (i : ℕ) → position (bytes_eq x) xs ≡ Some i → list_any (bytes_eq x) xs ≡ true
any-of x xs i e = from (list_any (bytes_eq x) xs) refl
  where
    from : (b : Bool) → list_any (bytes_eq x) xs ≡ b → b ≡ true
    from true q = refl
    from false q = absurd (list_any-lost x xs q (position-Some x xs i e).1)

carry-keeps : (i : ℕ) → Keeps (carry_form i)
carry-keeps zero = variable-keeps (codes "C0") refl
carry-keeps (suc i) =
    let a : Keeps (Variable (a_name i)) = variable-keeps (a_name i) refl in
    let b : Keeps (Variable (b_name i)) = variable-keeps (b_name i) refl in
    or-keeps (And (forms_of (Variable (a_name i) ∷ Variable (b_name i) ∷ [])) ∷ And (forms_of (Or (forms_of (Variable (a_name i) ∷ Variable (b_name i) ∷ [])) ∷ carry_form i ∷ [])) ∷ []) (
      and-keeps (Variable (a_name i) ∷ Variable (b_name i) ∷ []) (a, (b, tt)),
      (and-keeps (Or (forms_of (Variable (a_name i) ∷ Variable (b_name i) ∷ [])) ∷ carry_form i ∷ []) (or-keeps (Variable (a_name i) ∷ Variable (b_name i) ∷ []) (a, (b, tt)), (carry-keeps i, tt)), tt),
    )

exprs-keep : (n s k : ℕ) → Each Keeps (map sum_form (numbers_from s k) ++ carry_form n ∷ [])
exprs-keep n s zero = (carry-keeps n, tt)
exprs-keep n s (suc k) =
    (xor-keeps (Variable (a_name s) ∷ Variable (b_name s) ∷ carry_form s ∷ []) (variable-keeps (a_name s) refl, (variable-keeps (b_name s) refl, (carry-keeps s, tt))), exprs-keep n (suc s) k)

spec-keeps : (n : ℕ) → Keeps (spec_form n)
spec-keeps n = name-keeps (codes "spec") (Name (codes "adder") Last ∷ list_form (adder_inputs n) ∷ Closed (forms_of (expr_forms n)) ∷ [])
    (λ k. refl, (list-keeps (adder_inputs n) (refl, plain-pairs 0 n), (closed-keeps (expr_forms n) (exprs-keep n 0 n), tt)))

module _ (n : ℕ) (small : n ≤ 64) where
  abbrev ins : List Text
  ins = adder_inputs n

  abbrev num : Numbering
  num = record { variables = ins; constants = []; names = [] }

  a-spec : (i : ℕ) → i < n → list_any (bytes_eq (a_name i)) ins ≡ true
  a-spec i l = any-of (a_name i) ins (1 + 2 * i) (a-input n i l (omega arith))

  b-spec : (i : ℕ) → i < n → list_any (bytes_eq (b_name i)) ins ≡ true
  b-spec i l = any-of (b_name i) ins (2 + 2 * i) (b-input n i l (omega arith))

  two-true : (p q : Bool) → p ≡ true → q ≡ true → (p && (q && true)) ≡ true
  two-true p q e f = and_true p (q && true) e (and_true q true f refl)

  carry-spec : (i : ℕ) → i ≤ n → is_spec ins (carry_form i) ≡ true
  carry-spec zero l = any-of (codes "C0") ins 0 (found (codes "C0") (codes "C0") (pairs 0 n) refl)
  carry-spec (suc i) l =
      let a = a-spec i (omega arith) in
      let b = b-spec i (omega arith) in
      let ab = two-true (list_any (bytes_eq (a_name i)) ins) (list_any (bytes_eq (b_name i)) ins) a b in
      two-true (are_spec ins (forms_of (Variable (a_name i) ∷ Variable (b_name i) ∷ []))) (are_spec ins (forms_of (Or (forms_of (Variable (a_name i) ∷ Variable (b_name i) ∷ [])) ∷ carry_form i ∷ []))) ab
      (two-true (are_spec ins (forms_of (Variable (a_name i) ∷ Variable (b_name i) ∷ []))) (is_spec ins (carry_form i)) ab (carry-spec i (omega arith)))

  exprs-spec : (s k : ℕ) → s + k ≡ n → are_spec ins (forms_of (map sum_form (numbers_from s k) ++ carry_form n ∷ [])) ≡ true
  exprs-spec s zero e = and_true (is_spec ins (carry_form n)) true (carry-spec n (omega arith)) refl
  exprs-spec s (suc k) e =
      and_true (is_spec ins (sum_form s)) _
      (and_true (list_any (bytes_eq (a_name s)) ins) _ (a-spec s (omega arith)) (two-true (list_any (bytes_eq (b_name s)) ins) (is_spec ins (carry_form s)) (b-spec s (omega arith)) (carry-spec s (omega arith))))
      (exprs-spec (suc s) k (omega arith))

  abbrev var_at : Option ℕ → Expr
  var_at o = expr.Var (unwrap_or o 0)

  a-is : (i : ℕ) → i < n → as_expr num (Variable (a_name i)) ≡ a_expr i
  a-is i l = ap var_at (a-input n i l (omega arith))

  b-is : (i : ℕ) → i < n → as_expr num (Variable (b_name i)) ≡ b_expr i
  b-is i l = ap var_at (b-input n i l (omega arith))

  carry-is : (i : ℕ) → i ≤ n → as_expr num (carry_form i) ≡ carry_expr i
  carry-is zero l = ap var_at (found (codes "C0") (codes "C0") (pairs 0 n) refl)
  carry-is (suc i) l =
      ap (λ (z : Expr). expr.Or (expr.And (z ∷ as_expr num (Variable (b_name i)) ∷ []) ∷ expr.And (expr.Or (z ∷ as_expr num (Variable (b_name i)) ∷ []) ∷ as_expr num (carry_form i) ∷ []) ∷ [])) (a-is i (omega arith))
      ∙ ap (λ (z : Expr). expr.Or (expr.And (a_expr i ∷ z ∷ []) ∷ expr.And (expr.Or (a_expr i ∷ z ∷ []) ∷ as_expr num (carry_form i) ∷ []) ∷ [])) (b-is i (omega arith))
      ∙ ap (λ (z : Expr). expr.Or (expr.And (a_expr i ∷ b_expr i ∷ []) ∷ expr.And (expr.Or (a_expr i ∷ b_expr i ∷ []) ∷ z ∷ []) ∷ [])) (carry-is i (omega arith))

  sum-is : (i : ℕ) → i < n → as_expr num (sum_form i) ≡ sum_expr i
  sum-is i l =
      ap (λ (z : Expr). expr.Xor (z ∷ as_expr num (Variable (b_name i)) ∷ as_expr num (carry_form i) ∷ [])) (a-is i l)
      ∙ ap (λ (z : Expr). expr.Xor (a_expr i ∷ z ∷ as_expr num (carry_form i) ∷ [])) (b-is i l)
      ∙ ap (λ (z : Expr). expr.Xor (a_expr i ∷ b_expr i ∷ z ∷ [])) (carry-is i (omega arith))

  exprs-are : (s k : ℕ) → s + k ≡ n → as_exprs num (forms_of (map sum_form (numbers_from s k) ++ carry_form n ∷ [])) ≡ map sum_expr (numbers_from s k) ++ carry_expr n ∷ []
  exprs-are s zero e = ap (λ z. z ∷ []) (carry-is n (omega arith))
  exprs-are s (suc k) e =
      ap (λ z. z ∷ as_exprs num (forms_of (map sum_form (numbers_from (suc s) k) ++ carry_form n ∷ []))) (sum-is s (omega arith)) ∙ ap (λ zs. sum_expr s ∷ zs) (exprs-are (suc s) k (omega arith))

  spec-read : spec_of (apart (spec_form n) 0).0 ≡ Some (adder_spec n)
  spec-read =
      ap (λ (r : Form × ℕ). spec_of r.0) (spec-keeps n 0)
      ∙ ap (λ o. spec_with (codes "adder") o (Closed (forms_of (expr_forms n)))) (nets-are ins)
      ∙ ap (λ (b : Bool). if b then Some (record { name = codes "adder"; inputs = ins; exprs = as_exprs num (forms_of (expr_forms n)) }) else None)
      (and_true (all_different ins) (are_spec ins (forms_of (expr_forms n))) (inputs-different n (omega arith)) (exprs-spec 0 n (omega arith)))
      ∙ ap (λ es. Some (record { name = codes "adder"; inputs = ins; exprs = es })) (exprs-are 0 n (omega arith))

-- ---- the facts

abbrev one_read : Circuits
one_read = with_module no_circuits half

abbrev two_read : Circuits
two_read = with_module one_read full

pub adder_read : (n : ℕ) → n ≤ 64 → FactsRead no_circuits (adder_clauses n) None (adder_circuits n)
adder_read n small =
    a_fact one_read refl (a_module half refl refl (inr (half-no-round, refl)) refl)
    (a_fact two_read refl (a_module full refl refl (inr (full-no-round, refl)) refl)
    (a_fact (with_module two_read (adder_module n)) refl
    (a_module (adder_module n) refl (module-read (adder_module n) (record { ins = (refl, plain-pairs 0 n); outs = plain-outs n 0 n; pins = plain-pins 0 n }) (inputs-different n (omega arith))) (accepted n small) refl)
    (a_fact (adder_circuits n) refl (a_spec (adder_spec n) refl (spec-read n small) refl refl) no_facts)))
