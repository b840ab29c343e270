-- The expressions, instances and lists of the generated text are read as their forms.
use Rattle.std.proofs.Common.{ℕ, zero, suc, ◌+◌, ◌<◌, ◌≤◌, ◌^◌, List, [], ◌∷◌, ◌++◌, map, refl, sym, subst, arith, codes, append_assoc}
use Rattle.cb_model.specs.declared.Kind.TheVariants as kind
use Rattle.cb_model.specs.Bits.{Each}
use Rattle.cb_model.specs.Text.{Text, joined}
use Rattle.cb_model.specs.Adder.{part_text, carry_text, sum_text}
use Rattle.cb_model.specs.Grammar.{Form, Variable, Name, And, Or, one, Plus, Chain, Unary, Exprs}
use Rattle.cb_adder.proofs.Modules.{a_name, b_name, s_name, c_name, adder_part}
use Rattle.cb_adder.proofs.Clauses.{forms_of, list_form, instance_form, carry_form, sum_form}
use Rattle.cb_adder.proofs.Lexing.{IsName, digits-word}
use Rattle.cb_adder.proofs.Grammar.{Goes, as-star, as-hash, as-plus, as-chain, variable-goes, list-goes, group-goes, term-goes, exprs-one, exprs-more, star-goes, plus-goes, hash-goes}
use Rattle.cb_adder.proofs.Shapes.{bracketed, called, then_comma, carry-shape, sum-shape, part-shape}

-- ---- expressions

module _ (i : ℕ) (h : i < 2 ^ 32) where
  pub a-named : IsName kind.Variable (a_name i)
  a-named = (refl, digits-word i (omega arith))

  pub b-named : IsName kind.Variable (b_name i)
  b-named = (refl, digits-word i (omega arith))

  pub s-named : IsName kind.Variable (s_name i)
  s-named = (refl, digits-word i (omega arith))

  pub c-named : IsName kind.Variable (c_name i)
  c-named = (refl, digits-word i (omega arith))

pub carry-goes : (i d : ℕ) → i ≤ 64 → d + i < 200 → Goes Unary d (carry_text i) (one (carry_form i))
carry-goes zero d l u = variable-goes d (codes "C0") (omega arith) (refl, refl)
carry-goes (suc i) d l u =
    let a : (e : ℕ) → e < 257 → Goes Unary e (a_name i) (one (Variable (a_name i))) = λ e w. variable-goes e (a_name i) w (a-named i (omega arith)) in
    let b : (e : ℕ) → e < 257 → Goes Unary e (b_name i) (one (Variable (b_name i))) = λ e w. variable-goes e (b_name i) w (b-named i (omega arith)) in
    let both : Form = And (forms_of (Variable (a_name i) ∷ Variable (b_name i) ∷ [])) in
    let some : Form = Or (forms_of (Variable (a_name i) ∷ Variable (b_name i) ∷ [])) in
    let on : Form = And (forms_of (some ∷ carry_form i ∷ [])) in
    let sum : Text = 40 ∷ ((a_name i ++ (43 ∷ b_name i)) ++ (41 ∷ [])) in
    subst (λ t. Goes Unary d t (one (carry_form (suc i)))) (sym (carry-shape (a_name i) (b_name i) (carry_text i)))
    (group-goes d ((a_name i ++ (42 ∷ b_name i)) ++ (43 ∷ (sum ++ (42 ∷ carry_text i)))) (Or (forms_of (both ∷ on ∷ []))) (omega arith)
    (plus-goes (suc d) (a_name i ++ (42 ∷ b_name i)) (sum ++ (42 ∷ carry_text i)) both on (omega arith)
    (as-hash (suc d) (a_name i ++ (42 ∷ b_name i)) both (star-goes (suc d) (a_name i) (b_name i) (Variable (a_name i)) (Variable (b_name i)) (omega arith) (a (suc d) (omega arith)) (b (suc d) (omega arith))))
    (as-hash (suc d) (sum ++ (42 ∷ carry_text i)) on (star-goes (suc d) sum (carry_text i) some (carry_form i) (omega arith)
    (group-goes (suc d) (a_name i ++ (43 ∷ b_name i)) some (omega arith)
    (plus-goes (suc (suc d)) (a_name i) (b_name i) (Variable (a_name i)) (Variable (b_name i)) (omega arith)
    (as-hash (suc (suc d)) (a_name i) (Variable (a_name i)) (as-star (suc (suc d)) (a_name i) (Variable (a_name i)) (a (suc (suc d)) (omega arith))))
    (as-hash (suc (suc d)) (b_name i) (Variable (b_name i)) (as-star (suc (suc d)) (b_name i) (Variable (b_name i)) (b (suc (suc d)) (omega arith))))))
    (carry-goes i (suc d) (omega arith) (omega arith))))))

pub sum-goes : (i d : ℕ) → i ≤ 64 → d + i < 200 → Goes (Chain Plus) d (sum_text i) (one (sum_form i))
sum-goes i d l u =
    subst (λ t. Goes (Chain Plus) d t (one (sum_form i))) (sym (sum-shape (a_name i) (b_name i) (carry_text i)))
    (as-plus d (a_name i ++ (35 ∷ (b_name i ++ (35 ∷ carry_text i)))) (sum_form i)
    (hash-goes d (a_name i) (b_name i) (carry_text i) (Variable (a_name i)) (Variable (b_name i)) (carry_form i) (omega arith)
    (as-star d (a_name i) (Variable (a_name i)) (variable-goes d (a_name i) (omega arith) (a-named i (omega arith))))
    (as-star d (b_name i) (Variable (b_name i)) (variable-goes d (b_name i) (omega arith) (b-named i (omega arith))))
    (as-star d (carry_text i) (carry_form i) (carry-goes i d l u))))

-- ---- lists

-- texts that are read as these forms, one by one
abbrev pub AllGo : ℕ → List Text → List Form → Type 0
AllGo d [] [] = Unit {0}
AllGo d (x ∷ xs) (f ∷ fs) = Goes (Chain Plus) d x (one f) × AllGo d xs fs
AllGo d _ _ = ⊥

pub joined-goes : (d : ℕ) (x : Text) (f : Form) (xs : List Text) (fs : List Form) → d < 257 → Goes (Chain Plus) d x (one f) → AllGo d xs fs → Goes Exprs d (joined (codes ",") (x ∷ xs)) (forms_of (f ∷ fs))
joined-goes d x f [] [] small go h = exprs-one d x f go
joined-goes d x f [] (g ∷ gs) small go h = absurd h
joined-goes d x f (y ∷ ys) [] small go h = absurd h
joined-goes d x f (y ∷ ys) (g ∷ gs) small go h =
    subst (λ t. Goes Exprs d t (forms_of (f ∷ g ∷ gs))) (sym (append_assoc x (codes ",") (joined (codes ",") (y ∷ ys))))
    (exprs-more d x (joined (codes ",") (y ∷ ys)) f (forms_of (g ∷ gs)) small go (joined-goes d y g ys gs small h.0 h.1))

pub names-go : (d : ℕ) (xs : List Text) → d < 257 → Each (IsName kind.Variable) xs → AllGo d xs (map Variable xs)
names-go d [] small h = tt
names-go d (x ∷ xs) small h = (as-chain d x (Variable x) (variable-goes d x small h.0), names-go d xs small h.1)

pub nets-go : (d : ℕ) (x : Text) (xs : List Text) → suc d < 257 → Each (IsName kind.Variable) (x ∷ xs) → Goes (Chain Plus) d (bracketed (joined (codes ",") (x ∷ xs))) (one (list_form (x ∷ xs)))
nets-go d x xs small h =
    as-chain d (bracketed (joined (codes ",") (x ∷ xs))) (list_form (x ∷ xs))
    (list-goes d (joined (codes ",") (x ∷ xs)) (forms_of (map Variable (x ∷ xs))) small
    (joined-goes (suc d) x (Variable x) xs (map Variable xs) small (as-chain (suc d) x (Variable x) (variable-goes (suc d) x small h.0)) (names-go (suc d) xs small h.1)))

-- ---- instances

-- an instance with its pins, none of the lists empty
abbrev pub instance_text : Text → Text → List Text → Text → List Text → Text
instance_text w x xs y ys = called w (then_comma (bracketed (joined (codes ",") (x ∷ xs))) (bracketed (joined (codes ",") (y ∷ ys))))

pub instance-goes : (d : ℕ) (w x : Text) (xs : List Text) (y : Text) (ys : List Text) → suc (suc d) < 257 → IsName kind.Atom w → Each (IsName kind.Variable) (x ∷ xs) → Each (IsName kind.Variable) (y ∷ ys) →
    Goes (Chain Plus) d (instance_text w x xs y ys) (one (Name w (forms_of (list_form (x ∷ xs) ∷ list_form (y ∷ ys) ∷ []))))
instance-goes d w x xs y ys small n hx hy =
    term-goes d w (then_comma (bracketed (joined (codes ",") (x ∷ xs))) (bracketed (joined (codes ",") (y ∷ ys)))) (forms_of (list_form (x ∷ xs) ∷ list_form (y ∷ ys) ∷ [])) (omega arith) n
    (exprs-more (suc d) (bracketed (joined (codes ",") (x ∷ xs))) (bracketed (joined (codes ",") (y ∷ ys))) (list_form (x ∷ xs)) (one (list_form (y ∷ ys))) (omega arith)
    (nets-go (suc d) x xs small hx)
    (exprs-one (suc d) (bracketed (joined (codes ",") (y ∷ ys))) (list_form (y ∷ ys)) (nets-go (suc d) y ys small hy)))

pub part-goes : (i d : ℕ) → i < 2 ^ 31 → suc (suc d) < 257 → Goes (Chain Plus) d (part_text i) (one (instance_form (adder_part i)))
part-goes i d h small =
    subst (λ t. Goes (Chain Plus) d t (one (instance_form (adder_part i)))) (sym (part-shape (a_name i) (b_name i) (c_name i) (s_name i) (c_name (suc i))))
    (instance-goes d (codes "full") (a_name i) (b_name i ∷ c_name i ∷ []) (s_name i) (c_name (suc i) ∷ []) small (refl, refl)
    (a-named i (omega arith), (b-named i (omega arith), (c-named i (omega arith), tt))) (s-named i (omega arith), (c-named (suc i) (omega arith), tt)))
