-- Arguments at their places.
use Rattle.std.specs.Prelude.{IfOk, unwrap_or}
use Rattle.std.specs.Bool.{if◌then◌else◌}
use Rattle.std.specs.Borrow.{Bor}
use Rattle.std.proofs.Common.{◌≡◌, ℕ, zero, suc, ◌+◌, ◌<◌, ◌≤◌, Bool, true, false, List, [], ◌∷◌, ◌++◌, drop, length, get_or, Option, Some, None, Result, Ok, Err, slice_get, bytes_eq, codes, refl, sym, ◌∙◌, ap, arith, add-one}
use Rattle.std.proofs.lemmas.List.{append-nil, append_assoc}
use Rattle.cb_model.specs.Text.{Text}
use Rattle.cb_model.specs.declared.RawTerm.{RawTerm}
use Rattle.cb_model.specs.declared.Sort.{Sort}
use Rattle.cb_model.specs.declared.Sort.TheVariants as sort
use Rattle.cb_model.specs.declared.Tree.{Tree}
use Rattle.cb_model.specs.declared.Tree.TheVariants as tree
use Rattle.cb_model.specs.Grammar.{Form, Forms, Variable, Integer, Name, Closed, Open, Not, And, Xor, Or, Last, More}
use Rattle.cb_model.specs.declared.Goal.{Goal}
use Rattle.cb_model.specs.declared.Goal.TheVariants as goal
use Rattle.cb_model.specs.Loading.{first_atom, module_number, circuit_goal, call_goal, head_sign}
use Rattle.cb_known.specs.Modules.{number_of, AreNumbers}
use Rattle.cb_model.specs.Forms.{form_of}
use Rattle.cb_model.specs.Directives.{Declared, Sign, same_sign, nothing, sorts_of, count_of}
use Rattle.cb_model.specs.Sorts.{own_name, apart, apart_all, Numbering, as_tree, as_trees, as_arguments, sign_number, circuit_sign}
use Rattle.cb_directives.proofs.Reading.{count_forms, drop_past}
use Rattle.cb_trees.specs.Places.{sorts_given}
use Rattle.cb_trees.proofs.Walk.{all_forms, opened}

-- ---- the sort of a place

undeclared_at : (n k : ℕ) → k < length (sorts_of nothing ([], n)) → slice_get (sorts_of nothing ([], n)) k ≡ Some sort.Term
undeclared_at zero k h = absurd (omega arith)
undeclared_at (suc n) zero h = refl
undeclared_at (suc n) (suc k) h = undeclared_at n k (omega arith)

pub undeclared_sort : (o : Option (Bor (List Sort))) (n k : ℕ) → o ≡ None → k < length (sorts_given o n) → slice_get (sorts_given o n) k ≡ Some sort.Term
undeclared_sort None n k e h = undeclared_at n k h
undeclared_sort (Some s) n k e h = absurd (cc)

-- ---- a name with its arguments

count_apart : (fs : Forms) (k : ℕ) → count_of (apart_all fs k).0 ≡ count_of fs
count_apart Last k = refl
count_apart (More f fs) k = ap suc (count_apart fs (apart f k).1)

pub compound_is : (d : Declared) (n : Numbering) (x : Text) (ts : List RawTerm) (own number : ℕ) (trees : List Tree) (ss : List Sort) → number ≡ sign_number n.names (x, length ts) →
    ss ≡ sorts_of d (x, length ts) → trees ≡ as_trees d n ss (apart_all (all_forms ts) own).0 → tree.Node number trees ≡ as_tree d n sort.Term (Name x (apart_all (all_forms ts) own).0)
compound_is d n x ts own number trees ss e s t =
    let c : length ts ≡ count_of (apart_all (all_forms ts) own).0 = sym (count_apart (all_forms ts) own ∙ count_forms ts) in
    (λ j. tree.Node (e j) (t j)) ∙ ap (λ (l : List Sort). tree.Node (sign_number n.names (x, length ts)) (as_trees d n l (apart_all (all_forms ts) own).0)) s
    ∙ ap (λ m. tree.Node (sign_number n.names (x, m)) (as_trees d n (sorts_of d (x, m)) (apart_all (all_forms ts) own).0)) c

-- ---- arguments one after another

abbrev pub TreesSoFar : Declared → Numbering → List Sort → List RawTerm → ℕ → ℕ → ℕ → List Tree → Type 0
TreesSoFar d n ss ts start i own now = as_trees d n ss (apart_all (all_forms ts) start).0 ≡ now ++ as_trees d n (drop i ss) (apart_all (all_forms (drop i ts)) own).0

sort_here : (ss : List Sort) (i : ℕ) (s : Sort) → Some s ≡ slice_get ss i → drop i ss ≡ s ∷ drop (suc i) ss
sort_here [] zero s h = absurd (cc)
sort_here [] (suc i) s h = absurd (cc)
sort_here (x ∷ ss) zero s h = let e : x ≡ s = cc in ap (λ (y : Sort). y ∷ ss) e
sort_here (x ∷ ss) (suc i) s h = sort_here ss i s h

module _ (d : Declared) (n : Numbering) (ss : List Sort) (ts : List RawTerm) (i : ℕ) (t : RawTerm) (h : i < length ts) (at : t ≡ get_or ts i t) where
  pub trees_on : (start own next : ℕ) (now then' : List Tree) (s : Sort) (x : Tree) → TreesSoFar d n ss ts start i own now → Some s ≡ slice_get ss i →
      x ≡ as_tree d n s (apart (form_of t) own).0 → next ≡ (apart (form_of t) own).1 → then' ≡ now ++ x ∷ [] → TreesSoFar d n ss ts start (i + 1) next then'
  trees_on start own next now then' s x so g e k p =
      so ∙ ap (λ (fs : Forms). now ++ as_trees d n (drop i ss) (apart_all fs own).0) (opened ts i t h at)
      ∙ ap (λ (l : List Sort). now ++ as_trees d n l (apart_all (More (form_of t) (all_forms (drop (i + 1) ts))) own).0) (sort_here ss i s g ∙ ap (λ m. s ∷ drop m ss) (sym (add-one i)))
      ∙ ap (λ (y : Tree). now ++ y ∷ as_trees d n (drop (i + 1) ss) (apart_all (all_forms (drop (i + 1) ts)) (apart (form_of t) own).1).0) (sym e)
      ∙ ap (λ m. now ++ x ∷ as_trees d n (drop (i + 1) ss) (apart_all (all_forms (drop (i + 1) ts)) m).0) (sym k)
      ∙ sym (append_assoc now (x ∷ []) (as_trees d n (drop (i + 1) ss) (apart_all (all_forms (drop (i + 1) ts)) next).0))
      ∙ ap (λ (l : List Tree). l ++ as_trees d n (drop (i + 1) ss) (apart_all (all_forms (drop (i + 1) ts)) next).0) (sym p)

pub trees_end : (d : Declared) (n : Numbering) (ss : List Sort) (ts : List RawTerm) (start i own : ℕ) (now : List Tree) → length ts ≤ i → TreesSoFar d n ss ts start i own now →
    now ≡ as_trees d n ss (apart_all (all_forms ts) start).0
trees_end d n ss ts start i own now h so =
    sym (so ∙ ap (λ (l : List RawTerm). now ++ as_trees d n (drop i ss) (apart_all (all_forms l) own).0) (drop_past ts i h) ∙ ap (λ (l : List Tree). now ++ l) (none (drop i ss)) ∙ append-nil now)
  where
    none : (ss : List Sort) → as_trees d n ss Last ≡ []
    none [] = refl
    none (s ∷ ss) = refl

pub arguments_is : {E : Type 0} (q : Result (List Tree) E) (d : Declared) (n : Numbering) (f : Form) (x : Text) (ts : List RawTerm) (own : ℕ) (ss : List Sort) → f ≡ Name x (all_forms ts) →
    ss ≡ sorts_of d (x, length ts) → IfOk q (λ l. l ≡ as_trees d n ss (apart_all (all_forms ts) own).0) → IfOk q (λ l. l ≡ as_arguments d n (apart f own).0)
arguments_is (Err e) d n f x ts own ss e' s h = tt
arguments_is (Ok l) d n f x ts own ss e s h =
    let c : length ts ≡ count_of (apart_all (all_forms ts) own).0 = sym (count_apart (all_forms ts) own ∙ count_forms ts) in
    h ∙ ap (λ (l : List Sort). as_trees d n l (apart_all (all_forms ts) own).0) (s ∙ ap (λ m. sorts_of d (x, m)) c)
    ∙ sym (ap (λ (g : Form). as_arguments d n (apart g own).0) e)

-- ---- goals

abbrev atom_of : Form → Option Text
atom_of f = first_atom (Name [] (More f Last))

atom_apart : (f : Form) (k : ℕ) → atom_of (apart f k).0 ≡ atom_of f
atom_apart (Variable x) k = step (bytes_eq x (codes "_"))
  where
    step : (b : Bool) → atom_of (if◌then◌else◌ {A = Form × ℕ} b (Variable (own_name k), suc k) (Variable x, k)).0 ≡ None
    step true = refl
    step false = refl
atom_apart (Integer z) k = refl
atom_apart (Name x Last) k = refl
atom_apart (Name x (More f fs)) k = refl
atom_apart (Closed fs) k = refl
atom_apart (Open fs f) k = refl
atom_apart (Not f) k = refl
atom_apart (And fs) k = refl
atom_apart (Xor fs) k = refl
atom_apart (Or fs) k = refl

first_alone : (x : Text) (f : Form) (fs : Forms) → first_atom (Name x (More f fs)) ≡ atom_of f
first_alone x (Variable y) fs = refl
first_alone x (Integer z) fs = refl
first_alone x (Name y Last) fs = refl
first_alone x (Name y (More g gs)) fs = refl
first_alone x (Closed gs) fs = refl
first_alone x (Open gs g) fs = refl
first_alone x (Not g) fs = refl
first_alone x (And gs) fs = refl
first_alone x (Xor gs) fs = refl
first_alone x (Or gs) fs = refl

module _ (d : Declared) (n : Numbering) (ms : List (Option Text)) where
  abbrev module_of : Option Text → ℕ
  module_of o = unwrap_or (module_number ms (unwrap_or o [])) 0

  abbrev module_for : List RawTerm → ℕ
  module_for ts = module_of (first_atom (Name [] (all_forms ts)))

  circuit_of : (x : Text) (a b c : RawTerm) (own : ℕ) →
      goal.Circuit (module_of (first_atom (Name [] (all_forms (a ∷ b ∷ c ∷ []))))) (as_tree d n sort.Bus (apart (form_of b) (apart (form_of a) own).1).0)
      (as_tree d n sort.Bus (apart (form_of c) (apart (form_of b) (apart (form_of a) own).1).1).0) ≡ circuit_goal d n ms (Name x (apart_all (all_forms (a ∷ b ∷ c ∷ [])) own).0)
  circuit_of x a b c own =
      ap (λ (o : Option Text). goal.Circuit (module_of o) (as_tree d n sort.Bus (apart (form_of b) (apart (form_of a) own).1).0)
      (as_tree d n sort.Bus (apart (form_of c) (apart (form_of b) (apart (form_of a) own).1).1).0))
      (first_alone [] (form_of a) (all_forms (b ∷ c ∷ [])) ∙ sym (atom_apart (form_of a) own) ∙ sym (first_alone x (apart (form_of a) own).0 Last))

  pub circuit_is : (es : List (Sign × ℕ)) (x name : Text) (ts : List RawTerm) (a b c : RawTerm) (own own1 own2 number : ℕ) (ins outs : Tree) → AreNumbers ms es → length ts ≡ 3 →
      a ≡ get_or ts 0 a → b ≡ get_or ts 1 b → c ≡ get_or ts 2 c → name ≡ unwrap_or (first_atom (Name [] (all_forms ts))) [] → number ≡ unwrap_or (number_of es name) 0 →
      own1 ≡ (apart (form_of a) own).1 → ins ≡ as_tree d n sort.Bus (apart (form_of b) own1).0 → own2 ≡ (apart (form_of b) own1).1 → outs ≡ as_tree d n sort.Bus (apart (form_of c) own2).0 →
      goal.Circuit number ins outs ≡ circuit_goal d n ms (Name x (apart_all (all_forms ts) own).0)
  circuit_is es x name [] a b c own own1 own2 number ins outs same l p q r na nu o1 i o2 o = absurd (cc)
  circuit_is es x name (t ∷ []) a b c own own1 own2 number ins outs same l p q r na nu o1 i o2 o = absurd (omega (arith, l))
  circuit_is es x name (t ∷ u ∷ []) a b c own own1 own2 number ins outs same l p q r na nu o1 i o2 o = absurd (omega (arith, l))
  circuit_is es x name (t ∷ u ∷ v ∷ w ∷ ts) a b c own own1 own2 number ins outs same l p q r na nu o1 i o2 o = absurd (omega (arith, l))
  circuit_is es x name (t ∷ u ∷ v ∷ []) a b c own own1 own2 number ins outs same l p q r na nu o1 i o2 o =
      (λ j. goal.Circuit (nu j) (i j) (o j))
      ∙ ap (λ (y : Text). goal.Circuit (unwrap_or (number_of es y) 0) (as_tree d n sort.Bus (apart (form_of b) own1).0) (as_tree d n sort.Bus (apart (form_of c) own2).0)) na
      ∙ ap (λ (m : Option ℕ). goal.Circuit (unwrap_or m 0) (as_tree d n sort.Bus (apart (form_of b) own1).0) (as_tree d n sort.Bus (apart (form_of c) own2).0)) (same (unwrap_or (first_atom (Name [] (all_forms (t ∷ u ∷ v ∷ [])))) []))
      ∙ ap (λ k. goal.Circuit (module_for (t ∷ u ∷ v ∷ [])) (as_tree d n sort.Bus (apart (form_of b) own1).0) (as_tree d n sort.Bus (apart (form_of c) k).0)) o2
      ∙ ap (λ k. goal.Circuit (module_for (t ∷ u ∷ v ∷ [])) (as_tree d n sort.Bus (apart (form_of b) k).0) (as_tree d n sort.Bus (apart (form_of c) (apart (form_of b) k).1).0)) o1
      ∙ ap (λ (y : RawTerm). goal.Circuit (module_for (t ∷ u ∷ v ∷ [])) (as_tree d n sort.Bus (apart (form_of b) (apart (form_of y) own).1).0) (as_tree d n sort.Bus (apart (form_of c) (apart (form_of b) (apart (form_of y) own).1).1).0)) p
      ∙ ap (λ (y : RawTerm). goal.Circuit (module_for (t ∷ u ∷ v ∷ [])) (as_tree d n sort.Bus (apart (form_of y) (apart (form_of t) own).1).0) (as_tree d n sort.Bus (apart (form_of c) (apart (form_of y) (apart (form_of t) own).1).1).0)) q
      ∙ ap (λ (y : RawTerm). goal.Circuit (module_for (t ∷ u ∷ v ∷ [])) (as_tree d n sort.Bus (apart (form_of u) (apart (form_of t) own).1).0) (as_tree d n sort.Bus (apart (form_of y) (apart (form_of u) (apart (form_of t) own).1).1).0)) r
      ∙ circuit_of x t u v own

  abbrev chosen : (t f c : Bool) → Goal → Goal → Goal
  chosen t f c a b = if t then goal.True else (if f then goal.Fail else (if c then a else b))

  module _ (x : Text) (ts : List RawTerm) (own : ℕ) where
    abbrev behind : Forms
    behind = (apart_all (all_forms ts) own).0

    count_is : count_of behind ≡ length ts
    count_is = count_apart (all_forms ts) own ∙ count_forms ts

    unfolded : call_goal d n ms (Name x behind) ≡ chosen (same_sign (x, length ts) (codes "true", 0)) (same_sign (x, length ts) (codes "fail", 0)) (same_sign (x, length ts) circuit_sign)
        (circuit_goal d n ms (Name x behind)) (goal.Call (sign_number n.names (x, length ts)) (as_trees d n (sorts_of d (x, length ts)) behind))
    unfolded =
        ap (λ m. chosen (same_sign (x, m) (codes "true", 0)) (same_sign (x, m) (codes "fail", 0)) (same_sign (x, m) circuit_sign)
        (circuit_goal d n ms (Name x behind)) (goal.Call (sign_number n.names (x, m)) (as_trees d n (sorts_of d (x, m)) behind))) count_is

    module _ (t : false ≡ same_sign (x, length ts) (codes "true", 0)) (f : false ≡ same_sign (x, length ts) (codes "fail", 0)) where
      pub calls_circuit : (g : Goal) → true ≡ same_sign (x, length ts) circuit_sign → g ≡ circuit_goal d n ms (Name x behind) → g ≡ call_goal d n ms (Name x behind)
      calls_circuit g c e =
          e ∙ (λ j. chosen (t j) (f j) (c j) (circuit_goal d n ms (Name x behind)) (goal.Call (sign_number n.names (x, length ts)) (as_trees d n (sorts_of d (x, length ts)) behind))) ∙ sym unfolded

      pub calls_name : (number : ℕ) (trees : List Tree) (ss : List Sort) → false ≡ same_sign (x, length ts) circuit_sign → number ≡ sign_number n.names (x, length ts) →
          ss ≡ sorts_of d (x, length ts) → trees ≡ as_trees d n ss behind → goal.Call number trees ≡ call_goal d n ms (Name x behind)
      calls_name number trees ss c e s k =
          (λ j. goal.Call (e j) (k j)) ∙ ap (λ (l : List Sort). goal.Call (sign_number n.names (x, length ts)) (as_trees d n l behind)) s
          ∙ (λ j. chosen (t j) (f j) (c j) (circuit_goal d n ms (Name x behind)) (goal.Call (sign_number n.names (x, length ts)) (as_trees d n (sorts_of d (x, length ts)) behind))) ∙ sym unfolded

-- ---- the name of a head

pub head_is : {E : Type 0} (q : Result ℕ E) (names : List Sign) (f : Form) (x : Text) (ts : List RawTerm) → f ≡ Name x (all_forms ts) → IfOk q (λ k. k ≡ sign_number names (x, length ts)) →
    IfOk q (λ k. k ≡ sign_number names (head_sign f))
head_is (Err e) names f x ts h k = tt
head_is (Ok n) names f x ts h k = k ∙ ap (λ m. sign_number names (x, m)) (sym (count_forms ts)) ∙ sym (ap (λ (g : Form). sign_number names (head_sign g)) h)
