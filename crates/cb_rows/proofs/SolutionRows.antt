-- Solutions, tables, the parametric form, steps and circuits, at small cases.
use Rattle.std.proofs.Common.{◌≡◌, ℕ, zero, suc, ◌<◌, Bool, true, false, not, List, [], ◌∷◌, ◌++◌, map, refl, sym, ◌∙◌, ap, subst, inl, inr, arith, lit<, nat_lt, pos}
use Rattle.std.specs.Prelude.{Option, Some, None, ◌==◌, ◌&&◌, option_to_list}
use Rattle.std.specs.List.{list_all}
use Rattle.cb_model.specs.declared.Sort.TheVariants as sort
use Rattle.cb_model.specs.declared.Expr.{Expr}
use Rattle.cb_model.specs.declared.Expr.TheVariants as expr
use Rattle.cb_model.specs.declared.Expr.TheOpen.{Expr-F}
use Rattle.cb_model.specs.declared.Expr.TheFolds.{fold-roll-Expr}
use Rattle.cb_model.specs.declared.Tree.{Tree}
use Rattle.cb_model.specs.declared.Tree.TheVariants as tree
use Rattle.cb_model.specs.declared.Tree.TheOpen.{Tree-F}
use Rattle.cb_model.specs.declared.Tree.TheFolds.{fold-roll-Tree}
use Rattle.cb_model.specs.declared.GateKind.TheVariants as gate
use Rattle.cb_model.specs.Bits.{Bits, Each, none, xor, all_of, AgreeBelow}
use Rattle.cb_model.specs.Values.{IsValuation, Ground, Bit, Word, Name, More, Fits, in_scope, in_scope_step, tree_in_scope, tree_in_scope_step}
use Rattle.cb_model.specs.Equations.{SolvedAt, Refuted, ReadsBelow, Solves, TableBit, TableInt, TableName, NoTabled, OneTabled, TabledBelow, valued}
use Rattle.cb_model.specs.Derivation.{Entry, Run, Try, Step, Answered, Dropped, Adds, event_of}
use Rattle.cb_model.specs.Answers.{Picks, Gen, Denotes}
use Rattle.cb_model.specs.Circuits.{Consistent}
use Rattle.cb_model.specs.Sound.{HasOneValuation}
use Rattle.cb_laws.proofs.Values.{expr_values, tree_values}
use Rattle.cb_laws.proofs.Tables.{with_bits, zero_fits, bits_equal}
use Rattle.cb_rows.specs.TryRow as try
use Rattle.cb_rows.proofs.TryRow as try_proof
use Rattle.cb_rows.specs.CircuitGoalRow.{half}
use Rattle.cb_rows.specs.SolutionExamples.{first_or, arguments, world, zeros, ones, at_one, bit_item, items, only_at_ones, bit_for_term, constant, always, with_tables, differing, without_beginning, half_beginning, Passes, below, answer, fails, turning, SolutionExamples}

-- ---- scope

module _ (c v : ℕ) where
  scope-const : (k : ℕ) → in_scope c v (expr.Const k) ≡ nat_lt k c
  scope-const k = ap (in_scope c v) (sym (expr.rolls-Const k)) ∙ fold-roll-Expr Bool (in_scope_step c v) (Expr-F.Const k)

  scope-var : (n : ℕ) → in_scope c v (expr.Var n) ≡ nat_lt n v
  scope-var n = ap (in_scope c v) (sym (expr.rolls-Var n)) ∙ fold-roll-Expr Bool (in_scope_step c v) (Expr-F.Var n)

  scope-not : (e : Expr) → in_scope c v (expr.Not e) ≡ in_scope c v e
  scope-not e = ap (in_scope c v) (sym (expr.rolls-Not e)) ∙ fold-roll-Expr Bool (in_scope_step c v) (Expr-F.Not e)

  scope-and : (es : List Expr) → in_scope c v (expr.And es) ≡ all_of (map (in_scope c v) es)
  scope-and es = ap (in_scope c v) (sym (expr.rolls-And es)) ∙ fold-roll-Expr Bool (in_scope_step c v) (Expr-F.And es)

  scope-or : (es : List Expr) → in_scope c v (expr.Or es) ≡ all_of (map (in_scope c v) es)
  scope-or es = ap (in_scope c v) (sym (expr.rolls-Or es)) ∙ fold-roll-Expr Bool (in_scope_step c v) (Expr-F.Or es)

  scope-bus : (es : List Expr) (t : Option ℕ) → tree_in_scope c v (tree.Bus es t) ≡ (list_all (in_scope c v) es && list_all (λ n. nat_lt n v) (option_to_list t))
  scope-bus es t = ap (tree_in_scope c v) (sym (tree.rolls-Bus es t)) ∙ fold-roll-Tree Bool (tree_in_scope_step c v) (Tree-F.Bus es t)

  scope-node : (n : ℕ) (ts : List Tree) → tree_in_scope c v (tree.Node n ts) ≡ all_of (map (tree_in_scope c v) ts)
  scope-node n ts = ap (tree_in_scope c v) (sym (tree.rolls-Node n ts)) ∙ fold-roll-Tree Bool (tree_in_scope_step c v) (Tree-F.Node n ts)

ruleset scopes = (scope-const, scope-var, scope-not, scope-and, scope-or, scope-bus, scope-node)

-- ---- equations

solved : SolvedAt world only_at_ones ones
solved = record { b = with_bits ones; sorted = λ n. zero_fits; sat = (simp (tree_values, expr_values) refl, tt) }

refuted : Refuted world only_at_ones
refuted = record {
  a = zeros;
  admitted = tt;
  none = λ b sorted s. let e : false ≡ true = bits_equal false true (simp (tree_values, expr_values) at s.0) in cc;
}

not_refuted : Refuted world (bit_item ∷ []) → ⊥
not_refuted r = r.none (with_bits (λ n. r.a 0)) (λ n. zero_fits) (simp (tree_values, expr_values) refl, tt)

values_fit : SolvedAt world bit_for_term ones → ⊥
values_fit h =
    let e : h.b.terms 0 ≡ Bit true = simp (tree_values, expr_values) at h.sat.0 in
    subst (Fits arguments sort.Term) e (h.sorted 0)

-- ---- tables

sorted : (a : Bits) → IsValuation world (valued (with_tables (constant 0) (constant 0) (constant 0)) a)
sorted a zero = (tt, tt)
sorted a (suc n) = zero_fits

solves : Solves world items (with_tables (constant 0) (constant 0) (constant 0))
solves a ok = record {
  admitted = tt;
  sorted = sorted a;
  sat = (simp (tree_values, expr_values) refl, (simp (tree_values, expr_values) refl, (simp (tree_values, expr_values) refl, tt)));
}

-- the bit of a value, the first of a list of bits, and the first argument of a name
abbrev bit_in : Ground → Bool
bit_in (Bit x) = x
bit_in (Word (x ∷ xs)) = x
bit_in (Name n (More (Bit x) gs)) = x
bit_in _ = false

wrong_bit : Solves world items (with_tables always (constant 0) (constant 0)) → ⊥
wrong_bit h = let e : true ≡ false = ap bit_in (simp (tree_values, expr_values) at (h zeros tt).sat.0) in cc

wrong_word : Solves world items (with_tables (constant 0) always (constant 0)) → ⊥
wrong_word h = let e : true ≡ false = ap bit_in (simp (tree_values, expr_values) at (h zeros tt).sat.1.0) in cc

wrong_term : Solves world items (with_tables (constant 0) (constant 0) always) → ⊥
wrong_term h = let e : true ≡ false = ap bit_in (simp (tree_values, expr_values) at (h zeros tt).sat.1.1.0) in cc

agree_below : AgreeBelow 1 zeros at_one
agree_below zero h = refl
agree_below (suc k) h = absurd (omega arith)

reads_below : ReadsBelow 2 (λ a. xor (a 0) (a 1))
reads_below a a' h = ap (λ x. xor x (a 1)) (h 0 (lit< tt)) ∙ ap (xor (a' 0)) (h 1 (lit< tt))

reads_first : ReadsBelow 1 (constant 0)
reads_first a a' h = h 0 (lit< tt)

reads_bits : (n : ℕ) → ReadsBelow 1 (first_or (constant 0) always n)
reads_bits zero = reads_first
reads_bits (suc n) = λ a a' h. refl

reads_words : (n : ℕ) → Each (ReadsBelow 1) (first_or (constant 0 ∷ []) [] n)
reads_words zero = (reads_first, tt)
reads_words (suc n) = tt

reads_terms : (n : ℕ) → TabledBelow 1 (first_or (TableName 0 (OneTabled (TableBit (constant 0)) NoTabled)) (TableInt (pos 0)) n)
reads_terms zero = (reads_first, tt)
reads_terms (suc n) = tt

reads_second : ReadsBelow 1 (constant 1) → ⊥
reads_second h = let e : false ≡ true = h zeros at_one agree_below in cc

-- ---- the parametric form

no_second : Picks (Passes differing) (true ∷ []) true true → ⊥
no_second (inl h) = let e : false ≡ true = h.0 in cc
no_second (inr h) = let e : true ≡ false = h.1 in cc

no_first : Picks (Passes differing) [] true false → ⊥
no_first (inl h) = let e : false ≡ true = h.1 in cc
no_first (inr h) = h.0 refl

-- the other bit differs where this one doesn't
flip : (x y : Bool) → (xor x y ≡ true → ⊥) → xor x (not y) ≡ true
flip true true h = refl
flip true false h = absurd (h refl)
flip false true h = absurd (h refl)
flip false false h = refl

second : (x y v : Bool) → Picks (Passes differing) (x ∷ []) v y → xor x y ≡ true
second x y v (inl h) = ap (xor x) h.1 ∙ h.0
second x y v (inr h) = ap (xor x) h.1 ∙ flip x v h.0

given : (x y : Bool) (ys : List Bool) → Gen (Passes differing) [] ys (x ∷ y ∷ []) → xor x y ≡ true
given x y [] g = absurd g
given x y (u ∷ []) g = absurd g.1
given x y (u ∷ v ∷ ys) g = second x y v g.1.0

denotes : Denotes (Passes differing) 2
denotes [] e = absurd (cc)
denotes (x ∷ []) e = absurd (omega arith)
denotes (x ∷ y ∷ []) e = ((λ r. (x ∷ y ∷ [], refl, (inl (refl, refl), (inl (r, refl), tt)))), λ g. given x y g.0 g.2)
denotes (x ∷ y ∷ z ∷ zs) e = absurd (omega arith)

gives_too_many : Denotes (Passes without_beginning) 2 → ⊥
gives_too_many h =
    let e : false ≡ true = (h (true ∷ true ∷ []) refl).1 (false ∷ false ∷ [], refl, (inr ((λ e. cc), refl), (inr ((λ e. cc), refl), tt))) in
    cc

no_one : (u : Bool) → Picks (Passes half_beginning) [] u true → ⊥
no_one true (inl h) = let e : false ≡ true = h.0 in cc
no_one false (inl h) = let e : true ≡ false = h.1 in cc
no_one true (inr h) = let e : true ≡ false = h.1 in cc
no_one false (inr h) = h.0 refl

begins_with_one : (ys : List Bool) → Gen (Passes half_beginning) [] ys (true ∷ true ∷ []) → ⊥
begins_with_one [] g = g
begins_with_one (u ∷ us) g = no_one u g.0

gives_too_few : Denotes (Passes half_beginning) 2 → ⊥
gives_too_few h = let g = (h (true ∷ true ∷ []) refl).0 refl in begins_with_one g.0 g.2

-- ---- steps

prints_always : Step try.p (Run answer) below below None → ⊥
prints_always s = let e : None ≡ Some answer = s.gives ∙ ap event_of s.moves in cc

nothing_below : (es : List Entry) → [] ≡ es ++ below → ⊥
nothing_below [] e = cc
nothing_below (x ∷ es) e = cc

drops_silently : Step try.p (Run fails) below below (Some fails) → ⊥
drops_silently s = let e : Some fails ≡ None = s.gives ∙ ap event_of s.moves in cc

drops_refuted : Step try.p (Run (try.called expr.Zero)) below below None
drops_refuted = record { change = Adds 0 [] (try.equated expr.Zero); moves = refl; entries = []; replaces = inr (try_proof.zero_not_one, refl); stack = refl; gives = refl }

tries : Step try.p (Try try.behind 0 (try.X ∷ []) 0) below (Run (try.called expr.Zero) ∷ Try try.behind 0 (try.X ∷ []) 1 ∷ below) None
tries = record {
  change = Adds 1 (Try try.behind 0 (try.X ∷ []) 1 ∷ []) (try.called expr.Zero);
  moves = (try.fact expr.Zero, refl, refl);
  entries = Run (try.called expr.Zero) ∷ Try try.behind 0 (try.X ∷ []) 1 ∷ [];
  replaces = inl (try_proof.calls_zero, (try.called expr.Zero, (record { ready = []; rest = []; parts = none; is = refl }, refl)));
  stack = refl;
  gives = refl;
}

-- ---- circuits

only_this : (w : List Bool) → Consistent half (true ∷ true ∷ []) w → w ≡ true ∷ true ∷ false ∷ true ∷ []
only_this [] k = let n = k.every_net in absurd (omega arith)
only_this (a ∷ []) k = let n = k.every_net in absurd (omega arith)
only_this (a ∷ b ∷ []) k = let n = k.every_net in absurd (omega arith)
only_this (a ∷ b ∷ s ∷ []) k = let n = k.every_net in absurd (omega arith)
only_this (true ∷ true ∷ s ∷ c ∷ []) k = ap (λ x. true ∷ true ∷ x ∷ c ∷ []) k.gates.0 ∙ ap (λ y. true ∷ true ∷ false ∷ y ∷ []) k.gates.1.0
only_this (true ∷ false ∷ s ∷ c ∷ []) k = let e : true ∷ false ∷ [] ≡ true ∷ true ∷ [] = k.inputs in absurd (cc)
only_this (false ∷ b ∷ s ∷ c ∷ []) k = let e : false ∷ b ∷ [] ≡ true ∷ true ∷ [] = k.inputs in absurd (cc)
only_this (a ∷ b ∷ s ∷ c ∷ d ∷ ws) k = let n = k.every_net in absurd (omega arith)

one_valuation : HasOneValuation half (true ∷ true ∷ [])
one_valuation = record { v = true ∷ true ∷ false ∷ true ∷ []; consistent = record { every_net = refl; inputs = refl; gates = (refl, (refl, tt)) }; only = only_this }

not_itself : (x : Bool) → x ≡ not x → ⊥
not_itself true e = cc
not_itself false e = cc

turns : (x : Bool) → Consistent (turning gate.Buf) [] (x ∷ [])
turns x = record { every_net = refl; inputs = refl; gates = (refl, tt) }

two_valuations : HasOneValuation (turning gate.Buf) [] → ⊥
two_valuations h = let e : true ∷ [] ≡ false ∷ [] = h.only (true ∷ []) (turns true) ∙ sym (h.only (false ∷ []) (turns false)) in cc

pub rows_hold : SolutionExamples
rows_hold = record {
  bit_fits = tt;
  word_fits = tt;
  name_fits = (tt, tt);
  wrong_argument = λ h. h.0;
  too_few = λ h. h;
  too_many = λ h. h.1;
  past_table = tt;
  past_table_none = λ h. h;
  bit_is_no_term = λ h. h;
  scope = simp scopes refl;
  variable_scope = simp scopes refl;
  tail_scope = simp scopes refl;
  item_scope = simp scopes refl;
  solved = solved;
  not_solved = λ h. let e : false ≡ true = bits_equal false true (simp (tree_values, expr_values) at h.sat.0) in cc;
  not_solvable = λ h. let e : false ≡ true = bits_equal false true (simp (tree_values, expr_values) at (h zeros tt).sat.0) in cc;
  refuted = refuted;
  not_refuted = not_refuted;
  values_fit = values_fit;
  solves = solves;
  wrong_bit = wrong_bit;
  wrong_word = wrong_word;
  wrong_term = wrong_term;
  agree_below = agree_below;
  reads_below = reads_below;
  reads_past = λ h. let e : false ≡ true = h zeros at_one agree_below in cc;
  reads_only = record { bits = reads_bits; words = reads_words; terms = reads_terms };
  reads_bit = λ h. reads_second (h.bits 0);
  reads_word = λ h. reads_second (h.words 0).0;
  reads_term = λ h. reads_second (h.terms 0).0;
  first_three = refl;
  some_odd = refl;
  none_of_none = refl;
  not_every_odd = refl;
  every_decided = refl;
  taken = (inl (refl, refl), (inl (refl, refl), tt));
  turned = (inl (refl, refl), (inr ((λ e. cc), refl), tt));
  not_kept = λ g. no_second g.1.0;
  not_turned = λ g. no_first g.0;
  denotes = denotes;
  gives_too_many = gives_too_many;
  gives_too_few = gives_too_few;
  prints = record { change = Answered answer; moves = refl; entries = []; replaces = refl; stack = refl; gives = refl };
  prints_always = prints_always;
  goes_below = λ s. nothing_below s.entries s.stack;
  drops = record { change = Dropped; moves = refl; entries = []; replaces = refl; stack = refl; gives = refl };
  drops_silently = drops_silently;
  drops_refuted = drops_refuted;
  tries = tries;
  consistent = record { every_net = refl; inputs = refl; gates = (refl, (refl, tt)) };
  wrong_output = λ c. let e : true ≡ false = c.gates.0 in cc;
  wrong_input = λ c. let e : true ∷ false ∷ [] ≡ true ∷ true ∷ [] = c.inputs in cc;
  a_net_less = λ c. let e : true ≡ false = ap (λ n. n == 3) c.every_net in cc;
  one_valuation = one_valuation;
  no_valuation = λ h. not_itself _ h.consistent.gates.0;
  two_valuations = two_valuations;
}
