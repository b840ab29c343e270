-- Whether a goal is ready is decided, where the equations are solvable.
use Rattle.std.proofs.Common.{◌≡◌, ◌⊎◌, inl, inr, ℕ, zero, suc, ◌+◌, ◌≤◌, Bool, true, false, List, [], ◌∷◌, length, refl, sym, ◌∙◌, ap, subst, arith}
use Rattle.std.proofs.lemmas.Bool.{cases_eq}
use Rattle.std.proofs.lemmas.List.{length-map}
use Rattle.std.specs.Prelude.{Option, Some, None, slice_get, MatchBool}
use Rattle.std.specs.List.{list_all}
use Rattle.cb_model.specs.declared.When.{When}
use Rattle.cb_model.specs.declared.Tree.{Tree}
use Rattle.cb_model.specs.declared.Goal.{Goal}
use Rattle.cb_model.specs.declared.Goal.TheVariants as goal
use Rattle.cb_model.specs.declared.Clause.{Clause}
use Rattle.cb_model.specs.Values.{World, tree_in_scope, tree_value}
use Rattle.cb_model.specs.Equations.{Item, SolvedAt, Solvable}
use Rattle.cb_model.specs.Program.{Program}
use Rattle.cb_model.specs.Derivation.{WordHolds, WordsHold, Matches, RuleMatches, Ready, is_demon, words_of}
use Rattle.cb_laws.specs.Laws.{InScope, ReadyDecided}
use Rattle.cb_laws.proofs.Search.{Decision, both, equal_to}
use Rattle.cb_laws.proofs.Bounds.{items_wider, tree_wider, tree_bound}
use Rattle.cb_laws.proofs.Unified.{Solved, Outcome, unified}
use Rattle.cb_laws.proofs.Solutions.{item_pairs, none_meets}
use Rattle.cb_laws.proofs.ReadyWords.{word_holds}
use Rattle.cb_laws.proofs.Matching.{matches_decided}
use Rattle.cb_laws.proofs.Decided.{and_true, both_true}

pub trees_wider : (n m : ℕ) → n ≤ m → (xs : List Tree) → list_all (tree_in_scope n n) xs ≡ true → list_all (tree_in_scope m m) xs ≡ true
trees_wider n m l [] h = refl
trees_wider n m l (x ∷ xs) h = let q = and_true _ _ h in both_true _ _ (tree_wider n n m m l l x q.0) (trees_wider n m l xs q.1)

pub trees_bound : (xs : List Tree) → (n : ℕ) × (list_all (tree_in_scope n n) xs ≡ true)
trees_bound [] = (0, refl)
trees_bound (x ∷ xs) =
    let b = tree_bound x in
    let r = trees_bound xs in
    (b.0 + r.0, both_true _ _ (tree_wider b.0 b.0 (b.0 + r.0) (b.0 + r.0) (omega arith) (omega arith) x b.1) (trees_wider r.0 (b.0 + r.0) (omega arith) xs r.1))

module _ (w : World) (c v : ℕ) (es : List Item) (scope : InScope c v es) (solvable : Solvable w es) where
  abbrev first : SolvedAt w es (λ k. false)
  first = solvable (λ k. false) tt

  wider : (n : ℕ) → c ≤ n → v ≤ n → InScope n n es
  wider n l m = items_wider c v n n l m es scope

  pub solved : (n : ℕ) → InScope n n es → Solved w.arguments (item_pairs n es)
  solved n s = from (unified w.arguments (item_pairs n es))
    where
      from : Outcome w.arguments (item_pairs n es) → Solved w.arguments (item_pairs n es)
      from (inl z) = z
      from (inr none) = absurd (none_meets w n es s (λ k. false) first.b (record { admitted = tt; sorted = first.sorted; sat = first.sat }) none)

  word : (d : When) (x : Tree) → Decision (WordHolds w es d x)
  word d x =
      let b = tree_bound x in
      let n = c + v + b.0 in
      let s = wider n (omega arith) (omega arith) in
      word_holds w n es s (solved n s) x (tree_wider b.0 b.0 n n (omega arith) (omega arith) x b.1) first d

  words : (ds : List When) (xs : List Tree) → Decision (WordsHold w es ds xs)
  words [] xs = inl tt
  words (d ∷ ds) [] = inr (λ h. h)
  words (d ∷ ds) (x ∷ xs) = both (word d x) (words ds xs)

  matching : (head args : List Tree) → Decision (Matches w es head args)
  matching head args = at (cases_eq (length head) (length args))
    where
      at : (length head ≡ length args) ⊎ (length head ≡ length args → ⊥) → Decision (Matches w es head args)
      at (inr never) = inr (λ m.
          let o = m (λ k. false) first.b (record { admitted = tt; sorted = first.sorted; sat = first.sat }) in
          never (sym (length-map head (tree_value (λ k. false) o.0)) ∙ ap length o.1.1 ∙ length-map args (tree_value (λ k. false) first.b)))
      at (inl e) =
          let h = trees_bound head in
          let a = trees_bound args in
          let n = c + v + h.0 + a.0 in
          let s = wider n (omega arith) (omega arith) in
          matches_decided w n es s (solved n s) first head args (trees_wider h.0 n (omega arith) head h.1) (trees_wider a.0 n (omega arith) args a.1) e

  -- some clause of the list is a rule that matches
  abbrev IsRule : List Clause → ℕ → List Tree → ℕ → Type 0
  IsRule cs pred args k = (r : Clause) × ((slice_get cs k ≡ Some r) × ((r.pred ≡ pred) × Matches w es r.head args))

  rule : (cs : List Clause) (pred : ℕ) (args : List Tree) → Decision ((k : ℕ) × IsRule cs pred args k)
  rule [] pred args = inr (λ h. absurd (let e = h.1.1.0 in cc))
  rule (r ∷ cs) pred args = at (both (cases_eq r.pred pred) (matching r.head args)) (rule cs pred args)
    where
      some_in : Option Clause → Clause
      some_in (Some x) = x
      some_in None = r

      at : Decision ((r.pred ≡ pred) × Matches w es r.head args) → Decision ((k : ℕ) × IsRule cs pred args k) → Decision ((k : ℕ) × IsRule (r ∷ cs) pred args k)
      at (inl h) d = inl (0, (r, (refl, h)))
      at (inr n) (inl h) = inl (suc h.0, h.1)
      at (inr n) (inr m) = inr (λ h. never h.0 h.1)
        where
          never : (k : ℕ) → IsRule (r ∷ cs) pred args k → ⊥
          never zero h =
              let is : r ≡ h.0 = ap some_in h.1.0 in
              n (subst (λ (x : Clause). (x.pred ≡ pred) × Matches w es x.head args) (sym is) h.1.1)
          never (suc k) h = m (k, h)

ready : (p : Program) (v : ℕ) (es : List Item) (g : Goal) → InScope p.constants v es → Solvable p.world es → Decision (Ready p es g)
ready p v es goal.True scope solvable = inl tt
ready p v es goal.Fail scope solvable = inl tt
ready p v es (goal.Equal l r) scope solvable = inl tt
ready p v es (goal.Circuit m ins outs) scope solvable = inl tt
ready p v es (goal.Call pred args) scope solvable = at (is_demon p pred)
  where
    at : (b : Bool) → Decision (MatchBool b ((k : ℕ) × RuleMatches p es pred args k) (WordsHold p.world es (words_of p pred) args))
    at true = equal_to (
      (λ h. (h.0, (h.1.rule, (h.1.is_rule, (h.1.of_pred, h.1.matches))))),
      λ h. (h.0, record { rule = h.1.0; is_rule = h.1.1.0; of_pred = h.1.1.1.0; matches = h.1.1.1.1 }),
    ) (rule p.world p.constants v es scope solvable p.clauses pred args)
    at false = words p.world p.constants v es scope solvable (words_of p pred) args

pub ready_decided : ReadyDecided
ready_decided = ready
