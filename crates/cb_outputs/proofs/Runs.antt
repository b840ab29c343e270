-- Each query has a whole run.
use Rattle.std.proofs.Common.{◌≡◌, ◌⊎◌, inl, inr, ℕ, zero, suc, ◌+◌, ◌<◌, ◌≤◌, Bool, true, false, nat_lt, ◌==◌, if◌then◌else◌, List, [], ◌∷◌, ◌++◌, map, length, drop, refl, sym, ◌∙◌, ap, subst, arith, rules}
use Rattle.std.proofs.lemmas.Bool.{cases_eq, lt-ltb}
use Rattle.std.proofs.lemmas.List.{length-map}
use Rattle.std.specs.Prelude.{Option, Some, None, slice_get, option_to_list, option_map, MatchBool}
use Rattle.std.specs.List.{list_all}
use Rattle.cb_model.specs.declared.Tree.{Tree}
use Rattle.cb_model.specs.declared.Goal.{Goal}
use Rattle.cb_model.specs.declared.Goal.TheVariants as goal
use Rattle.cb_model.specs.declared.Clause.{Clause}
use Rattle.cb_model.specs.Bits.{Each, Parts, none, yes_here, no_here}
use Rattle.cb_model.specs.Values.{World, tree_in_scope, tree_value}
use Rattle.cb_model.specs.Equations.{Item, Pair, Part, SolvedAt, Solvable, Refuted, item_in_scope}
use Rattle.cb_model.specs.Program.{Program, shift_goal, first_from, first_clause, next_clause, bools}
use Rattle.cb_model.specs.Derivation.{WordsHold, Matches, RuleMatches, Ready, is_demon, words_of, Waiting, Branch, Entry, Run, Try, Change, Answered, Dropped, Becomes, Adds, DemonMoves, CallMoves, Moves, Woken, Replaces, extended, resolved, with_circuit, waits, tried, try_next, End, Whole, Stopped, Budget, Resolutions, Variables, Equations, Goes, here, on, Ends, whole, stops, Note, notes_of, stop_of, resolutions_of, passed, Plain, runs, stopped, Made, first_branch}
use Rattle.cb_laws.specs.Laws.{InScope}
use Rattle.cb_laws.proofs.Search.{Decision, both, equal_to}
use Rattle.cb_laws.proofs.Bounds.{items_wider, tree_wider, tree_bound}
use Rattle.cb_laws.proofs.ReadyGoals.{ready_decided, trees_wider, trees_bound, solved}
use Rattle.cb_laws.proofs.Matching.{matches_decided}
use Rattle.cb_laws.proofs.DecidedTrees.{items_decided}
use Rattle.cb_laws.proofs.Decided.{and_true, both_true}
use Rattle.cb_laws.proofs.Printed.{without_items}
use Rattle.cb_outputs.proofs.Closures.{one_some, slice_within}
use Rattle.cb_outputs.specs.Exists.{HasCircuit, HaveCircuits, RunExists}

-- ---- every list of items is in some scope

variables_bound : (ns : List ℕ) → (n : ℕ) × (list_all (λ k. nat_lt k n) ns ≡ true)
variables_bound [] = (0, refl)
variables_bound (k ∷ ks) =
    let r = variables_bound ks in
    (suc k + r.0, both_true _ _ (lt-ltb k (suc k + r.0) (omega arith)) (more k r.0 ks r.1))
  where
    more : (k n : ℕ) (ks : List ℕ) → list_all (λ k. nat_lt k n) ks ≡ true → list_all (λ i. nat_lt i (suc k + n)) ks ≡ true
    more k n [] h = refl
    more k n (i ∷ ks) h = let q = and_true _ _ h in let l = less i n q.0 in both_true _ _ (lt-ltb i (suc k + n) (omega (arith, l))) (more k n ks q.1)
      where
        less : (k n : ℕ) → nat_lt k n ≡ true → k < n
        less k n h = search rules

variables_within : (n m : ℕ) → n ≤ m → (ks : List ℕ) → list_all (λ k. nat_lt k n) ks ≡ true → list_all (λ k. nat_lt k m) ks ≡ true
variables_within n m l [] h = refl
variables_within n m l (i ∷ ks) h = let q = and_true _ _ h in let e = less i n q.0 in both_true _ _ (lt-ltb i m (omega (arith, e, l))) (variables_within n m l ks q.1)
  where
    less : (k n : ℕ) → nat_lt k n ≡ true → k < n
    less k n h = search rules

tree_to : (n m : ℕ) → n ≤ m → (t : Tree) → tree_in_scope n n t ≡ true → tree_in_scope m m t ≡ true
tree_to n m l t h = tree_wider n n m m l l t h

item_bound : (i : Item) → (n : ℕ) × (item_in_scope n n i ≡ true)
item_bound (Pair l r) =
    let a = tree_bound l in
    let b = tree_bound r in
    (a.0 + b.0, both_true _ _ (tree_to a.0 (a.0 + b.0) (omega arith) l a.1) (tree_to b.0 (a.0 + b.0) (omega arith) r b.1))
item_bound (Part c ins outs own) =
    let a = tree_bound ins in
    let b = tree_bound outs in
    let d = variables_bound own in
    let n = a.0 + b.0 + d.0 in
    (n, both_true _ _ (tree_to a.0 n (omega arith) ins a.1) (both_true _ _ (tree_to b.0 n (omega arith) outs b.1) (variables_within d.0 n (omega arith) own d.1)))

pub items_bound : (es : List Item) → (n : ℕ) × InScope n n es
items_bound [] = (0, refl)
items_bound (e ∷ es) =
    let a = item_bound e in
    let b = items_bound es in
    let n = a.0 + b.0 in
    let h = items_wider a.0 a.0 n n (omega arith) (omega arith) (e ∷ []) (both_true _ _ a.1 refl) in
    (n, both_true _ _ (and_true _ _ h).0 (items_wider b.0 b.0 n n (omega arith) (omega arith) es b.1))

-- equations are solvable or refuted, whatever they read
pub any_decided : (w : World) (es : List Item) → Solvable w es ⊎ Refuted w es
any_decided w es = let b = items_bound es in items_decided w b.0 b.0 es b.1

-- ---- matching and readiness, whatever is read

module _ (w : World) (es : List Item) (solvable : Solvable w es) where
  abbrev first : SolvedAt w es (λ k. false)
  first = solvable (λ k. false) tt

  matching : (head args : List Tree) → Decision (Matches w es head args)
  matching head args = at (cases_eq (length head) (length args))
    where
      at : (length head ≡ length args) ⊎ (length head ≡ length args → ⊥) → Decision (Matches w es head args)
      at (inr never) = inr (λ m.
          let o = m (λ k. false) first.b (record { admitted = tt; sorted = first.sorted; sat = first.sat }) in
          never (sym (length-map head (tree_value (λ k. false) o.0)) ∙ ap length o.1.1 ∙ length-map args (tree_value (λ k. false) first.b)))
      at (inl e) =
          let s = items_bound es in
          let h = trees_bound head in
          let a = trees_bound args in
          let n = s.0 + h.0 + a.0 in
          let i = items_wider s.0 s.0 n n (omega arith) (omega arith) es s.1 in
          matches_decided w n es i (solved w s.0 s.0 es s.1 solvable n i) first head args (trees_wider h.0 n (omega arith) head h.1) (trees_wider a.0 n (omega arith) args a.1) e

module _ (p : Program) (es : List Item) (solvable : Solvable p.world es) (pred : ℕ) (args : List Tree) where
  abbrev Rule : ℕ → Type 0
  Rule k = RuleMatches p es pred args k

  rule_decided : (k : ℕ) → Decision (Rule k)
  rule_decided k = at (slice_get p.clauses k) refl
    where
      at : (o : Option Clause) → slice_get p.clauses k ≡ o → Decision (Rule k)
      at None e = inr (λ r. let h = r.is_rule in absurd (cc))
      at (Some c) e = equal_to (
        (λ r. subst (λ (x : Clause). (x.pred ≡ pred) × Matches p.world es x.head args) (one_some _ r.rule c r.is_rule e) (r.of_pred, r.matches)),
        λ h. record { rule = c; is_rule = e; of_pred = h.0; matches = h.1 },
      ) (both (cases_eq c.pred pred) (matching p.world es solvable c.head args))

  -- the first rule below n that matches
  abbrev FirstBelow : ℕ → Type 0
  FirstBelow n = (k : ℕ) × (k < n) × Rule k × ((j : ℕ) → j < k → Rule j → ⊥)

  first_below : (n : ℕ) → FirstBelow n ⊎ ((j : ℕ) → j < n → Rule j → ⊥)
  first_below zero = inr (λ j l r. omega (arith, l))
  first_below (suc n) = step (first_below n) (rule_decided n)
    where
      step : FirstBelow n ⊎ ((j : ℕ) → j < n → Rule j → ⊥) → Decision (Rule n) → FirstBelow (suc n) ⊎ ((j : ℕ) → j < suc n → Rule j → ⊥)
      step (inl f) d = let l = f.1 in inl (f.0, omega (arith, l), f.2, f.3)
      step (inr never) (inl r) = inl (n, omega arith, r, never)
      step (inr never) (inr m) = inr (λ j l r. last j l r (cases_eq j n))
        where
          last : (j : ℕ) → j < suc n → Rule j → (j ≡ n) ⊎ (j ≡ n → ⊥) → ⊥
          last j l r (inl e) = m (subst Rule e r)
          last j l r (inr e) = never j (omega (arith, l, e)) r

  first_rule : ((k : ℕ) × Rule k × ((j : ℕ) → j < k → Rule j → ⊥)) ⊎ ((k : ℕ) → Rule k → ⊥)
  first_rule = at (first_below (length p.clauses))
    where
      at : FirstBelow (length p.clauses) ⊎ ((j : ℕ) → j < length p.clauses → Rule j → ⊥) → ((k : ℕ) × Rule k × ((j : ℕ) → j < k → Rule j → ⊥)) ⊎ ((k : ℕ) → Rule k → ⊥)
      at (inl f) = inl (f.0, f.2, f.3)
      at (inr n) = inr (λ k r. n k (slice_within p.clauses k r.rule r.is_rule) r)

-- ---- a goal is ready or not, whatever is read

abbrev wider_program : Program → ℕ → Program
wider_program p n = record p { constants = n }

ready_any : (p : Program) (es : List Item) → Solvable p.world es → (g : Goal) → Decision (Ready p es g)
ready_any p es s goal.True = inl tt
ready_any p es s goal.Fail = inl tt
ready_any p es s (goal.Equal l r) = inl tt
ready_any p es s (goal.Circuit m ins outs) = inl tt
ready_any p es s (goal.Call pred args) = at (is_demon p pred) (ready_decided (wider_program p bound.0) bound.0 es (goal.Call pred args) bound.1 s)
  where
    bound : (n : ℕ) × InScope n n es
    bound = items_bound es

    at : (x : Bool) → Decision (MatchBool x ((k : ℕ) × RuleMatches (wider_program p bound.0) es pred args k) (WordsHold p.world es (words_of p pred) args)) →
        Decision (MatchBool x ((k : ℕ) × RuleMatches p es pred args k) (WordsHold p.world es (words_of p pred) args))
    at false d = d
    at true d = equal_to (
      (λ h. (h.0, record { rule = h.1.rule; is_rule = h.1.is_rule; of_pred = h.1.of_pred; matches = h.1.matches })),
      λ h. (h.0, record { rule = h.1.rule; is_rule = h.1.is_rule; of_pred = h.1.of_pred; matches = h.1.matches }),
    ) d

parted : {A : Type 0} (P : A → Type 0) → ((x : A) → Decision (P x)) → (xs : List A) → (ys : List A) × (zs : List A) × Parts P xs ys zs
parted P d [] = ([], [], none)
parted P d (x ∷ xs) = step (d x) (parted P d xs)
  where
    step : Decision (P x) → (ys : List _) × (zs : List _) × Parts P xs ys zs → (ys : List _) × (zs : List _) × Parts P (x ∷ xs) ys zs
    step (inl h) r = (x ∷ r.0, r.1, yes_here h r.2)
    step (inr n) r = (r.0, x ∷ r.1, no_here n r.2)

-- ---- the clauses of a predicate

first_in : (pred at : ℕ) (cs : List Clause) (n : ℕ) → first_from pred at cs ≡ Some n → (i : ℕ) × (n ≡ at + i) × ((c : Clause) × (slice_get cs i ≡ Some c))
first_in pred at [] n h = absurd (cc)
first_in pred at (c ∷ cs) n h = step (c.pred == pred) (λ e. first_in pred (suc at) cs n e) h
  where
    number : (x y : ℕ) → Some x ≡ Some y → y ≡ x
    number x y e = cc

    step : (x : Bool) → (first_from pred (suc at) cs ≡ Some n → (i : ℕ) × (n ≡ suc at + i) × ((d : Clause) × (slice_get cs i ≡ Some d))) →
        (if x then Some at else first_from pred (suc at) cs) ≡ Some n → (i : ℕ) × (n ≡ at + i) × ((d : Clause) × (slice_get (c ∷ cs) i ≡ Some d))
    step true go e = (0, (let k = number at n e in omega (arith, k)), (c, refl))
    step false go e = let r = go e in (suc r.0, (let k = r.1 in omega (arith, k)), r.2)

slice_drop : (k : ℕ) (cs : List Clause) (i : ℕ) (c : Clause) → slice_get (drop k cs) i ≡ Some c → slice_get cs (k + i) ≡ Some c
slice_drop zero cs i c h = subst (λ n. slice_get cs n ≡ Some c) (omega arith) h
slice_drop (suc k) [] i c h = absurd (cc)
slice_drop (suc k) (d ∷ cs) i c h = subst (λ n. slice_get (d ∷ cs) n ≡ Some c) (further k i) (slice_drop k cs i c h)
  where
    further : (k i : ℕ) → suc (k + i) ≡ suc k + i
    further k i = omega arith

-- ---- what is known of the stack

each_join : {A : Type 0} (P : A → Type 0) (xs ys : List A) → Each P xs → Each P ys → Each P (xs ++ ys)
each_join P [] ys h k = k
each_join P (x ∷ xs) ys h k = (h.0, each_join P xs ys h.1 k)

each_at : {A : Type 0} (P : A → Type 0) (xs : List A) (k : ℕ) (x : A) → slice_get xs k ≡ Some x → Each P xs → P x
each_at P [] k x e h = absurd (cc)
each_at P (y ∷ xs) zero x e h = subst P (here e) h.0
  where
    here : Some y ≡ Some x → y ≡ x
    here e = cc
each_at P (y ∷ xs) (suc k) x e h = each_at P xs k x e h.1

module _ (p : Program) where
  shifted : (k : ℕ) (g : Goal) → HasCircuit p g → HasCircuit p (shift_goal k g)
  shifted k goal.True h = tt
  shifted k goal.Fail h = tt
  shifted k (goal.Equal l r) h = tt
  shifted k (goal.Circuit m ins outs) h = h
  shifted k (goal.Call pred args) h = tt

  all_shifted : (k : ℕ) (gs : List Goal) → Each (HasCircuit p) gs → Each (HasCircuit p) (map (shift_goal k) gs)
  all_shifted k [] h = tt
  all_shifted k (g ∷ gs) h = (shifted k g h.0, all_shifted k gs h.1)

  abbrev WaitingGood : List Waiting → Type 0
  WaitingGood ws = Each (λ w. HasCircuit p w.goal) ws

  waiting_goals : (ws : List Waiting) → WaitingGood ws → Each (HasCircuit p) (map (λ w. w.goal) ws)
  waiting_goals [] h = tt
  waiting_goals (w ∷ ws) h = (h.0, waiting_goals ws h.1)

  parts_good : {P : Waiting → Type 0} {xs ys zs : List Waiting} → Parts P xs ys zs → WaitingGood xs → WaitingGood ys × WaitingGood zs
  parts_good none h = (tt, tt)
  parts_good (yes_here q r) h = let s = parts_good r h.1 in ((h.0, s.0), s.1)
  parts_good (no_here n r) h = let s = parts_good r h.1 in (s.0, (h.0, s.1))

  -- an entry that was left below
  abbrev GoodTry : Entry → Type 0
  GoodTry (Run b) = ⊥
  GoodTry (Try b pred args k) = Each (HasCircuit p) b.goals × WaitingGood b.waiting × ((c : Clause) × (slice_get p.clauses k ≡ Some c))

  try_good : (b : Branch) (pred : ℕ) (args : List Tree) → Each (HasCircuit p) b.goals → WaitingGood b.waiting → (o : Option ℕ) →
      ((n : ℕ) → o ≡ Some n → (c : Clause) × (slice_get p.clauses n ≡ Some c)) → Each GoodTry (option_to_list (option_map (λ n. Try b pred args n) o))
  try_good b pred args g w None f = tt
  try_good b pred args g w (Some n) f = ((g, w, f n refl), tt)

  next_good : (b : Branch) (pred : ℕ) (args : List Tree) (k : ℕ) → Each (HasCircuit p) b.goals → WaitingGood b.waiting → Each GoodTry (try_next p b pred args k)
  next_good b pred args k g w = try_good b pred args g w (next_clause p pred k) (λ n e.
      let r = first_in pred (suc k) (drop (suc k) p.clauses) n e in
      (r.2.0, subst (λ i. slice_get p.clauses i ≡ Some r.2.0) (sym r.1) (slice_drop (suc k) p.clauses r.0 r.2.0 r.2.1)))

-- ---- the run

-- a run from here on that has an end
record Finished (p : Program) (budget used : ℕ) (s : List Entry) : Type 0 where
  notes : List Note
  used' : ℕ
  s' : List Entry
  end : End
  goes : Goes p budget used s notes used' s'
  ends : Ends p budget used' s' end

later : (p : Program) (budget used : ℕ) (e : Entry) (s : List Entry) (c : Change) (es : List Entry) → Moves p e c → stop_of p budget used c ≡ None → Replaces p c es →
    Finished p budget (used + resolutions_of c) (es ++ s) → Finished p budget used (e ∷ s)
later p budget used e s c es m n r f = record {
  notes = notes_of c ++ f.notes;
  used' = f.used';
  s' = f.s';
  end = f.end;
  goes = on c es f.notes m n r refl f.goes;
  ends = f.ends;
}

bits_none : (x y z : Bool) → (if x then Some Resolutions else (if y then Some Variables else (if z then Some Equations else None))) ≡ None → (x ≡ false) × (z ≡ false)
bits_none true y z h = absurd (cc)
bits_none false true z h = absurd (cc)
bits_none false false true h = absurd (cc)
bits_none false false false h = (refl, refl)

not_less : (k n : ℕ) → nat_lt k n ≡ false → n ≤ k
not_less k n h = search rules

passed_none : (p : Program) (budget used : ℕ) (b : Branch) → passed p budget used b ≡ None → (used ≤ budget) × (b.steps ≤ 1000000)
passed_none p budget used b h =
    let e = bits_none (nat_lt budget used) (nat_lt 4096 (p.constants + bools b.sorts)) (nat_lt 1000000 b.steps) h in
    (not_less budget used e.0, not_less 1000000 b.steps e.1)

abbrev with_goals : Branch → List Goal → List Waiting → Branch
with_goals b gs ws = record b { goals = gs; waiting = ws }

module _ (p : Program) (budget : ℕ) where
  -- what is left to run after an addition
  abbrev AfterRun : ℕ → Branch → List Entry → Type 0
  AfterRun used b s = (gs : List Goal) (ws : List Waiting) → Solvable p.world b.items → Each (HasCircuit p) gs → WaitingGood p ws → Finished p budget used (Run (record b { goals = gs; waiting = ws }) ∷ s)

  adding : (used r : ℕ) (e : Entry) (s below : List Entry) (b : Branch) → Each (HasCircuit p) b.goals → WaitingGood p b.waiting → Moves p e (Adds r below b) →
      (used + r ≤ budget → b.steps ≤ 1000000 → Finished p budget (used + r) (below ++ s)) →
      (used + r ≤ budget → b.steps ≤ 1000000 → AfterRun (used + r) b (below ++ s)) → Finished p budget used (e ∷ s)
  adding used r e s below b good wait m refuted woken = at (passed p budget (used + r) b) refl
    where
      next : passed p budget (used + r) b ≡ None → Solvable p.world b.items ⊎ Refuted p.world b.items → Finished p budget used (e ∷ s)
      next n (inl h) =
          let l = passed_none p budget (used + r) b n in
          let w = parted (λ (w : Waiting). Ready p b.items w.goal) (λ w. ready_any p b.items h w.goal) b.waiting in
          let g = parts_good p w.2 wait in
          let gs : List Goal = map (λ (w : Waiting). w.goal) w.0 ++ b.goals in
          let b' : Branch = record b { goals = gs; waiting = w.1 } in
          let is : Woken p b b' = record { ready = w.0; rest = w.1; parts = w.2; is = refl } in
          later p budget used e s (Adds r below b) (Run b' ∷ below) m n (inl (h, (b', (is, refl))))
          (woken l.0 l.1 gs w.1 h (each_join (HasCircuit p) (map (λ (w : Waiting). w.goal) w.0) b.goals (waiting_goals p w.0 g.0) good) g.1)
      next n (inr h) = let l = passed_none p budget (used + r) b n in later p budget used e s (Adds r below b) below m n (inr (h, refl)) (refuted l.0 l.1)

      at : (o : Option Budget) → passed p budget (used + r) b ≡ o → Finished p budget used (e ∷ s)
      at None n = next n (any_decided p.world b.items)
      at (Some w) f = record { notes = []; used' = used; s' = e ∷ s; end = Stopped w; goes = here; ends = stops (Adds r below b) m f }

  -- from tries alone, and from a running branch, with r resolutions left at most
  abbrev Tries : ℕ → Type 0
  Tries r = (used : ℕ) (s : List Entry) → Each (GoodTry p) s → budget < used + r → Finished p budget used s

  abbrev Running : ℕ → Type 0
  Running r = (m : ℕ) (gs : List Goal) (ws : List Waiting) (b : Branch) (used : ℕ) (s : List Entry) → Solvable p.world b.items → Each (HasCircuit p) gs → WaitingGood p ws → Each (GoodTry p) s →
      budget < used + r → 1000000 < b.steps + m → Finished p budget used (Run (record b { goals = gs; waiting = ws }) ∷ s)

  -- the same behind one resolution more, within the budget
  abbrev NextTries : ℕ → Type 0
  NextTries r = (used : ℕ) (s : List Entry) → used + 1 ≤ budget → Each (GoodTry p) s → budget < used + r → Finished p budget (used + 1) s

  abbrev NextRunning : ℕ → Type 0
  NextRunning r = (gs : List Goal) (ws : List Waiting) (b : Branch) (used : ℕ) (s : List Entry) → used + 1 ≤ budget → Solvable p.world b.items → Each (HasCircuit p) gs → WaitingGood p ws →
      Each (GoodTry p) s → budget < used + r → Finished p budget (used + 1) (Run (record b { goals = gs; waiting = ws }) ∷ s)

  module _ (circuits : HaveCircuits p) (r : ℕ) (next_tries : NextTries r) (next_running : NextRunning r) where
    resolving : (used : ℕ) (e : Entry) (s below : List Entry) (b : Branch) (pred : ℕ) (args : List Tree) (c : Clause) (k : ℕ) → slice_get p.clauses k ≡ Some c →
        Each (HasCircuit p) b.goals → WaitingGood p b.waiting → Each (GoodTry p) below → Each (GoodTry p) s → budget < used + r →
        Moves p e (Adds 1 below (resolved b pred args c)) → Finished p budget used (e ∷ s)
    resolving used e s below b pred args c k is goals wait below_good s_good l m =
        let bodies : Each (HasCircuit p) c.body = each_at (λ (c : Clause). Each (HasCircuit p) c.body) p.clauses k c is circuits in
        let all_good = each_join (HasCircuit p) (map (shift_goal (length b.sorts)) c.body) b.goals (all_shifted p (length b.sorts) c.body bodies) goals in
        let rest_good = each_join (GoodTry p) below s below_good s_good in
        adding used 1 e s below (resolved b pred args c) all_good wait m
        (λ h k. next_tries used (below ++ s) h rest_good l)
        (λ h k gs ws solvable g w. next_running gs ws (resolved b pred args c) used (below ++ s) h solvable g w rest_good l)

    tries : Tries r
    tries used [] h l = record { notes = []; used' = used; s' = []; end = Whole; goes = here; ends = whole }
    tries used (Run b ∷ s) h l = absurd h.0
    tries used (Try b pred args k ∷ s) h l =
        resolving used (Try b pred args k) s (try_next p b pred args k) b pred args h.0.2.0 k h.0.2.1 h.0.0 h.0.1 (next_good p b pred args k h.0.0 h.0.1) h.1 l (h.0.2.0, h.0.2.1, refl)

    running_call : (m : ℕ) (pred : ℕ) (args : List Tree) (gs : List Goal) (ws : List Waiting) (b : Branch) (used : ℕ) (s : List Entry) → Solvable p.world b.items → Each (HasCircuit p) gs → WaitingGood p ws →
        Each (GoodTry p) s → budget < used + r →
        ((used' : ℕ) (b' : Branch) (ws' : List Waiting) → Solvable p.world b'.items → WaitingGood p ws' → used' ≡ used + 0 → b'.steps ≡ b.steps → Finished p budget used' (Run (record b' { goals = gs; waiting = ws' }) ∷ s)) →
        Finished p budget used (Run (record b { goals = goal.Call pred args ∷ gs; waiting = ws }) ∷ s)
    running_call m pred args gs ws b used s solvable g w t l go = at (is_demon p pred) refl
      where
        -- the call waits
        wait : Moves p (Run (with_goals b (goal.Call pred args ∷ gs) ws)) (Becomes (Run (waits (with_goals b gs ws) (goal.Call pred args)))) → Finished p budget used ((Run (with_goals b (goal.Call pred args ∷ gs) ws)) ∷ s)
        wait m =
            later p budget used (Run (with_goals b (goal.Call pred args ∷ gs) ws)) s (Becomes (Run (waits (with_goals b gs ws) (goal.Call pred args)))) (Run (waits (with_goals b gs ws) (goal.Call pred args)) ∷ []) m refl refl
            (go (used + 0) (record b { next = suc b.next }) (ws ++ record { number = b.next; goal = goal.Call pred args } ∷ []) solvable (each_join (λ (w : Waiting). HasCircuit p w.goal) ws _ w (tt, tt)) refl refl)

        demon : is_demon p pred ≡ true → ((k : ℕ) × RuleMatches p b.items pred args k × ((j : ℕ) → j < k → RuleMatches p b.items pred args j → ⊥)) ⊎ ((k : ℕ) → RuleMatches p b.items pred args k → ⊥) →
            Finished p budget used ((Run (with_goals b (goal.Call pred args ∷ gs) ws)) ∷ s)
        demon is (inl f) =
            let c : Change = Adds 1 [] (resolved (with_goals b gs ws) pred args f.1.rule) in
            resolving used (Run (with_goals b (goal.Call pred args ∷ gs) ws)) s [] (with_goals b gs ws) pred args f.1.rule f.0 f.1.is_rule g w tt t l
            (subst (λ (x : Bool). MatchBool x (DemonMoves p (with_goals b gs ws) pred args c) (CallMoves p (with_goals b gs ws) pred args c)) (sym is) (inl (f.0, f.1, f.2, refl)))
        demon is (inr n) =
            let c : Change = Becomes (Run (waits (with_goals b gs ws) (goal.Call pred args))) in
            wait (subst (λ (x : Bool). MatchBool x (DemonMoves p (with_goals b gs ws) pred args c) (CallMoves p (with_goals b gs ws) pred args c)) (sym is) (inr (n, refl)))

        -- a ready call is tried
        trying : Ready p b.items (goal.Call pred args) → is_demon p pred ≡ false → (o : Option ℕ) → first_clause p pred ≡ o → Finished p budget used ((Run (with_goals b (goal.Call pred args ∷ gs) ws)) ∷ s)
        trying h is None e =
            let m : CallMoves p (with_goals b gs ws) pred args Dropped = inl (h, ap (tried p (with_goals b gs ws) pred args) (sym e)) in
            later p budget used (Run (with_goals b (goal.Call pred args ∷ gs) ws)) s Dropped [] (subst (λ (x : Bool). MatchBool x (DemonMoves p (with_goals b gs ws) pred args Dropped) (CallMoves p (with_goals b gs ws) pred args Dropped)) (sym is) m) refl refl
            (tries (used + 0) s t (omega (arith, l)))
        trying h is (Some k) e =
            let c : Change = Becomes (Try (with_goals b gs ws) pred args k) in
            let m : CallMoves p (with_goals b gs ws) pred args c = inl (h, ap (tried p (with_goals b gs ws) pred args) (sym e)) in
            let first = first_in pred 0 p.clauses k e in
            let here : slice_get p.clauses k ≡ Some first.2.0 = subst (λ i. slice_get p.clauses i ≡ Some first.2.0) (let x = first.1 in omega (arith, x)) first.2.1 in
            later p budget used (Run (with_goals b (goal.Call pred args ∷ gs) ws)) s c (Try (with_goals b gs ws) pred args k ∷ []) (subst (λ (x : Bool). MatchBool x (DemonMoves p (with_goals b gs ws) pred args c) (CallMoves p (with_goals b gs ws) pred args c)) (sym is) m) refl refl
            (tries (used + 0) (Try (with_goals b gs ws) pred args k ∷ s) ((g, w, (first.2.0, here)), t) (omega (arith, l)))

        call : is_demon p pred ≡ false → Decision (Ready p b.items (goal.Call pred args)) → Finished p budget used ((Run (with_goals b (goal.Call pred args ∷ gs) ws)) ∷ s)
        call is (inl h) = trying h is (first_clause p pred) refl
        call is (inr n) =
            let c : Change = Becomes (Run (waits (with_goals b gs ws) (goal.Call pred args))) in
            wait (subst (λ (x : Bool). MatchBool x (DemonMoves p (with_goals b gs ws) pred args c) (CallMoves p (with_goals b gs ws) pred args c)) (sym is) (inr (n, refl)))

        at : (x : Bool) → is_demon p pred ≡ x → Finished p budget used ((Run (with_goals b (goal.Call pred args ∷ gs) ws)) ∷ s)
        at true is = demon is (first_rule p b.items solvable pred args)
        at false is = call is (ready_any p b.items solvable (goal.Call pred args))

    -- a branch with one goal less and one equation more
    stepping : (m used : ℕ) (e : Entry) (s : List Entry) (b : Branch) → Each (HasCircuit p) b.goals → WaitingGood p b.waiting → Each (GoodTry p) s → budget < used + r → 1000000 < b.steps + m →
        Moves p e (Adds 0 [] b) → (1000000 < b.steps + m → b.steps ≤ 1000000 → AfterRun (used + 0) b s) → Finished p budget used (e ∷ s)
    stepping m used e s b g w t l n moves go = adding used 0 e s [] b g w moves (λ h k. tries (used + 0) s t (omega (arith, l))) (λ h k. go n k)

    running : Running r
    running m [] ws b used s solvable g w t l n =
        let top : Branch = record b { goals = []; waiting = ws } in
        later p budget used (Run top) s (Answered top) [] refl refl refl (tries (used + 0) s t (omega (arith, l)))
    running m (goal.True ∷ gs) ws b used s solvable g w t l n =
        let rest : Branch = record b { goals = gs; waiting = ws } in
        later p budget used (Run (record b { goals = goal.True ∷ gs; waiting = ws })) s (Becomes (Run rest)) (Run rest ∷ []) refl refl refl
        (running m gs ws b (used + 0) s solvable g.1 w t (omega (arith, l)) n)
    running m (goal.Fail ∷ gs) ws b used s solvable g w t l n =
        later p budget used (Run (record b { goals = goal.Fail ∷ gs; waiting = ws })) s Dropped [] refl refl refl (tries (used + 0) s t (omega (arith, l)))
    running m (goal.Call pred args ∷ gs) ws b used s solvable g w t l n =
        running_call m pred args gs ws b used s solvable g.1 w t l
        (λ used' b' ws' solvable' w' e f. running m gs ws' b' used' s solvable' g.1 w' t (omega (arith, l, e)) (omega (arith, n, f)))
    running zero (goal.Equal x y ∷ gs) ws b used s solvable g w t l n =
        stepping 0 used (Run (record b { goals = goal.Equal x y ∷ gs; waiting = ws })) s (extended (record b { goals = gs; waiting = ws }) gs (Pair x y ∷ []) []) g.1 w t l (omega (arith, n)) refl
        (λ h k gs' ws' solvable' g' w'. absurd (omega (arith, h, k)))
    running (suc m) (goal.Equal x y ∷ gs) ws b used s solvable g w t l n =
        let b' : Branch = extended (record b { goals = gs; waiting = ws }) gs (Pair x y ∷ []) [] in
        stepping m used (Run (record b { goals = goal.Equal x y ∷ gs; waiting = ws })) s b' g.1 w t l (omega (arith, n)) refl
        (λ h k gs' ws' solvable' g' w'. running m gs' ws' b' (used + 0) s solvable' g' w' t (omega (arith, l)) h)
    running zero (goal.Circuit x ins outs ∷ gs) ws b used s solvable g w t l n =
        stepping 0 used (Run (record b { goals = goal.Circuit x ins outs ∷ gs; waiting = ws })) s (with_circuit (record b { goals = gs; waiting = ws }) g.0.0 ins outs) g.1 w t l (omega (arith, n)) (g.0.0, g.0.1, refl)
        (λ h k gs' ws' solvable' g' w'. absurd (omega (arith, h, k)))
    running (suc m) (goal.Circuit x ins outs ∷ gs) ws b used s solvable g w t l n =
        let b' : Branch = with_circuit (record b { goals = gs; waiting = ws }) g.0.0 ins outs in
        stepping m used (Run (record b { goals = goal.Circuit x ins outs ∷ gs; waiting = ws })) s b' g.1 w t l (omega (arith, n)) (g.0.0, g.0.1, refl)
        (λ h k gs' ws' solvable' g' w'. running m gs' ws' b' (used + 0) s solvable' g' w' t (omega (arith, l)) h)

  -- with any number of resolutions left
  whole_runs : HaveCircuits p → (r : ℕ) → Tries r × Running r
  whole_runs circuits zero =
      let x : NextTries 0 = λ used s h t l. absurd (omega (arith, h, l)) in
      let y : NextRunning 0 = λ gs ws b used s h solvable g w t l. absurd (omega (arith, h, l)) in
      (tries circuits 0 x y, running circuits 0 x y)
  whole_runs circuits (suc r) =
      let before = whole_runs circuits r in
      let x : NextTries (suc r) = λ used s h t l. before.0 (used + 1) s t (omega (arith, l)) in
      let y : NextRunning (suc r) = λ gs ws b used s h solvable g w t l. before.1 1000001 gs ws b (used + 1) s solvable g w t (omega (arith, l)) (omega arith) in
      (tries circuits (suc r) x y, running circuits (suc r) x y)

pub run_exists : RunExists
run_exists p q budget circuits goals = at (passed p budget 0 (first_branch q)) refl
  where
    at : (o : Option Budget) → passed p budget 0 (first_branch q) ≡ o → (ns : List Note) × (end : End) × Plain p q budget ns end
    at (Some w) e = ([], Stopped w, stopped w e)
    at None e =
        let f = (whole_runs p budget circuits (budget + 1)).1 1000001 q.goals [] (first_branch q) 0 [] (without_items p.world) goals tt tt (omega arith) (omega arith) in
        (Made (first_branch q) ∷ f.notes, f.end, runs f.used' f.s' (record { begins = e; rest = f.notes; goes = f.goes; is = refl }) f.ends)
