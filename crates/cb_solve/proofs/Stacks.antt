-- The stack of choices, and what a step of the running branch makes of the machine.
use Rattle.std.proofs.Common.{◌≡◌, ℕ, ◌+◌, inl, inr, false, List, [], ◌∷◌, ◌++◌, length, Option, Some, None, refl, sym, ap, subst, ◌∙◌, arith, length-append}
use Rattle.cb_model.specs.declared.Tree.{Tree}
use Rattle.cb_model.specs.declared.Goal.{Goal}
use Rattle.cb_model.specs.Program.{Program}
use Rattle.cb_model.specs.Equations.{Refuted}
use Rattle.cb_model.specs.Derivation.{Branch, Entry, Run, Try, Change, Adds, Becomes, Answered, Dropped, Query, Note, Printed, Made, SoFar, Moves, Replaces, stop_of, notes_of, printed_of, resolutions_of}
use Rattle.std.specs.Option.{option_map}
use Rattle.cb_branch.specs.Running.{Seen, IsBranch, Keeps, GoesOn, program_of, query_of}
use Rattle.cb_branch.proofs.Laws.{keeps-then, program-keeps, query-keeps}
use Rattle.cb_solve.specs.declared.Choice.{Choice}
use Rattle.cb_solve.specs.declared.Machine.{Machine}
use Rattle.cb_model.specs.declared.Goal.TheVariants as goal
use Rattle.cb_model.specs.declared.Clause.{Clause}
use Rattle.cb_model.specs.Equations.{Pair}
use Rattle.std.specs.Prelude.{Bool, MatchBool, cond, slice_get}
use Rattle.std.proofs.lemmas.List.Sums.{sum_by-append}
use Rattle.cb_model.specs.declared.Sort.{Sort}
use Rattle.cb_model.specs.Program.{bools, is_bool, first_clause}
use Rattle.cb_model.specs.Derivation.{DemonMoves, CallMoves, Plain, runs, stops, whole, Ready, RuleMatches, Woken, extended, with_circuit, resolved, waits, is_demon, passed, tried, try_next}
use Rattle.cb_model.specs.Derivation as derivation
use Rattle.cb_branch.specs.Running.{TooFew, WantsNodes, behind}
use Rattle.cb_solve.specs.declared.Budget.{Budget}
use Rattle.cb_solve.specs.Machine.{Stacked, none, more, Counted, RunsAt, TriesAt, StopsAt, FewAt, IsFew, IsSame, budget_in}
use Rattle.cb_solve.proofs.Runs.{so-far-step, printed-append, moves-first}

pub stacked-later : (s t : Seen) (cs : List Choice) (es : List Entry) → Keeps s t → Stacked s cs es → Stacked t cs es
stacked-later s t _ _ k none = none
stacked-later s t cs es k (more u b pred args c lower top rest hc he ku hm hb ha hk hp below) =
    more u b pred args c lower top rest hc he (keeps-then u s t ku k) hm hb ha hk hp below

-- the run after a step
unfoldable pub counted-step : (p : Program) (q : Query) (m n : Machine) (e : Entry) (lower : List Entry) (c : Change) (es : List Entry) →
    Counted p q m (e ∷ lower) → Moves p e c → stop_of p m.budget m.used c ≡ None → Replaces p c es →
    n.budget ≡ m.budget → n.used ≡ m.used + resolutions_of c → n.answers ≡ m.answers + length (printed_of (notes_of c)) → Keeps m.branch n.branch →
    Counted p q n (es ++ lower)
counted-step p q m n e lower c es h mv st rp hb hu ha hk = record {
  notes = h.notes ++ notes_of c;
  so_far =
      subst (λ (x : ℕ). SoFar p q x (h.notes ++ notes_of c) n.used (es ++ lower)) (sym hb)
      (subst (λ (x : ℕ). SoFar p q m.budget (h.notes ++ notes_of c) x (es ++ lower)) (sym hu) (so-far-step p q m.budget m.used h.notes e lower c es h.so_far mv st rp));
  many = ap length (printed-append h.notes (notes_of c)) ∙ length-append (printed_of h.notes) (printed_of (notes_of c)) ∙ ap (λ (x : ℕ). x + length (printed_of (notes_of c))) h.many ∙ sym ha;
  program = program-keeps m.branch n.branch hk ∙ h.program;
  query = query-keeps m.branch n.branch hk ∙ h.query;
}

-- the branch runs on, with no resolution
pub runs-step : (p : Program) (q : Query) (m n : Machine) (b b' : Branch) (c : Change) →
    RunsAt p q m b → Moves p (Run b) c → stop_of p m.budget m.used c ≡ None → Replaces p c (Run b' ∷ []) → resolutions_of c ≡ 0 → printed_of (notes_of c) ≡ [] →
    IsSame m n → n.choices.items ≡ m.choices.items → IsBranch n.branch b' → RunsAt p q n b'
runs-step p q m n b b' c h mv st rp hr hn same hc hb = record {
  lower = h.lower;
  counted = counted-step p q m n (Run b) h.lower c (Run b' ∷ []) h.counted mv st rp same.budget
      (let u = same.used in omega (arith, hr)) (same.answers ∙ let e : length (printed_of (notes_of c)) ≡ 0 = ap length hn in omega arith) same.keeps;
  is = hb;
  stacked = stacked-later m.branch n.branch n.choices.items h.lower same.keeps (subst (λ (x : List Choice). Stacked m.branch x h.lower) (sym hc) h.stacked);
  few = let u = same.used in let a = same.answers in let f = h.few in omega arith;
}

-- the branch is left, with no resolution
pub leaves-step : (p : Program) (q : Query) (m n : Machine) (b : Branch) (c : Change) →
    RunsAt p q m b → Moves p (Run b) c → stop_of p m.budget m.used c ≡ None → Replaces p c [] → resolutions_of c ≡ 0 → printed_of (notes_of c) ≡ [] →
    IsSame m n → n.choices.items ≡ m.choices.items → TriesAt p q n
leaves-step p q m n b c h mv st rp hr hn same hc = record {
  lower = h.lower;
  counted = counted-step p q m n (Run b) h.lower c [] h.counted mv st rp same.budget
      (let u = same.used in omega (arith, hr)) (same.answers ∙ let e : length (printed_of (notes_of c)) ≡ 0 = ap length hn in omega arith) same.keeps;
  stacked = stacked-later m.branch n.branch n.choices.items h.lower same.keeps (subst (λ (x : List Choice). Stacked m.branch x h.lower) (sym hc) h.stacked);
  few = let u = same.used in let a = same.answers in let f = h.few in omega arith;
}

-- the budget that an addition would pass ends the run
pub stops-at : (p : Program) (q : Query) (m : Machine) (e : Entry) (lower : List Entry) (r : ℕ) (below : List Entry) (c : Branch) (w : Budget) (x : Option derivation.Budget) →
    Counted p q m (e ∷ lower) → Moves p e (Adds r below c) → passed p m.budget (m.used + r) c ≡ x → Some w ≡ option_map budget_in x → StopsAt p q m w
stops-at p q m e lower r below c w None h mv is hw = absurd (cc)
stops-at p q m e lower r below c w (Some v) h mv is hw = record {
  notes = h.notes;
  budget = v;
  plain = runs m.used (e ∷ lower) h.so_far (stops (Adds r below c) mv is);
  is = cc;
  many = h.many;
}

pub none-passed : (x : Option derivation.Budget) → None ≡ option_map budget_in x → x ≡ None
none-passed None e = refl
none-passed (Some v) e = absurd (cc)

-- an addition of the branch that runs
pub add-goes : (p : Program) (q : Query) (m n : Machine) (b c : Branch) → RunsAt p q m b → Moves p (Run b) (Adds 0 [] c) → passed p m.budget (m.used + 0) c ≡ None →
    (g : GoesOn p n.branch c) → IsSame m n → n.choices.items ≡ m.choices.items → RunsAt p q n g.woken
add-goes p q m n b c h mv st g same hc = runs-step p q m n b g.woken (Adds 0 [] c) h mv st (inl (g.solvable, (g.woken, (g.wakes, refl)))) refl refl same hc g.is

pub add-fails : (p : Program) (q : Query) (m n : Machine) (b c : Branch) → RunsAt p q m b → Moves p (Run b) (Adds 0 [] c) → passed p m.budget (m.used + 0) c ≡ None →
    Refuted p.world c.items → IsSame m n → n.choices.items ≡ m.choices.items → TriesAt p q n
add-fails p q m n b c h mv st ref same hc = leaves-step p q m n b (Adds 0 [] c) h mv st (inr (ref, refl)) refl refl same hc

-- too few nodes for an addition, and for the branch that runs
pub few-adding : (p : Program) (q : Query) (m : Machine) (e : Entry) (lower : List Entry) (nodes r : ℕ) (below : List Entry) (c : Branch) → Counted p q m (e ∷ lower) →
    Moves p e (Adds r below c) → passed p m.budget (m.used + r) c ≡ None → TooFew nodes c → FewAt p q m.budget m.answers nodes
few-adding p q m e lower nodes r below c h mv st few = record {
  notes = h.notes;
  used = m.used;
  top = e;
  lower = lower;
  so_far = h.so_far;
  many = h.many;
  b = c;
  of = inr (r, below, (mv, st));
  too_few = few;
}

pub few-running : (m n : Machine) (b : Branch) → RunsAt (program_of m.branch) (query_of m.branch) m b → WantsNodes m.branch n.branch b → IsFew m n
few-running m n b h w = record {
  few = record { notes = h.counted.notes; used = m.used; top = Run b; lower = h.lower; so_far = h.counted.so_far; many = h.counted.many; b = b; of = inl refl; too_few = w.few };
  rose = w.rose;
}

-- an addition of the branch that runs: what it makes, with so many variables more
pub record Addition (p : Program) (b : Branch) (below : List Entry) (r more : ℕ) (e : Entry) (c : Branch) : Type 0 where
  pub moves : Moves p e (Adds r below c)
  pub sorts : bools c.sorts ≡ bools b.sorts + more
  pub steps : c.steps ≡ b.steps + 1

bools-append : (xs ys : List Sort) → bools (xs ++ ys) ≡ bools xs + bools ys
bools-append xs ys = sum_by-append (λ x. cond (is_bool x) 1 0) xs ys

pub equal-addition : (p : Program) (b : Branch) (l r : Tree) (rest : List Goal) → b.goals ≡ goal.Equal l r ∷ rest →
    Addition p b [] 0 0 (Run b) (extended (behind b rest) rest (Pair l r ∷ []) [])
equal-addition p b l r rest e = record { moves = moves-first p b (goal.Equal l r) rest _ e refl; sorts = bools-append b.sorts []; steps = refl }

pub try-addition : (p : Program) (b : Branch) (pred : ℕ) (args : List Tree) (k : ℕ) (c : Clause) → slice_get p.clauses k ≡ Some c →
    Addition p b (try_next p b pred args k) 1 (bools c.sorts) (Try b pred args k) (resolved b pred args c)
try-addition p b pred args k c is = record { moves = (c, is, refl); sorts = bools-append b.sorts c.sorts; steps = refl }

-- a call that is tried
pub try-moves : (p : Program) (b : Branch) (pred : ℕ) (args : List Tree) (rest : List Goal) (x : Option ℕ) → b.goals ≡ goal.Call pred args ∷ rest → is_demon p pred ≡ false →
    Ready p b.items (goal.Call pred args) → x ≡ first_clause p pred → Moves p (Run b) (tried p (behind b rest) pred args x)
try-moves p b pred args rest x e d y is = moves-first p b (goal.Call pred args) rest _ e
    (subst (λ (t : Bool). MatchBool t (DemonMoves p (behind b rest) pred args (tried p (behind b rest) pred args x)) (CallMoves p (behind b rest) pred args (tried p (behind b rest) pred args x))) (sym d)
    (inl (y, ap (λ (o : Option ℕ). tried p (behind b rest) pred args o) is)))

-- a call that waits
pub wait-moves : (p : Program) (b : Branch) (pred : ℕ) (args : List Tree) (rest : List Goal) → b.goals ≡ goal.Call pred args ∷ rest → is_demon p pred ≡ false →
    (Ready p b.items (goal.Call pred args) → ⊥) → Moves p (Run b) (Becomes (Run (waits (behind b rest) (goal.Call pred args))))
wait-moves p b pred args rest e d n = let c = Becomes (Run (waits (behind b rest) (goal.Call pred args))) in
    moves-first p b (goal.Call pred args) rest c e
    (subst (λ (t : Bool). MatchBool t (DemonMoves p (behind b rest) pred args c) (CallMoves p (behind b rest) pred args c)) (sym d) (inr (n, refl)))
