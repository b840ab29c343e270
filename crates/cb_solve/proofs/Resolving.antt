-- Tries and commits.
use Rattle.std.proofs.Common.{◌≡◌, ℕ, ◌+◌, ◌≤◌, inl, inr, List, [], ◌∷◌, ◌++◌, length, Option, Some, None, refl, sym, ap, subst, ◌∙◌, arith, length-append, Ok, Err, Result, IfOk}
use Rattle.std.specs.declared.vec.Vec.{Vec}
use Rattle.std.proofs.Common.{Global}
use Rattle.std.specs.Prelude.{slice_get, option_map, option_to_list}
use Rattle.std.proofs.lemmas.List.{append-nil}
use Rattle.cb_model.specs.declared.Tree.{Tree}
use Rattle.cb_model.specs.declared.Clause.{Clause}
use Rattle.cb_model.specs.Equations.{Refuted}
use Rattle.cb_model.specs.Outside.{Rose}
use Rattle.cb_model.specs.Program.{Program, next_clause, bools}
use Rattle.cb_model.specs.Derivation.{Branch, Entry, Run, Try, Query, Note, SoFar, Plain, Whole, runs, whole, Adds, Made, passed, resolved, try_next, printed_of}
use Rattle.cb_branch.specs.Running.{Seen, HasRoom, IsBranch, IsCall, Keeps, GoesOn, WantsNodes, fulls_of, moment_of, nodes_of, program_of, query_of, with_fulls}
use Rattle.cb_branch.proofs.Laws.{asked-keeps, branch-fulls, call-fulls, fulls-keep, fulls-with, keeps-refl, keeps-with, nodes-keep, program-keeps, query-keeps, source-keeps}
use Rattle.cb_solve.specs.declared.Choice.{Choice}
use Rattle.cb_solve.specs.declared.Budget.{Budget}
use Rattle.cb_solve.specs.declared.Machine.{Machine}
use Rattle.cb_solve.specs.Machine.{Stacked, none, more, RunsAt, TriesAt, EndsAt, StopsAt, FewAt, HasRoomFor, IsFew, MayLeave, Resolves, LeavesNext, IsSame}
use Rattle.cb_solve.proofs.Runs.{so-far-step, printed-append}
use Rattle.cb_solve.proofs.Stacks.{Addition, try-addition, stacked-later, none-passed, stops-at}
use Rattle.cb_solve.proofs.Clauses.{next-there}
use Rattle.cb_solve.specs.Machine.{Passes}
use Rattle.cb_solve.specs.declared.Stepped.TheVariants as stepped
use Rattle.cb_dd.specs.declared.Stop.{Stop}
use Rattle.cb_solve.specs.declared.Stepped.{Stepped}
use Rattle.cb_solve.specs.Machine.{AtStep, IsNext, IsTurn, OnlyChoices, answers_of}

-- ---- the addition

module _ (p : Program) (q : Query) (m : Machine) (call k : ℕ) (h : Resolves p q m call k) where
  made-notes : List Note
  made-notes = h.notes ++ Made (resolved h.b h.pred h.args h.c) ∷ []

  pub resolve-goes : (n : Machine) → GoesOn p n.branch (resolved h.b h.pred h.args h.c) → IsSame m n → n.choices.items ≡ m.choices.items → (b' : Branch) × RunsAt p q n b'
  resolve-goes n g same hc = (
    g.woken,
    record {
      lower = h.below ++ h.lower;
      counted = record {
        notes = h.notes ++ Made (resolved h.b h.pred h.args h.c) ∷ [];
        so_far =
            subst (λ (x : ℕ). SoFar p q x (h.notes ++ Made (resolved h.b h.pred h.args h.c) ∷ []) n.used (Run g.woken ∷ (h.below ++ h.lower))) (sym same.budget)
            (subst (λ (x : ℕ). SoFar p q m.budget (h.notes ++ Made (resolved h.b h.pred h.args h.c) ∷ []) x (Run g.woken ∷ (h.below ++ h.lower))) (sym (same.used ∙ h.counts))
            (so-far-step p q m.budget h.before h.notes h.top h.lower (Adds 1 h.below (resolved h.b h.pred h.args h.c)) (Run g.woken ∷ h.below) h.so_far h.moves h.within (inl (g.solvable, (g.woken, (g.wakes, refl))))));
        many = ap length (printed-append h.notes (Made (resolved h.b h.pred h.args h.c) ∷ []) ∙ append-nil (printed_of h.notes)) ∙ h.many ∙ sym same.answers;
        program = program-keeps m.branch n.branch same.keeps ∙ h.program;
        query = query-keeps m.branch n.branch same.keeps ∙ h.query;
      };
      is = g.is;
      stacked = stacked-later m.branch n.branch n.choices.items (h.below ++ h.lower) same.keeps (subst (λ (x : List Choice). Stacked m.branch x (h.below ++ h.lower)) (sym hc) h.stacked);
      few = let f = h.few in let u = same.used in let a = same.answers in omega arith;
    },
  )

  pub resolve-fails : (n : Machine) → Refuted p.world (resolved h.b h.pred h.args h.c).items → IsSame m n → n.choices.items ≡ m.choices.items → TriesAt p q n
  resolve-fails n g same hc = record {
    lower = h.below ++ h.lower;
    counted = record {
      notes = h.notes ++ Made (resolved h.b h.pred h.args h.c) ∷ [];
      so_far =
          subst (λ (x : ℕ). SoFar p q x (h.notes ++ Made (resolved h.b h.pred h.args h.c) ∷ []) n.used (h.below ++ h.lower)) (sym same.budget)
          (subst (λ (x : ℕ). SoFar p q m.budget (h.notes ++ Made (resolved h.b h.pred h.args h.c) ∷ []) x (h.below ++ h.lower)) (sym (same.used ∙ h.counts))
          (so-far-step p q m.budget h.before h.notes h.top h.lower (Adds 1 h.below (resolved h.b h.pred h.args h.c)) h.below h.so_far h.moves h.within (inr (g, refl))));
      many = ap length (printed-append h.notes (Made (resolved h.b h.pred h.args h.c) ∷ []) ∙ append-nil (printed_of h.notes)) ∙ h.many ∙ sym same.answers;
      program = program-keeps m.branch n.branch same.keeps ∙ h.program;
      query = query-keeps m.branch n.branch same.keeps ∙ h.query;
    };
    stacked = stacked-later m.branch n.branch n.choices.items (h.below ++ h.lower) same.keeps (subst (λ (x : List Choice). Stacked m.branch x (h.below ++ h.lower)) (sym hc) h.stacked);
    few = let f = h.few in let u = same.used in let a = same.answers in omega arith;
  }

  pub resolve-few : (n : Machine) → program_of m.branch ≡ p → query_of m.branch ≡ q → WantsNodes m.branch n.branch (resolved h.b h.pred h.args h.c) → IsFew m n
  resolve-few n ep eq w = record {
    few = subst (λ (x : Program). FewAt x (query_of m.branch) m.budget m.answers (nodes_of m.branch)) (sym ep) (subst (λ (x : Query). FewAt p x m.budget m.answers (nodes_of m.branch)) (sym eq) (record {
      notes = h.notes;
      used = h.before;
      top = h.top;
      lower = h.lower;
      so_far = h.so_far;
      many = h.many;
      b = resolved h.b h.pred h.args h.c;
      of = inr (1, h.below, (h.moves, h.within));
      too_few = w.few;
    }));
    rose = w.rose;
  }

-- ---- the choice that is left

pub leaves-none : (m : Machine) (call clause : ℕ) → ((c : Clause) → slice_get (program_of m.branch).clauses clause ≡ Some c → None ≡ next_clause (program_of m.branch) c.pred clause) →
    LeavesNext m m call clause
leaves-none m call clause f = λ b pred args c lower is cells there of st.
    let e : next_clause (program_of m.branch) pred clause ≡ None = ap (λ (x : ℕ). next_clause (program_of m.branch) x clause) (sym of) ∙ sym (f c there) in
    subst (λ (o : Option ℕ). Stacked m.branch m.choices.items (option_to_list (option_map (λ n. Try b pred args n) o) ++ lower)) (sym e) st

pub leaves-some : (m n : Machine) (call clause next : ℕ) (top : Choice) →
    ((c : Clause) → slice_get (program_of m.branch).clauses clause ≡ Some c → Some next ≡ next_clause (program_of m.branch) c.pred clause) →
    top.call.0 ≡ call → top.clause ≡ next → top.mark ≡ moment_of m.branch → n.choices.items ≡ m.choices.items ++ top ∷ [] → n.branch ≡ m.branch → LeavesNext m n call clause
leaves-some m n call clause next top f ec ek em hc hs = λ b pred args c lower is cells there of st.
    let e : next_clause (program_of m.branch) pred clause ≡ Some next = ap (λ (x : ℕ). next_clause (program_of m.branch) x clause) (sym of) ∙ sym (f c there) in
    let d = next-there pred clause next (program_of m.branch).clauses e in
    subst (λ (o : Option ℕ). Stacked n.branch n.choices.items (option_to_list (option_map (λ k. Try b pred args k) o) ++ lower)) (sym e)
    (more m.branch b pred args d.0 m.choices.items top lower hc (ap (λ (x : ℕ). Try b pred args x ∷ lower) (sym ek))
    (subst (λ (s : Seen). Keeps m.branch s) (sym hs) (keeps-refl m.branch)) em is (subst (λ (x : ℕ). IsCall m.branch x pred args) (sym ec) cells)
    (subst (λ (x : ℕ). slice_get (program_of m.branch).clauses x ≡ Some d.0) (sym ek) d.1) d.2 st)

-- ---- the same of a machine with the same program and query

pub as-of : (F : Program → Query → Type 0) (s t : Seen) → program_of t ≡ program_of s → query_of t ≡ query_of s → F (program_of t) (query_of t) → F (program_of s) (query_of s)
as-of F s t ep eq f = subst (λ (x : Program). F x (query_of s)) ep (subst (λ (x : Query). F (program_of t) x) eq f)

pub to-of : (F : Program → Query → Type 0) (s t : Seen) → program_of t ≡ program_of s → query_of t ≡ query_of s → F (program_of s) (query_of s) → F (program_of t) (query_of t)
to-of F s t ep eq f = subst (λ (x : Program). F x (query_of t)) (sym ep) (subst (λ (x : Query). F (program_of s) x) (sym eq) f)

pub turn-at : (m n : Machine) (t : Seen) (x : Result Stepped Stop) → program_of t ≡ program_of m.branch → query_of t ≡ query_of m.branch → IfOk x (λ r. AtStep (program_of t) (query_of t) n r) →
    IfOk x (λ r. AtStep (program_of m.branch) (query_of m.branch) n r)
turn-at m n t x ep eq h = as-of (λ p q. IfOk x (λ r. AtStep p q n r)) m.branch t ep eq h

-- a machine with the same run, whose count of refusals is no less
pub record SameRun (m o : Machine) : Type 0 where
  pub program : program_of o.branch ≡ program_of m.branch
  pub query : query_of o.branch ≡ query_of m.branch
  pub source : o.branch.program ≡ m.branch.program
  pub asked : o.branch.query ≡ m.branch.query
  pub budget : o.budget ≡ m.budget
  pub answers : o.answers ≡ m.answers
  pub nodes : nodes_of o.branch ≡ nodes_of m.branch
  pub fulls : fulls_of m.branch ≤ fulls_of o.branch

rose-from : (a b c : ℕ) → a ≤ b → Rose b c → Rose a c
rose-from a b c h r = grind arith

pub few-from : (m o n : Machine) → SameRun m o → IsFew o n → IsFew m n
few-from m o n s h = record {
  few =
      as-of (λ p q. FewAt p q m.budget m.answers (nodes_of m.branch)) m.branch o.branch s.program s.query
      (subst (λ (x : ℕ). FewAt (program_of o.branch) (query_of o.branch) m.budget m.answers x) s.nodes
      (subst (λ (x : ℕ). FewAt (program_of o.branch) (query_of o.branch) m.budget x (nodes_of o.branch)) s.answers
      (subst (λ (x : ℕ). FewAt (program_of o.branch) (query_of o.branch) x o.answers (nodes_of o.branch)) s.budget h.few)));
  rose = rose-from (fulls_of m.branch) (fulls_of o.branch) (fulls_of n.branch) s.fulls h.rose;
}

pub same-run : (m o : Machine) → IsSame m o → SameRun m o
same-run m o s = record {
  program = program-keeps m.branch o.branch s.keeps;
  query = query-keeps m.branch o.branch s.keeps;
  source = source-keeps m.branch o.branch s.keeps;
  asked = asked-keeps m.branch o.branch s.keeps;
  budget = s.budget;
  answers = s.answers;
  nodes = nodes-keep m.branch o.branch s.keeps;
  fulls = fulls-keep m.branch o.branch s.keeps;
}

no-answers : (r : Stepped) → IsNext r → answers_of r ≡ 0
no-answers stepped.Goes h = refl
no-answers stepped.Left h = refl
no-answers stepped.Answer h = absurd h
no-answers (stepped.Stopped w) h = absurd h
no-answers stepped.End h = absurd h

pub turn-of : (m o n : Machine) (x : Result Stepped Stop) → SameRun m o → o.used ≡ m.used + 1 → m.used + 1 ≤ m.budget → IfOk x (λ r. IsSame o n × IsNext r) → IfOk x (λ r. IsTurn m n r)
turn-of m o n (Ok r) s eu le h = record {
  budget = h.0.budget ∙ s.budget;
  answers = h.0.answers ∙ s.answers;
  program = program-keeps o.branch n.branch h.0.keeps ∙ s.program;
  query = query-keeps o.branch n.branch h.0.keeps ∙ s.query;
  source = source-keeps o.branch n.branch h.0.keeps ∙ s.source;
  asked = asked-keeps o.branch n.branch h.0.keeps ∙ s.asked;
  nodes = nodes-keep o.branch n.branch h.0.keeps ∙ s.nodes;
  fulls = let a = s.fulls in let b = fulls-keep o.branch n.branch h.0.keeps in omega arith;
  counts = λ next. (h.0.used ∙ eu, let u = h.0.used in let b = s.budget in let c = h.0.budget in omega (arith, u, eu));
  used = let u = h.0.used in omega (arith, u, eu);
  quiet = no-answers r h.1;
}
turn-of m o n (Err e) s eu le h = h

-- ---- a retry

-- the newest choice is an entry, and the others those below it
pub record Popped (s : Seen) (lower : List Choice) (top : Choice) (entries : List Entry) : Type 0 where
  pub t : Seen
  pub b : Branch
  pub pred : ℕ
  pub args : List Tree
  pub c : Clause
  pub rest : List Entry
  pub entries_are : entries ≡ Try b pred args top.clause ∷ rest
  pub keeps : Keeps t s
  pub moment : top.mark ≡ moment_of t
  pub is : IsBranch t b
  pub cells : IsCall t top.call.0 pred args
  pub there : slice_get (program_of t).clauses top.clause ≡ Some c
  pub of : c.pred ≡ pred
  pub below : Stacked t lower rest

snoc-same : (xs ys : List Choice) (x y : Choice) → xs ++ x ∷ [] ≡ ys ++ y ∷ [] → (xs ≡ ys) × (x ≡ y)
snoc-same [] [] x y e = let h : x ≡ y = cc in (refl, h)
snoc-same [] (z ∷ ys) x y e = absurd (let l = ap length e in let k = length-append ys (y ∷ []) in omega (arith, l, k))
snoc-same (z ∷ xs) [] x y e = absurd (let l = ap length e in let k = length-append xs (x ∷ []) in omega (arith, l, k))
snoc-same (z ∷ xs) (w ∷ ys) x y e =
    let t : xs ++ x ∷ [] ≡ ys ++ y ∷ [] = cc in
    let h : z ≡ w = cc in
    let r = snoc-same xs ys x y t in
    (λ i. h i ∷ r.0 i, r.1)

pub popped : (s : Seen) (cs : List Choice) (entries : List Entry) (lower : List Choice) (top : Choice) → Stacked s cs entries → cs ≡ lower ++ top ∷ [] → Popped s lower top entries
popped s _ _ lower top none e = absurd (let l = ap length e in let k = length-append lower (top ∷ []) in omega (arith, l, k))
popped s cs entries lower top (more t b pred args c lo to rest hc he ku hm hb ha hk hp below) e =
    let same = snoc-same lo lower to top (sym hc ∙ e) in
    record {
      t = t;
      b = b;
      pred = pred;
      args = args;
      c = c;
      rest = rest;
      entries_are = he ∙ ap (λ (x : Choice). Try b pred args x.clause ∷ rest) same.1;
      keeps = ku;
      moment = sym (ap (λ (x : Choice). x.mark) same.1) ∙ hm;
      is = hb;
      cells = subst (λ (x : Choice). IsCall t x.call.0 pred args) same.1 ha;
      there = subst (λ (x : Choice). slice_get (program_of t).clauses x.clause ≡ Some c) same.1 hk;
      of = hp;
      below = subst (λ (x : List Choice). Stacked t x rest) same.0 below;
    }

pub emptied : (s : Seen) (cs : List Choice) (entries : List Entry) → Stacked s cs entries → cs ≡ [] → entries ≡ []
emptied s _ _ none e = refl
emptied s cs entries (more t b pred args c lo to rest hc he ku hm hb ha hk hp below) e = absurd (let l = ap length (sym hc ∙ e) in let k = length-append lo (to ∷ []) in omega (arith, l, k))

pub retry-ends : (m n : Machine) → TriesAt (program_of m.branch) (query_of m.branch) m → m.choices.items ≡ [] → n.budget ≡ m.budget → n.answers ≡ m.answers → EndsAt (program_of m.branch) (query_of m.branch) n
retry-ends m n h e hb ha =
    let none_left = emptied m.branch m.choices.items h.lower h.stacked e in
    record {
      notes = h.counted.notes;
      plain = subst (λ (x : ℕ). Plain (program_of m.branch) (query_of m.branch) x h.counted.notes Whole) (sym hb)
          (runs m.used [] (subst (λ (x : List Entry). SoFar (program_of m.branch) (query_of m.branch) m.budget h.counted.notes m.used x) none_left h.counted.so_far) whole);
      many = h.counted.many ∙ sym ha;
    }

abbrev pub back-at : Machine → Seen → Vec Choice Global → ℕ → Machine
back-at m s cs used = record m { branch = s; choices = cs; used = used }

-- back at the newest choice
module _ (m : Machine) (cs : Vec Choice Global) (top : Choice) (s : Seen) (h : TriesAt (program_of m.branch) (query_of m.branch) m) (pd : Popped m.branch cs.items top h.lower) (back : s ≡ with_fulls (fulls_of m.branch) pd.t) where
  since : Keeps pd.t s
  since = subst (λ (x : Seen). Keeps pd.t x) (sym back) (keeps-with (fulls_of m.branch) pd.t (fulls-keep pd.t m.branch pd.keeps))

  pub same-program : program_of s ≡ program_of m.branch
  same-program = program-keeps pd.t s since ∙ sym (program-keeps pd.t m.branch pd.keeps)

  pub same-query : query_of s ≡ query_of m.branch
  same-query = query-keeps pd.t s since ∙ sym (query-keeps pd.t m.branch pd.keeps)

  pub same-source : s.program ≡ m.branch.program
  same-source = source-keeps pd.t s since ∙ sym (source-keeps pd.t m.branch pd.keeps)

  pub same-asked : s.query ≡ m.branch.query
  same-asked = asked-keeps pd.t s since ∙ sym (asked-keeps pd.t m.branch pd.keeps)

  pub is-back : IsBranch s pd.b
  is-back = subst (λ (x : Seen). IsBranch x pd.b) (sym back) (branch-fulls (fulls_of m.branch) pd.t pd.b pd.is)

  pub cells-back : IsCall s top.call.0 pd.pred pd.args
  cells-back = subst (λ (x : Seen). IsCall x top.call.0 pd.pred pd.args) (sym back) (call-fulls (fulls_of m.branch) pd.t top.call.0 pd.pred pd.args pd.cells)

  pub there-back : slice_get (program_of s).clauses top.clause ≡ Some pd.c
  there-back = subst (λ (p : Program). slice_get p.clauses top.clause ≡ Some pd.c) (sym (program-keeps pd.t s since)) pd.there

  pub stacked-back : Stacked s cs.items pd.rest
  stacked-back = stacked-later pd.t s cs.items pd.rest since pd.below

  so-far-back : SoFar (program_of s) (query_of s) m.budget h.counted.notes m.used (Try pd.b pd.pred pd.args top.clause ∷ pd.rest)
  so-far-back = to-of (λ p q. SoFar p q m.budget h.counted.notes m.used (Try pd.b pd.pred pd.args top.clause ∷ pd.rest)) m.branch s same-program same-query
      (subst (λ (x : List Entry). SoFar (program_of m.branch) (query_of m.branch) m.budget h.counted.notes m.used x) pd.entries_are h.counted.so_far)

  pub same-nodes : nodes_of s ≡ nodes_of m.branch
  same-nodes = nodes-keep pd.t s since ∙ sym (nodes-keep pd.t m.branch pd.keeps)

  pub same-fulls : fulls_of s ≡ fulls_of m.branch
  same-fulls = ap fulls_of back ∙ fulls-with (fulls_of m.branch) pd.t

  pub back-run : (o : Machine) (used : ℕ) → OnlyChoices (back-at m s cs used) o → SameRun m o
  back-run o used only = record {
    program = ap (λ (x : Seen). program_of x) only.branch ∙ same-program;
    query = ap (λ (x : Seen). query_of x) only.branch ∙ same-query;
    source = ap (λ (x : Seen). x.program) only.branch ∙ same-source;
    asked = ap (λ (x : Seen). x.query) only.branch ∙ same-asked;
    budget = only.budget;
    answers = only.answers;
    nodes = ap (λ (x : Seen). nodes_of x) only.branch ∙ same-nodes;
    fulls = let a = same-fulls in let b = ap (λ (x : Seen). fulls_of x) only.branch in omega arith;
  }

  pub leave-back : MayLeave (back-at m s cs (m.used + 1)) top.clause
  leave-back = record { b = pd.b; is = is-back; c = pd.c; there = there-back }

  pub retry-made : Branch
  retry-made = resolved pd.b pd.pred pd.args pd.c

  adds-back : Addition (program_of s) pd.b (try_next (program_of s) pd.b pd.pred pd.args top.clause) 1 (bools pd.c.sorts) (Try pd.b pd.pred pd.args top.clause) (resolved pd.b pd.pred pd.args pd.c)
  adds-back = try-addition (program_of s) pd.b pd.pred pd.args top.clause pd.c there-back

  pub retry-stops : (n : ℕ) (w : Budget) → n ≡ bools pd.c.sorts → Passes (back-at m s cs m.used) 1 n (Some w) → StopsAt (program_of m.branch) (query_of m.branch) (back-at m s cs m.used) w
  retry-stops n w e ps =
      as-of (λ p q. StopsAt p q (back-at m s cs m.used) w) m.branch s same-program same-query
      (stops-at (program_of s) (query_of s) (back-at m s cs m.used) (Try pd.b pd.pred pd.args top.clause) pd.rest 1 (try_next (program_of s) pd.b pd.pred pd.args top.clause) (resolved pd.b pd.pred pd.args pd.c) w _
      (record { notes = h.counted.notes; so_far = so-far-back; many = h.counted.many; program = refl; query = refl }) adds-back.moves refl
      (ps pd.b (resolved pd.b pd.pred pd.args pd.c) is-back (adds-back.sorts ∙ ap (λ (x : ℕ). bools pd.b.sorts + x) (sym e)) adds-back.steps))

  pub retry-resolves : (n : ℕ) (o : Machine) → n ≡ bools pd.c.sorts → Passes (back-at m s cs m.used) 1 n None → HasRoomFor s n → LeavesNext (back-at m s cs (m.used + 1)) o top.call.0 top.clause → OnlyChoices (back-at m s cs (m.used + 1)) o →
      Resolves (program_of o.branch) (query_of o.branch) o top.call.0 top.clause
  retry-resolves n o e ps room ln only =
      to-of (λ p q. Resolves p q o top.call.0 top.clause) s o.branch (ap (λ (x : Seen). program_of x) only.branch) (ap (λ (x : Seen). query_of x) only.branch) (record {
        b = pd.b;
        pred = pd.pred;
        args = pd.args;
        c = pd.c;
        top = Try pd.b pd.pred pd.args top.clause;
        below = try_next (program_of s) pd.b pd.pred pd.args top.clause;
        lower = pd.rest;
        notes = h.counted.notes;
        before = m.used;
        so_far = subst (λ (x : ℕ). SoFar (program_of s) (query_of s) x h.counted.notes m.used (Try pd.b pd.pred pd.args top.clause ∷ pd.rest)) (sym only.budget) so-far-back;
        many = h.counted.many ∙ sym only.answers;
        counts = only.used;
        moves = adds-back.moves;
        within = subst (λ (x : ℕ). passed (program_of s) x (m.used + 1) (resolved pd.b pd.pred pd.args pd.c) ≡ None) (sym only.budget)
            (none-passed _ (ps pd.b (resolved pd.b pd.pred pd.args pd.c) is-back (adds-back.sorts ∙ ap (λ (x : ℕ). bools pd.b.sorts + x) (sym e)) adds-back.steps));
        is = subst (λ (x : Seen). IsBranch x pd.b) (sym only.branch) is-back;
        cells = subst (λ (x : Seen). IsCall x top.call.0 pd.pred pd.args) (sym only.branch) cells-back;
        there = subst (λ (x : Seen). slice_get (program_of x).clauses top.clause ≡ Some pd.c) (sym only.branch) there-back;
        pred_is = pd.of;
        room = subst (λ (x : Seen). HasRoom x (bools pd.c.sorts)) (sym only.branch) (subst (λ (k : ℕ). HasRoom s k) e (room pd.b is-back));
        stacked = ln pd.b pd.pred pd.args pd.c pd.rest is-back cells-back there-back pd.of stacked-back;
        few = let f = h.few in omega (arith, only.used, only.answers);
        program = ap (λ (x : Seen). program_of x) only.branch;
        query = ap (λ (x : Seen). query_of x) only.branch;
      })
