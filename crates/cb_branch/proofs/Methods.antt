-- The calls of a branch, over the parts that it is made of.
use Rattle.std.proofs.Common.{◌≡◌, ◌≢◌, ◌-◌, ◌^◌, Bool, true, ℕ, ◌+◌, ◌≤◌, List, [], ◌∷◌, ◌++◌, length, take, refl, sym, ap, subst, ◌∙◌, arith, append-nil}
use Rattle.std.proofs.lemmas.List.{take-append-le}
use Rattle.std.proofs.Math.Seq.{take-length}
use Rattle.cb_model.specs.Derivation.{Branch, extended, resolved}
use Rattle.cb_sorts.specs.Source.{Source}
use Rattle.cb_sorts.specs.Asked.{Asked}
use Rattle.cb_goals.specs.declared.Link.{Link}
use Rattle.cb_unify.specs.State as state
use Rattle.cb_unify.specs.State.{IsState}
use Rattle.cb_unify.specs.Moments as moments
use Rattle.cb_wake.specs.Waits.{Waits}
use Rattle.cb_wake.specs.Moments as wakes
use Rattle.cb_ready.specs.Parked.{Parked}
use Rattle.std.specs.Prelude.{Some, slice_get}
use Rattle.cb_model.specs.declared.Sort.{Sort}
use Rattle.cb_model.specs.declared.Tree.{Tree}
use Rattle.cb_model.specs.declared.Tree.TheVariants as tree
use Rattle.cb_model.specs.declared.Goal.{Goal}
use Rattle.cb_model.specs.declared.Goal.TheVariants as goal
use Rattle.cb_model.specs.declared.Clause.{Clause}
use Rattle.cb_model.specs.Program.{bools}
use Rattle.cb_model.specs.Equations.{Pair, Refuted}
use Rattle.cb_goals.specs.declared.Pending.{Pending}
use Rattle.cb_goals.specs.Chain.{body_goals, goals_at}
use Rattle.cb_items.specs.Items.{Refuses}
use Rattle.cb_items.specs.Standing.{Stands}
use Rattle.cb_items.proofs.Additions.{keeps-budget}
use Rattle.cb_wake.proofs.Back.{keeps-self}
use Rattle.cb_model.specs.Outside.{Rose}
use Rattle.cb_branch.specs.Running.{IsAt, IsBranch, IsCall, IsLater, IsTheBranch, Keeps, Moment, Place, Seen, behind, TooFew, WantsNodes, fulls_of, moment_of, nodes_of, program_of, with_fulls}
use Rattle.cb_branch.specs.Terms.{Adds, ForEquation, ForHead, IsBuildable, IsRenamed, NoItem}
use Rattle.cb_branch.proofs.Branches.{asked}
use Rattle.cb_branch.proofs.Takes.{clause-fails, clause-goes, equation-buildable, equation-fails, equation-goes}

-- the view of a branch by its parts
abbrev pub seen : Source → Asked → state.Seen → List (List ℕ) → List Link → ℕ → ℕ → Waits → List Parked → Seen
seen p q u fs ls top steps ws pk = record { program = p; query = q; state = u; frames = fs; links = ls; top = top; steps = steps; waits = ws; parked = pk }

take-front : {A : Type 0} (xs ys more : List A) (n : ℕ) → ys ≡ xs ++ more → n ≡ length xs → take n ys ≡ xs
take-front xs ys more n e m = ap (λ k. take k ys) m ∙ ap (λ l. take (length xs) l) e ∙ take-append-le (length xs) xs more (omega arith) ∙ take-length xs

-- going back
pub undo-back : (now : Seen) (p : Source) (q : Asked) (u : state.Seen) (fs : List (List ℕ)) (ls : List Link) (top steps : ℕ) (ws : Waits) (pk : List Parked) → seen p q u fs ls top steps ws pk ≡ now → (to m : Moment) → m ≡ to →
    (u' : state.Seen) (fs' : List (List ℕ)) (ls' : List Link) → fs' ≡ take m.frames fs → ls' ≡ take m.links ls →
    (ws' : Waits) (pk' : List Parked) → pk' ≡ take m.parked pk → ((w : Waits) → m.waits ≡ wakes.moment_of w → wakes.KeepsMoments w ws → ws' ≡ w) →
    ((s : state.Seen) → IsState s → m.state ≡ moments.moment_of s → moments.KeepsMoments s u → u' ≡ state.with_fulls u.store.nodes.fulls s) →
    (s : Seen) (b : Branch) → IsBranch s b → to ≡ moment_of s → Keeps s now → seen p q u' fs' ls' m.top m.steps ws' pk' ≡ with_fulls (fulls_of now) s
unfolding IsBranch Keeps moment_of with_fulls fulls_of
undo-back now p q u fs ls top steps ws pk v to m me u' fs' ls' ef el ws' pk' ep wake-back back s b is e k =
    let em = me ∙ e in
    let cu : u ≡ now.state = ap (λ (x : Seen). x.state) v in
    let cp : p ≡ s.program = ap (λ (x : Seen). x.program) v ∙ k.program in
    let cq : q ≡ s.query = ap (λ (x : Seen). x.query) v ∙ k.query in
    let cs : u' ≡ state.with_fulls now.state.store.nodes.fulls s.state =
    back s.state is.state (ap (λ (x : Moment). x.state) em) (subst (λ (x : state.Seen). moments.KeepsMoments s.state x) (sym cu) k.state)
    ∙ ap (λ (x : state.Seen). state.with_fulls x.store.nodes.fulls s.state) cu in
    let cf : fs' ≡ s.frames = ef ∙ take-front s.frames fs k.frames.0 m.frames (ap (λ (x : Seen). x.frames) v ∙ k.frames.1) (ap (λ (x : Moment). x.frames) em) in
    let cl : ls' ≡ s.links = el ∙ take-front s.links ls k.links.0 m.links (ap (λ (x : Seen). x.links) v ∙ k.links.1) (ap (λ (x : Moment). x.links) em) in
    let cw : ws' ≡ s.waits =
    wake-back s.waits (ap (λ (x : Moment). x.waits) em) (subst (λ (x : Waits). wakes.KeepsMoments s.waits x) (sym (ap (λ (x : Seen). x.waits) v)) k.waits) in
    let cp' : pk' ≡ s.parked = ep ∙ take-front s.parked pk k.parked.0 m.parked (ap (λ (x : Seen). x.parked) v ∙ k.parked.1) (ap (λ (x : Moment). x.parked) em) in
    let ct = ap (λ (x : Moment). x.top) em in
    let cn = ap (λ (x : Moment). x.steps) em in
    λ i. record { program = cp i; query = cq i; state = cs i; frames = cf i; links = cl i; top = ct i; steps = cn i; waits = cw i; parked = cp' i }

-- ---- moments, and stops for nodes

module _ (now : Seen) (p : Source) (q : Asked) (u : state.Seen) (fs : List (List ℕ)) (ls : List Link) (top steps : ℕ) (ws : Waits) (pk : List Parked) (v : seen p q u fs ls top steps ws pk ≡ now) (t : state.Seen) where
  pub keeps-to : (b : Bool) → IsState u → moments.KeepsMoments u t → Refuses u t b → IsState t → (fs' more : List (List ℕ)) (ls' links : List Link) (top' steps' : ℕ) → fs' ≡ fs ++ more → ls' ≡ ls ++ links →
      Keeps now (seen p q t fs' ls' top' steps' ws pk)
  unfolding Keeps
  keeps-to b is k r there fs' more ls' links top' steps' ef el =
      subst (λ (o : Seen). IsLater o (seen p q t fs' ls' top' steps' ws pk)) v (record {
        program = refl;
        query = refl;
        state = k;
        holds = λ _. there;
        fulls = r.more;
        nodes = keeps-budget u t is k;
        frames = (more, ef);
        links = (links, el);
        waits = keeps-self ws;
        parked = ([], sym (append-nil pk));
      })

  pub wants-to : (wants : Bool) → wants ≡ true → Refuses u t wants → (fs' : List (List ℕ)) (ls' : List Link) (top' steps' : ℕ) (b : Branch) → WantsNodes now (seen p q t fs' ls' top' steps' ws pk) b
  unfolding fulls_of nodes_of TooFew
  wants-to wants e r fs' ls' top' steps' b = record {
    rose = subst (λ (o : Seen). Rose o.state.store.nodes.fulls t.store.nodes.fulls) v (r.rose e);
    few = subst (λ (o : Seen). o.state.store.nodes.budget ≢ 2 ^ 64 - 1) v (r.bounded e);
  }

-- ---- an equation

module _ (now : Seen) (p : Source) (q : Asked) (u : state.Seen) (fs : List (List ℕ)) (ls : List Link) (top steps : ℕ) (ws : Waits) (pk : List Parked) (v : seen p q u fs ls top steps ws pk ≡ now) where
  module _ (x : Pending) (list : ℕ) (l' r' : Tree) (cells : List ℕ) (at : goals_at ls top ≡ x ∷ goals_at ls list) (inside : list ≤ length ls)
      (wr : (w : Place) → IsAt now x w → (w.goal ≡ goal.Equal l' r') × (slice_get fs w.frame ≡ Some cells)) where
    wr-at : (w : Place) → IsAt (seen p q u fs ls top steps ws pk) x w → (w.goal ≡ goal.Equal l' r') × (slice_get fs w.frame ≡ Some cells)
    wr-at = subst (λ (o : Seen). (w : Place) → IsAt o x w → (w.goal ≡ goal.Equal l' r') × (slice_get fs w.frame ≡ Some cells)) (sym v) wr

    pub equate-buildable : (b : Branch) (l r : Tree) (rest : List Goal) → IsBranch now b → b.goals ≡ goal.Equal l r ∷ rest →
        (t : List (List Sort)) × (zs : List Sort) × (z : Sort) × IsBuildable u t zs cells z l' × IsBuildable u t zs cells z r'
    unfolding IsBranch
    equate-buildable b l r rest is e = equation-buildable (seen p q u fs ls top steps ws pk) b l r rest x list l' r' cells (subst (λ (o : Seen). IsTheBranch o b) (sym v) is) e at wr-at

    pub equate-yes : (t : state.Seen) → ForEquation u cells l' r' (λ w i. Adds w u t 0 i × (t.made ≡ u.made)) →
        (b : Branch) (l r : Tree) (rest : List Goal) → IsBranch now b → b.goals ≡ goal.Equal l r ∷ rest → IsBranch (seen p q t fs ls list (steps + 1) ws pk) (extended (behind b rest) rest (Pair l r ∷ []) [])
    unfolding IsBranch
    equate-yes t f b l r rest is e =
        equation-goes (seen p q u fs ls top steps ws pk) b l r rest x list l' r' cells (subst (λ (o : Seen). IsTheBranch o b) (sym v) is) e at wr-at t inside f

    pub equate-no : ForEquation u cells l' r' (λ w i. NoItem w u i) → (b : Branch) (l r : Tree) (rest : List Goal) → IsBranch now b → b.goals ≡ goal.Equal l r ∷ rest →
        Refuted (program_of now).world (extended (behind b rest) rest (Pair l r ∷ []) []).items
    unfolding IsBranch program_of
    equate-no f b l r rest is e =
        subst (λ (o : Seen). Refuted (asked o).world (b.items ++ Pair l r ∷ [])) v
        (equation-fails (seen p q u fs ls top steps ws pk) b l r rest x list l' r' cells (subst (λ (o : Seen). IsTheBranch o b) (sym v) is) e at wr-at f)

  -- ---- a clause

  module _ (clause call : ℕ) (c : Clause) (there : slice_get p.clauses clause ≡ Some c) where
    pub resolve-no : ForHead u c.sorts c.pred c.head call (λ w i. NoItem w u i) →
        (b : Branch) (pred : ℕ) (args : List Tree) → IsBranch now b → IsCall now call pred args → c.pred ≡ pred → Refuted (program_of now).world (resolved b pred args c).items
    unfolding IsBranch IsCall program_of
    resolve-no f b pred args is cells of =
        subst (λ (o : Seen). Refuted (asked o).world (resolved b pred args c).items) v
        (clause-fails (seen p q u fs ls top steps ws pk) b pred args clause call c (subst (λ (o : Seen). IsTheBranch o b) (sym v) is) there of
        (subst (λ (o : Seen). Stands (asked o).world.arguments o.state call (tree.Node pred args)) (sym v) cells.1) f)

    pub resolve-yes : (t : state.Seen) (frame : List ℕ) (fs' : List (List ℕ)) (ls' : List Link) (list : ℕ) → fs' ≡ fs ++ frame ∷ [] → list ≤ length ls' →
        goals_at ls' list ≡ body_goals clause (length fs) 0 (length c.body) ++ goals_at ls top →
        ForHead u c.sorts c.pred c.head call (λ w i. Adds w u t (bools c.sorts) i × IsRenamed u t c.sorts frame) →
        (b : Branch) (pred : ℕ) (args : List Tree) → IsBranch now b → IsCall now call pred args → c.pred ≡ pred → IsBranch (seen p q t fs' ls' list (steps + 1) ws pk) (resolved b pred args c)
    unfolding IsBranch IsCall
    resolve-yes t frame fs' ls' list ef inside el f b pred args is cells of =
        clause-goes (seen p q u fs ls top steps ws pk) b pred args clause call c (subst (λ (o : Seen). IsTheBranch o b) (sym v) is) there of
        (subst (λ (o : Seen). Stands (asked o).world.arguments o.state call (tree.Node pred args)) (sym v) cells.1) t frame fs' ls' [] list ef inside el f
