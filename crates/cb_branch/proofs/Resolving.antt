-- A call against a clause, over the parts of a branch.
use Rattle.std.proofs.Common.{◌≡◌, ◌^◌, ℕ, ◌+◌, ◌<◌, ◌≤◌, List, [], ◌∷◌, ◌++◌, length, Option, Some, None, sym, ap, subst, ◌∙◌, arith}
use Rattle.std.specs.Prelude.{IfNone, IfSome, slice_get}
use Rattle.cb_model.specs.declared.Tree.{Tree}
use Rattle.cb_model.specs.declared.Clause.{Clause}
use Rattle.cb_model.specs.Values.{Sorts}
use Rattle.cb_model.specs.Program.{bools}
use Rattle.cb_model.specs.Equations.{Refuted}
use Rattle.cb_model.specs.Derivation.{Branch, resolved}
use Rattle.cb_sorts.specs.Source.{Source}
use Rattle.cb_sorts.specs.Asked.{Asked}
use Rattle.cb_goals.specs.declared.Link.{Link}
use Rattle.cb_goals.specs.Chain.{body_goals, goals_at}
use Rattle.cb_wake.specs.Waits.{Waits}
use Rattle.cb_ready.specs.Parked.{Parked}
use Rattle.cb_unify.specs.State as state
use Rattle.cb_items.proofs.Lists.{some-one}
use Rattle.cb_branch.specs.Running.{IsBranch, IsCall, IsResolvable, Seen, program_of}
use Rattle.cb_branch.specs.Terms.{Adds, ForHead, IsHead, IsRenamed, NoItem}
use Rattle.cb_branch.proofs.Methods.{resolve-no, resolve-yes, seen}
use Rattle.cb_branch.proofs.Calls.{clause-there, resolve-body, resolve-call, resolve-head, resolve-inside, resolve-room, resolve-steps, top-here}

pub if-none : {X : Type 0} (o : Option X) (P : Type 0) → o ≡ None → IfNone o P → P
if-none {X = X} o P e h = subst (λ (x : Option X). IfNone x P) e h

pub if-some : {X : Type 0} (o : Option X) (P : X → Type 0) (x : X) → o ≡ Some x → IfSome o P → P x
if-some {X = X} o P x e h = subst (λ (y : Option X). IfSome y P) e h

module _ (now : Seen) (p : Source) (q : Asked) (u : state.Seen) (fs : List (List ℕ)) (ls : List Link) (top steps : ℕ) (ws : Waits) (pk : List Parked) (v : seen p q u fs ls top steps ws pk ≡ now) (clause call : ℕ) (h : IsResolvable now clause call) where
  pub clause-inside : clause < length p.clauses
  clause-inside = let a = ap (λ (o : Seen). length o.program.clauses) v in let b = clause-there now clause call h in omega arith

  pub call-inside : call < length u.heap.sorts
  call-inside = let a = ap (λ (o : Seen). length o.state.heap.sorts) v in let b = resolve-call now clause call h in omega arith

  pub steps-inside : steps < 1000000
  steps-inside = let a = ap (λ (o : Seen). o.steps) v in let b = resolve-steps now clause call h in omega arith

  pub list-inside : top ≤ length ls
  list-inside = top-here now p q u fs ls top steps ws pk v (resolve-inside now clause call h)

  module _ (x : Clause) (there : slice_get p.clauses clause ≡ Some x) where
    there-now : slice_get now.program.clauses clause ≡ Some x
    there-now = sym (ap (λ (o : Seen). slice_get o.program.clauses clause) v) ∙ there

    pub room-inside : u.store.drawn + bools x.sorts < 2 ^ 32
    room-inside = let a = ap (λ (o : Seen). o.state.store.drawn) v in let b = resolve-room now clause call h x there-now in omega arith

    pub head-inside : (t : Sorts) × IsHead u t x.sorts x.pred x.head
    head-inside = let r = resolve-head now clause call h x there-now in (r.0, subst (λ (o : Seen). IsHead o.state r.0 x.sorts x.pred x.head) (sym v) r.1)

    pub body-few : length x.body < 2 ^ 32
    body-few = resolve-body now clause call h x there-now

    same : (c : Clause) → slice_get (program_of now).clauses clause ≡ Some c → x ≡ c
    unfolding program_of
    same c e = some-one x c (sym there-now ∙ e)

    pub none-left : ForHead u x.sorts x.pred x.head call (λ w i. NoItem w u i) →
        (b : Branch) (pred : ℕ) (args : List Tree) (c : Clause) → IsBranch now b → IsCall now call pred args → slice_get (program_of now).clauses clause ≡ Some c → c.pred ≡ pred →
        Refuted (program_of now).world (resolved b pred args c).items
    none-left f b pred args c is cells e of =
        let s = same c e in
        subst (λ (y : Clause). Refuted (program_of now).world (resolved b pred args y).items) s
        (resolve-no now p q u fs ls top steps ws pk v clause call x there f b pred args is cells (ap (λ (y : Clause). y.pred) s ∙ of))

    pub goes-on : (t : state.Seen) (frame : List ℕ) (fs' : List (List ℕ)) (ls' : List Link) (list number : ℕ) → fs' ≡ fs ++ frame ∷ [] → number ≡ length fs → list ≤ length ls' →
        goals_at ls' list ≡ body_goals clause number 0 (length x.body) ++ goals_at ls top → ForHead u x.sorts x.pred x.head call (λ w i. Adds w u t (bools x.sorts) i × IsRenamed u t x.sorts frame) →
        (b : Branch) (pred : ℕ) (args : List Tree) (c : Clause) → IsBranch now b → IsCall now call pred args → slice_get (program_of now).clauses clause ≡ Some c → c.pred ≡ pred →
        IsBranch (seen p q t fs' ls' list (steps + 1) ws pk) (resolved b pred args c)
    goes-on t frame fs' ls' list number ef n inside el f b pred args c is cells e of =
        let s = same c e in
        let l = el ∙ ap (λ (k : ℕ). body_goals clause k 0 (length x.body) ++ goals_at ls top) n in
        subst (λ (y : Clause). IsBranch (seen p q t fs' ls' list (steps + 1) ws pk) (resolved b pred args y)) s
        (resolve-yes now p q u fs ls top steps ws pk v clause call x there t frame fs' ls' list ef inside l f b pred args is cells (ap (λ (y : Clause). y.pred) s ∙ of))
