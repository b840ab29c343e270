-- Writing trees with a list of what is pending.
use Rattle.std.proofs.Common.{◌≡◌, ℕ, zero, suc, ◌+◌, ◌-◌, ◌*◌, ◌<◌, ◌≤◌, Bool, true, false, ◌&&◌, List, [], ◌∷◌, ◌++◌, length, map, drop, take, Result, Ok, Err, refl, sym, ap, subst, ◌∙◌, arith, length-append, append-nil, rules}
use Rattle.std.specs.Prelude.{IfOk, get_or, sum_by}
use Rattle.std.proofs.lemmas.Bool.{and_parts}
use Rattle.std.proofs.lemmas.List.{append_assoc, drop_at, map-append, take_at, take-append-drop}
use Rattle.std.proofs.lemmas.List.Sums.{sum-map, sum_by-append, sum_by_push, sum_by-take-drop}
use Rattle.cb_model.specs.declared.Tree.{Tree}
use Rattle.cb_model.specs.declared.Tree.TheOpen.{Tree-F}
use Rattle.cb_model.specs.declared.Tree.TheVariants as tree
use Rattle.cb_model.specs.declared.Tree.TheFolds.{fold-roll-Tree}
use Rattle.cb_model.specs.Bits.{Each, all_of}
use Rattle.cb_model.specs.Room.{tree_size}
use Rattle.cb_model.specs.Values.{tree_in_scope}
use Rattle.cb_dd.specs.Diagram.{Store as Nodes}
use Rattle.cb_dd.specs.declared.Stop.{Stop}
use Rattle.cb_dd.specs.declared.Stop.TheVariants as stop
use Rattle.cb_solution.specs.Solution.{has_refused}
use Rattle.cb_elim.specs.Store.{Seen as Booleans}
use Rattle.cb_heap.specs.declared.Ref.{Ref}
use Rattle.cb_unify.specs.declared.writing.Pending.{Pending}
use Rattle.cb_unify.specs.State.{Seen}
use Rattle.cb_unify.specs.Trees.{AreTreesOf, IsTreeOf, WritesAtMost, nodes_most}
use Rattle.cb_unify.specs.Works.{Work, Whole, Close, AreOpen, GoesOn, IsClosedWith, IsInScope, IsOpen, IsUnderWay, Writes, after, last_first, steps, steps_step, work_of, work_size, work_steps, works, written}
use Rattle.cb_unify.proofs.Bounds.{cause-after, room-after, room-le, size-node}
use Rattle.cb_unify.proofs.Leaves.{drop-step}
use Rattle.cb_unify.proofs.Written.{closed-at, node-scope, one-more, one-tree}

-- ---- lists of what is pending

written-append : (vs ws : List Work) (xs : List Tree) → written (vs ++ ws) xs ≡ written vs (written ws xs)
written-append [] ws xs = refl
written-append (v ∷ vs) ws xs = ap (after v) (written-append vs ws xs)

open-split : (vs ws : List Work) (xs : List Tree) → AreOpen (vs ++ ws) xs → AreOpen vs (written ws xs) × AreOpen ws xs
open-split [] ws xs h = (tt, h)
open-split (v ∷ vs) ws xs h = let k = open-split vs ws xs h.1 in ((subst (λ (ys : List Tree). IsOpen v (length ys)) (written-append vs ws xs) h.0, k.0), k.1)

open-both : (vs ws : List Work) (xs : List Tree) → AreOpen vs (written ws xs) → AreOpen ws xs → AreOpen (vs ++ ws) xs
open-both [] ws xs h k = k
open-both (v ∷ vs) ws xs h k = (subst (λ (ys : List Tree). IsOpen v (length ys)) (sym (written-append vs ws xs)) h.0, open-both vs ws xs h.1 k)

each-split : (P : Work → Type 0) (vs ws : List Work) → Each P (vs ++ ws) → Each P vs × Each P ws
each-split P [] ws h = (tt, h)
each-split P (v ∷ vs) ws h = let k = each-split P vs ws h.1 in ((h.0, k.0), k.1)

each-both : (P : Work → Type 0) (vs ws : List Work) → Each P vs → Each P ws → Each P (vs ++ ws)
each-both P [] ws h k = k
each-both P (v ∷ vs) ws h k = (h.0, each-both P vs ws h.1 k)

-- the trees of a compound's arguments
written-args : (ys xs : List Tree) → written (last_first ys) xs ≡ xs ++ ys
written-args [] xs = sym (append-nil xs)
written-args (y ∷ ys) xs = written-append (last_first ys) (Whole y ∷ []) xs ∙ written-args ys (xs ++ y ∷ []) ∙ append_assoc xs (y ∷ []) ys

open-args : (ys xs : List Tree) → AreOpen (last_first ys) xs
open-args [] xs = tt
open-args (y ∷ ys) xs = open-both (last_first ys) (Whole y ∷ []) xs (open-args ys (xs ++ y ∷ [])) (tt, tt)

scope-args : (c v : ℕ) (ys : List Tree) → all_of (map (tree_in_scope c v) ys) ≡ true → Each (IsInScope c v) (last_first ys)
scope-args c v [] h = tt
scope-args c v (y ∷ ys) h =
    let p = and_parts (tree_in_scope c v y) (all_of (map (tree_in_scope c v) ys)) h in
    each-both (IsInScope c v) (last_first ys) (Whole y ∷ []) (scope-args c v ys p.1) (p.0, tt)

steps-args : (ys : List Tree) → sum_by work_steps (last_first ys) ≡ sum_by steps ys + length ys
steps-args [] = refl
steps-args (y ∷ ys) =
    let a : sum_by work_steps (last_first (y ∷ ys)) ≡ sum_by work_steps (last_first ys) + (steps y + 1) = sum_by_push work_steps (last_first ys) (Whole y) in
    let b = steps-args ys in
    let c : sum_by steps (y ∷ ys) ≡ 0 + steps y + sum_by steps ys = sum_by-append steps (y ∷ []) ys in
    omega (arith, a, b, c)

-- ---- sizes

after-size : (w : Work) (ys : List Tree) → sum_by tree_size ys + work_size w ≤ sum_by tree_size (after w ys)
after-size (Whole x) ys = let a = sum_by_push tree_size ys x in omega (arith, a)
after-size (Close name start) ys =
    let a = sum_by_push tree_size (take start ys) (tree.Node name (drop start ys)) in
    let b = size-node name (drop start ys) in
    let c = sum_by-take-drop tree_size ys start in
    omega (arith, a, b, c)

-- what has cells and what is pending are no more than what has cells in the end
pub written-size : (ws : List Work) (xs : List Tree) → sum_by tree_size xs + sum_by work_size ws ≤ sum_by tree_size (written ws xs)
written-size [] xs = omega arith
written-size (w ∷ ws) xs =
    let a = written-size ws xs in
    let b : sum_by tree_size (written ws xs) + work_size w ≤ sum_by tree_size (written (w ∷ ws) xs) = after-size w (written ws xs) in
    let c : sum_by work_size (w ∷ ws) ≡ 0 + work_size w + sum_by work_size ws = sum_by-append work_size (w ∷ []) ws in
    omega (arith, a, b, c)

pub size-next : (ws : List Work) (w : Work) (xs all : List Tree) → written (ws ++ w ∷ []) xs ≡ all → sum_by tree_size xs + work_size w ≤ sum_by tree_size all
size-next ws w xs all e =
    let a = written-size (ws ++ w ∷ []) xs in
    let b = sum_by_push work_size ws w in
    let c = ap (λ (l : List Tree). sum_by tree_size l) e in
    omega (arith, a, b, c)

-- ---- pushing

pub push-one : (ps qs : List Pending) (p : Pending) (base : List Work) (xs : List Tree) (k : ℕ) (x d : Tree) → qs ≡ ps ++ p ∷ [] → work_of p ≡ Whole x → x ≡ get_or xs (k - 1) d → k ≤ length xs → 0 < k →
    works ps ≡ base ++ last_first (drop k xs) → works qs ≡ base ++ last_first (drop (k - 1) xs)
push-one ps qs p base xs k x d e w is within some h =
    let less : k - 1 < length xs = omega arith in
    let up : k - 1 + 1 ≡ k = omega arith in
    let front : drop (k - 1) xs ≡ x ∷ drop k xs = drop-step xs (k - 1) d less ∙ ap (λ (y : Tree). y ∷ drop (k - 1 + 1) xs) (sym is) ∙ ap (λ n. x ∷ drop n xs) up in
    ap works e ∙ map-append work_of ps (p ∷ []) ∙ ap (λ (v : Work). works ps ++ v ∷ []) w ∙ ap (λ (l : List Work). l ++ Whole x ∷ []) h
    ∙ append_assoc base (last_first (drop k xs)) (Whole x ∷ []) ∙ sym (ap (λ (l : List Tree). base ++ last_first l) front)

pub push-works : (ps qs : List Pending) (p : Pending) → qs ≡ ps ++ p ∷ [] → works qs ≡ works ps ++ work_of p ∷ []
push-works ps qs p e = ap works e ∙ map-append work_of ps (p ∷ [])

-- ---- one step

count-map : {A B : Type 0} (f : A → B) (xs : List A) → length (map f xs) ≡ length xs
count-map f [] = refl
count-map f (x ∷ xs) = ap suc (count-map f xs)

steps-node : (name : ℕ) (xs : List Tree) → steps (tree.Node name xs) ≡ sum_by steps xs + length xs + 1
steps-node name xs =
    let a : steps (tree.Node name xs) ≡ steps_step (Tree-F.Node name (map steps xs)) = ap steps (sym (tree.rolls-Node name xs)) ∙ fold-roll-Tree ℕ steps_step (Tree-F.Node name xs) in
    let b = sum-map steps xs in
    let c = count-map steps xs in
    omega (arith, a, b, c)

-- a compound's parts take fewer steps than the compound
pub node-falls : (old new : List Work) (x : Tree) (name start : ℕ) (xs ys : List Tree) → x ≡ tree.Node name xs → ys ≡ xs → new ≡ old ++ Close name start ∷ [] ++ last_first ys → sum_by work_steps new < sum_by work_steps old + work_steps (Whole x)
node-falls old new x name start xs ys is same e =
    let a : sum_by work_steps new ≡ sum_by work_steps old + 1 + (sum_by steps xs + length xs) =
    ap (λ (l : List Work). sum_by work_steps l) e ∙ sum_by-append work_steps (old ++ Close name start ∷ []) (last_first ys) ∙ ap (λ n. n + sum_by work_steps (last_first ys)) (sum_by_push work_steps old (Close name start))
    ∙ ap (λ n. sum_by work_steps old + 1 + n) (steps-args ys ∙ ap (λ (l : List Tree). sum_by steps l + length l) same) in
    let b : steps x ≡ sum_by steps xs + length xs + 1 = ap steps is ∙ steps-node name xs in
    omega (arith, a, b)

-- a compound's parts are pending
pub node-goes : (now : Seen) (frame : List ℕ) (ws new : List Work) (rs : List Ref) (x : Tree) (name start : ℕ) (xs ys : List Tree) → x ≡ tree.Node name xs → ys ≡ xs → start ≡ length rs → new ≡ ws ++ Close name start ∷ [] ++ last_first ys →
    GoesOn now now frame (ws ++ Whole x ∷ []) new rs rs
node-goes now frame ws new rs x name start xs ys is same at e old all m =
    let ts = m.xs in
    let c = old.store.constants in
    let v = length frame in
    let n : length ts ≡ start = sym (at ∙ m.trees.number) in
    let tail : Work = Close name start in
    let ended : written (tail ∷ []) (ts ++ ys) ≡ ts ++ x ∷ [] =
    ap (λ (l : List Tree). l ++ tree.Node name (drop start (ts ++ ys)) ∷ []) (take_at ts ys start n) ∙ ap (λ (l : List Tree). ts ++ tree.Node name l ∷ []) (drop_at ts ys start n)
    ∙ ap (λ (l : List Tree). ts ++ tree.Node name l ∷ []) same ∙ ap (λ (y : Tree). ts ++ y ∷ []) (sym is) in
    let front = open-split ws (Whole x ∷ []) ts m.starts in
    let scopes = each-split (IsInScope c v) ws (Whole x ∷ []) m.scope in
    let wide : start ≤ length (ts ++ ys) = (let l = length-append ts ys in omega (arith, l, n)) in
    record {
      xs = ts;
      trees = m.trees;
      comes = ap (λ (l : List Work). written l ts) e ∙ written-append (ws ++ tail ∷ []) (last_first ys) ts ∙ ap (λ (l : List Tree). written (ws ++ tail ∷ []) l) (written-args ys ts)
          ∙ written-append ws (tail ∷ []) (ts ++ ys) ∙ ap (λ (l : List Tree). written ws l) ended ∙ sym (written-append ws (Whole x ∷ []) ts) ∙ m.comes;
      starts = subst (λ (l : List Work). AreOpen l ts) (sym e) (open-both (ws ++ tail ∷ []) (last_first ys) ts
          (subst (λ (l : List Tree). AreOpen (ws ++ tail ∷ []) l) (sym (written-args ys ts)) (open-both ws (tail ∷ []) (ts ++ ys) (subst (λ (l : List Tree). AreOpen ws l) (sym ended) front.0) (wide, tt)))
          (open-args ys ts));
      scope = subst (λ (l : List Work). Each (IsInScope c v) l) (sym e) (each-both (IsInScope c v) (ws ++ tail ∷ []) (last_first ys) (each-both (IsInScope c v) ws (tail ∷ []) scopes.0 (tt, tt))
          (scope-args c v ys (node-scope c v x name xs ys is same scopes.1.0)));
      room = m.room;
      fulls = m.fulls;
    }

-- a tree has its cell
pub tree-goes : (now new : Seen) (frame : List ℕ) (ws : List Work) (rs qs : List Ref) (x : Tree) (r : Ref) → IsTreeOf now new frame x r.0 → WritesAtMost now.store new.store (tree_size x) → new.store.nodes.fulls ≡ now.store.nodes.fulls →
    qs ≡ rs ++ r ∷ [] → GoesOn now new frame (ws ++ Whole x ∷ []) ws rs qs
tree-goes now new frame ws rs qs x r p room full e old all m = record {
  xs = m.xs ++ x ∷ [];
  trees = subst (λ (l : List Ref). AreTreesOf old new frame (m.xs ++ x ∷ []) l) (sym e) (one-more old now new frame m.xs rs x r m.trees p);
  comes = sym (written-append ws (Whole x ∷ []) m.xs) ∙ m.comes;
  starts = (open-split ws (Whole x ∷ []) m.xs m.starts).0;
  scope = (each-split (IsInScope old.store.constants (length frame)) ws (Whole x ∷ []) m.scope).0;
  room = let a = sum_by_push tree_size m.xs x in room-after old now new.store.nodes _ (sum_by tree_size m.xs) (tree_size x) (sum_by tree_size (m.xs ++ x ∷ [])) m.trees.added m.room room (omega (arith, a));
  fulls = full ∙ m.fulls;
}

-- a compound takes the place of its arguments
pub close-goes : (now new : Seen) (frame : List ℕ) (ws : List Work) (rs qs : List Ref) (name start : ℕ) → start ≤ length rs → IsClosedWith now new name start rs qs → new.store.nodes ≡ now.store.nodes →
    GoesOn now new frame (ws ++ Close name start ∷ []) ws rs qs
close-goes now new frame ws rs qs name start l c nodes old all m =
    let ys = after (Close name start) m.xs in record {
      xs = ys;
      trees = subst (λ (k : List Ref). AreTreesOf old new frame ys k) (sym c.1) (closed-at old now new frame name start m.xs rs c.0 l m.trees c.2);
      comes = sym (written-append ws (Close name start ∷ []) m.xs) ∙ m.comes;
      starts = (open-split ws (Close name start ∷ []) m.xs m.starts).0;
      scope = (each-split (IsInScope old.store.constants (length frame)) ws (Close name start ∷ []) m.scope).0;
      room = subst (λ (o : Nodes). length o.triples ≤ length old.store.nodes.triples + nodes_most old.store (sum_by tree_size ys)) (sym nodes)
          (let a = after-size (Close name start) m.xs in room-le old now.store.nodes (sum_by tree_size m.xs) (sum_by tree_size ys) (omega (arith, a)) m.room);
      fulls = ap (λ (o : Nodes). o.fulls) nodes ∙ m.fulls;
    }

-- ---- all steps

pub under-way : (s : Seen) (frame : List ℕ) (ws : List Work) (rs : List Ref) → AreTreesOf s s frame [] [] → rs ≡ [] → AreOpen ws [] → Each (IsInScope s.store.constants (length frame)) ws → IsUnderWay s s frame ws rs (written ws [])
under-way s frame ws rs none e starts scope = record {
  xs = [];
  trees = subst (λ (l : List Ref). AreTreesOf s s frame [] l) (sym e) none;
  comes = refl;
  starts = starts;
  scope = scope;
  room = omega arith;
  fulls = refl;
}

-- what the next part needs
pub next-open : (s now : Seen) (frame : List ℕ) (ws : List Work) (w : Work) (rs : List Ref) (all : List Tree) → IsUnderWay s now frame (ws ++ w ∷ []) rs all → IsOpen w (length rs)
next-open s now frame ws w rs all m = subst (λ n. IsOpen w n) (sym m.trees.number) (open-split ws (w ∷ []) m.xs m.starts).1.0

pub next-scope : (s now : Seen) (frame : List ℕ) (ws : List Work) (w : Work) (rs : List Ref) (all : List Tree) → IsUnderWay s now frame (ws ++ w ∷ []) rs all → IsInScope now.store.constants (length frame) w
next-scope s now frame ws w rs all m =
    subst (λ k. IsInScope k (length frame) w) (sym m.trees.added.adds.constants) (each-split (IsInScope s.store.constants (length frame)) ws (w ∷ []) m.scope).1.0

-- the last of a list
pub last-work : (ps qs : List Pending) (p : Pending) → ps ≡ qs ++ p ∷ [] → works ps ≡ works qs ++ work_of p ∷ []
last-work ps qs p e = ap works e ∙ map-append work_of qs (p ∷ [])

-- ---- a compound alone

module _ (name : ℕ) (ys : List Tree) (ws none : List Work) (e : ws ≡ none ++ Close name 0 ∷ [] ++ last_first ys) (z : none ≡ []) where
  parts : ws ≡ (Close name 0 ∷ []) ++ last_first ys
  parts = e ∙ ap (λ (l : List Work). l ++ Close name 0 ∷ [] ++ last_first ys) z

  pub node-written : written ws [] ≡ tree.Node name ys ∷ []
  node-written =
      ap (λ (l : List Work). written l []) parts ∙ written-append (Close name 0 ∷ []) (last_first ys) [] ∙ ap (λ (l : List Tree). written (Close name 0 ∷ []) l) (written-args ys [])
      ∙ ap (λ (l : List Tree). l ++ tree.Node name (drop 0 ys) ∷ []) (take_at [] ys 0 refl) ∙ ap (λ (l : List Tree). tree.Node name l ∷ []) (drop_at [] ys 0 refl)

  pub node-open : AreOpen ws []
  node-open = subst (λ (l : List Work). AreOpen l []) (sym parts) (open-both (Close name 0 ∷ []) (last_first ys) [] (omega arith, tt) (open-args ys []))

  pub node-each : (c v : ℕ) → all_of (map (tree_in_scope c v) ys) ≡ true → Each (IsInScope c v) ws
  node-each c v h = subst (λ (l : List Work). Each (IsInScope c v) l) (sym parts) (each-both (IsInScope c v) (Close name 0 ∷ []) (last_first ys) (tt, tt) (scope-args c v ys h))

-- ---- the answer

pub one-cell : (s u : Seen) (frame : List ℕ) (xs : List Tree) (x : Tree) (r : Result Ref Stop) → xs ≡ x ∷ [] → IfOk r (λ q. AreTreesOf s u frame xs (q ∷ [])) → IfOk r (λ q. IsTreeOf s u frame x q.0)
one-cell s u frame xs x (Ok q) e h = one-tree s u frame x q (subst (λ (l : List Tree). AreTreesOf s u frame l (q ∷ [])) e h)
one-cell s u frame xs x (Err d) e h = tt

pub one-spent : (s u : Booleans) (xs : List Tree) (x : Tree) (r : Result Ref Stop) → xs ≡ x ∷ [] → Writes r s u (sum_by tree_size xs) → Writes r s u (tree_size x)
one-spent s u xs x r e h = subst (λ n. Writes r s u n) (let a = ap (λ (l : List Tree). sum_by tree_size l) e in omega (arith, a)) h

-- a stop on the way
pub stop-spent : (s u v : Seen) (frame : List ℕ) (ws : List Work) (w : Work) (rs : List Ref) (all : List Tree) (r : Result (Unit {0}) Stop) (q : Result Ref Stop) (d : Stop) → r ≡ Err d → q ≡ Err d →
    IsUnderWay s u frame (ws ++ w ∷ []) rs all → Writes r u.store v.store (work_size w) → Writes q s.store v.store (sum_by tree_size all)
stop-spent s u v frame ws w rs all r q d a b m h =
    let size = size-next ws w m.xs all m.comes in record {
      room = room-after s u v.store.nodes _ (sum_by tree_size m.xs) (work_size w) (sum_by tree_size all) m.trees.added m.room h.room size;
      cause = λ k. cause-after s u v _ (sum_by tree_size m.xs) (work_size w) (sum_by tree_size all) m.trees.added m.fulls m.room size (h.cause (a ∙ ap Err (is-err d _ (sym b ∙ k))));
      fulls = h.fulls ∙ ap (λ (o : Result (Unit {0}) Stop). has_refused u.store.nodes.fulls o) a ∙ ap (λ n. has_refused {A = Unit {0}} n (Err d)) m.fulls ∙ same s.store.nodes.fulls d ∙ sym (ap (λ (o : Result Ref Stop). has_refused s.store.nodes.fulls o) b);
      risen = let i = h.risen in let j = m.fulls in omega (arith, i, j);
    }
  where
    is-err : (c d : Stop) → (let x : Result Ref Stop = Err c in x ≡ Err d) → c ≡ d
    is-err c d e = search rules

    same : (n : ℕ) (e : Stop) → has_refused {A = Unit {0}} n (Err e) ≡ has_refused {A = Ref} n (Err e)
    same n stop.Nodes = refl
    same n stop.Memory = refl
