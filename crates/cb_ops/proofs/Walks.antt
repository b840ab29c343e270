-- A walk with a list of the nodes that wait: its answers, its room, and its end.
use Rattle.std.proofs.Common.{◌≡◌, ℕ, ◌+◌, ◌*◌, ◌-◌, ◌<◌, ◌≤◌, ◌^◌, Bool, true, false, List, [], ◌∷◌, ◌++◌, length, refl, sym, ap, subst, ◌∙◌, ◌⊎◌, inl, inr, arith, nat_eq, sum_by, Some}
use Rattle.std.proofs.lemmas.Bool.{true≢false}
use Rattle.std.proofs.lemmas.List.Sums.{sum_by_push}
use Rattle.std.proofs.lemmas.Nat.{pow_pos, pow-add}
use Rattle.std.proofs.Math.Pow.{pow_mono}
use Rattle.std.proofs.Math.Nat.{mul-le-mul_left}
use Rattle.std.specs.List.{list_any}
use Rattle.indexmap.specs.IndexMap.{IndexMap, get}
use Rattle.cb_model.specs.Bits.{Bits}
use Rattle.cb_dd.specs.declared.Triple.{Triple}
use Rattle.cb_dd.specs.declared.Node.{Node}
use Rattle.cb_dd.specs.Diagram.{Store, IsNode, IsDiagram, level_of}
use Rattle.cb_ops.specs.Ops.{Grows, IsCofactor}
use Rattle.cb_ops.specs.Done.{node_eq}
use Rattle.cb_ops.specs.declared.walk.Visit.{Visit}
use Rattle.cb_ops.specs.declared.walk.Rest.{Rest}
use Rattle.cb_ops.specs.declared.walk.Rest.TheVariants as rest
use Rattle.cb_ops.specs.declared.walk.Step.{Step}
use Rattle.cb_ops.specs.declared.walk.Step.TheVariants as step
use Rattle.cb_ops.specs.Walk.{Walk, IsMade, AllMade, IsMadeSide, HasRest, IsVisit, IsStill, WentDown, WentUp, side_of, joins}
use Rattle.cb_ops.proofs.Ite.{grown-node, grown-function, grown-level, grown-cofactor, Grows-same, Grows-then, without, without-lt}

-- ---- the list

-- each node waits for the next one, and the last for the current one
abbrev pub Trail : Walk → ℕ → List Triple → Node → List Visit → Node → Type 0
Trail v limit ts from [] to = to ≡ from
Trail v limit ts from (x ∷ xs) to = (x.node ≡ from) × IsVisit v limit ts x × ((d : Node) × (IsCofactor ts x.node.0 x.level (side_of x.rest) d.0 × Trail v limit ts d xs to))

module _ (v : Walk) (limit : ℕ) (ts : List Triple) where
  pub trail-push : (from : Node) (xs : List Visit) (x : Visit) (c d : Node) → Trail v limit ts from xs c → x.node ≡ c → IsVisit v limit ts x → IsCofactor ts x.node.0 x.level (side_of x.rest) d.0 → Trail v limit ts from (xs ++ x ∷ []) d
  trail-push from [] x c d h e w p = (e ∙ h, w, (d, (p, refl)))
  trail-push from (y ∷ ys) x c d h e w p = (h.0, h.1, (h.2.0, (h.2.1.0, trail-push h.2.0 ys x c d h.2.1.1 e w p)))

  pub trail-last : (from : Node) (xs : List Visit) (x : Visit) (d : Node) → Trail v limit ts from (xs ++ x ∷ []) d → Trail v limit ts from xs x.node × IsVisit v limit ts x × IsCofactor ts x.node.0 x.level (side_of x.rest) d.0
  trail-last from [] x d h = (h.0, h.1, subst (λ n. IsCofactor ts x.node.0 x.level (side_of x.rest) n.0) (sym h.2.1.1) h.2.1.0)
  trail-last from (y ∷ ys) x d h =
      let r = trail-last h.2.0 ys x d h.2.1.1 in
      ((h.0, h.1, (h.2.0, (h.2.1.0, r.0))), r.1, r.2)

  pub trail-node : (from : Node) (xs : List Visit) (to : Node) → IsNode ts from.0 → Trail v limit ts from xs to → IsNode ts to.0
  trail-node from [] to w h = subst (λ n. IsNode ts n.0) (sym h) w
  trail-node from (x ∷ xs) to w h = trail-node h.2.0 xs to h.2.1.0.node h.2.1.1

  -- one more answer
  pub made-more : {S : Type 0} (old new : IndexMap Node Node S) (n r : Node) → AllMade v old ts → IsMade v ts n.0 r.0 → ((q w : Node) → get node_eq new q ≡ Some w → ((q ≡ n) × (w ≡ r)) ⊎ (get node_eq old q ≡ Some w)) → AllMade v new ts
  made-more old new n r all here says = record {
    right = λ q w at. elim (says q w at) [
      | inl same ↦ subst (λ x. IsMade v ts x.0 w.0) (sym same.0) (subst (λ y. IsMade v ts n.0 y.0) (sym same.1) here)
      | inr there ↦ all.right q w there
    ];
  }

-- the answer that was had already
pub rest-low : (v : Walk) (ts : List Triple) (n level : ℕ) (r : Node) (l : Rest) → l ≡ rest.Low r → HasRest v ts n level l → IsMadeSide v ts n level false r.0
rest-low v ts n level r l e h = subst (HasRest v ts n level) e h

-- what a walk makes of a node stays when nodes are added
abbrev pub Stays : Walk → Store → Type 0
Stays v s = (t u : Store) → Grows s t → Grows t u → (n : ℕ) → IsNode t.triples n → (a : Bits) → v u.triples n a ≡ v t.triples n a

module _ (v : Walk) (limit : ℕ) (s : Store) (stays : Stays v s) (t u : Store) (st : Grows s t) (tu : Grows t u) where
  pub made-grown : (n r : ℕ) → IsMade v t.triples n r → IsMade v u.triples n r
  made-grown n r m = record {
    node = grown-node t u tu n m.node;
    answer = grown-node t u tu r m.answer;
    is = λ a. grown-function t u tu r m.answer a ∙ m.is a ∙ sym (stays t u st tu n m.node a);
  }

  pub all-grown : {S : Type 0} (done : IndexMap Node Node S) → AllMade v done t.triples → AllMade v done u.triples
  all-grown done old = record { right = λ n r at. made-grown n.0 r.0 (old.right n r at) }

  rest-grown : (n level : ℕ) (r : Rest) → IsNode t.triples n → HasRest v t.triples n level r → HasRest v u.triples n level r
  rest-grown n level (rest.High d) w h = grown-cofactor t u tu n level true d.0 w h
  rest-grown n level (rest.Low r) w h = (h.0, (grown-cofactor t u tu n level false h.0 w h.1.0, made-grown h.0 r.0 h.1.1))

  visit-grown : (x : Visit) → IsVisit v limit t.triples x → IsVisit v limit u.triples x
  visit-grown x w = record {
    node = grown-node t u tu x.node.0 w.node;
    level = grown-level t u tu x.node.0 w.node ∙ w.level;
    small = w.small;
    below = w.below;
    rest = rest-grown x.node.0 x.level x.rest w.node w.rest;
  }

  pub trail-grown : (from : Node) (xs : List Visit) (to : Node) → Trail v limit t.triples from xs to → Trail v limit u.triples from xs to
  trail-grown from [] to h = h
  trail-grown from (x ∷ xs) to h =
      (h.0, visit-grown x h.1, (h.2.0, (grown-cofactor t u tu x.node.0 x.level (side_of x.rest) h.2.0.0 h.1.node h.2.1.0, trail-grown h.2.0 xs to h.2.1.1)))

-- ---- the room, where each join makes at most `times` nodes

abbrev pub after : ℕ → Rest → ℕ → ℕ
after times (rest.High d) n = times * n
after times (rest.Low r) n = times

-- the nodes that the waiting nodes and the current one may make
abbrev pub remain : ℕ → (List ℕ → ℕ) → List Visit → List ℕ → ℕ
remain times base [] ls = base ls
remain times base (x ∷ xs) ls = after times x.rest (2 ^ length (without x.level ls)) + remain times base xs (without x.level ls)

abbrev pub remain_behind : ℕ → (List ℕ → ℕ) → Visit → List ℕ → ℕ
remain_behind times base x ks = after times x.rest (2 ^ length (without x.level ks)) + base (without x.level ks)

pub remain-last : (times : ℕ) (base : List ℕ → ℕ) (xs : List Visit) (x : Visit) (ls : List ℕ) → remain times base (xs ++ x ∷ []) ls ≡ remain times (remain_behind times base x) xs ls
remain-last times base [] x ls = refl
remain-last times base (y ∷ ys) x ls = ap (λ n. after times y.rest (2 ^ length (without y.level ls)) + n) (remain-last times base ys x (without y.level ls))

-- how nodes depend on levels: on the sides of a node, after fewer nodes, and on its level

pub record IsDependence (depends : List Triple → ℕ → List ℕ → Type 0) (s : Store) : Type 0 where
  pub side : (ts : List Triple) (n level : ℕ) (bit : Bool) (r : ℕ) (ls : List ℕ) → IsCofactor ts n level bit r → depends ts n ls → depends ts r (without level ls)
  pub before : (t u : Store) → Grows s t → Grows t u → (n : ℕ) (ls : List ℕ) → IsNode t.triples n → depends u.triples n ls → depends t.triples n ls
  pub listed : (ts : List Triple) → IsDiagram ts → (n : ℕ) (ls : List ℕ) → IsNode ts n → level_of ts n < 2 ^ 32 → depends ts n ls → list_any (nat_eq (level_of ts n)) ls ≡ true

pub remain-most : (v : Walk) (limit : ℕ) (depends : List Triple → ℕ → List ℕ → Type 0) (s : Store) → IsDependence depends s → (ts : List Triple) (times : ℕ) (b c : List ℕ → ℕ) (more : ℕ) (from : Node) (xs : List Visit) (to : Node) (ls : List ℕ)
    → Trail v limit ts from xs to → depends ts from.0 ls → ((ks : List ℕ) → depends ts to.0 ks → b ks + more ≤ c ks) → remain times b xs ls + more ≤ remain times c xs ls
remain-most v limit depends s dep ts times b c more from [] to ls h d f = f ls (subst (λ n. depends ts n.0 ls) (sym h) d)
remain-most v limit depends s dep ts times b c more from (x ∷ xs) to ls h d f =
    let e : depends ts h.2.0.0 (without x.level ls) = dep.side ts x.node.0 x.level (side_of x.rest) h.2.0.0 ls h.2.1.0 (subst (λ n. depends ts n.0 ls) (sym h.0) d) in
    let r : remain times b xs (without x.level ls) + more ≤ remain times c xs (without x.level ls) = remain-most v limit depends s dep ts times b c more h.2.0 xs to (without x.level ls) h.2.1.1 e f in
    omega (arith, r)

-- the nodes that a node may make, and an answer
abbrev pub asks : ℕ → List ℕ → ℕ
asks times ks = times * 2 ^ length ks - times

abbrev pub rests : List ℕ → ℕ
rests ks = 0

pub some-times : (times n : ℕ) → times ≤ times * 2 ^ n
some-times times n =
    let p : 1 ≤ 2 ^ n = pow_pos n in
    let m : times * 1 ≤ times * 2 ^ n = mul-le-mul_left times p in
    omega (arith, m)

-- a waiting node and its first side may make as many as the node
pub down-room : (times : ℕ) (x : Visit) (ks : List ℕ) → side_of x.rest ≡ false → list_any (nat_eq x.level) ks ≡ true → remain_behind times (asks times) x ks + 0 ≤ asks times ks
down-room times x ks e there = within x.rest e
  where
    twice : 2 ^ length (without x.level ks) + 2 ^ length (without x.level ks) ≤ 2 ^ length ks
    twice =
        let m : 2 ^ (length (without x.level ks) + 1) ≤ 2 ^ length ks = pow_mono (without-lt x.level ks there) in
        let f : 2 ^ (length (without x.level ks) + 1) ≡ 2 ^ length (without x.level ks) * 2 ^ 1 = pow-add 2 (length (without x.level ks)) 1 in
        omega arith

    within : (r : Rest) → side_of r ≡ false → after times r (2 ^ length (without x.level ks)) + asks times (without x.level ks) + 0 ≤ asks times ks
    within (rest.High d) e =
        let m : times * (2 ^ length (without x.level ks) + 2 ^ length (without x.level ks)) ≤ times * 2 ^ length ks = mul-le-mul_left times twice in
        let p : times ≤ times * 2 ^ length (without x.level ks) = some-times times (length (without x.level ks)) in
        omega (arith, m, p)
    within (rest.Low r) e = absurd (true≢false e)

-- when the first answer has come
pub up-room : (times : ℕ) (x y : Visit) (ks : List ℕ) → x.level ≡ y.level → side_of x.rest ≡ true → side_of y.rest ≡ false → remain_behind times (asks times) x ks + 0 ≤ remain_behind times rests y ks
up-room times x y ks same e g = within x.rest y.rest e g
  where
    p : times ≤ times * 2 ^ length (without x.level ks)
    p = some-times times (length (without x.level ks))

    q : times * 2 ^ length (without x.level ks) ≡ times * 2 ^ length (without y.level ks)
    q = ap (λ l. times * 2 ^ length (without l ks)) same

    within : (l m : Rest) → side_of l ≡ true → side_of m ≡ false → after times l (2 ^ length (without x.level ks)) + asks times (without x.level ks) + 0 ≤ after times m (2 ^ length (without y.level ks)) + 0
    within (rest.High d) m e g = absurd (true≢false (sym e))
    within (rest.Low r) (rest.Low o) e g = absurd (true≢false g)
    within (rest.Low r) (rest.High d) e g = omega (arith, p, q)

-- and when the second has
pub join-room : (times : ℕ) (y : Visit) (ks : List ℕ) → 0 + times * joins y.rest ≤ remain_behind times rests y ks
join-room times y ks = within y.rest
  where
    within : (m : Rest) → 0 + times * joins m ≤ after times m (2 ^ length (without y.level ks)) + 0
    within (rest.High d) = omega arith
    within (rest.Low r) = omega arith

-- ---- the end

-- the work that a node may take, and what a waiting node still may
abbrev pub work : ℕ → ℕ
work n = 4 * 2 ^ n - 3

abbrev pub rest_work : ℕ → Rest → ℕ
rest_work level (rest.High d) = 2 * 2 ^ (2 ^ 32 - level) - 1
rest_work level (rest.Low r) = 1

abbrev pub visit_work : Visit → ℕ
visit_work x = rest_work x.level x.rest

abbrev pub step_work : List Triple → Step → ℕ
step_work ts (step.Down d) = work (2 ^ 32 - level_of ts d.0)
step_work ts (step.Up r) = 0

-- the work that is still to be done
abbrev pub walk_work : List Triple → List Visit → Step → ℕ
walk_work ts xs u = sum_by visit_work xs + step_work ts u

work-last : (xs : List Visit) (x : Visit) → sum_by visit_work (xs ++ x ∷ []) ≡ sum_by visit_work xs + visit_work x
work-last xs x = sum_by_push visit_work xs x

high-work : (level : ℕ) (r : Rest) → side_of r ≡ false → rest_work level r ≡ 2 * 2 ^ (2 ^ 32 - level) - 1
high-work level (rest.High d) e = refl
high-work level (rest.Low r) e = absurd (true≢false e)

low-work : (level : ℕ) (r : Rest) → side_of r ≡ true → rest_work level r ≡ 1
low-work level (rest.High d) e = absurd (true≢false (sym e))
low-work level (rest.Low r) e = refl

-- a side takes less than half the work
side-work : (ts : List Triple) (level : ℕ) (bit : Bool) (n d : ℕ) → level < 2 ^ 32 → IsCofactor ts n level bit d → work (2 ^ 32 - level_of ts d) + 3 ≤ 2 * 2 ^ (2 ^ 32 - level)
side-work ts level bit c d small p =
    let n : ℕ = 2 ^ 32 - level_of ts d in
    let k : ℕ = 2 ^ 32 - level - 1 in
    let e : k + 1 ≡ 2 ^ 32 - level = omega arith in
    let le : n ≤ k = omega (arith, p.above) in
    let m : 2 ^ n ≤ 2 ^ k = pow_mono le in
    let f : 2 ^ (k + 1) ≡ 2 ^ k * 2 ^ 1 = pow-add 2 k 1 in
    let g : 2 ^ (2 ^ 32 - level) ≡ 2 ^ k * 2 ^ 1 = ap (λ z. 2 ^ z) (sym e) ∙ f in
    let q : 0 < 2 ^ n = pow_pos n in
    omega (arith, m, g, q)

-- ---- the whole

abbrev pub base_of : ℕ → Step → List ℕ → ℕ
base_of times (step.Down d) = asks times
base_of times (step.Up r) = rests

-- the waiting nodes wait for the node that comes next, or for that whose answer has come
abbrev pub StepIs : Walk → ℕ → List Triple → Node → List Visit → Step → Type 0
StepIs v limit ts from xs (step.Down d) = Trail v limit ts from xs d
StepIs v limit ts from xs (step.Up r) = (d : Node) × (Trail v limit ts from xs d × IsMade v ts d.0 r.0)

-- what the loop keeps
pub record Walking (v : Walk) (limit times : ℕ) (depends : List Triple → ℕ → List ℕ → Type 0) (s t : Store) (from : Node) (xs : List Visit) (u : Step) : Type 0 where
  pub grows : Grows s t
  pub diagram : IsDiagram t.triples
  pub fulls : t.fulls ≡ s.fulls
  pub node : IsNode t.triples from.0
  pub step : StepIs v limit t.triples from xs u
  pub room : (ls : List ℕ) → depends t.triples from.0 ls → length t.triples + remain times (base_of times u) xs ls ≤ length s.triples + asks times ls

module _ (v : Walk) (limit times : ℕ) (depends : List Triple → ℕ → List ℕ → Type 0) (s : Store) (from : Node) where
  pub walking-start : IsDiagram s.triples → IsNode s.triples from.0 → Walking v limit times depends s s from [] (step.Down from)
  walking-start is w = record { grows = Grows-same s; diagram = is; fulls = refl; node = w; step = refl; room = λ ls d. omega arith }

  pub walking-node : (t : Store) (c : Node) (xs : List Visit) (u : Step) → u ≡ step.Down c → Walking v limit times depends s t from xs u → IsNode t.triples c.0
  walking-node t c xs u e g = trail-node v limit t.triples from xs c g.node (subst (StepIs v limit t.triples from xs) e g.step)

  pub walking-same : (t : Store) (xs : List Visit) (u w : Step) → u ≡ w → Walking v limit times depends s t from xs u → Walking v limit times depends s t from xs w
  walking-same t xs u w e g = subst (Walking v limit times depends s t from xs) e g

module _ (v : Walk) (limit times : ℕ) (depends : List Triple → ℕ → List ℕ → Type 0) (s : Store) (stays : Stays v s) (dep : IsDependence depends s) (t u : Store) (from c : Node) (xs ys : List Visit) (g : Walking v limit times depends s t from xs (step.Down c)) (tu : Grows t u) (is : IsDiagram u.triples) where
  -- a node has its answer
  pub walking-made : (r : Node) → u.fulls ≡ t.fulls → ((ls : List ℕ) → depends t.triples c.0 ls → length u.triples ≤ length t.triples + asks times ls) → WentDown v limit u.triples xs ys c (step.Up r) → Walking v limit times depends s u from ys (step.Up r)
  walking-made r same add h = record {
    grows = Grows-then s t u g.grows tu;
    diagram = is;
    fulls = same ∙ g.fulls;
    node = grown-node t u tu from.0 g.node;
    step = (c, (subst (λ zs. Trail v limit u.triples from zs c) (sym h.0) (trail-grown v limit s stays t u g.grows tu from xs c g.step), h.1));
    room = λ ls d.
        let d2 : depends t.triples from.0 ls = dep.before t u g.grows tu from.0 ls g.node d in
        let m : remain times rests xs ls + (length u.triples - length t.triples) ≤ remain times (asks times) xs ls =
        remain-most v limit depends s dep t.triples times rests (asks times) (length u.triples - length t.triples) from xs c ls g.step d2 (λ ks e. let a = add ks e in omega (arith, a)) in
        let n : remain times rests ys ls ≡ remain times rests xs ls = ap (λ zs. remain times rests zs ls) h.0 in
        omega (arith, m, n, g.room ls d2);
  }

  -- the room also at a refusal
  pub walking-refused : ((ls : List ℕ) → depends t.triples c.0 ls → length u.triples ≤ length t.triples + asks times ls) → (ls : List ℕ) → depends u.triples from.0 ls → length u.triples ≤ length s.triples + asks times ls
  walking-refused add ls d =
      let d2 : depends t.triples from.0 ls = dep.before t u g.grows tu from.0 ls g.node d in
      let m : remain times rests xs ls + (length u.triples - length t.triples) ≤ remain times (asks times) xs ls =
      remain-most v limit depends s dep t.triples times rests (asks times) (length u.triples - length t.triples) from xs c ls g.step d2 (λ ks e. let a = add ks e in omega (arith, a)) in
      omega (arith, m, g.room ls d2)

  pub made-work : (r : Node) → WentDown v limit u.triples xs ys c (step.Up r) → walk_work u.triples ys (step.Up r) < walk_work t.triples xs (step.Down c)
  made-work r h =
      let e : sum_by visit_work ys ≡ sum_by visit_work xs = ap (sum_by visit_work) h.0 in
      let q : 0 < 2 ^ (2 ^ 32 - level_of t.triples c.0) = pow_pos (2 ^ 32 - level_of t.triples c.0) in
      omega (arith, e, q)

module _ (v : Walk) (limit times : ℕ) (depends : List Triple → ℕ → List ℕ → Type 0) (s : Store) (dep : IsDependence depends s) (t : Store) (from c d : Node) (xs ys : List Visit) (g : Walking v limit times depends s t from xs (step.Down c)) (h : WentDown v limit t.triples xs ys c (step.Down d)) where
  -- a side comes next
  pub walking-deeper : Walking v limit times depends s t from ys (step.Down d)
  walking-deeper =
      let x : Visit = h.0 in
      let w : IsVisit v limit t.triples x = h.1.3 in
      let p : IsCofactor t.triples x.node.0 x.level (side_of x.rest) d.0 = subst (λ b. IsCofactor t.triples x.node.0 x.level b d.0) (sym h.1.2) (subst (λ (y : Node). IsCofactor t.triples y.0 x.level false d.0) (sym h.1.1) h.1.4) in
      record {
        grows = g.grows;
        diagram = g.diagram;
        fulls = g.fulls;
        node = g.node;
        step = subst (λ zs. Trail v limit t.triples from zs d) (sym h.1.0) (trail-push v limit t.triples from xs x c d g.step h.1.1 w p);
        room = λ ls e.
            let m : remain times (remain_behind times (asks times) x) xs ls + 0 ≤ remain times (asks times) xs ls =
            remain-most v limit depends s dep t.triples times (remain_behind times (asks times) x) (asks times) 0 from xs c ls g.step e (λ ks f. down-room times x ks h.1.2
            (subst (λ l. list_any (nat_eq l) ks ≡ true) w.level (dep.listed t.triples g.diagram x.node.0 ks w.node (omega (arith, w.level, w.small)) (subst (λ (y : Node). depends t.triples y.0 ks) (sym h.1.1) f)))) in
            let n : remain times (asks times) ys ls ≡ remain times (remain_behind times (asks times) x) xs ls = ap (λ zs. remain times (asks times) zs ls) h.1.0 ∙ remain-last times (asks times) xs x ls in
            omega (arith, m, n, g.room ls e);
      }

  pub deeper-work : walk_work t.triples ys (step.Down d) < walk_work t.triples xs (step.Down c)
  deeper-work =
      let x : Visit = h.0 in
      let w : IsVisit v limit t.triples x = h.1.3 in
      let e : sum_by visit_work ys ≡ sum_by visit_work xs + visit_work x = ap (sum_by visit_work) h.1.0 ∙ work-last xs x in
      let p : work (2 ^ 32 - level_of t.triples d.0) + 3 ≤ 2 * 2 ^ (2 ^ 32 - x.level) = side-work t.triples x.level false c.0 d.0 w.small h.1.4 in
      let l : x.level ≡ level_of t.triples c.0 = sym w.level ∙ ap (λ (y : Node). level_of t.triples y.0) h.1.1 in
      let k : 2 ^ (2 ^ 32 - x.level) ≡ 2 ^ (2 ^ 32 - level_of t.triples c.0) = ap (λ z. 2 ^ (2 ^ 32 - z)) l in
      let here : visit_work x ≡ 2 * 2 ^ (2 ^ 32 - x.level) - 1 = high-work x.level x.rest h.1.2 in
      let q : 0 < 2 ^ (2 ^ 32 - x.level) = pow_pos (2 ^ 32 - x.level) in
      omega (arith, e, p, k, here, q)

-- a node was entered, and may have made nodes for its answer
module _ (v : Walk) (limit times : ℕ) (depends : List Triple → ℕ → List ℕ → Type 0) (s : Store) (stays : Stays v s) (dep : IsDependence depends s) (t u : Store) (from c : Node) (xs ys : List Visit) (g : Walking v limit times depends s t from xs (step.Down c)) (tu : Grows t u) (is : IsDiagram u.triples) where
  pub entered : u.fulls ≡ t.fulls → ((ls : List ℕ) → depends t.triples c.0 ls → length u.triples ≤ length t.triples + asks times ls) → (w : Step) → IsStill t u w → WentDown v limit u.triples xs ys c w → Walking v limit times depends s u from ys w
  entered same add (step.Up r) still h = walking-made v limit times depends s stays dep t u from c xs ys g tu is r same add h
  entered same add (step.Down d) still h =
      subst (λ (x : Store). Walking v limit times depends s x from ys (step.Down d)) (sym still) (walking-deeper v limit times depends s dep t from c d xs ys g (subst (λ (x : Store). WentDown v limit x.triples xs ys c (step.Down d)) still h))

  pub entered-work : (w : Step) → IsStill t u w → WentDown v limit u.triples xs ys c w → walk_work u.triples ys w < walk_work t.triples xs (step.Down c)
  entered-work (step.Up r) still h = made-work v limit times depends s stays dep t u from c xs ys g tu is r h
  entered-work (step.Down d) still h =
      subst (λ (x : Store). walk_work x.triples ys (step.Down d) < walk_work t.triples xs (step.Down c)) (sym still) (deeper-work v limit times depends s dep t from c d xs ys g (subst (λ (x : Store). WentDown v limit x.triples xs ys c (step.Down d)) still h))

module _ (v : Walk) (limit times : ℕ) (depends : List Triple → ℕ → List ℕ → Type 0) (s : Store) (stays : Stays v s) (dep : IsDependence depends s) (t u : Store) (from : Node) (xs ys zs : List Visit) (x : Visit) (r : Node) (last : xs ≡ zs ++ x ∷ []) (g : Walking v limit times depends s t from xs (step.Up r)) where
  ended : Trail v limit t.triples from zs x.node × IsVisit v limit t.triples x × IsCofactor t.triples x.node.0 x.level (side_of x.rest) g.step.0.0
  ended = trail-last v limit t.triples from zs x g.step.0 (subst (λ ws. Trail v limit t.triples from ws g.step.0) last g.step.1.0)

  pub walking-visit : IsVisit v limit t.triples x
  walking-visit = ended.1

  pub walking-side : IsMadeSide v t.triples x.node.0 x.level (side_of x.rest) r.0
  walking-side = (g.step.0.0, (ended.2, g.step.1.1))

  module _ (tu : Grows t u) (is : IsDiagram u.triples) (one : (ls : List ℕ) → depends t.triples from.0 ls → length u.triples ≤ length t.triples + times * joins x.rest) where
    -- the room before, in terms of the other waiting nodes
    before : (ls : List ℕ) → depends t.triples from.0 ls → length t.triples + remain times (remain_behind times rests x) zs ls ≤ length s.triples + asks times ls
    before ls d =
        let n : remain times rests xs ls ≡ remain times (remain_behind times rests x) zs ls = ap (λ ws. remain times rests ws ls) last ∙ remain-last times rests zs x ls in
        omega (arith, n, g.room ls d)

    back : (ls : List ℕ) → depends u.triples from.0 ls → depends t.triples from.0 ls
    back ls d = dep.before t u g.grows tu from.0 ls g.node d

    -- the room also at a refusal
    pub joined-room : (ls : List ℕ) → depends u.triples from.0 ls → length u.triples ≤ length s.triples + asks times ls
    joined-room ls d =
        let m : remain times rests zs ls + times * joins x.rest ≤ remain times (remain_behind times rests x) zs ls = remain-most v limit depends s dep t.triples times rests (remain_behind times rests x) (times * joins x.rest) from zs x.node ls ended.0 (back ls d) (λ ks e. join-room times x ks) in
        omega (arith, m, one ls (back ls d), before ls (back ls d))

    pub walking-up : (w : Step) → u.fulls ≡ t.fulls → WentUp v limit u.triples zs ys x w → Walking v limit times depends s u from ys w
    walking-up (step.Up n) same h = record {
      grows = Grows-then s t u g.grows tu;
      diagram = is;
      fulls = same ∙ g.fulls;
      node = grown-node t u tu from.0 g.node;
      step = (x.node, (subst (λ ws. Trail v limit u.triples from ws x.node) (sym h.0) (trail-grown v limit s stays t u g.grows tu from zs x.node ended.0), h.2));
      room = λ ls d.
          let m : remain times rests zs ls + times * joins x.rest ≤ remain times (remain_behind times rests x) zs ls = remain-most v limit depends s dep t.triples times rests (remain_behind times rests x) (times * joins x.rest) from zs x.node ls ended.0 (back ls d) (λ ks e. join-room times x ks) in
          let n : remain times rests ys ls ≡ remain times rests zs ls = ap (λ ws. remain times rests ws ls) h.0 in
          omega (arith, m, n, one ls (back ls d), before ls (back ls d));
    }
    walking-up (step.Down d) same h =
        let y : Visit = h.1.0 in
        let k = h.1.1 in
        let none : times * joins x.rest ≡ 0 = ap (λ n. times * n) (no_join x.rest h.0) ∙ (omega arith) in
        let p : IsCofactor u.triples y.node.0 y.level (side_of y.rest) d.0 = subst (λ b. IsCofactor u.triples y.node.0 y.level b d.0) (sym k.3) (subst (λ (n : Node). IsCofactor u.triples n.0 y.level true d.0) (sym k.1) k.5) in
        record {
          grows = Grows-then s t u g.grows tu;
          diagram = is;
          fulls = same ∙ g.fulls;
          node = grown-node t u tu from.0 g.node;
          step = subst (λ ws. Trail v limit u.triples from ws d) (sym k.0) (trail-push v limit u.triples from zs y x.node d (trail-grown v limit s stays t u g.grows tu from zs x.node ended.0) k.1 k.4 p);
          room = λ ls e.
              let m : remain times (remain_behind times (asks times) y) zs ls + 0 ≤ remain times (remain_behind times rests x) zs ls = remain-most v limit depends s dep t.triples times (remain_behind times (asks times) y) (remain_behind times rests x) 0 from zs x.node ls ended.0 (back ls e) (λ ks f. up-room times y x ks k.2 k.3 h.0) in
              let n : remain times (asks times) ys ls ≡ remain times (remain_behind times (asks times) y) zs ls = ap (λ ws. remain times (asks times) ws ls) k.0 ∙ remain-last times (asks times) zs y ls in
              omega (arith, m, n, one ls (back ls e), none, before ls (back ls e));
        }
      where
        no_join : (r : Rest) → side_of r ≡ false → joins r ≡ 0
        no_join (rest.High d) e = refl
        no_join (rest.Low r) e = absurd (true≢false e)

    pub up-work : (w : Step) → WentUp v limit u.triples zs ys x w → walk_work u.triples ys w < walk_work t.triples xs (step.Up r)
    up-work (step.Up n) h =
        let e : sum_by visit_work ys ≡ sum_by visit_work zs = ap (sum_by visit_work) h.0 in
        let f : sum_by visit_work xs ≡ sum_by visit_work zs + visit_work x = ap (sum_by visit_work) last ∙ work-last zs x in
        let some : visit_work x ≡ 1 = low-work x.level x.rest h.1 in
        omega (arith, e, f, some)
    up-work (step.Down d) h =
        let y : Visit = h.1.0 in
        let k = h.1.1 in
        let e : sum_by visit_work ys ≡ sum_by visit_work zs + visit_work y = ap (sum_by visit_work) k.0 ∙ work-last zs y in
        let f : sum_by visit_work xs ≡ sum_by visit_work zs + visit_work x = ap (sum_by visit_work) last ∙ work-last zs x in
        let p : work (2 ^ 32 - level_of u.triples d.0) + 3 ≤ 2 * 2 ^ (2 ^ 32 - x.level) = side-work u.triples x.level true x.node.0 d.0 ended.1.small (subst (λ l. IsCofactor u.triples x.node.0 l true d.0) k.2 k.5) in
        let low : visit_work y ≡ 1 = low-work y.level y.rest k.3 in
        let high : visit_work x ≡ 2 * 2 ^ (2 ^ 32 - x.level) - 1 = high-work x.level x.rest h.0 in
        let q : 0 < 2 ^ (2 ^ 32 - x.level) = pow_pos (2 ^ 32 - x.level) in
        omega (arith, e, f, p, low, high, q)

-- a step down that makes no node
module _ (v : Walk) (limit times : ℕ) (depends : List Triple → ℕ → List ℕ → Type 0) (s : Store) (stays : Stays v s) (dep : IsDependence depends s) (t : Store) (from c : Node) (xs ys : List Visit) (g : Walking v limit times depends s t from xs (step.Down c)) where
  pub went-down : (w : Step) → WentDown v limit t.triples xs ys c w → Walking v limit times depends s t from ys w
  went-down (step.Up r) h = walking-made v limit times depends s stays dep t t from c xs ys g (Grows-same t) g.diagram r refl (λ ls d. omega arith) h
  went-down (step.Down d) h = walking-deeper v limit times depends s dep t from c d xs ys g h

  pub went-work : (w : Step) → WentDown v limit t.triples xs ys c w → walk_work t.triples ys w < walk_work t.triples xs (step.Down c)
  went-work (step.Up r) h = made-work v limit times depends s stays dep t t from c xs ys g (Grows-same t) g.diagram r h
  went-work (step.Down d) h = deeper-work v limit times depends s dep t from c d xs ys g h

-- the trail up to the last waiting node
pub walking-trail : (v : Walk) (limit times : ℕ) (depends : List Triple → ℕ → List ℕ → Type 0) (s t : Store) (from : Node) (xs zs : List Visit) (x : Visit) (r : Node) → xs ≡ zs ++ x ∷ [] → Walking v limit times depends s t from xs (step.Up r) → Trail v limit t.triples from zs x.node
walking-trail v limit times depends s t from xs zs x r last g = (trail-last v limit t.triples from zs x g.step.0 (subst (λ ws. Trail v limit t.triples from ws g.step.0) last g.step.1.0)).0

-- the answer of the whole
pub walking-answer : (v : Walk) (limit times : ℕ) (depends : List Triple → ℕ → List ℕ → Type 0) (s t : Store) (from r : Node) → Walking v limit times depends s t from [] (step.Up r) → IsMade v t.triples from.0 r.0
walking-answer v limit times depends s t from r g = subst (λ (n : Node). IsMade v t.triples n.0 r.0) g.step.1.0 g.step.1.1

pub walking-room : (v : Walk) (limit times : ℕ) (depends : List Triple → ℕ → List ℕ → Type 0) (s t : Store) (from : Node) (xs : List Visit) (u : Step) → Walking v limit times depends s t from xs u → (ls : List ℕ) → depends t.triples from.0 ls → length t.triples ≤ length s.triples + asks times ls
walking-room v limit times depends s t from xs u g ls d = let m = g.room ls d in omega (arith, m)
