-- The walk that replaces levels by nodes.
use Rattle.std.proofs.Common.{◌≡◌, ℕ, ◌+◌, ◌*◌, ◌<◌, ◌≤◌, ◌^◌, Bool, true, false, List, [], ◌∷◌, length, nat_eq, None, if◌then◌else◌, Result, Err, refl, sym, ap, subst, ◌∙◌, ◌⊎◌, inl, inr, arith, rules}
use Rattle.std.proofs.lemmas.Bool.{cases_Bool}
use Rattle.std.proofs.lemmas.Nat.{pow_pos}
use Rattle.std.specs.List.{list_any}
use Rattle.indexmap.specs.IndexMap.{IndexMap}
use Rattle.cb_model.specs.Bits.{Bits}
use Rattle.cb_dd.specs.declared.Triple.{Triple}
use Rattle.cb_dd.specs.declared.Node.{Node}
use Rattle.cb_dd.specs.declared.Stop.{Stop}
use Rattle.cb_dd.specs.declared.Stop.TheVariants.{Nodes, Memory}
use Rattle.cb_dd.specs.Diagram.{Store, IsNode, IsDiagram, function_of, level_of}
use Rattle.cb_ops.specs.Ops.{DependsOn, Grows}
use Rattle.cb_ops.specs.Support.{IsListed}
use Rattle.cb_ops.specs.Substitute.{Images, image_of, substituted, AreNodes, Spreads, SubstituteRoom, SubstituteCause, AllSubstituted, IsJoined, JoinRoom}
use Rattle.cb_ops.specs.declared.walk.Visit.{Visit}
use Rattle.cb_ops.specs.declared.walk.Rest.TheVariants as rest
use Rattle.cb_ops.specs.declared.walk.Step.{Step}
use Rattle.cb_ops.specs.Walk.{Walk, IsMade, AllMade, IsMadeSide, IsVisit, PutRoom, images_of, joins, side_of, fulls_after_step}
use Rattle.cb_ops.proofs.Ite.{put-id, grown-node, grown-function, listed, without, Grows-same}
use Rattle.cb_ops.proofs.Substitute.{grown-nodes, image-node, substituted-grown, spreads-side, spreads-grown, replaced-depends, substitute-constant, substitute-behind}
use Rattle.cb_ops.proofs.Walks.{Stays, IsDependence, Trail, asks, some-times}

-- the memo of the public call is that of the walk
pub as-made : {S : Type 0} (done : IndexMap Node Node S) (ts : List Triple) (list : Images) → AllSubstituted done ts list → AllMade (images_of list) done ts
as-made done ts list all = record { right = λ n r at. let w = all.right n r at in record { node = w.node; answer = w.answer; is = λ a. w.is.at a } }

pub as-substituted : {S : Type 0} (done : IndexMap Node Node S) (ts : List Triple) (list : Images) → AllMade (images_of list) done ts → AllSubstituted done ts list
as-substituted done ts list all = record { right = λ n r at. let w = all.right n r at in record { node = w.node; answer = w.answer; is = record { at = λ a. w.is a } } }

-- nodes that have none of the replaced levels
pub made-constant : (list : Images) (ts : List Triple) (n : ℕ) → IsNode ts n → (n ≡ 0) ⊎ (n ≡ 1) → IsMade (images_of list) ts n n
made-constant list ts n w e = record { node = w; answer = w; is = (substitute-constant ts list n e).at }

pub made-behind : (list : Images) (ts : List Triple) → IsDiagram ts → (n level : ℕ) → IsNode ts n → level_of ts n ≡ level → ((l : ℕ) → level ≤ l → image_of list l ≡ None) → IsMade (images_of list) ts n n
made-behind list ts is n level w e none = record { node = w; answer = w; is = (substitute-behind ts is list n level w e none).at }

-- how nodes depend on levels, where what replaces them depends on the second levels
abbrev pub spread : Images → List ℕ → List Triple → ℕ → List ℕ → Type 0
spread list second ts n ls = Spreads ts n list ls second

abbrev pub no_levels : List ℕ
no_levels = []

module _ (list : Images) (s : Store) (ws : AreNodes s.triples list) where
  -- the walk stays when nodes are added
  pub images-stay : Stays (images_of list) s
  images-stay t u st tu n w a = grown-function t u tu n w (substituted u.triples list a) ∙ ap (function_of t.triples n) (substituted-grown t u tu list (grown-nodes s t st list ws) a)

  pub spread-is : (second : List ℕ) → IsDependence (spread list second) s
  spread-is second = record {
    side = λ ts n level bit r ls c d. spreads-side ts list n level bit r ls second c d;
    before = λ t u st tu n ls w d.
        let back : (m : ℕ) (ks : List ℕ) → IsNode t.triples m → DependsOn u.triples m ks → DependsOn t.triples m ks
        = λ m ks wm e. record { agrees = λ a b h. sym (grown-function t u tu m wm a) ∙ e.agrees a b h ∙ grown-function t u tu m wm b } in
        record {
          depends = back n ls w d.depends;
          covers = d.covers;
          images = λ l m e. back m.0 second (image-node t.triples list l m (grown-nodes s t st list ws) e) (d.images l m e);
        };
    listed = λ ts is n ls w small d. listed ts is n ls w small d.depends;
  }

-- a waiting node depends on some levels
pub trail-spreads : (v : Walk) (limit : ℕ) (depends : List Triple → ℕ → List ℕ → Type 0) (s : Store) → IsDependence depends s → (ts : List Triple) (from : Node) (xs : List Visit) (to : Node) (ls : List ℕ) → Trail v limit ts from xs to → depends ts from.0 ls → (ks : List ℕ) × depends ts to.0 ks
trail-spreads v limit depends s dep ts from [] to ls h d = (ls, subst (λ (n : Node). depends ts n.0 ls) (sym h) d)
trail-spreads v limit depends s dep ts from (x ∷ xs) to ls h d =
    let e : depends ts h.2.0.0 (without x.level ls) = dep.side ts x.node.0 x.level (side_of x.rest) h.2.0.0 ls h.2.1.0 (subst (λ (n : Node). depends ts n.0 ls) (sym h.0) d) in
    trail-spreads v limit depends s dep ts h.2.0 xs to (without x.level ls) h.2.1.1 e

pub put-one : (list : Images) (s t u : Store) → Grows s t → AreNodes s.triples list → (second : List ℕ) (from : Node) (zs : List Visit) (x : Visit) → Trail (images_of list) (2 ^ 32) t.triples from zs x.node → PutRoom x list t u
    → (ls : List ℕ) → spread list second t.triples from.0 ls → length u.triples ≤ length t.triples + 2 ^ length second * joins x.rest
put-one list s t u st ws second from zs x h room ls d =
    let k = trail-spreads (images_of list) (2 ^ 32) (spread list second) s (spread-is list s ws second) t.triples from zs x.node ls h d in
    room.most k.0 second k.1

module _ (list : Images) (s : Store) (is : IsDiagram s.triples) (ws : AreNodes s.triples list) (x : Visit) (w : IsVisit (images_of list) (2 ^ 32) s.triples x) where
  -- what the walk makes of a side is what it makes of the node, where the replaced bit is the side's
  at-image : (bit : Bool) (r : ℕ) (a : Bits) → IsMadeSide (images_of list) s.triples x.node.0 x.level bit r → substituted s.triples list a x.level ≡ bit → function_of s.triples r a ≡ images_of list s.triples x.node.0 a
  at-image bit r a m e = m.1.1.is a ∙ m.1.0.function (substituted s.triples list a) ∙ ap (function_of s.triples x.node.0) (put-id (substituted s.triples list a) x.level bit e)

  -- the node of the two answers is the answer
  pub images-step : (t : Store) → Grows s t → (lo hi n : ℕ) → IsMadeSide (images_of list) s.triples x.node.0 x.level false lo → IsMadeSide (images_of list) s.triples x.node.0 x.level true hi → IsNode t.triples n → IsJoined s.triples t.triples x.level lo hi list n
      → IsMade (images_of list) t.triples x.node.0 n
  images-step t g lo hi n low high wn made = record {
    node = grown-node s t g x.node.0 w.node;
    answer = wn;
    is = λ a. elim (cases_Bool (substituted s.triples list a x.level)) [
      | inl one ↦
          made.at a ∙ ap (λ b. if b then function_of s.triples hi a else function_of s.triples lo a) one ∙ at-image true hi a high one
          ∙ sym (images-stay list s ws s t (Grows-same s) g x.node.0 w.node a)
      | inr none ↦
          made.at a ∙ ap (λ b. if b then function_of s.triples hi a else function_of s.triples lo a) none ∙ at-image false lo a low none
          ∙ sym (images-stay list s ws s t (Grows-same s) g x.node.0 w.node a)
    ];
  }

  side-second : (bit : Bool) (r : ℕ) (first second : List ℕ) → IsMadeSide (images_of list) s.triples x.node.0 x.level bit r → Spreads s.triples x.node.0 list first second → DependsOn s.triples r second
  side-second bit r first second m sp =
      replaced-depends s s list m.0 r (without x.level first) second (spreads-side s.triples list x.node.0 x.level bit m.0 first second m.1.0 sp) (record { at = λ a. m.1.1.is a })

  pub images-room : (t : Store) (lo hi : ℕ) → x.rest ≡ rest.Low (record { 0 = lo }) → IsMadeSide (images_of list) s.triples x.node.0 x.level false lo → IsMadeSide (images_of list) s.triples x.node.0 x.level true hi → JoinRoom x.level lo hi list s t → PutRoom x list s t
  images-room t lo hi e low high room = record {
    most = λ first second sp.
        let there : IsListed first x.level = subst (λ l. list_any (nat_eq l) first ≡ true) w.level (listed s.triples is x.node.0 first w.node (let h = w.level in let m = w.small in omega (arith, h, m)) sp.depends) in
        let m = room.most second (λ none. sp.covers x.level there none) (λ m some. sp.images x.level m some) (side-second false lo first second low sp) (side-second true hi first second high sp) in
        let one : 2 ^ length second * joins x.rest ≡ 2 ^ length second * 1 = ap (λ r. 2 ^ length second * joins r) e in
        omega (arith, m, one);
  }

-- nothing was made
pub images-still : (list : Images) (s : Store) (x : Visit) → PutRoom x list s s
images-still list s x = record { most = λ first second sp. omega arith }

pub images-full : (list : Images) (s t : Store) (n : ℕ) → Grows s t → IsNode s.triples n → AreNodes s.triples list → ((second ls : List ℕ) → spread list second t.triples n ls → length t.triples ≤ length s.triples + asks (2 ^ length second) ls) → SubstituteRoom n list s t
images-full list s t n g w ws m = record {
  most = λ first second sp.
      let o = m second first (spreads-grown s t g list n first second w ws sp) in
      let p : 2 ^ length second ≤ 2 ^ length second * 2 ^ length first = some-times (2 ^ length second) (length first) in
      omega (arith, o, p);
}

-- a stop as an answer of the two kinds
abbrev step_stop : Stop → Result Step Stop
step_stop e = Err e

abbrev node_stop : Stop → Result Node Stop
node_stop e = Err e

-- the cause of a stop for nodes
pub images-cause : (list : Images) (n : ℕ) (s t v : Store) (e : Stop) → SubstituteRoom n list s v → v.budget ≡ s.budget → t.fulls ≡ s.fulls → v.fulls ≡ fulls_after_step t.fulls (step_stop e) → (step_stop e ≡ step_stop Nodes → length v.triples ≡ v.budget)
    → node_stop e ≡ node_stop Nodes → SubstituteCause n list s v
images-cause list n s t v Memory room same before fulls full stop = absurd (search (rules, stop))
images-cause list n s t v Nodes room same before fulls full stop = record {
  rose = omega (arith, fulls, before);
  below = λ first second sp. let m = room.most first second sp in let f = full refl in let p : 0 < 2 ^ length second = pow_pos (length second) in omega (arith, m, f, same, p);
}
