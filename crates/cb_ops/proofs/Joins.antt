-- The walk that joins the two sides of a level.
use Rattle.std.proofs.Common.{◌≡◌, ℕ, ◌+◌, ◌<◌, ◌≤◌, ◌^◌, Bool, true, false, List, [], ◌∷◌, length, if◌then◌else◌, Result, Err, refl, sym, ap, ◌∙◌, inl, inr, arith, rules}
use Rattle.std.proofs.lemmas.Bool.{cases_Bool}
use Rattle.std.proofs.lemmas.Nat.{pow_pos}
use Rattle.cb_model.specs.Bits.{Bits, put}
use Rattle.cb_dd.specs.declared.Triple.{Triple}
use Rattle.cb_dd.specs.declared.Node.{Node}
use Rattle.cb_dd.specs.declared.Stop.{Stop}
use Rattle.cb_dd.specs.declared.Stop.TheVariants.{Nodes, Memory}
use Rattle.cb_dd.specs.Diagram.{Store, IsNode, IsDiagram, IsChild, HasParts, function_of, level_of}
use Rattle.cb_dd.proofs.Diagrams.{function_of-put}
use Rattle.cb_ops.specs.Ops.{DependsOn, Grows, StandsFor, Room, HasCause}
use Rattle.cb_ops.specs.declared.sides.Sides.{Sides}
use Rattle.cb_ops.specs.declared.sides.Sides.TheVariants as how
use Rattle.cb_ops.specs.declared.walk.Visit.{Visit}
use Rattle.cb_ops.specs.declared.walk.Step.{Step}
use Rattle.cb_ops.specs.Walk.{IsMade, IsMadeSide, IsVisit, joined, sides_of, fulls_after_step}
use Rattle.cb_ops.proofs.Ite.{put-id, put-other, grown-node, grown-function, cofactor-depends, listed, Grows-same}
use Rattle.cb_ops.proofs.Restrict.{put-swap, above-of, agree-both}
use Rattle.cb_ops.proofs.Walks.{Stays, IsDependence, asks}

joined-all : (k : Sides) (x y z w : Bool) → x ≡ z → y ≡ w → joined k x y ≡ joined k z w
joined-all k x y z w p q = λ i. joined k (p i) (q i)

joined-same : (k : Sides) (x : Bool) → joined k x x ≡ x
joined-same how.Low x = refl
joined-same how.High x = refl
joined-same how.Either true = refl
joined-same how.Either false = refl
joined-same how.Both true = refl
joined-same how.Both false = refl

-- the bounds, three times
pub room-three : (ns : List ℕ) (s v : Store) → Room ns 1 s v → Room ns 3 s v
room-three ns s v r = record { most = λ ls d. let m = r.most ls d in let p : 0 < 2 ^ length ls = pow_pos (length ls) in omega (arith, m, p) }

pub cause-three : (ns : List ℕ) (s v : Store) → HasCause ns 1 s v → HasCause ns 3 s v
cause-three ns s v h = record { rose = h.rose; below = λ ls d. let m = h.below ls d in omega (arith, m) }

-- one side alone
pub side-of-bit : (ts us : List Triple) (f level r : ℕ) (bit : Bool) → bit ≡ true → StandsFor us r (sides_of level how.High ts f) → StandsFor us r (λ a. function_of ts f (put level bit a))
side-of-bit ts us f level r bit e is = record { at = λ a. is.at a ∙ ap (λ b. function_of ts f (put level b a)) (sym e) }

pub side-of-none : (ts us : List Triple) (f level r : ℕ) (bit : Bool) → bit ≡ false → StandsFor us r (sides_of level how.Low ts f) → StandsFor us r (λ a. function_of ts f (put level bit a))
side-of-none ts us f level r bit e is = record { at = λ a. is.at a ∙ ap (λ b. function_of ts f (put level b a)) (sym e) }

module _ (level : ℕ) (k : Sides) where
  -- the walk stays when nodes are added
  pub sides-stay : (s : Store) → Stays (sides_of level k) s
  sides-stay s t u st tu n w a = joined-all k _ _ _ _ (grown-function t u tu n w (put level false a)) (grown-function t u tu n w (put level true a))

  -- nothing is to be done above the level
  pub sides-self : (ts : List Triple) → IsDiagram ts → (n : ℕ) → IsNode ts n → level < level_of ts n → IsMade (sides_of level k) ts n n
  sides-self ts is n w below = record {
    node = w;
    answer = w;
    is = λ a. sym (joined-all k _ _ _ _ (function_of-put ts is n w level below a false) (function_of-put ts is n w level below a true) ∙ joined-same k (function_of ts n a));
  }

  -- at the level
  pub sides-meet : (s t : Store) → Grows s t → (n lo hi r : ℕ) → IsNode s.triples n → HasParts s.triples n level lo hi → IsNode t.triples r → StandsFor t.triples r (λ a. joined k (function_of s.triples lo a) (function_of s.triples hi a)) → IsMade (sides_of level k) t.triples n r
  sides-meet s t g n lo hi r w parts wr is = record {
    node = grown-node s t g n w;
    answer = wr;
    is = λ a.
        is.at a
        ∙ joined-all k _ _ _ _
        (parts.lo_function a ∙ sym (grown-function s t g n w (put level false a)))
        (parts.hi_function a ∙ sym (grown-function s t g n w (put level true a)));
  }

  module _ (ts : List Triple) (is : IsDiagram ts) (x : Visit) (w : IsVisit (sides_of level k) level ts x) where
    apart : x.level ≡ level → ⊥
    apart e = let b = w.below in omega (arith, b)

    -- the answer for a side is a child
    pub side-child : (bit : Bool) (r : ℕ) → IsMadeSide (sides_of level k) ts x.node.0 x.level bit r → IsChild ts x.level r
    side-child bit r m = record {
      node = m.1.1.answer;
      below = above-of ts is r x.level m.1.1.answer w.small (λ l le a b.
          let ne : l ≡ level → ⊥ = λ (e : l ≡ level). let h = w.below in omega (arith, h) in
          let under : l < level_of ts m.0 = let h = m.1.0.above in omega (arith, h) in
          m.1.1.is (put l b a)
          ∙ joined-all k _ _ _ _
          (ap (function_of ts m.0) (put-swap l level b false a ne) ∙ function_of-put ts is m.0 m.1.0.node l under (put level false a) b)
          (ap (function_of ts m.0) (put-swap l level b true a ne) ∙ function_of-put ts is m.0 m.1.0.node l under (put level true a) b)
          ∙ sym (m.1.1.is a));
    }

    -- what the walk makes of a side is what it makes of the node, where the bit is the side's
    at-side : (bit : Bool) (r : ℕ) (a : Bits) → IsMadeSide (sides_of level k) ts x.node.0 x.level bit r → a x.level ≡ bit → function_of ts r a ≡ sides_of level k ts x.node.0 a
    at-side bit r a m e =
        m.1.1.is a
        ∙ joined-all k _ _ _ _
        (m.1.0.function (put level false a) ∙ ap (function_of ts x.node.0) (put-id (put level false a) x.level bit (put-other a level false x.level apart ∙ e)))
        (m.1.0.function (put level true a) ∙ ap (function_of ts x.node.0) (put-id (put level true a) x.level bit (put-other a level true x.level apart ∙ e)))

  -- the node of the two answers is the answer
  pub sides-step : (s t : Store) → Grows s t → IsDiagram s.triples → (x : Visit) → IsVisit (sides_of level k) level s.triples x → (lo hi n : ℕ) → IsMadeSide (sides_of level k) s.triples x.node.0 x.level false lo → IsMadeSide (sides_of level k) s.triples x.node.0 x.level true hi
      → IsNode t.triples n → ((a : Bits) → function_of t.triples n a ≡ (if a x.level then function_of s.triples hi a else function_of s.triples lo a)) → IsMade (sides_of level k) t.triples x.node.0 n
  sides-step s t g is x w lo hi n low high wn made = record {
    node = grown-node s t g x.node.0 w.node;
    answer = wn;
    is = λ a. elim (cases_Bool (a x.level)) [
      | inl one ↦
          made a ∙ ap (λ b. if b then function_of s.triples hi a else function_of s.triples lo a) one ∙ at-side s.triples is x w true hi a high one
          ∙ sym (sides-stay s s t (Grows-same s) g x.node.0 w.node a)
      | inr none ↦
          made a ∙ ap (λ b. if b then function_of s.triples hi a else function_of s.triples lo a) none ∙ at-side s.triples is x w false lo a low none
          ∙ sym (sides-stay s s t (Grows-same s) g x.node.0 w.node a)
    ];
  }

-- how nodes depend on levels
pub depends-on : (s : Store) → IsDependence DependsOn s
depends-on s = record {
  side = λ ts n level bit r ls c d. cofactor-depends ts n level bit r ls c d;
  before = λ t u st tu n ls w d. record { agrees = λ a b h. sym (grown-function t u tu n w a) ∙ d.agrees a b h ∙ grown-function t u tu n w b };
  listed = λ ts is n ls w small d. listed ts is n ls w small d;
}

-- a side depends on no more levels
side-depends : (ts : List Triple) (n level : ℕ) (bit : Bool) (r : ℕ) (ls : List ℕ) → ((a : Bits) → function_of ts r a ≡ function_of ts n (put level bit a)) → DependsOn ts n ls → DependsOn ts r ls
side-depends ts n level bit r ls c d = record { agrees = λ a b h. c a ∙ d.agrees (put level bit a) (put level bit b) (agree-both level ls a b bit h) ∙ sym (c b) }

pub meet-room : (s t : Store) (n level lo hi : ℕ) → HasParts s.triples n level lo hi → Room (lo ∷ hi ∷ []) 1 s t → Room (n ∷ []) 1 s t
meet-room s t n level lo hi parts r = record {
  most = λ ls d. r.most ls (side-depends s.triples n level false lo ls parts.lo_function d.0, (side-depends s.triples n level true hi ls parts.hi_function d.0, tt));
}

pub no-room : (ns : List ℕ) (s : Store) → Room ns 1 s s
no-room ns s = record { most = λ ls d. let p : 0 < 2 ^ length ls = pow_pos (length ls) in omega (arith, p) }

-- the room of one node as the walk counts it, and back
pub as-asked : (s t : Store) (n : ℕ) → Room (n ∷ []) 1 s t → (ls : List ℕ) → DependsOn s.triples n ls → length t.triples ≤ length s.triples + asks 1 ls
as-asked s t n r ls d = let m = r.most ls (d, tt) in omega (arith, m)

pub as-room : (s t : Store) (n : ℕ) → Grows s t → IsNode s.triples n → ((ls : List ℕ) → DependsOn t.triples n ls → length t.triples ≤ length s.triples + asks 1 ls) → Room (n ∷ []) 1 s t
as-room s t n g w m = record {
  most = λ ls d.
      let e : DependsOn t.triples n ls = record { agrees = λ a b h. grown-function s t g n w a ∙ d.0.agrees a b h ∙ sym (grown-function s t g n w b) } in
      let p : 0 < 2 ^ length ls = pow_pos (length ls) in
      let o = m ls e in
      omega (arith, o, p);
}

-- what the sides become, by name
pub joined-as : (ts us : List Triple) (lo hi r : ℕ) (k l : Sides) → k ≡ l → StandsFor us r (λ a. joined l (function_of ts lo a) (function_of ts hi a)) → StandsFor us r (λ a. joined k (function_of ts lo a) (function_of ts hi a))
joined-as ts us lo hi r k l e is = record { at = λ a. is.at a ∙ ap (λ m. joined m (function_of ts lo a) (function_of ts hi a)) (sym e) }

-- a stop as an answer of the two kinds
abbrev step_stop : Stop → Result Step Stop
step_stop e = Err e

abbrev node_stop : Stop → Result Node Stop
node_stop e = Err e

-- the cause of a stop for nodes
pub step-cause : (ns : List ℕ) (s t v : Store) (e : Stop) → Room ns 1 s v → v.budget ≡ s.budget → t.fulls ≡ s.fulls → v.fulls ≡ fulls_after_step t.fulls (step_stop e) → (step_stop e ≡ step_stop Nodes → length v.triples ≡ v.budget)
    → node_stop e ≡ node_stop Nodes → HasCause ns 1 s v
step-cause ns s t v Memory room same before fulls full stop = absurd (search (rules, stop))
step-cause ns s t v Nodes room same before fulls full stop = record {
  rose = omega (arith, fulls, before);
  below = λ ls d. let m = room.most ls d in let f = full refl in omega (arith, m, f, same);
}
