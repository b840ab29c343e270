-- How many nodes an equation adds.
use Rattle.std.proofs.Common.{◌≡◌, inl, inr, ℕ, zero, suc, ◌+◌, ◌-◌, ◌*◌, min, ◌<◌, ◌≤◌, ◌^◌, Bool, true, false, cond, List, [], ◌∷◌, length, get_or, nat_eq, if◌then◌else◌, Result, Err, refl, sym, ap, ap₂, subst, ◌∙◌, arith}
use Rattle.std.proofs.lemmas.Bool.{cases_Bool, eqb-true, true≢false}
use Rattle.std.proofs.lemmas.Nat.{pow_pos}
use Rattle.std.proofs.Math.Nat.{mul-le-mul_left, mul-le-mul_right}
use Rattle.std.specs.List.{list_any, filter}
use Rattle.cb_model.specs.Bits.{Bits, put, xor}
use Rattle.cb_dd.specs.declared.Node.{Node}
use Rattle.cb_dd.specs.declared.Triple.{Triple}
use Rattle.cb_dd.specs.declared.Stop.{Stop}
use Rattle.cb_dd.specs.declared.Stop.TheVariants.{Nodes, Memory}
use Rattle.cb_dd.specs.Diagram.{Store, IsNode, function_of}
use Rattle.cb_ops.specs.Ops.{Grows, StandsFor, Room, DependsOn}
use Rattle.cb_ops.specs.Support.{IsListed}
use Rattle.cb_ops.specs.Substitute.{Images, AreNodes}
use Rattle.cb_ops.specs.Composed.{ComposedRoom, is_replaced}
use Rattle.cb_ops.proofs.Ite.{without, without-lt, grown-depends}
use Rattle.cb_ops.proofs.Substitute.{image-node}
use Rattle.cb_boole.specs.Elimination.{Function, DependsOnly, solved}
use Rattle.cb_boole.proofs.Only.{solved_alike}
use Rattle.cb_boole.proofs.Point.{put_other}
use Rattle.cb_boole.proofs.Bounds.{below_pow, four_next}
use Rattle.cb_solution.specs.Solution.{IsFalling, ImagesWithin, SolutionRoom, has_refused}
use Rattle.cb_solution.proofs.Solved.{at-some, image-listed, listed-here, listed-there, listed-cases, only-from, only-into}
use Rattle.cb_elim.specs.Store.{Seen, IsAsBefore, OnlyNodes, AreThere}
use Rattle.cb_elim.specs.Unified.{UnifyCause}
use Rattle.cb_elim.specs.Equation.{AreGeneral, DependEach, GeneralRoom, IsElimination, MovedRoom, SidesRoom, differ}

-- ---- falling levels of a list are no more than the list has

listed-without : (k j : ℕ) (ls : List ℕ) → IsListed ls j → (j ≡ k → ⊥) → IsListed (without k ls) j
unfolding without
listed-without k j [] h ne = h
listed-without k j (l ∷ ls) h ne = elim (cases_Bool (nat_eq l k)) [
  | inl same ↦
      subst (λ c. IsListed (if c then without k ls else l ∷ without k ls) j) (sym same) (elim (listed-cases l j ls h) [
        | inl here ↦ absurd (ne (here ∙ eqb-true l k same))
        | inr there ↦ listed-without k j ls there ne
      ])
  | inr other ↦
      subst (λ c. IsListed (if c then without k ls else l ∷ without k ls) j) (sym other) (elim (listed-cases l j ls h) [
        | inl here ↦ subst (λ i. IsListed (l ∷ without k ls) i) (sym here) (listed-here l (without k ls))
        | inr there ↦ listed-there l j (without k ls) (listed-without k j ls there ne)
      ])
]

pub falling-fit : (levels ls : List ℕ) → IsFalling levels → ((l : ℕ) → IsListed levels l → IsListed ls l) → length levels ≤ length ls
falling-fit [] ls f h = omega arith
falling-fit (l ∷ levels) ls f h =
    let shorter : length (without l ls) + 1 ≤ length ls = without-lt l ls (h l (listed-here l levels)) in
    let rest : length levels ≤ length (without l ls) = falling-fit levels (without l ls) f.1
    (λ k there. listed-without l k ls (h k (listed-there l k levels there)) (λ e. let w : k < l = f.0 k there in omega arith)) in
    omega arith

-- the levels eliminated are among those on which the function depends
eliminated-listed : (f : Function) (constants : ℕ) (levels ls : List ℕ) → IsElimination constants f levels → DependsOnly (IsListed ls) f → (l : ℕ) → IsListed levels l → IsListed ls l
eliminated-listed f constants levels ls el d l there = elim (cases_Bool (list_any (nat_eq l) ls)) [
  | inl listed ↦ listed
  | inr away ↦ absurd (el.needed l there (λ p b. d (put l b p) p (λ j w. put_other p l b j (λ same. true≢false (sym (subst (λ i. IsListed ls i) same w) ∙ away)))))
]

-- ---- the values, one after another

depend-at : (ts : List Triple) (ns : List Node) (d : Node) (k : ℕ) (ls : List ℕ) → DependEach ts ns ls → k < length ns → DependsOn ts (get_or ns k d).0 ls
depend-at ts [] d k ls h w = absurd (omega arith)
depend-at ts (n ∷ ns) d zero ls h w = h.0
depend-at ts (n ∷ ns) d (suc k) ls h w = depend-at ts ns d k ls h.1 (omega arith)

node-of : (ts : List Triple) (ns : List Node) (d : Node) (k : ℕ) → AreThere ts ns → k < length ns → IsNode ts (get_or ns k d).0
node-of ts [] d k h w = absurd (omega arith)
node-of ts (n ∷ ns) d zero h w = h.0
node-of ts (n ∷ ns) d (suc k) h w = node-of ts ns d k h.1 (omega arith)

pub depend-still : (s t : Store) → Grows s t → (ns : List Node) → AreThere s.triples ns → (ls : List ℕ) → DependEach s.triples ns ls → DependEach t.triples ns ls
depend-still s t g [] w ls h = tt
depend-still s t g (n ∷ ns) w ls h = (grown-depends s t g n.0 ls w.0 h.0, depend-still s t g ns w.1 ls h.1)

-- no more pass than there are
passing-le : (p : ℕ → Bool) (xs : List ℕ) → length (filter p xs) ≤ length xs
passing-le p [] = omega arith
passing-le p (x ∷ xs) = elim (p x) as (λ b. length (cond b (x ∷ filter p xs) (filter p xs)) ≤ length (x ∷ xs)) [
  | true ↦ omega (arith, passing-le p xs)
  | false ↦ omega (arith, passing-le p xs)
]

-- so many values were moved
pub record MovedSo (k : ℕ) (ns : List Node) (images : Images) (old new : Store) : Type 0 where
  pub most : (ls : List ℕ) → DependEach old.triples ns ls → ImagesWithin old.triples images ls → length new.triples ≤ length old.triples + k * (length ls * (3 * 2 ^ length ls))

pub moved-none : (ns : List Node) (images : Images) (s : Store) → MovedSo 0 ns images s s
moved-none ns images s = record { most = λ ls d w. omega arith }

pub moved-one : (s t u : Store) (st : Grows s t) (images : Images) (ws : AreNodes s.triples images) (ns : List Node) (there : AreThere s.triples ns) (k x : ℕ) (d : Node) → x < length ns →
    ComposedRoom (get_or ns x d).0 images t u → MovedSo k ns images s t → MovedSo (k + 1) ns images s u
moved-one s t u st images ws ns there k x d h room before = record {
  most = λ ls depend within.
      let b = before.most ls depend within in
      let r = room.most ls (record {
        depends = grown-depends s t st (get_or ns x d).0 ls (node-of s.triples ns d x there h) (depend-at s.triples ns d x ls depend h);
        covers = λ l w e. w;
        images = λ l m e. grown-depends s t st m.0 ls (image-node s.triples images l m ws e) (within.each l m e);
      }) in
      let few : length (filter (is_replaced images) ls) * (3 * 2 ^ length ls) ≤ length ls * (3 * 2 ^ length ls) = mul-le-mul_right (3 * 2 ^ length ls) (passing-le (is_replaced images) ls) in
      omega arith;
}

pub moved-all : (k : ℕ) (ns : List Node) (images : Images) (s t : Store) → k ≤ length ns → MovedSo k ns images s t → MovedRoom ns images s t
moved-all k ns images s t h m = record {
  most = λ ls d w.
      let b = m.most ls d w in
      let r : k * (length ls * (3 * 2 ^ length ls)) ≤ length ns * (length ls * (3 * 2 ^ length ls)) = mul-le-mul_right (length ls * (3 * 2 ^ length ls)) h in
      omega arith;
}

-- ---- the whole

room-sum : (x w k n : ℕ) → w < x → k ≤ w → 2 * x + k * (5 * x + x * x) + n * (w * (3 * x)) + 1 ≤ 64 * (n + w + 1) * (4 * (x * x))
room-sum x w k n short less =
    let pos : 0 < x = omega (arith, short) in
    let c : w * (3 * x) ≤ x * (3 * x) = mul-le-mul_right (3 * x) (omega (arith, short)) in
    let d : n * (w * (3 * x)) ≤ n * (x * (3 * x)) = mul-le-mul_left n c in
    let p : x * 1 ≤ x * x = mul-le-mul_left x pos in
    let a : k * (5 * x + x * x) ≤ w * (5 * x + x * x) = mul-le-mul_right (5 * x + x * x) less in
    let b : w * x ≤ w * (x * x) = mul-le-mul_left w (omega arith) in
    omega arith

pub equation-bound : (w k n : ℕ) → k ≤ w → 2 * 2 ^ w + k * (5 * 2 ^ w + 2 ^ w * 2 ^ w) + n * (w * (3 * 2 ^ w)) + 1 ≤ 64 * (n + w + 1) * 4 ^ (w + 1)
equation-bound w k n less =
    subst (λ z. 2 * 2 ^ w + k * (5 * 2 ^ w + 2 ^ w * 2 ^ w) + n * (w * (3 * 2 ^ w)) + 1 ≤ 64 * (n + w + 1) * z) (sym (four_next w)) (room-sum (2 ^ w) w k n (below_pow w) less)

module _ (s t u : Store) (st : Grows s t) (tu : Grows t u) (f g e : ℕ) (first : Room (f ∷ g ∷ []) 2 s t) where
  pub sides-first : SidesRoom f g s t
  sides-first = record { most = λ ls df dg. let m = first.most ls (df, (dg, tt)) in omega arith }

  module _ (is : StandsFor t.triples e (λ a. xor (function_of s.triples f a) (function_of s.triples g a))) (constants : ℕ) (levels : List ℕ) (el : IsElimination constants (function_of t.triples e) levels) (second : SolutionRoom e levels t u) where
    pub sides-second : SidesRoom f g s u
    sides-second = record {
      most = λ ls df dg.
          let d : DependsOn t.triples e ls = record { agrees = λ a b h. is.at a ∙ ap₂ xor (df.agrees a b h) (dg.agrees a b h) ∙ sym (is.at b) } in
          let m = first.most ls (df, (dg, tt)) in
          let within = eliminated-listed (function_of t.triples e) constants levels ls el (only-from t.triples e ls d) in
          let n = second.most ls d within in
          let r : length levels * (5 * 2 ^ length ls + 2 ^ length ls * 2 ^ length ls) ≤ length ls * (5 * 2 ^ length ls + 2 ^ length ls * 2 ^ length ls)
          = mul-le-mul_right (5 * 2 ^ length ls + 2 ^ length ls * 2 ^ length ls) (falling-fit levels ls el.falls within) in
          omega arith;
    }

module _ (s t u : Store) (st : Grows s t) (ns : List Node) (there : AreThere s.triples ns) (f g : ℕ) (first : SidesRoom f g s t) where
  pub general-first : GeneralRoom ns f g s t
  general-first = record {
    most = λ ls df dg dn.
        let m = first.most ls df dg in
        let b = equation-bound (length ls) (length ls) (length ns) (omega arith) in
        omega arith;
  }

  -- the images depend on the levels of the two sides alone
  images-within : (images : Images) (constants : ℕ) → AreGeneral s.triples t.triples constants f g images → (ls : List ℕ) → DependsOn s.triples f ls → DependsOn s.triples g ls → ImagesWithin t.triples images ls
  images-within images constants gen ls df dg = record {
    each = λ l m e. only-into t.triples m.0 ls (λ p. solved gen.levels (differ s.triples f g) p l)
        (record { at = λ p. sym (at-some t.triples images p l m e) ∙ ap (λ (q : Bits). q l) (gen.at p) })
        (λ p q h. solved_alike (IsListed ls) gen.levels (differ s.triples f g) only p q h l (within l (gen.within l (image-listed images l m e))));
  }
    where
      only : DependsOnly (IsListed ls) (differ s.triples f g)
      only p q h = ap₂ xor (only-from s.triples f ls df p q h) (only-from s.triples g ls dg p q h)

      within : (l : ℕ) → IsListed gen.levels l → IsListed ls l
      within = eliminated-listed (differ s.triples f g) constants gen.levels ls gen.elimination only

  pub general-second : (images : Images) (constants : ℕ) → AreGeneral s.triples t.triples constants f g images → MovedRoom ns images t u → GeneralRoom ns f g s u
  general-second images constants gen second = record {
    most = λ ls df dg dn.
        let m = first.most ls df dg in
        let n = second.most ls (depend-still s t st ns there ls dn) (images-within images constants gen ls df dg) in
        let b = equation-bound (length ls) (length ls) (length ns) (omega arith) in
        omega arith;
  }

-- what was cut away adds nothing
pub room-none : (ns : List Node) (f g : ℕ) (old new : Store) → length new.triples ≤ length old.triples → GeneralRoom ns f g old new
room-none ns f g old new h = record {
  most = λ ls df dg dn.
      let b = equation-bound (length ls) 0 (length ns) (omega arith) in
      let p : 1 ≤ 2 ^ length ls = pow_pos (length ls) in
      omega arith;
}

pub room-before : (old new : Seen) (f g : ℕ) → IsAsBefore old new → GeneralRoom old.slots f g old.nodes new.nodes
room-before old new f g b = room-none old.slots f g old.nodes new.nodes (let e = ap (λ (s : Seen). length s.nodes.triples) b.same in omega arith)

-- ---- the cause of a stop

pub unify-cause : (old mid new : Seen) (f g : ℕ) → OnlyNodes old mid → GeneralRoom old.slots f g old.nodes mid.nodes → length mid.nodes.triples ≡ mid.nodes.budget → mid.nodes.fulls ≡ min (old.nodes.fulls + 1) (2 ^ 64 - 1) → new.nodes.fulls ≡ mid.nodes.fulls → UnifyCause old new f g
unify-cause old mid new f g only room full rose same = record {
  rose = omega arith;
  below = λ ls df dg dn. let m = room.most ls df dg dn in let b = only.grows.budget in omega arith;
}

pub memory-only : (n : ℕ) (e : Stop) → (let r : Result (Unit {0}) Stop = Err e in r ≡ Err Nodes → ⊥) → has_refused {A = Bool} n (Err e) ≡ n
memory-only n Nodes h = absurd (h refl)
memory-only n Memory h = refl
