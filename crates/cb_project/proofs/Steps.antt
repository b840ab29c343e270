-- The nodes of one leaf.
use Rattle.std.proofs.Common.{◌≡◌, ◌⊎◌, inl, inr, ℕ, zero, suc, ◌+◌, ◌*◌, ◌<◌, ◌≤◌, ◌^◌, Bool, true, false, cond, not, ◌||◌, nat_eq, get_or, take, Option, Some, None, List, [], ◌∷◌, ◌++◌, map, length, drop, if◌then◌else◌, refl, sym, ap, ap₂, ◌∙◌, subst, arith}
use Rattle.std.proofs.lemmas.Nat.{pow_pos}
use Rattle.std.proofs.Math.ListN.{drop_of_length-le}
use Rattle.std.proofs.Math.Seq.{drop-cons}
use Rattle.std.proofs.lemmas.List.{take_more}
use Rattle.std.specs.List.{list_any, filter}
use Rattle.std.specs.Option.{option_map_or}
use Rattle.std.proofs.Math.Nat.{mul-le-mul_left, mul-le-mul_right}
use Rattle.std.proofs.Math.Path.{fun_ext}
use Rattle.std.proofs.lemmas.Bool.{true≢false, cases_Bool}
use Rattle.cb_model.specs.Bits.{Bits, Each, put, xor}
use Rattle.cb_dd.specs.declared.Triple.{Triple}
use Rattle.cb_dd.specs.declared.Node.{Node}
use Rattle.cb_dd.specs.Diagram.{Store, IsNode, function_of}
use Rattle.cb_ops.specs.Ops.{Grows, StandsFor, Room, DependsOn, IsIte}
use Rattle.cb_ops.specs.Support.{IsListed}
use Rattle.cb_ops.specs.Substitute.{Images, AreNodes, SubstituteRoom, Spreads, substituted, image_of}
use Rattle.cb_ops.specs.Composed.{ComposedRoom, is_replaced}
use Rattle.cb_solution.proofs.Lower.{solution-lower}
use Rattle.cb_ops.proofs.Substitute.{substituted-grown}
use Rattle.cb_ops.proofs.Ite.{grown-node, grown-function, grown-depends, choose-all, literal-is, Grows-then}
use Rattle.cb_boole.specs.Elimination.{Function, DependsOnly, IsAway, both, rest, solved}
use Rattle.cb_boole.proofs.Bounds.{below_pow}
use Rattle.cb_boole.proofs.Only.{both_only, rest_only, solved_alike, weaker}
use Rattle.cb_solution.specs.Solution.{IsFalling, IsSolution, HasRest, ImagesWithin, SolutionRoom}
use Rattle.cb_solution.proofs.Solved.{only-from, only-into, listed-there}
use Rattle.cb_boole.specs.Parametric.{parametric}
use Rattle.cb_boole.specs.Stages.{AreFor, misses}
use Rattle.cb_boole.proofs.Picking.{negated, negated_only, parametric_only}
use Rattle.cb_boole.proofs.Stages.{solvable}
use Rattle.cb_project.specs.Leaves.{functions_of, AllNodes, AllDepend, AreInner, RestRoom, PickRoom, IsLeaf, LeafRoom, ArePutIn, PutRoom, ReplacedRoom, IsStep, StepRoom}
use Rattle.cb_project.proofs.Nodes.{function-grown, functions-grown, nodes-grown, depend-grown, nodes-more, depend-more, functions-more, path-of, depends-by}
use Rattle.cb_project.proofs.Levels.{are-for, needed-listed, falling-within}

-- ---- elimination

pub rest-drop : (levels : List ℕ) (i l : ℕ) (g : Function) → i < length levels → l ≡ get_or levels i 0 →
    rest (drop i levels) g ≡ rest (drop (i + 1) levels) (both l g)
unfolding rest
rest-drop levels i l g lt e = ap (λ ls. rest ls g) (drop-cons levels i 0 lt ∙ ap₂ ◌∷◌ (sym e) (ap (λ j. drop j levels) (let s : suc i ≡ i + 1 = omega arith in s)))

-- one level more is eliminated
module _ (s t u : Store) (st : Grows s t) (f left level i : ℕ) (levels : List ℕ) (lt : i < length levels) (at : level ≡ get_or levels i 0)
    (is : rest (drop i levels) (function_of t.triples left) ≡ rest levels (function_of s.triples f)) (next : ℕ) (both_is : StandsFor u.triples next (both level (function_of t.triples left))) where
  pub rest-on : rest (drop (i + 1) levels) (function_of u.triples next) ≡ rest levels (function_of s.triples f)
  rest-on = ap (rest (drop (i + 1) levels)) (path-of u.triples next (both level (function_of t.triples left)) both_is) ∙ sym (rest-drop levels i level (function_of t.triples left) lt at) ∙ is

  pub rest-depends : (ls : List ℕ) → DependsOn t.triples left ls → DependsOn u.triples next ls
  rest-depends ls d = only-into u.triples next ls (both level (function_of t.triples left)) both_is (both_only (IsListed ls) level (function_of t.triples left) (only-from t.triples left ls d))

-- all levels are eliminated
pub rest-done : (ts : List Triple) (n : ℕ) (levels : List ℕ) (i : ℕ) (f : Function) → length levels ≤ i → rest (drop i levels) (function_of ts n) ≡ rest levels f → StandsFor ts n (rest levels f)
unfolding rest
rest-done ts n levels i f le is = record { at = λ p. ap (λ (g : Function). g p) (sym (ap (λ ls. rest ls (function_of ts n)) (drop_of_length-le levels le)) ∙ is) }

pub rest-room : (s t u : Store) (st : Grows s t) (f left level i count next : ℕ) → i < count →
    ((ls : List ℕ) → DependsOn s.triples f ls → DependsOn t.triples left ls × (length t.triples ≤ length s.triples + i * (3 * 2 ^ length ls))) →
    Room (left ∷ []) 3 t u → (ls : List ℕ) → DependsOn s.triples f ls → length u.triples ≤ length s.triples + (i + 1) * (3 * 2 ^ length ls)
rest-room s t u st f left level i count next lt before room ls d =
    let w = before ls d in
    let m = room.most ls (w.0, tt) in
    let b : length t.triples ≤ length s.triples + i * (3 * 2 ^ length ls) = w.1 in
    omega arith

pub rest-room-within : (s u : Store) (f i count : ℕ) → i ≤ count → ((ls : List ℕ) → DependsOn s.triples f ls → length u.triples ≤ length s.triples + i * (3 * 2 ^ length ls)) → RestRoom f count s u
rest-room-within s u f i count le before = record {
  most = λ ls d.
      let b : length u.triples ≤ length s.triples + i * (3 * 2 ^ length ls) = before ls d in
      let m : i * (3 * 2 ^ length ls) ≤ count * (3 * 2 ^ length ls) = mul-le-mul_right (3 * 2 ^ length ls) le in
      omega arith;
}

-- ---- the parametric function of a node

own-depends : (ts : List Triple) (own level : ℕ) (ls : List ℕ) → ((p : Bits) → function_of ts own p ≡ p level) → IsListed ls level → DependsOn ts own ls
own-depends ts own level ls is there = only-into ts own ls (λ p. p level) (record { at = is }) (λ p q h. h level there)

-- the rooms of the calls, one after another
module _ (s0 s1 s2 s3 s4 s5 s6 : Store) (g1 : Grows s0 s1) (g2 : Grows s1 s2) (g3 : Grows s2 s3) (g4 : Grows s3 s4) (g5 : Grows s4 s5)
    (f level count : ℕ) (levels : List ℕ) (w : IsNode s0.triples f) where
  pub pick-room-one : RestRoom f count s0 s1 → PickRoom f level count s0 s1
  pick-room-one r1 = record { most = λ ls d there. let m = r1.most ls d in omega arith }

  f-later : (ls : List ℕ) → DependsOn s0.triples f ls → DependsOn s1.triples f ls
  f-later ls d = grown-depends s0 s1 g1 f ls w d

  pub pick-room-two : RestRoom f count s0 s1 → Room (f ∷ []) 1 s1 s2 → PickRoom f level count s0 s2
  pick-room-two r1 r2 = record {
    most = λ ls d there.
        let m = r1.most ls d in
        let n = r2.most ls (f-later ls d, tt) in
        omega arith;
  }

  module _ (other : ℕ) (is2 : StandsFor s2.triples other (λ a. not (function_of s1.triples f a))) where
    other-path : function_of s2.triples other ≡ negated (function_of s0.triples f)
    other-path = fun_ext (λ p. is2.at p ∙ ap not (grown-function s0 s1 g1 f w p))

    other-depends : (ls : List ℕ) → DependsOn s0.triples f ls → DependsOn s2.triples other ls
    other-depends ls d = depends-by s2.triples other ls (negated (function_of s0.triples f)) other-path (negated_only (IsListed ls) (function_of s0.triples f) (only-from s0.triples f ls d))

    pub pick-room-three : RestRoom f count s0 s1 → Room (f ∷ []) 1 s1 s2 → RestRoom other count s2 s3 → PickRoom f level count s0 s3
    pick-room-three r1 r2 r3 = record {
      most = λ ls d there.
          let m = r1.most ls d in
          let n = r2.most ls (f-later ls d, tt) in
          let o = r3.most ls (other-depends ls d) in
          omega arith;
    }

    module _ (never : ℕ) (is3 : StandsFor s3.triples never (rest levels (function_of s2.triples other))) where
      never-path : function_of s3.triples never ≡ rest levels (negated (function_of s0.triples f))
      never-path = path-of s3.triples never (rest levels (function_of s2.triples other)) is3 ∙ ap (rest levels) other-path

      never-depends : (ls : List ℕ) → DependsOn s0.triples f ls → DependsOn s3.triples never ls
      never-depends ls d = depends-by s3.triples never ls (rest levels (negated (function_of s0.triples f))) never-path
          (rest_only (IsListed ls) levels (negated (function_of s0.triples f)) (negated_only (IsListed ls) (function_of s0.triples f) (only-from s0.triples f ls d)))

      pub pick-room-four : RestRoom f count s0 s1 → Room (f ∷ []) 1 s1 s2 → RestRoom other count s2 s3 → Room (never ∷ []) 1 s3 s4 → PickRoom f level count s0 s4
      pick-room-four r1 r2 r3 r4 = record {
        most = λ ls d there.
            let m = r1.most ls d in
            let n = r2.most ls (f-later ls d, tt) in
            let o = r3.most ls (other-depends ls d) in
            let q = r4.most ls (never-depends ls d, tt) in
            omega arith;
      }

      pub pick-room-five : RestRoom f count s0 s1 → Room (f ∷ []) 1 s1 s2 → RestRoom other count s2 s3 → Room (never ∷ []) 1 s3 s4 →
          length s5.triples ≤ length s4.triples + 1 → PickRoom f level count s0 s5
      pick-room-five r1 r2 r3 r4 r5 = record {
        most = λ ls d there.
            let m = r1.most ls d in
            let n = r2.most ls (f-later ls d, tt) in
            let o = r3.most ls (other-depends ls d) in
            let q = r4.most ls (never-depends ls d, tt) in
            let p : 0 < 2 ^ length ls = pow_pos (length ls) in
            omega arith;
      }

      module _ (always sometimes own : ℕ) (wa : IsNode s1.triples always) (ws : IsNode s4.triples sometimes)
          (is1 : StandsFor s1.triples always (rest levels (function_of s0.triples f))) (is4 : StandsFor s4.triples sometimes (λ a. not (function_of s3.triples never a)))
          (is5 : (a : Bits) → function_of s5.triples own a ≡ (if a level then function_of s4.triples 1 a else function_of s4.triples 0 a)) where
        own-is : (a : Bits) → function_of s5.triples own a ≡ a level
        own-is a = is5 a ∙ literal-is s4.triples (a level) a

        g25 : Grows s1 s5
        g25 = Grows-then s1 s4 s5 (Grows-then s1 s3 s4 (Grows-then s1 s2 s3 g2 g3) g4) g5

        pub pick-is : (n : ℕ) → IsIte s5.triples s6.triples own sometimes always n → StandsFor s6.triples n (parametric levels level (function_of s0.triples f))
        unfolding parametric
        pick-is n is6 = record {
          at = λ a. is6.at a ∙ choose-all _ _ _ _ _ _ (own-is a)
              (grown-function s4 s5 g5 sometimes ws a ∙ is4.at a ∙ ap not (ap (λ (g : Function). g a) never-path))
              (grown-function s1 s5 g25 always wa a ∙ is1.at a);
        }

        pub pick-room : RestRoom f count s0 s1 → Room (f ∷ []) 1 s1 s2 → RestRoom other count s2 s3 → Room (never ∷ []) 1 s3 s4 →
            length s5.triples ≤ length s4.triples + 1 → Room (own ∷ sometimes ∷ always ∷ []) 1 s5 s6 → PickRoom f level count s0 s6
        pick-room r1 r2 r3 r4 r5 r6 = record {
          most = λ ls d there.
              let m = r1.most ls d in
              let n = r2.most ls (f-later ls d, tt) in
              let o = r3.most ls (other-depends ls d) in
              let q = r4.most ls (never-depends ls d, tt) in
              let sometimes_depends : DependsOn s4.triples sometimes ls =
              only-into s4.triples sometimes ls (negated (function_of s3.triples never)) is4 (negated_only (IsListed ls) (function_of s3.triples never) (only-from s3.triples never ls (never-depends ls d))) in
              let always_depends : DependsOn s1.triples always ls =
              only-into s1.triples always ls (rest levels (function_of s0.triples f)) is1 (rest_only (IsListed ls) levels (function_of s0.triples f) (only-from s0.triples f ls d)) in
              let r = r6.most ls (own-depends s5.triples own level ls own-is there, (grown-depends s4 s5 g5 sometimes ls ws sometimes_depends, (grown-depends s1 s5 g25 always ls wa always_depends, tt))) in
              let p : 0 < 2 ^ length ls = pow_pos (length ls) in
              omega arith;
        }

-- ---- the leaf of a node

-- so many operations over W levels are within the bound of a leaf
leaf-sum : (w p count extra : ℕ) → count ≤ w → 0 < p → extra ≤ 6 * p → count * (6 * p) + (count * (5 * p + p * p) + extra) ≤ 12 * (w + 1) * (p * p)
leaf-sum w p count extra le pos more =
    let a : p * 1 ≤ p * p = mul-le-mul_left p (let h : 1 ≤ p = omega arith in h) in
    let b : count * (6 * p) ≤ w * (6 * p) = mul-le-mul_right (6 * p) le in
    let c : w * (6 * p) ≤ w * (6 * (p * p)) = mul-le-mul_left w (let h : 6 * p ≤ 6 * (p * p) = omega arith in h) in
    let d : count * (5 * p + p * p) ≤ w * (5 * p + p * p) = mul-le-mul_right (5 * p + p * p) le in
    let e : w * (5 * p + p * p) ≤ w * (6 * (p * p)) = mul-le-mul_left w (let h : 5 * p + p * p ≤ 6 * (p * p) = omega arith in h) in
    omega arith

inner-fewer : (ts : List Triple) (f c first : ℕ) (levels ls : List ℕ) → AreInner ts f c first levels → IsFalling levels → DependsOn ts f ls → length levels ≤ length ls
inner-fewer ts f c first levels ls inner falls d = falling-within levels ls falls (λ l h. needed-listed ts f ls d l (inner.needed l h))

image-listed : (xs : Images) (k : ℕ) (m : Node) → image_of xs k ≡ Some m → IsListed (map (λ i. i.0) xs) k
image-listed [] k m e = absurd (let d : None ≡ Some m = e in cc)
image-listed (x ∷ xs) k m e = elim (cases_Bool (nat_eq k x.0)) [
  | inl same ↦ ap (λ b. b || list_any (nat_eq k) (map (λ i. i.0) xs)) same
  | inr other ↦ listed-there x.0 k (map (λ i. i.0) xs) (image-listed xs k m (sym (ap (λ b. if b then Some x.1 else image_of xs k) other) ∙ e))
]

image-at : (ts : List Triple) (list : Images) (p : Bits) (l : ℕ) (m : Node) → image_of list l ≡ Some m → substituted ts list p l ≡ function_of ts m.0 p
image-at ts list p l m e = ap (λ o. option_map_or (λ n. function_of ts n.0 p) o (p l)) e

module _ (s0 s1 s2 s3 : Store) (g1 : Grows s0 s1) (g2 : Grows s1 s2) (g3 : Grows s2 s3) (f c first n level : ℕ) (e : first + n ≡ level) (levels : List ℕ) (w : IsNode s0.triples f)
    (inner : AreInner s0.triples f c first levels) (falls : IsFalling levels) (below : DependsOnly (λ k. k < first + n) (function_of s0.triples f)) where
  are : AreFor c first n (function_of s0.triples f) levels
  are = are-for s0.triples f c first n levels inner below

  pub leaf-room-none : LeafRoom f level s0 s0
  leaf-room-none = record { most = λ ls d there. omega arith }

  pub leaf-room-one : PickRoom f level (length levels) s0 s1 → LeafRoom f level s0 s1
  leaf-room-one r1 = record {
    most = λ ls d there.
        let m = r1.most ls d there in
        let p : 0 < 2 ^ length ls = pow_pos (length ls) in
        let q = leaf-sum (length ls) (2 ^ length ls) (length levels) (4 * 2 ^ length ls) (inner-fewer s0.triples f c first levels ls inner falls d) p (omega arith) in
        omega arith;
  }

  module _ (node : ℕ) (wn : IsNode s1.triples node) (is1 : StandsFor s1.triples node (parametric levels level (function_of s0.triples f))) where
    node-depends : (ls : List ℕ) → DependsOn s0.triples f ls → IsListed ls level → DependsOn s1.triples node ls
    node-depends ls d there = only-into s1.triples node ls (parametric levels level (function_of s0.triples f)) is1
        (parametric_only (IsListed ls) (IsListed ls) levels level (function_of s0.triples f)
        (weaker (IsListed ls) (λ k. IsListed ls k ⊎ (IsAway k levels → ⊥)) (function_of s0.triples f) (only-from s0.triples f ls d) (λ k h. inl h)) (λ k h. h) there)

    pub leaf-room-two : PickRoom f level (length levels) s0 s1 → Room (f ∷ node ∷ []) 2 s1 s2 → LeafRoom f level s0 s2
    leaf-room-two r1 r2 = record {
      most = λ ls d there.
          let m = r1.most ls d there in
          let o = r2.most ls (grown-depends s0 s1 g1 f ls w d, (node-depends ls d there, tt)) in
          let p : 0 < 2 ^ length ls = pow_pos (length ls) in
          let q = leaf-sum (length ls) (2 ^ length ls) (length levels) (6 * 2 ^ length ls) (inner-fewer s0.triples f c first levels ls inner falls d) p (omega arith) in
          omega arith;
    }

    module _ (missed : ℕ) (is2 : StandsFor s2.triples missed (λ a. xor (function_of s1.triples f a) (function_of s1.triples node a))) where
      missed-path : function_of s2.triples missed ≡ misses levels level (function_of s0.triples f)
      unfolding misses
      missed-path = fun_ext (λ p. is2.at p ∙ ap₂ xor (grown-function s0 s1 g1 f w p) (is1.at p))

      missed-only : (ls : List ℕ) → DependsOn s0.triples f ls → IsListed ls level → DependsOnly (IsListed ls) (misses levels level (function_of s0.triples f))
      unfolding misses
      missed-only ls d there p q h = ap₂ xor (only-from s0.triples f ls d p q h) (sym (is1.at p) ∙ only-from s1.triples node ls (node-depends ls d there) p q h ∙ is1.at q)

      pub leaf-room : PickRoom f level (length levels) s0 s1 → Room (f ∷ node ∷ []) 2 s1 s2 → SolutionRoom missed levels s2 s3 → LeafRoom f level s0 s3
      leaf-room r1 r2 r3 = record {
        most = λ ls d there.
            let m = r1.most ls d there in
            let o = r2.most ls (grown-depends s0 s1 g1 f ls w d, (node-depends ls d there, tt)) in
            let p : 0 < 2 ^ length ls = pow_pos (length ls) in
            let r = r3.most ls (depends-by s2.triples missed ls (misses levels level (function_of s0.triples f)) missed-path (missed-only ls d there)) (λ l h. needed-listed s0.triples f ls d l (inner.needed l h)) in
            let q = leaf-sum (length ls) (2 ^ length ls) (length levels) (6 * 2 ^ length ls) (inner-fewer s0.triples f c first levels ls inner falls d) p (omega arith) in
            omega arith;
      }

      -- elimination leaves nothing
      pub leaf-solvable : HasRest s2.triples missed levels → ⊥
      leaf-solvable h = true≢false (sym (sym (ap (λ (g : Function). rest levels g h.at) (missed-path ∙ ap (λ l. misses levels l (function_of s0.triples f)) (sym e))) ∙ h.left) ∙ solvable c first n (function_of s0.triples f) levels are h.at)

      pub leaf-is : (images : Images) → IsSolution s2.triples s3.triples missed levels images → IsLeaf s0.triples s3.triples c first n f node images
      leaf-is images found = record {
        levels = levels;
        are = are;
        is_node = grown-node s1 s3 (Grows-then s1 s2 s3 g2 g3) node wn;
        function = record { at = λ p. grown-function s1 s3 (Grows-then s1 s2 s3 g2 g3) node wn p ∙ is1.at p ∙ ap (λ l. parametric levels l (function_of s0.triples f) p) (sym e) };
        are_nodes = found.nodes;
        rise = found.rise;
        lower = solution-lower s2.triples s3.triples missed levels images falls found;
        solve = λ p. found.at p ∙ ap (λ (g : Function). solved levels g p) (missed-path ∙ ap (λ l. misses levels l (function_of s0.triples f)) (sym e));
        within = λ ls d there0. let there : IsListed ls level = subst (IsListed ls) e there0 in (
          grown-depends s1 s3 (Grows-then s1 s2 s3 g2 g3) node ls wn (node-depends ls d there),
          record {
            each = λ l m i. depends-by s3.triples m.0 ls (λ p. solved levels (misses levels level (function_of s0.triples f)) p l)
                (fun_ext (λ p. sym (image-at s3.triples images p l m i) ∙ ap (λ (q : Bits). q l) (found.at p) ∙ ap (λ (g : Function). solved levels g p l) missed-path))
                (λ p q h. solved_alike (IsListed ls) levels (misses levels level (function_of s0.triples f)) (missed-only ls d there) p q h l
                (needed-listed s0.triples f ls d l (inner.needed l (found.within l (image-listed images l m i)))));
          },
        );
      }

-- ---- the images put in

pub each-at : {A : Type 0} (P : A → Type 0) (xs : List A) (i : ℕ) (d : A) → Each P xs → i < length xs → P (get_or xs i d)
each-at P [] i d h lt = absurd (omega arith)
each-at P (x ∷ xs) zero d h lt = h.0
each-at P (x ∷ xs) (suc i) d h lt = each-at P xs i d h.1 (omega arith)

put-more : (ts : List Triple) (K : Function → Function) (xs : List Node) (x : Node) → map K (functions_of ts (xs ++ x ∷ [])) ≡ map K (functions_of ts xs) ++ K (function_of ts x.0) ∷ []
put-more ts K [] x = refl
put-more ts K (y ∷ xs) x = ap (λ l. K (function_of ts y.0) ∷ l) (put-more ts K xs x)

cases-image : (o : Option Node) → ((m : Node) × (o ≡ Some m)) ⊎ (o ≡ None)
cases-image (Some m) = inl (m, refl)
cases-image None = inr refl

-- the bits after the images depend on the same levels
substituted-alike : (ts : List Triple) (images : Images) (ls : List ℕ) → ImagesWithin ts images ls → (p q : Bits) → ((k : ℕ) → IsListed ls k → p k ≡ q k) →
    (k : ℕ) → IsListed ls k → substituted ts images p k ≡ substituted ts images q k
substituted-alike ts images ls within p q h k there = elim (cases-image (image_of images k)) [
  | inl m ↦ image-at ts images p k m.0 m.1 ∙ only-from ts m.0.0 ls (within.each k m.0 m.1) p q h ∙ sym (image-at ts images q k m.0 m.1)
  | inr e ↦ ap (λ o. option_map_or (λ n. function_of ts n.0 p) o (p k)) e ∙ h k there ∙ sym (ap (λ o. option_map_or (λ n. function_of ts n.0 q) o (q k)) e)
]

-- no more pass than there are
passing-le : (p : ℕ → Bool) (xs : List ℕ) → length (filter p xs) ≤ length xs
passing-le p [] = omega arith
passing-le p (x ∷ xs) = elim (p x) as (λ b. length (cond b (x ∷ filter p xs) (filter p xs)) ≤ length (x ∷ xs)) [
  | true ↦ omega (arith, passing-le p xs)
  | false ↦ omega (arith, passing-le p xs)
]

pub replaced-at-once : (n : ℕ) (images : Images) (s t : Store) → SubstituteRoom n images s t → ReplacedRoom n images s t
replaced-at-once n images s t room = record { most = λ ls w. let m = room.most ls ls w in omega arith }

pub replaced-one-by-one : (n : ℕ) (images : Images) (s t : Store) → ComposedRoom n images s t → ReplacedRoom n images s t
replaced-one-by-one n images s t room = record {
  most = λ ls w.
      let m = room.most ls w in
      let short = below_pow (length ls) in
      let few : length (filter (is_replaced images) ls) ≤ 2 ^ length ls = omega (arith, passing-le (is_replaced images) ls, short) in
      let q : length (filter (is_replaced images) ls) * (3 * 2 ^ length ls) ≤ 2 ^ length ls * (3 * 2 ^ length ls) = mul-le-mul_right (3 * 2 ^ length ls) few in
      omega arith;
}

module _ (s t u : Store) (st : Grows s t) (tu : Grows t u) (values : List Node) (images : Images) (wv : AllNodes s.triples values) (ws : AreNodes s.triples images)
    (i : ℕ) (lt : i < length values) (nodes : List Node) (wn : AllNodes t.triples nodes) where
  abbrev v : Node
  v = get_or values i (record { 0 = 0 })

  v-node : IsNode s.triples v.0
  v-node = each-at (λ n. IsNode s.triples n.0) values i (record { 0 = 0 }) wv lt

  put-spreads : (ls : List ℕ) → AllDepend s.triples values ls → ImagesWithin s.triples images ls → Spreads t.triples v.0 images ls ls
  put-spreads ls d within = record {
    depends = grown-depends s t st v.0 ls v-node (each-at (λ n. DependsOn s.triples n.0 ls) values i (record { 0 = 0 }) d lt);
    covers = λ l there e. there;
    images = λ l m e. grown-depends s t st m.0 ls (image-is-node images l m ws e) (within.each l m e);
  }
    where
      image-is-node : (list : Images) (l : ℕ) (m : Node) → AreNodes s.triples list → image_of list l ≡ Some m → IsNode s.triples m.0
      image-is-node [] l m h e = absurd (let d : None ≡ Some m = e in cc)
      image-is-node (p ∷ ps) l m h e = elim (cases_Bool (nat_eq l p.0)) [
        | inl same ↦
            let d : Some p.1 ≡ Some m = sym (ap (λ b. if b then Some p.1 else image_of ps l) same) ∙ e in
            let same_node : p.1 ≡ m = cc in
            subst (λ (n : Node). IsNode s.triples n.0) same_node h.0
        | inr other ↦ image-is-node ps l m h.1 (sym (ap (λ b. if b then Some p.1 else image_of ps l) other) ∙ e)
      ]

  pub put-room : ((ls : List ℕ) → AllDepend s.triples values ls → ImagesWithin s.triples images ls → AllDepend t.triples nodes ls × (length t.triples ≤ length s.triples + i * (3 * (2 ^ length ls * 2 ^ length ls)))) →
      ReplacedRoom v.0 images t u → (ls : List ℕ) → AllDepend s.triples values ls → ImagesWithin s.triples images ls → length u.triples ≤ length s.triples + (i + 1) * (3 * (2 ^ length ls * 2 ^ length ls))
  put-room before room ls d within =
      let b : length t.triples ≤ length s.triples + i * (3 * (2 ^ length ls * 2 ^ length ls)) = (before ls d within).1 in
      let m = room.most ls (put-spreads ls d within) in
      omega arith

  pub put-room-within : ((ls : List ℕ) → AllDepend s.triples values ls → ImagesWithin s.triples images ls → AllDepend t.triples nodes ls × (length t.triples ≤ length s.triples + i * (3 * (2 ^ length ls * 2 ^ length ls)))) →
      ReplacedRoom v.0 images t u → PutRoom values images s u
  put-room-within before room = record {
    most = λ ls d within.
        let b = put-room before room ls d within in
        let m : (i + 1) * (3 * (2 ^ length ls * 2 ^ length ls)) ≤ length values * (3 * (2 ^ length ls * 2 ^ length ls)) = mul-le-mul_right (3 * (2 ^ length ls * 2 ^ length ls)) (let h : i + 1 ≤ length values = omega arith in h) in
        omega arith;
  }

  module _ (n : Node) (wr : IsNode u.triples n.0) (is : StandsFor u.triples n.0 (λ a. function_of t.triples v.0 (substituted t.triples images a))) where
    abbrev K : Function → Function
    K g p = g (substituted s.triples images p)

    put-path : function_of u.triples n.0 ≡ K (function_of s.triples v.0)
    put-path = fun_ext (λ p. is.at p ∙ grown-function s t st v.0 v-node (substituted t.triples images p) ∙ ap (function_of s.triples v.0) (substituted-grown s t st images ws p))

    pub put-functions : functions_of t.triples nodes ≡ map (λ g p. g (substituted s.triples images p)) (functions_of s.triples (take i values)) →
        functions_of u.triples (nodes ++ n ∷ []) ≡ map (λ g p. g (substituted s.triples images p)) (functions_of s.triples (take (i + 1) values))
    put-functions before =
        functions-more u.triples nodes n ∙
        ap₂ (λ (l : List Function) (f : Function). l ++ f ∷ []) (functions-grown t u tu nodes wn ∙ before) put-path ∙
        sym (ap (λ l. map K (functions_of s.triples l)) (take_more values i (record { 0 = 0 }) lt) ∙ put-more s.triples K (take i values) v)

    pub put-nodes : AllNodes u.triples (nodes ++ n ∷ [])
    put-nodes = nodes-more u.triples nodes n (nodes-grown t u tu nodes wn) wr

    pub put-depend : (ls : List ℕ) → AllDepend s.triples values ls → ImagesWithin s.triples images ls → AllDepend t.triples nodes ls → AllDepend u.triples (nodes ++ n ∷ []) ls
    put-depend ls d within before =
        depend-more u.triples nodes n ls (depend-grown t u tu nodes ls wn before)
        (depends-by u.triples n.0 ls (K (function_of s.triples v.0)) put-path (λ p q h.
        only-from s.triples v.0 ls (each-at (λ n. DependsOn s.triples n.0 ls) values i (record { 0 = 0 }) d lt) (substituted s.triples images p) (substituted s.triples images q)
        (substituted-alike s.triples images ls within p q h)))

-- ---- one leaf and those that follow

module _ (s t u : Store) (st : Grows s t) (tu : Grows t u) (f c first n level : ℕ) (e : first + n ≡ level) (node : ℕ) (later : List Node) (images : Images) (wl : AllNodes s.triples later)
    (found : IsLeaf s.triples t.triples c first n f node images) where
  pub step-images : AllNodes t.triples later
  step-images = nodes-grown s t st later wl

  pub step-is : (next : List Node) → ArePutIn t.triples u.triples images later next → IsStep s.triples u.triples c first n f later node next
  step-is next put = record {
    levels = found.levels;
    are = found.are;
    is_node = grown-node t u tu node found.is_node;
    nodes = put.nodes;
    function = function-grown t u tu node found.is_node ∙ path-of t.triples node (parametric found.levels (first + n) (function_of s.triples f)) found.function;
    functions = put.functions ∙ ap (λ (l : List Function). map (λ g p. g (substituted t.triples images p)) l) (functions-grown s t st later wl) ∙
        ap (λ (K : Bits → Bits). map (λ g p. g (K p)) (functions_of s.triples later)) (fun_ext found.solve);
    within = λ ls d ds there. put.within ls (depend-grown s t st later ls wl ds) (found.within ls d there).1;
  }

  pub step-room : LeafRoom f level s t → PutRoom later images t u → StepRoom f level later s u
  step-room leaf put = record {
    most = λ ls d ds there.
        let m = leaf.most ls d there in
        let o = put.most ls (depend-grown s t st later ls wl ds) (found.within ls d (subst (IsListed ls) (sym e) there)).1 in
        omega arith;
  }

pub step-room-one : (s t : Store) (f level : ℕ) (later : List Node) → LeafRoom f level s t → StepRoom f level later s t
step-room-one s t f level later leaf = record { most = λ ls d ds there. let m = leaf.most ls d there in omega arith }

-- ---- the same list of levels under another name

pub pick-room-at : (f level : ℕ) (xs ys : List ℕ) (s t : Store) → xs ≡ ys → PickRoom f level (length xs) s t → PickRoom f level (length ys) s t
pick-room-at f level xs ys s t e r = subst (λ ls. PickRoom f level (length ls) s t) e r

pub pick-at : (ts : List Triple) (n : ℕ) (xs ys : List ℕ) (u : ℕ) (f : Function) → xs ≡ ys → StandsFor ts n (parametric xs u f) → StandsFor ts n (parametric ys u f)
pick-at ts n xs ys u f e is = subst (λ ls. StandsFor ts n (parametric ls u f)) e is

pub solution-room-at : (m : ℕ) (xs ys : List ℕ) (s t : Store) → xs ≡ ys → SolutionRoom m xs s t → SolutionRoom m ys s t
solution-room-at m xs ys s t e r = subst (λ ls. SolutionRoom m ls s t) e r

pub solution-at : (ts us : List Triple) (m : ℕ) (xs ys : List ℕ) (images : Images) → xs ≡ ys → IsSolution ts us m xs images → IsSolution ts us m ys images
solution-at ts us m xs ys images e found = subst (λ ls. IsSolution ts us m ls images) e found

pub rest-at : (ts : List Triple) (m : ℕ) (xs ys : List ℕ) → xs ≡ ys → HasRest ts m xs → HasRest ts m ys
rest-at ts m xs ys e h = subst (λ ls. HasRest ts m ls) e h

pub put-room-at : (values : List Node) (xs ys : Images) (s t : Store) → xs ≡ ys → PutRoom values xs s t → PutRoom values ys s t
put-room-at values xs ys s t e r = subst (λ (l : Images). PutRoom values l s t) e r

pub put-in-at : (ts us : List Triple) (xs ys : Images) (values next : List Node) → xs ≡ ys → ArePutIn ts us xs values next → ArePutIn ts us ys values next
put-in-at ts us xs ys values next e p = subst (λ (l : Images). ArePutIn ts us l values next) e p
