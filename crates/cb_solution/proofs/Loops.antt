-- Elimination level by level, and the images on the way back.
use Rattle.std.proofs.Common.{◌≡◌, ◌⊎◌, inl, inr, ℕ, zero, suc, ◌+◌, ◌*◌, ◌<◌, ◌≤◌, ◌^◌, List, [], ◌∷◌, ◌++◌, length, take, drop, get_or, refl, sym, ap, subst, ◌∙◌, arith, length-append}
use Rattle.std.proofs.lemmas.Bool.{cases_eq}
use Rattle.std.proofs.lemmas.List.{take_more, get_or_append_left}
use Rattle.std.proofs.Math.Seq.{get_or-append_seam, take-length}
use Rattle.std.proofs.Math.Nat.{mul-le-mul_right}
use Rattle.std.proofs.Math.Path.{fun_ext}
use Rattle.cb_dd.specs.declared.Node.{Node}
use Rattle.cb_dd.specs.declared.Triple.{Triple}
use Rattle.cb_dd.specs.Diagram.{Store, IsDiagram, IsNode, function_of}
use Rattle.cb_dd.proofs.Diagrams.{function_of-zero}
use Rattle.cb_ops.specs.Ops.{Grows, StandsFor, Room, DependsOn}
use Rattle.cb_ops.specs.Support.{IsListed}
use Rattle.cb_ops.specs.Substitute.{Images}
use Rattle.cb_ops.proofs.Ite.{grown-function, grown-node, grown-depends, Grows-then, Grows-same}
use Rattle.cb_boole.specs.Elimination.{Function, both, rest, solved, DependsOnly}
use Rattle.cb_boole.proofs.Only.{both_only}
use Rattle.cb_solution.specs.Solution.{AreRests, IsFalling, IsSolution, HasRest, RestsRoom, SolutionRoom}
use Rattle.cb_solution.specs.Parts.{AreParts, AreStages, PartsDepend, Solves, StagesRoom}
use Rattle.cb_solution.proofs.Solved.{listed-there, only-from, only-into, somewhere-one}

-- ---- rests of the first levels

rest-last : (ls : List ℕ) (l : ℕ) (f : Function) → rest (ls ++ l ∷ []) f ≡ both l (rest ls f)
unfolding rest
rest-last [] l f = refl
rest-last (k ∷ ls) l f = rest-last ls l (both k f)

pub rest-next : (ls : List ℕ) (k : ℕ) (f : Function) → k < length ls → rest (take (k + 1) ls) f ≡ both (get_or ls k 0) (rest (take k ls) f)
rest-next ls k f h = ap (λ xs. rest xs f) (take_more ls k 0 h) ∙ rest-last (take k ls) (get_or ls k 0) f

pub rest-only : (P : ℕ → Type 0) (ls : List ℕ) (f : Function) → DependsOnly P f → DependsOnly P (rest ls f)
unfolding rest
rest-only P [] f d = d
rest-only P (l ∷ ls) f d = rest-only P ls (both l f) (both_only P l f d)

-- what is left after the first levels and then after the others
pub rest-split : (ls : List ℕ) (k : ℕ) (f : Function) → rest (drop k ls) (rest (take k ls) f) ≡ rest ls f
unfolding rest
rest-split [] zero f = refl
rest-split [] (suc k) f = refl
rest-split (l ∷ ls) zero f = refl
rest-split (l ∷ ls) (suc k) f = rest-split ls k (both l f)

-- a node that stands for what is left
module _ (s t : Store) (st : Grows s t) (f n : ℕ) (wf : IsNode s.triples f) (levels : List ℕ) where
  same-function : function_of t.triples f ≡ function_of s.triples f
  same-function = fun_ext (λ a. grown-function s t st f wf a)

  pub rest-still : IsNode s.triples n → StandsFor s.triples n (rest levels (function_of s.triples f)) → StandsFor t.triples n (rest levels (function_of t.triples f))
  rest-still wn is = record { at = λ a. grown-function s t st n wn a ∙ is.at a ∙ ap (λ g. rest levels g a) (sym same-function) }

pub rest-depends : (ts : List Triple) (f n : ℕ) (levels ls : List ℕ) → StandsFor ts n (rest levels (function_of ts f)) → DependsOn ts f ls → DependsOn ts n ls
rest-depends ts f n levels ls is d = only-into ts n ls (rest levels (function_of ts f)) is (rest-only (IsListed ls) levels (function_of ts f) (only-from ts f ls d))

-- ---- the first loop

-- so many levels are eliminated
pub record RestsSo (i f : ℕ) (levels : List ℕ) (s t : Store) (ns : List Node) (left : ℕ) : Type 0 where
  pub grows : Grows s t
  pub number : length ns ≡ i
  pub nodes : (k : ℕ) (d : Node) → k < length ns → IsNode t.triples (get_or ns k d).0
  pub at : (k : ℕ) (d : Node) → k < length ns → StandsFor t.triples (get_or ns k d).0 (rest (take k levels) (function_of t.triples f))
  pub left_node : IsNode t.triples left
  pub is_left : StandsFor t.triples left (rest (take i levels) (function_of t.triples f))
  pub most : (ls : List ℕ) → DependsOn s.triples f ls → length t.triples ≤ length s.triples + i * (3 * 2 ^ length ls)
  pub fulls : t.fulls ≡ s.fulls

pub rests-first : (f : ℕ) (levels : List ℕ) (s : Store) → IsNode s.triples f → RestsSo 0 f levels s s [] f
unfolding rest
rests-first f levels s wf = record {
  grows = Grows-same s;
  number = refl;
  nodes = λ k d h. absurd (omega arith);
  at = λ k d h. absurd (omega arith);
  left_node = wf;
  is_left = record { at = λ a. refl };
  most = λ ls d. omega arith;
  fulls = refl;
}

module _ (i f : ℕ) (levels : List ℕ) (s t u : Store) (ns : List Node) (left : Node) (wf : IsNode s.triples f) (so : RestsSo i f levels s t ns left.0) (tu : Grows t u) where
  wt : IsNode t.triples f
  wt = grown-node s t so.grows f wf

  node-more : (k : ℕ) (d : Node) → k < length (ns ++ left ∷ []) → (k ≡ length ns) ⊎ (k ≡ length ns → ⊥) → (get_or (ns ++ left ∷ []) k d ≡ left) × (k ≡ i) ⊎ (k < length ns) × (get_or (ns ++ left ∷ []) k d ≡ get_or ns k d)
  node-more k d h (inl e) = inl (ap (λ j. get_or (ns ++ left ∷ []) j d) e ∙ get_or-append_seam ns left [] d, e ∙ so.number)
  node-more k d h (inr ne) = let less : k < length ns = omega (arith, length-append ns (left ∷ [])) in inr (less, get_or_append_left ns (left ∷ []) d k less)

  module _ (room : Room (left.0 ∷ []) 3 t u) where
    pub most-more : (ls : List ℕ) → DependsOn s.triples f ls → length u.triples ≤ length s.triples + (i + 1) * (3 * 2 ^ length ls)
    most-more ls d =
        let m = so.most ls d in
        let r = room.most ls (rest-depends t.triples f left.0 (take i levels) ls so.is_left (grown-depends s t so.grows f ls wf d), tt) in
        omega arith

    pub rests-next : (next : ℕ) → i < length levels → IsNode u.triples next → StandsFor u.triples next (both (get_or levels i 0) (function_of t.triples left.0)) → u.fulls ≡ t.fulls →
        (ms : List Node) → ms ≡ ns ++ left ∷ [] → RestsSo (i + 1) f levels s u ms next
    rests-next next less wn is fulls ms pushed = subst (λ (xs : List Node). RestsSo (i + 1) f levels s u xs next) (sym pushed) (record {
      grows = Grows-then s t u so.grows tu;
      number = let e = so.number in omega (arith, length-append ns (left ∷ []));
      nodes = λ k d h. elim (node-more k d h (cases_eq k (length ns))) [
        | inl w ↦ subst (λ (n : Node). IsNode u.triples n.0) (sym w.0) (grown-node t u tu left.0 so.left_node)
        | inr w ↦ subst (λ (n : Node). IsNode u.triples n.0) (sym w.1) (grown-node t u tu (get_or ns k d).0 (so.nodes k d w.0))
      ];
      at = λ k d h. elim (node-more k d h (cases_eq k (length ns))) [
        | inl w ↦ subst (λ (n : Node). StandsFor u.triples n.0 (rest (take k levels) (function_of u.triples f))) (sym w.0)
            (subst (λ j. StandsFor u.triples left.0 (rest (take j levels) (function_of u.triples f))) (sym w.1) (rest-still t u tu f left.0 wt (take i levels) so.left_node so.is_left))
        | inr w ↦ subst (λ (n : Node). StandsFor u.triples n.0 (rest (take k levels) (function_of u.triples f))) (sym w.1)
            (rest-still t u tu f (get_or ns k d).0 wt (take k levels) (so.nodes k d w.0) (so.at k d w.0))
      ];
      left_node = wn;
      is_left = record {
        at = λ a.
            is.at a
            ∙ ap (λ g. both (get_or levels i 0) g a) (fun_ext (λ b. so.is_left.at b) ∙ ap (λ g. rest (take i levels) g) (sym (same-function t u tu f next wt levels)))
            ∙ sym (ap (λ (g : Function). g a) (rest-next levels i (function_of u.triples f) less));
      };
      most = most-more;
      fulls = fulls ∙ so.fulls;
    })

-- the bound, at any of the exits
scaled : (n i j k x : ℕ) → k ≤ n + i * (3 * x) → i ≤ j → k ≤ n + j * (3 * x)
scaled n i j k x h le = let p : i * (3 * x) ≤ j * (3 * x) = mul-le-mul_right (3 * x) le in omega arith

module _ (i f : ℕ) (levels : List ℕ) (s t : Store) (ns : List Node) (left : Node) (so : RestsSo i f levels s t ns left.0) (few : i ≤ length levels) where
  pub rests-room : RestsRoom f levels s t
  rests-room = record { most = λ ls d. scaled (length s.triples) i (length levels) (length t.triples) (2 ^ length ls) (so.most ls d) few }

  pub rests-end : ((left.0 ≡ 0 → ⊥) → i ≡ length levels) → AreRests t.triples f levels ns left.0
  rests-end all = record {
    few = let e = so.number in omega arith;
    all = λ ne. so.number ∙ all ne;
    nodes = so.nodes;
    at = so.at;
    last_node = so.left_node;
    end = subst (λ j. StandsFor t.triples left.0 (rest (take j levels) (function_of t.triples f))) (sym so.number) so.is_left;
  }

pub rests-stop : (i f : ℕ) (levels : List ℕ) (s t u : Store) (ns : List Node) (left : Node) (wf : IsNode s.triples f) (so : RestsSo i f levels s t ns left.0) (tu : Grows t u) → i < length levels → Room (left.0 ∷ []) 3 t u → RestsRoom f levels s u
rests-stop i f levels s t u ns left wf so tu less room = record {
  most = λ ls d. scaled (length s.triples) (i + 1) (length levels) (length u.triples) (2 ^ length ls) (most-more i f levels s t u ns left wf so tu room ls d) (omega arith);
}

-- ---- the second loop

pub drop-none : {A : Type 0} → (ls : List A) → drop 0 ls ≡ ls
drop-none [] = refl
drop-none (l ∷ ls) = refl

pub drop-listed : (i : ℕ) (ls : List ℕ) (l : ℕ) → IsListed (drop i ls) l → IsListed ls l
drop-listed zero [] l h = h
drop-listed zero (k ∷ ls) l h = h
drop-listed (suc i) [] l h = h
drop-listed (suc i) (k ∷ ls) l h = listed-there k l ls (drop-listed i ls l h)

pub drop-falls : (i : ℕ) (ls : List ℕ) → IsFalling ls → IsFalling (drop i ls)
drop-falls zero [] f = f
drop-falls zero (k ∷ ls) f = f
drop-falls (suc i) [] f = f
drop-falls (suc i) (k ∷ ls) f = drop-falls i ls f.1

-- ---- both

take-all : (ls : List ℕ) (n : ℕ) → n ≡ length ls → take n ls ≡ ls
take-all ls n e = ap (λ k. take k ls) e ∙ take-length ls

-- what is left is left of f
pub rests-rest : (s t : Store) → Grows s t → IsDiagram t.triples → (f : ℕ) (levels : List ℕ) (ns : List Node) (left : ℕ) → IsNode s.triples f → AreRests t.triples f levels ns left → (left ≡ 0 → ⊥) → HasRest s.triples f levels
rests-rest s t st is f levels ns left wf r some =
    let w = somewhere-one t.triples is left r.last_node some in
    record {
      at = w.0;
      left =
          ap (λ g. rest levels g w.0) (fun_ext (λ a. sym (grown-function s t st f wf a)))
          ∙ ap (λ xs. rest xs (function_of t.triples f) w.0) (sym (take-all levels (length ns) (r.all some)))
          ∙ sym (r.end.at w.0) ∙ w.1;
    }

-- ---- the stages of one equation

parts-from : (ts : List Triple) (ns : List Node) → ((k : ℕ) (d : Node) → k < length ns → IsNode ts (get_or ns k d).0) → AreParts ts ns
parts-from ts [] h = tt
parts-from ts (n ∷ ns) h = (h 0 n (omega arith), parts-from ts ns (λ k d less. h (suc k) d (omega (arith, less))))

depend-from : (ts : List Triple) (ns : List Node) (ls : List ℕ) → ((k : ℕ) (d : Node) → k < length ns → DependsOn ts (get_or ns k d).0 ls) → PartsDepend ts ns ls
depend-from ts [] ls h = tt
depend-from ts (n ∷ ns) ls h = (h 0 n (omega arith), depend-from ts ns ls (λ k d less. h (suc k) d (omega (arith, less))))

pub rests-parts : (ts : List Triple) (f : ℕ) (levels : List ℕ) (ns : List Node) (last : ℕ) → AreRests ts f levels ns last → AreParts ts ns
rests-parts ts f levels ns last r = parts-from ts ns r.nodes

pub rests-stages : (ts : List Triple) (f : ℕ) (levels : List ℕ) (ns : List Node) (last : ℕ) → AreRests ts f levels ns last → last ≡ 0 → AreStages ts (function_of ts f) levels ns
rests-stages ts f levels ns last r e = record {
  few = r.few;
  at = λ k d less p none. (r.at k d less).at p;
  end = λ p. sym (r.end.at p) ∙ ap (λ n. function_of ts n p) e ∙ function_of-zero ts p;
}

module _ (s t u : Store) (st : Grows s t) (tu : Grows t u) (f : ℕ) (wf : IsNode s.triples f) (levels : List ℕ) where
  pub solution-is : (images : Images) → Solves u.triples (function_of t.triples f) levels images → IsSolution s.triples u.triples f levels images
  solution-is images sol = record {
    rise = sol.rise;
    within = sol.within;
    nodes = sol.nodes;
    at = λ p. sol.at p ∙ ap (λ h. solved levels h p) (fun_ext (λ a. grown-function s t st f wf a));
    none_left = λ p. ap (λ h. rest levels h p) (fun_ext (λ a. sym (grown-function s t st f wf a))) ∙ sol.none_left p;
  }

  pub solution-room : (ns : List Node) (last : ℕ) → AreRests t.triples f levels ns last → RestsRoom f levels s t → StagesRoom ns levels t u → SolutionRoom f levels s u
  solution-room ns last r first second = record {
    most = λ ls d all.
        let m = first.most ls d in
        let e = depend-from t.triples ns ls (λ k o less. rest-depends t.triples f (get_or ns k o).0 (take k levels) ls (r.at k o less) (grown-depends s t st f ls wf d)) in
        let n = second.most ls e all in
        let few = mul-le-mul_right {m = length ns} {n = length levels} (2 * 2 ^ length ls + 2 ^ length ls * 2 ^ length ls) r.few in
        total (length s.triples) (length t.triples) (length u.triples) (length levels) (length ns * (2 * 2 ^ length ls + 2 ^ length ls * 2 ^ length ls)) (2 ^ length ls) (2 ^ length ls * 2 ^ length ls) m n few;
  }
    where
      total : (s t u l k x y : ℕ) → t ≤ s + l * (3 * x) → u ≤ t + k → k ≤ l * (2 * x + y) → u ≤ s + l * (5 * x + y)
      total s t u l k x y a b c = let e : l * (5 * x + y) ≡ l * (3 * x) + l * (2 * x + y) = grind arith in omega (arith, a, b, c, e)

pub first-room : (s t : Store) (f : ℕ) (levels : List ℕ) → RestsRoom f levels s t → SolutionRoom f levels s t
first-room s t f levels first = record { most = λ ls d all. let m = first.most ls d in omega arith }
