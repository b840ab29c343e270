-- The images on the way back, from stages of any function.
use Rattle.std.proofs.Common.{◌≡◌, ◌⊎◌, inl, inr, ℕ, zero, suc, ◌+◌, ◌-◌, ◌*◌, ◌<◌, ◌≤◌, ◌^◌, true, false, List, [], ◌∷◌, ◌++◌, length, map, take, drop, get_or, nat_eq, Some, None, if◌then◌else◌, refl, sym, ap, ap₂, subst, ◌∙◌, arith}
use Rattle.std.proofs.lemmas.Bool.{cases_eq, cases_Bool, eq-eqb, ne_eqb, true≢false}
use Rattle.std.proofs.lemmas.List.{map-append, drop_more}
use Rattle.std.proofs.Math.Nat.{mul-le-mul_right}
use Rattle.std.proofs.Math.Path.{fun_ext}
use Rattle.std.specs.List.Sorted.{IsStrictlyIncreasing}
use Rattle.cb_model.specs.Bits.{Bits, put, xor}
use Rattle.cb_dd.specs.declared.Node.{Node}
use Rattle.cb_dd.specs.declared.Triple.{Triple}
use Rattle.cb_dd.specs.Diagram.{Store, IsNode, function_of}
use Rattle.cb_dd.proofs.Diagrams.{function_of-zero}
use Rattle.cb_ops.specs.Ops.{Grows, DependsOn}
use Rattle.cb_ops.specs.Support.{IsListed}
use Rattle.cb_ops.specs.Substitute.{Images, AreNodes, substituted, image_of}
use Rattle.cb_ops.specs.Composed.{AreLower}
use Rattle.cb_ops.proofs.Ite.{grown-function, grown-node, grown-depends, Grows-then, Grows-same, put-same, put-other}
use Rattle.cb_ops.proofs.Substitute.{image-node, grown-nodes}
use Rattle.cb_boole.specs.Elimination.{Function, both, mended, rest, solved}
use Rattle.cb_boole.proofs.One.{mended_keeps}
use Rattle.cb_boole.proofs.Chain.{rest_false, solved_keeps, solved_sound}
use Rattle.cb_solution.specs.Solution.{IsFalling, IsImage, ImageRoom, ImagesWithin}
use Rattle.cb_solution.specs.Parts.{AreParts, AreStages, PartsDepend, Solves, StagesRoom}
use Rattle.cb_solution.proofs.Lower.{solved-free}
use Rattle.cb_solution.proofs.Solved.{at-none, at-some, cases-image, image-first, image-last, image-listed, listed-append, listed-at, listed-cases, listed-here, listed-there, nodes-more, only-from, only-into, rising-more}
use Rattle.cb_solution.proofs.Loops.{rest-next, drop-none, drop-falls}

-- ---- what solves

pub solves-lower : (ts : List Triple) (f : Function) (levels : List ℕ) (images : Images) → IsFalling levels → Solves ts f levels images → AreLower ts images
solves-lower ts f levels images falls sol = record {
  free = λ l k m n e g less a b.
      sym (at-some ts images (put k b a) l m e)
      ∙ ap (λ (q : Bits). q l) (sol.at (put k b a))
      ∙ solved-free levels falls f l k less (sol.within k (image-listed images k n g)) a b
      ∙ sym (ap (λ (q : Bits). q l) (sol.at a))
      ∙ at-some ts images a l m e;
}

-- the greatest level has no image yet
pub solves-fresh : (ts : List Triple) (f : Function) (level : ℕ) (lower : List ℕ) (images : Images) → IsFalling (level ∷ lower) → Solves ts f lower images → image_of images level ≡ None
solves-fresh ts f level lower images falls sol = elim (cases-image (image_of images level)) [
  | inl h ↦ absurd (let w : level < level = falls.0 level (sol.within level (image-listed images level h.0 h.1)) in omega (arith, w))
  | inr e ↦ e
]

-- ---- one level more

module _ (u v : Store) (uv : Grows u v) (f : Function) (level : ℕ) (lower : List ℕ) (falls : IsFalling (level ∷ lower)) (images : Images) (found : Solves u.triples (both level f) lower images) where
  nothing-left : (p : Bits) → both level f (substituted u.triples images p) ≡ false
  nothing-left p = ap (λ (q : Bits). both level f q) (found.at p) ∙ solved_sound lower (both level f) p (found.none_left p)

  fresh : image_of images level ≡ None
  fresh = solves-fresh u.triples (both level f) level lower images falls found

  module _ (n : ℕ) (agree : (p : Bits) → both level f p ≡ false → function_of u.triples n p ≡ f p) (node : Node) (wn : IsNode v.triples node.0) (is_node : IsImage u.triples v.triples n level images node.0) where
    image-value : (p : Bits) → function_of v.triples node.0 p ≡ xor (f (substituted u.triples images p)) (substituted u.triples images p level)
    image-value p = is_node.at p ∙ ap (λ b. xor b (substituted u.triples images p level)) (agree (substituted u.triples images p) (nothing-left p))

    put-in : (p : Bits) (k : ℕ) → (k ≡ level) ⊎ (k ≡ level → ⊥) →
        substituted v.triples (images ++ (level, node) ∷ []) p k ≡ put level (xor (f (substituted u.triples images p)) (substituted u.triples images p level)) (substituted u.triples images p) k
    put-in p k (inl same) =
        at-some v.triples (images ++ (level, node) ∷ []) p k node
        (image-last images level node k (ap (image_of images) same ∙ fresh) ∙ ap (λ b. if b then Some node else None) (eq-eqb k level same))
        ∙ image-value p
        ∙ sym (put-same (substituted u.triples images p) level k (xor (f (substituted u.triples images p)) (substituted u.triples images p level)) same)
    put-in p k (inr other) = elim (cases-image (image_of images k)) [
      | inl h ↦
          at-some v.triples (images ++ (level, node) ∷ []) p k h.0 (image-first images level node k h.0 h.1)
          ∙ grown-function u v uv h.0.0 (image-node u.triples images k h.0 found.nodes h.1) p
          ∙ sym (at-some u.triples images p k h.0 h.1)
          ∙ sym (put-other (substituted u.triples images p) level (xor (f (substituted u.triples images p)) (substituted u.triples images p level)) k other)
      | inr e ↦
          at-none v.triples (images ++ (level, node) ∷ []) p k (image-last images level node k e ∙ ap (λ b. if b then Some node else None) (ne_eqb k level other))
          ∙ sym (at-none u.triples images p k e)
          ∙ sym (put-other (substituted u.triples images p) level (xor (f (substituted u.triples images p)) (substituted u.triples images p level)) k other)
    ]

    pub solves-more : Solves v.triples f (level ∷ lower) (images ++ (level, node) ∷ [])
    unfolding rest solved mended
    solves-more = record {
      rise = subst IsStrictlyIncreasing (sym (map-append (λ i. i.0) images ((level, node) ∷ [])))
          (rising-more (map (λ i. i.0) images) level found.rise (λ k there. falls.0 k (found.within k there)));
      within = λ l there. within l (listed-append (map (λ i. i.0) images) (level ∷ []) l (subst (λ xs. IsListed xs l) (map-append (λ i. i.0) images ((level, node) ∷ [])) there));
      nodes = nodes-more v.triples images level node (grown-nodes u v uv images found.nodes) wn;
      at = λ p.
          fun_ext (λ k. put-in p k (cases_eq k level))
          ∙ ap (λ (q : Bits). put level (xor (f q) (q level)) q) (found.at p);
      none_left = found.none_left;
    }
      where
        within : (l : ℕ) → IsListed (map (λ i. i.0) images) l ⊎ IsListed (level ∷ []) l → IsListed (level ∷ lower) l
        within l (inl there) = listed-there level l lower (found.within l there)
        within l (inr here) = elim (listed-cases level l [] here) [
          | inl same ↦ subst (λ k. IsListed (level ∷ lower) k) (sym same) (listed-here level lower)
          | inr none ↦ absurd (true≢false (sym none))
        ]

-- a level at which nothing is turned
pub solves-skip : (ts : List Triple) (f : Function) (level : ℕ) (lower : List ℕ) (images : Images) → Solves ts (both level f) lower images → ((p : Bits) → both level f p ≡ false → f p ≡ false) → Solves ts f (level ∷ lower) images
unfolding rest solved
solves-skip ts f level lower images found still = record {
  rise = found.rise;
  within = λ l there. listed-there level l lower (found.within l there);
  nodes = found.nodes;
  at = λ p.
      found.at p
      ∙ sym (mended_keeps level f (solved lower (both level f) p) (still (solved lower (both level f) p) (solved_sound lower (both level f) p (found.none_left p))));
  none_left = found.none_left;
}

-- ---- on which levels the images depend

substituted-alike : (ts : List Triple) (images : Images) (ls : List ℕ) → ImagesWithin ts images ls → (p q : Bits) → ((l : ℕ) → IsListed ls l → p l ≡ q l) → (k : ℕ) → IsListed ls k → substituted ts images p k ≡ substituted ts images q k
substituted-alike ts images ls w p q h k there = elim (cases-image (image_of images k)) [
  | inl i ↦ at-some ts images p k i.0 i.1 ∙ only-from ts i.0.0 ls (w.each k i.0 i.1) p q h ∙ sym (at-some ts images q k i.0 i.1)
  | inr e ↦ at-none ts images p k e ∙ h k there ∙ sym (at-none ts images q k e)
]

module _ (u v : Store) (uv : Grows u v) (images : Images) (ws : AreNodes u.triples images) (ls : List ℕ) (w : ImagesWithin u.triples images ls) where
  image-depends : (n level : ℕ) → DependsOn u.triples n ls → IsListed ls level → (r : ℕ) → IsImage u.triples v.triples n level images r → DependsOn v.triples r ls
  image-depends n level d there r is =
      only-into v.triples r ls (λ p. xor (function_of u.triples n (substituted u.triples images p)) (substituted u.triples images p level)) (record { at = λ p. is.at p }) (λ p q h.
      ap₂ xor
      (only-from u.triples n ls d (substituted u.triples images p) (substituted u.triples images q) (λ l m. substituted-alike u.triples images ls w p q h l m))
      (substituted-alike u.triples images ls w p q h level there))

  within-grown : (l : ℕ) (m : Node) → image_of images l ≡ Some m → DependsOn v.triples m.0 ls
  within-grown l m e = grown-depends u v uv m.0 ls (image-node u.triples images l m ws e) (w.each l m e)

  within-more : (level : ℕ) (node : Node) → image_of images level ≡ None → DependsOn v.triples node.0 ls → ImagesWithin v.triples (images ++ (level, node) ∷ []) ls
  within-more level node none d = record {
    each = λ l m e. elim (cases-image (image_of images l)) [
      | inl h ↦
          let first : image_of (images ++ (level, node) ∷ []) l ≡ Some h.0 = image-first images level node l h.0 h.1 in
          subst (λ (o : Node). DependsOn v.triples o.0 ls) (let same : Some h.0 ≡ Some m = sym first ∙ e in cc) (within-grown l h.0 h.1)
      | inr a ↦ last l m (sym (image-last images level node l a) ∙ e) (cases_Bool (nat_eq l level))
    ];
  }
    where
      last : (l : ℕ) (m : Node) → (if nat_eq l level then Some node else None) ≡ Some m → (nat_eq l level ≡ true) ⊎ (nat_eq l level ≡ false) → DependsOn v.triples m.0 ls
      last l m e (inl same) = subst (λ (o : Node). DependsOn v.triples o.0 ls) (let same2 : Some node ≡ Some m = sym (ap (λ b. if b then Some node else None) same) ∙ e in cc) d
      last l m e (inr other) = absurd (let none2 : None ≡ Some m = sym (ap (λ b. if b then Some node else None) other) ∙ e in cc)

-- ---- the loop

pub next-number : (k : ℕ) → 0 < k → k ≡ k - 1 + 1
next-number k pos = omega (arith, pos)

part-at : (ts : List Triple) (ns : List Node) (k : ℕ) (d : Node) → AreParts ts ns → k < length ns → IsNode ts (get_or ns k d).0
part-at ts [] k d w h = absurd (omega arith)
part-at ts (n ∷ ns) zero d w h = w.0
part-at ts (n ∷ ns) (suc k) d w h = part-at ts ns k d w.1 (omega arith)

pub part-depends : (ts : List Triple) (ns : List Node) (ls : List ℕ) (k : ℕ) (d : Node) → PartsDepend ts ns ls → k < length ns → DependsOn ts (get_or ns k d).0 ls
part-depends ts [] ls k d w h = absurd (omega arith)
part-depends ts (n ∷ ns) ls zero d w h = w.0
part-depends ts (n ∷ ns) ls (suc k) d w h = part-depends ts ns ls k d w.1 (omega arith)

-- the images of all levels but the first so many
pub record ImagesSo (i : ℕ) (f : Function) (levels : List ℕ) (ns : List Node) (s u : Store) (images : Images) : Type 0 where
  pub grows : Grows s u
  pub sol : Solves u.triples (rest (take i levels) f) (drop i levels) images
  pub depend : (ls : List ℕ) → PartsDepend s.triples ns ls → ((l : ℕ) → IsListed levels l → IsListed ls l) → ImagesWithin u.triples images ls
  pub done : ℕ
  pub few : done + i ≡ length ns
  pub most : (ls : List ℕ) → PartsDepend s.triples ns ls → ((l : ℕ) → IsListed levels l → IsListed ls l) → length u.triples ≤ length s.triples + done * (2 * 2 ^ length ls + 2 ^ length ls * 2 ^ length ls)
  pub fulls : u.fulls ≡ s.fulls

pub images-first : (f : Function) (levels : List ℕ) (s : Store) (ns : List Node) → AreStages s.triples f levels ns → ImagesSo (length ns) f levels ns s s []
images-first f levels s ns st = record {
  grows = Grows-same s;
  sol = record {
    rise = λ k h. absurd (omega arith);
    within = λ l h. absurd (true≢false (sym h));
    nodes = tt;
    at = λ p. sym (solved_keeps (drop (length ns) levels) (rest (take (length ns) levels) f) p (st.end p));
    none_left = λ p. rest_false (drop (length ns) levels) (rest (take (length ns) levels) f) p (st.end p);
  };
  depend = λ ls d all. record { each = λ l m e. absurd (let x : None ≡ Some m = e in cc) };
  done = 0;
  few = omega arith;
  most = λ ls d all. omega arith;
  fulls = refl;
}

module _ (i : ℕ) (f : Function) (levels : List ℕ) (ns : List Node) (s u : Store) (images : Images) (st : AreStages s.triples f levels ns) (ws : AreParts s.triples ns) (fall : IsFalling levels) (so : ImagesSo (i + 1) f levels ns s u images) where
  level : ℕ
  level = get_or levels i 0

  less : i < length ns
  less = let h = so.few in omega arith

  within-levels : i < length levels
  within-levels = let h = st.few in let k = so.few in omega arith

  next : rest (take (i + 1) levels) f ≡ both (get_or levels i 0) (rest (take i levels) f)
  next = rest-next levels i f within-levels

  splits : drop i levels ≡ get_or levels i 0 ∷ drop (i + 1) levels
  splits = drop_more levels i 0 within-levels

  falls : IsFalling (get_or levels i 0 ∷ drop (i + 1) levels)
  falls = subst IsFalling splits (drop-falls i levels fall)

  before : Solves u.triples (both (get_or levels i 0) (rest (take i levels) f)) (drop (i + 1) levels) images
  before = subst (λ (g : Function). Solves u.triples g (drop (i + 1) levels) images) next so.sol

  pub images-lower : AreLower u.triples images
  images-lower = solves-lower u.triples (rest (take (i + 1) levels) f) (drop (i + 1) levels) images (drop-falls (i + 1) levels fall) so.sol

  pub images-fresh : image_of images (get_or levels i 0) ≡ None
  images-fresh = solves-fresh u.triples (both (get_or levels i 0) (rest (take i levels) f)) (get_or levels i 0) (drop (i + 1) levels) images falls before

  pub images-nodes : AreNodes u.triples images
  images-nodes = so.sol.nodes

  pub images-rise : IsStrictlyIncreasing (map (λ i. i.0) images)
  images-rise = so.sol.rise

  module _ (d : Node) where
    pub image-there : IsNode u.triples (get_or ns i d).0
    image-there = grown-node s u so.grows (get_or ns i d).0 (part-at s.triples ns i d ws less)

    agree : (p : Bits) → both (get_or levels i 0) (rest (take i levels) f) p ≡ false → function_of u.triples (get_or ns i d).0 p ≡ rest (take i levels) f p
    agree p none =
        grown-function s u so.grows (get_or ns i d).0 (part-at s.triples ns i d ws less) p
        ∙ st.at i d less p (ap (λ (g : Function). g p) next ∙ none)

    -- nothing is turned at this level
    pub images-skip : (get_or ns i d).0 ≡ 0 → ImagesSo i f levels ns s u images
    images-skip none-turned = record {
      grows = so.grows;
      sol = subst (λ (ls : List ℕ). Solves u.triples (rest (take i levels) f) ls images) (sym splits)
          (solves-skip u.triples (rest (take i levels) f) (get_or levels i 0) (drop (i + 1) levels) images before
          (λ p none. sym (agree p none) ∙ ap (λ n. function_of u.triples n p) none-turned ∙ function_of-zero u.triples p));
      depend = so.depend;
      done = so.done + 1;
      few = let h = so.few in omega arith;
      most = λ ls e all. let m = so.most ls e all in more (length u.triples) (length s.triples) so.done (2 * 2 ^ length ls + 2 ^ length ls * 2 ^ length ls) m;
      fulls = so.fulls;
    }
      where
        more : (n m k x : ℕ) → n ≤ m + k * x → n ≤ m + (k + 1) * x
        more n m k x h = let e : (k + 1) * x ≡ k * x + x = grind arith in omega (arith, h, e)

    module _ (v : Store) (uv : Grows u v) (room : ImageRoom (get_or ns i d).0 (get_or levels i 0) images u v) where
      most-images : (ls : List ℕ) → PartsDepend s.triples ns ls → ((l : ℕ) → IsListed levels l → IsListed ls l) → length v.triples ≤ length s.triples + (so.done + 1) * (2 * 2 ^ length ls + 2 ^ length ls * 2 ^ length ls)
      most-images ls e all =
          let m = so.most ls e all in
          let r = room.most ls
          (grown-depends s u so.grows (get_or ns i d).0 ls (part-at s.triples ns i d ws less) (part-depends s.triples ns ls i d e less))
          (all (get_or levels i 0) (listed-at levels i within-levels))
          (so.depend ls e all) in
          more (length v.triples) (length u.triples) (length s.triples) so.done (2 * 2 ^ length ls + 2 ^ length ls * 2 ^ length ls) m r
        where
          more : (v u s k x : ℕ) → u ≤ s + k * x → v ≤ u + x → v ≤ s + (k + 1) * x
          more v u s k x h g = let e : (k + 1) * x ≡ k * x + x = grind arith in omega (arith, h, g, e)

      pub images-stop : StagesRoom ns levels s v
      images-stop = record { most = λ ls e all. let m = most-images ls e all in let p = mul-le-mul_right {m = so.done + 1} {n = length ns} (2 * 2 ^ length ls + 2 ^ length ls * 2 ^ length ls) (let h = so.few in omega arith) in omega (arith, m, p) }

      pub images-next : (image : Node) → IsNode v.triples image.0 → IsImage u.triples v.triples (get_or ns i d).0 (get_or levels i 0) images image.0 → v.fulls ≡ u.fulls →
          (more : Images) → more ≡ images ++ (get_or levels i 0, image) ∷ [] → ImagesSo i f levels ns s v more
      images-next image wi is_image fulls more pushed = subst (λ (xs : Images). ImagesSo i f levels ns s v xs) (sym pushed) (record {
        grows = Grows-then s u v so.grows uv;
        sol = subst (λ (ls : List ℕ). Solves v.triples (rest (take i levels) f) ls (images ++ (get_or levels i 0, image) ∷ [])) (sym splits)
            (solves-more u v uv (rest (take i levels) f) (get_or levels i 0) (drop (i + 1) levels) falls images before (get_or ns i d).0 agree image wi is_image);
        depend = λ ls e all. within-more u v uv images so.sol.nodes ls (so.depend ls e all) (get_or levels i 0) image images-fresh
            (image-depends u v uv images so.sol.nodes ls (so.depend ls e all) (get_or ns i d).0 (get_or levels i 0)
            (grown-depends s u so.grows (get_or ns i d).0 ls (part-at s.triples ns i d ws less) (part-depends s.triples ns ls i d e less))
            (all (get_or levels i 0) (listed-at levels i within-levels)) image.0 is_image);
        done = so.done + 1;
        few = let h = so.few in omega arith;
        most = most-images;
        fulls = fulls ∙ so.fulls;
      })

pub images-end : (f : Function) (levels : List ℕ) (ns : List Node) (s u : Store) (images : Images) → ImagesSo 0 f levels ns s u images → Solves u.triples f levels images
unfolding rest
images-end f levels ns s u images so =
    subst (λ (ls : List ℕ). Solves u.triples f ls images) (drop-none levels) (subst (λ (g : Function). Solves u.triples g (drop 0 levels) images) (ap (λ xs. rest xs f) (take-none levels)) so.sol)
  where
    take-none : (ls : List ℕ) → take 0 ls ≡ []
    take-none [] = refl
    take-none (l ∷ ls) = refl

pub images-room : (i : ℕ) (f : Function) (levels : List ℕ) (ns : List Node) (s u : Store) (images : Images) → ImagesSo i f levels ns s u images → StagesRoom ns levels s u
images-room i f levels ns s u images so = record { most = λ ls e all. let m = so.most ls e all in let p = mul-le-mul_right {m = so.done} {n = length ns} (2 * 2 ^ length ls + 2 ^ length ls * 2 ^ length ls) (let h = so.few in omega arith) in omega (arith, m, p) }
