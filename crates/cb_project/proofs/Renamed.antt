-- Leaves whose values are a parametric form already.
use Rattle.std.proofs.Common.{◌≡◌, ℕ, zero, suc, ◌+◌, ◌-◌, ◌*◌, ◌<◌, ◌≤◌, ◌^◌, Bool, true, false, cond, if◌then◌else◌, nat_eq, List, [], ◌∷◌, ◌++◌, map, length, take, slice_get, Some, None, refl, sym, ap, ap₂, ◌∙◌, subst, arith}
use Rattle.std.proofs.lemmas.List.{take_all}
use Rattle.std.proofs.lemmas.Option.{same_Some}
use Rattle.std.proofs.Math.Path.{fun_ext}
use Rattle.std.proofs.Math.Nat.{mul-le-mul_left}
use Rattle.std.proofs.lemmas.Nat.{pow_pos}
use Rattle.std.specs.Map.{lookup}
use Rattle.std.specs.Option.{option_map_or}
use Rattle.std.specs.List.Sorted.{IsStrictlyIncreasing}
use Rattle.cb_model.specs.Bits.{Bits, numbers_from}
use Rattle.cb_dd.specs.declared.Triple.{Triple}
use Rattle.cb_dd.specs.declared.Node.{Node}
use Rattle.cb_dd.specs.Diagram.{Store, IsNode, function_of}
use Rattle.cb_ops.specs.Ops.{Grows, StandsFor}
use Rattle.cb_ops.specs.Support.{IsListed}
use Rattle.cb_ops.specs.Substitute.{Images, AreNodes, image_of, substituted}
use Rattle.cb_dd.proofs.Diagrams.{function_of-zero, function_of-one}
use Rattle.cb_ops.proofs.Ite.{grown-function, grown-node}
use Rattle.cb_boole.specs.Elimination.{Function}
use Rattle.cb_boole.specs.Form.{named}
use Rattle.cb_boole.specs.Parametric.{Reaches, values_at}
use Rattle.cb_model.specs.Answers.{Gen}
use Rattle.cb_boole.specs.Stages.{AreOwn}
use Rattle.cb_solution.specs.Solution.{ImagesWithin}
use Rattle.cb_solution.proofs.Solved.{only-into}
use Rattle.cb_project.specs.Leaves.{functions_of, AllNodes, AllDepend, AreParametric, ArePutIn, PutRoom, ParametricRoom}
use Rattle.cb_project.specs.Renaming.{Entries, names_in, AreImages, IsRenaming}
use Rattle.cb_project.proofs.Levels.{listed-right}
use Rattle.cb_project.proofs.Nodes.{depend-grown}
use Rattle.cb_project.proofs.Whole.{all_levels, length-all, depend-all, listed-number, length-functions}
use Rattle.cb_boole.proofs.Bounds.{four_next}

take_next : (es : Entries) (i : ℕ) (e : ℕ × ℕ) → slice_get es i ≡ Some e → take (i + 1) es ≡ take i es ++ e ∷ []
take_next [] i e at = absurd (let d : None ≡ Some e = at in cc)
take_next (x ∷ es) zero e at = let same : x ≡ e = same_Some x e at in ap (λ y. y ∷ []) same
take_next (x ∷ es) (suc i) e at =
    let m : suc i + 1 ≡ suc (i + 1) = omega arith in
    ap (λ k. take k (x ∷ es)) m ∙ ap (λ l. x ∷ l) (take_next es i e at)

-- ---- the images of the levels

pub bit-is : (old new : Store) (n level : ℕ) → ((a : Bits) → function_of new.triples n a ≡ (if a level then function_of old.triples 1 a else function_of old.triples 0 a)) → StandsFor new.triples n (λ p. p level)
bit-is old new n level h = record { at = λ p. h p ∙ by p (p level) }
  where
    by : (p : Bits) (b : Bool) → (if b then function_of old.triples 1 p else function_of old.triples 0 p) ≡ b
    by p true = function_of-one old.triples p
    by p false = function_of-zero old.triples p

pub images-more : (ts : List Triple) (es : Entries) (is : Images) (e : ℕ × ℕ) (i : ℕ × Node) → AreImages ts es is → i.0 ≡ e.0 → IsNode ts i.1.0 → StandsFor ts i.1.0 (λ p. p e.1) →
    AreImages ts (es ++ e ∷ []) (is ++ i ∷ [])
images-more ts [] [] e i all same node is-bit = (same, node, is-bit, tt)
images-more ts (x ∷ es) (y ∷ is) e i all same node is-bit = (all.0, all.1, all.2, images-more ts es is e i all.3 same node is-bit)
images-more ts [] (y ∷ is) e i all same node is-bit = absurd all
images-more ts (x ∷ es) [] e i all same node is-bit = absurd all

pub images-grown : (s t : Store) → Grows s t → (es : Entries) (is : Images) → AreImages s.triples es is → AreImages t.triples es is
images-grown s t g [] [] all = tt
images-grown s t g (e ∷ es) (i ∷ is) all =
    (all.0, grown-node s t g i.1.0 all.1, record { at = λ p. grown-function s t g i.1.0 all.1 p ∙ all.2.at p }, images-grown s t g es is all.3)
images-grown s t g [] (i ∷ is) all = absurd all
images-grown s t g (e ∷ es) [] all = absurd all

-- one level more
pub images-next : (s t : Store) → Grows s t → (es : Entries) (i : ℕ) (is all : Images) (e : ℕ × ℕ) (l : ℕ) (n : Node) → slice_get es i ≡ Some e → AreImages s.triples (take i es) is →
    all ≡ is ++ (l, n) ∷ [] → l ≡ e.0 → IsNode t.triples n.0 → StandsFor t.triples n.0 (λ p. p e.1) → AreImages t.triples (take (i + 1) es) all
images-next s t g es i is all e l n at before next same node bit =
    subst (λ xs. AreImages t.triples (take (i + 1) es) xs) (sym next)
    (subst (λ xs. AreImages t.triples xs (is ++ (l, n) ∷ [])) (sym (take_next es i e at))
    (images-more t.triples (take i es) is e (l, n) (images-grown s t g (take i es) is before) same node bit))

pub images-all : (ts : List Triple) (es : Entries) (i : ℕ) (is : Images) → length es ≤ i → AreImages ts (take i es) is → AreImages ts es is
images-all ts es i is le all = subst (λ xs. AreImages ts xs is) (take_all i es le) all

pub images-nodes : (ts : List Triple) (es : Entries) (is : Images) → AreImages ts es is → AreNodes ts is
images-nodes ts [] [] all = tt
images-nodes ts (e ∷ es) (i ∷ is) all = (all.1, images-nodes ts es is all.3)
images-nodes ts [] (i ∷ is) all = absurd all
images-nodes ts (e ∷ es) [] all = absurd all

images-keys : (ts : List Triple) (es : Entries) (is : Images) → AreImages ts es is → map (λ i. i.0) is ≡ map (λ e. e.0) es
images-keys ts [] [] all = refl
images-keys ts (e ∷ es) (i ∷ is) all = ap₂ ◌∷◌ all.0 (images-keys ts es is all.3)
images-keys ts [] (i ∷ is) all = absurd all
images-keys ts (e ∷ es) [] all = absurd all

pub images-rise : (ts : List Triple) (es : Entries) (is : Images) → AreImages ts es is → IsStrictlyIncreasing (map (λ e. e.0) es) → IsStrictlyIncreasing (map (λ i. i.0) is)
images-rise ts es is all rise = subst IsStrictlyIncreasing (sym (images-keys ts es is all)) rise

-- putting the images in gives each level its parameter's bit
image-bit : (ts : List Triple) (es : Entries) (is : Images) → AreImages ts es is → (p : Bits) (l : ℕ) → substituted ts is p l ≡ named (names_in es) p l
image-bit ts [] [] all p l = refl
image-bit ts (e ∷ es) (i ∷ is) all p l =
    ap (λ k. option_map_or (λ n. function_of ts n.0 p) (cond (nat_eq l k) (Some i.1) (image_of is l)) (p l)) all.0 ∙ by (nat_eq l e.0) (image-bit ts es is all.3 p l)
  where
    by : (b : Bool) → substituted ts is p l ≡ named (names_in es) p l →
        option_map_or (λ n. function_of ts n.0 p) (cond b (Some i.1) (image_of is l)) (p l) ≡ option_map_or p (cond b (Some e.1) (lookup (nat_eq l) es)) (p l)
    by true next = all.2.at p
    by false next = next
image-bit ts [] (i ∷ is) all p l = absurd all
image-bit ts (e ∷ es) [] all p l = absurd all

pub images-point : (ts : List Triple) (es : Entries) (is : Images) → AreImages ts es is → (p : Bits) → substituted ts is p ≡ named (names_in es) p
images-point ts es is all p = fun_ext (λ l. image-bit ts es is all p l)

-- an image is the bit of a parameter
image-of-name : (ts : List Triple) (es : Entries) (is : Images) → AreImages ts es is → (l : ℕ) (n : Node) → image_of is l ≡ Some n →
    (v : ℕ) × (names_in es l ≡ Some v) × StandsFor ts n.0 (λ p. p v)
image-of-name ts [] [] all l n h = absurd (none h)
  where
    none : None ≡ Some n → ⊥
    none h = cc
image-of-name ts (e ∷ es) (i ∷ is) all l n h = by (nat_eq l e.0) refl (ap (λ k. cond (nat_eq l k) (Some i.1) (image_of is l)) (sym all.0) ∙ h) (λ w. image-of-name ts es is all.3 l n w)
  where
    by : (b : Bool) → nat_eq l e.0 ≡ b → cond (nat_eq l e.0) (Some i.1) (image_of is l) ≡ Some n →
        (image_of is l ≡ Some n → (v : ℕ) × (names_in es l ≡ Some v) × StandsFor ts n.0 (λ p. p v)) →
        (v : ℕ) × (cond (nat_eq l e.0) (Some e.1) (lookup (nat_eq l) es) ≡ Some v) × StandsFor ts n.0 (λ p. p v)
    by true d w next =
        let m : Some i.1 ≡ Some n = sym (ap (λ b. cond b (Some i.1) (image_of is l)) d) ∙ w in
        let same : i.1 ≡ n = (cc) in
        (e.1, ap (λ b. cond b (Some e.1) (lookup (nat_eq l) es)) d, subst (λ (k : Node). StandsFor ts k.0 (λ p. p e.1)) same all.2)
    by false d w next =
        let r = next (sym (ap (λ b. cond b (Some i.1) (image_of is l)) d) ∙ w) in
        (r.0, ap (λ b. cond b (Some e.1) (lookup (nat_eq l) es)) d ∙ r.1, r.2)
image-of-name ts [] (i ∷ is) all l n h = absurd all
image-of-name ts (e ∷ es) [] all l n h = absurd all

-- ---- the nodes with the images put in

length-map-values : (K : Function → Function) (fs : List Function) → length (map K fs) ≡ length fs
length-map-values K [] = refl
length-map-values K (f ∷ fs) = ap suc (length-map-values K fs)

values-map : (q : Bits → Bits) (fs : List Function) (p : Bits) → values_at (map (λ g p. g (q p)) fs) p ≡ values_at fs (q p)
values-map q [] p = refl
values-map q (f ∷ fs) p = ap (λ l. f (q p) ∷ l) (values-map q fs p)

functions-through : (s t : Store) → Grows s t → (ns : List Node) → AllNodes s.triples ns → functions_of t.triples ns ≡ functions_of s.triples ns
functions-through s t g [] w = refl
functions-through s t g (n ∷ ns) w = ap₂ ◌∷◌ (fun_ext (λ p. grown-function s t g n.0 w.0 p)) (functions-through s t g ns w.1)

renamed-sum : (m w q : ℕ) → 0 < q → m + m * (3 * q) < 64 * (m + 1) * (w + 1) * (4 * q)
renamed-sum m w q pos =
    let a : m * 1 ≤ m * q = mul-le-mul_left m pos in
    let d : ((m + 1) * q) * 1 ≤ ((m + 1) * q) * (w + 1) = mul-le-mul_left ((m + 1) * q) (let h : 1 ≤ w + 1 = omega arith in h) in
    omega arith

module _ (s t : Store) (c first : ℕ) (values : List Node) (es : Entries) (renaming : IsRenaming c first (functions_of s.triples values) es) where
  few-entries : length es ≤ length values
  few-entries = let m : length (functions_of s.triples values) ≡ length values = length-functions s.triples values in omega (arith, renaming.few, m)

  within-bound : (ls : List ℕ) → (n : ℕ) → n ≤ length s.triples + length values + length values * (3 * (2 ^ (length ls + length values) * 2 ^ (length ls + length values))) →
      n < length s.triples + 64 * (length values + 1) * (length ls + length values + 1) * 4 ^ (length ls + length values + 1)
  within-bound ls n h =
      let w : ℕ = length ls + length values in
      let e : 4 ^ (length ls + length values + 1) ≡ 4 * (2 ^ (length ls + length values) * 2 ^ (length ls + length values)) = four_next (length ls + length values) in
      let p : 0 < 2 ^ (length ls + length values) = pow_pos (length ls + length values) in
      let o : 2 ^ (length ls + length values) * 1 ≤ 2 ^ (length ls + length values) * 2 ^ (length ls + length values) = mul-le-mul_left (2 ^ (length ls + length values)) p in
      let pos : 0 < 2 ^ (length ls + length values) * 2 ^ (length ls + length values) = omega arith in
      let b = renamed-sum (length values) (length ls + length values) (2 ^ (length ls + length values) * 2 ^ (length ls + length values)) pos in
      let g : n < length s.triples + 64 * (length values + 1) * (length ls + length values + 1) * (4 * (2 ^ (length ls + length values) * 2 ^ (length ls + length values))) = omega (arith, b, h) in
      subst (λ x. n < length s.triples + 64 * (length values + 1) * (length ls + length values + 1) * x) (sym e) g

  pub room-parameters : length t.triples ≤ length s.triples + length es → ParametricRoom values s t
  room-parameters few = record { most = λ ls d. within-bound ls (length t.triples) (let f = few-entries in omega (arith, few, f)) }

module _ (s t u : Store) (st : Grows s t) (c first : ℕ) (values : List Node) (es : Entries) (is : Images) (nodes : AllNodes s.triples values)
    (renaming : IsRenaming c first (functions_of s.triples values) es) (images : AreImages t.triples es is) where
  abbrev K : Function → Function
  K g = λ p. g (named (names_in es) p)

  module _ (next : List Node) (put : ArePutIn t.triples u.triples is values next) where
    renamed-functions : functions_of u.triples next ≡ map K (functions_of s.triples values)
    renamed-functions =
        put.functions ∙ ap (λ fs. map (λ g p. g (substituted t.triples is p)) fs) (functions-through s t st values nodes) ∙
        ap (λ (q : Bits → Bits). map (λ g p. g (q p)) (functions_of s.triples values)) (fun_ext (λ p. images-point t.triples es is images p))

    pub renamed-as-many : length next ≡ length values
    renamed-as-many =
        sym (length-functions u.triples next) ∙ ap length renamed-functions ∙ length-map-values K (functions_of s.triples values) ∙ length-functions s.triples values

    pub renamed-parametric : AreParametric c first (functions_of s.triples values) (functions_of u.triples next)
    renamed-parametric p =
        let m : length (functions_of s.triples values) ≡ length (functions_of u.triples next) = sym (length-map-values K (functions_of s.triples values)) ∙ ap length (sym renamed-functions) in
        let v : values_at (functions_of s.triples values) (named (names_in es) p) ≡ values_at (functions_of u.triples next) p = sym (values-map (named (names_in es)) (functions_of s.triples values) p) ∙ ap (λ fs. values_at fs p) (sym renamed-functions) in
        subst (λ n. Gen (Reaches c (functions_of s.triples values) p) [] (map p (numbers_from first n)) (values_at (functions_of u.triples next) p)) m
        (subst (λ zs. Gen (Reaches c (functions_of s.triples values) p) [] (map p (numbers_from first (length (functions_of s.triples values)))) zs) v (renaming.form p))

    pub renamed-own : AreOwn c first 0 (functions_of u.triples next)
    renamed-own = subst (AreOwn c first 0) (sym renamed-functions) renaming.own

  images-within : (ls : List ℕ) → ImagesWithin t.triples is (all_levels ls first (length values))
  images-within ls = record {
    each = λ l n h.
        let w = image-of-name t.triples es is images l n h in
        let b = renaming.parameter l w.0 w.1 in
        let m : length (functions_of s.triples values) ≡ length values = length-functions s.triples values in
        only-into t.triples n.0 (all_levels ls first (length values)) (λ p. p w.0) w.2
        (λ p q alike. alike w.0 (listed-right ls (numbers_from first (length values)) w.0 (at w.0 b.0 (omega (arith, b.1, m)))));
  }
    where
      at : (v : ℕ) → first ≤ v → v < first + length values → IsListed (numbers_from first (length values)) v
      at v low high =
          let e : first + (v - first) ≡ v = omega (arith, low) in
          subst (IsListed (numbers_from first (length values))) e (listed-number first (length values) (v - first) (omega (arith, low, high)))

  pub renamed-room : length t.triples ≤ length s.triples + length es → PutRoom values is t u → ParametricRoom values s u
  renamed-room few room = record {
    most = λ ls d.
        let dd : AllDepend t.triples values (all_levels ls first (length values)) = depend-grown s t st values (all_levels ls first (length values)) nodes (depend-all s.triples values ls (numbers_from first (length values)) d) in
        let r : length u.triples ≤ length t.triples + length values * (3 * (2 ^ (length ls + length values) * 2 ^ (length ls + length values))) =
        subst (λ w. length u.triples ≤ length t.triples + length values * (3 * (2 ^ w * 2 ^ w))) (length-all ls first (length values)) (room.most (all_levels ls first (length values)) dd (images-within ls)) in
        within-bound s t c first values es renaming ls (length u.triples) (let f = few-entries s t c first values es renaming in omega (arith, few, f, r));
  }
