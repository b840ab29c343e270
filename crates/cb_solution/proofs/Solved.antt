-- The solution, one level after another.
use Rattle.std.proofs.Common.{◌≡◌, ◌⊎◌, inl, inr, ℕ, zero, suc, ◌+◌, ◌<◌, Bool, true, false, ◌||◌, List, [], ◌∷◌, ◌++◌, length, map, nat_eq, get_or, Option, Some, None, if◌then◌else◌, refl, sym, ap, ◌∙◌, arith, length-append}
use Rattle.std.proofs.lemmas.Bool.{cases_Bool, cases_eq, cases_lt, eq-eqb, eqb-true}
use Rattle.std.proofs.lemmas.List.{get_or_append_left}
use Rattle.std.proofs.lemmas.List.Folds.{list_any-append}
use Rattle.std.proofs.Math.Seq.{get_or-append_seam}
use Rattle.std.specs.List.{list_any}
use Rattle.std.specs.List.Sorted.{IsStrictlyIncreasing}
use Rattle.std.specs.Option.{option_map_or}
use Rattle.cb_model.specs.Bits.{Bits, put}
use Rattle.cb_dd.specs.declared.Triple.{Triple}
use Rattle.cb_dd.specs.declared.Node.{Node}
use Rattle.cb_dd.specs.Diagram.{IsDiagram, IsNode, function_of}
use Rattle.cb_dd.proofs.Diagrams.{function_of-one, kind_of, bottom, top, inner, node-within, function_of-lo, function_of-hi}
use Rattle.cb_ops.specs.Ops.{StandsFor, DependsOn, Agree}
use Rattle.cb_ops.specs.Support.{IsListed}
use Rattle.cb_ops.specs.Substitute.{Images, AreNodes, substituted, image_of}
use Rattle.cb_ops.proofs.Gather.{agree-at}
use Rattle.cb_boole.specs.Elimination.{Function, DependsOnly}

-- ---- lists of levels

or-true : (b : Bool) → b || true ≡ true
or-true true = refl
or-true false = refl

or-false : (b : Bool) → b || false ≡ b
or-false true = refl
or-false false = refl

pub listed-here : (l : ℕ) (ls : List ℕ) → IsListed (l ∷ ls) l
listed-here l ls = ap (λ b. b || list_any (nat_eq l) ls) (eq-eqb l l refl)

pub listed-there : (l k : ℕ) (ls : List ℕ) → IsListed ls k → IsListed (l ∷ ls) k
listed-there l k ls h = ap (λ b. nat_eq k l || b) h ∙ or-true (nat_eq k l)

-- a listed level is the first, or listed among the others
pub listed-cases : (l k : ℕ) (ls : List ℕ) → IsListed (l ∷ ls) k → (k ≡ l) ⊎ IsListed ls k
listed-cases l k ls h = elim (cases_Bool (nat_eq k l)) [
  | inl same ↦ inl (eqb-true k l same)
  | inr other ↦ inr (sym (ap (λ b. b || list_any (nat_eq k) ls) other) ∙ h)
]

pub listed-at : (xs : List ℕ) (k : ℕ) → k < length xs → IsListed xs (get_or xs k 0)
listed-at [] k h = absurd (omega arith)
listed-at (x ∷ xs) zero h = listed-here x xs
listed-at (x ∷ xs) (suc k) h = listed-there x (get_or xs k 0) xs (listed-at xs k (omega arith))

pub listed-append : (xs ys : List ℕ) (k : ℕ) → IsListed (xs ++ ys) k → IsListed xs k ⊎ IsListed ys k
listed-append xs ys k h = elim (cases_Bool (list_any (nat_eq k) xs)) [
  | inl there ↦ inl there
  | inr not_there ↦ inr (sym (ap (λ b. b || list_any (nat_eq k) ys) not_there) ∙ sym (list_any-append (nat_eq k) xs ys) ∙ h)
]

-- a greater number at the end
pub rising-more : (xs : List ℕ) (l : ℕ) → IsStrictlyIncreasing xs → ((k : ℕ) → IsListed xs k → k < l) → IsStrictlyIncreasing (xs ++ l ∷ [])
rising-more xs l rise below k h = elim (cases_lt (k + 1) (length xs)) [
  | inl less ↦
      let e : get_or (xs ++ l ∷ []) k 0 ≡ get_or xs k 0 = get_or_append_left xs (l ∷ []) 0 k (omega arith) in
      let d : get_or (xs ++ l ∷ []) (k + 1) 0 ≡ get_or xs (k + 1) 0 = get_or_append_left xs (l ∷ []) 0 (k + 1) less in
      let r : get_or xs k 0 < get_or xs (k + 1) 0 = rise k less in
      omega arith
  | inr more ↦
      let n : k + 1 ≡ length xs = omega (arith, length-append xs (l ∷ [])) in
      let e : get_or (xs ++ l ∷ []) k 0 ≡ get_or xs k 0 = get_or_append_left xs (l ∷ []) 0 k (omega arith) in
      let d : get_or (xs ++ l ∷ []) (k + 1) 0 ≡ l = ap (λ j. get_or (xs ++ l ∷ []) j 0) n ∙ get_or-append_seam xs l [] 0 in
      let r : get_or xs k 0 < l = below (get_or xs k 0) (listed-at xs k (omega arith)) in
      omega arith
]

pub agree-from : (ks : List ℕ) (p q : Bits) → ((l : ℕ) → IsListed ks l → p l ≡ q l) → Agree ks p q
agree-from [] p q h = tt
agree-from (k ∷ ks) p q h = (h k (listed-here k ks), agree-from ks p q (λ l there. h l (listed-there k l ks there)))

-- that a node depends on the levels of a list alone, said of its function
pub only-from : (ts : List Triple) (n : ℕ) (ls : List ℕ) → DependsOn ts n ls → DependsOnly (IsListed ls) (function_of ts n)
only-from ts n ls d p q h = d.agrees p q (agree-from ls p q h)

pub only-into : (ts : List Triple) (n : ℕ) (ls : List ℕ) (f : Function) → StandsFor ts n f → DependsOnly (IsListed ls) f → DependsOn ts n ls
only-into ts n ls f is only = record { agrees = λ a b h. is.at a ∙ only a b (λ l there. agree-at ls a b h l there) ∙ sym (is.at b) }

-- ---- a node other than 0 is 1 somewhere

module _ (ts : List Triple) (is : IsDiagram ts) where
  somewhere : (fuel n : ℕ) → n < fuel → IsNode ts n → (n ≡ 0 → ⊥) → (a : Bits) × (function_of ts n a ≡ true)
  somewhere zero n h w some = absurd (omega arith)
  somewhere (suc fuel) n h w some = elim (kind_of ts n w) [
    | bottom e ↦ absurd (some e)
    | top e ↦ ((λ l. false), ap (λ m. function_of ts m (λ l. false)) e ∙ function_of-one ts (λ l. false))
    | inner k t e at ↦
        let o = is.ordered k t at in
        let v = node-within ts is k t at in
        elim (cases_eq t.lo 0) [
          | inl z ↦
              let nz : t.hi ≡ 0 → ⊥ = λ (y : t.hi ≡ 0). o.differ (z ∙ sym y) in
              let hi_less : t.hi < k + 2 = o.hi in
              let r = somewhere fuel t.hi (omega arith) v.2 nz in
              (put t.level true r.0, ap (λ m. function_of ts m (put t.level true r.0)) e ∙ function_of-hi ts is k t at r.0 ∙ r.1)
          | inr nz ↦
              let lo_less : t.lo < k + 2 = o.lo in
              let r = somewhere fuel t.lo (omega arith) v.1 nz in
              (put t.level false r.0, ap (λ m. function_of ts m (put t.level false r.0)) e ∙ function_of-lo ts is k t at r.0 ∙ r.1)
        ]
  ]

  pub somewhere-one : (f : ℕ) → IsNode ts f → (f ≡ 0 → ⊥) → (a : Bits) × (function_of ts f a ≡ true)
  somewhere-one f w some = somewhere (suc f) f (omega arith) w some

-- ---- the images at an assignment

pub cases-image : (o : Option Node) → ((m : Node) × (o ≡ Some m)) ⊎ (o ≡ None)
cases-image (Some m) = inl (m, refl)
cases-image None = inr refl

pub at-some : (ts : List Triple) (list : Images) (a : Bits) (l : ℕ) (m : Node) → image_of list l ≡ Some m → substituted ts list a l ≡ function_of ts m.0 a
at-some ts list a l m e = ap (λ o. option_map_or (λ n. function_of ts n.0 a) o (a l)) e

pub at-none : (ts : List Triple) (list : Images) (a : Bits) (l : ℕ) → image_of list l ≡ None → substituted ts list a l ≡ a l
at-none ts list a l e = ap (λ o. option_map_or (λ n. function_of ts n.0 a) o (a l)) e

-- ---- one level more

pub image-first : (xs : Images) (l : ℕ) (n : Node) (k : ℕ) (m : Node) → image_of xs k ≡ Some m → image_of (xs ++ (l, n) ∷ []) k ≡ Some m
image-first [] l n k m e = absurd (let d : None ≡ Some m = e in cc)
image-first (x ∷ xs) l n k m e = elim (cases_Bool (nat_eq k x.0)) [
  | inl same ↦
      let d : Some x.1 ≡ Some m = sym (ap (λ b. if b then Some x.1 else image_of xs k) same) ∙ e in
      ap (λ b. if b then Some x.1 else image_of (xs ++ (l, n) ∷ []) k) same ∙ d
  | inr other ↦
      ap (λ b. if b then Some x.1 else image_of (xs ++ (l, n) ∷ []) k) other ∙ image-first xs l n k m (sym (ap (λ b. if b then Some x.1 else image_of xs k) other) ∙ e)
]

pub image-last : (xs : Images) (l : ℕ) (n : Node) (k : ℕ) → image_of xs k ≡ None → image_of (xs ++ (l, n) ∷ []) k ≡ (if nat_eq k l then Some n else None)
image-last [] l n k e = refl
image-last (x ∷ xs) l n k e = elim (cases_Bool (nat_eq k x.0)) [
  | inl same ↦ absurd (let d : Some x.1 ≡ None = sym (ap (λ b. if b then Some x.1 else image_of xs k) same) ∙ e in cc)
  | inr other ↦
      ap (λ b. if b then Some x.1 else image_of (xs ++ (l, n) ∷ []) k) other ∙ image-last xs l n k (sym (ap (λ b. if b then Some x.1 else image_of xs k) other) ∙ e)
]

-- a level with an image is among the images' levels
pub image-listed : (xs : Images) (k : ℕ) (m : Node) → image_of xs k ≡ Some m → IsListed (map (λ i. i.0) xs) k
image-listed [] k m e = absurd (let d : None ≡ Some m = e in cc)
image-listed (x ∷ xs) k m e = elim (cases_Bool (nat_eq k x.0)) [
  | inl same ↦ ap (λ b. b || list_any (nat_eq k) (map (λ i. i.0) xs)) same
  | inr other ↦ listed-there x.0 k (map (λ i. i.0) xs) (image-listed xs k m (sym (ap (λ b. if b then Some x.1 else image_of xs k) other) ∙ e))
]

pub nodes-more : (ts : List Triple) (xs : Images) (l : ℕ) (n : Node) → AreNodes ts xs → IsNode ts n.0 → AreNodes ts (xs ++ (l, n) ∷ [])
nodes-more ts [] l n h w = (w, tt)
nodes-more ts (x ∷ xs) l n h w = (h.0, nodes-more ts xs l n h.1 w)
