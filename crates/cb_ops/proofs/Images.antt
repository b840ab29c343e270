-- The node that replaces a level, in a list whose levels rise.
use Rattle.std.proofs.Common.{◌≡◌, ℕ, zero, suc, ◌<◌, ◌≤◌, true, false, ltb, [], ◌∷◌, map, length, get_or, slice_get, ◌-◌, None, Some, if◌then◌else◌, refl, sym, ap, ◌∙◌, inl, inr, arith}
use Rattle.std.proofs.lemmas.Bool.{cases_lt, eq-eqb, ne_eqb, ltb-true, ltb-false}
use Rattle.std.proofs.lemmas.Option.{same_Some, slice_get_within, slice_get-get_or}
use Rattle.std.proofs.lemmas.List.{length-map}
use Rattle.std.proofs.lemmas.List.Kept.{AllPairs-from_increasing}
use Rattle.std.specs.List.{AllPairs}
use Rattle.std.specs.List.Sorted.{IsStrictlyIncreasing, IsNonDecreasingBy, IsPartitionPoint}
use Rattle.cb_dd.specs.declared.Node.{Node}
use Rattle.cb_ops.specs.Substitute.{Images, image_of}

nothing : ℕ × Node
nothing = (0, record { 0 = 0 })

key-at : (list : Images) (k : ℕ) (d : ℕ × Node) → k < length list → get_or (map (λ p. p.0) list) k 0 ≡ (get_or list k d).0
key-at [] k d h = absurd (omega arith)
key-at (p ∷ ps) zero d h = refl
key-at (p ∷ ps) (suc k) d h = key-at ps k d (omega arith)

rising : (list : Images) → IsStrictlyIncreasing (map (λ p. p.0) list) → (i j : ℕ) (d : ℕ × Node) → i < j → j < length list → (get_or list i d).0 < (get_or list j d).0
rising list h i j d lt within =
    let all : AllPairs (λ (x y : ℕ). x < y) (map (λ p. p.0) list) = AllPairs-from_increasing (map (λ p. p.0) list) h in
    let long : length (map (λ p. p.0) list) ≡ length list = length-map list (λ p. p.0) in
    let e : get_or (map (λ p. p.0) list) i 0 ≡ (get_or list i d).0 = key-at list i d (omega arith) in
    let g : get_or (map (λ p. p.0) list) j 0 ≡ (get_or list j d).0 = key-at list j d within in
    let s = all i j 0 lt (omega arith) in
    omega arith

pub rising-keys : (list : Images) → IsStrictlyIncreasing (map (λ p. p.0) list) → IsNonDecreasingBy (λ p. p.0) list
rising-keys list h = λ i j d le within. elim (cases_lt i j) [
  | inl lt ↦ let s = rising list h i j d lt within in omega arith
  | inr ge ↦ let e : i ≡ j = omega arith in let g : (get_or list i d).0 ≡ (get_or list j d).0 = ap (λ k. (get_or list k d).0) e in omega arith
]

-- the first entry that isn't below the level is the one that replaces it
image-first : (list : Images) (i level : ℕ) (x d : ℕ × Node) → ((k : ℕ) → k < i → (get_or list k d).0 < level) → i < length list → x ≡ get_or list i d → x.0 ≡ level → image_of list level ≡ Some x.1
image-first [] i level x d below h e same = absurd (omega arith)
image-first (p ∷ ps) zero level x d below h e same =
    ap (λ b. if b then Some p.1 else image_of ps level) (eq-eqb level p.0 (sym same ∙ ap (λ y. y.0) e)) ∙ ap (λ y. Some y.1) (sym e)
image-first (p ∷ ps) (suc i) level x d below h e same =
    let lt : p.0 < level = below 0 (omega arith) in
    let ne : level ≡ p.0 → ⊥ = λ (q : level ≡ p.0). omega arith in
    ap (λ b. if b then Some p.1 else image_of ps level) (ne_eqb level p.0 ne) ∙ image-first ps i level x d (λ k q. below (suc k) (omega arith)) (omega arith) e same

image-none : (list : Images) (level : ℕ) (d : ℕ × Node) → ((k : ℕ) → k < length list → (get_or list k d).0 ≡ level → ⊥) → image_of list level ≡ None
image-none [] level d none = refl
image-none (p ∷ ps) level d none =
    ap (λ b. if b then Some p.1 else image_of ps level) (ne_eqb level p.0 (λ q. none 0 (omega arith) (sym q))) ∙ image-none ps level d (λ k h. none (suc k) (omega arith))

-- no level behind the last one is replaced
pub behind-none : (list : Images) → IsStrictlyIncreasing (map (λ p. p.0) list) → (x : ℕ × Node) (level : ℕ) → slice_get list (length list - 1) ≡ Some x → x.0 < level → (l : ℕ) → level ≤ l → image_of list l ≡ None
behind-none list rise x level e lt l le =
    let within : length list - 1 < length list = slice_get_within list (length list - 1) x e in
    let last : get_or list (length list - 1) x ≡ x = same_Some _ _ (sym (slice_get-get_or list (length list - 1) x within) ∙ e) in
    let top : (get_or list (length list - 1) x).0 ≡ x.0 = ap (λ y. y.0) last in
    image-none list l x (λ k q same. elim (cases_lt k (length list - 1)) [
      | inl less ↦ let s = rising list rise k (length list - 1) x less within in omega arith
      | inr more ↦ let i : k ≡ length list - 1 = omega arith in let z : (get_or list k x).0 ≡ (get_or list (length list - 1) x).0 = ap (λ m. (get_or list m x).0) i in omega arith
    ])

module _ (list : Images) (rise : IsStrictlyIncreasing (map (λ p. p.0) list)) (i level : ℕ) (point : IsPartitionPoint (λ p. ltb p.0 level ≡ true) (λ p. ltb p.0 level ≡ false) list i) where
  below : (k : ℕ) (d : ℕ × Node) → k < i → (get_or list k d).0 < level
  below k d h = ltb-true (get_or list k d).0 level (point.0 k d (omega arith) h)

  pub found-at : (x : ℕ × Node) → i < length list → x ≡ get_or list i x → x.0 ≡ level → image_of list level ≡ Some x.1
  found-at x h e same = image-first list i level x x (λ k q. below k x q) h e same

  pub past-end : length list ≤ i → image_of list level ≡ None
  past-end h = image-none list level nothing (λ k q e. let lt = below k nothing (omega arith) in omega arith)

  pub passed-over : (x : ℕ × Node) → i < length list → x ≡ get_or list i x → (x.0 ≡ level → ⊥) → image_of list level ≡ None
  passed-over x h e other = image-none list level x (λ k q same. elim (cases_lt k i) [
    | inl lt ↦ let b = below k x lt in omega arith
    | inr ge ↦
        let at : level ≤ (get_or list i x).0 = ltb-false (get_or list i x).0 level (point.1 i x (omega arith) h) in
        let here : x.0 ≡ (get_or list i x).0 = ap (λ y. y.0) e in
        elim (cases_lt i k) [
          | inl less ↦ let s = rising list rise i k x less q in omega arith
          | inr more ↦ let s : i ≡ k = omega arith in let z : (get_or list i x).0 ≡ (get_or list k x).0 = ap (λ m. (get_or list m x).0) s in other (omega arith)
        ]
  ])
