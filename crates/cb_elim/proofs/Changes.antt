-- The changes that an equation makes, and the way back.
use Rattle.std.proofs.Common.{◌≡◌, inl, inr, ℕ, zero, suc, ◌+◌, ◌<◌, ◌≤◌, true, false, List, [], ◌∷◌, ◌++◌, length, get_or, nat_eq, if◌then◌else◌, refl, sym, ap, ◌∙◌, arith, length-append, append_assoc}
use Rattle.std.specs.Prelude.{slice_set}
use Rattle.std.proofs.lemmas.Bool.{cases_Bool, eqb-true, eq-eqb}
use Rattle.cb_model.specs.Bits.{Each}
use Rattle.cb_dd.specs.declared.Node.{Node}
use Rattle.cb_elim.specs.declared.Change.{Change}
use Rattle.cb_elim.specs.Moments.{change_at, changes_from, undone}

set-seam : (xs ys : List Node) (n v : Node) → slice_set (xs ++ n ∷ ys) (length xs) v ≡ xs ++ v ∷ ys
set-seam [] ys n v = refl
set-seam (x ∷ xs) ys n v = ap (λ zs. x ∷ zs) (set-seam xs ys n v)

same-node : (n v : Node) → nat_eq n.0 v.0 ≡ true → v ≡ n
same-node n v e = λ i. record { 0 = sym (eqb-true n.0 v.0 e) i }

-- taking the changes back gives the first values
pub undone-from : (xs ns vs : List Node) → length ns ≡ length vs → undone (changes_from (length xs) ns vs) (xs ++ vs) ≡ xs ++ ns
undone-from xs [] [] h = refl
undone-from xs [] (v ∷ vs) h = absurd (omega arith)
undone-from xs (n ∷ ns) [] h = absurd (omega arith)
undone-from xs (n ∷ ns) (v ∷ vs) h =
    let next : (w : Node) → undone (changes_from (suc (length xs)) ns vs) (xs ++ w ∷ vs) ≡ xs ++ w ∷ ns
    = λ w. ap (λ zs. undone (changes_from (suc (length xs)) ns vs) zs) (sym (append_assoc xs (w ∷ []) vs))
    ∙ ap (λ k. undone (changes_from k ns vs) ((xs ++ w ∷ []) ++ vs)) (let e : suc (length xs) ≡ length (xs ++ w ∷ []) = omega (arith, length-append xs (w ∷ [])) in e)
    ∙ undone-from (xs ++ w ∷ []) ns vs (omega arith)
    ∙ append_assoc xs (w ∷ []) ns in
    elim (cases_Bool (nat_eq n.0 v.0)) [
      | inl same ↦
          ap (λ b. undone (if b then changes_from (suc (length xs)) ns vs else record { slot = length xs; value = n } ∷ changes_from (suc (length xs)) ns vs) (xs ++ v ∷ vs)) same
          ∙ next v ∙ ap (λ (w : Node). xs ++ w ∷ ns) (same-node n v same)
      | inr other ↦
          ap (λ b. undone (if b then changes_from (suc (length xs)) ns vs else record { slot = length xs; value = n } ∷ changes_from (suc (length xs)) ns vs) (xs ++ v ∷ vs)) other
          ∙ ap (λ zs. slice_set zs (length xs) n) (next v) ∙ set-seam xs ns v n
    ]

pub changes-within : (k : ℕ) (ns vs : List Node) (m : ℕ) → k + length ns ≤ m → Each (λ c. c.slot < m) (changes_from k ns vs)
changes-within k [] vs m h = tt
changes-within k (n ∷ ns) [] m h = tt
changes-within k (n ∷ ns) (v ∷ vs) m h = elim (nat_eq n.0 v.0) as (λ b. Each (λ c. c.slot < m) (if b then changes_from (suc k) ns vs else record { slot = k; value = n } ∷ changes_from (suc k) ns vs)) [
  | true ↦ changes-within (suc k) ns vs m (omega arith)
  | false ↦ (omega arith, changes-within (suc k) ns vs m (omega arith))
]

-- values that are the same make no change
pub changes-same : (k : ℕ) (ns : List Node) → changes_from k ns ns ≡ []
changes-same k [] = refl
changes-same k (n ∷ ns) = ap (λ b. if b then changes_from (suc k) ns ns else record { slot = k; value = n } ∷ changes_from (suc k) ns ns) (eq-eqb n.0 n.0 refl) ∙ changes-same (suc k) ns

same-lists : (vs ns : List Node) → length vs ≡ length ns → ((y : ℕ) (e : Node) → get_or vs y e ≡ get_or ns y e) → vs ≡ ns
same-lists [] [] h agree = refl
same-lists [] (n ∷ ns) h agree = absurd (omega arith)
same-lists (v ∷ vs) [] h agree = absurd (omega arith)
same-lists (v ∷ vs) (n ∷ ns) h agree = let a : v ≡ n = agree 0 n in let b : vs ≡ ns = same-lists vs ns (omega arith) (λ y e. agree (suc y) e) in λ i. a i ∷ b i

pub each-append : (n : ℕ) (xs ys : List Change) → Each (λ c. c.slot < n) xs → Each (λ c. c.slot < n) ys → Each (λ c. c.slot < n) (xs ++ ys)
each-append n [] ys h w = w
each-append n (x ∷ xs) ys h w = (h.0, each-append n xs ys h.1 w)

-- a value is written where from there on nothing was yet
pub changes-write : (j : ℕ) (ns vs : List Node) (x : ℕ) (v d : Node) → length vs ≡ length ns → x < length ns → ((y : ℕ) (e : Node) → x ≤ y → get_or vs y e ≡ get_or ns y e) →
    changes_from j ns (slice_set vs x v) ≡ changes_from j ns vs ++ change_at (j + x) (get_or ns x d) v
changes-write j [] vs x v d same less agree = absurd (omega arith)
changes-write j (n ∷ ns) [] x v d same less agree = absurd (omega arith)
changes-write j (n ∷ ns) (w ∷ vs) zero v d same less agree =
    let here : w ≡ n = agree 0 n (omega arith) in
    let there : vs ≡ ns = same-lists vs ns (omega arith) (λ y e. agree (suc y) e (omega arith)) in
    ap (λ zs. if nat_eq n.0 v.0 then changes_from (suc j) ns zs else record { slot = j; value = n } ∷ changes_from (suc j) ns zs) there
    ∙ ap (λ cs. if nat_eq n.0 v.0 then cs else record { slot = j; value = n } ∷ cs) (changes-same (suc j) ns)
    ∙ ap (λ (k : ℕ). if nat_eq n.0 v.0 then [] else record { slot = k; value = n } ∷ []) (let e : j ≡ j + 0 = omega arith in e)
    ∙ sym (ap (λ cs. cs ++ change_at (j + 0) n v) (ap (λ (m : Node). changes_from j (n ∷ ns) (m ∷ vs)) here ∙ ap (λ zs. changes_from j (n ∷ ns) (n ∷ zs)) there ∙ changes-same j (n ∷ ns)))
changes-write j (n ∷ ns) (w ∷ vs) (suc x) v d same less agree =
    let r : changes_from (suc j) ns (slice_set vs x v) ≡ changes_from (suc j) ns vs ++ change_at (j + suc x) (get_or ns x d) v
    = changes-write (suc j) ns vs x v d (omega arith) (omega arith) (λ y e le. agree (suc y) e (omega arith)) ∙ ap (λ k. changes_from (suc j) ns vs ++ change_at k (get_or ns x d) v) (let e : suc j + x ≡ j + suc x = omega arith in e) in
    elim (nat_eq n.0 w.0) as (λ b. (if b then changes_from (suc j) ns (slice_set vs x v) else record { slot = j; value = n } ∷ changes_from (suc j) ns (slice_set vs x v))
    ≡ (if b then changes_from (suc j) ns vs else record { slot = j; value = n } ∷ changes_from (suc j) ns vs) ++ change_at (j + suc x) (get_or ns x d) v) [
      | true ↦ r
      | false ↦ ap (λ cs. record { slot = j; value = n } ∷ cs) r
    ]
