-- Rows of bits by weight, and the least row at which lists of nodes differ.
use Rattle.std.proofs.Common.{◌≡◌, ◌≢◌, ℕ, suc, ◌+◌, ◌-◌, ◌*◌, ◌^◌, ◌<◌, ◌≤◌, nat_lt, Bool, true, false, not, ◌||◌, if◌then◌else◌, ◌⊎◌, inl, inr, List, [], ◌∷◌, ◌++◌, map, length, get_or, take, drop, Option, Some, None, IsNone, ◌↔◌, IfSome, Vec, refl, sym, ◌∙◌, ap, subst, arith}
use Rattle.std.proofs.lemmas.List.{drop_more, length-drop, length-map, map_push, take_more, take_all, length-take-le}
use Rattle.std.proofs.lemmas.Bool.{cases_lt, lt-ltb, le-ltb, false≢true}
use Rattle.std.proofs.Math.Nat.{mul-le-mul_right, pow-suc}
use mathlib.Core.Bool.{beq}
use Rattle.cb_model.specs.Bits.{Bits, weight, xor}
use Rattle.cb_dd.specs.declared.Node.{Node}
use Rattle.cb_dd.specs.declared.Triple.{Triple}
use Rattle.cb_dd.specs.Diagram.{Store, IsNode, function_of}
use Rattle.cb_dd.proofs.Diagrams.{function_of-zero}
use Rattle.cb_ops.specs.Ops.{Grows, DependsOn, IsLeastTrue, Room}
use Rattle.cb_levels.specs.Inverse.{IsInverse}
use Rattle.cb_verify.specs.declared.Verdict.TheVariants as verdict
use Rattle.cb_verify.specs.Nodes.{AreNodes, node_bits, DependOn, unequal, IsFirst}
use Rattle.cb_verify.specs.Least.{row_of, lesser_of, LeastOf}
use Rattle.cb_verify.specs.Verdict.{IsLeastOver}
use Rattle.cb_verify.proofs.Kept.{node-kept, function-kept, depends-kept, depends-two, node_bits-kept, two-room}
use Rattle.cb_verify.proofs.Chains.{Each-at}

-- ---- rows by weight

weight-below : (xs : List Bool) → weight xs < 2 ^ length xs
weight-below [] = omega arith
weight-below (x ∷ xs) =
    let w = weight-below xs in
    let e : 2 ^ suc (length xs) ≡ 2 ^ length xs + 2 ^ length xs = (let h = pow-suc 2 (length xs) in omega arith) in
    elim x as (λ y. (if y then 2 ^ length xs else 0) + weight xs < 2 ^ suc (length xs)) [ true ↦ omega arith | false ↦ omega arith ]

differ-weight : (x y : Bool) (xs ys : List Bool) → length xs ≡ length ys → x ≢ y → y ≡ nat_lt (weight (x ∷ xs)) (weight (y ∷ ys))
differ-weight true true xs ys e ne = absurd (ne refl)
differ-weight false false xs ys e ne = absurd (ne refl)
differ-weight false true xs ys e ne =
    let w = weight-below xs in
    let p : 2 ^ length xs ≡ 2 ^ length ys = ap (λ n. 2 ^ n) e in
    sym (lt-ltb (0 + weight xs) (2 ^ length ys + weight ys) (omega (arith, w, p)))
differ-weight true false xs ys e ne =
    let w = weight-below ys in
    let p : 2 ^ length xs ≡ 2 ^ length ys = ap (λ n. 2 ^ n) e in
    sym (le-ltb (2 ^ length xs + weight xs) (0 + weight ys) (omega (arith, w, p)))

-- where the rows differ first, the bit of the second tells
pub before-here : (xs ys : List Bool) (i : ℕ) → length xs ≡ length ys → i < length xs → get_or xs i false ≢ get_or ys i false → get_or ys i false ≡ nat_lt (weight (drop i xs)) (weight (drop i ys))
before-here xs ys i e l ne =
    let x = get_or xs i false in
    let y = get_or ys i false in
    let long : length (drop (i + 1) xs) ≡ length (drop (i + 1) ys) = length-drop (i + 1) xs ∙ ap (λ n. n - (i + 1)) e ∙ sym (length-drop (i + 1) ys) in
    differ-weight x y (drop (i + 1) xs) (drop (i + 1) ys) long ne
    ∙ (λ j. nat_lt (weight (sym (drop_more xs i false l) j)) (weight (sym (drop_more ys i false (omega (arith, l, e))) j)))

-- ---- the least of two

or-cases : (x y : Bool) → (x || y) ≡ true → (x ≡ true) ⊎ (y ≡ true)
or-cases true y h = inl refl
or-cases false y h = inr h

or-left : (x y : Bool) → x ≡ true → (x || y) ≡ true
or-left true y h = refl
or-left false y h = absurd (false≢true h)

or-right : (x y : Bool) → y ≡ true → (x || y) ≡ true
or-right true y h = refl
or-right false y h = h

or-second : (x y : Bool) → x ≡ false → (x || y) ≡ y
or-second true y h = absurd (false≢true (sym h))
or-second false y h = refl

or-first : (x y : Bool) → y ≡ false → (x || y) ≡ x
or-first true y h = refl
or-first false y h = h

-- of one function
pub least-same : (ls : List ℕ) (d e : Bits → Bool) (o : Option (List Bool)) → ((a : Bits) → d a ≡ e a) → LeastOf ls d o → LeastOf ls e o
least-same ls d e None same h = λ a. sym (same a) ∙ h a
least-same ls d e (Some row) same h = (h.0, (λ a m. sym (same a) ∙ h.1 a m), (λ a t. h.2 a (same a ∙ t)))

abbrev Both : List ℕ → (Bits → Bool) → (Bits → Bool) → List Bool → Type 0
Both ls d e r = LeastOf ls (λ a. d a || e a) (Some r)

pub least-or : (ls : List ℕ) (d e : Bits → Bool) (p q : Option (List Bool)) → LeastOf ls d p → LeastOf ls e q → LeastOf ls (λ a. d a || e a) (lesser_of p q)
least-or ls d e None q h k = least-same ls e (λ a. d a || e a) q (λ a. sym (or-second (d a) (e a) (h a))) k
least-or ls d e (Some x) None h k = least-same ls d (λ a. d a || e a) (Some x) (λ a. sym (or-first (d a) (e a) (k a))) h
least-or ls d e (Some x) (Some y) h k = elim (cases_lt (weight y) (weight x)) [
  | inl lt ↦
      let both : Both ls d e y = (k.0, (λ a m. or-right (d a) (e a) (k.1 a m)), (λ a t. elim (or-cases (d a) (e a) t) [ inl one ↦ (let w = h.2 a one in omega (arith, w, lt)) | inr two ↦ k.2 a two ])) in
      subst (λ b. Both ls d e (if b then y else x)) (sym (lt-ltb (weight y) (weight x) lt)) both
  | inr ge ↦
      let both : Both ls d e x = (h.0, (λ a m. or-left (d a) (e a) (h.1 a m)), (λ a t. elim (or-cases (d a) (e a) t) [ inl one ↦ h.2 a one | inr two ↦ (let w = k.2 a two in omega (arith, w, ge)) ])) in
      subst (λ b. Both ls d e (if b then y else x)) (sym (le-ltb (weight y) (weight x) ge)) both
]

-- the rows are as long
pub both-long : {A : Type 0} (ls : List ℕ) (d e : Bits → Bool) (p q : Option (Vec Bool A)) → LeastOf ls d (row_of p) → LeastOf ls e (row_of q) → IfSome p (λ x. IfSome q (λ y. length y.items ≡ length x.items))
both-long ls d e None q h k = tt
both-long ls d e (Some x) None h k = tt
both-long ls d e (Some x) (Some y) h k = k.0 ∙ sym h.0

-- ---- places of two lists of nodes

unequal-push : (xs ys : List Bool) (x y : Bool) → length xs ≡ length ys → unequal (xs ++ x ∷ []) (ys ++ y ∷ []) ≡ (unequal xs ys || xor x y)
unequal-push [] [] x y e = or-first (xor x y) false refl
unequal-push [] (v ∷ ys) x y e = absurd (omega arith)
unequal-push (u ∷ xs) [] x y e = absurd (omega arith)
unequal-push (u ∷ xs) (v ∷ ys) x y e = ap (λ b. xor u v || b) (unequal-push xs ys x y (omega arith)) ∙ assoc (xor u v) (unequal xs ys) (xor x y)
  where
    assoc : (p q r : Bool) → (p || (q || r)) ≡ ((p || q) || r)
    assoc true q r = refl
    assoc false q r = refl

-- no place differs
pub none-unequal : (ls : List ℕ) (ts : List Triple) (got wanted : List Node) → LeastOf ls (λ a. unequal (node_bits ts (take 0 got) a) (node_bits ts (take 0 wanted) a)) None
none-unequal ls ts [] [] a = refl
none-unequal ls ts [] (w ∷ ws) a = refl
none-unequal ls ts (g ∷ gs) [] a = refl
none-unequal ls ts (g ∷ gs) (w ∷ ws) a = refl

module _ (s t u : Store) (st : Grows s t) (tu : Grows t u) (got wanted : List Node) (ls : List ℕ) (gots : AreNodes s.triples got × DependOn s.triples got ls)
    (wants : AreNodes s.triples wanted × DependOn s.triples wanted ls) (same : length wanted ≡ length got) (i : ℕ) (lt : i < length got) (d : Node) where
  got_node : IsNode s.triples (get_or got i d).0
  got_node = Each-at (λ n. IsNode s.triples n.0) got i d gots.0 lt

  wanted_node : IsNode s.triples (get_or wanted i d).0
  wanted_node = Each-at (λ n. IsNode s.triples n.0) wanted i d wants.0 (omega (arith, lt, same))

  one : DependsOn t.triples (get_or got i d).0 ls
  one = depends-kept s t st (get_or got i d).0 got_node ls (Each-at (λ n. DependsOn s.triples n.0 ls) got i d gots.1 lt)

  two : DependsOn t.triples (get_or wanted i d).0 ls
  two = depends-kept s t st (get_or wanted i d).0 wanted_node ls (Each-at (λ n. DependsOn s.triples n.0 ls) wanted i d wants.1 (omega (arith, lt, same)))

  pub place-got : IsNode t.triples (get_or got i d).0
  place-got = node-kept s t st (get_or got i d).0 got_node

  pub place-wanted : IsNode t.triples (get_or wanted i d).0
  place-wanted = node-kept s t st (get_or wanted i d).0 wanted_node

  -- the room so far
  pub place-room : length t.triples ≤ length s.triples + i * (2 * 2 ^ length ls) → Room ((get_or got i d).0 ∷ (get_or wanted i d).0 ∷ []) 2 t u → length u.triples ≤ length s.triples + (i + 1) * (2 * 2 ^ length ls)
  place-room h r =
      let k : length u.triples ≤ length t.triples + 1 * (2 * 2 ^ length ls) = (two-room t u (get_or got i d) (get_or wanted i d) 2 (omega arith) r).most ls (one, (two, tt)) in
      omega (arith, h, k)

  -- and within the whole
  pub place-within : length t.triples ≤ length s.triples + i * (2 * 2 ^ length ls) → Room ((get_or got i d).0 ∷ (get_or wanted i d).0 ∷ []) 2 t u → length u.triples ≤ length s.triples + length got * (2 * 2 ^ length ls)
  place-within h r =
      let k = place-room h r in
      let l : i + 1 ≤ length got = omega (arith, lt) in
      let m = mul-le-mul_right (2 * 2 ^ length ls) l in
      omega (arith, k, m)

  module _ (differ : Node) (made : (a : Bits) → function_of u.triples differ.0 a ≡ xor (function_of t.triples (get_or got i d).0 a) (function_of t.triples (get_or wanted i d).0 a)) where
    pub place-depends : DependsOn u.triples differ.0 ls
    place-depends = depends-two t.triples u.triples (get_or got i d).0 (get_or wanted i d).0 differ.0 xor made ls one two

    differ-is : (a : Bits) → function_of u.triples differ.0 a ≡ xor (function_of s.triples (get_or got i d).0 a) (function_of s.triples (get_or wanted i d).0 a)
    differ-is a = made a ∙ (λ j. xor (function-kept s t st (get_or got i d).0 got_node a j) (function-kept s t st (get_or wanted i d).0 wanted_node a j))

    -- one place more
    pub place-more : (p q r : Option (List Bool)) → LeastOf ls (λ a. unequal (node_bits s.triples (take i got) a) (node_bits s.triples (take i wanted) a)) p → LeastOf ls (function_of u.triples differ.0) q
        → r ≡ lesser_of p q → LeastOf ls (λ a. unequal (node_bits s.triples (take (i + 1) got) a) (node_bits s.triples (take (i + 1) wanted) a)) r
    place-more p q r h k is =
        subst (LeastOf ls (λ a. unequal (node_bits s.triples (take (i + 1) got) a) (node_bits s.triples (take (i + 1) wanted) a))) (sym is)
        (least-same ls (λ a. unequal (node_bits s.triples (take i got) a) (node_bits s.triples (take i wanted) a) || function_of u.triples differ.0 a) (λ a. unequal (node_bits s.triples (take (i + 1) got) a) (node_bits s.triples (take (i + 1) wanted) a)) (lesser_of p q) (λ a. sym (more a))
        (least-or ls (λ a. unequal (node_bits s.triples (take i got) a) (node_bits s.triples (take i wanted) a)) (function_of u.triples differ.0) p q h k))
      where
        long : (ns : List Node) (a : Bits) → i ≤ length ns → length (node_bits s.triples (take i ns) a) ≡ i
        long ns a l = length-map (take i ns) (λ n. function_of s.triples n.0 a) ∙ length-take-le i ns l

        bits : (ns : List Node) (a : Bits) → i < length ns → node_bits s.triples (take (i + 1) ns) a ≡ node_bits s.triples (take i ns) a ++ function_of s.triples (get_or ns i d).0 a ∷ []
        bits ns a l = ap (λ ms. node_bits s.triples ms a) (take_more ns i d l) ∙ map_push (λ n. function_of s.triples n.0 a) (take i ns) (get_or ns i d)

        more : (a : Bits) → unequal (node_bits s.triples (take (i + 1) got) a) (node_bits s.triples (take (i + 1) wanted) a) ≡ (unequal (node_bits s.triples (take i got) a) (node_bits s.triples (take i wanted) a) || function_of u.triples differ.0 a)
        more a =
            let lw : i < length wanted = omega (arith, lt, same) in
            (λ j. unequal (bits got a lt j) (bits wanted a lw j))
            ∙ unequal-push (node_bits s.triples (take i got) a) (node_bits s.triples (take i wanted) a) (function_of s.triples (get_or got i d).0 a) (function_of s.triples (get_or wanted i d).0 a) (long got a (omega (arith, lt)) ∙ sym (long wanted a (omega (arith, lw))))
            ∙ ap (λ b. unequal (node_bits s.triples (take i got) a) (node_bits s.triples (take i wanted) a) || b) (sym (differ-is a))

-- all places
pub all-places : (ls : List ℕ) (ts : List Triple) (got wanted : List Node) (i : ℕ) (o : Option (List Bool)) → length got ≤ i → length wanted ≡ length got → LeastOf ls (λ a. unequal (node_bits ts (take i got) a) (node_bits ts (take i wanted) a)) o
    → LeastOf ls (λ a. unequal (node_bits ts got a) (node_bits ts wanted a)) o
all-places ls ts got wanted i o l same h =
    least-same ls (λ a. unequal (node_bits ts (take i got) a) (node_bits ts (take i wanted) a)) (λ a. unequal (node_bits ts got a) (node_bits ts wanted a)) o
    (λ a j. unequal (node_bits ts (take_all i got l j) a) (node_bits ts (take_all i wanted (omega (arith, l, same)) j) a)) h

-- ---- the verdict

module _ (s t : Store) (st : Grows s t) (got wanted : List Node) (gots : AreNodes s.triples got) (wants : AreNodes s.triples wanted) (ls : List ℕ) where
  later : (a : Bits) → unequal (node_bits s.triples got a) (node_bits s.triples wanted a) ≡ unequal (node_bits t.triples got a) (node_bits t.triples wanted a)
  later a = λ j. unequal (sym (node_bits-kept s t st got gots a) j) (sym (node_bits-kept s t st wanted wants a) j)

  -- nothing differs
  pub verified : LeastOf ls (λ a. unequal (node_bits s.triples got a) (node_bits s.triples wanted a)) None → IsLeastOver t.triples ls got wanted verdict.Verified
  verified h = λ a. sym (later a) ∙ h a

  module _ (row : List Bool) (least : LeastOf ls (λ a. unequal (node_bits s.triples got a) (node_bits s.triples wanted a)) (Some row)) where
    pub row-long : length row ≡ length ls
    row-long = least.0

    -- at an assignment that has the row
    pub row-differs : (a : Bits) → map a ls ≡ row → unequal (node_bits t.triples got a) (node_bits t.triples wanted a) ≡ true
    row-differs a is = sym (later a) ∙ least.1 a is

    -- the verdict, with the row as it was handed on
    pub least-is : (given : List Bool) → given ≡ row → (b : Bits) → map b ls ≡ row → (at output : ℕ) (x y : Bool) → output ≡ at + 1
        → IsFirst (node_bits t.triples got b) (node_bits t.triples wanted b) at x y → IsLeastOver t.triples ls got wanted (verdict.Differs given output x y)
    least-is given too b is at output x y number first =
        let P : ℕ → Type 0 = λ k. IsFirst (node_bits t.triples got b) (node_bits t.triples wanted b) k x y in
        let e : at ≡ output - 1 = omega (arith, number) in
        (omega (arith, number), (b, (is ∙ sym too, subst P e first)), λ a d. subst (λ r. weight r ≤ weight (map a ls)) (sym too) (least.2 a (later a ∙ d)))

-- bits that are different
pub differ_bits : (x y : Bool) → not (beq x y) ≡ true → x ≢ y
differ_bits true true h = λ e. false≢true h
differ_bits true false h = λ e. false≢true (sym e)
differ_bits false true h = λ e. false≢true e
differ_bits false false h = λ e. false≢true h

-- the least row as it is found
pub least-found : {A : Type 0} (order ls : List ℕ) (ts : List Triple) (n : ℕ) (o : Option (Vec Bool A)) → (IsNone o ↔ (n ≡ 0))
    → IfSome o (λ v. (levels : List ℕ) → IsInverse order levels → DependsOn ts n levels → IsLeastTrue ts n levels v.items) → IsInverse order ls → DependsOn ts n ls → LeastOf ls (function_of ts n) (row_of o)
least-found order ls ts n None none some inv d = λ a. ap (λ m. function_of ts m a) (none.0 refl) ∙ function_of-zero ts a
least-found order ls ts n (Some v) none some inv d = let l = some ls inv d in (l.as_many, l.makes_true, l.least)
