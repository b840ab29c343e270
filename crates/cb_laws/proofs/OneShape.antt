-- The shape of terms under solvable equations is one.
use Rattle.std.proofs.Common.{◌≡◌, ℕ, zero, suc, ◌+◌, ◌≤◌, Bool, true, false, ◌==◌, if◌then◌else◌, List, [], ◌∷◌, ◌++◌, map, length, get_or, refl, sym, ◌∙◌, ap, subst, inl, inr, arith, rules, pos, ℤ, length-append}
use Rattle.std.proofs.lemmas.List.{length-map}
use Rattle.std.specs.Prelude.{Option, Some, None, is_some, slice_get, FitsSigned, flat_map}
use Rattle.std.specs.Int.{w64}
use Rattle.cb_model.specs.declared.Sort.{Sort}
use Rattle.cb_model.specs.declared.Sort.TheVariants as sort
use Rattle.cb_model.specs.declared.Tree.{Tree}
use Rattle.cb_model.specs.Bits.{Bits, numbers}
use Rattle.cb_model.specs.Values.{Ground, Bit, Word, Int, Name, Grounds, Last, More, grounds, World, Valuation, IsValuation, Fits, tail_of}
use Rattle.cb_model.specs.Equations.{Item, Meets, SolvedAt}
use Rattle.cb_model.specs.Answers.{IsShape, InOrder, leaves, opens, with_opens, values}
use Rattle.cb_laws.specs.Laws.{ShapeIsOne}
use Rattle.cb_laws.proofs.Tables.{zero_fits}
use Rattle.cb_laws.proofs.OpenTrees.{Plain, ALeaf, ABus, AVar, AnInt, ANode, Plains, Nil, Cons, closed_all, plains_of, plain_value, plain_values, values_closed, plain_leaves, all_leaves, shape_leaves, Place, bus_places, plain_opens, all_opens, shape_opens}

one_fits : FitsSigned w64 (pos 1)
one_fits = search rules

-- ---- valuations that mark one open place

-- a list that is marked or not, and an integer
abbrev word_if : Bool → List Bool
word_if true = true ∷ []
word_if false = []

abbrev int_if : Bool → ℤ
int_if true = pos 1
int_if false = pos 0

int_fits : (x : Bool) → FitsSigned w64 (int_if x)
int_fits true = one_fits
int_fits false = zero_fits

abbrev is_sort : Sort → Sort → Bool
is_sort sort.Bus sort.Bus = true
is_sort sort.Term sort.Term = true
is_sort s t = false

abbrev marks : Place → Sort → ℕ → Bool
marks x s n = if is_sort x.0 s then n == x.1 else false

-- the place x has a marked value, and every other place of these sorts an unmarked one
abbrev marked : Place → Valuation
marked x = record { bits = λ n. false; words = λ n. word_if (marks x sort.Bus n); terms = λ n. Int (int_if (marks x sort.Term n)) }

marked_fits : (w : World) (x : Place) → IsValuation w (marked x)
marked_fits w x n = int_fits (marks x sort.Term n)

-- the value of an open place; no place has the sort `bool`
abbrev place_value : Valuation → Place → Ground
place_value o (sort.Bool, n) = Name n Last
place_value o (sort.Bus, n) = Word (o.words n)
place_value o (sort.Term, n) = o.terms n

same_number : (n m : ℕ) → (n == m) ≡ true → n ≡ m
same_number n m h = search rules

self_number : (n : ℕ) → (n == n) ≡ true
self_number n = search rules

abbrev name_number : Ground → ℕ
name_number (Name n gs) = n
name_number g = 0

abbrev word_marked : Ground → Bool
word_marked (Word []) = false
word_marked (Word (x ∷ xs)) = true
word_marked g = false

abbrev int_marked : Ground → Bool
int_marked (Int (pos zero)) = false
int_marked (Int z) = true
int_marked g = false

word_back : (x : Bool) → word_marked (Word (word_if x)) ≡ x
word_back true = refl
word_back false = refl

int_back : (x : Bool) → int_marked (Int (int_if x)) ≡ x
int_back true = refl
int_back false = refl

-- only the marked place has its value
mark_one : (x y : Place) → place_value (marked x) y ≡ place_value (marked x) x → y ≡ x
mark_one (sort.Bool, n) (sort.Bool, m) e = ap (λ k. (sort.Bool, k)) (ap name_number e)
mark_one (sort.Bool, n) (sort.Bus, m) e = absurd (cc)
mark_one (sort.Bool, n) (sort.Term, m) e = absurd (cc)
mark_one (sort.Bus, n) (sort.Bool, m) e = absurd (cc)
mark_one (sort.Bus, n) (sort.Bus, m) e =
    let h : (m == n) ≡ (n == n) = sym (word_back (m == n)) ∙ ap word_marked e ∙ word_back (n == n) in
    ap (λ k. (sort.Bus, k)) (same_number m n (h ∙ self_number n))
mark_one (sort.Bus, n) (sort.Term, m) e = absurd (cc)
mark_one (sort.Term, n) (sort.Bool, m) e = absurd (cc)
mark_one (sort.Term, n) (sort.Bus, m) e = absurd (cc)
mark_one (sort.Term, n) (sort.Term, m) e =
    let h : (m == n) ≡ (n == n) = sym (int_back (m == n)) ∙ ap int_marked e ∙ int_back (n == n) in
    ap (λ k. (sort.Term, k)) (same_number m n (h ∙ self_number n))

-- ---- places in order

abbrev known_from : ℕ → List Sort → List Place
known_from n [] = []
known_from n (s ∷ ss) = (s, n) ∷ known_from (suc n) ss

abbrev known : List Sort → List Place
known ss = known_from 0 ss

known_more : (n : ℕ) (ss : List Sort) (s : Sort) (xs : List Place) → known_from n (ss ++ s ∷ []) ++ xs ≡ known_from n ss ++ ((s, n + length ss) ∷ xs)
known_more n [] s xs = ap (λ k. (s, k) ∷ xs) (omega arith)
known_more n (t ∷ ss) s xs = ap (λ l. (t, n) ∷ l) (known_more (suc n) ss s xs ∙ ap (λ k. known_from (suc n) ss ++ ((s, k) ∷ xs)) (omega arith))

-- the values of places, by their place in the list
abbrev nth : ℕ → List Ground → Ground
nth n gs = get_or gs n (Name 0 Last)

module _ (f : Place → Ground) where
  known_at : (at n : ℕ) (ss : List Sort) (s : Sort) (xs : List Place) → slice_get ss n ≡ Some s → nth n (map f (known_from at ss ++ xs)) ≡ f (s, at + n)
  known_at at n [] s xs h = absurd (cc)
  known_at at zero (t ∷ ss) s xs h = let e : t ≡ s = cc in ap (λ u. f (u, at)) e ∙ ap (λ k. f (s, k)) (omega arith)
  known_at at (suc n) (t ∷ ss) s xs h = known_at (suc at) n ss s xs h ∙ ap (λ k. f (s, k)) (omega arith)

  next_at : (at : ℕ) (ss : List Sort) (x : Place) (xs : List Place) → nth (length ss) (map f (known_from at ss ++ (x ∷ xs))) ≡ f x
  next_at at [] x xs = refl
  next_at at (s ∷ ss) x xs = next_at (suc at) ss x xs

  known_here : (n : ℕ) (ss : List Sort) (s : Sort) (xs : List Place) → slice_get ss n ≡ Some s → nth n (map f (known ss ++ xs)) ≡ f (s, n)
  known_here n ss s xs h = known_at 0 n ss s xs h ∙ ap (λ k. f (s, k)) (omega arith)

not_past : (ss : List Sort) (n : ℕ) (s : Sort) → slice_get ss n ≡ Some s → n ≡ length ss → ⊥
not_past [] n s h e = absurd (cc)
not_past (t ∷ ss) zero s h e = absurd (omega arith)
not_past (t ∷ ss) (suc n) s h e = not_past ss n s h (omega arith)

-- the values of the first places are values of the second, whatever they are
abbrev Match : World → List Place → List Place → Type 0
Match w xs ys = (o : Valuation) → IsValuation w o → (r : Valuation) × (map (place_value o) xs ≡ map (place_value r) ys)

abbrev head_or : Ground → List Ground → Ground
head_or g [] = g
head_or g (h ∷ hs) = h

abbrev tail : List Ground → List Ground
tail [] = []
tail (g ∷ gs) = gs

drop_one : (f g : Place → Ground) (ks : List Place) (x y : Place) (xs ys : List Place) → map f (ks ++ (x ∷ xs)) ≡ map g (ks ++ (y ∷ ys)) → map f (ks ++ xs) ≡ map g (ks ++ ys)
drop_one f g [] x y xs ys e = ap tail e
drop_one f g (k ∷ ks) x y xs ys e =
    ap (λ h. h ∷ map f (ks ++ xs)) (ap (head_or (f k)) e) ∙ ap (λ l. g k ∷ l) (drop_one f g ks x y xs ys (ap tail e))

match_rest : (w : World) (ks : List Place) (x y : Place) (xs ys : List Place) → Match w (ks ++ (x ∷ xs)) (ks ++ (y ∷ ys)) → Match w (ks ++ xs) (ks ++ ys)
match_rest w ks x y xs ys m o i = let r = m o i in (r.0, drop_one (place_value o) (place_value r.0) ks x y xs ys r.1)

abbrev unmarked : Valuation
unmarked = marked (sort.Bool, 0)

sort_one : (s t : Sort) (n m : ℕ) (r r' : Valuation) → place_value unmarked (s, n) ≡ place_value r (t, m) → place_value unmarked (t, m) ≡ place_value r' (s, n) → s ≡ t
sort_one sort.Bool sort.Bool n m r r' e f = refl
sort_one sort.Bool sort.Bus n m r r' e f = absurd (cc)
sort_one sort.Bool sort.Term n m r r' e f = absurd (cc)
sort_one sort.Bus sort.Bool n m r r' e f = absurd (cc)
sort_one sort.Bus sort.Bus n m r r' e f = refl
sort_one sort.Bus sort.Term n m r r' e f = absurd (cc)
sort_one sort.Term sort.Bool n m r r' e f = absurd (cc)
sort_one sort.Term sort.Bus n m r r' e f = absurd (cc)
sort_one sort.Term sort.Term n m r r' e f = refl

same_place : (x y : Place) → x.0 ≡ y.0 → x.1 ≡ y.1 → x ≡ y
same_place x y e f = ap (λ s. (s, x.1)) e ∙ ap (λ k. (y.0, k)) f

-- a known place that takes the value of the marked one is it
known_one : (w : World) (seen : List Sort) (x y : Place) (xs ys : List Place) → slice_get seen y.1 ≡ Some y.0 → Match w (known seen ++ (x ∷ xs)) (known seen ++ (y ∷ ys)) → y ≡ x
known_one w seen x y xs ys h m =
    let r = m (marked x) (marked_fits w x) in
    let there : place_value (marked x) y ≡ place_value r.0 y =
    sym (known_here (place_value (marked x)) y.1 seen y.0 (x ∷ xs) h) ∙ ap (nth y.1) r.1 ∙ known_here (place_value r.0) y.1 seen y.0 (y ∷ ys) h in
    let here : place_value (marked x) x ≡ place_value r.0 y =
    sym (next_at (place_value (marked x)) 0 seen x xs) ∙ ap (nth (length seen)) r.1 ∙ next_at (place_value r.0) 0 seen y ys in
    mark_one x y (there ∙ sym here)

new_sort : (w : World) (seen : List Sort) (x y : Place) (xs ys : List Place) → Match w (known seen ++ (x ∷ xs)) (known seen ++ (y ∷ ys)) →
    Match w (known seen ++ (y ∷ ys)) (known seen ++ (x ∷ xs)) → x.0 ≡ y.0
new_sort w seen x y xs ys m n =
    let r = m unmarked (marked_fits w (sort.Bool, 0)) in
    let q = n unmarked (marked_fits w (sort.Bool, 0)) in
    sort_one x.0 y.0 x.1 y.1 r.0 q.0
    (sym (next_at (place_value unmarked) 0 seen x xs) ∙ ap (nth (length seen)) r.1 ∙ next_at (place_value r.0) 0 seen y ys)
    (sym (next_at (place_value unmarked) 0 seen y ys) ∙ ap (nth (length seen)) q.1 ∙ next_at (place_value q.0) 0 seen x xs)

new_known : (seen : List Sort) (x : Place) (xs : List Place) → x.1 ≡ length seen → known seen ++ (x ∷ xs) ≡ known (seen ++ x.0 ∷ []) ++ xs
new_known seen x xs e = ap (λ k. known seen ++ ((x.0, k) ∷ xs)) (omega arith) ∙ sym (known_more 0 seen x.0 xs)

match_length : (f g : Place → Ground) (xs ys : List Place) → map f xs ≡ map g ys → length xs ≡ length ys
match_length f g xs ys e = sym (length-map xs f) ∙ ap length e ∙ length-map ys g

-- places that are numbered in order, and take the same values, are the same
order_one : (w : World) (seen : List Sort) (xs ys : List Place) → InOrder seen xs → InOrder seen ys → Match w (known seen ++ xs) (known seen ++ ys) →
    Match w (known seen ++ ys) (known seen ++ xs) → xs ≡ ys
order_one w seen [] [] i j m n = refl
order_one w seen [] (y ∷ ys) i j m n =
    let r = m unmarked (marked_fits w (sort.Bool, 0)) in
    let h : length (known seen ++ []) ≡ length (known seen ++ (y ∷ ys)) = match_length (place_value unmarked) (place_value r.0) _ _ r.1 in
    absurd (omega (arith, length-append (known seen) [], length-append (known seen) (y ∷ ys)))
order_one w seen (x ∷ xs) [] i j m n =
    let r = m unmarked (marked_fits w (sort.Bool, 0)) in
    let h : length (known seen ++ (x ∷ xs)) ≡ length (known seen ++ []) = match_length (place_value unmarked) (place_value r.0) _ _ r.1 in
    absurd (omega (arith, length-append (known seen) [], length-append (known seen) (x ∷ xs)))
order_one w seen (x ∷ xs) (y ∷ ys) (inl i) (inl j) m n =
    let e : y ≡ x = known_one w seen x y xs ys j.0 m in
    let rest : xs ≡ ys = order_one w seen xs ys i.1 j.1 (match_rest w (known seen) x y xs ys m) (match_rest w (known seen) y x ys xs n) in
    ap (λ z. z ∷ xs) (sym e) ∙ ap (λ l. y ∷ l) rest
order_one w seen (x ∷ xs) (y ∷ ys) (inl i) (inr j) m n =
    let e : x ≡ y = known_one w seen y x ys xs i.0 n in absurd (not_past seen x.1 x.0 i.0 (ap (λ z. z.1) e ∙ j.0))
order_one w seen (x ∷ xs) (y ∷ ys) (inr i) (inl j) m n =
    let e : y ≡ x = known_one w seen x y xs ys j.0 m in absurd (not_past seen y.1 y.0 j.0 (ap (λ z. z.1) e ∙ i.0))
order_one w seen (x ∷ xs) (y ∷ ys) (inr i) (inr j) m n =
    let s : x.0 ≡ y.0 = new_sort w seen x y xs ys m n in
    let e : x ≡ y = same_place x y s (i.0 ∙ sym j.0) in
    let a : known seen ++ (x ∷ xs) ≡ known (seen ++ x.0 ∷ []) ++ xs = new_known seen x xs i.0 in
    let b : known seen ++ (y ∷ ys) ≡ known (seen ++ x.0 ∷ []) ++ ys = ap (λ z. known seen ++ (z ∷ ys)) (sym e) ∙ new_known seen x ys i.0 in
    let m' : Match w (known (seen ++ x.0 ∷ []) ++ xs) (known (seen ++ x.0 ∷ []) ++ ys) = subst (λ l. Match w l (known (seen ++ x.0 ∷ []) ++ ys)) a (subst (Match w (known seen ++ (x ∷ xs))) b m) in
    let n' : Match w (known (seen ++ x.0 ∷ []) ++ ys) (known (seen ++ x.0 ∷ []) ++ xs) = subst (λ l. Match w l (known (seen ++ x.0 ∷ []) ++ xs)) b (subst (Match w (known seen ++ (y ∷ ys))) a n) in
    let rest : xs ≡ ys = order_one w (seen ++ x.0 ∷ []) xs ys i.1 (subst (λ t. InOrder (seen ++ t ∷ []) ys) (sym s) j.1) m' n' in
    ap (λ z. z ∷ xs) e ∙ ap (λ l. y ∷ l) rest

-- ---- two shapes that take the same values are alike

abbrev mutual
  Alike : Plain → Plain → Type 0
  Alike (ALeaf n) (ALeaf m) = Unit {0}
  Alike (ABus ns t) (ABus ms u) = (length ns ≡ length ms) × (is_some t ≡ is_some u)
  Alike (AVar n) (AVar m) = Unit {0}
  Alike (AnInt z) (AnInt y) = z ≡ y
  Alike (ANode n ps) (ANode m qs) = (n ≡ m) × AllAlike ps qs
  Alike p q = ⊥

  AllAlike : Plains → Plains → Type 0
  AllAlike Nil Nil = Unit {0}
  AllAlike (Cons p ps) (Cons q qs) = Alike p q × AllAlike ps qs
  AllAlike ps qs = ⊥

-- what the first takes with these leaf bits, the second takes too
abbrev Takes : World → Valuation → Plain → Plain → Type 0
Takes w a p q = (o : Valuation) → IsValuation w o → (r : Valuation) × (IsValuation w r × (plain_value (with_opens a o) p ≡ plain_value r q))

abbrev AllTake : World → Valuation → Plains → Plains → Type 0
AllTake w a ps qs = (o : Valuation) → IsValuation w o → (r : Valuation) × (IsValuation w r × (plain_values (with_opens a o) ps ≡ plain_values r qs))

abbrev bits_in : Ground → List Bool
bits_in (Word xs) = xs
bits_in g = []

abbrev int_in : Ground → ℤ
int_in (Int z) = z
int_in g = pos 0

abbrev args_in : Ground → Grounds
args_in (Name n gs) = gs
args_in g = Last

abbrev first_in : Grounds → Ground
first_in Last = Name 0 Last
first_in (More g gs) = g

abbrev rest_in : Grounds → Grounds
rest_in Last = Last
rest_in (More g gs) = gs

node_takes : (w : World) (a : Valuation) (n m : ℕ) (ps qs : Plains) → Takes w a (ANode n ps) (ANode m qs) → AllTake w a ps qs
node_takes w a n m ps qs t o i = let r = t o i in (r.0, (r.1.0, ap args_in r.1.1))

head_takes : (w : World) (a : Valuation) (p q : Plain) (ps qs : Plains) → AllTake w a (Cons p ps) (Cons q qs) → Takes w a p q
head_takes w a p q ps qs t o i = let r = t o i in (r.0, (r.1.0, ap first_in r.1.1))

rest_takes : (w : World) (a : Valuation) (p q : Plain) (ps qs : Plains) → AllTake w a (Cons p ps) (Cons q qs) → AllTake w a ps qs
rest_takes w a p q ps qs t o i = let r = t o i in (r.0, (r.1.0, ap rest_in r.1.1))

-- a list of bits and a tail
longer : (f : Bits) (ns : List ℕ) (ts : List Bool) → length (map f ns ++ ts) ≡ length ns + length ts
longer f ns ts = length-append (map f ns) ts ∙ ap (λ k. k + length ts) (length-map ns f)

-- with an empty tail the first list is no longer than the second
bus_length : (w : World) (a : Valuation) (ns ms : List ℕ) (t u : Option ℕ) → Takes w a (ABus ns t) (ABus ms u) → length ms ≤ length ns
bus_length w a ns ms None u k =
    let r = k unmarked (marked_fits w (sort.Bool, 0)) in
    let e : length (map a.bits ns ++ []) ≡ length (map r.0.bits ms ++ tail_of r.0 u) = ap (λ g. length (bits_in g)) r.1.1 in
    omega (arith, longer a.bits ns [], longer r.0.bits ms (tail_of r.0 u))
bus_length w a ns ms (Some n) u k =
    let r = k unmarked (marked_fits w (sort.Bool, 0)) in
    let e : length (map a.bits ns ++ []) ≡ length (map r.0.bits ms ++ tail_of r.0 u) = ap (λ g. length (bits_in g)) r.1.1 in
    omega (arith, longer a.bits ns [], longer r.0.bits ms (tail_of r.0 u))

-- with a tail it can be longer
tail_longer : (w : World) (a : Valuation) (ns ms : List ℕ) (n : ℕ) → Takes w a (ABus ns (Some n)) (ABus ms None) → suc (length ns) ≡ length ms
tail_longer w a ns ms n k =
    let r = k (marked (sort.Bus, n)) (marked_fits w (sort.Bus, n)) in
    let t : word_if (n == n) ≡ true ∷ [] = ap word_if (self_number n) in
    let e : length (map a.bits ns ++ word_if (n == n)) ≡ length (map r.0.bits ms ++ []) = ap (λ g. length (bits_in g)) r.1.1 in
    let f : length (map a.bits ns ++ (true ∷ [])) ≡ length (map r.0.bits ms ++ []) = subst (λ l. length (map a.bits ns ++ l) ≡ length (map r.0.bits ms ++ [])) t e in
    omega (arith, longer a.bits ns (true ∷ []), longer r.0.bits ms [])

bus_alike : (w : World) (a b : Valuation) (ns ms : List ℕ) (t u : Option ℕ) → Takes w a (ABus ns t) (ABus ms u) → Takes w b (ABus ms u) (ABus ns t) →
    (length ns ≡ length ms) × (is_some t ≡ is_some u)
bus_alike w a b ns ms None None k l = (omega (arith, bus_length w a ns ms None None k, bus_length w b ms ns None None l), refl)
bus_alike w a b ns ms (Some n) (Some m) k l = (omega (arith, bus_length w a ns ms (Some n) (Some m) k, bus_length w b ms ns (Some m) (Some n) l), refl)
bus_alike w a b ns ms (Some n) None k l = absurd (omega (arith, tail_longer w a ns ms n k, bus_length w a ns ms (Some n) None k))
bus_alike w a b ns ms None (Some m) k l = absurd (omega (arith, tail_longer w b ms ns m l, bus_length w b ms ns (Some m) None l))

-- an open term takes two integers
open_int : (w : World) (a : Valuation) (n : ℕ) (z : ℤ) → Takes w a (AVar n) (AnInt z) → ⊥
open_int w a n z k =
    let r = k unmarked (marked_fits w (sort.Bool, 0)) in
    let q = k (marked (sort.Term, n)) (marked_fits w (sort.Term, n)) in
    let e : false ≡ (n == n) = ap int_marked r.1.1 ∙ sym (ap int_marked q.1.1) ∙ int_back (n == n) in
    let h : false ≡ true = e ∙ self_number n in
    cc

no_bit : (w : World) (r : Valuation) (n : ℕ) (x : Bool) → IsValuation w r → Bit x ≡ r.terms n → ⊥
no_bit w r n x i e = subst (Fits w.arguments sort.Term) (sym e) (i n)

no_word : (w : World) (r : Valuation) (n : ℕ) (xs : List Bool) → IsValuation w r → Word xs ≡ r.terms n → ⊥
no_word w r n xs i e = subst (Fits w.arguments sort.Term) (sym e) (i n)

module _ (w : World) (a b : Valuation) where
  abbrev Both : Plain → Plain → Type 0
  Both p q = Takes w a p q × Takes w b q p

  fits : IsValuation w unmarked
  fits = marked_fits w (sort.Bool, 0)

  mutual
    alike : (p q : Plain) → Takes w a p q → Takes w b q p → Alike p q
    alike (ALeaf n) (ALeaf m) k l = tt
    alike (ALeaf n) (ABus ms u) k l = let e = (k unmarked fits).1.1 in absurd (cc)
    alike (ALeaf n) (AVar m) k l = let r = k unmarked fits in absurd (no_bit w r.0 m (a.bits n) r.1.0 r.1.1)
    alike (ALeaf n) (AnInt z) k l = let e = (k unmarked fits).1.1 in absurd (cc)
    alike (ALeaf n) (ANode m qs) k l = let e = (k unmarked fits).1.1 in absurd (cc)
    alike (ABus ns t) (ALeaf m) k l = let e = (k unmarked fits).1.1 in absurd (cc)
    alike (ABus ns t) (ABus ms u) k l = bus_alike w a b ns ms t u k l
    alike (ABus ns t) (AVar m) k l = let r = k unmarked fits in absurd (no_word w r.0 m _ r.1.0 r.1.1)
    alike (ABus ns t) (AnInt z) k l = let e = (k unmarked fits).1.1 in absurd (cc)
    alike (ABus ns t) (ANode m qs) k l = let e = (k unmarked fits).1.1 in absurd (cc)
    alike (AVar n) (ALeaf m) k l = let e = (k unmarked fits).1.1 in absurd (cc)
    alike (AVar n) (ABus ms u) k l = let e = (k unmarked fits).1.1 in absurd (cc)
    alike (AVar n) (AVar m) k l = tt
    alike (AVar n) (AnInt z) k l = absurd (open_int w a n z k)
    alike (AVar n) (ANode m qs) k l = let e = (k unmarked fits).1.1 in absurd (cc)
    alike (AnInt z) (ALeaf m) k l = let e = (k unmarked fits).1.1 in absurd (cc)
    alike (AnInt z) (ABus ms u) k l = let e = (k unmarked fits).1.1 in absurd (cc)
    alike (AnInt z) (AVar m) k l = absurd (open_int w b m z l)
    alike (AnInt z) (AnInt y) k l = ap int_in (k unmarked fits).1.1
    alike (AnInt z) (ANode m qs) k l = let e = (k unmarked fits).1.1 in absurd (cc)
    alike (ANode n ps) (ALeaf m) k l = let e = (k unmarked fits).1.1 in absurd (cc)
    alike (ANode n ps) (ABus ms u) k l = let e = (k unmarked fits).1.1 in absurd (cc)
    alike (ANode n ps) (AVar m) k l = let e = (l unmarked fits).1.1 in absurd (cc)
    alike (ANode n ps) (AnInt z) k l = let e = (k unmarked fits).1.1 in absurd (cc)
    alike (ANode n ps) (ANode m qs) k l =
        (ap name_number (k unmarked fits).1.1, all_alike ps qs (node_takes w a n m ps qs k) (node_takes w b m n qs ps l))

    all_alike : (ps qs : Plains) → AllTake w a ps qs → AllTake w b qs ps → AllAlike ps qs
    all_alike Nil Nil k l = tt
    all_alike Nil (Cons q qs) k l = let e = (k unmarked fits).1.1 in absurd (cc)
    all_alike (Cons p ps) Nil k l = let e = (k unmarked fits).1.1 in absurd (cc)
    all_alike (Cons p ps) (Cons q qs) k l =
        (alike p q (head_takes w a p q ps qs k) (head_takes w b q p qs ps l), all_alike ps qs (rest_takes w a p q ps qs k) (rest_takes w b q p qs ps l))

-- ---- alike shapes with the same leaves and open places are the same

split : {A : Type 0} (xs ys zs ws : List A) → length xs ≡ length ys → xs ++ zs ≡ ys ++ ws → (xs ≡ ys) × (zs ≡ ws)
split [] [] zs ws h e = (refl, e)
split [] (y ∷ ys) zs ws h e = absurd (omega arith)
split (x ∷ xs) [] zs ws h e = absurd (omega arith)
split {A} (x ∷ xs) (y ∷ ys) zs ws h e =
    let r = split xs ys zs ws (omega arith) (ap tail_of_list e) in
    (ap (λ z. z ∷ xs) (ap (head_of_list x) e) ∙ ap (λ l. y ∷ l) r.0, r.1)
  where
    tail_of_list : List A → List A
    tail_of_list [] = []
    tail_of_list (x ∷ xs) = xs

    head_of_list : A → List A → A
    head_of_list d [] = d
    head_of_list d (x ∷ xs) = x

map_append : (f : Place → Ground) (xs ys : List Place) → map f (xs ++ ys) ≡ map f xs ++ map f ys
map_append f [] ys = refl
map_append f (x ∷ xs) ys = ap (λ l. f x ∷ l) (map_append f xs ys)

bus_places_same : (o r : Valuation) (ns ms : List ℕ) (t u : Option ℕ) → length ns ≡ length ms → is_some t ≡ is_some u →
    map o.bits ns ++ tail_of o t ≡ map r.bits ms ++ tail_of r u → map (place_value o) (bus_places t) ≡ map (place_value r) (bus_places u)
bus_places_same o r ns ms None None h s e = refl
bus_places_same o r ns ms None (Some m) h s e = absurd (cc)
bus_places_same o r ns ms (Some n) None h s e = absurd (cc)
bus_places_same o r ns ms (Some n) (Some m) h s e =
    let l : length (map o.bits ns) ≡ length (map r.bits ms) = length-map ns o.bits ∙ h ∙ sym (length-map ms r.bits) in
    ap (λ w. Word w ∷ []) (split (map o.bits ns) (map r.bits ms) (o.words n) (r.words m) l e).1

mutual
  places_same : (o r : Valuation) (p q : Plain) → Alike p q → plain_value o p ≡ plain_value r q → map (place_value o) (plain_opens p) ≡ map (place_value r) (plain_opens q)
  places_same o r (ALeaf n) (ALeaf m) h e = refl
  places_same o r (ABus ns t) (ABus ms u) h e = bus_places_same o r ns ms t u h.0 h.1 (ap bits_in e)
  places_same o r (AVar n) (AVar m) h e = ap (λ g. g ∷ []) e
  places_same o r (AnInt z) (AnInt y) h e = refl
  places_same o r (ANode n ps) (ANode m qs) h e = all_places_same o r ps qs h.1 (ap args_in e)
  places_same o r p q h e = absurd h

  all_places_same : (o r : Valuation) (ps qs : Plains) → AllAlike ps qs → plain_values o ps ≡ plain_values r qs → map (place_value o) (all_opens ps) ≡ map (place_value r) (all_opens qs)
  all_places_same o r Nil Nil h e = refl
  all_places_same o r (Cons p ps) (Cons q qs) h e =
      map_append (place_value o) (plain_opens p) (all_opens ps) ∙ ap (λ l. l ++ map (place_value o) (all_opens ps)) (places_same o r p q h.0 (ap first_in e)) ∙
      ap (λ l. map (place_value r) (plain_opens q) ++ l) (all_places_same o r ps qs h.1 (ap rest_in e)) ∙ sym (map_append (place_value r) (plain_opens q) (all_opens qs))
  all_places_same o r ps qs h e = absurd h

mutual
  leaves_long : (p q : Plain) → Alike p q → length (plain_leaves p) ≡ length (plain_leaves q)
  leaves_long (ALeaf n) (ALeaf m) h = refl
  leaves_long (ABus ns t) (ABus ms u) h = h.0
  leaves_long (AVar n) (AVar m) h = refl
  leaves_long (AnInt z) (AnInt y) h = refl
  leaves_long (ANode n ps) (ANode m qs) h = all_leaves_long ps qs h.1
  leaves_long p q h = absurd h

  all_leaves_long : (ps qs : Plains) → AllAlike ps qs → length (all_leaves ps) ≡ length (all_leaves qs)
  all_leaves_long Nil Nil h = refl
  all_leaves_long (Cons p ps) (Cons q qs) h =
      length-append (plain_leaves p) (all_leaves ps) ∙ ap (λ k. k + length (all_leaves ps)) (leaves_long p q h.0) ∙
      ap (λ k. length (plain_leaves q) + k) (all_leaves_long ps qs h.1) ∙ sym (length-append (plain_leaves q) (all_leaves qs))
  all_leaves_long ps qs h = absurd h

bus_opens_long : (t u : Option ℕ) → is_some t ≡ is_some u → length (bus_places t) ≡ length (bus_places u)
bus_opens_long None None h = refl
bus_opens_long (Some n) (Some m) h = refl
bus_opens_long None (Some m) h = absurd (cc)
bus_opens_long (Some n) None h = absurd (cc)

mutual
  opens_long : (p q : Plain) → Alike p q → length (plain_opens p) ≡ length (plain_opens q)
  opens_long (ALeaf n) (ALeaf m) h = refl
  opens_long (ABus ns t) (ABus ms u) h = bus_opens_long t u h.1
  opens_long (AVar n) (AVar m) h = refl
  opens_long (AnInt z) (AnInt y) h = refl
  opens_long (ANode n ps) (ANode m qs) h = all_opens_long ps qs h.1
  opens_long p q h = absurd h

  all_opens_long : (ps qs : Plains) → AllAlike ps qs → length (all_opens ps) ≡ length (all_opens qs)
  all_opens_long Nil Nil h = refl
  all_opens_long (Cons p ps) (Cons q qs) h =
      length-append (plain_opens p) (all_opens ps) ∙ ap (λ k. k + length (all_opens ps)) (opens_long p q h.0) ∙
      ap (λ k. length (plain_opens q) + k) (all_opens_long ps qs h.1) ∙ sym (length-append (plain_opens q) (all_opens qs))
  all_opens_long ps qs h = absurd h

abbrev first_number : List ℕ → ℕ
first_number [] = 0
first_number (n ∷ ns) = n

abbrev first_place : List Place → ℕ
first_place [] = 0
first_place (x ∷ xs) = x.1

bus_same : (t u : Option ℕ) → bus_places t ≡ bus_places u → is_some t ≡ is_some u → t ≡ u
bus_same None None e h = refl
bus_same (Some n) (Some m) e h = ap Some (ap first_place e)
bus_same None (Some m) e h = absurd (cc)
bus_same (Some n) None e h = absurd (cc)

mutual
  same_plain : (p q : Plain) → Alike p q → plain_leaves p ≡ plain_leaves q → plain_opens p ≡ plain_opens q → p ≡ q
  same_plain (ALeaf n) (ALeaf m) h e f = ap ALeaf (ap first_number e)
  same_plain (ABus ns t) (ABus ms u) h e f = ap (λ l. ABus l t) e ∙ ap (ABus ms) (bus_same t u f h.1)
  same_plain (AVar n) (AVar m) h e f = ap AVar (ap first_place f)
  same_plain (AnInt z) (AnInt y) h e f = ap AnInt h
  same_plain (ANode n ps) (ANode m qs) h e f = ap (λ k. ANode k ps) h.0 ∙ ap (ANode m) (same_plains ps qs h.1 e f)
  same_plain p q h e f = absurd h

  same_plains : (ps qs : Plains) → AllAlike ps qs → all_leaves ps ≡ all_leaves qs → all_opens ps ≡ all_opens qs → ps ≡ qs
  same_plains Nil Nil h e f = refl
  same_plains (Cons p ps) (Cons q qs) h e f =
      let l = split (plain_leaves p) (plain_leaves q) (all_leaves ps) (all_leaves qs) (leaves_long p q h.0) e in
      let o = split (plain_opens p) (plain_opens q) (all_opens ps) (all_opens qs) (opens_long p q h.0) f in
      ap (λ x. Cons x ps) (same_plain p q h.0 l.0 o.0) ∙ ap (Cons q) (same_plains ps qs h.1 l.1 o.1)
  same_plains ps qs h e f = absurd h

-- ---- the shape is one

-- what one shape takes, the other takes
shape_takes : (w : World) (es : List Item) (terms s s' : List Tree) (ps qs : Plains) (a : Bits) (b o : Valuation) → IsShape w es terms s → IsShape w es terms s' →
    closed_all ps ≡ s → closed_all qs ≡ s' → Meets w es a b → values a b terms ≡ values a o s → AllTake w o ps qs
shape_takes w es terms s s' ps qs a b o i j cp cq m e o' fit =
    let moved = i.free a b o o' m e fit in
    let covered = j.covers a moved.0 moved.1.0 in
    let h : values a (with_opens o o') s ≡ values a covered.0 s' = sym moved.1.1 ∙ covered.1.1 in
    let k : values a (with_opens o o') (closed_all ps) ≡ values a covered.0 (closed_all qs) = ap (values a (with_opens o o')) cp ∙ h ∙ ap (values a covered.0) (sym cq) in
    (covered.0, (covered.1.0, sym (values_closed a (with_opens o o') ps) ∙ ap grounds k ∙ values_closed a covered.0 qs))

takes_match : (w : World) (o : Valuation) (ps qs : Plains) → AllAlike ps qs → AllTake w o ps qs → Match w (all_opens ps) (all_opens qs)
takes_match w o ps qs h t o' fit =
    let r = t o' fit in
    (r.0, same_values (all_opens ps) ∙ all_places_same (with_opens o o') r.0 ps qs h r.1.1)
  where
    same_values : (xs : List Place) → map (place_value o') xs ≡ map (place_value (with_opens o o')) xs
    same_values [] = refl
    same_values ((sort.Bool, n) ∷ xs) = ap (λ l. Name n Last ∷ l) (same_values xs)
    same_values ((sort.Bus, n) ∷ xs) = ap (λ l. Word (o'.words n) ∷ l) (same_values xs)
    same_values ((sort.Term, n) ∷ xs) = ap (λ l. o'.terms n ∷ l) (same_values xs)

pub shape_is_one : ShapeIsOne
shape_is_one w es terms s s' solvable i j =
    let a : Bits = λ n. false in
    let v : SolvedAt w es a = solvable a tt in
    let m : Meets w es a v.b = record { admitted = tt; sorted = v.sorted; sat = v.sat } in
    let ps = plains_of s i.only_leaves in
    let qs = plains_of s' j.only_leaves in
    let c = i.covers a v.b m in
    let d = j.covers a v.b m in
    let t : AllTake w c.0 ps.0 qs.0 = shape_takes w es terms s s' ps.0 qs.0 a v.b c.0 i j ps.1 qs.1 m c.1.1 in
    let u : AllTake w d.0 qs.0 ps.0 = shape_takes w es terms s' s qs.0 ps.0 a v.b d.0 j i qs.1 ps.1 m d.1.1 in
    let h : AllAlike ps.0 qs.0 = all_alike w c.0 d.0 ps.0 qs.0 t u in
    let h' : AllAlike qs.0 ps.0 = all_alike w d.0 c.0 qs.0 ps.0 u t in
    let l : flat_map leaves s ≡ all_leaves ps.0 = ap (flat_map leaves) (sym ps.1) ∙ shape_leaves ps.0 in
    let k : flat_map leaves s' ≡ all_leaves qs.0 = ap (flat_map leaves) (sym qs.1) ∙ shape_leaves qs.0 in
    let long : length (flat_map leaves s) ≡ length (flat_map leaves s') = ap length l ∙ all_leaves_long ps.0 qs.0 h ∙ sym (ap length k) in
    let same_leaves : all_leaves ps.0 ≡ all_leaves qs.0 = sym l ∙ i.leaf_order ∙ ap numbers long ∙ sym j.leaf_order ∙ k in
    let x : flat_map opens s ≡ all_opens ps.0 = ap (flat_map opens) (sym ps.1) ∙ shape_opens ps.0 in
    let y : flat_map opens s' ≡ all_opens qs.0 = ap (flat_map opens) (sym qs.1) ∙ shape_opens qs.0 in
    let same_opens : all_opens ps.0 ≡ all_opens qs.0 =
    order_one w [] (all_opens ps.0) (all_opens qs.0) (subst (InOrder []) x i.open_order) (subst (InOrder []) y j.open_order) (takes_match w c.0 ps.0 qs.0 h t)
    (takes_match w d.0 qs.0 ps.0 h' u) in
    sym ps.1 ∙ ap closed_all (same_plains ps.0 qs.0 h same_leaves same_opens) ∙ qs.1
