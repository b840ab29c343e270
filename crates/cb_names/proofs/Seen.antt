-- A table as callers see it, without the places of its names in memory.
use Rattle.std.proofs.Common.{◌≡◌, ℕ, zero, suc, ◌+◌, ◌<◌, Bool, true, false, cond, ◌||◌, List, [], ◌∷◌, ◌++◌, map, length, get_or, Option, Some, None, position, refl, sym, ◌∙◌, ap, arith, Bor}
use Rattle.std.specs.Prelude.{AllPairs}
use Rattle.std.specs.Bool.{if◌then◌else◌}
use Rattle.std.specs.List.{list_any, IsDistinct}
use Rattle.std.specs.Map.{lookup}
use Rattle.std.specs.Option.{is_some}
use Rattle.std.proofs.lemmas.List.{map-append, length-map}
use Rattle.std.proofs.lemmas.Map.Keys.{apart_from_distinct}
use Rattle.std.proofs.lemmas.Bool.Decides.{nat_tests}
use Rattle.indexmap.specs.IndexMap.{insert_entry}
use Rattle.cb_model.specs.Text.{Text}
use Rattle.cb_model.specs.Directives.{Sign, same_sign, has_sign, looked_up}
use Rattle.cb_names.specs.Keys.{key_sign}

-- ---- a list seen through a function

-- a place at the front, or one further behind
abbrev here_or : Bool → Option ℕ → Option ℕ
here_or true r = Some 0
here_or false None = None
here_or false (Some k) = Some (1 + k)

abbrev behind : Option ℕ → Option ℕ
behind None = None
behind (Some k) = Some (1 + k)

module _ {X : Type 0} (p : X → Bool) where
  position-cons-cond : (x : X) (xs : List X) → position p (x ∷ xs) ≡ cond (p x) (Some 0) (behind (position p xs))
  position-cons-cond x xs = grind (arith, nat_tests)

  position-cons : (x : X) (xs : List X) → position p (x ∷ xs) ≡ here_or (p x) (position p xs)
  position-cons x xs = position-cons-cond x xs ∙ step (p x) (position p xs)
    where
      step : (b : Bool) (r : Option ℕ) → cond b (Some 0) (behind r) ≡ here_or b r
      step true r = refl
      step false None = refl
      step false (Some k) = refl

module _ {X Y : Type 0} (p : Y → Bool) (f : X → Y) where
  pub position-map : (xs : List X) → position (λ x. p (f x)) xs ≡ position p (map f xs)
  position-map [] = refl
  position-map (x ∷ xs) = position-cons (λ y. p (f y)) x xs ∙ ap (here_or (p (f x))) (position-map xs) ∙ sym (position-cons p (f x) (map f xs))

  pub list_any-map : (xs : List X) → list_any (λ x. p (f x)) xs ≡ list_any p (map f xs)
  list_any-map [] = refl
  list_any-map (x ∷ xs) = ap (λ b. p (f x) || b) (list_any-map xs)

  -- the place of what passes
  pub position_seen : (xs : List X) (ys : List Y) → map f xs ≡ ys → position (λ x. p (f x)) xs ≡ position p ys
  position_seen xs ys e = position-map xs ∙ ap (position p) e

  -- whether something passes
  pub any_seen : (xs : List X) (ys : List Y) → map f xs ≡ ys → list_any (λ x. p (f x)) xs ≡ list_any p ys
  any_seen xs ys e = list_any-map xs ∙ ap (list_any p) e

  -- an item at the end, where none passes
  pub added_seen : (k : X) (xs more : List X) (ys : List Y) → map f xs ≡ ys → more ≡ (if list_any (λ x. p (f x)) xs then xs else (xs ++ k ∷ [])) →
      map f more ≡ (if list_any p ys then ys else (ys ++ f k ∷ []))
  added_seen k xs more ys e m = ap (map f) m ∙ step (list_any (λ x. p (f x)) xs) ∙ ap (λ (b : Bool). if b then ys else (ys ++ f k ∷ [])) (any_seen xs ys e)
    where
      step : (b : Bool) → map f (if b then xs else (xs ++ k ∷ [])) ≡ (if b then ys else (ys ++ f k ∷ []))
      step true = e
      step false = map-append f xs (k ∷ []) ∙ ap (λ l. l ++ f k ∷ []) e

-- ---- names with their numbers of arguments

abbrev pub Key : Type 0
Key = Bor Text × ℕ

get_seen : (ks : List Key) (i : ℕ) (d : Sign) (k : Key) → i < length ks → get_or (map key_sign ks) i d ≡ key_sign (get_or ks i k)
get_seen [] i d k h = absurd (omega arith)
get_seen (x ∷ xs) zero d k h = refl
get_seen (x ∷ xs) (suc i) d k h = get_seen xs i d k (omega arith)

distinct_at : (ks : List Key) (k : Key) → IsDistinct (λ a b. same_sign (key_sign a) (key_sign b)) ks → (i j : ℕ) (d : Sign) → i < j → j < length ks →
    same_sign (get_or (map key_sign ks) i d) (get_or (map key_sign ks) j d) ≡ false
distinct_at ks k s i j d a b =
    let low : i < length ks = omega arith in
    rw (get_seen ks i d k low, get_seen ks j d k b) (apart_from_distinct (λ a b. same_sign (key_sign a) (key_sign b)) ks i j k s a b)

-- no two are the same
pub distinct_seen : (ks : List Key) (ys : List Sign) → map key_sign ks ≡ ys → IsDistinct (λ a b. same_sign (key_sign a) (key_sign b)) ks → AllPairs (λ a b. same_sign a b ≡ false) ys
distinct_seen [] ys e s i j d a b = absurd (let n : length ys ≡ 0 = sym (ap length e) in omega arith)
distinct_seen (k ∷ ks) ys e s i j d a b =
    let n : length ys ≡ length (k ∷ ks) = sym (ap length e) ∙ length-map (k ∷ ks) key_sign in
    let b' : j < length (k ∷ ks) = omega arith in
    rw (← e) (distinct_at (k ∷ ks) k s i j d a b')

-- ---- tables

abbrev pub entry_sign : {T : Type 0} → Key × T → Sign × T
entry_sign e = (key_sign e.0, e.1)

lookup_here : {T : Type 0} (a : Sign) (es : List (Key × T)) → lookup (λ k. same_sign a (key_sign k)) es ≡ looked_up (map entry_sign es) a
lookup_here a [] = refl
lookup_here {T} a (e ∷ es) = ap (λ (r : Option T). cond (same_sign a (key_sign e.0)) (Some e.1) r) (lookup_here a es)

pub lookup_seen : {T : Type 0} (a : Sign) (es : List (Key × T)) (ys : List (Sign × T)) → map entry_sign es ≡ ys → lookup (λ k. same_sign a (key_sign k)) es ≡ looked_up ys a
lookup_seen a es ys e = lookup_here a es ∙ ap (λ l. looked_up l a) e

has_here : {T : Type 0} (a : Sign) (es : List (Key × T)) → is_some (lookup (λ k. same_sign a (key_sign k)) es) ≡ has_sign (map (λ e. e.0) (map entry_sign es)) a
has_here a [] = refl
has_here {T} a (e ∷ es) = step (same_sign a (key_sign e.0)) (has_here a es)
  where
    step : (b : Bool) → is_some (lookup (λ k. same_sign a (key_sign k)) es) ≡ has_sign (map (λ e. e.0) (map entry_sign es)) a →
        is_some (cond b (Some e.1) (lookup (λ k. same_sign a (key_sign k)) es)) ≡ (b || has_sign (map (λ e. e.0) (map entry_sign es)) a)
    step true h = refl
    step false h = h

pub has_seen : {T : Type 0} (a : Sign) (es : List (Key × T)) (ys : List (Sign × T)) → map entry_sign es ≡ ys → is_some (lookup (λ k. same_sign a (key_sign k)) es) ≡ has_sign (map (λ e. e.0) ys) a
has_seen a es ys e = has_here a es ∙ ap (λ l. has_sign (map (λ e. e.0) l) a) e

insert_here : {T : Type 0} (k : Key) (v : T) (es : List (Key × T)) → has_sign (map (λ e. e.0) (map entry_sign es)) (key_sign k) ≡ false →
    map entry_sign (insert_entry (λ a b. same_sign (key_sign a) (key_sign b)) es k v) ≡ map entry_sign es ++ (key_sign k, v) ∷ []
insert_here k v [] h = refl
insert_here k v (e ∷ es) h = step (same_sign (key_sign k) (key_sign e.0)) h (insert_here k v es)
  where
    step : (b : Bool) → (b || has_sign (map (λ e. e.0) (map entry_sign es)) (key_sign k)) ≡ false →
        (has_sign (map (λ e. e.0) (map entry_sign es)) (key_sign k) ≡ false →
        map entry_sign (insert_entry (λ a b. same_sign (key_sign a) (key_sign b)) es k v) ≡ map entry_sign es ++ (key_sign k, v) ∷ []) →
        map entry_sign (if b then ((e.0, v) ∷ es) else (e ∷ insert_entry (λ a b. same_sign (key_sign a) (key_sign b)) es k v)) ≡ entry_sign e ∷ (map entry_sign es ++ (key_sign k, v) ∷ [])
    step true h g = absurd (cc)
    step false h g = ap (λ l. entry_sign e ∷ l) (g h)

pub insert_seen : {T : Type 0} (k : Key) (v : T) (es more : List (Key × T)) (ys : List (Sign × T)) → map entry_sign es ≡ ys → has_sign (map (λ e. e.0) ys) (key_sign k) ≡ false →
    more ≡ insert_entry (λ a b. same_sign (key_sign a) (key_sign b)) es k v → map entry_sign more ≡ ys ++ (key_sign k, v) ∷ []
insert_seen k v es more ys e h m =
    let g : has_sign (map (λ e. e.0) (map entry_sign es)) (key_sign k) ≡ false = ap (λ l. has_sign (map (λ e. e.0) l) (key_sign k)) e ∙ h in
    ap (map entry_sign) m ∙ insert_here k v es g ∙ ap (λ l. l ++ (key_sign k, v) ∷ []) e
