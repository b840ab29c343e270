-- The table of what is linked, row by row.
use Rattle.std.proofs.Common.{◌≡◌, ℕ, ◌+◌, ◌<◌, List, [], ◌∷◌, ◌++◌, length, take, get_or, set, replicate, sym, ◌∙◌, ap, subst, arith, inl, inr}
use Rattle.std.specs.Prelude.{◌⊎◌, Contains}
use Rattle.std.proofs.Math.ListN.{length-set}
use Rattle.std.proofs.lemmas.List.{length-replicate, get_or-set_other, take_more}
use Rattle.std.proofs.lemmas.List.Elements.{Contains-push, Contains-push_cases, Contains-append_left, Contains-get_or}
use Rattle.std.proofs.lemmas.Bool.{cases_eq}
use Rattle.cb_model.specs.declared.Sort.{Sort}
use Rattle.cb_marking.specs.declared.links.Links.{Links}
use Rattle.cb_marking.specs.Marks.{IsWithin}
use Rattle.cb_marking.specs.Search.{Joined, IsTable, HasStarts}
use Rattle.cb_marking.proofs.Lists.{none_in, replicated, at_place}

-- the rows are those of a relation
pub record HasRows (R : ℕ → ℕ → Type 0) (table : List (List ℕ)) : Type 0 where
  pub sound : (x y : ℕ) → Contains (get_or table x []) y → R x y
  pub whole : (x y : ℕ) → R x y → Contains (get_or table x []) y

-- one pair more
abbrev pub With : (ℕ → ℕ → Type 0) → ℕ → ℕ → ℕ → ℕ → Type 0
With R x y a b = R a b ⊎ ((a ≡ x) × (b ≡ y))

module _ (R : ℕ → ℕ → Type 0) (table : List (List ℕ)) (x y : ℕ) (h : HasRows R table) (within : x < length table) where
  abbrev row : List ℕ
  row = get_or table x [] ++ y ∷ []

  old_row : (a b : ℕ) → a ≡ x → Contains (get_or table x []) b ⊎ (y ≡ b) → With R x y a b
  old_row a b e (inl c) = inl (h.sound a b (subst (λ n. Contains (get_or table n []) b) (sym e) c))
  old_row a b e (inr f) = inr (e, sym f)

  put_sound : (a b : ℕ) → (a ≡ x) ⊎ (a ≡ x → ⊥) → Contains (get_or (set table x row) a []) b → With R x y a b
  put_sound a b (inl e) c = old_row a b e (Contains-push_cases (get_or table x []) y b (subst (λ (l : List ℕ). Contains l b) (at_place table x a row [] within e) c))
  put_sound a b (inr n) c = inl (h.sound a b (subst (λ (l : List ℕ). Contains l b) (get_or-set_other table x a row [] n) c))

  put_whole : (a b : ℕ) → (a ≡ x) ⊎ (a ≡ x → ⊥) → With R x y a b → Contains (get_or (set table x row) a []) b
  put_whole a b (inl e) (inl r) =
      subst (λ (l : List ℕ). Contains l b) (sym (at_place table x a row [] within e)) (Contains-append_left (get_or table x []) (y ∷ []) b (subst (λ n. Contains (get_or table n []) b) e (h.whole a b r)))
  put_whole a b (inl e) (inr p) = subst (λ (l : List ℕ). Contains l b) (sym (at_place table x a row [] within e)) (subst (Contains row) (sym p.1) (Contains-push (get_or table x []) y))
  put_whole a b (inr n) (inl r) = subst (λ (l : List ℕ). Contains l b) (sym (get_or-set_other table x a row [] n)) (h.whole a b r)
  put_whole a b (inr n) (inr p) = absurd (n p.0)

  pub HasRows-put : HasRows (With R x y) (set table x row)
  HasRows-put = record { sound = λ a b c. put_sound a b (cases_eq a x) c; whole = λ a b r. put_whole a b (cases_eq a x) r }

module _ (edges : List (ℕ × ℕ)) (n : ℕ) (x y : ℕ) where
  pair_left : (a b c d : ℕ) → ◌≡◌ {A = ℕ × ℕ} (a, b) (c, d) → a ≡ c
  pair_left a b c d e = ap (λ (p : ℕ × ℕ). p.0) e

  pair_right : (a b c d : ℕ) → ◌≡◌ {A = ℕ × ℕ} (a, b) (c, d) → b ≡ d
  pair_right a b c d e = ap (λ (p : ℕ × ℕ). p.1) e

  abbrev Both : ℕ → ℕ → Type 0
  Both = With (With (Joined edges) x y) y x

  new_at : (a b : ℕ) → a ≡ x → b ≡ y → Contains (edges ++ (x, y) ∷ []) (a, b)
  new_at a b e f = subst (Contains (edges ++ (x, y) ∷ [])) (λ i. (sym e i, sym f i)) (Contains-push edges (x, y))

  joined_more : (a b : ℕ) → Both a b → Joined (edges ++ (x, y) ∷ []) a b
  joined_more a b (inl (inl (inl c))) = inl (Contains-append_left edges ((x, y) ∷ []) (a, b) c)
  joined_more a b (inl (inl (inr c))) = inr (Contains-append_left edges ((x, y) ∷ []) (b, a) c)
  joined_more a b (inl (inr p)) = inl (new_at a b p.0 p.1)
  joined_more a b (inr p) = inr (new_at b a p.1 p.0)

  left_cases : (a b : ℕ) → Contains edges (a, b) ⊎ (◌≡◌ {A = ℕ × ℕ} (x, y) (a, b)) → Both a b
  left_cases a b (inl c) = inl (inl (inl c))
  left_cases a b (inr e) = inl (inr (sym (pair_left x y a b e), sym (pair_right x y a b e)))

  right_cases : (a b : ℕ) → Contains edges (b, a) ⊎ (◌≡◌ {A = ℕ × ℕ} (x, y) (b, a)) → Both a b
  right_cases a b (inl c) = inl (inl (inr c))
  right_cases a b (inr e) = inr (sym (pair_right x y b a e), sym (pair_left x y b a e))

  joined_less : (a b : ℕ) → Joined (edges ++ (x, y) ∷ []) a b → Both a b
  joined_less a b (inl c) = left_cases a b (Contains-push_cases edges (x, y) (a, b) c)
  joined_less a b (inr c) = right_cases a b (Contains-push_cases edges (x, y) (b, a) c)

  module _ (table : List (List ℕ)) (t : IsTable edges n table) (low : x < n) (high : y < n) where
    abbrev first : List (List ℕ)
    first = set table x (get_or table x [] ++ y ∷ [])

    first_len : length first ≡ n
    first_len = length-set table x (get_or table x [] ++ y ∷ []) ∙ t.len

    rows : HasRows Both (set first y (get_or first y [] ++ x ∷ []))
    rows =
        let l : x < length table = omega (arith, t.len) in
        let k : y < length first = omega (arith, first_len) in
        HasRows-put (With (Joined edges) x y) first y x (HasRows-put (Joined edges) table x y (record { sound = t.linked; whole = t.whole }) l) k

    pub IsTable-more : IsTable (edges ++ (x, y) ∷ []) n (set first y (get_or first y [] ++ x ∷ []))
    IsTable-more = record {
      len = length-set first y (get_or first y [] ++ x ∷ []) ∙ first_len;
      linked = λ a b c. joined_more a b (rows.sound a b c);
      whole = λ a b j. rows.whole a b (joined_less a b j);
    }

  pub IsTable-step : (table second third : List (List ℕ)) → IsTable edges n table → x < n → y < n → second ≡ set table x (get_or table x [] ++ y ∷ []) → third ≡ set second y (get_or second y [] ++ x ∷ []) →
      IsTable (edges ++ (x, y) ∷ []) n third
  IsTable-step table second third t low high e f =
      subst (IsTable (edges ++ (x, y) ∷ []) n) (sym (f ∙ ap (λ (l : List (List ℕ)). set l y (get_or l y [] ++ x ∷ [])) e)) (IsTable-more table t low high)

-- nothing is linked
pub IsTable-none : (n : ℕ) → IsTable [] n (replicate n [])
IsTable-none n = record {
  len = length-replicate n [];
  linked = λ a b c. absurd (none_in b (subst (λ (l : List ℕ). Contains l b) (replicated n a []) c));
  whole = λ a b j. absurd (nowhere a b j);
}
  where
    nowhere : (a b : ℕ) → Joined [] a b → ⊥
    nowhere a b (inl c) = none_in (a, b) c
    nowhere a b (inr c) = none_in (b, a) c

-- ---- the things that are given a sort

module _ (gs : List (ℕ × Sort)) (s : Sort) (starts : List ℕ) (h : HasStarts gs s starts) (x : ℕ) (t : Sort) where
  push_sound : t ≡ s → (y : ℕ) → Contains starts y ⊎ (x ≡ y) → Contains (gs ++ (x, t) ∷ []) (y, s)
  push_sound e y (inl c) = Contains-append_left gs ((x, t) ∷ []) (y, s) (h.sound y c)
  push_sound e y (inr f) = subst (Contains (gs ++ (x, t) ∷ [])) (λ i. (f i, e i)) (Contains-push gs (x, t))

  push_whole : (y : ℕ) → Contains gs (y, s) ⊎ (◌≡◌ {A = ℕ × Sort} (x, t) (y, s)) → Contains (starts ++ x ∷ []) y
  push_whole y (inl c) = Contains-append_left starts (x ∷ []) y (h.whole y c)
  push_whole y (inr e) = subst (Contains (starts ++ x ∷ [])) (ap (λ (p : ℕ × Sort). p.0) e) (Contains-push starts x)

  pub HasStarts-push : t ≡ s → HasStarts (gs ++ (x, t) ∷ []) s (starts ++ x ∷ [])
  HasStarts-push e = record { sound = λ y c. push_sound e y (Contains-push_cases starts x y c); whole = λ y c. push_whole y (Contains-push_cases gs (x, t) (y, s) c) }

  skip_whole : (t ≡ s → ⊥) → (y : ℕ) → Contains gs (y, s) ⊎ (◌≡◌ {A = ℕ × Sort} (x, t) (y, s)) → Contains starts y
  skip_whole n y (inl c) = h.whole y c
  skip_whole n y (inr e) = absurd (n (ap (λ (p : ℕ × Sort). p.1) e))

  pub HasStarts-skip : (t ≡ s → ⊥) → HasStarts (gs ++ (x, t) ∷ []) s starts
  HasStarts-skip n = record { sound = λ y c. Contains-append_left gs ((x, t) ∷ []) (y, s) (h.sound y c); whole = λ y c. skip_whole n y (Contains-push_cases gs (x, t) (y, s) c) }

pub HasStarts-none : (s : Sort) → HasStarts [] s []
HasStarts-none s = record { sound = λ y c. absurd (none_in y c); whole = λ y c. absurd (none_in (y, s) c) }

-- ---- the same, at the lists that the code has

pub table_none : (n : ℕ) (table : List (List ℕ)) → table ≡ replicate n [] → IsTable [] n table
table_none n table e = subst (IsTable [] n) (sym e) (IsTable-none n)

module _ (m : Links) (n : ℕ) (w : IsWithin m n) (slice : List (ℕ × ℕ)) (lent : slice ≡ m.edges) (i : ℕ) (within : i < length slice) where
  abbrev pair : ℕ × ℕ
  pair = get_or slice i (0, 0)

  pub pair_within : (pair.0 < n) × (pair.1 < n)
  pair_within = w.edges pair.0 pair.1 (subst (λ (l : List (ℕ × ℕ)). Contains l (get_or slice i (0, 0))) lent (Contains-get_or slice i (0, 0) within))

  taken_more : take (i + 1) m.edges ≡ take i m.edges ++ pair ∷ []
  taken_more = sym (ap (take (i + 1)) lent) ∙ take_more slice i (0, 0) within ∙ ap (λ (l : List (ℕ × ℕ)). take i l ++ pair ∷ []) lent

  pub table_next : (table second third : List (List ℕ)) → IsTable (take i m.edges) n table → second ≡ set table pair.0 (get_or table pair.0 [] ++ pair.1 ∷ []) →
      third ≡ set second pair.1 (get_or second pair.1 [] ++ pair.0 ∷ []) → IsTable (take (i + 1) m.edges) n third
  table_next table second third t e f =
      subst (λ (l : List (ℕ × ℕ)). IsTable l n third) (sym taken_more) (IsTable-step (take i m.edges) n pair.0 pair.1 table second third t pair_within.0 pair_within.1 e f)

module _ (gs slice : List (ℕ × Sort)) (lent : slice ≡ gs) (s d : Sort) (i : ℕ) (within : i < length slice) (starts : List ℕ) (h : HasStarts (take i gs) s starts) where
  abbrev here : ℕ × Sort
  here = get_or slice i (0, d)

  given_more : take (i + 1) gs ≡ take i gs ++ here ∷ []
  given_more = sym (ap (take (i + 1)) lent) ∙ take_more slice i (0, d) within ∙ ap (λ (l : List (ℕ × Sort)). take i l ++ here ∷ []) lent

  pub starts_next : (more : List ℕ) → here.1 ≡ s → more ≡ starts ++ here.0 ∷ [] → HasStarts (take (i + 1) gs) s more
  starts_next more e f =
      subst (λ (l : List (ℕ × Sort)). HasStarts l s more) (sym given_more) (subst (HasStarts (take i gs ++ here ∷ []) s) (sym f) (HasStarts-push (take i gs) s starts h here.0 here.1 e))

  pub starts_past : (more : List ℕ) → (here.1 ≡ s → ⊥) → more ≡ starts → HasStarts (take (i + 1) gs) s more
  starts_past more e f =
      subst (λ (l : List (ℕ × Sort)). HasStarts l s more) (sym given_more) (subst (HasStarts (take i gs ++ here ∷ []) s) (sym f) (HasStarts-skip (take i gs) s starts h here.0 here.1 e))
