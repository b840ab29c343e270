-- The search for the things that have a sort, step by step.
use Rattle.std.proofs.Common.{◌≡◌, ℕ, ◌<◌, Bool, false, List, [], ◌∷◌, ◌++◌, length, get_or, replicate, sym, ◌∙◌, ap, subst, arith, inl, inr}
use Rattle.std.specs.Prelude.{◌⊎◌, Contains}
use Rattle.std.proofs.lemmas.List.{length-replicate}
use Rattle.std.proofs.lemmas.List.Elements.{Contains-push, Contains-push_cases, Contains-append_left}
use Rattle.std.proofs.lemmas.Bool.{false≢true}
use Rattle.cb_model.specs.declared.Sort.{Sort}
use Rattle.cb_marking.specs.declared.links.Links.{Links}
use Rattle.cb_marking.specs.Marks.{HasSort, given, along, back, IsWithin}
use Rattle.cb_marking.specs.Search.{Joined, IsTable, HasStarts, IsSeen, Visited, Reaches}
use Rattle.cb_marking.proofs.Lists.{none_in, replicated}
use Rattle.cb_marking.proofs.Seen.{seen_within}

-- all that a thing is linked with is seen
abbrev pub Closed : List (ℕ × ℕ) → List Bool → ℕ → Type 0
Closed edges seen x = (y : ℕ) → Joined edges x y → IsSeen seen y

-- what is seen has the sort, and waits or has passed it on
pub record Reaching (m : Links) (s : Sort) (things : ℕ) (seen : List Bool) (waiting : List ℕ) : Type 0 where
  pub len : length seen ≡ things
  pub sound : (x : ℕ) → IsSeen seen x → HasSort m x s
  pub queued : (x : ℕ) → Contains waiting x → IsSeen seen x
  pub closed : (x : ℕ) → IsSeen seen x → Contains waiting x ⊎ Closed m.edges seen x
  pub starts : (x : ℕ) → Contains m.given (x, s) → IsSeen seen x

module _ (m : Links) (s : Sort) (n : ℕ) where
  not_yet : (x : ℕ) → IsSeen (replicate n false) x → ⊥
  not_yet x h = false≢true (sym (replicated n x false) ∙ h)

  module _ (starts : List ℕ) (from : HasStarts m.given s starts) (seen : List Bool) (waiting : List ℕ) (v : Visited starts (replicate n false) [] seen waiting) where
    start_sound : (x : ℕ) → IsSeen (replicate n false) x ⊎ (Contains starts x × Contains waiting x) → HasSort m x s
    start_sound x (inl h) = absurd (not_yet x h)
    start_sound x (inr h) = given (from.sound x h.0)

    start_closed : (x : ℕ) → IsSeen (replicate n false) x ⊎ (Contains starts x × Contains waiting x) → Contains waiting x ⊎ Closed m.edges seen x
    start_closed x (inl h) = absurd (not_yet x h)
    start_closed x (inr h) = inl h.1

    start_queued : (x : ℕ) → Contains [] x ⊎ IsSeen seen x → IsSeen seen x
    start_queued x (inl h) = absurd (none_in x h)
    start_queued x (inr h) = h

    pub Reaching-start : Reaching m s n seen waiting
    Reaching-start = record {
      len = v.len ∙ length-replicate n false;
      sound = λ x h. start_sound x (v.only x h);
      queued = λ x h. start_queued x (v.seen_waits x h);
      closed = λ x h. start_closed x (v.only x h);
      starts = λ x h. v.all x (from.whole x h);
    }

  module _ (table : List (List ℕ)) (linked : IsTable m.edges n table) (seen : List Bool) (old left : List ℕ) (x : ℕ) (r : Reaching m s n seen old) (pop : old ≡ left ++ x ∷ []) where
    waited : Contains old x
    waited = subst (λ (l : List ℕ). Contains l x) (sym pop) (Contains-push left x)

    pub popped : IsSeen seen x
    popped = r.queued x waited

    -- what is linked with the thing has the sort
    passes : (y : ℕ) → Joined m.edges x y → HasSort m y s
    passes y (inl e) = along x e (r.sound x popped)
    passes y (inr e) = back x e (r.sound x popped)

    module _ (now : List Bool) (waiting : List ℕ) (v : Visited (get_or table x []) seen left now waiting) where
      step_sound : (y : ℕ) → IsSeen seen y ⊎ (Contains (get_or table x []) y × Contains waiting y) → HasSort m y s
      step_sound y (inl h) = r.sound y h
      step_sound y (inr h) = passes y (linked.linked x y h.0)

      step_queued : (y : ℕ) → Contains left y ⊎ IsSeen now y → IsSeen now y
      step_queued y (inl h) = v.still y (r.queued y (subst (λ (l : List ℕ). Contains l y) (sym pop) (Contains-append_left left (x ∷ []) y h)))
      step_queued y (inr h) = h

      waits_on : (y : ℕ) → Contains left y ⊎ (x ≡ y) → Contains waiting y ⊎ Closed m.edges now y
      waits_on y (inl h) = inl (v.waits y h)
      waits_on y (inr e) = inr (λ z j. v.all z (linked.whole x z (subst (λ w. Joined m.edges w z) (sym e) j)))

      was_closed : (y : ℕ) → Contains old y ⊎ Closed m.edges seen y → Contains waiting y ⊎ Closed m.edges now y
      was_closed y (inl h) = waits_on y (Contains-push_cases left x y (subst (λ (l : List ℕ). Contains l y) pop h))
      was_closed y (inr h) = inr (λ z j. v.still z (h z j))

      step_closed : (y : ℕ) → IsSeen seen y ⊎ (Contains (get_or table x []) y × Contains waiting y) → Contains waiting y ⊎ Closed m.edges now y
      step_closed y (inl h) = was_closed y (r.closed y h)
      step_closed y (inr h) = inl h.1

      pub Reaching-step : Reaching m s n now waiting
      Reaching-step = record {
        len = v.len ∙ r.len;
        sound = λ y h. step_sound y (v.only y h);
        queued = λ y h. step_queued y (v.seen_waits y h);
        closed = λ y h. step_closed y (v.only y h);
        starts = λ y h. v.still y (r.starts y h);
      }

  module _ (seen : List Bool) (r : Reaching m s n seen []) where
    at_end : (x : ℕ) → IsSeen seen x → Closed m.edges seen x
    at_end x h = now (r.closed x h)
      where
        now : Contains [] x ⊎ Closed m.edges seen x → Closed m.edges seen x
        now (inl w) = absurd (none_in x w)
        now (inr w) = w

  all_seen : {x : ℕ} {t : Sort} → HasSort m x t → (seen : List Bool) → ((y : ℕ) → Contains m.given (y, t) → IsSeen seen y) → ((y : ℕ) → IsSeen seen y → Closed m.edges seen y) → IsSeen seen x
  all_seen {x} (given h) seen starts closed = starts x h
  all_seen {x} (along y e h) seen starts closed = closed y (all_seen h seen starts closed) x (inl e)
  all_seen {x} (back y e h) seen starts closed = closed y (all_seen h seen starts closed) x (inr e)

  pub Reaching-end : (seen : List Bool) (waiting : List ℕ) → waiting ≡ [] → Reaching m s n seen waiting → Reaches m s n seen
  Reaching-end seen waiting e k =
      let r : Reaching m s n seen [] = subst (Reaching m s n seen) e k in
      record { len = r.len; sound = r.sound; whole = λ x h. all_seen h seen r.starts (at_end seen r) }

-- ---- the same, at the lists that the code has

module _ (m : Links) (s : Sort) (n : ℕ) where
  pub starts_within : IsWithin m n → (starts slice : List ℕ) (seen : List Bool) → HasStarts m.given s starts → slice ≡ starts → seen ≡ replicate n false → (x : ℕ) → Contains slice x → x < length seen
  starts_within w starts slice seen h e f x c =
      let l : x < n = w.given x s (h.sound x (subst (λ (l : List ℕ). Contains l x) e c)) in
      omega (arith, l, ap length f, length-replicate n false)

  pub Reaching-begin : (starts slice : List ℕ) (none : List Bool) (empty : List ℕ) (seen : List Bool) (waiting : List ℕ) → HasStarts m.given s starts → slice ≡ starts → none ≡ replicate n false → empty ≡ [] →
      Visited slice none empty seen waiting → Reaching m s n seen waiting
  Reaching-begin starts slice none empty seen waiting h e f g v =
      Reaching-start m s n starts h seen waiting
      (subst (λ (l : List ℕ). Visited starts (replicate n false) l seen waiting) g (subst (λ (l : List Bool). Visited starts l empty seen waiting) f (subst (λ (l : List ℕ). Visited l none empty seen waiting) e v)))

  module _ (table : List (List ℕ)) (all : length table ≡ n) (linked : IsTable m.edges n table) (seen : List Bool) (old left : List ℕ) (x : ℕ) (r : Reaching m s n seen old) (pop : old ≡ left ++ x ∷ []) where
    pub popped_within : x < length table
    popped_within = omega (arith, all, r.len, seen_within seen x (popped m s n table linked seen old left x r pop))

    module _ (slice : List ℕ) (is_row : slice ≡ get_or table x []) where
      pub row_within : IsWithin m n → (y : ℕ) → Contains slice y → y < length seen
      row_within w y c = omega (arith, r.len, next (linked.linked x y (subst (λ (l : List ℕ). Contains l y) is_row c)))
        where
          next : Joined m.edges x y → y < n
          next (inl e) = (w.edges x y e).1
          next (inr e) = (w.edges y x e).0

      pub Reaching-next : (now : List Bool) (waiting : List ℕ) → Visited slice seen left now waiting → Reaching m s n now waiting
      Reaching-next now waiting v = Reaching-step m s n table linked seen old left x r pop now waiting (subst (λ (l : List ℕ). Visited l seen left now waiting) is_row v)
