-- Links that are followed, and marked as done.
use Rattle.std.proofs.Common.{◌≡◌, ◌≢◌, ◌⊎◌, inl, inr, ℕ, ◌<◌, ◌≤◌, List, [], length, Option, Some, None, refl, sym, ap, subst, ◌∙◌, arith}
use Rattle.std.specs.Prelude.{slice_get, slice_set, get_or}
use Rattle.std.proofs.lemmas.Bool.{cases_eq}
use Rattle.std.proofs.lemmas.Option.{slice_get_within, slice_get-get_or}
use Rattle.cb_heap.specs.declared.Stored.{Stored}
use Rattle.cb_heap.specs.declared.Stored.TheVariants as cell
use Rattle.cb_heap.specs.declared.Ref.{Ref}
use Rattle.cb_heap.specs.Finite.{IsFinite, ends}
use Rattle.cb_heap.specs.Links.{IsLast, IsLinked, LeadsTo, arrives, chain, link_of}
use Rattle.cb_heap.proofs.Chains.{chain-falls, last-is, leads-finite, leads-on, link-within, links-name}
use Rattle.cb_heap.proofs.Steps.{some-inj, no_some, get-set-other}
use Rattle.cb_join.specs.declared.cycle.Mark.{Mark}
use Rattle.cb_join.specs.declared.cycle.Mark.TheVariants as mark
use Rattle.cb_join.specs.declared.cycle.Frame.{Frame}
use Rattle.cb_join.specs.declared.cycle.Work.{Work}
use Rattle.cb_join.specs.Cycle.{AreDone, AreFinite, AreNew, FrameHolds, Frames, Goes, IsDone, IsDoneOrEnd, IsLinkTo, MoreDone, IsIdle, IsNoted, StaysMet, left_of}
use Rattle.cb_join.proofs.Ways.{done-new, each-map, left-set, mark-at, mark-finite, new-done, new-frames, new-noted, no-mark, stays-refl, stays-set}

-- ---- where a cell leads

pub link-to : (cs : List Stored) (r : ℕ) → r < length cs → (o : Option Ref) → ((c : Stored) → slice_get cs r ≡ Some c → o ≡ link_of c) → (to : Ref) → o ≡ Some to → IsLinkTo cs r to
link-to cs r less o h to e = let is = slice_get-get_or cs r (cell.Leaf 0) less in (get_or cs r (cell.Leaf 0), is, sym (h (get_or cs r (cell.Leaf 0)) is) ∙ e)

pub link-end : (cs : List Stored) (ms : List Mark) (floor r : ℕ) → r < length cs → (o : Option Ref) → ((c : Stored) → slice_get cs r ≡ Some c → o ≡ link_of c) → o ≡ None → IsDoneOrEnd cs ms floor r
link-end cs ms floor r less o h e = let is = slice_get-get_or cs r (cell.Leaf 0) less in (less, inr (get_or cs r (cell.Leaf 0), is, sym (h (get_or cs r (cell.Leaf 0)) is) ∙ e))

module _ (cs : List Stored) (linked : IsLinked cs) (at : ℕ) (to : Ref) (link : IsLinkTo cs at to) where
  pub link-there : to.0 < length cs
  link-there = link-within cs linked at link.0 to link.1 link.2

  pub link-falls : chain cs to.0 < chain cs at
  link-falls = chain-falls cs linked at link.0 to link.1 link.2

  pub leads-further : (r : ℕ) → LeadsTo cs r at → LeadsTo cs r to.0
  leads-further r k = leads-on cs r at link.0 to k link.1 link.2

pub finite-on : (cs : List Stored) (at : ℕ) (to : Ref) → IsLinkTo cs at to → IsFinite cs at → IsFinite cs to.0
finite-on cs at to link (ends f) = f to.0 (link.0, link.1, links-name at link.0 to link.2)

-- ---- one link more is done

module _ (cs : List Stored) (ms : List Mark) (at : ℕ) (to : Ref) (number : length cs ≤ length ms) (link : IsLinkTo cs at to) where
  old : Mark
  old = get_or ms at mark.New

  pub marked : at < length ms
  marked = let a = slice_get_within cs at link.0 link.1 in omega (arith, number, a)

  was : slice_get ms at ≡ Some old
  unfolding old marked
  was = slice_get-get_or ms at mark.New marked

  apart : (h : Frame) → FrameHolds cs ms h → h.cell ≢ at
  apart h q same = no_some (link_of q.cell) to q.no_link (ap link_of (some-inj q.cell link.0 (sym q.there ∙ ap (λ k. slice_get cs k) same ∙ link.1)) ∙ link.2)

  frames-done : (fs : List Frame) → Frames cs ms fs → Frames cs (slice_set ms at mark.Done) fs
  frames-done fs w = record {
    holds = each-map (FrameHolds cs ms) (FrameHolds cs (slice_set ms at mark.Done)) fs (λ h q. record {
      cell = q.cell;
      there = q.there;
      no_link = q.no_link;
      is_open = get-set-other ms at h.cell mark.Done (apart h q) ∙ q.is_open;
      before = q.before;
      next = q.next;
    }) w.holds;
    descends = w.descends;
    met = λ r o. elim (cases_eq r at) [
      | inl same ↦ absurd (no-mark mark.Done refl (mark-at ms at mark.Done mark.Open old was (subst (λ q. slice_get (slice_set ms at mark.Done) q ≡ Some mark.Open) same o)))
      | inr other ↦ w.met r (sym (get-set-other ms at r mark.Done other) ∙ o)
    ];
  }

  pub one-done : IsFinite cs at → MoreDone cs ms (slice_set ms at mark.Done)
  one-done finite = record {
    frames = frames-done;
    done = λ d r o. elim (cases_eq r at) [
      | inl same ↦ subst (IsFinite cs) (sym same) finite
      | inr other ↦ d r (sym (get-set-other ms at r mark.Done other) ∙ o)
    ];
    stays = stays-set ms at mark.Done old was (λ h. done-new mark.Done refl h);
    less = let a = left-set cs ms at link.0 old mark.Done link.1 was in let z : left_of link.0 mark.Done ≡ 0 = refl in omega (arith, a, z);
  }

pub wide : (cs : List Stored) (ms ms' : List Mark) → length cs ≤ length ms → length ms' ≡ length ms → length cs ≤ length ms'
wide cs ms ms' h e = omega (arith, h, e)

pub none-done : (cs : List Stored) (ms : List Mark) → MoreDone cs ms ms
none-done cs ms = record { frames = λ fs w. w; done = λ d. d; stays = stays-refl ms; less = omega arith }

stays-then : (a b d : List Mark) → StaysMet a b → StaysMet b d → StaysMet a d
stays-then a b d p q r m at n = let x = p r m at n in q r x.0 x.1 x.2

pub more-then : (cs : List Stored) (a b d : List Mark) → MoreDone cs a b → MoreDone cs b d → MoreDone cs a d
more-then cs a b d p q = record {
  frames = λ fs w. q.frames fs (p.frames fs w);
  done = λ h. q.done (p.done h);
  stays = stays-then a b d p.stays q.stays;
  less = let x = p.less in let y = q.less in omega (arith, x, y);
}

-- a step after more links were done
pub goes-after : (cs : List Stored) (ms ms' ms'' : List Mark) (fs fs' : List Frame) (f : Frame) → MoreDone cs ms ms' → Goes cs ms' fs f ms'' fs' → Goes cs ms fs f ms'' fs'
goes-after cs ms ms' ms'' fs fs' f p q = record {
  frames = q.frames;
  done = q.done;
  stays = stays-then ms ms' ms'' p.stays q.stays;
  less = let x = p.less in let y = q.less in omega (arith, x, y);
}

-- ---- the cell past the links

-- it is the end, where it isn't done
pub end-is : (cs : List Stored) (ks hs ms : List Mark) → ks ≡ ms → hs ≡ ms → (floor r e : ℕ) (m : Mark) → LeadsTo cs r e → IsDoneOrEnd cs ks floor e → (e < floor → m ≡ mark.Done) → ((m ≡ mark.Done → ⊥) → slice_get hs e ≡ Some m) →
    (m ≡ mark.Done → ⊥) → IsLast cs r e
end-is cs ks hs ms sk sh floor r e m leads stops low other n = elim stops.1 [
  | inl done ↦ elim done [
    | inl less ↦ absurd (n (low less))
    | inr at ↦ absurd (n (some-inj m mark.Done (sym (other n) ∙ ap (λ (x : List Mark). slice_get x e) (sh ∙ sym sk) ∙ at)))
  ]
  | inr end ↦ last-is cs r e end.0 end.1 end.2 leads
]

pub ended-within : (cs : List Stored) (ms : List Mark) (floor e : ℕ) → length cs ≤ length ms → IsDoneOrEnd cs ms floor e → e < length ms
ended-within cs ms floor e number h = let a = h.0 in omega (arith, number, a)

pub follow-within : (cs : List Stored) (ks ms : List Mark) → ks ≡ ms → (floor e : ℕ) → length cs ≤ length ms → IsDoneOrEnd cs ks floor e → e < length ms
follow-within cs ks ms same floor e number h = let a = h.0 in omega (arith, number, a)

-- the cell that it leads to is done, so every way down from it ends
pub followed-finite : (cs : List Stored) (ks ms : List Mark) → ks ≡ ms → (floor r e : ℕ) (m : Mark) → LeadsTo cs r e → m ≡ mark.Done → (m ≡ mark.Done → IsDone ks floor e) → AreFinite cs floor → AreDone cs ms → IsFinite cs r
followed-finite cs ks ms same floor r e m leads is h low done =
    leads-finite cs r e leads (mark-finite cs ms e floor low done (subst (λ (x : List Mark). (e < floor) ⊎ (slice_get x e ≡ Some mark.Done)) same (h is)))

pub ended-is : (cs : List Stored) (ms : List Mark) (floor e : ℕ) (m : Mark) → m ≡ mark.New → (e < floor → m ≡ mark.Done) → slice_get ms e ≡ Some mark.New → IsDoneOrEnd cs ms floor e → IsLast cs e e
ended-is cs ms floor e m is low at stops =
    end-is cs ms ms ms refl refl floor e e m arrives stops low (λ _. at ∙ ap Some (sym is)) (λ d. done-new m d is)

pub way-finite : (cs : List Stored) (r e : ℕ) → LeadsTo cs r e → IsFinite cs e → IsFinite cs r
way-finite = leads-finite

-- ---- the search with nothing on the way

pub more-idle : (cs : List Stored) (floor : ℕ) (w w' : Work) → IsIdle cs floor w → MoreDone cs w.marks.items w'.marks.items → length w'.marks.items ≡ length w.marks.items → IsNoted w'.marks.items w'.met.items → w'.way.items ≡ w.way.items →
    IsIdle cs floor w'
more-idle cs floor w w' h more number noted way = record {
  search = record {
    low = h.search.low;
    number = wide cs w.marks.items w'.marks.items h.search.number number;
    noted = noted;
    done = more.done h.search.done;
    frames = more.frames [] h.search.frames;
  };
  empty = way ∙ h.empty;
}

pub new-idle : (cs : List Stored) (floor : ℕ) (w : Work) → AreFinite cs floor → length cs ≤ length w.marks.items → AreNew w.marks.items → w.met.items ≡ [] → w.way.items ≡ [] → IsIdle cs floor w
new-idle cs floor w low number new met way = record {
  search = record { low = low; number = number; noted = new-noted w.marks.items w.met.items new met; done = new-done cs w.marks.items new; frames = new-frames cs w.marks.items new };
  empty = way;
}

pub settled-idle : (cs : List Stored) (before floor : ℕ) (w : Work) → IsIdle cs before w → AreFinite cs floor → IsIdle cs floor w
settled-idle cs before floor w h low = record {
  search = record { low = low; number = h.search.number; noted = h.search.noted; done = h.search.done; frames = h.search.frames };
  empty = h.empty;
}
