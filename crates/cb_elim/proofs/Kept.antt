-- What the fields of a store keep through each of its calls.
use Rattle.std.proofs.Common.{◌≡◌, inl, inr, ℕ, ◌≤◌, Bool, List, [], ◌∷◌, ◌++◌, length, take, drop, refl, sym, ap, subst, ◌∙◌, arith}
use Rattle.std.proofs.lemmas.List.{drop-append-le, take-append-le, take-append-drop}
use Rattle.std.proofs.Math.Seq.{drop-length, take-length}
use Rattle.cb_dd.specs.declared.Node.{Node}
use Rattle.cb_dd.specs.declared.Triple.{Triple}
use Rattle.cb_dd.specs.Diagram.{Store}
use Rattle.cb_ops.specs.Ops.{Grows}
use Rattle.cb_trail.specs.declared.uses.Use.{Use}
use Rattle.cb_trail.specs.Uses.{StaysUsed}
use Rattle.cb_elim.specs.declared.Change.{Change}
use Rattle.cb_elim.specs.Store.{Seen, IsStore, OnlyNodes, AreThere}
use Rattle.cb_elim.specs.Moments.{Moment, IsMoment, changes_from, undone}
use Rattle.cb_elim.specs.Equation.{AreGeneral, AreRewritten, GeneralRoom, MovedRoom, SidesRoom}
use Rattle.cb_elim.proofs.Rooms.{general-first, general-second}
use Rattle.cb_ops.specs.Substitute.{Images}
use Rattle.cb_elim.specs.Unified.{OnlyValues}
use Rattle.cb_elim.specs.Watch.{AreWatched, Covers, IsWatched, KeepsUses, UsesNew}
use Rattle.cb_elim.proofs.Views.{only-nodes}
use Rattle.cb_elim.proofs.Changes.{undone-from}
use Rattle.cb_elim.proofs.Back.{take-undone}
use Rattle.cb_elim.proofs.Covering.{covers-back, covers-cut, covers-grown, covers-push, covers-uses}

-- what was cut off is gone
pub cut-triples : (s t : Store) → Grows s t → (n : ℕ) → n ≡ length s.triples → (us : List Triple) → us ≡ take n t.triples → us ≡ s.triples
cut-triples s t g n e us cut =
    cut ∙ ap (λ k. take k t.triples) e ∙ ap (λ ts. take (length s.triples) ts) g.triples ∙ take-append-le (length s.triples) s.triples g.more (omega arith) ∙ take-length s.triples

-- uses are added
pub watched-uses : (lent : Bool) (ts : List Triple) (c : ℕ) (ns : List Node) (trail : List Change) (us vs : List Use) → KeepsUses us vs → IsWatched lent ts c ns trail us → IsWatched lent ts c ns trail vs
watched-uses lent ts c ns trail us vs keeps (inl e) = inl e
watched-uses lent ts c ns trail us vs keeps (inr w) = inr (covers-uses c ts ns trail us vs keeps w)

module _ (now s : Seen) (is : s ≡ now) (st : IsStore now) (lent : Bool) (us : List Use) where
  here : IsStore s
  here = subst IsStore (sym is) st

  pub watched-grown : (t : Store) → Grows s.nodes t → IsWatched lent s.nodes.triples s.constants s.slots s.trail us → IsWatched lent t.triples s.constants s.slots s.trail us
  watched-grown t g (inl e) = inl e
  watched-grown t g (inr w) = inr (covers-grown s.constants s.nodes t g s.slots s.trail us here.nodes here.changed w)

  -- nodes and slots are as before
  pub watched-same : (ts : List Triple) → ts ≡ s.nodes.triples → (ns : List Node) → ns ≡ s.slots → IsWatched lent s.nodes.triples s.constants s.slots s.trail us → IsWatched lent ts s.constants ns s.trail us
  watched-same ts e ns f w = subst (λ (xs : List Triple). IsWatched lent xs s.constants ns s.trail us) (sym e) (subst (λ (xs : List Node). IsWatched lent s.nodes.triples s.constants xs s.trail us) (sym f) w)

  -- nodes that were made are cut away, and uses may have been added
  pub watched-cut : (t : Store) → Grows s.nodes t → (ws : List Use) → KeepsUses us ws → (n : ℕ) → n ≡ length s.nodes.triples → (ts : List Triple) → ts ≡ take n t.triples → (ns : List Node) → ns ≡ s.slots →
      IsWatched lent s.nodes.triples s.constants s.slots s.trail us → IsWatched lent ts s.constants ns s.trail ws
  watched-cut t g ws keeps n e ts cut ns f w = watched-uses lent ts s.constants ns s.trail us ws keeps (watched-same ts (cut-triples s.nodes t g n e ts cut) ns f w)

  -- a slot is added
  pub watched-push : (t : Store) → Grows s.nodes t → (ws : List Use) → KeepsUses us ws → (f : Node) (x : ℕ) → x ≡ length s.slots → UsesNew t.triples s.constants ws 0 f.0 x 0 → (items : List Node) → items ≡ s.slots ++ f ∷ [] →
      IsWatched lent s.nodes.triples s.constants s.slots s.trail us → IsWatched lent t.triples s.constants items s.trail ws
  watched-push t g ws keeps f x e uses items pushed (inl l) = inl l
  watched-push t g ws keeps f x e uses items pushed (inr w) = inr (subst (λ (ns : List Node). Covers t.triples s.constants ns s.trail ws) (sym pushed)
      (covers-push s.constants t.triples s.slots s.trail us ws (covers-grown s.constants s.nodes t g s.slots s.trail us here.nodes here.changed w) keeps here.trail f
      (subst (λ k. UsesNew t.triples s.constants ws 0 f.0 k 0) e uses)))

  -- going back to a moment
  pub watched-undo : (m : Moment) → IsMoment m now → (trail : List Change) → trail ≡ take m.trail s.trail → (ns : List Node) → ns ≡ take m.slots (undone (drop m.trail s.trail) s.slots) →
      (ws : List Use) → StaysUsed m.slots m.trail us ws → (u : Store) → u.triples ≡ take m.nodes s.nodes.triples →
      IsWatched lent s.nodes.triples s.constants s.slots s.trail us → IsWatched lent u.triples s.constants ns trail ws
  watched-undo m w trail te ns ne ws stays u cut (inl e) = inl e
  watched-undo m w trail te ns ne ws stays u cut (inr k) = inr (
      subst (λ (ts : List Triple). Covers ts s.constants ns trail ws) (sym cut)
      (subst (λ (cs : List Change). Covers (take m.nodes s.nodes.triples) s.constants ns cs ws) (sym te)
      (subst (λ (xs : List Node). Covers (take m.nodes s.nodes.triples) s.constants xs (take m.trail s.trail) ws) (sym ne)
      (covers-cut s.constants back s.nodes grows (take m.slots (undone (drop m.trail s.trail) s.slots)) (take m.trail s.trail) ws there q.store.changed
      (covers-back s.constants s.nodes.triples s.slots s.trail us ws m.slots m.trail q.trail k stays)))))
    where
      q : IsMoment m s
      q = subst (λ (o : Seen). IsMoment m o) (sym is) w

      back : Store
      back = record { budget = s.nodes.budget; triples = take m.nodes s.nodes.triples; fulls = s.nodes.fulls }

      grows : Grows back s.nodes
      grows = record { budget = refl; more = drop m.nodes s.nodes.triples; triples = sym (take-append-drop m.nodes s.nodes.triples); fulls = omega arith }

      there : AreThere (take m.nodes s.nodes.triples) (take m.slots (undone (drop m.trail s.trail) s.slots))
      there = subst (λ (xs : List Node). AreThere (take m.nodes s.nodes.triples) xs) (sym (take-undone m.slots (drop m.trail s.trail) s.slots)) q.store.nodes

-- nodes that a refused equation made are cut away
pub watched-refused : (old mid s : Seen) → s ≡ mid → IsStore old → OnlyNodes old mid → (lent : Bool) (us : List Use) (ts : List Triple) → ts ≡ old.nodes.triples →
    IsWatched lent s.nodes.triples s.constants s.slots s.trail us → IsWatched lent ts s.constants s.slots s.trail us
watched-refused old mid s is st o lent us ts e w =
    subst (λ (xs : List Triple). IsWatched lent xs s.constants s.slots s.trail us) (sym e)
    (subst (λ (q : Seen). IsWatched lent old.nodes.triples q.constants q.slots q.trail us) (sym (is ∙ o.same)) (back (subst (λ (q : Seen). IsWatched lent q.nodes.triples q.constants q.slots q.trail us) (is ∙ o.same) w)))
  where
    back : IsWatched lent mid.nodes.triples old.constants old.slots old.trail us → IsWatched lent old.nodes.triples old.constants old.slots old.trail us
    back (inl l) = inl l
    back (inr k) = inr (covers-cut old.constants old.nodes mid.nodes o.grows old.slots old.trail us st.nodes st.changed k)

-- what was rewritten before a stop is taken back
pub watched-restored : (ts : List Triple) (c : ℕ) (ns vs ws : List Node) (old new cs : List Change) (us xs : List Use) → length vs ≡ length ns → AreWatched ts c vs new us → cs ≡ take (length old) new → ws ≡ undone (drop (length old) new) vs → length old ≤ length new →
    StaysUsed (length ws) (length old) us xs → length ws ≡ length ns → Covers ts c ws cs xs
watched-restored ts c ns vs ws old new cs us xs number w ce we le stays long =
    subst (λ (ds : List Change). Covers ts c ws ds xs) (sym ce)
    (subst (λ (zs : List Node). Covers ts c zs (take (length old) new) xs) (ap (λ zs. take (length ws) zs) (sym we) ∙ take-length ws)
    (covers-back c ts vs new us xs (length ws) (length old) le w.covers stays))

-- ---- the slots rewritten, or as before

pub rewritten-trail : (ns vs : List Node) (old new : List Change) → AreRewritten ns vs old new → take (length old) new ≡ old
rewritten-trail ns vs old new r = ap (λ cs. take (length old) cs) r.changes ∙ take-append-le (length old) old (changes_from 0 ns vs) (omega arith) ∙ take-length old

pub rewritten-slots : (ns vs : List Node) (old new : List Change) → AreRewritten ns vs old new → undone (drop (length old) new) vs ≡ ns
rewritten-slots ns vs old new r =
    ap (λ cs. undone (drop (length old) cs) vs) r.changes
    ∙ ap (λ cs. undone cs vs) (drop-append-le (length old) old (changes_from 0 ns vs) (omega arith) ∙ ap (λ ds. ds ++ changes_from 0 ns vs) (drop-length old))
    ∙ undone-from [] ns vs (sym r.number)

module _ (now s : Seen) (is : s ≡ now) (st : IsStore now) (t : Store) (g : Grows s.nodes t) (vs : List Node) (new : List Change) (r : AreRewritten s.slots vs s.trail new) where
  pub put-only : OnlyValues now (record s { slots = vs; trail = new; nodes = t })
  put-only = subst (λ (o : Seen). OnlyValues o (record s { slots = vs; trail = new; nodes = t })) is (record {
    constants = refl;
    drawn = refl;
    free = refl;
    number = r.number;
    changes = changes_from 0 s.slots vs;
    trail = r.changes;
    listed = refl;
    slots = undone-from [] s.slots vs (sym r.number);
    nodes = g;
  })

  pub put-back : (ws : List Node) → ws ≡ undone (drop (length s.trail) new) vs → (cs : List Change) → cs ≡ take (length s.trail) new → OnlyNodes now (record s { slots = ws; trail = cs; nodes = t })
  put-back ws we cs ce =
      subst (λ (zs : List Node). OnlyNodes now (record s { slots = zs; trail = cs; nodes = t })) (sym (we ∙ rewritten-slots s.slots vs s.trail new r))
      (subst (λ (ds : List Change). OnlyNodes now (record s { slots = s.slots; trail = ds; nodes = t })) (sym (ce ∙ rewritten-trail s.slots vs s.trail new r))
      (only-nodes now s is st t g))

-- a slice that was lent of a list, and given back
pub whole-slice : (n : ℕ) (vs ns : List Node) → length vs ≡ length ns → n ≡ length ns → take n (vs ++ drop (length vs) ns) ≡ vs
whole-slice n vs ns same e =
    ap (λ k. take k (vs ++ drop (length vs) ns)) (e ∙ sym same)
    ∙ take-append-le (length vs) vs (drop (length vs) ns) (omega arith)
    ∙ take-length vs

-- ---- how many nodes

module _ (now s : Seen) (is : s ≡ now) (st : IsStore now) (t : Store) (g : Grows s.nodes t) (f h : ℕ) (first : SidesRoom f h s.nodes t) where
  pub solve-first : GeneralRoom now.slots f h now.nodes t
  solve-first = subst (λ (o : Seen). GeneralRoom o.slots f h o.nodes t) is (general-first s.nodes t t g s.slots (subst IsStore (sym is) st).nodes f h first)

  pub solve-second : (images : Images) (constants : ℕ) → AreGeneral s.nodes.triples t.triples constants f h images → (u : Store) → MovedRoom s.slots images t u → GeneralRoom now.slots f h now.nodes u
  solve-second images constants gen u second = subst (λ (o : Seen). GeneralRoom o.slots f h o.nodes u) is (general-second s.nodes t u g s.slots (subst IsStore (sym is) st).nodes f h first images constants gen second)
