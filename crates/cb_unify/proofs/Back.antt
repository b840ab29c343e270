-- The way back to moments.
use Rattle.std.proofs.Common.{◌≡◌, ℕ, List, ◌++◌, length, take, refl, sym, ap, subst, ◌∙◌, arith, length-append}
use Rattle.std.proofs.lemmas.List.{take-append-le}
use Rattle.std.proofs.Math.Seq.{take-length}
use Rattle.cb_elim.specs.Moments.{KeepsMoments as KeepsBools}
use Rattle.cb_elim.specs.Store.{Seen as Booleans}
use Rattle.cb_elim.specs.Moments.{reverted as bool_reverted}
use Rattle.cb_elim.proofs.Views.{empty-store, store-fulls}
use Rattle.cb_heap.specs.Finite.{ends}
use Rattle.cb_heap.specs.Heap.{Terms}
use Rattle.cb_heap.specs.Moments.{reverted as term_reverted}
use Rattle.cb_heap.proofs.Steps.{no_some}
use Rattle.cb_elim.proofs.Back.{back-now as bools-now, moment-now as bools-moment, keeps-fulls as keeps-bool-fulls}
use Rattle.cb_heap.specs.Moments.{KeepsMoments as KeepsTerms}
use Rattle.cb_heap.proofs.Back.{back-now as terms-now, moment-now as terms-moment}
use Rattle.cb_unify.specs.State.{Seen, IsState, no_state, with_fulls}
use Rattle.cb_unify.specs.Moments.{Moment, IsMoment, KeepsMoments, moment_of, reverted}

-- the count of refusals says nothing of the state
pub state-fulls : (n : ℕ) (s : Seen) → IsState s → IsState (with_fulls n s)
state-fulls n s is = record { store = store-fulls n s.store is.store; heap = is.heap; finite = is.finite; rise = is.rise; made = is.made }

-- terms and Boolean variables keep their moments, and variables were made
module _ (old new : Seen) (ks : KeepsBools old.store new.store) (kh : KeepsTerms old.heap new.heap) (more : List ℕ) (made : new.made ≡ old.made ++ more) (m : Moment) (w : IsMoment m old) where
  made-back : take m.made new.made ≡ take m.made old.made
  made-back = ap (λ xs. take m.made xs) made ∙ take-append-le m.made old.made more w.made

  same-back : reverted m new ≡ with_fulls new.store.nodes.fulls (reverted m old)
  same-back = λ i. record { heap = kh.same m.heap w.heap i; store = ks.same m.store w.store i; made = made-back i }

  moment-back : IsMoment m new
  moment-back = record {
    heap = kh.moments m.heap w.heap;
    store = ks.moments m.store w.store;
    made = let h = w.made in let e = ap length made in omega (arith, length-append old.made more);
    state = subst IsState (sym same-back) (state-fulls new.store.nodes.fulls (reverted m old) w.state);
  }

pub keeps-both : (old new : Seen) → KeepsBools old.store new.store → KeepsTerms old.heap new.heap → (more : List ℕ) → new.made ≡ old.made ++ more → KeepsMoments old new
keeps-both old new ks kh more made = record {
  moments = λ m w. moment-back old new ks kh more made m w;
  same = λ m w. same-back old new ks kh more made m w;
}

pub keeps-none : (s : Seen) → KeepsMoments s s
keeps-none s = record { moments = λ m w. w; same = λ m w. refl }

pub keeps-then : (s u v : Seen) → KeepsMoments s u → KeepsMoments u v → KeepsMoments s v
keeps-then s u v p q = record {
  moments = λ m w. q.moments m (p.moments m w);
  same = λ m w. q.same m (p.moments m w) ∙ ap (λ (o : Seen). with_fulls v.store.nodes.fulls o) (p.same m w);
}

-- going back to now
pub back-now : (s : Seen) → IsState s → reverted (moment_of s) s ≡ s
back-now s is = λ i. record { heap = terms-now s.heap is.heap i; store = bools-now s.store i; made = take-length s.made i }

pub moment-now : (s : Seen) → IsState s → IsMoment (moment_of s) s
moment-now s is = record {
  heap = terms-moment s.heap is.heap;
  store = bools-moment s.store is.store;
  made = omega arith;
  state = subst IsState (sym (back-now s is)) is;
}

-- the moments are those of the state, whatever its count of refusals
pub keeps-fulls : (s : Seen) (n : ℕ) → KeepsMoments s (with_fulls n s)
keeps-fulls s n = record {
  moments = λ m w. record { heap = w.heap; store = (keeps-bool-fulls s.store n).moments m.store w.store; made = w.made; state = state-fulls n (reverted m s) w.state };
  same = λ m w. refl;
}

-- going back to the moment of a state whose moments were kept since
pub back-to : (s now : Seen) (m : Moment) → IsState s → m ≡ moment_of s → KeepsMoments s now → reverted m now ≡ with_fulls now.store.nodes.fulls s
back-to s now m is e k =
    k.same m (subst (λ (n : Moment). IsMoment n s) (sym e) (moment-now s is))
    ∙ ap (λ (n : Moment). with_fulls now.store.nodes.fulls (reverted n s)) e
    ∙ ap (λ (o : Seen). with_fulls now.store.nodes.fulls o) (back-now s is)

pub keeps-back : (s now new : Seen) (m : Moment) → new ≡ reverted m now → IsState s → m ≡ moment_of s → KeepsMoments s now → KeepsMoments s new
keeps-back s now new m r is e k = subst (λ (o : Seen). KeepsMoments s o) (sym (r ∙ back-to s now m is e k)) (keeps-fulls s now.store.nodes.fulls)

-- the whole way back
pub undo-is : (now s : Seen) → s ≡ now → (m n : Moment) → n ≡ m → (h : Terms) → h ≡ term_reverted n.heap s.heap → (b : Booleans) → b ≡ bool_reverted n.store s.store → (xs : List ℕ) → xs ≡ take n.made s.made →
    record { heap = h; store = b; made = xs } ≡ reverted m now
undo-is now s is m n im h he b be xs xe = (λ i. record { heap = he i; store = be i; made = xe i }) ∙ (λ i. reverted (im i) (is i))

-- nothing is there yet
pub empty-state : (constants budget : ℕ) → IsState (no_state constants budget)
empty-state constants budget = record {
  store = empty-store constants budget;
  heap = record {
    number = refl;
    linked = record { falls = λ r c at. absurd (no_some _ c refl at); within = λ r j child. absurd (no_some _ child.0 refl child.1) };
    trail = tt;
  };
  finite = λ r. ends (λ j child. absurd (no_some _ child.0 refl child.1));
  rise = omega arith;
  made = tt;
}
