-- The levels on which the slots' values depend.
use Rattle.std.proofs.Common.{◌≡◌, inl, inr, ℕ, zero, suc, ◌<◌, List, [], ◌∷◌, map, nat_eq, Some, None, if◌then◌else◌, sym, ap, subst, ◌∙◌, arith}
use Rattle.std.proofs.lemmas.Bool.{cases_Bool, cases_eq, eqb-true}
use Rattle.cb_model.specs.Bits.{Bits}
use Rattle.cb_dd.specs.declared.Node.{Node}
use Rattle.cb_dd.specs.declared.Triple.{Triple}
use Rattle.cb_ops.specs.Ops.{Agree}
use Rattle.cb_ops.specs.Support.{IsListed}
use Rattle.cb_ops.proofs.Gather.{agree-at}
use Rattle.cb_boole.specs.View.{IsLive}
use Rattle.cb_solution.proofs.Solved.{listed-here, listed-there}
use Rattle.cb_elim.specs.declared.Free.{Free}
use Rattle.cb_elim.specs.Store.{Seen, IsStore, stands_in, value_in, view_of}
use Rattle.cb_elim.specs.Equation.{DependEach}
use Rattle.cb_elim.specs.Expression.{AreLevels}
use Rattle.cb_elim.specs.Laws.{levels_below, live_levels}
use Rattle.cb_elim.proofs.Falling.{listed-left, listed-right}

below-listed : (n k : ℕ) → k < n → IsListed (levels_below n) k
below-listed zero k h = absurd (omega arith)
below-listed (suc n) k h = elim (cases_eq k n) [
  | inl same ↦ subst (λ j. IsListed (n ∷ levels_below n) j) (sym same) (listed-here n (levels_below n))
  | inr other ↦ listed-there n k (levels_below n) (below-listed n k (omega arith))
]

free-listed : (fs : List Free) (l x : ℕ) → stands_in fs l ≡ Some x → IsListed (map (λ f. f.level) fs) l
free-listed [] l x e = absurd (let d : None ≡ Some x = e in cc)
free-listed (f ∷ fs) l x e = elim (cases_Bool (nat_eq f.level l)) [
  | inl same ↦ subst (λ k. IsListed (f.level ∷ map (λ g. g.level) fs) k) (eqb-true f.level l same) (listed-here f.level (map (λ g. g.level) fs))
  | inr other ↦ listed-there f.level l (map (λ g. g.level) fs) (free-listed fs l x (sym (ap (λ b. if b then Some f.slot else stands_in fs l) other) ∙ e))
]

each-depends : (ts : List Triple) (ns : List Node) (ls : List ℕ) → ((x : ℕ) (a b : Bits) → Agree ls a b → value_in ts ns x a ≡ value_in ts ns x b) → DependEach ts ns ls
each-depends ts [] ls h = tt
each-depends ts (n ∷ ns) ls h = (record { agrees = λ a b w. h 0 a b w }, each-depends ts ns ls (λ x. h (suc x)))

pub live-levels : (s : Seen) → IsStore s → AreLevels s.nodes.triples s.constants s.slots (live_levels s)
unfolding view_of
live-levels s st = record {
  constants = λ k h. listed-left (levels_below s.constants) (map (λ f. f.level) s.free) k (below-listed s.constants k h);
  slots = each-depends s.nodes.triples s.slots (live_levels s) (λ x a b h. (st.good.fit x).only a b (λ l live. agree-at (live_levels s) a b h l (listed l live)));
}
  where
    listed : (l : ℕ) → IsLive (view_of s) l → IsListed (live_levels s) l
    listed l (inl less) = listed-left (levels_below s.constants) (map (λ f. f.level) s.free) l (below-listed s.constants l less)
    listed l (inr (x, h)) = listed-right (levels_below s.constants) (map (λ f. f.level) s.free) l (free-listed s.free l x h)
