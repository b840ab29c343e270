-- What carries bits has no loop: the bit of a gate comes from those of its pins.
use Rattle.std.proofs.Common.{◌≡◌, ℕ, zero, suc, ◌<◌, Bool, false, List, [], ◌∷◌, map, length, slice_get, slice_index_or, Some, replicate, Contains, ◌⊎◌, inl, inr, refl, sym, ap, subst, arith}
use Rattle.std.proofs.lemmas.Bool.{cases_lt}
use Rattle.std.proofs.lemmas.Option.{same_Some, slice_get_within}
use Rattle.std.proofs.lemmas.List.{length-replicate, get_or_past}
use Rattle.cb_model.specs.declared.GateKind.{GateKind}
use Rattle.cb_model.specs.Circuits.{Net, In, Own, Flat}
use Rattle.cb_model.specs.Order.{needs_of, Leads, feeds, leads_on}
use Rattle.cb_order.proofs.Orders.{cons-cases, nothing}
use Rattle.cb_model.specs.Carry.{Carries, gate, AllCarry, more}
use Rattle.cb_flat.specs.Acyclic.{own_of, gate_graph, CarryingIsAcyclic}

module _ (g : List (List ℕ)) where
  -- what leads to an item leads to one of its needs, or is one
  pub record Last (i j : ℕ) : Type 0 where
    pub h : ℕ
    pub need : Contains (needs_of g j) h
    pub leads : (i ≡ h) ⊎ Leads g i h

  pub last-step : (i j : ℕ) → Leads g i j → Last i j
  last-step i j (feeds n) = record { h = i; need = n; leads = inl refl }
  last-step i j (leads_on m n l) =
      let r = last-step m j l in
      record {
        h = r.h;
        need = r.need;
        leads = elim r.leads [ inl e ↦ inr (feeds (subst (λ x. Contains (needs_of g x) i) e n)) | inr k ↦ inr (leads_on m n k) ];
      }

graph-at : (f : Flat) (k : ℕ) (g : GateKind × List Net) → slice_get f.gates k ≡ Some g → needs_of (gate_graph f) k ≡ own_of g.1
graph-at f k g e = from f.gates k e
  where
    from : (gs : List (GateKind × List Net)) (k : ℕ) → slice_get gs k ≡ Some g → slice_index_or (map (λ g. own_of g.1) gs) k [] ≡ own_of g.1
    from [] k e = absurd (let l : k < 0 = slice_get_within [] k g e in omega arith)
    from (x ∷ gs) zero e = ap (λ (y : GateKind × List Net). own_of y.1) (same_Some x g e)
    from (x ∷ gs) (suc k) e = from gs k e

module _ (f : Flat) (xs : List Bool) where
  mutual
    no_loop : (j : ℕ) (b : Bool) → Carries f xs (Own j) b → Leads (gate_graph f) j j → ⊥
    no_loop j b (gate g bs at all e) l =
        let r = last-step (gate_graph f) j j l in
        let here : Contains (own_of g.1) r.h = subst (λ ns. Contains ns r.h) (graph-at f j g at) r.need in
        no_loops g.1 bs all r.h here (elim r.leads [ inl same ↦ subst (λ x. Leads (gate_graph f) x x) same l | inr k ↦ leads_on j r.need k ])

    no_loops : (ns : List Net) (bs : List Bool) → AllCarry f xs ns bs → (h : ℕ) → Contains (own_of ns) h → Leads (gate_graph f) h h → ⊥
    no_loops [] bs c h k l = nothing h k
    no_loops (n ∷ ns) [] c h k l = elim c [ ]
    no_loops (In i ∷ ns) (b ∷ bs) (more c cs) h k l = no_loops ns bs cs h k l
    no_loops (Own m ∷ ns) (b ∷ bs) (more c cs) h k l = elim (cons-cases m (own_of ns) h k) [
      | inl e ↦ no_loop m b c (subst (λ x. Leads (gate_graph f) x x) (sym e) l)
      | inr there ↦ no_loops ns bs cs h there l
    ]

long-graph : (gs : List (GateKind × List Net)) → length (map (λ g. own_of g.1) gs) ≡ length gs
long-graph [] = refl
long-graph (g ∷ gs) = ap suc (long-graph gs)

pub carrying_is_acyclic : CarryingIsAcyclic
carrying_is_acyclic f c cycle =
    let r = last-step (gate_graph f) cycle.0 cycle.0 cycle.1 in
    let within : cycle.0 < length f.gates = elim (cases_lt cycle.0 (length (gate_graph f))) [
      | inl lt ↦ let e = long-graph f.gates in omega (arith, lt, e)
      | inr ge ↦ absurd (nothing r.h (subst (λ ns. Contains ns r.h) (get_or_past (gate_graph f) cycle.0 [] ge) r.need))
    ] in
    let t = c.total (replicate f.inputs false) (length-replicate f.inputs false) cycle.0 within in
    no_loop f (replicate f.inputs false) cycle.0 t.0 t.1 cycle.1
