-- The steps of the walk by its own frames.
use Rattle.std.proofs.Common.{◌≡◌, ℕ, ◌+◌, ◌^◌, ◌<◌, ◌≤◌, List, [], ◌∷◌, ◌++◌, map, length, drop, slice_index_or, sym, ap, subst, ◌∙◌, arith, add-one, drop-cons}
use Rattle.std.proofs.lemmas.List.{drop_all}
use Rattle.cb_model.specs.declared.GateKind.{GateKind}
use Rattle.cb_model.specs.declared.Gate.{Gate}
use Rattle.cb_model.specs.Bits.{Each}
use Rattle.cb_flat.specs.Walk as walk
use Rattle.cb_flat.specs.Walk.{Part, AGate, AModule, Filled, placed_net, entered}
use Rattle.cb_netlist.specs.declared.walk.Frame.{Frame}
use Rattle.cb_netlist.specs.Wiring.{Wiring, wiring_at}
use Rattle.cb_netlist.specs.Places.{no_filled, filled_at}
use Rattle.cb_netlist.specs.Walking.{numbers_at, IsWalk, IsStep, frame_of}
use Rattle.cb_netlist.proofs.Steps.{next-known, leave-step, emit-room, emit-step, enter-step}

left-next : (fs : List Filled) (at : ℕ) → at < length fs → drop at fs ≡ slice_index_or fs at no_filled ∷ drop (at + 1) fs
left-next fs at l = rw add-one (drop-cons fs at no_filled l)

module _ (ns : List Wiring) (i c : ℕ) (gs : List Gate) (ts : List walk.Frame) (t : Frame) (n : Wiring) (e : n ≡ wiring_at ns t.netlist) (w : IsWalk ns i c gs (ts ++ frame_of ns t ∷ [])) where
  pub leave-here : length n.filled ≤ t.done → IsStep ns i c gs (ts ++ frame_of ns t ∷ []) gs ts
  leave-here l = leave-step ns i c gs ts (frame_of ns t) w (drop_all t.done (wiring_at ns t.netlist).filled (subst (λ m. length m.filled ≤ t.done) e l))

  pub nets-long : length t.nets.items ≡ n.inputs
  nets-long = (next-known ns i c gs ts (frame_of ns t) w).long ∙ ap (λ (m : Wiring). m.inputs) (sym e)

  pub nets-small : i + t.base + n.gates < 2 ^ 32
  nets-small = let h = (next-known ns i c gs ts (frame_of ns t) w).within in omega (arith, h, w.small, ap (λ (m : Wiring). m.gates) e)

  module _ (l : t.done < length n.filled) where
    here : (frame_of ns t).left ≡ filled_at (wiring_at ns t.netlist) t.done ∷ drop (t.done + 1) (wiring_at ns t.netlist).filled
    here = left-next (wiring_at ns t.netlist).filled t.done (subst (λ m. t.done < length m.filled) e l)

    pub pins-within : Each (λ x. x < n.inputs + n.gates) (filled_at n t.done).ins
    pins-within = subst (λ m. Each (λ x. x < m.inputs + m.gates) (filled_at m t.done).ins) (sym e)
        (subst (Each _) here (next-known ns i c gs ts (frame_of ns t) w).sized).0.nets

    pub first-within : t.base + (filled_at n t.done).first < 2 ^ 32
    first-within =
        let h = next-known ns i c gs ts (frame_of ns t) w in
        let s = (subst (Each _) here h.sized).0.within in
        omega (arith, s, h.within, w.small, ap (λ m. (filled_at m t.done).first) e)

    module _ (kind : GateKind) (p : AGate kind ≡ (filled_at n t.done).part) where
      is-gate : (filled_at (wiring_at ns t.netlist) t.done).part ≡ AGate kind
      is-gate = sym (p ∙ ap (λ m. (filled_at m t.done).part) e)

      pub gate-room : i + length gs < 2 ^ 32
      gate-room = emit-room ns i c gs ts (frame_of ns t) (filled_at (wiring_at ns t.netlist) t.done) (drop (t.done + 1) (wiring_at ns t.netlist).filled) here kind is-gate w

      pub gate-here : (pins : List ℕ) → pins ≡ map (placed_net n.inputs i t.base t.nets.items) (filled_at n t.done).ins
          → IsStep ns i c gs (ts ++ frame_of ns t ∷ []) (gs ++ record { kind = kind; ins = pins; out = i + length gs } ∷ []) (ts ++ frame_of ns (record t { done = t.done + 1 }) ∷ [])
      gate-here pins are = subst (λ ps. IsStep ns i c gs (ts ++ frame_of ns t ∷ []) (gs ++ record { kind = kind; ins = ps; out = i + length gs } ∷ []) (ts ++ frame_of ns (record t { done = t.done + 1 }) ∷ []))
          (sym (are ∙ ap (λ m. map (placed_net m.inputs i t.base t.nets.items) (filled_at m t.done).ins) e))
          (emit-step ns i c gs ts (frame_of ns t) (filled_at (wiring_at ns t.netlist) t.done) (drop (t.done + 1) (wiring_at ns t.netlist).filled) here kind is-gate w)

    module _ (q : ℕ) (p : AModule q ≡ (filled_at n t.done).part) where
      is-module : (filled_at (wiring_at ns t.netlist) t.done).part ≡ AModule q
      is-module = sym (p ∙ ap (λ m. (filled_at m t.done).part) e)

      pub module-here : (u : Frame) → u.netlist ≡ q → u.done ≡ 0 → u.base ≡ t.base + (filled_at n t.done).first → u.nets.items ≡ map (placed_net n.inputs i t.base t.nets.items) (filled_at n t.done).ins
          → IsStep ns i c gs (ts ++ frame_of ns t ∷ []) gs ((ts ++ frame_of ns (record t { done = t.done + 1 }) ∷ []) ++ frame_of ns u ∷ [])
      module-here u number start base nets = subst (λ f. IsStep ns i c gs (ts ++ frame_of ns t ∷ []) gs ((ts ++ frame_of ns (record t { done = t.done + 1 }) ∷ []) ++ f ∷ []))
          (sym (same u number start (base ∙ ap (λ m. t.base + (filled_at m t.done).first) e) (nets ∙ ap (λ m. map (placed_net m.inputs i t.base t.nets.items) (filled_at m t.done).ins) e)))
          (enter-step ns i c gs ts (frame_of ns t) (filled_at (wiring_at ns t.netlist) t.done) (drop (t.done + 1) (wiring_at ns t.netlist).filled) here q is-module w)
        where
          same : (u : Frame) → u.netlist ≡ q → u.done ≡ 0 → u.base ≡ t.base + (filled_at (wiring_at ns t.netlist) t.done).first
              → u.nets.items ≡ map (placed_net (wiring_at ns t.netlist).inputs i t.base t.nets.items) (filled_at (wiring_at ns t.netlist) t.done).ins
              → frame_of ns u ≡ entered (numbers_at ns) i (frame_of ns t) (filled_at (wiring_at ns t.netlist) t.done) q
          same u number start base nets =
              ap (λ k. record { module' = k; base = u.base; nets = u.nets.items; left = drop u.done (wiring_at ns k).filled }) number
              ∙ ap (λ d. record { module' = q; base = u.base; nets = u.nets.items; left = drop d (wiring_at ns q).filled }) start
              ∙ ap (λ b. record { module' = q; base = b; nets = u.nets.items; left = (wiring_at ns q).filled }) base
              ∙ ap (λ xs. record { module' = q; base = t.base + (filled_at (wiring_at ns t.netlist) t.done).first; nets = xs; left = (wiring_at ns q).filled }) nets
