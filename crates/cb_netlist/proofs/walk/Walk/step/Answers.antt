use Rattle.std.proofs.Common.{◌≡◌, ℕ, ◌+◌, ◌<◌, List, get_or, [], ◌∷◌, ◌++◌, map, length, refl, sym, ap, subst, ◌∙◌, arith}
use Rattle.std.proofs.lemmas.List.{get_or_read, map-append}
use Rattle.std.proofs.lemmas.Result.{on_ok_weaker}
use Rattle.cb_model.specs.declared.Gate.{Gate}
use Rattle.cb_model.specs.Bits.{Each}
use Rattle.cb_flat.specs.Walk as walk
use Rattle.cb_flat.specs.Walk.{placed_net}
use Rattle.cb_netlist.specs.declared.walk.Frame.{Frame}
use Rattle.cb_netlist.specs.Wiring.{Wiring, no_wiring, wiring_at}
use Rattle.cb_netlist.specs.Walking.{frame_of, frames_of, IsWalk, IsStep}
use Rattle.cb_netlist.proofs.Steps.{next-known}
use Rattle.cb_netlist.proofs.Frames.{leave-here, nets-long, nets-small, pins-within, first-within, gate-room, gate-here, module-here}
use Rattle.cb_netlist.proofs.walk.Walk.step.Goals as goal

netlist-is : (ns : List Wiring) (i c : ℕ) (gs : List Gate) (ts : List walk.Frame) (t : Frame) (n : Wiring) → IsWalk ns i c gs (ts ++ frame_of ns t ∷ []) → n ≡ get_or ns t.netlist n → n ≡ wiring_at ns t.netlist
netlist-is ns i c gs ts t n w is = get_or_read ns t.netlist n (next-known ns i c gs ts (frame_of ns t) w).known is no_wiring

pub returns-then-at-len-clause-step : goal.returns-then-at-len-clause-step
returns-then-at-len-clause-step c =
    let self = c.args.self.now in
    let ns = c.args.netlists.now in
    let ts = frames_of ns self.frames.items in
    let e = netlist-is ns self.inputs self.count self.gates.items ts c.args.frame c.index-netlists-frame.result c.requires c.index-netlists-frame.is in
    leave-here ns self.inputs self.count self.gates.items ts c.args.frame c.index-netlists-frame.result e c.requires (omega (arith, c.len.ensures, c.if-at-len.true))

pub pins-requires-2-clause-long : goal.pins-requires-2-clause-long
pins-requires-2-clause-long c =
    let self = c.args.self.now in
    let ns = c.args.netlists.now in
    let ts = frames_of ns self.frames.items in
    let n = c.index-netlists-frame.result in
    let e = netlist-is ns self.inputs self.count self.gates.items ts c.args.frame n c.requires c.index-netlists-frame.is in
    nets-long ns self.inputs self.count self.gates.items ts c.args.frame n e c.requires

pub pins-requires-2-clause-small : goal.pins-requires-2-clause-small
pins-requires-2-clause-small c =
    let self = c.args.self.now in
    let ns = c.args.netlists.now in
    let ts = frames_of ns self.frames.items in
    let n = c.index-netlists-frame.result in
    let e = netlist-is ns self.inputs self.count self.gates.items ts c.args.frame n c.requires c.index-netlists-frame.is in
    let h = nets-small ns self.inputs self.count self.gates.items ts c.args.frame n e c.requires in
    omega (arith, h)

pub pins-requires-2-clause-nets : goal.pins-requires-2-clause-nets
pins-requires-2-clause-nets c =
    let self = c.args.self.now in
    let ns = c.args.netlists.now in
    let ts = frames_of ns self.frames.items in
    let n = c.index-netlists-frame.result in
    let e = netlist-is ns self.inputs self.count self.gates.items ts c.args.frame n c.requires c.index-netlists-frame.is in
    let l : c.args.frame.done < length n.filled = omega (arith, c.len.ensures, c.if-at-len.false) in
    subst (Each _) (sym c.pins.ensures) (pins-within ns self.inputs self.count self.gates.items ts c.args.frame n e c.requires l)

pub overflow_add-base : goal.overflow_add-base
overflow_add-base c =
    let self = c.args.self.now in
    let ns = c.args.netlists.now in
    let ts = frames_of ns self.frames.items in
    let n = c.index-netlists-frame.result in
    let e = netlist-is ns self.inputs self.count self.gates.items ts c.args.frame n c.requires c.index-netlists-frame.is in
    let l : c.args.frame.done < length n.filled = omega (arith, c.len.ensures, c.if-at-len.false) in
    let h = first-within ns self.inputs self.count self.gates.items ts c.args.frame n e c.requires l in
    omega (arith, h, c.first.ensures)

pub emit-requires : goal.emit-requires
emit-requires c =
    let self = c.args.self.now in
    let ns = c.args.netlists.now in
    let ts = frames_of ns self.frames.items in
    let n = c.index-netlists-frame.result in
    let e = netlist-is ns self.inputs self.count self.gates.items ts c.args.frame n c.requires c.index-netlists-frame.is in
    let l : c.args.frame.done < length n.filled = omega (arith, c.len.ensures, c.if-at-len.false) in
    gate-room ns self.inputs self.count self.gates.items ts c.args.frame n e c.requires l c.in-Gate.kind c.in-Gate.ensures

pub returns-in-Gate-clause-step : goal.returns-in-Gate-clause-step
returns-in-Gate-clause-step c =
    let self = c.args.self.now in
    let ns = c.args.netlists.now in
    let ts = frames_of ns self.frames.items in
    let n = c.index-netlists-frame.result in
    let e = netlist-is ns self.inputs self.count self.gates.items ts c.args.frame n c.requires c.index-netlists-frame.is in
    let l : c.args.frame.done < length n.filled = omega (arith, c.len.ensures, c.if-at-len.false) in
    let pins = c.in_ok-pins.ensures ∙ ap (map (placed_net n.inputs self.inputs c.args.frame.base c.args.frame.nets.items)) c.pins.ensures in
    let next : Frame = record c.args.frame { done = c.args.frame.done + 1 } in
    let frames : frames_of ns c.emit.new.self.frames.items ≡ ts ++ frame_of ns next ∷ [] =
    ap (frames_of ns) (c.emit.ensures.frames ∙ c.in_ok-push.ensures.items) ∙ map-append (frame_of ns) self.frames.items (next ∷ []) in
    let step = gate-here ns self.inputs self.count self.gates.items ts c.args.frame n e c.requires l c.in-Gate.kind c.in-Gate.ensures c.in_ok-pins.pins.items pins in
    on_ok_weaker c.emit.result
    (λ gates. subst (λ hs. IsStep ns self.inputs self.count self.gates.items (ts ++ frame_of ns c.args.frame ∷ []) hs (frames_of ns c.emit.new.self.frames.items)) (sym gates)
    (subst (IsStep ns self.inputs self.count self.gates.items (ts ++ frame_of ns c.args.frame ∷ []) _) (sym frames) step))
    c.emit.ensures.gates

pub returns-in-Module-clause-step : goal.returns-in-Module-clause-step
returns-in-Module-clause-step c =
    let self = c.args.self.now in
    let ns = c.args.netlists.now in
    let ts = frames_of ns self.frames.items in
    let n = c.index-netlists-frame.result in
    let e = netlist-is ns self.inputs self.count self.gates.items ts c.args.frame n c.requires c.index-netlists-frame.is in
    let l : c.args.frame.done < length n.filled = omega (arith, c.len.ensures, c.if-at-len.false) in
    let pins = c.in_ok-pins.ensures ∙ ap (map (placed_net n.inputs self.inputs c.args.frame.base c.args.frame.nets.items)) c.pins.ensures in
    let base = ap (λ k. c.args.frame.base + k) c.first.ensures in
    let next : Frame = record c.args.frame { done = c.args.frame.done + 1 } in
    let inner : Frame = record { netlist = c.in-Module.number; base = c.args.frame.base + c.first.result; nets = c.in_ok-pins.pins; done = 0 } in
    let step = module-here ns self.inputs self.count self.gates.items ts c.args.frame n e c.requires l c.in-Module.number c.in-Module.ensures inner refl refl base pins in
    on_ok_weaker c.enter.result
    (λ frames.
    let more : frames_of ns c.enter.new.self.frames.items ≡ (ts ++ frame_of ns next ∷ []) ++ frame_of ns inner ∷ [] =
    ap (frames_of ns) (frames ∙ ap (λ (l : List Frame). l ++ inner ∷ []) c.in_ok-push.ensures.items)
    ∙ map-append (frame_of ns) (self.frames.items ++ next ∷ []) (inner ∷ [])
    ∙ ap (λ us. us ++ frame_of ns inner ∷ []) (map-append (frame_of ns) self.frames.items (next ∷ [])) in
    subst (λ hs. IsStep ns self.inputs self.count self.gates.items (ts ++ frame_of ns c.args.frame ∷ []) hs (frames_of ns c.enter.new.self.frames.items)) (sym c.enter.ensures.gates)
    (subst (IsStep ns self.inputs self.count self.gates.items (ts ++ frame_of ns c.args.frame ∷ []) _) (sym more) step))
    c.enter.ensures.frames
