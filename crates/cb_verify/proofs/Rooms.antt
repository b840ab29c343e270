-- The room of a module's outputs.
use Rattle.std.proofs.Common.{◌≡◌, ℕ, suc, ◌+◌, ◌*◌, ◌^◌, ◌<◌, ◌≤◌, List, length, ap, subst, sym, ◌∙◌, arith}
use Rattle.std.proofs.Math.Nat.{pow-suc}
use Rattle.std.proofs.lemmas.Nat.{pow_pos}
use Rattle.cb_model.specs.Circuits.{Flat, circuit_of}
use Rattle.cb_model.specs.Outside.{Rose}
use Rattle.cb_model.specs.Room.{circuit_pins, flat_pins}
use Rattle.cb_dd.specs.declared.Node.{Node}
use Rattle.cb_dd.specs.Diagram.{Store}
use Rattle.cb_ops.specs.Ops.{Grows}
use Rattle.cb_verify.specs.Nodes.{DependOn, Adds}
use Rattle.cb_verify.specs.Modules.{unfold_room, UnfoldRoom, UnfoldCause}
use Rattle.cb_verify.proofs.Named.{flat-pins}

-- two nodes for each pin and row are fewer
rows-less : (p w k : ℕ) → k ≤ p * (2 * 2 ^ w) → k < unfold_room p w
rows-less p w k h =
    let e : 2 ^ (w + 1) ≡ 2 ^ w * 2 = ap (λ n. 2 ^ n) (let q : w + 1 ≡ suc w = omega arith in q) ∙ pow-suc 2 w in
    let some : 0 < 2 ^ w = pow_pos w in
    subst (λ x. k < 8 * (p + 1) * x) (sym e) (omega (arith, h, some))

sum-below : (a b c d : ℕ) → a ≤ b + c → c < d → a < b + d
sum-below a b c d h k = omega arith

same-le : (n : ℕ) → n ≤ n
same-le n = omega arith

less-le : (a b : ℕ) → a < b → a ≤ b
less-le a b h = omega arith

budget-below : (a b full count : ℕ) → count ≡ full → full ≡ a → count < b → a < b
budget-below a b full count e f h = omega arith

module _ (f : Flat) (inputs : List Node) (s t : Store) (r : Adds s t (circuit_pins (circuit_of f)) inputs) where
  below-room : (ls : List ℕ) → DependOn s.triples inputs ls → length t.triples < length s.triples + unfold_room (flat_pins f) (length ls)
  below-room ls d =
      let m : length t.triples ≤ length s.triples + flat_pins f * (2 * 2 ^ length ls) = subst (λ p. length t.triples ≤ length s.triples + p * (2 * 2 ^ length ls)) (flat-pins f) (r.most ls d) in
      sum-below (length t.triples) (length s.triples) (flat_pins f * (2 * 2 ^ length ls)) (unfold_room (flat_pins f) (length ls)) m
      (rows-less (flat_pins f) (length ls) (flat_pins f * (2 * 2 ^ length ls)) (same-le (flat_pins f * (2 * 2 ^ length ls))))

  pub unfolds-room : UnfoldRoom (flat_pins f) inputs s t
  unfolds-room = record { most = λ ls d. less-le _ _ (below-room ls d) }

  pub unfolds-cause : Grows s t → Rose s.fulls t.fulls → length t.triples ≡ t.budget → UnfoldCause (flat_pins f) inputs s t
  unfolds-cause g rose full = record { rose = rose; below = λ ls d. budget-below s.budget _ t.budget (length t.triples) full g.budget (below-room ls d) }

none-more : (a b : ℕ) → a ≤ a + b
none-more a b = omega arith

-- nothing was made
pub unfolds-none : (p : ℕ) (inputs : List Node) (s : Store) → UnfoldRoom p inputs s s
unfolds-none p inputs s = record { most = λ ls d. none-more (length s.triples) (unfold_room p (length ls)) }
