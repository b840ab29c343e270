-- Equations of all sorts and circuit items are solvable or refuted.
use Rattle.std.proofs.Common.{◌⊎◌, inl, inr, ℕ, ◌+◌, false, List, ◌∙◌, arith}
use Rattle.cb_model.specs.Bits.{Bits, AgreeBelow, bits_of, first_bits}
use Rattle.cb_model.specs.Values.{World, Valuation}
use Rattle.cb_model.specs.Equations.{Item, SolvedAt, Solvable, Refuted}
use Rattle.cb_laws.specs.Laws.{InScope, Decided}
use Rattle.cb_laws.proofs.DependsTrees.{agree_self, items_depend}
use Rattle.cb_laws.proofs.Search.{Decision, negated, Found, search_bits}
use Rattle.cb_laws.proofs.Bounds.{items_wider}
use Rattle.cb_laws.proofs.Unified.{Solved, Outcome, plain, plain_fit, unified}
use Rattle.cb_laws.proofs.Solutions.{item_pairs, outputs_in, Allows, allows, none_meets, row_meets, row_of, row_valuation}
use Rattle.cb_laws.proofs.Decided.{agree_first, length-first, trimmed}

module _ (w : World) (c v : ℕ) (es : List Item) (scope : InScope c v es) where
  abbrev n : ℕ
  n = c + v

  wide : InScope n n es
  wide = items_wider c v n n (omega arith) (omega arith) es scope

  module _ (s : Solved w.arguments (item_pairs n es)) where
    -- some row of the variables is allowed at the assignment
    abbrev Some : Bits → Type 0
    Some a = Found (n + outputs_in es) (Allows w n es wide s (first_bits n a))

    some : (a : Bits) → Decision (Some a)
    some a = search_bits (n + outputs_in es) (Allows w n es wide s (first_bits n a)) (allows w n es wide s (first_bits n a))

    near : (a : Bits) → AgreeBelow n (bits_of (first_bits n (trimmed n a))) a
    near a k l = agree_first n (trimmed n a) k l ∙ agree_first n a k l

    solved : (a : Bits) → Some (trimmed n a) → SolvedAt w es a
    solved a g =
        let b : Valuation = row_valuation w n es wide s (first_bits n (trimmed n a)) g.0 (plain w.arguments) in
        let m = row_meets w n es wide s (first_bits n (trimmed n a)) g.0 (plain w.arguments) g.1.1 (plain_fit w.arguments) in
        record { b = b; sorted = m.sorted; sat = items_depend n n (bits_of (first_bits n (trimmed n a))) a b b (near a) (agree_self n b) es wide m.sat }

    decide : Solvable w es ⊎ Refuted w es
    decide = step (search_bits n (λ ra. Some (bits_of ra) → ⊥) (λ ra. negated (some (bits_of ra))))
      where
        step : Decision (Found n (λ ra. Some (bits_of ra) → ⊥)) → Solvable w es ⊎ Refuted w es
        step (inl f) = inr (record {
          a = bits_of f.0;
          admitted = tt;
          none = λ b sorted sat. let r = row_of w n es wide s (bits_of f.0) b (record { admitted = tt; sorted = sorted; sat = sat }) in f.1.1 (r.row, (r.number, r.allowed));
        })
        step (inr never) = inl (λ a ok. at a (some (trimmed n a)))
          where
            at : (a : Bits) → Decision (Some (trimmed n a)) → SolvedAt w es a
            at a (inl g) = solved a g
            at a (inr g) = absurd (never (first_bits n a, (length-first 0 n a, g)))

pub items_decided : Decided
items_decided w c v es scope = from (unified w.arguments (item_pairs (c + v) es))
  where
    from : Outcome w.arguments (item_pairs (c + v) es) → Solvable w es ⊎ Refuted w es
    from (inl s) = decide w c v es scope s
    from (inr none) = inr (record {
      a = λ k. false;
      admitted = tt;
      none = λ b sorted sat. none_meets w (c + v) es (wide w c v es scope) (λ k. false) b (record { admitted = tt; sorted = sorted; sat = sat }) none;
    })
