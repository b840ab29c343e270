use Rattle.std.proofs.Common.{List, ℕ, flat_map, refl, ap, sym, ◌∙◌}
use Rattle.cb_lists.proofs.Parts.{slices-flat}
use Rattle.cb_lists.proofs.Lists.items.Goals as goal

pub returns : goal.returns
returns c =
    c.as_slice.ensures.value ∙ sym (slices-flat c.self.inside.items.items 0 c.self.inside.ends.items _ c.self.invariant refl)
    ∙ ap (flat_map (λ (xs : List ℕ). xs)) c.self.view_is
