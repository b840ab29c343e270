use Rattle.std.proofs.Common.{◌≡◌, ◌+◌, [], ◌∷◌, ◌++◌, length, refl, ap, sym, subst, ◌∙◌, arith, length-append}
use Rattle.cb_lists.specs.Slices.{slices, Rises}
use Rattle.cb_lists.proofs.Parts.{rises-push, slices-push}
use Rattle.cb_lists.proofs.Lists.push.Goals as goal

pub invariant_of-self-in-Ok : goal.invariant_of-self-in-Ok
invariant_of-self-in-Ok c =
    let needs = c.self.inside.items.items in
    let ends = c.self.inside.ends.items in
    let n : c.len.result ≡ length needs = omega (arith, c.len.ensures, c.self.inside.items.ok) in
    let more : length (needs ++ c.args.list.now) ≡ c.len.result + length c.args.list.now = omega (arith, n, length-append needs c.args.list.now) in
    let last : Rises 0 (ends ++ (c.len.result + length c.args.list.now) ∷ []) (c.len.result + length c.args.list.now) = rises-push 0 ends (length needs) _ c.self.invariant (omega (arith, n)) in
    subst (λ es. Rises 0 es (length c.extend_from_slice.new.self.items)) (sym c.in_ok-push.ensures.items)
    (subst (λ ns. Rises 0 (ends ++ (c.len.result + length c.args.list.now) ∷ []) (length ns)) (sym c.in-Ok.ensures.items)
    (subst (Rises 0 (ends ++ (c.len.result + length c.args.list.now) ∷ [])) (sym more) last))

pub returns-in-Ok-clause-added : goal.returns-in-Ok-clause-added
returns-in-Ok-clause-added c =
    let needs = c.self.inside.items.items in
    let ends = c.self.inside.ends.items in
    let n : c.len.result ≡ length needs = omega (arith, c.len.ensures, c.self.inside.items.ok) in
    ap (λ ns. slices ns 0 c.push.new.self.items) c.in-Ok.ensures.items
    ∙ ap (slices (needs ++ c.args.list.now) 0) c.in_ok-push.ensures.items
    ∙ slices-push needs c.args.list.now 0 ends (length needs) _ c.self.invariant refl (omega (arith, n))
    ∙ ap (λ g. g ++ c.args.list.now ∷ []) c.self.view_is
