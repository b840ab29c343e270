use Rattle.std.proofs.Common.{◌≡◌, ◌-◌, ◌<◌, [], length, take, drop, slice_index_or, ap, sym, ◌∙◌, arith}
use Rattle.std.proofs.lemmas.List.{get_or_read}
use Rattle.cb_lists.specs.Slices.{start_of}
use Rattle.cb_lists.proofs.Parts.{slices-long, slices-at, start-low, ends-high}
use Rattle.cb_lists.proofs.Lists.list.Goals as goal

pub start-start-requires : goal.start-start-requires
start-start-requires c =
    let long = slices-long c.self.inside.items.items 0 c.self.inside.ends.items in
    let view = ap length c.self.view_is in
    let same = ap length c.as_slice.ensures.value in
    omega (arith, long, view, same)

pub index-end-requires : goal.index-end-requires
index-end-requires c =
    let long = slices-long c.self.inside.items.items 0 c.self.inside.ends.items in
    let view = ap length c.self.view_is in
    omega (arith, long, view, c.self.inside.ends.ok)

pub part-requires-clause-rises : goal.part-requires-clause-rises
part-requires-clause-rises c =
    let ends = c.self.inside.ends.items in
    let long = slices-long c.self.inside.items.items 0 ends in
    let view = ap length c.self.view_is in
    let l : c.args.at < length ends = omega (arith, long, view) in
    let at : c.index-end.result.now ≡ slice_index_or ends c.args.at 0 = get_or_read ends _ _ l c.index-end.ensures 0 in
    let start : c.start-start.result ≡ start_of 0 ends c.args.at = c.start-start.ensures ∙ ap (λ es. start_of 0 es c.args.at) c.as_slice.ensures.value in
    omega (arith, at, start, start-low 0 ends _ c.args.at c.self.invariant l)

pub part-requires-clause-within : goal.part-requires-clause-within
part-requires-clause-within c =
    let ends = c.self.inside.ends.items in
    let long = slices-long c.self.inside.items.items 0 ends in
    let view = ap length c.self.view_is in
    let l : c.args.at < length ends = omega (arith, long, view) in
    let at : c.index-end.result.now ≡ slice_index_or ends c.args.at 0 = get_or_read ends _ _ l c.index-end.ensures 0 in
    let same = ap length c.as_slice-2.ensures.value in
    omega (arith, at, same, ends-high 0 ends _ c.args.at c.self.invariant l)

pub returns : goal.returns
returns c =
    let items = c.self.inside.items.items in
    let ends = c.self.inside.ends.items in
    let long = slices-long items 0 ends in
    let view = ap length c.self.view_is in
    let l : c.args.at < length ends = omega (arith, long, view) in
    let at : c.index-end.result.now ≡ slice_index_or ends c.args.at 0 = get_or_read ends _ _ l c.index-end.ensures 0 in
    let start : c.start-start.result ≡ start_of 0 ends c.args.at = c.start-start.ensures ∙ ap (λ es. start_of 0 es c.args.at) c.as_slice.ensures.value in
    c.part.ensures
    ∙ ap (λ ns. take (c.index-end.result.now - c.start-start.result) (drop c.start-start.result ns)) c.as_slice-2.ensures.value
    ∙ ap (λ e. take (e - c.start-start.result) (drop c.start-start.result items)) at
    ∙ ap (λ s. take (slice_index_or ends c.args.at 0 - s) (drop s items)) start
    ∙ sym (slices-at items 0 ends c.args.at l)
    ∙ ap (λ g. slice_index_or g c.args.at []) c.self.view_is
