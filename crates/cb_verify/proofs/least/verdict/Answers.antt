use Rattle.std.proofs.Common.{◌∙◌, length, map, ap, subst}
use Rattle.cb_model.specs.Bits.{bits_of}
use Rattle.cb_verify.specs.Nodes.{node_bits, unequal}
use Rattle.cb_verify.specs.Least.{LeastOf, row_of}
use Rattle.cb_verify.proofs.Kept.{AreNodes-kept}
use Rattle.cb_verify.proofs.Rows.{verified, row-differs, least-is}
use Rattle.cb_verify.proofs.least.verdict.Goals as goal

pub returns-in_default-clause-verdict : goal.returns-in_default-clause-verdict
returns-in_default-clause-verdict c =
    verified c.args.ops.now c.least_difference.new.ops c.least_difference.ensures.grows c.args.got.now c.args.wanted.now c.requires.got.0 c.requires.wanted.0 c.args.places.now.levels.items
    (subst (LeastOf c.args.places.now.levels.items (λ a. unequal (node_bits c.args.ops.now.triples c.args.got.now a) (node_bits c.args.ops.now.triples c.args.wanted.now a))) (ap row_of c.in_default.is) c.in_ok-input.ensures.least)

pub by_level-requires-clause-as_many : goal.by_level-requires-clause-as_many
by_level-requires-clause-as_many c =
    let least = subst (LeastOf c.args.places.now.levels.items (λ a. unequal (node_bits c.args.ops.now.triples c.args.got.now a) (node_bits c.args.ops.now.triples c.args.wanted.now a))) (ap row_of c.in-Some.is) c.in_ok-input.ensures.least in
    ap length c.as_slice.ensures.value ∙ least.0 ∙ c.requires.places.as_many

pub first_difference-at-requires-clause-got : goal.first_difference-at-requires-clause-got
first_difference-at-requires-clause-got c = AreNodes-kept c.args.ops.now c.least_difference.new.ops c.least_difference.ensures.grows c.args.got.now c.requires.got.0

pub first_difference-at-requires-clause-wanted : goal.first_difference-at-requires-clause-wanted
first_difference-at-requires-clause-wanted c = AreNodes-kept c.args.ops.now c.least_difference.new.ops c.least_difference.ensures.grows c.args.wanted.now c.requires.wanted.0

pub first_difference-at-requires-clause-differ : goal.first_difference-at-requires-clause-differ
first_difference-at-requires-clause-differ c =
    row-differs c.args.ops.now c.least_difference.new.ops c.least_difference.ensures.grows c.args.got.now c.args.wanted.now c.requires.got.0 c.requires.wanted.0 c.args.places.now.levels.items
    c.in-Some.input.items (subst (LeastOf c.args.places.now.levels.items (λ a. unequal (node_bits c.args.ops.now.triples c.args.got.now a) (node_bits c.args.ops.now.triples c.args.wanted.now a))) (ap row_of c.in-Some.is) c.in_ok-input.ensures.least)
    (bits_of c.as_slice-2.result.now) (ap (λ bits. map (bits_of bits) c.args.places.now.levels.items) c.as_slice-2.ensures.value ∙ c.in-Ok.ensures ∙ c.as_slice.ensures.value)

pub returns-clause-verdict : goal.returns-clause-verdict
returns-clause-verdict c =
    least-is c.args.ops.now c.least_difference.new.ops c.least_difference.ensures.grows c.args.got.now c.args.wanted.now c.requires.got.0 c.requires.wanted.0 c.args.places.now.levels.items
    c.in-Some.input.items (subst (LeastOf c.args.places.now.levels.items (λ a. unequal (node_bits c.args.ops.now.triples c.args.got.now a) (node_bits c.args.ops.now.triples c.args.wanted.now a))) (ap row_of c.in-Some.is) c.in_ok-input.ensures.least)
    c.from_vec.result c.from_vec.ensures
    (bits_of c.as_slice-2.result.now) (ap (λ bits. map (bits_of bits) c.args.places.now.levels.items) c.as_slice-2.ensures.value ∙ c.in-Ok.ensures ∙ c.as_slice.ensures.value)
    c.first_difference-at.result.0 c.in-Ok-try_from.output c.first_difference-at.result.1 c.first_difference-at.result.2 c.in-Ok-try_from.ensures.1 c.first_difference-at.ensures
