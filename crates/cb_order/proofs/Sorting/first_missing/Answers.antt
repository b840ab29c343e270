use Rattle.std.proofs.Common.{◌≡◌, ◌<◌, true, false, length, slice_get, slice_index_or, sym, ap, ◌∙◌, inl, inr, arith, rules}
use Rattle.std.proofs.lemmas.Bool.{cases_lt}
use Rattle.std.proofs.lemmas.Option.{get_or_from_slice_get, slice_get_within}
use Rattle.std.proofs.lemmas.List.Elements.{Contains-get_or}
use Rattle.cb_order.specs.Sorting.{is_placed}
use Rattle.cb_order.proofs.Looks.{mark-at}
use Rattle.cb_order.proofs.Sorting.first_missing.Goals as goal

pub index-requires : goal.index-requires
index-requires c =
    let l : c.loop-at.at < length c.args.list.now = omega arith in
    let p : slice_index_or c.args.list.now c.loop-at.at 0 < length c.args.self.now.placed.items = c.requires.items (slice_index_or c.args.list.now c.loop-at.at 0) (Contains-get_or c.args.list.now c.loop-at.at 0 l) in
    omega (arith, p, c.args.self.now.placed.ok)

pub returns-then-not-index-clause-found : goal.returns-then-not-index-clause-found
returns-then-not-index-clause-found c n e =
    let l : c.loop-at.at < length c.args.list.now = omega arith in
    let p : slice_index_or c.args.list.now c.loop-at.at 0 < length c.args.self.now.placed.items = c.requires.items (slice_index_or c.args.list.now c.loop-at.at 0) (Contains-get_or c.args.list.now c.loop-at.at 0 l) in
    let f : c.index.result.now ≡ false = search rules in
    ap (is_placed c.args.self.now.placed.items) (sym (get_or_from_slice_get c.args.list.now c.loop-at.at n 0 e)) ∙ mark-at c.args.self.now.placed.items (slice_index_or c.args.list.now c.loop-at.at 0) c.index.result.now p c.index.ensures ∙ f

pub loop-at-preserved : goal.loop-at-preserved
loop-at-preserved c k n f l e = elim (cases_lt k c.loop-at.at) [
  | inl lt ↦ c.loop-at.invariant k n f lt e
  | inr ge ↦
      let same : k ≡ c.loop-at.at = omega (arith, l, ge) in
      let w : c.loop-at.at < length c.args.list.now = omega arith in
      let p : slice_index_or c.args.list.now c.loop-at.at 0 < length c.args.self.now.placed.items = c.requires.items (slice_index_or c.args.list.now c.loop-at.at 0) (Contains-get_or c.args.list.now c.loop-at.at 0 w) in
      let t : c.index.result.now ≡ true = search rules in
      ap (is_placed c.args.self.now.placed.items) (sym (get_or_from_slice_get c.args.list.now c.loop-at.at n 0 (ap (slice_get c.args.list.now) (sym same) ∙ e))) ∙ mark-at c.args.self.now.placed.items (slice_index_or c.args.list.now c.loop-at.at 0) c.index.result.now p c.index.ensures ∙ t
]

pub returns-clause-none : goal.returns-clause-none
returns-clause-none c k n f e =
    let l : k < length c.args.list.now = slice_get_within c.args.list.now k n e in
    c.loop-at.invariant k n f (omega (arith, l)) e
