use Rattle.std.proofs.Common.{◌≡◌, ◌≤◌, suc, ◌+◌, List, length, [], ◌∷◌, ◌++◌, sym, subst, arith}
use Rattle.cb_heap.specs.declared.Ref.{Ref}
use Rattle.cb_items.proofs.Lists.{length-append}
use Rattle.cb_ready.specs.Parked.{AreFrom}
use Rattle.cb_ready.proofs.Looks.{from-snoc}
use Rattle.cb_ready.proofs.parked.arguments.Goals as goal

pub cells-preserved : goal.cells-preserved
cells-preserved c =
    let old = c.cells.args.items in
    let items : c.push.new.self.items ≡ old ++ c.arg.result ∷ [] = c.in_ok-push.ensures.items in
    let count = c.len-in-cells.ensures in
    let cell = c.arg.ensures in
    let at : c.arg.result.0 ≡ suc c.args.compound.0 + length old = omega (arith, cell, count) in
    let before = c.cells-test.true in
    let number = c.len.ensures in
    let more = length-append old (c.arg.result ∷ []) in
    let few : length (old ++ c.arg.result ∷ []) ≤ c.args.count = omega (arith, before, number, more) in
    subst (λ (xs : List Ref). AreFrom (suc c.args.compound.0) xs × (length xs ≤ c.args.count)) (sym items) (from-snoc (suc c.args.compound.0) old c.arg.result c.cells.invariant.0 at, few)
