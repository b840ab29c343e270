use Rattle.std.proofs.Common.{◌≡◌, get_or, rules}
use Rattle.cb_elim.proofs.Views.{value-at, value-argument}
use Rattle.cb_elim.proofs.Store.value.Goals as goal

pub returns-clause-function : goal.returns-clause-function
returns-clause-function c =
    let e : c.index.result.now ≡ get_or c.args.self.now.slots c.args.s.0 c.index.result.now = search rules in
    value-at c.args.self.now.nodes.triples c.args.self.now.slots c.args.s.0 c.index.result.now c.requires.slot e

pub returns-clause-argument : goal.returns-clause-argument
returns-clause-argument c =
    let e : c.index.result.now ≡ get_or c.args.self.now.slots c.args.s.0 c.index.result.now = search rules in
    value-argument c.args.self.now c.requires.store c.args.s.0 c.index.result.now c.requires.slot e
