use Rattle.cb_ops.proofs.Differences.{differ-same, differ-left, differ-right}
use Rattle.cb_ops.proofs.Ops.known_xor.Goals as goal

pub returns-then-f-g-clause-xor : goal.returns-then-f-g-clause-xor
returns-then-f-g-clause-xor c = differ-same c.args.self.now.triples c.args.f.0 c.args.g.0 c.if-f-g.true

pub returns-then-f-eq0-clause-xor : goal.returns-then-f-eq0-clause-xor
returns-then-f-eq0-clause-xor c = differ-left c.args.self.now.triples c.args.f.0 c.args.g.0 c.if-f-eq0.true

pub returns-then-g-eq0-clause-xor : goal.returns-then-g-eq0-clause-xor
returns-then-g-eq0-clause-xor c = differ-right c.args.self.now.triples c.args.f.0 c.args.g.0 c.if-g-eq0.true
