use Rattle.cb_ops.proofs.Memo.{either-way}
use Rattle.cb_ops.proofs.Restrict.{remembered, remembered-same}
use Rattle.cb_ops.proofs.walk.remember.Goals as goal

pub returns : goal.returns
returns c =
    either-way c.insert.result c.insert.ensures.updates c.insert.ensures.err
    (λ u. remembered c.args.done.now c.insert.new.self c.args.n c.args.r u.0)
    (λ u. remembered-same c.args.done.now c.insert.new.self c.args.n c.args.r u)
