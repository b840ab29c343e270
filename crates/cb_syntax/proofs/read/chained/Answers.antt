use Rattle.cb_syntax.specs.Steps.{op_of}
use Rattle.cb_syntax.proofs.Folds.{chain_built}
use Rattle.cb_syntax.proofs.read.chained.Goals as goal

pub returns-in-Ok : goal.returns-in-Ok
returns-in-Ok c =
    chain_built (op_of c.args.op) c.args.first c.args.others c.new-all.result c.push.new.items c.append.new.self _ (λ e. let h = c.if-is_empty.ensures.1 e in absurd (cc)) c.new-all.ensures c.in_ok-push.ensures c.in-Ok.ensures
    c.joined.ensures
