use Rattle.std.proofs.Common.{[], ◌∷◌, Ok, Err, refl, ◌∙◌, arith}
use Rattle.std.proofs.lemmas.Result.{err_from_is_err_and}
use Rattle.cb_ops.proofs.Composed.{composed-low, composed-high, composed-is, composed-room}
use Rattle.cb_ops.proofs.Ite.{Grows-same, Grows-then}
use Rattle.cb_ops.proofs.Made.{made-after}
use Rattle.cb_ops.proofs.Ops.compose.Goals as goal

pub returns-in_err-low-clause-made : goal.returns-in_err-low-clause-made
returns-in_err-low-clause-made c =
    let p = err_from_is_err_and c.from_residual.result c.from_residual.ensures.1 in
    rw (p.1, p.2) (made-after (c.args.f.0 ∷ c.args.g.0 ∷ []) (c.args.f.0 ∷ []) 3 1 c.args.self.now c.args.self.now c.restrict.new.self (Err c.in_err-low.field-0.0) (Grows-same c.args.self.now) refl (composed-low c.args.self.now c.args.f.0 c.args.g.0 c.restrict.new.self c.restrict.ensures.made.room) (omega arith) c.in_err-low.ensures.made)

pub returns-in_err-high-clause-made : goal.returns-in_err-high-clause-made
returns-in_err-high-clause-made c =
    let p = err_from_is_err_and c.from_residual-in_err-high.result c.from_residual-in_err-high.ensures.1 in
    rw (p.1, p.2) (made-after (c.args.f.0 ∷ c.args.g.0 ∷ []) (c.args.f.0 ∷ []) 3 1 c.args.self.now c.restrict.new.self c.restrict-2.new.self (Err c.in_err-high.field-0.0) c.restrict.ensures.made.grows c.in_ok-low.ensures.made.fulls (composed-high c.args.self.now c.restrict.new.self c.restrict-2.new.self c.restrict-2.new.self c.restrict.ensures.made.grows c.restrict-2.ensures.made.grows c.args.f.0 c.args.level 0 0 c.args.g.0 c.requires.f c.requires.g c.restrict.ensures.made.room c.restrict-2.ensures.made.room) (omega arith) c.in_err-high.ensures.made)

pub returns-in_err-n-clause-made : goal.returns-in_err-n-clause-made
returns-in_err-n-clause-made c =
    let p = err_from_is_err_and c.from_residual-in_err-n.result c.from_residual-in_err-n.ensures.1 in
    rw (p.1, p.2) (made-after (c.args.f.0 ∷ c.args.g.0 ∷ []) (c.args.g.0 ∷ c.in_ok-high.high.0 ∷ c.in_ok-low.low.0 ∷ []) 3 1 c.args.self.now c.restrict-2.new.self c.ite.new.self (Err c.in_err-n.field-0.0) (Grows-then c.args.self.now c.restrict.new.self c.restrict-2.new.self c.restrict.ensures.made.grows c.restrict-2.ensures.made.grows) (c.in_ok-high.ensures.made.fulls ∙ c.in_ok-low.ensures.made.fulls) (composed-room c.args.self.now c.restrict.new.self c.restrict-2.new.self c.ite.new.self c.restrict.ensures.made.grows c.restrict-2.ensures.made.grows c.args.f.0 c.args.level c.in_ok-low.low.0 c.in_ok-high.high.0 c.args.g.0 c.requires.f c.requires.g c.in_ok-low.ensures.made.is_node c.in_ok-low.ensures.function c.in_ok-high.ensures.function c.restrict.ensures.made.room c.restrict-2.ensures.made.room c.ite.ensures.made.room) (omega arith) c.in_err-n.ensures.made)

pub returns-clause-made : goal.returns-clause-made
returns-clause-made c = made-after (c.args.f.0 ∷ c.args.g.0 ∷ []) (c.args.g.0 ∷ c.in_ok-high.high.0 ∷ c.in_ok-low.low.0 ∷ []) 3 1 c.args.self.now c.restrict-2.new.self c.ite.new.self (Ok c.in_ok-n.n) (Grows-then c.args.self.now c.restrict.new.self c.restrict-2.new.self c.restrict.ensures.made.grows c.restrict-2.ensures.made.grows) (c.in_ok-high.ensures.made.fulls ∙ c.in_ok-low.ensures.made.fulls) (composed-room c.args.self.now c.restrict.new.self c.restrict-2.new.self c.ite.new.self c.restrict.ensures.made.grows c.restrict-2.ensures.made.grows c.args.f.0 c.args.level c.in_ok-low.low.0 c.in_ok-high.high.0 c.args.g.0 c.requires.f c.requires.g c.in_ok-low.ensures.made.is_node c.in_ok-low.ensures.function c.in_ok-high.ensures.function c.restrict.ensures.made.room c.restrict-2.ensures.made.room c.ite.ensures.made.room) (omega arith) c.in_ok-n.ensures.made

pub returns-clause-function : goal.returns-clause-function
returns-clause-function c = composed-is c.args.self.now c.restrict.new.self c.restrict-2.new.self c.ite.new.self c.restrict.ensures.made.grows c.restrict-2.ensures.made.grows c.args.f.0 c.args.level c.in_ok-low.low.0 c.in_ok-high.high.0 c.args.g.0 c.requires.f c.requires.g c.in_ok-low.ensures.made.is_node c.in_ok-low.ensures.function c.in_ok-high.ensures.function c.in_ok-n.n.0 c.in_ok-n.ensures.function
