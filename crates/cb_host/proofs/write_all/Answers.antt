use Rattle.std.proofs.Common.{◌∙◌, subst}
use Rattle.cb_model.specs.Outside.{Wrote}
use Rattle.cb_host.proofs.Writes.{Wrote-then, piece-more, piece-within}
use Rattle.cb_host.proofs.write_all.Goals as goal

pub loop-at-preserved : goal.loop-at-preserved
loop-at-preserved g c =
    let b = c.in_ok-at.ensures in
    let i = c.loop-at.invariant in
    record {
      within = piece-within c.args.piece.now c.loop-at.at c.in_ok-at.field-0 i.within b.within;
      bytes = subst (Wrote (g.S.Sink.written c.args.out.now) (g.S.Sink.written c.write.new.self)) (piece-more c.args.piece.now c.loop-at.at c.in_ok-at.field-0 i.within) (Wrote-then _ _ _ _ _ i.bytes b.bytes);
      count = b.kept ∙ i.count;
    }
