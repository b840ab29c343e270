use Rattle.std.proofs.Common.{◌≡◌, ◌≤◌, ◌+◌, ◌++◌, take, length, subst, sym, ap, ◌∙◌, arith}
use Rattle.std.proofs.lemmas.List.{length-append, length-take, take-append-le}
use Rattle.cb_host.specs.Host.{Took}
use Rattle.cb_host.proofs.Readings.{Took-then, Took-front}
use Rattle.cb_host.proofs.read_within.Goals as goal

pub loop-piece-preserved : goal.loop-piece-preserved
loop-piece-preserved g c =
    let i = c.loop-piece.invariant in
    let b = c.in-Ok.ensures in
    let xs = c.loop-piece.into.items in
    let n = c.in-Ok.n in
    let buffer = c.read.new.buf in
    let room : n ≤ length buffer = omega (arith, b.within, c.read.auto.buf) in
    let appended : c.extend_from_slice.new.self.items ≡ xs ++ take n buffer = c.in-Ok-extend_from_slice.ensures.items ∙ ap (λ l. xs ++ l) (take-append-le n buffer _ room) in
    record {
      within = omega (arith, ap length appended, length-append xs (take n buffer), length-take n buffer, b.within, length-take c.min-most.result c.loop-piece.piece, c.min-most.ensures, c.len-in-loop-piece.ensures, c.loop-piece-test.true, c.len.ensures);
      taken = subst (Took (g.I.Source.left c.args.source.now) (g.I.Source.left c.read.new.self)) (sym appended) (Took-then _ _ _ _ _ _ i.taken b.bytes);
      count = b.kept ∙ i.count;
    }

pub returns-clause-bytes : goal.returns-clause-bytes
returns-clause-bytes g c =
    let i = c.loop-piece.invariant in
    let l : length c.loop-piece.into.items ≡ c.args.limit + 1 = omega (arith, i.within, c.loop-piece-test.false, c.len.ensures) in
    Took-front _ _ _ _ l i.taken
