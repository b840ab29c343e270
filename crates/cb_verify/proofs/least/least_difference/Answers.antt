use Rattle.std.proofs.Common.{arith}
use Rattle.cb_ops.proofs.Ite.{Grows-then}
use Rattle.cb_verify.specs.Least.{row_of}
use Rattle.cb_verify.proofs.Rows.{place-room, place-within, place-depends, place-more, all-places}
use Rattle.cb_verify.proofs.least.least_difference.Goals as goal

pub returns-in_err-differ-clause-room : goal.returns-in_err-differ-clause-room
returns-in_err-differ-clause-room c =
    place-within c.args.ops.now c.loop-i.ops c.xor.new.self c.loop-i.invariant.grows c.xor.ensures.made.grows c.args.got.now c.args.wanted.now c.args.places.now.levels.items c.requires.got c.requires.wanted c.requires.as_many c.loop-i.i c.loop-i-test.true (record { 0 = 0 }) c.loop-i.invariant.room c.xor.ensures.made.room

pub least_row-requires-clause-support : goal.least_row-requires-clause-support
least_row-requires-clause-support c =
    place-depends c.args.ops.now c.loop-i.ops c.xor.new.self c.loop-i.invariant.grows c.xor.ensures.made.grows c.args.got.now c.args.wanted.now c.args.places.now.levels.items c.requires.got c.requires.wanted c.requires.as_many c.loop-i.i c.loop-i-test.true (record { 0 = 0 }) c.in_ok-differ.differ c.in_ok-differ.ensures.function.at

pub returns-in_default-clause-room : goal.returns-in_default-clause-room
returns-in_default-clause-room c =
    place-within c.args.ops.now c.loop-i.ops c.xor.new.self c.loop-i.invariant.grows c.xor.ensures.made.grows c.args.got.now c.args.wanted.now c.args.places.now.levels.items c.requires.got c.requires.wanted c.requires.as_many c.loop-i.i c.loop-i-test.true (record { 0 = 0 }) c.loop-i.invariant.room c.xor.ensures.made.room

pub loop-i-preserved : goal.loop-i-preserved
loop-i-preserved c = record {
  least = place-more c.args.ops.now c.loop-i.ops c.xor.new.self c.loop-i.invariant.grows c.xor.ensures.made.grows c.args.got.now c.args.wanted.now c.args.places.now.levels.items c.requires.got c.requires.wanted c.requires.as_many c.loop-i.i c.loop-i-test.true (record { 0 = 0 }) c.in_ok-differ.differ c.in_ok-differ.ensures.function.at (row_of c.loop-i.least) (row_of c.in-Ok.row) (row_of c.lesser-least.result) c.loop-i.invariant.least c.in-Ok.ensures c.lesser-least.ensures;
  grows = Grows-then c.args.ops.now c.loop-i.ops c.xor.new.self c.loop-i.invariant.grows c.xor.ensures.made.grows;
  room = place-room c.args.ops.now c.loop-i.ops c.xor.new.self c.loop-i.invariant.grows c.xor.ensures.made.grows c.args.got.now c.args.wanted.now c.args.places.now.levels.items c.requires.got c.requires.wanted c.requires.as_many c.loop-i.i c.loop-i-test.true (record { 0 = 0 }) c.loop-i.invariant.room c.xor.ensures.made.room;
}

pub returns-clause-least : goal.returns-clause-least
returns-clause-least c = all-places c.args.places.now.levels.items c.args.ops.now.triples c.args.got.now c.args.wanted.now c.loop-i.i (row_of c.loop-i.least) (omega (arith, c.loop-i-test.false)) c.requires.as_many c.loop-i.invariant.least
