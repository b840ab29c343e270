use Rattle.std.proofs.Common.{length, arith}
use Rattle.cb_dd.proofs.Children.{bottom_child, top_child}
use Rattle.cb_ops.proofs.Ite.{Grows-then, Grows-same, grown-node}
use Rattle.cb_project.proofs.Steps.{pick-room-two, pick-room-three, pick-room-four, pick-room-five, pick-room, pick-is}
use Rattle.cb_project.proofs.leaves.pick.Goals as goal

pub node-requires-clause-lo_child : goal.node-requires-clause-lo_child
node-requires-clause-lo_child c = bottom_child _ _ (omega (arith, c.ranges.parameter.fits))

pub node-requires-clause-hi_child : goal.node-requires-clause-hi_child
node-requires-clause-hi_child c = top_child _ _ (omega (arith, c.ranges.parameter.fits))

pub returns-in_err-other-clause-grows : goal.returns-in_err-other-clause-grows
returns-in_err-other-clause-grows c = Grows-then c.args.ops.now c.eliminate.new.ops c.not.new.self c.eliminate.ensures.grows c.not.ensures.made.grows

pub returns-in_err-never-clause-grows : goal.returns-in_err-never-clause-grows
returns-in_err-never-clause-grows c = Grows-then c.args.ops.now c.not.new.self c.eliminate-2.new.ops (Grows-then c.args.ops.now c.eliminate.new.ops c.not.new.self c.eliminate.ensures.grows c.not.ensures.made.grows) c.eliminate-2.ensures.grows

pub returns-in_err-sometimes-clause-grows : goal.returns-in_err-sometimes-clause-grows
returns-in_err-sometimes-clause-grows c = Grows-then c.args.ops.now c.eliminate-2.new.ops c.not-2.new.self (Grows-then c.args.ops.now c.not.new.self c.eliminate-2.new.ops (Grows-then c.args.ops.now c.eliminate.new.ops c.not.new.self c.eliminate.ensures.grows c.not.ensures.made.grows) c.eliminate-2.ensures.grows) c.not-2.ensures.made.grows

pub returns-in_err-own-clause-grows : goal.returns-in_err-own-clause-grows
returns-in_err-own-clause-grows c = Grows-then c.args.ops.now c.not-2.new.self c.node.new.self (Grows-then c.args.ops.now c.eliminate-2.new.ops c.not-2.new.self (Grows-then c.args.ops.now c.not.new.self c.eliminate-2.new.ops (Grows-then c.args.ops.now c.eliminate.new.ops c.not.new.self c.eliminate.ensures.grows c.not.ensures.made.grows) c.eliminate-2.ensures.grows) c.not-2.ensures.made.grows) c.node.ensures.grows

pub returns-in_err-n-clause-grows : goal.returns-in_err-n-clause-grows
returns-in_err-n-clause-grows c = Grows-then c.args.ops.now c.node.new.self c.ite.new.self (Grows-then c.args.ops.now c.not-2.new.self c.node.new.self (Grows-then c.args.ops.now c.eliminate-2.new.ops c.not-2.new.self (Grows-then c.args.ops.now c.not.new.self c.eliminate-2.new.ops (Grows-then c.args.ops.now c.eliminate.new.ops c.not.new.self c.eliminate.ensures.grows c.not.ensures.made.grows) c.eliminate-2.ensures.grows) c.not-2.ensures.made.grows) c.node.ensures.grows) c.ite.ensures.made.grows

pub returns-clause-grows : goal.returns-clause-grows
returns-clause-grows c = Grows-then c.args.ops.now c.node.new.self c.ite.new.self (Grows-then c.args.ops.now c.not-2.new.self c.node.new.self (Grows-then c.args.ops.now c.eliminate-2.new.ops c.not-2.new.self (Grows-then c.args.ops.now c.not.new.self c.eliminate-2.new.ops (Grows-then c.args.ops.now c.eliminate.new.ops c.not.new.self c.eliminate.ensures.grows c.not.ensures.made.grows) c.eliminate-2.ensures.grows) c.not-2.ensures.made.grows) c.node.ensures.grows) c.ite.ensures.made.grows

pub not-requires : goal.not-requires
not-requires c = grown-node c.args.ops.now c.eliminate.new.ops c.eliminate.ensures.grows c.args.f.0 c.requires

pub ite-requires-clause-g : goal.ite-requires-clause-g
ite-requires-clause-g c = grown-node c.not-2.new.self c.node.new.self c.node.ensures.grows c.in_ok-sometimes.sometimes.0 c.in_ok-sometimes.ensures.made.is_node

pub ite-requires-clause-h : goal.ite-requires-clause-h
ite-requires-clause-h c = grown-node c.eliminate.new.ops c.node.new.self (Grows-then c.eliminate.new.ops c.not.new.self c.node.new.self c.not.ensures.made.grows (Grows-then c.not.new.self c.eliminate-2.new.ops c.node.new.self c.eliminate-2.ensures.grows (Grows-then c.eliminate-2.new.ops c.not-2.new.self c.node.new.self c.not-2.ensures.made.grows c.node.ensures.grows))) c.in_ok-always.always.0 c.in_ok-always.ensures.is_node

pub returns-in_err-other-clause-room : goal.returns-in_err-other-clause-room
returns-in_err-other-clause-room c =
    pick-room-two c.args.ops.now c.eliminate.new.ops c.not.new.self c.not.new.self c.not.new.self c.not.new.self c.not.new.self c.eliminate.ensures.grows c.not.ensures.made.grows (Grows-same c.not.new.self) (Grows-same c.not.new.self) (Grows-same c.not.new.self) c.args.f.0 c.args.parameter (length c.args.levels.now) c.args.levels.now c.requires c.eliminate.ensures.room c.not.ensures.made.room

pub returns-in_err-never-clause-room : goal.returns-in_err-never-clause-room
returns-in_err-never-clause-room c =
    pick-room-three c.args.ops.now c.eliminate.new.ops c.not.new.self c.eliminate-2.new.ops c.eliminate-2.new.ops c.eliminate-2.new.ops c.eliminate-2.new.ops c.eliminate.ensures.grows c.not.ensures.made.grows c.eliminate-2.ensures.grows (Grows-same c.eliminate-2.new.ops) (Grows-same c.eliminate-2.new.ops) c.args.f.0 c.args.parameter (length c.args.levels.now) c.args.levels.now c.requires c.in_ok-other.other.0 c.in_ok-other.ensures.function c.eliminate.ensures.room c.not.ensures.made.room c.eliminate-2.ensures.room

pub returns-in_err-sometimes-clause-room : goal.returns-in_err-sometimes-clause-room
returns-in_err-sometimes-clause-room c =
    pick-room-four c.args.ops.now c.eliminate.new.ops c.not.new.self c.eliminate-2.new.ops c.not-2.new.self c.not-2.new.self c.not-2.new.self c.eliminate.ensures.grows c.not.ensures.made.grows c.eliminate-2.ensures.grows c.not-2.ensures.made.grows (Grows-same c.not-2.new.self) c.args.f.0 c.args.parameter (length c.args.levels.now) c.args.levels.now c.requires c.in_ok-other.other.0 c.in_ok-other.ensures.function c.in_ok-never.never.0 c.in_ok-never.ensures.function c.eliminate.ensures.room c.not.ensures.made.room c.eliminate-2.ensures.room c.not-2.ensures.made.room

pub returns-in_err-own-clause-room : goal.returns-in_err-own-clause-room
returns-in_err-own-clause-room c =
    pick-room-five c.args.ops.now c.eliminate.new.ops c.not.new.self c.eliminate-2.new.ops c.not-2.new.self c.node.new.self c.node.new.self c.eliminate.ensures.grows c.not.ensures.made.grows c.eliminate-2.ensures.grows c.not-2.ensures.made.grows c.node.ensures.grows c.args.f.0 c.args.parameter (length c.args.levels.now) c.args.levels.now c.requires c.in_ok-other.other.0 c.in_ok-other.ensures.function c.in_ok-never.never.0 c.in_ok-never.ensures.function c.eliminate.ensures.room c.not.ensures.made.room c.eliminate-2.ensures.room c.not-2.ensures.made.room c.node.ensures.one

pub returns-in_err-n-clause-room : goal.returns-in_err-n-clause-room
returns-in_err-n-clause-room c =
    pick-room c.args.ops.now c.eliminate.new.ops c.not.new.self c.eliminate-2.new.ops c.not-2.new.self c.node.new.self c.ite.new.self c.eliminate.ensures.grows c.not.ensures.made.grows c.eliminate-2.ensures.grows c.not-2.ensures.made.grows c.node.ensures.grows c.args.f.0 c.args.parameter (length c.args.levels.now) c.args.levels.now c.requires c.in_ok-other.other.0 c.in_ok-other.ensures.function c.in_ok-never.never.0 c.in_ok-never.ensures.function c.in_ok-always.always.0 c.in_ok-sometimes.sometimes.0 c.in_ok-own.own.0 c.in_ok-always.ensures.is_node c.in_ok-sometimes.ensures.made.is_node c.in_ok-always.ensures.function c.in_ok-sometimes.ensures.function c.in_ok-own.ensures.function c.eliminate.ensures.room c.not.ensures.made.room c.eliminate-2.ensures.room c.not-2.ensures.made.room c.node.ensures.one c.ite.ensures.made.room

pub returns-clause-room : goal.returns-clause-room
returns-clause-room c =
    pick-room c.args.ops.now c.eliminate.new.ops c.not.new.self c.eliminate-2.new.ops c.not-2.new.self c.node.new.self c.ite.new.self c.eliminate.ensures.grows c.not.ensures.made.grows c.eliminate-2.ensures.grows c.not-2.ensures.made.grows c.node.ensures.grows c.args.f.0 c.args.parameter (length c.args.levels.now) c.args.levels.now c.requires c.in_ok-other.other.0 c.in_ok-other.ensures.function c.in_ok-never.never.0 c.in_ok-never.ensures.function c.in_ok-always.always.0 c.in_ok-sometimes.sometimes.0 c.in_ok-own.own.0 c.in_ok-always.ensures.is_node c.in_ok-sometimes.ensures.made.is_node c.in_ok-always.ensures.function c.in_ok-sometimes.ensures.function c.in_ok-own.ensures.function c.eliminate.ensures.room c.not.ensures.made.room c.eliminate-2.ensures.room c.not-2.ensures.made.room c.node.ensures.one c.ite.ensures.made.room

pub returns-clause-function : goal.returns-clause-function
returns-clause-function c =
    pick-is c.args.ops.now c.eliminate.new.ops c.not.new.self c.eliminate-2.new.ops c.not-2.new.self c.node.new.self c.ite.new.self c.eliminate.ensures.grows c.not.ensures.made.grows c.eliminate-2.ensures.grows c.not-2.ensures.made.grows c.node.ensures.grows c.args.f.0 c.args.parameter (length c.args.levels.now) c.args.levels.now c.requires c.in_ok-other.other.0 c.in_ok-other.ensures.function c.in_ok-never.never.0 c.in_ok-never.ensures.function c.in_ok-always.always.0 c.in_ok-sometimes.sometimes.0 c.in_ok-own.own.0 c.in_ok-always.ensures.is_node c.in_ok-sometimes.ensures.made.is_node c.in_ok-always.ensures.function c.in_ok-sometimes.ensures.function c.in_ok-own.ensures.function c.in_ok-n.n.0 c.in_ok-n.ensures.function
