use Rattle.std.proofs.Common.{◌≡◌, arith, ap, refl, sym, subst, drop}
use Rattle.cb_dd.specs.Diagram.{IsCanonical}
use Rattle.cb_dd.proofs.Diagrams.{is_canonical}
use Rattle.cb_dd.proofs.Tables.{node-grown, node-table, node-made, node-found, node-absent}
use Rattle.cb_dd.proofs.Dd.node.Goals as goal

pub invariant_of-self-then-count-self : goal.invariant_of-self-then-count-self
invariant_of-self-then-count-self c = node-table c.self.inside.table.keys c.find_or_add.new.table.keys c.self.inside.budget c.self.inside.fulls c.self.invariant c.args.self.now.triples (ap (λ s. s.triples) c.self.view_is) c.args.level c.args.lo.0 c.args.hi.0 c.in-Ok.low c.in-Ok-try_from.high c.in-Ok.ensures.1 c.in-Ok-try_from.ensures.1 c.if-lo-hi.false (omega (arith, c.ranges.level.fits)) c.requires.lo_child c.requires.hi_child c.in-Ok-find_or_add.ensures.grows (let n = c.count-count.ensures.count in let t = c.if-count-self.true in omega arith)

pub returns-then-count-self-clause-held : goal.returns-then-count-self-clause-held
returns-then-count-self-clause-held c = (node-grown c.self.inside.table.keys c.find_or_add.new.table.keys c.self.inside.budget c.self.inside.fulls c.self.invariant c.args.self.now.triples (ap (λ s. s.triples) c.self.view_is) c.args.level c.args.lo.0 c.args.hi.0 c.in-Ok.low c.in-Ok-try_from.high c.in-Ok.ensures.1 c.in-Ok-try_from.ensures.1 c.if-lo-hi.false (omega (arith, c.ranges.level.fits)) c.requires.lo_child c.requires.hi_child c.in-Ok-find_or_add.ensures.grows).kept

pub returns-then-count-self-clause-diagram : goal.returns-then-count-self-clause-diagram
returns-then-count-self-clause-diagram c = (node-grown c.self.inside.table.keys c.find_or_add.new.table.keys c.self.inside.budget c.self.inside.fulls c.self.invariant c.args.self.now.triples (ap (λ s. s.triples) c.self.view_is) c.args.level c.args.lo.0 c.args.hi.0 c.in-Ok.low c.in-Ok-try_from.high c.in-Ok.ensures.1 c.in-Ok-try_from.ensures.1 c.if-lo-hi.false (omega (arith, c.ranges.level.fits)) c.requires.lo_child c.requires.hi_child c.in-Ok-find_or_add.ensures.grows).diagram

pub returns-then-count-self-clause-function : goal.returns-then-count-self-clause-function
returns-then-count-self-clause-function c = (node-made c.self.inside.table.keys c.find_or_add.new.table.keys c.self.inside.budget c.self.inside.fulls c.self.invariant c.args.self.now.triples (ap (λ s. s.triples) c.self.view_is) c.args.level c.args.lo.0 c.args.hi.0 c.in-Ok.low c.in-Ok-try_from.high c.in-Ok.ensures.1 c.in-Ok-try_from.ensures.1 c.if-lo-hi.false (omega (arith, c.ranges.level.fits)) c.requires.lo_child c.requires.hi_child c.in-Ok-find_or_add.ensures.grows (let n = c.count-count.ensures.count in let t = c.if-count-self.true in omega arith) c.in-Ok-find_or_add.index c.in-Ok-find_or_add.ensures.found).function

pub returns-clause-function : goal.returns-clause-function
returns-clause-function c = (node-found c.self.inside.table.keys c.self.inside.table.keys c.self.inside.budget c.self.inside.fulls c.self.invariant c.args.self.now.triples (ap (λ s. s.triples) c.self.view_is) c.args.level c.args.lo.0 c.args.hi.0 c.in-Ok.low c.in-Ok-try_from.high c.in-Ok.ensures.1 c.in-Ok-try_from.ensures.1 c.if-lo-hi.false (omega (arith, c.ranges.level.fits)) c.requires.lo_child c.requires.hi_child c.in-Some.index c.in-Some.ensures.found).function

pub returns-then-count-self-clause-is_node : goal.returns-then-count-self-clause-is_node
returns-then-count-self-clause-is_node c = (node-made c.self.inside.table.keys c.find_or_add.new.table.keys c.self.inside.budget c.self.inside.fulls c.self.invariant c.args.self.now.triples (ap (λ s. s.triples) c.self.view_is) c.args.level c.args.lo.0 c.args.hi.0 c.in-Ok.low c.in-Ok-try_from.high c.in-Ok.ensures.1 c.in-Ok-try_from.ensures.1 c.if-lo-hi.false (omega (arith, c.ranges.level.fits)) c.requires.lo_child c.requires.hi_child c.in-Ok-find_or_add.ensures.grows (let n = c.count-count.ensures.count in let t = c.if-count-self.true in omega arith) c.in-Ok-find_or_add.index c.in-Ok-find_or_add.ensures.found).node

pub returns-clause-is_node : goal.returns-clause-is_node
returns-clause-is_node c = (node-found c.self.inside.table.keys c.self.inside.table.keys c.self.inside.budget c.self.inside.fulls c.self.invariant c.args.self.now.triples (ap (λ s. s.triples) c.self.view_is) c.args.level c.args.lo.0 c.args.hi.0 c.in-Ok.low c.in-Ok-try_from.high c.in-Ok.ensures.1 c.in-Ok-try_from.ensures.1 c.if-lo-hi.false (omega (arith, c.ranges.level.fits)) c.requires.lo_child c.requires.hi_child c.in-Some.index c.in-Some.ensures.found).node

pub returns-then-count-self-clause-above : goal.returns-then-count-self-clause-above
returns-then-count-self-clause-above c = (node-made c.self.inside.table.keys c.find_or_add.new.table.keys c.self.inside.budget c.self.inside.fulls c.self.invariant c.args.self.now.triples (ap (λ s. s.triples) c.self.view_is) c.args.level c.args.lo.0 c.args.hi.0 c.in-Ok.low c.in-Ok-try_from.high c.in-Ok.ensures.1 c.in-Ok-try_from.ensures.1 c.if-lo-hi.false (omega (arith, c.ranges.level.fits)) c.requires.lo_child c.requires.hi_child c.in-Ok-find_or_add.ensures.grows (let n = c.count-count.ensures.count in let t = c.if-count-self.true in omega arith) c.in-Ok-find_or_add.index c.in-Ok-find_or_add.ensures.found).above

pub returns-clause-above : goal.returns-clause-above
returns-clause-above c = (node-found c.self.inside.table.keys c.self.inside.table.keys c.self.inside.budget c.self.inside.fulls c.self.invariant c.args.self.now.triples (ap (λ s. s.triples) c.self.view_is) c.args.level c.args.lo.0 c.args.hi.0 c.in-Ok.low c.in-Ok-try_from.high c.in-Ok.ensures.1 c.in-Ok-try_from.ensures.1 c.if-lo-hi.false (omega (arith, c.ranges.level.fits)) c.requires.lo_child c.requires.hi_child c.in-Some.index c.in-Some.ensures.found).above

pub returns-in_default-find-clause-nodes : goal.returns-in_default-find-clause-nodes
returns-in_default-find-clause-nodes c = λ _. record { differ = c.if-lo-hi.false; absent = node-absent c.self.inside.table.keys c.self.inside.table.keys c.self.inside.budget c.self.inside.fulls c.self.invariant c.args.self.now.triples (ap (λ s. s.triples) c.self.view_is) c.args.level c.args.lo.0 c.args.hi.0 c.in-Ok.low c.in-Ok-try_from.high c.in-Ok.ensures.1 c.in-Ok-try_from.ensures.1 c.if-lo-hi.false (omega (arith, c.ranges.level.fits)) c.requires.lo_child c.requires.hi_child (c.in_default-find.ensures.absent refl); full = (let n = c.count-count.ensures.count in let t = c.if-count-self.false in let w = c.count-count.ensures.within in let b : c.self.inside.budget ≡ c.args.self.now.budget = ap (λ s. s.budget) c.self.view_is in omega arith) }

pub returns-then-count-self-clause-canonical : goal.returns-then-count-self-clause-canonical
returns-then-count-self-clause-canonical c = is_canonical _ ((node-grown c.self.inside.table.keys c.find_or_add.new.table.keys c.self.inside.budget c.self.inside.fulls c.self.invariant c.args.self.now.triples (ap (λ s. s.triples) c.self.view_is) c.args.level c.args.lo.0 c.args.hi.0 c.in-Ok.low c.in-Ok-try_from.high c.in-Ok.ensures.1 c.in-Ok-try_from.ensures.1 c.if-lo-hi.false (omega (arith, c.ranges.level.fits)) c.requires.lo_child c.requires.hi_child c.in-Ok-find_or_add.ensures.grows).diagram)

pub returns-in_default-find_or_add-clause-canonical : goal.returns-in_default-find_or_add-clause-canonical
returns-in_default-find_or_add-clause-canonical c = subst (λ ks. IsCanonical (drop 2 ks)) (sym c.in_default-find_or_add.ensures.refused) (is_canonical _ c.self.invariant.diagram)

pub returns-in_default-find-clause-canonical : goal.returns-in_default-find-clause-canonical
returns-in_default-find-clause-canonical c = is_canonical _ c.self.invariant.diagram
