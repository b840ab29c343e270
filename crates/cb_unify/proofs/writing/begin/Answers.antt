use Rattle.std.proofs.Common.{◌≡◌, ◌+◌, ◌∙◌, sym, ap, arith, rules}
use Rattle.cb_dd.specs.Diagram.{Store as Nodes}
use Rattle.cb_unify.specs.Works.{works}
use Rattle.cb_unify.proofs.Working.{node-falls, node-goes, tree-goes}
use Rattle.cb_unify.proofs.writing.begin.Goals as goal

pub returns-in-Ok-clause-goes : goal.returns-in-Ok-clause-goes
returns-in-Ok-clause-goes c =
    node-goes c.args.state.now c.args.frame.now (works c.args.pending.now.items) (works c.push_compound.new.pending.items) c.args.cells.now.items c.args.tree.now c.in-Node.name c.len.result c.in-Node.args c.as_slice.result.now c.in-Node.is c.as_slice.ensures
    (search rules) c.in-Ok.ensures

pub returns-in-Ok-clause-falls : goal.returns-in-Ok-clause-falls
returns-in-Ok-clause-falls c =
    node-falls (works c.args.pending.now.items) (works c.push_compound.new.pending.items) c.args.tree.now c.in-Node.name c.len.result c.in-Node.args c.as_slice.result.now c.in-Node.is c.as_slice.ensures c.in-Ok.ensures

pub returns-in-Ok-push : goal.returns-in-Ok-push
returns-in-Ok-push c = record {
  slots = c.in_ok-r.ensures.slots;
  goes = tree-goes c.args.state.now c.simple_cell.new.state c.args.frame.now (works c.args.pending.now.items) c.args.cells.now.items c.push.new.self.items c.args.tree.now c.in_ok-r.r c.in_ok-r.ensures.tree c.in_ok-r.ensures.room (search rules) (search rules);
  falls = omega arith;
  spent = record { room = c.in_ok-r.ensures.room; cause = λ h. absurd (search rules); fulls = search rules; risen = c.in_ok-r.ensures.risen };
  moments = c.in_ok-r.ensures.moments;
  state = c.in_ok-r.ensures.state;
}
