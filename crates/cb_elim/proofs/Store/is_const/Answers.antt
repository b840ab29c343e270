use Rattle.std.proofs.Common.{subst, arith}
use Rattle.cb_dd.specs.Diagram.{IsCanonical}
use Rattle.cb_elim.specs.Store.{Seen}
use Rattle.cb_elim.proofs.Known.{zero-const, one-const, none-const}
use Rattle.cb_elim.proofs.Store.is_const.Goals as goal

pub returns-in-0 : goal.returns-in-0
returns-in-0 c = zero-const c.args.self.now.nodes.triples c.args.f.0 c.in-0.is

pub returns-in-1 : goal.returns-in-1
returns-in-1 c = one-const c.args.self.now.nodes.triples c.args.f.0 c.in-1.is

pub returns-in_default : goal.returns-in_default
returns-in_default c =
    none-const c.args.self.now.nodes.triples c.args.f.0 (subst (λ (s : Seen). IsCanonical s.nodes.triples) c.self.view_is c.count-count.ensures.canonical) c.requires (omega arith)
