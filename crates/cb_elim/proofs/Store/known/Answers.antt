use Rattle.std.proofs.Common.{◌<◌, ◌↔◌, subst}
use Rattle.std.specs.Prelude.{IsTrue}
use Rattle.cb_dd.specs.Diagram.{function_of}
use Rattle.cb_boole.specs.Elimination.{DependsOnly}
use Rattle.cb_elim.specs.Store.{Seen}
use Rattle.cb_elim.proofs.Known.{known-below, below-known}
use Rattle.cb_elim.proofs.Store.known.Goals as goal

pub returns : goal.returns
returns c =
    let is = rw c.as_slice.ensures at c.are_below-known.ensures in
    subst (λ (s : Seen). IsTrue c.are_below-known.result ↔ DependsOnly (λ l. l < s.constants) (function_of s.nodes.triples c.args.f.0)) c.self.view_is (
      (λ t. known-below c.self.inside.ops.triples c.args.f.0 c.self.inside.constants c.in_ok-support.support.items c.in_ok-support.ensures.enough c.in_ok-support.ensures.needed (is.0 t)),
      (λ only. is.1 (below-known c.self.inside.ops.triples c.args.f.0 c.self.inside.constants c.in_ok-support.support.items c.in_ok-support.ensures.enough c.in_ok-support.ensures.needed only)),
    )
