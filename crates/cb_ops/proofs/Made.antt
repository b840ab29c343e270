-- The laws behind what every operation that makes nodes promises.
use Rattle.std.proofs.Common.{◌≡◌, ℕ, ◌<◌, List, Result, Ok, Err, ap, ◌∙◌}
use Rattle.cb_dd.specs.declared.Node.{Node}
use Rattle.cb_dd.specs.declared.Stop.{Stop}
use Rattle.cb_dd.specs.declared.Stop.TheVariants.{Nodes}
use Rattle.cb_dd.specs.Diagram.{Store, IsNode, IsDiagram, fulls_after}
use Rattle.cb_ops.specs.Ops.{Grows, Room}
use Rattle.cb_ops.specs.Makes.{Makes, MakesNode}
use Rattle.cb_ops.proofs.Ite.{Grows-then}
use Rattle.cb_ops.proofs.Composed.{composed-cause}

-- an operation after others that refused nothing, with its room from the first on
pub made-after : (ns ms : List ℕ) (times other : ℕ) (s t v : Store) (r : Result Node Stop) → Grows s t → t.fulls ≡ s.fulls → Room ns times s v → 0 < times → Makes ms other t v r → Makes ns times s v r
made-after ns ms times other s t v r st same room some m = record {
  is_node = m.is_node;
  grows = Grows-then s t v st m.grows;
  room = room;
  full = m.full;
  nodes = λ h. composed-cause ns ms times other s t v room same (m.grows.budget ∙ st.budget) (m.full h) some (m.nodes h);
  unbounded = λ b. m.unbounded (st.budget ∙ b);
  fulls = m.fulls ∙ ap (λ n. fulls_after n r) same;
  diagram = m.diagram;
}

-- the same but for the room
pub made-on : (s t v : Store) (r : Result Node Stop) → Grows s t → t.fulls ≡ s.fulls → MakesNode t v r → MakesNode s v r
made-on s t v r st same m = record {
  is_node = m.is_node;
  grows = Grows-then s t v st m.grows;
  full = m.full;
  unbounded = λ b. m.unbounded (st.budget ∙ b);
  fulls = m.fulls ∙ ap (λ n. fulls_after n r) same;
  diagram = m.diagram;
}

-- a node, where nothing was refused
pub made-ok : (s t : Store) (n : Node) → IsNode t.triples n.0 → Grows s t → t.fulls ≡ s.fulls → IsDiagram t.triples → MakesNode s t (Ok n)
made-ok s t n w st same is = record {
  is_node = w;
  grows = st;
  full = λ h. absurd (let e : Ok n ≡ Err Nodes = h in cc);
  unbounded = λ b h. absurd (let e : Ok n ≡ Err Nodes = h in cc);
  fulls = same;
  diagram = is;
}
