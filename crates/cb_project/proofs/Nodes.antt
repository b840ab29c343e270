-- Nodes of a store that grows: their functions, and the levels on which they depend.
use Rattle.std.proofs.Common.{◌≡◌, ℕ, List, [], ◌∷◌, ◌++◌, refl, ap, ap₂}
use Rattle.std.proofs.Math.Path.{fun_ext}
use Rattle.cb_dd.specs.declared.Triple.{Triple}
use Rattle.cb_dd.specs.declared.Node.{Node}
use Rattle.cb_dd.specs.Diagram.{Store, IsNode, function_of}
use Rattle.cb_ops.specs.Ops.{Grows, StandsFor, DependsOn}
use Rattle.cb_ops.specs.Support.{IsListed}
use Rattle.cb_ops.proofs.Ite.{grown-function, grown-depends, grown-node}
use Rattle.cb_boole.specs.Elimination.{Function, DependsOnly}
use Rattle.cb_solution.proofs.Solved.{only-into}
use Rattle.cb_project.specs.Leaves.{functions_of, AllNodes, AllDepend}

pub function-grown : (s t : Store) → Grows s t → (n : ℕ) → IsNode s.triples n → function_of t.triples n ≡ function_of s.triples n
function-grown s t g n w = fun_ext (λ p. grown-function s t g n w p)

pub functions-grown : (s t : Store) → Grows s t → (ns : List Node) → AllNodes s.triples ns → functions_of t.triples ns ≡ functions_of s.triples ns
functions-grown s t g [] w = refl
functions-grown s t g (n ∷ ns) w = ap₂ ◌∷◌ (function-grown s t g n.0 w.0) (functions-grown s t g ns w.1)

pub nodes-grown : (s t : Store) → Grows s t → (ns : List Node) → AllNodes s.triples ns → AllNodes t.triples ns
nodes-grown s t g [] w = tt
nodes-grown s t g (n ∷ ns) w = (grown-node s t g n.0 w.0, nodes-grown s t g ns w.1)

pub depend-grown : (s t : Store) → Grows s t → (ns : List Node) (ls : List ℕ) → AllNodes s.triples ns → AllDepend s.triples ns ls → AllDepend t.triples ns ls
depend-grown s t g [] ls w d = tt
depend-grown s t g (n ∷ ns) ls w d = (grown-depends s t g n.0 ls w.0 d.0, depend-grown s t g ns ls w.1 d.1)

pub nodes-more : (ts : List Triple) (ns : List Node) (n : Node) → AllNodes ts ns → IsNode ts n.0 → AllNodes ts (ns ++ n ∷ [])
nodes-more ts [] n w h = (h, tt)
nodes-more ts (m ∷ ns) n w h = (w.0, nodes-more ts ns n w.1 h)

pub depend-more : (ts : List Triple) (ns : List Node) (n : Node) (ls : List ℕ) → AllDepend ts ns ls → DependsOn ts n.0 ls → AllDepend ts (ns ++ n ∷ []) ls
depend-more ts [] n ls w h = (h, tt)
depend-more ts (m ∷ ns) n ls w h = (w.0, depend-more ts ns n ls w.1 h)

pub functions-more : (ts : List Triple) (ns : List Node) (n : Node) → functions_of ts (ns ++ n ∷ []) ≡ functions_of ts ns ++ function_of ts n.0 ∷ []
functions-more ts [] n = refl
functions-more ts (m ∷ ns) n = ap (λ l. function_of ts m.0 ∷ l) (functions-more ts ns n)

-- a node whose function depends on the levels of a list alone
pub depends-by : (ts : List Triple) (n : ℕ) (ls : List ℕ) (f : Function) → function_of ts n ≡ f → DependsOnly (IsListed ls) f → DependsOn ts n ls
depends-by ts n ls f e only = only-into ts n ls f (record { at = λ p. ap (λ (g : Function). g p) e }) only

pub path-of : (ts : List Triple) (n : ℕ) (f : Function) → StandsFor ts n f → function_of ts n ≡ f
path-of ts n f is = fun_ext (λ p. is.at p)
