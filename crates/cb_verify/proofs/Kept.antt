-- What stays of nodes when a store grows, and on which levels they depend.
use Rattle.std.proofs.Common.{◌≡◌, ℕ, ◌+◌, ◌^◌, ◌<◌, ◌≤◌, Bool, List, [], ◌∷◌, ◌++◌, map, take, get_or, length, refl, sym, ◌∙◌, ap, arith, length-append}
use Rattle.std.proofs.lemmas.List.{map_push, take_more}
use Rattle.std.proofs.Math.Nat.{mul-le-mul_right}
use Rattle.cb_model.specs.Bits.{Bits, first_bits}
use Rattle.cb_dd.specs.declared.Node.{Node}
use Rattle.cb_dd.specs.declared.Triple.{Triple}
use Rattle.cb_dd.specs.Diagram.{Store, IsNode, function_of}
use Rattle.cb_dd.proofs.Diagrams.{function_of-append, function_of-zero, function_of-one}
use Rattle.cb_ops.specs.Ops.{Grows, Agree, DependsOn, Room}
use Rattle.cb_verify.specs.Nodes.{AreNodes, node_bits, DependOn, Adds}

-- a node stays a node
pub node-kept : (s t : Store) → Grows s t → (n : ℕ) → IsNode s.triples n → IsNode t.triples n
node-kept s t g n h = omega (arith, h, ap length g.triples, length-append s.triples g.more)

-- it keeps its function
pub function-kept : (s t : Store) → Grows s t → (n : ℕ) → IsNode s.triples n → (a : Bits) → function_of t.triples n a ≡ function_of s.triples n a
function-kept s t g n h a = ap (λ ts. function_of ts n a) g.triples ∙ function_of-append s.triples g.more n h a

-- it depends on the same levels
pub depends-kept : (s t : Store) → Grows s t → (n : ℕ) → IsNode s.triples n → (ls : List ℕ) → DependsOn s.triples n ls → DependsOn t.triples n ls
depends-kept s t g n h ls d = record { agrees = λ a b e. function-kept s t g n h a ∙ d.agrees a b e ∙ sym (function-kept s t g n h b) }

pub AreNodes-kept : (s t : Store) → Grows s t → (ns : List Node) → AreNodes s.triples ns → AreNodes t.triples ns
AreNodes-kept s t g [] h = tt
AreNodes-kept s t g (n ∷ ns) h = (node-kept s t g n.0 h.0, AreNodes-kept s t g ns h.1)

pub node_bits-kept : (s t : Store) → Grows s t → (ns : List Node) → AreNodes s.triples ns → (a : Bits) → node_bits t.triples ns a ≡ node_bits s.triples ns a
node_bits-kept s t g [] h a = refl
node_bits-kept s t g (n ∷ ns) h a = λ j. function-kept s t g n.0 h.0 a j ∷ node_bits-kept s t g ns h.1 a j

pub DependOn-kept : (s t : Store) → Grows s t → (ns : List Node) → AreNodes s.triples ns → (ls : List ℕ) → DependOn s.triples ns ls → DependOn t.triples ns ls
DependOn-kept s t g [] h ls d = tt
DependOn-kept s t g (n ∷ ns) h ls d = (depends-kept s t g n.0 h.0 ls d.0, DependOn-kept s t g ns h.1 ls d.1)

-- the bits of nodes where two assignments agree
pub node_bits-agree : (ts : List Triple) (ns : List Node) (ls : List ℕ) (a b : Bits) → DependOn ts ns ls → Agree ls a b → node_bits ts ns a ≡ node_bits ts ns b
node_bits-agree ts [] ls a b d e = refl
node_bits-agree ts (n ∷ ns) ls a b d e = λ j. d.0.agrees a b e j ∷ node_bits-agree ts ns ls a b d.1 e j

-- what is a function of the bits of nodes depends on what they depend on
pub depends-by : (s t : List Triple) (ns : List Node) (r : ℕ) (F : List Bool → Bool) → ((a : Bits) → function_of t r a ≡ F (node_bits s ns a)) → (ls : List ℕ) → DependOn s ns ls → DependsOn t r ls
depends-by s t ns r F is ls d = record { agrees = λ a b e. is a ∙ ap F (node_bits-agree s ns ls a b d e) ∙ sym (is b) }

-- the same of an operator on two nodes
pub depends-two : (s t : List Triple) (m n r : ℕ) (F : Bool → Bool → Bool) → ((a : Bits) → function_of t r a ≡ F (function_of s m a) (function_of s n a)) → (ls : List ℕ) → DependsOn s m ls → DependsOn s n ls → DependsOn t r ls
depends-two s t m n r F is ls d e = record { agrees = λ a b h. is a ∙ (λ j. F (d.agrees a b h j) (e.agrees a b h j)) ∙ sym (is b) }

-- one more node
pub AreNodes-push : (ts : List Triple) (ns : List Node) (n : Node) → AreNodes ts ns → IsNode ts n.0 → AreNodes ts (ns ++ n ∷ [])
AreNodes-push ts [] n h w = (w, tt)
AreNodes-push ts (m ∷ ns) n h w = (h.0, AreNodes-push ts ns n h.1 w)

pub DependOn-push : (ts : List Triple) (ns : List Node) (n : Node) (ls : List ℕ) → DependOn ts ns ls → DependsOn ts n.0 ls → DependOn ts (ns ++ n ∷ []) ls
DependOn-push ts [] n ls d e = (e, tt)
DependOn-push ts (m ∷ ns) n ls d e = (d.0, DependOn-push ts ns n ls d.1 e)

-- no operation
pub Adds-none : (s : Store) (k : ℕ) (ns : List Node) → Adds s s k ns
Adds-none s k ns = record { most = λ ls d. omega arith }

-- the functions of the constants
pub ruleset constants = (function_of-zero, function_of-one)

-- one more node in a grown store
pub nodes-push : (s t : Store) → Grows s t → (ns : List Node) (n : Node) → AreNodes s.triples ns → IsNode t.triples n.0 → AreNodes t.triples (ns ++ n ∷ [])
nodes-push s t g ns n h w = AreNodes-push t.triples ns n (AreNodes-kept s t g ns h) w

-- the literal of the next of these levels
pub literal-next : (s t : Store) → Grows s t → (ns : List Node) (n : Node) (ls : List ℕ) (i : ℕ) → i < length ls → AreNodes s.triples ns → ((a : Bits) → node_bits s.triples ns a ≡ map a (take i ls))
    → ((a : Bits) → function_of t.triples n.0 a ≡ a (get_or ls i 0)) → (a : Bits) → node_bits t.triples (ns ++ n ∷ []) a ≡ map a (take (i + 1) ls)
literal-next s t g ns n ls i lt are bits made a =
    map_push (λ m. function_of t.triples m.0 a) ns n ∙ (λ j. (node_bits-kept s t g ns are a ∙ bits a) j ++ made a j ∷ [])
    ∙ sym (map_push a (take i ls) (get_or ls i 0)) ∙ ap (map a) (sym (take_more ls i 0 lt))

-- the room of one operation
pub one-room : (s t : Store) (f : Node) → Room (f.0 ∷ []) 1 s t → Adds s t 1 (f ∷ [])
one-room s t f r = record { most = λ ls d. omega (arith, r.most ls d) }

pub two-room : (s t : Store) (f g : Node) (k : ℕ) → k ≤ 2 → Room (f.0 ∷ g.0 ∷ []) k s t → Adds s t 1 (f ∷ g ∷ [])
two-room s t f g k h r = record { most = λ ls d. omega (arith, r.most ls d, mul-le-mul_right (2 ^ length ls) h) }
