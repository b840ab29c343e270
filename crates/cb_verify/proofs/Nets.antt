-- The bits of chosen nodes, and on which levels nodes depend.
use Rattle.std.proofs.Common.{◌≡◌, ℕ, zero, suc, ◌+◌, ◌*◌, ◌^◌, ◌<◌, ◌≤◌, Bool, true, false, List, [], ◌∷◌, ◌++◌, map, length, get_or, take, sum_by, refl, sym, ◌∙◌, ap, subst, arith}
use Rattle.std.proofs.lemmas.List.{map_push, length-map, get_or-map, take_more, take_all, get_or-take}
use Rattle.std.proofs.lemmas.List.Sums.{sum_by_more, sum_by-take-le}
use Rattle.std.proofs.Math.Nat.{mul-le-mul_right}
use Rattle.cb_model.specs.declared.Gate.{Gate}
use Rattle.cb_model.specs.declared.Circuit.{Circuit}
use Rattle.cb_model.specs.Bits.{Bits, Each, numbers, first_bits}
use Rattle.cb_model.specs.Circuits.{read_all}
use Rattle.cb_dd.specs.declared.Node.{Node}
use Rattle.cb_dd.specs.declared.Triple.{Triple}
use Rattle.cb_dd.specs.Diagram.{Store, IsNode, function_of}
use Rattle.cb_ops.specs.Ops.{Grows, Agree, DependsOn}
use Rattle.cb_verify.specs.Nodes.{AreNodes, node_at, node_bits, DependOn, Adds}
use Rattle.cb_verify.proofs.Kept.{node_bits-kept}
use Rattle.cb_verify.proofs.Chains.{Each-at}

-- the bits of chosen nodes are the bits that are read
pub reads : (ts : List Triple) (ns : List Node) (a : Bits) (ks : List ℕ) → Each (λ k. k < length ns) ks → node_bits ts (map (node_at ns) ks) a ≡ read_all (node_bits ts ns a) ks
reads ts ns a [] h = refl
reads ts ns a (k ∷ ks) h = λ j. sym (get_or-map (λ n. function_of ts n.0 a) ns k (record { 0 = 0 }) false h.0) j ∷ reads ts ns a ks h.1 j

pub chosen : (ts : List Triple) (ns : List Node) (ks : List ℕ) → AreNodes ts ns → Each (λ k. k < length ns) ks → AreNodes ts (map (node_at ns) ks)
chosen ts ns [] are h = tt
chosen ts ns (k ∷ ks) are h = (Each-at (λ n. IsNode ts n.0) ns k (record { 0 = 0 }) are h.0, chosen ts ns ks are h.1)

head_of : Bool → List Bool → Bool
head_of d [] = d
head_of d (x ∷ xs) = x

tail_of : List Bool → List Bool
tail_of [] = []
tail_of (x ∷ xs) = xs

-- nodes whose bits depend on some levels alone
pub depend-by : (ts : List Triple) (ns : List Node) (ls : List ℕ) → ((a b : Bits) → Agree ls a b → node_bits ts ns a ≡ node_bits ts ns b) → DependOn ts ns ls
unfolding head_of tail_of
depend-by ts [] ls h = tt
depend-by ts (n ∷ ns) ls h =
    (record { agrees = λ a b e. ap (head_of false) (h a b e) }, depend-by ts ns ls (λ a b e. ap tail_of (h a b e)))
