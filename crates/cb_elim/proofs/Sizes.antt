-- How many nodes an expression adds.
use Rattle.std.proofs.Common.{◌≡◌, ℕ, zero, suc, ◌+◌, ◌-◌, ◌*◌, ◌^◌, min, ◌<◌, ◌≤◌, Bool, true, false, ◌&&◌, List, [], ◌∷◌, ◌++◌, length, map, get_or, sum, Option, Some, None, Result, Err, refl, sym, ap, subst, ◌∙◌, arith}
use Rattle.std.proofs.lemmas.Nat.{pow_pos}
use Rattle.std.proofs.lemmas.List.{length-append, length-map}
use Rattle.std.proofs.lemmas.List.Sums.{sum-map, sum_by-append}
use Rattle.std.proofs.Math.Nat.{mul-le-mul_right}
use Rattle.std.specs.Option.{option_map_or}
use Rattle.cb_model.specs.declared.Expr.{Expr}
use Rattle.cb_model.specs.declared.Expr.TheOpen.{Expr-F}
use Rattle.cb_model.specs.declared.Expr.TheVariants as expr
use Rattle.cb_model.specs.declared.Expr.TheFolds.{fold-roll-Expr}
use Rattle.cb_model.specs.Bits.{Bits, all_of}
use Rattle.cb_model.specs.Values.{expr_value, in_scope, in_scope_step}
use Rattle.cb_model.specs.Room.{expr_size, expr_size_step}
use Rattle.cb_laws.proofs.Depends.{depends}
use Rattle.cb_dd.specs.declared.Node.{Node}
use Rattle.cb_dd.specs.declared.Stop.{Stop}
use Rattle.cb_dd.specs.declared.Stop.TheVariants.{Nodes, Memory}
use Rattle.cb_dd.specs.declared.Triple.{Triple}
use Rattle.cb_dd.specs.Diagram.{Store, IsNode, function_of, fulls_after}
use Rattle.cb_ops.specs.Ops.{Grows, Room, DependsOn, Agree}
use Rattle.cb_ops.proofs.Gather.{agree-at}
use Rattle.cb_ops.proofs.Ite.{grown-function}
use Rattle.cb_elim.specs.declared.Slot.{Slot}
use Rattle.cb_elim.specs.declared.expression.Operator.{Operator}
use Rattle.cb_elim.specs.Store.{Seen, IsAsBefore, AreThere, value_in}
use Rattle.cb_elim.specs.Equation.{DependEach}
use Rattle.cb_elim.specs.Expression.{AreLevels, ChainRoom, ExprCause, ExprRoom, chain_value, variable_bits}
use Rattle.cb_elim.specs.Unified.{HasCause}
use Rattle.cb_elim.proofs.Rooms.{depend-still}

-- ---- sizes

size-const : (e : Expr) (k : ℕ) → e ≡ expr.Const k → expr_size e ≡ 1
size-const e k is = ap expr_size is ∙ ap expr_size (sym (expr.rolls-Const k)) ∙ fold-roll-Expr ℕ expr_size_step (Expr-F.Const k)

pub size-not : (e x y : Expr) → e ≡ expr.Not x → y ≡ x → expr_size e ≡ expr_size y + 1
size-not e x y is same = ap expr_size is ∙ ap expr_size (sym (expr.rolls-Not x)) ∙ fold-roll-Expr ℕ expr_size_step (Expr-F.Not x) ∙ ap (λ z. expr_size z + 1) (sym same)

-- the operators and leaves of a connective
abbrev pub chain_size : List Expr → ℕ
chain_size xs = sum (map expr_size xs) + (length xs - 1)

of-map : (xs : List Expr) → sum (map expr_size xs) + (length (map expr_size xs) - 1) ≡ chain_size xs
of-map xs = ap (λ n. sum (map expr_size xs) + (n - 1)) (length-map xs expr_size)

pub size-and : (e : Expr) (xs ys : List Expr) → e ≡ expr.And xs → ys ≡ xs → expr_size e ≡ chain_size ys
size-and e xs ys is same = ap expr_size is ∙ ap expr_size (sym (expr.rolls-And xs)) ∙ fold-roll-Expr ℕ expr_size_step (Expr-F.And xs) ∙ of-map xs ∙ ap chain_size (sym same)

pub size-xor : (e : Expr) (xs ys : List Expr) → e ≡ expr.Xor xs → ys ≡ xs → expr_size e ≡ chain_size ys
size-xor e xs ys is same = ap expr_size is ∙ ap expr_size (sym (expr.rolls-Xor xs)) ∙ fold-roll-Expr ℕ expr_size_step (Expr-F.Xor xs) ∙ of-map xs ∙ ap chain_size (sym same)

pub size-or : (e : Expr) (xs ys : List Expr) → e ≡ expr.Or xs → ys ≡ xs → expr_size e ≡ chain_size ys
size-or e xs ys is same = ap expr_size is ∙ ap expr_size (sym (expr.rolls-Or xs)) ∙ fold-roll-Expr ℕ expr_size_step (Expr-F.Or xs) ∙ of-map xs ∙ ap chain_size (sym same)

-- ---- scopes

left : (x y : Bool) → (x && y) ≡ true → x ≡ true
left true y h = refl
left false y h = h

right : (x y : Bool) → (x && y) ≡ true → y ≡ true
right true y h = h
right false y h = absurd (cc)

module _ (c v : ℕ) where
  scope-not : (e x y : Expr) → e ≡ expr.Not x → y ≡ x → in_scope c v e ≡ true → in_scope c v y ≡ true
  scope-not e x y is same h =
      let d : in_scope c v e ≡ in_scope c v x = ap (in_scope c v) is ∙ ap (in_scope c v) (sym (expr.rolls-Not x)) ∙ fold-roll-Expr Bool (in_scope_step c v) (Expr-F.Not x) in
      ap (in_scope c v) same ∙ sym d ∙ h

  scope-and : (e : Expr) (xs ys : List Expr) → e ≡ expr.And xs → ys ≡ xs → in_scope c v e ≡ true → all_of (map (in_scope c v) ys) ≡ true
  scope-and e xs ys is same h =
      let d : in_scope c v e ≡ all_of (map (in_scope c v) xs) = ap (in_scope c v) is ∙ ap (in_scope c v) (sym (expr.rolls-And xs)) ∙ fold-roll-Expr Bool (in_scope_step c v) (Expr-F.And xs) in
      ap (λ zs. all_of (map (in_scope c v) zs)) same ∙ sym d ∙ h

  scope-xor : (e : Expr) (xs ys : List Expr) → e ≡ expr.Xor xs → ys ≡ xs → in_scope c v e ≡ true → all_of (map (in_scope c v) ys) ≡ true
  scope-xor e xs ys is same h =
      let d : in_scope c v e ≡ all_of (map (in_scope c v) xs) = ap (in_scope c v) is ∙ ap (in_scope c v) (sym (expr.rolls-Xor xs)) ∙ fold-roll-Expr Bool (in_scope_step c v) (Expr-F.Xor xs) in
      ap (λ zs. all_of (map (in_scope c v) zs)) same ∙ sym d ∙ h

  scope-or : (e : Expr) (xs ys : List Expr) → e ≡ expr.Or xs → ys ≡ xs → in_scope c v e ≡ true → all_of (map (in_scope c v) ys) ≡ true
  scope-or e xs ys is same h =
      let d : in_scope c v e ≡ all_of (map (in_scope c v) xs) = ap (in_scope c v) is ∙ ap (in_scope c v) (sym (expr.rolls-Or xs)) ∙ fold-roll-Expr Bool (in_scope_step c v) (Expr-F.Or xs) in
      ap (λ zs. all_of (map (in_scope c v) zs)) same ∙ sym d ∙ h

  scope-at : (xs : List Expr) (i : ℕ) (x : Expr) → i < length xs → x ≡ get_or xs i x → all_of (map (in_scope c v) xs) ≡ true → in_scope c v x ≡ true
  scope-at [] i x lt at h = absurd (omega arith)
  scope-at (y ∷ ys) zero x lt at h = ap (in_scope c v) at ∙ left (in_scope c v y) (all_of (map (in_scope c v) ys)) h
  scope-at (y ∷ ys) (suc i) x lt at h = scope-at ys i x (omega arith) at (right (in_scope c v y) (all_of (map (in_scope c v) ys)) h)

-- ---- the levels on which nodes of expressions depend

value-alike : (ts : List Triple) (ns : List Node) (ls : List ℕ) → DependEach ts ns ls → (a b : Bits) → Agree ls a b → (x : ℕ) → value_in ts ns x a ≡ value_in ts ns x b
value-alike ts [] ls d a b h x = refl
value-alike ts (n ∷ ns) ls d a b h zero = d.0.agrees a b h
value-alike ts (n ∷ ns) ls d a b h (suc x) = value-alike ts ns ls d.1 a b h x

slot-alike : (ts : List Triple) (ns : List Node) (ls : List ℕ) → DependEach ts ns ls → (a b : Bits) → Agree ls a b → (o : Option Slot) →
    option_map_or (λ (x : Slot). value_in ts ns x.0 a) o false ≡ option_map_or (λ (x : Slot). value_in ts ns x.0 b) o false
slot-alike ts ns ls d a b h None = refl
slot-alike ts ns ls d a b h (Some x) = value-alike ts ns ls d a b h x.0

module _ (ts : List Triple) (ns : List Node) (vars : List (Option Slot)) (c : ℕ) (ls : List ℕ) (levels : AreLevels ts c ns ls) where
  value-of : Bits → Expr → Bool
  value-of a e = expr_value a (variable_bits ts ns vars a) e

  alike : (e : Expr) → in_scope c (length vars) e ≡ true → (a b : Bits) → Agree ls a b → expr_value a (variable_bits ts ns vars a) e ≡ expr_value b (variable_bits ts ns vars b) e
  alike e scope a b h =
      depends c (length vars) a b (variable_bits ts ns vars a) (variable_bits ts ns vars b) (λ k w. agree-at ls a b h k (levels.constants k w)) (λ n w. slot-alike ts ns ls levels.slots a b h (get_or vars n None)) e scope

  all-alike : (xs : List Expr) → all_of (map (in_scope c (length vars)) xs) ≡ true → (a b : Bits) → Agree ls a b →
      map (expr_value a (variable_bits ts ns vars a)) xs ≡ map (expr_value b (variable_bits ts ns vars b)) xs
  all-alike [] scope a b h = refl
  all-alike (x ∷ xs) scope a b h =
      let first = alike x (left (in_scope c (length vars) x) (all_of (map (in_scope c (length vars)) xs)) scope) a b h in
      let others = all-alike xs (right (in_scope c (length vars) x) (all_of (map (in_scope c (length vars)) xs)) scope) a b h in
      (λ j. first j ∷ others j)

  -- a node with the value of an expression, and one with that of a connective of the first expressions
  node-within : (us : List Triple) (n : ℕ) (e : Expr) → in_scope c (length vars) e ≡ true → ((a : Bits) → function_of us n a ≡ expr_value a (variable_bits ts ns vars a) e) → DependsOn us n ls
  node-within us n e scope is = record { agrees = λ a b h. is a ∙ alike e scope a b h ∙ sym (is b) }

  chain-within : (us : List Triple) (n : ℕ) (o : Operator) (xs : List Expr) → all_of (map (in_scope c (length vars)) xs) ≡ true →
      ((a : Bits) → function_of us n a ≡ chain_value o (map (expr_value a (variable_bits ts ns vars a)) xs)) → DependsOn us n ls
  chain-within us n o xs scope is = record { agrees = λ a b h. is a ∙ ap (chain_value o) (all-alike xs scope a b h) ∙ sym (is b) }

-- the levels are still all when nodes are added
levels-still : (s t : Store) → Grows s t → (ns : List Node) → AreThere s.triples ns → (c : ℕ) (ls : List ℕ) → AreLevels s.triples c ns ls → AreLevels t.triples c ns ls
levels-still s t g ns there c ls w = record { constants = w.constants; slots = depend-still s t g ns there ls w.slots }

-- ---- leaves and negations

pub same-room : (ns : List Node) (v : ℕ) (e : Expr) (s : Store) → ExprRoom ns v e s s
same-room ns v e s = record { most = λ c ls scope w. omega arith }

pub const-room : (ns : List Node) (v : ℕ) (e : Expr) (k : ℕ) (s t : Store) → e ≡ expr.Const k → length t.triples ≤ length s.triples + 1 → ExprRoom ns v e s t
const-room ns v e k s t is one = record {
  most = λ c ls scope w.
      let p : 1 ≤ 2 ^ length ls = pow_pos (length ls) in
      subst (λ n. length t.triples ≤ length s.triples + 2 * n * 2 ^ length ls) (sym (size-const e k is)) (omega arith);
}

pub const-some : (e : Expr) (k : ℕ) → e ≡ expr.Const k → 0 < expr_size e
const-some e k is = let d = size-const e k is in omega arith

pub not-some : (e x y : Expr) → e ≡ expr.Not x → y ≡ x → 0 < expr_size e
not-some e x y is same = let d = size-not e x y is same in omega arith

module _ (ns : List Node) (vars : List (Option Slot)) (e x y : Expr) (is : e ≡ expr.Not x) (same : y ≡ x) (s t u : Store) (st : Grows s t) (there : AreThere s.triples ns) (first : ExprRoom ns (length vars) y s t) where
  pub not-first : ExprRoom ns (length vars) e s t
  not-first = record {
    most = λ c ls scope w.
        let m = first.most c ls (scope-not c (length vars) e x y is same scope) w in
        subst (λ n. length t.triples ≤ length s.triples + 2 * n * 2 ^ length ls) (sym (size-not e x y is same)) (omega arith);
  }

  pub not-room : (n : ℕ) → ((a : Bits) → function_of t.triples n a ≡ expr_value a (variable_bits s.triples ns vars a) y) → Room (n ∷ []) 1 t u → ExprRoom ns (length vars) e s u
  not-room n made second = record {
    most = λ c ls scope w.
        let inner = scope-not c (length vars) e x y is same scope in
        let m = first.most c ls inner w in
        let r = second.most ls (node-within s.triples ns vars c ls w t.triples n y inner made, tt) in
        subst (λ n. length u.triples ≤ length s.triples + 2 * n * 2 ^ length ls) (sym (size-not e x y is same)) (omega arith);
  }

-- ---- connectives

module _ (ns : List Node) (v : ℕ) (e : Expr) (xs ys : List Expr) (same : ys ≡ xs) (s t : Store) (room : ChainRoom ns v ys s t) where
  pub and-room : e ≡ expr.And xs → ExprRoom ns v e s t
  and-room is = record { most = λ c ls scope w. subst (λ n. length t.triples ≤ length s.triples + 2 * n * 2 ^ length ls) (sym (size-and e xs ys is same)) (room.most c ls (scope-and c v e xs ys is same scope) w) }

  pub xor-room : e ≡ expr.Xor xs → ExprRoom ns v e s t
  xor-room is = record { most = λ c ls scope w. subst (λ n. length t.triples ≤ length s.triples + 2 * n * 2 ^ length ls) (sym (size-xor e xs ys is same)) (room.most c ls (scope-xor c v e xs ys is same scope) w) }

  pub or-room : e ≡ expr.Or xs → ExprRoom ns v e s t
  or-room is = record { most = λ c ls scope w. subst (λ n. length t.triples ≤ length s.triples + 2 * n * 2 ^ length ls) (sym (size-or e xs ys is same)) (room.most c ls (scope-or c v e xs ys is same scope) w) }

-- of one call on two nodes
pub twice : (f g : ℕ) (s t : Store) → Room (f ∷ g ∷ []) 1 s t → Room (f ∷ g ∷ []) 2 s t
twice f g s t r = record { most = λ ls d. let m = r.most ls d in let p : 1 ≤ 2 ^ length ls = pow_pos (length ls) in omega arith }

-- products of a bound
scaled : (n a b k x : ℕ) → k ≤ n + 2 * a * x → a ≤ b → k ≤ n + 2 * b * x
scaled n a b k x h le = let p : 2 * a * x ≤ 2 * b * x = mul-le-mul_right x (let q : 2 * a ≤ 2 * b = omega arith in q) in omega arith

size-parts : (xs ys : List Expr) → sum (map expr_size (xs ++ ys)) ≡ sum (map expr_size xs) + sum (map expr_size ys)
size-parts xs ys = omega (arith, sum-map expr_size (xs ++ ys), sum-map expr_size xs, sum-map expr_size ys, sum_by-append expr_size xs ys)

scope-low : (c v : ℕ) (xs ys : List Expr) → all_of (map (in_scope c v) (xs ++ ys)) ≡ true → all_of (map (in_scope c v) xs) ≡ true
scope-low c v [] ys h = refl
scope-low c v (x ∷ xs) ys h =
    let first = left (in_scope c v x) (all_of (map (in_scope c v) (xs ++ ys))) h in
    ap (λ b. b && all_of (map (in_scope c v) xs)) first ∙ scope-low c v xs ys (right (in_scope c v x) (all_of (map (in_scope c v) (xs ++ ys))) h)

scope-high : (c v : ℕ) (xs ys : List Expr) → all_of (map (in_scope c v) (xs ++ ys)) ≡ true → all_of (map (in_scope c v) ys) ≡ true
scope-high c v [] ys h = h
scope-high c v (x ∷ xs) ys h = scope-high c v xs ys (right (in_scope c v x) (all_of (map (in_scope c v) (xs ++ ys))) h)

-- no operand, and one
pub chain-none : (ns : List Node) (v : ℕ) (xs : List Expr) (s : Store) → ChainRoom ns v xs s s
chain-none ns v xs s = record { most = λ c ls scope w. omega arith }

pub chain-one : (ns : List Node) (v : ℕ) (xs : List Expr) (x : Expr) (s t : Store) → xs ≡ x ∷ [] → ExprRoom ns v x s t → ChainRoom ns v xs s t
chain-one ns v xs x s t is room = subst (λ (ys : List Expr). ChainRoom ns v ys s t) (sym is) (record {
  most = λ c ls scope w.
      let m = room.most c ls (left (in_scope c v x) true scope) w in
      scaled (length s.triples) (expr_size x) (sum (map expr_size (x ∷ [])) + (length (x ∷ []) - 1)) (length t.triples) (2 ^ length ls) m (omega arith);
})

pub one-some : (xs : List Expr) (x : Expr) → xs ≡ x ∷ [] → 0 < expr_size x → 0 < chain_size xs
one-some xs x is h = subst (λ ys. 0 < chain_size ys) (sym is) (omega arith)

-- two halves
module _ (ns : List Node) (vars : List (Option Slot)) (xs low high : List Expr) (parts : xs ≡ low ++ high) (some_low : 0 < length low) (some_high : 0 < length high) where
  long : length xs ≡ length low + length high
  long = ap length parts ∙ length-append low high

  sizes : sum (map expr_size xs) ≡ sum (map expr_size low) + sum (map expr_size high)
  sizes = ap (λ ys. sum (map expr_size ys)) parts ∙ size-parts low high

  pub halves-some : 0 < chain_size xs
  halves-some = let n = long in omega arith

  module _ (s t : Store) (first : ChainRoom ns (length vars) low s t) where
    pub low-room : ChainRoom ns (length vars) xs s t
    low-room = record {
      most = λ c ls scope w.
          let m = first.most c ls (scope-low c (length vars) low high (subst (λ ys. all_of (map (in_scope c (length vars)) ys) ≡ true) parts scope)) w in
          scaled (length s.triples) (chain_size low) (chain_size xs) (length t.triples) (2 ^ length ls) m (let n = long in let z = sizes in omega arith);
    }

    module _ (u : Store) (st : Grows s t) (there : AreThere s.triples ns) (second : ChainRoom ns (length vars) high t u) where
      two : (c : ℕ) (ls : List ℕ) → all_of (map (in_scope c (length vars)) xs) ≡ true → AreLevels s.triples c ns ls → length u.triples ≤ length s.triples + 2 * (chain_size low + chain_size high) * 2 ^ length ls
      two c ls scope w =
          let parted = subst (λ ys. all_of (map (in_scope c (length vars)) ys) ≡ true) parts scope in
          let m = first.most c ls (scope-low c (length vars) low high parted) w in
          let n = second.most c ls (scope-high c (length vars) low high parted) (levels-still s t st ns there c ls w) in
          omega arith

      pub both-room : ChainRoom ns (length vars) xs s u
      both-room = record {
        most = λ c ls scope w. scaled (length s.triples) (chain_size low + chain_size high) (chain_size xs) (length u.triples) (2 ^ length ls) (two c ls scope w) (let n = long in let z = sizes in omega arith);
      }

      module _ (v : Store) (tu : Grows t u) (o : Operator) (l r : ℕ) (wl : IsNode t.triples l) (is_l : (a : Bits) → function_of t.triples l a ≡ chain_value o (map (expr_value a (variable_bits s.triples ns vars a)) low))
          (is_r : (a : Bits) → function_of u.triples r a ≡ chain_value o (map (expr_value a (variable_bits t.triples ns vars a)) high)) (last : Room (l ∷ r ∷ []) 2 u v) where
        pub halves-room : ChainRoom ns (length vars) xs s v
        halves-room = record {
          most = λ c ls scope w.
              let parted = subst (λ ys. all_of (map (in_scope c (length vars)) ys) ≡ true) parts scope in
              let m = two c ls scope w in
              let q = last.most ls (
                chain-within s.triples ns vars c ls w u.triples l o low (scope-low c (length vars) low high parted) (λ a. grown-function t u tu l wl a ∙ is_l a),
                (chain-within t.triples ns vars c ls (levels-still s t st ns there c ls w) u.triples r o high (scope-high c (length vars) low high parted) is_r, tt),
              ) in
              scaled (length s.triples) (chain_size low + chain_size high + 1) (chain_size xs) (length v.triples) (2 ^ length ls) (omega arith) (let n = long in let z = sizes in omega arith);
        }

-- ---- the cause of a stop

pub stopped : (now fulls : ℕ) (e : Stop) → now ≡ fulls_after fulls (Err e) → (let r : Result Node Stop = Err e in r ≡ Err Nodes) → now ≡ min (fulls + 1) (2 ^ 64 - 1)
stopped now fulls Nodes is h = is
stopped now fulls Memory is h = cc

module _ (now s : Seen) (is : s ≡ now) (t : Store) where
  pub expr-room : (vars : ℕ) (e : Expr) → ExprRoom s.slots vars e s.nodes t → ExprRoom now.slots vars e now.nodes t
  expr-room vars e r = subst (λ (o : Seen). ExprRoom o.slots vars e o.nodes t) is r

  pub expr-cause : (vars : ℕ) (e : Expr) → Grows s.nodes t → in_scope now.constants vars e ≡ true → ExprRoom s.slots vars e s.nodes t → 0 < expr_size e → length t.triples ≡ t.budget → t.fulls ≡ min (s.nodes.fulls + 1) (2 ^ 64 - 1) →
      ExprCause now (record s { nodes = t }) e
  expr-cause vars e grows scope room some full rose = subst (λ (o : Seen). ExprCause o (record s { nodes = t }) e) is (record {
    rose = omega arith;
    below = λ ls w.
        let m = room.most s.constants ls (subst (λ (o : Seen). in_scope o.constants vars e ≡ true) (sym is) scope) w in
        let b = grows.budget in
        let p : 1 ≤ 2 ^ length ls = pow_pos (length ls) in
        let q : 1 * 2 ^ length ls ≤ expr_size e * 2 ^ length ls = mul-le-mul_right (2 ^ length ls) some in
        omega arith;
  })

  -- the same after a cut
  pub cut-cause : (vars : ℕ) (e : Expr) (u : Store) → Grows s.nodes t → in_scope now.constants vars e ≡ true → ExprRoom s.slots vars e s.nodes t → 0 < expr_size e → length t.triples ≡ t.budget → t.fulls ≡ min (s.nodes.fulls + 1) (2 ^ 64 - 1) →
      u.fulls ≡ t.fulls → ExprCause now (record s { nodes = u }) e
  cut-cause vars e u grows scope room some full rose fulls = let w = expr-cause vars e grows scope room some full rose in record { rose = let r = w.rose in omega arith; below = w.below }

  pub one-cause : length s.nodes.triples ≡ s.nodes.budget → t.fulls ≡ min (s.nodes.fulls + 1) (2 ^ 64 - 1) → HasCause now (record s { nodes = t }) 1
  one-cause full rose = subst (λ (o : Seen). HasCause o (record s { nodes = t }) 1) is (record { rose = omega arith; below = omega arith })

pub room-as-before : (old new : Seen) (vars : ℕ) (e : Expr) → IsAsBefore old new → ExprRoom old.slots vars e old.nodes new.nodes
room-as-before old new vars e b = record { most = λ c ls scope w. let h : length new.nodes.triples ≡ length old.nodes.triples = ap (λ (o : Seen). length o.nodes.triples) b.same in omega arith }
