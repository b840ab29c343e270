-- The pieces of terms, one after another, are their text.
use Rattle.std.proofs.Common.{◌≡◌, ℕ, zero, suc, ◌+◌, List, [], ◌∷◌, ◌++◌, map, length, get_or, codes, Option, Some, None, refl, sym, ap, ◌∙◌, arith, append_assoc}
use Rattle.std.specs.Borrow.{Bor}
use Rattle.std.specs.Prelude.{option_map}
use Rattle.std.specs.Fmt.{signed_decimal}
use Rattle.std.proofs.lemmas.List.{append-nil}
use Rattle.std.proofs.lemmas.Grind.{flat_map-append}
use Rattle.cb_model.specs.declared.Sort.TheVariants as sort
use Rattle.cb_model.specs.declared.Expr.TheVariants as expr
use Rattle.cb_model.specs.declared.Tree.TheOpen.{Tree-F}
use Rattle.cb_model.specs.declared.Tree.TheVariants as tree
use Rattle.cb_model.specs.declared.Tree.TheFolds.{fold-roll-Tree}
use Rattle.cb_model.specs.Bits.{numbers_from}
use Rattle.cb_model.specs.Answers.{leaf_number}
use Rattle.cb_model.specs.Text.{Text, joined, name_text}
use Rattle.cb_model.specs.Line.{Names, open_text, bus_text, node_text, tree_text, tree_text_step, items_text, line_items}
use Rattle.cb_laws.proofs.Shapes.{number-var, text-leaf, text-bus, text-term, text-node}
use Rattle.cb_laws.proofs.OpenTrees.{Plain, Plains, ALeaf, ABus, AVar, AnInt, ANode, Nil, Cons, Place, closed, closed_all, plain_leaves, all_leaves, all_opens}
use Rattle.cb_heap.specs.declared.Ref.{Ref}
use Rattle.cb_shape.specs.declared.Root.{Root}
use Rattle.cb_shape.specs.declared.Root.TheVariants as root
use Rattle.cb_shape.specs.declared.Token.{Token}
use Rattle.cb_shape.specs.Shapes.{place_from, firsts, numbered, numbered_all}
use Rattle.cb_shape.specs.Tokens.{tail_tokens, bus_tokens, tokens, argument_tokens, rest_tokens, root_tokens, roots_tokens}
use Rattle.cb_shape.specs.Text.{AreOfLine, PiecesAreTheLine, line_start, starts, term_starts, token_text, tokens_text}

-- the pieces that follow others, each behind the separator
abbrev behind : List Text → Text
behind [] = []
behind (x ∷ xs) = codes ", " ++ x ++ behind xs

-- the arguments of a name in their parentheses, if there are any
abbrev node-tail : List Text → Text
node-tail [] = []
node-tail (x ∷ xs) = codes "(" ++ (joined (codes ", ") (x ∷ xs) ++ codes ")")

joined-behind : (x : Text) (xs : List Text) → joined (codes ", ") (x ∷ xs) ≡ x ++ behind xs
joined-behind x [] = sym (append-nil x)
joined-behind x (y ∷ ys) =
    ap (λ u. x ++ codes ", " ++ u) (joined-behind y ys)
    ∙ append_assoc x (codes ", ") (y ++ behind ys) ∙ sym (ap (λ u. x ++ u) (append_assoc (codes ", ") y (behind ys)))

-- what stands before the first of the terms that are left, and before the next ones
at-first : (before : List Text) (i : ℕ) (xs : List Text) → ((k : ℕ) → get_or before (i + k) [] ≡ get_or (map (λ t. codes ", " ++ t) xs) k []) → get_or before i [] ≡ get_or (map (λ t. codes ", " ++ t) xs) 0 []
at-first before i xs h = ap (λ m. get_or before m []) (let e : i ≡ i + 0 = omega arith in e) ∙ h 0

at-next : (before : List Text) (i : ℕ) (x : Text) (xs : List Text) → ((k : ℕ) → get_or before (i + k) [] ≡ get_or (map (λ t. codes ", " ++ t) (x ∷ xs)) k []) →
    (k : ℕ) → get_or before (suc i + k) [] ≡ get_or (map (λ t. codes ", " ++ t) xs) k []
at-next before i x xs h k = ap (λ m. get_or before m []) (let e : suc i + k ≡ i + suc k = omega arith in e) ∙ h (suc k)

module _ (names : Names) (before : List Text) (leaf : ℕ → Text) (os : List Place) where
  -- ---- buses

  leaf-texts : (j n : ℕ) → map (λ e. leaf (leaf_number e)) (map expr.Var (numbers_from j n)) ≡ map leaf (numbers_from j n)
  leaf-texts j zero = refl
  leaf-texts j (suc n) = let a = ap leaf (number-var j) in let b = leaf-texts (suc j) n in λ i. a i ∷ b i

  -- what closes a bus
  abbrev end-text : Option ℕ → Text
  end-text None = codes "]"
  end-text (Some c) = codes "|" ++ open_text (place_from 0 os (sort.Bus, c)) ++ codes "]"

  tail-text : (j : ℕ) (ss : List ℕ) (t : Option ℕ) → tokens_text names before leaf (tail_tokens os j ss t) ≡ behind (map leaf (numbers_from j (length ss))) ++ end-text t
  tail-text j [] None = refl
  tail-text j [] (Some c) = sym (append_assoc (codes "|") (open_text (place_from 0 os (sort.Bus, c))) (codes "]"))
  tail-text j (s ∷ ss) t =
      let rest = behind (map leaf (numbers_from (suc j) (length ss))) in
      ap (λ u. codes ", " ++ (leaf j ++ u)) (tail-text (suc j) ss t)
      ∙ ap (λ u. codes ", " ++ u) (sym (append_assoc (leaf j) rest (end-text t)))
      ∙ sym (append_assoc (codes ", ") (leaf j ++ rest) (end-text t))
      ∙ ap (λ u. u ++ end-text t) (sym (append_assoc (codes ", ") (leaf j) rest))

  bus-told : (j : ℕ) (ss : List ℕ) (t : Option ℕ) →
      tokens_text names before leaf (bus_tokens os j ss t) ≡ bus_text (map leaf (numbers_from j (length ss))) (option_map (λ c. place_from 0 os (sort.Bus, c)) t)
  bus-told j [] None = refl
  bus-told j [] (Some c) = append-nil (open_text (place_from 0 os (sort.Bus, c)))
  bus-told j (s ∷ ss) None =
      let rest = map leaf (numbers_from (suc j) (length ss)) in
      ap (λ u. codes "[" ++ (leaf j ++ u)) (tail-text (suc j) ss None)
      ∙ ap (λ u. codes "[" ++ u) (sym (append_assoc (leaf j) (behind rest) (codes "]")) ∙ ap (λ u. u ++ codes "]") (sym (joined-behind (leaf j) rest)))
      ∙ sym (append_assoc (codes "[") (joined (codes ", ") (leaf j ∷ rest)) (codes "]"))
  bus-told j (s ∷ ss) (Some c) =
      let rest = map leaf (numbers_from (suc j) (length ss)) in
      let o = open_text (place_from 0 os (sort.Bus, c)) in
      let x = joined (codes ", ") (leaf j ∷ rest) in
      ap (λ u. codes "[" ++ (leaf j ++ u)) (tail-text (suc j) ss (Some c))
      ∙ ap (λ u. codes "[" ++ u) (sym (append_assoc (leaf j) (behind rest) (codes "|" ++ o ++ codes "]")) ∙ ap (λ u. u ++ (codes "|" ++ o ++ codes "]")) (sym (joined-behind (leaf j) rest)))
      ∙ sym (append_assoc (codes "[") x (codes "|" ++ o ++ codes "]"))
      ∙ sym (append_assoc (codes "[" ++ x) (codes "|" ++ o) (codes "]"))
      ∙ ap (λ u. u ++ codes "]") (sym (append_assoc (codes "[" ++ x) (codes "|") o))

  -- ---- terms

  abbrev text : ℕ → Plain → Text
  text j p = tree_text names leaf (closed (numbered os j p))

  abbrev texts : ℕ → Plains → List Text
  texts j ps = map (tree_text names leaf) (closed_all (numbered_all os j ps))

  parts-told : (xs ys : List Token) (x y : Text) → tokens_text names before leaf xs ≡ x → tokens_text names before leaf ys ≡ y → tokens_text names before leaf (xs ++ ys) ≡ x ++ y
  parts-told xs ys x y e f = flat_map-append (token_text names before leaf) xs ys ∙ ap (λ u. u ++ tokens_text names before leaf ys) e ∙ ap (λ u. x ++ u) f

  node-told : (n : ℕ) (xs : List Text) (u : Text) → u ≡ node-tail xs → name_text (get_or names.names n []) ++ u ≡ node_text (get_or names.names n []) xs
  node-told n [] u e = ap (λ v. name_text (get_or names.names n []) ++ v) e ∙ append-nil (name_text (get_or names.names n []))
  node-told n (x ∷ xs) u e =
      let m = name_text (get_or names.names n []) in
      ap (λ v. m ++ v) e
      ∙ sym (append_assoc m (codes "(") (joined (codes ", ") (x ∷ xs) ++ codes ")"))
      ∙ sym (append_assoc (m ++ codes "(") (joined (codes ", ") (x ∷ xs)) (codes ")"))

  mutual
    pub term-told : (j : ℕ) (p : Plain) → tokens_text names before leaf (tokens os j p) ≡ text j p
    term-told j (ALeaf s) = append-nil (leaf j) ∙ sym (text-leaf names leaf (expr.Var j) ∙ ap leaf (number-var j))
    term-told j (ABus ss t) =
        bus-told j ss t
        ∙ sym (text-bus names leaf (map expr.Var (numbers_from j (length ss))) (option_map (λ c. place_from 0 os (sort.Bus, c)) t)
        ∙ ap (λ xs. bus_text xs (option_map (λ c. place_from 0 os (sort.Bus, c)) t)) (leaf-texts j (length ss)))
    term-told j (AVar c) = append-nil (open_text (place_from 0 os (sort.Term, c))) ∙ sym (text-term names leaf (place_from 0 os (sort.Term, c)))
    term-told j (AnInt z) =
        append-nil (signed_decimal z) ∙ sym (ap (tree_text names leaf) (sym (tree.rolls-Int z)) ∙ fold-roll-Tree Text (tree_text_step names leaf) (Tree-F.Int z))
    term-told j (ANode n ps) =
        node-told n (texts j ps) (tokens_text names before leaf (argument_tokens os j ps)) (arguments-told j ps)
        ∙ sym (text-node names leaf n (closed_all (numbered_all os j ps)))

    arguments-told : (j : ℕ) (ps : Plains) → tokens_text names before leaf (argument_tokens os j ps) ≡ node-tail (texts j ps)
    arguments-told j Nil = refl
    arguments-told j (Cons p ps) =
        let k = j + length (plain_leaves p) in
        ap (λ u. codes "(" ++ u) (parts-told (tokens os j p) (rest_tokens os k ps) (text j p) (behind (texts k ps) ++ codes ")") (term-told j p) (rest-told k ps)
        ∙ sym (append_assoc (text j p) (behind (texts k ps)) (codes ")")) ∙ ap (λ u. u ++ codes ")") (sym (joined-behind (text j p) (texts k ps))))

    rest-told : (j : ℕ) (ps : Plains) → tokens_text names before leaf (rest_tokens os j ps) ≡ behind (texts j ps) ++ codes ")"
    rest-told j Nil = refl
    rest-told j (Cons p ps) =
        let k = j + length (plain_leaves p) in
        ap (λ u. codes ", " ++ u) (parts-told (tokens os j p) (rest_tokens os k ps) (text j p) (behind (texts k ps) ++ codes ")") (term-told j p) (rest-told k ps)
        ∙ sym (append_assoc (text j p) (behind (texts k ps)) (codes ")")))
        ∙ sym (append_assoc (codes ", ") (text j p ++ behind (texts k ps)) (codes ")"))
        ∙ ap (λ u. u ++ codes ")") (sym (append_assoc (codes ", ") (text j p) (behind (texts k ps))))

  -- ---- the items of a line

  -- the text of an item, from what stands before its term
  abbrev ItemTold : ℕ → Text → Root → Plain → Text → Type 0
  ItemTold j s r p x = s ++ tokens_text names before leaf (root_tokens os j r p) ≡ x

  goal-item : (j : ℕ) (w : Text) (args : Bor (List Ref)) (n : ℕ) (qs : Plains) → get_or names.names n [] ≡ w →
      ItemTold j (codes "waiting " ++ name_text w) (root.Goal args) (ANode n qs) (codes "waiting " ++ text j (ANode n qs))
  goal-item j w args n qs e =
      let u = tokens_text names before leaf (argument_tokens os j qs) in
      append_assoc (codes "waiting ") (name_text w) u
      ∙ ap (λ v. codes "waiting " ++ v)
      (ap (λ v. name_text v ++ u) (sym e) ∙ node-told n (texts j qs) u (arguments-told j qs) ∙ sym (text-node names leaf n (closed_all (numbered_all os j qs))))

  -- one item more
  item-told : (j i : ℕ) (r : Root) (p : Plain) (rs : List Root) (ps : Plains) (s x : Text) (xs : List Text) → get_or before i [] ≡ codes ", " ++ s → ItemTold j s r p x →
      tokens_text names before leaf (roots_tokens os (j + length (plain_leaves p)) (suc i) rs ps) ≡ behind xs →
      tokens_text names before leaf (roots_tokens os j i (r ∷ rs) (Cons p ps)) ≡ behind (x ∷ xs)
  item-told j i r p rs ps s x xs e t f =
      let k = j + length (plain_leaves p) in
      let u = tokens_text names before leaf (root_tokens os j r p) in
      ap (λ v. get_or before i [] ++ v) (parts-told (root_tokens os j r p) (roots_tokens os k (suc i) rs ps) u (behind xs) refl f)
      ∙ ap (λ v. v ++ (u ++ behind xs)) e
      ∙ append_assoc (codes ", ") s (u ++ behind xs)
      ∙ ap (λ v. codes ", " ++ v) (sym (append_assoc s u (behind xs)) ∙ ap (λ v. v ++ behind xs) t)
      ∙ sym (append_assoc (codes ", ") x (behind xs))

  -- the items from the i-th on, for the variables and the goals that are left
  items-told : (us : List (ℕ × Text)) (ws : List Text) (j i : ℕ) (rs : List Root) (ps : Plains) → AreOfLine names.names us ws rs ps →
      ((k : ℕ) → get_or before (i + k) [] ≡ get_or (map (λ t. codes ", " ++ t) (starts us ws)) k []) →
      tokens_text names before leaf (roots_tokens os j i rs ps) ≡ behind (items_text us (texts j ps))
  items-told [] [] j i [] Nil a h = refl
  items-told [] (w ∷ ws) j i (root.Goal args ∷ rs) (Cons (ANode n qs) ps) a h =
      let k = j + length (all_leaves qs) in
      item-told j i (root.Goal args) (ANode n qs) rs ps (codes "waiting " ++ name_text w) (codes "waiting " ++ text j (ANode n qs)) (items_text [] (texts k ps)) (at-first before i (starts [] (w ∷ ws)) h)
      (goal-item j w args n qs a.0) (items-told [] ws k (suc i) rs ps a.1 (λ m. at-next before i (codes "waiting " ++ name_text w) (starts [] ws) h m))
  items-told (u ∷ us) ws j i (root.Term r ∷ rs) (Cons p ps) a h =
      let k = j + length (plain_leaves p) in
      item-told j i (root.Term r) p rs ps (u.1 ++ codes " = ") ((u.1 ++ codes " = ") ++ text j p) (items_text us (texts k ps)) (at-first before i (starts (u ∷ us) ws) h)
      (ap (λ v. (u.1 ++ codes " = ") ++ v) (term-told j p)) (items-told us ws k (suc i) rs ps a (λ m. at-next before i (u.1 ++ codes " = ") (starts us ws) h m))
  items-told us ws j i rs ps a h = absurd a

-- ---- the line

line-told : (vs : List (ℕ × Text)) (names : Names) (ws : List Text) (leaf : ℕ → Text) (os : List Place) (rs : List Root) (ps : Plains) → AreOfLine names.names vs ws rs ps →
    line_start vs ++ tokens_text names (term_starts vs ws) leaf (roots_tokens os 0 0 rs ps)
    ≡ joined (codes ", ") (line_items vs (map (tree_text names leaf) (closed_all (numbered_all os 0 ps))))
line-told [] names ws leaf os rs ps a =
    let before = term_starts [] ws in
    ap (λ u. codes "yes" ++ u) (items-told names before leaf os [] ws 0 0 rs ps a (λ k. ap (λ i. get_or before i []) (let e : 0 + k ≡ k = omega arith in e)))
    ∙ sym (joined-behind (codes "yes") (items_text [] (texts names before leaf os 0 ps)))
line-told (v ∷ vs) names ws leaf os (root.Term r ∷ rs) (Cons p ps) a =
    let before = term_starts (v ∷ vs) ws in
    let k = 0 + length (plain_leaves p) in
    let xs = items_text vs (texts names before leaf os k ps) in
    let s = v.1 ++ codes " = " in
    ap (λ u. s ++ u) (parts-told names before leaf os (tokens os 0 p) (roots_tokens os k 1 rs ps) (text names before leaf os 0 p) (behind xs) (term-told names before leaf os 0 p)
    (items-told names before leaf os vs ws k 1 rs ps a (λ i. ap (λ m. get_or before m []) (let e : 1 + i ≡ suc i = omega arith in e))))
    ∙ sym (append_assoc s (text names before leaf os 0 p) (behind xs))
    ∙ sym (joined-behind (s ++ text names before leaf os 0 p) xs)
line-told (v ∷ vs) names ws leaf os rs ps a = absurd a

pub pieces-line : PiecesAreTheLine
pieces-line names ws leaf rs ps a = line-told names.printed names ws leaf (firsts [] (all_opens ps)) rs ps a
