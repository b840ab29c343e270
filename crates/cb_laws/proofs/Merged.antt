-- Solutions at single assignments join to one in the algebra: the forms are those of the first assignment's solution, the
-- bits those of each assignment's own where it has them.
use Rattle.std.proofs.Common.{◌≡◌, ℕ, Bool, false, List, [], ◌∷◌, ◌++◌, map, length, get_or, refl, sym, ◌∙◌, ap, subst, arith, pos}
use Rattle.std.proofs.lemmas.List.{length-map}
use Rattle.std.proofs.Math.Path.{fun_ext}
use Rattle.std.specs.Prelude.{Option, Some, None}
use Rattle.cb_model.specs.declared.Sort.{Sort}
use Rattle.cb_model.specs.declared.Sort.TheVariants as sort
use Rattle.cb_model.specs.declared.Circuit.{Circuit}
use Rattle.cb_model.specs.declared.Expr.{Expr}
use Rattle.cb_model.specs.declared.Tree.{Tree}
use Rattle.cb_model.specs.declared.Tree.TheOpen.{Tree-F}
use Rattle.cb_model.specs.declared.Tree.TheViews.{roll-Tree}
use Rattle.cb_model.specs.declared.Tree.TheFolds.{fold-roll-Tree, ind-Tree, map-Tree}
use Rattle.cb_model.specs.Bits.{Bits, AgreeBelow, Each}
use Rattle.cb_model.specs.Circuits.{Outputs}
use Rattle.cb_model.specs.Values.{Ground, Bit, Word, Int, Name, Grounds, Last, More, grounds, Sorts, Fits, FitAll, World, Valuation, IsValuation, expr_value, tail_of, tree_step, tree_value}
use Rattle.cb_model.specs.Equations.{Item, Pair, Part, Holds, Sat, SolvedAt, Solvable, Meets, Table, ReadsBelow, Tabled, TableBit, TableWord, TableInt, TableName, Tableds, NoTabled, OneTabled, at, all_at, Substitution, valued, Solves, TabledBelow, AllBelow, ReadsOnly}
use Rattle.cb_laws.specs.Laws.{InScope, SolvableInAlgebra}
use Rattle.cb_laws.proofs.DependsTrees.{agree_self, items_depend}
use Rattle.cb_laws.proofs.Decided.{agree_first, trimmed, same_trimmed}

-- ---- a value with the form of the first and the bits of the second

abbrev bit_or : Bool → Ground → Bool
bit_or x (Bit y) = y
bit_or x _ = x

abbrev word_in : Ground → List Bool
word_in (Word ys) = ys
word_in _ = []

abbrev args_in : Ground → Grounds
args_in (Name n gs) = gs
args_in _ = Last

abbrev first_or : Bool → List Bool → Bool
first_or x [] = x
first_or x (y ∷ ys) = y

abbrev behind : List Bool → List Bool
behind [] = []
behind (y ∷ ys) = ys

abbrev first_in : Grounds → Ground
first_in Last = Int (pos 0)
first_in (More g gs) = g

abbrev rest_in : Grounds → Grounds
rest_in Last = Last
rest_in (More g gs) = gs

abbrev overlay : List Bool → List Bool → List Bool
overlay [] ys = []
overlay (x ∷ xs) ys = first_or x ys ∷ overlay xs (behind ys)

abbrev mutual
  pub merge : Ground → Ground → Ground
  merge (Bit x) g = Bit (bit_or x g)
  merge (Word xs) g = Word (overlay xs (word_in g))
  merge (Int z) g = Int z
  merge (Name n gs) g = Name n (merge_all gs (args_in g))

  merge_all : Grounds → Grounds → Grounds
  merge_all Last hs = Last
  merge_all (More g gs) hs = More (merge g (first_in hs)) (merge_all gs (rest_in hs))

-- the form stays, so the sort does
mutual
  merge_fits : (t : Sorts) (s : Sort) (g h : Ground) → Fits t s g → Fits t s (merge g h)
  merge_fits t sort.Bool (Bit x) h f = tt
  merge_fits t sort.Bus (Word xs) h f = tt
  merge_fits t sort.Term (Int z) h f = f
  merge_fits t sort.Term (Name n gs) h f = merge_all_fits t (get_or t n []) gs (args_in h) f
  merge_fits t sort.Bool (Word xs) h f = absurd f
  merge_fits t sort.Bool (Int z) h f = absurd f
  merge_fits t sort.Bool (Name n gs) h f = absurd f
  merge_fits t sort.Bus (Bit x) h f = absurd f
  merge_fits t sort.Bus (Int z) h f = absurd f
  merge_fits t sort.Bus (Name n gs) h f = absurd f
  merge_fits t sort.Term (Bit x) h f = absurd f
  merge_fits t sort.Term (Word xs) h f = absurd f

  merge_all_fits : (t : Sorts) (ss : List Sort) (gs hs : Grounds) → FitAll t ss gs → FitAll t ss (merge_all gs hs)
  merge_all_fits t [] Last hs f = tt
  merge_all_fits t (s ∷ ss) (More g gs) hs f = (merge_fits t s g (first_in hs) f.0, merge_all_fits t ss gs (rest_in hs) f.1)
  merge_all_fits t [] (More g gs) hs f = absurd f
  merge_all_fits t (s ∷ ss) Last hs f = absurd f

abbrev merged : Valuation → Valuation → Valuation
merged b b' = record { bits = b'.bits; words = λ n. overlay (b.words n) (b'.words n); terms = λ n. merge (b.terms n) (b'.terms n) }

-- ---- the value of each tree is merged

overlay_all : (xs ys : List Bool) → length xs ≡ length ys → overlay xs ys ≡ ys
overlay_all [] [] e = refl
overlay_all [] (y ∷ ys) e = absurd (omega arith)
overlay_all (x ∷ xs) [] e = absurd (omega arith)
overlay_all (x ∷ xs) (y ∷ ys) e = ap (λ zs. y ∷ zs) (overlay_all xs ys (omega arith))

overlay_front : (f g : Expr → Bool) (es : List Expr) (xs ys : List Bool) → overlay (map f es ++ xs) (map g es ++ ys) ≡ map g es ++ overlay xs ys
overlay_front f g [] xs ys = refl
overlay_front f g (e ∷ es) xs ys = ap (λ zs. g e ∷ zs) (overlay_front f g es xs ys)

module _ (a a' : Bits) (b b' : Valuation) where
  abbrev m : Valuation
  m = merged b b'

  abbrev Merges : Tree → Type 0
  Merges t = tree_value a' m t ≡ merge (tree_value a b t) (tree_value a' b' t)

  abbrev Sure : Type 0
  Sure = (t : Tree) × Merges t

  tail_merges : (t : Option ℕ) → tail_of m t ≡ overlay (tail_of b t) (tail_of b' t)
  tail_merges None = refl
  tail_merges (Some n) = refl

  trees_merge : (ys : List Sure) → grounds (map (tree_value a' m) (map (λ e. e.0) ys)) ≡
      merge_all (grounds (map (tree_value a b) (map (λ e. e.0) ys))) (grounds (map (tree_value a' b') (map (λ e. e.0) ys)))
  trees_merge [] = refl
  trees_merge (y ∷ ys) =
      let here : tree_value a' m y.0 ≡ merge (tree_value a b y.0) (tree_value a' b' y.0) = y.1 in
      ap (λ g. More g (grounds (map (tree_value a' m) (map (λ e. e.0) ys)))) here
      ∙ ap (More (merge (tree_value a b y.0) (tree_value a' b' y.0))) (trees_merge ys)

  layer_merges : (y : Tree-F Sure) → tree_step a' m (map-Tree Tree Ground (tree_value a' m) (map-Tree Sure Tree (λ e. e.0) y)) ≡
      merge (tree_step a b (map-Tree Tree Ground (tree_value a b) (map-Tree Sure Tree (λ e. e.0) y))) (tree_step a' b' (map-Tree Tree Ground (tree_value a' b') (map-Tree Sure Tree (λ e. e.0) y)))
  layer_merges (Tree-F.Leaf e) = refl
  layer_merges (Tree-F.Bus es t) =
      ap (λ zs. Word (map (expr_value a' b'.bits) es ++ zs)) (tail_merges t)
      ∙ ap Word (sym (overlay_front (expr_value a b.bits) (expr_value a' b'.bits) es (tail_of b t) (tail_of b' t)))
  layer_merges (Tree-F.Var n) = refl
  layer_merges (Tree-F.Int z) = refl
  layer_merges (Tree-F.Node n ys) = ap (Name n) (trees_merge ys)

  merges_roll : (x : Tree-F Tree) (y : Tree-F Sure) → map-Tree Sure Tree (λ e. e.0) y ≡ x → Merges (roll-Tree x)
  merges_roll x y is =
      let P : Tree-F Tree → Type 0 = λ z. tree_step a' m (map-Tree Tree Ground (tree_value a' m) z) ≡
      merge (tree_step a b (map-Tree Tree Ground (tree_value a b) z)) (tree_step a' b' (map-Tree Tree Ground (tree_value a' b') z)) in
      let e : P x = subst P is (layer_merges y) in
      fold-roll-Tree Ground (tree_step a' m) x ∙ e
      ∙ ap (λ g. merge g (tree_step a' b' (map-Tree Tree Ground (tree_value a' b') x))) (sym (fold-roll-Tree Ground (tree_step a b) x))
      ∙ ap (merge (tree_value a b (roll-Tree x))) (sym (fold-roll-Tree Ground (tree_step a' b') x))

  pub tree_merges : (t : Tree) → Merges t
  tree_merges = ind-Tree Merges merges_roll

  output_count : (c : Circuit) (i i' o o' : List Bool) → Outputs c i o → Outputs c i' o' → length o ≡ length o'
  output_count c i i' o o' h k =
      ap length h.outputs ∙ length-map c.outputs (λ n. get_or h.v n false) ∙ sym (length-map c.outputs (λ n. get_or k.v n false)) ∙ ap length (sym k.outputs)

  item_merges : (i : Item) → Holds a b i → Holds a' b' i → Holds a' m i
  item_merges (Pair l r) h k =
      let left : merge (tree_value a b l) (tree_value a' b' l) ≡ merge (tree_value a b r) (tree_value a' b' r) = rw (h, k) in
      tree_merges l ∙ left ∙ sym (tree_merges r)
  item_merges (Part c ins outs own) h k =
      let input : merge (Word (map b.bits own)) (Word (map b'.bits own)) ≡ Word (map b'.bits own) =
      ap Word (overlay_all (map b.bits own) (map b'.bits own) (length-map own b.bits ∙ sym (length-map own b'.bits))) in
      let output : merge (Word h.output) (Word k.output) ≡ Word k.output =
      ap Word (overlay_all h.output k.output (output_count c (map b.bits own) (map b'.bits own) h.output k.output h.given k.given)) in
      let ins_are : merge (tree_value a b ins) (tree_value a' b' ins) ≡ merge (Word (map b.bits own)) (Word (map b'.bits own)) = rw (h.inputs, k.inputs) in
      let outs_are : merge (tree_value a b outs) (tree_value a' b' outs) ≡ merge (Word h.output) (Word k.output) = rw (h.outputs, k.outputs) in
      record { inputs = tree_merges ins ∙ ins_are ∙ input; output = k.output; given = k.given; outputs = tree_merges outs ∙ outs_are ∙ output }

  pub all_merge : (es : List Item) → Sat es a b → Sat es a' b' → Sat es a' m
  all_merge [] h k = tt
  all_merge (e ∷ es) h k = (item_merges e h.0 k.0, all_merge es h.1 k.1)

-- ---- tables

tables : List Bool → (Bits → List Bool) → List Table
tables [] f = []
tables (x ∷ xs) f = (λ a. first_or x (f a)) ∷ tables xs (λ a. behind (f a))

mutual
  tabled : Ground → (Bits → Ground) → Tabled
  tabled (Bit x) f = TableBit (λ a. bit_or x (f a))
  tabled (Word xs) f = TableWord (tables xs (λ a. word_in (f a)))
  tabled (Int z) f = TableInt z
  tabled (Name n gs) f = TableName n (all_tabled gs (λ a. args_in (f a)))

  all_tabled : Grounds → (Bits → Grounds) → Tableds
  all_tabled Last f = NoTabled
  all_tabled (More g gs) f = OneTabled (tabled g (λ a. first_in (f a))) (all_tabled gs (λ a. rest_in (f a)))

tables_at : (xs : List Bool) (f : Bits → List Bool) (a : Bits) → map (λ g. g a) (tables xs f) ≡ overlay xs (f a)
unfolding tables
tables_at [] f a = refl
tables_at (x ∷ xs) f a = ap (λ zs. first_or x (f a) ∷ zs) (tables_at xs (λ a. behind (f a)) a)

mutual
  unfolding tabled all_tabled

  tabled_at : (g : Ground) (f : Bits → Ground) (a : Bits) → at a (tabled g f) ≡ merge g (f a)
  tabled_at (Bit x) f a = refl
  tabled_at (Word xs) f a = ap Word (tables_at xs (λ a. word_in (f a)) a)
  tabled_at (Int z) f a = refl
  tabled_at (Name n gs) f a = ap (Name n) (all_tabled_at gs (λ a. args_in (f a)) a)

  all_tabled_at : (gs : Grounds) (f : Bits → Grounds) (a : Bits) → all_at a (all_tabled gs f) ≡ merge_all gs (f a)
  all_tabled_at Last f a = refl
  all_tabled_at (More g gs) f a =
      ap (λ h. More h (all_at a (all_tabled gs (λ a. rest_in (f a))))) (tabled_at g (λ a. first_in (f a)) a)
      ∙ ap (More (merge g (first_in (f a)))) (all_tabled_at gs (λ a. rest_in (f a)) a)

-- the same for assignments that agree on the first constants
abbrev Reads : {A : Type 0} → ℕ → (Bits → A) → Type 0
Reads c f = (a a' : Bits) → AgreeBelow c a a' → f a ≡ f a'

tables_read : (c : ℕ) (xs : List Bool) (f : Bits → List Bool) → Reads c f → Each (ReadsBelow c) (tables xs f)
unfolding tables
tables_read c [] f h = tt
tables_read c (x ∷ xs) f h = ((λ a a' e. ap (first_or x) (h a a' e)), tables_read c xs (λ a. behind (f a)) (λ a a' e. ap behind (h a a' e)))

mutual
  unfolding tabled all_tabled

  tabled_reads : (c : ℕ) (g : Ground) (f : Bits → Ground) → Reads c f → TabledBelow c (tabled g f)
  tabled_reads c (Bit x) f h = λ a a' e. ap (bit_or x) (h a a' e)
  tabled_reads c (Word xs) f h = tables_read c xs (λ a. word_in (f a)) (λ a a' e. ap word_in (h a a' e))
  tabled_reads c (Int z) f h = tt
  tabled_reads c (Name n gs) f h = all_read c gs (λ a. args_in (f a)) (λ a a' e. ap args_in (h a a' e))

  all_read : (c : ℕ) (gs : Grounds) (f : Bits → Grounds) → Reads c f → AllBelow c (all_tabled gs f)
  all_read c Last f h = tt
  all_read c (More g gs) f h = (tabled_reads c g (λ a. first_in (f a)) (λ a a' e. ap first_in (h a a' e)), all_read c gs (λ a. rest_in (f a)) (λ a a' e. ap rest_in (h a a' e)))

-- ---- the law

module _ (w : World) (c v : ℕ) (es : List Item) (scope : InScope c v es) (solvable : Solvable w es) where
  -- a solution for each assignment of the first constants, and the one that gives the form
  abbrev own : (a : Bits) → SolvedAt w es (trimmed c a)
  own a = solvable (trimmed c a) tt

  abbrev form : SolvedAt w es (trimmed c (λ k. false))
  form = own (λ k. false)

  abbrev solution : Substitution
  solution = record {
    bits = λ n a. (own a).b.bits n;
    words = λ n. tables (form.b.words n) (λ a. (own a).b.words n);
    terms = λ n. tabled (form.b.terms n) (λ a. (own a).b.terms n);
  }

  only : ReadsOnly c solution
  only = record {
    bits = λ n a a' e. ap (λ x. (solvable x tt).b.bits n) (same_trimmed c a a' e);
    words = λ n. tables_read c (form.b.words n) (λ a. (own a).b.words n) (λ a a' e. ap (λ x. (solvable x tt).b.words n) (same_trimmed c a a' e));
    terms = λ n. tabled_reads c (form.b.terms n) (λ a. (own a).b.terms n) (λ a a' e. ap (λ x. (solvable x tt).b.terms n) (same_trimmed c a a' e));
  }

  is_merged : (a : Bits) → merged form.b (own a).b ≡ valued solution a
  is_merged a =
      let words : (λ n. overlay (form.b.words n) ((own a).b.words n)) ≡ (valued solution a).words = fun_ext (λ n. sym (tables_at (form.b.words n) (λ a. (own a).b.words n) a)) in
      let terms : (λ n. merge (form.b.terms n) ((own a).b.terms n)) ≡ (valued solution a).terms = fun_ext (λ n. sym (tabled_at (form.b.terms n) (λ a. (own a).b.terms n) a)) in
      ap (λ (ws : ℕ → List Bool). record { bits = (own a).b.bits; words = ws; terms = λ n. merge (form.b.terms n) ((own a).b.terms n) }) words
      ∙ ap (λ (ts : ℕ → Ground). record { bits = (own a).b.bits; words = (valued solution a).words; terms = ts }) terms

  solves : Solves w es solution
  solves a ok =
      let b : Valuation = merged form.b (own a).b in
      let sat : Sat es a b = items_depend c v (trimmed c a) a b b (agree_first c a) (agree_self v b) es scope (all_merge (trimmed c (λ k. false)) (trimmed c a) form.b (own a).b es form.sat (own a).sat) in
      let sorted : IsValuation w b = λ n. merge_fits w.arguments sort.Term (form.b.terms n) ((own a).b.terms n) (form.sorted n) in
      subst (λ x. Meets w es a x) (is_merged a) (record { admitted = ok; sorted = sorted; sat = sat })

  pub found : (s : Substitution) × (ReadsOnly c s × Solves w es s)
  found = (solution, (only, solves))

pub solvable_in_algebra : SolvableInAlgebra
solvable_in_algebra w c v es scope = (
  (λ solvable. found w c v es scope solvable),
  λ s a ok. record { b = valued s.0 a; sorted = (s.1.1 a ok).sorted; sat = (s.1.1 a ok).sat },
)
