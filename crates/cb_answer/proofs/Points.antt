-- The values of the printed terms, by the bits of the slots and the values of the unbound cells.
use Rattle.std.proofs.Common.{◌≡◌, ℕ, Bool, List, [], ◌∷◌, ◌++◌, map, get_or, Option, Some, None, pos, refl, sym, ap, subst, ◌∙◌, arith}
use Rattle.std.specs.Prelude.{slice_get}
use Rattle.std.proofs.lemmas.Option.{slice_get_within, slice_get-get_or}
use Rattle.cb_model.specs.declared.Sort.{Sort}
use Rattle.cb_model.specs.declared.Sort.TheVariants as sort
use Rattle.cb_model.specs.declared.Expr.TheVariants as expr
use Rattle.cb_model.specs.declared.Tree.{Tree}
use Rattle.cb_model.specs.declared.Goal.{Goal}
use Rattle.cb_model.specs.declared.Goal.TheVariants as goal
use Rattle.cb_model.specs.Bits.{Bits}
use Rattle.cb_model.specs.Text.{Text}
use Rattle.cb_model.specs.Values.{Ground, Bit, Word, Int, Name, More, grounds, Sorts, Fits, Valuation, tree_value}
use Rattle.cb_model.specs.Answers.{values}
use Rattle.cb_model.specs.Program.{Program}
use Rattle.cb_model.specs.Derivation.{Branch, Waiting}
use Rattle.cb_model.specs.Line.{Names, variable_tree, goal_tree, printed_terms}
use Rattle.cb_laws.proofs.OpenTrees.{Plains, ANode, Nil, Cons, plain_values}
use Rattle.cb_laws.proofs.Tables.{zero_fits}
use Rattle.cb_laws.proofs.Values.{value-var, value-leaf, value-bus, value-term, value-node}
use Rattle.cb_elim.specs.Store.{slot_bits, view_of}
use Rattle.cb_heap.specs.declared.Ref.{Ref}
use Rattle.cb_heap.specs.declared.Stored.TheVariants as cell
use Rattle.cb_heap.specs.Reading.{Reading, CellHolds, CellsHold}
use Rattle.cb_shape.specs.Laws.{OpensHave}
use Rattle.cb_shape.proofs.Valued.{cells-value, term-value}
use Rattle.cb_unify.specs.State.{Seen, FitsTable, Reads, Gives, value_of}
use Rattle.cb_items.specs.Standing.{HasVariables}
use Rattle.cb_items.specs.Calls.{AreStanding, IsCalled, AreCalled}
use Rattle.cb_answer.specs.declared.Item.{Item}
use Rattle.cb_answer.specs.declared.Item.TheVariants as item
use Rattle.cb_answer.specs.Items.{AreItems}
use Rattle.cb_answer.specs.Answering.{Tells}
use Rattle.cb_answer.proofs.Called.{AreTermsOf}

-- ---- the point of a reading

pub word_in : Ground → List Bool
word_in (Word xs) = xs
word_in _ = []

pub term_in : Ground → Option Sort → Ground
term_in x (Some sort.Term) = x
term_in x _ = Int (pos 0)

-- the bits of the slots, and the values of the cells
abbrev pub point_of : Seen → Bits → Bits → Reading → Valuation
point_of s a w g = record { bits = slot_bits (view_of s.store) a w; words = λ c. word_in (g c); terms = λ c. term_in (g c) (slice_get s.heap.sorts c) }

module _ (t : Sorts) where
  is-word : (x : Ground) → Fits t sort.Bus x → x ≡ Word (word_in x)
  unfolding word_in
  is-word (Word x) h = refl
  is-word (Bit x) h = absurd h
  is-word (Int x) h = absurd h
  is-word (Name n x) h = absurd h

  is-term : (x : Ground) (o : Option Sort) → o ≡ Some sort.Term → x ≡ term_in x o
  unfolding term_in
  is-term x o e = ap (term_in x) (sym e)

  term-fits : (x : Ground) (o : Option Sort) → ((z : Sort) → o ≡ Some z → Fits t z x) → Fits t sort.Term (term_in x o)
  unfolding term_in
  term-fits x (Some sort.Term) f = f sort.Term refl
  term-fits x (Some sort.Bool) f = zero_fits
  term-fits x (Some sort.Bus) f = zero_fits
  term-fits x None f = zero_fits

  module _ (s : Seen) (a w : Bits) (g : Reading) (h : Reads t s a w g) where
    pub point-fits : (n : ℕ) → Fits t sort.Term ((point_of s a w g).terms n)
    point-fits n = term-fits (g n) (slice_get s.heap.sorts n) (h.reading.fits n)

    pub point-opens : FitsTable t s → OpensHave s.heap.cells g (point_of s a w g)
    point-opens fit = record {
      buses = λ c e. is-word (g c) (h.reading.fits c sort.Bus (fit.cells c cell.BusVar e));
      terms = λ c e. is-term (g c) (slice_get s.heap.sorts c) (fit.cells c cell.TermVar e);
    }

-- ---- the printed variables

variable-value : (a : Bits) (v : Valuation) (z : Sort) (n : ℕ) → tree_value a v (variable_tree z n) ≡ value_of v z n
variable-value a v sort.Bool n = value-leaf a v (expr.Var n) ∙ ap Bit (value-var a v.bits n)
variable-value a v sort.Bus n = value-bus a v [] (Some n)
variable-value a v sort.Term n = value-term a v n

module _ (s : Seen) (zs : List Sort) (has : HasVariables s zs) (a : Bits) (g : Reading) (v : Valuation) (gives : Gives s g v) where
  cell-value : (n r : ℕ) → slice_get s.made n ≡ Some r → tree_value a v (variable_tree (get_or zs n sort.Term) n) ≡ g r
  cell-value n r e =
      let less = slice_get_within s.made n r e in
      let many = has.number in
      let z = get_or zs n sort.Term in
      let at : slice_get zs n ≡ Some z = slice_get-get_or zs n sort.Term (omega (arith, less, many)) in
      variable-value a v z n ∙ gives n r z e (has.sorts n r z e at)

-- ---- the printed terms

module _ (t : Sorts) (s : Seen) (zs : List Sort) (has : HasVariables s zs) (a w : Bits) (g : Reading) (v o : Valuation) (reads : Reads t s a w g) (gives : Gives s g v)
    (bits : o.bits ≡ slot_bits (view_of s.store) a w) (opens : OpensHave s.heap.cells g o) where
  holds : CellsHold o.bits s.heap.cells g
  holds r c e = subst (λ (x : Bits). CellHolds x g r c) (sym bits) (reads.reading.holds r c e)

  -- the arguments of a call
  standing-values : (rs : List Ref) (xs : List Tree) → AreStanding t s rs xs → map (tree_value a v) xs ≡ map (λ r. g r.0) rs
  standing-values [] [] h = refl
  standing-values (r ∷ rs) (x ∷ xs) h = let one : tree_value a v x ≡ g r.0 = sym (h.1.0 a w g v reads gives) in let rest = standing-values rs xs h.1.1 in λ i. one i ∷ rest i
  standing-values [] (x ∷ xs) h = absurd h
  standing-values (r ∷ rs) [] h = absurd h

  call-value : (x : Goal) (n : ℕ) (rs : List Ref) → IsCalled t s x n rs → tree_value a v (goal_tree x) ≡ Name n (grounds (map (λ r. g r.0) rs))
  call-value (goal.Call pred args) n rs h =
      value-node a v pred args ∙ ap (λ (xs : List Ground). Name pred (grounds xs)) (standing-values rs args h.1) ∙ ap (λ (m : ℕ). Name m (grounds (map (λ r. g r.0) rs))) h.0
  call-value x n rs h = absurd h

  goals-values : (made : List ℕ) (ns : List Text) (ws : List Waiting) (cs : List (ℕ × List Ref)) (xs : List Item) (ps : Plains) → AreCalled t s ws cs → AreItems made ns [] cs xs →
      AreTermsOf s.heap.cells cs xs ps → grounds (map (tree_value a v) (map (λ x. goal_tree x.goal) ws)) ≡ plain_values o ps
  goals-values made ns [] [] [] Nil c i h = refl
  goals-values made ns (x ∷ ws) (c ∷ cs) (item.Waiting name args ∷ xs) (Cons (ANode n qs) ps) called i h =
      let args-are : grounds (map (λ r. g r.0) c.1) ≡ plain_values o qs =
      ap (λ (rs : List Ref). grounds (map (λ r. g r.0) rs)) (sym i.1) ∙ cells-value s.heap.cells g o holds opens args.now qs h.1 in
      let one : tree_value a v (goal_tree x.goal) ≡ Name n (plain_values o qs) =
      call-value x.goal c.0 c.1 called.0 ∙ ap (Name c.0) args-are ∙ ap (λ (m : ℕ). Name m (plain_values o qs)) (sym h.0) in
      let rest = goals-values made ns ws cs xs ps called.1 i.2 h.2 in
      λ j. More (one j) (rest j)
  goals-values made ns ws [] [] (Cons p ps) c i h = absurd h
  goals-values made ns (x ∷ ws) [] xs ps c i h = absurd c
  goals-values made ns [] (d ∷ cs) xs ps c i h = absurd c
  goals-values made ns ws cs (item.Waiting name args ∷ xs) Nil c i h = absurd h
  goals-values made ns ws (d ∷ cs) (item.Waiting name args ∷ xs) (Cons p ps) c i h = absurd h
  goals-values made ns ws cs xs ps c i h = absurd i

  items-values : (ns : List Text) (vs : List (ℕ × Text)) (ws : List Waiting) (cs : List (ℕ × List Ref)) (xs : List Item) (ps : Plains) → AreCalled t s ws cs → AreItems s.made ns vs cs xs →
      AreTermsOf s.heap.cells cs xs ps →
      grounds (map (tree_value a v) (map (λ x. variable_tree (get_or zs x.0 sort.Term) x.0) vs ++ map (λ x. goal_tree x.goal) ws)) ≡ plain_values o ps
  items-values ns [] ws cs xs ps c i h = goals-values s.made ns ws cs xs ps c i h
  items-values ns (u ∷ vs) ws cs (item.Var name cell ∷ xs) (Cons p ps) c i h =
      let one = cell-value s zs has a g v gives u.0 cell.0 i.1 ∙ term-value s.heap.cells g o holds opens cell.0 p h.0 in
      let rest = items-values ns vs ws cs xs ps c i.2 h.1 in
      λ j. More (one j) (rest j)
  items-values ns (u ∷ vs) ws cs (item.Var name cell ∷ xs) Nil c i h = absurd h
  items-values ns (u ∷ vs) ws cs xs ps c i h = absurd i

module _ (p : Program) (names : Names) (b : Branch) (s : Seen) (items : List Item) (tells : Tells p names b s items) (ps : Plains) (are : AreTermsOf s.heap.cells tells.calls items ps) where
  -- by any values of the unbound cells
  pub valued : (a w : Bits) (g : Reading) (v o : Valuation) → Reads p.world.arguments s a w g → Gives s g v → o.bits ≡ slot_bits (view_of s.store) a w →
      OpensHave s.heap.cells g o → grounds (values a v (printed_terms names b)) ≡ plain_values o ps
  valued a w g v o reads gives bits opens =
      items-values p.world.arguments s b.sorts tells.variables a w g v o reads gives bits opens names.names names.printed b.waiting tells.calls items ps tells.waiting tells.items_are are

  -- the point of a reading
  pub point-of-terms : (a w : Bits) (g : Reading) (v : Valuation) → Reads p.world.arguments s a w g → Gives s g v →
      (o : Valuation) × (o.bits ≡ slot_bits (view_of s.store) a w) × (grounds (values a v (printed_terms names b)) ≡ plain_values o ps)
  point-of-terms a w g v reads gives =
      (point_of s a w g, refl, valued a w g v (point_of s a w g) reads gives refl (point-opens p.world.arguments s a w g reads tells.fits))
