-- The values of terms in cells.
use Rattle.std.proofs.Common.{◌≡◌, ℕ, suc, List, [], ◌∷◌, ◌++◌, map, Option, Some, None, refl, sym, ap, ◌∙◌}
use Rattle.cb_model.specs.Bits.{numbers_from}
use Rattle.cb_model.specs.Values.{Bit, Word, Name, More, Valuation, tail_of, grounds}
use Rattle.cb_laws.proofs.OpenTrees.{Plain, Plains, ALeaf, ABus, AVar, AnInt, ANode, Nil, Cons, plain_value, plain_values}
use Rattle.cb_heap.specs.declared.Ref.{Ref}
use Rattle.cb_heap.specs.declared.Stored.{Stored}
use Rattle.cb_heap.specs.declared.Stored.TheVariants as cell
use Rattle.cb_heap.specs.Reading.{Reading, CellsHold}
use Rattle.cb_heap.proofs.Chains.{leads-value}
use Rattle.cb_heap.proofs.Steps.{bit-inj, word-inj}
use Rattle.cb_shape.specs.Laws.{OpensHave}
use Rattle.cb_shape.specs.Terms.{EndsAt, IsLeaf, IsBus, IsTerm, AreCells, AreTerms, how_many}

module _ (cs : List Stored) (g : Reading) (o : Valuation) (holds : CellsHold o.bits cs g) (opens : OpensHave cs g o) where
  -- the end of its links has the value of a cell
  end-value : (r e : ℕ) (c : Stored) → EndsAt cs r e c → g r ≡ g e
  end-value r e c h = leads-value o.bits g cs holds r e h.leads

  leaf-value : (r s : ℕ) → IsLeaf cs r s → g r ≡ Bit (o.bits s)
  leaf-value r s h = end-value r h.0 (cell.Leaf s) h.1 ∙ holds h.0 (cell.Leaf s) h.1.there

  bus-value : (r : ℕ) (ss : List ℕ) (t : Option ℕ) → IsBus cs r ss t → g r ≡ Word (map o.bits ss ++ tail_of o t)
  bus-value r [] None h = end-value r h.0 cell.BusNil h.1 ∙ holds h.0 cell.BusNil h.1.there
  bus-value r [] (Some c) h = end-value r c cell.BusVar h ∙ opens.buses c h.there
  bus-value r (s ∷ ss) t h =
      let k = holds h.0 (cell.BusCons h.1 h.2) h.3.there in
      let b = bit-inj k.0 (o.bits s) (sym k.2 ∙ leaf-value h.1.0 s h.4) in
      let w = word-inj k.1 (map o.bits ss ++ tail_of o t) (sym k.3 ∙ bus-value h.2.0 ss t h.5) in
      end-value r h.0 (cell.BusCons h.1 h.2) h.3 ∙ k.4 ∙ (λ i. Word (b i ∷ w i))

  mutual
    pub term-value : (r : ℕ) (p : Plain) → IsTerm cs r p → g r ≡ plain_value o p
    term-value r (ALeaf s) h = leaf-value r s h
    term-value r (ABus ss t) h = bus-value r ss t h
    term-value r (AVar c) h = end-value r c cell.TermVar h ∙ opens.terms c h.there
    term-value r (AnInt z) h = end-value r h.0 (cell.Int z) h.1 ∙ holds h.0 (cell.Int z) h.1.there
    term-value r (ANode n ps) h =
        end-value r h.0 (cell.Node n (how_many ps)) h.1 ∙ holds h.0 (cell.Node n (how_many ps)) h.1.there ∙ ap (Name n) (terms-value (suc h.0) ps h.2)

    terms-value : (r : ℕ) (ps : Plains) → AreTerms cs r ps → grounds (map g (numbers_from r (how_many ps))) ≡ plain_values o ps
    terms-value r Nil h = refl
    terms-value r (Cons p ps) h = let x = term-value r p h.0 in let xs = terms-value (suc r) ps h.1 in λ i. More (x i) (xs i)

  pub cells-value : (rs : List Ref) (ps : Plains) → AreCells cs rs ps → grounds (map (λ r. g r.0) rs) ≡ plain_values o ps
  cells-value [] Nil h = refl
  cells-value (r ∷ rs) (Cons p ps) h = let x = term-value r.0 p h.0 in let xs = cells-value rs ps h.1 in λ i. More (x i) (xs i)
  cells-value [] (Cons p ps) h = absurd h
  cells-value (r ∷ rs) Nil h = absurd h
