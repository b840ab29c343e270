-- The line of items is the line of the branch.
use Rattle.std.proofs.Common.{List, sym, subst}
use Rattle.cb_model.specs.Text.{Text}
use Rattle.cb_unify.specs.State.{Seen}
use Rattle.cb_answer.specs.declared.Item.{Item}
use Rattle.cb_answer.specs.Lines.{line_names}
use Rattle.cb_answer.specs.Writing.{IsLineOf, IsLineOfItems, IsTellable, IsText}
use Rattle.cb_answer.specs.Answered.{IsLineFor}
use Rattle.cb_answer.proofs.Forms.{terms}
use Rattle.cb_answer.proofs.Called.{termed, terms-roots}
use Rattle.cb_answer.proofs.Lines.{line-is-right}

module _ (ns cs : List Text) (s : Seen) (items : List Item) (tellable : IsTellable s items) where
  -- the line of the items' terms is that of the branch
  line-for : (line : Text) → IsLineOfItems ns cs s items line → IsLineFor ns cs s items line
  line-for line is p names b tells e f =
      let t = terms s items tellable in
      let ps = termed s.made names.names s.heap.cells names.printed tells.calls items t.0 tells.items_are t.1 in
      line-is-right p names cs b s items ps.0 line (sym f) tells ps.1
      (subst (λ (xs : List Text). IsLineOf p.constants (line_names xs cs items) s.store items ps.0 line) (sym e)
      (subst (λ c. IsLineOf c (line_names ns cs items) s.store items ps.0 line) tells.constants (is ps.0 (terms-roots s.heap.cells tells.calls items ps.0 ps.1))))

  pub text-for : (text : Text) → IsText (IsLineOfItems ns cs s items) text → IsText (IsLineFor ns cs s items) text
  text-for text t = record { line = t.line; is = line-for t.line t.is; whole = t.whole }
