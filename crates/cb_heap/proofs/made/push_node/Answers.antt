use Rattle.std.proofs.Common.{rules, arith, ◌≡◌, ◌++◌, ◌∷◌, [], length, take, map, sym, ap, ◌∙◌, length-append}
use Rattle.std.specs.Prelude.{get_or}
use Rattle.cb_model.specs.declared.Sort.TheVariants as sort
use Rattle.cb_heap.specs.declared.Ref.{Ref}
use Rattle.cb_heap.specs.declared.Stored.TheVariants as cell
use Rattle.cb_heap.proofs.Adding.{kept-front, sorts-behind, there-more}
use Rattle.cb_heap.proofs.made.push_node.Goals as goal

pub returns-in_err-push_links-clause-kept : goal.returns-in_err-push_links-clause-kept
returns-in_err-push_links-clause-kept c =
    let e : c.push.new.self.items ≡ c.args.cells.now.items ++ cell.Node c.args.name (length c.args.args.now) ∷ [] = search rules in
    kept-front c.args.cells.now.items c.push_links.new.cells.items _ (ap (λ xs. take (length xs) c.push_links.new.cells.items) (sym e) ∙ c.push_links.ensures.kept ∙ e)

pub push_sorts-requires : goal.push_sorts-requires
push_sorts-requires c =
    let e : c.push-2.new.self.items ≡ c.args.sorts.now.items ++ sort.Term ∷ [] = search rules in
    let d = ap length e in
    record { there = there-more (length c.args.sorts.now.items) (length c.push-2.new.self.items) c.args.args.now (omega (arith, d, length-append c.args.sorts.now.items (sort.Term ∷ []))) c.requires.there }

pub returns-clause-sorts : goal.returns-clause-sorts
returns-clause-sorts c =
    let e : c.push-2.new.self.items ≡ c.args.sorts.now.items ++ sort.Term ∷ [] = search rules in
    sorts-behind c.args.sorts.now.items c.push_sorts.new.sorts.items c.args.args.now c.requires.there
    (c.in_ok-push_sorts.ensures.sorts ∙ ap (λ ss. ss ++ map (λ (r : Ref). get_or ss r.0 sort.Bool) c.args.args.now) e)

pub returns-in_err-push_sorts-clause-kept_sorts : goal.returns-in_err-push_sorts-clause-kept_sorts
returns-in_err-push_sorts-clause-kept_sorts c =
    let e : c.push-2.new.self.items ≡ c.args.sorts.now.items ++ sort.Term ∷ [] = search rules in
    kept-front c.args.sorts.now.items c.push_sorts.new.sorts.items _ (ap (λ xs. take (length xs) c.push_sorts.new.sorts.items) (sym e) ∙ c.push_sorts.ensures.kept ∙ e)
