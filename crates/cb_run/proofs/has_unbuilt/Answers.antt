use Rattle.std.proofs.Common.{◌||◌, sym, ap, ◌∙◌}
use Rattle.std.specs.List.{list_any}
use Rattle.cb_model.specs.declared.RawClause.{RawClause}
use Rattle.cb_model.specs.Forms.{clause_form}
use Rattle.cb_accept.specs.File.{forms}
use Rattle.cb_run.specs.Run.{declares_demon}
use Rattle.cb_run.proofs.Accepted.{any-clauses}
use Rattle.cb_run.proofs.has_unbuilt.Goals as goal

pub returns-else-facts : goal.returns-else-facts
returns-else-facts c =
    c.have_demons-demons.ensures ∙ ap (list_any (λ (x : RawClause). declares_demon (clause_form x))) c.as_slice.ensures.value ∙ sym (any-clauses declares_demon c.args.file.now.clauses.items) ∙
    ap (λ b. b || list_any declares_demon (forms c.args.file.now)) (sym (sym c.has_facts-facts.ensures ∙ c.if-facts.false))
