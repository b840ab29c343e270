use Rattle.std.proofs.Common.{◌≡◌, List, map, sym, subst, ◌∙◌}
use Rattle.std.specs.List.{list_any}
use Rattle.cb_model.specs.declared.RawClause.{RawClause}
use Rattle.cb_model.specs.Forms.{clause_form}
use Rattle.cb_model.specs.Loading.{is_fact}
use Rattle.cb_accept.proofs.Accepting.{any_facts}
use Rattle.cb_accept.proofs.Accepted.has_facts.Goals as goal

pub returns : goal.returns
returns c =
    subst (λ (cs : List RawClause). c.have_fact.result ≡ list_any is_fact (map clause_form cs)) c.as_slice.ensures.value
    (c.have_fact.ensures ∙ sym (any_facts c.as_slice.result.now))
