use Rattle.std.proofs.Common.{◌≡◌, ◌++◌, true, List, map, sym, subst, ap, ◌∙◌}
use Rattle.std.specs.List.{list_all}
use Rattle.cb_model.specs.Forms.{clause_form}
use Rattle.cb_model.specs.Directives.{Sign, has_sign}
use Rattle.cb_signs.specs.Wanted.{named_signs}
use Rattle.cb_signs.proofs.Adding.{all_there, wanted_named, directive_named}
use Rattle.cb_signs.proofs.clauses.clause_names.Goals as goal

pub returns : goal.returns
returns c =
    let cs = map clause_form c.args.clauses.now in
    let all : list_all (has_sign c.add_clauses.new.more) (named_signs cs) ≡ true =
    subst (λ (l : List Sign). list_all (has_sign l) (named_signs cs) ≡ true)
    (sym (ap (λ (l : List Sign). l ++ c.add_clauses.new.more) (sym c.new-base.ensures) ∙ c.in_ok-add_clauses.ensures))
    (all_there (c.new-base.result ++ c.new-more.result) (named_signs cs)) in
    record {
      wanted = wanted_named (has_sign c.add_clauses.new.more) cs all;
      spoken_of = directive_named (has_sign c.add_clauses.new.more) cs all;
    }
