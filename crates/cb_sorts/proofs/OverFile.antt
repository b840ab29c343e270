-- A query over the program of a file is a query over what the accepted file holds.
use Rattle.std.specs.List.{list_all}
use Rattle.std.proofs.Common.{◌≡◌, Bool, true, ◌&&◌, ◌||◌, List, [], ◌∷◌, ◌++◌, map, refl, sym, ◌∙◌, ap, subst}
use Rattle.std.proofs.lemmas.List.Folds.{list_all-append}
use Rattle.cb_model.specs.declared.Circuit.{Circuit}
use Rattle.cb_model.specs.Directives.{Sign, has_sign, Declared}
use Rattle.cb_model.specs.Loading.{query_body, body_variables, numbering, module_names, clauses_signs, goals_signs, HaveSorts, AreGoals, IsProgram}
use Rattle.cb_model.specs.Circuits.{circuit_of}
use Rattle.cb_model.specs.Output.{printed_from}
use Rattle.cb_signs.proofs.Adding.{has_append, all_there}
use Rattle.cb_signs.proofs.Distinct.{Distinct, distinct_added}
use Rattle.cb_sorts.specs.OverFile.{asked_program, QueriesOverFile}
use Rattle.cb_sorts.proofs.Known.{and_left, and_right}
use Rattle.cb_sorts.proofs.Extended.{clauses_same}

both_true : (p q : Bool) → p ≡ true → q ≡ true → (p && q) ≡ true
both_true p q a b = λ j. a j && b j

-- what is among some names is among more
all_more : (xs ys as' : List Sign) → list_all (has_sign xs) as' ≡ true → list_all (has_sign (xs ++ ys)) as' ≡ true
all_more xs ys [] h = refl
all_more xs ys (a ∷ as') h =
    both_true (has_sign (xs ++ ys) a) (list_all (has_sign (xs ++ ys)) as')
    (has_append xs ys a ∙ ap (λ (o : Bool). o || has_sign ys a) (and_left (has_sign xs a) (list_all (has_sign xs) as') h))
    (all_more xs ys as' (and_right (has_sign xs a) (list_all (has_sign xs) as') h))

pub queries_over_file : QueriesOverFile
queries_over_file l s gs a written same loads asks =
    let ms = module_names l.clauses in
    let wanted = clauses_signs l.clauses in
    let circuits : List Circuit = map circuit_of l.circuits.flats in
    let names : List Sign = s.names ++ a.names in
    let p = loads.program circuits in
    let mine : list_all (has_sign names) (goals_signs gs) ≡ true =
    subst (λ (l : List Sign). list_all (has_sign l) (goals_signs gs) ≡ true) (sym asks.names_are) (all_there s.names (goals_signs gs)) in
    let constants = ap (λ (d : Declared). d.constants) (sym same) in
    record {
      signs = names;
      program = subst (λ (d : Declared). IsProgram d names (wanted ++ goals_signs gs) ms l.clauses circuits (asked_program s a circuits)) (sym same)
          (record {
            every = list_all-append (has_sign names) wanted (goals_signs gs)
                ∙ both_true (list_all (has_sign names) wanted) (list_all (has_sign names) (goals_signs gs)) (all_more s.names a.names wanted p.every) mine;
            distinct = subst Distinct (sym asks.names_are) (distinct_added s.names (goals_signs gs) p.distinct);
            constants = refl;
            arguments = refl;
            words = refl;
            demons = refl;
            clauses = clauses_same s.names a.names s.declared ms l.clauses s.clauses written p.every p.clauses;
            modules = refl;
          });
      goals = subst (λ (d : Declared). AreGoals d (query_body gs) (numbering d names (query_body gs)) ms 0 (query_body gs).goals a.goals) (sym same) asks.goals;
      sorts = subst (λ (d : Declared). HaveSorts d (query_body gs) (body_variables (query_body gs)) a.sorts) (sym same) asks.sorts;
      names_are = λ j. record { names = map (λ n. n.0) names; constants = constants j; printed = printed_from 0 (asks.variables j) };
    }
