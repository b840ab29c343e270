use Rattle.std.proofs.Common.{map, inl, inr, refl}
use Rattle.cb_model.specs.Forms.{clause_form}
use Rattle.cb_sorts.proofs.Declared.{every_declared}
use Rattle.cb_sorts.proofs.loading.load.Goals as goal

pub returns-in_default : goal.returns-in_default
returns-in_default c = inl tt

pub returns-in-Err : goal.returns-in-Err
returns-in-Err c = inl c.in-Err.ensures

pub returns-in-Ok-chained_rules : goal.returns-in-Ok-chained_rules
returns-in-Ok-chained_rules c = record {
  declares = c.in-Ok-declare.ensures;
  rules = c.in-Ok-chained_rules.ensures.rules.0;
  program = λ circuits. record {
    every = c.in-Ok.ensures.wanted;
    distinct = c.in-Ok-chained_rules.ensures.distinct;
    constants = refl;
    arguments = refl;
    words = refl;
    demons = refl;
    clauses = c.in-Ok-chained_rules.ensures.rules.1;
    modules = refl;
  };
  every_declared = every_declared c.in-Ok.known.names (map clause_form c.args.clauses.now) c.in-Ok-declare.declared c.in-Ok-declare.ensures c.in-Ok.ensures.spoken_of;
  heads = c.in-Ok.ensures.heads;
  modules = c.in-Ok.ensures.modules;
}

pub returns-in-Err-chained_rules : goal.returns-in-Err-chained_rules
returns-in-Err-chained_rules c = inr (c.in-Ok-declare.declared, c.in-Ok-declare.ensures, c.in-Err-chained_rules.ensures.rules)
