use Rattle.std.proofs.Common.{◌≡◌, Some, None, ap, sym, ◌∙◌, rules}
use Rattle.cb_facts.proofs.Ports.{var-found, var-lost}
use Rattle.cb_facts.proofs.expressions.variable.Goals as goal

pub returns-in-Ok-clause-expr : goal.returns-in-Ok-clause-expr
returns-in-Ok-clause-expr c = var-found c.args.inputs.now _ _ c.in-Ok.number (ap (λ r. r.0) c.in_ok-variable.ensures.variable) (search (rules, c.in-Ok.ensures, c.in-Some.ensures))

pub returns-in-None-clause-expr : goal.returns-in-None-clause-expr
returns-in-None-clause-expr c = var-lost c.args.inputs.now _ _ (ap (λ r. r.0) c.in_ok-variable.ensures.variable) c.in-None.ensures
