use Rattle.std.proofs.Common.{refl}
use Rattle.cb_lex.proofs.Steps.{at_end, first_token, spans}
use Rattle.cb_lex.proofs.Lexer.next.Goals as goal

pub returns-then-start-source-clause-end : goal.returns-then-start-source-clause-end
returns-then-start-source-clause-end c = at_end c.self.view_is c.skip-start.result.0 c.skip-start.result.1 (cc) c.skip-start.ensures.same c.if-start-source.true

pub returns-in-Ok-clause-token : goal.returns-in-Ok-clause-token
returns-in-Ok-clause-token c =
    first_token c.self.view_is c.skip-start.result.0 c.in-Ok.length c.skip-start.result.1 c.in-Ok.kind _ (cc) c.skip-start.ensures.same c.in-Ok.ensures refl

pub returns-in-Ok-clause-span : goal.returns-in-Ok-clause-span
returns-in-Ok-clause-span c =
    spans c.self.view_is c.skip-start.result.0 c.in-Ok.length c.skip-start.result.1 c.in-Ok.kind _ c.skip-start.ensures.forward c.skip-start.ensures.within c.in-Ok.ensures refl
