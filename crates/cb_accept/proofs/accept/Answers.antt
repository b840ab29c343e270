use Rattle.std.proofs.Common.{map}
use Rattle.cb_model.specs.Forms.{clause_form}
use Rattle.cb_lines.proofs.Writing.{ends_for}
use Rattle.cb_lines.specs.Ends.{EndsBy}
use Rattle.cb_accept.specs.File.{IsAccepted}
use Rattle.cb_model.specs.Output.{FileRefused}
use Rattle.cb_accept.specs.Refusals.{ClausesRefused}
use Rattle.cb_accept.proofs.Accepting.{clauses_few, unread-refused, clauses-refused, or-else}
use Rattle.cb_accept.proofs.accept.Goals as goal

pub of_clauses-requires-clause-written : goal.of_clauses-requires-clause-written
of_clauses-requires-clause-written c = clauses_few _ c.in-Ok.clauses.items c.requires c.in-Ok.ensures.written

pub returns-in-Ok-clause-accepted : goal.returns-in-Ok-clause-accepted
returns-in-Ok-clause-accepted c =
    or-else IsAccepted (EndsBy (ClausesRefused (map clause_form c.in-Ok.clauses.items)) ⊥) (EndsBy (FileRefused c.args.text.now) ⊥) c.of_clauses.result
    (λ e h. ends_for e (λ r k. clauses-refused c.args.text.now (map clause_form c.in-Ok.clauses.items) r (record { short = c.requires; reading = c.in-Ok.ensures.reading }) k) (λ x. x) h) c.of_clauses.ensures.accepted

pub returns-in-Err-clause-accepted : goal.returns-in-Err-clause-accepted
returns-in-Err-clause-accepted c =
    ends_for c.unread.result (λ r t. unread-refused c.args.text.now c.in-Err.error r c.requires c.in-Err.ensures.reading t) (λ x. x) c.unread.ensures
