use Rattle.std.proofs.Common.{sym, ◌∙◌, ap, map}
use Rattle.cb_model.specs.Forms.{form_of, forms_of}
use Rattle.cb_syntax.specs.Steps.{joined_form, op_of}
use Rattle.cb_laws.proofs.FormValues.{form_and, form_xor, form_or}
use Rattle.cb_syntax.proofs.read.joined.Goals as goal

pub returns-in-Plus : goal.returns-in-Plus
returns-in-Plus c = form_or c.args.operands ∙ sym (ap (λ op. joined_form (op_of op) (forms_of (map form_of c.args.operands))) c.in-Plus.is)

pub returns-in-Hash : goal.returns-in-Hash
returns-in-Hash c = form_xor c.args.operands ∙ sym (ap (λ op. joined_form (op_of op) (forms_of (map form_of c.args.operands))) c.in-Hash.is)

pub returns-in-Star : goal.returns-in-Star
returns-in-Star c = form_and c.args.operands ∙ sym (ap (λ op. joined_form (op_of op) (forms_of (map form_of c.args.operands))) c.in-Star.is)
