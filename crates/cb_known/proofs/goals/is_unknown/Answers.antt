use Rattle.cb_model.specs.Forms.{form_of}
use Rattle.cb_known.proofs.Names.{circuit_unknown, fact_unknown, other_unknown}
use Rattle.cb_known.proofs.goals.is_unknown.Goals as goal

pub returns-then-is_circuit : goal.returns-then-is_circuit
returns-then-is_circuit c = λ ms same.
    circuit_unknown c.args.declared.now c.args.heads.now ms (form_of c.args.term.now) c.in-Some.name.now c.in-Some.args.now c.in-Some.ensures c.lacks_module.result c.if-is_circuit.ensures.same (c.lacks_module.ensures ms same)

pub returns-then-is_fact_name : goal.returns-then-is_fact_name
returns-then-is_fact_name c = λ ms same.
    fact_unknown c.args.declared.now c.args.heads.now ms (form_of c.args.term.now) c.in-Some.name.now c.in-Some.args.now c.in-Some.ensures c.if-is_circuit.ensures.same c.if-is_fact_name.ensures

pub returns-else-is_fact_name : goal.returns-else-is_fact_name
returns-else-is_fact_name c = λ ms same.
    other_unknown c.args.declared.now c.args.heads.now ms (form_of c.args.term.now) c.in-Some.name.now c.in-Some.args.now c.in-Some.ensures c.is_given.result c.if-is_circuit.ensures.same c.if-is_fact_name.ensures c.is_given.ensures
