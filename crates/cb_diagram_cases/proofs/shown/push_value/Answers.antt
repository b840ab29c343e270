use Rattle.std.proofs.Common.{◌≡◌, ◌∙◌, sym, arith}
use Rattle.cb_dd.specs.Diagram.{function_of}
use Rattle.cb_dd.proofs.Children.{bottom_child, top_child}
use Rattle.cb_dd.proofs.Diagrams.{function_of-zero, function_of-one}
use Rattle.cb_diagram_cases.proofs.Choices.{same_choice}
use Rattle.cb_diagram_cases.proofs.shown.push_value.Goals as goal

pub node-requires-clause-lo_child : goal.node-requires-clause-lo_child
node-requires-clause-lo_child c = bottom_child _ _ (omega arith)

pub node-requires-clause-hi_child : goal.node-requires-clause-hi_child
node-requires-clause-hi_child c = top_child _ _ (omega arith)

pub node-requires-2-clause-hi_child : goal.node-requires-2-clause-hi_child
node-requires-2-clause-hi_child c = top_child _ _ (omega arith)

pub value-told-requires-clause-scope : goal.value-told-requires-clause-scope
value-told-requires-clause-scope c =
    let one = function_of-one c.args.ops.now.triples in
    let zero = function_of-zero c.args.ops.now.triples in
    let next = function_of-one c.node.new.self.triples in (
      1,
      record {
        agrees = λ a b e.
            let p : function_of c.node.new.self.triples c.in_ok-parameter.parameter.0 a ≡ function_of c.node.new.self.triples c.in_ok-parameter.parameter.0 b =
            c.in_ok-parameter.ensures.function a ∙ same_choice (a 5) (b 5) _ _ _ _ e.1.0 (one a ∙ sym (one b)) (zero a ∙ sym (zero b)) ∙ sym (c.in_ok-parameter.ensures.function b) in
            c.in_ok-either.ensures.function a ∙ same_choice (a 0) (b 0) _ _ _ _ e.0 (next a ∙ sym (next b)) p ∙ sym (c.in_ok-either.ensures.function b);
      },
    )
