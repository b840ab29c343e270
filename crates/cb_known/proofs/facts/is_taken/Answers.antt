use Rattle.std.proofs.Common.{◌||◌, ◌∙◌, codes}
use Rattle.cb_model.specs.Forms.{form_of}
use Rattle.cb_model.specs.Sorts.{circuit_sign}
use Rattle.cb_known.proofs.Names.{sign_named}
use Rattle.cb_known.proofs.facts.is_taken.Goals as goal

pub returns-in-Some : goal.returns-in-Some
returns-in-Some c =
    let f = form_of c.args.head.now in
    let x = c.in-Some.name.now in
    let ts = c.in-Some.args.now in
    let holds = sign_named (codes "true", 0) f x ts c.in-Some.ensures in
    let fails = sign_named (codes "fail", 0) f x ts c.in-Some.ensures in
    let circuit = sign_named circuit_sign f x ts c.in-Some.ensures in
    c.is_own.ensures ∙ (λ j. holds j || fails j || circuit j)
