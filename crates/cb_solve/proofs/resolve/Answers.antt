use Rattle.std.proofs.Common.{refl, ap, Ok, Bool}
use Rattle.cb_branch.specs.Running.{program_of, query_of}
use Rattle.cb_solve.proofs.Adds.{err-as}
use Rattle.cb_solve.proofs.Resolving.{resolve-goes, resolve-fails, resolve-few}
use Rattle.cb_solve.proofs.resolve.Goals as goal

pub returns-in-Ok-true-clause-at : goal.returns-in-Ok-true-clause-at
returns-in-Ok-true-clause-at c =
    let m = c.args.m.now in let h = c.requires in (
      refl,
      resolve-goes (program_of m.branch) (query_of m.branch) m c.args.call.0 c.args.clause h _ (c.in-Ok-true.ensures.yes (ap (λ (b : Bool). Ok b) c.in-Ok-true.field-0-test) h.b h.pred h.args h.c h.is h.cells h.there h.pred_is)
          (record { budget = refl; answers = refl; used = refl; keeps = c.in-Ok-true.ensures.keeps }) refl,
    )

pub returns-in-Ok-false-clause-at : goal.returns-in-Ok-false-clause-at
returns-in-Ok-false-clause-at c =
    let m = c.args.m.now in let h = c.requires in (
      refl,
      resolve-fails (program_of m.branch) (query_of m.branch) m c.args.call.0 c.args.clause h _ (c.in-Ok-false.ensures.no (ap (λ (b : Bool). Ok b) c.in-Ok-false.field-0-test) h.b h.pred h.args h.c h.is h.cells h.there h.pred_is)
          (record { budget = refl; answers = refl; used = refl; keeps = c.in-Ok-false.ensures.keeps }) refl,
    )

pub returns-in-Err-clause-few : goal.returns-in-Err-clause-few
returns-in-Err-clause-few c = λ e.
    let m = c.args.m.now in let h = c.requires in
    resolve-few (program_of m.branch) (query_of m.branch) m c.args.call.0 c.args.clause h (record m { branch = c.resolve.new.self }) refl refl
    (c.in-Err.ensures.nodes (err-as _ _ e) h.b h.pred h.args h.c h.is h.cells h.there)

pub resolve-requires : goal.resolve-requires
resolve-requires c = let h = c.requires in record { b = h.b; is = h.is; pred = h.pred; args = h.args; cells = h.cells; c = h.c; there = h.there; of = h.pred_is; room = h.room }
