use Rattle.std.proofs.Common.{◌≤◌, ◌+◌, ℕ, List, [], ◌∷◌, Option, Bor, sym, ap, subst, arith}
use Rattle.cb_model.specs.Forms.{clause_form}
use Rattle.cb_model.specs.Loading.{module_names}
use Rattle.cb_known.specs.Modules.{Names}
use Rattle.cb_known.proofs.Numbers.{NumbersSoFar, numbers_init, numbers_skip, numbers_more, numbers_end}
use Rattle.cb_known.proofs.modules.Modules.new.Goals as goal
use Rattle.cb_known.proofs.modules.Modules.new.Goals.{in-Some+in_ok-add, in_default}

pub loop-clause-init : goal.loop-clause-init
loop-clause-init c = record { few = omega arith; numbers = numbers_init c.args.clauses.now c.new-numbers.result c.new-numbers.ensures }

pub loop-clause-preserved : goal.loop-clause-preserved
loop-clause-preserved c =
    let now = c.loop-clause.invariant in
    elim c.match-module_name.branch [
      | in-Some+in_ok-add w ↦ record {
        few = omega (arith, w.next-is);
        numbers = rw (w.numbers-is, w.next-is)
            (numbers_more c.args.clauses.now c.loop-clause.numbers w.add.new.numbers c.loop-clause.next c.loop-clause.clause-index c.clause-item.result w.in-Some.name
            c.loop-clause-test.true c.clause-item.is w.in-Some.ensures now.numbers w.in_ok-add.ensures);
      }
      | in_default w ↦ record {
        few = omega (arith, w.next-is);
        numbers = rw (w.numbers-is, w.next-is)
            (numbers_skip c.args.clauses.now c.loop-clause.numbers c.loop-clause.next c.loop-clause.clause-index c.clause-item.result
            c.loop-clause-test.true c.clause-item.is (subst (λ (o : Option (Option (Bor (List ℕ)))). Names o (module_names (clause_form c.clause-item.result ∷ []))) w.in_default.is c.module_name.ensures) now.numbers);
      }
    ]

pub returns : goal.returns
returns c = numbers_end c.args.clauses.now c.loop-clause.numbers c.loop-clause.next c.loop-clause.clause-index c.loop-clause-test.false c.loop-clause.invariant.numbers
