use Rattle.std.proofs.Common.{refl, ◌∙◌}
use Rattle.std.proofs.lemmas.Result.{err_from_is_err_and}
use Rattle.cb_lines.specs.Words.{nodes_view}
use Rattle.cb_lines.proofs.Writing.{none_counted, counted_from}
use Rattle.cb_run.specs.Running.{CanTell}
use Rattle.cb_run.proofs.Steps.{told-none, told-on, told-off, told-end, each-at}
use Rattle.cb_run.proofs.tell_all.Goals as goal

pub loop-query-init : goal.loop-query-init
loop-query-init g c = record { told = told-none c.args.program.now c.args.resolutions (nodes_view c.args.nodes) c.args.queries.now _; kept = refl; budget = c.budget-budget.ensures }

pub tell-requires : goal.tell-requires
tell-requires g c = let r = each-at (CanTell c.args.program.now) c.args.queries.now c.query-item.result c.loop-query.query-index c.requires c.loop-query-test.true c.query-item.is in record { runnable = r.runnable; behind = r.behind }

pub loop-query-preserved : goal.loop-query-preserved
loop-query-preserved g c = record {
  told = told-on c.args.program.now c.args.resolutions (nodes_view c.args.nodes) c.args.queries.now _ c.query-item.result c.loop-query.query-index _ _ c.loop-query.stopped _ _ c.loop-query.invariant.budget
      c.loop-query-test.true c.query-item.is c.loop-query.invariant.told c.in_ok-stop.ensures.told;
  kept = c.in_ok-stop.ensures.faults.kept (λ e. e) ∙ c.loop-query.invariant.kept;
  budget = c.loop-query.invariant.budget;
}

pub returns-in_err-stop : goal.returns-in_err-stop
returns-in_err-stop g c =
    let p = err_from_is_err_and c.from_residual.result c.from_residual.ensures.1 in
    rw (p.1, p.2)
    (record {
      told = told-off c.args.program.now c.args.resolutions (nodes_view c.args.nodes) c.args.queries.now _ c.query-item.result c.loop-query.query-index _ _ c.loop-query.stopped _ _
          c.loop-query.invariant.budget c.loop-query-test.true c.query-item.is c.loop-query.invariant.told c.in_err-stop.ensures.told;
      faults = counted_from _ _ _ c.loop-query.invariant.kept c.in_err-stop.ensures.faults;
    })

pub returns : goal.returns
returns g c = record {
  told = told-end c.args.program.now c.args.resolutions (nodes_view c.args.nodes) c.args.queries.now _ _ c.loop-query.query-index c.loop-query.stopped c.loop-query-test.false c.loop-query.invariant.told;
  faults = none_counted _ _ (λ e. e) c.loop-query.invariant.kept;
}
