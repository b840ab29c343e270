use Rattle.std.proofs.lemmas.Result.{err_from_is_err_and}
use Rattle.cb_run.proofs.Steps.{asked-none, asked-on, asked-refused, asked-end, written-at}
use Rattle.cb_run.proofs.ask_all.Goals as goal

pub loop-query-init : goal.loop-query-init
loop-query-init c = λ cs o. asked-none cs _ _ c.new-queries.result.items c.new-queries.ensures.items

pub query-requires : goal.query-requires
query-requires c = written-at c.args.raw.now c.query-item.result c.loop-query.query-index c.requires c.loop-query-test.true c.query-item.is

pub loop-query-preserved : goal.loop-query-preserved
loop-query-preserved c = λ cs o.
    asked-on cs c.args.program.now c.args.raw.now c.query-item.result c.loop-query.query-index c.loop-query.queries.items c.push.new.self.items _ c.loop-query-test.true c.query-item.is
    (c.loop-query.invariant cs o) (c.in_ok-asked.ensures cs o.loads) c.in-Ok.ensures.items

pub returns-in_err-asked : goal.returns-in_err-asked
returns-in_err-asked c =
    let p = err_from_is_err_and c.from_residual.result c.from_residual.ensures.1 in
    rw (p.1, p.2)
    (record {
      asked = tt;
      refused = λ cs o.
          asked-refused cs c.args.program.now c.args.raw.now c.query-item.result c.loop-query.query-index c.loop-query.queries.items _ c.loop-query-test.true c.query-item.is
          (c.loop-query.invariant cs o) (c.in_err-asked.ensures cs o.loads);
    })

pub returns : goal.returns
returns c = record {
  asked = λ cs o. asked-end cs c.args.program.now c.args.raw.now c.loop-query.query-index c.loop-query.queries.items c.loop-query-test.false (c.loop-query.invariant cs o);
  refused = tt;
}
