use Rattle.cb_show.proofs.Fronts.{on_err, err_says, plain_name, open_quote, in_quotes, close_quote}
use Rattle.cb_show.proofs.plain.plain_name.Goals as goal

pub returns-then-is_plain-clause-front : goal.returns-then-is_plain-clause-front
returns-then-is_plain-clause-front g c = on_err c.write_all.result (plain_name c.args.name.now c.if-is_plain.ensures) c.write_all.ensures.front

pub returns-in_err-write_all-clause-front : goal.returns-in_err-write_all-clause-front
returns-in_err-write_all-clause-front g c = err_says c.from_residual.result (open_quote c.args.name.now c.if-is_plain.ensures c.in_err-write_all.ensures.front)

pub returns-in_err-write_all-2-clause-front : goal.returns-in_err-write_all-2-clause-front
returns-in_err-write_all-2-clause-front g c =
    err_says c.from_residual-in_err-write_all-2.result (in_quotes c.args.name.now c.if-is_plain.ensures c.in_ok-write_all.ensures.whole c.in_err-write_all-2.ensures.front)

pub returns-clause-front : goal.returns-clause-front
returns-clause-front g c =
    on_err c.write_all-4.result (close_quote c.args.name.now c.if-is_plain.ensures c.in_ok-write_all.ensures.whole c.in_ok-write_all-2.ensures.whole) c.write_all-4.ensures.front
