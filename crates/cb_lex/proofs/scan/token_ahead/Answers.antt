use Rattle.std.proofs.Common.{arith}
use Rattle.cb_lex.proofs.Front.{variable_front, atom_front, mark_front, other_front}
use Rattle.cb_lex.proofs.scan.token_ahead.Goals as goal

pub returns-then-is_capital : goal.returns-then-is_capital
returns-then-is_capital c = (variable_front c.args.rest.now c.word_run.result c.requires.some (cc) c.word_run.ensures.count, tt)

pub returns-then-is_small : goal.returns-then-is_small
returns-then-is_small c = (atom_front c.args.rest.now c.word_run-then-is_small.result c.requires.some (cc) c.word_run-then-is_small.ensures.count, tt)

pub returns-in-Some : goal.returns-in-Some
returns-in-Some c =
    mark_front c.args.rest.now c.in-Some.kind c.requires.some
    (record { no_capital = cc; no_small = cc; no_digit = cc; no_quote = omega arith; no_minus = omega arith; no_colon = omega arith }) c.in-Some.ensures

pub returns-in-None : goal.returns-in-None
returns-in-None c line =
    other_front c.args.at line c.args.rest.now c.requires.some c.requires.skipped
    (record { no_capital = cc; no_small = cc; no_digit = cc; no_quote = omega arith; no_minus = omega arith; no_colon = omega arith }) c.in-None.ensures
