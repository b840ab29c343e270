use Rattle.cb_directives.proofs.Reading.{words_init, words_on, words_none, words_end, drop_past}
use Rattle.cb_directives.proofs.words.words.Goals as goal

pub loop-term-init : goal.loop-term-init
loop-term-init g c = words_init g.T.Word.words c.args.terms.now c.new-words.result c.new-words.ensures

pub returns-in_default : goal.returns-in_default
returns-in_default g c =
    words_none g.T.Word.words c.args.terms.now c.loop-term.term-index c.loop-term.words c.term-item.result c.loop-term-test.true c.loop-term.invariant c.term-item.is c.in_default.ensures

pub loop-term-preserved : goal.loop-term-preserved
loop-term-preserved g c =
    words_on g.T.Word.words c.args.terms.now c.loop-term.term-index c.loop-term.words c.push.new.self c.term-item.result c.in-Some.word c.loop-term-test.true c.loop-term.invariant c.term-item.is
    c.in-Some.ensures c.in-Ok.ensures.ok

pub returns : goal.returns
returns g c = words_end g.T.Word.words c.args.terms.now c.loop-term.term-index c.loop-term.words c.loop-term.invariant (drop_past c.args.terms.now c.loop-term.term-index c.loop-term-test.false)
