use Rattle.std.specs.Prelude.{is_ok}
use Rattle.std.proofs.Common.{◌≡◌, ◌++◌, ◌∷◌, [], true, sym, ◌∙◌, arith}
use Rattle.cb_lex.specs.View.{tokens_of}
use Rattle.cb_syntax.proofs.Listing.{one_more, one_part, span_of, at_fault, at_end}
use Rattle.cb_syntax.proofs.token_list.tokens.Goals as goal

pub loop-next-preserved : goal.loop-next-preserved
loop-next-preserved c =
    let pushed : is_ok c.push.result ≡ true = sym c.in_ok-map_err-in-Ok.ensures.variant in
    let items : c.push.new.self.items ≡ c.loop-next.tokens.items ++ c.in-Ok.token ∷ [] = rw pushed at c.push.ensures.items in
    let span = span_of c.in-Ok.is c.in-Some.ensures.span in
    record {
      source = c.in-Some.ensures.source ∙ c.loop-next.invariant.source;
      within = c.in-Some.ensures.within;
      few = let len = rw pushed at c.push.ensures.len in omega (arith, len, span.behind, span.some, span.next);
      parts = one_part c.args.source.now _ _ _ _ c.in-Ok.is c.in-Some.ensures.span c.loop-next.invariant.source items c.loop-next.invariant.parts;
      so_far = one_more c.args.source.now _ _ _ _ c.in-Ok.is c.in-Some.ensures.token items c.loop-next.invariant.so_far;
    }

pub returns-in-Err-clause-err : goal.returns-in-Err-clause-err
returns-in-Err-clause-err c = (tokens_of c.loop-next.tokens.items, at_fault c.args.source.now c.loop-next.tokens.items c.loop-next.lexer c.in-Err.is c.in-Some.ensures.fault c.loop-next.invariant.so_far)

pub returns-clause-ok : goal.returns-clause-ok
returns-clause-ok c = at_end c.args.source.now c.loop-next.tokens.items c.loop-next.lexer c.in_default.ensures.end c.loop-next.invariant.so_far
