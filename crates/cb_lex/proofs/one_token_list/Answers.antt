use Rattle.cb_lex.proofs.OneList.{one_list}
use Rattle.cb_lex.proofs.one_token_list.Goals as goal

pub returns : goal.returns
returns c at line s ts us f g l m = one_list l m
