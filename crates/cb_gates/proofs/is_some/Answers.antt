use Rattle.std.proofs.Common.{Bool, rules, tests}
use Rattle.std.proofs.lemmas.Iterator.{YieldsList-from_slice}
use Rattle.std.proofs.lemmas.Iterator.Search.{any_from_yields_List}
use Rattle.cb_gates.proofs.is_some.Goals as goal

pub returns : goal.returns
returns c = any_from_yields_List (λ (x : Bool). x) _ _ _ c.any.ensures.ran (YieldsList-from_slice c.args.bits.now cc) (λ x b q k. search (rules, tests))
