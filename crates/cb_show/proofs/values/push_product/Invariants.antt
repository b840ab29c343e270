use Rattle.std.proofs.Common.{drop, codes}
use Rattle.cb_model.specs.Answers.{literal_text}
use Rattle.cb_show.specs.Levels.{level_name}
use Rattle.cb_show.proofs.Pieces.{Left}
use Rattle.cb_show.proofs.values.push_product.Given as goal

-- the literals from here on are left
abbrev pub invariant-loop-literal : goal.invariant-loop-literal
invariant-loop-literal g l =
    Left (codes "*") (literal_text (level_name l.naming.constants l.naming.first (g.N.Names.constants l.naming.names.now))) l.initial.line.items l.line.items (drop l.literal-index l.rest) l.rest
