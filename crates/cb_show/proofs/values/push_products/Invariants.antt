use Rattle.std.proofs.Common.{length, codes}
use Rattle.cb_model.specs.Bits.{Each}
use Rattle.cb_model.specs.Answers.{product_text}
use Rattle.cb_show.specs.Levels.{level_name}
use Rattle.cb_show.specs.Steps.{AreNamed}
use Rattle.cb_show.proofs.Pieces.{Left}
use Rattle.cb_show.proofs.values.push_products.Given as goal

-- the products that are to come are left
abbrev pub invariant-loop-line : goal.invariant-loop-line
invariant-loop-line g l = record {
  named : Each (AreNamed l.naming.constants l.naming.first) l.products.to_come;
  left : Left (codes " + ") (product_text (level_name l.naming.constants l.naming.first (g.N.Names.constants l.naming.names.now))) l.initial.line.items l.line.items l.products.to_come
      l.initial.products.to_come;
}

abbrev pub decreases-loop-line : goal.decreases-loop-line
decreases-loop-line g l = length l.products.to_come
