use Rattle.cb_directives.proofs.Reading.{not_atom}
use Rattle.cb_directives.proofs.terms.atom.Goals as goal

pub returns-else-is_empty : goal.returns-else-is_empty
returns-else-is_empty c = not_atom _ c.in_ok-name.name.now c.in_ok-name.args.now c.in_ok-name.ensures c.if-is_empty.ensures
