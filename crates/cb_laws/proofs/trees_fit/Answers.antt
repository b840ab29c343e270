use Rattle.cb_laws.proofs.Counts.{directives_count}
use Rattle.cb_laws.proofs.Fits.{clauses_fit, trees_fit as whole_law}
use Rattle.cb_laws.proofs.ScopedGoals.{trees_in_scope}
use Rattle.cb_laws.proofs.Operands.{chains_have_operands}
use Rattle.cb_laws.proofs.trees_fit.Goals as goal

pub returns : goal.returns
returns c = record { counted = directives_count; clauses = clauses_fit; whole = whole_law; scope = trees_in_scope; operands = chains_have_operands }
