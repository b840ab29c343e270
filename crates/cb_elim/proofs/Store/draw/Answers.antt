use Rattle.std.proofs.Common.{subst, sym}
use Rattle.cb_elim.specs.Store.{Seen, IsStore, IsArgument}
use Rattle.cb_elim.proofs.Inside.{seen}
use Rattle.cb_elim.proofs.Back.{store-drawn, argument-drawn}
use Rattle.cb_elim.proofs.Store.draw.Goals as goal

pub returns-clause-arguments : goal.returns-clause-arguments
returns-clause-arguments c = λ n a. argument-drawn (seen c.self.inside) c.args.count n (subst (λ (s : Seen). IsArgument s n) (sym c.self.view_is) a)

pub returns-clause-store : goal.returns-clause-store
returns-clause-store c = store-drawn (seen c.self.inside) c.args.count (subst IsStore (sym c.self.view_is) c.requires.store)
