use Rattle.std.proofs.Common.{◌≡◌, ◌<◌, ◌^◌, ℕ, sym, subst}
use Rattle.cb_heap.specs.Finite.{Names}
use Rattle.cb_heap.specs.Below.{Meets}
use Rattle.cb_heap.proofs.Search.{behind-small, meets-one, meets-then}
use Rattle.cb_heap.proofs.below.meet.Goals as goal

pub meet_behind-requires-clause-small : goal.meet_behind-requires-clause-small
meet_behind-requires-clause-small c = behind-small c.args.at c.in-Node.count (subst (λ x. (j : ℕ) → Names c.args.at x j → j < 2 ^ 64) c.in-Node.is c.requires.small) c.ranges.at.fits

pub returns-in_ok-insert-in-BusCons-2 : goal.returns-in_ok-insert-in-BusCons-2
returns-in_ok-insert-in-BusCons-2 c = record {
  meets = subst (λ x. Meets (Names c.args.at x) c.args.met.now.keys c.insert-in-BusCons.new.self.keys) (sym c.in-BusCons.is)
      (meets-then (λ j. j ≡ c.in-BusCons.head.0) (λ j. j ≡ c.in-BusCons.tail.0) c.args.met.now.keys c.insert.new.self.keys c.insert-in-BusCons.new.self.keys
      (meets-one c.in-BusCons.head.0 c.args.met.now.keys c.insert.new.self.keys c.in_ok-insert-in-BusCons.ensures.keys c.in_ok-insert-in-BusCons.ensures.updates.0 c.insert.ensures.unique)
      (meets-one c.in-BusCons.tail.0 c.insert.new.self.keys c.insert-in-BusCons.new.self.keys c.in_ok-insert-in-BusCons-2.ensures.keys c.in_ok-insert-in-BusCons-2.ensures.updates.0 c.insert-in-BusCons.ensures.unique));
}
