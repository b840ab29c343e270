use Rattle.std.proofs.Common.{◌≡◌, length, subst, sym, rules}
use Rattle.cb_elim.specs.Store.{Seen, IsStore}
use Rattle.cb_elim.specs.Moments.{Moment, IsMoment}
use Rattle.cb_elim.proofs.Inside.{seen}
use Rattle.cb_elim.proofs.Back.{moment-now}
use Rattle.cb_elim.proofs.Store.mark.Goals as goal

pub returns-clause-is_moment : goal.returns-clause-is_moment
returns-clause-is_moment c =
    let free : c.len.result ≡ length c.self.inside.free.items = search rules in
    let slots : c.len-2.result ≡ length c.self.inside.slots.items = search rules in
    subst (λ (s : Seen). IsMoment (record { nodes = c.mark.result; drawn = c.self.inside.drawn; free = c.len.result; slots = c.len-2.result; trail = c.mark-2.result }) s) c.self.view_is
    (subst (λ (m : Moment). IsMoment m (seen c.self.inside)) (λ i. record {
      nodes = sym c.mark.ensures i;
      drawn = c.self.inside.drawn;
      free = sym free i;
      slots = sym slots i;
      trail = sym c.mark-2.ensures i;
    }) (moment-now (seen c.self.inside) (subst IsStore (sym c.self.view_is) c.requires)))
