-- Moments that are kept by two calls, one after another.
use Rattle.std.proofs.Common.{refl, ap, ◌∙◌}
use Rattle.cb_elim.specs.Store.{Seen, with_fulls}
use Rattle.cb_elim.specs.Moments.{KeepsMoments}

pub keeps-then : (s t u : Seen) → KeepsMoments s t → KeepsMoments t u → KeepsMoments s u
keeps-then s t u k l = record {
  moments = λ m w. l.moments m (k.moments m w);
  same = λ m w. l.same m (k.moments m w) ∙ ap (λ (o : Seen). with_fulls u.nodes.fulls o) (k.same m w);
}

-- what stays as it is keeps its moments
pub keeps-none : (s : Seen) → KeepsMoments s s
keeps-none s = record { moments = λ m w. w; same = λ m w. refl }
