use Rattle.std.proofs.Common.{refl, ◌≡◌, ℕ, ◌+◌, ◌<◌, ◌≤◌, arith, ap, sym, subst, ◌∙◌, length}
use Rattle.cb_dd.specs.Diagram.{Store}
use Rattle.cb_ops.specs.Pair.{IsPairAnswer}
use Rattle.cb_ops.proofs.Memo.{IsMemo-same, either-way}
use Rattle.cb_ops.proofs.Pairs.{IsPairs-insert, IsPairs-same, IsPairs-wide, pair-call, pair-below}
use Rattle.cb_ops.proofs.Ops.note_pair.Goals as goal

pub invariant_of-self : goal.invariant_of-self
invariant_of-self c =
    let e : c.self.inside.dd ≡ c.args.self.now = c.self.view_is ∙ c.make_room_for_pairs-count.ensures.same in
    let seen = ap (λ s. length s.triples) c.self.view_is in
    let long = ap (λ s. length s.triples) e in
    let n = c.make_room_for_pairs-count.ensures.count in
    let q = c.requires in
    let pair = c.in-Some.ensures in
    let top : ℕ = c.make_room_for_pairs-count.result + 2 in
    let lf : c.args.f.0 < top = omega (arith, q.f, n, seen, long) in
    let lg : c.args.g.0 < top = omega (arith, q.g, n, seen, long) in
    let both = pair-below c.args.f.0 c.args.g.0 c.in-Some.pair.f c.in-Some.pair.g top pair lf lg in
    let made : IsPairAnswer c.args.self.now.triples top c.in-Some.pair c.args.r.0 = record {
      f = both.0;
      g = both.1;
      answer = omega (arith, q.r, n, seen, long);
      is = pair-call c.args.self.now.triples c.args.f.0 c.args.g.0 c.in-Some.pair.f c.in-Some.pair.g c.args.r.0 pair q.xor;
    } in
    let kept = subst (λ (n : ℕ). IsPairAnswer c.self.inside.dd.triples top c.in-Some.pair n) (sym c.in-Ok.ensures.1)
    (subst (λ (s : Store). IsPairAnswer s.triples top c.in-Some.pair c.args.r.0) (sym e) made) in
    let wide : c.self.inside.bound ≤ top = omega (arith, n, seen, c.self.invariant.0.within) in
    let room : top ≤ length c.self.inside.dd.triples + 2 = omega (arith, n, seen) in (
      IsMemo-same c.self.inside.memo c.self.inside.memo c.self.inside.bound top c.self.inside.dd.triples c.self.invariant.0 wide room refl,
      either-way c.insert.result c.insert.ensures.updates c.insert.ensures.err
          (λ u. IsPairs-insert c.self.inside.pairs c.insert.new.self c.self.inside.bound top c.self.inside.dd.triples c.self.invariant.1 wide c.in-Some.pair c.in-Ok.answer kept u.0)
          (λ u. IsPairs-same c.self.inside.pairs c.insert.new.self c.self.inside.bound top c.self.inside.dd.triples c.self.invariant.1 wide u),
      IsMemo-same c.self.inside.old_memo c.self.inside.old_memo c.self.inside.bound top c.self.inside.dd.triples c.self.invariant.2 wide room refl,
      IsPairs-wide c.self.inside.old_pairs c.self.inside.bound top c.self.inside.dd.triples wide c.self.invariant.3,
    )
