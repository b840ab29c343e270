use Rattle.std.proofs.Common.{refl, ◌≡◌, ℕ, ◌+◌, ◌<◌, ◌≤◌, arith, ap, sym, subst, ◌∙◌, length}
use Rattle.cb_dd.specs.Diagram.{Store}
use Rattle.cb_ops.specs.Call.{IsAnswer}
use Rattle.cb_ops.proofs.Memo.{IsMemo-insert, IsMemo-same, either-way}
use Rattle.cb_ops.proofs.Same.{same-call}
use Rattle.cb_ops.proofs.Pairs.{IsPairs-wide}
use Rattle.cb_ops.proofs.Ops.note.Goals as goal

pub invariant_of-self : goal.invariant_of-self
invariant_of-self c =
    let e : c.self.inside.dd ≡ c.args.self.now = c.self.view_is ∙ c.make_room-count.ensures.same in
    let seen = ap (λ s. length s.triples) c.self.view_is in
    let long = ap (λ s. length s.triples) e in
    let n = c.make_room-count.ensures.count in
    let q = c.requires in
    let call = c.in-Some.ensures in
    let top : ℕ = c.make_room-count.result + 2 in
    let lf : c.args.f.0 < top = omega (arith, q.f, n, seen, long) in
    let lg : c.args.g.0 < top = omega (arith, q.g, n, seen, long) in
    let lh : c.args.h.0 < top = omega (arith, q.h, n, seen, long) in
    let two : 2 ≤ top = omega arith in
    let made : IsAnswer c.args.self.now.triples top c.in-Some.call c.args.r.0 = record {
      f = call.first top two lf lg lh;
      g = call.second top two lf lg lh;
      h = call.third top two lf lg lh;
      answer = omega (arith, q.r, n, seen, long);
      is = same-call c.args.self.now.triples c.args.f.0 c.args.g.0 c.args.h.0 c.in-Some.call.f c.in-Some.call.g c.in-Some.call.h c.args.r.0 call q.ite;
    } in
    let kept = subst (λ (n : ℕ). IsAnswer c.self.inside.dd.triples top c.in-Some.call n) (sym c.in-Ok.ensures.1)
    (subst (λ (s : Store). IsAnswer s.triples top c.in-Some.call c.args.r.0) (sym e) made) in
    let wide : c.self.inside.bound ≤ top = omega (arith, n, seen, c.self.invariant.0.within) in
    let room : top ≤ length c.self.inside.dd.triples + 2 = omega (arith, n, seen) in (
      either-way c.insert.result c.insert.ensures.updates c.insert.ensures.err
          (λ u. IsMemo-insert c.self.inside.memo c.insert.new.self c.self.inside.bound top c.self.inside.dd.triples c.self.invariant.0 wide room c.in-Some.call c.in-Ok.answer kept u.0)
          (λ u. IsMemo-same c.self.inside.memo c.insert.new.self c.self.inside.bound top c.self.inside.dd.triples c.self.invariant.0 wide room u),
      IsPairs-wide c.self.inside.pairs c.self.inside.bound top c.self.inside.dd.triples wide c.self.invariant.1,
      IsMemo-same c.self.inside.old_memo c.self.inside.old_memo c.self.inside.bound top c.self.inside.dd.triples c.self.invariant.2 wide room refl,
      IsPairs-wide c.self.inside.old_pairs c.self.inside.bound top c.self.inside.dd.triples wide c.self.invariant.3,
    )
