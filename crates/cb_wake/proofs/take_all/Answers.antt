use Rattle.std.proofs.Common.{◌≡◌, ◌++◌, ◌∷◌, [], arith}
use Rattle.std.proofs.lemmas.Grind.{common_steps}
use Rattle.cb_wake.proofs.Scans.{scan-same, scan-start, scan-taken, are-start, behind-taken, are-more, are-whole, are-fewer}
use Rattle.cb_wake.proofs.take_all.Goals as goal

pub loop-k-init : goal.loop-k-init
loop-k-init g c = record { kept = g.met.T.Tester.keeps_self c.args.tester.now; stops = omega arith; taking = are-start (g.T.Tester.is_ready c.args.tester.now) c.args.waits.now c.args.woken.now.items c.requires.empty; asked = omega arith; scanned = scan-start (g.T.Tester.is_ready c.args.tester.now) c.args.waits.now.still }

pub loop-k-smaller : goal.loop-k-smaller
loop-k-smaller g c = let t = rw c.in-Ok-Some.field-0-is at c.in-Ok-Some.ensures.taken in are-fewer (g.T.Tester.is_ready c.loop-k.tester) c.loop-k.waits c.take_next.new.self c.in-Ok-Some.k t

pub loop-k-preserved : goal.loop-k-preserved
loop-k-preserved g c =
    let t = rw c.in-Ok-Some.field-0-is at c.in-Ok-Some.ensures.taken in
    let h = c.loop-k.invariant in
    let e : c.push.new.self.items ≡ c.loop-k.woken.items ++ c.in-Ok-Some.k ∷ [] = grind (arith, common_steps) in
    record {
      kept = g.met.T.Tester.keeps_then c.args.tester.now c.loop-k.tester c.take_next.new.tester h.kept c.in-Ok-Some.ensures.kept;
      stops = let a = h.stops in let b = c.in-Ok-Some.ensures.stops_stay in omega (arith, a, b);
      taking = are-more (g.T.Tester.is_ready c.args.tester.now) (g.T.Tester.is_ready c.loop-k.tester) c.args.waits.now c.loop-k.waits c.take_next.new.self c.loop-k.woken.items c.push.new.self.items c.in-Ok-Some.k
          (λ j p. g.met.T.Tester.same_ready c.args.tester.now c.loop-k.tester j h.kept p) (λ j p. g.met.T.Tester.ready_same c.args.tester.now c.loop-k.tester j h.kept p) h.taking t e;
      asked = let a = h.asked in let b = rw c.in-Ok-Some.field-0-is at c.in-Ok-Some.ensures.tests in let d = behind-taken (g.T.Tester.is_ready c.loop-k.tester) c.loop-k.waits c.take_next.new.self c.in-Ok-Some.k t in omega (arith, a, b, d);
      scanned = scan-taken (g.T.Tester.is_ready c.args.tester.now) (g.T.Tester.is_ready c.loop-k.tester) c.loop-k.waits c.take_next.new.self c.in-Ok-Some.k (λ j p. g.met.T.Tester.ready_same c.args.tester.now c.loop-k.tester j h.kept p) t;
    }

pub returns-in-Ok-None-clause-parted : goal.returns-in-Ok-None-clause-parted
returns-in-Ok-None-clause-parted g c =
    let t = rw c.in-Ok-None.field-0-is at c.in-Ok-None.ensures.taken in
    let h = c.loop-k.invariant in
    are-whole (g.T.Tester.is_ready c.args.tester.now) (g.T.Tester.is_ready c.loop-k.tester) c.args.waits.now c.loop-k.waits c.take_next.new.self c.loop-k.woken.items (λ j p. g.met.T.Tester.ready_same c.args.tester.now c.loop-k.tester j h.kept p) h.taking t

pub take_next-requires : goal.take_next-requires
take_next-requires g c =
    let h = c.loop-k.invariant in
    record {
      scanned = scan-same (g.T.Tester.is_ready c.args.tester.now) (g.T.Tester.is_ready c.loop-k.tester) c.loop-k.waits.still c.loop-k.from (λ j p. g.met.T.Tester.same_ready c.args.tester.now c.loop-k.tester j h.kept p) h.scanned;
    }
