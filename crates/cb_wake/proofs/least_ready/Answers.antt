use Rattle.std.specs.Prelude.{slice_get, min, ◌^◌, ◌-◌}
use Rattle.std.proofs.Common.{◌≡◌, ◌≤◌, ◌+◌, Some, ℕ, true, Bool, arith, subst, sym, length, List}
use Rattle.std.proofs.Math.Nat.{min-le_left}
use Rattle.cb_wake.specs.Waits.{waiting_from}
use Rattle.cb_wake.proofs.Scans.{scan-more, scan-off, scan-on, scan-whole, none-more, not-both, one-more}
use Rattle.cb_wake.proofs.least_ready.Goals as goal
use Rattle.cb_wake.proofs.least_ready.Goals.{then-waits+in-Ok-false, else-waits}

-- a test more, of a goal that waits
tested : (xs : List Bool) (k before now after all : ℕ) → slice_get xs k ≡ Some true → now + length (waiting_from k xs) ≤ before + all → after ≡ min (now + 1) (2 ^ 64 - 1) → after + length (waiting_from (k + 1) xs) ≤ before + all
tested xs k before now after all s h t =
    let f = one-more k xs s in let m = min-le_left (now + 1) (2 ^ 64 - 1) in omega (arith, f, m, h, t)

pub loop-k-init : goal.loop-k-init
loop-k-init g c = record {
  kept = g.met.T.Tester.keeps_self c.args.tester.now;
  stops = omega arith;
  tests = omega arith;
  scanned = c.requires.scanned;
}

pub returns-in-Ok-true-clause-some : goal.returns-in-Ok-true-clause-some
returns-in-Ok-true-clause-some g c = (
  scan-on c.args.still.now c.loop-k.k (omega arith) c.if-waits.true,
  g.met.T.Tester.same_ready c.args.tester.now c.loop-k.tester c.loop-k.k c.loop-k.invariant.kept (c.in-Ok-true.ensures.answer.0 c.in-Ok-true.field-0-test),
  c.loop-k.invariant.scanned.none,
)

pub returns-in-Ok-true-clause-tests : goal.returns-in-Ok-true-clause-tests
returns-in-Ok-true-clause-tests g c =
    tested c.args.still.now c.loop-k.k _ _ _ _ (scan-on c.args.still.now c.loop-k.k (omega arith) c.if-waits.true) c.loop-k.invariant.tests c.ready.ensures.counted

pub returns-in-Err-clause-tests : goal.returns-in-Err-clause-tests
returns-in-Err-clause-tests g c =
    let t = tested c.args.still.now c.loop-k.k _ _ _ _ (scan-on c.args.still.now c.loop-k.k (omega arith) c.if-waits.true) c.loop-k.invariant.tests c.ready.ensures.counted in
    omega (arith, t)

pub loop-k-preserved : goal.loop-k-preserved
loop-k-preserved g c = let h = c.loop-k.invariant in let P = g.T.Tester.is_ready c.args.tester.now in elim c.if-waits.branch [
  | then-waits+in-Ok-false w ↦ record {
    kept = subst (λ t. g.T.Tester.keeps c.args.tester.now t) (sym w.tester-is) (g.met.T.Tester.keeps_then c.args.tester.now c.loop-k.tester w.ready.new.self h.kept w.in-Ok-false.ensures.kept);
    stops = subst (λ t. g.T.Tester.stops c.args.tester.now ≤ g.T.Tester.stops t) (sym w.tester-is) (let a = h.stops in let b = w.in-Ok-false.ensures.stops_stay in omega arith);
    tests = subst (λ t. g.T.Tester.tests t + length (waiting_from (c.loop-k.k + 1) c.args.still.now) ≤ g.T.Tester.tests c.args.tester.now + length (waiting_from c.args.from c.args.still.now)) (sym w.tester-is)
        (tested c.args.still.now c.loop-k.k _ _ _ _ (scan-on c.args.still.now c.loop-k.k (omega arith) w.if-waits.true) h.tests w.in-Ok-false.ensures.counted);
    scanned = scan-more P c.args.still.now c.loop-k.k h.scanned
        (λ s p. not-both (w.in-Ok-false.ensures.answer.1 (g.met.T.Tester.ready_same c.args.tester.now c.loop-k.tester c.loop-k.k h.kept p)) w.in-Ok-false.field-0-test);
  }
  | else-waits w ↦ record {
    kept = subst (λ t. g.T.Tester.keeps c.args.tester.now t) (sym w.tester-is) h.kept;
    stops = subst (λ t. g.T.Tester.stops c.args.tester.now ≤ g.T.Tester.stops t) (sym w.tester-is) h.stops;
    tests = subst (λ t. g.T.Tester.tests t + length (waiting_from (c.loop-k.k + 1) c.args.still.now) ≤ g.T.Tester.tests c.args.tester.now + length (waiting_from c.args.from c.args.still.now)) (sym w.tester-is)
        (let f = none-more c.loop-k.k c.args.still.now (omega arith) w.if-waits.false in let a = h.tests in omega (arith, f, a));
    scanned = scan-more P c.args.still.now c.loop-k.k h.scanned (λ s p. scan-off P c.args.still.now c.loop-k.k (omega arith) w.if-waits.false s);
  }
]

pub returns-clause-some : goal.returns-clause-some
returns-clause-some g c = scan-whole (g.T.Tester.is_ready c.args.tester.now) c.args.still.now c.loop-k.k (omega arith) c.loop-k.invariant.scanned

pub returns-clause-tests : goal.returns-clause-tests
returns-clause-tests g c = let a = c.loop-k.invariant.tests in omega (arith, a)
