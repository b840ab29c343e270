use Rattle.cb_wake.proofs.Scans.{scan-start}
use Rattle.cb_wake.proofs.Waiting.take_ready.Goals as goal

pub take_next-requires : goal.take_next-requires
take_next-requires g c = record { scanned = scan-start (g.T.Tester.is_ready c.args.tester.now) c.args.self.now.still }
