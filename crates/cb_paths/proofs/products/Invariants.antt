use Rattle.std.proofs.Common.{◌≡◌, ◌+◌, ◌≤◌, min, length}
use Rattle.cb_paths.specs.Products.{products_of}
use Rattle.cb_paths.specs.Counted.{AreEntries, AreCapped, through, above}
use Rattle.cb_paths.proofs.products.Given as goal

abbrev pub invariant-pass : goal.invariant-pass
invariant-pass l = record {
  found : l.found ≤ l.limit;
  nodes : AreEntries l.ops.triples l.ways.entries;
  capped : AreCapped l.limit l.ways.entries;
  counted : min (l.found + through l.ops.triples l.ways.entries) l.limit ≡ min (length (products_of l.ops.triples l.fn.f.0)) l.limit;
}

abbrev pub decreases-pass : goal.decreases-pass
decreases-pass l = above l.ways.entries
