use Rattle.std.proofs.Common.{◌≡◌, drop}
use Rattle.cb_model.specs.Outside.{bytes_named}
use Rattle.cb_host.specs.Fakes.{is_listed, entries_of}
use Rattle.cb_host.proofs.memory.bytes_of.Given as goal

abbrev pub invariant-loop-listed : goal.invariant-loop-listed
invariant-loop-listed l = record {
  listed : is_listed (entries_of l.files) l.name ≡ is_listed (entries_of (drop l.listed-index l.files)) l.name;
  bytes : bytes_named (entries_of l.files) l.name ≡ bytes_named (entries_of (drop l.listed-index l.files)) l.name;
}
