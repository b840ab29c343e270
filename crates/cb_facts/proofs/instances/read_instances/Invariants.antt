use Rattle.std.proofs.Common.{◌≡◌, true, drop}
use Rattle.cb_model.specs.Written.{are_written}
use Rattle.cb_trees.proofs.Walk.{all_forms}
use Rattle.cb_facts.specs.Modules.{texts}
use Rattle.cb_facts.proofs.Steps.{InstancesSoFar}
use Rattle.cb_facts.proofs.instances.read_instances.Given as goal

abbrev pub invariant-loop-term : goal.invariant-loop-term
invariant-loop-term l = record {
  written : are_written (all_forms (drop l.term-index l.terms)) ≡ true;
  so : InstancesSoFar l.terms l.initial.nets l.term-index l.nets (texts l.all.parts.items) l.all.ins l.all.outs;
}
