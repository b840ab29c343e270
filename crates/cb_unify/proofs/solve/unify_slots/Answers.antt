use Rattle.std.proofs.Common.{◌∙◌, List, sym, subst}
use Rattle.cb_dd.specs.declared.Node.{Node}
use Rattle.cb_elim.specs.Pairs.{AreArguments, AreUnified, HaveNone, PairsCause, PairsRoom}
use Rattle.cb_elim.specs.Store.{view_of}
use Rattle.cb_elim.proofs.Together.{slots-arguments}
use Rattle.cb_unify.proofs.Solving.{pairs-solved, pairs-none, pairs-room, pairs-cause}
use Rattle.cb_unify.proofs.solve.unify_slots.Goals as goal

pub unify_all-requires-clause-arguments : goal.unify_all-requires-clause-arguments
unify_all-requires-clause-arguments c =
    subst (λ (x : List (Node × Node)). AreArguments c.args.store.now x) (sym (c.deref.ensures.value ∙ c.in-Ok.ensures)) (slots-arguments c.args.store.now c.requires.store c.args.pairs.now c.requires.slots)

pub returns-clause-solved : goal.returns-clause-solved
returns-clause-solved c h =
    pairs-solved c.args.store.now c.unify_all.new.self c.args.pairs.now c.requires.slots (subst (λ (x : List (Node × Node)). AreUnified c.args.store.now c.unify_all.new.self x) (c.deref.ensures.value ∙ c.in-Ok.ensures) (c.unify_all.ensures.unified h))

pub returns-clause-none : goal.returns-clause-none
returns-clause-none c h =
    pairs-none c.args.store.now c.args.pairs.now c.requires.slots (subst (λ (x : List (Node × Node)). HaveNone (view_of c.args.store.now) c.args.store.now.nodes.triples x) (c.deref.ensures.value ∙ c.in-Ok.ensures) (c.unify_all.ensures.none h))

pub returns-clause-room : goal.returns-clause-room
returns-clause-room c =
    pairs-room c.args.store.now c.args.pairs.now c.unify_all.new.self.nodes c.requires.slots (c.values_depend_on_live_levels.ensures c.args.store.now c.requires.store) (subst (λ (x : List (Node × Node)). PairsRoom c.args.store.now.slots x c.args.store.now.nodes c.unify_all.new.self.nodes) (c.deref.ensures.value ∙ c.in-Ok.ensures) c.unify_all.ensures.room)

pub returns-clause-nodes : goal.returns-clause-nodes
returns-clause-nodes c h =
    pairs-cause c.args.store.now c.unify_all.new.self c.args.pairs.now c.requires.slots (c.values_depend_on_live_levels.ensures c.args.store.now c.requires.store) (subst (λ (x : List (Node × Node)). PairsCause c.args.store.now c.unify_all.new.self x) (c.deref.ensures.value ∙ c.in-Ok.ensures) (c.unify_all.ensures.nodes h))
