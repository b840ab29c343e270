use Rattle.std.proofs.Common.{◌≡◌, ltb, rules, ◌∙◌, sym, true, false}
use Rattle.std.proofs.lemmas.List.Sorted.{IsPartitionPoint-from_clause, IsPartitionedBy-ltb}
use Rattle.std.specs.List.Sorted.{IsPartitionPoint}
use Rattle.cb_ops.proofs.Images.{rising-keys, found-at, past-end, passed-over}
use Rattle.cb_ops.proofs.replace.replacing.Goals as goal

pub returns-in_err-entry : goal.returns-in_err-entry
returns-in_err-entry c =
    let parted = IsPartitionedBy-ltb (λ p. p.0) c.args.list.now c.args.level (rising-keys c.args.list.now c.requires) in
    let point : IsPartitionPoint (λ p. ltb p.0 c.args.level ≡ true) (λ p. ltb p.0 c.args.level ≡ false) c.args.list.now c.partition_point-i.result = IsPartitionPoint-from_clause (λ p. ltb p.0 c.args.level) _ _ c.partition_point-i.ensures.partitioned parted (λ a r q k. search rules) in
    c.from_residual.ensures ∙ sym (past-end c.args.list.now c.requires c.partition_point-i.result c.args.level point c.in_err-entry.ensures.lookup.3)

pub returns-then-entry-level : goal.returns-then-entry-level
returns-then-entry-level c =
    let parted = IsPartitionedBy-ltb (λ p. p.0) c.args.list.now c.args.level (rising-keys c.args.list.now c.requires) in
    let point : IsPartitionPoint (λ p. ltb p.0 c.args.level ≡ true) (λ p. ltb p.0 c.args.level ≡ false) c.args.list.now c.partition_point-i.result = IsPartitionPoint-from_clause (λ p. ltb p.0 c.args.level) _ _ c.partition_point-i.ensures.partitioned parted (λ a r q k. search rules) in
    sym (found-at c.args.list.now c.requires c.partition_point-i.result c.args.level point c.in_ok-entry.entry.now c.in_ok-entry.ensures.lookup.3.0 c.in_ok-entry.ensures.lookup.1 c.if-entry-level.true)

pub returns : goal.returns
returns c =
    let parted = IsPartitionedBy-ltb (λ p. p.0) c.args.list.now c.args.level (rising-keys c.args.list.now c.requires) in
    let point : IsPartitionPoint (λ p. ltb p.0 c.args.level ≡ true) (λ p. ltb p.0 c.args.level ≡ false) c.args.list.now c.partition_point-i.result = IsPartitionPoint-from_clause (λ p. ltb p.0 c.args.level) _ _ c.partition_point-i.ensures.partitioned parted (λ a r q k. search rules) in
    sym (passed-over c.args.list.now c.requires c.partition_point-i.result c.args.level point c.in_ok-entry.entry.now c.in_ok-entry.ensures.lookup.3.0 c.in_ok-entry.ensures.lookup.1 c.if-entry-level.false)
