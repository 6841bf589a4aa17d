use Rattle.lock_local.proofs.Base.{ap, arith, get_or, get_or_default, IsPartitionedBy-ltb, IsPartitionPoint-from_clause, length, ltb, ltb-false, ltb-true, Recall, rules, ◌<◌, ◌∙◌, ◌≢◌}
use Rattle.lock_local.proofs.Lemmas.{never_falls, no_recall, would_stand_at}
use Rattle.lock_local.proofs.recalled.place_of.Goals as goal
use Rattle.lock_local.proofs.recalled.place_of.Goals.{else-at-len-via-then-at-len+else-owner, else-at-len-via-else-at-len}

-- another owner stands there, or none
other : (c : goal.Joined-else-at-len) → c.partition_point-at.result < length c.args.recalled.now.items → (get_or c.args.recalled.now.items c.partition_point-at.result no_recall).owner ≢ c.args.owner
other c within = elim c.else-at-len.branch [
  | else-at-len-via-then-at-len+else-owner w ↦ λ e. w.if-owner.false (w.owner.ensures ∙ ap (λ (r : Recall). r.owner) (w.index.ensures ∙ get_or_default c.args.recalled.now.items c.partition_point-at.result w.index.result.now no_recall within) ∙ e)
  | else-at-len-via-else-at-len w ↦ λ e. omega (arith, within, w.if-at-len.false, c.len.ensures, c.args.recalled.now.ok.0)
]

pub returns-else-at-len : goal.returns-else-at-len
returns-else-at-len c =
    let xs = c.args.recalled.now.items in
    let w = c.args.owner in
    let parted = IsPartitionedBy-ltb (λ (r : Recall). r.owner) xs w (never_falls xs c.requires) in
    let point = IsPartitionPoint-from_clause (λ (r : Recall). ltb r.owner w) xs c.partition_point-at.result c.partition_point-at.ensures.partitioned parted (λ a r q k. search rules) in
    would_stand_at w xs c.partition_point-at.result c.requires (omega (arith, c.partition_point-at.ensures.bound, c.args.recalled.now.ok.0))
    (λ k d l. ltb-true _ _ (point.0 k d (omega arith) l))
    (λ k d l m. ltb-false _ _ (point.1 k d l m))
    (other c)
