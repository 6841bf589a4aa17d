use Rattle.lock_local.proofs.Base.{All, All-get_or, ap, arith, counted_down, false, filter, get_or, has_owner, is_held, List, Lock, map, MatchBool, owner_count, refl, set, Sets, sym, ◌<◌, ◌∙◌, ◌≡◌}
use Rattle.lock_local.proofs.Lemmas.{count_at, count_missing, Counted, counted_there, counts_lowered, down, down_agrees, down_over, freed_no, freed_yes, is_held-filter, no_lock, totals_lowered, WellCounted, wholes_lowered}
use Rattle.lock_local.proofs.counting.count_down.Goals as goal
use Rattle.lock_local.proofs.counting.count_down.Goals.{then-not-has_owner, else-not-has_owner}

-- what the lock at its place becomes
lower : (c : goal.After-keep_if_held) → set c.args.locks.now.items c.in-Ok.at c.count_down.new.self ≡ map (down c.args.owner c.args.object c.args.mode) c.args.locks.now.items
lower c =
    down_over c.args.owner c.args.object c.args.mode c.args.locks.now.items c.in-Ok.at c.index_mut-lock.result.now c.count_down.new.self c.requires.locks.in_order
    (c.in-Ok.ensures c.index_mut-lock.result.now) c.index_mut-lock.ensures.value c.count_down.ensures

-- what is shared, by whether an owner is left
freed : (c : goal.After-keep_if_held) → MatchBool (has_owner c.count_down.new.self) (c.if-not-has_owner.shared ≡ c.args.shared.now) (Sets c.args.shared.now c.if-not-has_owner.shared c.args.object c.args.mode c.args.session false)
freed c =
    elim c.if-not-has_owner.branch [
      | then-not-has_owner w ↦ freed_yes _ _ _ _ _ _ _ w.if-not-has_owner.ensures w.drop_grant.ensures w.shared-is
      | else-not-has_owner w ↦ freed_no _ _ _ _ _ _ w.if-not-has_owner.ensures w.shared-is
    ]

pub returns-in_default-clause-answer : goal.returns-in_default-clause-answer
returns-in_default-clause-answer c = sym (count_missing c.args.locks.now.items c.in_default.field-0 no_lock c.args.object c.args.mode c.args.owner c.requires.locks.in_order (c.in_default.ensures no_lock))

pub index-requires : goal.index-requires
index-requires c = omega (arith, (c.in-Ok.ensures no_lock).within, c.args.locks.now.ok.0)

pub returns-then-count-eq0-clause-answer : goal.returns-then-count-eq0-clause-answer
returns-then-count-eq0-clause-answer c =
    sym (count_at c.args.locks.now.items c.in-Ok.at c.index.result.now c.args.object c.args.mode c.args.owner c.requires.locks.in_order (c.in-Ok.ensures c.index.result.now)
    ∙ ap (owner_count c.args.owner) (sym c.index.ensures) ∙ sym c.count-count.ensures ∙ c.if-count-eq0.true)

pub returns-clause-answer : goal.returns-clause-answer
returns-clause-answer c =
    sym (count_at c.args.locks.now.items c.in-Ok.at c.index.result.now c.args.object c.args.mode c.args.owner c.requires.locks.in_order (c.in-Ok.ensures c.index.result.now)
    ∙ ap (owner_count c.args.owner) (sym c.index.ensures) ∙ sym c.count-count.ensures)

pub returns-clause-held : goal.returns-clause-held
returns-clause-held c = λ _. c.keep_if_held.ensures ∙ ap (filter has_owner) (lower c)

pub returns-clause-agrees : goal.returns-clause-agrees
returns-clause-agrees c = λ o m.
    down_agrees c.args.owner c.args.object c.args.mode c.args.locks.now.items c.in-Ok.at c.index_mut-lock.result.now c.count_down.new.self c.args.session c.args.shared.now c.if-not-has_owner.shared c.requires.locks
    (c.in-Ok.ensures c.index_mut-lock.result.now) (c.count_down.ensures ∙ ap (counted_down c.args.owner) c.index_mut-lock.ensures.value) (freed c) c.requires.agrees o m
    ∙ sym (ap (λ (zs : List Lock). is_held zs o m) c.keep_if_held.ensures ∙ is_held-filter (set c.args.locks.now.items c.in-Ok.at c.count_down.new.self) o m)

-- the count that was read, at the lock that is lowered
some : (c : goal.After-keep_if_held) → 0 < owner_count c.args.owner (get_or c.args.locks.now.items c.in-Ok.at c.index_mut-lock.result.now)
some c = counted_there c.args.owner c.count-count.result c.args.locks.now.items c.in-Ok.at c.index.result.now c.index_mut-lock.result.now (c.in-Ok.ensures no_lock).within c.index.ensures c.count-count.ensures c.if-count-eq0.false

counted : (c : goal.After-keep_if_held) → All Counted (get_or c.args.locks.now.items c.in-Ok.at c.index_mut-lock.result.now).owners
counted c = All-get_or WellCounted c.args.locks.now.items c.in-Ok.at c.index_mut-lock.result.now (c.in-Ok.ensures no_lock).within c.requires.locks.counted

pub returns-clause-counts : goal.returns-clause-counts
returns-clause-counts c = λ _. counts_lowered c.args.owner c.args.object c.args.mode c.args.locks.now.items _ _ c.in-Ok.at c.index_mut-lock.result.now c.count_down.new.self (c.in-Ok.ensures c.index_mut-lock.result.now) (c.count_down.ensures ∙ ap (counted_down c.args.owner) c.index_mut-lock.ensures.value) (counted c) (some c) refl c.keep_if_held.ensures

pub returns-clause-wholes : goal.returns-clause-wholes
returns-clause-wholes c = λ _. wholes_lowered c.args.owner c.args.object c.args.mode c.args.locks.now.items _ _ c.in-Ok.at c.index_mut-lock.result.now c.count_down.new.self (c.in-Ok.ensures c.index_mut-lock.result.now) (c.count_down.ensures ∙ ap (counted_down c.args.owner) c.index_mut-lock.ensures.value) (counted c) (some c) refl c.keep_if_held.ensures

pub returns-clause-total : goal.returns-clause-total
returns-clause-total c = λ _. totals_lowered c.args.owner c.args.locks.now.items _ _ c.in-Ok.at c.index_mut-lock.result.now c.count_down.new.self (c.in-Ok.ensures no_lock).within (c.count_down.ensures ∙ ap (counted_down c.args.owner) c.index_mut-lock.ensures.value) (counted c) (some c) refl c.keep_if_held.ensures
