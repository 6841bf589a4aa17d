use Rattle.lock_local.proofs.Base.{ap, append_assoc, AreLocks, AreTagged, arith, drop, get_or, given_up, gives_up, IsRising, List, Lock, LockTag, refl, released, releases, subst, sym, What, ◌++◌, ◌+◌, ◌∙◌, ◌∷◌, ◌≡◌}
use Rattle.lock_local.proofs.Lemmas.{AreLocks-given_up, drop_more, idle_untagged, no_tag, nothing_left, others_more, released_again, released_idle, releases_idle, releases_step, tagged_given_up, told_on}
use Rattle.lock_local.proofs.tag_walks.give_up_tagged.Goals as goal

pub loop-tag-preserved : goal.loop-tag-preserved
loop-tag-preserved g c =
    let owner = c.args.owner in
    let t = get_or c.args.tags.now c.loop-tag.tag-index no_tag in
    let rest = drop (c.loop-tag.tag-index + 1) c.args.tags.now in
    let xs = c.loop-tag.locks.items in
    let ys = c.give_up_one.new.locks.items in
    let split = drop_more c.args.tags.now c.loop-tag.tag-index no_tag c.loop-tag-test.true in
    let rising : IsRising (t ∷ rest) = subst IsRising split c.loop-tag.invariant.rising in
    let tagged : AreTagged owner (t ∷ rest) xs = subst (λ (ts : List LockTag). AreTagged owner ts xs) split c.loop-tag.invariant.tagged in
    let written : ys ≡ given_up owner t.object t.mode xs = c.give_up_one.ensures.locks in
    let told = c.loop-tag.invariant.told in
    record {
      locks = subst AreLocks (sym written) (AreLocks-given_up owner t.object t.mode xs c.loop-tag.invariant.locks);
      rising = rising.1;
      tagged = subst (AreTagged owner rest) (sym written) (tagged_given_up owner t rest xs tagged);
      same = ap (released owner) written ∙ released_again owner t.object t.mode xs c.loop-tag.invariant.locks.owned ∙ c.loop-tag.invariant.same;
      told = (
        told.0 ++ gives_up owner t.object t.mode xs,
        g.met.E.Emit.emits_more _ _ _ _ _ _ told.1 c.give_up_one.ensures.events refl,
        ap (λ (zs : List Lock). (told.0 ++ gives_up owner t.object t.mode xs) ++ releases owner zs) written
            ∙ append_assoc told.0 (gives_up owner t.object t.mode xs) (releases owner (given_up owner t.object t.mode xs))
            ∙ ap (λ (es : List What). told.0 ++ es) (releases_step owner t rest xs rising c.loop-tag.invariant.locks tagged)
            ∙ told.2,
      );
      agrees = c.give_up_one.ensures.agrees;
      others = others_more _ _ _ _ c.loop-tag.invariant.others c.give_up_one.ensures.others;
    }

pub returns-clause-locks : goal.returns-clause-locks
returns-clause-locks g c = sym (released_idle c.args.owner c.loop-tag.locks.items c.loop-tag.invariant.locks (idle_untagged c.args.owner c.loop-tag.locks.items (subst (λ (ts : List LockTag). AreTagged c.args.owner ts c.loop-tag.locks.items) (nothing_left c.args.tags.now c.loop-tag.tag-index (omega (arith, c.loop-tag-test.false))) c.loop-tag.invariant.tagged))) ∙ c.loop-tag.invariant.same

pub returns-clause-events : goal.returns-clause-events
returns-clause-events g c =
    let told = c.loop-tag.invariant.told in
    subst (λ (es : List What). g.E.Emit.emits c.args.out.now es c.loop-tag.out) (told_on told.0 (releases c.args.owner c.loop-tag.locks.items) (releases c.args.owner c.args.locks.now.items) (releases_idle c.args.owner c.loop-tag.locks.items (idle_untagged c.args.owner c.loop-tag.locks.items (subst (λ (ts : List LockTag). AreTagged c.args.owner ts c.loop-tag.locks.items) (nothing_left c.args.tags.now c.loop-tag.tag-index (omega (arith, c.loop-tag-test.false))) c.loop-tag.invariant.tagged))) told.2) told.1
