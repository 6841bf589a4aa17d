use Rattle.lock_local.proofs.Base.{ap, append_assoc, AreLocks, AreTagged, arith, drop, get_or, handed_on, hands_on, IsRising, List, Lock, LockTag, passed, passes, refl, subst, sym, What, ◌++◌, ◌+◌, ◌∙◌, ◌∷◌, ◌≡◌}
use Rattle.lock_local.proofs.Lemmas.{AreLocks-handed_on, drop_more, idle_untagged, no_tag, nothing_left, passed_again, passed_idle, passes_idle, passes_step, tagged_handed_on, told_on}
use Rattle.lock_local.proofs.tag_walks.pass_tagged.Goals as goal

pub loop-tag-preserved : goal.loop-tag-preserved
loop-tag-preserved g c =
    let from = c.args.from in
    let to = c.args.to in
    let t = get_or c.args.tags.now c.loop-tag.tag-index no_tag in
    let rest = drop (c.loop-tag.tag-index + 1) c.args.tags.now in
    let xs = c.loop-tag.locks.items in
    let ys = c.pass_one.new.locks.items in
    let split = drop_more c.args.tags.now c.loop-tag.tag-index no_tag c.loop-tag-test.true in
    let rising : IsRising (t ∷ rest) = subst IsRising split c.loop-tag.invariant.rising in
    let tagged : AreTagged from (t ∷ rest) xs = subst (λ (ts : List LockTag). AreTagged from ts xs) split c.loop-tag.invariant.tagged in
    let written : ys ≡ handed_on from to t.object t.mode xs = c.pass_one.ensures.locks in
    let told = c.loop-tag.invariant.told in
    record {
      locks = subst AreLocks (sym written) (AreLocks-handed_on from to t.object t.mode xs c.loop-tag.invariant.locks);
      rising = rising.1;
      tagged = subst (AreTagged from rest) (sym written) (tagged_handed_on from to t rest xs c.requires.different tagged);
      same = ap (passed from to) written ∙ passed_again from to t.object t.mode c.requires.different xs ∙ c.loop-tag.invariant.same;
      told = (
        told.0 ++ hands_on from to t.object t.mode xs,
        g.met.E.Emit.emits_more _ _ _ _ _ _ told.1 c.pass_one.ensures.events refl,
        ap (λ (zs : List Lock). (told.0 ++ hands_on from to t.object t.mode xs) ++ passes from to zs) written
            ∙ append_assoc told.0 (hands_on from to t.object t.mode xs) (passes from to (handed_on from to t.object t.mode xs))
            ∙ ap (λ (es : List What). told.0 ++ es) (passes_step from to t rest xs c.requires.different rising c.loop-tag.invariant.locks tagged)
            ∙ told.2,
      );
    }

pub returns-clause-locks : goal.returns-clause-locks
returns-clause-locks g c = sym (passed_idle c.args.from c.args.to c.loop-tag.locks.items (idle_untagged c.args.from c.loop-tag.locks.items (subst (λ (ts : List LockTag). AreTagged c.args.from ts c.loop-tag.locks.items) (nothing_left c.args.tags.now c.loop-tag.tag-index (omega (arith, c.loop-tag-test.false))) c.loop-tag.invariant.tagged))) ∙ c.loop-tag.invariant.same

pub returns-clause-events : goal.returns-clause-events
returns-clause-events g c =
    let told = c.loop-tag.invariant.told in
    subst (λ (es : List What). g.E.Emit.emits c.args.out.now es c.loop-tag.out) (told_on told.0 (passes c.args.from c.args.to c.loop-tag.locks.items) (passes c.args.from c.args.to c.args.locks.now.items) (passes_idle c.args.from c.args.to c.loop-tag.locks.items (idle_untagged c.args.from c.loop-tag.locks.items (subst (λ (ts : List LockTag). AreTagged c.args.from ts c.loop-tag.locks.items) (nothing_left c.args.tags.now c.loop-tag.tag-index (omega (arith, c.loop-tag-test.false))) c.loop-tag.invariant.tagged))) told.2) told.1
