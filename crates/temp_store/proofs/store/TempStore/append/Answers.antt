use Rattle.std.proofs.Common.{◌≡◌, ◌+◌, length, slice_set, Some, arith, ap, sym, ◌∙◌}
use Rattle.std.proofs.lemmas.List.{length-append}
use Rattle.temp_store.specs.Temp.{held, IsSound}
use Rattle.temp_store.proofs.Sums.{IsSound-set}
use Rattle.temp_store.proofs.store.TempStore.append.Goals as goal

-- what the call found held is what the store kept
was : (c : goal.After-self-3-1) → c.held.result ≡ c.self.inside.held
unfolding held
was c = c.held.ensures.held ∙ sym (c.self.invariant.total ∙ ap held c.self.view_is)

sound : (c : goal.After-self-3-1) → IsSound (slice_set c.self.inside.files.slots c.args.file (Some c.append.new.self)) c.in-Some.held c.self.inside.limit
sound c =
    let len : length c.append.new.self ≡ length c.index_mut.result.now + length c.args.bytes.now = ap length c.in-Ok.ensures.ok ∙ length-append c.index_mut.result.now c.args.bytes.now in
    IsSound-set c.self.inside.files.slots c.args.file c.index_mut.result.now c.index_mut.ensures.value (Some c.append.new.self) c.self.inside.held c.in-Some.held c.self.inside.limit c.self.invariant
    (omega (arith, c.in-Some.ensures, was c, len)) (omega (arith, c.in-Some.ensures))

pub invariant_of-self-2 : goal.invariant_of-self-2
invariant_of-self-2 c = sound c

pub returns-clause-held : goal.returns-clause-held
unfolding held
returns-clause-held c = sym (sound c).total ∙ omega (arith, c.in-Some.ensures, c.held.ensures.held)
