use Rattle.std.proofs.Common.{◌≡◌, length, refl, sym, ap, ◌∙◌, rules}
use Rattle.context_rules.specs.Contexts.{found}
use Rattle.context_rules.specs.Ends.{waiting}
use Rattle.context_tree.specs.State.{error_of}
use Rattle.context_tree.proofs.Tried.{waiting_written}
use Rattle.context_trials.specs.Standing.{contexts_of}
use Rattle.context_trials.proofs.Over.{HasTwo, chunk_there, chunk_within, offset_same, read_two}
use Rattle.context_trials.proofs.Standing.{stands_put}
use Rattle.context_trials.proofs.trial.Trial.overwrite.Goals as goal

pub place-at-requires : goal.place-at-requires
place-at-requires c =
    let two : HasTwo (found c.args.chunk.now (contexts_of c.args.self.now)) = read_two c.args.chunk.now (contexts_of c.args.self.now) (sym (ap error_of c.in_ok-bytes.was) ∙ c.bytes.ensures.answer) in
    (c.args.self.now.space, chunk_there _ two)

pub returns-clause-stands : goal.returns-clause-stands
returns-clause-stands c =
    let two : HasTwo (found c.args.chunk.now (contexts_of c.args.self.now)) = read_two c.args.chunk.now (contexts_of c.args.self.now) (sym (ap error_of c.in_ok-bytes.was) ∙ c.bytes.ensures.answer) in
    let many : length c.args.bytes ≡ 2 = search rules in
    let wrote = c.place-at.ensures.written c.args.self.now.space c.write.new.self 0 c.args.bytes c.requires.sits.agrees (chunk_within _ c.args.bytes two many)
    (offset_same c.args.self.now.space c.write.new.self c.place-at.result c.args.bytes c.write.ensures.changes) in
    stands_put c.args.self.now c.args.self.now.tree c.write.new.self c.args.self.now.out c.requires wrote.1 (record { places = refl; current = refl; next = refl })
    (λ e. ap waiting wrote.0 ∙ waiting_written c.args.chunk.now 0 c.args.bytes (contexts_of c.args.self.now) ∙ e)
