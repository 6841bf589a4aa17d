use Rattle.std.proofs.Common.{◌+◌, length, rules}
use Rattle.context_rules.specs.Contexts.{found}
use Rattle.session_store.specs.State.{contexts_in}
use Rattle.session_trials.proofs.Known.{HasKnown, bytes_known, chunk_inside, chunk_there, chunk_within, place_changes}
use Rattle.session_trials.proofs.playing.overwrite.Goals as goal

pub place-place-requires : goal.place-place-requires
place-place-requires c =
    let known : HasKnown (c.args.at + length c.args.bytes.now) (found c.args.chunk.now (contexts_in c.args.session.now c.args.space.now)) =
    bytes_known c.args.chunk.now c.args.at _ (length c.args.bytes.now) (contexts_in c.args.session.now c.args.space.now) c.in-Ok.ensures.answer (search rules) in
    (c.args.space.now, chunk_there _ _ known)

pub write-requires : goal.write-requires
write-requires c =
    let known : HasKnown (c.args.at + length c.args.bytes.now) (found c.args.chunk.now (contexts_in c.args.session.now c.args.space.now)) =
    bytes_known c.args.chunk.now c.args.at _ (length c.args.bytes.now) (contexts_in c.args.session.now c.args.space.now) c.in-Ok.ensures.answer (search rules) in
    chunk_inside c.args.space.now c.place-place.result c.args.at (length c.args.bytes.now) c.in-Some.offset _ c.requires.some c.in-Some.ensures.1 known (c.place-place.ensures.known c.args.space.now c.requires.keeps)

pub returns-clause-written : goal.returns-clause-written
returns-clause-written c _ x commons =
    let known : HasKnown (c.args.at + length c.args.bytes.now) (found c.args.chunk.now (contexts_in c.args.session.now c.args.space.now)) =
    bytes_known c.args.chunk.now c.args.at _ (length c.args.bytes.now) (contexts_in c.args.session.now c.args.space.now) c.in-Ok.ensures.answer (search rules) in
    c.place-place.ensures.written c.args.space.now c.write.new.self c.args.at c.args.bytes.now c.requires.keeps (chunk_within _ c.args.at c.args.bytes.now known)
    (place_changes c.args.space.now c.write.new.self c.place-place.result c.args.at c.in-Some.offset c.args.bytes.now c.in-Some.ensures.1 c.write.ensures.changes) x commons

pub returns-clause-lines : goal.returns-clause-lines
returns-clause-lines c x commons calls lines =
    let known : HasKnown (c.args.at + length c.args.bytes.now) (found c.args.chunk.now (contexts_in c.args.session.now c.args.space.now)) =
    bytes_known c.args.chunk.now c.args.at _ (length c.args.bytes.now) (contexts_in c.args.session.now c.args.space.now) c.in-Ok.ensures.answer (search rules) in
    c.place-place.ensures.between c.args.space.now c.write.new.self c.args.at c.args.bytes.now (chunk_within _ c.args.at c.args.bytes.now known)
    (place_changes c.args.space.now c.write.new.self c.place-place.result c.args.at c.in-Some.offset c.args.bytes.now c.in-Some.ensures.1 c.write.ensures.changes) x commons calls lines
