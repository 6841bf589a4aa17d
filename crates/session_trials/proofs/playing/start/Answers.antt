use Rattle.std.proofs.Common.{◌≡◌, ◌∙◌, List, [], refl, sym, ap, subst, arith}
use Rattle.std.specs.Prelude.{replicate}
use Rattle.lock_shared.specs.Holdings.{holds}
use Rattle.lock_shared.specs.declared.shared_locks.Holding.{Holding}
use Rattle.owner_kinds.specs.KindShelf.{table_of}
use Rattle.owner_kinds.specs.KindTable.{IsSound}
use Rattle.session_owners.specs.Commons.{CommonState}
use Rattle.session_commands.specs.Performed.{Now}
use Rattle.session_core.proofs.Opened.{none_held, none_pinned, opened_lines, opened_room, opened_serves}
use Rattle.session_trials.proofs.playing.start.Goals as goal

pub returns-clause-lines : goal.returns-clause-lines
returns-clause-lines c =
    let sound : IsSound (table_of c.swap_kinds.new.self.kinds) = subst (λ (m : CommonState). IsSound (table_of m.kinds)) (sym c.swap_kinds.ensures.swapped) c.in-Ok-two_kinds.ensures.sound in
    let opened : Now = record { store = c.in_ok-session.session; space = c.start.new.space; shelf = c.in-Ok.shelf; commons = c.swap_kinds.new.self; calls = record { count = 0; fail = c.args.fail } } in
    let unlocked : c.swap_kinds.new.self.locks ≡ [] = ap (λ (m : CommonState). m.locks) c.swap_kinds.ensures.swapped ∙ ap (λ (m : CommonState). m.locks) c.in-Ok-new.ensures in
    let unpinned : c.swap_kinds.new.self.pins ≡ replicate 1024 0 = ap (λ (m : CommonState). m.pins) c.swap_kinds.ensures.swapped ∙ ap (λ (m : CommonState). m.pins) c.in-Ok-new.ensures in
    opened_lines opened c.in_ok-session.ensures.session (c.in_ok-session.ensures.keeps (none_held _ 0 c.in-Ok-new-2.ensures.regions)) (opened_serves opened c.in_ok-session.ensures.session sound (λ o m. ap (λ (ls : List Holding). holds ls o m c.in_ok-session.session.owners.session) unlocked) (none_pinned _ unpinned))
    (c.in_ok-session.ensures.stands _ c.swap_kinds.new.self c.in-Ok.ensures.words_differ sound)

pub returns-clause-room : goal.returns-clause-room
returns-clause-room c = opened_room _ _ c.in_ok-session.ensures.session refl (omega arith)
