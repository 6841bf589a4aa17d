-- The owner of the deepest level.
use Rattle.session_store.proofs.Words.{◌≡◌, ℕ, length, sym, ap, ◌∙◌, option_and_then, option_map, OwnerId, level_at, Level, owner_of, StoreState, session_of}
use Rattle.session_store.proofs.Lemmas.{deepest_is, owner_number}
use Rattle.session_store.proofs.store.Store.level_owner.Goals as goal

pub returns-clause-owner : goal.returns-clause-owner
unfolding session_of
returns-clause-owner g c s =
    let depth : c.depth.result ≡ length c.args.self.now.levels = c.depth.ensures.depth ∙ ap (λ (a : StoreState). length a.levels) c.self.view_is in
    ap (option_map (λ (id : OwnerId). id.number)) (c.owner_at.ensures.owner ∙ ap (λ (n : ℕ). option_and_then (λ (found : Level). found.owner) (level_at c.args.self.now.levels n)) depth)
    ∙ sym (ap owner_of (deepest_is c.args.self.now.levels) ∙ owner_number (level_at c.args.self.now.levels (length c.args.self.now.levels)))
