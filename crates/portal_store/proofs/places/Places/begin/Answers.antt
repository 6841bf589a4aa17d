use Rattle.portal_store.proofs.Base.{List, ℕ, slice_index_or, ap, ◌∙◌, arith, is_some, IsSome, get}
use Rattle.portal_store.proofs.Words.{same}
use Rattle.portal_store.proofs.Lemmas.{all_names}
use Rattle.portal_store.proofs.places.Places.begin.Goals as goal

pub returns-clause-names : goal.returns-clause-names
returns-clause-names c =
    all_names (λ (w : List ℕ). IsSome (get same c.reserve-2.new.self.serials w)) c.args.portals.now.items
    (λ i d within. ap is_some (c.reserve-2.ensures.names (slice_index_or c.args.portals.now.items i d).name) ∙ c.loop-left.invariant.known i d (omega (arith, c.loop-left-test.false)) within)
