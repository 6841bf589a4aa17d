-- What is left of an aggregate behind each call of `next`.
use Rattle.std.proofs.Common.{◌≡◌, ◌≢◌, ℕ, ◌+◌, ◌<◌, ◌≤◌, ◌⊎◌, inl, inr, Bool, true, false, nat_le, List, [], ◌∷◌, ◌++◌, length, drop, Option, Some, None, IsSome, is_some, Ok, refl, sym, ap, ◌∙◌, subst, arith}
use Rattle.std.specs.Prelude.{slice_get}
use Rattle.std.proofs.lemmas.Bool.{leb-true, le-leb, both_ways}
use Rattle.std.proofs.lemmas.List.{drop_all, length-map}
use Rattle.addr_space.specs.Space.{Space}
use Rattle.temp_store.specs.Temp.{Temp}
use Rattle.agg_rules.specs.declared.Row.{Row}
use Rattle.agg_rules.specs.declared.NodeError.{NodeError}
use Rattle.agg_rules.specs.Rows.{results_of, result_of}
use Rattle.agg_rules.specs.Passes.{kept_groups, pass_results, spilled_rows}
use Rattle.agg_rules.specs.Steps.{Pass, stand_behind}
use Rattle.held_groups.specs.Held.{footprint}
use Rattle.agg_pass.specs.PassState.{PassState, HasSpilled, Spends, anew}
use Rattle.exec_agg.specs.Nodes.{Node, Goes, Stops, IsTurn, next_pass, way_over}
use Rattle.exec_agg.proofs.Places.{at_place, behind_place, none_left}
use Rattle.pgnodes.specs.Plays.{Played, idle, behind, begun_over, passes_played}
use Rattle.pgnodes.specs.Turns.{Alone, Leaves, ahead, later_of, left_of}
use Rattle.pgnodes.proofs.Passing.{stands-all, passed_all, passed_none, later, Leaves-still, Leaves-passed, Leaves-refused}
use Rattle.pgnodes.proofs.Alone.{all_stored, begun_anew}

-- it is the next pass's turn or not
pub turn_or_not : (n : Node) → IsTurn n ⊎ (IsTurn n → ⊥)
turn_or_not n = by_test (nat_le (length (kept_groups n.pass.budget n.pass.rows)) n.place) refl n.pass.file refl
  where
    by_test : (b : Bool) → nat_le (length (kept_groups n.pass.budget n.pass.rows)) n.place ≡ b → (file : Option ℕ) → n.pass.file ≡ file → IsTurn n ⊎ (IsTurn n → ⊥)
    by_test true is (Some file) has = inl (record { done = leb-true _ _ is; file = subst IsSome (sym has) refl })
    by_test true is None has = inr (λ turn. both_ways (is_some n.pass.file) (ap is_some has) turn.file)
    by_test false is file has = inr (λ turn. both_ways (nat_le (length (kept_groups n.pass.budget n.pass.rows)) n.place) is (le-leb _ _ turn.done))

-- two parts that are nothing together
both_empty : {X : Type 0} (xs ys : List X) → xs ++ ys ≡ [] → (xs ≡ []) × (ys ≡ [])
both_empty [] ys is = (refl, is)
both_empty (x ∷ xs) ys is = absurd (cc)

none_grouped : (rows : List Row) → results_of rows ≡ [] → rows ≡ []
none_grouped [] is = refl
none_grouped (row ∷ rows) is = absurd (cc)

module _ (n : Node) (left : drop n.given (results_of n.rows) ≡ drop n.place (pass_results n.pass.budget n.pass.rows) ++ results_of (spilled_rows n.pass.budget n.pass.rows)) where
  abbrev spilled : List Row
  spilled = spilled_rows n.pass.budget n.pass.rows

  abbrev given_here : List (ℕ × ℕ × ℕ)
  given_here = pass_results n.pass.budget n.pass.rows

  length-here : length given_here ≡ length (kept_groups n.pass.budget n.pass.rows)
  length-here = length-map (kept_groups n.pass.budget n.pass.rows) (result_of n.pass.rows)

  -- where all was given nothing is left of the pass, and it spilled nothing
  pub nothing_left : n.given ≡ length (results_of n.rows) → (drop n.place given_here ≡ []) × (spilled ≡ [])
  nothing_left all =
      let both = both_empty (drop n.place given_here) (results_of spilled) (sym left ∙ drop_all n.given (results_of n.rows) (omega (arith, all))) in
      (both.0, none_grouped spilled both.1)

  -- the group that is given is the next one of the pass at hand, where it isn't the turn of the next pass
  pub next_here : (group : ℕ × ℕ × ℕ) → slice_get (results_of n.rows) n.given ≡ Some group → (length (kept_groups n.pass.budget n.pass.rows) ≤ n.place → spilled ≢ [] → ⊥) → drop n.place given_here ≡ group ∷ drop (n.place + 1) given_here
  next_here group there no_turn = by_rest (drop n.place given_here) refl
    where
      first : drop n.place given_here ++ results_of spilled ≡ group ∷ drop (n.given + 1) (results_of n.rows)
      first = sym left ∙ at_place (results_of n.rows) n.given group there

      by_rest : (rest : List (ℕ × ℕ × ℕ)) → drop n.place given_here ≡ rest → rest ≡ group ∷ drop (n.place + 1) given_here
      by_rest [] is =
          let some : results_of spilled ≡ group ∷ drop (n.given + 1) (results_of n.rows) = ap (λ xs. xs ++ results_of spilled) (sym is) ∙ first in
          absurd (no_turn (omega (arith, none_left given_here n.place is, length-here)) (λ none. let clash : [] ≡ group ∷ drop (n.given + 1) (results_of n.rows) = ap results_of (sym none) ∙ some in absurd (cc)))
      by_rest (x ∷ rest) is =
          let same : x ∷ (rest ++ results_of spilled) ≡ group ∷ drop (n.given + 1) (results_of n.rows) = ap (λ xs. xs ++ results_of spilled) (sym is) ∙ first in
          let heads : x ≡ group = cc in
          ap (λ y. y ∷ rest) heads ∙ ap (λ ys. group ∷ ys) (sym (behind_place given_here n.place x rest is).1)

  -- where it is its turn nothing is left of the pass at hand
  pub none_here : length (kept_groups n.pass.budget n.pass.rows) ≤ n.place → drop n.place given_here ≡ []
  none_here done = drop_all n.place given_here (omega (arith, done, length-here))

module _ (n m : Node) (s t : Space) (temp temps : Temp) where
  -- the pass at hand goes on
  module _ (place : m.place ≡ n.place + 1) (pass : m.pass ≡ n.pass) (still : t ≡ s) (same : temps ≡ temp) where
    pub gave_here : (group : ℕ × ℕ × ℕ) → drop n.place (pass_results n.pass.budget n.pass.rows) ≡ group ∷ drop (n.place + 1) (pass_results n.pass.budget n.pass.rows) → Leaves (left_of s.limit temp.limit n) (group ∷ []) (left_of s.limit temp.limit m) s t temp temps
    gave_here group next =
        let parts : left_with (n.place + 1) n.pass ≡ left_of s.limit temp.limit m = ap (λ (p : PassState). left_with (n.place + 1) p) (sym pass) ∙ ap (λ k. left_with k m.pass) (sym place) in
        subst (λ (q : Played). Leaves (left_of s.limit temp.limit n) (group ∷ []) q s t temp temps) parts
        (Leaves-still (left_of s.limit temp.limit n) (left_with (n.place + 1) n.pass) (group ∷ []) s t temp temps (ap (λ gs. gs ++ (later_of s.limit temp.limit n).groups) next) refl refl refl still same)
      where
        left_with : ℕ → PassState → Played
        left_with k p = left_of s.limit temp.limit (record n { place = k; pass = p })

  -- nothing is left
  pub ended_here : drop n.place (pass_results n.pass.budget n.pass.rows) ≡ [] → spilled_rows n.pass.budget n.pass.rows ≡ [] → t ≡ s → temps ≡ temp → Leaves (left_of s.limit temp.limit n) [] idle s t temp temps
  ended_here none no_rows still same =
      let over : left_of s.limit temp.limit n ≡ idle =
      ap (λ gs. ahead gs (later_of s.limit temp.limit n)) none ∙ ap (λ (rows : List Row). passes_played (length rows) n.pass.budget s.limit temp.limit (begun_over s.limit temp.limit n.pass.groups.state.ledger rows) rows) no_rows in
      subst (λ (p : Played). Leaves p [] idle s t temp temps) (sym over) (Leaves-still idle idle [] s t temp temps refl refl refl refl still same)

  -- the next pass begins
  module _
      (some : 0 < n.pass.budget)
      (alone : Alone n s temp)
      (total : (footprint n.pass.groups).total ≡ n.pass.groups.state.ledger.total)
      (has : HasSpilled n.pass temp)
      (no_file : n.pass.file ≡ None → spilled_rows n.pass.budget n.pass.rows ≡ [])
      (none : drop n.place (pass_results n.pass.budget n.pass.rows) ≡ [])
      (goes : Goes n m s t temp temps)
    where
      abbrev rows : List Row
      rows = spilled_rows n.pass.budget n.pass.rows

      abbrev first : Pass
      first = begun_over s.limit temp.limit n.pass.groups.state.ledger rows

      begins : anew n.pass s temp ≡ first
      begins = begun_anew n s temp alone total (all_stored n s temp alone has no_file)

      is_later : left_of s.limit temp.limit n ≡ later_of s.limit temp.limit n
      is_later = ap (λ gs. ahead gs (later_of s.limit temp.limit n)) none

      spends : Spends 0 first (way_over n m t temps) s t temp temps
      spends = subst (λ a. Spends a first (way_over n m t temps) s t temp temps) alone.account (subst (λ (p : Pass). Spends n.pass.groups.state.layout.account p (way_over n m t temps) s t temp temps) begins goes.spends)

      -- it is refused
      pub turn_refused : (refused : NodeError) → Stops n m s t temp temps refused → Leaves (left_of s.limit temp.limit n) [] (record idle { refused = Some refused }) s t temp temps
      turn_refused refused stops =
          let over : left_of s.limit temp.limit n ≡ behind first (way_over n m t temps) (Some refused) [] idle =
          is_later ∙ passed_none n.pass.budget s.limit temp.limit some first (way_over n m t temps) rows refused (ap (λ (p : Pass). stand_behind n.pass.budget p rows) (sym begins) ∙ stops) in
          subst (λ (p : Played). Leaves p [] (record idle { refused = Some refused }) s t temp temps) (sym over) (Leaves-refused first (way_over n m t temps) refused s t temp temps spends)

      -- it met all its rows, and some of its groups were told
      pub turn_gave : (told rest : List (ℕ × ℕ × ℕ)) → next_pass n s temp ≡ Ok (way_over n m t temps) → m.pass.rows ≡ rows → m.pass.budget ≡ n.pass.budget → pass_results m.pass.budget m.pass.rows ≡ told ++ rest
          → Leaves (left_of s.limit temp.limit n) told (ahead rest (later_of s.limit temp.limit m)) s t temp temps
      turn_gave told rest went met budget parts =
          let over : left_of s.limit temp.limit n ≡ behind first (way_over n m t temps) None (told ++ rest) (later_of s.limit temp.limit m) =
          is_later
          ∙ passed_all n.pass.budget s.limit temp.limit some first (way_over n m t temps) rows
          (ap (λ (p : Pass). stand_behind n.pass.budget p rows) (sym begins) ∙ stands-all n.pass.budget (anew n.pass s temp) (anew n.pass s temp) (way_over n m t temps) rows went)
          ∙ ap (λ rs. behind first (way_over n m t temps) None (pass_results n.pass.budget rs) (later n.pass.budget s.limit temp.limit some m.pass.groups.state.ledger rs)) (sym met)
          ∙ by_budget n.pass.budget (sym budget)
          ∙ ap (λ gs. behind first (way_over n m t temps) None gs (later_of s.limit temp.limit m)) parts in
          subst (λ (p : Played). Leaves p told (ahead rest (later_of s.limit temp.limit m)) s t temp temps) (sym over)
          (Leaves-passed first (way_over n m t temps) told rest (later_of s.limit temp.limit m) s t temp temps spends)
        where
          of_budget : ℕ → Played
          of_budget b =
              behind first (way_over n m t temps) None (pass_results b m.pass.rows)
              (passes_played (length (spilled_rows b m.pass.rows)) b s.limit temp.limit (begun_over s.limit temp.limit m.pass.groups.state.ledger (spilled_rows b m.pass.rows)) (spilled_rows b m.pass.rows))

          by_budget : (b : ℕ) → b ≡ m.pass.budget → of_budget b ≡ of_budget m.pass.budget
          by_budget b is = ap of_budget is
