-- What a call of `next` leaves, from its clauses.
use Rattle.std.proofs.Common.{◌≡◌, ◌≢◌, ℕ, ◌+◌, ◌<◌, ◌≤◌, ◌⊎◌, inl, inr, List, [], ◌∷◌, ◌++◌, length, map, drop, Option, Some, None, Result, Ok, Err, IfOk, IfErr, IfSome, IfNone, OnOk, OnErr, refl, sym, ap, ◌∙◌, subst, arith}
use Rattle.std.specs.Prelude.{slice_get}
use Rattle.addr_space.specs.Space.{Space}
use Rattle.temp_store.specs.Temp.{Temp}
use Rattle.agg_rules.specs.declared.NodeError.{NodeError}
use Rattle.agg_rules.specs.Rows.{results_of, result_of}
use Rattle.agg_rules.specs.Passes.{kept_groups, pass_results, spilled_rows}
use Rattle.agg_rules.proofs.Given.{results_of-pass}
use Rattle.exec_agg.specs.Nodes.{Node, Holds, Goes, Stops, IsTurn, next_pass, way_over}
use Rattle.exec_agg.proofs.Places.{at_place, none_kept}
use Rattle.agg_pass.proofs.Spending.{kept-none}
use Rattle.std.proofs.lemmas.List.{length-map}
use Rattle.bump_ctx.specs.Ledger.{BumpLedger}
use Rattle.agg_rules.specs.declared.Row.{Row}
use Rattle.held_groups.specs.Held.{footprint}
use Rattle.pgnodes.specs.Plays.{Played, idle, begun_over, passes_played}
use Rattle.pgnodes.specs.Turns.{Alone, Leaves, ahead, later_of, left_of}
use Rattle.pgnodes.proofs.Turns.{turn_or_not, nothing_left, next_here, none_here, gave_here, ended_here, turn_refused, turn_gave}

-- the first of some that aren't none
first_of : {X : Type 0} (x : X) (rest here more : List X) → here ++ more ≡ x ∷ rest → (here ≡ [] → ⊥) → here ≡ x ∷ drop 1 here
first_of x rest [] more is some = absurd (some refl)
first_of x rest (y ∷ here) more is some = ap (λ z. z ∷ here) (let same : y ≡ x = cc in same)

abbrev pub Answer : Type 0
Answer = Result (Option (ℕ × ℕ × ℕ)) NodeError

-- what the node knows of itself before the call
pub record Knows (n : Node) : Type 0 where
  pub some : 0 < n.pass.budget
  pub no_file : n.pass.file ≡ None → spilled_rows n.pass.budget n.pass.rows ≡ []
  pub left : drop n.given (results_of n.rows) ≡ drop n.place (pass_results n.pass.budget n.pass.rows) ++ results_of (spilled_rows n.pass.budget n.pass.rows)
  pub total : (footprint n.pass.groups).total ≡ n.pass.groups.state.ledger.total

-- what the call says of the pass at hand and of the next one
pub record Says (n m : Node) (s t : Space) (temp temps : Temp) (answer : Answer) : Type 0 where
  pub some : IfOk answer (λ it. IfSome it (λ group. (slice_get (results_of n.rows) n.given ≡ Some group) × (m.given ≡ n.given + 1)))
  pub none : IfOk answer (λ it. IfNone it ((n.given ≡ length (results_of n.rows)) × (m.given ≡ n.given)))
  pub rows : m.rows ≡ n.rows
  pub budget : m.pass.budget ≡ n.pass.budget
  pub err_turn : OnErr answer (IsTurn n)
  pub refused : IfErr answer (λ e. (e ≡ NodeError.Memory) ⊎ Stops n m s t temp temps e)
  pub turn : length (kept_groups n.pass.budget n.pass.rows) ≤ n.place → spilled_rows n.pass.budget n.pass.rows ≢ [] → IsTurn n
  pub place : IfOk answer (λ it. IfSome it (λ _. (IsTurn n → m.place ≡ 1) × ((IsTurn n → ⊥) → m.place ≡ n.place + 1)))
  pub met : IsTurn n → OnOk answer (m.pass.rows ≡ spilled_rows n.pass.budget n.pass.rows)
  pub went : IsTurn n → OnOk answer (next_pass n s temp ≡ Ok (way_over n m t temps))
  pub goes : IsTurn n → Goes n m s t temp temps
  pub stays : (IsTurn n → ⊥) → (t ≡ s) × (temps ≡ temp) × (m.pass ≡ n.pass)

module _ (n m : Node) (s t : Space) (temp temps : Temp) (alone : Alone n s temp) (holds : Holds n s temp) (knows : Knows n) where
  abbrev first : Played
  first = left_of s.limit temp.limit n

  abbrev last : Played
  last = left_of t.limit temps.limit m

  -- the limits stay
  same_left : t.limit ≡ s.limit → temps.limit ≡ temp.limit → left_of s.limit temp.limit m ≡ last
  same_left limit room = ap (λ k. left_of k temp.limit m) (sym limit) ∙ ap (λ k. left_of t.limit k m) (sym room)

  none_here_of : IsTurn n → drop n.place (pass_results n.pass.budget n.pass.rows) ≡ []
  none_here_of turn = none_here n knows.left turn.done

  begins : IsTurn n → Goes n m s t temp temps → (told rest : List (ℕ × ℕ × ℕ)) → next_pass n s temp ≡ Ok (way_over n m t temps) → m.pass.rows ≡ spilled_rows n.pass.budget n.pass.rows → m.pass.budget ≡ n.pass.budget
      → pass_results m.pass.budget m.pass.rows ≡ told ++ rest → Leaves first told (ahead rest (later_of s.limit temp.limit m)) s t temp temps
  begins turn goes = turn_gave n m s t temp temps knows.some alone knows.total holds.spilled knows.no_file (none_here_of turn) goes

  -- a group was given
  pub took_some : (answer : Answer) → Says n m s t temp temps answer → t.limit ≡ s.limit → temps.limit ≡ temp.limit → IfOk answer (λ it. IfSome it (λ group. Leaves first (group ∷ []) last s t temp temps))
  took_some (Err e) says limit room = tt
  took_some (Ok None) says limit room = tt
  took_some (Ok (Some group)) says limit room = subst (λ (q : Played). Leaves first (group ∷ []) q s t temp temps) (same_left limit room) (by_turn (turn_or_not n))
    where
      by_turn : IsTurn n ⊎ (IsTurn n → ⊥) → Leaves first (group ∷ []) (left_of s.limit temp.limit m) s t temp temps
      by_turn (inr not) =
          let stays = says.stays not in
          gave_here n m s t temp temps (says.place.1 not) stays.2 stays.0 stays.1 group (next_here n knows.left group says.some.0 (λ done more. not (says.turn done more)))
      by_turn (inl turn) =
          let spilled_is : results_of (spilled_rows n.pass.budget n.pass.rows) ≡ group ∷ drop (n.given + 1) (results_of n.rows) =
          ap (λ gs. gs ++ results_of (spilled_rows n.pass.budget n.pass.rows)) (sym (none_here_of turn)) ∙ sym knows.left ∙ at_place (results_of n.rows) n.given group says.some.0 in
          let here : pass_results m.pass.budget m.pass.rows ≡ group ∷ drop 1 (pass_results m.pass.budget m.pass.rows) =
          first_of group (drop (n.given + 1) (results_of n.rows)) (pass_results m.pass.budget m.pass.rows) (results_of (spilled_rows m.pass.budget m.pass.rows))
          (sym (results_of-pass m.pass.budget m.pass.rows) ∙ ap results_of (says.met turn) ∙ spilled_is)
          (λ none. (
          let no_rows : spilled_rows n.pass.budget n.pass.rows ≡ [] =
          sym (says.met turn) ∙ none_kept m.pass.budget m.pass.rows (omega (arith, knows.some, says.budget)) (omega (arith, length-map (kept_groups m.pass.budget m.pass.rows) (result_of m.pass.rows), ap (λ (gs : List (ℕ × ℕ × ℕ)). length gs) none)) in
          let clash : [] ≡ group ∷ drop (n.given + 1) (results_of n.rows) = ap results_of (sym no_rows) ∙ spilled_is in
          absurd (cc))) in
          subst (λ (k : ℕ). Leaves first (group ∷ []) (ahead (drop k (pass_results m.pass.budget m.pass.rows)) (later_of s.limit temp.limit m)) s t temp temps) (sym (says.place.0 turn))
          (begins turn (says.goes turn) (group ∷ []) (drop 1 (pass_results m.pass.budget m.pass.rows)) (says.went turn) (says.met turn) says.budget here)

  -- all were given
  pub took_none : (answer : Answer) → Says n m s t temp temps answer → IfOk answer (λ it. IfNone it (Leaves first [] idle s t temp temps))
  took_none (Err e) says = tt
  took_none (Ok (Some group)) says = tt
  took_none (Ok None) says = by_turn (turn_or_not n)
    where
      nothing : (drop n.place (pass_results n.pass.budget n.pass.rows) ≡ []) × (spilled_rows n.pass.budget n.pass.rows ≡ [])
      nothing = nothing_left n knows.left says.none.0

      by_turn : IsTurn n ⊎ (IsTurn n → ⊥) → Leaves first [] idle s t temp temps
      by_turn (inr not) =
          let stays = says.stays not in
          ended_here n m s t temp temps nothing.0 nothing.1 stays.0 stays.1
      by_turn (inl turn) =
          let no_rows : m.pass.rows ≡ [] = says.met turn ∙ nothing.1 in
          let no_groups : pass_results m.pass.budget m.pass.rows ≡ [] =
          ap (pass_results m.pass.budget) no_rows ∙ ap (map (result_of [])) (kept-none m.pass.budget) in
          let over : ahead (pass_results m.pass.budget m.pass.rows) (later_of s.limit temp.limit m) ≡ idle =
          ap (λ gs. ahead gs (later_of s.limit temp.limit m)) no_groups ∙ ap (later_over m.pass.budget m.pass.groups.state.ledger) no_rows in
          subst (λ (q : Played). Leaves first [] q s t temp temps) over
          (begins turn (says.goes turn) [] (pass_results m.pass.budget m.pass.rows) (says.went turn) (says.met turn) says.budget refl)
        where
          later_over : ℕ → BumpLedger → List Row → Played
          later_over budget ledger rows = passes_played (length (spilled_rows budget rows)) budget s.limit temp.limit (begun_over s.limit temp.limit ledger (spilled_rows budget rows)) (spilled_rows budget rows)

  -- the next pass was refused
  pub took_error : (answer : Answer) → Says n m s t temp temps answer → IfErr answer (λ e. (e ≡ NodeError.Memory) ⊎ Leaves first [] (record idle { refused = Some e }) s t temp temps)
  took_error (Ok it) says = tt
  took_error (Err e) says =
      elim says.refused [
        | inl memory ↦ inl memory
        | inr stops ↦ inr (turn_refused n m s t temp temps knows.some alone knows.total holds.spilled knows.no_file (none_here_of says.err_turn) (says.goes says.err_turn) e stops)
      ]
