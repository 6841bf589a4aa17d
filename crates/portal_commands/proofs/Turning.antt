-- The loops of a turn and of a fetch: what is done and what remains is what is to be done in all.
use Rattle.portal_commands.proofs.Base.{nat_tests, ◌≡◌, ◌≢◌, ℕ, suc, ◌+◌, ◌-◌, ◌*◌, ◌<◌, ◌≤◌, ◌==◌, Bool, true, false, List, [], ◌∷◌, ◌++◌, Option, Some, None, length, refl, sym, ◌∙◌, ap, subst, arith, not, flat_map, option_map_or, append_assoc, flat_map-append}
use Rattle.portal_commands.proofs.Words.{Scan, ScanStep, left, rest, taken, turn, Error, What, coming, OpenPortal, Element, Text, portal_named, after_turn, fallible_part, fetch_steps, turn_steps, StoreState, portals_of, HasRoom, Now, Performed, less_room, room_left, performed_both, performed_more, performed_none, performed_stop, IsFetching, cost_of, step_elements}
use Rattle.portal_commands.proofs.FetchSteps.{found}
use Rattle.portal_commands.proofs.TurnLists.{after, after_more, closing, costs, costs_both, elements_more, gives_end, gives_row, is_bad_step, rest_last, rest_left, turn_costs}

-- a turn that is under way
pub record IsTurning (name : Text) (first : Scan) (begins : Bool) (a b : Now) (Said : List What → Type 0) : Type 0 where
  pub done : List ScanStep
  pub scan : Scan
  pub fetching : IsFetching name scan b
  pub performed : Performed (costs done) (flat_map (step_elements name) done) a b Said None
  pub all : done ++ coming begins scan ≡ turn first
  pub behind : after done first ≡ scan

pub turning_start : (name : Text) (first : Scan) (a : Now) (P : List What → Type 0) → IsFetching name first a → P [] → IsTurning name first true a a P
turning_start name first a P h silent = record { done = []; scan = first; fetching = h; performed = performed_none a P h.between.keeps silent; all = refl; behind = refl }

-- how many steps of the turn remain
abbrev pub steps_left : Bool → Text → StoreState → ℕ
steps_left begins name store = option_map_or (λ (p : OpenPortal). length (coming begins p.scan)) (portal_named name (portals_of store.portals)) 0

pub left_is : (begins : Bool) (name : Text) (scan : Scan) (n : Now) → IsFetching name scan n → steps_left begins name n.store ≡ length (coming begins scan)
left_is begins name scan n h = grind (arith, nat_tests, found name scan (portal_named name (portals_of n.store.portals)) h.is, n.store.portals, h.is)

module _ (name : Text) (first : Scan) (begins : Bool) (a b c : Now) (P Q : List What → Type 0) (t : IsTurning name first begins a b P) (s : ScanStep) (is : coming begins t.scan ≡ s ∷ rest s (taken s t.scan))
    (scans : Performed 0 (Element.Scans name s ∷ []) b c Q None) where
  whole : t.done ++ (s ∷ rest s (taken s t.scan)) ≡ turn first
  whole = ap (λ (ss : List ScanStep). t.done ++ ss) (sym is) ∙ t.all

  cheap : costs t.done + cost_of s ≤ 3
  cheap = omega (arith, turn_costs first, ap costs whole, costs_both t.done (s ∷ rest s (taken s t.scan)))

  -- there is room for what it needs besides
  pub step_room : HasRoom 3 a → HasRoom (cost_of s) c
  step_room room = room_left 0 (cost_of s) b c (room_left (costs t.done) (0 + cost_of s) a b (less_room (costs t.done + (0 + cost_of s)) 3 a (omega (arith, cheap)) room) t.performed.grows) scans.grows

  module _ (d : Now) (R S T : List What → Type 0) (r : Option Error) (served : Performed (cost_of s) (fallible_part name s) c d R r) (near : (us vs : List What) → Q us → R vs → S (us ++ vs)) (far : (us vs : List What) → P us → S vs → T (us ++ vs)) where
    stepped : Performed (costs t.done + cost_of s) (flat_map (step_elements name) (t.done ++ (s ∷ []))) a d T r
    stepped =
        subst (λ (es : List Element). Performed (costs t.done + cost_of s) es a d T r) (sym (elements_more name t.done s))
        (performed_both (costs t.done) (cost_of s) (flat_map (step_elements name) t.done) (step_elements name s) a b d P S T r t.performed
        (performed_more (0 + cost_of s) (cost_of s) (step_elements name s) b d S r (omega arith) (performed_both 0 (cost_of s) (Element.Scans name s ∷ []) (fallible_part name s) b c d Q R S r scans served near)) far)

    -- where it was refused, so was the turn
    pub turning_refused : (e : Error) → r ≡ Some e → Performed 3 (flat_map (step_elements name) (turn first)) a d T (Some e)
    turning_refused e told =
        let stop : Performed (costs t.done + cost_of s) (flat_map (step_elements name) (t.done ++ (s ∷ [])) ++ flat_map (step_elements name) (rest s (taken s t.scan))) a d T (Some e) =
        performed_stop (costs t.done + cost_of s) (flat_map (step_elements name) (t.done ++ (s ∷ []))) (flat_map (step_elements name) (rest s (taken s t.scan))) a d T e (subst (λ (o : Option Error). Performed (costs t.done + cost_of s) (flat_map (step_elements name) (t.done ++ (s ∷ []))) a d T o) told stepped) in
        let are : flat_map (step_elements name) (t.done ++ (s ∷ [])) ++ flat_map (step_elements name) (rest s (taken s t.scan)) ≡ flat_map (step_elements name) (turn first) =
        sym (flat_map-append (step_elements name) (t.done ++ (s ∷ [])) (rest s (taken s t.scan))) ∙ ap (flat_map (step_elements name)) (append_assoc t.done (s ∷ []) (rest s (taken s t.scan)) ∙ whole) in
        performed_more (costs t.done + cost_of s) 3 _ a d T (Some e) cheap (subst (λ (es : List Element). Performed (costs t.done + cost_of s) es a d T (Some e)) are stop)

    -- where it wasn't, the turn goes on
    pub turning_on : r ≡ None → closing s ≡ 0 → is_bad_step s ≡ false → IsFetching name (taken s t.scan) d → IsTurning name first false a d T
    turning_on passed unclosed good fetching = record {
      done = t.done ++ (s ∷ []);
      scan = taken s t.scan;
      fetching = fetching;
      performed = grind (arith, nat_tests, costs_both t.done (s ∷ []), stepped);
      all = append_assoc t.done (s ∷ []) (left (taken s t.scan)) ∙ ap (λ (ss : List ScanStep). t.done ++ (s ∷ ss)) (sym (rest_left s (taken s t.scan) unclosed good)) ∙ whole;
      behind = after_more t.done s first ∙ ap (taken s) t.behind;
    }

    -- or ends
    last : closing s ≢ 0 → turn first ≡ t.done ++ (s ∷ [])
    last closed = sym whole ∙ ap (λ (ss : List ScanStep). t.done ++ (s ∷ ss)) (rest_last s (taken s t.scan) closed)

    pub turning_ended : r ≡ None → closing s ≢ 0 → Performed 3 (flat_map (step_elements name) (turn first)) a d T None
    turning_ended passed closed =
        performed_more (costs t.done + cost_of s) 3 _ a d T None cheap
        (subst (λ (ss : List ScanStep). Performed (costs t.done + cost_of s) (flat_map (step_elements name) ss) a d T None) (sym (last closed))
        (subst (λ (o : Option Error). Performed (costs t.done + cost_of s) (flat_map (step_elements name) (t.done ++ (s ∷ []))) a d T o) passed stepped))

    pub ended_scan : closing s ≢ 0 → IsFetching name (taken s t.scan) d → IsFetching name (after_turn first) d
    ended_scan closed fetching = grind (arith, nat_tests, after, last closed, after_more t.done s first, taken s)

    pub ended_row : closing s ≡ 1 → true ≡ not (first.at == first.rows)
    ended_row e = ap not (sym (gives_row first t.done s (last (λ z. omega (arith, z, e))) e))

    pub ended_end : closing s ≡ 2 → false ≡ not (first.at == first.rows)
    ended_end e = ap not (sym (gives_end first t.done s (last (λ z. omega (arith, z, e))) e))

  -- fewer steps remain
  pub fewer_left : closing s ≡ 0 → is_bad_step s ≡ false → (d : Now) → IsFetching name (taken s t.scan) d → steps_left false name d.store < steps_left begins name b.store
  fewer_left unclosed good d fetching = grind (arith, nat_tests, left_is false name (taken s t.scan) d fetching, taken s t.scan, left_is begins name t.scan b t.fetching, rest_left s (taken s t.scan) unclosed good)

-- a fetch that is under way
pub record IsRunning (name : Text) (count rows : ℕ) (first : Scan) (a b : Now) (Said : List What → Type 0) : Type 0 where
  pub done : List Element
  pub scan : Scan
  pub fetching : IsFetching name scan b
  pub performed : Performed (3 * rows) done a b Said None
  pub all : done ++ fetch_steps name (count - rows) scan rows ≡ fetch_steps name count first 0
  pub within : rows ≤ count

pub running_start : (name : Text) (count : ℕ) (first : Scan) (a : Now) (P : List What → Type 0) → IsFetching name first a → P [] → IsRunning name count 0 first a a P
running_start name count first a P h silent = grind (arith, nat_tests, performed_none a P h.between.keeps silent, h.between.keeps)

by_row : (name : Text) (n rows : ℕ) (scan : Scan) (b : Bool) → (scan.at == scan.rows) ≡ b
    → fetch_steps name (suc n) scan rows ≡ turn_steps name scan ++ (elim b as (λ _. List Element) [ true ↦ Element.Says (What.Fetched name rows) ∷ [] | false ↦ fetch_steps name n (after_turn scan) (rows + 1) ])
by_row name n rows scan b e = grind (arith, nat_tests)

negated : (b c : Bool) → c ≡ not b → b ≡ not c
negated x0 c e = grind (arith, nat_tests)

module _ (name : Text) (count rows : ℕ) (first : Scan) (a b c : Now) (P Q R : List What → Type 0) (t : IsRunning name count rows first a b P) (more : rows < count) (joins : (us vs : List What) → P us → Q vs → R (us ++ vs)) where
  less : count - rows ≡ suc (count - (rows + 1))
  less = omega (arith, more)

  pub turn_room : HasRoom (3 * count) a → HasRoom 3 b
  turn_room room = room_left (3 * rows) 3 a b (less_room (3 * rows + 3) (3 * count) a (omega (arith, more)) room) t.performed.grows

  turned : (r : Option Error) → Performed 3 (turn_steps name t.scan) b c Q r → Performed (3 * rows + 3) (t.done ++ turn_steps name t.scan) a c R r
  turned r x = performed_both (3 * rows) 3 t.done (turn_steps name t.scan) a b c P Q R r t.performed x joins

  split : (e : Bool) → (t.scan.at == t.scan.rows) ≡ e → t.done ++ fetch_steps name (count - rows) t.scan rows
      ≡ (t.done ++ turn_steps name t.scan) ++ (elim e as (λ _. List Element) [ true ↦ Element.Says (What.Fetched name rows) ∷ [] | false ↦ fetch_steps name (count - (rows + 1)) (after_turn t.scan) (rows + 1) ])
  split e is =
      ap (λ (n : ℕ). t.done ++ fetch_steps name n t.scan rows) less
      ∙ ap (λ (es : List Element). t.done ++ es) (by_row name (count - (rows + 1)) rows t.scan e is)
      ∙ sym (append_assoc t.done (turn_steps name t.scan) (elim e as (λ _. List Element) [ true ↦ Element.Says (What.Fetched name rows) ∷ [] | false ↦ fetch_steps name (count - (rows + 1)) (after_turn t.scan) (rows + 1) ]))

  -- a row was given
  pub running_on : Performed 3 (turn_steps name t.scan) b c Q None → true ≡ not (t.scan.at == t.scan.rows) → IsFetching name (after_turn t.scan) c → IsRunning name count (rows + 1) first a c R
  running_on x row fetching = record {
    done = t.done ++ turn_steps name t.scan;
    scan = after_turn t.scan;
    fetching = fetching;
    performed = subst (λ (n : ℕ). Performed n (t.done ++ turn_steps name t.scan) a c R None) (omega arith) (turned None x);
    all = sym (split false (negated (t.scan.at == t.scan.rows) true row)) ∙ t.all;
    within = omega (arith, more);
  }

  -- the scan was at its end
  pub running_ended : Performed 3 (turn_steps name t.scan) b c Q None → false ≡ not (t.scan.at == t.scan.rows)
      → (done : List Element) × (fetch_steps name count first 0 ≡ done ++ (Element.Says (What.Fetched name rows) ∷ [])) × Performed (3 * count) done a c R None
  running_ended x row = (
    t.done ++ turn_steps name t.scan,
    sym t.all ∙ split true (negated (t.scan.at == t.scan.rows) false row),
    performed_more (3 * rows + 3) (3 * count) (t.done ++ turn_steps name t.scan) a c R None (omega (arith, more)) (turned None x),
  )

  -- a turn was refused
  pub running_refused : (e : Error) → Performed 3 (turn_steps name t.scan) b c Q (Some e) → Performed (3 * count) (fetch_steps name count first 0) a c R (Some e)
  running_refused e x =
      performed_more (3 * rows + 3) (3 * count) (fetch_steps name count first 0) a c R (Some e) (omega (arith, more))
      (subst (λ (es : List Element). Performed (3 * rows + 3) es a c R (Some e)) (sym (split (t.scan.at == t.scan.rows) refl) ∙ t.all)
      (performed_stop (3 * rows + 3) (t.done ++ turn_steps name t.scan) _ a c R e (turned (Some e) x)))

-- all rows that were asked for were given
pub running_done : (name : Text) (count rows : ℕ) (first : Scan) (a b : Now) (P : List What → Type 0) → IsRunning name count rows first a b P → count ≤ rows
    → (done : List Element) × (fetch_steps name count first 0 ≡ done ++ (Element.Says (What.Fetched name rows) ∷ [])) × Performed (3 * count) done a b P None
running_done name count rows first a b P t enough = grind (arith, nat_tests, t.done, t.all, t.scan, performed_more (3 * rows) (3 * count) t.done a b P None (omega (arith, t.within)) t.performed, t.within, t.performed)
