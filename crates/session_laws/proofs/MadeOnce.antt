-- A reader that allows what another one allows, by what both have seen.
use Rattle.session_laws.proofs.Words.{◌≡◌, true, List, [], ◌∷◌, refl, ℕ, not, sym, ap, ◌∙◌, ◌≢◌, ◌+◌, ◌-◌, ◌<◌, ◌≤◌, Bool, false, Option, Some, nat_le, inl, inr, arith, ◌&&◌, ◌==◌, and_from, and_parts, both_ways, cases_eq, eqb-false, eqb-true, false_from_ne_true, le-leb, nat_tests, Parents, first_parents, shedding, deletes, discards, is_first_context, makes_context, makes_owner, nothing, one_where}
use Rattle.session_laws.proofs.Scenes.{What, Scene, KindTable, exited}
use Rattle.session_laws.proofs.Rules.{Reader, allows_all, seen_after, count, is_there-placed_other, is_there-without_other, is_there-without_same, IsMadeOnce, Node as Kept, has_child, is_there, placed_where}
use Rattle.session_laws.proofs.Lives.{IsLife, IsRead, Reads}
use Rattle.session_laws.proofs.Parents.{FitsContexts, FitsOwners, Growth, growing_contexts, growing_owners, is_leaf}
use Rattle.session_laws.proofs.ParentsLife.{HasContexts, KeepsContexts, HasOwners, KeepsOwners, contexts_life, opening_contexts, opening_owners, owners_life}

module _ {A B : Type 0} (one : Reader A) (two : Reader B) where
  -- where what both have seen is related, the second allows each event that the first allows, and so it is behind
  pub record IsFollowed (Rel : A → B → Type 0) : Type 0 where
    pub allowed : (event : What) (a : A) (b : B) → Rel a b → one.allows event a ≡ true → two.allows event b ≡ true
    pub next : (event : What) (a : A) (b : B) → Rel a b → one.allows event a ≡ true → Rel (one.next event a) (two.next event b)

  pub record HasFollowed (Rel : A → B → Type 0) (a : A) (b : B) (events : List What) : Type 0 where
    pub allowed : allows_all two b events ≡ true
    pub related : Rel (seen_after one a events) (seen_after two b events)

  pub followed : {Rel : A → B → Type 0} → IsFollowed Rel → (events : List What) (a : A) (b : B) → Rel a b → allows_all one a events ≡ true → HasFollowed Rel a b events
  followed f [] a b r h = record { allowed = refl; related = r }
  followed {Rel} f (event ∷ events) a b r h =
      let p : (one.allows event a ≡ true) × (allows_all one (one.next event a) events ≡ true) = and_parts (one.allows event a) (allows_all one (one.next event a) events) h in
      let k : HasFollowed Rel (one.next event a) (two.next event b) events = followed f events (one.next event a) (two.next event b) (f.next event a b r p.0) p.1 in
      record { allowed = and_from (two.allows event b) (allows_all two (two.next event b) events) (f.allowed event a b r p.0) k.allowed; related = k.related }

  -- what the second has seen fits where the first one has seen something that fits, and is related to it
  pub record FitsBoth (Fits : A → Scene → Type 0) (Rel : A → B → Type 0) (b : B) (s : Scene) : Type 0 where
    pub seen : A
    pub fits : Fits seen s
    pub related : Rel seen b

-- Two readers at once.
pub record Pair (A B : Type 0) : Type 0 where
  pub first : A
  pub second : B

module _ {A B : Type 0} (one : Reader A) (two : Reader B) where
  abbrev pub paired : Reader (Pair A B)
  paired = record {
    next = λ event seen. record { first = one.next event seen.first; second = two.next event seen.second };
    allows = λ event seen. one.allows event seen.first && two.allows event seen.second;
  }

  pub record IsPaired (seen : Pair A B) (events : List What) : Type 0 where
    pub allowed : allows_all paired seen events ≡ true
    pub first : (seen_after paired seen events).first ≡ seen_after one seen.first events
    pub second : (seen_after paired seen events).second ≡ seen_after two seen.second events

  pub pair_reads : (events : List What) (seen : Pair A B) → allows_all one seen.first events ≡ true → allows_all two seen.second events ≡ true → IsPaired seen events
  pair_reads [] seen h k = record { allowed = refl; first = refl; second = refl }
  pair_reads (event ∷ events) seen h k = grind (arith, nat_tests, pair_reads events (paired.next event seen), and_parts, and_from)

  pub record FitsPair (F : A → Scene → Type 0) (G : B → Scene → Type 0) (seen : Pair A B) (s : Scene) : Type 0 where
    pub first : F seen.first s
    pub second : G seen.second s

-- The replayed parents are those of the session's trees between any two elements, and what goes has no child.

-- the replayed parents of contexts and of owners are those of the session's trees
pub record FitsParents (parents : Parents) (s : Scene) : Type 0 where
  pub contexts : FitsContexts parents.contexts s
  pub owners : FitsOwners parents.owners s

-- the same nodes
pub record AreSame (seen : Pair Growth Growth) (parents : Parents) : Type 0 where
  pub contexts : seen.first.nodes ≡ parents.contexts
  pub owners : seen.second.nodes ≡ parents.owners

pub sheds : IsFollowed (paired growing_contexts growing_owners) shedding AreSame
sheds = grind (arith, nat_tests, is_leaf, and_parts)

-- what is read of events that keep both trees
record AreShed (parents : Parents) (g k : Growth) (events : List What) : Type 0 where
  allowed : allows_all shedding parents events ≡ true
  contexts : (seen_after growing_contexts g events).nodes ≡ (seen_after shedding parents events).contexts
  owners : (seen_after growing_owners k events).nodes ≡ (seen_after shedding parents events).owners

shed_events : (events : List What) (parents : Parents) (contexts owners : Growth) → contexts.nodes ≡ parents.contexts → owners.nodes ≡ parents.owners → allows_all growing_contexts contexts events ≡ true → allows_all growing_owners owners events ≡ true
    → AreShed parents contexts owners events
shed_events events parents contexts owners c o h k =
    let seen : Pair Growth Growth = record { first = contexts; second = owners } in
    let p : IsPaired growing_contexts growing_owners seen events = pair_reads growing_contexts growing_owners events seen h k in
    let f : HasFollowed (paired growing_contexts growing_owners) shedding AreSame seen parents events = followed (paired growing_contexts growing_owners) shedding sheds events seen parents (record { contexts = c; owners = o }) p.allowed in
    grind (arith, nat_tests)

-- Where a part of what a session does keeps the replayed contexts and the replayed owners, it keeps the replayed parents, and lets nothing go that has a child.
pub shed_reads : {s t : Scene} {events : List What} → KeepsContexts s t events → KeepsOwners s t events → Reads shedding FitsParents s t events
shed_reads {s} {t} {events} c o = record {
  so = λ parents h.
      let contexts : Growth = record { nodes = parents.contexts; next = s.session.next_context } in
      let owners : Growth = record { nodes = parents.owners; next = s.session.next_owner } in
      let x : IsRead growing_contexts HasContexts contexts t events = c.so contexts (record { fits = h.contexts; next = refl }) in
      let y : IsRead growing_owners HasOwners owners t events = o.so owners (record { fits = h.owners; next = refl }) in
      let w : AreShed parents contexts owners events = shed_events events parents contexts owners refl refl x.allowed y.allowed in
      record {
        allowed = w.allowed;
        fits = grind (arith, nat_tests);
      };
}

-- no context and no owner is left
pub record NoneLeft (parents : Parents) : Type 0 where
  pub contexts : parents.contexts ≡ []
  pub owners : parents.owners ≡ []

-- In the life of a session what goes has no child at that time, the replayed parents are those of its trees, and in the end none is left.
pub shedding_life : (kinds : KindTable) → IsLife kinds shedding FitsParents first_parents NoneLeft
shedding_life kinds =
    let c : IsLife kinds growing_contexts HasContexts opening_contexts (λ growth. growth.nodes ≡ []) = contexts_life kinds in
    let o : IsLife kinds growing_owners HasOwners opening_owners (λ growth. growth.nodes ≡ []) = owners_life kinds in
    record {
      opens = λ around same. record { contexts = (c.opens around same).fits; owners = (o.opens around same).fits };
      elsewhere = λ parents session a b same descriptors h. record { contexts = h.contexts; owners = h.owners };
      error = λ error s. shed_reads (c.error error s) (o.error error s);
      turns = λ w line m stands. shed_reads (c.turns w line m stands) (o.turns w line m stands);
      exits = λ s stands parents h.
          let contexts : Growth = record { nodes = parents.contexts; next = s.session.next_context } in
          let owners : Growth = record { nodes = parents.owners; next = s.session.next_owner } in
          let x : (allows_all growing_contexts contexts (exited s).events ≡ true) × ((seen_after growing_contexts contexts (exited s).events).nodes ≡ []) = c.exits s stands contexts (record { fits = h.contexts; next = refl }) in
          let y : (allows_all growing_owners owners (exited s).events ≡ true) × ((seen_after growing_owners owners (exited s).events).nodes ≡ []) = o.exits s stands owners (record { fits = h.owners; next = refl }) in
          let w : AreShed parents contexts owners (exited s).events = shed_events (exited s).events parents contexts owners refl refl x.0 y.0 in
          (w.allowed, record { contexts = sym w.contexts ∙ x.1; owners = sym w.owners ∙ y.1 });
    }

-- Nothing is made twice, and nothing goes that was not made, nor again.

-- which numbers are there behind a node that is placed, that moves or that goes
pub there_placed : (b : Bool) (m n : ℕ) (parent : Option ℕ) (nodes : List Kept) → m ≢ n → is_there m (placed_where b n parent nodes) ≡ is_there m nodes
there_placed true m n parent nodes ne = is_there-placed_other m n parent nodes ne
there_placed false m n parent nodes ne = refl

pub there_moved : (m n p : ℕ) (nodes : List Kept) → is_there m (placed_where (is_there n nodes && is_there p nodes) n (Some p) nodes) ≡ true → is_there m nodes ≡ true
there_moved m n p nodes h = go (is_there n nodes && is_there p nodes) refl h
  where
    go : (b : Bool) → (is_there n nodes && is_there p nodes) ≡ b → is_there m (placed_where b n (Some p) nodes) ≡ true → is_there m nodes ≡ true
    go false e h = h
    go true e h =
        let q : (is_there n nodes ≡ true) × (is_there p nodes ≡ true) = and_parts (is_there n nodes) (is_there p nodes) e in
        elim (cases_eq m n) [
          | inl same ↦ ap (λ (x : ℕ). is_there x nodes) same ∙ q.0
          | inr ne ↦ sym (is_there-placed_other m n (Some p) nodes ne) ∙ h
        ]

pub leaf_there : (n : ℕ) (nodes : List Kept) → is_leaf n nodes ≡ true → is_there n nodes ≡ true
leaf_there n nodes h = let p : (is_there n nodes ≡ true) × (not (has_child n nodes) ≡ true) = and_parts (is_there n nodes) (not (has_child n nodes)) h in p.0

-- counts of one number
pub one_allowed : (m x n : ℕ) → (m ≡ x → 1 ≤ n) → nat_le (one_where (m == x)) n ≡ true
one_allowed m x n h = grind (arith, nat_tests, le-leb, eqb-true)

pub one_less : (m x n : ℕ) → m ≢ x → 1 ≤ n → 1 ≤ (n + 0) - one_where (m == x)
one_less m x n ne h = grind (arith, nat_tests, eqb-true)

pub one_more : (m x n : ℕ) → (m ≢ x → 1 ≤ n) → 1 ≤ (n + one_where (m == x)) - 0
one_more m x n h = grind (arith, nat_tests, eqb-false)

pub still_one : (n : ℕ) → 1 ≤ n → 1 ≤ (n + 0) - 0
still_one n h = omega (arith, h)

-- a number that isn't given yet may be given once
pub record IsToMake (m least : ℕ) (growth : Growth) (n : ℕ) : Type 0 where
  pub least_is : least ≤ growth.next
  pub may : growth.next ≤ m → 1 ≤ n

contexts_made : (c : ℕ) → IsFollowed growing_contexts (count nothing (makes_context c)) (IsToMake c 6)
contexts_made c = grind (arith, nat_tests, one_allowed, eqb-true, one_less, still_one)

owners_made : (o : ℕ) → IsFollowed growing_owners (count nothing (makes_owner o)) (IsToMake o 1)
owners_made o = grind (arith, nat_tests, one_allowed, eqb-true, one_less, still_one)

-- what is there may go
pub record IsToGo (m : ℕ) (growth : Growth) (n : ℕ) : Type 0 where
  pub may : is_there m growth.nodes ≡ true → 1 ≤ n

contexts_go : (c : ℕ) → IsFollowed growing_contexts (count (makes_context c) (deletes c)) (IsToGo c)
contexts_go c = grind (arith, nat_tests, one_allowed, leaf_there, one_more, still_one, both_ways, is_there-without_same, one_less, is_there-without_other)

owners_go : (o : ℕ) → IsFollowed growing_owners (count (makes_owner o) (discards o)) (IsToGo o)
owners_go o = grind (arith, nat_tests, one_allowed, leaf_there, one_more, is_there-placed_other, still_one, both_ways, is_there-without_same, one_less, is_there-without_other)

-- the contexts that a session begins with
first_to_go : (c : ℕ) → is_there c opening_contexts.nodes ≡ true → 1 ≤ one_where (is_first_context c)
first_to_go c h = let e : is_first_context c ≡ true = h in rw e (omega arith)

pub first_small : (c : ℕ) → is_first_context c ≡ true → c < 6
first_small c h = grind (arith, nat_tests)

first_to_make : (c : ℕ) → 6 ≤ c → 1 ≤ one_where (not (is_first_context c))
first_to_make c h = let e : is_first_context c ≡ false = false_from_ne_true (is_first_context c) (λ t. omega (arith, h, first_small c t)) in rw e (omega arith)

-- Where contexts and owners grow as they do in a session, each is made at most once, and goes at most once, where it was made.
pub made_once_of : (events : List What) → allows_all growing_contexts opening_contexts events ≡ true → allows_all growing_owners opening_owners events ≡ true → IsMadeOnce events
made_once_of events h k = record {
  contexts = λ c. (followed growing_contexts (count nothing (makes_context c)) (contexts_made c) events opening_contexts (one_where (not (is_first_context c))) (record { least_is = omega arith; may = first_to_make c }) h).allowed;
  contexts_go = λ c. (followed growing_contexts (count (makes_context c) (deletes c)) (contexts_go c) events opening_contexts (one_where (is_first_context c)) (record { may = first_to_go c }) h).allowed;
  owners = λ o. (followed growing_owners (count nothing (makes_owner o)) (owners_made o) events opening_owners 1 (record { least_is = omega arith; may = λ l. omega arith }) k).allowed;
  owners_go = λ o. (followed growing_owners (count (makes_owner o) (discards o)) (owners_go o) events opening_owners 0 (record { may = λ t. absurd (cc t) }) k).allowed;
}
