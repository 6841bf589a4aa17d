-- Lemmas on readers of events: lists in two parts, and the events of one session.
use Rattle.std.proofs.Common.{◌≡◌, ℕ, Bool, true, false, cond, List, [], ◌∷◌, ◌++◌, map, refl, sym, ◌∙◌, ap, inl, inr}
use Rattle.std.specs.Prelude.{◌==◌, ◌≢◌}
use Rattle.std.proofs.lemmas.Bool.{cases_Bool, and_parts, and_from, or_parts, eq-eqb, ne_eqb, both_ways, cond-true, cond-false}
use Rattle.pgs_step.specs.declared.events.Event.{Event}
use Rattle.pgs_step.specs.declared.events.What.{What}
use Rattle.lifetime_laws.specs.Reading.{Reader, allows_all, events_of, is_one_of, seen_after, sessions_of, with_session}

-- what is seen behind two lists is seen behind the second, from what is seen behind the first
pub seen_after-append : {Seen : Type 0} (reader : Reader Seen) (seen : Seen) (es fs : List What) → seen_after reader seen (es ++ fs) ≡ seen_after reader (seen_after reader seen es) fs
seen_after-append reader seen [] fs = refl
seen_after-append reader seen (e ∷ es) fs = seen_after-append reader (reader.next e seen) es fs

-- a list in two parts is allowed where both parts are
pub allows_all-append : {Seen : Type 0} (reader : Reader Seen) (seen : Seen) (es fs : List What) → allows_all reader seen es ≡ true → allows_all reader (seen_after reader seen es) fs ≡ true → allows_all reader seen (es ++ fs) ≡ true
allows_all-append reader seen [] fs h k = k
allows_all-append reader seen (e ∷ es) fs h k =
    let p : (reader.allows e seen ≡ true) × (allows_all reader (reader.next e seen) es ≡ true) = and_parts (reader.allows e seen) (allows_all reader (reader.next e seen) es) h in
    and_from (reader.allows e seen) (allows_all reader (reader.next e seen) (es ++ fs)) p.0 (allows_all-append reader (reader.next e seen) es fs p.1 k)

-- and only there
pub allows_all-front : {Seen : Type 0} (reader : Reader Seen) (seen : Seen) (es fs : List What) → allows_all reader seen (es ++ fs) ≡ true → allows_all reader seen es ≡ true
allows_all-front reader seen [] fs h = refl
allows_all-front reader seen (e ∷ es) fs h =
    let p : (reader.allows e seen ≡ true) × (allows_all reader (reader.next e seen) (es ++ fs) ≡ true) = and_parts (reader.allows e seen) (allows_all reader (reader.next e seen) (es ++ fs)) h in
    and_from (reader.allows e seen) (allows_all reader (reader.next e seen) es) p.0 (allows_all-front reader (reader.next e seen) es fs p.1)

pub allows_all-back : {Seen : Type 0} (reader : Reader Seen) (seen : Seen) (es fs : List What) → allows_all reader seen (es ++ fs) ≡ true → allows_all reader (seen_after reader seen es) fs ≡ true
allows_all-back reader seen [] fs h = h
allows_all-back reader seen (e ∷ es) fs h =
    allows_all-back reader (reader.next e seen) es fs (and_parts (reader.allows e seen) (allows_all reader (reader.next e seen) (es ++ fs)) h).1

-- the events of a session in two lists are those in the first and those in the second
pub events_of-append : (n : ℕ) (es fs : List Event) → events_of n (es ++ fs) ≡ events_of n es ++ events_of n fs
events_of-append n [] fs = refl
events_of-append n (e ∷ es) fs = one (e.session == n) (events_of-append n es fs)
  where
    one : (b : Bool) → events_of n (es ++ fs) ≡ events_of n es ++ events_of n fs → cond b (e.what ∷ events_of n (es ++ fs)) (events_of n (es ++ fs)) ≡ cond b (e.what ∷ events_of n es) (events_of n es) ++ events_of n fs
    one true h = ap (λ whats. e.what ∷ whats) h
    one false h = h

-- events with a session's number are that session's, and no other's
pub events_of-own : (n : ℕ) (whats : List What) → events_of n (map (λ what. record { session = n; what = what }) whats) ≡ whats
events_of-own n [] = refl
events_of-own n (what ∷ whats) =
    cond-true (n == n) (what ∷ events_of n (map (λ what. record { session = n; what = what }) whats)) (events_of n (map (λ what. record { session = n; what = what }) whats)) (eq-eqb n n refl)
    ∙ ap (λ rest. what ∷ rest) (events_of-own n whats)

pub events_of-other : (n m : ℕ) (whats : List What) → m ≢ n → events_of n (map (λ what. record { session = m; what = what }) whats) ≡ []
events_of-other n m [] differ = refl
events_of-other n m (what ∷ whats) differ =
    cond-false (m == n) (what ∷ events_of n (map (λ what. record { session = m; what = what }) whats)) (events_of n (map (λ what. record { session = m; what = what }) whats)) (ne_eqb m n differ)
    ∙ events_of-other n m whats differ

-- where a number is not among those with one more, it isn't that one, nor among the others
abbrev apart : (m n : ℕ) (ns : List ℕ) → is_one_of n (with_session m ns) ≡ false → ((m == n) ≡ false) × (is_one_of n ns ≡ false)
apart m n ns h = elim (cases_Bool (is_one_of m ns)) [
  | inl y ↦
      let k : is_one_of n ns ≡ false = sym (ap (is_one_of n) (cond-true (is_one_of m ns) ns (m ∷ ns) y)) ∙ h in
      (ne_eqb m n (λ e. both_ways (is_one_of n ns) k (sym (ap (λ m. is_one_of m ns) e) ∙ y)), k)
  | inr z ↦ or_parts (m == n) (is_one_of n ns) (sym (ap (is_one_of n) (cond-false (is_one_of m ns) ns (m ∷ ns) z)) ∙ h)
]

-- a session that isn't among those of the events has none
pub no_events : (n : ℕ) (events : List Event) → is_one_of n (sessions_of events) ≡ false → events_of n events ≡ []
no_events n [] h = refl
no_events n (e ∷ es) h =
    let k : ((e.session == n) ≡ false) × (is_one_of n (sessions_of es) ≡ false) = apart e.session n (sessions_of es) h in
    cond-false (e.session == n) (e.what ∷ events_of n es) (events_of n es) k.0 ∙ no_events n es k.1
