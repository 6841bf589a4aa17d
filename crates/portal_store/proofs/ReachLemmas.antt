-- How deep portals reach, as they come, change and go.
use Rattle.portal_store.proofs.Base.{nat_tests, inl, inr, ◌≡◌, ℕ, zero, suc, ◌<◌, ◌≤◌, ◌+◌, List, ◌∷◌, length, map, drop, slice_index_or, slice_set, remove, All, sym, subst, ◌∙◌, arith, cases_eq, cases_lt, get_or-drop, get_or-map, get_or-set_other, get_or-set_same, get_or_default, get_or_read, length-drop, length-map, length-set, get_or-remove_above, get_or-remove_below, length-remove}
use Rattle.portal_store.proofs.Words.{Portal, lowered, to_parent, FallFrom, IsAtMost, IsRaised, IsReach}

lower : (m n : ℕ) (p q : Portal) → m ≤ n → q.created ≤ p.created → q.active ≤ p.active → IsAtMost m p → IsAtMost n q
lower m n p q less created active most = record { created = omega (arith, less, created, most.created); active = omega (arith, less, active, most.active) }

-- one portal more, in front
within_entered : (p : Portal) (n : ℕ) (portals : List Portal) (levels : List ℕ) → IsAtMost n p → slice_index_or levels 0 0 ≤ n → IsReach portals levels → (i j : ℕ) (d : Portal) (e : ℕ) → i ≤ j → j < length (p ∷ portals) → IsAtMost (slice_index_or (n ∷ levels) i e) (slice_index_or (p ∷ portals) j d)
within_entered p n portals levels own first reach x7 x8 d e order there = grind (arith, nat_tests, reach.long, lower, reach.within)

falls_entered : (n : ℕ) (levels : List ℕ) → slice_index_or levels 0 0 ≤ n → FallFrom 0 levels → FallFrom 0 (n ∷ levels)
falls_entered n levels first falls zero zero e from order there = omega arith
falls_entered n levels first falls zero (suc j) e from order there =
    let inside : j < length levels = omega (arith, there) in
    let here : slice_index_or levels 0 e ≡ slice_index_or levels 0 0 = get_or_default levels 0 e 0 (omega (arith, inside)) in
    let below : slice_index_or levels j e ≤ slice_index_or levels 0 e = falls 0 j e (omega arith) (omega arith) inside in
    omega (arith, here, first, below)
falls_entered n levels first falls (suc i) zero e from order there = absurd (omega (arith, order))
falls_entered n levels first falls (suc i) (suc j) e from order there = falls i j e (omega arith) (omega (arith, order)) (omega (arith, there))

pub IsReach_entered : (p : Portal) (n : ℕ) (portals : List Portal) (levels : List ℕ) → p.created ≤ n → p.active ≤ n → slice_index_or levels 0 0 ≤ n → IsReach portals levels → IsReach (p ∷ portals) (n ∷ levels)
IsReach_entered p n portals levels created active first reach = grind (arith, nat_tests, reach.long, within_entered, falls_entered, reach.falls)

-- a portal that reaches no deeper than before takes a place
pub IsReach_set : (portals : List Portal) (levels : List ℕ) (i : ℕ) (x y : Portal) → x ≡ slice_index_or portals i x → y.created ≤ x.created → y.active ≤ x.active → IsReach portals levels → IsReach (slice_set portals i y) levels
IsReach_set portals levels i x y here created active reach = record {
  long = reach.long ∙ sym (length-set portals i y);
  within = λ a b d e order there.
      let inside : b < length portals = omega (arith, there, length-set portals i y) in
      elim (cases_eq b i) [
        | inl same ↦
            let inside_i : i < length portals = omega (arith, inside, same) in
            let old : IsAtMost (slice_index_or levels a e) x = subst (IsAtMost (slice_index_or levels a e)) (sym (get_or_read portals i x inside_i here d)) (reach.within a i d e (omega (arith, order, same)) inside_i) in
            subst (λ k. IsAtMost (slice_index_or levels a e) (slice_index_or (slice_set portals i y) k d)) (sym same)
            (subst (IsAtMost (slice_index_or levels a e)) (sym (get_or-set_same portals i y d inside_i)) (lower (slice_index_or levels a e) (slice_index_or levels a e) x y (omega arith) created active old))
        | inr other ↦ subst (IsAtMost (slice_index_or levels a e)) (sym (get_or-set_other portals i b y d other)) (reach.within a b d e order inside)
      ];
  falls = reach.falls;
}

-- a portal takes a place, which was raised as far as it reaches
pub IsReach_raised : (portals : List Portal) (old new : List ℕ) (i to : ℕ) (y : Portal) → i < length portals → y.created ≤ to → y.active ≤ to → IsRaised i to old new → IsReach portals old → IsReach (slice_set portals i y) new
IsReach_raised portals old new i to y inside_i created active raised reach = record {
  long = raised.long ∙ reach.long ∙ sym (length-set portals i y);
  within = λ a b d e order there.
      let inside : b < length portals = omega (arith, there, length-set portals i y) in
      elim (cases_eq b i) [
        | inl same ↦
            let up : to ≤ slice_index_or new a e = raised.up a e (omega (arith, order, same)) in
            subst (λ k. IsAtMost (slice_index_or new a e) (slice_index_or (slice_set portals i y) k d)) (sym same)
            (subst (IsAtMost (slice_index_or new a e)) (sym (get_or-set_same portals i y d inside_i)) (record { created = omega (arith, created, up); active = omega (arith, active, up) }))
        | inr other ↦
            subst (IsAtMost (slice_index_or new a e)) (sym (get_or-set_other portals i b y d other))
            (lower (slice_index_or old a e) (slice_index_or new a e) (slice_index_or portals b d) (slice_index_or portals b d) (raised.over a e (omega (arith, order, inside, reach.long))) (omega arith) (omega arith) (reach.within a b d e order inside))
      ];
  falls = raised.falls;
}

-- a portal becomes active in another level, for which its place was raised
pub IsReach_active : (portals : List Portal) (old new : List ℕ) (i to : ℕ) (x : Portal) → x ≡ slice_index_or portals i x → i < length portals → IsRaised i to old new → IsReach portals old → IsReach (slice_set portals i (record x { active = to })) new
IsReach_active portals old new i to x here inside_i raised reach =
    let y : Portal = record x { active = to } in
    record {
      long = raised.long ∙ reach.long ∙ sym (length-set portals i y);
      within = λ a b d e order there.
          let inside : b < length portals = omega (arith, there, length-set portals i y) in
          elim (cases_eq b i) [
            | inl same ↦
                let up : to ≤ slice_index_or new a e = raised.up a e (omega (arith, order, same)) in
                let over : slice_index_or old a e ≤ slice_index_or new a e = raised.over a e (omega (arith, order, inside, reach.long)) in
                let was_within : IsAtMost (slice_index_or old a e) x = subst (IsAtMost (slice_index_or old a e)) (sym (get_or_read portals i x inside_i here d)) (reach.within a i d e (omega (arith, order, same)) inside_i) in
                subst (λ k. IsAtMost (slice_index_or new a e) (slice_index_or (slice_set portals i y) k d)) (sym same)
                (subst (IsAtMost (slice_index_or new a e)) (sym (get_or-set_same portals i y d inside_i)) (record { created = omega (arith, was_within.created, over); active = up }))
            | inr other ↦
                subst (IsAtMost (slice_index_or new a e)) (sym (get_or-set_other portals i b y d other))
                (lower (slice_index_or old a e) (slice_index_or new a e) (slice_index_or portals b d) (slice_index_or portals b d) (raised.over a e (omega (arith, order, inside, reach.long))) (omega arith) (omega arith) (reach.within a b d e order inside))
          ];
      falls = raised.falls;
    }

lowered_less : (level n : ℕ) → lowered level n ≤ n
lowered_less level n = grind arith

-- all portals of a level are lowered
pub IsReach_to_parent : (level : ℕ) (portals new : List Portal) (levels : List ℕ) → new ≡ map (to_parent level) portals → IsReach portals levels → IsReach new levels
IsReach_to_parent level portals new levels written reach =
    subst (λ ps. IsReach ps levels) (sym written)
    (record {
      long = reach.long ∙ sym (length-map portals (to_parent level));
      within = λ i j d e order there.
          let inside : j < length portals = omega (arith, there, length-map portals (to_parent level)) in
          let p : Portal = slice_index_or portals j d in
          subst (IsAtMost (slice_index_or levels i e)) (sym (get_or-map (to_parent level) portals j d d inside))
          (lower (slice_index_or levels i e) (slice_index_or levels i e) p (to_parent level p) (omega arith) (lowered_less level p.created) (lowered_less level p.active) (reach.within i j d e order inside));
      falls = reach.falls;
    })

-- a place of what is left, as it was before
abbrev was : ℕ → ℕ → ℕ
was k i = elim (cases_lt i k) [ inl below ↦ i | inr above ↦ i + 1 ]

read_was : {X : Type 0} (xs : List X) (k i : ℕ) (d : X) → k < length xs → slice_index_or (remove xs k) i d ≡ slice_index_or xs (was k i) d
read_was xs k i d there = grind (arith, nat_tests, get_or-remove_below, get_or-remove_above)

was_order : (k i j : ℕ) → i ≤ j → was k i ≤ was k j
was_order k i j order = grind (arith, nat_tests, was)

was_there : (k i n : ℕ) → k < n → i + 1 < n → was k i < n
was_there k i n there inside = elim (cases_lt i k) as (λ c. (elim c [ inl below ↦ i | inr above ↦ i + 1 ]) < n) [ inl below ↦ omega (arith, there, below) | inr above ↦ inside ]

-- one portal fewer
pub IsReach_removed : (portals : List Portal) (levels : List ℕ) (k : ℕ) → k < length portals → IsReach portals levels → IsReach (remove portals k) (remove levels k)
IsReach_removed portals levels k there reach = grind (arith, nat_tests, reach.long, length-remove portals k there, length-remove, read_was, was, reach.within, was_order, was_there, reach.falls)

-- behind the portals that reach a level, none was made there or is active there
pub all_below : (portals : List Portal) (levels : List ℕ) (level count : ℕ) → IsReach portals levels → ((i e : ℕ) → count ≤ i → i < length levels → slice_index_or levels i e < level) → All (λ (p : Portal). (p.created < level) × (p.active < level)) (drop count portals)
all_below portals levels level count reach others k d inside =
    let there : count + k < length portals = omega (arith, inside, length-drop count portals) in
    let most : IsAtMost (slice_index_or levels (count + k) 0) (slice_index_or portals (count + k) d) = reach.within (count + k) (count + k) d 0 (omega arith) there in
    let less : slice_index_or levels (count + k) 0 < level = others (count + k) 0 (omega arith) (omega (arith, there, reach.long)) in
    subst (λ (p : Portal). (p.created < level) × (p.active < level)) (sym (get_or-drop count portals k d)) (omega (arith, most.created, less), omega (arith, most.active, less))
