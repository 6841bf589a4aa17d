-- What the stack of active snapshots keeps: its levels never fall, and each of them is a level.
use Rattle.session_rules.proofs.Base.{◌≡◌, ℕ, ◌+◌, ◌≤◌, Bool, true, List, [], ◌∷◌, ◌++◌, refl, arith, zero, suc, ◌-◌, ◌||◌, length, map, take, nat_tests}
use Rattle.session_rules.proofs.Below.{Active, kept_below, lowered}
use Rattle.session_rules.proofs.Rules.{LevelState, AreOuter, AreStacked, IsActive, active_depth}

-- the levels are also from a lower one, and to a higher one
pub stacked_within : (low high least most : ℕ) (entries : List Active) → low ≤ least → most ≤ high → AreStacked least most entries → AreStacked low high entries
stacked_within low high least most [] l u h = tt
stacked_within low high least most (entry ∷ entries) l u h = grind (arith, nat_tests, stacked_within entry.level high entry.level most entries)

-- a snapshot is pushed at the deepest of the levels
pub stacked_pushed : (least most snapshot : ℕ) (entries : List Active) → least ≤ most → AreStacked least most entries → AreStacked least most (entries ++ (record { snapshot = snapshot; level = most } ∷ []))
stacked_pushed least most snapshot [] l h = (l, omega arith, tt)
stacked_pushed least most snapshot (entry ∷ entries) l h = (h.0, h.1, stacked_pushed entry.level most snapshot entries h.1 h.2)

-- the newest are popped
pub stacked_taken : (n least most : ℕ) (entries : List Active) → AreStacked least most entries → AreStacked least most (take n entries)
stacked_taken zero least most entries h = tt
stacked_taken (suc n) least most [] h = tt
stacked_taken (suc n) least most (entry ∷ entries) h = (h.0, h.1, stacked_taken n entry.level most entries h.2)

-- those of a level and of deeper ones are popped
pub stacked_below : (level least most : ℕ) (entries : List Active) → AreStacked least most entries → AreStacked least (level - 1) (kept_below level entries)
stacked_below level least most [] h = tt
stacked_below level least most (entry ∷ entries) h = grind (arith, nat_tests, stacked_below level entry.level most entries h.2, stacked_within least (level - 1) entry.level (level - 1) (kept_below level entries) h.0)

-- those of the deepest level belong to the one above
pub lowered_from : (level least low : ℕ) (entries : List Active) → low ≤ least → low ≤ level - 1 → 1 ≤ level → AreStacked least level entries → AreStacked low (level - 1) (map (lowered level) entries)
lowered_from level least low [] l u some h = tt
lowered_from level least low (entry ∷ entries) l u some h = grind (arith, nat_tests, lowered_from level entry.level (level - 1) entries, lowered_from level entry.level entry.level entries)

pub stacked_lowered : (level : ℕ) (entries : List Active) → 2 ≤ level → AreStacked 1 level entries → AreStacked 1 (level - 1) (map (lowered level) entries)
stacked_lowered level entries some h = lowered_from level 1 1 entries (omega arith) (omega (arith, some)) (omega (arith, some)) h

-- without a level there is none
pub none_stacked : (entries : List Active) → AreStacked 1 0 entries → entries ≡ []
none_stacked [] h = refl
none_stacked (entry ∷ entries) h = absurd (omega (arith, h.0, h.1))

-- the level that snapshots may be active in
pub or_true : (b : Bool) → (b || true) ≡ true
or_true b = grind (arith, nat_tests)

pub depth_still : (level : LevelState) (levels : List LevelState) → level.aborted ≡ true → active_depth (level ∷ levels) ≡ length levels
depth_still level levels a = rw (a, or_true level.starting) refl

pub depth_working : (level : LevelState) (levels : List LevelState) → IsActive level → active_depth (level ∷ levels) ≡ length levels + 1
depth_working level levels h = rw (h.started, h.unaborted) refl

pub depth_small : (levels : List LevelState) → active_depth levels ≤ length levels
depth_small levels = grind (arith, nat_tests)

pub depth_outer : (levels : List LevelState) → AreOuter levels → active_depth levels ≡ length levels
depth_outer levels h = grind (arith, nat_tests, depth_working)

-- The stack that is left by a level that was aborted, or is: it fits the levels above.
pub stacked_above : (levels : List LevelState) (most : ℕ) (entries : List Active) → AreOuter levels → most ≤ length levels → AreStacked 1 most entries → AreStacked 1 (active_depth levels) entries
stacked_above levels most entries outer small h = stacked_within 1 (active_depth levels) 1 most entries (omega arith) (omega (arith, small, depth_outer levels outer)) h
