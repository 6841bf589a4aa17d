-- The keys of extension kinds that all sessions hold together, when those of one session change.
use Rattle.pgs_turns.proofs.Base.{◌≡◌, ◌≢◌, ℕ, zero, suc, ◌+◌, ◌≤◌, Bool, true, List, [], ◌∷◌, Some, refl, ap, arith, nat_lt, slice_get, slice_set, nat_tests, get_or-le-sum_by, sum_by-cons, sum_by-set, get_or_from_slice_get, slice_get_within}
use Rattle.pgs_turns.proofs.Words.{Empty, KindId, Kind, table_of, times_held, OthersStay, Balances, CommonState, PinsServe, Serves, owners_of, serves_beside, StoreState, session_of, Space, SessionState, opening, AreKept, KindsFit, Run, SameRun, held_by_all}
use Rattle.owner_core.specs.Owners.{held}

-- how often the owners of one session hold an item
abbrev pub held_by : KindId → ℕ → StoreState → ℕ
held_by kind key store = held kind key (owners_of store.owners)

-- a session's part of what all hold
pub part_held : (kind : KindId) (key : ℕ) (stores : List StoreState) (place : ℕ) (store : StoreState) → slice_get stores place ≡ Some store → held_by kind key store ≤ held_by_all kind key stores
part_held kind key stores place store there = grind (arith, nat_tests, get_or_from_slice_get stores place store store there, held_by kind key, get_or-le-sum_by (held_by kind key) stores place store (slice_get_within stores place store there))

-- one session's part changed
pub changed_held : (kind : KindId) (key : ℕ) (stores : List StoreState) (place : ℕ) (store left : StoreState) → slice_get stores place ≡ Some store
    → held_by_all kind key (slice_set stores place left) + held_by kind key store ≡ held_by_all kind key stores + held_by kind key left
changed_held kind key stores place store left there = grind (arith, nat_tests, get_or_from_slice_get stores place store store there, held_by kind key, sum_by-set (held_by kind key) stores place left store (slice_get_within stores place store there))

-- Sessions that hold nothing hold nothing together.
pub none_held_together : (kind : KindId) (key : ℕ) (stores : List StoreState) → ((place : ℕ) (store : StoreState) → slice_get stores place ≡ Some store → held_by kind key store ≡ 0) → held_by_all kind key stores ≡ 0
none_held_together kind key [] none = refl
none_held_together kind key (store ∷ stores) none =
    omega (
      arith,
      sum_by-cons (held_by kind key) store stores,
      none zero store refl,
      none_held_together kind key stores (λ place other there. none (suc place) other there),
    )

-- a session that opens has no owner
pub opening_owns : (store : StoreState) (s : Space) → session_of store s ≡ opening → owners_of store.owners ≡ Empty
unfolding session_of opening
opening_owns store s is = ap (λ (session : SessionState). session.owners) is

-- a session whose owners are gone holds nothing
pub gone_holds_none : (kind : KindId) (key : ℕ) (store : StoreState) → owners_of store.owners ≡ Empty → held_by kind key store ≡ 0
gone_holds_none kind key store gone = ap (held kind key) gone

-- One session moved, and the kinds with it.
module _ (stores : List StoreState) (place : ℕ) (store left : StoreState) (there : slice_get stores place ≡ Some store) (c d : CommonState) (balances : Balances store.owners left.owners c d) where
  pub keys_behind : (kind : KindId) (key : ℕ) → 16 ≤ kind.0
      → times_held d.kinds kind key + held_by_all kind key stores ≡ times_held c.kinds kind key + held_by_all kind key (slice_set stores place left)
  keys_behind kind key from = omega (arith, balances.held kind key from, changed_held kind key stores place store left there)

  pub kinds_behind : KindsFit stores c.kinds → KindsFit (slice_set stores place left) d.kinds
  kinds_behind h = grind (arith, nat_tests, h.sound, h.held, keys_behind)

-- The kinds serve each session, also once another one, of that number, has moved.
pub served_there : (stores : List StoreState) (place : ℕ) (store : StoreState) (c d : CommonState) (n : ℕ) → slice_get stores place ≡ Some store → KindsFit stores d.kinds → table_of d.kinds ≡ table_of c.kinds
    → store.owners.session ≢ n → OthersStay n c.locks d.locks → PinsServe (owners_of store.owners) d.pins → Serves store.owners c → Serves store.owners d
served_there stores place store c d n there fit table other others pins h = grind (arith, nat_tests, serves_beside, store.owners, fit.held, part_held)

-- a kind whose number isn't that of an extension kind holds nothing here
kept_below : (before after : List Kind) (kind : KindId) (key : ℕ) → nat_lt kind.0 16 ≡ true → times_held after kind key ≡ times_held before kind key
unfolding times_held
kept_below before after kind key less = rw less refl

kept_at : (before after : List Kind) (kind : KindId) (key : ℕ) (b : Bool) → nat_lt kind.0 16 ≡ b → (16 ≤ kind.0 → times_held after kind key ≡ times_held before kind key) → times_held after kind key ≡ times_held before kind key
kept_at before after kind key x4 e h = grind (arith, nat_tests, kept_below)

-- Where sessions held nothing before and hold nothing behind, nothing of the kinds is left open.
pub all_kept : (a b : Run) → SameRun a b → ((kind : KindId) (key : ℕ) → held_by_all kind key a.stores ≡ 0) → ((kind : KindId) (key : ℕ) → held_by_all kind key b.stores ≡ 0) → AreKept a.commons.kinds b.commons.kinds
all_kept a b same before after = grind (arith, nat_tests, same.table, same.limits, kept_at, a.commons.kinds, b.commons.kinds, same.keys)
