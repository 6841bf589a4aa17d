-- What a run starts with.
use Rattle.pgs_turns.proofs.Base.{◌≡◌, ◌≢◌, ◌⊎◌, ℕ, zero, suc, ◌+◌, ◌<◌, inl, inr, Bool, true, false, List, [], ◌∷◌, ◌++◌, length, Some, refl, sym, ◌∙◌, ap, subst, arith, length-append, nat_lt, if◌then◌else◌, slice_get, cases_eq, nat_tests, slice_get_within}
use Rattle.pgs_turns.proofs.Words.{Asks, Space, accounts, risen, share, taken, Moves, SameRegions, TreeState, no_contexts, stands_for, total_of, StoreState, ShelfState, CommonState, Calls, Setting, setting_of, AreOpened, IsOpened}
use Rattle.addr_space.specs.Space.{held}
use Rattle.addr_space.proofs.Held.{held-changed}
use Rattle.context_tree.specs.State.{Agrees}
use Rattle.pgs_turns.proofs.TurnLemmas.{took_other, took_own}

-- what accounts hold is what the regions count
pub same_held : (s t : Space) (account : ℕ) → SameRegions s t → held t account ≡ held s account
same_held s t account same = omega (arith, held-changed s t 0 account (λ k other. same.regions k), ap (share account) (same.regions 0))

-- another limit changes nothing of it
pub limited_held : (s : Space) (limit account : ℕ) → held (record s { limit = limit }) account ≡ held s account
unfolding held
limited_held s limit account = refl

-- no contexts agree with any space that has their account
pub nothing_agrees : (account : ℕ) (s : Space) → account < accounts s → Agrees (no_contexts account) s
nothing_agrees account s within = grind (arith, nat_tests)

no_total : (account : ℕ) (s : Space) → total_of (stands_for (no_contexts account) s) ≡ 0
unfolding stands_for
no_total account s = refl

-- a space with the same regions is one in which nothing moved
pub nothing_moves : (account : ℕ) (s t : Space) → account < accounts s → SameRegions s t → Moves (no_contexts account) (no_contexts account) s t
nothing_moves account s t within same = grind (arith, nat_tests, nothing_agrees, same.accounts, same.regions, same.limit, same_held, no_total)

-- a session that was started before stays
stays_opened : (descriptors account place : ℕ) (a b : TreeState) (store : StoreState) (s t : Space) → Moves a b s t → Agrees a s → a.account ≡ account → place ≢ account → IsOpened descriptors place store s → IsOpened descriptors place store t
stays_opened descriptors account place a b store s t moves agrees is differ o = grind (arith, nat_tests, o.beside, o.keeps, o.account, o.session, o.number, o.descriptors_are)

-- what stands in a list with one element more
place_snoc : {A : Type 0} (xs : List A) (y : A) (place : ℕ) (x : A) → slice_get (xs ++ y ∷ []) place ≡ Some x → ((place ≡ length xs) × (x ≡ y)) ⊎ ((place < length xs) × (slice_get xs place ≡ Some x))
place_snoc [] y zero x h = inl (refl, cc)
place_snoc [] y (suc place) x h = absurd (cc h)
place_snoc (z ∷ zs) y zero x h = inr (omega arith, h)
place_snoc (z ∷ zs) y (suc place) x h = grind (arith, nat_tests, place_snoc zs y place x h)

-- one session more
pub one_more_opened : (descriptors : ℕ) (before s t : Space) (stores : List StoreState) (account : ℕ) (store : StoreState) → account ≡ length stores → account < accounts s → Moves (no_contexts account) store.tree s t → IsOpened descriptors account store t
    → AreOpened descriptors before stores s → AreOpened descriptors before (stores ++ store ∷ []) t
one_more_opened descriptors before s t stores account store is within moves opened o = record {
  each = λ place other there. elim (place_snoc stores store place other there) [
    | inl last ↦ subst (λ (k : ℕ). IsOpened descriptors k other t) (is ∙ sym last.0) (subst (λ (x : StoreState). IsOpened descriptors account x t) (sym last.1) opened)
    | inr earlier ↦ stays_opened descriptors account place (no_contexts account) store.tree other s t moves (nothing_agrees account s within) refl (λ e. omega (arith, e, is, earlier.0)) (o.each place other earlier.1)
  ];
  limit = moves.limit ∙ o.limit;
  accounts = moves.accounts ∙ o.accounts;
  others = λ other past.
      let long = length-append stores (store ∷ []) in
      moves.others other (λ e. omega (arith, e, past, long, is)) ∙ o.others other (omega (arith, past, long));
}

-- what accounts took, with one session more
pub one_more_asked : (before s t : Space) (account : ℕ) → account < length s.taken → Asks account 65536 s t → ((other : ℕ) → taken s other ≡ risen (taken before other) (if nat_lt other account then 65536 else 0))
    → (other : ℕ) → taken t other ≡ risen (taken before other) (if nat_lt other (account + 1) then 65536 else 0)
one_more_asked before s t account within asks h other = elim (cases_eq other account) [
  | inl same ↦
      let test : nat_lt account account ≡ false = grind (arith, nat_tests) in
      let next : nat_lt account (account + 1) ≡ true = grind (arith, nat_tests) in
      let own : taken t account ≡ risen (taken before account) 65536 = took_own account 65536 s t within asks ∙ ap (λ (x : ℕ). risen x 65536) (rw test at (h account)) in
      subst (λ (k : ℕ). taken t k ≡ risen (taken before k) (if nat_lt k (account + 1) then 65536 else 0)) (sym same) (rw next own)
  | inr differs ↦
      let test : nat_lt other (account + 1) ≡ nat_lt other account = grind (arith, nat_tests, differs) in
      took_other account other 65536 s t differs asks ∙ h other ∙ ap (λ (b : Bool). risen (taken before other) (if b then 65536 else 0)) (sym test)
]

-- a session that could not be started left them as they are
pub still_opened : (descriptors : ℕ) (before s t : Space) (stores : List StoreState) (account : ℕ) → account ≡ length stores → account < accounts s → SameRegions s t → AreOpened descriptors before stores s → AreOpened descriptors before stores t
still_opened descriptors before s t stores account is within same o = record {
  each = λ place store there. stays_opened descriptors account place (no_contexts account) (no_contexts account) store s t (nothing_moves account s t within same) (nothing_agrees account s within) refl
      (λ e. omega (arith, e, is, slice_get_within stores place store there)) (o.each place store there);
  limit = same.limit ∙ o.limit;
  accounts = same.accounts ∙ o.accounts;
  others = λ other past. same_held s t other same ∙ o.others other past;
}

-- where all sessions were started, the run is set up so
pub started_setting : (setting : Setting) (stores : List StoreState) (s : Space) (x : ShelfState) (c : CommonState) (calls : Calls) → length stores ≡ setting.options.sessions → s.limit ≡ setting.options.space
    → calls.fail ≡ setting.options.fail → x ≡ setting.shelf → c.kinds ≡ setting.kinds → setting_of setting.options.descriptors (record { stores = stores; space = s; shelf = x; commons = c; calls = calls }) ≡ setting
started_setting setting stores s x c calls many limit fail shelf kinds = rw (many, limit, fail, shelf, kinds) refl
