-- What events bring and take: no more is taken than is there, and in the end nothing is left.
use Rattle.std.specs.Prelude.{ℕ, ◌+◌, ◌-◌, ◌==◌, nat_le, Bool, ◌&&◌, IsTrue, List}
use Rattle.pgs_step.specs.declared.events.What.{What}
use Rattle.lifetime_laws.specs.Reading.{Reader, seen_after, allows_all}

-- the reader that counts how much is there, by how much each event brings and takes
abbrev pub count : (What → ℕ) → (What → ℕ) → Reader ℕ
count brings takes = record { next = λ event n. (n + brings event) - takes event; allows = λ event n. nat_le (takes event) n }

-- how much is there behind these events, where n is there at first
abbrev pub left : (What → ℕ) → (What → ℕ) → ℕ → List What → ℕ
left brings takes n events = seen_after (count brings takes) n events

-- whether no event takes more than is there by then, where n is there at first
abbrev pub covers : (What → ℕ) → (What → ℕ) → ℕ → List What → Bool
covers brings takes n events = allows_all (count brings takes) n events

-- whether, besides, all that is there at first and all that is brought is taken by the end
abbrev pub balances_from : ℕ → (What → ℕ) → (What → ℕ) → List What → Bool
balances_from n brings takes events = covers brings takes n events && (left brings takes n events == 0)

-- no event takes more than is there by then, where n is there at first
abbrev pub Covers : (What → ℕ) → (What → ℕ) → ℕ → List What → Type 0
Covers brings takes n events = IsTrue (covers brings takes n events)

-- besides, all that is there at first and all that is brought is taken by the end
abbrev pub BalancesFrom : ℕ → (What → ℕ) → (What → ℕ) → List What → Type 0
BalancesFrom n brings takes events = IsTrue (balances_from n brings takes events)
