-- What a caller needs that performs one line after another: where a session starts, and the room that a line leaves.
use Rattle.session_core.proofs.Base.{◌≡◌, false, ℕ, ◌+◌, ◌*◌, ◌<◌, ◌≤◌, List, [], refl, sym, ap, subst, arith, ◌^◌, get_or, replicate, slice_index, All, common_steps, All-nil}
use Rattle.session_core.proofs.Words.{Space, held, Mode, holds, SessionState, opening, IsAtRest, Serves, table_of, IsSound, serves_nothing, session_of, Keeps, StandsIn, IsBetweenLines, Grows, HasRoom, Now, most_count, most_steps}
use Rattle.session_core.proofs.BetweenLines.{opened_levels}

-- Lines in turn, each of which raises no counter by more than a line may.
pub room_before : (i n : ℕ) (a b : Now) → i < n → HasRoom (most_steps * n) a → Grows (most_steps * i) a b → HasRoom most_steps b
room_before i n a b l h g = grind arith

-- A session as it opens is between two lines, and has room.
pub opened_lines : (a : Now) → session_of a.store a.space ≡ opening → Keeps a.store a.space → Serves a.store.owners a.commons → StandsIn a.store a.space a.shelf a.commons → IsBetweenLines a
unfolding session_of opening
opened_lines a e keeps serves stands =
    let none : a.store.levels ≡ [] = opened_levels a.store a.space e in
    record {
      keeps = keeps;
      serves = serves;
      stands = λ around. record { stands = stands around; open_levels = rw (none) tt; at_rest = subst (All IsAtRest) (sym (ap (λ (session : SessionState). session.portals) e)) (All-nil IsAtRest) };
    }

-- It holds nothing of the commons, where nothing is held for it and not too many sessions pin a buffer.
pub opened_serves : (a : Now) → session_of a.store a.space ≡ opening → IsSound (table_of a.commons.kinds) → ((o : ℕ) (m : Mode) → holds a.commons.locks o m a.store.owners.session ≡ false)
    → ((buffer : ℕ) → slice_index a.commons.pins buffer ≤ 2 ^ 31) → Serves a.store.owners a.commons
unfolding session_of opening
opened_serves a e sound free few = serves_nothing a.store.owners a.commons (ap (λ (s : SessionState). s.owners) e) sound (ap (λ (s : SessionState). s.locks) e) free few

zeros_at : (key n : ℕ) → get_or (replicate {A = ℕ} n 0) key 0 ≡ 0
zeros_at key n = grind (arith, common_steps)

-- no session pins a buffer
pub none_pinned : (pins : List ℕ) → pins ≡ replicate 1024 0 → (buffer : ℕ) → slice_index pins buffer ≤ 2 ^ 31
none_pinned pins none buffer = subst (λ (ps : List ℕ). slice_index ps buffer ≤ 2 ^ 31) (sym none) (omega (arith, zeros_at buffer 1024))

pub none_held : (s : Space) (account : ℕ) → s.regions ≡ [] → held s account ≡ 0
unfolding held
none_held s account e = rw (e) refl

pub opened_room : (k : ℕ) (a : Now) → session_of a.store a.space ≡ opening → a.calls.count ≡ 0 → k + 6 < most_count → HasRoom k a
unfolding session_of opening
opened_room k a e none l = grind arith
