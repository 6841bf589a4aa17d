-- Steps one behind the other.
use Rattle.session_commands.proofs.Base.{nat_tests, ◌≡◌, ℕ, ◌+◌, ◌≤◌, List, [], ◌∷◌, ◌++◌, Option, Some, None, refl, sym, ◌∙◌, ap, subst, arith}
use Rattle.session_commands.proofs.Words.{Error, What, Element, Grows, HasRoom, Now, Performed}
use Rattle.session_commands.proofs.Performing.{performed_both, performed_more, performed_said, performed_stop}

-- steps of which one was refused
pub stops : (j k : ℕ) (xs ys : List Element) (a b : Now) (P : List What → Type 0) (e : Error) → j ≤ k → Performed j xs a b P (Some e) → Performed k (xs ++ ys) a b P (Some e)
stops j k xs ys a b P e le x = performed_more j k (xs ++ ys) a b P (Some e) le (performed_stop j xs ys a b P e x)

-- the same of steps that say nothing
pub silent_stops : (j k : ℕ) (xs ys : List Element) (a b : Now) (P : List What → Type 0) (e : Error) → j ≤ k → P [] → Performed j xs a b (λ events. events ≡ []) (Some e) → Performed k (xs ++ ys) a b P (Some e)
silent_stops j k xs ys a b P e le silent x = stops j k xs ys a b P e le (performed_said j xs a b (λ events. events ≡ []) P (Some e) (λ events none. subst P (sym none) silent) x)

-- steps that say nothing, and others behind them
pub silent_then : (j k : ℕ) (xs ys : List Element) (a b c : Now) (P : List What → Type 0) (r : Option Error) → Performed j xs a b (λ events. events ≡ []) None → Performed k ys b c P r → Performed (j + k) (xs ++ ys) a c P r
silent_then j k xs ys a b c P r x y =
    performed_both j k xs ys a b c (λ events. events ≡ []) P P r x y (λ us vs none p. subst P (ap (λ (z : List What). z ++ vs) (sym none)) p)

-- and where the later ones are silent
pub then_silent : (j k : ℕ) (xs ys : List Element) (a b c : Now) (P : List What → Type 0) (r : Option Error) → Performed j xs a b P None → Performed k ys b c (λ events. events ≡ []) r → Performed (j + k) (xs ++ ys) a c P r
then_silent j k xs ys a b c P r x y =
    performed_both j k xs ys a b c P (λ events. events ≡ []) P r x y (λ us vs p none. subst P (sym (ap (λ (z : List What). us ++ z) none ∙ nil us)) p)
  where
    nil : (us : List What) → us ++ [] ≡ us
    nil [] = refl
    nil (u ∷ us) = ap (λ (z : List What). u ∷ z) (nil us)

-- less room
pub less_room : (j k : ℕ) (a : Now) → j ≤ k → HasRoom k a → HasRoom j a
less_room j k a le room = grind (arith, nat_tests, room.contexts, room.owners, room.serials, room.calls)

-- what room is left behind steps
pub room_left : (j k : ℕ) (a b : Now) → HasRoom (j + k) a → Grows j a b → HasRoom k b
room_left j k a b room grows = grind (arith, nat_tests, room.contexts, grows.contexts, room.owners, grows.owners, room.serials, grows.serials, room.calls, grows.calls)
