-- What the ledger asks for a group, and what the account holds then.
use Rattle.std.proofs.Common.{◌≡◌, ℕ, ◌+◌, ◌≤◌, Bool, true, false, cond, nat_le, Result, Ok, Err, refl, ap, subst, arith}
use Rattle.std.proofs.lemmas.Bool.{eq-eqb, leb-true}
use Rattle.addr_space.specs.Space.{Space, held}
use Rattle.addr_space.specs.Footprint.{Footprint, Moves, counted}
use Rattle.chunk_header.specs.declared.CtxError.{CtxError}
use Rattle.chunk_header.specs.declared.CtxError.TheVariants.{NoSpace}
use Rattle.chunk_header.specs.Growth.{granted}
use Rattle.bump_ctx.specs.Ledger.{BumpLedger, BumpTaken, served, cut_off, renewed, block_size, take_new, take_cut, take, stats}

-- what the ledger asks is within what is left, and its bytes are so many more
abbrev pub IsAsked : BumpLedger → ℕ → BumpTaken → Type 0
IsAsked l left answer = (answer.asked ≤ left) × (answer.ledger.total ≡ l.total + answer.asked)

abbrev by_tests : BumpLedger → ℕ → ℕ → Bool → Bool → Result BumpTaken CtxError
by_tests l room size a b = cond a (Ok (served (cut_off l room) 0)) (cond b (Ok (served (cut_off (renewed l size) room) size)) (Err NoSpace))

asked_by : (l : BumpLedger) (left room size : ℕ) (answer : BumpTaken) (a b : Bool) → nat_le size left ≡ b → by_tests l room size a b ≡ Ok answer → IsAsked l left answer
unfolding cut_off renewed
asked_by l left room size answer true b fits is = let same : served (cut_off l room) 0 ≡ answer = cc in subst (IsAsked l left) same (omega arith, omega arith)
asked_by l left room size answer false true fits is =
    let same : served (cut_off (renewed l size) room) size ≡ answer = cc in
    subst (IsAsked l left) same (leb-true size left fits, omega arith)
asked_by l left room size answer false false fits is = absurd (cc)

pub asked_of : (l : BumpLedger) (left : ℕ) (answer : BumpTaken) → take l left 24 ≡ Ok answer → IsAsked l left answer
unfolding take take_cut take_new
asked_of l left answer is =
    asked_by l left (granted 24) (block_size l (granted 24)) answer (nat_le (granted 24) l.room) (nat_le (block_size l (granted 24)) left) refl is

counted_own : (f : Footprint) (account : ℕ) → f.account ≡ account → counted f account ≡ f.total
unfolding counted
counted_own f account same = ap (λ b. cond b f.total 0) (eq-eqb f.account account same)

-- what an account holds changes by what the context has
pub held_by : (f g : Footprint) (s t : Space) → Moves f g s t → held t f.account + f.total ≡ held s f.account + g.total
held_by f g s t moves = omega (arith, moves.held f.account, counted_own f f.account refl, counted_own g f.account moves.account)

-- the bytes of the ledger are those that it tells
pub total_of : (l : BumpLedger) → (stats l).total ≡ l.total
unfolding stats
total_of l = refl
