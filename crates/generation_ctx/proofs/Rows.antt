-- The ledger, run: what `stats` answers after some calls.
use Rattle.generation_ctx.proofs.Words.{◌≡◌, ℕ, List, [], ◌∷◌, true, false, Result, Ok, Err, refl, CtxError, TooBig, NoSpace, up8, granted, grown, doubled, GenerationLedger, GenerationPlace, GenerationTaken, GenerationResized, created, take, give, resize, stats, stopped, turned, with_new, cut_off, cut, chosen, block_size, take_new, take_from, take_cut, owned, take_own, emptied, lessened, freed_shared}

-- what is done: a request, a chunk freed, another size
data Call : Type 0 where
  Takes : ℕ → Call
  Gives : GenerationPlace → Call
  Resizes : GenerationPlace → ℕ → Call

taken : GenerationLedger → Result GenerationTaken CtxError → GenerationLedger
taken l (Ok answer) = answer.ledger
taken l (Err error) = l

resized : GenerationLedger → Result GenerationResized CtxError → GenerationLedger
resized l (Ok answer) = answer.ledger
resized l (Err error) = l

abbrev after : GenerationLedger → List Call → GenerationLedger
after l [] = l
after l (Takes size ∷ calls) = after (taken l (take l 20000000 size)) calls
after l (Gives place ∷ calls) = after (give l place) calls
after l (Resizes place size ∷ calls) = after (resized l (resize l 0 20000000 place size)) calls

new : GenerationLedger
new = created 8192 8388608

shared : ℕ → ℕ → GenerationPlace
shared block room = record { block = block; room = room; own = false }

-- two chunks of 100 bytes, of which the first is freed, and then the other
freed_one : stats (after new (Takes 100 ∷ Takes 100 ∷ Gives (shared 1 104) ∷ [])) ≡ record { total = 8192; blocks = 1; free = 7728; chunks = 1 }
unfolding new shared taken created take give stats take_cut cut cut_off up8 granted freed_shared lessened emptied
freed_one = refl

freed_both : stats (after new (Takes 100 ∷ Takes 100 ∷ Gives (shared 1 104) ∷ Gives (shared 1 104) ∷ [])) ≡ record { total = 8192; blocks = 1; free = 7952; chunks = 0 }
unfolding new shared taken created take give stats take_cut cut cut_off up8 granted freed_shared lessened emptied
freed_both = refl

-- a chunk with a block for itself, and that freed
own_block : stats (after new (Takes 524289 ∷ [])) ≡ record { total = 532536; blocks = 2; free = 7952; chunks = 0 }
unfolding new taken created take stats take_own owned up8 granted
own_block = refl

own_given : stats (after new (Takes 524289 ∷ Gives (record { block = 2; room = 524296; own = true }) ∷ [])) ≡ record { total = 8192; blocks = 1; free = 7952; chunks = 0 }
unfolding new taken created take give stats take_own owned up8 granted
own_given = refl

-- an empty block that stops being current is the spare, and is current again
spare_again : stats (after new (Takes 7000 ∷ Takes 7000 ∷ Gives (shared 2 7000) ∷ Takes 20000 ∷ Takes 8000 ∷ Takes 8000 ∷ [])) ≡ record { total = 49152; blocks = 3; free = 5800; chunks = 0 }
unfolding new shared taken created take give stats take_cut take_from take_new chosen block_size grown doubled with_new turned stopped cut cut_off up8 granted freed_shared lessened emptied
spare_again = refl

-- a chunk that moves asks what the new one asks, though its old block goes back
moved : stats (after new (Takes 524289 ∷ Resizes (record { block = 2; room = 524296; own = true }) 600000 ∷ [])) ≡ record { total = 608240; blocks = 2; free = 7952; chunks = 0 }
unfolding new taken resized created take give resize stats take_own owned up8 granted
moved = refl

refused : take new 1000 9000 ≡ Err NoSpace
unfolding new created take take_cut take_from take_new chosen block_size grown doubled up8 granted
refused = refl

too_big : take new 20000000 1073741824 ≡ Err TooBig
unfolding take
too_big = refl
