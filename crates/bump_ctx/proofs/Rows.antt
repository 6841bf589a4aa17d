-- The ledger, run on rows whose numbers are known.
use Rattle.std.proofs.Common.{◌≡◌, ℕ, Result, Ok, Err, refl}
use Rattle.chunk_header.specs.declared.CtxError.{CtxError}
use Rattle.chunk_header.specs.declared.CtxError.TheVariants.{TooBig, NoSpace}
use Rattle.chunk_header.specs.declared.Stats.{Stats}
use Rattle.chunk_header.specs.Growth.{up8, granted, grown, doubled}
use Rattle.bump_ctx.specs.Ledger.{BumpLedger, BumpTaken, created, cut_off, renewed, block_size, take_new, take_cut, with_own, take_own, take, stats}

abbrev great : BumpLedger
great = created 8192 8388608

-- what a request says: the numbers, and the bytes asked
record Said : Type 0 where
  numbers : Stats
  asked : ℕ

say : Result BumpTaken CtxError → Result Said CtxError
say (Ok t) = Ok (record { numbers = stats t.ledger; asked = t.asked })
say (Err e) = Err e

then_taken : Result BumpTaken CtxError → ℕ → ℕ → Result BumpTaken CtxError
then_taken (Ok t) left size = take t.ledger left size
then_taken (Err e) left size = Err e

abbrev row : ℕ → ℕ → ℕ → ℕ → Result Said CtxError
row total blocks free asked = Ok (record { numbers = record { total = total; blocks = blocks; free = free; chunks = 0 }; asked = asked })

row-100 : say (take great 1000000 100) ≡ row 8192 1 7848 0
unfolding say take take_cut created granted up8 cut_off stats
row-100 = refl

row-7953 : say (take great 1000000 7953) ≡ row 16384 2 8144 8192
unfolding say take take_cut take_new created granted up8 grown doubled block_size renewed cut_off stats
row-7953 = refl

row-of-three : say (then_taken (then_taken (take great 1000000 100) 1000000 8000) 1000000 9000) ≡ row 32768 3 15344 16384
unfolding say then_taken take take_cut take_new created granted up8 grown doubled block_size renewed cut_off stats
row-of-three = refl

row-524289 : say (then_taken (take great 1000000 524289) 1000000 100) ≡ row 532528 2 7848 0
unfolding say then_taken take take_own take_cut created granted up8 with_own cut_off stats
row-524289 = refl

row-524289-asked : say (take great 1000000 524289) ≡ row 532528 2 7952 524336
unfolding say take take_own created granted up8 with_own stats
row-524289-asked = refl

row-none-left : say (take great 8191 7953) ≡ Err NoSpace
unfolding say take take_cut take_new created granted up8 grown doubled block_size
row-none-left = refl

row-too-big : say (take great 1000000 1073741824) ≡ Err TooBig
unfolding say take
row-too-big = refl
