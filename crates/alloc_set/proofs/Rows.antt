-- The ledger, run on rows whose numbers are known.
use Rattle.alloc_set.proofs.Base.{block_size, Bool, chunk_limit, Class, class_of, class_up_to, created, CtxError, cut_off, cut_rest, cut_up, doubled, Err, false, from_new, give, grown, halved, halved_by, limit_class, NoSpace, Ok, refl, renewed, resize, resize_block, resize_class, Resized, Result, reused, SetLedger, SetPlace, Stats, stats, take, take_class, take_own, Taken, TooBig, true, up8, with_own, without_own, ℕ, ◌≡◌}
use Rattle.alloc_set.specs.Ledger.{Own}

-- the contexts of the rows
abbrev great : SetLedger
great = created 8192 8388608

abbrev small : SetLedger
small = created 1024 8192

abbrev total_blocks_free_chunks : ℕ → ℕ → ℕ → ℕ → Stats
total_blocks_free_chunks total blocks free chunks = record { total = total; blocks = blocks; free = free; chunks = chunks }

-- what a request says: the numbers, the place and the bytes asked
record Said : Type 0 where
  numbers : Stats
  place : SetPlace
  asked : ℕ

say : Result (Taken SetLedger SetPlace) CtxError → Result Said CtxError
say (Ok t) = Ok (record { numbers = stats t.ledger; place = t.place; asked = t.asked })
say (Err e) = Err e

-- the numbers once the chunk was freed
freed : Result (Taken SetLedger SetPlace) CtxError → Result Stats CtxError
freed (Ok t) = Ok (stats (give t.ledger t.place))
freed (Err e) = Err e

-- the same of a chunk that gets another size, and whether it stays
record Moved : Type 0 where
  numbers : Stats
  place : SetPlace
  asked : ℕ
  stays : Bool

-- a chunk is taken, and then gets another size
retold : Result (Resized SetLedger SetPlace) CtxError → Result Moved CtxError
retold (Ok r) = Ok (record { numbers = stats r.ledger; place = r.place; asked = r.asked; stays = r.stays })
retold (Err e) = Err e

then_resized : Result (Taken SetLedger SetPlace) CtxError → ℕ → ℕ → ℕ → Result Moved CtxError
then_resized (Ok t) held limit size = retold (resize t.ledger held limit t.place size)
then_resized (Err e) held limit size = Err e

-- a chunk is taken, and then another one
then_taken : Result (Taken SetLedger SetPlace) CtxError → ℕ → ℕ → Result Said CtxError
then_taken (Ok t) left size = say (take t.ledger left size)
then_taken (Err e) left size = Err e

row-100 : say (take great 1000000 100) ≡ Ok (record { numbers = total_blocks_free_chunks 8192 1 7816 0; place = Class 4; asked = 0 })
unfolding say take take_class created chunk_limit limit_class class_of class_up_to cut_off stats
row-100 = refl

row-100-freed : freed (take great 1000000 100) ≡ Ok (total_blocks_free_chunks 8192 1 7952 1)
unfolding freed take take_class created chunk_limit limit_class class_of class_up_to cut_off give stats
row-100-freed = refl

row-8000 : say (take great 1000000 8000) ≡ Ok (record { numbers = total_blocks_free_chunks 24576 2 16096 7; place = Class 10; asked = 16384 })
unfolding say take take_class from_new created chunk_limit limit_class class_of class_up_to block_size halved halved_by grown doubled renewed cut_up cut_rest cut_off stats
row-8000 = refl

row-8193 : say (take great 1000000 8193) ≡ Ok (record { numbers = total_blocks_free_chunks 16440 2 7952 0; place = Own 8248; asked = 8248 })
unfolding say take take_own created chunk_limit limit_class up8 with_own stats
row-8193 = refl

row-8193-freed : freed (take great 1000000 8193) ≡ Ok (total_blocks_free_chunks 8192 1 7952 0)
unfolding freed take take_own created chunk_limit limit_class up8 with_own give without_own stats
row-8193-freed = refl

row-1024 : say (take small 1000000 1024) ≡ Ok (record { numbers = total_blocks_free_chunks 3072 2 1760 2; place = Class 7; asked = 2048 })
unfolding say take take_class from_new created chunk_limit limit_class class_of class_up_to block_size halved halved_by grown doubled renewed cut_up cut_rest cut_off stats
row-1024 = refl

row-1025 : say (take small 1000000 1025) ≡ Ok (record { numbers = total_blocks_free_chunks 2104 2 784 0; place = Own 1080; asked = 1080 })
unfolding say take take_own created chunk_limit limit_class up8 with_own stats
row-1025 = refl

-- a block of its own where there is no room for it, and a size that no chunk has
row-no_space : say (take small 1079 1025) ≡ Err NoSpace
unfolding say take take_own created chunk_limit limit_class up8
row-no_space = refl

row-too_big : say (take great 1000000 1073741824) ≡ Err TooBig
unfolding say take
row-too_big = refl

-- a free chunk serves the next request of its class, and asks nothing
row-reused : then_taken (take small 1000000 1024) 0 256 ≡ Ok (record { numbers = total_blocks_free_chunks 3072 2 1496 1; place = Class 5; asked = 0 })
unfolding say then_taken take take_class from_new created chunk_limit limit_class class_of class_up_to block_size halved halved_by grown doubled renewed reused cut_up cut_rest cut_off stats
row-reused = refl

-- an own block grows where it is, and asks what it grew
row-grown : then_resized (take great 1000000 9000) 17240 1000000 20000 ≡ Ok (record { numbers = total_blocks_free_chunks 28240 2 7952 0; place = Own 20048; asked = 11000; stays = true })
unfolding then_resized retold take take_own created chunk_limit limit_class up8 with_own resize resize_block stats
row-grown = refl

-- it never falls to what a class serves, and asks nothing
row-shrunk : then_resized (take great 1000000 9000) 17240 1000000 10 ≡ Ok (record { numbers = total_blocks_free_chunks 16440 2 7952 0; place = Own 8248; asked = 0; stays = true })
unfolding then_resized retold take take_own created chunk_limit limit_class up8 with_own resize resize_block stats
row-shrunk = refl

-- a chunk of a class moves to another class
row-moved : then_resized (take great 1000000 100) 8192 1000000 200 ≡ Ok (record { numbers = total_blocks_free_chunks 8192 1 7688 1; place = Class 5; asked = 0; stays = false })
unfolding then_resized retold take take_class created chunk_limit limit_class class_of class_up_to cut_off resize resize_class stats
row-moved = refl
