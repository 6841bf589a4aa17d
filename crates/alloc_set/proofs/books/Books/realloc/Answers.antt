use Rattle.alloc_set.proofs.Base.{ap, arith, held, Live, live_place, live_size, nat_tests, option_and_then, resize, resize_at, SetLedger, SetPlace, ℕ, ◌+◌, ◌≡◌, ◌≤◌}
use Rattle.alloc_set.specs.Ledger.{Own as OwnPlace}
use Rattle.alloc_set.proofs.Lemmas.{Reallocates-in_place}
use Rattle.alloc_set.proofs.books.Books.realloc.Goals as goal

-- the step for a size that is not too big
resize-small : (l : SetLedger) (held limit : ℕ) (place : SetPlace) (size : ℕ) → size ≤ 1073741823 → resize l held limit place size ≡ resize_at l held limit place size
unfolding resize
resize-small l held limit place size small = grind (arith, nat_tests)

pub resize_class-requires-clause-class : goal.resize_class-requires-clause-class
resize_class-requires-clause-class c = let found = c.in-Some.ensures.class in (c.requires.kept.settled.placed c.args.at (Live c.in-Some.class found.0) found.1).sized.0

pub returns-in_ok-resize_own-in-None-clause-ok : goal.returns-in_ok-resize_own-in-None-clause-ok
returns-in_ok-resize_own-in-None-clause-ok c =
    let there = c.room-room.ensures.1 in
    let live = ap (λ o. option_and_then live_size o) there in
    let done = c.in_ok-resize_own-in-None.ensures in
    let small : c.args.size ≤ 1073741823 = omega (arith, c.if-size-gt-LARGEST.false) in (
      OwnPlace (c.room-room.result + 48),
      ap (λ o. option_and_then live_place o) there,
      rw resize-small (Reallocates-in_place _ _ _ _ _ _ _ _ _ done.kept done.refits live (omega (arith, rw live at c.requires.keep)) (omega arith) done.live done.moves done.keeps),
    )
