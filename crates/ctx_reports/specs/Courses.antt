-- What a context reports after each of some calls, as its ledger says: no kind and no address is named.
use Rattle.std.specs.Prelude.{ℕ, Result, Ok, Err}
use Rattle.chunk_header.specs.declared.CtxError.{CtxError}
use Rattle.chunk_header.specs.Answers.{Taken, Resized}
use Rattle.any_ctx.specs.Ledgers.{Ledger, Place, give, resize, reset, stats}
use Rattle.ctx_reports.specs.Alone.{total_of, take_of}
use Rattle.ctx_reports.specs.declared.Pair.{Pair}
use Rattle.ctx_reports.specs.declared.End.{End}
use Rattle.ctx_reports.specs.declared.Course.{Course}

-- the ledger after a chunk was freed: the same where the context frees none
abbrev pub given : Ledger → Place → Ledger
given l place = after l (give l place)
  where
    after : Ledger → Result Ledger CtxError → Ledger
    after l (Ok m) = m
    after l (Err e) = l

-- the ledger after a chunk got another size: the same where that was refused
abbrev pub resized : Ledger → ℕ → Place → ℕ → Ledger
resized l limit place size = after l (resize l (total_of l) limit place size)
  where
    after : Ledger → Result (Resized Ledger Place) CtxError → Ledger
    after l (Ok r) = r.ledger
    after l (Err e) = l

-- a chunk is taken and freed
abbrev pub pair_from : Result (Taken Ledger Place) CtxError → Result Pair CtxError
pair_from (Ok t) = Ok (record { taken = stats t.ledger; freed = stats (given t.ledger t.place) })
pair_from (Err e) = Err e

abbrev pub pair : Ledger → ℕ → ℕ → Result Pair CtxError
pair l limit size = pair_from (take_of l limit size)

-- a chunk is taken and gets another size, and the context is reset
abbrev pub end_from : ℕ → ℕ → Result (Taken Ledger Place) CtxError → Result End CtxError
end_from limit other (Ok t) =
    Ok (record { taken = stats t.ledger; resized = stats (resized t.ledger limit t.place other); emptied = stats (reset (resized t.ledger limit t.place other)) })
end_from limit other (Err e) = Err e

abbrev pub end_of : Ledger → ℕ → ℕ → ℕ → Result End CtxError
end_of l limit size other = end_from limit other (take_of l limit size)

-- two chunks are taken, the first is freed, and then comes such an end
abbrev pub course_end : Ledger → Ledger → Ledger → Result End CtxError → Result Course CtxError
course_end one two three (Ok last) = Ok (record { first = stats one; second = stats two; freed = stats three; last = last })
course_end one two three (Err e) = Err e

abbrev pub course_second : Ledger → Place → ℕ → ℕ → ℕ → Result (Taken Ledger Place) CtxError → Result Course CtxError
course_second one place limit third other (Ok t) =
    course_end one t.ledger (given t.ledger place) (end_of (given t.ledger place) limit third other)
course_second one place limit third other (Err e) = Err e

abbrev pub course_first : ℕ → ℕ → ℕ → ℕ → Result (Taken Ledger Place) CtxError → Result Course CtxError
course_first limit second third other (Ok t) = course_second t.ledger t.place limit third other (take_of t.ledger limit second)
course_first limit second third other (Err e) = Err e

abbrev pub course : Ledger → ℕ → ℕ → ℕ → ℕ → ℕ → Result Course CtxError
course l limit first second third other = course_first limit second third other (take_of l limit first)
