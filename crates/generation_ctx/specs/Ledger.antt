-- The ledger of a Generation context: its blocks by their numbers, without a place in a space.
use Rattle.std.specs.Prelude.{ℕ, ◌+◌, ◌-◌, ◌*◌, ◌==◌, Bool, true, false, nat_lt, nat_le, min, if◌then◌else◌, List, [], ◌∷◌, ◌++◌, length, map, filter, sum_by, Option, Some, None, unwrap_or, Result, Ok, Err}
use Rattle.std.specs.List.{find}
use Rattle.chunk_header.specs.declared.CtxError.{CtxError}
use Rattle.chunk_header.specs.declared.CtxError.TheVariants.{TooBig, NoSpace}
use Rattle.chunk_header.specs.declared.Stats.{Stats}
use Rattle.chunk_header.specs.Answers.{Taken, Resized}
use Rattle.chunk_header.specs.Growth.{grown, granted}
use Rattle.ctx_blocks.specs.Layout.{whole_block}
use Rattle.ctx_blocks.specs.Numbered.{put_at, is_other}
use Rattle.ctx_blocks.specs.declared.parts.Block.{Block}
use Rattle.chunk_header.specs.declared.TheConstants.{LARGEST, CONTEXT_BYTES, BLOCK_HEADER, CHUNK_HEADER, OWN_HEADERS}
use Rattle.generation_ctx.specs.declared.books.TheConstants.{LIMIT}

-- the sizes that it was created with; the size of the next block; how many blocks were taken since it was
-- created or reset, each of which has its place in that order as its number, so that the keeper is 1; the number
-- of the block off which chunks are cut, and of an empty one that waits to be so; and the blocks, in the order in
-- which they were taken: each with its bytes, its room, how many live chunks it has, and how many were freed in it
-- since it last had its whole room
pub record GenerationLedger : Type 0 where
  pub init : ℕ
  pub max : ℕ
  pub next : ℕ
  pub count : ℕ
  pub current : ℕ
  pub spare : Option ℕ
  pub blocks : List Block

-- where a live chunk is: the number of its block, the bytes that it may have, and whether it has the block for itself
pub record GenerationPlace : Type 0 where
  pub block : ℕ
  pub room : ℕ
  pub own : Bool

abbrev pub GenerationTaken : Type 0
GenerationTaken = Taken GenerationLedger GenerationPlace

abbrev pub GenerationResized : Type 0
GenerationResized = Resized GenerationLedger GenerationPlace

-- the block of a number, or one of no bytes
abbrev pub no_block : Block
no_block = record { number = 0; size = 0; room = 0; live = 0; freed = 0 }

abbrev pub block_in : GenerationLedger → ℕ → Block
block_in l number = unwrap_or (find (λ b. b.number == number) l.blocks) no_block

-- the block of a number is another one, in its place; a block is the last one; or it is there no more
abbrev pub put : GenerationLedger → Block → GenerationLedger
put l block = record l { blocks = map (put_at block) l.blocks }

abbrev pub added : GenerationLedger → Block → GenerationLedger
added l block = record l { count = l.count + 1; blocks = l.blocks ++ (block ∷ []) }

abbrev pub given : GenerationLedger → ℕ → GenerationLedger
given l number = record l { blocks = filter (is_other number) l.blocks }

-- how many bytes of its region stand before the header of a block: 200 of the keeper's
abbrev pub start_of : ℕ → ℕ
start_of number = if number == 1 then CONTEXT_BYTES else 0

-- a block of so many bytes with its whole room
abbrev pub whole : ℕ → ℕ → Block
whole number size = whole_block number (start_of number) size

-- a new context: one block, the keeper, which is current
unfoldable pub created : ℕ → ℕ → GenerationLedger
created init max = record {
  init = init;
  max = max;
  next = init;
  count = 1;
  current = 1;
  spare = None;
  blocks = whole 1 init ∷ [];
}

-- an empty block that isn't used any more becomes the spare where there is none, else it goes back
abbrev pub aside : Option ℕ → GenerationLedger → ℕ → GenerationLedger
aside None l number = record l { spare = Some number }
aside (Some other) l number = given l number

abbrev pub set_aside : GenerationLedger → ℕ → GenerationLedger
set_aside l number = aside l.spare l number

-- a block stops being current
unfoldable pub stopped : GenerationLedger → ℕ → GenerationLedger
stopped l number =
    if number == 1 then l
    else (if ((block_in l number).live == 0) then set_aside l number else l)

-- whether a block is the spare
abbrev pub is_spare : Option ℕ → ℕ → Bool
is_spare None number = false
is_spare (Some other) number = other == number

-- a block becomes current; where it was the spare, it is so no more before the old one stops
unfoldable pub turned : GenerationLedger → ℕ → GenerationLedger
turned l number = stopped (record l { current = number; spare = if is_spare l.spare number then None else l.spare }) l.current

-- a new block of so many bytes, and the next one is twice as large
unfoldable pub with_new : GenerationLedger → ℕ → GenerationLedger
with_new l size = record (added l (whole (l.count + 1) size)) { next = min (2 * l.next) l.max }

-- a chunk that takes so many bytes with its header is cut off the current block
unfoldable pub cut_off : GenerationLedger → ℕ → GenerationLedger
cut_off l bytes = put l (record (block_in l l.current) { room = (block_in l l.current).room - bytes; live = (block_in l l.current).live + 1 })

-- what the ledger answers where a chunk of so many bytes is cut off the current block, and so many bytes were asked
unfoldable pub cut : GenerationLedger → ℕ → ℕ → GenerationTaken
cut l room asked = record { ledger = cut_off l (room + CHUNK_HEADER); place = record { block = l.current; room = room; own = false }; asked = asked }

-- which block becomes current: the spare one, where it has the room
abbrev pub from_spare : Option ℕ → GenerationLedger → ℕ → Option ℕ
from_spare None l bytes = None
from_spare (Some number) l bytes = if nat_le bytes (block_in l number).room then Some number else None

-- else the keeper, where it isn't current, has no live chunk and has the room
abbrev pub from_keeper : GenerationLedger → ℕ → Option ℕ
from_keeper l bytes =
    if (l.current == 1) then None
    else (if ((block_in l 1).live == 0) then (if nat_le bytes (block_in l 1).room then Some 1 else None) else None)

abbrev pub first_of : Option ℕ → Option ℕ → Option ℕ
first_of None second = second
first_of (Some number) second = Some number

unfoldable pub chosen : GenerationLedger → ℕ → Option ℕ
chosen l bytes = first_of (from_spare l.spare l bytes) (from_keeper l bytes)

-- the size of a new block for so many bytes
unfoldable pub block_size : GenerationLedger → ℕ → ℕ
block_size l bytes = grown l.next (bytes + BLOCK_HEADER)

-- else a new block of this size, where so much is left of the account
unfoldable pub take_new : GenerationLedger → ℕ → ℕ → ℕ → Result GenerationTaken CtxError
take_new l left room size = if nat_le size left then Ok (cut (turned (with_new l size) (l.count + 1)) room size) else Err NoSpace

unfoldable pub take_from : Option ℕ → GenerationLedger → ℕ → ℕ → Result GenerationTaken CtxError
take_from None l left room = take_new l left room (block_size l (room + CHUNK_HEADER))
take_from (Some other) l left room = Ok (cut (turned l other) room 0)

-- a chunk is cut off the current block, where that has the room, or else off another one that becomes current
unfoldable pub take_cut : GenerationLedger → ℕ → ℕ → Result GenerationTaken CtxError
take_cut l left room = if nat_le (room + CHUNK_HEADER) (block_in l l.current).room then Ok (cut l room 0) else take_from (chosen l (room + CHUNK_HEADER)) l left room

-- what the ledger answers where a chunk has a new block for itself, which has no room
unfoldable pub owned : GenerationLedger → ℕ → GenerationTaken
owned l room = record {
  ledger = added l (record { number = l.count + 1; size = room + OWN_HEADERS; room = 0; live = 1; freed = 0 });
  place = record { block = l.count + 1; room = room; own = true };
  asked = room + OWN_HEADERS;
}

unfoldable pub take_own : GenerationLedger → ℕ → ℕ → Result GenerationTaken CtxError
take_own l left room = if nat_le (room + OWN_HEADERS) left then Ok (owned l room) else Err NoSpace

-- a request, where so much is left of the account
unfoldable pub take : GenerationLedger → ℕ → ℕ → Result GenerationTaken CtxError
take l left size =
    if nat_lt LARGEST size then Err TooBig
    else (if nat_lt LIMIT size then take_own l left (granted size) else take_cut l left (granted size))

-- the last live chunk of a shared block was freed: the keeper and the current block get their whole room again,
-- another one becomes the spare with its whole room where there is none, and goes back where there is one
abbrev pub filled : GenerationLedger → ℕ → Block
filled l number = whole number (block_in l number).size

abbrev pub emptied_other : Option ℕ → GenerationLedger → ℕ → GenerationLedger
emptied_other None l number = record (put l (filled l number)) { spare = Some number }
emptied_other (Some other) l number = given l number

unfoldable pub emptied : GenerationLedger → ℕ → GenerationLedger
emptied l number =
    if (number == 1) then put l (filled l number)
    else (if (l.current == number) then put l (filled l number) else emptied_other l.spare l number)

-- a chunk of a shared block is freed
unfoldable pub lessened : GenerationLedger → ℕ → GenerationLedger
lessened l number = put l (record (block_in l number) { live = (block_in l number).live - 1; freed = (block_in l number).freed + 1 })

unfoldable pub freed_shared : GenerationLedger → ℕ → GenerationLedger
freed_shared l number = if ((block_in l number).live == 1) then emptied l number else lessened l number

-- a chunk is freed: a block that it had for itself goes back
unfoldable pub give : GenerationLedger → GenerationPlace → GenerationLedger
give l place = if place.own then given l place.block else freed_shared l place.block

-- a new chunk was taken for one that is freed
abbrev pub moved : Result GenerationTaken CtxError → GenerationPlace → Result GenerationResized CtxError
moved (Ok taken) old = Ok (record { ledger = give taken.ledger old; place = taken.place; asked = taken.asked; stays = false })
moved (Err error) old = Err error

-- a chunk gets another size, where the account holds so much and may hold so much: it stays where it may have
-- that, else a new one is taken
unfoldable pub resize : GenerationLedger → ℕ → ℕ → GenerationPlace → ℕ → Result GenerationResized CtxError
resize l held limit place size =
    if nat_lt LARGEST size then Err TooBig
    else (if nat_le size place.room then Ok (record { ledger = l; place = place; asked = 0; stays = true }) else moved (take l (limit - held) size) place)

-- all chunks are freed, and all blocks but the keeper go back
unfoldable pub reset : GenerationLedger → GenerationLedger
reset l = created l.init l.max

-- what a chunk takes in its block, with its header
abbrev pub chunk_bytes : GenerationPlace → ℕ
chunk_bytes place = place.room + CHUNK_HEADER

-- what `stats` answers
unfoldable pub stats : GenerationLedger → Stats
stats l = record {
  total = sum_by (λ b. b.size) l.blocks;
  blocks = length l.blocks;
  free = sum_by (λ b. b.room) l.blocks;
  chunks = sum_by (λ b. b.freed) l.blocks;
}
