-- The ledger of a Bump context: its numbers, without addresses.
use Rattle.std.specs.Prelude.{ℕ, ◌+◌, ◌-◌, ◌*◌, nat_lt, nat_le, min, if◌then◌else◌, Result, Ok, Err}
use Rattle.chunk_header.specs.declared.CtxError.{CtxError}
use Rattle.chunk_header.specs.declared.CtxError.TheVariants.{TooBig, NoSpace, Unsupported}
use Rattle.chunk_header.specs.declared.Stats.{Stats}
use Rattle.chunk_header.specs.Answers.{Taken, Resized}
use Rattle.chunk_header.specs.Growth.{grown, granted}
use Rattle.chunk_header.specs.declared.TheConstants.{LARGEST, BLOCK_HEADER, KEEPER_HEADERS}
use Rattle.bump_ctx.specs.declared.books.TheConstants.{LIMIT}

-- the sizes that it was created with; the size of the next block; the bytes of all blocks and how many they
-- are; and the room of the newest ordinary block, off which chunks are cut, and the rooms of all others
pub record BumpLedger : Type 0 where
  pub init : ℕ
  pub max : ℕ
  pub next : ℕ
  pub total : ℕ
  pub blocks : ℕ
  pub room : ℕ
  pub idle : ℕ

-- where a live chunk is: the ledger needs to know nothing of it
pub data BumpPlace : Type 0 where
  Anywhere : BumpPlace

abbrev pub BumpTaken : Type 0
BumpTaken = Taken BumpLedger BumpPlace

abbrev pub BumpResized : Type 0
BumpResized = Resized BumpLedger BumpPlace

-- what the ledger answers to a request that was served and asked so many bytes
abbrev pub served : BumpLedger → ℕ → BumpTaken
served l asked = record { ledger = l; place = Anywhere; asked = asked }

-- a new context: one block, the keeper
unfoldable pub created : ℕ → ℕ → BumpLedger
created init max = record {
  init = init;
  max = max;
  next = init;
  total = init;
  blocks = 1;
  room = init - KEEPER_HEADERS;
  idle = 0;
}

-- a chunk that has so many bytes is cut off the newest block
unfoldable pub cut_off : BumpLedger → ℕ → BumpLedger
cut_off l room = record l { room = l.room - room }

-- a new block of so many bytes is the newest one
unfoldable pub renewed : BumpLedger → ℕ → BumpLedger
renewed l size = record {
  init = l.init;
  max = l.max;
  next = min (2 * l.next) l.max;
  total = l.total + size;
  blocks = l.blocks + 1;
  room = size - BLOCK_HEADER;
  idle = l.idle + l.room;
}

-- the size of a new block for a chunk that has so many bytes
unfoldable pub block_size : BumpLedger → ℕ → ℕ
block_size l room = grown l.next (room + BLOCK_HEADER)

-- a chunk is cut off a new block of a size, where so much is left of the account
unfoldable pub take_new : BumpLedger → ℕ → ℕ → ℕ → Result BumpTaken CtxError
take_new l left room size = if nat_le size left then Ok (served (cut_off (renewed l size) room) size) else Err NoSpace

-- a chunk is cut off the newest block, where that has the room, or else off a new one
unfoldable pub take_cut : BumpLedger → ℕ → ℕ → Result BumpTaken CtxError
take_cut l left room =
    if nat_le room l.room then Ok (served (cut_off l room) 0) else take_new l left room (block_size l room)

-- a block of so many bytes, all of which one chunk has
unfoldable pub with_own : BumpLedger → ℕ → BumpLedger
with_own l size = record l { total = l.total + size; blocks = l.blocks + 1 }

unfoldable pub take_own : BumpLedger → ℕ → ℕ → Result BumpTaken CtxError
take_own l left size = if nat_le size left then Ok (served (with_own l size) size) else Err NoSpace

-- a request, where so much is left of the account
unfoldable pub take : BumpLedger → ℕ → ℕ → Result BumpTaken CtxError
take l left size =
    if nat_lt LARGEST size then Err TooBig
    else (if nat_lt LIMIT size then take_own l left (granted size + BLOCK_HEADER) else take_cut l left (granted size))

-- why no chunk gets another size
unfoldable pub refusal : ℕ → CtxError
refusal size = if nat_lt LARGEST size then TooBig else Unsupported

abbrev pub resize : BumpLedger → ℕ → ℕ → BumpPlace → ℕ → Result BumpResized CtxError
resize l held limit place size = Err (refusal size)

-- all chunks go, and all blocks but the keeper go back
abbrev pub reset : BumpLedger → BumpLedger
reset l = created l.init l.max

-- what `stats` answers
unfoldable pub stats : BumpLedger → Stats
stats l = record { total = l.total; blocks = l.blocks; free = l.room + l.idle; chunks = 0 }
