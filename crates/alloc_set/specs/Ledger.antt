-- The ledger of an AllocSet: its numbers, without addresses.
use Rattle.std.specs.Prelude.{ℕ, zero, suc, ◌==◌, max, true, false, ◌+◌, ◌-◌, ◌*◌, ◌/◌, ◌%◌, ◌^◌, List, [], ◌∷◌, nat_lt, nat_le, min, if◌then◌else◌, Option, Some, None, Result, Ok, Err, slice_index, slice_set, replicate, sum}
use Rattle.chunk_header.specs.declared.CtxError.{CtxError}
use Rattle.chunk_header.specs.declared.CtxError.TheVariants.{TooBig, NoSpace}
use Rattle.chunk_header.specs.declared.Stats.{Stats}
use Rattle.chunk_header.specs.Growth.{up8, grown}
use Rattle.chunk_header.specs.Answers.{Taken, Resized}
use Rattle.chunk_header.specs.declared.TheConstants.{LARGEST, BLOCK_HEADER, CHUNK_HEADER, KEEPER_HEADERS, OWN_HEADERS, LAST_CLASS, CLASSES}
use Rattle.alloc_set.specs.declared.books.TheConstants.{LARGE}

-- the sizes that it was created with; the size of the next block; the bytes of all blocks and how many they
-- are; the room of the active block, off which chunks are cut, and the rooms of all others; and how many free
-- chunks there are of each class
pub record SetLedger : Type 0 where
  pub init : ℕ
  pub max : ℕ
  pub next : ℕ
  pub total : ℕ
  pub blocks : ℕ
  pub room : ℕ
  pub idle : ℕ
  pub free : List ℕ

-- where a live chunk is, as far as the ledger needs to know: its class, or the size of the block that it has for
-- itself
pub data SetPlace : Type 0 where
  Class : ℕ → SetPlace
  Own : ℕ → SetPlace

-- the size of the chunks of a class: 8 of class 0, and twice that of the class before
abbrev pub class_size : ℕ → ℕ
class_size class = 8 * 2 ^ class

-- what such a chunk takes in a block, with its header
abbrev pub class_bytes : ℕ → ℕ
class_bytes class = class_size class + CHUNK_HEADER

-- the least class up to a last one whose chunks have this size, and the one behind the last where none has
unfoldable pub class_up_to : ℕ → ℕ → ℕ
class_up_to zero size = 0
class_up_to (suc last) size = if nat_le size (class_size last) then class_up_to last size else suc last

-- the class that serves a request, which is the last one at most
unfoldable pub class_of : ℕ → ℕ
class_of size = class_up_to LAST_CLASS size

-- the greatest class, from one downwards, of whose chunks a block of the greatest size has four
unfoldable pub limit_class : ℕ → ℕ → ℕ
limit_class zero max = 0
limit_class (suc class) max = if nat_le (class_bytes (suc class)) ((max - BLOCK_HEADER) / 4) then suc class else limit_class class max

-- the greatest request that is served by a class: that of the last one, halved while it and its header are over a quarter of
-- what the greatest block has
unfoldable pub chunk_limit : ℕ → ℕ
chunk_limit max = class_size (limit_class LAST_CLASS max)

-- a new context: one block, the keeper
unfoldable pub created : ℕ → ℕ → SetLedger
created init max = record {
  init = init;
  max = max;
  next = init;
  total = init;
  blocks = 1;
  room = init - KEEPER_HEADERS;
  idle = 0;
  free = replicate CLASSES 0;
}

-- so many free chunks of a class more
abbrev pub with_free : List ℕ → ℕ → ℕ → List ℕ
with_free free class more = slice_set free class (slice_index free class + more)

-- a chunk of a class is freed
abbrev pub shelved : SetLedger → ℕ → SetLedger
shelved l class = record l { free = with_free l.free class 1 }

-- what is left of a room, and the free chunks, once the room was cut up into free chunks of the classes below
-- one, of the greatest that fits each time
unfoldable pub cut_up : ℕ → ℕ → List ℕ → List ℕ
cut_up zero room free = free
cut_up (suc class) room free = cut_up class (room % class_bytes class) (with_free free class (room / class_bytes class))

unfoldable pub cut_rest : ℕ → ℕ → ℕ
cut_rest zero room = room
cut_rest (suc class) room = cut_rest class (room % class_bytes class)

-- a block's size, halved while it is more than what is left of the account, over `LARGE` and would not fall
-- below a need, so many times at most; nothing where it doesn't fit
unfoldable pub halved_by : ℕ → ℕ → ℕ → ℕ → Option ℕ
halved_by zero left need size = if nat_le size left then Some size else None
halved_by (suc times) left need size =
    if nat_le size left then Some size
    else (if nat_lt LARGE size then (if nat_le need (size / 2) then halved_by times left need (size / 2) else None) else None)

-- the same, as often as it takes
unfoldable pub halved : ℕ → ℕ → ℕ → Option ℕ
halved left need size = halved_by size left need size

-- the size of the new block for a chunk, where that is to be had
unfoldable pub block_size : SetLedger → ℕ → ℕ → Option ℕ
block_size l left class = halved left (class_size class + OWN_HEADERS) (grown l.next (class_size class + OWN_HEADERS))

-- a new block is had: the rest of the old one is cut up, and the new one is active
unfoldable pub renewed : SetLedger → ℕ → SetLedger
renewed l size = record {
  init = l.init;
  max = l.max;
  next = min (2 * l.next) l.max;
  total = l.total + size;
  blocks = l.blocks + 1;
  room = size - BLOCK_HEADER;
  idle = l.idle + cut_rest CLASSES l.room;
  free = cut_up CLASSES l.room l.free;
}

-- a chunk is cut off the active block
unfoldable pub cut_off : SetLedger → ℕ → SetLedger
cut_off l class = record l { room = l.room - class_bytes class }

-- a free chunk of a class is taken
unfoldable pub reused : SetLedger → ℕ → SetLedger
reused l class = record l { free = slice_set l.free class (slice_index l.free class - 1) }

-- what a ledger answers to a request of a class, which asks so many bytes from the space
abbrev pub of_class : SetLedger → ℕ → ℕ → Taken SetLedger SetPlace
of_class l class asked = record { ledger = l; place = Class class; asked = asked }

-- a chunk is cut off a new block, where that is to be had
unfoldable pub from_new : SetLedger → ℕ → Option ℕ → Result (Taken SetLedger SetPlace) CtxError
from_new l class None = Err NoSpace
from_new l class (Some size) = Ok (of_class (cut_off (renewed l size) class) class size)

-- a request of a class, where so much is left of the account: a free chunk, else a part of the active block,
-- else a new block
unfoldable pub take_class : SetLedger → ℕ → ℕ → Result (Taken SetLedger SetPlace) CtxError
take_class l left class =
    if nat_lt 0 (slice_index l.free class) then Ok (of_class (reused l class) class 0)
    else (if nat_le (class_bytes class) l.room then Ok (of_class (cut_off l class) class 0) else from_new l class (block_size l left class))

-- the size of an own block for a request
abbrev pub own_size : ℕ → ℕ
own_size size = up8 size + OWN_HEADERS

-- an own block is had
unfoldable pub with_own : SetLedger → ℕ → SetLedger
with_own l size = record l { total = l.total + size; blocks = l.blocks + 1 }

-- an own block goes back
unfoldable pub without_own : SetLedger → ℕ → SetLedger
without_own l size = record l { total = l.total - size; blocks = l.blocks - 1 }

-- what a ledger answers once it has an own block of this size
abbrev pub of_own : SetLedger → ℕ → Taken SetLedger SetPlace
of_own l size = record { ledger = with_own l size; place = Own size; asked = size }

unfoldable pub take_own : SetLedger → ℕ → ℕ → Result (Taken SetLedger SetPlace) CtxError
take_own l left size = if nat_le size left then Ok (of_own l size) else Err NoSpace

-- a request, where so much is left of the account
unfoldable pub take : SetLedger → ℕ → ℕ → Result (Taken SetLedger SetPlace) CtxError
take l left size =
    if nat_lt LARGEST size then Err TooBig
    else (if nat_lt (chunk_limit l.max) size then take_own l left (own_size size) else take_class l left (class_of size))

-- a chunk is freed: one of a class is one more free chunk of it, and an own block goes back
unfoldable pub give : SetLedger → SetPlace → SetLedger
give l (Class class) = shelved l class
give l (Own size) = without_own l size

-- the chunk stays where it is, with a ledger and a place, and asks so many bytes
abbrev pub in_place : SetLedger → SetPlace → ℕ → Resized SetLedger SetPlace
in_place l place asked = record { ledger = l; place = place; asked = asked; stays = true }

-- once another chunk was taken, the old one of a class is free
abbrev pub then_shelved : Result (Taken SetLedger SetPlace) CtxError → ℕ → Result (Resized SetLedger SetPlace) CtxError
then_shelved (Ok t) class = Ok (record { ledger = shelved t.ledger class; place = t.place; asked = t.asked; stays = false })
then_shelved (Err e) class = Err e

-- a chunk of a class stays in place where the class has the size; else another one is taken
unfoldable pub resize_class : SetLedger → ℕ → ℕ → ℕ → ℕ → Result (Resized SetLedger SetPlace) CtxError
resize_class l held limit class size =
    if nat_le size (class_size class) then Ok (in_place l (Class class) 0) else then_shelved (take l (limit - held) size) class

-- an own block has another size
abbrev pub with_block : SetLedger → ℕ → ℕ → SetLedger
with_block l old new = record l { total = l.total - old + new }

-- an own block gets another size in place, where that is within the limit
unfoldable pub resize_block : SetLedger → ℕ → ℕ → ℕ → ℕ → Result (Resized SetLedger SetPlace) CtxError
resize_block l held limit old new =
    if old == new then Ok (in_place l (Own old) 0)
    else (if nat_le (held - old + new) limit then Ok (in_place (with_block l old new) (Own new) (new - old)) else Err NoSpace)

-- the size of an own block for another size of its chunk: it doesn't fall to what a class serves
abbrev pub kept_size : SetLedger → ℕ → ℕ
kept_size l size = own_size (max size (chunk_limit l.max + 1))

-- the resizing of a chunk at a place, by what the account holds and may hold
abbrev pub resize_at : SetLedger → ℕ → ℕ → SetPlace → ℕ → Result (Resized SetLedger SetPlace) CtxError
resize_at l held limit (Class class) size = resize_class l held limit class size
resize_at l held limit (Own old) size = resize_block l held limit old (kept_size l size)

-- the same, up to the greatest size
unfoldable pub resize : SetLedger → ℕ → ℕ → SetPlace → ℕ → Result (Resized SetLedger SetPlace) CtxError
resize l held limit place size = if nat_lt LARGEST size then Err TooBig else resize_at l held limit place size

-- all chunks are freed, and all blocks but the keeper go back
abbrev pub reset : SetLedger → SetLedger
reset l = created l.init l.max

-- what a chunk takes in its block, with its header
abbrev pub chunk_bytes : SetLedger → SetPlace → ℕ
chunk_bytes l (Class class) = class_bytes class
chunk_bytes l (Own size) = size - BLOCK_HEADER

-- the bytes of the free chunks of a list that begins at a class
abbrev pub free_bytes : ℕ → List ℕ → ℕ
free_bytes class [] = 0
free_bytes class (count ∷ counts) = class_bytes class * count + free_bytes (class + 1) counts

-- what `stats` answers
unfoldable pub stats : SetLedger → Stats
stats l = record {
  total = l.total;
  blocks = l.blocks;
  free = l.room + l.idle + free_bytes 0 l.free;
  chunks = sum l.free;
}
