-- What a word of a line stands for, where it stands for anything.
use Rattle.std.specs.Prelude.{ℕ, ◌&&◌, nat_le, if◌then◌else◌, List, [], ◌∷◌, length, codes, find, Option, Some, None}
use Rattle.std.specs.Option.{option_map, option_or, unwrap_or}
use Rattle.std.specs.Result.{result_ok}
use Rattle.std.specs.List.{list_all}
use Rattle.std.specs.Fmt.{decimal}
use Rattle.std.specs.Str.Parse.{digits_value}
use Rattle.pgs_command.specs.Words.{is_text, only, behind}
use Rattle.hex.specs.Hex.{decode_of}
use Rattle.pgs_step.specs.Name.{is_name_byte}
use Rattle.pgs_step.specs.Mode.{mode_name}
use Rattle.pgs_step.specs.declared.lock_modes.Mode.{Mode}
use Rattle.pgs_step.specs.declared.lock_modes.Mode.TheVariants.{AccessShareLock, RowShareLock, RowExclusiveLock, ShareUpdateExclusiveLock, ShareLock, ShareRowExclusiveLock, ExclusiveLock, AccessExclusiveLock}
use Rattle.pgs_command.specs.declared.kinds.ReferenceClass.{ReferenceClass}
use Rattle.pgs_command.specs.declared.kinds.ReferenceClass.TheVariants.{Relcache, Catcache, CatcacheList, TupleDescriptor}
use Rattle.pgs_command.specs.declared.kinds.ContextKind.{ContextKind}
use Rattle.pgs_command.specs.declared.kinds.ContextKind.TheVariants.{Default, Small, Slab, Generation, Bump}

-- NAME, PARENT, CHUNK: 1 to 32 letters a to z and A to Z, digits and underscores
unfoldable pub name_of : List ℕ → Option (List ℕ)
name_of word = if nat_le 1 (length word) && (nat_le (length word) 32 && list_all is_name_byte word) then Some word else None

-- a number from least to most in decimal digits, with no sign and no leading zero
unfoldable pub number_between : ℕ → ℕ → List ℕ → Option ℕ
number_between least most word =
    let n = digits_value 10 word in
    if is_text word (decimal n) && (nat_le least n && nat_le n most) then Some n else None

-- N
abbrev pub number_of : List ℕ → Option ℕ
number_of word = number_between 0 4294967295 word

-- HEX: 2 to 256 hexadecimal digits in either case, an even number of them
unfoldable pub bytes_of : List ℕ → Option (List ℕ)
bytes_of word = if nat_le 2 (length word) && nat_le (length word) 256 then result_ok (decode_of word) else None

-- the bytes that such digits write
abbrev pub bytes_in : List ℕ → List ℕ
bytes_in word = unwrap_or (bytes_of word) []

-- LEN
abbrev pub length_of : List ℕ → Option ℕ
length_of word = number_between 1 128 word

-- OBJECT, ROWS, BAD
abbrev pub count_of : List ℕ → Option ℕ
count_of word = number_between 0 1000000 word

-- COUNT
abbrev pub turns_of : List ℕ → Option ℕ
turns_of word = number_between 1 1000000 word

-- CLASS
unfoldable pub class_of : List ℕ → Option ReferenceClass
class_of word =
    if is_text word (codes "relcache") then Some Relcache
    else if is_text word (codes "catcache") then Some Catcache
    else if is_text word (codes "catlist") then Some CatcacheList
    else if is_text word (codes "tupdesc") then Some TupleDescriptor
    else None

-- the modes of locks, from the weakest to the strongest
abbrev pub modes : List Mode
modes = AccessShareLock ∷ RowShareLock ∷ RowExclusiveLock ∷ ShareUpdateExclusiveLock ∷ ShareLock ∷ ShareRowExclusiveLock ∷ ExclusiveLock ∷ AccessExclusiveLock ∷ []

-- MODE: the name of a mode
unfoldable pub mode_of : List ℕ → Option Mode
mode_of word = find (λ mode. is_text word (mode_name mode)) modes

-- KIND of one word
abbrev pub plain_kind : List ℕ → Option ContextKind
plain_kind word =
    if is_text word (codes "default") then Some Default
    else if is_text word (codes "small") then Some Small
    else if is_text word (codes "generation") then Some Generation
    else if is_text word (codes "bump") then Some Bump
    else None

-- KIND: one word, or `slab SIZE` with SIZE from 1 to 1024
unfoldable pub kind_of : List (List ℕ) → Option ContextKind
kind_of words = option_or (only plain_kind words) (behind (codes "slab") (λ words. option_map Slab (only (number_between 1 1024) words)) words)
