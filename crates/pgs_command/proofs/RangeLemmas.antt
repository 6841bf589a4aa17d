-- The numbers of each command are in their ranges.
use Rattle.std.proofs.Common.{◌≡◌, ℕ, ◌*◌, ◌+◌, Bool, true, List, [], ◌∷◌, ◌++◌, length, codes, Option, Some, None, Err, Result, IfSome, cond, refl, arith}
use Rattle.std.specs.Prelude.{⊤, ◌&&◌, IfOk}
use Rattle.std.specs.Option.{option_map, option_and_then, option_or}
use Rattle.std.specs.Result.{result_ok}
use Rattle.std.proofs.lemmas.Bool.Decides.{nat_tests}
use Rattle.hex.specs.Hex.{decode_pairs, pair_value, ◌>>=◌}
use Rattle.hex.specs.declared.error.FromHexError.{FromHexError}
use Rattle.pgs_command.specs.Words.{is_text, alone, next, only, behind}
use Rattle.pgs_command.specs.Values.{name_of, number_of, number_between, bytes_of, length_of, turns_of, kind_of, plain_kind}
use Rattle.pgs_command.specs.Table.{Reading, Row, none, one, two, three, with_kind, portal_without_bad, portal_with_bad, transaction_rows, item_rows, lock_rows, snapshot_rows, plan_rows, portal_rows, context_rows, chunk_rows, tell_rows, on_chunks, on_contexts, on_portals, on_transactions, table, look_up, command_of}
use Rattle.pgs_command.specs.Ranges.{IsBetween, IsKindInRange, IsInRange}
use Rattle.pgs_command.specs.declared.kinds.ContextKind.{ContextKind}
use Rattle.pgs_command.specs.declared.kinds.ContextKind.TheVariants.{Default, Small, Slab, Generation, Bump}
use Rattle.pgs_command.specs.declared.commands.Command.{Command}
use Rattle.pgs_command.specs.declared.commands.TransactionCommand.TheVariants.{RollbackTo}
use Rattle.pgs_command.specs.declared.commands.ContextCommand.TheVariants.{Create}
use Rattle.pgs_command.specs.declared.commands.ChunkCommand.TheVariants.{Put, Show}
use Rattle.pgs_command.specs.declared.commands.PortalCommand.TheVariants.{Fetch}

-- ---- values

ranged : (text low high : Bool) (n : ℕ) → IfSome (cond (text && (low && high)) (Some n) None) (λ m. (m ≡ n) × (low ≡ true) × (high ≡ true))
ranged x0 x1 x2 n = grind (arith, nat_tests)

weaker : {A : Type 0} (P Q : A → Type 0) → ((a : A) → P a → Q a) → (o : Option A) → IfSome o P → IfSome o Q
weaker P Q f x3 h = grind (arith, nat_tests)

number_in_range : (least most : ℕ) (word : List ℕ) → IfSome (number_between least most word) (IsBetween least most)
unfolding number_between
number_in_range least most word = grind (arith, nat_tests, weaker, ranged)

gate : {A : Type 0} (P : A → Type 0) (b : Bool) (o : Option A) → (b ≡ true → IfSome o P) → IfSome (cond b o None) P
gate P x1 o h = grind (arith, nat_tests)

bound : {A B : Type 0} (Q : A → Type 0) (P : B → Type 0) (r : Result A FromHexError) (f : A → Result B FromHexError) → IfOk r Q → ((a : A) → Q a → IfOk (f a) P) → IfOk (r >>= f) P
bound Q P x2 f q h = grind (arith, nat_tests)

always : {A E : Type 0} (r : Result A E) → IfOk r (λ a. ⊤)
always x0 = grind (arith, nat_tests)

-- two digits a byte
decode_pairs-length : (i : ℕ) (s : List ℕ) → IfOk (decode_pairs i s) (λ bytes. 2 * length bytes ≡ length s)
unfolding decode_pairs
decode_pairs-length i [] = refl
decode_pairs-length i (digit ∷ []) = tt
decode_pairs-length i (high ∷ low ∷ rest) = grind (arith, nat_tests, bound, always (pair_value high low i), decode_pairs-length (i + 2) rest)

odd_or : {A E : Type 0} (P : A → Type 0) (b : Bool) (e : E) (r : Result A E) → IfOk r P → IfSome (result_ok (cond b (Err e) r)) P
odd_or P x1 e x3 h = grind (arith, nat_tests)

pub bytes_in_range : (word : List ℕ) → IfSome (bytes_of word) (λ bytes. IsBetween 1 128 (length bytes))
unfolding bytes_of
bytes_in_range word = grind (arith, nat_tests, gate, weaker, odd_or, decode_pairs-length 0 word)

-- ---- the words of a row

abbrev InRange : Option Command → Type 0
InRange o = IfSome o IsInRange

abbrev Keeps : Reading → Type 0
Keeps reads = (words : List (List ℕ)) → InRange (reads words)

mapped : {A : Type 0} (P : A → Type 0) (make : A → Command) (o : Option A) → IfSome o P → ((a : A) → P a → IsInRange (make a)) → InRange (option_map make o)
mapped P make x2 p h = grind (arith, nat_tests)

anything : {A : Type 0} (o : Option A) → IfSome o (λ a. ⊤)
anything x0 = grind (arith, nat_tests)

alone-keeps : {A : Type 0} (P : A → Type 0) (value : A) → P value → (words : List (List ℕ)) → IfSome (alone value words) P
alone-keeps P value h x3 = grind (arith, nat_tests)

chained : {A B : Type 0} (Q : A → Type 0) (P : B → Type 0) (go_on : A → Option B) (o : Option A) → IfSome o Q → ((a : A) → Q a → IfSome (go_on a) P) → IfSome (option_and_then go_on o) P
chained Q P go_on x3 q h = grind (arith, nat_tests)

next-keeps : {A B : Type 0} (Q : A → Type 0) (P : B → Type 0) (read : List ℕ → Option A) (go_on : A → List (List ℕ) → Option B)
    → ((word : List ℕ) → IfSome (read word) Q) → ((a : A) → Q a → (words : List (List ℕ)) → IfSome (go_on a words) P)
    → (words : List (List ℕ)) → IfSome (next read go_on words) P
next-keeps Q P read go_on q h x6 = grind (arith, nat_tests, chained)

none-keeps : (command : Command) → IsInRange command → Keeps (none command)
none-keeps command h = alone-keeps IsInRange command h

one-keeps : {A : Type 0} (read : List ℕ → Option A) (make : A → Command) → ((a : A) → IsInRange (make a)) → Keeps (one read make)
one-keeps read make h words = mapped (λ a. ⊤) make (only read words) (anything (only read words)) (λ a _. h a)

two-keeps : {A B : Type 0} (Q : B → Type 0) (read : List ℕ → Option A) (read' : List ℕ → Option B) (make : A → B → Command)
    → ((word : List ℕ) → IfSome (read' word) Q) → ((a : A) (b : B) → Q b → IsInRange (make a b)) → Keeps (two read read' make)
two-keeps {A} {B} Q read read' make q h words = grind (arith, nat_tests, mapped, next-keeps, alone, anything, alone-keeps)

three-keeps : {A B C : Type 0} (P : A → Type 0) (Q : B → Type 0) (R : C → Type 0) (read : List ℕ → Option A) (read' : List ℕ → Option B) (read'' : List ℕ → Option C) (make : A → B → C → Command)
    → ((word : List ℕ) → IfSome (read word) P) → ((word : List ℕ) → IfSome (read' word) Q) → ((word : List ℕ) → IfSome (read'' word) R)
    → ((a : A) (b : B) (c : C) → P a → Q b → R c → IsInRange (make a b c)) → Keeps (three read read' read'' make)
three-keeps P Q R read read' read'' make p q r h = grind (arith, nat_tests, next-keeps, alone, alone-keeps)

-- ---- the rows

abbrev AllKeep : List Row → Type 0
AllKeep [] = ⊤
AllKeep (r ∷ rows) = Keeps r.reads × AllKeep rows

either : (o p : Option Command) → InRange o → InRange p → InRange (option_or o p)
either x0 p h k = grind (arith, nat_tests)

look_up-keeps : (rows : List Row) → AllKeep rows → (word : List ℕ) → Keeps (look_up rows word)
look_up-keeps [] h word words = tt
look_up-keeps (r ∷ rows) h word words = grind (arith, nat_tests, either, r.word, r.reads words, gate, h.0 words, look_up-keeps rows h.1 word words, h.1)

AllKeep-append : (a b : List Row) → AllKeep a → AllKeep b → AllKeep (a ++ b)
AllKeep-append [] b h k = k
AllKeep-append (r ∷ a) b h k = (h.0, AllKeep-append a b h.1 k)

-- ---- the table

rollback_to-keeps : Keeps (behind (codes "to") (one name_of (λ name. on_transactions (RollbackTo name))))
rollback_to-keeps x0 = grind (arith, nat_tests, gate, one, one-keeps)

plain : (a b c d : Bool) → IfSome (cond a (Some Default) (cond b (Some Small) (cond c (Some Generation) (cond d (Some Bump) None)))) IsKindInRange
plain x0 x1 x2 x3 = grind (arith, nat_tests)

plain_in_range : (word : List ℕ) → IfSome (plain_kind word) IsKindInRange
plain_in_range word = plain (is_text word (codes "default")) (is_text word (codes "small")) (is_text word (codes "generation")) (is_text word (codes "bump"))

sized : (o : Option ℕ) → IfSome o (IsBetween 1 1024) → IfSome (option_map Slab o) IsKindInRange
sized x0 h = grind (arith, nat_tests)

slab_in_range : (words : List (List ℕ)) → IfSome (behind (codes "slab") (λ words. option_map Slab (only (number_between 1 1024) words)) words) IsKindInRange
slab_in_range x0 = grind (arith, nat_tests, gate, only, sized, next-keeps, alone, number_in_range 1 1024, alone-keeps)

one_of : (o p : Option ContextKind) → IfSome o IsKindInRange → IfSome p IsKindInRange → IfSome (option_or o p) IsKindInRange
one_of x0 p h k = grind (arith, nat_tests)

kind_in_range : (words : List (List ℕ)) → IfSome (kind_of words) IsKindInRange
unfolding kind_of
kind_in_range words = grind (arith, nat_tests, one_of, only, behind, next-keeps, alone, plain_in_range, alone-keeps, slab_in_range)

with_kind-keeps : Keeps with_kind
with_kind-keeps =
    next-keeps (λ _. ⊤) IsInRange name_of (λ name. next name_of (λ parent words. option_map (λ kind. on_contexts (Create name parent kind)) (kind_of words))) (λ word. anything (name_of word))
    (λ name _. next-keeps (λ _. ⊤) IsInRange name_of (λ parent words. option_map (λ kind. on_contexts (Create name parent kind)) (kind_of words)) (λ word. anything (name_of word))
    (λ parent _ words. mapped IsKindInRange (λ kind. on_contexts (Create name parent kind)) (kind_of words) (kind_in_range words) (λ kind h. h)))

put-keeps : Keeps (three name_of number_of bytes_of (λ name at bytes. on_chunks (Put name at bytes)))
put-keeps =
    three-keeps (λ _. ⊤) (λ _. ⊤) (λ bytes. IsBetween 1 128 (length bytes)) name_of number_of bytes_of (λ name at bytes. on_chunks (Put name at bytes))
    (λ word. anything (name_of word)) (λ word. anything (number_of word)) bytes_in_range (λ _ _ _ _ _ h. h)

show-keeps : Keeps (three name_of number_of length_of (λ name at count. on_chunks (Show name at count)))
show-keeps = grind (arith, nat_tests, three-keeps, number_of, anything, number_in_range 1 128)

-- a number of OBJECT, ROWS and BAD
abbrev IsCount : ℕ → Type 0
IsCount n = IsBetween 0 1000000 n

portal-keeps : Keeps portal_without_bad
portal-keeps = grind (arith, nat_tests, three-keeps, anything, number_in_range 0 1000000)

portal_with_bad-keeps : Keeps portal_with_bad
portal_with_bad-keeps = grind (arith, nat_tests, next-keeps, three, anything, three-keeps, number_in_range 0 1000000)

-- the numbers of these rows take the whole range of their type
two_free : {A B : Type 0} (read : List ℕ → Option A) (read' : List ℕ → Option B) (make : A → B → Command) → ((a : A) (b : B) → IsInRange (make a b)) → Keeps (two read read' make)
two_free read read' make h = two-keeps (λ _. ⊤) read read' make (λ word. anything (read' word)) (λ a b _. h a b)

fetch-keeps : Keeps (two name_of turns_of (λ name count. on_portals (Fetch name count)))
fetch-keeps = two-keeps (IsBetween 1 1000000) name_of turns_of (λ name count. on_portals (Fetch name count)) (number_in_range 1 1000000) (λ _ _ h. h)

ruleset keeping = (none-keeps, one-keeps, two_free, rollback_to-keeps, with_kind-keeps, put-keeps, show-keeps, portal-keeps, portal_with_bad-keeps, fetch-keeps)

transaction_rows-keep : AllKeep transaction_rows
unfolding transaction_rows
transaction_rows-keep = search keeping

item_rows-keep : AllKeep item_rows
unfolding item_rows
item_rows-keep = search keeping

lock_rows-keep : AllKeep lock_rows
unfolding lock_rows
lock_rows-keep = search keeping

snapshot_rows-keep : AllKeep snapshot_rows
unfolding snapshot_rows
snapshot_rows-keep = search keeping

plan_rows-keep : AllKeep plan_rows
unfolding plan_rows
plan_rows-keep = search keeping

portal_rows-keep : AllKeep portal_rows
unfolding portal_rows
portal_rows-keep = search keeping

context_rows-keep : AllKeep context_rows
unfolding context_rows
context_rows-keep = search keeping

chunk_rows-keep : AllKeep chunk_rows
unfolding chunk_rows
chunk_rows-keep = search keeping

tell_rows-keep : AllKeep tell_rows
unfolding tell_rows
tell_rows-keep = search keeping

table-keeps : AllKeep table
table-keeps = grind (arith, nat_tests, AllKeep-append transaction_rows _ transaction_rows-keep (AllKeep-append item_rows _ item_rows-keep (AllKeep-append context_rows _ context_rows-keep (AllKeep-append chunk_rows _ chunk_rows-keep (AllKeep-append lock_rows _ lock_rows-keep (AllKeep-append snapshot_rows _ snapshot_rows-keep (AllKeep-append plan_rows _ plan_rows-keep (AllKeep-append portal_rows _ portal_rows-keep (tell_rows-keep)))))))), transaction_rows-keep, AllKeep-append item_rows _ item_rows-keep (AllKeep-append context_rows _ context_rows-keep (AllKeep-append chunk_rows _ chunk_rows-keep (AllKeep-append lock_rows _ lock_rows-keep (AllKeep-append snapshot_rows _ snapshot_rows-keep (AllKeep-append plan_rows _ plan_rows-keep (AllKeep-append portal_rows _ portal_rows-keep (tell_rows-keep))))))), item_rows-keep, AllKeep-append context_rows _ context_rows-keep (AllKeep-append chunk_rows _ chunk_rows-keep (AllKeep-append lock_rows _ lock_rows-keep (AllKeep-append snapshot_rows _ snapshot_rows-keep (AllKeep-append plan_rows _ plan_rows-keep (AllKeep-append portal_rows _ portal_rows-keep (tell_rows-keep)))))), context_rows-keep, AllKeep-append chunk_rows _ chunk_rows-keep (AllKeep-append lock_rows _ lock_rows-keep (AllKeep-append snapshot_rows _ snapshot_rows-keep (AllKeep-append plan_rows _ plan_rows-keep (AllKeep-append portal_rows _ portal_rows-keep (tell_rows-keep))))), chunk_rows-keep, AllKeep-append lock_rows _ lock_rows-keep (AllKeep-append snapshot_rows _ snapshot_rows-keep (AllKeep-append plan_rows _ plan_rows-keep (AllKeep-append portal_rows _ portal_rows-keep (tell_rows-keep)))), lock_rows-keep, AllKeep-append snapshot_rows _ snapshot_rows-keep (AllKeep-append plan_rows _ plan_rows-keep (AllKeep-append portal_rows _ portal_rows-keep (tell_rows-keep))), snapshot_rows-keep, AllKeep-append plan_rows _ plan_rows-keep (AllKeep-append portal_rows _ portal_rows-keep (tell_rows-keep)), plan_rows-keep, AllKeep-append portal_rows _ portal_rows-keep (tell_rows-keep), portal_rows-keep, tell_rows-keep)

pub command_of-in_range : (words : List (List ℕ)) → IfSome (command_of words) IsInRange
unfolding command_of
command_of-in_range x0 = grind (arith, nat_tests, look_up-keeps, table-keeps)
