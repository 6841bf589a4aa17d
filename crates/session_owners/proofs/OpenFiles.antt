-- The open files are those that the owners hold.
use Rattle.session_owners.proofs.Base.{◌≡◌, ◌≢◌, ◌↔◌, ℕ, ◌≤◌, true, false, nat_eq, List, [], ◌∷◌, length, Result, Err, IfErr, refl, sym, ap, ◌∙◌, arith, ◌==◌, nat_lt, IsTrue, list_any, distinct_count, both_ways, nat_tests, sum_by-append}
use Rattle.session_owners.proofs.Words.{Item, KindId, Empty, Node, is_of, uses, OwnerTree, held, is_among, FileError, Memory, NoFile, Taken, TooMany, Files, opened_file, opens, opening_events, touch_events, touched_file, different_length, no_descriptor, file_kind, all_items, distinct, keys_of, files_held, holds_file}
use Rattle.file_table.specs.Files.{IsSound}
use Rattle.session_owners.proofs.OpenCounts.{any_counts}

-- how often owners hold a kind and key, by all their items
pub held_all : (kind : KindId) (key : ℕ) (owners : OwnerTree) → held kind key owners ≡ uses kind key (all_items owners)
held_all kind key Empty = refl
held_all kind key (Node n owner below beside) = grind (arith, nat_tests, held_all kind key below, held_all kind key beside, sum_by-append)

-- a file is open where an owner holds it
pub open_held : (files : Files) (owners : OwnerTree) (file : ℕ) → opens files file ≡ held file_kind file owners → is_among file files.opened ≡ holds_file file owners
open_held files owners file same =
    any_counts (λ other. file == other) files.opened
    ∙ ap (nat_lt 0) (same ∙ held_all file_kind file owners)
    ∙ sym (any_counts (is_of file_kind file) (all_items owners))

flip : (m n : ℕ) → (m == n) ≡ (n == m)
flip m n = grind (arith, nat_tests)

pub keys_among : (kind : KindId) (file : ℕ) (items : List Item) → is_among file (keys_of kind items) ≡ list_any (is_of kind file) items
keys_among kind file [] = refl
keys_among kind file (item ∷ items) = grind (arith, nat_tests, flip file item.key, keys_among kind file items)

any_flipped : (n : ℕ) (ns : List ℕ) → list_any (nat_eq n) ns ≡ list_any (λ m. m == n) ns
any_flipped n x1 = grind (arith, nat_tests, flip)

pub distinct_length : (ns : List ℕ) → distinct_count nat_eq ns ≡ length (distinct ns)
distinct_length [] = refl
distinct_length (n ∷ ns) = grind (arith, nat_tests, any_flipped n ns, distinct_length ns)

-- as many are open as owners hold
pub open_length : (files : Files) (owners : OwnerTree) → IsSound files → ((file : ℕ) → opens files file ≡ held file_kind file owners) → length files.opened ≡ length (files_held owners)
open_length files owners sound same = grind (arith, nat_tests, different_length files.opened (keys_of file_kind (all_items owners)) sound.distinct, keys_among file_kind, open_held files owners, distinct_length (keys_of file_kind (all_items owners)))

-- a file that is opened has no descriptor, and gets one
pub opened_touches : (files : Files) (file : ℕ) → IsSound files → is_among file files.opened ≡ false → (opened_file file files).recent ≡ (touched_file file files).recent
opened_touches files file sound closed = rw (no_descriptor files file sound closed) refl

pub opening_touches : (files : Files) (file : ℕ) → IsSound files → is_among file files.opened ≡ false → opening_events file files ≡ touch_events file files
opening_touches files file sound closed = rw (no_descriptor files file sound closed) refl

-- which files are open is no matter there
pub recent_alone : (files : Files) (opened : List ℕ) (file : ℕ) → (touched_file file files).recent ≡ (touched_file file (record files { opened = opened })).recent
recent_alone files opened file = grind (arith, nat_tests)

pub descriptors_kept : (files : Files) (file : ℕ) → (touched_file file files).descriptors ≡ files.descriptors
descriptors_kept files file = grind (arith, nat_tests)

-- where as many files are open as can be
pub full : (files : Files) (owners : OwnerTree) (file : ℕ) (r : Result (Unit {0}) FileError) → IsSound files → ((key : ℕ) → opens files key ≡ held file_kind key owners) → holds_file file owners ≡ false
    → (r ≡ Err TooMany) ↔ ((is_among file files.opened ≡ false) × (length files.opened ≡ 4096)) → (r ≡ Err TooMany) ↔ (4096 ≤ length (files_held owners))
full files owners file r sound same closed many = grind (arith, nat_tests, open_length files owners sound same, open_held files owners file (same file))

-- a file that no owner holds is not open
pub not_taken : (files : Files) (owners : OwnerTree) (file : ℕ) (r : Result (Unit {0}) FileError) → opens files file ≡ held file_kind file owners → holds_file file owners ≡ false
    → (r ≡ Err Taken) ↔ IsTrue (is_among file files.opened) → r ≢ Err NoFile → (r ≢ Err Taken) × (r ≢ Err NoFile)
not_taken files owners file r same closed taken other = grind (arith, nat_tests, both_ways (is_among file files.opened), open_held files owners file same)

-- one that an owner holds is
pub touch_wants : (files : Files) (owners : OwnerTree) (file : ℕ) (r : Result (Unit {0}) FileError) → opens files file ≡ held file_kind file owners → holds_file file owners ≡ true
    → (r ≡ Err NoFile) ↔ (is_among file files.opened ≡ false) → (r ≢ Err Taken) × (r ≢ Err TooMany) → IfErr r (λ error. error ≡ Memory)
touch_wants files owners file x3 same kept missing others = grind (arith, nat_tests, others.0, others.1, files.opened, missing.0, open_held)
