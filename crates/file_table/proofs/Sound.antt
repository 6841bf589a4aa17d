-- What holds of the open files stays so.
use Rattle.std.proofs.Common.{◌≡◌, ℕ, ◌-◌, ◌≤◌, Bool, true, false, List, [], ◌∷◌, ◌++◌, length, take, refl, sym, ap, subst, ◌∙◌, arith, length-append}
use Rattle.std.specs.Prelude.{◌≢◌, if◌then◌else◌}
use Rattle.std.proofs.lemmas.Bool.Decides.{nat_tests}
use Rattle.std.proofs.lemmas.List.{length-take}
use Rattle.file_table.specs.Descriptors.{Used, is_among, without, in_front}
use Rattle.file_table.specs.Files.{Files, IsSound, IsDistinct, opened_file, closed_file}
use Rattle.file_table.proofs.FileLists.{among_without, without_itself, kept_without, distinct_without, length-without, length-without_among, among_take, not_among_take, distinct_take, among_push, pushed_among, distinct_push}

-- a file that has no descriptor gets one; the open files may have become more
pub IsSound_given : (files : Files) (file : ℕ) (opened : List ℕ) → IsSound files → length opened ≤ 4096 → IsDistinct opened → ((g : ℕ) → is_among g files.opened ≡ true → is_among g opened ≡ true) → is_among file opened ≡ true → is_among file files.recent ≡ false → IsSound (record files { opened = opened; recent = file ∷ take (files.descriptors - 1) files.recent })
IsSound_given files file opened sound at_most distinct more here none = record {
  at_most = at_most;
  distinct = distinct;
  descriptors = sound.descriptors;
  fits = omega (arith, length-take (files.descriptors - 1) files.recent, sound.descriptors);
  recent_distinct = (not_among_take file (files.descriptors - 1) files.recent none, distinct_take (files.descriptors - 1) files.recent sound.recent_distinct);
  recent_open = front;
}
  where
    front : (g : ℕ) → is_among g (file ∷ take (files.descriptors - 1) files.recent) ≡ true → is_among g opened ≡ true
    front g there = grind (arith, nat_tests, among_take)

-- a file that has a descriptor is used
pub IsSound_in_front : (files : Files) (file : ℕ) → IsSound files → IsSound (record files { recent = in_front file files.recent })
IsSound_in_front files file sound = (elim (is_among file files.recent) as (λ b. is_among file files.recent ≡ b → IsSound (record files { recent = in_front file files.recent })) [
  | true ↦ λ there. rw there (record {
    at_most = sound.at_most;
    distinct = sound.distinct;
    descriptors = sound.descriptors;
    fits = omega (arith, length-without_among file files.recent there, sound.fits);
    recent_distinct = (without_itself file files.recent sound.recent_distinct, distinct_without file files.recent sound.recent_distinct);
    recent_open = front there;
  })
  | false ↦ λ none. rw none sound
]) refl
  where
    front : is_among file files.recent ≡ true → (g : ℕ) → is_among g (file ∷ without file files.recent) ≡ true → is_among g files.opened ≡ true
    front here g there = grind (arith, nat_tests, among_without)

-- a file is closed
pub IsSound_closed : (files : Files) (file : ℕ) → IsSound files → IsSound (closed_file file files)
IsSound_closed files file sound = grind (arith, nat_tests, length-without file files.opened, files.opened, sound.at_most, distinct_without, sound.distinct, sound.descriptors, length-without file files.recent, files.recent, sound.fits, sound.recent_distinct, kept_without, sound.recent_open, among_without, without file files.recent, without_itself)

-- a file that isn't open has no descriptor
pub no_descriptor : (files : Files) (file : ℕ) → IsSound files → is_among file files.opened ≡ false → is_among file files.recent ≡ false
no_descriptor files file sound none = grind (arith, nat_tests, files.recent, files.opened, sound.recent_open)

-- a file is opened: it comes last
pub IsSound_opened : (files : Files) (file : ℕ) → IsSound files → is_among file files.opened ≡ false → length files.opened ≢ 4096 → IsSound (opened_file file files)
IsSound_opened files file sound none room =
    IsSound_given files file (files.opened ++ file ∷ []) sound
    (omega (arith, length-append files.opened (file ∷ []), sound.at_most, room))
    (distinct_push file files.opened sound.distinct none)
    (λ g there. among_push g file files.opened there)
    (pushed_among file files.opened)
    (no_descriptor files file sound none)

-- the open files and the descriptors together
abbrev pub table : Used → List ℕ → Files
table used opened = record { descriptors = used.limit; opened = opened; recent = used.recent }

pub IsSound_at : (used used' : Used) (opened opened' : List ℕ) → used' ≡ used → opened' ≡ opened → IsSound (table used opened) → IsSound (table used' opened')
IsSound_at used used' opened opened' same same' sound = subst (λ u. IsSound (table u opened')) (sym same) (subst (λ os. IsSound (table used os)) (sym same') sound)

-- a file without a descriptor does not go in front
pub not_in_front : (used used' : Used) (file : ℕ) → used' ≡ record used { recent = in_front file used.recent } → is_among file used.recent ≡ false → used' ≡ used
not_in_front used used' file told none = told ∙ ap (λ (b : Bool). record used { recent = if b then file ∷ without file used.recent else used.recent }) none

-- an open file without a descriptor is used, and gets one
pub IsSound_used : (used touched given : Used) (opened : List ℕ) (file : ℕ) → IsSound (table used opened) → is_among file opened ≡ true → is_among file used.recent ≡ false → touched ≡ used → given ≡ record touched { recent = file ∷ take (touched.limit - 1) touched.recent } → IsSound (table given opened)
IsSound_used used touched given opened file sound here none same told =
    IsSound_at (record used { recent = file ∷ take (used.limit - 1) used.recent }) given opened opened
    (told ∙ ap (λ (u : Used). record u { recent = file ∷ take (u.limit - 1) u.recent }) same) refl
    (IsSound_given (table used opened) file opened sound sound.at_most sound.distinct (λ g there. there) here none)
