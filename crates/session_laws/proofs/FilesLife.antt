-- Descriptors are opened and closed in turns: what a reader has seen of a file fits how often it is among those that have one.
use Rattle.session_laws.proofs.Words.{◌≡◌, ℕ, zero, suc, ◌+◌, ◌-◌, ◌≤◌, Bool, true, false, cond, nat_eq, if◌then◌else◌, List, [], ◌∷◌, length, take, Option, Some, None, refl, sym, ap, subst, ◌∙◌, arith, slice_get, and_from, and_parts, le-leb, eqb-true, nat_tests, sum_by-cons, closes, opens, slice_get_within}
use Rattle.session_laws.proofs.Scenes.{What, Scene, Around, Moment, descriptor_left, descriptor_given, files, Error, Command, SessionState, opening, exited, turn, is_among, without, given_events, given_file, loser}
use Rattle.session_laws.proofs.Rules.{Reader, count, said_none, said_one, of_recent, of_descriptors, times, times_none, times_without}
use Rattle.file_table.proofs.FileLists.{length-without_among, not_among_take}
use Rattle.session_laws.proofs.Lives.{IsRead, Reads, read_both}
use Rattle.session_laws.proofs.LocksSight.{ArePlain, PassesOver, Sees, Subject, hides, of_files, read_plain, subject, locks_hidden, Base, least_of, locked_hidden, pushed_hidden, unlocked_hidden, any_turn, session_exits, by_owner_made, stack_hidden, Turns}
use Rattle.pgs_step.specs.declared.events.What.TheVariants as what

-- 1 where two files are one
abbrev pub mark : ℕ → ℕ → ℕ
mark f c = cond (nat_eq f c) 1 0

pub times_more : (f x : ℕ) (xs : List ℕ) → times f (x ∷ xs) ≡ mark f x + times f xs
times_more f x xs = sum_by-cons (λ other. cond (nat_eq f other) 1 0) x xs

swapped : (a b : ℕ) → nat_eq a b ≡ nat_eq b a
swapped a b = grind (arith, nat_tests)

pub mark_swapped : (a b : ℕ) → mark a b ≡ mark b a
mark_swapped a b = ap (λ t. cond t 1 0) (swapped a b)

-- the file that was used least recently loses its descriptor
pub without_last : (f k : ℕ) (xs : List ℕ) (c : ℕ) → length xs ≤ k + 1 → slice_get xs k ≡ Some c → times f xs ≡ times f (take k xs) + mark f c
without_last f k [] c l e = absurd (cc e)
without_last f zero (x ∷ []) c l e = grind (arith, nat_tests, times_more)
without_last f zero (x ∷ (y ∷ ys)) c l e = absurd (omega (arith, l))
without_last f (suc k) (x ∷ xs) c l e = omega (arith, without_last f k xs c (omega (arith, l)) e, times_more f x xs, times_more f x (take k xs))

pub none_last : (k : ℕ) (xs : List ℕ) → slice_get xs k ≡ None → take k xs ≡ xs
none_last zero [] e = refl
none_last (suc k) [] e = refl
none_last zero (x ∷ xs) e = absurd (cc e)
none_last (suc k) (x ∷ xs) e = ap (λ (ys : List ℕ). x ∷ ys) (none_last k xs e)

pub taken_length : (k : ℕ) (xs : List ℕ) → length (take k xs) ≤ k
taken_length zero xs = omega arith
taken_length (suc k) [] = omega arith
taken_length (suc k) (x ∷ xs) = omega (arith, taken_length k xs)

-- a reader of one file, and how what it has seen fits how often the file has a descriptor
pub record Turning (f : ℕ) (reader : Reader ℕ) (Counted : ℕ → ℕ → Type 0) : Type 0 where
  pub over : PassesOver of_files reader
  pub shut : (n t c : ℕ) → Counted n (t + mark f c) → (reader.allows (what.DescriptorClosed c) n ≡ true) × Counted (reader.next (what.DescriptorClosed c) n) t
  pub open_it : (n t c : ℕ) → (nat_eq f c ≡ true → t ≡ 0) → Counted n t → (reader.allows (what.DescriptorOpened c) n ≡ true) × Counted (reader.next (what.DescriptorOpened c) n) (t + mark f c)

-- besides, no more files have a descriptor than there are, or one
pub record FilesFit (f : ℕ) (Counted : ℕ → ℕ → Type 0) (n : ℕ) (s : Scene) : Type 0 where
  pub counted : Counted n (times f s.session.recent)
  pub within : length s.session.recent ≤ s.around.descriptors - 1 + 1

abbrev pub with_recent : List ℕ → Scene → Scene
with_recent recent s = record s { session = record s.session { recent = recent } }

module _ (f : ℕ) (reader : Reader ℕ) (Counted : ℕ → ℕ → Type 0) (turning : Turning f reader Counted) where
  abbrev Fits : ℕ → Scene → Type 0
  Fits = FilesFit f Counted

  -- as often as before
  reordered : (n : ℕ) (s : Scene) (ys : List ℕ) → times f ys ≡ times f s.session.recent → length ys ≤ length s.session.recent → Fits n s → IsRead reader Fits n (with_recent ys s) []
  reordered n s ys same short h = record { allowed = refl; fits = record { counted = subst (Counted n) (sym same) h.counted; within = omega (arith, short, h.within) } }

  -- one closes
  shuts : (n : ℕ) (s : Scene) (ys : List ℕ) (c : ℕ) → times f s.session.recent ≡ times f ys + mark f c → length ys ≤ length s.session.recent → Fits n s → IsRead reader Fits n (with_recent ys s) (what.DescriptorClosed c ∷ [])
  shuts n s ys c less short h = grind (arith, nat_tests, and_from)

  -- one opens
  opens_one : (n : ℕ) (s : Scene) (c : ℕ) → is_among c s.session.recent ≡ false → length s.session.recent ≤ s.around.descriptors - 1 → Fits n s
      → IsRead reader Fits n (with_recent (c ∷ s.session.recent) s) (what.DescriptorOpened c ∷ [])
  opens_one n s c fresh room h =
      let one = turning.open_it n (times f s.session.recent) c (λ e. times_none f s.session.recent (ap (λ (k : ℕ). is_among k s.session.recent) (eqb-true f c e) ∙ fresh)) h.counted in
      record {
        allowed = and_from _ true one.0 refl;
        fits = record { counted = subst (Counted (reader.next (what.DescriptorOpened c) n)) (omega (arith, times_more f c s.session.recent)) one.1; within = omega (arith, room) };
      }

  -- a file is used that has a descriptor, and one that has none
  used_again : (n : ℕ) (s : Scene) (file : ℕ) → is_among file s.session.recent ≡ true → Fits n s → IsRead reader Fits n (with_recent (file ∷ without file s.session.recent) s) []
  used_again n s file among h =
      reordered n s (file ∷ without file s.session.recent)
      (omega (arith, times_without f file s.session.recent among, times_more f file (without file s.session.recent), mark_swapped f file))
      (omega (arith, length-without_among file s.session.recent among)) h

  given : (n : ℕ) (s : Scene) (file : ℕ) (o : Option ℕ) → slice_get s.session.recent (s.around.descriptors - 1) ≡ o → is_among file s.session.recent ≡ false → Fits n s
      → IsRead reader Fits n (with_recent (file ∷ take (s.around.descriptors - 1) s.session.recent) s) (given_events o file)
  given n s file None e fresh h =
      let k : ℕ = s.around.descriptors - 1 in
      let same : take k s.session.recent ≡ s.session.recent = none_last k s.session.recent e in
      let room : length s.session.recent ≤ k = subst (λ (xs : List ℕ). length xs ≤ k) same (taken_length k s.session.recent) in
      subst (λ (xs : List ℕ). IsRead reader Fits n (with_recent (file ∷ xs) s) (what.DescriptorOpened file ∷ [])) (sym same) (opens_one n s file fresh room h)
  given n s file (Some c) e fresh h =
      let k : ℕ = s.around.descriptors - 1 in
      let u : Scene = with_recent (take k s.session.recent) s in
      let first : IsRead reader Fits n u (what.DescriptorClosed c ∷ []) =
      shuts n s (take k s.session.recent) c (without_last f k s.session.recent c h.within e) (omega (arith, taken_length k s.session.recent, slice_get_within s.session.recent k c e)) h in
      let later : IsRead reader Fits (reader.next (what.DescriptorClosed c) n) (with_recent (file ∷ take k s.session.recent) s) (what.DescriptorOpened file ∷ []) =
      opens_one (reader.next (what.DescriptorClosed c) n) u file (not_among_take file k s.session.recent fresh) (taken_length k s.session.recent) first.fits in
      record { allowed = and_from _ _ (and_parts _ true first.allowed).0 later.allowed; fits = later.fits }

  pub used_so : (file : ℕ) (s : Scene) → Reads reader Fits s (descriptor_given file s).scene (descriptor_given file s).events
  used_so file s = record { so = λ n h. go n h (is_among file s.session.recent) refl }
    where
      go : (n : ℕ) → Fits n s → (b : Bool) → is_among file s.session.recent ≡ b
          → IsRead reader Fits n (with_recent (if b then record (files s) { recent = file ∷ without file s.session.recent } else given_file file (files s)).recent s) (if b then [] else given_events (loser (files s)) file)
      go n h true e = used_again n s file e h
      go n h false e = given n s file (loser (files s)) refl e h

  closed_so : (file : ℕ) (s : Scene) → Reads reader Fits s (descriptor_left file s).scene (descriptor_left file s).events
  closed_so file s = grind (arith, nat_tests, shuts, times_without, mark_swapped, length-without_among)

  pub aside_so : (s t : Scene) {events : List What} → t.session.recent ≡ s.session.recent → t.around.descriptors ≡ s.around.descriptors → ArePlain of_files events → Reads reader Fits s t events
  aside_so s t recent descriptors plain = record {
    so = λ n h. read_plain of_files reader Fits turning.over n t plain
        (record { counted = subst (λ (xs : List ℕ). Counted n (times f xs)) (sym recent) h.counted; within = rw (recent, descriptors) h.within });
  }

  pub files_seen : Sees of_files (Reads reader Fits)
  files_seen = record { both = λ a b. read_both reader Fits a b; aside = λ s t same plain. aside_so s t (same.so of_recent refl) (same.so of_descriptors refl) plain }

  pub files_base : Base of_files (Reads reader Fits)
  files_base = grind (arith, nat_tests, files_seen, locks_hidden, of_files, used_so, closed_so)

  pub files_ending : Turns of_files (Reads reader Fits)
  files_ending = grind (arith, nat_tests, least_of, of_files, files_base, aside_so, said_none, stack_hidden, files_seen)

-- a counter passes over what it doesn't count
pub count_over : (k : Subject) (brings takes : What → ℕ) → ((event : What) → hides (subject event) k ≡ true → brings event ≡ 0) → ((event : What) → hides (subject event) k ≡ true → takes event ≡ 0) → PassesOver k (count brings takes)
count_over k brings takes b t = grind (arith, nat_tests, le-leb)

-- what is open is counted
abbrev pub AreOpened : ℕ → ℕ → Type 0
AreOpened n t = n ≡ t

pub opening_turns : (f : ℕ) → Turning f (count (opens f) (closes f)) AreOpened
opening_turns f = grind (arith, nat_tests, count_over, of_files, le-leb)

-- what may be opened is counted
abbrev pub MayOpen : ℕ → ℕ → Type 0
MayOpen n t = n + t ≡ 1

marked : (b : Bool) (n t : ℕ) → (b ≡ true → t ≡ 0) → n + t ≡ 1 → cond b 1 0 ≤ n
marked b n t fresh e = grind (arith, nat_tests)

pub closing_turns : (f : ℕ) → Turning f (count (closes f) (opens f)) MayOpen
closing_turns f = grind (arith, nat_tests, count_over, of_files, le-leb, marked, nat_eq)

-- Descriptors are opened and closed in turns, in the life of each session.

-- a file of a session as it opens
pub files_open : (f : ℕ) (Counted : ℕ → ℕ → Type 0) (n : ℕ) (around : Around) → Counted n 0 → FilesFit f Counted n (record { session = opening; around = around })
unfolding opening
files_open f Counted n around h = record { counted = h; within = omega arith }

-- only how many descriptors there are matters of what is around a session
pub files_elsewhere : (f : ℕ) (Counted : ℕ → ℕ → Type 0) (n : ℕ) (session : SessionState) (a b : Around) → b.descriptors ≡ a.descriptors
    → FilesFit f Counted n (record { session = session; around = a }) → FilesFit f Counted n (record { session = session; around = b })
files_elsewhere f Counted n session a b same h = record { counted = h.counted; within = rw same h.within }

module _ (f : ℕ) (reader : Reader ℕ) (Counted : ℕ → ℕ → Type 0) (turning : Turning f reader Counted) where
  pub files_error : (error : Error) (s : Scene) → Reads reader (FilesFit f Counted) s s (what.Error error ∷ [])
  files_error error s = aside_so f reader Counted turning s s refl refl (said_one (what.Error error) refl)

  -- Each line keeps it, in any session.
  pub files_turn : (w : Option ℕ) (line : Option Command) (m : Moment) → Reads reader (FilesFit f Counted) m.scene (turn w line m).moment.scene (turn w line m).events
  files_turn w line m =
      let seen = files_seen f reader Counted turning in
      let R = Reads reader (FilesFit f Counted) in
      any_turn of_files R (files_ending f reader Counted turning)
      (by_owner_made of_files R (files_base f reader Counted turning) refl) (locked_hidden of_files R seen refl) (unlocked_hidden of_files R seen refl) (pushed_hidden of_files R seen refl) (λ file. record { so = used_so f reader Counted turning file }) w line m

  -- So does the end of a session.
  pub files_exit : (s : Scene) → Reads reader (FilesFit f Counted) s (exited s).scene (exited s).events
  files_exit s = session_exits of_files (Reads reader (FilesFit f Counted)) (files_ending f reader Counted turning) s
