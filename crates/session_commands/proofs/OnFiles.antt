-- The steps by which the deepest level's owner takes a file, and by which a file gets a descriptor.
use Rattle.session_commands.proofs.Base.{nat_tests, ◌≡◌, ◌≢◌, ◌↔◌, ℕ, ◌+◌, ◌≤◌, ◌==◌, Bool, true, false, List, [], ◌∷◌, length, Option, Some, None, Result, Ok, Err, refl, sym, ◌∙◌, ap, subst, arith, not}
use Rattle.session_commands.proofs.Words.{Error, LimitReached, NameTaken, NoMemory, NoSuchName, What, owners_of, files_held, file_kind, holds, Around, Moment, Scene, OfLevel, fallible, failure, unless, does, TheDescriptors, descriptor_given, take_refused, session_of, Keeps, Now, Performed, most_calls, scene_in}
use Rattle.file_table.specs.declared.files.FileError.{FileError}
use Rattle.file_table.specs.declared.files.FileError.TheVariants.{Memory, NoFile, Taken, TooMany}
use Rattle.session_rules.specs.Elements as element
use Rattle.session_commands.proofs.Commands.{fails, passes, passes_call}
use Rattle.session_commands.proofs.HeldItems.{no_room_for, take, taken_in_room}
use Rattle.session_commands.proofs.Stepping.{Call, Rises, call_refused, call_wants, lent, limit_free, limit_reached}

pub does_touch : (file : ℕ) (w : Option ℕ) (m : Moment) → does w (element.Touch file) m ≡ fallible w m None (descriptor_given file)
unfolding does
does_touch file w m = refl

pub touch_rises : (file : ℕ) (s : Scene) → Rises 1 s (descriptor_given file s).scene
touch_rises file s = record { contexts = omega arith; owners = omega arith; serials = omega arith; descriptors = refl }

-- a file gets a descriptor
abbrev pub touch : ℕ → Call
touch file = record { step = element.Touch file; own = λ _. None; act = descriptor_given file; is = does_touch file; rises = touch_rises file; quiet = λ s. refl }

-- how many files a session has open decides whether it takes one more
module _ (a : Now) where
  abbrev pub many : ℕ
  many = length (files_held (owners_of a.store.owners))

  pub few_files : (r : Result (Unit {0}) FileError) (u : Unit {0}) → r ≡ Ok u → (r ≡ Err TooMany) ↔ (4096 ≤ many) → (around : Around) → take_refused TheDescriptors (scene_in a around) ≡ None
  unfolding session_of
  few_files r u ok much around = grind (arith, nat_tests, many, limit_free, much.1)

  pub many_files : (r : Result (Unit {0}) FileError) → r ≡ Err TooMany → (r ≡ Err TooMany) ↔ (4096 ≤ many) → (around : Around) → take_refused TheDescriptors (scene_in a around) ≡ Some LimitReached
  unfolding session_of
  many_files r full much around = limit_reached 4096 many (much.0 full)

-- a file that wasn't opened, by the error that this is told as
pub open_refused : (file : ℕ) (a b : Now) (P : List What → Type 0) → b.calls ≡ record a.calls { count = a.calls.count + 1 } → b.space ≡ a.space → Keeps a.store a.space → lent b ≡ lent a → P [] → b.store ≡ a.store
    → (a.calls.count + 1 == a.calls.fail) ≡ false → (r : Result (Unit {0}) FileError) (e : FileError) (t : Error) → r ≡ Err e → (r ≡ Err TooMany) ↔ (4096 ≤ many a)
    → (e ≡ TooMany → t ≡ LimitReached) → (e ≢ TooMany → t ≡ NoMemory b.calls.count) → Performed 1 (element.Take OfLevel file_kind file ∷ []) a b P (Some t)
open_refused file a b P counted space keeps shelf silent store goes r TooMany t is much full other =
    subst (λ (x : Error). Performed 1 (element.Take OfLevel file_kind file ∷ []) a b P (Some x)) (sym (full refl))
    (call_refused (take OfLevel file_kind file) a b P counted space keeps shelf silent store LimitReached goes refl (many_files a r is much))
open_refused file a b P counted space keeps shelf silent store goes r Memory t is much full other =
    subst (λ (x : Error). Performed 1 (element.Take OfLevel file_kind file ∷ []) a b P (Some x)) (sym (other (λ z. cc z)))
    (call_wants (take OfLevel file_kind file) a b P counted space keeps shelf silent store goes)
open_refused file a b P counted space keeps shelf silent store goes r Taken t is much full other =
    subst (λ (x : Error). Performed 1 (element.Take OfLevel file_kind file ∷ []) a b P (Some x)) (sym (other (λ z. cc z)))
    (call_wants (take OfLevel file_kind file) a b P counted space keeps shelf silent store goes)
open_refused file a b P counted space keeps shelf silent store goes r NoFile t is much full other =
    subst (λ (x : Error). Performed 1 (element.Take OfLevel file_kind file ∷ []) a b P (Some x)) (sym (other (λ z. cc z)))
    (call_wants (take OfLevel file_kind file) a b P counted space keeps shelf silent store goes)

-- the checks of a file
module _ (file : ℕ) (a : Now) (keeps : Keeps a.store a.space) (b : Bool) (open_is : b ≡ holds file_kind file (session_of a.store a.space)) where
  new_passes : b ≡ false → (around : Around) → failure (element.FileIsNew file) (scene_in a around) ≡ None
  new_passes missing around = ap (λ (z : Bool). unless (not z) NameTaken) (sym open_is ∙ missing)

  open_passes : b ≡ true → (around : Around) → failure (element.IsFile file) (scene_in a around) ≡ None
  open_passes there around = ap (λ (z : Bool). unless z NoSuchName) (sym open_is ∙ there)

  pub is_taken : (P : List What → Type 0) → P [] → b ≡ true → Performed most_calls (element.Checks (element.FileIsNew file) ∷ element.Enlarge OfLevel ∷ element.Take OfLevel file_kind file ∷ []) a a P (Some NameTaken)
  is_taken P silent there =
      fails most_calls (element.FileIsNew file) _ a P NameTaken keeps silent refl (λ around. ap (λ (z : Bool). unless (not z) NameTaken) (sym open_is ∙ there))

  pub no_room : b ≡ false → (c : Now) (Q : List What → Type 0) → Q [] → (e : Error) → Performed 1 (element.Enlarge OfLevel ∷ []) a c (λ events. events ≡ []) (Some e)
      → Performed most_calls (element.Checks (element.FileIsNew file) ∷ element.Enlarge OfLevel ∷ element.Take OfLevel file_kind file ∷ []) a c Q (Some e)
  no_room missing c Q silent e x = passes most_calls (element.FileIsNew file) _ a c Q (Some e) keeps (new_passes missing) (no_room_for OfLevel file_kind file a c Q silent e x)

  pub opened : b ≡ false → (c d : Now) (P : List What → Type 0) (r : Option Error) → Performed 1 (element.Enlarge OfLevel ∷ []) a c (λ events. events ≡ []) None
      → Performed 1 (element.Take OfLevel file_kind file ∷ []) c d P r → Performed most_calls (element.Checks (element.FileIsNew file) ∷ element.Enlarge OfLevel ∷ element.Take OfLevel file_kind file ∷ []) a d P r
  opened missing c d P r x y = passes most_calls (element.FileIsNew file) _ a d P r keeps (new_passes missing) (taken_in_room OfLevel file_kind file a c d P r x y)

  pub is_missing : (P : List What → Type 0) → P [] → b ≡ false → Performed most_calls (element.Checks (element.IsFile file) ∷ element.Touch file ∷ []) a a P (Some NoSuchName)
  is_missing P silent missing =
      fails most_calls (element.IsFile file) _ a P NoSuchName keeps silent refl (λ around. ap (λ (z : Bool). unless z NoSuchName) (sym open_is ∙ missing))

  pub touched : b ≡ true → (c : Now) (P : List What → Type 0) (r : Option Error) → Performed 1 (element.Touch file ∷ []) a c P r → Performed most_calls (element.Checks (element.IsFile file) ∷ element.Touch file ∷ []) a c P r
  touched there c P r x = passes_call (element.IsFile file) _ a c P r keeps (open_passes there) x
