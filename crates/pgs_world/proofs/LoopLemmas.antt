-- The reading loop: where it stands, and how it ends.
use Rattle.pgs_world.proofs.Base.{nat_tests, ◌≡◌, ℕ, ◌+◌, ◌^◌, ◌≤◌, Bool, false, refl, List, [], ◌∷◌, ◌++◌, length, Option, sym, ◌∙◌, ap, subst, arith, append-nil, length-append}
use Rattle.pgs_world.proofs.Words.{HasFed-ahead, HasFed-few, HasFed-first, Event, End, read_line, HasPerformed, said_in, Course, Setting, course_of, HaveDescriptors, IsOpening, Run, setting_of, Fits, HaveRoom, TakesTurn, course_of-snoc, fits_later, line_behind, most_bytes, Performs, Meets, EndIs, AreFront, EndsInTime, IsLineEnd, is_wanted}
use Rattle.pgs_io.specs.Feeding.{Feeding, HasFed, GivesLine}
use Rattle.pgs_io.specs.declared.feeding.TheConstants.{MOST_READ}
use Rattle.pgs_world.specs.declared.performing.End.TheVariants as end
use Rattle.pgs_turns.proofs.PlayLemmas.{performed_line, performed_none, performed_weaker, room_behind}
use Rattle.pgs_world.specs.Loop.{Stands}

pub Stands-start : (descriptors : ℕ) (first : Run) (start : Option (List ℕ)) (feed : Feeding) (emitted : List Event → Type 0) → HasFed most_bytes start start feed [] → length feed.pending ≤ MOST_READ → IsOpening first → HaveDescriptors descriptors first → emitted []
    → Stands descriptors first start start feed first emitted []
Stands-start descriptors first start feed emitted starts few opens has h = grind (arith, nat_tests, performed_none descriptors first emitted opens has h)

-- one line more, and the script goes on
pub Stands-line : (descriptors : ℕ) (first : Run) (start before after : Option (List ℕ)) (feed feed' : Feeding) (old new : Run) (kept : List ℕ) (long : Bool) (emitted during emitted' : List Event → Type 0) (lines : List (List ℕ))
    → Stands descriptors first start before feed old emitted lines → (g : GivesLine before after feed feed' kept long) → length feed'.pending ≤ MOST_READ
    → TakesTurn (said_in (read_line g.line)) old new during false
    → ((xs ys : List Event) → emitted xs → during ys → emitted' (xs ++ ys))
    → Stands descriptors first start after feed' new emitted' (lines ++ g.line ∷ [])
Stands-line descriptors first start before after feed feed' old new kept long emitted during emitted' lines s g few t joins = record {
  read = g.goes_on most_bytes start lines s.read;
  few = few;
  performed = performed_line descriptors first old new emitted during emitted' lines g.line false s.performed t joins;
}

-- no more lines than bytes
pub few_lines : (descriptors : ℕ) (first : Run) (start now : Option (List ℕ)) (feed : Feeding) (run : Run) (emitted : List Event → Type 0) (lines : List (List ℕ)) → Stands descriptors first start now feed run emitted lines → length lines ≤ 2 ^ 24
few_lines descriptors first start now feed run emitted lines s = HasFed-few most_bytes start now feed lines s.read

-- the lines that were given are the first ones of what was taken
front_taken : (start now : Option (List ℕ)) (feed : Feeding) (lines : List (List ℕ)) → (h : HasFed most_bytes start now feed lines) → length feed.pending ≤ MOST_READ → AreFront h.taken lines start now
front_taken start now feed lines h few = record {
  given = h.from_source;
  first = HasFed-first most_bytes start now feed lines h;
  ahead = omega (arith, HasFed-ahead most_bytes start now feed lines h, few);
}

pub has_room : (descriptors : ℕ) (first : Run) (start now : Option (List ℕ)) (feed : Feeding) (run : Run) (emitted : List Event → Type 0) (lines : List (List ℕ)) → Stands descriptors first start now feed run emitted lines → HaveRoom run
has_room descriptors first start now feed run emitted lines s = grind (arith, nat_tests, room_behind descriptors first run emitted lines false s.performed (few_lines descriptors first start now feed run emitted lines s), s.performed, few_lines descriptors first start now feed run emitted lines s)

-- the ends without a line
pub ends-without : (descriptors : ℕ) (first : Run) (start before after : Option (List ℕ)) (feed : Feeding) (there : Run) (emitted emitted' : List Event → Type 0) (in_time : List Event → List Event → Type 0) (lines : List (List ℕ)) (n : ℕ)
    → Stands descriptors first start before feed there emitted lines → ((xs : List Event) → emitted xs → emitted' xs) → ((xs : List Event) → emitted xs → in_time xs []) → n ≡ length lines
    → (e : End) → Meets e before after feed → Performs descriptors first (record { end = e; lines = n }) start after there emitted' in_time
ends-without descriptors first start before after feed there emitted emitted' in_time lines n s leads apart count e m = record {
  bytes = (ends e m).0;
  lines = lines;
  performed = subst (λ w. HasPerformed descriptors first there emitted' lines w) (sym (goes_on e m)) (performed_weaker descriptors first there emitted emitted' lines false leads s.performed);
  count = count;
  how = (ends e m).1;
  ends_in_time = λ w f. in_time_at w (subst (λ (b : Bool). Fits b there.calls.count w) (goes_on e m) f);
}
  where
    goes_on : (e : End) → Meets e before after feed → is_wanted e ≡ false
    goes_on end.Whole m = refl
    goes_on end.Wanted m = absurd m
    goes_on end.SourceFault m = refl
    goes_on end.TooLong m = refl
    goes_on end.Unwritten m = refl

    in_time_at : (w : Option ℕ) → Fits false there.calls.count w → EndsInTime (setting_of descriptors first) w lines in_time
    in_time_at w f =
        let at = s.performed.courses w f in record {
          earlier = lines;
          last = [];
          one = omega arith;
          lines_are = sym (append-nil lines);
          since = [];
          events = sym (append-nil (course_of (setting_of descriptors first) w lines).events);
          shown = apart (course_of (setting_of descriptors first) w lines).events at.events;
        }

    ends : (e : End) → Meets e before after feed → (bytes : List ℕ) × EndIs e bytes lines start after
    ends end.Whole m = let f = m most_bytes start lines s.read in (f.taken, (f.from_source, f.at_end, f.within, sym f.lines_are))
    ends end.Wanted m = absurd m
    ends end.SourceFault m = let f = m most_bytes start lines s.read in (f.taken, (f.from_source, f.within, sym f.lines_are))
    ends end.TooLong m = let f = m most_bytes start lines s.read in (f.within, (f.over, f.from_source, f.full, sym f.lines_are))
    ends end.Unwritten m = (s.read.taken, subst (AreFront s.read.taken lines start) (sym m) (front_taken start before feed lines s.read s.few))

-- the ends behind a line
pub ends-line : (descriptors : ℕ) (first : Run) (start before after : Option (List ℕ)) (feed feed' : Feeding) (old new : Run) (kept : List ℕ) (long : Bool) (emitted during emitted' : List Event → Type 0) (in_time : List Event → List Event → Type 0) (lines : List (List ℕ)) (n : ℕ)
    → Stands descriptors first start before feed old emitted lines → (g : GivesLine before after feed feed' kept long) → length feed'.pending ≤ MOST_READ
    → ((xs ys : List Event) → emitted xs → during ys → emitted' (xs ++ ys)) → ((xs ys : List Event) → emitted xs → during ys → in_time xs ys) → n ≡ length lines → (e : End) (failed : Bool) → IsLineEnd e failed
    → TakesTurn (said_in (read_line g.line)) old new during (is_wanted e)
    → Performs descriptors first (record { end = e; lines = n + 1 }) start after new emitted' in_time
ends-line descriptors first start before after feed feed' old new kept long emitted during emitted' in_time lines n s g few joins apart count e failed h turned =
    let read = g.goes_on most_bytes start lines s.read in
    record {
      bytes = read.taken;
      lines = lines ++ g.line ∷ [];
      performed = performed_line descriptors first old new emitted during emitted' lines g.line (is_wanted e) s.performed turned joins;
      count = omega (arith, count, length-append lines (g.line ∷ []));
      how = front_of e failed h read.taken (front_taken start after feed' (lines ++ g.line ∷ []) read few);
      ends_in_time = in_time_at;
    }
  where
    in_time_at : (w : Option ℕ) → Fits (is_wanted e) new.calls.count w → EndsInTime (setting_of descriptors first) w (lines ++ g.line ∷ []) in_time
    in_time_at w f =
        let setting : Setting = setting_of descriptors first in
        let course : Course = course_of setting w lines in
        let at = s.performed.courses w (fits_later (is_wanted e) old.calls.count new.calls.count w f turned.calls turned.counted) in
        let goes = turned.leads descriptors s.performed.has w course f at.world_is in
        record {
          earlier = lines;
          last = g.line ∷ [];
          one = omega arith;
          lines_are = refl;
          since = goes.more;
          events = ap (λ (c : Course). c.events) (course_of-snoc setting w lines g.line ∙ line_behind w course g.line at.wanted_is) ∙ goes.events;
          shown = apart course.events goes.more at.events goes.shows;
        }

    front_of : (e : End) (failed : Bool) → IsLineEnd e failed → (bytes : List ℕ) → AreFront bytes (lines ++ g.line ∷ []) start after → EndIs e bytes (lines ++ g.line ∷ []) start after
    front_of end.Whole failed h bytes f = absurd h
    front_of end.Wanted failed h bytes f = f
    front_of end.SourceFault failed h bytes f = absurd h
    front_of end.TooLong failed h bytes f = absurd h
    front_of end.Unwritten failed h bytes f = f
