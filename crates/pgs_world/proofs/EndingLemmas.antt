-- The outcome of a script, from how its reading ended and what was printed.
use Rattle.pgs_world.proofs.Base.{◌≡◌, ◌≢◌, ℕ, ◌+◌, ◌-◌, ◌^◌, ◌<◌, ◌≤◌, Bool, true, false, List, [], ◌∷◌, ◌++◌, length, take, Option, Some, None, ◌⊎◌, inl, inr, refl, sym, ◌∙◌, ap, subst, arith, append-nil, append_assoc, length-append, nat_lt, ◌==◌, if◌then◌else◌, ◌↔◌, nat_tests, take_all, append_known}
use Rattle.pgs_world.proofs.Words.{HasRisen, lines_of, ended_lines, onto_first, onto_ended, newline, lines_of-long, Event, Kind, ShelfState, Course, ended, errors_in, text_of_transcript, transcript_by, Fits, Setting, course_of, names_of, text_in, transcript, EndsAt, LeavesRun, course_of-stopped, fit_of, kinds-stopped, shelf-stopped, transcript-stopped, End, GATHERED, most_bytes, HasGiven, AreWhole, IsLittleMore, refused_call, IsWhole, IsWanted, IsCutOff, IsTooLong, IsUnwritten, IsPlayed, outcome_of, status_of, EndIs, AreFront, is_wanted, OnSourceFault, OnNoSourceFault, OnUnwritten, Outside, Performed}
use Rattle.std.proofs.Math.Seq.{take-append_seam}
use Rattle.pgs_io.specs.Lines.{text_of}
use Rattle.pgs_world.specs.declared.performing.End.TheVariants as end
use Rattle.pgs_world.specs.Printing.{Gathering, Shows, Moves, GoesOn, FailsWithin}
use Rattle.pgs_world.specs.PrintingLaws.{hands_more, text-append}

-- What a sink and the counts show once these events were printed with these names and handed on.
pub record Printed (names : List (List ℕ)) (written written' : Option (List ℕ)) (faults faults' errors : ℕ) (failed : Bool) (events : List Event) : Type 0 where
  pub text : failed ≡ false → written' ≡ append_known written (text_of_transcript names events)
  pub no_fault : failed ≡ false → faults' ≡ faults
  pub risen : failed ≡ true → HasRisen faults faults'
  pub errors_are : errors ≡ errors_in events

moves_on : (f g : Bool) (old new : Gathering) (text : List ℕ) → f ≡ false → g ≡ false → Moves f g old new text → GoesOn old new text
moves_on x0 x1 old new text a b m = grind (arith, nat_tests)

moves_failed : (f g : Bool) (old new : Gathering) (text : List ℕ) → f ≡ false → g ≡ true → Moves f g old new text → FailsWithin old new text
moves_failed x0 x1 old new text a b m = grind (arith, nat_tests)

-- a printer that had printed nothing, and has handed all on
pub printed_all : (old new : Gathering) (events : List Event) → Shows old events new → old.gathered ≡ [] → old.failed ≡ false → old.errors ≡ 0
    → (new.failed ≡ false → new.gathered ≡ []) → new.errors < 2 ^ 64 → errors_in events < 2 ^ 64
    → Printed old.names old.written new.written old.faults new.faults new.errors new.failed events
printed_all old new events p empty going none emptied small few =
    let texts : List ℕ = text_of_transcript old.names events in
    let moves : Moves old.failed new.failed old new texts = p.bytes in
    record {
      text = λ f.
          let m = moves_on old.failed new.failed old new texts going f moves in
          m.hands.taken ∙ ap (append_known old.written)
          (sym (append-nil m.hands.handed) ∙ ap (λ (z : List ℕ). m.hands.handed ++ z) (sym (emptied f)) ∙ m.hands.parts ∙ ap (λ (z : List ℕ). z ++ texts) empty);
      no_fault = λ f. (moves_on old.failed new.failed old new texts going f moves).no_fault;
      risen = λ f. (moves_failed old.failed new.failed old new texts going f moves).risen;
      errors_are = omega (arith, p.errors, none, small, few);
    }

-- the same of other names for what is printed
pub printed_told : {K : Type 0} (names names' : List (List ℕ)) (written : K → Option (List ℕ)) (faults : K → ℕ) (a a' b b' : K) (errors errors' : ℕ) (failed failed' : Bool) (events : List Event)
    → names ≡ names' → a' ≡ a → b ≡ b' → errors ≡ errors' → failed ≡ failed' → Printed names' (written a') (written b') (faults a') (faults b') errors' failed' events
    → Printed names (written a) (written b) (faults a) (faults b) errors failed events
printed_told names names' written faults a a' b b' errors errors' failed failed' events n e f h k p = rw (n, ← e, f, h, k) p

-- A sink that failed has a front of the transcript. The lines but the last, or all of them, were performed before that: of what they said it lacks
-- no more than is gathered.
pub record Late (setting : Setting) (w : Option ℕ) (lines : List (List ℕ)) (written written' : Option (List ℕ)) : Type 0 where
  pub front : List ℕ
  pub rest : List ℕ
  pub some : 0 < length rest
  pub parts : front ++ rest ≡ text_in setting (transcript setting w lines)
  pub taken : written' ≡ append_known written front
  pub earlier : List (List ℕ)
  pub last : List (List ℕ)
  pub one : length last ≤ 1
  pub lines_are : lines ≡ earlier ++ last
  pub in_time : length (text_in setting (course_of setting w earlier).events) ≤ length front + GATHERED

-- a transcript is what lines said, and what the ends of all sessions say
pub transcript_is : (setting : Setting) (w : Option ℕ) (lines : List (List ℕ)) (before since exits : List Event) → (course_of setting w lines).events ≡ before ++ since
    → (ended (course_of setting w lines)).events ≡ (course_of setting w lines).events ++ exits → transcript setting w lines ≡ before ++ (since ++ exits)
unfolding transcript transcript_by course_of
transcript_is setting w lines before since exits e h = h ∙ ap (λ (z : List Event). z ++ exits) e ∙ append_assoc before since exits

-- a printer whose sink failed behind these events
pub late_front : (old between new : Gathering) (before since : List Event) → Shows old before between → Shows between since new → old.gathered ≡ [] → old.failed ≡ false
    → between.failed ≡ false → length between.gathered ≤ GATHERED → new.failed ≡ true
    → (front rest : List ℕ) × (0 < length rest) × (front ++ rest ≡ text_of_transcript old.names (before ++ since)) × (new.written ≡ append_known old.written front) × (length (text_of_transcript old.names before) ≤ length front + GATHERED)
late_front old between new before since p q empty going still few fails =
    let went = moves_on old.failed between.failed old between (text_of_transcript old.names before) going still p.bytes in
    let failed = moves_failed between.failed new.failed between new (text_of_transcript between.names since) still fails q.bytes in
    let hands = hands_more old between new (text_of_transcript old.names before) (text_of_transcript between.names since) failed.rest went.hands failed.hands in
    let texts : text_of_transcript old.names before ++ text_of_transcript between.names since ≡ text_of_transcript old.names (before ++ since) =
    ap (λ (names : List (List ℕ)). text_of_transcript old.names before ++ text_of_transcript names since) p.names ∙ sym (text-append old.names before since) in (
      hands.handed,
      failed.rest,
      failed.some,
      hands.parts ∙ ap (λ (z : List ℕ). z ++ (text_of_transcript old.names before ++ text_of_transcript between.names since)) empty ∙ texts,
      hands.taken,
      omega (
        arith,
        few,
        ap length (went.hands.parts ∙ ap (λ (z : List ℕ). z ++ text_of_transcript old.names before) empty),
        length-append went.hands.handed between.gathered,
        length-append went.hands.handed failed.hands.handed,
      ),
    )

-- the lines whose newline stands in a text are the first lines of the text, whatever follows it
pub ended_front : (bytes behind : List ℕ) → (more : List (List ℕ)) × (lines_of (bytes ++ behind) ≡ ended_lines bytes ++ more)
ended_front [] behind = (lines_of behind, refl)
ended_front (b ∷ bytes) behind = front_at (b == newline) b (ended_lines bytes) (lines_of (bytes ++ behind)) (ended_front bytes behind)
  where
    front_at : (test : Bool) (b : ℕ) (ended lines : List (List ℕ)) → (more : List (List ℕ)) × (lines ≡ ended ++ more)
        → (more : List (List ℕ)) × ((if test then [] ∷ lines else onto_first b lines) ≡ (if test then [] ∷ ended else onto_ended b ended) ++ more)
    front_at true b ended lines h = (h.0, ap (λ (z : List (List ℕ)). [] ∷ z) h.1)
    front_at false b [] lines h = (onto_first b lines, refl)
    front_at false b (line ∷ ended) lines h = (h.0, ap (onto_first b) h.1)

pub no_other : (m : ℕ) → 1 < m → (m ≡ 0) ⊎ (m ≡ 1) → ⊥
no_other m h c = elim c [ inl p ↦ omega (arith, h, p) | inr p ↦ omega (arith, h, p) ]

-- the statuses of a script that was performed whole
pub ended_whole : (e : End) (failed : Bool) (errors : ℕ) → (status_of e failed errors ≡ 0) ⊎ (status_of e failed errors ≡ 1) → e ≡ end.Whole
ended_whole x0 x1 errors h = grind (arith, nat_tests, no_other)

pub not_by_errors : (errors m : ℕ) → 1 < m → (if nat_lt 0 errors then 1 else 0) ≡ m → ⊥
not_by_errors errors m h e = grind (arith, nat_tests)

pub status_one : (errors m : ℕ) → errors ≡ m → (status_of end.Whole false errors ≡ 1) ↔ (0 < m)
status_one errors m e = (λ h. grind (arith, nat_tests), λ h. grind (arith, nat_tests))

-- lines behind the one that met a want of memory leave no more
pub left_stopped : (setting : Setting) (calls : ℕ) (lines more : List (List ℕ)) (errors : ℕ) (shelf' : ShelfState) (kinds' : List Kind) → (course_of setting (Some calls) lines).wanted ≡ true
    → LeavesRun (Some calls) setting lines errors shelf' kinds' → LeavesRun (Some calls) setting (lines ++ more) errors shelf' kinds'
left_stopped setting calls lines more errors shelf' kinds' wanted l = grind (arith, nat_tests, transcript-stopped setting calls lines more wanted, l.errors_are, l.hooks, shelf-stopped setting calls lines more wanted, setting.shelf, l.hooks_told, l.kinds, kinds-stopped setting calls lines more wanted)

-- All that is known of a script that was played: how the reading ended, and what was printed.
pub record Facts (setting : Setting) (e : End) (n calls errors : ℕ) (failed : Bool) (left left' written written' : Option (List ℕ)) (faults faults' : ℕ) (shelf' : ShelfState) (kinds' : List Kind) : Type 0 where
  pub bytes : List ℕ
  pub lines : List (List ℕ)
  pub how : EndIs e bytes lines left left'
  pub count : n ≡ length lines
  pub printed : (w : Option ℕ) → Fits (is_wanted e) calls w → Printed (names_of setting.kinds) written written' faults faults' errors failed (transcript setting w lines)
  pub leaves : (w : Option ℕ) → Fits (is_wanted e) calls w → LeavesRun w setting lines errors shelf' kinds'
  pub stopped : is_wanted e ≡ true → EndsAt setting calls lines n
  pub called : is_wanted e ≡ true → 0 < calls
  pub silent : OnUnwritten e (failed ≡ true)
  pub late : failed ≡ true → (w : Option ℕ) → Fits (is_wanted e) calls w → Late setting w lines written written'

-- the lines are the first of those of the bytes that were given
pub record Front (lines : List (List ℕ)) (left left' : Option (List ℕ)) : Type 0 where
  pub given : List ℕ
  pub given_is : HasGiven given left left'
  pub short : length given ≤ most_bytes + 1
  pub whole : AreWhole (length lines) given left'
  pub more : List (List ℕ)
  pub front : lines_of given ≡ lines ++ more
  pub ahead : IsLittleMore lines given ⊎ (lines ≡ ended_lines (take most_bytes given))

-- the first bytes are those in front of the others
first_bytes : (n : ℕ) (bytes over : List ℕ) → length bytes ≡ n → take n (bytes ++ over) ≡ bytes
first_bytes n bytes over full = ap (λ (k : ℕ). take k (bytes ++ over)) (sym full) ∙ take-append_seam bytes over

of_front : (bytes : List ℕ) (lines : List (List ℕ)) (left left' : Option (List ℕ)) → AreFront bytes lines left left' → Front lines left left'
of_front bytes lines left left' h = record { given = bytes; given_is = h.given; short = h.first.short; whole = h.first.whole; more = h.first.more; front = h.first.front; ahead = inl h.ahead }

pub front_of : (e : End) (bytes : List ℕ) (lines : List (List ℕ)) (left left' : Option (List ℕ)) → EndIs e bytes lines left left' → Front lines left left'
front_of end.Whole bytes lines left left' h = record {
  given = bytes;
  given_is = h.0;
  short = omega (arith, h.2);
  whole = inr (h.2, h.1);
  more = [];
  front = sym h.3 ∙ sym (append-nil lines);
  ahead = inl (omega (arith, lines_of-long bytes, ap (λ (z : List (List ℕ)). length (text_of z)) h.3));
}
front_of end.Wanted bytes lines left left' h = of_front bytes lines left left' h
front_of end.Unwritten bytes lines left left' h = of_front bytes lines left left' h
front_of end.SourceFault bytes lines left left' h =
    let f = ended_front bytes [] in
    record {
      given = bytes;
      given_is = h.0;
      short = omega (arith, h.1);
      whole = inl (rw (take_all most_bytes bytes h.1) (omega (arith, ap length h.2)));
      more = f.0;
      front = ap lines_of (sym (append-nil bytes)) ∙ f.1 ∙ ap (λ (z : List (List ℕ)). z ++ f.0) (sym h.2);
      ahead = inr (h.2 ∙ ap ended_lines (sym (take_all most_bytes bytes h.1)));
    }
front_of end.TooLong bytes lines left left' h =
    let f = ended_front bytes (h.0 ∷ []) in
    record {
      given = bytes ++ h.0 ∷ [];
      given_is = h.1;
      short = omega (arith, h.2, length-append bytes (h.0 ∷ []));
      whole = inl (rw (first_bytes most_bytes bytes (h.0 ∷ []) h.2) (omega (arith, ap length h.3)));
      more = f.0;
      front = f.1 ∙ ap (λ (z : List (List ℕ)). z ++ f.0) (sym h.3);
      ahead = inr (h.3 ∙ ap ended_lines (sym (first_bytes most_bytes bytes (h.0 ∷ []) h.2)));
    }

pub first_lines : (n : ℕ) (lines more all : List (List ℕ)) → n ≡ length lines → all ≡ lines ++ more → take n all ≡ lines
first_lines n lines more all c e = ap (λ (k : ℕ). take k all) c ∙ ap (take (length lines)) e ∙ take-append_seam lines more

module _ (setting : Setting) (n calls errors : ℕ) (left left' written written' : Option (List ℕ)) (faults faults' : ℕ) (shelf' : ShelfState) (kinds' : List Kind) where
  -- what lines leave these leave, too
  left_as : (w : Option ℕ) (lines others : List (List ℕ)) → lines ≡ others → LeavesRun w setting lines errors shelf' kinds' → LeavesRun w setting others errors shelf' kinds'
  left_as w lines others same l = subst (λ (z : List (List ℕ)). LeavesRun w setting z errors shelf' kinds') same l

  abbrev At : End → Bool → Type 0
  At e failed = Facts setting e n calls errors failed left left' written written' faults faults' shelf' kinds'

  whole_of : At end.Whole false → IsWhole setting (outcome_of (record { end = end.Whole; lines = n }) calls false errors) left left' written written' shelf' kinds'
  whole_of f =
      let none : Printed (names_of setting.kinds) written written' faults faults' errors false (transcript setting None f.lines) = f.printed None tt in
      let told : Printed (names_of setting.kinds) written written' faults faults' errors false (transcript setting None (lines_of f.bytes)) = subst (λ (z : List (List ℕ)). Printed (names_of setting.kinds) written written' faults faults' errors false (transcript setting None z)) f.how.3 none in
      record {
        bytes = f.bytes;
        given = f.how.0;
        at_end = f.how.1;
        short = f.how.2;
        lines = f.count ∙ ap length f.how.3;
        text = told.text refl;
        leaves = left_as None f.lines (lines_of f.bytes) f.how.3 (f.leaves None tt);
        status = status_one errors (errors_in (transcript setting None (lines_of f.bytes))) told.errors_are;
      }

  pub whole : (e : End) (failed : Bool) → At e failed → (status_of e failed errors ≡ 0) ⊎ (status_of e failed errors ≡ 1) → IsWhole setting (outcome_of (record { end = e; lines = n }) calls failed errors) left left' written written' shelf' kinds'
  whole end.Whole false f h = whole_of f
  whole end.Wanted false f h = absurd (no_other 5 (omega arith) h)
  whole end.SourceFault false f h = absurd (no_other 3 (omega arith) h)
  whole end.TooLong false f h = absurd (no_other 6 (omega arith) h)
  whole end.Unwritten false f h = absurd (no_other 4 (omega arith) h)
  whole e true f h = absurd (no_other 4 (omega arith) h)

  pub cut_off : (e : End) (failed : Bool) → At e failed → status_of e failed errors ≡ 3 → IsCutOff setting (outcome_of (record { end = e; lines = n }) calls failed errors) left left' written written' shelf' kinds'
  cut_off end.SourceFault false f h =
      let none : Printed (names_of setting.kinds) written written' faults faults' errors false (transcript setting None f.lines) = f.printed None tt in
      let told : Printed (names_of setting.kinds) written written' faults faults' errors false (transcript setting None (ended_lines f.bytes)) = subst (λ (z : List (List ℕ)). Printed (names_of setting.kinds) written written' faults faults' errors false (transcript setting None z)) f.how.2 none in
      record { bytes = f.bytes; given = f.how.0; short = f.how.1; lines = f.count ∙ ap length f.how.2; text = told.text refl; leaves = left_as None f.lines (ended_lines f.bytes) f.how.2 (f.leaves None tt) }
  cut_off end.Whole false f h = absurd (not_by_errors errors 3 (omega arith) h)
  cut_off end.Wanted false f h = absurd (omega (arith, h))
  cut_off end.TooLong false f h = absurd (omega (arith, h))
  cut_off end.Unwritten false f h = absurd (omega (arith, h))
  cut_off e true f h = absurd (omega (arith, h))

  pub too_long : (e : End) (failed : Bool) → At e failed → status_of e failed errors ≡ 6 → IsTooLong setting (outcome_of (record { end = e; lines = n }) calls failed errors) left left' written written' shelf' kinds'
  too_long end.TooLong false f h =
      let none : Printed (names_of setting.kinds) written written' faults faults' errors false (transcript setting None f.lines) = f.printed None tt in
      let told : Printed (names_of setting.kinds) written written' faults faults' errors false (transcript setting None (ended_lines f.bytes)) = subst (λ (z : List (List ℕ)). Printed (names_of setting.kinds) written written' faults faults' errors false (transcript setting None z)) f.how.3 none in
      record { bytes = f.bytes; over = f.how.0; given = f.how.1; full = f.how.2; lines = f.count ∙ ap length f.how.3; text = told.text refl; leaves = left_as None f.lines (ended_lines f.bytes) f.how.3 (f.leaves None tt) }
  too_long end.Whole false f h = absurd (not_by_errors errors 6 (omega arith) h)
  too_long end.Wanted false f h = absurd (omega (arith, h))
  too_long end.SourceFault false f h = absurd (omega (arith, h))
  too_long end.Unwritten false f h = absurd (omega (arith, h))
  too_long e true f h = absurd (omega (arith, h))

  pub wanted : (e : End) (failed : Bool) → At e failed → status_of e failed errors ≡ 5 → IsWanted setting (outcome_of (record { end = e; lines = n }) calls failed errors) left left' written written' shelf' kinds'
  wanted end.Wanted false f h =
      let some : Printed (names_of setting.kinds) written written' faults faults' errors false (transcript setting (Some calls) f.lines) = f.printed (Some calls) refl in
      let at : EndsAt setting calls f.lines n = f.stopped refl in
      let same : transcript setting (Some calls) (lines_of f.bytes) ≡ transcript setting (Some calls) f.lines = ap (transcript setting (Some calls)) f.how.first.front ∙ transcript-stopped setting calls f.lines f.how.first.more at.wanted in
      let course : course_of setting (Some calls) (lines_of f.bytes) ≡ course_of setting (Some calls) f.lines = ap (course_of setting (Some calls)) f.how.first.front ∙ course_of-stopped setting (Some calls) f.lines f.how.first.more at.wanted in
      let told : Printed (names_of setting.kinds) written written' faults faults' errors false (transcript setting (Some calls) (lines_of f.bytes)) = subst (λ (z : List Event). Printed (names_of setting.kinds) written written' faults faults' errors false z) (sym same) some in
      record {
        bytes = f.bytes;
        given = f.how.given;
        short = f.how.first.short;
        whole_lines = rw f.count f.how.first.whole;
        ahead = subst (λ (z : List (List ℕ)). IsLittleMore z f.bytes) (sym (first_lines n f.lines f.how.first.more (lines_of f.bytes) f.count f.how.first.front)) f.how.ahead;
        defined = record { wanted = ap (λ (c : Course). c.wanted) course ∙ at.wanted; line_is = ap (λ (c : Course). c.performed) course ∙ at.line_is };
        text = told.text refl;
        leaves = left_as (Some calls) (f.lines ++ f.how.first.more) (lines_of f.bytes) (sym f.how.first.front) (left_stopped setting calls f.lines f.how.first.more errors shelf' kinds' at.wanted (f.leaves (Some calls) refl));
      }
  wanted end.Whole false f h = absurd (not_by_errors errors 5 (omega arith) h)
  wanted end.SourceFault false f h = absurd (omega (arith, h))
  wanted end.TooLong false f h = absurd (omega (arith, h))
  wanted end.Unwritten false f h = absurd (omega (arith, h))
  wanted e true f h = absurd (omega (arith, h))

  pub called_of : (e : End) (failed : Bool) → At e failed → status_of e failed errors ≡ 5 → 0 < (outcome_of (record { end = e; lines = n }) calls failed errors).call
  called_of end.Wanted false f h = f.called refl
  called_of end.Whole false f h = absurd (not_by_errors errors 5 (omega arith) h)
  called_of end.SourceFault false f h = absurd (omega (arith, h))
  called_of end.TooLong false f h = absurd (omega (arith, h))
  called_of end.Unwritten false f h = absurd (omega (arith, h))
  called_of e true f h = absurd (omega (arith, h))

  -- where no call is named, no line met a want
  pub met_none : (e : End) (failed : Bool) → At e failed → (outcome_of (record { end = e; lines = n }) calls failed errors).call ≡ 0 → is_wanted e ≡ false
  met_none end.Wanted failed f h = absurd (omega (arith, f.called refl, h))
  met_none end.Whole failed f h = refl
  met_none end.SourceFault failed f h = refl
  met_none end.TooLong failed f h = refl
  met_none end.Unwritten failed f h = refl

  -- a refused call that fits, and the one that the outcome names
  fits_of : (e : End) → At e true → Fits (is_wanted e) calls (refused_call (outcome_of (record { end = e; lines = n }) calls true errors).call)
  fits_of end.Whole f = tt
  fits_of end.Wanted f = let more : 0 < calls = f.called refl in let test : (calls == 0) ≡ false = grind (arith, nat_tests) in rw test refl
  fits_of end.SourceFault f = tt
  fits_of end.TooLong f = tt
  fits_of end.Unwritten f = tt

  stopped_of : (e : End) → At e true → (lines : List (List ℕ)) → EndsAt setting calls lines n → 0 < (outcome_of (record { end = e; lines = n }) calls true errors).call → EndsAt setting (outcome_of (record { end = e; lines = n }) calls true errors).call lines n
  stopped_of end.Wanted f lines s h = s
  stopped_of end.Whole f lines s h = absurd (omega (arith, h))
  stopped_of end.SourceFault f lines s h = absurd (omega (arith, h))
  stopped_of end.TooLong f lines s h = absurd (omega (arith, h))
  stopped_of end.Unwritten f lines s h = absurd (omega (arith, h))

  is_wanted_of : (e : End) → 0 < (outcome_of (record { end = e; lines = n }) calls true errors).call → is_wanted e ≡ true
  is_wanted_of end.Wanted h = refl
  is_wanted_of end.Whole h = absurd (omega (arith, h))
  is_wanted_of end.SourceFault h = absurd (omega (arith, h))
  is_wanted_of end.TooLong h = absurd (omega (arith, h))
  is_wanted_of end.Unwritten h = absurd (omega (arith, h))

  failed_of : (e : End) (failed : Bool) → At e failed → status_of e failed errors ≡ 4 → failed ≡ true
  failed_of x0 x1 f h = grind (arith, nat_tests, f.silent, not_by_errors)

  unwritten_at : (e : End) → At e true → IsUnwritten setting (outcome_of (record { end = e; lines = n }) calls true errors) left left' written written' shelf' kinds'
  unwritten_at e f =
      let front = front_of e f.bytes f.lines left left' f.how in
      let w : Option ℕ = refused_call (outcome_of (record { end = e; lines = n }) calls true errors).call in
      let late = f.late refl w (fits_of e f) in
      let same : take n (lines_of front.given) ≡ f.lines = first_lines n f.lines front.more (lines_of front.given) f.count front.front in
      let earlier : take (n - length late.last) (lines_of front.given) ≡ late.earlier =
      first_lines (n - length late.last) late.earlier (late.last ++ front.more) (lines_of front.given) (omega (arith, f.count, ap length late.lines_are, length-append late.earlier late.last))
      (front.front ∙ ap (λ (z : List (List ℕ)). z ++ front.more) late.lines_are ∙ append_assoc late.earlier late.last front.more) in
      record {
        bytes = front.given;
        given = front.given_is;
        short = front.short;
        whole_lines = rw f.count front.whole;
        ahead = subst (λ (z : List (List ℕ)). IsLittleMore z front.given ⊎ (z ≡ ended_lines (take most_bytes front.given))) (sym same) front.ahead;
        read = omega (arith, f.count, ap length front.front, length-append f.lines front.more);
        front = late.front;
        rest = late.rest;
        some = late.some;
        parts = late.parts ∙ ap (λ (z : List (List ℕ)). text_in setting (transcript setting w z)) (sym same);
        taken = late.taken;
        last = length late.last;
        one = late.one;
        in_time = subst (λ (z : List (List ℕ)). length (text_in setting (course_of setting w z).events) ≤ length late.front + GATHERED) (sym earlier) late.in_time;
        defined = λ h. subst (λ (z : List (List ℕ)). EndsAt setting (outcome_of (record { end = e; lines = n }) calls true errors).call z n) (sym same) (stopped_of e f f.lines (f.stopped (is_wanted_of e h)) h);
        leaves = left_as w f.lines (take n (lines_of front.given)) (sym same) (f.leaves w (fits_of e f));
      }

  pub unwritten : (e : End) (failed : Bool) → At e failed → status_of e failed errors ≡ 4 → IsUnwritten setting (outcome_of (record { end = e; lines = n }) calls failed errors) left left' written written' shelf' kinds'
  unwritten e true f h = unwritten_at e f
  unwritten e false f h = absurd (let t : false ≡ true = failed_of e false f h in cc)

  pub sink_fault : (e : End) (failed : Bool) → At e failed → status_of e failed errors ≡ 4 → HasRisen faults faults'
  sink_fault e failed f h = let fit = fit_of (is_wanted e) calls in (f.printed fit.0 fit.1).risen (failed_of e failed f h)

  pub sink_grew : (e : End) (failed : Bool) → At e failed → faults < faults' → status_of e failed errors ≡ 4
  sink_grew e x1 f h = grind (arith, nat_tests, fit_of (is_wanted e) calls, f.printed)

-- the source's faults show in the status
faults_shown : (e : End) (failed : Bool) (errors : ℕ) (P : Type 0) → OnSourceFault e P → status_of e failed errors ≡ 3 → P
faults_shown end.SourceFault false errors P h s = h
faults_shown end.Whole false errors P h s = absurd (not_by_errors errors 3 (omega arith) s)
faults_shown end.Wanted false errors P h s = absurd (omega (arith, s))
faults_shown end.TooLong false errors P h s = absurd (omega (arith, s))
faults_shown end.Unwritten false errors P h s = absurd (omega (arith, s))
faults_shown e true errors P h s = absurd (omega (arith, s))

growth_shown : (e : End) (failed : Bool) (errors before after : ℕ) → OnNoSourceFault e (after ≡ before) → before < after → (status_of e failed errors ≡ 3) ⊎ (status_of e failed errors ≡ 4)
growth_shown x0 x1 errors before after h less = grind (arith, nat_tests)

played_by_errors : (errors : ℕ) → IsPlayed (if nat_lt 0 errors then 1 else 0)
played_by_errors errors = grind (arith, nat_tests)

is_played : (e : End) (failed : Bool) (errors : ℕ) → IsPlayed (status_of e failed errors)
is_played x0 x1 errors = grind (arith, nat_tests, played_by_errors)

no_call : (e : End) (failed : Bool) (n calls errors : ℕ) → status_of e failed errors ≢ 4 → status_of e failed errors ≢ 5 → (outcome_of (record { end = e; lines = n }) calls failed errors).call ≡ 0
no_call end.Wanted true n calls errors four five = absurd (four refl)
no_call end.Wanted false n calls errors four five = absurd (five refl)
no_call end.Whole failed n calls errors four five = refl
no_call end.SourceFault failed n calls errors four five = refl
no_call end.TooLong failed n calls errors four five = refl
no_call end.Unwritten failed n calls errors four five = refl

-- all of it
pub performed_by : (setting : Setting) (e : End) (n calls errors : ℕ) (failed : Bool) (before after : Outside)
    → Facts setting e n calls errors failed before.left after.left before.written after.written before.sink_faults after.sink_faults after.shelf after.kinds
    → OnSourceFault e (HasRisen before.source_faults after.source_faults) → OnNoSourceFault e (after.source_faults ≡ before.source_faults)
    → Performed setting (outcome_of (record { end = e; lines = n }) calls failed errors) before after
performed_by setting e n calls errors failed before after f fault no_fault = record {
  whole = whole setting n calls errors before.left after.left before.written after.written before.sink_faults after.sink_faults after.shelf after.kinds e failed f;
  source_fault = faults_shown e failed errors (HasRisen before.source_faults after.source_faults) fault;
  cut_off = cut_off setting n calls errors before.left after.left before.written after.written before.sink_faults after.sink_faults after.shelf after.kinds e failed f;
  too_long = too_long setting n calls errors before.left after.left before.written after.written before.sink_faults after.sink_faults after.shelf after.kinds e failed f;
  sink_fault = sink_fault setting n calls errors before.left after.left before.written after.written before.sink_faults after.sink_faults after.shelf after.kinds e failed f;
  unwritten = unwritten setting n calls errors before.left after.left before.written after.written before.sink_faults after.sink_faults after.shelf after.kinds e failed f;
  wanted = λ h k. wanted setting n calls errors before.left after.left before.written after.written before.sink_faults after.sink_faults after.shelf after.kinds e failed f h;
  source_grew = growth_shown e failed errors before.source_faults after.source_faults no_fault;
  sink_grew = sink_grew setting n calls errors before.left after.left before.written after.written before.sink_faults after.sink_faults after.shelf after.kinds e failed f;
  statuses = is_played e failed errors;
  call = no_call e failed n calls errors;
}

-- a write that has failed stays failed
pub stays_failed : (f g : Bool) (old new : Gathering) (text : List ℕ) → f ≡ true → Moves f g old new text → g ≡ true
stays_failed x0 x1 old new text h m = grind (arith, nat_tests)

pub unwritten_leads : (e : End) (P Q : Type 0) → (P → Q) → OnUnwritten e P → OnUnwritten e Q
unwritten_leads x0 P Q leads h = grind (arith, nat_tests)
