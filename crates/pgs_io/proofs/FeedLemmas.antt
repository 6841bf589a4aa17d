-- Lemmas on reading a source by lines: what a feed has given, and the steps within a line.
use Rattle.std.proofs.Common.{◌≡◌, ◌≢◌, ◌<◌, ◌≤◌, ◌+◌, ◌-◌, ℕ, Bool, true, false, ◌||◌, Option, List, [], ◌∷◌, ◌++◌, length, take, drop, min, refl, sym, length-take, length-drop, ◌∙◌, ap, subst, append_assoc, append-nil, length-append, ⊎_elim, arith}
use Rattle.std.proofs.lemmas.List.{take_all, take-take, take-append-le, take-append-drop}
use Rattle.std.proofs.lemmas.List.Elements.{All-append, All-nil, All-push}
use Rattle.std.proofs.Math.Seq.{take-append-add, drop-append-add}
use Rattle.std.proofs.lemmas.Bool.{cases_lt}
use Rattle.std.specs.Io.KnownBytes.{prepend_known, IsAtEnd}
use Rattle.pgs_io.specs.Lines.{newline, lines_of, ended_lines, text_of, HasNoNewline, IsKept}
use Rattle.pgs_io.specs.Feeding.{Feeding, AreGiven, HasFed, FedAll, FedEnded, FedLimit, GivesLine, MeetsEnd, MeetsFault, MeetsLimit, BeginWithLine}
use Rattle.pgs_io.specs.FeedParts.{TakesPart, Gets}
use Rattle.pgs_io.proofs.KnownLemmas.{prepend_known-nil, prepend_known-append}
use Rattle.pgs_io.specs.LineLaws.{lines_of-rest, ended_lines-rest, lines_of-text, ended_lines-text, text_of-push}
use Rattle.pgs_io.proofs.LineLemmas.{IsKept-nil, IsKept-append}
use Rattle.std.proofs.lemmas.Bool.Decides.{nat_tests}

pub not_both : {P : Type 0} (b : Bool) → b ≡ false → b ≡ true → P
not_both b is_false is_true = let e : false ≡ true = sym is_false ∙ is_true in cc

-- what a read gave, as far as it is within the room
pub front_within : (buf rest : List ℕ) (count room : ℕ) → count ≤ length buf → take (min count (room - 1)) (buf ++ rest) ≡ take (room - 1) (take count buf)
front_within buf rest count room h =
    take-append-le (min count (room - 1)) buf rest (omega arith) ∙ sym (take-min (room - 1) count buf)
  where
    take-min : (m n : ℕ) (xs : List ℕ) → take m (take n xs) ≡ take (min n m) xs
    take-min m n xs =
        ⊎_elim (λ h. take-take m n xs (omega arith) ∙ ap (λ k. take k xs) (omega arith))
        (λ h. take_all m (take n xs) (omega (arith, length-take n xs)) ∙ ap (λ k. take k xs) (omega arith)) (cases_lt m n)

-- ---- what a feed has given

pub HasFed-start : (limit : ℕ) (left : Option (List ℕ)) (feed : Feeding) → feed.pending ≡ [] → feed.room ≡ limit + 1 → feed.source_ended ≡ false → HasFed limit left left feed []
HasFed-start limit left feed none full going = record {
  taken = [];
  from_source = sym (prepend_known-nil left);
  counted = omega arith;
  given = subst (λ b. AreGiven b (take limit []) [] feed.pending) (sym going) (take_all limit [] (omega arith) ∙ sym none, All-nil HasNoNewline);
  at_end = λ e. not_both feed.source_ended going e;
}

-- the same, of a feed that has the same left
HasFed-same : (limit : ℕ) (start now : Option (List ℕ)) (old new : Feeding) (lines : List (List ℕ)) → HasFed limit start now old lines
    → new.pending ≡ old.pending → new.room ≡ old.room → new.source_ended ≡ old.source_ended → HasFed limit start now new lines
HasFed-same limit start now old new lines h pending room ended = grind (arith, nat_tests, h.taken, h.from_source, h.counted, new.pending, old.source_ended, h.given, h.at_end)

-- a line and its newline go
HasFed-line : (limit : ℕ) (start now : Option (List ℕ)) (old new : Feeding) (lines : List (List ℕ)) (line : List ℕ) → HasFed limit start now old lines
    → old.pending ≡ line ++ newline ∷ new.pending → HasNoNewline line → new.room ≡ old.room → new.source_ended ≡ old.source_ended
    → HasFed limit start now new (lines ++ line ∷ [])
HasFed-line limit start now old new lines line h e none room ended = record {
  taken = h.taken;
  from_source = h.from_source;
  counted = omega (arith, h.counted, room);
  given = subst (λ b. AreGiven b (take limit h.taken) (lines ++ line ∷ []) new.pending) (sym ended) (given old.source_ended h.given);
  at_end = λ e. let k = h.at_end (sym ended ∙ e) in (k.0, omega (arith, k.1, room));
}
  where
    cut : text_of (lines ++ line ∷ []) ++ new.pending ≡ text_of lines ++ (line ++ newline ∷ new.pending)
    cut = ap (λ l. l ++ new.pending) (text_of-push lines line) ∙ append_assoc (text_of lines) (line ++ newline ∷ []) new.pending
        ∙ ap (λ l. text_of lines ++ l) (append_assoc line (newline ∷ []) new.pending)

    given : (b : Bool) → AreGiven b (take limit h.taken) lines old.pending → AreGiven b (take limit h.taken) (lines ++ line ∷ []) new.pending
    given false g = (g.0 ∙ ap (λ l. text_of lines ++ l) e ∙ sym cut, All-push HasNoNewline lines line g.1 none)
    given true g = absurd (omega (arith, ap length g.1, ap length e, length-append line (newline ∷ new.pending)))

-- the rest behind the last newline goes, at the end of the source
HasFed-last : (limit : ℕ) (start now : Option (List ℕ)) (old new : Feeding) (lines : List (List ℕ)) (line : List ℕ) → HasFed limit start now old lines
    → old.pending ≡ line → HasNoNewline line → 0 < length line → new.pending ≡ [] → new.room ≡ old.room → new.source_ended ≡ true
    → (old.source_ended ≡ false → IsAtEnd now × (0 < old.room)) → HasFed limit start now new (lines ++ line ∷ [])
HasFed-last limit start now old new lines line h e none some nothing room ended end =
    let k = last old.source_ended h.given in
    record {
      taken = h.taken;
      from_source = h.from_source;
      counted = omega (arith, h.counted, room);
      given = subst (λ b. AreGiven b (take limit h.taken) (lines ++ line ∷ []) new.pending) (sym ended) (k.1, nothing);
      at_end = λ _. let at = end k.0 in (at.0, omega (arith, at.1, room));
    }
  where
    last : (b : Bool) → AreGiven b (take limit h.taken) lines old.pending → (b ≡ false) × (lines_of (take limit h.taken) ≡ lines ++ line ∷ [])
    last false g = (refl, ap lines_of (g.0 ∙ ap (λ l. text_of lines ++ l) e) ∙ lines_of-text lines line g.1 ∙ ap (λ ls. lines ++ ls) (lines_of-rest line none some))
    last true g = absurd (omega (arith, ap length g.1, ap length e))

-- more bytes come
HasFed-more : (limit : ℕ) (start before after : Option (List ℕ)) (old new : Feeding) (lines : List (List ℕ)) (got : List ℕ) → HasFed limit start before old lines
    → before ≡ prepend_known got after → old.room ≡ new.room + length got → 0 < length got → new.pending ≡ old.pending ++ take (old.room - 1) got
    → old.source_ended ≡ false → new.source_ended ≡ false → HasFed limit start after new lines
HasFed-more limit start before after old new lines got h came counted some pending going goes_on =
    let g : AreGiven false (take limit h.taken) lines old.pending = subst (λ b. AreGiven b (take limit h.taken) lines old.pending) going h.given in
    let within : take limit h.taken ≡ h.taken = take_all limit h.taken (omega (arith, h.counted, counted)) in
    let bytes : take limit (h.taken ++ got) ≡ h.taken ++ take (old.room - 1) got =
    ap (λ m. take m (h.taken ++ got)) (omega (arith, h.counted, counted)) ∙ take-append-add h.taken got (old.room - 1) in
    let are : take limit (h.taken ++ got) ≡ text_of lines ++ new.pending =
    bytes ∙ ap (λ l. l ++ take (old.room - 1) got) (sym within ∙ g.0) ∙ append_assoc (text_of lines) old.pending (take (old.room - 1) got) ∙ ap (λ l. text_of lines ++ l) (sym pending) in
    record {
      taken = h.taken ++ got;
      from_source = h.from_source ∙ ap (prepend_known h.taken) came ∙ prepend_known-append h.taken got after;
      counted = omega (arith, h.counted, counted, length-append h.taken got);
      given = subst (λ b. AreGiven b (take limit (h.taken ++ got)) lines new.pending) (sym goes_on) (are, g.1);
      at_end = λ e. not_both new.source_ended goes_on e;
    }

-- the source is at its end, and nothing is pending
HasFed-end : (limit : ℕ) (start now : Option (List ℕ)) (feed : Feeding) (lines : List (List ℕ)) → HasFed limit start now feed lines → feed.pending ≡ []
    → (feed.source_ended ≡ false → IsAtEnd now × (0 < feed.room)) → FedAll limit start now lines
HasFed-end limit start now feed lines h nothing end =
    let k = all feed.source_ended h.given h.at_end end in
    let within : length h.taken ≤ limit = omega (arith, h.counted, k.1.1) in
    record {
      taken = h.taken;
      from_source = h.from_source;
      within = within;
      lines_are = ap lines_of (sym (take_all limit h.taken within)) ∙ k.0;
      at_end = k.1.0;
    }
  where
    all : (b : Bool) → AreGiven b (take limit h.taken) lines feed.pending → (b ≡ true → IsAtEnd now × (0 < feed.room)) → (b ≡ false → IsAtEnd now × (0 < feed.room))
        → (lines_of (take limit h.taken) ≡ lines) × (IsAtEnd now × (0 < feed.room))
    all false g before here = (ap lines_of (g.0 ∙ ap (λ l. text_of lines ++ l) nothing) ∙ lines_of-text lines [] g.1 ∙ append-nil lines, here refl)
    all true g before here = (g.0, before refl)

-- nothing but a half line is pending: the lines are those whose newline is within the limit
fed_ended : (limit : ℕ) (start now : Option (List ℕ)) (feed : Feeding) (lines : List (List ℕ)) → (h : HasFed limit start now feed lines) → HasNoNewline feed.pending
    → feed.source_ended ≡ false → ended_lines (take limit h.taken) ≡ lines
fed_ended limit start now feed lines h none going =
    let g : AreGiven false (take limit h.taken) lines feed.pending = subst (λ b. AreGiven b (take limit h.taken) lines feed.pending) going h.given in
    ap ended_lines g.0 ∙ ended_lines-text lines feed.pending g.1 ∙ ap (λ ls. lines ++ ls) (ended_lines-rest feed.pending none) ∙ append-nil lines

HasFed-fault : (limit : ℕ) (start now : Option (List ℕ)) (feed : Feeding) (lines : List (List ℕ)) → HasFed limit start now feed lines → HasNoNewline feed.pending
    → feed.source_ended ≡ false → 0 < feed.room → FedEnded limit start now lines
HasFed-fault limit start now feed lines h none going room =
    let within : length h.taken ≤ limit = omega (arith, h.counted) in
    record {
      taken = h.taken;
      from_source = h.from_source;
      within = within;
      lines_are = ap ended_lines (sym (take_all limit h.taken within)) ∙ fed_ended limit start now feed lines h none going;
    }

HasFed-too_long : (limit : ℕ) (start now : Option (List ℕ)) (feed : Feeding) (lines : List (List ℕ)) → HasFed limit start now feed lines → HasNoNewline feed.pending
    → feed.source_ended ≡ false → feed.room ≡ 0 → FedLimit limit start now lines
HasFed-too_long limit start now feed lines h none going full =
    let over = one_of (drop limit h.taken) (omega (arith, h.counted, length-drop limit h.taken)) in
    record {
      within = take limit h.taken;
      over = over.0;
      from_source = h.from_source ∙ ap (λ l. prepend_known l now) (sym (take-append-drop limit h.taken) ∙ ap (λ l. take limit h.taken ++ l) over.1);
      full = omega (arith, h.counted, length-take limit h.taken);
      lines_are = fed_ended limit start now feed lines h none going;
    }
  where
    one_of : (xs : List ℕ) → length xs ≡ 1 → (x : ℕ) × (xs ≡ x ∷ [])
    one_of [] e = absurd (omega arith)
    one_of (x ∷ []) e = (x, refl)
    one_of (x ∷ y ∷ xs) e = absurd (omega arith)

-- ---- within a line

-- what was seen of a line so far
pub record Begun (before after : Option (List ℕ)) (old new : Feeding) (kept : List ℕ) (long : Bool) : Type 0 where
  pub line : List ℕ
  pub no_newline : HasNoNewline line
  pub kept_line : IsKept line kept long
  pub goes_on : (limit : ℕ) (start : Option (List ℕ)) (lines : List (List ℕ)) → HasFed limit start before old lines → HasFed limit start after (record new { pending = line ++ new.pending }) lines
  pub progress : length line + length new.pending + new.room ≤ length old.pending + old.room

pub Begun-start : (left : Option (List ℕ)) (feed : Feeding) (kept : List ℕ) → kept ≡ [] → Begun left left feed feed kept false
Begun-start left feed kept e = grind (arith, nat_tests, IsKept-nil, HasFed-same, feed.pending)

-- the newline was found
pub Begun-ended : (before after : Option (List ℕ)) (old mid new : Feeding) (kept kept' : List ℕ) (long cut : Bool)
    → Begun before after old mid kept long → TakesPart mid new kept kept' true cut → GivesLine before after old new kept' (long || cut)
Begun-ended before after old mid new kept kept' long cut b t =
    let room : new.room ≡ mid.room = ap (λ (f : Feeding). f.room) t.same in
    record {
      line = b.line ++ t.part;
      kept_line = IsKept-append b.line t.part kept kept' long cut b.kept_line t.appended t.cut_off;
      goes_on = λ limit start lines h. HasFed-line limit start after (record mid { pending = b.line ++ mid.pending }) new lines (b.line ++ t.part) (b.goes_on limit start lines h)
          (ap (λ l. b.line ++ l) t.pending ∙ sym (append_assoc b.line t.part (newline ∷ new.pending)))
          (All-append (λ x. x ≢ newline) b.line t.part b.no_newline t.no_newline) room (ap (λ (f : Feeding). f.source_ended) t.same);
      progress = omega (arith, b.progress, room, ap length t.pending, length-append t.part (newline ∷ new.pending));
    }

-- the pending bytes ended before
pub Begun-part : (before after : Option (List ℕ)) (old mid new : Feeding) (kept kept' : List ℕ) (long cut : Bool)
    → Begun before after old mid kept long → TakesPart mid new kept kept' false cut → Begun before after old new kept' (long || cut)
Begun-part before after old mid new kept kept' long cut b t =
    let room : new.room ≡ mid.room = ap (λ (f : Feeding). f.room) t.same in
    record {
      line = b.line ++ t.part;
      no_newline = All-append (λ x. x ≢ newline) b.line t.part b.no_newline t.no_newline;
      kept_line = IsKept-append b.line t.part kept kept' long cut b.kept_line t.appended t.cut_off;
      goes_on = λ limit start lines h. HasFed-same limit start after (record mid { pending = b.line ++ mid.pending }) (record new { pending = (b.line ++ t.part) ++ new.pending }) lines (b.goes_on limit start lines h)
          (ap (λ l. (b.line ++ t.part) ++ l) t.pending.1 ∙ append-nil (b.line ++ t.part) ∙ ap (λ l. b.line ++ l) (sym t.pending.0)) room (ap (λ (f : Feeding). f.source_ended) t.same);
      progress = omega (arith, b.progress, room, ap length t.pending.0, ap length t.pending.1, length-append b.line t.part);
    }

-- more bytes came
pub Begun-filled : (before mid_left after : Option (List ℕ)) (old mid new : Feeding) (kept : List ℕ) (long : Bool)
    → Begun before mid_left old mid kept long → mid.pending ≡ [] → Gets mid_left after mid new → Begun before after old new kept long
Begun-filled before mid_left after old mid new kept long b nothing more = record {
  line = b.line;
  no_newline = b.no_newline;
  kept_line = b.kept_line;
  goes_on = λ limit start lines h. HasFed-more limit start mid_left after (record mid { pending = b.line ++ mid.pending }) (record new { pending = b.line ++ new.pending }) lines more.got (b.goes_on limit start lines h)
      more.from_source more.counted more.some
      (ap (λ l. b.line ++ l) more.pending ∙ ap (λ l. l ++ take (mid.room - 1) more.got) (sym (ap (λ l. b.line ++ l) nothing ∙ append-nil b.line))) more.going more.goes_on;
  progress = omega (arith, b.progress, more.counted, ap length nothing, ap length more.pending, length-take (mid.room - 1) more.got);
}

-- What each end concludes, where nothing is pending and the source is as it was.
module _ (before mid_left after : Option (List ℕ)) (old mid : Feeding) (kept : List ℕ) (long : Bool) (b : Begun before mid_left old mid kept long)
    (nothing : mid.pending ≡ []) (same : after ≡ mid_left) where
  there : (limit : ℕ) (start : Option (List ℕ)) (lines : List (List ℕ)) → HasFed limit start before old lines → HasFed limit start after (record mid { pending = b.line }) lines
  there limit start lines h =
      subst (λ left. HasFed limit start left (record mid { pending = b.line }) lines) (sym same)
      (HasFed-same limit start mid_left (record mid { pending = b.line ++ mid.pending }) (record mid { pending = b.line }) lines (b.goes_on limit start lines h)
      (sym (ap (λ l. b.line ++ l) nothing ∙ append-nil b.line)) refl refl)

  -- a half line at the end of the source
  pub Begun-last : (new : Feeding) → new ≡ record mid { source_ended = true } → (mid.source_ended ≡ false → IsAtEnd after × (0 < mid.room)) → 0 < length kept
      → GivesLine before after old new kept long
  Begun-last new is end some =
      let nothing' : new.pending ≡ [] = ap (λ (f : Feeding). f.pending) is ∙ nothing in
      let room : new.room ≡ mid.room = ap (λ (f : Feeding). f.room) is in
      let more : 0 < length b.line = omega (arith, length-take 512 b.line, ap length b.kept_line.front) in
      record {
        line = b.line;
        kept_line = b.kept_line;
        goes_on = λ limit start lines h. HasFed-last limit start after (record mid { pending = b.line }) new lines b.line (there limit start lines h) refl b.no_newline more nothing' room
            (ap (λ (f : Feeding). f.source_ended) is) end;
        progress = omega (arith, b.progress, room, ap length nothing', more);
      }

  -- the end of the source, and no line
  pub Begun-end : (mid.source_ended ≡ false → IsAtEnd after × (0 < mid.room)) → length kept ≡ 0 → MeetsEnd before after old
  Begun-end end none limit start lines h =
      HasFed-end limit start after (record mid { pending = b.line }) lines (there limit start lines h) (is_nil b.line (omega (arith, length-take 512 b.line, ap length b.kept_line.front))) end
    where
      is_nil : (xs : List ℕ) → length xs ≡ 0 → xs ≡ []
      is_nil [] e = refl
      is_nil (x ∷ xs) e = absurd (omega arith)

  pub Begun-fault : mid.source_ended ≡ false → 0 < mid.room → MeetsFault before after old
  Begun-fault going room limit start lines h = HasFed-fault limit start after (record mid { pending = b.line }) lines (there limit start lines h) b.no_newline going room

  pub Begun-limit : mid.source_ended ≡ false → mid.room ≡ 0 → MeetsLimit before after old
  Begun-limit going full limit start lines h = HasFed-too_long limit start after (record mid { pending = b.line }) lines (there limit start lines h) b.no_newline going full

-- a line and its newline are within the bytes that begin with them
pub begins_within : (count : ℕ) (bytes : List ℕ) → BeginWithLine count bytes → count < length bytes
begins_within count bytes h = omega (arith, length-take count bytes, ap length h.parts, length-append (take count bytes) (newline ∷ h.rest))

-- the line that is pending whole goes
pub passed : (left : Option (List ℕ)) (old new : Feeding) (count : ℕ) → BeginWithLine count old.pending → length old.pending ≤ 512 → new.pending ≡ drop (count + 1) old.pending
    → new.room ≡ old.room → new.source_ended ≡ old.source_ended → GivesLine left left old new (take count old.pending) false
passed left old new count h fits rest room ended =
    let line = take count old.pending in
    let len : length line + (1 + length h.rest) ≡ length old.pending = omega (arith, ap length h.parts, length-append line (newline ∷ h.rest)) in
    let behind : new.pending ≡ h.rest = rest ∙ cut in
    record {
      line = line;
      kept_line = record { front = sym (take_all 512 line (omega (arith, len))); cut = (λ e. cc, λ k. absurd (omega (arith, len))) };
      goes_on = λ limit start lines g. HasFed-line limit start left old new lines line g (h.parts ∙ ap (λ l. line ++ newline ∷ l) (sym behind)) h.no_newline room ended;
      progress = omega (arith, len, room, ap length behind);
    }
  where
    cut : drop (count + 1) old.pending ≡ h.rest
    cut =
        ap (drop (count + 1)) h.parts ∙ ap (λ m. drop m (take count old.pending ++ newline ∷ h.rest)) at
        ∙ drop-append-add (take count old.pending) (newline ∷ h.rest) 1
      where
        at : count + 1 ≡ length (take count old.pending) + 1
        at = omega (arith, length-take count old.pending, ap length h.parts, length-append (take count old.pending) (newline ∷ h.rest))
