-- The stack of active snapshots: each pop is of the newest one.
use Rattle.session_laws.proofs.Words.{◌≡◌, ℕ, zero, suc, ◌+◌, ◌-◌, ◌≤◌, Bool, true, false, List, [], ◌∷◌, ◌++◌, length, map, reverse, take, Some, refl, sym, ap, ◌∙◌, inl, inr, arith, Option, subst, ◌==◌, ◌⊎◌, filter, nat_lt, if◌then◌else◌, cases_Bool, lt-leb, le-leb, ltb-true, ltb-false, le-ltb, and_from, eq-eqb, append-nil, append_assoc, map-append, reverse-append, reverse-reverse, length-append, take_at, filter-append, nat_tests, none_left, stacking}
use Rattle.session_laws.proofs.Scenes.{first_of, last_of, opening, AreStacked, Stands, StandsBetweenLines, What, Command, KindTable, Around, Moment, Scene, Element, snapshot_pushed, does, exited, stack_popped, turn, is_deep, kept_below, lowered, pops, Active}
use Rattle.session_laws.proofs.Rules.{allows_all, seen_after, Law, exited_stands, Meets, line_runs, fallible_at, said_none, said_one, of_snapshots, depth_small}
use Rattle.session_laws.proofs.Lives.{IsLife, Reads, read_both}
use Rattle.session_laws.proofs.LocksSight.{PassesOver, Sees, hides, of_stack, read_plain, subject, files_hidden, locked_hidden, locks_hidden, unlocked_hidden, OwesUnlocks, Turns, ending_turn, least_acts, lock_owed, owner_owed, session_exits, touch_owed, unlock_owed, Base, by_owner_made, least_of, ArePlain}
use Rattle.pgs_step.specs.declared.events.What.TheVariants as what
use Rattle.session_rules.specs.Elements as e

-- the numbers of the active snapshots, the newest first
abbrev pub numbers : List Active → List ℕ
numbers entries = map (λ entry. entry.snapshot) entries

abbrev pub newest_first : List Active → List ℕ
newest_first entries = numbers (reverse entries)

-- the levels never fall, from the first one on
abbrev pub IsRising : ℕ → List Active → Type 0
IsRising least [] = Unit {0}
IsRising least (entry ∷ entries) = (least ≤ entry.level) × IsRising entry.level entries

pub rising_from : (low least : ℕ) (entries : List Active) → low ≤ least → IsRising least entries → IsRising low entries
rising_from low least [] l h = tt
rising_from low least (entry ∷ entries) l h = (omega (arith, l, h.0), h.1)

-- one is pushed at a level that is at least theirs
pub rising_pushed : (low least most : ℕ) (new : Active) (entries : List Active) → AreStacked least most entries → low ≤ least → low ≤ new.level → most ≤ new.level → IsRising low (entries ++ (new ∷ []))
rising_pushed low least most new [] h l u m = (u, tt)
rising_pushed low least most new (entry ∷ entries) h l u m =
    (omega (arith, l, h.0), rising_pushed entry.level entry.level most new entries h.2 (omega arith) (omega (arith, h.1, m)) m)

-- the newest are popped
pub rising_taken : (n least : ℕ) (entries : List Active) → IsRising least entries → IsRising least (take n entries)
rising_taken zero least entries h = tt
rising_taken (suc n) least [] h = tt
rising_taken (suc n) least (entry ∷ entries) h = (h.0, rising_taken n entry.level entries h.1)

-- those of a level and of deeper ones are popped
pub rising_kept : (level least : ℕ) (entries : List Active) → IsRising least entries → IsRising least (kept_below level entries)
rising_kept level least [] h = tt
rising_kept level least (entry ∷ entries) h = grind (arith, nat_tests, rising_kept level entry.level entries h.1, rising_from)

-- those of a level belong to the one above
abbrev lower : ℕ → ℕ → ℕ
lower level n = (if n == level then level - 1 else n)

lowered_level : (level : ℕ) (entry : Active) → (lowered level entry).level ≡ lower level entry.level
lowered_level level entry = grind (arith, nat_tests)

rising_lowered_from : (level low least : ℕ) (entries : List Active) → low ≤ lower level least → IsRising least entries → IsRising low (map (lowered level) entries)
rising_lowered_from level low least [] l h = tt
rising_lowered_from level low least (entry ∷ entries) l h = grind (arith, nat_tests, rising_lowered_from level (lowered level entry).level entry.level entries (omega (arith, lowered_level level entry)) h.1, lowered_level)

pub rising_lowered : (level : ℕ) (entries : List Active) → IsRising 0 entries → IsRising 0 (map (lowered level) entries)
rising_lowered level entries h = rising_lowered_from level 0 0 entries (omega arith) h

pub numbers_lowered : (level : ℕ) (entries : List Active) → numbers (map (lowered level) entries) ≡ numbers entries
numbers_lowered level [] = refl
numbers_lowered level (entry ∷ entries) = grind (arith, nat_tests, numbers_lowered level entries)

-- the newest of a list stands in front of it where it is turned round
pub newest_again : (x : Active) (xs : List Active) → reverse (x ∷ xs) ≡ reverse xs ++ (x ∷ [])
newest_again x xs = reverse-append (x ∷ []) xs

reverse_numbers : (entries : List Active) → newest_first entries ≡ reverse (numbers entries)
reverse_numbers [] = refl
reverse_numbers (entry ∷ entries) = grind (arith, nat_tests, reverse_numbers entries, newest_again entry entries, map-append, reverse-append (entry.snapshot ∷ []) (numbers entries))

pub newest_lowered : (level : ℕ) (entries : List Active) → newest_first (map (lowered level) entries) ≡ newest_first entries
newest_lowered level entries = reverse_numbers (map (lowered level) entries) ∙ ap (λ (ns : List ℕ). reverse ns) (numbers_lowered level entries) ∙ sym (reverse_numbers entries)

pub newest_pushed : (entries : List Active) (new : Active) → newest_first (entries ++ (new ∷ [])) ≡ new.snapshot ∷ newest_first entries
newest_pushed entries new = ap numbers (reverse-append entries (new ∷ []))

-- The newest of the stack, and the others.
pub newest_taken : (entries : List Active) (entry : Active) → last_of entries ≡ Some entry → newest_first entries ≡ entry.snapshot ∷ newest_first (take (length entries - 1) entries)
newest_taken entries entry h = go (reverse entries) refl h
  where
    go : (ys : List Active) → reverse entries ≡ ys → first_of ys ≡ Some entry → newest_first entries ≡ entry.snapshot ∷ newest_first (take (length entries - 1) entries)
    go [] e f = absurd (cc f)
    go (y ∷ ys) e f =
        let same : y ≡ entry = cc f in
        let is : entries ≡ reverse ys ++ (y ∷ []) = sym (reverse-reverse entries) ∙ ap (λ (zs : List Active). reverse zs) e ∙ newest_again y ys in
        let long : length entries ≡ length (reverse ys) + 1 = ap (λ (zs : List Active). length zs) is ∙ length-append (reverse ys) (y ∷ []) in
        let front : take (length entries - 1) entries ≡ reverse ys = ap (λ (zs : List Active). take (length entries - 1) zs) is ∙ take_at (reverse ys) (y ∷ []) (length entries - 1) (omega (arith, long)) in
        ap numbers e ∙ ap (λ (n : Active). n.snapshot ∷ numbers ys) same
        ∙ ap (λ (zs : List Active). entry.snapshot ∷ numbers zs) (sym (reverse-reverse ys)) ∙ ap (λ (zs : List Active). entry.snapshot ∷ newest_first zs) (sym front)

-- none of a level below is left where all are at least of it
none_kept : (level least : ℕ) (entries : List Active) → level ≤ least → IsRising least entries → kept_below level entries ≡ []
none_kept level least [] l h = refl
none_kept level least (entry ∷ entries) l h = grind (arith, nat_tests, none_kept level entry.level entries, le-ltb)

joined : {a b c d : List Active} → a ≡ b → c ≡ d → a ++ c ≡ b ++ d
joined {a = a} {d = d} e f = ap (λ (zs : List Active). a ++ zs) f ∙ ap (λ (zs : List Active). zs ++ d) e

-- The stack is what is popped, and then what is kept.
pub popped_first : (level least : ℕ) (entries : List Active) → IsRising least entries → reverse entries ≡ filter (is_deep level) (reverse entries) ++ reverse (kept_below level entries)
popped_first level least [] h = refl
popped_first level least (entry ∷ entries) h = go (cases_Bool (nat_lt entry.level level)) (popped_first level entry.level entries h.1)
  where
    deep : List Active
    deep = filter (is_deep level) (reverse entries)

    one : (b : Bool) → is_deep level entry ≡ b → filter (is_deep level) (reverse (entry ∷ entries)) ≡ deep ++ (if b then entry ∷ [] else [])
    one b e = grind (arith, nat_tests, newest_again, filter-append, deep)

    go : (nat_lt entry.level level ≡ true) ⊎ (nat_lt entry.level level ≡ false) → reverse entries ≡ deep ++ reverse (kept_below level entries)
        → reverse (entry ∷ entries) ≡ filter (is_deep level) (reverse (entry ∷ entries)) ++ reverse (kept_below level (entry ∷ entries))
    go (inl y) rest =
        let kept : reverse (kept_below level (entry ∷ entries)) ≡ reverse (kept_below level entries) ++ (entry ∷ []) = grind (arith, nat_tests, newest_again) in
        newest_again entry entries ∙ ap (λ (zs : List Active). zs ++ (entry ∷ [])) rest ∙ append_assoc deep (reverse (kept_below level entries)) (entry ∷ [])
        ∙ sym (joined (one false (lt-leb level entry.level (ltb-true entry.level level y)) ∙ append-nil deep) kept)
    go (inr z) rest =
        let more : level ≤ entry.level = ltb-false entry.level level z in
        let none : kept_below level entries ≡ [] = none_kept level entry.level entries more h.1 in
        let kept : reverse (kept_below level (entry ∷ entries)) ≡ [] = grind (arith, nat_tests) in
        let all : reverse entries ≡ deep = rest ∙ ap (λ (zs : List Active). deep ++ reverse zs) none ∙ append-nil deep in
        newest_again entry entries ∙ ap (λ (zs : List Active). zs ++ (entry ∷ [])) all ∙ sym (append-nil (deep ++ (entry ∷ [])))
        ∙ sym (joined (one true (le-leb level entry.level more)) kept)

-- Each pop is of the newest active snapshot and none is left, in the life of each session.

-- The stack that the reader has seen is that of the scene, and its levels never fall.
pub record StackFits (stack : List ℕ) (s : Scene) : Type 0 where
  pub is : stack ≡ newest_first s.session.snapshots
  pub rises : IsRising 0 s.session.snapshots

abbrev ReadsStack : Law
ReadsStack = Reads stacking StackFits

stacking_next : (event : What) → hides (subject event) of_stack ≡ true → (stack : List ℕ) → stacking.next event stack ≡ stack
stacking_next event h stack = grind (arith, nat_tests)

stacking_allows : (event : What) → hides (subject event) of_stack ≡ true → (stack : List ℕ) → stacking.allows event stack ≡ true
stacking_allows event h stack = grind (arith, nat_tests)

stacking_over : PassesOver of_stack stacking
stacking_over = record { next = stacking_next; allows = stacking_allows }

stack_aside : (s t : Scene) {events : List What} → t.session.snapshots ≡ s.session.snapshots → ArePlain of_stack events → ReadsStack s t events
stack_aside s t same plain = record {
  so = λ stack h. read_plain of_stack stacking StackFits stacking_over stack t plain (record { is = h.is ∙ ap newest_first (sym same); rises = subst (IsRising 0) (sym same) h.rises });
}

stack_seen : Sees of_stack ReadsStack
stack_seen = record { both = λ a b. read_both stacking StackFits a b; aside = λ s t same plain. stack_aside s t (same.so of_snapshots refl) plain }

-- those of a level and of deeper ones are popped
pops_allowed : (entries : List Active) (rest : List ℕ) → allows_all stacking (numbers entries ++ rest) (map (λ entry. what.Pop entry.snapshot) entries) ≡ true
pops_allowed [] rest = refl
pops_allowed (entry ∷ entries) rest = and_from (entry.snapshot == entry.snapshot) _ (eq-eqb entry.snapshot entry.snapshot refl) (pops_allowed entries rest)

pops_leave : (entries : List Active) (rest : List ℕ) → seen_after stacking (numbers entries ++ rest) (map (λ entry. what.Pop entry.snapshot) entries) ≡ rest
pops_leave [] rest = refl
pops_leave (entry ∷ entries) rest = pops_leave entries rest

gone_so : (level : ℕ) (s : Scene) → ReadsStack s (stack_popped level s).scene (stack_popped level s).events
gone_so level s = record {
  so = λ stack h.
      let entries : List Active = s.session.snapshots in
      let deep : List Active = filter (is_deep level) (reverse entries) in
      let rest : List ℕ = newest_first (kept_below level entries) in
      let is : stack ≡ numbers deep ++ rest = h.is ∙ ap numbers (popped_first level 0 entries h.rises) ∙ map-append (λ (n : Active). n.snapshot) deep (reverse (kept_below level entries)) in
      record {
        allowed = ap (λ (ns : List ℕ). allows_all stacking ns (pops level (reverse entries))) is ∙ pops_allowed deep rest;
        fits = record { is = ap (λ (ns : List ℕ). seen_after stacking ns (pops level (reverse entries))) is ∙ pops_leave deep rest; rises = rising_kept level 0 entries h.rises };
      };
}

stack_base : Base of_stack ReadsStack
stack_base = record { sees = stack_seen; locks = locks_hidden of_stack ReadsStack stack_seen refl; files = files_hidden of_stack ReadsStack stack_seen refl }

stack_law : Turns of_stack ReadsStack
stack_law = grind (arith, nat_tests, least_of, of_stack, stack_base, stack_aside, said_none, newest_taken, and_from, eq-eqb, rising_taken, gone_so, newest_lowered, rising_lowered)

-- one is pushed where the scene stands
pushed_so : (snapshot : ℕ) (s : Scene) → Stands s → ReadsStack s (snapshot_pushed snapshot s).scene (snapshot_pushed snapshot s).events
pushed_so snapshot s stands = grind (arith, nat_tests, newest_pushed, rising_pushed, depth_small)

stack_owed : (w : Option ℕ) (x : Element) (m : Moment) → Meets x m.scene → OwesUnlocks ReadsStack w x m
unfolding does
stack_owed w (e.InTurn name x) m meets = stack_owed w x m (record { stands = meets.stands; asks = meets.asks })
stack_owed w (e.MakeOwner role) m meets = owner_owed of_stack ReadsStack stack_law w role m (by_owner_made of_stack ReadsStack stack_base refl)
stack_owed w (e.TakeLock role object mode) m meets = lock_owed of_stack ReadsStack stack_law.least w role object mode m (locked_hidden of_stack ReadsStack stack_seen refl object mode)
stack_owed w (e.Unlock object mode) m meets = unlock_owed of_stack ReadsStack stack_law.least w object mode m (unlocked_hidden of_stack ReadsStack stack_seen refl object mode)
stack_owed w (e.Touch file) m meets = touch_owed of_stack ReadsStack stack_law.least w file m ((files_hidden of_stack ReadsStack stack_seen refl).used file)
stack_owed w (e.PushSnapshot snapshot) m meets = fallible_at ReadsStack (least_acts of_stack ReadsStack stack_law.least) w m _ (snapshot_pushed snapshot) (pushed_so snapshot m.scene meets.stands)
stack_owed w other m meets = tt

stack_turn : (w : Option ℕ) (line : Option Command) (m : Moment) → StandsBetweenLines m.scene → ReadsStack m.scene (turn w line m).moment.scene (turn w line m).events
stack_turn w line m h =
    ending_turn of_stack ReadsStack stack_law Meets w line m (line_runs w line m h) (stack_owed w)

stack_opens : (around : Around) → StackFits [] (record { session = opening; around = around })
unfolding opening
stack_opens around = record { is = refl; rises = tt }

stack_exit : (s : Scene) → StandsBetweenLines s → (stack : List ℕ) → StackFits stack s → (allows_all stacking stack (exited s).events ≡ true) × (none_left (seen_after stacking stack (exited s).events) ≡ true)
stack_exit s h stack fits = grind (arith, nat_tests, session_exits, of_stack, stack_law, exited_stands)

-- The stack of snapshots in the life of a session.
pub stack_life : (kinds : KindTable) → IsLife kinds stacking StackFits [] (λ stack. none_left stack ≡ true)
stack_life kinds = record {
  opens = λ around same. stack_opens around;
  elsewhere = λ stack session a b same descriptors h. record { is = h.is; rises = h.rises };
  error = λ error s. stack_aside s s refl (said_one (what.Error error) refl);
  turns = stack_turn;
  exits = stack_exit;
}
