-- Where each item is released once, so are the items of a file together.
use Rattle.session_laws.proofs.Words.{◌≡◌, ℕ, ◌+◌, ◌≤◌, Bool, true, false, cond, if◌then◌else◌, List, [], ◌∷◌, ◌++◌, length, Option, Some, None, refl, arith, ◌==◌, ◌&&◌, sum_by, option_map_or, and_from, and_parts, both_ways, eq-eqb, eqb-true, leb-true, sum_by-cons, nat_tests, ◌-◌, nat_le, acquires, one_where, releases, same_item, closes, opens}
use Rattle.session_laws.proofs.Scenes.{What, Item, is_of, file_kind, SessionState, opening, Error, Command, table_of, KindTable, Around, Moment, Scene, exited, StandsBetweenLines, turn}
use Rattle.session_laws.proofs.Rules.{allows_all, seen_after, Reader, BalancesFrom, count, covers, left, said_one, times}
use Rattle.session_laws.proofs.FilesHeld.{item_reader, leaves_file, takes_file, ItemFits, items_exit, items_turn, items_aside}
use Rattle.session_laws.proofs.Lives.{IsRead, Reads, IsLife}
use Rattle.session_laws.proofs.MadeOnce.{FitsPair, IsPaired, Pair, pair_reads, paired}
use Rattle.session_laws.proofs.FilesLife.{AreOpened, FilesFit, opening_turns, files_elsewhere, files_error, files_exit, files_open, files_turn}
use Rattle.pgs_step.specs.declared.events.What.TheVariants as what

-- what is brought is what is taken and what is left
pub balance_sum : (brings takes : What → ℕ) (n : ℕ) (events : List What) → allows_all (count brings takes) n events ≡ true → n + sum_by brings events ≡ seen_after (count brings takes) n events + sum_by takes events
balance_sum brings takes n [] h = refl
balance_sum brings takes n (event ∷ events) h =
    let p = and_parts (nat_le (takes event) n) _ h in
    let enough : takes event ≤ n = leb-true (takes event) n p.0 in
    omega (arith, enough, balance_sum brings takes (n + brings event - takes event) events p.1, sum_by-cons brings event events, sum_by-cons takes event events)

sum_same : (g h : What → ℕ) → ((event : What) → g event ≡ h event) → (events : List What) → sum_by g events ≡ sum_by h events
sum_same g h same [] = refl
sum_same g h same (event ∷ events) = omega (arith, same event, sum_same g h same events, sum_by-cons g event events, sum_by-cons h event events)

-- an item and its owner
abbrev ItemOwner : Type 0
ItemOwner = Item × ℕ

abbrev same : ItemOwner → ItemOwner → Bool
same p q = same_item p.0 q.0 && (p.1 == q.1)

record AreSame (x y : ItemOwner) : Type 0 where
  kind : x.0.kind.0 ≡ y.0.kind.0
  key : x.0.key ≡ y.0.key
  serial : x.0.serial ≡ y.0.serial
  owner : x.1 ≡ y.1

same_itself : (x : ItemOwner) → same x x ≡ true
same_itself x = grind (arith, nat_tests, and_from, eq-eqb)

-- how often a pair stands in a list
abbrev often : ItemOwner → List ItemOwner → ℕ
often p xs = sum_by (λ q. one_where (same p q)) xs

often_more : (p x : ItemOwner) (xs : List ItemOwner) → often p (x ∷ xs) ≡ one_where (same p x) + often p xs
often_more p x xs = sum_by-cons (λ q. one_where (same p q)) x xs

-- without one of a pair
abbrev but_one : ItemOwner → List ItemOwner → List ItemOwner
but_one x [] = []
but_one x (y ∷ ys) = (if same x y then ys else y ∷ but_one x ys)

often_but : (p x : ItemOwner) (ys : List ItemOwner) → 1 ≤ often x ys → often p (but_one x ys) + one_where (same p x) ≡ often p ys
often_but p x [] h = absurd (omega (arith, h))
often_but p x (y ∷ ys) h = grind (arith, nat_tests, often_but p x ys, often_more)

length_but : (x : ItemOwner) (ys : List ItemOwner) → 1 ≤ often x ys → length (but_one x ys) + 1 ≡ length ys
length_but x [] h = absurd (omega (arith, h))
length_but x (y ∷ ys) h = grind (arith, nat_tests, length_but x ys)

module _ (f : ℕ) where
  -- pairs whose items are of the file
  abbrev AreOf : List ItemOwner → Type 0
  AreOf [] = Unit {0}
  AreOf (x ∷ xs) = (is_of file_kind f x.0 ≡ true) × AreOf xs

  no_longer : (xs ys : List ItemOwner) → AreOf xs → ((p : ItemOwner) → is_of file_kind f p.0 ≡ true → often p xs ≤ often p ys) → length xs ≤ length ys
  no_longer [] ys of less = omega arith
  no_longer (x ∷ xs) ys of less = grind (arith, nat_tests, no_longer xs (but_one x ys) of.1, often_more, same_itself, length_but, often_but)

  -- the pairs of some events whose items are of the file
  abbrev of_pair : Option ItemOwner → List ItemOwner
  of_pair None = []
  of_pair (Some p) = (if is_of file_kind f p.0 then p ∷ [] else [])

  abbrev pairs : (What → Option ItemOwner) → List What → List ItemOwner
  pairs pick [] = []
  pairs pick (event ∷ events) = of_pair (pick event) ++ pairs pick events

  abbrev in_file : Option ItemOwner → ℕ
  in_file o = option_map_or (λ p. cond (is_of file_kind f p.0) 1 0) o 0

  abbrev is_it : ItemOwner → Option ItemOwner → ℕ
  is_it p o = option_map_or (λ q. one_where (same p q)) o 0

  pairs_of : (pick : What → Option ItemOwner) (events : List What) → AreOf (pairs pick events)
  pairs_of pick [] = tt
  pairs_of pick (event ∷ events) = grind (arith, nat_tests, pairs_of pick events)

  pairs_length : (pick : What → Option ItemOwner) (events : List What) → length (pairs pick events) ≡ sum_by (λ event. in_file (pick event)) events
  pairs_length pick [] = refl
  pairs_length pick (event ∷ events) = omega (arith, go (pick event), pairs_length pick events, sum_by-cons (λ event. in_file (pick event)) event events)
    where
      one : (p : ItemOwner) (b : Bool) → length ((if b then p ∷ [] else []) ++ pairs pick events) ≡ cond b 1 0 + length (pairs pick events)
      one p b = grind (arith, nat_tests)

      go : (o : Option ItemOwner) → length (of_pair o ++ pairs pick events) ≡ in_file o + length (pairs pick events)
      go o = grind (arith, nat_tests, one)

  -- another item isn't of the file
  apart : (p q : ItemOwner) → is_of file_kind f p.0 ≡ true → is_of file_kind f q.0 ≡ false → one_where (same p q) ≡ 0
  apart p q is not = grind (arith, nat_tests, both_ways)

  pairs_often : (pick : What → Option ItemOwner) (p : ItemOwner) → is_of file_kind f p.0 ≡ true → (events : List What) → often p (pairs pick events) ≡ sum_by (λ event. is_it p (pick event)) events
  pairs_often pick p is [] = refl
  pairs_often pick p is (event ∷ events) = omega (arith, go (pick event), pairs_often pick p is events, sum_by-cons (λ event. is_it p (pick event)) event events)
    where
      one : (q : ItemOwner) (b : Bool) → is_of file_kind f q.0 ≡ b → often p ((if b then q ∷ [] else []) ++ pairs pick events) ≡ one_where (same p q) + often p (pairs pick events)
      one q b e = grind (arith, nat_tests, often_more, apart)

      go : (o : Option ItemOwner) → often p (of_pair o ++ pairs pick events) ≡ is_it p o + often p (pairs pick events)
      go o = grind (arith, nat_tests, one)

  -- what is acquired and what is released
  abbrev acquired : What → Option ItemOwner
  acquired (what.Acquire item owner) = Some (item, owner)
  acquired other = None

  abbrev released : What → Option ItemOwner
  released (what.Release item owner) = Some (item, owner)
  released other = None

  takes_is : (event : What) → takes_file f event ≡ in_file (acquired event)
  takes_is event = grind (arith, nat_tests)

  leaves_is : (event : What) → leaves_file f event ≡ in_file (released event)
  leaves_is event = grind (arith, nat_tests)

  acquires_is : (p : ItemOwner) (event : What) → acquires p.0 p.1 event ≡ is_it p (acquired event)
  acquires_is p event = grind (arith, nat_tests)

  releases_is : (p : ItemOwner) (event : What) → releases p.0 p.1 event ≡ is_it p (released event)
  releases_is p event = grind (arith, nat_tests)

  -- Where each item is acquired and released in balance, no item of the file is left.
  pub none_left_of : (events : List What) → ((item : Item) (owner : ℕ) → BalancesFrom 0 (acquires item owner) (releases item owner) events) → allows_all (item_reader f) 0 events ≡ true
      → seen_after (item_reader f) 0 events ≡ 0
  none_left_of events items allowed =
      let short : length (pairs acquired events) ≤ length (pairs released events) =
      no_longer (pairs acquired events) (pairs released events) (pairs_of acquired events)
      (λ p is.
      let b = and_parts (covers (acquires p.0 p.1) (releases p.0 p.1) 0 events) (left (acquires p.0 p.1) (releases p.0 p.1) 0 events == 0) (items p.0 p.1) in
      omega (
        arith,
        balance_sum (acquires p.0 p.1) (releases p.0 p.1) 0 events b.0,
        eqb-true (left (acquires p.0 p.1) (releases p.0 p.1) 0 events) 0 b.1,
        pairs_often acquired p is events,
        pairs_often released p is events,
        sum_same (acquires p.0 p.1) (λ event. is_it p (acquired event)) (acquires_is p) events,
        sum_same (releases p.0 p.1) (λ event. is_it p (released event)) (releases_is p) events,
      )) in
      omega (
        arith,
        short,
        balance_sum (takes_file f) (leaves_file f) 0 events allowed,
        pairs_length acquired events,
        pairs_length released events,
        sum_same (takes_file f) (λ event. in_file (acquired event)) takes_is events,
        sum_same (leaves_file f) (λ event. in_file (released event)) leaves_is events,
      )

-- Descriptors are closed as they are opened, where a file has one only while more of its items were acquired than released.

-- What is owed of the items of a file: a reader that counts them has seen as many, at least, as the file has descriptors.
pub record CoversFile (file : ℕ) (reader : Reader ℕ) (Fits : ℕ → Scene → Type 0) : Type 0 where
  pub few : (n : ℕ) (s : Scene) → Fits n s → times file s.session.recent ≤ n
  pub opens : (around : Around) → Fits 0 (record { session = opening; around = around })
  pub elsewhere : (n : ℕ) (session : SessionState) (a b : Around) → table_of b.kinds ≡ table_of a.kinds → b.descriptors ≡ a.descriptors
      → Fits n (record { session = session; around = a }) → Fits n (record { session = session; around = b })
  pub error : (error : Error) (s : Scene) → Reads reader Fits s s (what.Error error ∷ [])
  pub turns : (w : Option ℕ) (line : Option Command) (m : Moment) → StandsBetweenLines m.scene → Reads reader Fits m.scene (turn w line m).moment.scene (turn w line m).events
  pub exits : (s : Scene) → StandsBetweenLines s → Reads reader Fits s (exited s).scene (exited s).events

module _ (file : ℕ) (items : Reader ℕ) (Fits : ℕ → Scene → Type 0) (covered : CoversFile file items Fits) where
  abbrev files : Reader ℕ
  files = count (opens file) (closes file)

  -- what both readers have seen fits
  abbrev pub FitsBoth : Pair ℕ ℕ → Scene → Type 0
  FitsBoth seen s = FitsPair files items (FilesFit file AreOpened) Fits seen s

  both_read : {s t : Scene} {events : List What} → Reads files (FilesFit file AreOpened) s t events → Reads items Fits s t events → Reads (paired files items) FitsBoth s t events
  both_read {t = t} {events = events} h k = record {
    so = λ seen fit.
        let x : IsRead files (FilesFit file AreOpened) seen.first t events = h.so seen.first fit.first in
        let y : IsRead items Fits seen.second t events = k.so seen.second fit.second in
        let w : IsPaired files items seen events = pair_reads files items events seen x.allowed y.allowed in
        record {
          allowed = w.allowed;
          fits = grind (arith, nat_tests);
        };
  }

  abbrev pub nothing_seen : Pair ℕ ℕ
  nothing_seen = record { first = 0; second = 0 }

  exits_both : (s : Scene) → StandsBetweenLines s → (seen : Pair ℕ ℕ) → FitsBoth seen s
      → (allows_all (paired files items) seen (exited s).events ≡ true) × ((seen_after (paired files items) seen (exited s).events).first ≤ (seen_after (paired files items) seen (exited s).events).second)
  exits_both s h seen fit =
      let after : Pair ℕ ℕ = seen_after (paired files items) seen (exited s).events in
      let read : IsRead (paired files items) FitsBoth seen (exited s).scene (exited s).events = (both_read (files_exit file files AreOpened (opening_turns file) s) (covered.exits s h)).so seen fit in
      (read.allowed, omega (arith, read.fits.first.counted, covered.few after.second (exited s).scene read.fits.second))

  -- In the life of a session a file has no more descriptors in the end than items of it are left.
  pub files_life : (kinds : KindTable) → IsLife kinds (paired files items) FitsBoth nothing_seen (λ seen. seen.first ≤ seen.second)
  files_life kinds = record {
    opens = λ around table. record { first = files_open file AreOpened 0 around refl; second = covered.opens around };
    elsewhere = grind (arith, nat_tests, files_elsewhere);
    error = λ error s. both_read (files_error file files AreOpened (opening_turns file) error s) (covered.error error s);
    turns = λ w line m h. both_read (files_turn file files AreOpened (opening_turns file) w line m) (covered.turns w line m h);
    exits = exits_both;
  }

-- what a pair of readers allows each of them does
pair_parts : (one two : Reader ℕ) (events : List What) (seen : Pair ℕ ℕ) → allows_all (paired one two) seen events ≡ true → (allows_all one seen.first events ≡ true) × (allows_all two seen.second events ≡ true)
pair_parts one two [] seen h = (refl, refl)
pair_parts one two (event ∷ events) seen h = grind (arith, nat_tests, pair_parts one two events, and_parts, paired, and_from)

-- what is owed of the items of a file holds
items_open : (file : ℕ) (around : Around) → ItemFits file 0 (record { session = opening; around = around })
unfolding opening
items_open file around = record { few = omega arith; covered = omega arith; covers = omega arith; once = record { once = λ n. omega arith } }

pub items_cover : (file : ℕ) → CoversFile file (item_reader file) (ItemFits file)
items_cover file = search (arith, items_open, items_aside, said_one, items_turn, items_exit)

-- So descriptors balance where items do.
pub files_balance : (file : ℕ) (events : List What) → ((item : Item) (owner : ℕ) → BalancesFrom 0 (acquires item owner) (releases item owner) events)
    → allows_all (paired (count (opens file) (closes file)) (item_reader file)) (record { first = 0; second = 0 }) events ≡ true
    → (seen_after (paired (count (opens file) (closes file)) (item_reader file)) (record { first = 0; second = 0 }) events).first ≤ (seen_after (paired (count (opens file) (closes file)) (item_reader file)) (record { first = 0; second = 0 }) events).second
    → BalancesFrom 0 (opens file) (closes file) events
files_balance file events balances allowed few =
    let start : Pair ℕ ℕ = record { first = 0; second = 0 } in
    let p = pair_parts (count (opens file) (closes file)) (item_reader file) events start allowed in
    let w : IsPaired (count (opens file) (closes file)) (item_reader file) start events = pair_reads (count (opens file) (closes file)) (item_reader file) events start p.0 p.1 in
    let none : seen_after (item_reader file) 0 events ≡ 0 = none_left_of file events balances p.1 in
    and_from (covers (opens file) (closes file) 0 events) (left (opens file) (closes file) 0 events == 0) p.0
    (eq-eqb (left (opens file) (closes file) 0 events) 0 (omega (arith, few, w.first, w.second, none)))
