-- Which events open a release, warn, or stand beside what a release releases.
use Rattle.session_laws.proofs.Words.{Bool, true, false, ◌≡◌, ℕ, not, List, [], ◌∷◌, Option, None, refl, subst, sym, and_from, eq-eqb, nat_tests, arith, same_item}
use Rattle.session_laws.proofs.Scenes.{What, Item, Command, KindTable, Moment, Scene, turn}
use Rattle.session_laws.proofs.Rules.{allows_all, seen_after, EndLeaves, Law, OwnerLeaves, AreSaid, said_more, said_none, said_one, Sight, item_comes, no_part, owner_makes, unseen_keys, exit_follows, Owned, warning, warning_behind}
use Rattle.session_laws.proofs.Usual.{Usual, any_turn_follows, is_usual, usual_makes, usual_moves, plain_ends}
use Rattle.session_laws.proofs.Lives.{IsLife, IsRead, Reads, read_both}
use Rattle.pgs_step.specs.declared.events.What.TheVariants as what

-- what is said beside what a release releases: of contexts that go, of descriptors and of snapshots
abbrev pub is_aside : What → Bool
is_aside (what.Callback word context) = true
is_aside (what.Delete context) = true
is_aside (what.DescriptorClosed file) = true
is_aside (what.Pop snapshot) = true
is_aside other = false

-- what opens a release
abbrev pub is_line : What → Bool
is_line (what.CommitLevel level) = true
is_line (what.AbortLevel level) = true
is_line other = false

-- what warns
abbrev pub is_warning : What → Bool
is_warning (what.NotClosed item owner) = true
is_warning other = false

-- A warning of what was not closed stands directly before the release of its item.

-- between two steps of a session no warning waits for its release
abbrev pub IsSettled : Option Owned → Scene → Type 0
IsSettled before s = before ≡ None

abbrev pub Warns : Law
Warns s t events = Reads warning IsSettled s t events

abbrev is_calm : What → Bool
is_calm event = not (is_warning event)

usual_calm : (event : What) → is_usual event ≡ true → is_calm event ≡ true
usual_calm event h = grind (arith, nat_tests)

no_warning : (event : What) → is_calm event ≡ true → warning_behind event ≡ None
no_warning event h = grind (arith, nat_tests)

calm_allowed : {events : List What} → AreSaid is_calm events → allows_all warning None events ≡ true
calm_allowed said_none = refl
calm_allowed (said_more {event = event} {events = events} h hs) =
    subst (λ (o : Option Owned). allows_all warning o events ≡ true) (sym (no_warning event h)) (calm_allowed hs)

calm_after : {events : List What} → AreSaid is_calm events → seen_after warning None events ≡ None
calm_after said_none = refl
calm_after (said_more {event = event} {events = events} h hs) =
    subst (λ (o : Option Owned). seen_after warning o events ≡ None) (sym (no_warning event h)) (calm_after hs)

-- what is read where nothing waits
from_none : (t : Scene) (events : List What) → allows_all warning None events ≡ true → seen_after warning None events ≡ None → (seen : Option Owned) → seen ≡ None → IsRead warning IsSettled seen t events
from_none t events h k seen is = subst (λ (o : Option Owned). IsRead warning IsSettled o t events) (sym is) (record { allowed = h; fits = k })

calm_reads : (s t : Scene) {events : List What} → AreSaid is_calm events → Warns s t events
calm_reads s t {events = events} h = record { so = from_none t events (calm_allowed h) (calm_after h) }

one_reads : (s t : Scene) (event : What) → is_calm event ≡ true → Warns s t (event ∷ [])
one_reads s t event h = calm_reads s t (said_one event h)

pub same_itself : (item : Item) → same_item item item ≡ true
same_itself item = grind (arith, nat_tests, and_from, eq-eqb)

-- a warning and the release of its item
pub pair_reads : (s : Scene) (item : Item) (n : ℕ) → Warns s s (what.NotClosed item n ∷ what.Release item n ∷ [])
pair_reads s item n = grind (arith, nat_tests, and_from, same_itself, eq-eqb, from_none)

sight : Sight no_part is_calm Warns
sight = record { both = λ h k. read_both warning IsSettled h k; aside = λ s t same h. calm_reads s t h }

owners : OwnerLeaves Warns
owners = grind (arith, nat_tests, one_reads, pair_reads, item_comes, no_part, sight, calm_reads, said_none)

usual : Usual no_part is_calm
usual = assumption usual_calm

end_leaves : EndLeaves Warns
end_leaves = plain_ends sight usual (unseen_keys no_part is_calm Warns sight refl) refl refl refl (λ level. (refl, refl, refl, refl)) (λ item n. refl) (λ n. refl) (λ n parent. refl) owners

turn_warns : (w : Option ℕ) (line : Option Command) (m : Moment) → Warns m.scene (turn w line m).moment.scene (turn w line m).events
turn_warns =
    any_turn_follows Warns end_leaves (λ error. record { so = λ s. one_reads s s (what.Error error) refl }) (usual_makes sight usual (λ n parent name. refl) refl (owner_makes no_part is_calm Warns sight refl refl (λ n. refl) (λ n parent. refl))) (usual_moves sight usual)

-- In each session's life a warning stands directly before the release of its item, and none is left behind.
pub warnings : (kinds : KindTable) → IsLife kinds warning IsSettled None (λ last. last ≡ None)
warnings kinds = grind (arith, nat_tests, one_reads, turn_warns, exit_follows, end_leaves)
