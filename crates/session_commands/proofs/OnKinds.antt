-- The steps by which the deepest level's owner takes an item of an extension kind, and by which it gives one back.
use Rattle.session_commands.proofs.Base.{◌≡◌, ◌↔◌, ℕ, zero, suc, ◌+◌, ◌<◌, ◌≤◌, ◌==◌, true, false, List, [], ◌∷◌, length, IfSome, Option, Some, None, Result, Ok, Err, refl, sym, ◌∙◌, ap, subst, arith, if◌then◌else◌, nat_le, slice_get, option_and_then, nat_tests, length-map}
use Rattle.session_commands.proofs.Words.{Error, KindLimit, NoMemory, NoSuchName, NotHeld, What, KindId, OwnerId, table_of, IsExtension, Around, Moment, Scene, Ended, in_order, nothing, where_there, Check, Element, OfLevel, Text, asked_all, asks_in, where_done, Done, fallible, failure, unless, does, does_all, kind_named, newest_of_level, at_kind, at_owner, TheKind, keeper_of, full, item_taken, take_refused, asked_both, asked_one, asked_so, Acted, Keeps, at_calls, wants, IsLevelOwner, Now, Performed, Takes, most_calls, scene_in}
use Rattle.std.proofs.Common.{◌-◌}
use Rattle.std.specs.Prelude.{is_some}
use Rattle.owner_kinds.specs.Kind.{IsFull, Kind}
use Rattle.owner_kinds.specs.declared.ext_kind.KindError.{KindError}
use Rattle.owner_kinds.specs.declared.ext_kind.KindError.TheVariants.{Full, Memory}
use Rattle.session_rules.specs.Elements as element
use Rattle.session_commands.proofs.Answered.{does_one}
use Rattle.session_commands.proofs.Commands.{fails, passes}
use Rattle.session_commands.proofs.Chains.{silent_stops, silent_then}
use Rattle.session_commands.proofs.Stepping.{Call, Rises, call_done, call_refused, call_wants, lent}

-- what refuses an item of the kind of a name, and what is done else
abbrev named_refused : Text → Scene → Option Error
named_refused name scene = option_and_then (λ kind. take_refused (keeper_of kind) scene) (kind_named name scene.around.kinds)

abbrev takes_named : Text → ℕ → Scene → Ended
takes_named name key = at_kind name (λ kind. at_owner OfLevel (λ owner. item_taken owner kind key))

pub does_take_named : (name : Text) (key : ℕ) (w : Option ℕ) (m : Moment) → does w (element.TakeNamed name key) m ≡ fallible w m (named_refused name m.scene) (takes_named name key)
unfolding does
does_take_named name key w m = refl

pub named_rises : (name : Text) (key : ℕ) (s : Scene) → Rises 1 s (takes_named name key s).scene
named_rises name key s = grind (arith, nat_tests, s.around.kinds, in_order, s.session)

-- the deepest level's owner takes an item of the kind of a name
abbrev pub take_named : Text → ℕ → Call
take_named name key = record {
  step = element.TakeNamed name key;
  own = named_refused name;
  act = takes_named name key;
  is = does_take_named name key;
  rises = named_rises name key;
  quiet = λ s. refl;
}

-- a kind that holds as many keys as it may, and one that doesn't
full_here : (kind : Kind) → IsFull kind → (if nat_le kind.limit (length kind.held) then Some KindLimit else None) ≡ Some KindLimit
full_here kind is = let e : nat_le kind.limit (length kind.held) ≡ true = grind (arith, nat_tests) in rw e refl

free_here : (kind : Kind) → (IsFull kind → ⊥) → (if nat_le kind.limit (length kind.held) then Some KindLimit else None) ≡ None
free_here kind not = let less : length kind.held < kind.limit = omega (arith, not) in let e : nat_le kind.limit (length kind.held) ≡ false = grind (arith, nat_tests) in rw e refl

full_later : (place : ℕ) (kind : Kind) (kinds : List Kind) → full (suc place) (kind ∷ kinds) ≡ full place kinds
full_later place kind kinds = grind (arith, nat_tests, kind.limit, kind.held, full)

is_full : (place : ℕ) (kinds : List Kind) → place < length kinds → IfSome (slice_get kinds place) IsFull → full place kinds ≡ Some KindLimit
is_full place [] less is = absurd (omega (arith, less))
is_full zero (kind ∷ kinds) less is = full_here kind is
is_full (suc place) (kind ∷ kinds) less is = full_later place kind kinds ∙ is_full place kinds (omega (arith, less)) is

is_free : (place : ℕ) (kinds : List Kind) → (IfSome (slice_get kinds place) IsFull → ⊥) → full place kinds ≡ None
is_free place [] not = refl
is_free zero (kind ∷ kinds) not = free_here kind not
is_free (suc place) (kind ∷ kinds) not = full_later place kind kinds ∙ is_free place kinds not

-- the kind of a name keeps count of its own items
keeper_is : (kind : KindId) → 16 ≤ kind.0 → keeper_of kind ≡ TheKind (kind.0 - 16)
keeper_is kind from = grind (arith, nat_tests)

module _ (name : Text) (kind : KindId) (a : Now) (found : kind_named name a.commons.kinds ≡ Some kind) (extension : IsExtension (table_of a.commons.kinds) kind) where
  refused_as : (around : Around) → named_refused name (scene_in a around) ≡ full (kind.0 - 16) a.commons.kinds
  refused_as around = grind (arith, nat_tests, keeper_is)

  limited : (around : Around) → IfSome (slice_get a.commons.kinds (kind.0 - 16)) IsFull → named_refused name (scene_in a around) ≡ Some KindLimit
  limited around is =
      refused_as around ∙ is_full (kind.0 - 16) a.commons.kinds (omega (arith, extension.named, length-map a.commons.kinds (λ (k : Kind). k.name))) is

  served : (around : Around) → (IfSome (slice_get a.commons.kinds (kind.0 - 16)) IsFull → ⊥) → named_refused name (scene_in a around) ≡ None
  served around not = refused_as around ∙ is_free (kind.0 - 16) a.commons.kinds not

  -- the owner takes an item
  module _ (key : ℕ) (b : Now) (P : List What → Type 0) (counted : b.calls ≡ record a.calls { count = a.calls.count + 1 }) (space : b.space ≡ a.space) (keeps : Keeps a.store a.space) where
    module _ (shelf : lent b ≡ lent a) (silent : P []) (store : b.store ≡ a.store) where
      -- an item that wasn't taken, by the error that this is told as
      pub take_named_refused : (a.calls.count + 1 == a.calls.fail) ≡ false → (r : Result (Unit {0}) KindError) (e : KindError) (t : Error) → r ≡ Err e
          → (r ≡ Err Full) ↔ IfSome (slice_get a.commons.kinds (kind.0 - 16)) IsFull → (e ≡ Full → t ≡ KindLimit) → (e ≡ Memory → t ≡ NoMemory b.calls.count) → Performed 1 (element.TakeNamed name key ∷ []) a b P (Some t)
      take_named_refused goes r Full t is much full memory =
          subst (λ (x : Error). Performed 1 (element.TakeNamed name key ∷ []) a b P (Some x)) (sym (full refl)) (call_refused (take_named name key) a b P counted space keeps shelf silent store KindLimit goes refl (λ around. limited around (much.0 is)))
      take_named_refused goes r Memory t is much full memory = grind (arith, nat_tests, call_wants (take_named name key) a b P counted space keeps shelf silent store goes)

    pub take_named_done : (a.calls.count + 1 == a.calls.fail) ≡ false → (r : Result (Unit {0}) KindError) (u : Unit {0}) → r ≡ Ok u → (r ≡ Err Full) ↔ IfSome (slice_get a.commons.kinds (kind.0 - 16)) IsFull
        → (owner : OwnerId) → IsLevelOwner a.store owner → b.store.tree ≡ a.store.tree → Keeps b.store b.space
        → Acted (item_taken owner.number kind key) a.store b.store a.space b.space a.shelf b.shelf a.commons b.commons P → Performed 1 (element.TakeNamed name key ∷ []) a b P None
    take_named_done goes r u ok much owner is tree after taken =
        call_done (take_named name key) a b P counted space keeps goes (λ around. served around (λ full. let z : Ok u ≡ Err Full = sym ok ∙ much.1 full in cc z)) tree after acted
      where
        same : (around : Around) → takes_named name key (scene_in a around) ≡ item_taken owner.number kind key (scene_in a around)
        same around =
            ap (λ (o : Option KindId). where_there o (λ k. at_owner OfLevel (λ n. item_taken n k key)) (scene_in a around)) found
            ∙ ap (λ (o : Option ℕ). where_there o (λ n. item_taken n kind key) (scene_in a around)) (is a.space)

        acted : Acted (takes_named name key) a.store b.store a.space b.space a.shelf b.shelf a.commons b.commons P
        acted = record {
          leads = λ around. ap (λ (e : Ended). e.scene) (same around) ∙ taken.leads around;
          says = λ around. subst (λ (e : Ended). P e.events) (sym (same around)) (taken.says around);
          balances = taken.balances;
        }

-- elements that do the same here, and ask the same
performed_like : (k : ℕ) (es fs : List Element) (a b : Now) (P : List What → Type 0) (r : Option Error)
    → ((around : Around) (w : Option ℕ) → does_all w es (at_calls (scene_in a) a.calls.count a.calls.fail around) ≡ does_all w fs (at_calls (scene_in a) a.calls.count a.calls.fail around))
    → ((around : Around) (w : Option ℕ) → asked_all w es (at_calls (scene_in a) a.calls.count a.calls.fail around) ≡ asked_all w fs (at_calls (scene_in a) a.calls.count a.calls.fail around))
    → Performed k es a b P r → Performed k fs a b P r
performed_like k es fs a b P r same asks x = record {
  answers = record {
    moment = λ around w f. ap (λ (d : Done). d.moment) (sym (same around w)) ∙ x.answers.moment around w f;
    says = λ around w f. subst (λ (d : Done). P d.events) (same around w) (x.answers.says around w f);
    answer = λ around w f. ap (λ (d : Done). d.refusal) (sym (same around w)) ∙ x.answers.answer around w f;
    calls = x.answers.calls;
    counted = x.answers.counted;
  };
  fail = x.fail;
  keeps = x.keeps;
  moves = x.moves;
  taken = λ around w f. subst (λ (n : ℕ). Takes (wants r) a.store.tree.account n a.space b.space) (asks around w) (x.taken around w f);
  balances = x.balances;
  grows = x.grows;
}

no_asking : (r : Option Error) → where_done r 0 ≡ 0
no_asking x0 = grind (arith, nat_tests)

asks_none : (w : Option ℕ) (check : Check) (x : Element) (m : Moment) → ((scene : Scene) → asks_in x scene ≡ 0) → asked_all w (element.Checks check ∷ x ∷ []) m ≡ 0
asks_none w check x m quiet = grind (arith, nat_tests, asked_both w (element.Checks check ∷ []) (x ∷ []) m, asked_one w (element.Checks check) m, asked_so w (element.Checks check) m (does w (element.Checks check) m).refusal refl, no_asking (does w (element.Checks check) m).refusal, asked_one, asked_so, where_done, no_asking)

-- no kind has the name
pub no_kind : (name : Text) (rest : List Element) (a : Now) (P : List What → Type 0) → kind_named name a.commons.kinds ≡ None → Keeps a.store a.space → P []
    → Performed most_calls (element.Checks (element.IsKind name) ∷ rest) a a P (Some NoSuchName)
no_kind name rest a P none keeps silent =
    fails most_calls (element.IsKind name) rest a P NoSuchName keeps silent refl (λ around. ap (λ (o : Option KindId). unless (is_some o) NoSuchName) none)

module _ (name : Text) (kind : KindId) (key : ℕ) (a : Now) (found : kind_named name a.commons.kinds ≡ Some kind) (keeps : Keeps a.store a.space) where
  kind_passes : (around : Around) → failure (element.IsKind name) (scene_in a around) ≡ None
  kind_passes around = ap (λ (o : Option KindId). unless (is_some o) NoSuchName) found

  module _ (b : Now) where
    pub no_room_named : (Q : List What → Type 0) → Q [] → (e : Error) → Performed 1 (element.Enlarge OfLevel ∷ []) a b (λ events. events ≡ []) (Some e)
        → Performed most_calls (element.Checks (element.IsKind name) ∷ element.Enlarge OfLevel ∷ element.TakeNamed name key ∷ []) a b Q (Some e)
    no_room_named Q silent e x = grind (arith, nat_tests, passes most_calls (element.IsKind name) _ a b Q (Some e) keeps kind_passes (silent_stops 1 most_calls (element.Enlarge OfLevel ∷ []) (element.TakeNamed name key ∷ []) a b Q e (omega arith) silent x), kind_passes, silent_stops 1 most_calls (element.Enlarge OfLevel ∷ []) (element.TakeNamed name key ∷ []) a b Q e (omega arith) silent x)

    pub acquired : (c : Now) (P : List What → Type 0) (r : Option Error) → Performed 1 (element.Enlarge OfLevel ∷ []) a b (λ events. events ≡ []) None
        → Performed 1 (element.TakeNamed name key ∷ []) b c P r → Performed most_calls (element.Checks (element.IsKind name) ∷ element.Enlarge OfLevel ∷ element.TakeNamed name key ∷ []) a c P r
    acquired c P r x y = grind (arith, nat_tests, passes most_calls (element.IsKind name) _ a c P r keeps kind_passes (silent_then 1 1 (element.Enlarge OfLevel ∷ []) (element.TakeNamed name key ∷ []) a b c P r x y), kind_passes, silent_then 1 1 (element.Enlarge OfLevel ∷ []) (element.TakeNamed name key ∷ []) a b c P r x y)

  -- giving back by name what is of the kind
  gives_named : (w : Option ℕ) (m : Moment) → kind_named name m.scene.around.kinds ≡ Some kind → does w (element.GiveBack kind key) m ≡ does w (element.GiveBackNamed name key) m
  unfolding does
  gives_named w m is = grind (arith, nat_tests)

  held_named : (scene : Scene) → kind_named name scene.around.kinds ≡ Some kind → failure (element.Holds kind key) scene ≡ failure (element.HoldsNamed name key) scene
  held_named scene is = ap (λ (o : Option KindId). unless (is_some (option_and_then (λ k. newest_of_level k key scene.session) o)) NotHeld) (sym is)

  drops : (w : Option ℕ) (m : Moment) → kind_named name m.scene.around.kinds ≡ Some kind
      → does_all w (element.Checks (element.Holds kind key) ∷ element.GiveBack kind key ∷ []) m ≡ does_all w (element.Checks (element.HoldsNamed name key) ∷ element.GiveBackNamed name key ∷ []) m
  unfolding does_all does
  drops w m is = grind (arith, nat_tests, m.scene, held_named m.scene is, nothing, does_one w (element.GiveBack kind key) m, gives_named w m is, does_one w (element.GiveBackNamed name key) m)

  -- checks and what gives back ask nothing
  pub dropped : (b : Now) (P : List What → Type 0) (r : Option Error) → Performed most_calls (element.Checks (element.Holds kind key) ∷ element.GiveBack kind key ∷ []) a b P r
      → Performed most_calls (element.Checks (element.IsKind name) ∷ element.Checks (element.HoldsNamed name key) ∷ element.GiveBackNamed name key ∷ []) a b P r
  dropped b P r x =
      passes most_calls (element.IsKind name) _ a b P r keeps kind_passes
      (performed_like most_calls (element.Checks (element.Holds kind key) ∷ element.GiveBack kind key ∷ []) (element.Checks (element.HoldsNamed name key) ∷ element.GiveBackNamed name key ∷ []) a b P r
      (λ around w. drops w (at_calls (scene_in a) a.calls.count a.calls.fail around) found)
      (λ around w.
      asks_none w (element.Holds kind key) (element.GiveBack kind key) (at_calls (scene_in a) a.calls.count a.calls.fail around) (λ scene. refl)
      ∙ sym (asks_none w (element.HoldsNamed name key) (element.GiveBackNamed name key) (at_calls (scene_in a) a.calls.count a.calls.fail around) (λ scene. refl))) x)
