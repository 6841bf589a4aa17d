-- What is true of the plans of a session stays so through each change.
use Rattle.std.proofs.Common.{◌≡◌, ℕ, ◌+◌, ◌<◌, ◌≤◌, Bool, true, false, cond, nat_eq, List, [], ◌∷◌, ◌++◌, length, get_or, Option, Some, None, sym, ap, ◌∙◌, subst, arith}
use Rattle.std.specs.List.{All, IsDistinct, AllByRecursion, list_any}
use Rattle.std.specs.Map.{keys_of, values_of, lookup, set_value, remove_entry}
use Rattle.std.specs.Option.{IfSome, is_some, unwrap_or, option_map}
use Rattle.std.specs.Cmp.{nat_eq_equiv}
use Rattle.std.proofs.lemmas.List.{map-append, length-append}
use Rattle.std.proofs.lemmas.List.Elements.{All-append}
use Rattle.std.proofs.lemmas.Map.{keys-set_value, length-set_value, lookup-remove_entry}
use Rattle.std.proofs.lemmas.Map.Entries.{sum_by-remove_entry, sum_by-set_value}
use Rattle.std.proofs.lemmas.Map.Keys.{IsDistinct-push, IsDistinct-head, IsDistinct-tail, IsDistinct-cons}
use Rattle.std.proofs.lemmas.Map.Made.{is_some-lookup}
use Rattle.std.proofs.lemmas.Map.Views.{All-map-remove_entry, All-values-set_value}
use Rattle.plan_store.specs.declared.plan.Plan.{Plan}
use Rattle.plan_store.specs.Plans.{Plans, plan_of, references, IsHeld, ArePlans}
use Rattle.std.proofs.lemmas.Bool.Decides.{nat_tests}

none_of : {X : Type 0} (o : Option X) → is_some o ≡ false → o ≡ None
none_of x0 h = grind (arith, nat_tests)

-- what follows of a value follows of it where there is one
still : (P Q : ℕ → Type 0) (o : Option ℕ) → ((q : ℕ) → P q → Q q) → IfSome o P → IfSome o Q
still P Q x2 f h = grind (arith, nat_tests)

module _ {K X : Type 0} (test : K → Bool) where
  all-removed : (P : K → Type 0) (es : List (K × X)) → AllByRecursion P (keys_of es) → AllByRecursion P (keys_of (remove_entry test es))
  all-removed P [] all = all
  all-removed P (e ∷ es) all = elim (test e.0) as (λ b. AllByRecursion P (keys_of (cond b es (e ∷ remove_entry test es)))) [ true ↦ all.1 | false ↦ (all.0, all-removed P es all.1) ]

  pub distinct-removed : (eq : K → K → Bool) (es : List (K × X)) → IsDistinct eq (keys_of es) → IsDistinct eq (keys_of (remove_entry test es))
  distinct-removed eq [] different = different
  distinct-removed eq (e ∷ es) different =
      elim (test e.0) as (λ b. IsDistinct eq (keys_of (cond b es (e ∷ remove_entry test es)))) [
        | true ↦ IsDistinct-tail eq e.0 (keys_of es) different
        | false ↦ IsDistinct-cons eq e.0 (keys_of (remove_entry test es)) (all-removed (λ y. eq e.0 y ≡ false) es (IsDistinct-head eq e.0 (keys_of es) different)) (distinct-removed eq es (IsDistinct-tail eq e.0 (keys_of es) different))
      ]

  length-removed : (es : List (K × X)) → length (remove_entry test es) ≤ length es
  length-removed [] = omega arith
  length-removed (e ∷ es) = elim (test e.0) as (λ b. length (cond b es (e ∷ remove_entry test es)) ≤ length (e ∷ es)) [ true ↦ omega arith | false ↦ omega (arith, length-removed es) ]

  -- where no key passes, none does after a change that keeps the keys
  none-same_keys : (es fs : List (K × X)) → keys_of es ≡ keys_of fs → lookup test es ≡ None → lookup test fs ≡ None
  none-same_keys es fs same none = grind (arith, nat_tests, none_of (lookup test fs) (is_some-lookup test fs ∙ ap (list_any test) (sym same) ∙ sym (is_some-lookup test es) ∙ ap is_some none))

nothing : (k : ℕ) (d : Plan) → k < length {A = Plan} [] → IsHeld (get_or [] k d)
nothing k d below = absurd (omega arith)

-- what holds of an element holds of each of the list of it alone
only : (P : Plan → Type 0) (x : Plan) → P x → All P (x ∷ [])
only P x h x3 d below = grind (arith, nat_tests)

cond_none : {X : Type 0} (b : Bool) (o : Option X) → o ≡ None → cond b None o ≡ None
cond_none x0 o none = grind (arith, nat_tests)

-- no plan stands
pub are-none : ArePlans (record { standing = []; reserved = None })
unfolding IsDistinct
are-none = record { different = tt; few = omega arith; held = nothing; new = tt; room = tt }

-- a plan has changed
pub are-replaced : (plans : Plans) (number : ℕ) (other : Plan) → IsHeld other → ArePlans plans → ArePlans (record plans { standing = set_value (nat_eq number) plans.standing other })
are-replaced plans number other held are =
    let now : List (ℕ × Plan) = set_value (nat_eq number) plans.standing other in
    let keys : keys_of now ≡ keys_of plans.standing = keys-set_value (nat_eq number) plans.standing other in
    let len : length now ≡ length plans.standing = length-set_value (nat_eq number) plans.standing other in
    record {
      different = subst (λ ks. IsDistinct nat_eq ks) (sym keys) are.different;
      few = subst (λ n. n ≤ 1024) (sym len) are.few;
      held = All-values-set_value (nat_eq number) IsHeld plans.standing other are.held held;
      new = still (λ q. plan_of plans q ≡ None) (λ q. lookup (nat_eq q) now ≡ None) plans.reserved (λ q none. none-same_keys (nat_eq q) plans.standing now (sym keys) none) are.new;
      room = still (λ q. length plans.standing < 1024) (λ q. length now < 1024) plans.reserved (λ q room. subst (λ n. n < 1024) (sym len) room) are.room;
    }

-- a plan is gone
pub are-removed : (plans : Plans) (number : ℕ) → ArePlans plans → ArePlans (record plans { standing = remove_entry (nat_eq number) plans.standing })
are-removed plans number are =
    let now : List (ℕ × Plan) = remove_entry (nat_eq number) plans.standing in
    let len : length now ≤ length plans.standing = length-removed (nat_eq number) plans.standing in
    let few : length plans.standing ≤ 1024 = are.few in
    record {
      different = distinct-removed (nat_eq number) nat_eq plans.standing are.different;
      few = omega (arith, len, few);
      held = All-map-remove_entry (nat_eq number) (λ e. e.1) IsHeld plans.standing are.held;
      new = still (λ q. plan_of plans q ≡ None) (λ q. lookup (nat_eq q) now ≡ None) plans.reserved (λ q none. lookup-remove_entry nat_eq_equiv (nat_eq number) (nat_eq_equiv.congr number) q plans.standing are.different ∙ cond_none (nat_eq number q) (lookup (nat_eq q) plans.standing) none) are.new;
      room = still (λ q. length plans.standing < 1024) (λ q. length now < 1024) plans.reserved (λ q room. omega (arith, len, room)) are.room;
    }

-- room is reserved for a plan
pub are-reserved : (plans : Plans) (number : ℕ) → plan_of plans number ≡ None → length plans.standing < 1024 → ArePlans plans → ArePlans (record plans { reserved = Some number })
are-reserved plans number none room are = record { different = are.different; few = are.few; held = are.held; new = none; room = room }

-- a plan was made
pub are-made : (plans : Plans) (number : ℕ) (made : Plan) → IsHeld made → plans.reserved ≡ Some number → ArePlans plans → ArePlans (record { standing = plans.standing ++ (number, made) ∷ []; reserved = None })
are-made plans number made held reserved are =
    let none : plan_of plans number ≡ None = subst (λ r. IfSome r (λ q. plan_of plans q ≡ None)) reserved are.new in
    let room : length plans.standing < 1024 = subst (λ r. IfSome r (λ q. length plans.standing < 1024)) reserved are.room in
    let keys : keys_of (plans.standing ++ (number, made) ∷ []) ≡ keys_of plans.standing ++ number ∷ [] = map-append (λ e. e.0) plans.standing ((number, made) ∷ []) in
    let values : values_of (plans.standing ++ (number, made) ∷ []) ≡ values_of plans.standing ++ made ∷ [] = map-append (λ e. e.1) plans.standing ((number, made) ∷ []) in
    let fresh : list_any (nat_eq number) (keys_of plans.standing) ≡ false = sym (is_some-lookup (nat_eq number) plans.standing) ∙ ap is_some none in
    record {
      different = subst (λ ks. IsDistinct nat_eq ks) (sym keys) (IsDistinct-push nat_eq_equiv (keys_of plans.standing) number are.different fresh);
      few = simp length-append (omega (arith, room));
      held = subst (λ vs. All IsHeld vs) (sym values) (All-append IsHeld (values_of plans.standing) (made ∷ []) are.held (only IsHeld made held));
      new = tt;
      room = tt;
    }

-- the references to all plans where those to one have changed
pub references-replaced : (plans : Plans) (number : ℕ) (kept other : Plan) → plan_of plans number ≡ Some kept → references (record plans { standing = set_value (nat_eq number) plans.standing other }) + kept.references ≡ references plans + other.references
references-replaced plans number kept other read = sum_by-set_value (λ plan. plan.references) (nat_eq number) plans.standing kept other read

-- the references to all plans where one is gone
pub references-removed : (plans : Plans) (number : ℕ) (kept : Plan) → plan_of plans number ≡ Some kept → references (record plans { standing = remove_entry (nat_eq number) plans.standing }) + kept.references ≡ references plans
references-removed plans number kept read =
    ap (λ o. references (record plans { standing = remove_entry (nat_eq number) plans.standing }) + unwrap_or (option_map (λ (plan : Plan). plan.references) o) 0) (sym read)
    ∙ sum_by-remove_entry (λ plan. plan.references) (nat_eq number) plans.standing

-- what is reserved stays so where room got no less
pub still-room : (o : Option ℕ) (room room' : ℕ) → room ≤ room' → IfSome o (λ (q : ℕ). 0 < room) → IfSome o (λ (q : ℕ). 0 < room')
still-room o room room' more = still (λ q. 0 < room) (λ q. 0 < room') o (λ q some. omega (arith, more, some))

-- no plan of the reserved number stands, and there is room for it
pub reserved_none : (plans : Plans) (number : ℕ) → plans.reserved ≡ Some number → ArePlans plans → plan_of plans number ≡ None
reserved_none plans number reserved are = subst (λ r. IfSome r (λ q. plan_of plans q ≡ None)) reserved are.new

pub reserved_room : (o : Option ℕ) (number room : ℕ) → o ≡ Some number → IfSome o (λ (q : ℕ). 0 < room) → 0 < room
reserved_room o number room reserved some = subst (λ r. IfSome r (λ (q : ℕ). 0 < room)) reserved some
