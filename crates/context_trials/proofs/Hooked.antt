-- Hooks that wait, and trees whose contexts go.
use Rattle.std.proofs.Common.{◌≡◌, ℕ, ◌+◌, List, [], ◌∷◌, refl, ap, ◌∙◌, rules, arith}
use Rattle.std.specs.Prelude.{codes}
use Rattle.any_ctx.specs.declared.any.CtxKind.TheVariants.{Default}
use Rattle.reset_callbacks.specs.Hook.{AreDistinct}
use Rattle.reset_callbacks.specs.ShelfState.{ShelfState, held, taken}
use Rattle.context_rules.specs.Contexts.{Contexts}
use Rattle.context_rules.specs.Ends.{waiting}
use Rattle.context_tree.specs.State.{HooksFit}
use Rattle.context_trials.specs.declared.trial.At.TheVariants.{Level, Named}
use Rattle.context_trials.specs.Standing.{begun, five_hooks, fresh_hook, made_in, number_of, waits_at}

-- contexts p, and x and y in p
abbrev with_p : Contexts
with_p = made_in (number_of Level begun) 7 (codes "p") Default begun

abbrev with_x : Contexts
with_x = made_in (number_of (Named (codes "p")) with_p) 8 (codes "x") Default with_p

abbrev with_y : Contexts
with_y = made_in (number_of (Named (codes "p")) with_x) 9 (codes "y") Default with_x

-- and five hooks on them
abbrev hooked_at : List ℕ → ℕ → Contexts → Contexts
hooked_at name word t = waits_at (number_of (Named name) t) (fresh_hook word ∷ []) t

abbrev with_hooks : Contexts
with_hooks = hooked_at (codes "p") 5 (hooked_at (codes "y") 4 (hooked_at (codes "p") 3 (hooked_at (codes "x") 2 (hooked_at (codes "p") 1 with_y))))

waits_five : waiting with_hooks ≡ fresh_hook 4 ∷ fresh_hook 2 ∷ fresh_hook 5 ∷ fresh_hook 3 ∷ fresh_hook 1 ∷ []
waits_five = refl

-- what calls made of the contexts
pub record ThreeMade (p x y : List ℕ) (n m k : ℕ) (s t u v : Contexts) : Type 0 where
  pub begins : s ≡ begun
  pub first : n ≡ 7
  pub second : m ≡ n + 1
  pub third : k ≡ m + 1
  pub p_is : p ≡ codes "p"
  pub x_is : x ≡ codes "x"
  pub y_is : y ≡ codes "y"
  pub p_made : t ≡ made_in (number_of Level s) n p Default s
  pub x_made : u ≡ made_in (number_of (Named p) t) m x Default t
  pub y_made : v ≡ made_in (number_of (Named p) u) k y Default u

three_made : (p x y : List ℕ) (n m k : ℕ) (s t u v : Contexts) → ThreeMade p x y n m k s t u v → v ≡ with_y
three_made p x y n m k s t u v h = rw (h.y_made, h.x_made, h.p_made, h.third, h.second, h.first, h.p_is, h.x_is, h.y_is, h.begins) refl

-- and of the hooks
pub record FiveWait (p x y : List ℕ) (t a b c d e : Contexts) (f g h i j k : ShelfState) : Type 0 where
  pub fresh : f.fresh ≡ five_hooks
  pub spent : f.spent ≡ []
  pub out : f.out ≡ 0
  pub first : a ≡ waits_at (number_of (Named p) t) f.fresh t
  pub second : b ≡ waits_at (number_of (Named x) a) g.fresh a
  pub third : c ≡ waits_at (number_of (Named p) b) h.fresh b
  pub fourth : d ≡ waits_at (number_of (Named y) c) i.fresh c
  pub fifth : e ≡ waits_at (number_of (Named p) d) j.fresh d
  pub one : g ≡ taken f
  pub two : h ≡ taken g
  pub three : i ≡ taken h
  pub four : j ≡ taken i
  pub five : k ≡ taken j

five_wait : (p x y : List ℕ) (t a b c d e : Contexts) (f g h i j k : ShelfState) → FiveWait p x y t a b c d e f g h i j k → t ≡ with_y → p ≡ codes "p" → x ≡ codes "x" → y ≡ codes "y" → e ≡ with_hooks
five_wait p x y t a b c d e f g h i j k w is p_is x_is y_is =
    rw (w.fifth, w.fourth, w.third, w.second, w.first, w.four, w.three, w.two, w.one, w.fresh, is, p_is, x_is, y_is) refl

distinct_five : AreDistinct (fresh_hook 4 ∷ fresh_hook 2 ∷ fresh_hook 5 ∷ fresh_hook 3 ∷ fresh_hook 1 ∷ [])
distinct_five = search rules

pub five_fit : (p x y : List ℕ) (n m q : ℕ) (r s u t a b c d e : Contexts) (f g h i j k : ShelfState) → ThreeMade p x y n m q r s u t → FiveWait p x y t a b c d e f g h i j k → HooksFit e k
five_fit p x y n m q r s u t a b c d e f g h i j k made w =
    let is : e ≡ with_hooks = five_wait p x y t a b c d e f g h i j k w (three_made p x y n m q r s u t made) made.p_is made.x_is made.y_is in
    let waits : waiting e ≡ fresh_hook 4 ∷ fresh_hook 2 ∷ fresh_hook 5 ∷ fresh_hook 3 ∷ fresh_hook 1 ∷ [] = ap waiting is ∙ waits_five in
    let none : held k ≡ [] = rw (w.five, w.four, w.three, w.two, w.one, w.fresh, w.spent) refl in
    let out : k.out ≡ 5 = rw (w.five, w.four, w.three, w.two, w.one, w.out) refl in
    record { out = rw (waits, out) (omega arith); words = rw (waits, none) distinct_five }
