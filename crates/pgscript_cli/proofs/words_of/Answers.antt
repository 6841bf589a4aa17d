use Rattle.std.proofs.Common.{◌≡◌, drop, length, List, [], ◌∷◌, ◌++◌, Option, Some, None, refl, sym, ap, ◌∙◌, append_assoc, append-nil, rules, arith}
use Rattle.std.specs.Option.{option_to_list}
use Rattle.std.specs.Vec.Iter.{into_iter_items}
use Rattle.pgscript_cli.proofs.words_of.Goals as goal

nothing_left : {A : Type 0} (xs : List A) → length xs ≡ 0 → xs ≡ []
nothing_left [] none = refl
nothing_left (x ∷ xs) none = absurd (omega arith)

behind_the_first : {A : Type 0} (first : Option A) (xs ys : List A) → xs ≡ option_to_list first ++ ys → (first ≡ None → length ys ≡ 0) → ys ≡ drop 1 xs
behind_the_first None xs ys is none = rw (is, nothing_left ys (none refl)) refl
behind_the_first (Some x) xs ys is none = rw is refl

pub loop-word-init : goal.loop-word-init
loop-word-init c = search rules

pub loop-word-preserved : goal.loop-word-preserved
loop-word-preserved c =
    rw c.in_ok-push.ensures.items
    (append_assoc c.loop-word.words.items (c.in-Some.word ∷ []) _ ∙ rw (← c.in-Some.ensures.steps.0) c.loop-word.invariant)

pub returns : goal.returns
returns c =
    let none : into_iter_items c.loop-word.word-iterator ≡ [] = nothing_left _ (sym c.loop-word.word-iterator.rest.ok.0 ∙ c.in-None.ensures.steps.0) in
    let all = sym (append-nil c.loop-word.words.items) ∙ rw none at c.loop-word.invariant ∙ ap into_iter_items c.into_iter-word-iterator.ensures.into_iter_gives in
    let few : c.next-name.result ≡ None → length (into_iter_items c.next-name.new.self) ≡ 0 =
    λ gone. sym c.next-name.new.self.rest.ok.0 ∙ (rw gone at c.next-name.ensures.cases).1
    in
    all ∙ behind_the_first c.next-name.result _ _ c.next-name.ensures.items few
