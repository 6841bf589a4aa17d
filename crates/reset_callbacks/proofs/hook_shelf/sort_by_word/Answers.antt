use Rattle.std.proofs.Common.{rules}
use Rattle.std.proofs.lemmas.List.Sorted.{IsNonDecreasingBy-from_sort_by_key}
use Rattle.reset_callbacks.proofs.hook_shelf.sort_by_word.Goals as goal

pub returns-clause-rising : goal.returns-clause-rising
returns-clause-rising g c =
    IsNonDecreasingBy-from_sort_by_key (λ h. (g.H.ResetHook.hook_meaning h).word) _ c.sort_unstable_by_key.ensures.sorted (λ a r q k. search rules)
