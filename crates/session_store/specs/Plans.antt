-- By what a new plan is refused.
use Rattle.std.specs.Prelude.{ℕ, nat_lt, not, true, Option, codes}
use Rattle.std.specs.Option.{option_or}
use Rattle.any_ctx.specs.declared.any.CtxKind.TheVariants as kind
use Rattle.context_rules.specs.Contexts.{Contexts}
use Rattle.context_rules.specs.Refusals.{create_refusal, where_so}
use Rattle.context_rules.specs.declared.errors.TreeError.{TreeError}
use Rattle.context_rules.specs.declared.errors.TreeError.TheVariants.{TooMany}
use Rattle.session_rules.specs.Limits.{most_plans}

-- where so many plans stand and so much is left of the account
abbrev pub plan_refusal : ℕ → ℕ → Contexts → Option TreeError
plan_refusal standing left contexts = option_or (where_so (not (nat_lt standing most_plans)) TooMany) (create_refusal left (codes "CachedPlan") kind.Small true contexts)
