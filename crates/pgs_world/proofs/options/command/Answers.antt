use Rattle.pgs_world.proofs.Base.{◌∙◌, ap, true, ◌||◌}
use Rattle.pgs_world.proofs.Words.{Command}
use Rattle.clap.specs.Simple.{app_of_fields, on_top}
use Rattle.clap.specs.declared.builder.command.Command.TheOpen.{Command-F}
use Rattle.pgs_world.proofs.Parts.{has_options, if_ok}
use Rattle.pgs_world.proofs.options.command.Goals as goal

pub returns : goal.returns
returns c =
    let set = c.disable_version_flag.ensures
    ∙ ap (λ (f : Command-F Command). record f { disable_version_flag = true }) (c.disable_help_flag.ensures ∙ ap (λ (f : Command-F Command). record f { disable_help_flag = true }) c.no_binary_name.ensures) in
    let bare = ap (λ (f : Command-F Command). f.has_globals) set ∙ c.new.ensures.local in
    let first = c.in_ok-arg.ensures.globals ∙ (ap (λ x. x || c.number-space.result.global) bare ∙ c.number-space.ensures.own) in
    let second = c.in_ok-arg-2.ensures.globals ∙ (ap (λ x. x || c.number-sessions.result.global) first ∙ c.number-sessions.ensures.own) in
    let third = c.in_ok-arg-3.ensures.globals ∙ (ap (λ x. x || c.number-descriptors.result.global) second ∙ c.number-descriptors.ensures.own) in
    let fourth = c.in_ok-arg-4.ensures.globals ∙ (ap (λ x. x || c.number-fail.result.global) third ∙ c.number-fail.ensures.own) in
    let fifth = c.in_ok-arg-5.ensures.globals ∙ (ap (λ x. x || c.number-generate.result.global) fourth ∙ c.number-generate.ensures.own) in
    if_ok _ _ c.arg-6.result
    (λ made b. has_options c.disable_version_flag.result c.in_ok-arg.field-0 c.in_ok-arg-2.field-0 c.in_ok-arg-3.field-0 c.in_ok-arg-4.field-0 c.in_ok-arg-5.field-0 made
    c.number-space.result c.number-sessions.result c.number-descriptors.result c.number-fail.result c.number-generate.result c.option-sweep.result
    (ap app_of_fields set ∙ ap (on_top (λ s. record s { no_binary_name = true; disable_help_flag = true; disable_version_flag = true })) c.new.ensures.app)
    (ap (λ (f : Command-F Command). f.args.items) set ∙ c.new.ensures.empty.0) (ap (λ (f : Command-F Command). f.groups.items) set ∙ c.new.ensures.empty.1)
    c.number-space.ensures c.number-sessions.ensures c.number-descriptors.ensures c.number-fail.ensures c.number-generate.ensures c.option-sweep.ensures
    c.in_ok-arg.ensures c.in_ok-arg-2.ensures c.in_ok-arg-3.ensures c.in_ok-arg-4.ensures c.in_ok-arg-5.ensures b
    (λ m p. p.parsed (p.from.globals ∙ (b.globals ∙ (ap (λ x. x || c.option-sweep.result.global) fifth ∙ c.option-sweep.ensures.own)))))
    c.arg-6.ensures
