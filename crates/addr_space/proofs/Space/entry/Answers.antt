use Rattle.std.proofs.Common.{◌<◌, ap, ◌∙◌, length, arith}
use Rattle.std.proofs.lemmas.List.{get_or_read, length-map}
use Rattle.addr_space.specs.Space.{Space, held}
use Rattle.addr_space.specs.Sound.{no_account}
use Rattle.addr_space.specs.declared.Account.{Account}
use Rattle.addr_space.proofs.Space.entry.Goals as goal

pub returns-clause-held : goal.returns-clause-held
unfolding held
returns-clause-held c =
    let below : c.args.account < length c.self.inside.accounts.items = omega (arith, c.requires, ap (λ (s : Space). length s.taken) c.self.view_is, length-map c.self.inside.accounts.items (λ (a : Account). a.taken)) in
    let read = get_or_read c.self.inside.accounts.items c.args.account c.index.result.now below c.index.ensures no_account in
    ap (λ (a : Account). a.held) read ∙ c.self.invariant.held c.args.account below ∙ ap (λ s. held s c.args.account) c.self.view_is
