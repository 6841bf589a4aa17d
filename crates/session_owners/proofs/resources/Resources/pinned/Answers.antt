use Rattle.session_owners.proofs.Base.{ap, ◌∙◌, slice_index}
use Rattle.session_owners.proofs.Words.{CommonState}
use Rattle.session_owners.proofs.Lemmas.{pinning_is}
use Rattle.session_owners.proofs.resources.Resources.pinned.Goals as goal

pub returns : goal.returns
returns g c =
    λ scene fit. pinning_is c.args.self.now c.args.commons.now c.args.buffer c.count.result scene c.requires.serves fit c.requires.buffer
    (c.count.ensures ∙ ap (λ (z : CommonState). slice_index z.pins c.args.buffer) c.commons.view_is)
