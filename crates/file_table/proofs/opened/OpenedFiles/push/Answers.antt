use Rattle.std.proofs.Common.{◌≡◌, ◌<◌, false, sym, ap, subst, ◌∙◌}
use Rattle.std.specs.HashSet.{spare}
use Rattle.file_table.specs.Descriptors.{is_among}
use Rattle.file_table.specs.Kept.{KeptFiles}
use Rattle.file_table.proofs.KeptLemmas.{kept_opened, on_ok}
use Rattle.file_table.proofs.opened.OpenedFiles.push.Goals as goal

pub invariant_of-self : goal.invariant_of-self
invariant_of-self c =
    let new : is_among c.args.file c.self.inside.order.files ≡ false = ap (λ (k : KeptFiles). is_among c.args.file k.files) c.self.view_is ∙ c.requires.new in
    let room : 0 < spare c.self.inside.files = subst (λ (k : KeptFiles). 0 < k.room) (sym c.self.view_is) c.requires.room in
    rw c.with-order.ensures (kept_opened c.self.inside.files.keys c.insert.new.self.keys c.self.inside.order.files c.args.file c.self.invariant new (on_ok c.insert.result (c.insert.ensures.succeeds room) c.insert.ensures.updates).0)
