-- Whether the owners hold the file.
use Rattle.session_store.proofs.Words.{◌∙◌, ap, file_kind, holds, StoreState, session_of}
use Rattle.session_store.proofs.Lemmas.{file_held}
use Rattle.session_store.proofs.store.Store.is_open.Goals as goal

pub returns-clause-session : goal.returns-clause-session
returns-clause-session g c s =
    c.is_open.ensures
    ∙ file_held (record { tree = c.self.inside.tree; owners = c.self.inside.owners; levels = c.self.inside.levels; portals = c.self.inside.portals }) c.args.file s
    ∙ ap (λ (a : StoreState). holds file_kind c.args.file (session_of a s)) c.self.view_is
