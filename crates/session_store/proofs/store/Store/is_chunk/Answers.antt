-- A chunk of the name is there where none of its bytes can be read.
use Rattle.session_store.proofs.Words.{◌≡◌, ◌+◌, Option, Some, None, Result, Ok, Err, refl, ap, ◌∙◌, arith, is_ok, is_none, is_some, length, nat_lt, option_map_or, le-ltb, Found, found, where_so, TreeError, NoName, Range, error_of, StoreState, session_of}
use Rattle.session_store.proofs.store.Store.is_chunk.Goals as goal

by_error : (r : Result (Unit {0}) TreeError) → is_ok r ≡ is_none (error_of r)
by_error (Ok a) = refl
by_error (Err e) = refl

at_start : (o : Option Found) → is_none (option_map_or (λ (f : Found). where_so (nat_lt (length f.chunk.known) (0 + 0)) Range) o (Some NoName)) ≡ is_some o
at_start None = refl
at_start (Some f) = rw (le-ltb (length f.chunk.known) 0 (omega arith)) refl

pub returns : goal.returns
unfolding session_of
returns g c =
    c.is_ok.ensures.value ∙ by_error c.bytes.result ∙ ap is_none c.bytes.ensures.answer ∙ at_start _
    ∙ ap (λ (a : StoreState). is_some (found c.args.name.now (session_of a c.args.space.now).contexts)) c.self.view_is
