-- What calls on chunks make of the contexts.
use Rattle.std.specs.Prelude.{ℕ, ◌+◌, true, if◌then◌else◌, List, [], ◌∷◌, ◌++◌, length, take, drop, replicate, Option, Result, Ok, Err}
use Rattle.std.specs.Option.{option_map_or}
use Rattle.chunk_header.specs.declared.CtxError.{CtxError}
use Rattle.chunk_header.specs.declared.CtxError.TheVariants.{Unsupported}
use Rattle.chunk_header.specs.Answers.{Taken, Resized}
use Rattle.forest.specs.Forest.{at, changed}
use Rattle.reset_callbacks.specs.Hook.{Hook}
use Rattle.any_ctx.specs.Ledgers as ledgers
use Rattle.any_ctx.specs.Ledgers.{Ledger, Place}
use Rattle.context_rules.specs.Contexts.{Chunk, Context, Contexts, Found, found, has_name}

module _ {A E B : Type 0} where
  -- what is made of an answer, and what stands in place of it where there is none
  abbrev pub from_ok : (A → B) → B → Result A E → B
  from_ok f other (Ok a) = f a
  from_ok f other (Err e) = other

-- the context's ledger at a request of so many bytes, where so much is left of the account
abbrev pub served : ℕ → ℕ → ℕ → Contexts → Result (Taken Ledger Place) CtxError
served n left size contexts = option_map_or (λ c. ledgers.take c.ledger left size) (at n contexts) (Err Unsupported)

-- a context with a chunk more
abbrev pub with_chunk : Option (List ℕ) → ℕ → List ℕ → Taken Ledger Place → Context → Context
with_chunk name size known taken c =
    record c {
      ledger = taken.ledger;
      used = true;
      chunks = record { name = name; size = size; place = taken.place; known = known } ∷ c.chunks;
    }

-- The context of that number has a chunk more, with these bytes known; and what it asks from the space.
abbrev pub allocated : ℕ → ℕ → Option (List ℕ) → ℕ → List ℕ → Contexts → Contexts
allocated n left name size known contexts =
    from_ok (λ taken. changed n (with_chunk name size known taken) contexts) contexts (served n left size contexts)

abbrev pub asked : ℕ → ℕ → ℕ → Contexts → ℕ
asked n left size contexts = from_ok (λ taken. taken.asked) 0 (served n left size contexts)

-- so many zeros
abbrev pub zeros : ℕ → List ℕ
zeros n = replicate n 0

-- the chunks without the one of that name, and with that one changed
abbrev pub without : List ℕ → List Chunk → List Chunk
without name [] = []
without name (chunk ∷ chunks) = if has_name name chunk then chunks else chunk ∷ without name chunks

abbrev pub with_changed : List ℕ → (Chunk → Chunk) → List Chunk → List Chunk
with_changed name change [] = []
with_changed name change (chunk ∷ chunks) = if has_name name chunk then change chunk ∷ chunks else chunk ∷ with_changed name change chunks

-- The chunk of that name is freed, where its context's ledger says so.
abbrev pub freed_in : List ℕ → Contexts → Found → Contexts
freed_in name contexts f =
    from_ok (λ given. changed f.context (λ c. record c { ledger = given; chunks = without name c.chunks }) contexts) contexts
    (ledgers.give f.ledger f.chunk.place)

abbrev pub freed : List ℕ → Contexts → Contexts
freed name contexts = option_map_or (freed_in name contexts) (found name contexts) contexts

-- the ledger of a chunk's context at another size, where the account holds so much and may hold so much
abbrev pub refitted : ℕ → ℕ → ℕ → Found → Result (Resized Ledger Place) CtxError
refitted held limit size f = ledgers.resize f.ledger held limit f.chunk.place size

-- a chunk that has another size: its bytes are cut where they are more
abbrev pub with_size : ℕ → Place → Chunk → Chunk
with_size size place chunk = record chunk { size = size; place = place; known = take size chunk.known }

-- The chunk of that name gets another size; and what it asks from the space.
abbrev pub resized_in : ℕ → ℕ → List ℕ → ℕ → Contexts → Found → Contexts
resized_in held limit name size contexts f =
    from_ok
    (λ answer. changed f.context (λ c. record c { ledger = answer.ledger; chunks = with_changed name (with_size size answer.place) c.chunks }) contexts)
    contexts (refitted held limit size f)

abbrev pub resized : ℕ → ℕ → List ℕ → ℕ → Contexts → Contexts
resized held limit name size contexts = option_map_or (resized_in held limit name size contexts) (found name contexts) contexts

abbrev pub resized_asked : ℕ → ℕ → List ℕ → ℕ → Contexts → ℕ
resized_asked held limit name size contexts =
    option_map_or (λ f. from_ok (λ answer. answer.asked) 0 (refitted held limit size f)) (found name contexts) 0

-- bytes written over others, from a place within these on
abbrev pub written_over : ℕ → List ℕ → List ℕ → List ℕ
written_over place bytes known = take place known ++ bytes ++ drop (place + length bytes) known

-- The chunk of that name gets bytes.
abbrev pub written : List ℕ → ℕ → List ℕ → Contexts → Contexts
written name place bytes contexts =
    option_map_or
    (λ f. changed f.context (λ c. record c { chunks = with_changed name (λ chunk. record chunk { known = written_over place bytes chunk.known }) c.chunks }) contexts)
    (found name contexts) contexts

-- so many bytes of the chunk of that name, from a place on
abbrev pub shown : List ℕ → ℕ → ℕ → Contexts → List ℕ
shown name place n contexts = option_map_or (λ f. take n (drop place f.chunk.known)) (found name contexts) []

-- A hook waits on the context of that number, as the newest.
abbrev pub registered : ℕ → Hook → Contexts → Contexts
registered n hook contexts = changed n (λ c. record c { used = true; hooks = hook ∷ c.hooks }) contexts
