use Rattle.std.specs.Prelude.{ℕ, Bool, List, refl}
use Rattle.std.specs.Coded.{Coded, code_by, coded×, coded_ℕ, coded_bool, coded_list}
use Rattle.forest.specs.Forest.{Forest}
use Rattle.forest.specs.Code.{forest_code}
use Rattle.reset_callbacks.specs.Hook.{Hook}
use Rattle.any_ctx.specs.declared.any.AnyCtx.{AnyCtx}
use Rattle.any_ctx.specs.declared.any.CtxKind.{CtxKind}
use Rattle.any_ctx.specs.contracts.any.AnyCtx as any
use Rattle.any_ctx.specs.contracts.any.CtxKind as kind
use Rattle.context_node.specs.declared.entry.Entry.{Entry}
use Rattle.context_node.specs.contracts.entry.Entry as entry
use Rattle.context_node.specs.Kept.{Kept}
use Rattle.context_node.specs.KeptChunks.{KeptChunks}

abbrev pub hook_code : Coded Hook
hook_code = code_by (ℕ × ℕ) (coded× coded_ℕ coded_ℕ) (λ h. (h.word, h.runs)) (λ p. record { word = p.0; runs = p.1 }) (λ _. refl)

abbrev pub entries_code : Coded (Forest Entry)
entries_code = forest_code entry.the_row.coded

abbrev pub chunks_code : Coded KeptChunks
chunks_code =
    code_by (Forest Entry × Forest ℕ) (coded× entries_code (forest_code coded_ℕ)) (λ c. (c.forest, c.places)) (λ p. record { forest = p.0; places = p.1 }) (λ _. refl)

abbrev pub any_code : Coded AnyCtx
any_code = any.the_row.coded

abbrev pub kept_code : Coded Kept
kept_code =
    code_by (List ℕ × (CtxKind × (Bool × (Bool × (AnyCtx × (Forest Entry × (Forest ℕ × List Hook)))))))
    (coded× (coded_list coded_ℕ) (coded× kind.the_row.coded (coded× coded_bool (coded× coded_bool (coded× any_code (coded× entries_code (coded× (forest_code coded_ℕ) (coded_list hook_code))))))))
    (λ k. (k.name, (k.kind, (k.protected, (k.used, (k.memory, (k.chunks, (k.chunk_places, k.hooks))))))))
    (λ p. record { name = p.0; kind = p.1.0; protected = p.1.1.0; used = p.1.1.1.0; memory = p.1.1.1.1.0; chunks = p.1.1.1.1.1.0; chunk_places = p.1.1.1.1.1.1.0; hooks = p.1.1.1.1.1.1.1 })
    (λ _. refl)
