-- The kit's cache of files, seen as the list of its keys.
use Rattle.std.proofs.Common.{◌≡◌, ℕ, ◌-◌, true, false, List, [], ◌∷◌, take, slice_get, Option, Some, None, nat_eq, refl, sym, ap, ◌∙◌, arith}
use Rattle.std.specs.Prelude.{is_some}
use Rattle.std.specs.Option.{option_map}
use Rattle.std.specs.Map.{keys_of, lookup, lookup_entry, remove_entry}
use Rattle.std.proofs.lemmas.Bool.Decides.{nat_tests}
use Rattle.std.proofs.lemmas.List.{take-map}
use Rattle.std.proofs.lemmas.Option.{slice_get-map}
use Rattle.std.proofs.lemmas.Map.Made.{is_some-lookup}
use Rattle.lru.specs.LruCache.{LruCache, lru_cache, promoted, put_entries, displaced}
use Rattle.file_table.specs.Descriptors.{Used, is_among, without, in_front, least_recent}

pub keys-remove_entry : (file : ℕ) (es : List (ℕ × Unit {0})) → keys_of (remove_entry (nat_eq file) es) ≡ without file (keys_of es)
keys-remove_entry file [] = refl
keys-remove_entry file (e ∷ es) = grind (arith, nat_tests, e.0, without, keys-remove_entry file es)

-- where the file is among the keys, its entry is found
pub entry_of : (file : ℕ) (es : List (ℕ × Unit {0})) → is_among file (keys_of es) ≡ true → lookup_entry (nat_eq file) es ≡ Some (file, tt)
entry_of file [] there = absurd (cc)
entry_of file (e ∷ es) there = (elim (nat_eq file e.0) as (λ b. nat_eq file e.0 ≡ b → lookup_entry (nat_eq file) (e ∷ es) ≡ Some (file, tt)) [
  | true ↦ λ same. let is : e.0 ≡ file = grind (arith, nat_tests) in rw same (ap (λ (k : ℕ). Some (k, tt)) is)
  | false ↦ λ differs. rw differs (entry_of file es (rw differs at there))
]) refl

pub no_entry_of : (file : ℕ) (es : List (ℕ × Unit {0})) → is_among file (keys_of es) ≡ false → lookup_entry (nat_eq file) es ≡ None
no_entry_of file [] none = refl
no_entry_of file (e ∷ es) none = (elim (nat_eq file e.0) as (λ b. nat_eq file e.0 ≡ b → lookup_entry (nat_eq file) (e ∷ es) ≡ None) [
  | true ↦ λ same. let there : true ≡ false = rw same at none in absurd (cc)
  | false ↦ λ differs. rw differs (no_entry_of file es (rw differs at none))
]) refl

pub keys-promoted : (file : ℕ) (es : List (ℕ × Unit {0})) → keys_of (promoted (nat_eq file) es) ≡ in_front file (keys_of es)
keys-promoted file es = grind (arith, nat_tests, in_front, entry_of, keys-remove_entry file es, no_entry_of)

pub keys-put_entries : (file : ℕ) (cache : LruCache ℕ (Unit {0})) → is_among file (keys_of cache.entries) ≡ false → keys_of (put_entries nat_eq cache file tt) ≡ file ∷ take (cache.cap - 1) (keys_of cache.entries)
keys-put_entries file cache none = let missed : lookup_entry (nat_eq file) cache.entries ≡ None = no_entry_of file cache.entries none in rw missed (ap (λ ks. file ∷ ks) (sym (take-map (λ (e : ℕ × Unit {0}). e.0) (cache.cap - 1) cache.entries)))

no_value_of : (file : ℕ) (es : List (ℕ × Unit {0})) → is_among file (keys_of es) ≡ false → lookup (nat_eq file) es ≡ None
no_value_of file es none = nothing (lookup (nat_eq file) es) (is_some-lookup (nat_eq file) es ∙ none)
  where
    nothing : (o : Option (Unit {0})) → is_some o ≡ false → o ≡ None
    nothing None untrue = refl
    nothing (Some x) untrue = absurd (cc)

pub key-displaced : (file : ℕ) (cache : LruCache ℕ (Unit {0})) → is_among file (keys_of cache.entries) ≡ false → slice_get (keys_of cache.entries) (cache.cap - 1) ≡ option_map (λ (e : ℕ × Unit {0}). e.0) (displaced nat_eq cache file tt)
key-displaced file cache none = let missed : lookup (nat_eq file) cache.entries ≡ None = no_value_of file cache.entries none in rw missed (slice_get-map (λ (e : ℕ × Unit {0}). e.0) cache.entries (cache.cap - 1))

-- the cache, as contracts see it
abbrev pub used : LruCache ℕ (Unit {0}) → Used
used cache = record { limit = cache.cap; recent = keys_of cache.entries }

pub had : (file : ℕ) (cache : LruCache ℕ (Unit {0})) (u : Used) → used cache ≡ u → is_some (lookup (nat_eq file) cache.entries) ≡ is_among file u.recent
had file cache u same = is_some-lookup (nat_eq file) cache.entries ∙ ap (λ (v : Used). is_among file v.recent) same

pub after_promote : (file : ℕ) (cache new : LruCache ℕ (Unit {0})) (u : Used) → used cache ≡ u → new ≡ lru_cache (promoted (nat_eq file) cache.entries) cache.cap → used new ≡ record u { recent = in_front file u.recent }
after_promote file cache new u same told = ap used told ∙ ap (λ ks. record (used cache) { recent = ks }) (keys-promoted file cache.entries) ∙ ap (λ (v : Used). record v { recent = in_front file v.recent }) same

pub after_pop : (file : ℕ) (cache new : LruCache ℕ (Unit {0})) (u : Used) → used cache ≡ u → new ≡ lru_cache (remove_entry (nat_eq file) cache.entries) cache.cap → used new ≡ record u { recent = without file u.recent }
after_pop file cache new u same told = ap used told ∙ ap (λ ks. record (used cache) { recent = ks }) (keys-remove_entry file cache.entries) ∙ ap (λ (v : Used). record v { recent = without file v.recent }) same

pub after_push : (file : ℕ) (cache new : LruCache ℕ (Unit {0})) (u : Used) → used cache ≡ u → is_among file u.recent ≡ false → new ≡ lru_cache (put_entries nat_eq cache file tt) cache.cap → used new ≡ record u { recent = file ∷ take (u.limit - 1) u.recent }
after_push file cache new u same none told =
    let none' : is_among file (keys_of cache.entries) ≡ false = ap (λ (v : Used). is_among file v.recent) same ∙ none in
    ap used told ∙ ap (λ ks. record (used cache) { recent = ks }) (keys-put_entries file cache none') ∙ ap (λ (v : Used). record v { recent = file ∷ take (v.limit - 1) v.recent }) same

pub pushed_out : (file : ℕ) (cache : LruCache ℕ (Unit {0})) (u : Used) (out : Option (ℕ × Unit {0})) → used cache ≡ u → is_among file u.recent ≡ false → out ≡ displaced nat_eq cache file tt → option_map (λ (e : ℕ × Unit {0}). e.0) out ≡ least_recent u
pushed_out file cache u out same none told = grind (arith, nat_tests, cache.entries, key-displaced)
