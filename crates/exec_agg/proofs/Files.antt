-- What becomes of files when one is dropped.
use Rattle.std.proofs.Common.{◌≡◌, ◌≢◌, ℕ, ◌*◌, List, Option, Some, None, refl, sym, ap, ◌∙◌, length, subst, IsSome}
use Rattle.std.specs.List.{flat_map}
use Rattle.temp_store.specs.Temp.{Temp, Changes, IsFile, file_at, bytes_of}
use Rattle.agg_rules.specs.declared.Row.{Row}
use Rattle.row_files.specs.RowBytes.{HasRows, row_bytes}
use Rattle.row_files.proofs.RowLemmas.{length-rows}
use Rattle.agg_pass.specs.PassState.{PassState, HasSpilled}
use Rattle.agg_pass.specs.Spilled.{IsOf, KeepsFiles}
use Rattle.exec_agg.specs.Nodes.{NoFile}

module _ (file : ℕ) (t u : Temp) (gone : Changes t u file None) where
  -- the file that a pass goes over is dropped, and the pass may have one of its own
  pub KeepsFiles-turned : (own was now : Option ℕ) (s : Temp) → own ≡ Some file → was ≡ None → KeepsFiles (IsOf was) s (IsOf now) t → KeepsFiles (IsOf own) s (IsOf now) u
  KeepsFiles-turned own was now s is none keeps number bytes = (
    (λ it.
        let apart : number ≢ file = λ same. it.1 (is ∙ ap Some (sym same)) in
        let kept = (keeps number bytes).0 (it.0, λ (other : was ≡ Some number). let clash : None ≡ Some number = sym none ∙ other in absurd (cc)) in
        (gone.others number apart ∙ kept.0, kept.1)),
    (λ it.
        let apart : number ≢ file = λ same. (let clash : Some bytes ≡ None = sym it.0 ∙ ap (file_at u) same ∙ gone.changed in absurd (cc)) in
        let kept = (keeps number bytes).1 (sym (gone.others number apart) ∙ it.0, it.1) in
        (kept.0, λ (same : own ≡ Some number). apart (let clash : Some number ≡ Some file = sym same ∙ is in cc))),
  )

  -- the only one is dropped
  pub KeepsFiles-dropped : (own : Option ℕ) → own ≡ Some file → KeepsFiles (IsOf own) t NoFile u
  KeepsFiles-dropped own is number bytes = (
    (λ it. (gone.others number (λ same. it.1 (is ∙ ap Some (sym same))) ∙ it.0, λ z. z)),
    (λ it.
        let apart : number ≢ file = λ same. (let clash : Some bytes ≡ None = sym it.0 ∙ ap (file_at u) same ∙ gone.changed in absurd (cc)) in
        (sym (gone.others number apart) ∙ it.0, λ (same : own ≡ Some number). apart (let clash : Some number ≡ Some file = sym same ∙ is in cc))),
  )

  -- what was spilled lies in another file
  pub HasSpilled-dropped : (p : PassState) → (IsOf p.file file → ⊥) → HasSpilled p t → HasSpilled p u
  HasSpilled-dropped p other has number is =
      let rows = has number is in
      record { bytes = gone.others number (λ same. other (is ∙ ap Some same)) ∙ rows.bytes; numbers = rows.numbers }

-- a file with rows is there, and isn't the pass's
pub rows_file : (temp : Temp) (file : ℕ) (rows : List Row) → HasRows temp file rows → IsFile temp file
rows_file temp file rows has = subst IsSome (sym has.bytes) refl

pub not_own : (s t : Temp) (was now : Option ℕ) (file : ℕ) (rows : List Row) → was ≡ None → KeepsFiles (IsOf was) s (IsOf now) t → HasRows s file rows → IsOf now file → ⊥
not_own s t was now file rows none keeps has = ((keeps file (flat_map row_bytes rows)).0 (has.bytes, λ own. let clash : None ≡ Some file = sym none ∙ own in absurd (cc))).1

pub rows_bytes : (temp : Temp) (file : ℕ) (rows : List Row) → HasRows temp file rows → length (bytes_of (file_at temp file)) ≡ 8 * length rows
rows_bytes temp file rows has = ap (λ b. length (bytes_of b)) has.bytes ∙ length-rows rows
