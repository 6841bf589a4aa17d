use Rattle.std.specs.Prelude.{ℕ, List, refl}
use Rattle.std.specs.Coded.{Coded, code_by, coded×, coded_ℕ, coded_list}
use Rattle.file_table.specs.Kept.{KeptFiles}

abbrev pub files_code : Coded (List ℕ)
files_code = coded_list coded_ℕ

abbrev pub kept_code : Coded KeptFiles
kept_code = code_by (List ℕ × ℕ) (coded× files_code coded_ℕ) (λ k. (k.files, k.room)) (λ p. record { files = p.0; room = p.1 }) (λ _. refl)
