-- What a source and a sink in memory are seen as.
use Rattle.std.specs.Prelude.{ℕ, ◌+◌, List, Contains}

-- a source that gives bytes of its own
pub record SourceState : Type 0 where
  pub unread : List ℕ
  pub piece : ℕ
  pub failing : List ℕ
  pub calls : ℕ
  pub failed : ℕ

-- a sink that keeps the bytes
pub record SinkState : Type 0 where
  pub kept : List ℕ
  pub room : ℕ
  pub failing : List ℕ
  pub calls : ℕ
  pub failed : ℕ

-- the call behind `calls` others is one that has to fail
abbrev pub MustFail : List ℕ → ℕ → Type 0
MustFail failing calls = Contains failing (calls + 1)
