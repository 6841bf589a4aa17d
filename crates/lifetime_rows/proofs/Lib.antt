-- The transcripts of scripts, computed: their texts, and that they keep the laws of lifetimes.
pub mod Setting
pub mod RowsOfLevels
pub mod RowsOfContexts
pub mod RowsOfResources
pub mod RowsOfPortals
pub mod RowsOfAsking
pub mod RowsOfRuns
pub mod Examples
pub mod TranscriptsOfLevels
pub mod TranscriptsOfContexts
pub mod TranscriptsOfResources
pub mod TranscriptsOfPortals
pub mod TranscriptsOfRuns
pub mod SpaceAsked
pub mod HooksCounted
