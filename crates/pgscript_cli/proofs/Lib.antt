pub mod ProgramLemmas
mod HookLemmas
mod KindLemmas
