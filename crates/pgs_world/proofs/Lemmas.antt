-- The lemmas by which the functions' goals are answered.
pub use Rattle.pgs_world.proofs.LawfulLemmas.{asked_is_lawful, asked_makes_once, run_is_lawful, run_makes_once}
pub use Rattle.pgs_world.proofs.RunLemmas.{ended_run, in_some, limited_run, started_run}
pub use Rattle.pgs_world.proofs.StartedLemmas.{limited_plays, made_plays, started_plays}
pub use Rattle.pgs_world.proofs.SweptLemmas.{all_run, calls_told, few_more, is_run, last_few, last_next, not_read, stands_more, stands_none, swept_unwritten, swept_wanted, swept_whole}
