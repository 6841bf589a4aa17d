-- The steps of the ledger of a Bump, for those who compute with them over any kind.
unfoldable pub use Rattle.bump_ctx.specs.Ledger.{created, cut_off, refusal, stats, take, take_cut, take_new, take_own}
