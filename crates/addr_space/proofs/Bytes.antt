-- Lemmas on the bytes of a region.
pub use Rattle.block_mem.proofs.Bytes.{known-part, length-part, length-overwritten, overwritten-more}
