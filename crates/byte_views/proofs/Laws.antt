-- The laws that crates above cite.
pub use Rattle.byte_views.proofs.Bytes.{with_word-front, word_at-drop, word_at-bytes}
