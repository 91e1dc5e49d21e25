-- The laws that crates above cite.
pub use Rattle.page_map.proofs.Accesses.{each_byte-all, each_byte-fails, some_where, word_missing, word_of_bytes}
pub use Rattle.page_map.proofs.Alike.{alike_holds, writable_is_visible}
pub use Rattle.page_map.proofs.Stores.{over-high, over-in, over-low, with_word-after, with_word-before, with_word-inside}
pub use Rattle.page_map.proofs.Writings.{write_alone}
pub use Rattle.page_map.proofs.Unrefused.{AreRemovable, IsProtectable, MayBreak, may_break, protectable, removable}
