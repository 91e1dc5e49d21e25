-- The laws that crates above cite.
pub use Rattle.step_log.proofs.Printed.{length-decimal_32, length-hex_text, length-kind_word-le}
pub use Rattle.step_log.proofs.Texts.{log_meanings}
