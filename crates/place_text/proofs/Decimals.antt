-- The digits of a number, where a proof computes them.
unfoldable pub use Rattle.std.specs.Fmt.{digits}
