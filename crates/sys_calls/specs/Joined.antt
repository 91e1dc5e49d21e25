-- The end of writev(2): what is done with the spans of bytes that its records name.
use Rattle.std.specs.Prelude.{ℕ, ◌^◌, List, if◌then◌else◌, nat_le}
use Rattle.mach_types.specs.declared.errors.TheConstants.{EINVAL}
use Rattle.block_model.specs.Here.{Here}
use Rattle.block_model.specs.Calls.Answers.{CallDone, refused}
use Rattle.block_model.specs.Calls.Console.{Span, total, write_spans}

-- too many bytes are refused, and others are written as write(2) does
abbrev pub write_joined : Here → ℕ → List Span → CallDone
write_joined here t spans = if nat_le (2 ^ 31) (total spans) then refused here t EINVAL else write_spans here t spans
