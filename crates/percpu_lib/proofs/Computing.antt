-- What proofs by computation open, each list by one name.
use Rattle.std.proofs.Common.{ℕ, zero}
use Rattle.mach_types.specs.Kernel.Areas.{are_readable, number_at}
use Rattle.mach_types.specs.Kernel.SignalFrames.{can_write_frame, frame_read}
use Rattle.mach_types.specs.Kernel.Signals.{all_signals}
use Rattle.rv_inst.specs.Meaning.{meaning}
use Rattle.rv_inst.specs.Table.{row_of, rows}
use Rattle.block_model.specs.Deciding.{decide, done, history}

-- which instruction a word is
unfoldable pub by_table : ℕ
unfolding row_of rows
by_table = zero

-- which events are allowed, and what they do
unfoldable pub by_rules : ℕ
unfolding decide history done meaning are_readable number_at by_table
by_rules = zero

-- and what signals do
unfoldable pub by_signals : ℕ
unfolding all_signals can_write_frame frame_read
by_signals = zero
