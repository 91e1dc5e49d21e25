-- A worked log, by computation: a thread registers its area, sets a handler of SIGUSR1 that only returns,
-- sends itself the signal, and is to add 32 to the cell of its processor by an add block. The signal is
-- delivered at the fourth word of the block, before its sequence; the handler returns there, and the thread
-- adds once.
use Rattle.std.proofs.Common.{◌≡◌, ℕ, ◌+◌, List, [], ◌∷◌, ◌++◌, replicate, take, drop, refl, true, Some}
use Rattle.mach_types.specs.Kernel.Areas.{is_inside}
use Rattle.mach_types.specs.declared.events.Choice.TheVariants as asked
use Rattle.mach_types.specs.declared.events.Entry.{Entry}
use Rattle.mach_types.specs.declared.events.Kind.TheVariants as kind
use Rattle.block_model.specs.Acts.{Sequence, sequence_on}
use Rattle.block_model.specs.Deciding.{history}
use Rattle.block_model.specs.History.{file}
use Rattle.block_model.specs.Replay.{Ask, played}
use Rattle.block_model.specs.Run.{IsBlockRun}
use Rattle.block_model.specs.Setting.{Setting}
use Rattle.block_model.proofs.Laws.{played_is_run}
use Rattle.alone_laws.specs.Spans.{code_of}
use Rattle.alone_laws.specs.Uses.{HasLeft}
use Rattle.percpu_lib.specs.Adds.{add_block, add_range, cell_seen, placed_add}
use Rattle.percpu_lib.specs.Uses.{HoldsAdd, add_form, cells_of}
use Rattle.percpu_lib.specs.declared.slots.Slots.{Slots}
use Rattle.percpu_lib.proofs.Computing.{by_rules, by_signals, by_table}
use Rattle.percpu_lib.proofs.ExampleParts.{AreThere, data_at, entry, execs, holds_so, line, sequence_of}
use Rattle.percpu_lib.proofs.ExampleParts.{setting_of, slots_with, walk}
pub use Rattle.percpu_lib.proofs.ExampleParts.{own_area as area}
use Rattle.percpu_lib.proofs.ExamplePrograms.{signal_code}
use Rattle.percpu_lib.proofs.FormTests.{add_tested}
use Rattle.percpu_lib.proofs.UseTests.{are_fine, has_left, left_so}

abbrev pub adding : Setting
adding = setting_of 0xC0 signal_code (data_at 0x20 (replicate 0xC0 0 ++ 0x40 ∷ 0x01 ∷ 0x01 ∷ []) ∷ []) 0x21000

abbrev pub slots : Slots
slots = slots_with 11 0x10160

abbrev pub at : ℕ
at = 0x10108

-- the thread runs, and executes the first 18 instructions and three words of the block; the signal is
-- delivered; it executes the handler and the two words of the return page, and then three words more, whose
-- store enters memory, and the last five
abbrev lines : List Ask
lines =
    line (asked.Run (record { 0 = 1 }))
    ∷ (execs 21
    ++ (line asked.Signal
    ∷ (execs 6 ++ (line asked.Drain ∷ execs 5))))

abbrev pub log : List Entry
log =
    entry kind.Run 1 0x100C0 ∷ walk 0x100C0 21 ++ entry kind.Signal 1 0x10114 ∷ entry kind.Exec 1 0x10140
    ∷ walk 0x3FFFFF0000 2 ++ walk 0x10114 3 ++ entry kind.Drain 1 0x10120 ∷ walk 0x10120 5

pub is_run : IsBlockRun adding log
unfolding played by_rules by_signals
is_run = (played_is_run adding lines log refl).0

-- up to where the handler has returned
abbrev pub returned : List Entry
returned = take 26 log

abbrev pub rest : List Entry
rest = drop 26 log

has_returned : has_left adding (add_form slots) (add_tested slots) at area 1
    (file adding 1 (history adding returned))
    (history adding returned) ≡ true
unfolding by_rules by_signals
has_returned = refl

pub left : HasLeft adding (placed_add slots at area) 1 (file adding 1 (history adding returned))
    (history adding returned)
left =
    left_so adding (add_form slots) (add_tested slots) at area 1 (file adding 1 (history adding returned))
    (history adding returned) has_returned

-- its sequence
abbrev pub sequence : Sequence
sequence = sequence_of adding log 27 34

pub is_sequence : sequence_on adding 0 (history adding log) ≡ Some sequence
unfolding by_rules by_signals
is_sequence = refl

pub begins_inside : is_inside (add_range at) (file adding 1 sequence.begun).pc ≡ true
unfolding by_rules by_signals
begins_inside = refl

pub leaves : (file adding 1 sequence.reached).pc ≡ at + 44
unfolding by_rules by_signals
leaves = refl

-- the cell was 0 and is 32
pub adds : cell_seen adding 0 (cells_of adding slots 1 sequence.begun) sequence.reached ≡ Some 32
unfolding by_rules by_signals
adds = refl

-- the words of the block stand there
there : AreThere (code_of adding.program.pages) at (add_block slots)
unfolding by_table
there =
    (refl, (refl, (refl, (refl, (refl, (refl, (refl, (refl, (refl, (refl, (refl, (refl, (refl, (refl, tt))))))))))))))

fine : are_fine adding (add_form slots) (add_tested slots) at area 1 (history adding log) ≡ true
unfolding by_rules by_signals
fine = refl

pub holds : HoldsAdd adding (history adding log) slots at area 1
holds =
    holds_so adding (add_form slots) (add_tested slots) at area 1 (history adding log) is_run.allowed fine
    refl there
