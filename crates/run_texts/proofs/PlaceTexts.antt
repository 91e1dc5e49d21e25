-- Worked examples of places, by computation: memory while a store waits and when it has entered, and threads that run nowhere.
use Rattle.std.proofs.Common.{◌≡◌, ℕ, List, [], ◌∷◌, ◌++◌, refl, codes}
use Rattle.std.specs.Fmt.{digits}
use Rattle.mach_types.specs.Kernel.Areas.{are_readable}
use Rattle.mach_types.specs.Kernel.Areas as areas
use Rattle.mach_types.specs.Kernel.Signals.{start_signalling}
use Rattle.mach_types.specs.declared.events.Entry.{Entry}
use Rattle.mach_types.specs.declared.events.Kind.TheVariants as kind
use Rattle.mach_types.specs.declared.sequences.Area.{Area}
use Rattle.mach_types.specs.declared.threads.ThreadState.{ThreadState}
use Rattle.mach_types.specs.declared.threads.ThreadState.TheVariants.{Ready, Running, Waiting}
use Rattle.rv_inst.specs.Meaning.{meaning}
use Rattle.rv_inst.specs.Table.{row_of, rows}
use Rattle.block_model.specs.Deciding.{done, history}
use Rattle.block_model.specs.Setting.{Setting}
use Rattle.block_model.proofs.ExamplePrograms.{code_and_data, entry as by, within_frames}
use Rattle.command_words.specs.declared.spans.MemorySpan.{MemorySpan}
use Rattle.run_texts.specs.Places.{spans_text}
use Rattle.place_text.specs.Memory.{memory_text, number_at, word_text}
use Rattle.place_text.specs.Threads.{Told, resting_lines, resting_pc, told_text}
use Rattle.step_log.specs.Text.{hex_text}

-- `lui x8, 0x20` and `sd x8, 0(x8)`, which stand at 0x100B0, with a page of zeros at 0x20000
abbrev code : List ℕ
code = 0x37 ∷ 0x04 ∷ 0x02 ∷ 0x00 ∷ 0x23 ∷ 0x30 ∷ 0x84 ∷ 0x00 ∷ []

abbrev program : Setting
program = within_frames 128 (code_and_data code)

-- the store waits behind these
abbrev stored : List Entry
stored = by kind.Run 0x100B0 ∷ by kind.Exec 0x100B0 ∷ by kind.Exec 0x100B4 ∷ []

abbrev bytes : ℕ → ℕ → MemorySpan
bytes at count = record { at = at; length = count }

-- hart 0 sees its own store, and memory hasn't it; hart 1 sees what memory has. The bytes that are asked for lie in two words
store_waits : spans_text program (history program stored) (bytes 0x20007 2 ∷ []) ≡
    codes "memory 0000000000020000 0000000000000000\n" ++ codes "hart 0 sees 0000000000020000 0000000000020000\n"
    ++ codes "memory 0000000000020008 0000000000000000\n"
unfolding memory_text word_text number_at digits hex_text history done meaning row_of rows are_readable areas.number_at
store_waits = refl

-- behind a drain both see what memory has; nothing is read where no page is
store_entered : spans_text program (history program (stored ++ by kind.Drain 0x100B8 ∷ [])) (bytes 0x20000 8 ∷ bytes 0x30000 1 ∷ []) ≡
    codes "memory 0000000000020000 0000000000020000\n" ++ codes "memory 0000000000030000 none\n"
unfolding memory_text word_text number_at digits hex_text history done meaning row_of rows are_readable areas.number_at
store_entered = refl

-- thread 1 waits and has an area, and 2 runs; what is told of each
abbrev thread_in : ℕ → ThreadState → ℕ → Told
thread_in t state pc = record { tid = t; state = state; pc = resting_pc state pc }

abbrev area : Area
area = record { at = 0x20040; sig = 0x53 }

one_rests : told_text start_signalling ((1, area) ∷ [])
    (thread_in 1 (Waiting 0x20000) 0x1017C ∷ thread_in 2 (Running (record { 0 = 0 })) 0x10130 ∷ []) ≡
    codes "thread 1 waiting 0000000000020000\n" ++ codes "thread 1 mask 0000000000000000 pending 0000000000000000\n"
    ++ codes "thread 1 pc 000000000001017c\n" ++ codes "thread 1 area 0000000000020040 signature 00000053\n"
    ++ codes "thread 2 running 0\n" ++ codes "thread 2 mask 0000000000000000 pending 0000000000000000\n"
unfolding resting_lines digits hex_text
one_rests = refl

-- a ready thread without an area
none_registered : told_text start_signalling [] (thread_in 3 Ready 0x10130 ∷ []) ≡
    codes "thread 3 ready\n" ++ codes "thread 3 mask 0000000000000000 pending 0000000000000000\n"
    ++ codes "thread 3 pc 0000000000010130\n" ++ codes "thread 3 area none\n"
unfolding resting_lines digits hex_text
none_registered = refl
