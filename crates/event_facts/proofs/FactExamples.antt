-- A worked example, proved by computation: the facts of each line of a log.
use Rattle.std.proofs.Common.{◌≡◌, ℕ, List, [], ◌∷◌, refl}
use Rattle.mach_types.specs.Kernel.Areas.{are_readable, number_at}
use Rattle.mach_types.specs.declared.events.Entry.{Entry}
use Rattle.mach_types.specs.declared.events.Kind.TheVariants as kind
use Rattle.mach_types.specs.declared.user_memory.Store.{Store}
use Rattle.rv_inst.specs.Meaning.{meaning}
use Rattle.rv_inst.specs.Table.{row_of, rows}
use Rattle.block_model.specs.Deciding.{done, event}
use Rattle.block_model.specs.History.{History}
use Rattle.block_model.specs.Setting.{Setting}
use Rattle.block_model.proofs.ExamplePrograms.{code_and_data, entry as by, within_frames}
use Rattle.fact_types.specs.declared.facts.Fact.{Fact}
use Rattle.fact_types.specs.declared.facts.Fact.TheVariants.{Read, Waits, Entered, Reserved, Used, Failed, Ended, Register}
use Rattle.fact_types.specs.declared.facts.Source.TheVariants.{Start, Memory, Waiting}
use Rattle.event_facts.specs.Facts.{facts_of, read_facts}

-- it stores 7 at 0x20000, loads the 8 bytes there, and the 8 bytes from 0x20004 on; then it reserves the first 8, and stores there by SC
-- twice, of which the second fails. It reserves them again, then the 4 bytes at 0x2000C, and stores there by SC twice
abbrev code : List ℕ
code =
    0x37 ∷ 0x04 ∷ 0x02 ∷ 0x00 ∷ 0x93 ∷ 0x02 ∷ 0x70 ∷ 0x00 ∷ 0x23 ∷ 0x30 ∷ 0x54 ∷ 0x00 ∷ 0x03 ∷ 0x33 ∷ 0x04 ∷ 0x00 ∷
    0x83 ∷ 0x33 ∷ 0x44 ∷ 0x00 ∷ 0xAF ∷ 0x34 ∷ 0x04 ∷ 0x10 ∷ 0x2F ∷ 0x35 ∷ 0x54 ∷ 0x18 ∷ 0x2F ∷ 0x35 ∷ 0x54 ∷ 0x18 ∷
    0xAF ∷ 0x34 ∷ 0x04 ∷ 0x10 ∷ 0x13 ∷ 0x04 ∷ 0xC4 ∷ 0x00 ∷ 0xAF ∷ 0x24 ∷ 0x04 ∷ 0x10 ∷ 0x2F ∷ 0x25 ∷ 0x54 ∷ 0x18 ∷
    0x2F ∷ 0x25 ∷ 0x54 ∷ 0x18 ∷ []

abbrev program : Setting
program = within_frames 128 (code_and_data code)

-- its store enters memory in line 7
abbrev log : List Entry
log =
    by kind.Run 0x100B0 ∷ by kind.Exec 0x100B0 ∷ by kind.Exec 0x100B4 ∷ by kind.Exec 0x100B8 ∷ by kind.Exec 0x100BC ∷ by kind.Exec 0x100C0
    ∷ by kind.Drain 0x100C4 ∷ by kind.Exec 0x100C4 ∷ by kind.Exec 0x100C8 ∷ by kind.Exec 0x100CC
    ∷ by kind.Exec 0x100D0 ∷ by kind.Exec 0x100D4 ∷ by kind.Exec 0x100D8 ∷ by kind.Exec 0x100DC ∷ by kind.Exec 0x100E0 ∷ []

-- the facts of each line
abbrev told : Setting → History → List Entry → List (List Fact)
told s before [] = []
told s before (e ∷ es) = facts_of s before e ∷ told s (event s before e ∷ before) es

abbrev seven : Store
seven = record { at = 0x20000; size = 8; value = 7 }

abbrev small : Store
small = record { at = 0x2000C; size = 4; value = 7 }

-- of the second load, four bytes come from the store that waits, and four stand in memory since the start. The last LR takes the place of
-- a reservation of other bytes
all_told : told program [] log ≡
    []
    ∷ (Register 8 0x20000 ∷ [])
    ∷ (Register 5 7 ∷ [])
    ∷ (Waits seven ∷ [])
    ∷ (Read 0x20000 8 7 (Waiting 4) ∷ Register 6 7 ∷ [])
    ∷ (Read 0x20004 1 0 (Waiting 4) ∷ Read 0x20005 1 0 (Waiting 4) ∷ Read 0x20006 1 0 (Waiting 4) ∷ Read 0x20007 1 0 (Waiting 4)
    ∷ Read 0x20008 1 0 Start ∷ Read 0x20009 1 0 Start ∷ Read 0x2000A 1 0 Start ∷ Read 0x2000B 1 0 Start ∷ [])
    ∷ (Entered seven 0 4 ∷ [])
    ∷ (Read 0x20000 8 7 (Memory 7) ∷ Reserved 0x20000 ∷ Register 9 7 ∷ [])
    ∷ (Entered seven 7 9 ∷ Used 0x20000 ∷ [])
    ∷ (Failed 0x20000 ∷ Register 10 1 ∷ [])
    ∷ (Read 0x20000 8 7 (Memory 9) ∷ Reserved 0x20000 ∷ [])
    ∷ (Register 8 0x2000C ∷ [])
    ∷ (Read 0x2000C 4 0 Start ∷ Ended 0x20000 ∷ Reserved 0x20008 ∷ Register 9 0 ∷ [])
    ∷ (Entered small 0 14 ∷ Used 0x20008 ∷ Register 10 0 ∷ [])
    ∷ (Failed 0x20008 ∷ Register 10 1 ∷ [])
    ∷ []
unfolding facts_of read_facts done meaning row_of rows are_readable number_at
all_told = refl
