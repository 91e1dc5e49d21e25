-- Worked examples: which stores loads overtake.
use Rattle.std.proofs.Common.{◌≡◌, ℕ, List, [], ◌∷◌, ◌++◌, refl}
use Rattle.mach_types.specs.declared.events.Entry.{Entry}
use Rattle.mach_types.specs.declared.events.Kind.TheVariants as kind
use Rattle.rv_inst.specs.Meaning.{meaning}
use Rattle.rv_inst.specs.Table.{row_of, rows}
use Rattle.block_model.specs.Deciding.{done, history}
use Rattle.block_model.specs.Setting.{Setting}
use Rattle.block_model.proofs.ExamplePrograms.{code_and_data, entry}
use Rattle.drawn_machine.specs.Overtaken.{stores_of}
use Rattle.drawn_machine.specs.PcSets.{with_pcs}

-- a set with two more, of which one is in it
with_two_more : with_pcs (9 ∷ 4 ∷ []) (4 ∷ 12 ∷ []) ≡ 4 ∷ 9 ∷ 12 ∷ []
with_two_more = refl

-- `lui x5, 0x20`, `addi x6, x0, 9`, `sw x6, 0(x5)`, `lw x7, 0(x5)`, `sw x6, 8(x5)`
abbrev program : Setting
program = code_and_data (0xB7 ∷ 0x02 ∷ 0x02 ∷ 0x00 ∷ 0x13 ∷ 0x03 ∷ 0x90 ∷ 0x00 ∷ 0x23 ∷ 0xA0 ∷ 0x62 ∷ 0x00
    ∷ 0x83 ∷ 0xA3 ∷ 0x02 ∷ 0x00 ∷ 0x23 ∷ 0xA4 ∷ 0x62 ∷ 0x00 ∷ [])

abbrev up_to_the_store : List Entry
up_to_the_store = entry kind.Run 0x100B0 ∷ entry kind.Exec 0x100B0 ∷ entry kind.Exec 0x100B4 ∷ entry kind.Exec 0x100B8 ∷ []

-- the load overtakes the store before it, which enters memory later; the store behind the load still waits at the end, and counts as
-- executed
load_overtakes : stores_of program (history program (up_to_the_store
    ++ entry kind.Exec 0x100BC ∷ entry kind.Drain 0x100C0 ∷ entry kind.Exec 0x100C0 ∷ []))
    ≡ record { executed = 0x100B8 ∷ 0x100C0 ∷ []; overtaken = 0x100B8 ∷ [] }
unfolding history done meaning row_of rows
load_overtakes = refl

-- a store that enters memory first isn't overtaken
load_comes_later : stores_of program (history program (up_to_the_store
    ++ entry kind.Drain 0x100BC ∷ entry kind.Exec 0x100BC ∷ entry kind.Exec 0x100C0 ∷ []))
    ≡ record { executed = 0x100B8 ∷ 0x100C0 ∷ []; overtaken = [] }
unfolding history done meaning row_of rows
load_comes_later = refl
