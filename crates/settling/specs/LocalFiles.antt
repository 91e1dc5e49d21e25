-- The file after a local step that reads no memory (own).
use Rattle.std.specs.Prelude.{List, Option}
use Rattle.std.specs.Option.{option_and_then}
use Rattle.elf_load.specs.declared.image.ImagePage.{ImagePage}
use Rattle.mach_types.specs.declared.threads.Saved.{Saved}
use Rattle.block_model.specs.Instruction.{next_effect}
use Rattle.local_steps.specs.LocalSteps.{local_after}

-- the file after the next instruction of this one, where that touches registers and the pc alone
abbrev pub local_file : List ImagePage → Saved → Option Saved
local_file pages f = option_and_then (λ e. local_after e f) (next_effect pages f)
