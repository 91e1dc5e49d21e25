-- Stretches as they are handed out, as plain values.
use Rattle.std.specs.Prelude.{ℕ, ◌+◌, ◌==◌, ◌||◌, false, not, List, [], if◌then◌else◌, length, Option, None, Some, is_some}
use Rattle.std.specs.Option.{option_map_or}
use Rattle.mach_types.specs.declared.events.Entry.{Entry}
use Rattle.mach_types.specs.declared.events.Hart.{Hart}
use Rattle.mach_types.specs.declared.events.Kind.TheVariants as kind
use Rattle.mach_types.specs.declared.events.Tid.{Tid}
use Rattle.elf_load.specs.declared.image.ImagePage.{ImagePage}
use Rattle.rv_inst.specs.Class.{sets_register}
use Rattle.hart_state.specs.declared.hart.HartState.{HartState}
use Rattle.block_model.specs.Instruction.{next_effect}
use Rattle.block_model.specs.Stretches as plain
use Rattle.process.specs.Harts.{file_of}
use Rattle.machine_core.specs.declared.stretches.Stretch.{Stretch}

-- a stretch as a plain value
abbrev pub stretch_of : Stretch → plain.Stretch
stretch_of l = record {
  hart = l.hart.0;
  events = l.events;
  file = record { file = l.file; pc = l.pc };
  credit = l.credit;
  pcs = l.pcs.items;
}

-- the entry of an instruction of a thread at a pc
abbrev pub executed : Hart → Tid → ℕ → Entry
executed h t pc = record { hart = h; kind = kind.Exec; tid = t; pc = pc }

-- the stretch of hart h in this state, of which nothing is worked yet
abbrev pub stretch_from : ℕ → HartState → plain.Stretch
stretch_from h x = record { hart = h; events = x.events; file = file_of x; credit = x.credit; pcs = [] }

-- the stretch of hart h in this state, over this code: none where no thread runs on it or one waits in a barrier, where it has no
-- credit, or where its next instruction touches more than registers
abbrev pub stretch_on : List ImagePage → ℕ → HartState → Option plain.Stretch
stretch_on code h x =
    if not (is_some x.running) || is_some x.waits || x.credit == 0 || not (option_map_or sets_register (next_effect code (file_of x)) false) then None
    else Some (stretch_from h x)

-- a hart as a stretch of its work leaves it: the file and the credit are the stretch's, and each of its instructions counts
abbrev pub taken_in : plain.Stretch → HartState → HartState
taken_in l x = record x {
  file = l.file.file;
  pc = l.file.pc;
  credit = l.credit;
  ran = x.ran + length l.pcs;
  events = x.events + length l.pcs;
}

-- hart h in this state once its thread has executed its next instruction on credit, over this code: the first of its stretch
abbrev pub gone_on_credit : List ImagePage → ℕ → HartState → HartState
gone_on_credit code h x = taken_in (plain.stepped code (stretch_from h x)) x
