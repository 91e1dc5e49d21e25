-- A log of the counter guest for the size 1, by computation: its second thread is preempted inside its add
-- block, begins anew at the abort handler, and adds 1 to the cell of its processor. It uses the block as
-- HoldsAdd asks.
use Rattle.std.proofs.Common.{List, [], ◌∷◌, ◌++◌, refl, Bool}
use Rattle.mach_types.specs.declared.events.Choice.TheVariants as asked
use Rattle.mach_types.specs.declared.events.Entry.{Entry}
use Rattle.mach_types.specs.declared.events.Kind.TheVariants as kind
use Rattle.mach_types.specs.declared.sequences.Area.{Area}
use Rattle.block_model.specs.Acts.{Sequence}
use Rattle.block_model.specs.Replay.{Ask, played}
use Rattle.block_model.specs.Run.{IsBlockRun}
use Rattle.block_model.specs.Setting.{Setting}
use Rattle.block_model.proofs.Laws.{played_is_run}
use Rattle.alone_laws.specs.Spans.{code_of}
use Rattle.percpu_lib.specs.Adds.{cell_seen}
use Rattle.percpu_lib.specs.Uses.{add_form, cells_of}
use Rattle.percpu_lib.specs.declared.slots.Slots.{Slots}
use Rattle.percpu_lib.proofs.Computing.{by_rules, by_table}
use Rattle.percpu_lib.proofs.ExampleParts.{AreThere, IsGood, Use, entry, execs, found_good, line, use_of, walk, walk_of}
use Rattle.percpu_lib.proofs.FormTests.{add_tested}
use Rattle.percpu_lib.proofs.UseTests.{is_just}
use Rattle.guest_names.specs.declared.names.Name.TheVariants.{Counter}
use Rattle.guest_programs.specs.Programs.{data_bytes, guest_program}
use Rattle.guest_programs.specs.Steps.{slots_of}
use Rattle.guest_programs.proofs.GuestCode.{assembler_of, code_of_words, counter_words}

abbrev pub counting : Setting
counting = record {
  program = guest_program (code_of_words counter_words) (data_bytes (assembler_of Counter counter_words) 1);
  limits = record { harts = 1; frames = 4096; steps = 200 };
}

abbrev pub slots : Slots
slots = slots_of 0x20020

abbrev pub area : Area
area = record { at = 0x30400; sig = 0xF1401073 }

-- the first thread registers its area, and starts the second; it is preempted, and the second registers its
-- area and comes to the block. It is preempted behind the first instruction of the sequence
abbrev lines : List Ask
lines =
    line (asked.Run (record { 0 = 1 })) ∷ execs 30 ++ line asked.Preempt ∷ line (asked.Run (record { 0 = 2 }))
    ∷ execs 18 ++ line asked.Drain ∷ line asked.Preempt ∷ line (asked.Run (record { 0 = 2 })) ∷ execs 12

abbrev pub log : List Entry
log =
    entry kind.Run 1 0x10000 ∷ walk 0x10000 2 ++ walk 0x10020 9 ++ walk 0x10008 6 ++ walk 0x10150 2
    ++ walk 0x10044 11 ++ entry kind.Preempt 1 0x10070 ∷ entry kind.Run 2 0x10070 ∷ entry kind.Exec 2 0x10070
    ∷ entry kind.Exec 2 0x10080 ∷ walk_of 2 0x10020 9 ++ entry kind.Exec 2 0x10084 ∷ entry kind.Exec 2 0x10164
    ∷ walk_of 2 0x1016C 5 ++ entry kind.Drain 2 0x10180 ∷ entry kind.Preempt 2 0x10180
    ∷ entry kind.Run 2 0x10180 ∷ entry kind.Exec 2 0x101A0 ∷ walk_of 2 0x1016C 11

is_run : IsBlockRun counting log
unfolding played by_rules
is_run = (played_is_run counting lines log refl).0

abbrev pub add : Use
add = record (use_of add_form add_tested slots 0x1016C) { area = area; thread = 2 }

-- the words of the block stand there
there : AreThere (code_of counting.program.pages) add.at add.form.words
unfolding by_table
there =
    (refl, (refl, (refl, (refl, (refl, (refl, (refl, (refl, (refl, (refl, (refl, (refl, (refl, (refl, tt))))))))))))))

-- the cell is 1 at the end
abbrev pub has_added : Sequence → Bool
has_added q = is_just (cell_seen counting 0 (cells_of counting slots q.thread q.begun) q.reached) 1

pub adds_well : IsGood counting log 66 add [] has_added
unfolding by_rules
adds_well = found_good counting log is_run 66 add [] has_added refl refl there refl
