-- A log of the list guest for the size 1, by computation: its first thread starts the second, which pushes a
-- node, pushes one itself, and pops it. They use the push and the pop block as the laws of runs ask, each
-- with the other block of its area.
use Rattle.std.proofs.Common.{◌≡◌, List, [], ◌∷◌, ◌++◌, refl, Bool, true, ◌&&◌, eqb}
use Rattle.mach_types.specs.declared.events.Entry.{Entry}
use Rattle.mach_types.specs.declared.events.Kind.TheVariants as kind
use Rattle.mach_types.specs.declared.sequences.Area.{Area}
use Rattle.block_model.specs.Acts.{Sequence}
use Rattle.block_model.specs.Deciding.{history}
use Rattle.block_model.specs.Run.{IsBlockRun}
use Rattle.block_model.specs.Setting.{Setting}
use Rattle.alone_laws.specs.Spans.{code_of}
use Rattle.alone_laws.specs.Uses.{Placed}
use Rattle.percpu_lib.specs.Adds.{cell_seen}
use Rattle.percpu_lib.specs.Forms.{placed_of}
use Rattle.percpu_lib.specs.Pops.{pop_form}
use Rattle.percpu_lib.specs.Pushes.{node_of, push_form}
use Rattle.percpu_lib.specs.Uses.{cells_of}
use Rattle.percpu_lib.specs.declared.slots.Slots.{Slots}
use Rattle.percpu_lib.proofs.Computing.{by_rules, by_table}
use Rattle.percpu_lib.proofs.ExampleParts.{AreThere, IsGood, Use, entry, found_good, use_of, walk, walk_of}
use Rattle.percpu_lib.proofs.FormTests.{pop_tested, push_tested}
use Rattle.percpu_lib.proofs.UseTests.{is_just}
use Rattle.guest_names.specs.declared.names.Name.TheVariants.{List as Lists}
use Rattle.guest_programs.proofs.AllowedLogs.{all_decided, run_found}
use Rattle.guest_programs.specs.Programs.{data_bytes, guest_program}
use Rattle.guest_programs.specs.Steps.{slots_of}
use Rattle.guest_programs.proofs.GuestCode.{assembler_of, code_of_words, list_words}

abbrev pub listing : Setting
listing = record {
  program = guest_program (code_of_words list_words) (data_bytes (assembler_of Lists list_words) 1);
  limits = record { harts = 1; frames = 4096; steps = 200 };
}

-- the areas of the second thread, which pushes, and of the first, which pops
abbrev pub push_area : Area
push_area = record { at = 0x30400; sig = 0xF1401073 }

abbrev pub pop_area : Area
pop_area = record { at = 0x30000; sig = 0xF1401073 }

abbrev pub push_slots : Slots
push_slots = slots_of 0x20020

abbrev pub pop_slots : Slots
pop_slots = slots_of 0x20040

abbrev pub push : Use
push = record (use_of push_form push_tested push_slots 0x101E4) { area = push_area; thread = 2 }

abbrev pub pop : Use
pop = record (use_of pop_form pop_tested pop_slots 0x10170) { area = pop_area }

-- the blocks as the other thread has them, with its area
abbrev pub the_push : Placed
the_push = placed_of push.form push.at pop_area

abbrev pub the_pop : Placed
the_pop = placed_of pop.form pop.at push_area

-- the first thread is preempted once it has started the second, and that pushes a node and exits; the first
-- goes on, pushes a node as well, waits for nobody, keeps to processor 0, and goes on up to the post-commit
-- address of the pop block
abbrev pub log : List Entry
log =
    entry kind.Run 1 0x10000 ∷ walk 0x10000 2 ++ walk 0x10020 9 ++ walk 0x10008 6 ++ walk 0x10150 2
    ++ walk 0x10044 11 ++ entry kind.Preempt 1 0x10070 ∷ entry kind.Run 2 0x10070 ∷ entry kind.Exec 2 0x10070
    ∷ entry kind.Exec 2 0x10080 ∷ walk_of 2 0x10020 9 ++ entry kind.Exec 2 0x10084 ∷ entry kind.Exec 2 0x101C8
    ∷ walk_of 2 0x101D0 17 ++ walk_of 2 0x1021C 4 ++ entry kind.Exec 2 0x101CC ∷ walk_of 2 0x100C0 2
    ++ entry kind.Drain 2 0x100C8 ∷ entry kind.Drain 2 0x100C8 ∷ entry kind.Drain 2 0x100C8
    ∷ entry kind.Exec 2 0x100C8 ∷ entry kind.Run 1 0x10070 ∷ walk 0x10070 4 ++ entry kind.Exec 1 0x10158
    ∷ walk 0x101D0 17 ++ walk 0x1021C 4 ++ entry kind.Exec 1 0x1015C ∷ walk 0x10088 5 ++ walk 0x100B4 3
    ++ walk 0x10160 3 ++ walk 0x10134 5 ++ entry kind.Drain 1 0x10148 ∷ entry kind.Drain 1 0x10148
    ∷ entry kind.Drain 1 0x10148 ∷ entry kind.Drain 1 0x10148 ∷ walk 0x10148 2 ++ walk 0x1016C 13

is_allowed : all_decided listing (history listing log) ≡ true
unfolding by_rules
is_allowed = refl

is_run : IsBlockRun listing log
is_run = run_found listing log is_allowed

push_there : AreThere (code_of listing.program.pages) push.at push.form.words
unfolding by_table
push_there = (refl, (refl, (refl, (refl, (refl, (refl, (refl, (refl, (refl, (refl, (refl, (refl, (refl, (refl, tt))))))))))))))

pop_there : AreThere (code_of listing.program.pages) pop.at pop.form.words
unfolding by_table
pop_there = (refl, (refl, (refl, (refl, (refl, (refl, (refl, (refl, (refl, (refl, (refl, (refl, (refl, (refl, (refl, tt)))))))))))))))

-- the push of the second thread: the cell is the node
abbrev pub is_pushed : Sequence → Bool
is_pushed q =
    is_just (cell_seen listing 0 (cells_of listing push_slots q.thread q.begun) q.reached)
    (node_of listing push_slots q.thread q.begun)

pub pushes_well : IsGood listing log 62 push (the_pop ∷ []) is_pushed
unfolding by_rules
pushes_well = found_good listing log is_run 62 push (the_pop ∷ []) is_pushed refl refl push_there refl

-- the pop of the first thread: the value is the cell, its own node, and the cell becomes the node of the
-- second
abbrev pub is_popped : Sequence → Bool
is_popped q =
    is_just (cell_seen listing 0 (cells_of listing pop_slots q.thread q.begun) q.begun) 0x40000
    && (eqb (node_of listing pop_slots q.thread q.reached) 0x40000
    && is_just (cell_seen listing 0 (cells_of listing pop_slots q.thread q.begun) q.reached) 0x44000)

pub pops_well : IsGood listing log 137 pop (the_push ∷ []) is_popped
unfolding by_rules
pops_well = found_good listing log is_run 137 pop (the_push ∷ []) is_popped refl refl pop_there refl
