-- A log of the guest urcu for the size 1, by computation: a reader has locked and is preempted in its
-- section; the first thread lets the pointer lead to the other node, calls membarrier, and finds the reader's
-- slot in use; the reader unlocks; and the sync block ends. The guest uses the blocks as HoldsUrcu asks.
use Rattle.std.proofs.Common.{◌≡◌, ◌+◌, List, [], ◌∷◌, ◌++◌, refl, ap}
use Rattle.std.proofs.Common.{◌∙◌}
use Rattle.std.proofs.Common.{fold, Ok}
use Rattle.mach_types.specs.Kernel.Barriers.{asked as command_asked}
use Rattle.mach_types.specs.declared.events.Choice.TheVariants as asked
use Rattle.mach_types.specs.declared.events.Entry.{Entry}
use Rattle.mach_types.specs.declared.events.Kind.TheVariants as kind
use Rattle.block_model.specs.Replay.{Ask, play_line, played}
use Rattle.block_model.specs.Run.{IsBlockRun}
use Rattle.block_model.specs.Setting.{Setting}
use Rattle.block_model.proofs.Laws.{played_is_run}
use Rattle.percpu_lib.proofs.Computing.{by_rules, by_table}
use Rattle.percpu_lib.proofs.ExampleParts.{entry, execs, line, walk, walk_of}
use Rattle.urcu_lib.specs.Blocks.{Urcu}
use Rattle.urcu_lib.specs.declared.regs.SyncRegs.{SyncRegs}
use Rattle.urcu_lib.proofs.ExampleParts.{AreLaid, IsWorked, played_on, worked}
use Rattle.urcu_lib.proofs.UseTests.{Layout, urcu_of}
use Rattle.guest_names.specs.declared.names.Name.TheVariants.{Urcu as UrcuGuest}
use Rattle.guest_programs.specs.Programs.{data_bytes, guest_program}
use Rattle.guest_programs.proofs.Blocks.{are_reading, are_waiting, reading, waiting}
use Rattle.guest_programs.proofs.GuestCode.{assembler_of, code_of_words, urcu_words}

abbrev pub exchanging : Setting
exchanging = record {
  program = guest_program (code_of_words urcu_words) (data_bytes (assembler_of UrcuGuest urcu_words) 1);
  limits = record { harts = 1; frames = 4096; steps = 200 };
}

abbrev pub layout : Layout
layout = record {
  words = record { counter = 0x20008; slots = 0x21040; readers = 3; reader = λ i. i + 2 };
  reads = record { lock_at = 0x10214; unlock_at = 0x10224; lock = reading };
  waits = record { sync_at = 0x1019C; sync = waiting };
}

abbrev pub waits : SyncRegs
waits = waiting

abbrev pub urcu : Urcu
urcu = urcu_of layout

there : AreLaid exchanging layout
unfolding by_table
there = ((refl, (refl, tt)), (refl, tt), (refl, (refl, (refl, (refl, (refl, (refl, (refl, (refl, (refl, (refl, (refl, (refl, (refl, (refl, (refl, (refl, (refl, tt))))))))))))))))))

abbrev lines_one : List Ask
lines_one = line (asked.Run (record { 0 = 1 })) ∷ execs 29 ++ line asked.Drain ∷ line asked.Drain ∷ execs 30

abbrev lines_two : List Ask
lines_two =
    execs 16 ++ line asked.Drain ∷ line asked.Drain ∷ line asked.Preempt ∷ line (asked.Run (record { 0 = 2 }))
    ∷ execs 2

abbrev lines_three : List Ask
lines_three = execs 18

abbrev lines_four : List Ask
lines_four =
    line asked.Exec ∷ line asked.Drain ∷ line asked.Preempt ∷ line (asked.Run (record { 0 = 1 })) ∷ execs 11

abbrev lines_five : List Ask
lines_five =
    execs 2 ++ line asked.Drain ∷ line asked.Preempt ∷ line (asked.Run (record { 0 = 2 })) ∷ line asked.Exec
    ∷ line asked.Drain ∷ line asked.Preempt ∷ line (asked.Run (record { 0 = 1 })) ∷ execs 4

abbrev lines_six : List Ask
lines_six = execs 12

abbrev lines : List Ask
lines = lines_one ++ (lines_two ++ (lines_three ++ (lines_four ++ (lines_five ++ (lines_six)))))

-- up to the store of lock; up to the call; and up to the last instruction of the sync block
abbrev pub first : List Entry
first =
    entry kind.Run 1 0x10000 ∷ walk 0x10000 2 ++ walk 0x10020 9 ++ walk 0x10008 6 ++ walk 0x10150 12
    ++ entry kind.Drain 1 0x10180 ∷ entry kind.Drain 1 0x10180 ∷ walk 0x10180 2 ++ walk 0x10044 14
    ++ walk 0x1004C 12 ++ walk 0x1004C 13 ++ walk 0x10188 5 ++ entry kind.Drain 1 0x1019C
    ∷ entry kind.Drain 1 0x1019C ∷ entry kind.Preempt 1 0x1019C ∷ entry kind.Run 2 0x10070
    ∷ entry kind.Exec 2 0x10070 ∷ entry kind.Exec 2 0x10080 ∷ walk_of 2 0x10020 9 ++ entry kind.Exec 2 0x10084
    ∷ walk_of 2 0x10200 6

abbrev pub lock_entry : Entry
lock_entry = entry kind.Exec 2 0x10218

abbrev pub second : List Entry
second =
    walk_of 2 0x1021C 2 ++ entry kind.Drain 2 0x10224 ∷ entry kind.Preempt 2 0x10224
    ∷ entry kind.Run 1 0x1019C ∷ walk 0x1019C 4

abbrev pub call_entry : Entry
call_entry = entry kind.Exec 1 0x101AC

abbrev pub third : List Entry
third =
    walk 0x101B0 8 ++ entry kind.Drain 1 0x101C4 ∷ entry kind.Preempt 1 0x101C4 ∷ entry kind.Run 2 0x10224
    ∷ entry kind.Exec 2 0x10224 ∷ entry kind.Drain 2 0x10228 ∷ entry kind.Preempt 2 0x10228
    ∷ entry kind.Run 1 0x101C4 ∷ walk 0x101C4 2 ++ walk 0x101D0 3 ++ walk 0x101C4 2 ++ walk 0x101D0 3
    ++ walk 0x101C4 2 ++ walk 0x101D0 3

abbrev pub last_entry : Entry
last_entry = entry kind.Exec 1 0x101DC

abbrev pub log : List Entry
log = first ++ lock_entry ∷ (second ++ call_entry ∷ (third ++ last_entry ∷ []))

-- the script is played in parts, each from the log that the parts before it make
abbrev log_one : List Entry
log_one =
    entry kind.Run 1 0x10000 ∷ walk 0x10000 2 ++ walk 0x10020 9 ++ walk 0x10008 6 ++ walk 0x10150 12
    ++ entry kind.Drain 1 0x10180 ∷ entry kind.Drain 1 0x10180 ∷ walk 0x10180 2 ++ walk 0x10044 14
    ++ walk 0x1004C 12 ++ walk 0x1004C 2

part_one : fold (play_line exchanging) (Ok []) lines_one ≡ Ok log_one
unfolding by_rules command_asked
part_one = refl

abbrev log_two : List Entry
log_two =
    log_one ++ (walk 0x10054 11 ++ walk 0x10188 5 ++ entry kind.Drain 1 0x1019C ∷ entry kind.Drain 1 0x1019C
    ∷ entry kind.Preempt 1 0x1019C ∷ entry kind.Run 2 0x10070 ∷ entry kind.Exec 2 0x10070
    ∷ entry kind.Exec 2 0x10080 ∷ [])

part_two : fold (play_line exchanging) (Ok log_one) lines_two ≡ Ok log_two
unfolding by_rules command_asked
part_two = refl

abbrev log_three : List Entry
log_three =
    log_two ++ (walk_of 2 0x10020 9 ++ entry kind.Exec 2 0x10084 ∷ walk_of 2 0x10200 8)

part_three : fold (play_line exchanging) (Ok log_two) lines_three ≡ Ok log_three
unfolding by_rules command_asked
part_three = refl

abbrev log_four : List Entry
log_four =
    log_three ++ (entry kind.Exec 2 0x10220 ∷ entry kind.Drain 2 0x10224 ∷ entry kind.Preempt 2 0x10224
    ∷ entry kind.Run 1 0x1019C ∷ walk 0x1019C 11)

part_four : fold (play_line exchanging) (Ok log_three) lines_four ≡ Ok log_four
unfolding by_rules command_asked
part_four = refl

abbrev log_five : List Entry
log_five =
    log_four ++ (walk 0x101C8 2 ++ entry kind.Drain 1 0x101C4 ∷ entry kind.Preempt 1 0x101C4
    ∷ entry kind.Run 2 0x10224 ∷ entry kind.Exec 2 0x10224 ∷ entry kind.Drain 2 0x10228
    ∷ entry kind.Preempt 2 0x10228 ∷ entry kind.Run 1 0x101C4 ∷ walk 0x101C4 2 ++ walk 0x101D0 2)

part_five : fold (play_line exchanging) (Ok log_four) lines_five ≡ Ok log_five
unfolding by_rules command_asked
part_five = refl

part_six : fold (play_line exchanging) (Ok log_five) lines_six ≡ Ok log
unfolding by_rules command_asked
part_six = refl

is_played : played exchanging lines ≡ Ok log
unfolding played
is_played =
    played_on exchanging lines_one (lines_two ++ (lines_three ++ (lines_four ++ (lines_five ++
    (lines_six))))) (Ok [])
    ∙ ap (λ r. fold (play_line exchanging) r (lines_two ++ (lines_three ++ (lines_four ++ (lines_five ++
    (lines_six)))))) part_one
    ∙ played_on exchanging lines_two (lines_three ++ (lines_four ++ (lines_five ++ (lines_six)))) (Ok log_one)
    ∙ ap (λ r. fold (play_line exchanging) r (lines_three ++ (lines_four ++ (lines_five ++
    (lines_six))))) part_two
    ∙ played_on exchanging lines_three (lines_four ++ (lines_five ++ (lines_six))) (Ok log_two)
    ∙ ap (λ r. fold (play_line exchanging) r (lines_four ++ (lines_five ++ (lines_six)))) part_three
    ∙ played_on exchanging lines_four (lines_five ++ (lines_six)) (Ok log_three)
    ∙ ap (λ r. fold (play_line exchanging) r (lines_five ++ (lines_six))) part_four
    ∙ played_on exchanging lines_five (lines_six) (Ok log_four)
    ∙ ap (λ r. fold (play_line exchanging) r (lines_six)) part_five
    ∙ part_six

pub is_run : IsBlockRun exchanging log
is_run = (played_is_run exchanging lines log is_played).0

pub its : IsWorked exchanging layout first lock_entry log
unfolding played by_rules command_asked
its = worked exchanging layout first lock_entry log there are_reading are_waiting refl refl refl refl refl
