-- A worked log, by computation: two readers, each with a slot, and a thread that makes two grace periods. In
-- the first it finds the first reader in its section, and is interrupted in its loop by a signal, whose
-- handler only returns; the second reader begins a section by the new counter, for which it doesn't wait. In
-- the second no reader is in a section, but the second reader's unlock has stored a 0 that waits when the
-- thread calls membarrier.
use Rattle.std.proofs.Common.{◌≡◌, ℕ, ◌+◌, ◌≤◌, List, [], ◌∷◌, ◌++◌, ◌⊎◌, inl, inr, refl, ap, ◌∙◌}
use Rattle.std.proofs.Common.{arith, true, fold, replicate, subst, take, Ok}
use Rattle.mach_types.specs.Kernel.Barriers.{asked as command_asked}
use Rattle.mach_types.specs.Registers.{register}
use Rattle.mach_types.specs.declared.events.Choice.TheVariants as asked
use Rattle.mach_types.specs.declared.events.Entry.{Entry}
use Rattle.mach_types.specs.declared.events.Kind.TheVariants as kind
use Rattle.block_model.specs.Deciding.{history}
use Rattle.block_model.specs.History.{Event, file}
use Rattle.block_model.specs.Replay.{Ask, play_line, played}
use Rattle.block_model.specs.Run.{IsBlockRun}
use Rattle.block_model.specs.Setting.{Setting}
use Rattle.block_model.proofs.Laws.{played_is_run}
use Rattle.percpu_lib.proofs.Computing.{by_rules, by_signals, by_table}
use Rattle.urcu_lib.specs.Blocks.{Urcu}
use Rattle.urcu_lib.specs.Stretch.{IsPassing, Runs}
use Rattle.urcu_lib.specs.declared.regs.ReadRegs.{ReadRegs}
use Rattle.urcu_lib.proofs.ExampleParts.{AreLaid, IsWorked, entry, execs, line, played_on, reads_so}
use Rattle.urcu_lib.proofs.ExampleParts.{until_lock, walk, worked}
use Rattle.urcu_lib.proofs.RunTests.{all_go_on, executed_in, runs_so}
use Rattle.urcu_lib.proofs.UseExample.{are_sync, sync_regs}
use Rattle.urcu_lib.proofs.UseTests.{Layout, is_file, saved_is, urcu_of}

-- The first thread registers for membarrier, starts the readers, sets the handler of SIGUSR1 and sends itself
-- the signal. From 0x10064 on stands the sync block, behind it a jump back to it and the handler, `jalr x0,
-- 0(x1)`, and at 0x100B0 the lock block and the unlock block. The counter is at 0x20000, the action behind
-- it, the slots at 0x20040 and 0x20080
abbrev code : List ℕ
code =
    0x37 ∷ 0x04 ∷ 0x02 ∷ 0x00 ∷ 0x93 ∷ 0x04 ∷ 0x04 ∷ 0x04 ∷ 0x13 ∷ 0x05 ∷ 0x00 ∷ 0x01 ∷ 0x93 ∷ 0x08 ∷ 0xB0
    ∷ 0x11 ∷ 0x73 ∷ 0x00 ∷ 0x00 ∷ 0x00 ∷ 0x93 ∷ 0x89 ∷ 0x04 ∷ 0x00 ∷ 0x37 ∷ 0x15 ∷ 0x01 ∷ 0x00 ∷ 0x13 ∷ 0x05
    ∷ 0x05 ∷ 0xF0 ∷ 0x93 ∷ 0x08 ∷ 0xC0 ∷ 0x0D ∷ 0x73 ∷ 0x00 ∷ 0x00 ∷ 0x00 ∷ 0x63 ∷ 0x04 ∷ 0x05 ∷ 0x08 ∷ 0x93
    ∷ 0x89 ∷ 0x04 ∷ 0x04 ∷ 0x37 ∷ 0x15 ∷ 0x01 ∷ 0x00 ∷ 0x13 ∷ 0x05 ∷ 0x05 ∷ 0xF0 ∷ 0x73 ∷ 0x00 ∷ 0x00 ∷ 0x00
    ∷ 0x63 ∷ 0x0A ∷ 0x05 ∷ 0x06 ∷ 0x13 ∷ 0x05 ∷ 0xA0 ∷ 0x00 ∷ 0x93 ∷ 0x05 ∷ 0x84 ∷ 0x00 ∷ 0x93 ∷ 0x06 ∷ 0x80
    ∷ 0x00 ∷ 0x93 ∷ 0x08 ∷ 0x60 ∷ 0x08 ∷ 0x73 ∷ 0x00 ∷ 0x00 ∷ 0x00 ∷ 0x13 ∷ 0x05 ∷ 0x10 ∷ 0x00 ∷ 0x93 ∷ 0x05
    ∷ 0xA0 ∷ 0x00 ∷ 0x93 ∷ 0x08 ∷ 0x20 ∷ 0x08 ∷ 0x73 ∷ 0x00 ∷ 0x00 ∷ 0x00 ∷ 0x13 ∷ 0x05 ∷ 0x80 ∷ 0x00 ∷ 0x93
    ∷ 0x05 ∷ 0x00 ∷ 0x00 ∷ 0x13 ∷ 0x06 ∷ 0x00 ∷ 0x00 ∷ 0x93 ∷ 0x08 ∷ 0xB0 ∷ 0x11 ∷ 0x73 ∷ 0x00 ∷ 0x00 ∷ 0x00
    ∷ 0x83 ∷ 0x32 ∷ 0x04 ∷ 0x00 ∷ 0x93 ∷ 0x82 ∷ 0x12 ∷ 0x00 ∷ 0x23 ∷ 0x30 ∷ 0x54 ∷ 0x00 ∷ 0x13 ∷ 0x83 ∷ 0x04
    ∷ 0x00 ∷ 0x93 ∷ 0x03 ∷ 0x20 ∷ 0x00 ∷ 0x03 ∷ 0x35 ∷ 0x03 ∷ 0x00 ∷ 0x63 ∷ 0x04 ∷ 0x05 ∷ 0x00 ∷ 0xE3 ∷ 0x6C
    ∷ 0x55 ∷ 0xFE ∷ 0x13 ∷ 0x03 ∷ 0x03 ∷ 0x04 ∷ 0x93 ∷ 0x83 ∷ 0xF3 ∷ 0xFF ∷ 0xE3 ∷ 0x96 ∷ 0x03 ∷ 0xFE ∷ 0x13
    ∷ 0x05 ∷ 0x00 ∷ 0x00 ∷ 0x6F ∷ 0xF0 ∷ 0xDF ∷ 0xFB ∷ 0x67 ∷ 0x80 ∷ 0x00 ∷ 0x00 ∷ 0x03 ∷ 0x39 ∷ 0x04 ∷ 0x00
    ∷ 0x23 ∷ 0xB0 ∷ 0x29 ∷ 0x01 ∷ 0x23 ∷ 0xB0 ∷ 0x09 ∷ 0x00 ∷ []

abbrev pub waiting : Setting
waiting = record {
  program = record {
    pages = record { number = 0x10; perm = 5; bytes = code }
        ∷ record { number = 0x20; perm = 6; bytes = 1 ∷ (replicate 7 0 ++ 0xAC ∷ 0x00 ∷ 0x01 ∷ []) } ∷ [];
    entry = 0x10000;
    phdr = 0;
    phnum = 2;
    break_at = 0x21000;
  };
  limits = record { harts = 3; frames = 128; steps = 200 };
}

abbrev read_regs : ReadRegs
read_regs = record { gp = 8; slot = 19; scratch = 18 }

abbrev layout : Layout
layout = record {
  words = record { counter = 0x20000; slots = 0x20040; readers = 2; reader = λ i. i + 2 };
  reads = record { lock_at = 0x100B0; unlock_at = 0x100B8; lock = read_regs };
  waits = record { sync_at = 0x10064; sync = sync_regs };
}

abbrev pub urcu : Urcu
urcu = urcu_of layout

-- up to the store of the first reader's lock; up to the first call; up to the signal, where the thread has
-- loaded a slot; up to the handler's return; up to the last instruction of the block; up to its first one; up
-- to the second call; up to the last instruction again; and two instructions more
abbrev pub first : List Entry
first = until_lock 25 0x10028 0x100B0

abbrev pub lock_entry : Entry
lock_entry = entry 1 kind.Exec 2 0x100B4

abbrev pub second : List Entry
second = entry 2 kind.Run 3 0x1003C ∷ entry 2 kind.Exec 3 0x1003C ∷ walk 0 1 0x10064 4

abbrev pub call_entry : Entry
call_entry = entry 0 kind.Exec 1 0x10074

abbrev pub third : List Entry
third =
    entry 1 kind.Drain 2 0x100B8 ∷ entry 1 kind.Take 2 0x100B8 ∷ entry 2 kind.Take 3 0x100B0
    ∷ entry 0 kind.Done 1 0x10078 ∷ walk 0 1 0x10078 8 ++ entry 0 kind.Drain 1 0x1008C ∷ []

abbrev pub signal_entry : Entry
signal_entry = entry 0 kind.Signal 1 0x1008C

abbrev pub fourth : List Entry
fourth = entry 0 kind.Exec 1 0x100AC ∷ entry 0 kind.Exec 1 0x3FFFFF0000 ∷ []

abbrev pub back_entry : Entry
back_entry = entry 0 kind.Exec 1 0x3FFFFF0004

abbrev pub fifth : List Entry
fifth =
    walk 2 3 0x100B0 2 ++ entry 2 kind.Drain 3 0x100B8 ∷ entry 1 kind.Exec 2 0x100B8
    ∷ entry 1 kind.Drain 2 0x100BC ∷ walk 0 1 0x1008C 2 ++ walk 0 1 0x10098 3 ++ walk 0 1 0x1008C 6

abbrev pub last_entry : Entry
last_entry = entry 0 kind.Exec 1 0x100A4

abbrev pub sixth : List Entry
sixth = entry 2 kind.Exec 3 0x100B8 ∷ entry 0 kind.Exec 1 0x100A8 ∷ []

abbrev pub seventh : List Entry
seventh = walk 0 1 0x10064 4

abbrev pub again_entry : Entry
again_entry = call_entry

abbrev pub eighth : List Entry
eighth =
    entry 1 kind.Take 2 0x100BC ∷ entry 2 kind.Drain 3 0x100BC ∷ entry 2 kind.Take 3 0x100BC
    ∷ entry 0 kind.Done 1 0x10078 ∷ walk 0 1 0x10078 7 ++ walk 0 1 0x10098 3 ++ walk 0 1 0x1008C 2
    ++ walk 0 1 0x10098 3

abbrev pub over_entry : Entry
over_entry = last_entry

abbrev pub ninth : List Entry
ninth = entry 0 kind.Exec 1 0x100A8 ∷ entry 0 kind.Exec 1 0x10064 ∷ []

-- the places between
abbrev pub begun : List Entry
begun = first ++ lock_entry ∷ second

abbrev pub in_loop : List Entry
in_loop = begun ++ call_entry ∷ third

abbrev pub come_back : List Entry
come_back = in_loop ++ signal_entry ∷ (fourth ++ back_entry ∷ [])

abbrev pub waited : List Entry
waited = come_back ++ fifth

abbrev pub at_start : List Entry
at_start = waited ++ last_entry ∷ sixth

abbrev pub called_again : List Entry
called_again = at_start ++ seventh

abbrev pub to_over : List Entry
to_over = called_again ++ again_entry ∷ eighth

abbrev pub log : List Entry
log = to_over ++ over_entry ∷ ninth

-- the script is played in parts, each from the log that the parts before it make

abbrev to_call : List Ask
to_call =
    line 0 (asked.Run (record { 0 = 1 }))
    ∷ (execs 0 25
    ++ (line 1 (asked.Run (record { 0 = 2 }))
    ∷ (execs 1 3 ++ (line 2 (asked.Run (record { 0 = 3 })) ∷ (execs 2 1 ++ execs 0 5)))))

abbrev to_return : List Ask
to_return =
    line 1 asked.Drain
    ∷ line 1 asked.Take
    ∷ line 2 asked.Take
    ∷ line 0 asked.Done
    ∷ (execs 0 8 ++ (line 0 asked.Drain ∷ line 0 asked.Signal ∷ execs 0 3))

abbrev to_second_call : List Ask
to_second_call =
    execs 2 2
    ++ (line 2 asked.Drain ∷ line 1 asked.Exec ∷ line 1 asked.Drain ∷ (execs 0 12 ++
    (execs 2 1 ++ execs 0 6)))

abbrev to_end : List Ask
to_end = line 1 asked.Take ∷ line 2 asked.Drain ∷ line 2 asked.Take ∷ line 0 asked.Done ∷ execs 0 18

abbrev lines : List Ask
lines = to_call ++ (to_return ++ (to_second_call ++ to_end))

to_call_played : fold (play_line waiting) (Ok []) to_call ≡ Ok (begun ++ call_entry ∷ [])
unfolding by_rules command_asked by_signals
to_call_played = refl

to_return_played : fold (play_line waiting) (Ok (begun ++ call_entry ∷ [])) to_return ≡ Ok come_back
unfolding by_rules command_asked by_signals
to_return_played = refl

to_second_call_played : fold (play_line waiting) (Ok come_back) to_second_call
    ≡ Ok (called_again ++ again_entry ∷ [])
unfolding by_rules command_asked by_signals
to_second_call_played = refl

to_end_played : fold (play_line waiting) (Ok (called_again ++ again_entry ∷ [])) to_end ≡ Ok log
unfolding by_rules command_asked by_signals
to_end_played = refl

is_played : played waiting lines ≡ Ok log
unfolding played
is_played =
    played_on waiting to_call (to_return ++ (to_second_call ++ to_end)) (Ok [])
    ∙ ap (λ r. fold (play_line waiting) r (to_return ++ (to_second_call ++ to_end))) to_call_played
    ∙ played_on waiting to_return (to_second_call ++ to_end) (Ok (begun ++ call_entry ∷ []))
    ∙ ap (λ r. fold (play_line waiting) r (to_second_call ++ to_end)) to_return_played
    ∙ played_on waiting to_second_call to_end (Ok come_back)
    ∙ ap (λ r. fold (play_line waiting) r to_end) to_second_call_played
    ∙ to_end_played

pub is_run : IsBlockRun waiting log
is_run = (played_is_run waiting lines log is_played).0

there : AreLaid waiting layout
unfolding by_table
there = ((refl, (refl, tt)), (refl, tt), (refl, (refl, (refl, (refl, (refl, (refl, (refl, (refl, (refl, (refl, (refl, (refl, (refl, (refl, (refl, (refl, (refl, tt))))))))))))))))))

pub its : IsWorked waiting layout first lock_entry log
unfolding by_rules command_asked by_signals
its =
    worked waiting layout first lock_entry log there (reads_so read_regs refl) are_sync refl refl refl refl refl

-- in the loop the thread has loaded 1, which is below the new counter; and it comes back to there as it was
pub at_load : (file waiting 1 (history waiting in_loop)).pc ≡ 0x1008C
unfolding by_rules command_asked by_signals
at_load = refl

loaded : register (file waiting 1 (history waiting in_loop)).file 10 ≡ 1
unfolding by_rules command_asked by_signals
loaded = refl

counter : register (file waiting 1 (history waiting in_loop)).file 5 ≡ 2
unfolding by_rules command_asked by_signals
counter = refl

pub fails : IsPassing (file waiting 1 (history waiting in_loop)).file → ⊥
fails passing = no_pass passing
  where
    no_pass : (register (file waiting 1 (history waiting in_loop)).file 10 ≡ 0)
        ⊎ (register (file waiting 1 (history waiting in_loop)).file 5
        ≤ register (file waiting 1 (history waiting in_loop)).file 10) → ⊥
    no_pass (inl none) = let one = loaded in omega arith
    no_pass (inr low) = let one = loaded in let two = counter in omega arith

is_so : is_file (file waiting 1 (history waiting come_back)) (file waiting 1 (history waiting in_loop)) ≡ true
unfolding by_rules command_asked by_signals
is_so = refl

pub comes_back : file waiting 1 (history waiting come_back) ≡ file waiting 1 (history waiting in_loop)
comes_back =
    saved_is (file waiting 1 (history waiting come_back)) (file waiting 1 (history waiting in_loop)) is_so

-- from the block's first instruction on it then executes 23 instructions undisturbed, and each of its loads
-- passes
pub starts : (file waiting 1 (history waiting at_start)).pc ≡ 0x10064
unfolding by_rules command_asked by_signals
starts = refl

abbrev since : List Event
since = take 27 (history waiting log)

are_since : since ++ history waiting at_start ≡ history waiting log
unfolding by_rules command_asked by_signals
are_since = refl

all_go : all_go_on waiting 0x10064 1 since (history waiting at_start) ≡ true
unfolding by_rules command_asked by_signals
all_go = refl

counts : executed_in waiting 0x10064 1 since ≡ 23
unfolding by_rules command_asked by_signals
counts = refl

pub runs : Runs waiting 0x10064 1 (history waiting at_start) (history waiting log) 23
runs =
    subst (λ n. Runs waiting 0x10064 1 (history waiting at_start) (history waiting log) n) counts
    (subst (λ h. Runs waiting 0x10064 1 (history waiting at_start) h
    (executed_in waiting 0x10064 1 since)) are_since
    (runs_so waiting 0x10064 1 since (history waiting at_start) all_go))
