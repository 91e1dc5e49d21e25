-- A worked log, by computation: a thread registers for membarrier and starts another, which is a reader. The
-- reader's lock has stored the counter in its slot, but the store waits, when the first thread calls
-- membarrier in a sync block. The store enters memory before the call returns; the sync block finds it there
-- twice, then finds 0, and ends. The program uses the blocks as HoldsUrcu asks.
use Rattle.std.proofs.Common.{◌≡◌, ℕ, ◌<◌, List, [], ◌∷◌, ◌++◌, refl, arith, Ok}
use Rattle.std.proofs.lemmas.Bool.{eqb-false, ltb-true}
use Rattle.mach_types.specs.Kernel.Barriers.{asked as command_asked}
use Rattle.mach_types.specs.declared.events.Choice.TheVariants as asked
use Rattle.mach_types.specs.declared.events.Entry.{Entry}
use Rattle.mach_types.specs.declared.events.Kind.TheVariants as kind
use Rattle.block_model.specs.Replay.{Ask, played}
use Rattle.block_model.specs.Run.{IsBlockRun}
use Rattle.block_model.specs.Setting.{Setting}
use Rattle.block_model.proofs.Laws.{played_is_run}
use Rattle.percpu_lib.proofs.Computing.{by_rules, by_table}
use Rattle.urcu_lib.specs.Blocks.{Urcu}
use Rattle.urcu_lib.specs.Registers.{AreSyncRegs, IsKept}
use Rattle.urcu_lib.specs.declared.regs.ReadRegs.{ReadRegs}
use Rattle.urcu_lib.specs.declared.regs.SyncRegs.{SyncRegs}
use Rattle.urcu_lib.proofs.ExampleParts.{AreLaid, IsWorked, entry, execs, is_register, line, reads_so, walk}
use Rattle.urcu_lib.proofs.ExampleParts.{until_lock, worked}
use Rattle.urcu_lib.proofs.UseTests.{Layout, urcu_of}

-- `lui x8, 0x20`, `addi x9, x8, 64`; membarrier(16, 0); clone; the child goes to 0x10074. From 0x10030 on the
-- sync block; at 0x10074 the lock block, at 0x1007C the unlock block. The counter is at 0x20000, the slot at
-- 0x20040
abbrev code : List ℕ
code =
    0x37 ∷ 0x04 ∷ 0x02 ∷ 0x00 ∷ 0x93 ∷ 0x04 ∷ 0x04 ∷ 0x04 ∷ 0x13 ∷ 0x05 ∷ 0x00 ∷ 0x01 ∷ 0x93 ∷ 0x05 ∷ 0x00
    ∷ 0x00
    ∷ 0x93 ∷ 0x08 ∷ 0xB0 ∷ 0x11 ∷ 0x73 ∷ 0x00 ∷ 0x00 ∷ 0x00 ∷ 0x37 ∷ 0x15 ∷ 0x01 ∷ 0x00 ∷ 0x13 ∷ 0x05 ∷ 0x05
    ∷ 0xF0
    ∷ 0x93 ∷ 0x05 ∷ 0x00 ∷ 0x00 ∷ 0x93 ∷ 0x08 ∷ 0xC0 ∷ 0x0D ∷ 0x73 ∷ 0x00 ∷ 0x00 ∷ 0x00 ∷ 0x63 ∷ 0x04 ∷ 0x05
    ∷ 0x04
    ∷ 0x13 ∷ 0x05 ∷ 0x80 ∷ 0x00 ∷ 0x93 ∷ 0x05 ∷ 0x00 ∷ 0x00 ∷ 0x13 ∷ 0x06 ∷ 0x00 ∷ 0x00 ∷ 0x93 ∷ 0x08 ∷ 0xB0
    ∷ 0x11
    ∷ 0x73 ∷ 0x00 ∷ 0x00 ∷ 0x00 ∷ 0x83 ∷ 0x32 ∷ 0x04 ∷ 0x00 ∷ 0x93 ∷ 0x82 ∷ 0x12 ∷ 0x00 ∷ 0x23 ∷ 0x30 ∷ 0x54
    ∷ 0x00
    ∷ 0x13 ∷ 0x83 ∷ 0x04 ∷ 0x00 ∷ 0x93 ∷ 0x03 ∷ 0x10 ∷ 0x00 ∷ 0x03 ∷ 0x35 ∷ 0x03 ∷ 0x00 ∷ 0x63 ∷ 0x04 ∷ 0x05
    ∷ 0x00
    ∷ 0xE3 ∷ 0x6C ∷ 0x55 ∷ 0xFE ∷ 0x13 ∷ 0x03 ∷ 0x03 ∷ 0x04 ∷ 0x93 ∷ 0x83 ∷ 0xF3 ∷ 0xFF ∷ 0xE3 ∷ 0x96 ∷ 0x03
    ∷ 0xFE
    ∷ 0x13 ∷ 0x05 ∷ 0x00 ∷ 0x00 ∷ 0x03 ∷ 0x39 ∷ 0x04 ∷ 0x00 ∷ 0x23 ∷ 0xB0 ∷ 0x24 ∷ 0x01 ∷ 0x23 ∷ 0xB0 ∷ 0x04
    ∷ 0x00 ∷ []

abbrev pub reading : Setting
reading = record {
  program = record {
    pages = record { number = 0x10; perm = 5; bytes = code }
        ∷ record { number = 0x20; perm = 6; bytes = 1 ∷ [] } ∷ [];
    entry = 0x10000;
    phdr = 0;
    phnum = 2;
    break_at = 0x21000;
  };
  limits = record { harts = 2; frames = 128; steps = 200 };
}

abbrev pub read_regs : ReadRegs
read_regs = record { gp = 8; slot = 9; scratch = 18 }

abbrev pub sync_regs : SyncRegs
sync_regs = record { gp = 8; slots = 9 }

abbrev pub layout : Layout
layout = record {
  words = record { counter = 0x20000; slots = 0x20040; readers = 1; reader = λ i. 2 };
  reads = record { lock_at = 0x10074; unlock_at = 0x1007C; lock = read_regs };
  waits = record { sync_at = 0x10030; sync = sync_regs };
}

abbrev pub urcu : Urcu
urcu = urcu_of layout

abbrev lines : List Ask
lines =
    line 0 (asked.Run (record { 0 = 1 })) ∷ execs 0 11 ++ line 1 (asked.Run (record { 0 = 2 })) ∷ execs 1 3
    ++ execs 0 6 ++ line 1 asked.Drain ∷ line 1 asked.Take ∷ line 0 asked.Done ∷ execs 0 8
    ++ line 1 asked.Exec ∷ execs 0 3 ++ line 1 asked.Drain ∷ execs 0 6

-- up to the store of lock; up to the call; and up to the last instruction of the sync block
abbrev pub first : List Entry
first = until_lock 11 0x1002C 0x10074

abbrev pub lock_entry : Entry
lock_entry = entry 1 kind.Exec 2 0x10078

abbrev pub second : List Entry
second = walk 0 1 0x1002C 5

abbrev pub call_entry : Entry
call_entry = entry 0 kind.Exec 1 0x10040

abbrev pub third : List Entry
third =
    entry 1 kind.Drain 2 0x1007C ∷ entry 1 kind.Take 2 0x1007C ∷ entry 0 kind.Done 1 0x10044
    ∷ walk 0 1 0x10044 8 ++ entry 1 kind.Exec 2 0x1007C ∷ walk 0 1 0x10058 3 ++ entry 1 kind.Drain 2 0x10080
    ∷ walk 0 1 0x10058 2 ++ walk 0 1 0x10064 3

abbrev pub last_entry : Entry
last_entry = entry 0 kind.Exec 1 0x10070

abbrev pub log : List Entry
log = first ++ lock_entry ∷ (second ++ call_entry ∷ (third ++ last_entry ∷ []))

is_played : played reading lines ≡ Ok log
unfolding played by_rules command_asked
is_played = refl

pub is_run : IsBlockRun reading log
is_run = (played_is_run reading lines log is_played).0

-- x8 and x9 are none of the registers that the sync block changes
kept : (r : ℕ) → 7 < r → r < 10 → IsKept r
kept r above below = record {
  not_5 = λ same. omega arith;
  not_6 = λ same. omega arith;
  not_7 = λ same. omega arith;
  not_10 = λ same. omega arith;
  not_11 = λ same. omega arith;
  not_12 = λ same. omega arith;
  not_17 = λ same. omega arith;
}

pub are_sync : AreSyncRegs sync_regs
are_sync = record {
  gp = is_register 8 refl (ltb-true 8 32 refl);
  slots = is_register 9 refl (ltb-true 9 32 refl);
  gp_slots = eqb-false 8 9 refl;
  gp_kept = kept 8 (omega arith) (omega arith);
  slots_kept = kept 9 (omega arith) (omega arith);
}

there : AreLaid reading layout
unfolding by_table
there = ((refl, (refl, tt)), (refl, tt), (refl, (refl, (refl, (refl, (refl, (refl, (refl, (refl, (refl, (refl, (refl, (refl, (refl, (refl, (refl, (refl, (refl, tt))))))))))))))))))

pub its : IsWorked reading layout first lock_entry log
unfolding by_rules command_asked
its =
    worked reading layout first lock_entry log there (reads_so read_regs refl) are_sync refl refl refl refl refl
