-- Logs of two worked pairs, which worked runs make too: which barrier is about to return, and what the own
-- entries of the first process learn. It stores to the segment and makes an expedited barrier on all processes;
-- the second one registers for such barriers, stores to the segment too, and then reads what the first stored.
use Rattle.std.specs.Int.{bytes_low_first}
use Rattle.mach_types.specs.declared.events.Kind.TheVariants as kind
use Rattle.mach_types.specs.Kernel.Barriers.{asked as asked_for}
use Rattle.rv_inst.specs.Meaning.{meaning}
use Rattle.rv_inst.specs.Table.{row_of, rows}
use Rattle.shared_procs.proofs.Common.{◌≡◌, ℕ, zero, suc, ◌+◌, Bool, true, false, List, [], ◌∷◌, ◌++◌, Option, Some, None, length, map, refl, replicate, entered, Entry, executed, Kind, option_map, own_entries, OwnEntry, pair_history, PairBegun, PairSetting, Program, returning}

-- a program of one page, its code at 0x10078
abbrev code : List ℕ → List ℕ
code [] = []
code (word ∷ words) = bytes_low_first 0 4 word ++ code words

abbrev program : List ℕ → Program
program words = record {
  pages = record { number = 0x10; perm = 5; bytes = replicate 0x78 0 ++ code words } ∷ [];
  entry = 0x10078;
  phdr = 0x10040;
  phnum = 1;
  break_at = 0x11000;
}

-- the first: 1 to the segment; barrier 2; what stands 64 bytes on, as the exit status. The second: this
-- command; 1 to what stands 64 bytes on; what the first one stored, as the exit status
abbrev both : ℕ → PairSetting
both command = record {
  first = program
      (0x7FFFF437 ∷ 0x00741413 ∷ 0x00100293 ∷ 0x00543023 ∷ 0x00200513 ∷ 0x00000593 ∷ 0x11B00893 ∷ 0x00000073 ∷ 0x04043503 ∷ 0x05D00893 ∷ 0x00000073 ∷ []);
  second = program
      (0x7FFFF437 ∷ 0x00741413 ∷ command ∷ 0x00000593 ∷ 0x11B00893 ∷ 0x00000073 ∷ 0x00100293 ∷ 0x04543023 ∷ 0x00043503 ∷ 0x05D00893 ∷ 0x00000073 ∷ []);
  limits = record { harts = 2; frames = 4096; steps = 200000 };
}

-- command 4, by which the second process registers; and QUERY
abbrev registers : PairSetting
registers = both 0x00400513

abbrev asks_nothing : PairSetting
asks_nothing = both 0x00000513

abbrev entry : ℕ → Kind → ℕ → ℕ → Entry
entry h k t pc = record { hart = record { 0 = h }; kind = k; tid = record { 0 = t }; pc = pc }

-- so many instructions of a thread, one after another
abbrev execs_from : ℕ → ℕ → ℕ → ℕ → List Entry
execs_from h t pc zero = []
execs_from h t pc (suc n) = entry h kind.Exec t pc ∷ execs_from h t (pc + 4) n

-- a thread of the second process has its number plus 2,147,483,648 in logs, and there alone
abbrev second : ℕ
second = 2147483649

-- the second process asks, stores and reads; the first one stores, and begins its barrier once its store has
-- entered memory
abbrev begun_log : List Entry
begun_log =
    entry 0 kind.Run 1 0x10078
    ∷ entry 1 kind.Run second 0x10078
    ∷ execs_from 1 second 0x10078 9
    ++ execs_from 0 1 0x10078 4
    ++ entry 0 kind.Drain 1 0x10088
    ∷ execs_from 0 1 0x10088 4

-- the barrier waits for the hart of the second process, whose store has to enter memory first; so the first one
-- reads it
abbrev taken_log : List Entry
taken_log = begun_log ++ entry 1 kind.Drain second 0x1009C ∷ entry 1 kind.Take second 0x1009C ∷ []

abbrev returned_log : List Entry
returned_log = taken_log ++ entry 0 kind.Done 1 0x10098 ∷ execs_from 0 1 0x10098 3 ++ execs_from 1 second 0x1009C 2

-- the hart of a process that isn't registered isn't reached, and the barrier is over at once
abbrev unregistered_log : List Entry
unregistered_log = begun_log ++ execs_from 0 1 0x10098 3 ++ entry 1 kind.Drain second 0x1009C ∷ execs_from 1 second 0x1009C 2

-- the other process never runs
abbrev alone_log : List Entry
alone_log = entry 0 kind.Run 1 0x10078 ∷ execs_from 0 1 0x10078 4 ++ entry 0 kind.Drain 1 0x10088 ∷ execs_from 0 1 0x10088 7

-- the harts that the barrier of hart 0 is about, how many stores hart 1 had executed before its call, and how many of hart 1 have entered
abbrev passing : PairSetting → List Entry → Option (ℕ × ℕ) × ℕ
passing s log = (option_map (λ (b : PairBegun). (b.barrier.targets, executed 1 b.call)) (returning s log 0), entered s 1 (pair_history s log))

-- how many own entries of the first process there are, which of them waited, and what was read, the newest
-- first
abbrev learnt : PairSetting → List Entry → ℕ × List Bool × List (List (Option ℕ))
learnt s log =
    let own = own_entries s false (pair_history s log) in
    (length own, map (λ (e : OwnEntry). e.waits) own, map (λ (e : OwnEntry). e.learnt.read) own)

-- of these none waited, and the load read 0, the low byte first
abbrev neither : ℕ × List Bool × List (List (Option ℕ))
neither = (13, replicate 13 false, [] ∷ [] ∷ replicate 8 (Some 0) ∷ replicate 10 [])

-- where `done` would come too early what is promised doesn't hold; it does where `done` may come
worked_logs :
    (passing registers begun_log ≡ (Some (2, 1), 0))  -- the store of hart 1 still waits
    × (passing registers taken_log ≡ (Some (2, 1), 1))  -- it has entered
    × (passing asks_nothing unregistered_log ≡ (None, 1))  -- a call that is about no hart begins no barrier
    × (learnt registers returned_log ≡ (14, replicate 4 false ++ true ∷ replicate 9 false, [] ∷ [] ∷ (Some 1 ∷ replicate 7 (Some 0)) ∷ replicate 11 []))  -- waits and reads
    × (learnt asks_nothing unregistered_log ≡ neither)  -- neither waits nor reads
    × (learnt registers alone_log ≡ neither)  -- nor with another program that never runs
unfolding pair_history asked_for meaning row_of rows
worked_logs = (refl, refl, refl, refl, refl, refl)
