-- What worked logs of readers have in common: lines and entries, a script that is played in parts, and blocks
-- and a start that are as they should be where tests find so.
use Rattle.std.proofs.Common.{◌≡◌, ℕ, suc, zero, ◌+◌, ◌*◌, ◌^◌, ◌<◌, ◌≤◌, List, [], ◌∷◌, ◌++◌, refl, ap, ◌∙◌}
use Rattle.std.proofs.Common.{fold, replicate, subst, arith, true, false, not, ◌&&◌, Bool, cond, eqb, leb, ltb, Option, None, Some}
use Rattle.std.proofs.Common.{Result, slice_get, inl}
use Rattle.std.proofs.lemmas.Bool.{and_parts, eqb-false, leb-true, ltb-true, not-true}
use Rattle.elf_load.specs.declared.image.ImagePage.{ImagePage}
use Rattle.mach_types.specs.Bytes.{word_at}
use Rattle.mach_types.specs.declared.events.Choice.{Choice}
use Rattle.mach_types.specs.declared.events.Choice.TheVariants as asked
use Rattle.mach_types.specs.declared.events.Entry.{Entry}
use Rattle.mach_types.specs.declared.events.Kind.{Kind}
use Rattle.mach_types.specs.declared.events.Kind.TheVariants as kinds
use Rattle.rv_inst.specs.declared.instruction.Inst.{Inst}
use Rattle.block_model.specs.Deciding.{event, history}
use Rattle.block_model.specs.History.{byte}
use Rattle.block_model.specs.Replay.{Ask, play_line}
use Rattle.block_model.specs.Setting.{Setting}
use Rattle.alone_laws.specs.Spans.{code_of}
use Rattle.percpu_lib.specs.Words.{AreHeld}
use Rattle.percpu_lib.proofs.ExampleParts.{AreThere, word_is}
use Rattle.urcu_lib.specs.Blocks.{AreBlocks, lock_block, sync_block, unlock_block}
use Rattle.urcu_lib.specs.Registers.{AreReadRegs, AreSyncRegs, IsRegister}
use Rattle.urcu_lib.specs.Sections.{IsLockStore}
use Rattle.urcu_lib.specs.Uses.{HoldsUrcu, IsStart}
use Rattle.urcu_lib.specs.declared.regs.ReadRegs.{ReadRegs}
use Rattle.urcu_lib.proofs.LowCode.{are_low, code_low, low_is}
use Rattle.urcu_lib.proofs.UseTests.{Layout, all_used, are_fine, is_lock_store, lock_store_is, only, urcu_of}

-- a line of a script, and an entry of a log
abbrev pub line : ℕ → Choice → Ask
line h choice = record { hart = record { 0 = h }; choice = choice; check = None }

abbrev pub entry : ℕ → Kind → ℕ → ℕ → Entry
entry h k t pc = record { hart = record { 0 = h }; kind = k; tid = record { 0 = t }; pc = pc }

-- so many lines that ask a hart for an instruction, and so many instructions of its thread, one word behind
-- the other
abbrev pub execs : ℕ → ℕ → List Ask
execs h n = replicate n (line h asked.Exec)

abbrev pub walk : ℕ → ℕ → ℕ → ℕ → List Entry
walk h t pc zero = []
walk h t pc (suc n) = entry h kinds.Exec t pc ∷ walk h t (pc + 4) n

-- the first thread runs from 0x10000 on and executes so many instructions; then the second runs on hart 1, from one
-- address on, and goes from there to another
abbrev pub until_lock : ℕ → ℕ → ℕ → List Entry
until_lock n child lock =
    entry 0 kinds.Run 1 0x10000 ∷ walk 0 1 0x10000 n ++ entry 1 kinds.Run 2 child ∷ entry 1 kinds.Exec 2 child
    ∷ entry 1 kinds.Exec 2 lock ∷ []

-- a script that is played in parts
pub played_on : (s : Setting) (xs ys : List Ask) (r : Result (List Entry) ℕ)
    → fold (play_line s) r (xs ++ ys) ≡ fold (play_line s) (fold (play_line s) r xs) ys
played_on s [] ys r = refl
played_on s (x ∷ xs) ys r = played_on s xs ys (play_line s r x)

pub is_register : (r : ℕ) → eqb r 0 ≡ false → r < 32 → IsRegister r
is_register r some low = record { some = eqb-false r 0 some; low = low }

-- three registers that a reader can work with
abbrev pub can_read_with : ReadRegs → Bool
can_read_with r =
    not (eqb r.gp 0) && (not (eqb r.slot 0) && (not (eqb r.scratch 0) && (ltb r.gp 32 && (ltb r.slot 32
    && (ltb r.scratch 32 && (not (eqb r.gp r.slot) && (not (eqb r.gp r.scratch)
    && not (eqb r.slot r.scratch))))))))

pub reads_so : (r : ReadRegs) → can_read_with r ≡ true → AreReadRegs r
reads_so r is =
    let one = and_parts (not (eqb r.gp 0)) _ is in
    let two = and_parts (not (eqb r.slot 0)) _ one.1 in
    let three = and_parts (not (eqb r.scratch 0)) _ two.1 in
    let four = and_parts (ltb r.gp 32) _ three.1 in
    let five = and_parts (ltb r.slot 32) _ four.1 in
    let six = and_parts (ltb r.scratch 32) _ five.1 in
    let seven = and_parts (not (eqb r.gp r.slot)) _ six.1 in
    let eight = and_parts (not (eqb r.gp r.scratch)) (not (eqb r.slot r.scratch)) seven.1 in
    record {
      gp = is_register r.gp (not-true (eqb r.gp 0) one.0) (ltb-true r.gp 32 four.0);
      slot = is_register r.slot (not-true (eqb r.slot 0) two.0) (ltb-true r.slot 32 five.0);
      scratch = is_register r.scratch (not-true (eqb r.scratch 0) three.0) (ltb-true r.scratch 32 six.0);
      gp_slot = eqb-false r.gp r.slot (not-true (eqb r.gp r.slot) seven.0);
      gp_scratch = eqb-false r.gp r.scratch (not-true (eqb r.gp r.scratch) eight.0);
      slot_scratch = eqb-false r.slot r.scratch (not-true (eqb r.slot r.scratch) eight.1);
    }

-- a layout's sync block waits for some slots, and its counter stands before them
abbrev pub is_sound : Layout → Bool
is_sound x =
    leb 1 x.readers
    && (leb x.readers 63
    && (leb (x.slots + 64 * x.readers) (2 ^ 64) && leb (x.counter + 8) x.slots))

-- a block of some registers that stands at the one place for it
held_at : {R : Type 0} (pages : List ImagePage) (block : R → List (Option Inst)) (p : ℕ) (v : R)
    → AreThere (code_of pages) p (block v) → (at : ℕ) (r : R) → cond (eqb at p) (Some v) None ≡ Some r
    → AreHeld (code_of pages) at (block r)
held_at pages block p v there at r is =
    let its = only at p v r is in
    record {
      holds = λ k i here.
          ap (λ n. code_of pages (n + 4 * k)) its.0
          ∙ word_is (code_of pages) (block v) p there k i (ap (λ q. slice_get (block q) k) its.1 ∙ here);
    }

-- the blocks of a layout are as they should be where their words stand there
pub blocks_so : (pages : List ImagePage) (x : Layout) → are_low pages ≡ true → is_sound x ≡ true
    → AreReadRegs x.lock → AreSyncRegs x.sync
    → AreThere (code_of pages) x.lock_at (lock_block x.lock)
    → AreThere (code_of pages) x.unlock_at (unlock_block x.lock)
    → AreThere (code_of pages) x.sync_at (sync_block x.sync x.readers) → AreBlocks (code_of pages) (urcu_of x)
blocks_so pages x low sound lock_regs sync_regs lock_there unlock_there sync_there =
    let one = and_parts (leb 1 x.readers) _ sound in
    let two = and_parts (leb x.readers 63) _ one.1 in
    let three = and_parts (leb (x.slots + 64 * x.readers) (2 ^ 64)) _ two.1 in
    let high : x.slots + 64 * x.readers ≤ 2 ^ 64 = leb-true (x.slots + 64 * x.readers) (2 ^ 64) three.0 in
    let front : x.counter + 8 ≤ x.slots = leb-true (x.counter + 8) x.slots three.1 in
    record {
      locks = held_at pages lock_block x.lock_at x.lock lock_there;
      unlocks = held_at pages unlock_block x.unlock_at x.lock unlock_there;
      syncs = held_at pages (λ q. sync_block q x.readers) x.sync_at x.sync sync_there;
      low = code_low pages (low_is pages low);
      lock_regs = λ at r is. subst AreReadRegs (only at x.lock_at x.lock r is).1 lock_regs;
      unlock_regs = λ at r is. subst AreReadRegs (only at x.unlock_at x.lock r is).1 lock_regs;
      sync_regs = λ at r is. subst AreSyncRegs (only at x.sync_at x.sync r is).1 sync_regs;
      one = λ at r is. leb-true 1 x.readers one.0;
      few = λ at r is. leb-true x.readers 63 two.0;
      counted = λ at r is. omega arith;
      low_slots = high;
      low_counter = omega arith;
      apart = λ i lt. inl (omega arith);
    }

-- a program that starts before its blocks
abbrev pub starts_before : Setting → Layout → Bool
starts_before s x = leb s.program.entry x.lock_at && leb s.program.entry x.sync_at

pub start_so : (s : Setting) (x : Layout) (first : ℕ)
    → word_at (λ a. Some (byte s [] a)) x.counter 8 ≡ Some first
    → leb 1 first && ltb first (2 ^ 64) ≡ true → starts_before s x ≡ true → IsStart s (urcu_of x) first
start_so s x first counter fits before =
    let its = and_parts (leb 1 first) (ltb first (2 ^ 64)) fits in
    let low = and_parts (leb s.program.entry x.lock_at) (leb s.program.entry x.sync_at) before in
    let at_lock = leb-true s.program.entry x.lock_at low.0 in
    let at_sync = leb-true s.program.entry x.sync_at low.1 in
    record {
      counter = counter;
      some = leb-true 1 first its.0;
      fits = ltb-true first (2 ^ 64) its.1;
      locking = λ at r is same. let there =
          (only at x.lock_at x.lock r is).0 in let no : ⊥ = omega arith in no;
      syncing = λ at k r is some lt same.
          let there = (only at x.sync_at x.sync r is).0 in
          let no : ⊥ = omega arith in
          no;
    }

-- A LOG AS A WHOLE

-- the words of its blocks stand there
abbrev pub AreLaid : Setting → Layout → Type 0
AreLaid s x =
    AreThere (code_of s.program.pages) x.lock_at (lock_block x.lock)
    × AreThere (code_of s.program.pages) x.unlock_at (unlock_block x.lock)
    × AreThere (code_of s.program.pages) x.sync_at (sync_block x.sync x.readers)

-- thread 1 uses them as it should, from a counter of 1 on, and the entry behind the first ones is a store of
-- lock to the first slot
abbrev pub is_worked : Setting → Layout → List Entry → Entry → List Entry → Bool
is_worked s x first lock log =
    are_fine s x 1 (history s log)
    && is_lock_store s x 1 0 (event s (history s first) lock) (history s first)

pub record IsWorked (s : Setting) (x : Layout) (first : List Entry) (lock : Entry) (log : List Entry) : Type 0 where
  pub holds : HoldsUrcu s (urcu_of x) (history s log)
  pub locks : IsLockStore s (urcu_of x) 0 (event s (history s first) lock) (history s first)

pub worked : (s : Setting) (x : Layout) (first : List Entry) (lock : Entry) (log : List Entry)
    → AreLaid s x → AreReadRegs x.lock → AreSyncRegs x.sync → are_low s.program.pages ≡ true → is_sound x ≡ true
    → word_at (λ a. Some (byte s [] a)) x.counter 8 ≡ Some 1 → starts_before s x ≡ true
    → is_worked s x first lock log ≡ true → IsWorked s x first lock log
worked s x first lock log there reads syncs low sound counter before good =
    let both = and_parts (are_fine s x 1 (history s log)) _ good in
    record {
      holds = record {
        first = 1;
        blocks = blocks_so s.program.pages x low sound reads syncs there.0 there.1 there.2;
        start = start_so s x 1 counter refl before;
        uses = all_used s x 1 (history s log) both.0;
      };
      locks = lock_store_is s x 1 0 (event s (history s first) lock) (history s first) both.1;
    }
