-- Where a thread stands in a sync block, and what it has shown by then; what it doesn't execute leaves it so.
use Rattle.std.proofs.Common.{◌≡◌, ◌≢◌, ℕ, suc, ◌+◌, ◌*◌, ◌-◌, ◌<◌, ◌≤◌, ◌%◌, ◌^◌, List, ◌∷◌, ◌++◌, ◌⊎◌}
use Rattle.std.proofs.Common.{length, length-append, arith, refl, ap, ◌∙◌, Bool, true, false, cond, ltb, inl}
use Rattle.std.proofs.Common.{inr, Some}
use Rattle.mach_types.specs.Kernel.Threads.{is_live}
use Rattle.mach_types.specs.Registers.{register}
use Rattle.mach_types.specs.declared.registers.Regs.{Regs}
use Rattle.block_model.specs.History.{Event, History, file, kernel, running, waiting}
use Rattle.block_model.specs.Run.{IsRunHistory}
use Rattle.block_model.specs.Setting.{Setting}
use Rattle.urcu_lib.specs.Blocks.{Urcu, counter_bytes, slot_at}
use Rattle.urcu_lib.specs.declared.regs.SyncRegs.{SyncRegs}
use Rattle.fence_laws.specs.Entered.{HaveEntered, IsFence}
use Rattle.fence_laws.specs.Kept.{AreBeside, AreQuiet, IsQuiet}
use Rattle.urcu_lib.specs.Sections.{IsExecAt, IsGrace, IsGraceBegin, IsGraceEnd, IsSection, IsSyncStore}
use Rattle.urcu_lib.specs.Sections.{calls, enters, goes, waits}
use Rattle.block_model.specs.Acts.{is_inside_at}
use Rattle.urcu_lib.specs.Uses.{IsElsewhere, IsUse, counted}
use Rattle.urcu_lib.proofs.CounterLaw.{beside_stores}
use Rattle.fence_laws.proofs.Fences.{entered_next}
use Rattle.fence_laws.proofs.OwnerLaw.{owned_next}

-- how many instructions are left at most at one of a block for so many slots, each of which is loaded once
abbrev pub left_at : ℕ → ℕ → ℕ → ℕ
left_at readers k seven = cond (ltb k 10) (1 + (10 - k + 6 * readers))
    (cond (ltb k 15) (1 + (10 + 6 * seven - k)) (cond (ltb k 16) (6 * seven + 2) 1))

pub some_left : (readers k seven : ℕ) → 1 ≤ left_at readers k seven
some_left readers k seven = by_tests (ltb k 10) (ltb k 15) (ltb k 16)
  where
    by_tests : (a b c : Bool) → 1 ≤ cond a (1 + (10 - k + 6 * readers))
        (cond b (1 + (10 + 6 * seven - k)) (cond c (6 * seven + 2) 1))
    by_tests true b c = omega arith
    by_tests false true c = omega arith
    by_tests false false true = omega arith
    by_tests false false false = omega arith

-- what is known of an event besides how the blocks are used: the thread of a grace period that goes on doesn't
-- begin it again, and while it lives nobody else stores in the counter or enters its block; and a thread calls
-- inside no restartable sequence
pub record IsOrderly (s : Setting) (u : Urcu) (first : ℕ) (e : Event) (before : History) : Type 0 where
  pub used : IsUse s u first e before
  pub one : (at t : ℕ) (r : SyncRegs) (grace : History) → u.syncs at ≡ Some r → IsGrace at t grace before
      → is_live t (kernel s before).threads ≡ true → IsSyncStore u e
      → (e.entry.tid.0 ≡ t) × (e.entry.pc ≡ at + 28)
  pub once : (at t : ℕ) (r : SyncRegs) (grace : History) → u.syncs at ≡ Some r → IsGrace at t grace before
      → IsGraceBegin at t e → ⊥
  pub anew : (at t : ℕ) (r : SyncRegs) (grace : History) → u.syncs at ≡ Some r → IsGrace at t grace before
      → is_live t (kernel s before).threads ≡ true → IsExecAt at e → ⊥
  pub outside : (at t : ℕ) (r : SyncRegs) → u.syncs at ≡ Some r → IsGraceBegin at t e
      → is_inside_at s e.entry.hart.0 before ≡ false
  pub many : (t : ℕ) → length (file s t before).file.x ≡ 32
  pub low : counted u.counter first before < 2 ^ 64

module _ (s : Setting) (u : Urcu) (first : ℕ) where
  -- a grace period of thread t in the sync block began by a call that is a barrier for each hart
  pub record HasOpened (at t : ℕ) : Type 0 where
    pub regs : SyncRegs
    pub block : u.syncs at ≡ Some regs
    pub grace : History
    pub call : Event
    pub fence : IsFence s call grace
    pub begins : IsGraceBegin at t call

  -- it goes on, and is the newest one
  pub record IsOpen (at t : ℕ) (now : History) : Type 0 where
    pub began : HasOpened at t
    pub open began use *
    pub since : List Event
    pub parts : now ≡ since ++ call ∷ grace
    pub on : IsGrace at t grace now
    pub newest : (g : History) → IsGrace at t g now → length g ≤ length grace

  -- the counter where it began
  abbrev pub base : (at t : ℕ) (now : History) → IsOpen at t now → ℕ
  base at t now o = counted u.counter first o.grace

  -- no section of a slot goes on that began before it; of each of the first slots
  abbrev pub HasEnded : History → ℕ → History → Type 0
  HasEnded grace i now = (section : History) → IsSection s u i section now → length section < length grace → ⊥

  abbrev pub ArePassed : History → ℕ → History → Type 0
  ArePassed grace n now = (j : ℕ) → j < n → HasEnded grace j now

  -- past the barrier, with the new counter in x5
  pub record IsPast (at t : ℕ) (f : Regs) (now : History) : Type 0 where
    pub opened : IsOpen at t now
    pub entered : HaveEntered opened.grace now
    pub five : register f 5 ≡ counted u.counter first opened.grace + 1
    -- the counter is the new one, and its store waits only where the thread runs, if at all
    pub count : counted u.counter first now ≡ counted u.counter first opened.grace + 1
    pub apart : (h : ℕ) → running s h now ≢ Some t → AreBeside (counter_bytes u) (waiting h now)

  -- at slot i of the first ones: x6 is its address, and x7 says how many are left
  pub record IsAtSlot (at t : ℕ) (f : Regs) (now : History) : Type 0 where
    pub past : IsPast at t f now
    pub i : ℕ
    pub lt : i < u.readers at
    pub six : register f 6 ≡ slot_at u i
    pub seven : register f 7 + i ≡ u.readers at

  -- no grace period of the thread in the block goes on
  abbrev pub HasNone : (at t : ℕ) (now : History) → Type 0
  HasNone at t now = (g : History) → IsGrace at t g now → ⊥

  -- where what was loaded of the slot is 0 or at least the new counter, no section of it goes on that began
  -- before
  abbrev pub ShowsEnd : (at t : ℕ) (f : Regs) (now : History) → IsAtSlot at t f now → Type 0
  ShowsEnd at t f now x =
      (register f 10 ≡ 0) ⊎ (base at t now x.past.opened + 1 ≤ register f 10)
      → HasEnded x.past.opened.grace x.i now

  -- the thread is at instruction k of the block
  pub data Stands (at t : ℕ) (f : Regs) (now : History) (k : ℕ) : Type 0 where
    one_set : k ≡ 1 → register f 10 ≡ 8 → HasNone at t now → Stands at t f now k
    two_set : k ≡ 2 → register f 10 ≡ 8 → register f 11 ≡ 0 → HasNone at t now → Stands at t f now k
    three_set : k ≡ 3 → register f 10 ≡ 8 → register f 11 ≡ 0 → HasNone at t now → Stands at t f now k
    all_set : k ≡ 4 → register f 10 ≡ 8 → register f 11 ≡ 0 → register f 17 ≡ 283 → HasNone at t now
        → Stands at t f now k
    has_called : k ≡ 5 → (o : IsOpen at t now) → AreQuiet (counter_bytes u) o.since → Stands at t f now k
    has_loaded : k ≡ 6 → (o : IsOpen at t now) → AreQuiet (counter_bytes u) o.since → HaveEntered o.grace now
        → register f 5 ≡ base at t now o → Stands at t f now k
    has_grown : k ≡ 7 → (o : IsOpen at t now) → AreQuiet (counter_bytes u) o.since → HaveEntered o.grace now
        → register f 5 ≡ (base at t now o + 1) % 2 ^ 64 → Stands at t f now k
    has_stored : k ≡ 8 → IsPast at t f now → Stands at t f now k
    has_slots : k ≡ 9 → IsPast at t f now → register f 6 ≡ u.slots → Stands at t f now k
    looks : k ≡ 10 → (x : IsAtSlot at t f now) → ArePassed x.past.opened.grace x.i now → Stands at t f now k
    has_looked : k ≡ 11 → (x : IsAtSlot at t f now) → ArePassed x.past.opened.grace x.i now
        → ShowsEnd at t f now x → Stands at t f now k
    is_some : k ≡ 12 → (x : IsAtSlot at t f now) → ArePassed x.past.opened.grace x.i now
        → ShowsEnd at t f now x → Stands at t f now k
    passes : k ≡ 13 → (x : IsAtSlot at t f now) → ArePassed x.past.opened.grace (suc x.i) now
        → Stands at t f now k
    moves : k ≡ 14 → (p : IsPast at t f now) → (i : ℕ) → i < u.readers at
        → (suc i < u.readers at → register f 6 ≡ slot_at u (suc i)) → register f 7 + i ≡ u.readers at
        → ArePassed p.opened.grace (suc i) now → Stands at t f now k
    counts : k ≡ 15 → (p : IsPast at t f now) → (i : ℕ) → i < u.readers at
        → (suc i < u.readers at → register f 6 ≡ slot_at u (suc i)) → register f 7 + suc i ≡ u.readers at
        → ArePassed p.opened.grace (suc i) now → Stands at t f now k
    is_over : k ≡ 16 → (p : IsPast at t f now) → ArePassed p.opened.grace (u.readers at) now
        → Stands at t f now k

  -- the number of its place
  abbrev pub place_of : {at t : ℕ} {f : Regs} {now : History} (k : ℕ) → Stands at t f now k
      → (n : ℕ) × (k ≡ n)
  place_of k (one_set is a none) = (1, is)
  place_of k (two_set is a b none) = (2, is)
  place_of k (three_set is a b none) = (3, is)
  place_of k (all_set is a b c none) = (4, is)
  place_of k (has_called is o quiet) = (5, is)
  place_of k (has_loaded is o quiet entered five) = (6, is)
  place_of k (has_grown is o quiet entered five) = (7, is)
  place_of k (has_stored is p) = (8, is)
  place_of k (has_slots is p six) = (9, is)
  place_of k (looks is x passed) = (10, is)
  place_of k (has_looked is x passed shows) = (11, is)
  place_of k (is_some is x passed shows) = (12, is)
  place_of k (passes is x passed) = (13, is)
  place_of k (moves is p i lt six seven passed) = (14, is)
  place_of k (counts is p i lt six seven passed) = (15, is)
  place_of k (is_over is p passed) = (16, is)

  module _ (at t : ℕ) (e : Event) (before : History) (run : IsRunHistory s (e ∷ before))
      (has : IsOrderly s u first e before) where
    -- an event that doesn't begin a grace period of the thread in the block
    pub none_next : (IsGraceBegin at t e → ⊥) → HasNone at t before → HasNone at t (e ∷ before)
    none_next not_begun none g (calls x begins) = not_begun begins
    none_next not_begun none g (waits x rest was still) = none g was

    pub newest_next : (o : IsOpen at t before) → (g : History) → IsGrace at t g (e ∷ before)
        → length g ≤ length o.grace
    newest_next o g (calls x begins) = absurd (has.once at t o.regs o.grace o.block o.on begins)
    newest_next o g (waits x rest was still) = o.newest g was

    -- an event that doesn't end the grace period
    abbrev pub open_next : (IsGraceEnd at t e → ⊥) → IsOpen at t before → IsOpen at t (e ∷ before)
    open_next not_end o = record {
      began = o.began;
      since = e ∷ o.since;
      parts = ap (λ (b : History). e ∷ b) o.parts;
      on = waits e before o.on not_end;
      newest = newest_next o;
    }

    -- sections that have ended have ended
    pub ended_next : (o : IsOpen at t before) → (i : ℕ) → HasEnded o.grace i before
        → HasEnded o.grace i (e ∷ before)
    ended_next o i was section (enters x locks) earlier =
        let long : length before ≡ length (o.since ++ o.call ∷ o.grace) = ap
        (λ (b : History). length b) o.parts in
        omega (arith, length-append o.since (o.call ∷ o.grace))
    ended_next o i was section (goes x rest on still) earlier = was section on earlier

    pub passed_next : (o : IsOpen at t before) → (n : ℕ) → ArePassed o.grace n before
        → ArePassed o.grace n (e ∷ before)
    passed_next o n was j lt = ended_next o j (was j lt)

    -- and one that doesn't store in the counter for it, while the thread lives
    module _ (lives : is_live t (kernel s before).threads ≡ true) where
      pub is_quiet : (o : IsOpen at t before) → (e.entry.tid.0 ≡ t → IsExecAt (at + 28) e → ⊥)
          → IsQuiet (counter_bytes u) e
      is_quiet o not_store = by_use has.used.counter
        where
          by_use : IsQuiet (counter_bytes u) e ⊎ IsSyncStore u e → IsQuiet (counter_bytes u) e
          by_use (inl quiet) = quiet
          by_use (inr stores) =
              let one = has.one at t o.regs o.grace o.block o.on lives stores in
              absurd (not_store one.0 (record { executes = stores.exec.executes; pc = one.1 }))

      pub quiet_next : (o : IsOpen at t before) → (e.entry.tid.0 ≡ t → IsExecAt (at + 28) e → ⊥)
          → AreQuiet (counter_bytes u) o.since → AreQuiet (counter_bytes u) (e ∷ o.since)
      quiet_next o not_store was = (was, is_quiet o not_store)

      abbrev pub past_next : (f g : Regs) → (IsGraceEnd at t e → ⊥)
          → (e.entry.tid.0 ≡ t → IsExecAt (at + 28) e → ⊥) → register g 5 ≡ register f 5
          → IsPast at t f before → IsPast at t g (e ∷ before)
      past_next f g not_end not_store same p = record {
        opened = open_next not_end p.opened;
        entered = entered_next p.opened.grace e before p.entered;
        five = same ∙ p.five;
        count = beside_stores u.counter e.done.executed (counted u.counter first before)
            (is_quiet p.opened not_store).executed ∙ p.count;
        apart = owned_next (counter_bytes u) s t e before run
            (inl (is_quiet p.opened not_store).executed) p.apart;
      }

      -- and leaves x5, x6 and x7
      abbrev pub slot_next : (f g : Regs) → (IsGraceEnd at t e → ⊥)
          → (e.entry.tid.0 ≡ t → IsExecAt (at + 28) e → ⊥)
          → ((j : ℕ) → 5 ≤ j → j < 8 → register g j ≡ register f j)
          → IsAtSlot at t f before → IsAtSlot at t g (e ∷ before)
      slot_next f g not_end not_store same x = record {
        past = past_next f g not_end not_store (same 5 (omega arith) (omega arith)) x.past;
        i = x.i;
        lt = x.lt;
        six = same 6 (omega arith) (omega arith) ∙ x.six;
        seven = ap (λ m. m + x.i) (same 7 (omega arith) (omega arith)) ∙ x.seven;
      }

      -- an event that executes nothing of the block
      module _ (f : Regs) (elsewhere : IsElsewhere at 17 t e) where
        not_end : IsGraceEnd at t e → ⊥
        not_end ends = elsewhere ends.exec.executes ends.of (16, omega arith, ends.exec.pc)

        not_store : e.entry.tid.0 ≡ t → IsExecAt (at + 28) e → ⊥
        not_store of exec = elsewhere exec.executes of (7, omega arith, exec.pc)

        abbrev o_next : IsOpen at t before → IsOpen at t (e ∷ before)
        o_next o = open_next not_end o

        abbrev p_next : IsPast at t f before → IsPast at t f (e ∷ before)
        p_next p = past_next f f not_end not_store refl p

        abbrev x_next : IsAtSlot at t f before → IsAtSlot at t f (e ∷ before)
        x_next x = slot_next f f not_end not_store (λ j from to. refl) x

        not_begun : IsGraceBegin at t e → ⊥
        not_begun begins = elsewhere begins.exec.executes begins.of (4, omega arith, begins.exec.pc)

        pub stands_next : (k : ℕ) → Stands at t f before k → Stands at t f (e ∷ before) k
        stands_next k (one_set is a none) = one_set is a (none_next not_begun none)
        stands_next k (two_set is a b none) = two_set is a b (none_next not_begun none)
        stands_next k (three_set is a b none) = three_set is a b (none_next not_begun none)
        stands_next k (all_set is a b c none) = all_set is a b c (none_next not_begun none)
        stands_next k (has_called is o quiet) = has_called is (o_next o) (quiet_next o not_store quiet)
        stands_next k (has_loaded is o quiet entered five) = has_loaded is (o_next o)
            (quiet_next o not_store quiet) (entered_next o.grace e before entered) five
        stands_next k (has_grown is o quiet entered five) = has_grown is (o_next o)
            (quiet_next o not_store quiet) (entered_next o.grace e before entered) five
        stands_next k (has_stored is p) = has_stored is (p_next p)
        stands_next k (has_slots is p six) = has_slots is (p_next p) six
        stands_next k (looks is x passed) = looks is (x_next x) (passed_next x.past.opened x.i passed)
        stands_next k (has_looked is x passed shows) =
            has_looked is (x_next x) (passed_next x.past.opened x.i passed)
            (λ is. ended_next x.past.opened x.i (shows is))
        stands_next k (is_some is x passed shows) =
            is_some is (x_next x) (passed_next x.past.opened x.i passed)
            (λ is. ended_next x.past.opened x.i (shows is))
        stands_next k (passes is x passed) = passes is (x_next x)
            (passed_next x.past.opened (suc x.i) passed)
        stands_next k (moves is p i lt six seven passed) = moves is (p_next p) i lt six seven
            (passed_next p.opened (suc i) passed)
        stands_next k (counts is p i lt six seven passed) = counts is (p_next p) i lt six seven
            (passed_next p.opened (suc i) passed)
        stands_next k (is_over is p passed) = is_over is (p_next p) (passed_next p.opened (u.readers at) passed)
