-- How many instructions a thread executes.
use Rattle.std.specs.Prelude.{ℕ, suc, ◌≡◌, ◌+◌, ◌<◌, ◌≤◌, ◌⊎◌, false, List, ◌∷◌, ◌++◌, Some}
use Rattle.mach_types.specs.Bytes.{word_at}
use Rattle.mach_types.specs.Events.{choice_of}
use Rattle.mach_types.specs.Kernel.Threads.{is_live}
use Rattle.mach_types.specs.Registers.{register}
use Rattle.mach_types.specs.declared.events.Choice.TheVariants as asked
use Rattle.mach_types.specs.declared.registers.Regs.{Regs}
use Rattle.block_model.specs.History.{Event, History, file, kernel}
use Rattle.block_model.specs.Setting.{Setting}
use Rattle.alone_laws.specs.Spans.{seen_at}
use Rattle.urcu_lib.specs.Blocks.{Urcu}
use Rattle.urcu_lib.specs.Sections.{IsExecAt, IsGrace, IsGraceEnd}
use Rattle.urcu_lib.specs.Uses.{MaySet}

-- its barrier returns
pub record HasReturned (s : Setting) (at t : ℕ) (e : Event) (before : History) : Type 0 where
  pub was : (file s t before).pc ≡ at + 20
  pub stays : (file s t (e ∷ before)).pc ≡ at + 20

-- a load gave 0, or a number not below the new counter, which is in x5
abbrev pub IsPassing : Regs → Type 0
IsPassing f = (register f 10 ≡ 0) ⊎ (register f 5 ≤ register f 10)

-- since a place thread t has executed the block's load of a slot where the slot's address, in x6, was this
pub record IsLoaded (s : Setting) (at t a : ℕ) (begun now : History) : Type 0 where
  pub event : Event
  pub since : List Event
  pub earlier : List Event
  pub parts : now ≡ since ++ event ∷ (earlier ++ begun)
  pub exec : IsExecAt (at + 40) event
  pub of : event.entry.tid.0 ≡ t
  pub from : register (file s t (earlier ++ begun)).file 6 ≡ a

-- the thread's next load is the first one of its slot since a place
abbrev pub IsFirstLoad : Setting → ℕ → ℕ → History → History → Type 0
IsFirstLoad s at t begun before = IsLoaded s at t (register (file s t before).file 6) begun before → ⊥

-- since a place thread t executed so many instructions. No other event of its hart changed its file, nor did
-- its beginning to run or to live, but that its barrier returned, so no signal was delivered to it; and the
-- first load of each slot by the sync block gave such a number
pub data Runs (s : Setting) (at t : ℕ) (begun : History) : History → ℕ → Type 0 where
  none_run : Runs s at t begun begun 0
  it_rests : (e : Event) (before : History) (n : ℕ) → (choice_of e.entry ≡ asked.Exec → e.entry.tid.0 ≡ t → ⊥)
      → (MaySet s t e before ⊎ (is_live t (kernel s before).threads ≡ false)
      → (file s t (e ∷ before) ≡ file s t before) ⊎ HasReturned s at t e before)
      → Runs s at t begun before n
      → Runs s at t begun (e ∷ before) n
  it_runs : (e : Event) (before : History) (n : ℕ) → choice_of e.entry ≡ asked.Exec → e.entry.tid.0 ≡ t
      → (e.entry.pc ≡ at + 40 → IsFirstLoad s at t begun before → IsPassing (file s t (e ∷ before)).file)
      → Runs s at t begun before n
      → Runs s at t begun (e ∷ before) (suc n)

-- among the first so many of them was the block's last one
pub record HasFinished (s : Setting) (at t most : ℕ) (begun now : History) : Type 0 where
  pub event : Event
  pub rest : History
  pub since : List Event
  pub parts : now ≡ since ++ event ∷ rest
  pub ends : IsGraceEnd at t event
  pub executed : ℕ
  pub run : Runs s at t begun rest executed
  pub few : executed < most

-- x5 of the thread is the new counter: 1 above what the thread's hart saw where the call of the grace period
-- that goes on had returned
abbrev pub HasNewCounter : Setting → Urcu → ℕ → ℕ → History → Type 0
HasNewCounter s u at t now =
    (grace back : History) (next : Event) (later : List Event) (n : ℕ) → IsGrace at t grace now
    → IsGrace at t grace back
    → now ≡ later ++ next ∷ back → IsExecAt (at + 20) next → next.entry.tid.0 ≡ t
    → word_at (seen_at s next.entry.hart.0 back) u.counter 8 ≡ Some n
    → register (file s t now).file 5 ≡ n + 1

-- after an event its hart sees the counter 1 above what the thread's hart saw where the call of the grace
-- period that goes on had returned: before the thread executed the instruction behind the call
abbrev pub IsCounterGrown : Setting → Urcu → ℕ → ℕ → Event → History → Type 0
IsCounterGrown s u at t e before =
    (grace back : History) (next : Event) (later : List Event) (n : ℕ) → IsGrace at t grace before
    → IsGrace at t grace back
    → before ≡ later ++ next ∷ back → IsExecAt (at + 20) next → next.entry.tid.0 ≡ t
    → word_at (seen_at s next.entry.hart.0 back) u.counter 8 ≡ Some n
    → word_at (seen_at s e.entry.hart.0 (e ∷ before)) u.counter 8 ≡ Some (n + 1)
