-- What the lines of a log tell of its stores and bytes (own): the stores that are told to wait are those that wait, and each was executed in
-- its line. A byte of memory was written in the line that is told to have written it last, and is as that left it.
use Rattle.std.specs.Prelude.{ℕ, ◌-◌, ◌<◌, ◌≤◌, ◌≡◌, ◌≢◌, Bool, true, false, List, [], ◌∷◌, map, length, drop, All, Contains, if◌then◌else◌}
use Rattle.mach_types.specs.declared.user_memory.Store.{Store}
use Rattle.block_model.specs.Footprints.{bytes_of_all, have_byte}
use Rattle.block_model.specs.History.{History, byte, is_of_hart, waiting}
use Rattle.block_model.specs.Setting.{Setting}
use Rattle.event_facts.specs.Lines.{waiting_on, written_in}
use Rattle.event_facts.specs.declared.lines.Numbered.{Numbered}

-- the stores of some that have lines
abbrev pub stores_of : List Numbered → List Store
stores_of ws = map (λ (w : Numbered). w.store) ws

-- the first events of a history, so many: the last of them is that of the line with this number
abbrev pub first_of : ℕ → History → History
first_of n before = drop (length before - n) before

-- the stores that hart h executed in the last line of a history; none where that is another hart's
abbrev pub executed_last : ℕ → History → List Store
executed_last h [] = []
executed_last h (e ∷ before) = if is_of_hart h e then e.done.executed else []

-- whether a write entered memory in the last line of a history that has the byte at an address
abbrev pub is_written_last : History → ℕ → Bool
is_written_last [] a = false
is_written_last (e ∷ before) a = have_byte (bytes_of_all e.done.entered) a

-- the stores that are told to wait on hart h are those that wait there
abbrev pub AreWaiting : ℕ → History → Type 0
AreWaiting h before = stores_of (waiting_on h before) ≡ waiting h before

-- hart h executed a store in the line that is told of it
pub record IsExecuted (h : ℕ) (before : History) (w : Numbered) : Type 0 where
  pub within : w.line ≤ length before
  pub executed : Contains (executed_last h (first_of w.line before)) w.store

-- and so it is of each that is told to wait
abbrev pub AreExecuted : ℕ → History → Type 0
AreExecuted h before = All (λ w. IsExecuted h before w) (waiting_on h before)

-- the byte at an address was written in the line that is told to have written it last, in no line since, and is as it was once that line
-- was made. It is that of the start where no line is told
pub record IsAsWritten (s : Setting) (before : History) (a : ℕ) : Type 0 where
  pub line : written_in before a ≤ length before
  pub wrote : written_in before a ≢ 0 → is_written_last (first_of (written_in before a) before) a ≡ true
  pub since : (n : ℕ) → written_in before a < n → n ≤ length before → is_written_last (first_of n before) a ≡ false
  pub same : byte s before a ≡ byte s (first_of (written_in before a) before) a
