-- The outcome of a call: which status it answers, and what it wrote.
use Rattle.std.specs.Prelude.{ℕ, ◌≡◌, ◌≢◌, ◌⊎◌, List, Option, None, Some}
use Rattle.elf_load.specs.declared.fault.ElfFault.{ElfFault}
use Rattle.outside.specs.Counts.{NeverFalls, NoneFalls, Rose}
use Rattle.outside.specs.Told.{Gained, GainedPrefix}
use Rattle.call_reasons.specs.declared.faults.Fault.{Fault}
use Rattle.call_reasons.specs.declared.faults.Fault.TheVariants.{Usage, Read, Memory, Big, Elf, Script, Guest}
use Rattle.outcomes.specs.Causes.{HasBigFile, IsCause, IsOutsideGuest, IsRefusalOf, IsScriptRefusalOf, ReadFailed}
use Rattle.outcomes.specs.Judged.{IsMet, IsUnmet}
use Rattle.outcomes.specs.Needs.{needs_in}
use Rattle.outcomes.specs.Outputs.{IsOutput, IsPlainOutput}
use Rattle.outcomes.specs.Programs.{Files}
use Rattle.call_reasons.specs.FaultLines.{fault_line}
use Rattle.outcomes.specs.Told.{TellsBadScript, TellsBigFile, TellsFaultyProgram, TellsGoodFiles}
use Rattle.command_words.specs.Words.{command_of}

-- a call: its words, and its shelf and its sink before it and after it. Of a shelf that is the bytes of each
-- file, where they are told, and a count of faults of each name; of a sink what it holds, where that is told,
-- and a count of faults
pub record Call : Type 0 where
  pub words : List (List ℕ)
  pub files : Files
  pub files_after : Files
  pub read_faults : List ℕ → ℕ
  pub read_faults_after : List ℕ → ℕ
  pub held : Option (List ℕ)
  pub held_after : Option (List ℕ)
  pub write_faults : ℕ
  pub write_faults_after : ℕ

-- the call on these words, by its shelf before and after it and its sink before and after it, where this is how the files
-- and the faults of a shelf are seen, and what a sink holds and its faults
abbrev pub call_between : {Shelf Sink : Type 0} (file : Shelf → Files) (read_faults : Shelf → List ℕ → ℕ)
    (held : Sink → Option (List ℕ)) (write_faults : Sink → ℕ) (words : List (List ℕ)) (shelf shelf_after : Shelf)
    (sink sink_after : Sink) → Call
call_between file read_faults held write_faults words shelf shelf_after sink sink_after = record {
  words = words;
  files = file shelf;
  files_after = file shelf_after;
  read_faults = read_faults shelf;
  read_faults_after = read_faults shelf_after;
  held = held sink;
  held_after = held sink_after;
  write_faults = write_faults sink;
  write_faults_after = write_faults sink_after;
}

-- the sink gained this text
abbrev pub WroteText : Call → List ℕ → Type 0
WroteText call text = Gained call.held call.held_after text

-- the sink gained a text of which this holds
abbrev pub GainedOf : Option (List ℕ) → Option (List ℕ) → (List ℕ → Type 0) → Type 0
GainedOf held held_after P = (written : List ℕ) × P written × Gained held held_after written

abbrev pub Wrote : Call → (List ℕ → Type 0) → Type 0
Wrote call P = GainedOf call.held call.held_after P

-- the sink gained a prefix of a text of which this holds
abbrev pub WrotePrefix : Call → (List ℕ → Type 0) → Type 0
WrotePrefix call P = (written : List ℕ) × P written × GainedPrefix call.held call.held_after written

-- the line of the program of the words, which is refused
pub record IsElfLine (files : Files) (words : List (List ℕ)) (written : List ℕ) : Type 0 where
  pub fault : ElfFault
  pub refused : IsRefusalOf files (needs_in words) fault
  pub line : written ≡ fault_line (Elf fault)

-- the line of the script of the words, which is refused
pub record IsScriptLine (files : Files) (words : List (List ℕ)) (written : List ℕ) : Type 0 where
  pub number : ℕ
  pub refused : IsScriptRefusalOf files (needs_in words) number
  pub line : written ≡ fault_line (Script number)

-- the line of a number that is outside the range of the guest of the words
pub record IsGuestLine (words : List (List ℕ)) (written : List ℕ) : Type 0 where
  pub number : ℕ
  pub outside : IsOutsideGuest (needs_in words) number
  pub line : written ≡ fault_line (Guest number)

-- the line of a fault that has its cause
pub record IsFaultLine (call : Call) (written : List ℕ) : Type 0 where
  pub fault : Fault
  pub cause : IsCause call.files call.words call.read_faults call.read_faults_after fault
  pub line : written ≡ fault_line fault

-- the text that is due: the output of the words, or the line of a fault that has its cause
abbrev pub IsDue : Call → List ℕ → Type 0
IsDue call written = IsOutput call.files call.words written ⊎ IsFaultLine call written

-- a file that is needed couldn't be read
abbrev pub CouldNotRead : Call → Type 0
CouldNotRead call = ReadFailed call.files (needs_in call.words) call.read_faults call.read_faults_after

-- a write failed: the sink's count of faults rose
abbrev pub CouldNotWrite : Call → Type 0
CouldNotWrite call = Rose call.write_faults call.write_faults_after

-- no device failed
abbrev pub NoneFailed : Call → Type 0
NoneFailed call = ¬ (CouldNotRead call) × ¬ (CouldNotWrite call)

-- the statuses that can come
abbrev pub IsStatus : ℕ → Type 0
IsStatus status =
    (status ≡ 0) ⊎ (status ≡ 1) ⊎ (status ≡ 2) ⊎ (status ≡ 3) ⊎ (status ≡ 4)
    ⊎ (status ≡ 5) ⊎ (status ≡ 6) ⊎ (status ≡ 7) ⊎ (status ≡ 8) ⊎ (status ≡ 9)

-- what a call answers, and what it leaves
pub record IsOutcome (call : Call) (status : ℕ) : Type 0 where
  pub statuses : IsStatus status
  -- 0: the sink gained the output of the words, which is the plain machine's too
  pub done : status ≡ 0 → Wrote call (IsOutput call.files call.words)
  pub plain : status ≡ 0 → Wrote call (IsPlainOutput call.files call.words)
  -- and where an end is expected, all runs that are told ended so
  pub met : status ≡ 0 → Wrote call (IsMet call.files (command_of call.words))
  -- 1: the sink gained the output of the words, of which a run ended otherwise than was expected
  pub unmet : status ≡ 1 → Wrote call (IsUnmet call.files (command_of call.words))
  -- 2: the words are of no command; it yields to a failed write, and not to want of memory
  pub usage : status ≡ 2 → (command_of call.words ≡ None) × WroteText call (fault_line Usage)
  pub usage_always : command_of call.words ≡ None → (status ≡ 2) ⊎ (status ≡ 6)
  -- 3: the program is refused
  pub elf : status ≡ 3 → Wrote call (IsElfLine call.files call.words)
  pub elf_always : TellsFaultyProgram call.files (needs_in call.words)
      → NoneFailed call → (status ≡ 3) ⊎ (status ≡ 7)
  -- 4: the script is refused
  pub script : status ≡ 4 → Wrote call (IsScriptLine call.files call.words)
  pub script_always : TellsBadScript call.files (needs_in call.words)
      → NoneFailed call → (status ≡ 4) ⊎ (status ≡ 7)
  -- 5: a file that is needed couldn't be read
  pub read : status ≡ 5 → CouldNotRead call × WroteText call (fault_line Read)
  -- 6: a write failed, and the sink gained a prefix of what was due
  pub write : status ≡ 6 → CouldNotWrite call × WrotePrefix call (IsDue call)
  -- 7: memory ran out
  pub memory : status ≡ 7 → WroteText call (fault_line Memory)
  -- 8: a file that is needed has too many bytes
  pub big : status ≡ 8 → HasBigFile call.files (needs_in call.words) × WroteText call (fault_line Big)
  pub big_always : TellsBigFile call.files (needs_in call.words)
      → NoneFailed call → (status ≡ 8) ⊎ (status ≡ 7)
  -- 9: the number is outside the range of the guest
  pub guest : status ≡ 9 → Wrote call (IsGuestLine call.words)
  pub guest_always : (number : ℕ) → IsOutsideGuest (needs_in call.words) number
      → NoneFailed call → (status ≡ 9) ⊎ (status ≡ 7)
  -- where the files are told and good, or the guest takes its size, and no device fails, there is an output
  pub complete : TellsGoodFiles call.files (needs_in call.words)
      → NoneFailed call → (status ≡ 0) ⊎ (status ≡ 1) ⊎ (status ≡ 7)
  -- no file changes, and no count of faults falls
  pub files : call.files_after ≡ call.files
  pub shelf_counts : NoneFalls call.read_faults call.read_faults_after
  pub sink_counts : NeverFalls call.write_faults call.write_faults_after

-- the files of a shelf that tells the bytes of each
abbrev pub all_told : (List ℕ → List ℕ) → Files
all_told files = λ name. Some (files name)

-- the same over files and a sink that never fail: the bytes of each file are told, and neither 5 nor 6 comes
pub record IsSureOutcome
    (words : List (List ℕ)) (files : List ℕ → List ℕ) (held held_after : Option (List ℕ)) (status : ℕ)
    : Type 0 where
  pub statuses : IsStatus status
  pub no_read_fault : status ≢ 5
  pub no_write_fault : status ≢ 6
  -- 0: the sink gained the output of the words, which is the plain machine's too
  pub done : status ≡ 0 → GainedOf held held_after (IsOutput (all_told files) words)
  pub plain : status ≡ 0 → GainedOf held held_after (IsPlainOutput (all_told files) words)
  -- and where an end is expected, all runs that are told ended so
  pub met : status ≡ 0 → GainedOf held held_after (IsMet (all_told files) (command_of words))
  -- 1: the sink gained the output of the words, of which a run ended otherwise than was expected
  pub unmet : status ≡ 1 → GainedOf held held_after (IsUnmet (all_told files) (command_of words))
  -- 2: exactly where the words are of no command
  pub usage : status ≡ 2 → (command_of words ≡ None) × Gained held held_after (fault_line Usage)
  pub usage_always : command_of words ≡ None → status ≡ 2
  -- 3: the program is refused
  pub elf : status ≡ 3 → GainedOf held held_after (IsElfLine (all_told files) words)
  pub elf_always : TellsFaultyProgram (all_told files) (needs_in words) → (status ≡ 3) ⊎ (status ≡ 7)
  -- 4: the script is refused
  pub script : status ≡ 4 → GainedOf held held_after (IsScriptLine (all_told files) words)
  pub script_always : TellsBadScript (all_told files) (needs_in words) → (status ≡ 4) ⊎ (status ≡ 7)
  -- 7: memory ran out
  pub memory : status ≡ 7 → Gained held held_after (fault_line Memory)
  -- 8: a file that is needed has too many bytes
  pub big : status ≡ 8 → HasBigFile (all_told files) (needs_in words) × Gained held held_after (fault_line Big)
  pub big_always : TellsBigFile (all_told files) (needs_in words) → (status ≡ 8) ⊎ (status ≡ 7)
  -- 9: the number is outside the range of the guest
  pub guest : status ≡ 9 → GainedOf held held_after (IsGuestLine words)
  pub guest_always : (number : ℕ) → IsOutsideGuest (needs_in words) number → (status ≡ 9) ⊎ (status ≡ 7)
  -- where the files are good, or the guest takes its size, there is an output
  pub complete : TellsGoodFiles (all_told files) (needs_in words) → (status ≡ 0) ⊎ (status ≡ 1) ⊎ (status ≡ 7)
