-- What is seen of an entry as it is made again: of its hart before it, of what it did, and of its hart after it.
use Rattle.std.specs.Prelude.{ℕ, ◌≡◌, ◌++◌, [], ◌∷◌, Bool, true, false, not, if◌then◌else◌, Ok, Option, Some, None, is_none, is_some}
use Rattle.std.specs.Option.{option_map_or}
use Rattle.mach_types.specs.Events.{choice_of, is_interrupting, nature_of}
use Rattle.mach_types.specs.Kernel.Areas.{is_inside}
use Rattle.mach_types.specs.declared.events.Entry.{Entry}
use Rattle.mach_types.specs.declared.events.Kind.{Kind}
use Rattle.mach_types.specs.declared.limits.End.{End}
use Rattle.mach_types.specs.declared.limits.End.TheVariants as over
use Rattle.mach_types.specs.declared.sequences.Named.{Named}
use Rattle.mach_types.specs.declared.sequences.Named.TheVariants as names
use Rattle.mach_types.specs.declared.sequences.Seq.{Seq}
use Rattle.block_model.specs.Acts.{named_at}
use Rattle.block_model.specs.Deciding.{decide, event, history}
use Rattle.block_model.specs.History.{Event, History, file, restart, running}
use Rattle.block_model.specs.Run.{IsBlockRun}
use Rattle.block_model.specs.Setting.{Setting, Seen}
use Rattle.block_view.specs.Acts.{next_number}
use Rattle.block_view.specs.declared.passing.Ahead.{Ahead}
use Rattle.block_view.specs.declared.passing.Passed.{Passed}

-- the sequence that a thread at a pc is inside, by what its area names
abbrev pub sequence_inside : Named → ℕ → Option Seq
sequence_inside names.Nothing pc = None
sequence_inside (names.Good sequence) pc = if is_inside sequence pc then Some sequence else None
sequence_inside (names.Bad why) pc = None

-- the pc of the thread on hart h; 0 on an idle hart
abbrev pub pc_at : Setting → ℕ → History → ℕ
pc_at s h before = option_map_or (λ t. (file s t before).pc) (running s h before) 0

-- the sequence that the thread on hart h is inside
abbrev pub inside_at : Setting → ℕ → History → Option Seq
inside_at s h before = sequence_inside (named_at s h before) (pc_at s h before)

-- whether an event of this kind interrupts a thread on its hart, where a request there asks for a restart or doesn't, and the hart is
-- idle or isn't
abbrev pub would_interrupt : Kind → Bool → Bool → Bool
would_interrupt k restart idle = is_interrupting (nature_of k).interruption restart (not idle)

-- whether a signal ended the process
abbrev pub is_by_signal : End → Bool
is_by_signal (over.Killed signal) = true
is_by_signal other = false

abbrev pub is_killed : Option End → Bool
is_killed end = option_map_or is_by_signal end false

-- what is seen of an event
unfoldable pub passed_of : Setting → Event → History → Passed
passed_of s e before = record {
  number = next_number before;
  entry = e.entry;
  inside = inside_at s e.entry.hart.0 before;
  interrupts = is_some e.done.interrupted;
  killed = is_killed e.done.ended;
  pc = pc_at s e.entry.hart.0 (e ∷ before);
}

-- an entry is the one that is decided at the end of a machine's log
abbrev pub IsDecided : Seen → Entry → Type 0
IsDecided m entry = decide m.setting (history m.setting m.log) entry.hart.0 (choice_of entry) ≡ Ok entry

-- a machine made it
pub record IsMadeBy (m m' : Seen) (entry : Entry) : Type 0 where
  pub decided : IsDecided m entry
  pub longer : m' ≡ record m { log = m.log ++ entry ∷ [] }
  pub block_run : IsBlockRun m'.setting m'.log

-- and this is seen of it
pub record IsMadeAgain (m m' : Seen) (entry : Entry) (passed : Passed) : Type 0 where
  pub made : IsMadeBy m m' entry
  pub seen : passed ≡ passed_of m.setting (event m.setting (history m.setting m.log) entry) (history m.setting m.log)

-- this is seen of a hart ahead of an event of this kind: the sequence that its thread is inside, and whether the event would interrupt a thread
pub record IsAheadOf (m : Seen) (h : ℕ) (kind : Kind) (ahead : Ahead) : Type 0 where
  pub inside : ahead.inside ≡ inside_at m.setting h (history m.setting m.log)
  pub interrupts : ahead.interrupts
      ≡ would_interrupt kind (restart h (history m.setting m.log)) (is_none (running m.setting h (history m.setting m.log)))

-- and of its hart ahead of an entry
abbrev pub IsAhead : Seen → Entry → Ahead → Type 0
IsAhead m entry ahead = IsAheadOf m entry.hart.0 entry.kind ahead
