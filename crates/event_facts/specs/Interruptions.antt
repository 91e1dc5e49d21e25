-- The facts of interruptions (rseq(2); uapi linux/rseq.h): what that of an event's thread came to, and which word was wrong where it killed
-- the process. They are read at the place after the event: an interruption that kills writes nothing.
use Rattle.std.specs.Prelude.{ℕ, ◌-◌, ◌==◌, List, if◌then◌else◌, Option, Some, None, nat_le}
use Rattle.std.specs.Option.{option_map, option_to_list}
use Rattle.mach_types.specs.Bytes.{word_at}
use Rattle.mach_types.specs.declared.address_space.TheConstants.{USER_END}
use Rattle.mach_types.specs.declared.events.Choice.{Choice}
use Rattle.mach_types.specs.declared.events.Entry.{Entry}
use Rattle.mach_types.specs.declared.sequences.Area.{Area}
use Rattle.mach_types.specs.declared.sequences.BadWhy.{BadWhy}
use Rattle.mach_types.specs.declared.sequences.BadWhy.TheVariants as bad
use Rattle.mach_types.specs.declared.sequences.Outcome.{Outcome}
use Rattle.mach_types.specs.declared.sequences.Outcome.TheVariants as comes_to
use Rattle.mach_types.specs.declared.sequences.TheConstants.{FLAGS, RSEQ_CS}
use Rattle.rv_inst.specs.Execution.{word_seen}
use Rattle.rv_inst.specs.Words.{sum_64}
use Rattle.block_model.specs.Events.{done_of}
use Rattle.block_model.specs.Here.{Here, view}
use Rattle.block_model.specs.Sequences.{area_here}
use Rattle.fact_types.specs.declared.facts.Fact.{Fact}
use Rattle.fact_types.specs.declared.facts.Fact.TheVariants.{Interrupted}
use Rattle.fact_types.specs.declared.interruptions.Interruption.{Interruption}
use Rattle.fact_types.specs.declared.interruptions.Interruption.TheVariants as told
use Rattle.fact_types.specs.declared.interruptions.WrongWord.{WrongWord}
use Rattle.event_facts.specs.declared.deeds.Range.{Range}

-- WHICH WORD IS WRONG

-- a field of so many bytes, behind an address; and the number that stands there, 0 where a byte of it can't be read
abbrev pub field : ℕ → ℕ → ℕ → Range
field at offset size = record { at = sum_64 at offset; size = size }

abbrev pub number_in : (ℕ → Option ℕ) → Range → ℕ
number_in byte x = word_seen byte x.at x.size

-- `struct rseq`: the pointer of an area and its flags
abbrev pub pointer_field : Area → Range
pointer_field area = field area.at RSEQ_CS 8

abbrev pub area_flags_field : Area → Range
area_flags_field area = field area.at FLAGS 4

-- `struct rseq_cs`: the version of a descriptor, its flags, the start of the sequence, its length, and the abort handler
abbrev pub version_field : ℕ → Range
version_field at = record { at = at; size = 4 }

abbrev pub flags_field : ℕ → Range
flags_field at = field at 4 4

abbrev pub start_field : ℕ → Range
start_field at = field at 8 8

abbrev pub length_field : ℕ → Range
length_field at = field at 16 8

abbrev pub abort_field : ℕ → Range
abort_field at = field at 24 8

-- of a sequence that isn't below the end of addresses: its start or its abort handler, where that isn't, else the length
abbrev pub far_field : (ℕ → Option ℕ) → ℕ → Range
far_field byte at =
    if nat_le USER_END (number_in byte (start_field at)) then start_field at
    else if nat_le USER_END (number_in byte (abort_field at)) then abort_field at
    else length_field at

-- of one without the signature: the word before the abort handler, or the abort handler where there is none before it
abbrev pub signature_field : (ℕ → Option ℕ) → ℕ → Range
signature_field byte at =
    let abort = number_in byte (abort_field at) in
    if nat_le 4 abort then record { at = abort - 4; size = 4 } else abort_field at

-- of flags that are set: the area's, where there are any, else the descriptor's
abbrev pub set_field : (ℕ → Option ℕ) → Area → ℕ → Range
set_field byte area at = if number_in byte (area_flags_field area) == 0 then flags_field at else area_flags_field area

-- the field for which an area was bad. One that can't be read or written is told by its pointer, and a descriptor by its version: their first
-- words
abbrev pub wrong_field : (ℕ → Option ℕ) → Area → BadWhy → Range
wrong_field byte area bad.AreaBytes = pointer_field area
wrong_field byte area bad.Pointer = pointer_field area
wrong_field byte area bad.Descriptor = version_field (number_in byte (pointer_field area))
wrong_field byte area bad.Version = version_field (number_in byte (pointer_field area))
wrong_field byte area bad.Range = far_field byte (number_in byte (pointer_field area))
wrong_field byte area bad.AbortInside = abort_field (number_in byte (pointer_field area))
wrong_field byte area bad.Signature = signature_field byte (number_in byte (pointer_field area))
wrong_field byte area bad.SeqFlags = set_field byte area (number_in byte (pointer_field area))

-- the word in a field, where it can be read
abbrev pub word_in : (ℕ → Option ℕ) → Range → WrongWord
word_in byte x = record { at = x.at; value = word_at byte x.at x.size }

-- WHAT IT CAME TO

-- of a thread with this area, which was at this pc; one without an area can't be interrupted in anything
abbrev pub told_of : (ℕ → Option ℕ) → Area → ℕ → Outcome → Interruption
told_of byte area pc comes_to.Nothing = told.Nothing
told_of byte area pc comes_to.Cleared = told.Cleared
told_of byte area pc (comes_to.Aborted at) = told.Aborted pc at
told_of byte area pc (comes_to.Killed why) = told.Killed why (word_in byte (wrong_field byte area why))

abbrev pub interruption_of : (ℕ → Option ℕ) → Option Area → ℕ → Outcome → Interruption
interruption_of byte None pc o = told.Nothing
interruption_of byte (Some area) pc o = told_of byte area pc o

-- what the interruption of its thread comes to by an event, where that interrupts it
abbrev pub came_by : Choice → Here → Option Outcome
came_by c here = (done_of c here).interrupted

-- the fact of an entry, at the place after it, whose interruption came to this
abbrev pub interrupted_fact : Here → Entry → Outcome → Fact
interrupted_fact after entry o = Interrupted (interruption_of (view after) (area_here after entry.tid.0) entry.pc o)

abbrev pub interrupted_facts : Here → Entry → Option Outcome → List Fact
interrupted_facts after entry came = option_to_list (option_map (interrupted_fact after entry) came)
