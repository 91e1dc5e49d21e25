-- The events of a log with what each of them reads and writes, and what keeps the events of a sequence from being gathered (own).
use Rattle.std.specs.Prelude.{ℕ, ◌&&◌, ◌||◌, Bool, not, List, [], ◌∷◌, ◌++◌, filter, if◌then◌else◌, Option, Some, None}
use Rattle.std.specs.List.{list_all}
use Rattle.mach_types.specs.declared.events.Entry.{Entry}
use Rattle.rv_inst.specs.Accesses.{Bytes, bytes}
use Rattle.block_model.specs.Footprints.{overlap_any}
use Rattle.block_model.specs.Setting.{Setting}
use Rattle.log_gather.specs.Facts.{Facts, Place, facts_at, here_at, is_of, next_place}

-- an event of a log: its facts; and the bytes that its hart has reserved before it, where it is of a sequence
pub record LogEvent : Type 0 where
  pub facts : Facts
  pub held : List Bytes

-- each event of a sequence reads the aligned 8 bytes that its hart has reserved
abbrev pub held_by : Bool → Option ℕ → List Bytes
held_by within None = []
held_by within (Some r) = if within then bytes r 8 ∷ [] else []

-- an entry at a place; and the entries of a stretch of a log from a place on
abbrev pub log_event : Setting → Place → Entry → LogEvent
log_event s p e = record { facts = facts_at s p e; held = held_by (facts_at s p e).within (here_at s p e).reserved }

abbrev pub log_events : Setting → Place → List Entry → List LogEvent
log_events s p [] = []
log_events s p (e ∷ rest) = log_event s p e ∷ log_events s (next_place s p e) rest

abbrev pub facts_of : LogEvent → Facts
facts_of x = x.facts

abbrev pub entry_of : LogEvent → Entry
entry_of x = x.facts.entry

-- what it reads and writes
abbrev pub reads_of : LogEvent → List Bytes
reads_of x = x.facts.touched.reads ++ x.held

abbrev pub writes_of : LogEvent → List Bytes
writes_of x = x.facts.touched.writes

-- whether it is one of hart h
abbrev pub is_own : ℕ → LogEvent → Bool
is_own h x = is_of h (entry_of x)

-- the events of hart h in a span, and those of others
abbrev pub own_of : ℕ → List LogEvent → List LogEvent
own_of h span = filter (is_own h) span

abbrev pub others_of : ℕ → List LogEvent → List LogEvent
others_of h span = filter (λ x. not (is_own h x)) span

-- whether one writes a byte that the other reads or writes
abbrev pub clash : LogEvent → LogEvent → Bool
clash x y =
    overlap_any (writes_of x) (reads_of y) || (overlap_any (writes_of x) (writes_of y) || overlap_any (writes_of y) (reads_of x))

-- whether an event clashes with none of others
abbrev pub clashes_with_none : List LogEvent → LogEvent → Bool
clashes_with_none others x = list_all (λ y. not (clash x y)) others

-- whether the events of a span are all plain, and none of hart h clashes with one of another hart
abbrev pub is_undisturbed : ℕ → List LogEvent → Bool
is_undisturbed h span =
    list_all (λ x. x.facts.plain) span && list_all (clashes_with_none (others_of h span)) (own_of h span)

-- a sequence: its hart, and its number among the hart's acts
pub record Name : Type 0 where
  pub hart : ℕ
  pub number : ℕ
