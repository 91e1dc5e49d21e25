-- The events of a log with what every hart has reserved before each of them: enough to gather sequence by sequence, where only what was
-- reserved within a span is found anew (own).
use Rattle.std.specs.Prelude.{ℕ, ◌==◌, Bool, not, List, [], ◌∷◌, ◌++◌, filter, fold, map, if◌then◌else◌, Option, unwrap_or}
use Rattle.mach_types.specs.declared.events.Entry.{Entry}
use Rattle.rv_inst.specs.Execution.{lost_by}
use Rattle.rv_inst.specs.Accesses.{Bytes}
use Rattle.block_model.specs.Setting.{Setting}
use Rattle.log_gather.specs.Facts.{Facts, Place, facts_at, is_of, next_place, place_after}
use Rattle.log_gather.specs.LogEvents.{LogEvent, Name, held_by}
use Rattle.log_gather.specs.Spans.{after_from, before_act, from_act, is_inside_at_place, is_private, span_from}

pub record Located : Type 0 where
  pub facts : Facts
  pub reserved : ℕ → Option ℕ

abbrev pub facts_in : Located → Facts
facts_in x = x.facts

abbrev pub entry_in : Located → Entry
entry_in x = x.facts.entry

-- as an event of a log
abbrev pub event_in : Located → LogEvent
event_in x = record { facts = x.facts; held = held_by x.facts.within (x.reserved x.facts.entry.hart.0) }

-- the entries of a stretch of a log, from a place on
abbrev pub located : Setting → Place → List Entry → List Located
located s p [] = []
located s p (e ∷ rest) = record { facts = facts_at s p e; reserved = p.machine.reserved } ∷ located s (next_place s p e) rest

-- what each hart has reserved after a plain event
abbrev pub lost_to_bytes : List Bytes → Option ℕ → Option ℕ
lost_to_bytes [] r = r
lost_to_bytes (x ∷ xs) r = lost_to_bytes xs (lost_by x.at x.count r)

abbrev pub reserved_next : Facts → (ℕ → Option ℕ) → ℕ → Option ℕ
reserved_next t reserved k = if t.entry.hart.0 == k then unwrap_or t.reserves (reserved k) else lost_to_bytes t.entered (reserved k)

-- plain events with these facts, where this is reserved before the first
abbrev pub located_from : (ℕ → Option ℕ) → List Facts → List Located
located_from reserved [] = []
located_from reserved (t ∷ ts) = record { facts = t; reserved = reserved } ∷ located_from (reserved_next t reserved) ts

-- a span with the events of others before those of hart h
abbrev pub own_in : ℕ → List Located → List Located
own_in h span = filter (λ x. is_of h x.facts.entry) span

abbrev pub others_in : ℕ → List Located → List Located
others_in h span = filter (λ x. not (is_of h x.facts.entry)) span

abbrev pub moved_in : ℕ → List Located → List Located
moved_in h [] = []
moved_in h (x ∷ xs) = located_from x.reserved (map facts_in (others_in h (x ∷ xs) ++ own_in h (x ∷ xs)))

abbrev pub moved_if : Bool → ℕ → List Located → List Located
moved_if private h span = if private then moved_in h span else span

-- the events of a log, once a sequence was gathered, if it is private
abbrev pub gather_located : (ℕ → Bool) → List Located → Name → List Located
gather_located at_end all x =
    let from = from_act facts_in x.hart x.number all in
    let span = span_from facts_in x.hart from in
    let later = after_from facts_in x.hart from in
    before_act facts_in x.hart x.number all
    ++ (moved_if (is_private x.hart (at_end x.hart) (map event_in span) (map event_in later)) x.hart span ++ later)

-- whether the thread on each hart is inside at the end of a log
abbrev pub at_end : Setting → List Entry → ℕ → Bool
at_end s log h = is_inside_at_place s (place_after s log) h

-- the gathered log by these, where the names of its sequences are given
abbrev pub gathered_by_events : (ℕ → Bool) → List Name → List Located → List Entry
gathered_by_events at_end names all = map entry_in (fold (gather_located at_end) all names)
