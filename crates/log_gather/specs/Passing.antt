-- What is read of a machine before an event of a log, and what is seen of the event (own).
use Rattle.std.specs.Prelude.{ℕ, ◌≡◌, ◌<◌, Bool, true, false, length, map, nat_lt, slice_index_or, [], if◌then◌else◌, List, Option, None, is_none}
use Rattle.mach_types.specs.Events.{choice_of}
use Rattle.mach_types.specs.declared.events.Entry.{Entry}
use Rattle.process.specs.Sequences.{named_on}
use Rattle.block_model.specs.Deciding.{history}
use Rattle.block_model.specs.Events.{done_of}
use Rattle.block_model.specs.Footprints.{bytes_of_all}
use Rattle.block_model.specs.Here.{Here, runs}
use Rattle.block_model.specs.History.{here_in_history}
use Rattle.block_model.specs.PlainEvents.{is_plain, no_bytes, reserved_of}
use Rattle.block_model.specs.Run.{IsBlockRun}
use Rattle.block_model.specs.Setting.{Seen, Setting}
use Rattle.block_view.specs.Passing.{IsMadeBy}
use Rattle.log_gather.specs.declared.passing.Before.{Before}
use Rattle.log_gather.specs.declared.passing.Passage.{Passage}
use Rattle.log_gather.specs.declared.steps.Step.{Step}
use Rattle.log_gather.specs.Accesses.{bytes_in}
use Rattle.log_gather.specs.Facts.{facts_in, first_place, inside_on, touched_by}
use Rattle.log_gather.specs.Located.{at_end, located}
use Rattle.log_gather.specs.Marks.{are_known, steps_of}
use Rattle.log_gather.specs.Steps.{AllAwait, AreOfEight, facts_seen, footprint_seen, located_of, reserved_in}

-- what a rule may read where a machine has come to and hart h is asked
abbrev pub here_on : Seen → ℕ → Here
here_on m h = here_in_history m.setting (history m.setting m.log) h

-- what each hart of a machine has reserved; nothing past the last
abbrev pub reserved_on : Seen → ℕ → Option ℕ
reserved_on m k = if nat_lt k m.setting.limits.harts then (here_on m k).reserved else None

-- whether the thread on each is inside what its area names; no thread past the last
abbrev pub inside_there : Seen → ℕ → Bool
inside_there m k = if nat_lt k m.setting.limits.harts then inside_on (here_on m k) (runs (here_on m k)) else false

-- what is read before an entry is what its event touches, if it is plain, and what its thread's area names
pub record IsReadBefore (m : Seen) (e : Entry) (x : Before) : Type 0 where
  pub plain : x.plain ≡ is_plain (choice_of e) (here_on m e.hart.0)
  pub touched : footprint_seen x.access x.looked_at ≡ (if x.plain then touched_by (choice_of e) (here_on m e.hart.0) else no_bytes)
  pub reserves : x.access.reserves ≡ (if x.plain then reserved_of (choice_of e) (here_on m e.hart.0) else None)
  pub entered : bytes_in x.access.entered ≡ (if x.plain then bytes_of_all (done_of (choice_of e) (here_on m e.hart.0)).entered else [])
  pub named : x.named ≡ named_on (here_on m e.hart.0)
  pub idle : x.idle ≡ is_none (runs (here_on m e.hart.0))
  pub reserved : (k : ℕ) → reserved_in x.reserved k ≡ reserved_on m k
  pub eight : length x.reserved ≡ 8

-- a machine made an entry, and this is its event, where its hart's event before it was of a sequence or wasn't
pub record IsSeen (m m' : Seen) (e : Entry) (was : Bool) (x : Step) : Type 0 where
  pub hart : e.hart.0 < m.setting.limits.harts
  pub made : IsMadeBy m m' e
  pub facts : facts_seen x ≡ facts_in (here_on m e.hart.0) was e
  pub reserved : (k : ℕ) → reserved_in x.reserved k ≡ reserved_on m k
  pub eight : length x.reserved ≡ 8
  pub awaits : x.awaits ≡ x.begins

-- what was seen of a log, which is a block run
pub record IsPassage (s : Setting) (log : List Entry) (x : Passage) : Type 0 where
  pub block_run : IsBlockRun s log
  pub steps : map located_of (steps_of x.details x.marks.items) ≡ located s (first_place s) log
  pub harts : AreOfEight (steps_of x.details x.marks.items)
  pub awaits : AllAwait (steps_of x.details x.marks.items)
  pub known : are_known x.details x.marks.items ≡ true
  pub inside : (k : ℕ) → slice_index_or x.inside_at_end k false ≡ at_end s log k
