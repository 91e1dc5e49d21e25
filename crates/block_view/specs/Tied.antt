-- How a ledger is tied to a place of a log: it keeps the acts as they stand there.
use Rattle.std.specs.Prelude.{ℕ, ◌≡◌, List, length, map, slice_get, nat_lt, if◌then◌else◌, Some, None}
use Rattle.mach_types.specs.declared.events.Tid.{Tid}
use Rattle.block_model.specs.Acts.{Sequence as Known, end_so_far, has_died, moved_out, sequence_on}
use Rattle.block_model.specs.Deciding.{history}
use Rattle.block_model.specs.History.{History}
use Rattle.block_model.specs.Setting.{Seen, Setting}
use Rattle.block_view.specs.Acts.{act_of}
use Rattle.block_view.specs.Ledgers.{Kept, going_on, hanging_of}
use Rattle.block_view.specs.Standing.{Standing, listed, standings, unended}
use Rattle.block_view.specs.Standing.Standing.{Over, Going, Hanging}
use Rattle.block_view.specs.declared.course.Course.{Course}
use Rattle.block_view.specs.declared.forms.Act.{Act}
use Rattle.block_view.specs.declared.ledger.Going.{Going as KeptGoing}
use Rattle.block_view.specs.declared.ledger.Hanging.{Hanging as KeptHanging}

-- an act stands so at a place among others
abbrev pub StandsAt : List Standing → ℕ → Standing → Type 0
StandsAt acts i x = slice_get acts i ≡ Some x

-- a sequence as it is kept, whose act stands at a place: one that goes on, and one that hangs
abbrev pub course_of : Setting → Known → Course
course_of s q = record { moved_out = moved_out s q; died = has_died q }

abbrev pub going_at : Setting → ℕ → Known → KeptGoing
going_at s i q = record { place = i; course = course_of s q }

abbrev pub tid_of : Known → Tid
tid_of q = record { 0 = q.thread }

abbrev pub hanging_at : ℕ → Known → KeptHanging
hanging_at i q = record { tid = tid_of q; hart = record { 0 = q.hart }; place = i }

-- a sequence of a thread hangs, whose act stands at a place
pub record HangsAt (acts : List Standing) (tid : Tid) (i : ℕ) : Type 0 where
  pub sequence : Known
  pub thread : sequence.thread ≡ tid.0
  pub stands : StandsAt acts i (Hanging sequence)

-- the acts are listed as they stand. Each sequence that goes on or hangs is kept with its place, and no other: none of a hart whose newest
-- event is of no sequence, and of a thread only one that hangs
pub record IsTied (s : Setting) (before : History) (k : Kept) : Type 0 where
  pub acts : k.acts ≡ map listed (standings s before)
  pub harts : length k.going ≡ s.limits.harts
  pub going : (i : ℕ) (q : Known) → StandsAt (standings s before) i (Going q) → going_on k q.hart ≡ Some (going_at s i q)
  pub rests : (h : ℕ) → sequence_on s h before ≡ None → going_on k h ≡ None
  pub hanging : (i : ℕ) (q : Known) → StandsAt (standings s before) i (Hanging q) → hanging_of k (tid_of q) ≡ Some (hanging_at i q)
  pub hangs : (tid : Tid) (x : KeptHanging) → hanging_of k tid ≡ Some x → HangsAt (standings s before) tid x.place

-- an act as it is listed once the sequences that go on on the harts below a number have ended, since the log does
abbrev pub closed_if : Setting → History → ℕ → Standing → Act
closed_if s all below (Over act) = act
closed_if s all below (Going q) =
    if nat_lt q.hart below then act_of (record { sequence = q; end = end_so_far s q all }) else unended q
closed_if s all below (Hanging q) = unended q

-- a ledger is tied to the log of a machine
abbrev pub IsOfLog : Seen → Kept → Type 0
IsOfLog m k = IsTied m.setting (history m.setting m.log) k
