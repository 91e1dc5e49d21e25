-- What an entry makes of the counts so far, as a counter keeps them. It keeps what a ledger does, with the counts of each hart in place
-- of the acts: a sequence that has no end yet is counted as unended.
use Rattle.std.specs.Prelude.{ℕ, ◌+◌, ◌-◌, ◌≡◌, ◌<◌, ◌≤◌, ◌^◌, ◌==◌, List, [], ◌∷◌, ◌++◌, length, map, filter, find, replicate, slice_get, slice_set, slice_index_or, Bool, ◌&&◌, not, if◌then◌else◌, Option, Some, None, is_some}
use Rattle.std.specs.Option.{option_map}
use Rattle.mach_types.specs.Limits.{InRange}
use Rattle.mach_types.specs.Events.{is_run}
use Rattle.mach_types.specs.declared.events.Entry.{Entry}
use Rattle.mach_types.specs.declared.events.Tid.{Tid}
use Rattle.block_model.specs.declared.acts.SeqEnd.{SeqEnd}
use Rattle.block_model.specs.declared.acts.SeqEnd.TheVariants as ends
use Rattle.block_model.specs.Setting.{Seen, Setting}
use Rattle.block_view.specs.Acts.{acts_of, form_alone}
use Rattle.block_view.specs.Counting.{counted, counted_end, counts_of, no_counts, total}
use Rattle.block_view.specs.Ledgers.{Kept, begins, course_by, end_by, end_here, going_on, gone_by, is_more, leaves_inside, verdict_by}
use Rattle.block_view.specs.Passing.{IsMadeAgain}
use Rattle.block_view.specs.Tied.{IsOfLog}
use Rattle.block_view.specs.declared.counter.Counter.{Counter}
use Rattle.block_view.specs.declared.counter.HartCount.{HartCount}
use Rattle.block_view.specs.declared.counter.Hung.{Hung}
use Rattle.block_view.specs.declared.course.Course.{Course}
use Rattle.block_view.specs.declared.forms.Form.TheVariants.{Sequence}
use Rattle.block_view.specs.declared.ledger.Hanging.{Hanging}
use Rattle.block_view.specs.declared.passing.Passed.{Passed}
use Rattle.block_view.specs.declared.tally.Counts.{Counts}

-- WHAT IS KEPT

-- what is counted of each hart, and the sequences that hang
pub record KeptCounts : Type 0 where
  pub harts : List HartCount
  pub hanging : List Hung

abbrev pub kept_counts : Counter → KeptCounts
kept_counts counter = record { harts = counter.harts.items; hanging = counter.hanging.items }

-- of a hart with no acts, and of a log with no entries, on so many harts
abbrev pub nothing_done : HartCount
nothing_done = record { counts = no_counts; going = None }

abbrev pub nothing_counted : ℕ → KeptCounts
nothing_counted harts = record { harts = replicate harts nothing_done; hanging = [] }

-- of a hart
abbrev pub hart_in : KeptCounts → ℕ → HartCount
hart_in t h = slice_index_or t.harts h nothing_done

-- the sequence of a thread that hangs
abbrev pub is_hung : Tid → Hung → Bool
is_hung tid x = x.tid.0 == tid.0

abbrev pub hung_of : KeptCounts → Tid → Option Hung
hung_of t tid = find (is_hung tid) t.hanging

-- WHAT AN ENTRY MAKES OF A HART

-- a sequence that was unended ends
abbrev pub ended_one : SeqEnd → Counts → Counts
ended_one end counts = counted_end end (record counts { unended = counts.unended - 1 })

abbrev pub with_ended : SeqEnd → HartCount → HartCount
with_ended end x = record x { counts = ended_one end x.counts }

-- the entry is an act by itself
abbrev pub with_alone : Passed → HartCount → HartCount
with_alone p x = record x { counts = counted (form_alone p.entry.kind) x.counts }

-- a sequence begins
abbrev pub with_begun : Passed → HartCount → HartCount
with_begun p x = record { counts = counted (Sequence ends.Unended) x.counts; going = Some (course_by p) }

-- its sequence goes on no longer: it stays unended where its thread is preempted inside, and else ends
abbrev pub halted : Course → Passed → HartCount → HartCount
halted c p x = record {
  counts = if leaves_inside p then x.counts else ended_one (end_by c p) x.counts;
  going = None;
}

-- where a sequence goes on on the hart, and where none does
abbrev pub hart_noted_in : Option Course → Passed → HartCount → HartCount
hart_noted_in None p x = if begins p then with_begun p x else with_alone p x
hart_noted_in (Some c) p x = if is_more p then record x { going = Some (gone_by c p) } else with_alone p (halted c p x)

abbrev pub hart_noted : Passed → HartCount → HartCount
hart_noted p x = hart_noted_in x.going p x

-- WHAT AN ENTRY MAKES OF ALL

abbrev pub with_hart : ℕ → HartCount → KeptCounts → KeptCounts
with_hart h x t = record t { harts = slice_set t.harts h x }

-- no sequence of a thread hangs any more
abbrev pub without_hung : Tid → KeptCounts → KeptCounts
without_hung tid t = record t { hanging = filter (λ x. not (is_hung tid x)) t.hanging }

-- the sequence of the thread that begins to run ends, if one hangs
abbrev pub count_settled_by : Passed → Option Hung → KeptCounts → KeptCounts
count_settled_by p None t = t
count_settled_by p (Some x) t = without_hung p.entry.tid (with_hart x.hart.0 (with_ended (verdict_by p) (hart_in t x.hart.0)) t)

abbrev pub count_settled : Passed → KeptCounts → KeptCounts
count_settled p t = if is_run p.entry.kind then count_settled_by p (hung_of t p.entry.tid) t else t

-- the sequence of its hart hangs from now on, where the entry preempts its thread inside it
abbrev pub hung_now : Passed → KeptCounts → KeptCounts
hung_now p t =
    if leaves_inside p && is_some (hart_in t p.entry.hart.0).going then
    record t { hanging = t.hanging ++ record { tid = p.entry.tid; hart = p.entry.hart } ∷ [] }
    else t

-- all that it makes of them
abbrev pub hart_noted_of : Passed → KeptCounts → KeptCounts
hart_noted_of p t = with_hart p.entry.hart.0 (hart_noted p (hart_in t p.entry.hart.0)) t

unfoldable pub count_noted : Passed → KeptCounts → KeptCounts
count_noted p t = hart_noted_of p (hung_now p (count_settled p t))

-- the counts of a hart where the log ends, with the hart's thread inside or not
abbrev pub counts_by : Option Course → Bool → Counts → Counts
counts_by None inside counts = counts
counts_by (Some c) inside counts = ended_one (end_here c inside) counts

abbrev pub counts_at_end : Bool → HartCount → Counts
counts_at_end inside x = counts_by x.going inside x.counts

-- WHAT CAN BE COUNTED

-- a sequence that is unended can end
pub record CanEnd (counts : Counts) : Type 0 where
  pub one : 1 ≤ counts.unended
  pub few : total counts < 2 ^ 32

-- a hart's counts can take in an entry
pub record CanCount (x : HartCount) : Type 0 where
  pub few : total x.counts + 1 < 2 ^ 32
  pub going : (c : Course) → x.going ≡ Some c → CanEnd x.counts

-- and so can those of all harts
pub record CanNote (p : Passed) (t : KeptCounts) : Type 0 where
  pub hart : p.entry.hart.0 < length t.harts
  pub hung : (x : Hung) → hung_of t p.entry.tid ≡ Some x → (x.hart.0 < length t.harts) × CanEnd (hart_in t x.hart.0).counts
  pub counts : CanCount (hart_in (count_settled p t) p.entry.hart.0)

-- A COUNTER BESIDE A LEDGER

-- what a counter keeps of a hart, and of a sequence that hangs
abbrev pub hart_of : Kept → ℕ → HartCount
hart_of k h = record { counts = counts_of k.acts h; going = option_map (λ g. g.course) (going_on k h) }

abbrev pub hung_as : Hanging → Hung
hung_as x = record { tid = x.tid; hart = x.hart }

-- it counts what a ledger lists
pub record CountsAs (k : Kept) (t : KeptCounts) : Type 0 where
  pub harts : length t.harts ≡ length k.going
  pub each : (h : ℕ) → h < length k.going → hart_in t h ≡ hart_of k h
  pub hanging : t.hanging ≡ map hung_as k.hanging

-- it counts the acts of the log of a machine: it counts what a ledger lists that is tied to the log
pub record IsCountOf (m : Seen) (t : KeptCounts) : Type 0 where
  pub ledger : Kept
  pub tied : IsOfLog m ledger
  pub counts : CountsAs ledger t

-- a machine made one entry more, of which this is seen, where a counter counts the acts of the log before it
pub record HasNextCounted (t : KeptCounts) (passed : Passed) : Type 0 where
  pub earlier : Seen
  pub now : Seen
  pub entry : Entry
  pub limits : InRange earlier.setting.limits
  pub counted : IsCountOf earlier t
  pub made : IsMadeAgain earlier now entry passed

-- these are the counts of the first harts of a log, so many; and of all its harts
pub record HasCounts (s : Setting) (log : List Entry) (many : ℕ) (list : List Counts) : Type 0 where
  pub harts : length list ≡ many
  pub counts : (h : ℕ) → h < many → slice_get list h ≡ Some (counts_of (acts_of s log) h)

abbrev pub AreCounts : Setting → List Entry → List Counts → Type 0
AreCounts s log list = HasCounts s log s.limits.harts list
