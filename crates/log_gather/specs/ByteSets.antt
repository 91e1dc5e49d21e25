-- Sets of bytes of memory, and what the events of a sequence touch, as code keeps them (own).
use Rattle.std.specs.Prelude.{ℕ, ◌+◌, ◌<◌, ◌≤◌, ◌≡◌, ◌&&◌, ◌||◌, Bool, true, false, not, List, length, nat_eq, nat_le, nat_lt, Option, []}
use Rattle.std.specs.HashSet.{contains}
use Rattle.std.specs.Option.{option_map_or}
use Rattle.std.specs.List.{flat_map, list_any, range_with_len}
use Rattle.rv_inst.specs.Accesses.{Bytes}
use Rattle.block_model.specs.Footprints.{has_byte, have_byte}
use Rattle.rseq_area.specs.declared.lookups.Lookups.{Lookups}
use Rattle.log_gather.specs.LogEvents.{LogEvent, is_own, reads_of, writes_of}
use Rattle.log_gather.specs.Lookups.{bytes_looked_at}
use Rattle.log_gather.specs.declared.byte_sets.ByteSet.{ByteSet}
use Rattle.log_gather.specs.declared.byte_sets.Extent.{Extent}
use Rattle.log_gather.specs.declared.byte_sets.TheConstants.{MOST_EXTENTS}
use Rattle.log_gather.specs.declared.clashes.Touched.{Touched}

-- whether the byte at an address is in an extent; whether the bytes between two addresses are all in it, and whether one of them is
abbrev pub in_extent : ℕ → Extent → Bool
in_extent a x = nat_le x.at a && nat_lt a x.end

abbrev pub covers : ℕ → ℕ → Extent → Bool
covers at end x = nat_le x.at at && nat_le end x.end

abbrev pub meets : ℕ → ℕ → Extent → Bool
meets at end x = nat_lt x.at end && (nat_lt at x.end && (nat_lt x.at x.end && nat_lt at end))

-- whether the byte at an address was added by itself; whether it is in a set
abbrev pub has_each : ByteSet → ℕ → Bool
has_each s a = contains nat_eq s.bytes a

abbrev pub holds : ByteSet → ℕ → Bool
holds s a = list_any (in_extent a) s.extents.items || has_each s a

-- each byte of a set is in its bounds, and none was added by itself while there was room for extents
pub record IsBounded (s : ByteSet) : Type 0 where
  pub within : (a : ℕ) → holds s a ≡ true → (s.lowest ≤ a) × (a < s.end)
  pub extents_first : length s.extents.items < MOST_EXTENTS → (a : ℕ) → has_each s a ≡ false

-- a set to which the bytes between two addresses were added each by itself
pub record HasEach (s : ByteSet) (at past : ℕ) (t : ByteSet) : Type 0 where
  pub members : (a : ℕ) → has_each t a ≡ (has_each s a || (nat_le at a && nat_lt a past))
  pub extents : t.extents ≡ s.extents
  pub lowest : t.lowest ≡ s.lowest
  pub end : t.end ≡ s.end

-- whether one of these bytes has this, and one of those of several ranges
abbrev pub any_byte : (ℕ → Bool) → Bytes → Bool
any_byte has x = list_any (λ k. has (x.at + k)) (range_with_len 0 x.count)

abbrev pub any_in : (ℕ → Bool) → List Bytes → Bool
any_in has ys = list_any (any_byte has) ys

-- a set with these bytes more
pub record IsWith (s : ByteSet) (x : Bytes) (t : ByteSet) : Type 0 where
  pub members : (a : ℕ) → holds t a ≡ (holds s a || has_byte x a)
  pub bounded : IsBounded t

-- a set with the bytes of these ranges more
pub record AreWith (s : ByteSet) (xs : List Bytes) (t : ByteSet) : Type 0 where
  pub members : (a : ℕ) → holds t a ≡ (holds s a || have_byte xs a)
  pub bounded : IsBounded t

-- a set of the bytes of these ranges
pub record IsSetOf (xs : List Bytes) (s : ByteSet) : Type 0 where
  pub members : (a : ℕ) → holds s a ≡ have_byte xs a
  pub bounded : IsBounded s

-- what these events touch; the bytes at which the check of the last area looked are among those that they read
pub record IsTouched (events : List LogEvent) (t : Touched) : Type 0 where
  pub reads : IsSetOf (flat_map reads_of events) t.reads
  pub writes : IsSetOf (flat_map writes_of events) t.writes
  pub last : (a : ℕ) → have_byte (option_map_or bytes_looked_at t.last []) a ≡ true → holds t.reads a ≡ true

-- whether an event touches what is written, or writes what is read
abbrev pub clashes_in : Touched → LogEvent → Bool
clashes_in t y =
    any_in (holds t.reads) (writes_of y) || (any_in (holds t.writes) (writes_of y) || any_in (holds t.writes) (reads_of y))

-- whether an event isn't plain, or is one of another hart than h that does
abbrev pub disturbs : Touched → ℕ → LogEvent → Bool
disturbs t h y = not y.facts.plain || (not (is_own h y) && clashes_in t y)

-- what is touched so far can be added to
pub record IsReady (t : Touched) : Type 0 where
  pub reads : IsBounded t.reads
  pub writes : IsBounded t.writes
  pub last : (a : ℕ) → have_byte (option_map_or bytes_looked_at t.last []) a ≡ true → holds t.reads a ≡ true

-- what the check of an area looks at is read too
pub record HasLookedAt (s : Touched) (looked_at : Option Lookups) (t : Touched) : Type 0 where
  pub reads : AreWith s.reads (option_map_or bytes_looked_at looked_at []) t.reads
  pub writes : t.writes ≡ s.writes
  pub last : (a : ℕ) → have_byte (option_map_or bytes_looked_at t.last []) a ≡ true → holds t.reads a ≡ true

-- what an event touches is touched too
pub record HasTouched (s : Touched) (y : LogEvent) (t : Touched) : Type 0 where
  pub reads : AreWith s.reads (reads_of y) t.reads
  pub writes : AreWith s.writes (writes_of y) t.writes
  pub last : (a : ℕ) → have_byte (option_map_or bytes_looked_at t.last []) a ≡ true → holds t.reads a ≡ true
