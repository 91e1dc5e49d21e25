-- A thread that waited, and is interrupted before it begins to run.
use Rattle.std.specs.Prelude.{ℕ, ◌≡◌, ◌+◌, ◌<◌, ◌^◌, ◌==◌, Bool, List, if◌then◌else◌, Option, Some, None, slice_get}
use Rattle.std.specs.Option.{option_map}
use Rattle.mach_types.specs.declared.sequences.Area.{Area}
use Rattle.mach_types.specs.declared.threads.Saved.{Saved}
use Rattle.hart_state.specs.declared.hart.HartState.{HartState}
use Rattle.page_map.specs.Map.{Map, byte_in, can_write_in}
use Rattle.block_model.specs.Events.Run.{done_run, lives_on}
use Rattle.block_model.specs.Here.{Here, is_writable, memory}
use Rattle.block_model.specs.History.{file_among}
use Rattle.block_model.specs.Ids.{next_id}
use Rattle.block_model.specs.Sequences.{area_here, interruption_here}
use Rattle.process.specs.Reservations.{lost_unless}
use Rattle.process.specs.Stored.{IsWritten}
use Rattle.process.specs.declared.parts.Parts.{Parts}

-- thread t waits to run on hart h, over these pages; this is its area, this is its file, and this is the next id
pub record IsWaiting (here : Here) (t h : ℕ) (pages : Map) (a : Option Area) (x : Saved) (n : ℕ) : Type 0 where
  pub hart : h ≡ here.hart
  pub bytes : byte_in pages ≡ memory here
  pub writable : can_write_in pages ≡ is_writable here
  pub area : a ≡ area_here here t
  pub file : x ≡ here.file t
  pub id : n ≡ next_id here.kernel.ids

-- it was interrupted, and where the process lives on its area has the words of the hart: this is its file then, and the pages and
-- the other harts have what was written
pub record IsReadied (here : Here) (t : ℕ) (alive : Bool) (x : Saved) (m m' : Parts) : Type 0 where
  pub lives : alive ≡ lives_on here t (interruption_here here t)
  pub file : x ≡ file_among (done_run here t).files t (here.file t)
  pub pages : IsWritten (done_run here t).entered m.pages m'.pages
  pub harts : (k : ℕ) → slice_get m'.harts.items k
      ≡ option_map (lost_unless (k == here.hart) (done_run here t).entered) (slice_get m.harts.items k)

-- the hart is one of these
abbrev pub HasHart : List HartState → ℕ → Type 0
HasHart xs h = (x : HartState) × (slice_get xs h ≡ Some x)

-- and a further event of it can be counted
abbrev pub HasEvent : List HartState → ℕ → Type 0
HasEvent xs h = (x : HartState) × (slice_get xs h ≡ Some x) × (x.events + 1 < 2 ^ 32)

-- hart h changed so, and no other did
abbrev pub IsChanged : ℕ → (HartState → HartState) → List HartState → List HartState → Type 0
IsChanged h change xs ys =
    (k : ℕ) → slice_get ys k ≡ (if k == h then option_map change (slice_get xs k) else slice_get xs k)

-- a hart on which a thread would have begun to run, had the process not been killed
abbrev pub begun_without : HartState → HartState
begun_without x = record x { reserved = None; ran = 0 }
