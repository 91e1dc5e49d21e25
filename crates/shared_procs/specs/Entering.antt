-- Stores of instructions that enter memory, on the pages of a process or in the segment; and a process beside them.
use Rattle.std.specs.Prelude.{ℕ, ◌≡◌, true, List, ◌++◌, Some, filter, slice_get}
use Rattle.std.specs.List.{AllByRecursion}
use Rattle.mach_types.specs.Bytes.{all_stored, each_byte, written}
use Rattle.mach_types.specs.Kernel.Pages.{Pages}
use Rattle.mach_types.specs.declared.user_memory.Store.{Store}
use Rattle.block_model.specs.Beside.{is_in_segment}
use Rattle.block_model.specs.History.{lost_after}
use Rattle.block_model.specs.Plain.{Plain}
use Rattle.block_model.specs.Setting.{Setting}
use Rattle.hart_state.specs.declared.hart.HartState.{HartState}
use Rattle.page_map.specs.Map.{Map, permission_in}
use Rattle.process.specs.Refinement.{IsTied}
use Rattle.process.specs.declared.parts.Parts.{Parts}
use Rattle.sys_calls.specs.Made.{HoldsPages}
use Rattle.shared_procs.specs.Pairs.{is_shared}
use Rattle.shared_procs.specs.Segments.{shared_in, storable_in}

-- the bytes of a segment are these
abbrev pub HoldsShared : (ℕ → ℕ) → List ℕ → Type 0
HoldsShared shared segment = (a : ℕ) → is_in_segment a ≡ true → shared_in segment a ≡ shared a

-- each byte of each of these stores can be written, on pages or in the segment
abbrev pub AreStorable : Map → List Store → Type 0
AreStorable m ws = AllByRecursion (λ w. each_byte (storable_in m) w.at w.size ≡ true) ws

-- these stores entered memory, one after the other: the pages and the segment have their bytes, each where the store lies, and no
-- permission changed
pub record HaveEntered (ws : List Store) (m : Map) (segment : List ℕ) (m' : Map) (segment' : List ℕ) : Type 0 where
  pub pages : (ps : Pages) (lowest : ℕ) (byte : ℕ → ℕ) → HoldsPages ps lowest byte m
      → HoldsPages ps lowest (λ a. written (all_stored ws) a (byte a)) m'
  pub shared : (shared : ℕ → ℕ) → HoldsShared shared segment
      → HoldsShared (λ a. written (filter is_shared (all_stored ws)) a (shared a)) segment'
  pub permissions : (n : ℕ) → permission_in m' n ≡ permission_in m n

-- another process lost its reservations of those of their bytes that lie in the segment, and nothing else of it changed
abbrev pub HaveLost : List Store → Parts → Parts → Type 0
HaveLost ws other other' =
    (s : Setting) (y : Plain) → IsTied s y other
    → IsTied s (record y { reserved = λ k. lost_after (filter is_shared (all_stored ws)) (y.reserved k) }) other'

-- some of the stores that waited have entered memory so, and the rest may
pub record AreEntering (waited left : List Store) (m : Map) (segment : List ℕ) (other : Parts) (m' : Map) (segment' : List ℕ) (other' : Parts) : Type 0 where
  pub gone : List Store
  pub all : gone ++ left ≡ waited
  pub entered : HaveEntered gone m segment m' segment'
  pub lost : HaveLost gone other other'
  pub storable : AreStorable m' left

-- whatever waits on a hart of a process may enter memory
abbrev pub MayEmpty : Parts → Type 0
MayEmpty m = (k : ℕ) (x : HartState) → slice_get m.harts.items k ≡ Some x → AreStorable m.pages x.buffer
