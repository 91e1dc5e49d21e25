-- Parts that hold the same, but for counts and credits, and whichever frames hold their pages.
use Rattle.std.specs.Prelude.{ℕ, ◌≡◌, map}
use Rattle.page_map.specs.Map.{Map, break_in, free_in, held_in, permission_in}
use Rattle.sys_calls.specs.declared.kernel.Kernel.{Kernel}
use Rattle.sys_calls.specs.Registered.{areas_by_number}
use Rattle.process.specs.declared.parts.Parts.{Parts}
use Rattle.hart_state.specs.declared.hart.HartState.{HartState}

-- a hart without its counts and its credit
abbrev pub uncounted : HartState → HartState
uncounted x = record x { ran = 0; credit = 0; events = 0 }

pub record HoldSamePages (m m' : Map) : Type 0 where
  pub permissions : (n : ℕ) → permission_in m n ≡ permission_in m' n
  pub held : (a : ℕ) → held_in m a ≡ held_in m' a
  pub free : free_in m ≡ free_in m'
  pub break_at : break_in m ≡ break_in m'

pub record HoldSameTables (k k' : Kernel) : Type 0 where
  pub threads : k.threads ≡ k'.threads
  pub signals : k.signals ≡ k'.signals
  pub ready : k.ready ≡ k'.ready
  pub areas : areas_by_number k.areas.items ≡ areas_by_number k'.areas.items
  pub registered : k.registered ≡ k'.registered
  pub console : k.console ≡ k'.console
  pub random : k.random ≡ k'.random

pub record AreAlike (m m' : Parts) : Type 0 where
  pub harts : map uncounted m.harts.items ≡ map uncounted m'.harts.items
  pub pages : HoldSamePages m.pages m'.pages
  pub kernel : HoldSameTables m.kernel m'.kernel
  pub ended : m.ended ≡ m'.ended
