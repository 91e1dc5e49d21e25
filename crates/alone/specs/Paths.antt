-- Paths: what holds of a thread that runs alone at each of its instructions inside a range, and where it
-- leaves it.
use Rattle.std.specs.Prelude.{ℕ, ◌≡◌, ◌+◌, ◌^◌, ◌<◌, ◌≤◌, ◌⊎◌, Bool, true, false, List, Option, Some}
use Rattle.mach_types.specs.Kernel.Areas.{is_inside}
use Rattle.mach_types.specs.declared.registers.Regs.{Regs}
use Rattle.mach_types.specs.declared.sequences.Seq.{Seq}
use Rattle.mach_types.specs.declared.user_memory.Store.{Store}
use Rattle.rv_inst.specs.declared.effects.Effect.{Effect}
use Rattle.rv_inst.specs.declared.instruction.Inst.{Inst}
use Rattle.alone.specs.Alone.{IsWithin, Stand, alone, effect_at, next_stand}
use Rattle.alone.specs.Temps.{IsAt}

-- code in a range, the bytes that it uses and the registers that it may change, of which the rest are as
-- before; what holds of the stores that were executed as long as the thread is inside, and what where it
-- leaves
pub record Path : Type 1 where
  pub code : ℕ → Option Inst
  pub seen : ℕ → Option ℕ
  pub range : Seq
  pub words : ℕ → Bool
  pub may : ℕ → Bool
  pub old : Regs
  pub Inside : List Store → Type 0
  pub Left : ℕ → (ℕ → ℕ) → List Store → Type 0

-- the next instruction uses these bytes alone, by plain loads and stores
abbrev pub IsReady : (ℕ → Option Inst) → (ℕ → Bool) → Stand → Type 0
IsReady code words x = (does : Effect) × (effect_at code x.file ≡ Some does) × IsWithin words does

-- from an address to one that is a word or more further, below 2^40; or out of the range
abbrev pub IsForth : Seq → ℕ → ℕ → Type 0
IsForth range from to = ((from + 4 ≤ to) × (to < 2 ^ 40)) ⊎ (is_inside range to ≡ false)

-- a thread stands on a path; where it is inside, its next instruction leads forth
pub record IsOn (w : Path) (x : Stand) : Type 0 where
  pub at : ℕ
  pub temps : ℕ → ℕ
  pub stores : List Store
  pub stands : IsAt w.may w.old at temps stores x
  pub inside : is_inside w.range at ≡ true
      → w.Inside stores × IsReady w.code w.words x × IsForth w.range at (next_stand w.code w.seen x).file.pc
  pub left : is_inside w.range at ≡ false → w.Left at temps stores

-- so many instructions of a thread alone begin inside a range
abbrev pub BeginInside : Path → Stand → ℕ → Type 0
BeginInside w x n = (k : ℕ) → k < n → is_inside w.range (alone w.code w.seen x k).file.pc ≡ true

-- from where it stands a thread keeps on the path until it has left
abbrev pub KeepsOn : Path → Stand → Type 0
KeepsOn w x = (n : ℕ) → BeginInside w x n → IsOn w (alone w.code w.seen x n)
