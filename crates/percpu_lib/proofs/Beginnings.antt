-- What the law of a block calls by a name of its own where a thread is about to begin its sequence.
use Rattle.std.proofs.Common.{ℕ, ◌+◌, ◌*◌, Option}
use Rattle.mach_types.specs.Registers.{register}
use Rattle.mach_types.specs.declared.registers.Regs.{Regs}
use Rattle.alone.specs.Temps.{put}
use Rattle.alone_laws.specs.Spans.{seen_at}
use Rattle.block_model.specs.History.{History, file}
use Rattle.block_model.specs.Setting.{Setting}
use Rattle.percpu_lib.specs.Adds.{cell_at}
use Rattle.percpu_lib.specs.Frees.{value_of}
use Rattle.percpu_lib.specs.Pools.{pool_at}
use Rattle.percpu_lib.specs.RingForms.{head_seen, held, ring_at, tail_seen}
use Rattle.percpu_lib.specs.Uses.{cells_of}
use Rattle.percpu_lib.specs.declared.slots.Slots.{Slots}

-- the thread's registers, the bytes that its hart sees, the address of the data and the value; and where the
-- cell, the pool and the ring of its processor lie, and the registers once the address of the one or the others
-- is in x5
pub record Beginning : Type 0 where
  pub old : Regs
  pub seen : ℕ → Option ℕ
  pub cells : ℕ
  pub value : ℕ
  pub cell : ℕ
  pub pool : ℕ
  pub ring : ℕ
  pub cell_temps : ℕ → ℕ
  pub pool_temps : ℕ → ℕ

-- the registers once the address of data, so many bytes apart for each processor, is in x5
abbrev temps_with : Regs → ℕ → ℕ → ℕ → ℕ → ℕ
temps_with old h scale cells = put 5 (cells + scale * h) (put 5 (scale * h) (put 6 h (register old)))

abbrev pub beginning : Setting → Slots → ℕ → ℕ → History → Beginning
beginning s p h t begun = record {
  old = (file s t begun).file;
  seen = seen_at s h begun;
  cells = cells_of s p t begun;
  value = value_of s p t begun;
  cell = cell_at (cells_of s p t begun) h;
  pool = pool_at (cells_of s p t begun) h;
  ring = ring_at (cells_of s p t begun) h;
  cell_temps = temps_with (file s t begun).file h 64 (cells_of s p t begun);
  pool_temps = temps_with (file s t begun).file h 8192 (cells_of s p t begun);
}

-- a ring as the hart sees it: its head, its tail, and how many words it holds
pub record RingSeen : Type 0 where
  pub head : ℕ
  pub tail : ℕ
  pub holds : ℕ

abbrev pub ring_seen : Setting → ℕ → ℕ → History → RingSeen
ring_seen s h ring begun =
    record { head = head_seen s h ring begun; tail = tail_seen s h ring begun; holds = held s h ring begun }
