-- The state of one hart: where an instruction may be executed, and what its outcome makes of the hart.
-- What an instruction does stands in `rv_inst` (RISC-V Unprivileged ISA); the rest is own.
use Rattle.std.specs.Prelude.{ℕ, ◌≡◌, Bool, true, false, List, [], ◌∷◌, ◌++◌, length, if◌then◌else◌, Option, Some, None, is_some}
use Rattle.hart_state.specs.declared.hart.HartState.{HartState}
use Rattle.mach_types.specs.Bytes.{each_byte}
use Rattle.mach_types.specs.Registers.{no_registers}
use Rattle.mach_types.specs.declared.events.Why.{Why}
use Rattle.mach_types.specs.declared.events.Why.TheVariants.{Idle, InBarrier}
use Rattle.mach_types.specs.declared.events.Tid.{Tid}
use Rattle.mach_types.specs.declared.threads.Saved.{Saved}
use Rattle.mach_types.specs.declared.user_memory.Store.{Store}
use Rattle.rv_inst.specs.Execution.{instruction_gate, seen_byte, outcome, Outcome}
use Rattle.rv_inst.specs.declared.effects.Effect.{Effect}

-- a hart on which no thread runs, with nothing waiting
abbrev pub idle_hart : HartState
idle_hart = record {
  file = no_registers;
  pc = 0;
  buffer = [];
  running = None;
  requests = 0;
  restart = false;
  waits = None;
  reserved = None;
  ran = 0;
  credit = 0;
  events = 0;
  cid = 0;
}

-- the first condition that fails of those under which a hart may execute an instruction with this effect, or where
-- it faults; none where they all hold
abbrev pub exec_refusal : HartState → Option Effect → Bool → Option Why
exec_refusal hart done faults =
    if is_some hart.running
    then (if is_some hart.waits then Some InBarrier else instruction_gate (length hart.buffer) done faults)
    else Some Idle

-- what an instruction with this effect does on a hart, over the bytes of memory
abbrev pub outcome_on : HartState → (ℕ → Option ℕ) → Effect → Outcome
outcome_on hart byte done = outcome (seen_byte hart.buffer byte) hart.file hart.pc hart.reserved done

-- the hart after an outcome: its registers, its pc and its reservation are those of the outcome, and the plain store
-- that was executed waits; all else is as it was
abbrev pub hart_after : HartState → Outcome → HartState
hart_after hart o = record hart { file = o.regs; pc = o.pc; buffer = hart.buffer ++ o.executed; reserved = o.reserved }

-- one store or none, as a list
abbrev pub stores : Option Store → List Store
stores None = []
stores (Some s) = s ∷ []

-- the hart after its thread left: idle, with no reservation, its registers and its pc 0. An idle hart holds no id
abbrev pub left : HartState → HartState
left hart = record hart { file = no_registers; pc = 0; running = None; reserved = None; cid = 0 }

-- the hart after a thread entered it with a file and an id: no reservation, and nothing executed so far
abbrev pub entered : Tid → Saved → ℕ → HartState → HartState
entered tid saved cid hart = record hart {
  file = saved.file;
  pc = saved.pc;
  running = Some tid;
  reserved = None;
  ran = 0;
  cid = cid;
}

-- the bytes of the oldest waiting store, if one waits, can be written
abbrev pub CanEnter : (ℕ → Bool) → List Store → Type 0
CanEnter can_write [] = Unit {0}
CanEnter can_write (s ∷ later) = each_byte can_write s.at s.size ≡ true
