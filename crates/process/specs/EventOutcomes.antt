-- What an event is written down as.
use Rattle.std.specs.Prelude.{ℕ, if◌then◌else◌, Option, Some, None}
use Rattle.std.specs.Option.{option_map, option_or}
use Rattle.mach_types.specs.Registers.{no_registers}
use Rattle.mach_types.specs.Kernel.Threads.{Threads, is_stuck}
use Rattle.mach_types.specs.declared.limits.End.{End}
use Rattle.mach_types.specs.declared.limits.End.TheVariants as over
use Rattle.mach_types.specs.declared.threads.Saved.{Saved}
use Rattle.hart_state.specs.declared.hart.HartState.{HartState}
use Rattle.block_model.specs.Here.{Barrier}
use Rattle.sys_calls.specs.Made.{barrier_of, gives_up}
use Rattle.sys_calls.specs.declared.calling.CallEnd.{CallEnd}
use Rattle.mach_types.specs.declared.events.Entry.{Entry}
use Rattle.mach_types.specs.declared.events.Hart.{Hart}
use Rattle.mach_types.specs.declared.events.Kind.{Kind}
use Rattle.mach_types.specs.declared.events.Tid.{Tid}

-- the entry of an event on a hart with this thread, at this pc; a hart without a thread has 0 for both
abbrev pub entry_from : Hart → Kind → Option Tid → ℕ → Entry
entry_from h k None pc = record { hart = h; kind = k; tid = record { 0 = 0 }; pc = 0 }
entry_from h k (Some t) pc = record { hart = h; kind = k; tid = t; pc = pc }

-- what the thread waits for after its call: the harts that a barrier is about
abbrev pub waits_after : CallEnd → Option ℕ → Option ℕ
waits_after end waits = option_or (option_map (λ (b : Barrier). b.targets) (barrier_of end)) waits

-- the hart after the call of its thread, which left this in its registers: it goes on, waits there in a barrier, or gave up the hart
abbrev pub hart_after_call : CallEnd → Saved → HartState → HartState
hart_after_call end saved x =
    if gives_up end
    then record x { file = no_registers; pc = 0; running = None; reserved = None; cid = 0 }
    else record x { file = saved.file; pc = saved.pc; waits = waits_after end x.waits; reserved = None }

-- how the run has ended after a call
abbrev pub over_after : Option End → Threads → Option End
over_after process ts = option_or process (if is_stuck ts then Some over.Stuck else None)
