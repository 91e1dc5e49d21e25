-- What the areas of threads look at, in parts of a process (own).
use Rattle.std.specs.Prelude.{ℕ, ◌==◌, ◌||◌, Bool, false, Option, Some, None, slice_get}
use Rattle.std.specs.Option.{option_map_or}
use Rattle.mach_types.specs.Kernel.Threads.{state_of}
use Rattle.mach_types.specs.declared.events.Tid.{Tid}
use Rattle.mach_types.specs.declared.threads.ThreadState.{ThreadState}
use Rattle.mach_types.specs.declared.threads.ThreadState.TheVariants.{Ready, Running, Waiting}
use Rattle.rv_inst.specs.Execution.{seen_byte}
use Rattle.hart_state.specs.declared.hart.HartState.{HartState}
use Rattle.page_map.specs.Map.{byte_in}
use Rattle.process.specs.declared.parts.Parts.{Parts}
use Rattle.sys_calls.specs.declared.rseq_areas.RegisteredArea.{RegisteredArea}
use Rattle.settling.specs.Glances.{glance_in, is_same_or_null}
use Rattle.settling.specs.declared.edges.Look.{Look}

-- the bytes as a thread in this state sees them: as its hart does where it runs, else as memory has them
abbrev pub seen_in_state : Parts → Option ThreadState → ℕ → Option ℕ
seen_in_state m None = byte_in m.pages
seen_in_state m (Some Ready) = byte_in m.pages
seen_in_state m (Some (Waiting at)) = byte_in m.pages
seen_in_state m (Some (Running k)) =
    option_map_or (λ (x : HartState). seen_byte x.buffer (byte_in m.pages)) (slice_get m.harts.items k.0)
    (byte_in m.pages)

abbrev pub seen_in_parts : ℕ → Parts → ℕ → Option ℕ
seen_in_parts t m = seen_in_state m (state_of t m.kernel.threads.threads)

-- what a registered area looks at
abbrev pub look_in : Parts → RegisteredArea → Look
look_in m r = record { tid = r.tid; area = r.area; glance = glance_in (seen_in_parts r.tid.0 m) r.area }

-- the event was an instruction of this thread
abbrev pub is_own : Option Tid → Tid → Bool
is_own None t = false
is_own (Some u) t = u.0 == t.0

-- what an area looked at before an event is so after it, or its pointer is null then; or the event was its
-- thread's
abbrev pub is_kept : Parts → Option Tid → Look → Bool
is_kept m own look =
    is_own own look.tid || is_same_or_null (glance_in (seen_in_parts look.tid.0 m) look.area) look.glance
