-- What harts owe their threads, read off the parts of a process (own).
use Rattle.std.specs.Prelude.{ℕ, ◌==◌, ◌&&◌, Bool, false, if◌then◌else◌, is_some, slice_get}
use Rattle.std.specs.Option.{option_map_or}
use Rattle.mach_types.specs.Events.{maker_of}
use Rattle.mach_types.specs.Kernel.Scheduling.{has_hart}
use Rattle.mach_types.specs.Kernel.Signals.{next_for}
use Rattle.mach_types.specs.declared.events.Choice.{Choice}
use Rattle.mach_types.specs.declared.events.Tid.{Tid}
use Rattle.hart_state.specs.declared.hart.HartState.{HartState}
use Rattle.process.specs.declared.parts.Parts.{Parts}
use Rattle.prompt_runs.specs.Owed.{is_back_by}
use Rattle.search_reductions.specs.declared.signals.Signals.{Signals}
use Rattle.search_reductions.specs.declared.signals.Signals.TheVariants.{Any, Prompt}

-- whether a signal can be delivered to the thread on hart k of these parts
abbrev pub is_deliverable_in : Parts → ℕ → Bool
is_deliverable_in m k =
    option_map_or (λ (x : HartState). option_map_or (λ (t : Tid). is_some (next_for t.0 m.kernel.signals)) x.running false)
    (slice_get m.harts.items k) false

-- whether the hart can owe its thread one
abbrev pub can_owe_in : Signals → Parts → ℕ → Bool
can_owe_in Prompt m k = is_deliverable_in m k
can_owe_in Any m k = false

-- whether it does after the event of a choice of hart h, which trapped or not, where the harts of this set owed one before
-- it
abbrev pub owes_in : Signals → Parts → ℕ → ℕ → Choice → Bool → ℕ → Bool
owes_in signals m before h c trapped k =
    can_owe_in signals m k
    && (if h == k then is_back_by (maker_of c) trapped (has_hart before k) else has_hart before k)
