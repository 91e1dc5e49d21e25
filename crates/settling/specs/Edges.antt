-- An event that reaches no thread that rests, as it is read of parts before it and after it (own).
use Rattle.std.specs.Prelude.{ℕ, ◌≡◌, true, Option, None, map}
use Rattle.std.specs.List.{list_all}
use Rattle.std.specs.Option.{option_map}
use Rattle.mach_types.specs.Kernel.Threads.{running_on}
use Rattle.mach_types.specs.declared.events.Choice.{Choice}
use Rattle.mach_types.specs.declared.events.Choice.TheVariants as asked
use Rattle.mach_types.specs.declared.events.Tid.{Tid}
use Rattle.block_model.specs.Plain.{Plain}
use Rattle.block_model.specs.Setting.{Setting}
use Rattle.block_model.specs.Sights.{thread}
use Rattle.block_model.specs.Tables.{IsTables}
use Rattle.process.specs.Refinement.{IsTied}
use Rattle.process.specs.declared.parts.Parts.{Parts}
use Rattle.local_steps.specs.Runs.{next_of}
use Rattle.same_places.specs.Places.{rested}
use Rattle.settling.specs.Handlers.{has_no_handler}
use Rattle.settling.specs.Looks.{is_kept, look_in}

-- the thread whose instruction the event of a choice is, where this one runs on its hart
abbrev pub own_thread : Choice → Option ℕ → Option Tid
own_thread asked.Exec o = option_map thread o
own_thread asked.Drain o = None
own_thread asked.Take o = None
own_thread asked.Done o = None
own_thread asked.Preempt o = None
own_thread (asked.Run t) o = None
own_thread asked.Signal o = None

-- parts stood at this place before the event of the choice, and stand at the next one after it, with no
-- counts of harts; no signal had a handler; and each area that was registered before it is kept
pub record IsEdge (s : Setting) (p : Plain) (h : ℕ) (c : Choice) (before after : Parts) : Type 0 where
  pub tied : IsTied s (rested p) before
  pub tables : IsTables s.limits.harts p.kernel.threads p.kernel.scheduling
  pub next : IsTied s (rested (next_of s p (h, c))) after
  pub next_tables : let k = (next_of s p (h, c)).kernel in IsTables s.limits.harts k.threads k.scheduling
  pub unhandled : has_no_handler before.kernel.signals ≡ true
  pub kept : list_all (is_kept after (own_thread c (running_on h p.kernel.threads)))
      (map (look_in before) before.kernel.areas.items) ≡ true
