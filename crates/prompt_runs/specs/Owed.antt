-- Signals that a hart owes its thread (own, as Linux: signal(7)): the kernel delivers a signal before it goes
-- back to the thread, so one that a thread sends to itself or unmasks is delivered before the call returns
-- (POSIX raise, kill, pthread_sigmask), and that of a fault before any further instruction.
use Rattle.std.specs.Prelude.{ℕ, ◌==◌, ◌&&◌, ◌||◌, Bool, true, false, List, [], ◌∷◌, Option}
use Rattle.std.specs.Prelude.{if◌then◌else◌, is_some}
use Rattle.std.specs.Option.{option_map_or}
use Rattle.mach_types.specs.Events.{choice_of, maker_of}
use Rattle.mach_types.specs.declared.events.Choice.{Choice}
use Rattle.mach_types.specs.declared.events.Entry.{Entry}
use Rattle.mach_types.specs.declared.events.Maker.{Maker}
use Rattle.mach_types.specs.declared.events.Maker.TheVariants.{Thread, Buffer, Kernel}
use Rattle.rv_inst.specs.Class.{is_call}
use Rattle.rv_inst.specs.declared.effects.Effect.{Effect}
use Rattle.block_model.specs.Events.{done_of}
use Rattle.block_model.specs.Here.{Here, runs}
use Rattle.block_model.specs.Plain.{Plain, apply, here_in_plain, plain_next, plain_start}
use Rattle.block_model.specs.Setting.{Setting}
use Rattle.block_model.specs.Sights.{effect_here, fault_here, is_deliverable_on}
use Rattle.search_reductions.specs.declared.signals.Signals.{Signals}
use Rattle.search_reductions.specs.declared.signals.Signals.TheVariants.{Any, Prompt}

-- whether an instruction traps: it is a call, or makes a fault (RISC-V Privileged Architecture: an environment
-- call or another exception)
abbrev pub traps_by : Option Effect → Option ℕ → Bool
traps_by effect fault = is_some fault || option_map_or is_call effect false

-- whether the next instruction of the hart's thread does
abbrev pub traps : Here → Bool
traps here = traps_by (effect_here here) (fault_here here)

-- whether a signal can be delivered to the hart's thread
abbrev pub is_deliverable : Here → Bool
is_deliverable here = is_deliverable_on here (runs here)

-- whether a hart is on its way back from its kernel after an event of this maker: after an instruction of its
-- thread that trapped, after a store of it that entered memory where it was so before, and after each event of
-- the kernel
abbrev pub is_back_by : Maker → Bool → Bool → Bool
is_back_by Thread traps before = traps
is_back_by Buffer traps before = before
is_back_by Kernel traps before = true

-- the machine after the event of a choice of hart h
abbrev pub machine_after : Setting → Plain → ℕ → Choice → Plain
machine_after s m h c = apply h (done_of c (here_in_plain s m h)) m

-- whether a hart can owe its thread a signal: where one can be delivered to it; never where signals may come
-- at any time
abbrev pub can_owe : Signals → Here → Bool
can_owe Prompt here = is_deliverable here
can_owe Any here = false

-- at the start no hart owes one
abbrev pub none_owed : ℕ → Bool
none_owed h = false

-- which harts owe one after the event of a choice of hart h, where so much was owed before it: those where one
-- can be delivered, and could ever since the hart is on its way back from its kernel
abbrev pub owed_next : Signals → Setting → Plain → (ℕ → Bool) → ℕ → Choice → ℕ → Bool
owed_next signals s m owed h c k =
    can_owe signals (here_in_plain s (machine_after s m h c) k)
    && (if h == k then is_back_by (maker_of c) (traps (here_in_plain s m h)) (owed h) else owed k)

-- and after the entries of a log, from a place on where so much is owed
abbrev pub owed_from : Signals → Setting → Plain → (ℕ → Bool) → List Entry → ℕ → Bool
owed_from signals s m owed [] = owed
owed_from signals s m owed (e ∷ log) =
    owed_from signals s (plain_next s m e) (owed_next signals s m owed e.hart.0 (choice_of e)) log

abbrev pub owed_after : Signals → Setting → List Entry → ℕ → Bool
owed_after signals s log = owed_from signals s (plain_start s) none_owed log
