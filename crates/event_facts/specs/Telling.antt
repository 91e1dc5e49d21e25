-- Plain events as code knows them, at the place that a machine has come to.
use Rattle.std.specs.Prelude.{ℕ, ◌≡◌, List, [], Ok, Option, Some, None, slice_get}
use Rattle.std.specs.Option.{option_map}
use Rattle.mach_types.specs.Bytes.{IsAccessSize}
use Rattle.mach_types.specs.Events.{choice_of, maker_of}
use Rattle.mach_types.specs.declared.events.Choice.{Choice}
use Rattle.mach_types.specs.declared.events.Entry.{Entry}
use Rattle.mach_types.specs.declared.events.Maker.{Maker}
use Rattle.mach_types.specs.declared.events.Maker.TheVariants.{Thread, Buffer, Kernel}
use Rattle.mach_types.specs.declared.registers.Regs.{Regs}
use Rattle.rv_inst.specs.Sizes.{HasAccessSizes}
use Rattle.rv_inst.specs.declared.effects.Effect.{Effect}
use Rattle.rv_inst.specs.declared.effects.Effect.TheVariants as effect
use Rattle.block_model.specs.Deciding.{decide, history}
use Rattle.process.specs.Harts.{file_on}
use Rattle.block_model.specs.Here.{Here, runs, waiting_here}
use Rattle.block_model.specs.History.{History, here_in_history}
use Rattle.block_model.specs.Setting.{Seen}
use Rattle.fact_types.specs.declared.facts.Fact.{Fact}
use Rattle.event_facts.specs.Facts.{executed_by, register_facts}
use Rattle.event_facts.specs.declared.telling.PlainEvent.{PlainEvent}
use Rattle.event_facts.specs.declared.telling.PlainEvent.TheVariants.{Instruction, Drain}

-- what happened so far, and what a rule may read there of hart h
abbrev pub past_of : Seen → History
past_of m = history m.setting m.log

abbrev pub here_on : Seen → ℕ → Here
here_on m h = here_in_history m.setting (past_of m) h

-- an entry is the one that is decided there
abbrev pub IsDecided : Seen → Entry → Type 0
IsDecided m entry = decide m.setting (past_of m) entry.hart.0 (choice_of entry) ≡ Ok entry

-- the plain event of a choice: an instruction that makes neither a fault nor a call, or the oldest waiting store as it enters memory
abbrev pub plain_event_by : Maker → Choice → Here → Option PlainEvent
plain_event_by Thread c here = option_map Instruction (executed_by c here)
plain_event_by Buffer c here = option_map Drain (slice_get (waiting_here here) 0)
plain_event_by Kernel c here = None

abbrev pub plain_event_of : Choice → Here → Option PlainEvent
plain_event_of c here = plain_event_by (maker_of c) c here

-- the effect of its instruction, where it is one
abbrev pub effect_in : PlainEvent → Option Effect
effect_in (Instruction e) = Some e
effect_in (Drain w) = None

-- its accesses have 1, 2, 4 or 8 bytes
abbrev pub HasSizes : PlainEvent → Type 0
HasSizes (Instruction e) = HasAccessSizes e
HasSizes (Drain w) = IsAccessSize w.size

-- the register that an instruction with this effect sets (RISC-V Unprivileged ISA, chapters RV32I, RV64I and "A"); x0, which stays 0,
-- where it sets none
abbrev pub register_set : Effect → ℕ
register_set (effect.Next rd value to) = rd
register_set (effect.Load at size is_signed rd) = rd
register_set (effect.Store at size value) = 0
register_set (effect.Amo op at size value rd) = rd
register_set (effect.Lr at size rd) = rd
register_set (effect.Sc at size value rd) = rd
register_set (effect.Fence full) = 0
register_set effect.FenceI = 0
register_set effect.Call = 0
register_set effect.Break = 0
register_set effect.Misaligned = 0

-- that a plain event sets: a store that enters memory sets none
abbrev pub register_by : PlainEvent → ℕ
register_by (Instruction e) = register_set e
register_by (Drain w) = 0

-- the registers that a hart of a machine has; and which of them an event changed that was made, of one that had these before it
abbrev pub registers_on : Seen → ℕ → Regs
registers_on m h = (file_on (here_on m h) (runs (here_on m h))).file

abbrev pub changed_facts : Entry → PlainEvent → Regs → Seen → List Fact
changed_facts entry (Instruction e) before m = register_facts before (registers_on m entry.hart.0)
changed_facts entry (Drain w) before m = []
