-- The facts of an event (own): what it read and where that came from, the store that it executed, the writes that entered memory with it,
-- what it made of reservations, and which registers of its thread changed. All that is read off the definition of what the event did.
use Rattle.std.specs.Prelude.{ℕ, ◌==◌, ◌&&◌, Bool, List, [], ◌∷◌, ◌++◌, map, if◌then◌else◌, Option, Some, None}
use Rattle.std.specs.List.{flat_map, list_all, range_with_len}
use Rattle.mach_types.specs.Bytes.{after_writes}
use Rattle.mach_types.specs.Events.{choice_of, is_instruction, kind_of}
use Rattle.mach_types.specs.Kernel.Threads.{running_on, state_of}
use Rattle.mach_types.specs.Registers.{register}
use Rattle.mach_types.specs.declared.events.Choice.{Choice}
use Rattle.mach_types.specs.declared.events.Entry.{Entry}
use Rattle.mach_types.specs.declared.registers.Regs.{Regs}
use Rattle.mach_types.specs.declared.threads.Saved.{Saved}
use Rattle.mach_types.specs.declared.threads.ThreadState.{ThreadState}
use Rattle.mach_types.specs.declared.user_memory.Store.{Store}
use Rattle.mach_types.specs.declared.user_memory.Write.{Write}
use Rattle.mach_types.specs.declared.user_memory.Write.TheVariants as entering
use Rattle.rv_inst.specs.Accesses.{Bytes, bytes}
use Rattle.rv_inst.specs.Execution.{word_seen}
use Rattle.rv_inst.specs.Words.{sum_64}
use Rattle.rv_inst.specs.declared.effects.Effect.{Effect}
use Rattle.rv_inst.specs.declared.effects.Effect.TheVariants as effect
use Rattle.block_model.specs.Deciding.{done}
use Rattle.block_model.specs.Here.{Done, Here, memory, view}
use Rattle.block_model.specs.History.{History, file_among, here_in_history}
use Rattle.block_model.specs.PlainEvents.{is_plain}
use Rattle.block_model.specs.Setting.{Setting}
use Rattle.block_model.specs.Sights.{effect_here}
use Rattle.fact_types.specs.declared.facts.Fact.{Fact}
use Rattle.fact_types.specs.declared.facts.Fact.TheVariants.{Read, Waits, Entered, KernelWrote, Zeroed, Register}
use Rattle.fact_types.specs.declared.facts.Source.{Source}
use Rattle.event_facts.specs.Calls.{is_it}
use Rattle.event_facts.specs.Lines.{line_behind, next_line, waiting_on}
use Rattle.event_facts.specs.OtherRegisters.{where_off}
use Rattle.event_facts.specs.Reservations.{all_lost, own_facts}
use Rattle.event_facts.specs.Sources.{same_source, source_at}

-- READS

-- the effect of the instruction that an event executes, where it makes neither a fault nor a call
abbrev pub executed_by : Choice → Here → Option Effect
executed_by c here = if is_instruction (kind_of c) && is_plain c here then effect_here here else None

-- the bytes whose number an instruction with this effect reads: a load, an AMO and an LR do (RISC-V Unprivileged ISA, chapters RV32I,
-- RV64I and "A")
abbrev pub loaded_by : Effect → Option Bytes
loaded_by (effect.Next rd value to) = None
loaded_by (effect.Load at size is_signed rd) = Some (bytes at size)
loaded_by (effect.Store at size value) = None
loaded_by (effect.Amo op at size value rd) = Some (bytes at size)
loaded_by (effect.Lr at size rd) = Some (bytes at size)
loaded_by (effect.Sc at size value rd) = None
loaded_by (effect.Fence full) = None
loaded_by effect.FenceI = None
loaded_by effect.Call = None
loaded_by effect.Break = None
loaded_by effect.Misaligned = None

-- so many bytes from an address on were read, and come from where the first of them does
abbrev pub read_fact : (ℕ → Option ℕ) → (ℕ → Source) → ℕ → ℕ → Fact
read_fact seen source at size = Read at size (word_seen seen at size) (source at)

-- whether all of them come from one place. Addresses go on at 0 (RISC-V Unprivileged ISA, "Memory")
abbrev pub is_of_one : (ℕ → Source) → ℕ → ℕ → Bool
is_of_one source at size = list_all (λ k. same_source (source (sum_64 at k)) (source at)) (range_with_len 0 size)

-- the one byte that stands so far behind an address was read
abbrev pub byte_fact : (ℕ → Option ℕ) → (ℕ → Source) → ℕ → ℕ → Fact
byte_fact seen source at k = read_fact seen source (sum_64 at k) 1

-- what is read: one fact where all bytes come from one place, and else one for each byte
unfoldable pub read_facts : (ℕ → Option ℕ) → (ℕ → Source) → ℕ → ℕ → List Fact
read_facts seen source at size =
    if is_of_one source at size then read_fact seen source at size ∷ []
    else map (byte_fact seen source at) (range_with_len 0 size)

-- of an instruction with this effect, which reads bytes that are seen so and come from there
abbrev pub reading_of : (ℕ → Option ℕ) → (ℕ → Source) → Option Bytes → List Fact
reading_of seen source None = []
reading_of seen source (Some x) = read_facts seen source x.at x.count

abbrev pub reading_facts : (ℕ → Option ℕ) → (ℕ → Source) → Option Effect → List Fact
reading_facts seen source None = []
reading_facts seen source (Some e) = reading_of seen source (loaded_by e)

-- WRITES THAT ENTER MEMORY

-- the number at the bytes of a store in memory, after these writes
abbrev pub number_before : (ℕ → Option ℕ) → List Write → Store → ℕ
number_before byte earlier w = word_seen (after_writes earlier byte) w.at w.size

-- one write, of a store that was executed in a line
abbrev pub entered_fact : (ℕ → Option ℕ) → ℕ → List Write → Write → Fact
entered_fact byte line earlier (entering.Stored w) = Entered w (number_before byte earlier w) line
entered_fact byte line earlier (entering.Zeroed at n) = Zeroed at n

-- those of an event, in order: each finds memory as those before it left it
abbrev pub entered_facts : (ℕ → Option ℕ) → ℕ → List Write → List Write → List Fact
entered_facts byte line earlier [] = []
entered_facts byte line earlier (w ∷ ws) = entered_fact byte line earlier w ∷ entered_facts byte line (earlier ++ w ∷ []) ws

-- a write of the kernel, in this line (own: without the number that stood there)
abbrev pub kernel_fact : ℕ → Write → Fact
kernel_fact line (entering.Stored w) = KernelWrote w line
kernel_fact line (entering.Zeroed at n) = Zeroed at n

-- those of an event that is plain; or else of the kernel's
abbrev pub writing_facts : Bool → (ℕ → Option ℕ) → ℕ → List Write → List Fact
writing_facts plain byte line entered = if plain then entered_facts byte line [] entered else map (kernel_fact line) entered

-- REGISTERS

-- register n, where its value is another one
abbrev pub register_fact : Regs → Regs → ℕ → List Fact
register_fact before after n = if register before n == register after n then [] else Register n (register after n) ∷ []

-- x0 to x31, in order
abbrev pub register_facts : Regs → Regs → List Fact
register_facts before after = flat_map (register_fact before after) (range_with_len 0 32)

-- the registers of thread t, which has this file, where this thread runs on its hart and t is in this state: t runs there, or is ready,
-- or waits, and else is gone. It runs on no other hart
abbrev pub registers_seen : Option ℕ → Option ThreadState → ℕ → Saved → Option Regs
registers_seen running state t x = if is_it t running then Some x.file else where_off state x

-- those of a thread that had these before, where it isn't gone
abbrev pub changed_registers : Regs → Option Regs → List Fact
changed_registers before None = []
changed_registers before (Some after) = register_facts before after

-- of thread t, by an event that did this
abbrev pub own_registers : Here → ℕ → Done → List Fact
own_registers here t d =
    changed_registers (here.file t).file
    (registers_seen (running_on here.hart d.kernel.threads) (state_of t d.kernel.threads) t (file_among d.files t (here.file t)))

-- ALL

-- an event of hart h, plain or not, which executes an instruction with this effect or none: it executed these stores, so many waiting ones
-- entered memory, these writes entered in all, and this is reserved after it
abbrev pub memory_facts : Setting → History → ℕ → Bool → Option Effect → List Store → ℕ → List Write → Option ℕ → List Fact
memory_facts s before h plain o executed drained entered reserved =
    let here = here_in_history s before h in
    reading_facts (view here) (source_at h before) o
    ++ map Waits executed
    ++ writing_facts plain (memory here) (line_behind (waiting_on h before) (next_line before) drained) entered
    ++ own_facts o here.reserved reserved
    ++ all_lost h before entered s.limits.harts

-- an entry that did this
abbrev pub facts_by : Setting → History → Entry → Done → List Fact
facts_by s before entry d =
    let here = here_in_history s before entry.hart.0 in
    let c = choice_of entry in
    memory_facts s before entry.hart.0 (is_plain c here) (executed_by c here) d.executed d.drained d.entered d.reserved
    ++ own_registers here entry.tid.0 d

-- what came of an entry after a history
unfoldable pub facts_of : Setting → History → Entry → List Fact
facts_of s before entry = facts_by s before entry (done s before entry)
