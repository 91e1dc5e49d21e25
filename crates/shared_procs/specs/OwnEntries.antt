-- What a process of a pair does by itself, and what it learns there of the other one: its own entries; the
-- bytes of the segment that their instructions read, and whether their SC there succeeds (RISC-V Unprivileged
-- ISA, chapters RV32I, RV64I and "A"); and whether their call begins a barrier, in which its thread waits
-- (membarrier(2)).
use Rattle.std.specs.Prelude.{ℕ, ◌+◌, ◌≡◌, Bool, zero, suc, List, [], ◌∷◌, if◌then◌else◌, Option, Some, None, is_some}
use Rattle.mach_types.specs.Events.{is_instruction, is_run}
use Rattle.mach_types.specs.declared.events.Entry.{Entry}
use Rattle.mach_types.specs.declared.events.Kind.{Kind}
use Rattle.elf_load.specs.Images.{IsBootable}
use Rattle.elf_load.specs.Start.{program_of}
use Rattle.elf_load.specs.declared.image.Image.{Image}
use Rattle.rv_inst.specs.Execution.{is_reserved}
use Rattle.rv_inst.specs.declared.effects.Effect.{Effect}
use Rattle.rv_inst.specs.declared.effects.Effect.TheVariants as effect
use Rattle.block_model.specs.Beside.{is_in_segment}
use Rattle.block_model.specs.Events.Exec.{next_effect, next_fault}
use Rattle.block_model.specs.Here.{Here, runs, view_of_all}
use Rattle.block_model.specs.Plain.{Plain}
use Rattle.shared_procs.specs.PairRuns.{PairEvent, PairHistory, pair_after}
use Rattle.shared_procs.specs.Pairs.{Pair, PairSetting, here_two, is_of_second, runs_in, setting}
use Rattle.shared_procs.specs.ReturningBarriers.{is_of_process}

-- OWN ENTRIES

-- whether an entry belongs to process p: its thread is the one that begins to run, or a thread of it runs on
-- the hart before the entry. Any other entry of an idle hart belongs to none
abbrev pub belongs_by : Pair → Bool → Entry → Kind → Bool
belongs_by m p e k = if is_run k then is_of_process p (is_of_second e.tid.0) else is_some (runs_in m p e.hart.0)

abbrev pub belongs : Pair → Bool → Entry → Bool
belongs m p e = belongs_by m p e e.kind

-- WHAT THEY LEARN

-- the bytes of the segment among so many from an address on, as they are seen
abbrev pub read_in_segment : (ℕ → Option ℕ) → ℕ → ℕ → List (Option ℕ)
read_in_segment view at zero = []
read_in_segment view at (suc n) =
    if is_in_segment at then view at ∷ read_in_segment view (at + 1) n else read_in_segment view (at + 1) n

-- those that an instruction with this effect reads
abbrev pub reads : (ℕ → Option ℕ) → Effect → List (Option ℕ)
reads view (effect.Load at size is_signed rd) = read_in_segment view at size
reads view (effect.Amo op at size value rd) = read_in_segment view at size
reads view (effect.Lr at size rd) = read_in_segment view at size
reads view (effect.Next rd value to) = []
reads view (effect.Store at size value) = []
reads view (effect.Sc at size value rd) = []
reads view (effect.Fence full) = []
reads view effect.FenceI = []
reads view effect.Call = []
reads view effect.Break = []
reads view effect.Misaligned = []

-- whether it succeeds, where it is an SC in the segment
abbrev pub succeeds : Option ℕ → Effect → Option Bool
succeeds reserved (effect.Sc at size value rd) = if is_in_segment at then Some (is_reserved reserved at) else None
succeeds reserved (effect.Next rd value to) = None
succeeds reserved (effect.Load at size is_signed rd) = None
succeeds reserved (effect.Store at size value) = None
succeeds reserved (effect.Amo op at size value rd) = None
succeeds reserved (effect.Lr at size rd) = None
succeeds reserved (effect.Fence full) = None
succeeds reserved effect.FenceI = None
succeeds reserved effect.Call = None
succeeds reserved effect.Break = None
succeeds reserved effect.Misaligned = None

-- what an instruction learns; one that faults learns nothing, and so does an event that is none
pub record Learnt : Type 0 where
  pub read : List (Option ℕ)
  pub succeeded : Option Bool

abbrev pub nothing_learnt : Learnt
nothing_learnt = record { read = []; succeeded = None }

abbrev pub learnt_by : Here → Option ℕ → Option Effect → Learnt
learnt_by here (Some signal) e = nothing_learnt
learnt_by here None None = nothing_learnt
learnt_by here None (Some e) = record { read = reads (view_of_all here) e; succeeded = succeeds here.reserved e }

abbrev pub learnt_exec : Here → Option ℕ → Learnt
learnt_exec here None = nothing_learnt
learnt_exec here (Some t) = learnt_by here (next_fault here t) (next_effect here t)

abbrev pub learnt_of : Kind → Here → Learnt
learnt_of k here = if is_instruction k then learnt_exec here (runs here) else nothing_learnt

-- an own entry with what it learnt, and whether its call began a barrier: one that returns at once begins
-- none
pub record OwnEntry : Type 0 where
  pub entry : Entry
  pub learnt : Learnt
  pub waits : Bool

abbrev pub own_entry : PairSetting → Bool → PairEvent → PairHistory → OwnEntry
own_entry s p e before = record {
  entry = e.entry;
  learnt = learnt_of e.entry.kind (here_two s (pair_after s before) p e.entry.hart.0);
  waits = is_some e.done.barrier;
}

-- those of process p in a history, newest first
abbrev pub own_entries : PairSetting → Bool → PairHistory → List OwnEntry
own_entries s p [] = []
own_entries s p (e ∷ before) =
    if belongs (pair_after s before) p e.entry then own_entry s p e before ∷ own_entries s p before else own_entries s p before

-- WHAT IS THE SAME

-- of a process: the files of its threads, the bytes of its memory, its waiting stores, its record (threads,
-- scheduling, signals, areas, ids, registrations, pages, console), and how it ended
pub record IsSameProcess (x y : Plain) : Type 0 where
  pub files : (t : ℕ) → x.file t ≡ y.file t
  pub bytes : (a : ℕ) → x.byte a ≡ y.byte a
  pub waiting : (h : ℕ) → x.waiting h ≡ y.waiting h
  pub kernel : x.kernel ≡ y.kernel
  pub ended : x.ended ≡ y.ended

-- the program of each process is that of an image with which a machine can start
pub record AreOfImages (s : PairSetting) : Type 0 where
  pub image : Bool → Image
  pub program : (p : Bool) → (setting s p).program ≡ program_of (image p)
  pub bootable : (p : Bool) → IsBootable s.limits.frames (image p)
