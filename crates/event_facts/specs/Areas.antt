-- The facts of the words of areas (rseq(2); uapi linux/rseq.h, `struct rseq`): which words of the area of an event's thread have another
-- number after an event of the kernel. They are read at the places before it and after it. What a program stores there is told as any
-- other store is.
use Rattle.std.specs.Prelude.{ℕ, ◌==◌, ◌&&◌, ◌||◌, Bool, true, false, List, [], ◌∷◌, ◌++◌, if◌then◌else◌, Option, Some, None, is_some}
use Rattle.std.specs.Option.{option_map, option_map_or}
use Rattle.mach_types.specs.Bytes.{word_at}
use Rattle.mach_types.specs.Events.{is_instruction, is_interrupting, kind_of, nature_of}
use Rattle.mach_types.specs.declared.events.Choice.{Choice}
use Rattle.mach_types.specs.declared.sequences.Area.{Area}
use Rattle.mach_types.specs.declared.sequences.TheConstants.{CPU_ID, FLAGS, MM_CID, NODE_ID, RSEQ_CS}
use Rattle.rv_inst.specs.Words.{sum_64}
use Rattle.block_model.specs.Here.{Here, memory}
use Rattle.block_model.specs.Sequences.{area_here}
use Rattle.fact_types.specs.declared.areas.AreaField.{AreaField}
use Rattle.fact_types.specs.declared.areas.AreaField.TheVariants as field
use Rattle.fact_types.specs.declared.calls.SystemCall.{SystemCall}
use Rattle.fact_types.specs.declared.facts.Fact.{Fact}
use Rattle.fact_types.specs.declared.facts.Fact.TheVariants.{AreaWord}
use Rattle.event_facts.specs.declared.areas.AreaBefore.{AreaBefore}
use Rattle.event_facts.specs.declared.areas.AreaWords.{AreaWords}

-- THE WORDS OF AN AREA

-- the number in a field of so many bytes, where it can be read
abbrev pub number_of : (ℕ → Option ℕ) → Area → ℕ → ℕ → Option ℕ
number_of byte area offset size = word_at byte (sum_64 area.at offset) size

abbrev pub words_of : (ℕ → Option ℕ) → Area → AreaWords
words_of byte area = record {
  cpu_id_start = number_of byte area 0 4;
  cpu_id = number_of byte area CPU_ID 4;
  rseq_cs = number_of byte area RSEQ_CS 8;
  flags = number_of byte area FLAGS 4;
  node_id = number_of byte area NODE_ID 4;
  mm_cid = number_of byte area MM_CID 4;
}

-- WHAT BECAME OF THEM

-- whether a number is this one
abbrev pub is_number : ℕ → Option ℕ → Bool
is_number value which = option_map_or (λ n. n == value) which false

-- a field that had this number and has that one, where either can be read
abbrev pub word_fact : AreaField → Option ℕ → Option ℕ → List Fact
word_fact f before None = []
word_fact f before (Some value) = if is_number value before then [] else AreaWord f value ∷ []

-- of an area that was registered before: those whose number is another one
abbrev pub changed_words : AreaWords → AreaWords → List Fact
changed_words before after =
    word_fact field.CpuIdStart before.cpu_id_start after.cpu_id_start
    ++ word_fact field.CpuId before.cpu_id after.cpu_id
    ++ word_fact field.RseqCs before.rseq_cs after.rseq_cs
    ++ word_fact field.Flags before.flags after.flags
    ++ word_fact field.NodeId before.node_id after.node_id
    ++ word_fact field.MmCid before.mm_cid after.mm_cid

-- of one that the event registered: those that the kernel keeps there, all
abbrev pub kept_words : AreaWords → List Fact
kept_words after =
    word_fact field.CpuIdStart None after.cpu_id_start
    ++ word_fact field.CpuId None after.cpu_id
    ++ word_fact field.NodeId None after.node_id
    ++ word_fact field.MmCid None after.mm_cid

-- by the area before, with what stood there, and the area after
abbrev pub area_words : Option AreaBefore → (ℕ → Option ℕ) → Option Area → List Fact
area_words (Some x) byte after = changed_words x.words (words_of byte x.area)
area_words None byte None = []
area_words None byte (Some area) = kept_words (words_of byte area)

-- OF AN EVENT

-- whether the kernel writes in events of this choice, which are this call or none: in those that may
-- interrupt a thread, and in calls
abbrev pub is_of_kernel : Choice → Option SystemCall → Bool
is_of_kernel c call = is_interrupting (nature_of (kind_of c)).interruption true true || (is_instruction (kind_of c) && is_some call)

-- an area, and what stands there; that of thread t
abbrev pub area_with : (ℕ → Option ℕ) → Area → AreaBefore
area_with byte area = record { area = area; words = words_of byte area }

abbrev pub area_before : Here → ℕ → Option AreaBefore
area_before here t = option_map (area_with (memory here)) (area_here here t)

-- of thread t, which had this area before the event
abbrev pub area_facts : Choice → Option SystemCall → Option AreaBefore → Here → ℕ → List Fact
area_facts c call before after t =
    if is_of_kernel c call then area_words before (memory after) (area_here after t) else []
