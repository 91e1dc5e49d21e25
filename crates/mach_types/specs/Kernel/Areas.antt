-- Restartable sequences (rseq(2); uapi linux/rseq.h, `struct rseq` and `struct rseq_cs`): what a registered area names, what an
-- interruption of its thread comes to, the words that the kernel writes into it, and which thread has which area. Bytes and what can
-- be written are functions of an address, so the same words are said of memory and of what a hart sees of it. A sum is exact,
-- and a distance is modulo 2^64 as in the standard's comparison of addresses.
use Rattle.std.specs.Prelude.{ℕ, ◌+◌, ◌-◌, ◌%◌, ◌^◌, ◌==◌, ◌&&◌, ◌||◌, Bool, false, not, List, [], ◌∷◌, ◌++◌, filter, find, if◌then◌else◌, Option, Some, None, Result, Ok, Err, is_some, unwrap_or, nat_le, nat_lt}
use Rattle.std.specs.Option.{option_map, option_map_or}
use Rattle.mach_types.specs.Bytes.{word_at, each_byte}
use Rattle.mach_types.specs.Kernel.Scheduling.{has_hart}
use Rattle.mach_types.specs.declared.address_space.TheConstants.{USER_END}
use Rattle.mach_types.specs.declared.errors.Errno.{Errno}
use Rattle.mach_types.specs.declared.errors.TheConstants.{EBUSY, EFAULT, EINVAL, EPERM}
use Rattle.mach_types.specs.declared.sequences.Area.{Area}
use Rattle.mach_types.specs.declared.sequences.BadWhy.TheVariants as bad
use Rattle.mach_types.specs.declared.sequences.Descriptor.{Descriptor}
use Rattle.mach_types.specs.declared.sequences.Named.{Named}
use Rattle.mach_types.specs.declared.sequences.Named.TheVariants as names
use Rattle.mach_types.specs.declared.sequences.Outcome.{Outcome}
use Rattle.mach_types.specs.declared.sequences.Outcome.TheVariants as comes_to
use Rattle.mach_types.specs.declared.sequences.Seq.{Seq}
use Rattle.mach_types.specs.declared.sequences.TheConstants.{AREA_SIZE, CPU_ID, RSEQ_CS, FLAGS, NODE_ID, MM_CID, DESCRIPTOR_SIZE, RSEQ_FLAG_UNREGISTER}
use Rattle.mach_types.specs.declared.user_memory.Write.{Write}
use Rattle.mach_types.specs.declared.user_memory.Write.TheVariants.{Stored}

-- whether each of so many bytes can be read
unfoldable pub are_readable : (ℕ → Option ℕ) → ℕ → ℕ → Bool
are_readable byte at n = each_byte (λ a. is_some (byte a)) at n

-- the number of so many bytes; 0 where one of them can't be read
unfoldable pub number_at : (ℕ → Option ℕ) → ℕ → ℕ → ℕ
number_at byte at n = unwrap_or (word_at byte at n) 0

-- how far an address is past another, modulo 2^64
abbrev pub distance : ℕ → ℕ → ℕ
distance from to = (to + (2 ^ 64 - from)) % 2 ^ 64

-- `struct rseq`: the pointer and the flags of an area, and whether both can be read
abbrev pub pointer_of : (ℕ → Option ℕ) → Area → ℕ
pointer_of byte area = number_at byte (area.at + RSEQ_CS) 8

abbrev pub flags_of : (ℕ → Option ℕ) → Area → ℕ
flags_of byte area = number_at byte (area.at + FLAGS) 4

abbrev pub can_read_area : (ℕ → Option ℕ) → Area → Bool
can_read_area byte area = are_readable byte (area.at + RSEQ_CS) 8 && are_readable byte (area.at + FLAGS) 4

-- `struct rseq_cs`: whether a descriptor can be read, and what it says
abbrev pub can_read_descriptor : (ℕ → Option ℕ) → ℕ → Bool
can_read_descriptor byte at = are_readable byte at DESCRIPTOR_SIZE

abbrev pub descriptor_at : (ℕ → Option ℕ) → ℕ → Descriptor
descriptor_at byte at = record {
  version = number_at byte at 4;
  flags = number_at byte (at + 4) 4;
  start_ip = number_at byte (at + 8) 8;
  post_commit_offset = number_at byte (at + 16) 8;
  abort_ip = number_at byte (at + 24) 8;
}

-- the sequence of a descriptor
abbrev pub sequence_of : Descriptor → Seq
sequence_of d = record { start = d.start_ip; length = d.post_commit_offset; abort = d.abort_ip }

-- a pc is inside a sequence: it is less than its length past its start
abbrev pub is_inside : Seq → ℕ → Bool
is_inside sequence pc = nat_lt (distance sequence.start pc) sequence.length

-- the start, the abort handler or the end of the sequence isn't below the end of addresses
abbrev pub is_out_of_range : Seq → Bool
is_out_of_range sequence =
    nat_le USER_END sequence.start || nat_le USER_END sequence.abort || nat_le USER_END (sequence.start + sequence.length)

-- the word before the abort handler is the signature of the area
abbrev pub is_signed : (ℕ → Option ℕ) → Area → Seq → Bool
is_signed byte area sequence =
    nat_le 4 sequence.abort && are_readable byte (sequence.abort - 4) 4 && (number_at byte (sequence.abort - 4) 4 == area.sig)

-- a flag of the area or of the descriptor is set
abbrev pub has_flags : (ℕ → Option ℕ) → Area → Descriptor → Bool
has_flags byte area d = not ((flags_of byte area == 0) && (d.flags == 0))

-- what a descriptor that can be read names for a thread of the area at a pc
abbrev pub named_by : (ℕ → Option ℕ) → Area → ℕ → Descriptor → Named
named_by byte area pc d =
    let sequence = sequence_of d in
    if not (d.version == 0) then names.Bad bad.Version
    else if is_out_of_range sequence then names.Bad bad.Range
    else if is_inside sequence sequence.abort then names.Bad bad.AbortInside
    else if not (is_signed byte area sequence) then names.Bad bad.Signature
    else if is_inside sequence pc && has_flags byte area d then names.Bad bad.SeqFlags
    else names.Good sequence

-- what an area names for its thread at a pc
abbrev pub named : (ℕ → Option ℕ) → Area → ℕ → Named
named byte area pc =
    let pointer = pointer_of byte area in
    if not (can_read_area byte area) then names.Bad bad.AreaBytes
    else if pointer == 0 then names.Nothing
    else if nat_le USER_END pointer then names.Bad bad.Pointer
    else if not (can_read_descriptor byte pointer) then names.Bad bad.Descriptor
    else named_by byte area pc (descriptor_at byte pointer)

-- whether a thread at a pc is inside what its area names
abbrev pub is_inside_named : Named → ℕ → Bool
is_inside_named names.Nothing pc = false
is_inside_named (names.Good sequence) pc = is_inside sequence pc
is_inside_named (names.Bad why) pc = false

-- the pointer of an area can be written
abbrev pub is_clearable : (ℕ → Bool) → Area → Bool
is_clearable can_write area = each_byte can_write (area.at + RSEQ_CS) 8

-- an interruption of a thread at a pc whose area names this. Linux sends SIGSEGV where something is wrong, which a handler may take;
-- that the process is killed is own.
abbrev pub outcome_of : (ℕ → Bool) → Area → ℕ → Named → Outcome
outcome_of can_write area pc names.Nothing = comes_to.Nothing
outcome_of can_write area pc (names.Bad why) = comes_to.Killed why
outcome_of can_write area pc (names.Good sequence) =
    if not (is_clearable can_write area) then comes_to.Killed bad.AreaBytes
    else if is_inside sequence pc then comes_to.Aborted sequence.abort
    else comes_to.Cleared

-- an interruption of a thread at a pc, with the area that is registered for it
abbrev pub interruption : (ℕ → Option ℕ) → (ℕ → Bool) → Option Area → ℕ → Outcome
interruption byte can_write None pc = comes_to.Nothing
interruption byte can_write (Some area) pc = outcome_of can_write area pc (named byte area pc)

-- the pointer of an area becomes 0
abbrev pub pointer_cleared : Option Area → List Write
pointer_cleared None = []
pointer_cleared (Some area) = Stored (record { at = area.at + RSEQ_CS; size = 8; value = 0 }) ∷ []

-- what an interruption writes, and where its thread goes on
abbrev pub writes_of : Option Area → Outcome → List Write
writes_of area comes_to.Nothing = []
writes_of area comes_to.Cleared = pointer_cleared area
writes_of area (comes_to.Aborted at) = pointer_cleared area
writes_of area (comes_to.Killed why) = []

abbrev pub pc_after : ℕ → Outcome → ℕ
pc_after pc comes_to.Nothing = pc
pc_after pc comes_to.Cleared = pc
pc_after pc (comes_to.Aborted at) = at
pc_after pc (comes_to.Killed why) = pc

-- the words that the kernel keeps in an area: the processor twice, its node, and the concurrency id of the thread
pub record Words : Type 0 where
  pub cpu_id_start : ℕ
  pub cpu_id : ℕ
  pub node_id : ℕ
  pub mm_cid : ℕ

-- those of a thread that runs on a processor with an id, where all processors are of node 0
abbrev pub words_on : ℕ → ℕ → Words
words_on cpu cid = record { cpu_id_start = cpu; cpu_id = cpu; node_id = 0; mm_cid = cid }

-- those of an area that is registered no longer: the processor is RSEQ_CPU_ID_UNINITIALIZED
abbrev pub words_unregistered : Words
words_unregistered = record { cpu_id_start = 0; cpu_id = 0xFFFFFFFF; node_id = 0; mm_cid = 0 }

-- whether they can be written, and their writes in order (the order is own)
abbrev pub are_words_writable : (ℕ → Bool) → Area → Bool
are_words_writable can_write area = each_byte can_write area.at 8 && each_byte can_write (area.at + NODE_ID) 8

abbrev pub word_stored : ℕ → ℕ → Write
word_stored at value = Stored (record { at = at; size = 4; value = value })

abbrev pub words_written : Area → Words → List Write
words_written area words =
    word_stored area.at words.cpu_id_start
    ∷ word_stored (area.at + CPU_ID) words.cpu_id
    ∷ word_stored (area.at + NODE_ID) words.node_id
    ∷ word_stored (area.at + MM_CID) words.mm_cid
    ∷ []

-- what enters memory where they were written, or couldn't be
abbrev pub words_entered : Bool → Area → Words → List Write
words_entered made area words = if made then words_written area words else []

-- rseq(area, len, flags, sig) of a thread that has an area: it may have only one
abbrev pub registered_again : Area → ℕ → ℕ → ℕ → Errno
registered_again old at len sig =
    if not ((at == old.at) && (len == AREA_SIZE)) then EINVAL
    else if not (sig == old.sig) then EPERM
    else EBUSY

-- the same of a thread that has none. That a pointer of 0 is refused, and each length but that of six fields, is own.
abbrev pub registered_first : ℕ → ℕ → ℕ → Result Area Errno
registered_first at len sig =
    if not (len == AREA_SIZE) || (at == 0) || not (at % AREA_SIZE == 0) then Err EINVAL
    else if nat_lt USER_END (at + AREA_SIZE) then Err EFAULT
    else Ok (record { at = at; sig = sig })

-- rseq(area, len, flags, sig) that registers: the area, or the first refusal (their order is own)
abbrev pub registration : Option Area → ℕ → ℕ → ℕ → ℕ → Result Area Errno
registration old at len flags sig =
    if not (flags == 0) then Err EINVAL
    else option_map_or (λ area. Err (registered_again area at len sig)) old (registered_first at len sig)

-- rseq(area, len, flags, sig) that unregisters an area that the thread has
abbrev pub unregistration_of : Area → ℕ → ℕ → ℕ → Result (Unit {0}) Errno
unregistration_of old at len sig =
    if not (at == old.at) || not (len == AREA_SIZE) then Err EINVAL
    else if not (sig == old.sig) then Err EPERM
    else Ok tt

-- rseq(area, len, flags, sig) that unregisters: nothing to say, or the first refusal (their order is own). That the words of the
-- area must be writable comes last, and stands with the call.
abbrev pub unregistration : Option Area → ℕ → ℕ → ℕ → ℕ → Result (Unit {0}) Errno
unregistration old at len flags sig =
    if not (flags == RSEQ_FLAG_UNREGISTER) then Err EINVAL
    else option_map_or (λ area. unregistration_of area at len sig) old (Err EINVAL)

-- the areas of threads, each by the number of its thread
abbrev pub is_area_of : ℕ → ℕ × Area → Bool
is_area_of t pair = pair.0 == t

abbrev pub area_of : ℕ → List (ℕ × Area) → Option Area
area_of t areas = option_map (λ pair. pair.1) (find (is_area_of t) areas)

-- a thread that has none gets an area; and a thread has none any more, since it unregistered it or ended
abbrev pub with_area : ℕ → Area → List (ℕ × Area) → List (ℕ × Area)
with_area t area areas = areas ++ (t, area) ∷ []

abbrev pub without_area : ℕ → List (ℕ × Area) → List (ℕ × Area)
without_area t areas = filter (λ pair. not (is_area_of t pair)) areas

-- the ids that threads on 8 harts can hold; a set of them has a bit for each, as a set of harts has
abbrev pub concurrency_ids : List ℕ
concurrency_ids = 0 ∷ 1 ∷ 2 ∷ 3 ∷ 4 ∷ 5 ∷ 6 ∷ 7 ∷ []

abbrev pub is_held : ℕ → ℕ → Bool
is_held held cid = has_hart held cid

-- the least of them that isn't held; 0 where all are held
abbrev pub lowest_cid : ℕ → ℕ
lowest_cid held = unwrap_or (find (λ cid. not (is_held held cid)) concurrency_ids) 0
