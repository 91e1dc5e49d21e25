-- Worked examples, computed: bytes and stores; restartable sequences and barriers, with the answers of rseq(2) and membarrier(2).
use Rattle.std.proofs.Common.{◌≡◌, ℕ, ◌+◌, ◌-◌, ◌*◌, ◌^◌, ◌&&◌, ℤ, pos, negsuc, neg_ℤ, true, false, Option, Some, None, List, [], ◌∷◌, ◌++◌, map, refl, if◌then◌else◌, nat_le, nat_lt}
use Rattle.std.specs.Prelude.{Ok, Err}
use Rattle.mach_types.specs.Bytes.{word_at, byte_of, overlay, written}
use Rattle.mach_types.specs.Kernel.Areas.{are_readable, number_at, named, is_inside, interruption, pc_after, writes_of, words_on, words_unregistered, words_written, registration, unregistration, area_of, with_area, without_area, lowest_cid}
use Rattle.mach_types.specs.Kernel.Barriers.{asked, command, none_registered, registered_after}
use Rattle.mach_types.specs.declared.barriers.Answer.{Answer}
use Rattle.mach_types.specs.declared.barriers.Answer.TheVariants.{Value, Begin}
use Rattle.mach_types.specs.declared.barriers.Registered.{Registered}
use Rattle.mach_types.specs.declared.errors.TheConstants.{EBUSY, EFAULT, EINVAL, EPERM}
use Rattle.mach_types.specs.declared.sequences.Area.{Area}
use Rattle.mach_types.specs.declared.sequences.BadWhy.TheVariants as bad
use Rattle.mach_types.specs.declared.sequences.Named.TheVariants as names
use Rattle.mach_types.specs.declared.sequences.Outcome.TheVariants as to
use Rattle.mach_types.specs.declared.sequences.Seq.{Seq}
use Rattle.mach_types.specs.declared.user_memory.Store.{Store}
use Rattle.mach_types.specs.declared.user_memory.Write.TheVariants.{Stored}

-- two bytes, the lower first
pub two_bytes : word_at (λ a. Some (a + 1)) 4 2 ≡ Some (5 + 256 * 6)
two_bytes = refl

-- a missing byte makes the word missing
pub missing_byte : word_at (λ a. if nat_lt a 6 then Some 1 else None) 4 4 ≡ None
missing_byte = refl

-- byte 1 of 0x1234 is 0x12
pub second_byte : byte_of 0x1234 1 ≡ 0x12
second_byte = refl

-- two stores have address 9; the younger, a word from 8 on, decides
pub younger_decides : overlay (record { at = 9; size = 1; value = 7 } ∷ record { at = 8; size = 4; value = 0x44332211 } ∷ []) 9 0 ≡ 0x22
younger_decides = refl

-- the address past a store keeps what was there
pub past_the_end : overlay (record { at = 8; size = 4; value = 5 } ∷ []) 12 99 ≡ 99
past_the_end = refl

-- A memory for examples: bytes 0x1000 to 0x1fff can be read; an area stands at 0x1000, which names the descriptor at 0x1040 of the
-- sequence of 12 bytes from 0x400000 on, with its abort handler at 0x1200 behind the signature.
abbrev readable : List Store → ℕ → Option ℕ
readable stores a = if nat_le 0x1000 a && nat_lt a 0x2000 then Some (overlay stores a 0) else None

abbrev an_area : Area
an_area = record { at = 0x1000; sig = 0xF1401073 }

abbrev pointer : ℕ → Store
pointer value = record { at = 0x1008; size = 8; value = value }

abbrev area_flags : ℕ → Store
area_flags value = record { at = 0x1010; size = 4; value = value }

abbrev descriptor : ℕ → ℕ → ℕ → ℕ → ℕ → List Store
descriptor version flags start length abort =
    record { at = 0x1040; size = 4; value = version }
    ∷ record { at = 0x1044; size = 4; value = flags }
    ∷ record { at = 0x1048; size = 8; value = start }
    ∷ record { at = 0x1050; size = 8; value = length }
    ∷ record { at = 0x1058; size = 8; value = abort }
    ∷ []

abbrev signature : ℕ → Store
signature value = record { at = 0x11FC; size = 4; value = value }

-- all of it, with one store more
abbrev good_memory : List Store → ℕ → Option ℕ
good_memory more = readable (pointer 0x1040 ∷ signature 0xF1401073 ∷ descriptor 0 0 0x400000 12 0x1200 ++ more)

abbrev the_sequence : Seq
the_sequence = record { start = 0x400000; length = 12; abort = 0x1200 }

-- an area whose flags can't be read, though its pointer can
bytes_of_area : named (readable []) (record { at = 0x1FF0; sig = 0 }) 0 ≡ names.Bad bad.AreaBytes
unfolding are_readable number_at
bytes_of_area = refl

-- a pointer of 0
no_pointer : named (readable []) an_area 0x400000 ≡ names.Nothing
unfolding are_readable number_at
no_pointer = refl

-- a pointer to the end of addresses, and one past it
far_pointers : named (readable (pointer (2 ^ 38) ∷ [])) an_area 0 ∷ named (readable (pointer (2 ^ 64 - 1) ∷ [])) an_area 0 ∷ [] ≡ names.Bad bad.Pointer ∷ names.Bad bad.Pointer ∷ []
unfolding are_readable number_at
far_pointers = refl

-- a descriptor whose last byte can't be read
half_descriptor : named (readable (pointer 0x1FE1 ∷ [])) an_area 0 ≡ names.Bad bad.Descriptor
unfolding are_readable number_at
half_descriptor = refl

other_version : named (good_memory (descriptor 1 0 0x400000 12 0x1200)) an_area 0 ≡ names.Bad bad.Version
unfolding are_readable number_at
other_version = refl

-- a sequence that ends at the end of addresses; one whose end is no address at all; and one that ends a byte before
ranges :
    named (good_memory (descriptor 0 0 (2 ^ 38 - 4) 4 0x1200)) an_area 0
    ∷ named (good_memory (descriptor 0 0 0x400000 (2 ^ 64 - 0x400000) 0x1200)) an_area 0
    ∷ named (good_memory (descriptor 0 0 (2 ^ 38 - 4) 3 0x1200)) an_area 0
    ∷ [] ≡ names.Bad bad.Range ∷ names.Bad bad.Range ∷ names.Good (record { start = 2 ^ 38 - 4; length = 3; abort = 0x1200 }) ∷ []
unfolding are_readable number_at
ranges = refl

-- an abort handler at the start; at the last byte; and behind the last byte, where no signature stands
aborts_inside :
    named (good_memory (descriptor 0 0 0x400000 12 0x400000)) an_area 0
    ∷ named (good_memory (descriptor 0 0 0x400000 12 0x40000B)) an_area 0
    ∷ named (good_memory (descriptor 0 0 0x400000 12 0x40000C)) an_area 0
    ∷ [] ≡ names.Bad bad.AbortInside ∷ names.Bad bad.AbortInside ∷ names.Bad bad.Signature ∷ []
unfolding are_readable number_at
aborts_inside = refl

-- another word before the abort handler; and an abort handler before which there is no word
unsigned : named (good_memory (signature 0xF1401072 ∷ [])) an_area 0 ∷ named (good_memory (descriptor 0 0 0x400000 12 3)) an_area 0 ∷ [] ≡
    names.Bad bad.Signature ∷ names.Bad bad.Signature ∷ []
unfolding are_readable number_at
unsigned = refl

-- flags of the area and of the descriptor, for a thread inside
flags_inside :
    named (good_memory (area_flags 1 ∷ [])) an_area 0x400000
    ∷ named (good_memory (descriptor 0 4 0x400000 12 0x1200)) an_area 0x40000B
    ∷ [] ≡ names.Bad bad.SeqFlags ∷ names.Bad bad.SeqFlags ∷ []
unfolding are_readable number_at
flags_inside = refl

-- the same flags outside: before the start, and just past the end
flags_outside :
    named (good_memory (area_flags 1 ∷ [])) an_area 0x3FFFFF
    ∷ named (good_memory (descriptor 0 4 0x400000 12 0x1200)) an_area 0x40000C
    ∷ named (good_memory []) an_area 0x400004
    ∷ [] ≡ names.Good (record { start = 0x400000; length = 12; abort = 0x1200 }) ∷ names.Good the_sequence ∷ names.Good the_sequence ∷ []
unfolding are_readable number_at
flags_outside = refl

-- the first byte and the last are inside, the one before and the one past the end aren't
inside : is_inside the_sequence 0x400000 ∷ is_inside the_sequence 0x40000B ∷ is_inside the_sequence 0x3FFFFF ∷ is_inside the_sequence 0x40000C ∷ [] ≡
    true ∷ true ∷ false ∷ false ∷ []
inside = refl

-- interruptions: without an area; with no sequence, and nothing writable; with a bad one; inside; outside; and with a pointer that
-- can't be written
interruptions :
    interruption (good_memory []) (λ a. true) None 0x400000
    ∷ interruption (readable []) (λ a. false) (Some an_area) 0x400000
    ∷ interruption (good_memory (signature 0 ∷ [])) (λ a. true) (Some an_area) 0x400000
    ∷ interruption (good_memory []) (λ a. true) (Some an_area) 0x400008
    ∷ interruption (good_memory []) (λ a. true) (Some an_area) 0x40000C
    ∷ interruption (good_memory []) (λ a. nat_lt a 0x100F) (Some an_area) 0x400008
    ∷ [] ≡
    to.Nothing ∷ to.Nothing ∷ to.Killed bad.Signature ∷ to.Aborted 0x1200 ∷ to.Cleared ∷ to.Killed bad.AreaBytes ∷ []
unfolding are_readable number_at
interruptions = refl

-- where the thread goes on, and what becomes 0
after_interruptions : pc_after 0x400008 (to.Aborted 0x1200) ∷ pc_after 0x40000C to.Cleared ∷ pc_after 7 to.Nothing ∷ [] ≡ 0x1200 ∷ 0x40000C ∷ 7 ∷ []
after_interruptions = refl

cleared_pointers : writes_of (Some an_area) (to.Aborted 0x1200) ∷ writes_of (Some an_area) to.Cleared ∷ writes_of (Some an_area) (to.Killed bad.Range) ∷ [] ≡
    (Stored (pointer 0) ∷ []) ∷ (Stored (pointer 0) ∷ []) ∷ [] ∷ []
cleared_pointers = refl

-- bytes of the four words of a thread on hart 3 with id 1, over bytes of 9: `rseq_cs` and `flags` between them stay, and so does what
-- follows
four_words : map (λ a. written (words_written an_area (words_on 3 1)) a 9) (0x1000 ∷ 0x1004 ∷ 0x1008 ∷ 0x1010 ∷ 0x1014 ∷ 0x1018 ∷ 0x101C ∷ []) ≡
    3 ∷ 3 ∷ 9 ∷ 9 ∷ 0 ∷ 1 ∷ 9 ∷ []
four_words = refl

-- the answers of rseq(2), in this order on one thread: it registers, does so again, with another signature and another address, fails to
-- unregister with another signature, unregisters, does so again, and registers an address that isn't aligned
abbrev other_area : Area
other_area = record { at = 0x20000; sig = 0xF1401073 }

registrations_of_rseq :
    registration None 0x20000 32 0 0xF1401073
    ∷ registration (Some other_area) 0x20000 32 0 0xF1401073
    ∷ registration (Some other_area) 0x20000 32 0 5
    ∷ registration (Some other_area) 0x20020 32 0 0xF1401073
    ∷ registration None 0x20008 32 0 0xF1401073
    ∷ [] ≡ Ok other_area ∷ Err EBUSY ∷ Err EPERM ∷ Err EINVAL ∷ Err EINVAL ∷ []
registrations_of_rseq = refl

unregistrations_of_rseq :
    unregistration (Some other_area) 0x20000 32 1 5
    ∷ unregistration (Some other_area) 0x20000 32 1 0xF1401073
    ∷ unregistration None 0x20000 32 1 0xF1401073
    ∷ [] ≡ Err EPERM ∷ Ok tt ∷ Err EINVAL ∷ []
unregistrations_of_rseq = refl

-- the byte of `cpu_id` in words that are unregistered
unregistered_cpu : map (λ a. written (words_written other_area words_unregistered) a 9) (0x20000 ∷ 0x20004 ∷ 0x20007 ∷ []) ≡ 0 ∷ 0xFF ∷ 0xFF ∷ []
unregistered_cpu = refl

-- the last area below the end of addresses, and one past it; other lengths, address 0 and unknown flags
edges_of_registration :
    registration None (2 ^ 38 - 32) 32 0 7
    ∷ registration None (2 ^ 38) 32 0 7
    ∷ registration None 0x20000 31 0 7
    ∷ registration None 0 32 0 7
    ∷ registration None 0x20000 32 2 7
    ∷ registration (Some other_area) 0x20000 64 0 0xF1401073
    ∷ [] ≡ Ok (record { at = 2 ^ 38 - 32; sig = 7 }) ∷ Err EFAULT ∷ Err EINVAL ∷ Err EINVAL ∷ Err EINVAL ∷ Err EINVAL ∷ []
edges_of_registration = refl

-- the least id that isn't held
ids : map lowest_cid (0 ∷ 0b1 ∷ 0b10 ∷ 0b1011 ∷ 0b01111111 ∷ []) ≡ 0 ∷ 1 ∷ 0 ∷ 2 ∷ 7 ∷ []
ids = refl

-- the areas of threads
areas_of_threads : area_of 2 (with_area 2 an_area (with_area 1 other_area [])) ∷ area_of 2 (without_area 2 (with_area 2 an_area (with_area 1 other_area []))) ∷
    area_of 1 (without_area 2 (with_area 2 an_area (with_area 1 other_area []))) ∷ [] ≡ Some an_area ∷ None ∷ Some other_area ∷ []
areas_of_threads = refl

-- the answers of membarrier(2), in this order on the only thread of a machine with one hart
abbrev alone : Registered → ℕ → ℕ → ℕ → Answer
alone r cmd flags cpu = command r (pos cmd) flags (pos cpu) 0 0b1 1

abbrev both : Registered
both = record none_registered { private = true; rseq = true }

answers_alone :
    alone none_registered 0 0 0
    ∷ alone none_registered 8 0 0
    ∷ alone none_registered 1 1 0
    ∷ alone none_registered 32 0 0
    ∷ alone none_registered 16 0 0
    ∷ alone (record none_registered { private = true }) 256 0 0
    ∷ alone both 512 0 0
    ∷ alone both 128 1 99
    ∷ alone both 128 2 0
    ∷ [] ≡
    Value (pos 927)
    ∷ Value (neg_ℤ (pos 1))
    ∷ Value (neg_ℤ (pos 22))
    ∷ Value (neg_ℤ (pos 22))
    ∷ Value (pos 0)
    ∷ Value (pos 0)
    ∷ Value (pos 272)
    ∷ Value (pos 0)
    ∷ Value (neg_ℤ (pos 22))
    ∷ []
unfolding asked
answers_alone = refl

registered_both : registered_after (registered_after none_registered (pos 16) 0) (pos 256) 0 ≡ both
unfolding asked
registered_both = refl

-- three threads run on harts 0, 1 and 3 of four, and the one on hart 1 calls: 1 and 8 are about harts 0 and 3; 2 about none before 4; 128
-- with its flag about hart 3 alone, or where the processor is -1 about both; and about the own hart it is over at once
abbrev among : Registered → ℕ → ℕ → ℤ → Answer
among r cmd flags cpu = command r (pos cmd) flags cpu 1 0b1011 4

answers_among :
    among none_registered 1 0 (pos 0)
    ∷ among both 8 0 (pos 3)
    ∷ among both 2 0 (pos 0)
    ∷ among (record both { global = true }) 2 0 (pos 0)
    ∷ among both 128 0 (pos 3)
    ∷ among both 128 1 (pos 3)
    ∷ among both 128 1 (negsuc 0)
    ∷ among both 128 1 (pos 1)
    ∷ among both 128 1 (pos 2)
    ∷ among both 8 1 (pos 0)
    ∷ [] ≡
    Begin 0b1001 false
    ∷ Begin 0b1001 false
    ∷ Value (pos 0)
    ∷ Begin 0b1001 false
    ∷ Begin 0b1001 true
    ∷ Begin 0b1000 true
    ∷ Begin 0b1001 true
    ∷ Value (pos 0)
    ∷ Value (pos 0)
    ∷ Value (neg_ℤ (pos 22))
    ∷ []
unfolding asked
answers_among = refl
