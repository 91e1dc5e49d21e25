-- The bytes at which the check of an area looks (rseq(2); uapi linux/rseq.h): those that its lines come to, and no others. Bytes are a
-- function of an address, so the same words are said of memory and of what a hart sees of it.
use Rattle.std.specs.Prelude.{ℕ, ◌-◌, ◌==◌, not, if◌then◌else◌, Option, Some, None, nat_le}
use Rattle.mach_types.specs.declared.address_space.TheConstants.{USER_END}
use Rattle.mach_types.specs.declared.sequences.Area.{Area}
use Rattle.mach_types.specs.declared.sequences.Descriptor.{Descriptor}
use Rattle.mach_types.specs.Kernel.Areas.{can_read_area, can_read_descriptor, descriptor_at, is_inside, is_out_of_range, pointer_of, sequence_of}
use Rattle.rseq_area.specs.declared.lookups.Lookups.{Lookups}

-- the word before the abort handler of a descriptor that can be read: the check looks at it where the version, the range and the
-- abort handler aren't wrong, and 4 bytes are before the abort handler
abbrev pub signature_of : Descriptor → Option ℕ
signature_of d =
    let sequence = sequence_of d in
    if not (d.version == 0) then None
    else if is_out_of_range sequence then None
    else if is_inside sequence sequence.abort then None
    else if nat_le 4 sequence.abort then Some (sequence.abort - 4)
    else None

abbrev pub signature_at : (ℕ → Option ℕ) → ℕ → Option ℕ
signature_at byte at = if can_read_descriptor byte at then signature_of (descriptor_at byte at) else None

-- of the area the pointer and the flags alone
abbrev pub fields_of : Area → Lookups
fields_of area = record { area = area.at; descriptor = None; signature = None }

-- the descriptor too, where the two can be read, and the pointer isn't 0 and is below the end of addresses
abbrev pub looked_at : (ℕ → Option ℕ) → Area → Lookups
looked_at byte area =
    let pointer = pointer_of byte area in
    if not (can_read_area byte area) then fields_of area
    else if pointer == 0 then fields_of area
    else if nat_le USER_END pointer then fields_of area
    else record { area = area.at; descriptor = Some pointer; signature = signature_at byte pointer }
