-- The calls that change the pages of a process: when each is refused, in this order, and what it does. A refusal is said over
-- the permissions of all pages and the number of free frames.
use Rattle.std.specs.Prelude.{ℕ, ◌+◌, ◌-◌, ◌*◌, ◌/◌, ◌%◌, ◌==◌, ◌&&◌, ◌∷◌, Bool, not, if◌then◌else◌, Option, Some, None, Result, Ok, Err, nat_le, nat_lt, bit_and}
use Rattle.mach_types.specs.Kernel.Pages.{PageRun, Pages, is_mapped, is_without_code, lowest_hole, mapped_count, pages_of, permission_of, run, with_mapping, with_protection, without_pages}
use Rattle.mach_types.specs.declared.address_space.TheConstants.{MAPPING_START, PAGE_SIZE, USER_END}
use Rattle.mach_types.specs.declared.errors.Errno.{Errno}
use Rattle.mach_types.specs.declared.errors.TheConstants.{EACCES, EINVAL, ENOMEM}
use Rattle.mach_types.specs.declared.kernel_words.TheConstants.{MOST_PROT, PROT_EXEC, PROT_READ, PROT_WRITE}

-- whether a prot has a bit (mmap(2), mprotect(2))
abbrev pub has_prot : ℕ → ℕ → Bool
has_prot bit prot = not (bit_and prot bit == 0)

-- the permission that a prot gives: who may write may read (own), PROT_READ lets read, and PROT_NONE lets nothing be done
abbrev pub permission_for : ℕ → ℕ
permission_for prot = if has_prot PROT_WRITE prot then 6 else if has_prot PROT_READ prot then 4 else 0

-- no page becomes executable after the start, and none that is executable changes (own)

-- what a call answers that has no other answer than 0, unless it is refused
abbrev pub answer_unless : Option Errno → Result (Unit {0}) Errno
answer_unless None = Ok tt
answer_unless (Some e) = Err e

-- the address of the page at which a mapping begins; ENOMEM where it fits nowhere
abbrev pub address_of : Option ℕ → Result ℕ Errno
address_of None = Err ENOMEM
address_of (Some first) = Ok (first * PAGE_SIZE)

-- mmap(2): EINVAL for no bytes, and for a bit that no prot has (own); EACCES for pages that could be executed (own); ENOMEM
-- where fewer frames are free than pages are needed, or where they fit nowhere; else their address
abbrev pub mmap_answer : (ℕ → Option ℕ) → ℕ → ℕ → ℕ → Result ℕ Errno
mmap_answer permission free len prot =
    if len == 0 then Err EINVAL
    else if nat_lt MOST_PROT prot then Err EINVAL
    else if has_prot PROT_EXEC prot then Err EACCES
    else if nat_lt free (pages_of len) then Err ENOMEM
    else address_of (lowest_hole permission (pages_of len))

-- the pages are mapped from that address on, all zero
abbrev pub mapped_at : ℕ → ℕ → ℕ → Pages → Pages
mapped_at at len prot p = with_mapping (at / PAGE_SIZE) (pages_of len) (permission_for prot) p

-- munmap(2): EINVAL for an address within a page, for no bytes, and where they end past the addresses of a process; EACCES
-- where one of the pages can be executed (own). Pages that aren't mapped are no error
abbrev pub munmap_refusal : (ℕ → Option ℕ) → ℕ → ℕ → Option Errno
munmap_refusal permission at len =
    if not (at % PAGE_SIZE == 0) then Some EINVAL
    else if len == 0 then Some EINVAL
    else if nat_lt USER_END (at + len) then Some EINVAL
    else if not (is_without_code permission (at / PAGE_SIZE) (pages_of len)) then Some EACCES
    else None

abbrev pub unmapped : ℕ → ℕ → Pages → Pages
unmapped at len p = without_pages (at / PAGE_SIZE) (pages_of len) p

-- mprotect(2): EINVAL for an address within a page; no bytes are no error. From here the order is own: EINVAL for a bit that no
-- prot has (own); EACCES for pages that could be executed (own); ENOMEM where the bytes end past the addresses of a process, or
-- where a page isn't mapped; EACCES where one of the pages can be executed (own)
abbrev pub mprotect_refusal : (ℕ → Option ℕ) → ℕ → ℕ → ℕ → Option Errno
mprotect_refusal permission at len prot =
    if not (at % PAGE_SIZE == 0) then Some EINVAL
    else if len == 0 then None
    else if nat_lt MOST_PROT prot then Some EINVAL
    else if has_prot PROT_EXEC prot then Some EACCES
    else if nat_lt USER_END (at + len) then Some ENOMEM
    else if not (is_mapped permission (at / PAGE_SIZE) (pages_of len)) then Some ENOMEM
    else if not (is_without_code permission (at / PAGE_SIZE) (pages_of len)) then Some EACCES
    else None

abbrev pub protected : ℕ → ℕ → ℕ → Pages → Pages
protected at len prot p = with_protection (at / PAGE_SIZE) (pages_of len) (permission_for prot) p

-- brk(2): the break moves to an address from the program's own break, where its data ended at the start, to the end of the
-- addresses below mappings (own), and, where it grows, only if a frame is free for each page; else nothing changes
abbrev pub may_move_break : ℕ → ℕ → ℕ → ℕ → Bool
may_move_break lowest free break_at at =
    nat_le lowest at && nat_le at MAPPING_START && nat_le (pages_of at - pages_of break_at) free

-- the pages that change with the break are those between the ends of both. Where it grows they are mapped, to read and to write:
-- whole pages above the last one of the old break, so that a page below, that was removed, stays so. Where it shrinks they are
-- removed
abbrev pub break_run : ℕ → ℕ → PageRun
break_run break_at at =
    if nat_le break_at at then run (pages_of break_at) (pages_of at - pages_of break_at) (Some 6)
    else run (pages_of at) (pages_of break_at - pages_of at) None

-- how many frames are free then: each page that is mapped takes one, and each that was mapped and is removed gives one back
abbrev pub free_past : (ℕ → Option ℕ) → ℕ → ℕ → ℕ → ℕ
free_past permission free break_at at =
    if nat_le break_at at then free - (pages_of at - pages_of break_at)
    else free + mapped_count permission (pages_of at) (pages_of break_at - pages_of at)

-- the pages after the call, which always answers their break
abbrev pub break_moved : ℕ → ℕ → Pages → Pages
break_moved lowest at p =
    if may_move_break lowest p.free p.break_at at
    then (record { runs = break_run p.break_at at ∷ p.runs; free = free_past (permission_of p.runs) p.free p.break_at at; break_at = at })
    else p
