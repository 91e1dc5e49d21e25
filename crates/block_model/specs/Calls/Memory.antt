-- brk(2), mmap(2), munmap(2), mprotect(2) and madvise(2): the calls that map, remove and protect pages of the process, or make them
-- zero. When the first four are refused and what they make of the pages stands with the pages; here are their arguments, answers and
-- writes, all of madvise(2), and the pages that a call would take from those who use them.
use Rattle.std.specs.Prelude.{ℕ, zero, suc, ◌+◌, ◌-◌, ◌*◌, ◌/◌, ◌%◌, ◌^◌, ◌==◌, ◌&&◌, ◌||◌, Bool, false, not, List, [], ◌∷◌, if◌then◌else◌, Option, Some, None, is_none, is_some, Result, Ok, Err, nat_le, nat_lt, bit_and}
use Rattle.std.specs.List.{list_any}
use Rattle.mach_types.specs.Bytes.{each_byte}
use Rattle.mach_types.specs.declared.address_space.TheConstants.{PAGE_SIZE, USER_END}
use Rattle.mach_types.specs.declared.errors.Errno.{Errno}
use Rattle.mach_types.specs.declared.errors.TheConstants.{EINVAL, ENOMEM}
use Rattle.mach_types.specs.declared.user_memory.Store.{Store}
use Rattle.mach_types.specs.declared.user_memory.Write.{Write}
use Rattle.mach_types.specs.Kernel.Pages.{PageRun, Pages, is_in, is_mapped, is_without_code, pages_of, permission_of, run, zeros_of}
use Rattle.mach_types.specs.Kernel.PageCalls.{break_moved, break_run, mapped_at, may_move_break, mmap_answer, mprotect_refusal, munmap_refusal, permission_for, protected, unmapped}
use Rattle.block_model.specs.Beside.{Neighbour, or_in_segment}
use Rattle.block_model.specs.Here.{Here}
use Rattle.block_model.specs.Kernel.{paged}
use Rattle.block_model.specs.Calls.Answers.{CallDone, Errors, argument, int_argument, refused, said, unless}

-- the permission of page n, where it is mapped
abbrev pub permission_here : Here → ℕ → Option ℕ
permission_here here = permission_of here.kernel.pages.runs

-- a call that has no other answer than 0: refused with an error, or the pages are these after it
abbrev pub changed_unless : Here → ℕ → Option Errno → Pages → CallDone
changed_unless here t (Some e) pages = refused here t e
changed_unless here t None pages = record (said here t 0) { kernel = paged pages here.kernel }

-- brk(p), number 214: where the break may move it moves to p, from the program's own break upwards, and whole pages are mapped,
-- all zero, or removed. It always answers the break
abbrev pub may_break : Here → ℕ → Bool
may_break here p = may_move_break here.setting.program.break_at here.kernel.pages.free here.kernel.pages.break_at p

-- the zeros of the pages that are mapped; none where none is
abbrev pub zeros_if_mapped : PageRun → List Write
zeros_if_mapped r = if is_some r.permission && not (r.count == 0) then zeros_of r ∷ [] else []

abbrev pub brk : Here → ℕ → CallDone
brk here t =
    let p = argument here t 0 in
    let pages = break_moved here.setting.program.break_at p here.kernel.pages in
    record (said here t pages.break_at) {
      entered = if may_break here p then zeros_if_mapped (break_run here.kernel.pages.break_at p) else [];
      kernel = paged pages here.kernel;
    }

-- munmap(p, len), number 215
abbrev pub munmap : Here → ℕ → CallDone
munmap here t =
    let p = argument here t 0 in
    let len = argument here t 1 in
    changed_unless here t (munmap_refusal (permission_here here) p len) (unmapped p len here.kernel.pages)

-- the flags that change nothing: MAP_NORESERVE, MAP_POPULATE and MAP_STACK; and those that must be given beside them:
-- MAP_PRIVATE 0x02 and MAP_ANONYMOUS 0x20. No other is known (own)
abbrev pub ignored_flags : ℕ
ignored_flags = 0x2C000

abbrev pub private_and_anonymous : ℕ
private_and_anonymous = 0x22

abbrev pub are_mapping_flags : ℕ → Bool
are_mapping_flags flags = flags - bit_and flags ignored_flags == private_and_anonymous

-- the pages are mapped at an address, all zero, or the call is refused
abbrev pub mapped_or_refused : Here → ℕ → ℕ → ℕ → Result ℕ Errno → CallDone
mapped_or_refused here t len prot (Err e) = refused here t e
mapped_or_refused here t len prot (Ok at) = record (said here t at) {
  entered = zeros_of (run (at / PAGE_SIZE) (pages_of len) (Some (permission_for prot))) ∷ [];
  kernel = paged (mapped_at at len prot here.kernel.pages) here.kernel;
}

-- mmap(p, len, prot, flags, fd, off), number 222: p, fd and off are ignored, since no file is mapped and the place is the lowest
-- that fits (own)
abbrev pub mmap_errors : Here → ℕ → Errors
mmap_errors here t = (not (are_mapping_flags (argument here t 3)), EINVAL) ∷ []

abbrev pub mmap : Here → ℕ → CallDone
mmap here t =
    let len = argument here t 1 in
    let prot = argument here t 2 in
    unless here t (mmap_errors here t)
    (mapped_or_refused here t len prot (mmap_answer (permission_here here) here.kernel.pages.free len prot))

-- mprotect(p, len, prot), number 226
abbrev pub mprotect : Here → ℕ → CallDone
mprotect here t =
    let p = argument here t 0 in
    let len = argument here t 1 in
    let prot = argument here t 2 in
    changed_unless here t (mprotect_refusal (permission_here here) p len prot) (protected p len prot here.kernel.pages)

-- The advice that changes nothing here: MADV_NORMAL, MADV_RANDOM, MADV_SEQUENTIAL and MADV_WILLNEED, 0 to 3; MADV_FREE, 8, whose pages
-- are never freed (own); MADV_DONTFORK and MADV_DOFORK, 10 and 11; and from MADV_HUGEPAGE to MADV_PAGEOUT, 14 to 21
abbrev pub is_idle_advice : ℕ → Bool
is_idle_advice advice =
    nat_le advice 3 || advice == 8 || (nat_le 10 advice && nat_le advice 11) || (nat_le 14 advice && nat_le advice 21)

-- MADV_DONTNEED: the bytes of the pages are needed no more, and they are zero from now on
abbrev pub is_dropping : ℕ → Bool
is_dropping advice = advice == 4

-- whether whole pages that hold so many bytes from an address on would pass the last address
abbrev pub passes_last : ℕ → ℕ → Bool
passes_last at len = nat_le (2 ^ 64) (at + pages_of len * PAGE_SIZE)

-- whether so many pages from one on can be dropped, where each is mapped with these permissions and the program's own data ended at
-- this lowest break: none is the program's, nor the one that signal handlers return to (own; on Linux the program's get the bytes of
-- its file again)
abbrev pub can_drop : (ℕ → Option ℕ) → ℕ → ℕ → ℕ → Bool
can_drop permission lowest first count = nat_le (pages_of lowest) first && is_without_code permission first count

-- madvise(p, len, advice), number 233: EINVAL for other advice (own), for an address within a page, and where the pages would pass the
-- last address; no bytes are no error; ENOMEM where the bytes end past the addresses of a process, or where a page isn't mapped; and
-- EINVAL for pages that can't be dropped
abbrev pub madvise_refusal : (ℕ → Option ℕ) → ℕ → ℕ → ℕ → ℕ → Option Errno
madvise_refusal permission lowest at len advice =
    if not (is_idle_advice advice || is_dropping advice) then Some EINVAL
    else if not (at % PAGE_SIZE == 0) then Some EINVAL
    else if passes_last at len then Some EINVAL
    else if len == 0 then None
    else if nat_lt USER_END (at + len) then Some ENOMEM
    else if not (is_mapped permission (at / PAGE_SIZE) (pages_of len)) then Some ENOMEM
    else if is_dropping advice && not (can_drop permission lowest (at / PAGE_SIZE) (pages_of len)) then Some EINVAL
    else None

-- the pages that so many bytes from an address on fill
abbrev pub pages_at : ℕ → ℕ → PageRun
pages_at at len = run (at / PAGE_SIZE) (pages_of len) None

-- what the advice writes: the zeros of the pages that are dropped
abbrev pub advice_writes : ℕ → ℕ → ℕ → List Write
advice_writes at len advice = if is_dropping advice && not (len == 0) then zeros_of (pages_at at len) ∷ [] else []

-- a call that has no other answer than 0, and leaves the record: refused with an error, or these are its writes
abbrev pub wrote_unless : Here → ℕ → Option Errno → List Write → CallDone
wrote_unless here t (Some e) ws = refused here t e
wrote_unless here t None ws = record (said here t 0) { entered = ws }

abbrev pub advised : Here → ℕ → ℕ → ℕ → ℕ → CallDone
advised here t p len advice =
    wrote_unless here t (madvise_refusal (permission_here here) here.setting.program.break_at p len advice) (advice_writes p len advice)

abbrev pub madvise : Here → ℕ → CallDone
madvise here t = advised here t (argument here t 0) (argument here t 1) (int_argument here t 2)

-- The pages that a call takes from those who use them: those that munmap removes, that mprotect protects, that madvise drops, and that
-- brk removes where the break falls. A call that is refused takes none.
abbrev pub no_pages : PageRun
no_pages = run 0 0 None

abbrev pub unless_refused : Option Errno → PageRun → PageRun
unless_refused refusal r = if is_none refusal then r else no_pages

abbrev pub taken_by_brk : Here → ℕ → PageRun
taken_by_brk here t =
    let p = argument here t 0 in
    let break_at = here.kernel.pages.break_at in
    if may_break here p && nat_lt p break_at then break_run break_at p else no_pages

abbrev pub taken_by_munmap : Here → ℕ → PageRun
taken_by_munmap here t =
    let p = argument here t 0 in
    let len = argument here t 1 in
    unless_refused (munmap_refusal (permission_here here) p len) (run (p / PAGE_SIZE) (pages_of len) None)

abbrev pub taken_by_mprotect : Here → ℕ → PageRun
taken_by_mprotect here t =
    let p = argument here t 0 in
    let len = argument here t 1 in
    let prot = argument here t 2 in
    unless_refused (mprotect_refusal (permission_here here) p len prot) (run (p / PAGE_SIZE) (pages_of len) (Some (permission_for prot)))

abbrev pub taken_by_advice : Option Errno → ℕ → ℕ → ℕ → PageRun
taken_by_advice refusal at len advice = if is_dropping advice then unless_refused refusal (pages_at at len) else no_pages

abbrev pub taken_by_madvise : Here → ℕ → PageRun
taken_by_madvise here t =
    let p = argument here t 0 in
    let len = argument here t 1 in
    let advice = int_argument here t 2 in
    taken_by_advice (madvise_refusal (permission_here here) here.setting.program.break_at p len advice) p len advice

-- the same for the call of a number; no other call takes a page
abbrev pub taken_by : ℕ → Here → ℕ → PageRun
taken_by number here t =
    if number == 214 then taken_by_brk here t
    else if number == 215 then taken_by_munmap here t
    else if number == 226 then taken_by_mprotect here t
    else if number == 233 then taken_by_madvise here t
    else no_pages

-- whether a byte of a store lies on one of the pages of a run; none does that lies in the segment that the process
-- shares, where it shares one
abbrev pub lies_on : Option Neighbour → PageRun → Store → Bool
lies_on beside r w = not (each_byte (or_in_segment beside (λ a. not (is_in r (a / PAGE_SIZE)))) w.at w.size)

-- whether a byte of a store that waits on one of so many harts does
abbrev pub lies_waiting_on : Option Neighbour → PageRun → (ℕ → List Store) → ℕ → Bool
lies_waiting_on beside r waiting zero = false
lies_waiting_on beside r waiting (suc h) =
    list_any (lies_on beside r) (waiting h) || lies_waiting_on beside r waiting h
