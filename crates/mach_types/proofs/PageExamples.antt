-- Worked examples: the calls that change the pages of a process, computed.
use Rattle.std.proofs.Common.{ℕ, ◌≡◌, Option, Some, None, Ok, Err, [], ◌∷◌, refl, false}
use Rattle.mach_types.specs.Kernel.Pages.{Pages, count_pages, each_page, first_page, lowest_hole, pages_of, permission_at, permission_of}
use Rattle.mach_types.specs.Kernel.PageCalls.{break_moved, mapped_at, may_move_break, mmap_answer, mprotect_refusal, munmap_refusal, permission_for, protected, unmapped}
use Rattle.mach_types.specs.declared.errors.TheConstants.{EACCES, EINVAL, ENOMEM}

-- lengths are rounded up to pages
pub nothing_has_no_page : pages_of 0 ≡ 0
nothing_has_no_page = refl

pub whole_page : pages_of 4096 ≡ 1
whole_page = refl

pub one_byte_more : pages_of 4097 ≡ 2
one_byte_more = refl

-- who may write may read
pub written_is_read : permission_for 2 ≡ 6
written_is_read = refl

-- a process with a page of code and two pages of data below its break at 0x12000; three pages were mapped, and the middle one
-- was removed; five frames are free
abbrev pub process : Pages
process = record {
  runs =
      record { first = 0x2000001; count = 1; permission = None }
      ∷ record { first = 0x2000000; count = 3; permission = Some 6 }
      ∷ record { first = 0x10; count = 2; permission = Some 6 }
      ∷ record { first = 0xf; count = 1; permission = Some 5 }
      ∷ [];
  free = 5;
  break_at = 0x12000;
}

abbrev pub permissions : ℕ → Option ℕ
permissions = permission_of process.runs

-- one page is mapped in the hole, two pages past the last one
pub hole_is_filled : lowest_hole permissions 1 ≡ Some 0x2000001
unfolding lowest_hole first_page each_page
hole_is_filled = refl

pub hole_is_too_small : lowest_hole permissions 2 ≡ Some 0x2000003
unfolding lowest_hole first_page each_page
hole_is_too_small = refl

-- for 0x1001 bytes two pages are mapped, which take two frames
pub mapped_with_two_frames : (mapped_at 0x2000003000 0x1001 1 process).free ≡ 3
mapped_with_two_frames = refl

pub last_page_is_mapped : permission_at (mapped_at 0x2000003000 0x1001 1 process) 0x2000004fff ≡ Some 4
last_page_is_mapped = refl

pub frames_are_short : mmap_answer permissions 5 0x5001 3 ≡ Err ENOMEM
unfolding lowest_hole first_page each_page
frames_are_short = refl

pub frames_are_enough : mmap_answer permissions 5 0x5000 3 ≡ Ok 0x2000003000
unfolding lowest_hole first_page each_page
frames_are_enough = refl

-- of three pages two were mapped, so two frames are free again
pub two_frames_come_back : (unmapped 0x2000000000 0x3000 process).free ≡ 7
unfolding count_pages
two_frames_come_back = refl

pub within_a_page : munmap_refusal permissions 0x10001 1 ≡ Some EINVAL
unfolding each_page
within_a_page = refl

pub code_is_not_removed : munmap_refusal permissions 0xe000 0x2000 ≡ Some EACCES
unfolding each_page
code_is_not_removed = refl

-- a page that isn't mapped can't be protected, and no bytes need no page
pub hole_is_not_protected : mprotect_refusal permissions 0x2000000000 0x3000 1 ≡ Some ENOMEM
unfolding each_page
hole_is_not_protected = refl

pub nothing_is_protected : mprotect_refusal permissions 0x2000001000 0 99 ≡ None
unfolding each_page
nothing_is_protected = refl

pub page_is_protected : permission_at (protected 0x11000 1 1 process) 0x11fff ≡ Some 4
page_is_protected = refl

-- a break that grows by a byte maps a page; one that shrinks by a byte keeps the page
pub break_grows : (break_moved 0x12000 0x12001 process).free ≡ 4
break_grows = refl

pub break_shrinks : (break_moved 0x11000 0x11fff process).free ≡ 5
unfolding count_pages
break_shrinks = refl

-- below its first place, and where frames are short, the break stays
pub break_is_lowest : (break_moved 0x12000 0x11fff process).break_at ≡ 0x12000
break_is_lowest = refl

pub break_lacks_frames : may_move_break 0x12000 5 0x12000 0x17001 ≡ false
break_lacks_frames = refl

-- a page that was removed below the break stays so when the break grows
pub hole_stays : permission_at (break_moved 0x12000 0x13000 (unmapped 0x11000 1 process)) 0x11000 ≡ None
unfolding count_pages
hole_stays = refl

pub page_above_is_mapped : permission_at (break_moved 0x12000 0x13000 (unmapped 0x11000 1 process)) 0x12000 ≡ Some 6
unfolding count_pages
page_above_is_mapped = refl

-- and a break that shrinks over it gives one frame back
pub hole_has_no_frame : (break_moved 0x10000 0x10000 (unmapped 0x11000 1 process)).free ≡ 7
unfolding count_pages
hole_has_no_frame = refl
