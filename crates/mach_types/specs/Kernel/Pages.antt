-- The pages of a process: which are mapped, with which permission, how many frames are free, and the break (brk(2), mmap(2),
-- munmap(2), mprotect(2)). A page has 4,096 bytes; its permission has a bit each to read, to write and to execute (ELF, PF_R,
-- PF_W and PF_X).
use Rattle.std.specs.Prelude.{ℕ, zero, suc, ◌+◌, ◌-◌, ◌*◌, ◌/◌, ◌==◌, ◌&&◌, Bool, true, false, not, List, [], ◌∷◌, if◌then◌else◌, Option, Some, None, is_none, is_some, nat_le, nat_lt, bit_and}
use Rattle.mach_types.specs.declared.user_memory.Write.{Write}
use Rattle.mach_types.specs.declared.user_memory.Write.TheVariants.{Zeroed}
use Rattle.mach_types.specs.declared.address_space.TheConstants.{FIRST_MAPPING_PAGE, FIRST_STACK_PAGE, PAGE_SIZE}

-- pages one behind the other, so many from a first one on, that got this permission, or that were removed
pub record PageRun : Type 0 where
  pub first : ℕ
  pub count : ℕ
  pub permission : Option ℕ

-- what was mapped, protected and removed, the newest first; how many frames are free; and the break
pub record Pages : Type 0 where
  pub runs : List PageRun
  pub free : ℕ
  pub break_at : ℕ

-- whether a page is one of a run
abbrev pub is_in : PageRun → ℕ → Bool
is_in r n = nat_le r.first n && nat_lt n (r.first + r.count)

-- the permission of page n, where it is mapped: that of the newest run that has it
abbrev pub permission_of : List PageRun → ℕ → Option ℕ
permission_of [] n = None
permission_of (r ∷ rs) n = if is_in r n then r.permission else permission_of rs n

-- the permission of the page of an address
abbrev pub permission_at : Pages → ℕ → Option ℕ
permission_at p a = permission_of p.runs (a / PAGE_SIZE)

-- what a permission lets be done: 4 to read, 2 to write, 1 to execute; a page that isn't mapped lets nothing be done
abbrev pub lets : ℕ → Option ℕ → Bool
lets bit None = false
lets bit (Some permission) = not (bit_and permission bit == 0)

abbrev pub can_read : Option ℕ → Bool
can_read permission = lets 4 permission

abbrev pub can_write : Option ℕ → Bool
can_write permission = lets 2 permission

abbrev pub can_execute : Option ℕ → Bool
can_execute permission = lets 1 permission

-- how many pages so many bytes fill, the last one maybe in part: lengths are rounded up to whole pages (mmap(2), munmap(2),
-- mprotect(2)). So this is also the number of the first page that begins at an address or past it
abbrev pub pages_of : ℕ → ℕ
pages_of len = (len + (PAGE_SIZE - 1)) / PAGE_SIZE

-- the permission of page n once a run lies over pages with these permissions
abbrev pub run_over : PageRun → (ℕ → Option ℕ) → ℕ → Option ℕ
run_over r permission n = if is_in r n then r.permission else permission n

-- whether a test holds of each of so many pages from a first one on
unfoldable pub each_page : (ℕ → Bool) → ℕ → ℕ → Bool
each_page test first zero = true
each_page test first (suc more) = test first && each_page test (first + 1) more

-- how many of them pass a test
unfoldable pub count_pages : (ℕ → Bool) → ℕ → ℕ → ℕ
count_pages test first zero = 0
count_pages test first (suc more) = (if test first then 1 else 0) + count_pages test (first + 1) more

-- the first of them that passes a test
unfoldable pub first_page : (ℕ → Bool) → ℕ → ℕ → Option ℕ
first_page test first zero = None
first_page test first (suc more) = elim (test first) [ true ↦ Some first | false ↦ first_page test (first + 1) more ]

-- over the permissions of all pages: whether none of so many pages is mapped; whether each of them is; whether none of them
-- can be executed; and how many of them are mapped
abbrev pub is_hole : (ℕ → Option ℕ) → ℕ → ℕ → Bool
is_hole permission first count = each_page (λ n. is_none (permission n)) first count

abbrev pub is_mapped : (ℕ → Option ℕ) → ℕ → ℕ → Bool
is_mapped permission first count = each_page (λ n. is_some (permission n)) first count

abbrev pub is_without_code : (ℕ → Option ℕ) → ℕ → ℕ → Bool
is_without_code permission first count = each_page (λ n. not (can_execute (permission n))) first count

abbrev pub mapped_count : (ℕ → Option ℕ) → ℕ → ℕ → ℕ
mapped_count permission first count = count_pages (λ n. is_some (permission n)) first count

-- whether so many pages can be mapped from page n on: none of them is mapped, and they end below the stack
abbrev pub fits_at : (ℕ → Option ℕ) → ℕ → ℕ → Bool
fits_at permission count n = is_hole permission n count && nat_le (n + count) FIRST_STACK_PAGE

-- where so many pages are mapped: at the lowest page at which they fit, from 0x2000000000 on (own; mmap(2) leaves it to the
-- kernel); none where they fit nowhere
unfoldable pub lowest_hole : (ℕ → Option ℕ) → ℕ → Option ℕ
lowest_hole permission count = first_page (fits_at permission count) FIRST_MAPPING_PAGE (FIRST_STACK_PAGE - FIRST_MAPPING_PAGE)

-- a run of pages: so many from a first one on
abbrev pub run : ℕ → ℕ → Option ℕ → PageRun
run first count permission = record { first = first; count = count; permission = permission }

-- what mapping a run of pages writes: zeros (mmap(2), MAP_ANONYMOUS)
abbrev pub zeros_of : PageRun → Write
zeros_of r = Zeroed (r.first * PAGE_SIZE) (r.count * PAGE_SIZE)

-- so many pages are mapped from a first one on, each on a frame that was free
abbrev pub with_mapping : ℕ → ℕ → ℕ → Pages → Pages
with_mapping first count permission p =
    record p { runs = run first count (Some permission) ∷ p.runs; free = p.free - count }

-- so many pages are mapped no longer; the frames of those that were mapped are free
abbrev pub without_pages : ℕ → ℕ → Pages → Pages
without_pages first count p =
    record p { runs = run first count None ∷ p.runs; free = p.free + mapped_count (permission_of p.runs) first count }

-- so many pages, which are all mapped, get another permission
abbrev pub with_protection : ℕ → ℕ → ℕ → Pages → Pages
with_protection first count permission p = record p { runs = run first count (Some permission) ∷ p.runs }
