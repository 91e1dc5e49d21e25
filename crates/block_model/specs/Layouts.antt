-- How a program lies below its mappings, and how many pages are mapped.
use Rattle.std.specs.Prelude.{ℕ, ◌≡◌, ◌≤◌, ◌<◌, ◌/◌, None}
use Rattle.mach_types.specs.Kernel.Pages.{Pages, mapped_count, pages_of, permission_of}
use Rattle.mach_types.specs.declared.address_space.TheConstants.{FIRST_MAPPING_PAGE, MAPPING_START, PAGE_SIZE, USER_END}
use Rattle.elf_load.specs.Start.{Program, start_runs}

-- the end of a program's data, where its break is at the start, isn't past the place where mappings begin, and no page between
-- them is mapped at the start (brk(2), "the first location after the end of the uninitialized data segment")
pub record IsLaidOut (p : Program) : Type 0 where
  pub low : p.break_at ≤ MAPPING_START
  pub clear : (n : ℕ) → pages_of p.break_at ≤ n → n < FIRST_MAPPING_PAGE → permission_of (start_runs p.pages) n ≡ None

-- how many pages are mapped, of all pages of a process
abbrev pub mapped_pages : Pages → ℕ
mapped_pages p = mapped_count (permission_of p.runs) 0 (USER_END / PAGE_SIZE)
