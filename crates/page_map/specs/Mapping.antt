-- What a page map keeps.
use Rattle.std.specs.Prelude.{◌≡◌, ℕ, ◌+◌, ◌<◌, ◌≤◌, ◌^◌, true, List, Some, length, map, slice_get, All}
use Rattle.mach_types.specs.Kernel.Pages.{can_execute, pages_of}
use Rattle.mach_types.specs.declared.address_space.TheConstants.{FIRST_MAPPING_PAGE, FIRST_STACK_PAGE, MAPPING_START, RETURN_PAGE, STACK_PAGES}
use Rattle.elf_load.specs.Images.{IsPermission}
use Rattle.frame_pool.specs.Held.{AreHeld}
use Rattle.frame_pool.specs.Pool.{free_count}
use Rattle.page_map.specs.Map.{Map}
use Rattle.page_map.specs.Table.{place_in}
use Rattle.page_map.specs.declared.mapped_page.MappedPage.{MappedPage}
use Rattle.page_map.specs.declared.table.TheConstants.{PAGES}

-- the frames of pages, in order of their places
abbrev pub frames_of : List MappedPage → List ℕ
frames_of mapped = map (λ (p : MappedPage). p.frame) mapped

-- no page lies between the stack and the page that signal handlers return to (own)
abbrev pub IsGap : ℕ → Type 0
IsGap n = (FIRST_STACK_PAGE + STACK_PAGES ≤ n) × (n < RETURN_PAGE)

-- Where a page with a permission can lie: below the end of the addresses, and not in the gap; if it lies past the break, where
-- mappings lie; and the same of a page that can be executed, if it lies past the lowest break.
pub record CanLie (break_start break_at number permission : ℕ) : Type 0 where
  pub inside : number < PAGES
  pub gap : IsGap number → ⊥
  pub past_break : pages_of break_at ≤ number → FIRST_MAPPING_PAGE ≤ number
  pub code : can_execute (Some permission) ≡ true → pages_of break_start ≤ number → FIRST_MAPPING_PAGE ≤ number

-- page n stands at a place
pub record StandsAt (mapped : List MappedPage) (i n : ℕ) : Type 0 where
  pub page : MappedPage
  pub there : slice_get mapped i ≡ Some page
  pub number : page.number ≡ n

-- The frames of the pages are taken, each page's its own; the table has the place of each page, and no other; a page can be
-- written only if it can be read and can't be executed; each page lies where one can; the break is past the lowest one and below
-- all mappings; and there is room to map each frame that is free.
pub record IsMap (m : Map) (capacity : ℕ) : Type 0 where
  pub held : AreHeld m.pool (frames_of m.mapped)
  pub placed : (n i : ℕ) → place_in m.table n ≡ Some i → StandsAt m.mapped i n
  pub entered : (i : ℕ) (p : MappedPage) → slice_get m.mapped i ≡ Some p → place_in m.table p.number ≡ Some i
  pub permissions : All (λ (p : MappedPage). IsPermission p.permission) m.mapped
  pub lie : All (λ (p : MappedPage). CanLie m.break_start m.break_at p.number p.permission) m.mapped
  pub break_from : m.break_start ≤ m.break_at
  pub break_to : m.break_at ≤ MAPPING_START
  pub room : length m.mapped + free_count m.pool ≤ capacity
  pub numbers : length m.mapped + free_count m.pool < 2 ^ 32
