-- The pages of a process at its start, page by page.
use Rattle.std.specs.Prelude.{◌≡◌, ℕ, ◌+◌, ◌-◌, ◌/◌, ◌%◌, ◌<◌, if◌then◌else◌, List, Option, Some, None, IfSome, is_some, length, slice_get, slice_index}
use Rattle.std.specs.Option.{option_map}
use Rattle.mach_types.specs.Kernel.Pages.{can_read, permission_of}
use Rattle.elf_load.specs.Start.{code_byte, page_byte, page_of, program_of, start_byte, start_runs}
use Rattle.elf_load.specs.declared.image.Image.{Image}
use Rattle.elf_load.specs.declared.image.ImagePage.{ImagePage}
use Rattle.mach_types.specs.declared.address_space.TheConstants.{FIRST_STACK_PAGE, RETURN_PAGE, STACK_PAGES}
use Rattle.frame_pool.specs.Pool.{fresh}
use Rattle.page_map.specs.Map.{Map, Page, byte_in, code_in, held_in, permission_in}
use Rattle.page_map.specs.declared.mapped_page.MappedPage.{MappedPage}

-- a page of an image, once it is mapped
abbrev pub mapped_page : ImagePage → Page
mapped_page p = record { permission = p.perm; bytes = p.bytes }

-- page n of an image, once its pages are mapped
abbrev pub image_page : List ImagePage → ℕ → Option Page
image_page pages n = option_map mapped_page (page_of pages n)

-- a page of the stack, which is zero
abbrev pub stack_page : Page
stack_page = record { permission = 6; bytes = fresh }

-- page n has the permission and the bytes with which the process starts
pub record IsStartPage (pages : List ImagePage) (n : ℕ) (page : Option Page) : Type 0 where
  pub permission : option_map (λ (p : Page). p.permission) page ≡ permission_of (start_runs pages) n
  pub bytes : IfSome page (λ p. (k : ℕ) → slice_index p.bytes k % 256 ≡ page_byte pages n k)

-- the pages, their bytes and their code are those with which a program starts
pub record IsStarted (image : Image) (m : Map) : Type 0 where
  pub permissions : (n : ℕ) → permission_in m n ≡ permission_of (start_runs image.pages.items) n
  pub bytes : (a : ℕ) → byte_in m a ≡ (if can_read (permission_of (start_runs image.pages.items) (a / 4096)) then Some (start_byte (program_of image) a) else None)
  pub held : (a : ℕ) → held_in m a ≡ (if is_some (permission_of (start_runs image.pages.items) (a / 4096)) then Some (start_byte (program_of image) a) else None)
  pub code : (a : ℕ) → code_in m a ≡ code_byte image.pages.items a

-- a page with this number and this permission stands at a place
pub record StandsWith (mapped : List MappedPage) (i n perm : ℕ) : Type 0 where
  pub page : MappedPage
  pub there : slice_get mapped i ≡ Some page
  pub number : page.number ≡ n
  pub permission : page.permission ≡ perm

-- the pages that are mapped are those of a start, in the order in which a start maps them: the image's, the page
-- that signal handlers return to, and those of the stack, the highest first
pub record AreLaidOut (pages : List ImagePage) (mapped : List MappedPage) : Type 0 where
  pub count : length mapped ≡ length pages + 1 + STACK_PAGES
  pub image : (i : ℕ) (p : ImagePage) → slice_get pages i ≡ Some p → StandsWith mapped i p.number p.perm
  pub return : StandsWith mapped (length pages) RETURN_PAGE 5
  pub stack : (k : ℕ) → k < STACK_PAGES → StandsWith mapped (length mapped - 1 - k) (FIRST_STACK_PAGE + k) 6
