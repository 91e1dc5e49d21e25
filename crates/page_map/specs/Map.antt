-- What a page map shows: the permission and the bytes of each page that is mapped, how many frames are free, and the
-- break.
use Rattle.std.specs.Prelude.{ℕ, ◌≡◌, ◌+◌, ◌/◌, ◌%◌, ◌&&◌, Bool, true, false, List, [], ◌∷◌, if◌then◌else◌, Option, Some, None, is_some, length, slice_get, slice_index}
use Rattle.std.specs.Option.{option_and_then, option_map}
use Rattle.byte_views.specs.Words.{with_word}
use Rattle.mach_types.specs.Bytes.{after_write, each_byte}
use Rattle.mach_types.specs.Kernel.Pages.{PageRun, can_read, can_write, is_in, lets}
use Rattle.mach_types.specs.declared.address_space.TheConstants.{PAGE_SIZE}
use Rattle.mach_types.specs.declared.user_memory.Store.{Store}
use Rattle.mach_types.specs.declared.user_memory.Write.{Write}
use Rattle.mach_types.specs.declared.user_memory.Write.TheVariants.{Stored, Zeroed}
use Rattle.frame_pool.specs.Pool.{free_count, fresh}
use Rattle.page_map.specs.Table.{Table, place_in}
use Rattle.page_map.specs.declared.mapped_page.MappedPage.{MappedPage}

-- the frames; which page, on which frame and with which permission, stands at each place; the place of each page; the break;
-- and the lowest break, where the program's own data ends
pub record Map : Type 0 where
  pub pool : List (Option (List ℕ))
  pub mapped : List MappedPage
  pub table : Table
  pub break_at : ℕ
  pub break_start : ℕ

-- a page that is mapped
pub record Page : Type 0 where
  pub permission : ℕ
  pub bytes : List ℕ

-- the bytes of a frame, which a frame that isn't taken lacks
abbrev pub frame_bytes : Option (Option (List ℕ)) → List ℕ
frame_bytes None = []
frame_bytes (Some None) = []
frame_bytes (Some (Some bytes)) = bytes

-- the bytes of a frame that was just filled, which are zeros where none were given
abbrev pub first_bytes : Option (List ℕ) → List ℕ
first_bytes None = fresh
first_bytes (Some bytes) = bytes

-- the page that stands at a place
abbrev pub page_at : List (Option (List ℕ)) → MappedPage → Page
page_at pool p = record { permission = p.permission; bytes = frame_bytes (slice_get pool p.frame) }

-- a page once the low `size` bytes of a value were written to it, the lowest first
abbrev pub page_with : ℕ → ℕ → ℕ → Page → Page
page_with offset size value p = record p { bytes = with_word p.bytes offset size value }

-- bytes once words of 8 bytes were written, one behind the other from a place on
abbrev pub with_words : List ℕ → ℕ → List ℕ → List ℕ
with_words bytes at [] = bytes
with_words bytes at (w ∷ ws) = with_words (with_word bytes at 8 w) (at + 8) ws

-- a page once words were written to it
abbrev pub page_with_words : ℕ → List ℕ → Page → Page
page_with_words offset words p = record p { bytes = with_words p.bytes offset words }

-- a page once it has another permission
abbrev pub protected_page : ℕ → Page → Page
protected_page permission p = record p { permission = permission }

-- page n, where it is mapped
unfoldable pub page_in : Map → ℕ → Option Page
page_in m n = option_map (page_at m.pool) (option_and_then (slice_get m.mapped) (place_in m.table n))

-- the permission of page n, where it is mapped
abbrev pub permission_in : Map → ℕ → Option ℕ
permission_in m n = option_map (λ (p : Page). p.permission) (page_in m n)

-- the bytes of a page whose permission has a bit: 4 to read, 2 to write, 1 to execute
abbrev pub bytes_if : ℕ → Option Page → Option (List ℕ)
bytes_if bit None = None
bytes_if bit (Some p) = if lets bit (Some p.permission) then Some p.bytes else None

-- a byte of a page, which is below 256
abbrev pub byte_at : ℕ → List ℕ → ℕ
byte_at offset bytes = slice_index bytes offset % 256

-- the byte at an address, where the permission of its page has a bit
abbrev pub byte_if : ℕ → Map → ℕ → Option ℕ
byte_if bit m a = option_map (byte_at (a % PAGE_SIZE)) (bytes_if bit (page_in m (a / PAGE_SIZE)))

-- the byte at an address, where it can be read
abbrev pub byte_in : Map → ℕ → Option ℕ
byte_in m a = byte_if 4 m a

-- the byte at an address, where it may be executed
abbrev pub code_in : Map → ℕ → Option ℕ
code_in m a = byte_if 1 m a

-- the byte at an address, where its page is mapped, whether or not it can be read
abbrev pub held_in : Map → ℕ → Option ℕ
held_in m a = option_map (λ (p : Page). byte_at (a % PAGE_SIZE) p.bytes) (page_in m (a / PAGE_SIZE))

-- what can be written can be read
abbrev pub may_write : Option ℕ → Bool
may_write permission = can_read permission && can_write permission

-- whether the byte at an address can be written
abbrev pub can_write_in : Map → ℕ → Bool
can_write_in m a = may_write (permission_in m (a / PAGE_SIZE))

-- how many frames are free
abbrev pub free_in : Map → ℕ
free_in m = free_count m.pool

-- how many frames there are: those that are free, and those of the pages
abbrev pub frames_in : Map → ℕ
frames_in m = free_count m.pool + length m.mapped

-- the first address behind the data of the process
abbrev pub break_in : Map → ℕ
break_in m = m.break_at

-- the lowest break, where the data ended with which the process started
abbrev pub break_start_in : Map → ℕ
break_start_in m = m.break_start

-- a page that was just mapped, which is zero
abbrev pub zero_page : ℕ → Page
zero_page permission = record { permission = permission; bytes = fresh }

-- a page once all its bytes are zero
abbrev pub zeroed_page : Page → Page
zeroed_page p = record p { bytes = fresh }

-- page n once a run of pages was mapped, or removed, over these
abbrev pub page_over : PageRun → (ℕ → Option Page) → ℕ → Option Page
page_over r page n = if is_in r n then option_map zero_page r.permission else page n

-- the byte that the page of an address holds once a run of pages was mapped, all zero, or removed, over pages that hold these
abbrev pub held_over : PageRun → (ℕ → Option ℕ) → ℕ → Option ℕ
held_over r held a = if is_in r (a / PAGE_SIZE) then option_map (λ _. 0) r.permission else held a

-- the byte that the page of an address holds once the pages of a run are zero, where they are mapped, over pages that hold these
abbrev pub held_zeroed : PageRun → (ℕ → Option ℕ) → ℕ → Option ℕ
held_zeroed r held a = if is_in r (a / PAGE_SIZE) then option_map (λ _. 0) (held a) else held a

-- two page maps differ in bytes alone, those that can be written
pub record IsAlike (m : Map) (m' : Map) : Type 0 where
  pub permissions : (n : ℕ) → permission_in m' n ≡ permission_in m n
  pub code : (a : ℕ) → code_in m' a ≡ code_in m a
  pub unwritable : (a : ℕ) → can_write_in m a ≡ false → held_in m' a ≡ held_in m a
  pub free : free_in m' ≡ free_in m
  pub break_at : break_in m' ≡ break_in m
  pub break_start : break_start_in m' ≡ break_start_in m

-- a store was made, or was refused, and nothing else changed
pub record IsStored (m : Map) (m' : Map) (made : Bool) (s : Store) : Type 0 where
  pub bytes : (a : ℕ) → byte_in m' a ≡ after_write made s (byte_in m) a
  pub held : (a : ℕ) → held_in m' a ≡ after_write made s (held_in m) a
  pub permissions : (n : ℕ) → permission_in m' n ≡ permission_in m n
  pub code : (a : ℕ) → code_in m' a ≡ code_in m a
  pub free : free_in m' ≡ free_in m
  pub break_at : break_in m' ≡ break_in m
  pub break_start : break_start_in m' ≡ break_start_in m

-- whether each byte of a write can be read
abbrev pub is_visible : Map → Write → Bool
is_visible m (Stored s) = each_byte (λ a. is_some (byte_in m a)) s.at s.size
is_visible m (Zeroed at length) = each_byte (λ a. is_some (byte_in m a)) at length

-- whether each byte of these writes can be read
abbrev pub are_visible : Map → List Write → Bool
are_visible m [] = true
are_visible m (w ∷ ws) = is_visible m w && are_visible m ws
