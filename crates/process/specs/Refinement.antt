-- How the parts of a machine are tied to the plain machine, at a place at which their process stands.
use Rattle.std.specs.Prelude.{ℕ, ◌≡◌, ◌<◌, true, List, length, Option, Some, None, Result, Ok, Err, IfSome, slice_get}
use Rattle.mach_types.specs.Bytes.{each_byte}
use Rattle.mach_types.specs.Limits.{InRange}
use Rattle.mach_types.specs.declared.events.Choice.{Choice}
use Rattle.mach_types.specs.declared.events.Entry.{Entry}
use Rattle.mach_types.specs.declared.events.Why.{Why}
use Rattle.elf_load.specs.declared.image.ImagePage.{ImagePage}
use Rattle.kernel_threads.specs.Table.{IsTable}
use Rattle.mach_types.specs.Kernel.Pages.{can_read, can_write}
use Rattle.page_map.specs.Map.{Map, permission_in}
use Rattle.sys_calls.specs.Made.{AreSaved, HoldsPages}
use Rattle.sys_calls.specs.Tables.{HoldsTables}
use Rattle.block_model.specs.Setting.{Setting}
use Rattle.block_model.specs.Here.{Done, is_writable}
use Rattle.block_model.specs.Events.{refusal_of, done_of}
use Rattle.block_model.specs.Plain.{Plain, apply, plain_over}
use Rattle.block_model.specs.Deciding.{entry_in}
use Rattle.block_model.specs.Standing.{IsStanding}
use Rattle.block_model.specs.Stands.{Stand, here_at}
use Rattle.process.specs.ContextSwitch.{HasEvent, IsChanged}
use Rattle.process.specs.Harts.{counted, credit_of, hart_at}
use Rattle.process.specs.declared.parts.Parts.{Parts}

-- what can be written can be read
abbrev pub IsReadable : Map → Type 0
IsReadable m = (n : ℕ) → can_write (permission_in m n) ≡ true → can_read (permission_in m n) ≡ true

-- each part is that of the plain machine: the harts, but for their credits; the pages and their bytes; the kernel's tables, and the
-- files of the threads that don't run; and how the run has ended
pub record IsTied (s : Setting) (p : Plain) (m : Parts) : Type 0 where
  pub all_harts : length m.harts.items ≡ s.limits.harts
  pub harts : (h : ℕ) → h < s.limits.harts → slice_get m.harts.items h ≡ Some (hart_at s p h (credit_of m.harts.items h))
  pub pages : HoldsPages p.kernel.pages s.program.break_at p.byte m.pages
  pub readable : IsReadable m.pages
  pub tables : HoldsTables m.kernel p.kernel
  pub table : IsTable m.kernel.threads
  pub saved : AreSaved p.file m.kernel.threads
  pub ended : m.ended ≡ plain_over p

-- a place at which the parts stand: their process stands there, and goes on, with room for one more event, and a hart of the machine
pub record IsPlace (v : Stand) (m : Parts) (h : ℕ) : Type 0 where
  pub stands : IsStanding v
  pub tied : IsTied v.setting v.plain m
  pub limits : InRange v.setting.limits
  pub goes : plain_over v.plain ≡ None
  pub room : v.plain.made < v.setting.limits.steps
  pub lt : h < v.setting.limits.harts

-- the process is alone on its machine, and these are its pages of code
pub record IsAlone (code : List ImagePage) (v : Stand) : Type 0 where
  pub none : v.beside ≡ None
  pub pages : code ≡ v.setting.program.pages

-- there is such a place; and there is one where it is
pub record HasPlace (m : Parts) (h : ℕ) : Type 0 where
  pub stand : Stand
  pub place : IsPlace stand m h

pub record HasCode (code : List ImagePage) (m : Parts) (h : ℕ) : Type 0 where
  pub stand : Stand
  pub place : IsPlace stand m h
  pub alone : IsAlone code stand

-- there is such a place, and a choice is allowed there
pub record MayMake (m : Parts) (h : ℕ) (c : Choice) : Type 0 where
  pub stand : Stand
  pub place : IsPlace stand m h
  pub free : refusal_of c (here_at stand h) ≡ None

-- there is such a place, and the oldest store that waits there lies on pages of the process
pub record MayDrain (m : Parts) (h : ℕ) : Type 0 where
  pub stand : Stand
  pub place : IsPlace stand m h
  pub paged : IfSome (slice_get (stand.plain.waiting h) 0)
      (λ w. each_byte (is_writable (here_at stand h)) w.at w.size ≡ true)

-- what is answered to a choice: its entry, unless a condition fails
abbrev pub answered : Entry → Option Why → Result Entry Why
answered entry None = Ok entry
answered entry (Some why) = Err why

abbrev pub answer_to : Stand → ℕ → Choice → Result Entry Why
answer_to v h c = answered (entry_in c (here_at v h)) (refusal_of c (here_at v h))

-- at each place this is why the choice isn't allowed; none where it is
abbrev pub IsRefusal : Parts → ℕ → Choice → Option Why → Type 0
IsRefusal m h c why = (v : Stand) → IsPlace v m h → why ≡ refusal_of c (here_at v h)

-- the parts after an event of hart h that did this; no event changes a credit
pub record IsAfter (v : Stand) (h : ℕ) (d : Done) (m m' : Parts) : Type 0 where
  pub tied : IsTied v.setting (apply h d v.plain) m'
  pub credits : (k : ℕ) → credit_of m'.harts.items k ≡ credit_of m.harts.items k

-- an event of hart h was counted there, and nothing else changed
pub record IsCounted (h : ℕ) (m m' : Parts) : Type 0 where
  pub harts : IsChanged h counted m.harts.items m'.harts.items
  pub pages : m'.pages ≡ m.pages
  pub kernel : m'.kernel ≡ m.kernel
  pub ended : m'.ended ≡ m.ended

-- the parts after all of an event of hart h that did this but its count, for which there is room
pub record IsUncounted (v : Stand) (h : ℕ) (d : Done) (m m' : Parts) : Type 0 where
  pub room : HasEvent m'.harts.items h
  pub after : (m'' : Parts) → IsCounted h m' m'' → IsAfter v h d m m''

-- at each place where the choice is allowed the parts are those after its event, which is yet to be counted
abbrev pub IsEvent : Parts → ℕ → Choice → Parts → Type 0
IsEvent m h c m' = (v : Stand) → IsPlace v m h → refusal_of c (here_at v h) ≡ None → IsUncounted v h (done_of c (here_at v h)) m m'
