-- Pages on which stores wait; and the next instruction of a hart, by which it may have to wait for them.
use Rattle.std.specs.Prelude.{ℕ, ◌≡◌, ◌/◌, ◌&&◌, Bool, false, not, Option}
use Rattle.mach_types.specs.Bytes.{each_byte}
use Rattle.mach_types.specs.declared.address_space.TheConstants.{PAGE_SIZE}
use Rattle.mach_types.specs.declared.user_memory.Store.{Store}
use Rattle.block_model.specs.Beside.{Neighbour, or_in_segment}
use Rattle.block_model.specs.Here.{Here, is_storable, reached, runs}
use Rattle.block_model.specs.Instruction.{next_effect, next_fault}
use Rattle.sys_calls.specs.Remapped.{has_page}
use Rattle.sys_calls.specs.declared.memory_calls.PageSpan.{PageSpan}
use Rattle.process.specs.Harts.{file_on}
use Rattle.process.specs.declared.next.Next.{Next}

-- whether a byte of a store lies on one of these pages
abbrev pub lies_in : PageSpan → Store → Bool
lies_in pages w = not (each_byte (λ a. not (has_page pages (a / PAGE_SIZE))) w.at w.size)

-- whether a byte of it lies on one of them that isn't one of these others
abbrev pub lies_outside : PageSpan → PageSpan → Store → Bool
lies_outside pages kept w =
    not (each_byte (λ a. not (has_page pages (a / PAGE_SIZE) && not (has_page kept (a / PAGE_SIZE)))) w.at w.size)

-- these are the pages whose addresses lie in the segment that a process shares; it shares none where there are none
abbrev pub AreOfSegment : Option Neighbour → PageSpan → Type 0
AreOfSegment beside kept = (a : ℕ) → or_in_segment beside (λ _. false) a ≡ has_page kept (a / PAGE_SIZE)

-- this is the next instruction of the file that the hart of a place keeps
pub record IsNextAt (here : Here) (next : Next) : Type 0 where
  pub effect : next.effect ≡ next_effect here.setting.program.pages (file_on here (runs here))
  pub fault : next.fault ≡ next_fault here.setting.program.pages (reached here) (is_storable here) (file_on here (runs here))
