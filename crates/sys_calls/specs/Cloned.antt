-- clone(2): what it does once nothing refuses it, part by part.
use Rattle.std.specs.Prelude.{ℕ, ◌≡◌, ◌&&◌, ◌||◌, Bool, true, not, List, [], ◌∷◌, ◌++◌, if◌then◌else◌, None}
use Rattle.mach_types.specs.Bytes.{each_byte}
use Rattle.mach_types.specs.Registers.{register}
use Rattle.mach_types.specs.declared.threads.Saved.{Saved}
use Rattle.mach_types.specs.declared.user_memory.Write.{Write}
use Rattle.mach_types.specs.Kernel.Threads as process
use Rattle.kernel_threads.specs.Table.{with_start}
use Rattle.page_map.specs.Map.{Map, can_write_in}
use Rattle.block_model.specs.Here.{Here}
use Rattle.block_model.specs.Kernel.{next_number}
use Rattle.block_model.specs.Calls.Answers.{CallDone, argument, returned}
use Rattle.block_model.specs.Calls.Cloning.{child_file, clone_child_cleartid, clone_child_settid, clone_parent_settid, has_flag, with_new_child, written_if}
use Rattle.sys_calls.specs.Tables.{HoldsTables}
use Rattle.sys_calls.specs.declared.kernel.Kernel.{Kernel}

-- the writes of a child's number
abbrev pub numbers_written : Here → ℕ → ℕ → List Write
numbers_written here t number =
    let flags = argument here t 0 in
    written_if flags clone_parent_settid (argument here t 2) number ++ written_if flags clone_child_settid (argument here t 4) number

-- the call that isn't refused
abbrev pub cloned : Here → ℕ → CallDone
cloned here t =
    let child = next_number here.kernel in
    record {
      files = (t, returned child (here.file t)) ∷ (child, child_file here t) ∷ [];
      entered = numbers_written here t child;
      kernel = with_new_child here t;
      barrier = None;
      ended = None;
    }

-- whether the word at an address that a flag asks for can be written
abbrev pub can_write_word : Map → Saved → ℕ → ℕ → Bool
can_write_word m saved flag at = not (has_flag (register saved.file 10) flag) || each_byte (can_write_in m) at 4

abbrev pub can_write_numbers : Map → Saved → Bool
can_write_numbers m saved =
    can_write_word m saved clone_parent_settid (register saved.file 12) && can_write_word m saved clone_child_settid (register saved.file 14)

abbrev pub CanWriteNumbers : Map → Saved → Type 0
CanWriteNumbers m saved = can_write_numbers m saved ≡ true

-- the threads, once the address that the child's exit clears is set where the flag asks
abbrev pub clear_asked : Saved → ℕ → process.Threads → process.Threads
clear_asked saved child ts =
    if has_flag (register saved.file 10) clone_child_cleartid then process.with_clear child (register saved.file 14) ts else ts

-- the tables have the child, which has its parent's mask and no area
pub record HasChild (h : Here) (t : ℕ) (k : Kernel) (k' : Kernel) : Type 0 where
  pub tables : HoldsTables k' (with_new_child h t)
  pub saved : k'.threads.saved ≡ with_start (next_number h.kernel) (child_file h t) k.threads.saved
  pub running : (j : ℕ) → process.running_on j k'.threads.threads ≡ process.running_on j k.threads.threads
