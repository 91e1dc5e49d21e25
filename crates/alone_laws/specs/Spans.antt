-- What a thread that runs a stretch of code sees of some bytes, and what others may do to them meanwhile.
use Rattle.std.specs.Prelude.{ℕ, ◌≡◌, Bool, true, List, ◌++◌, Option, Some}
use Rattle.elf_load.specs.declared.image.ImagePage.{ImagePage}
use Rattle.mach_types.specs.Bytes.{overlay, written}
use Rattle.mach_types.specs.Kernel.Pages.{can_read, can_write, permission_at}
use Rattle.mach_types.specs.declared.user_memory.Write.{Write}
use Rattle.rv_inst.specs.declared.instruction.Inst.{Inst}
use Rattle.alone.specs.Alone.{Stand, alone, starting}
use Rattle.block_model.specs.History.{History, byte, file, kernel, running, stores, waiting}
use Rattle.block_model.specs.Instruction.{fetched, instruction_of}
use Rattle.block_model.specs.Setting.{Setting}

-- the number at an address as hart h sees it, whether or not it can be read
abbrev pub sees : Setting → ℕ → History → ℕ → ℕ
sees s h before a = overlay (waiting h before) a (byte s before a)

abbrev pub seen_at : Setting → ℕ → History → ℕ → Option ℕ
seen_at s h before a = Some (sees s h before a)

-- the instruction at an address of a program
abbrev pub code_of : List ImagePage → ℕ → Option Inst
code_of pages pc = instruction_of (fetched pages pc)

-- writes that leave some bytes as they are
abbrev pub Leaves : (ℕ → Bool) → List Write → Type 0
Leaves words ws = (a b : ℕ) → words a ≡ true → written ws a b ≡ b

-- some bytes can be read and written
pub record IsUsable (s : Setting) (words : ℕ → Bool) (before : History) : Type 0 where
  pub read : (a : ℕ) → words a ≡ true → can_read (permission_at (kernel s before).pages a) ≡ true
  pub write : (a : ℕ) → words a ≡ true → can_write (permission_at (kernel s before).pages a) ≡ true

-- where thread t, which stood at a place of hart h, would stand after so many instructions if it ran alone
-- from there
abbrev pub alone_from : Setting → ℕ → ℕ → History → ℕ → Stand
alone_from s h t begun n = alone (code_of s.program.pages) (seen_at s h begun) (starting (file s t begun)) n

-- and it stands just so at a later place, and of some bytes sees what it would see
pub record IsStanding (s : Setting) (words : ℕ → Bool) (h t : ℕ) (begun before : History) (x : Stand) : Type 0
  where
    pub runs : running s h before ≡ Some t
    pub file : file s t before ≡ x.file
    pub stores : stores h before ≡ stores h begun ++ x.executed
    pub sees : (a : ℕ) → words a ≡ true → sees s h before a ≡ overlay x.executed a (sees s h begun a)
