-- The calls that change pages: what they did, and which pages they take from those who use them.
use Rattle.std.specs.Prelude.{ℕ, ◌≡◌, ◌+◌, ◌&&◌, Bool, List, [], ◌∷◌, None, Result, nat_le, nat_lt}
use Rattle.mach_types.specs.Bytes.{written as written_by}
use Rattle.mach_types.specs.declared.errors.Errno.{Errno}
use Rattle.mach_types.specs.declared.user_memory.Write.{Write}
use Rattle.page_map.specs.Map.{Map, code_in}
use Rattle.block_model.specs.Here.{Here}
use Rattle.block_model.specs.Kernel.{paged}
use Rattle.block_model.specs.Calls.Answers.{CallDone, returned}
use Rattle.sys_calls.specs.Answered.{answer_of}
use Rattle.sys_calls.specs.Made.{HoldsPages}
use Rattle.sys_calls.specs.declared.memory_calls.PageSpan.{PageSpan}

-- the page map was changed as the call did, no code with it, and its writes were told; all else of the kernel is as it was, and
-- the thread goes on with this answer
pub record IsRemapped (h : Here) (t : ℕ) (m : Map) (m' : Map) (written : List Write) (answer : Result ℕ Errno) (c : CallDone) : Type 0 where
  pub pages : HoldsPages c.kernel.pages h.setting.program.break_at (λ a. written_by c.entered a (h.byte a)) m'
  pub code : (a : ℕ) → code_in m' a ≡ code_in m a
  pub told : written ≡ c.entered
  pub kernel : c.kernel ≡ paged c.kernel.pages h.kernel
  pub at_once : c.barrier ≡ None
  pub goes_on : c.ended ≡ None
  pub files : c.files ≡ (t, returned (answer_of answer) (h.file t)) ∷ []

-- whether a page is one of a span
abbrev pub has_page : PageSpan → ℕ → Bool
has_page span n = nat_le span.first n && nat_lt n (span.first + span.count)
