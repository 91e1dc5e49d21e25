-- A copy of parts stands wherever these stand.
use Rattle.std.proofs.Common.{◌≡◌, ◌∙◌, ◌<◌, ◌/◌, ◌%◌, ℕ, List, Option, Some, true, length, slice_get, ap, subst, sym}
use Rattle.std.specs.Option.{option_map}
use Rattle.hart_state.specs.declared.hart.HartState.{HartState}
use Rattle.kernel_threads.specs.Table.{IsTable}
use Rattle.mach_types.specs.Kernel.Pages.{can_read, can_write}
use Rattle.page_map.specs.Map.{Page, byte_at, permission_in}
use Rattle.sys_calls.specs.Made.{AreSaved}
use Rattle.sys_calls.specs.Tables.{HoldsTables}
use Rattle.sys_calls.specs.declared.kernel.Kernel.{Kernel}
use Rattle.block_model.specs.Plain.{Plain}
use Rattle.block_model.specs.Setting.{Setting}
use Rattle.process.specs.Copies.{IsCopy}
use Rattle.process.specs.Harts.{credit_of, hart_at}
use Rattle.process.specs.Refinement.{IsTied}
use Rattle.process.specs.declared.parts.Parts.{Parts}

same-permissions : (m m' : Parts) → IsCopy m m' → (n : ℕ) → permission_in m'.pages n ≡ permission_in m.pages n
same-permissions m m' copy n = ap (option_map (λ (p : Page). p.permission)) (copy.pages n)

pub copy-tied : (s : Setting) (p : Plain) (m m' : Parts) → IsTied s p m → IsCopy m m' → IsTied s p m'
copy-tied s p m m' tied copy = record {
  all_harts = ap (λ (hs : List HartState). length hs) copy.harts ∙ tied.all_harts;
  harts = subst (λ (hs : List HartState). (h : ℕ) → h < s.limits.harts → slice_get hs h ≡ Some (hart_at s p h (credit_of hs h))) (sym copy.harts) tied.harts;
  pages = record {
    permissions = λ n. same-permissions m m' copy n ∙ tied.pages.permissions n;
    held = λ a. ap (option_map (λ (q : Page). byte_at (a % 4096) q.bytes)) (copy.pages (a / 4096)) ∙ tied.pages.held a;
    free = copy.free ∙ tied.pages.free;
    break_at = copy.break_at ∙ tied.pages.break_at;
    break_start = copy.break_start ∙ tied.pages.break_start;
  };
  readable = λ n writes.
      subst (λ (o : Option ℕ). can_read o ≡ true) (sym (same-permissions m m' copy n))
      (tied.readable n (subst (λ (o : Option ℕ). can_write o ≡ true) (same-permissions m m' copy n) writes));
  tables = subst (λ (k : Kernel). HoldsTables k p.kernel) (sym copy.kernel) tied.tables;
  table = subst (λ (k : Kernel). IsTable k.threads) (sym copy.kernel) tied.table;
  saved = subst (λ (k : Kernel). AreSaved p.file k.threads) (sym copy.kernel) tied.saved;
  ended = copy.ended ∙ tied.ended;
}
