use Rattle.std.proofs.Common.{◌≡◌, ℕ, ◌+◌, ◌-◌, Some}
use Rattle.std.specs.Prelude.{if◌then◌else◌}
use Rattle.mach_types.specs.Kernel.Pages.{is_in}
use Rattle.page_map.specs.Map.{break_in, break_start_in, free_in, page_in}
use Rattle.page_map.specs.Starting.{stack_page}
use Rattle.page_map.proofs.map.PageMap.add_stack.Given as goal

-- so many pages of the stack are mapped, the highest ones
abbrev pub invariant-loop-k : goal.invariant-loop-k
invariant-loop-k l = record {
  pages : (n : ℕ) → page_in l.self n ≡ (if is_in (record { first = 0x3FFFF40 - l.k; count = l.k; permission = Some 6 }) n then Some stack_page else page_in l.initial.self n);
  free : free_in l.self + l.k ≡ free_in l.initial.self;
  break_at : break_in l.self ≡ break_in l.initial.self;
  break_start : break_start_in l.self ≡ break_start_in l.initial.self;
}
