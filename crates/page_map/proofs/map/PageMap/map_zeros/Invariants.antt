use Rattle.std.proofs.Common.{◌≡◌, ℕ, ◌+◌, Some}
use Rattle.mach_types.specs.Kernel.Pages.{run}
use Rattle.page_map.specs.Map.{break_in, break_start_in, free_in, page_in, page_over}
use Rattle.page_map.proofs.map.PageMap.map_zeros.Given as goal

-- so many pages are mapped
abbrev pub invariant-loop-k : goal.invariant-loop-k
invariant-loop-k l = record {
  pages : (n : ℕ) → page_in l.self n ≡ page_over (run l.first l.k (Some l.permission)) (page_in l.initial.self) n;
  free : free_in l.self + l.k ≡ free_in l.initial.self;
  break_at : break_in l.self ≡ break_in l.initial.self;
  break_start : break_start_in l.self ≡ break_start_in l.initial.self;
}
