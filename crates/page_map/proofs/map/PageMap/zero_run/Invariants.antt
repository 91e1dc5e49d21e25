use Rattle.std.proofs.Common.{◌≡◌, ℕ, None}
use Rattle.std.specs.Prelude.{if◌then◌else◌}
use Rattle.std.specs.Option.{option_map}
use Rattle.mach_types.specs.Kernel.Pages.{is_in, run}
use Rattle.page_map.specs.Map.{break_in, break_start_in, free_in, page_in, zeroed_page}
use Rattle.page_map.proofs.map.PageMap.zero_run.Given as goal

-- so many pages are zero
abbrev pub invariant-loop-k : goal.invariant-loop-k
invariant-loop-k l = record {
  pages : (n : ℕ) → page_in l.self n
      ≡ (if is_in (run l.first l.k None) n then option_map zeroed_page (page_in l.initial.self n) else page_in l.initial.self n);
  free : free_in l.self ≡ free_in l.initial.self;
  break_at : break_in l.self ≡ break_in l.initial.self;
  break_start : break_start_in l.self ≡ break_start_in l.initial.self;
}
