use Rattle.std.proofs.Common.{◌≡◌}
use Rattle.page_map.specs.Map.{break_in, break_start_in, free_in, page_in}
use Rattle.page_map.proofs.TakenPages.{TakenTo}
use Rattle.page_map.proofs.map.PageMap.take_all.Given as goal

-- the pages at the places so far are those of the other map
abbrev pub invariant-loop-place : goal.invariant-loop-place
invariant-loop-place l = record {
  mapped : l.self.mapped ≡ l.fn.self.mapped;
  taken : TakenTo l.fn.self.mapped (page_in l.self) (page_in l.fn.other) l.place;
  free : free_in l.self ≡ free_in l.fn.self;
  break_at : break_in l.self ≡ break_in l.fn.self;
  break_start : break_start_in l.self ≡ break_start_in l.fn.self;
}
