use Rattle.std.proofs.Common.{◌≡◌, ℕ, ◌+◌, ◌<◌, slice_index, take}
use Rattle.std.specs.Prelude.{IfSome}
use Rattle.page_map.specs.Map.{break_in, break_start_in, free_in, page_in}
use Rattle.page_map.specs.Starting.{image_page}
use Rattle.page_map.proofs.map.PageMap.add_image.Given as goal

-- the pages so far are mapped
abbrev pub invariant-loop-page : goal.invariant-loop-page
invariant-loop-page l = record {
  pages : (n : ℕ) → page_in l.self n ≡ image_page (take l.page-index l.pages) n;
  small : (n : ℕ) → IfSome (page_in l.self n) (λ p. (k : ℕ) → slice_index p.bytes k < 256);
  free : free_in l.self + l.page-index ≡ free_in l.initial.self;
  break_at : break_in l.self ≡ break_in l.initial.self;
  break_start : break_start_in l.self ≡ break_start_in l.initial.self;
}
