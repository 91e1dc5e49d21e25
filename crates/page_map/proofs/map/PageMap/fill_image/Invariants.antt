use Rattle.std.proofs.Common.{◌≡◌, ℕ, ◌<◌, slice_index, take}
use Rattle.std.specs.Prelude.{IfSome}
use Rattle.std.specs.Option.{option_or}
use Rattle.page_map.specs.Map.{break_in, break_start_in, free_in, page_in}
use Rattle.page_map.specs.Starting.{image_page}
use Rattle.page_map.proofs.map.PageMap.fill_image.Given as goal

-- the pages so far have their bytes
abbrev pub invariant-loop-place : goal.invariant-loop-place
invariant-loop-place l = record {
  pages : (n : ℕ) → page_in l.self n ≡ option_or (image_page (take l.place l.pages) n) (page_in l.initial.self n);
  small : (n : ℕ) → IfSome (image_page (take l.place l.pages) n) (λ p. (k : ℕ) → slice_index p.bytes k < 256);
  mapped : l.self.mapped ≡ l.initial.self.mapped;
  free : free_in l.self ≡ free_in l.initial.self;
  break_at : break_in l.self ≡ break_in l.initial.self;
  break_start : break_start_in l.self ≡ break_start_in l.initial.self;
}
