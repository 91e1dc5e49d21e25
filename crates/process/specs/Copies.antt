-- Parts that are as others, whichever frames hold their pages (own).
use Rattle.std.specs.Prelude.{ℕ, ◌≡◌}
use Rattle.page_map.specs.Map.{break_in, break_start_in, free_in, page_in}
use Rattle.process.specs.declared.parts.Parts.{Parts}

-- the second parts have all that the first have
pub record IsCopy (m m' : Parts) : Type 0 where
  pub harts : m'.harts.items ≡ m.harts.items
  pub pages : (n : ℕ) → page_in m'.pages n ≡ page_in m.pages n
  pub free : free_in m'.pages ≡ free_in m.pages
  pub break_at : break_in m'.pages ≡ break_in m.pages
  pub break_start : break_start_in m'.pages ≡ break_start_in m.pages
  pub kernel : m'.kernel ≡ m.kernel
  pub ended : m'.ended ≡ m.ended
