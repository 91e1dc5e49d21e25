-- Lists that name the same pages, place by place (own).
use Rattle.std.specs.Prelude.{ℕ, ◌≡◌, List, Some, length, slice_get}
use Rattle.page_map.specs.declared.mapped_page.MappedPage.{MappedPage}

pub record StandAlike (mapped others : List MappedPage) : Type 0 where
  pub count : length mapped ≡ length others
  pub each : (i : ℕ) (p q : MappedPage) → slice_get mapped i ≡ Some p → slice_get others i ≡ Some q
      → (p.number ≡ q.number) × (p.permission ≡ q.permission)
