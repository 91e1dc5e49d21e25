use Rattle.std.proofs.Common.{◌≡◌, ℕ, ◌<◌, Some, slice_get}
use Rattle.page_map.specs.declared.mapped_page.MappedPage.{MappedPage}
use Rattle.page_map.proofs.map.stand_alike.Given as goal

-- the pages so far are the same
abbrev pub invariant-loop-place : goal.invariant-loop-place
invariant-loop-place l = (i : ℕ) (p q : MappedPage) → i < l.place → slice_get l.pages i ≡ Some p → slice_get l.others i ≡ Some q → (p.number ≡ q.number) × (p.permission ≡ q.permission)
