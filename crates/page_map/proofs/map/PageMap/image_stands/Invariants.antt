use Rattle.std.proofs.Common.{◌≡◌, ℕ, ◌<◌, Some, slice_get}
use Rattle.elf_load.specs.declared.image.ImagePage.{ImagePage}
use Rattle.page_map.specs.Starting.{StandsWith}
use Rattle.page_map.proofs.map.PageMap.image_stands.Given as goal

-- the pages so far stand at their places
abbrev pub invariant-loop-place : goal.invariant-loop-place
invariant-loop-place l = (i : ℕ) (p : ImagePage) → i < l.place → slice_get l.pages i ≡ Some p → StandsWith l.self.mapped i p.number p.perm
