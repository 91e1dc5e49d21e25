use Rattle.std.proofs.Common.{◌≡◌, ◌+◌, ◌*◌, ◌^◌, ◌≤◌, ◌<◌, ◌++◌, drop, All}
use Rattle.elf_make.specs.Layout.{contents_start, placed_from}
use Rattle.elf_make.proofs.layout.placed.Given as goal

abbrev pub invariant-loop-part : goal.invariant-loop-part
invariant-loop-part l = (l.headers.items ++ placed_from l.end (drop l.part-index l.parts) ≡ placed_from (contents_start l.parts) l.parts) × (l.end ≤ 4096 + 2 ^ 39 * l.part-index) × All (λ h. h.flags < 256) l.headers.items
