-- The lines of each kind of block: each has a word or is aimed at a label that is there, and they bind their
-- labels.
use Rattle.std.proofs.Common.{ℕ, ◌+◌, ◌<◌, ◌≤◌, [], All}
use Rattle.rv_asm.specs.Assembly.{Assembly}
use Rattle.percpu_lib.specs.Adds.{add_steps}
use Rattle.percpu_lib.specs.Allocs.{alloc_steps}
use Rattle.percpu_lib.specs.BlockLines.{IsLabelled}
use Rattle.percpu_lib.specs.Frees.{free_aborted, free_first, free_steps}
use Rattle.percpu_lib.specs.Kinds.{Kind, adds, allocs, frees, lines_of, pops, pushes}
use Rattle.percpu_lib.specs.Lines.{AreEmitted, HasRoom, IsEmittable}
use Rattle.percpu_lib.specs.Pops.{pop_steps}
use Rattle.percpu_lib.specs.Pushes.{push_steps}
use Rattle.percpu_lib.specs.Words.{AreSlots}
use Rattle.percpu_lib.specs.declared.slots.Slots.{Slots}
use Rattle.percpu_lib.proofs.Emittable.{add_emittable, alloc_emittable, free_emittable, pop_emittable}
use Rattle.percpu_lib.proofs.Emittable.{push_emittable}
use Rattle.percpu_lib.proofs.Labels.{labelled}

pub kind_emittable : (k : Kind) (p : Slots) (base labels : ℕ) → AreSlots p → p.table < 0x7FFFF800 → base + 8
    ≤ labels
    → All (IsEmittable labels) (lines_of k p base)
kind_emittable adds p base labels slots low room = add_emittable p base labels slots low room
kind_emittable pushes p base labels slots low room = push_emittable p base labels slots low room
kind_emittable pops p base labels slots low room = pop_emittable p base labels slots low room
kind_emittable allocs p base labels slots low room = alloc_emittable p base labels slots low room
kind_emittable frees p base labels slots low room = free_emittable p base labels slots low room

pub kind_labelled : (k : Kind) (p : Slots) (base : ℕ) (a b : Assembly) → AreEmitted (lines_of k p base) a b
    → HasRoom a.labels base → IsLabelled base b
kind_labelled adds p base a b is room = labelled p base 6 [] (add_steps p) [] a b is room tt tt tt
kind_labelled pushes p base a b is room = labelled p base 6 [] (push_steps p) [] a b is room tt tt tt
kind_labelled pops p base a b is room = labelled p base 6 [] (pop_steps p base) [] a b is room tt tt tt
kind_labelled allocs p base a b is room = labelled p base 13 [] (alloc_steps p base) [] a b is room tt tt tt
kind_labelled frees p base a b is room =
    labelled p base 13 (free_first p) (free_steps p base) (free_aborted p) a b is room tt tt tt
