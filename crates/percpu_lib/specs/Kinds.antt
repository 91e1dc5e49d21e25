-- The blocks of the library as one table (own): what is said of all of them is said of a kind.
use Rattle.std.specs.Prelude.{ℕ, Bool, true, false, List}
use Rattle.percpu_lib.specs.Adds.{add_lines, add_steps}
use Rattle.percpu_lib.specs.Allocs.{alloc_form, alloc_lines, alloc_steps}
use Rattle.percpu_lib.specs.Forms.{Form}
use Rattle.percpu_lib.specs.Frees.{free_form, free_lines, free_steps}
use Rattle.percpu_lib.specs.Pops.{pop_form, pop_lines, pop_steps}
use Rattle.percpu_lib.specs.Pushes.{push_form, push_lines, push_steps}
use Rattle.percpu_lib.specs.Uses.{add_form}
use Rattle.percpu_lib.specs.declared.lines.Line.{Line}
use Rattle.percpu_lib.specs.declared.slots.Slots.{Slots}

-- a block adds to a cell, pushes on a list or pops off it, or takes out of a pool or puts into it
pub data Kind : Type 0 where
  adds : Kind
  pushes : Kind
  pops : Kind
  allocs : Kind
  frees : Kind

-- the block of a kind, and its lines
abbrev pub form_of : Kind → Slots → Form
form_of adds p = add_form p
form_of pushes p = push_form p
form_of pops p = pop_form p
form_of allocs p = alloc_form p
form_of frees p = free_form p

abbrev pub lines_of : Kind → Slots → ℕ → List Line
lines_of adds p base = add_lines p base
lines_of pushes p base = push_lines p base
lines_of pops p base = pop_lines p base
lines_of allocs p base = alloc_lines p base
lines_of frees p base = free_lines p base

-- what it does inside
abbrev pub steps_of : Kind → Slots → ℕ → List Line
steps_of adds p base = add_steps p
steps_of pushes p base = push_steps p
steps_of pops p base = pop_steps p base
steps_of allocs p base = alloc_steps p base
steps_of frees p base = free_steps p base

-- it takes a value in; pop and alloc only bring one out
abbrev pub takes_in : Kind → Bool
takes_in pops = false
takes_in allocs = false
takes_in other = true
