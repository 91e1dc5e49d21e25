-- The two ring blocks as one table (own).
use Rattle.std.specs.Prelude.{ℕ, List}
use Rattle.percpu_lib.specs.Forms.{Form}
use Rattle.percpu_lib.specs.RingForms.{ring_get_form, ring_put_form}
use Rattle.percpu_lib.specs.Rings.{get_steps, put_steps, ring_get_lines, ring_put_lines}
use Rattle.percpu_lib.specs.declared.lines.Line.{Line}
use Rattle.percpu_lib.specs.declared.slots.Slots.{Slots}

-- a ring block puts words, or gets them
pub data RingKind : Type 0 where
  puts : RingKind
  gets : RingKind

-- the block of a kind and a count of words, what it does inside, and its lines
abbrev pub ring_form_of : RingKind → ℕ → Slots → Form
ring_form_of puts count p = ring_put_form count p
ring_form_of gets count p = ring_get_form count p

abbrev pub ring_steps_of : RingKind → Slots → ℕ → ℕ → List Line
ring_steps_of puts p base count = put_steps p base count
ring_steps_of gets p base count = get_steps p base count

abbrev pub ring_lines_of : RingKind → ℕ → Slots → ℕ → List Line
ring_lines_of puts count p base = ring_put_lines p base count
ring_lines_of gets count p base = ring_get_lines p base count
