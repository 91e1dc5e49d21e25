-- How many acts of each form a hart has (own).
use Rattle.std.specs.Prelude.{ℕ, ◌+◌, ◌==◌, ◌&&◌, Bool, true, false, List, filter, length}
use Rattle.std.specs.Option.{is_some}
use Rattle.block_model.specs.declared.acts.SeqEnd.{SeqEnd}
use Rattle.block_model.specs.declared.acts.SeqEnd.TheVariants as ends
use Rattle.block_view.specs.Forms.{cut_at}
use Rattle.block_view.specs.declared.forms.Act.{Act}
use Rattle.block_view.specs.declared.forms.Form.{Form}
use Rattle.block_view.specs.declared.forms.Form.TheVariants.{Step, Kernel, Sequence}
use Rattle.block_view.specs.declared.tally.Counts.{Counts}

abbrev pub is_step : Form → Bool
is_step Step = true
is_step Kernel = false
is_step (Sequence end) = false

abbrev pub is_kernel : Form → Bool
is_kernel Step = false
is_kernel Kernel = true
is_kernel (Sequence end) = false

-- whether it is a sequence that ended so
abbrev pub is_ended : (SeqEnd → Bool) → Form → Bool
is_ended so Step = false
is_ended so Kernel = false
is_ended so (Sequence end) = so end

abbrev pub is_dead : SeqEnd → Bool
is_dead ends.Dead = true
is_dead other = false

-- at whichever abort handler it goes on
abbrev pub is_cut : Form → Bool
is_cut form = is_some (cut_at form)

abbrev pub is_left : SeqEnd → Bool
is_left ends.Left = true
is_left other = false

abbrev pub is_dropped : SeqEnd → Bool
is_dropped ends.Dropped = true
is_dropped other = false

abbrev pub is_unended : SeqEnd → Bool
is_unended ends.Unended = true
is_unended other = false

-- how many acts of a hart have a form
abbrev pub how_many : ℕ → (Form → Bool) → List Act → ℕ
how_many h so list = length (filter (λ (act : Act). (act.hart.0 == h) && so act.form) list)

-- the counts of a hart
abbrev pub counts_of : List Act → ℕ → Counts
counts_of list h = record {
  step = how_many h is_step list;
  left = how_many h (is_ended is_left) list;
  cut = how_many h is_cut list;
  dropped = how_many h (is_ended is_dropped) list;
  dead = how_many h (is_ended is_dead) list;
  unended = how_many h (is_ended is_unended) list;
  kernel = how_many h is_kernel list;
}

-- counts of no act
abbrev pub no_counts : Counts
no_counts = record { step = 0; left = 0; cut = 0; dropped = 0; dead = 0; unended = 0; kernel = 0 }

-- counts with one act more of a form
abbrev pub counted_end : SeqEnd → Counts → Counts
counted_end ends.Dead counts = record counts { dead = counts.dead + 1 }
counted_end (ends.Cut at) counts = record counts { cut = counts.cut + 1 }
counted_end ends.Left counts = record counts { left = counts.left + 1 }
counted_end ends.Dropped counts = record counts { dropped = counts.dropped + 1 }
counted_end ends.Unended counts = record counts { unended = counts.unended + 1 }

abbrev pub counted : Form → Counts → Counts
counted Step counts = record counts { step = counts.step + 1 }
counted Kernel counts = record counts { kernel = counts.kernel + 1 }
counted (Sequence end) counts = counted_end end counts

-- how many acts were counted
abbrev pub total : Counts → ℕ
total counts = counts.step + counts.left + counts.cut + counts.dropped + counts.dead + counts.unended + counts.kernel
