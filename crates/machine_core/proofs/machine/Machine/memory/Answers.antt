-- A word of memory.
use Rattle.machine_core.proofs.Common.{ℕ, ◌∙◌, ap, Option, word_at}
use Rattle.machine_core.proofs.Readings.{bytes_read}
use Rattle.machine_core.proofs.machine.Machine.memory.Goals as goal

pub returns : goal.returns
returns c = λ h.
    rw (← c.self.view_is) (c.get.ensures ∙ ap (λ (b : ℕ → Option ℕ). word_at b c.args.at c.args.size) (bytes_read c.self.inside h c.self.invariant))
