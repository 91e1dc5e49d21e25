-- What the interruption of a thread will come to.
use Rattle.process.proofs.Common.{sym, ◌∙◌, here_at}
use Rattle.process.proofs.Foreseen.{foreseen_is, none_foreseen}
use Rattle.process.proofs.Places.{in_list}
use Rattle.process.proofs.parts.Parts.foreseen.Goals as goal

pub interrupts-requires : goal.interrupts-requires
interrupts-requires c = in_list c.requires.stand c.args.self.now c.args.hart.0 c.requires.place

pub returns-then-not-interrupts : goal.returns-then-not-interrupts
returns-then-not-interrupts c v place free =
    none_foreseen c.args.choice (here_at v c.args.hart.0) free (sym (c.interrupts.ensures v place) ∙ c.if-not-interrupts.true)

pub returns : goal.returns
returns c v place free =
    foreseen_is v c.args.self.now c.args.hart c.args.choice place free (sym (c.interrupts.ensures v place) ∙ c.if-not-interrupts.false)
    c.entry-entry.result (c.entry-entry.ensures v place) c.area_of-area.result c.area_of-area.ensures c.foreseen.result c.foreseen.ensures
