use Rattle.process.proofs.Common.{Ok, sym, ap, ◌∙◌, entry_in, here_at, answered}
use Rattle.mach_types.specs.declared.events.Choice.TheVariants as asked
use Rattle.process.proofs.parts.Parts.exec_any.Goals as goal

pub entry-made-requires : goal.entry-made-requires
entry-made-requires c = record {
  stand = c.requires.stand;
  place = c.requires.place;
  free = (c.in-Ok.ensures.ok c.requires.stand c.requires.place c.requires.alone).free;
}

pub returns-in-Ok-clause-answer : goal.returns-in-Ok-clause-answer
returns-in-Ok-clause-answer c v place alone =
    ap Ok (c.entry-made.ensures v place) ∙ ap (answered (entry_in asked.Exec (here_at v c.args.hart.0))) (sym (c.in-Ok.ensures.ok v place alone).free)
