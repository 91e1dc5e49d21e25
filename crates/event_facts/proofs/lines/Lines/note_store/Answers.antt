use Rattle.std.proofs.Common.{◌∙◌, ap, max}
use Rattle.rv_inst.specs.Accesses.{bytes}
use Rattle.block_model.specs.Footprints.{has_byte}
use Rattle.event_facts.specs.Written.{last_line, line_at}
use Rattle.event_facts.proofs.LinesOfBytes.{by_short}
use Rattle.event_facts.proofs.lines.Lines.note_store.Goals as goal

pub returns-clause-lines : goal.returns-clause-lines
returns-clause-lines c = λ a.
    let x = c.args.self.now in
    let long = last_line x.long.items a 0 in
    ap (λ n. max n long) (c.in_ok-write.ensures a)
    ∙ by_short (has_byte (bytes c.args.store.at c.args.store.size) a) c.args.line (line_at x.written a) long (c.requires a)
