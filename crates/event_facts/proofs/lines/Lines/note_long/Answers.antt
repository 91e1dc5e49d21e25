use Rattle.std.proofs.Common.{◌∙◌, List, ap, max}
use Rattle.rv_inst.specs.Accesses.{bytes}
use Rattle.block_model.specs.Footprints.{has_byte}
use Rattle.event_facts.specs.Written.{last_line, line_at}
use Rattle.event_facts.specs.declared.long_writes.LongWrite.{LongWrite}
use Rattle.event_facts.proofs.LinesOfBytes.{by_long, last_pushed}
use Rattle.event_facts.proofs.lines.Lines.note_long.Goals as goal

pub returns-clause-lines : goal.returns-clause-lines
returns-clause-lines c = λ a.
    let x = c.args.self.now in
    let newest : LongWrite = record { at = c.args.at; length = c.args.length; line = c.args.line } in
    let long = last_line x.long.items a 0 in
    ap (λ (ws : List LongWrite). max (line_at x.written a) (last_line ws a 0)) c.in_ok-push.ensures.items
    ∙ ap (max (line_at x.written a)) (last_pushed x.long.items newest a 0)
    ∙ by_long (has_byte (bytes c.args.at c.args.length) a) c.args.line (line_at x.written a) long (c.requires a)
