use Rattle.std.proofs.Common.{◌&&◌, eqb, sym, ap, ◌∙◌}
use Rattle.mach_types.specs.Kernel.Areas.{are_readable, number_at}
use Rattle.rseq_area.proofs.Readings.{first_fails, number_at-read, readable, unreadable}
use Rattle.rseq_area.proofs.naming.is_word.Goals as goal

pub returns-in-Some : goal.returns-in-Some
returns-in-Some g c =
    let byte = g.M.UserMem.byte c.args.mem.now in
    let at = c.args.at in
    let read = c.in-Some.read in
    ap (λ n. eqb n c.args.word) (number_at-read byte at 4 read c.in-Some.ensures)
    ∙ sym (ap (λ b. b && eqb (number_at byte at 4) c.args.word) (readable byte at 4 read c.in-Some.ensures))

pub returns-in-None : goal.returns-in-None
returns-in-None g c =
    let byte = g.M.UserMem.byte c.args.mem.now in
    let at = c.args.at in
    sym (first_fails (are_readable byte at 4) (eqb (number_at byte at 4) c.args.word) (unreadable byte at 4 c.in-None.ensures))
