use Rattle.std.proofs.Common.{◌∙◌}
use Rattle.rseq_area.proofs.WordsWritten.{mm_cid_writable}
use Rattle.rseq_area.proofs.words.set_cpu.Goals as goal

pub put_word-requires-4 : goal.put_word-requires-4
put_word-requires-4 g c =
    mm_cid_writable (g.M.UserMem.can_write c.args.mem.now) (g.M.UserMem.can_write c.put_word-3.new.mem) c.args.area.now
    (λ a. c.put_word-3.ensures.permissions a ∙ c.put_word-2.ensures.permissions a ∙ c.put_word.ensures.permissions a)
    c.if-not-can_set_cpu.ensures.answer

pub returns-clause-alike : goal.returns-clause-alike
returns-clause-alike g c =
    let next = g.met.M.UserMem.alike_next in
    let m = c.args.mem.now in
    let first = next m c.put_word.new.mem c.put_word-2.new.mem c.put_word.ensures.alike c.put_word-2.ensures.alike in
    let second = next m c.put_word-2.new.mem c.put_word-3.new.mem first c.put_word-3.ensures.alike in
    next m c.put_word-3.new.mem c.put_word-4.new.mem second c.put_word-4.ensures.alike
