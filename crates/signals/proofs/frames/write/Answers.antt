use Rattle.std.proofs.Common.{◌≡◌, ℕ, false, true, ap, sym, ◌∙◌, rules}
use Rattle.mach_types.specs.Kernel.SignalFrames.{frame_at}
use Rattle.signals.proofs.Ends.{frame_is_words}
use Rattle.signals.specs.Writing.{can_write_words}
use Rattle.signals.proofs.frames.write.Goals as goal

pub returns-then-not-can_write-clause-answer : goal.returns-then-not-can_write-clause-answer
returns-then-not-can_write-clause-answer g c =
    let test = g.M.UserMem.can_write c.args.mem.now in
    let place = c.frame_at-at.ensures ∙ ap (frame_at c.args.action) c.get.ensures in
    let cannot : c.can_write.result ≡ false = search rules in
    sym (frame_is_words test c.args.action c.args.saved.now ∙ ap (can_write_words test _) (sym c.word_count.ensures)
    ∙ ap (λ (at : ℕ). can_write_words test at c.word_count.result) (sym place) ∙ sym c.can_write.ensures.answer ∙ cannot)

pub returns-clause-answer : goal.returns-clause-answer
returns-clause-answer g c =
    let test = g.M.UserMem.can_write c.args.mem.now in
    let place = c.frame_at-at.ensures ∙ ap (frame_at c.args.action) c.get.ensures in
    let can : c.can_write.result ≡ true = search rules in
    sym (frame_is_words test c.args.action c.args.saved.now ∙ ap (can_write_words test _) (sym c.word_count.ensures)
    ∙ ap (λ (at : ℕ). can_write_words test at c.word_count.result) (sym place) ∙ sym c.can_write.ensures.answer ∙ can)
