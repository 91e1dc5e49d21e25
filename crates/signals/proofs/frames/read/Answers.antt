use Rattle.std.proofs.Common.{ℕ, eqb, option_map, ap, sym, ◌∙◌}
use Rattle.mach_types.specs.Kernel.SignalFrames.{without_info, words_at}
use Rattle.mach_types.specs.declared.address_space.TheConstants.{INFO_RETURN_CALL}
use Rattle.signals.proofs.Ends.{frame_read_is_info, frame_read_is_words, unequal}
use Rattle.signals.proofs.frames.read.Goals as goal

pub returns-then-saved-eq-INFO_RETURN_CALL : goal.returns-then-saved-eq-INFO_RETURN_CALL
returns-then-saved-eq-INFO_RETURN_CALL g c =
    let byte = g.M.UserMem.byte c.args.mem.now in
    c.informed.ensures ∙ ap (λ (at : ℕ). option_map without_info (words_at byte at 136)) c.get-at.ensures
    ∙ sym (frame_read_is_info byte c.args.saved.now (ap (λ (n : ℕ). eqb n INFO_RETURN_CALL) c.if-saved-eq-INFO_RETURN_CALL.true))

pub returns-else-saved-eq-INFO_RETURN_CALL : goal.returns-else-saved-eq-INFO_RETURN_CALL
returns-else-saved-eq-INFO_RETURN_CALL g c =
    let byte = g.M.UserMem.byte c.args.mem.now in
    c.words_at.ensures ∙ ap (λ (at : ℕ). words_at byte at 34) c.get-at.ensures
    ∙ sym (frame_read_is_words byte c.args.saved.now (unequal c.args.saved.now.pc INFO_RETURN_CALL c.if-saved-eq-INFO_RETURN_CALL.false))
