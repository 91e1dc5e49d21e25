-- A handler is entered.
use Rattle.process.proofs.Common.{◌≡◌, length, true, refl, sym, ap, ◌∙◌, eqb, ◌∷◌, [], slice_get, option_map, can_write_frame, frame_writes, stack_pointer, action_of, mask_of, IsWritten, Kernel, Write, byte_in, can_write_in, lost_unless, dropped_if_ignored, OnTrue_at, after_frame}
use Rattle.process.proofs.SignalFrames.{frame_is_lost, frame_written}
use Rattle.process.proofs.parts.Parts.enter_handler.Goals as goal

pub returns-clause-entered : goal.returns-clause-entered
returns-clause-entered c =
    let m = c.args.self.now in
    let x = c.args.saved.now in
    let s = c.args.signal in
    let g = m.kernel.signals in
    let a = action_of s g in
    let fault = c.args.fault in
    let mask = mask_of c.args.tid.0 g in
    let made : c.push_frame.result ≡ true = c.if-not-push_frame.false in
    let file = OnTrue_at made c.push_frame.ensures.file in
    let long : length x.file.x ≡ 32 = c.has_all_registers.ensures in
    let may : can_write_frame (can_write_in m.pages) a x ≡ true = sym c.push_frame.ensures.answer ∙ made in
    let wrote : IsWritten (frame_writes s a fault x mask) m.pages c.push_frame.new.mem =
    frame_written m.pages c.push_frame.new.mem s a fault x mask long may c.push_frame.ensures.alike
    (λ n. c.push_frame.ensures.bytes n ∙ ap (λ b. after_frame b (frame_writes s a fault x mask) (byte_in m.pages) n) made) in
    record {
      file = file;
      pages = rw c.lose.ensures.pages wrote;
      harts = λ k. c.lose.ensures.harts k
          ∙ ap (λ (w : Write). option_map (lost_unless (eqb k c.args.hart.0) (w ∷ [])) (slice_get m.harts.items k)) c.frame_of.ensures
          ∙ frame_is_lost (eqb k c.args.hart.0) s a fault x mask (stack_pointer c.push_frame.new.saved) c.frame_size-size.result (slice_get m.harts.items k) long (ap stack_pointer file) c.frame_size-size.ensures;
      signals = c.drop_if_ignored.ensures ∙ ap (dropped_if_ignored s) (ap (λ (k : Kernel). k.signals) c.lose.ensures.kernel ∙ OnTrue_at made c.push_frame.ensures.signals);
    }

pub returns-clause-others : goal.returns-clause-others
returns-clause-others c = rw c.lose.ensures.kernel refl
