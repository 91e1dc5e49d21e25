-- The frame of a handler, behind other writes.
use Rattle.process.proofs.Common.{◌≡◌, false, true, is_some, List, ◌++◌, Option, append-nil, sym, ap, subst, ◌∙◌, can_write_frame, frame_writes, action_of, is_handler, mask_of, Write, can_write_in}
use Rattle.std.specs.Option.{IfSome}
use Rattle.arrayvec.specs.ArrayVec.{ArrayVec}
use Rattle.mach_types.specs.Kernel.Signals.{fault_of}
use Rattle.process.specs.Delivering.{entered_frame}
use Rattle.process.proofs.SignalDelivery.{killer_default, killer_handler}
use Rattle.process.proofs.parts.Parts.add_frame.Goals as goal

pub returns-then-not-is_handler : goal.returns-then-not-is_handler
returns-then-not-is_handler c =
    let m = c.args.self.now in
    let g = m.kernel.signals in
    let x = c.args.saved.now in
    let t = c.args.tid.0 in
    let s = c.args.signal in
    let old = c.args.writes.now.items in
    let none : is_handler (action_of s g) ≡ false = ap is_handler (sym c.action.ensures) ∙ sym c.is_handler.ensures ∙ c.if-not-is_handler.true in
    sym (append-nil old) ∙ ap (λ k. old ++ entered_frame k t s (fault_of t s g) x g) (sym (killer_default (can_write_in m.pages) s x g none))

pub returns-in_default : goal.returns-in_default
returns-in_default c =
    let m = c.args.self.now in
    let g = m.kernel.signals in
    let x = c.args.saved.now in
    let t = c.args.tid.0 in
    let s = c.args.signal in
    let old = c.args.writes.now.items in
    let handler : is_handler (action_of s g) ≡ true = ap is_handler (sym c.action.ensures) ∙ sym c.is_handler.ensures ∙ c.if-not-is_handler.false in
    let may_not : can_write_frame (can_write_in m.pages) (action_of s g) x ≡ false = sym c.frame_writes.ensures.answer ∙ ap (λ (o : Option (ArrayVec Write)). is_some o) c.in_default.is in
    sym (append-nil old) ∙ ap (λ k. old ++ entered_frame k t s (fault_of t s g) x g) (sym (killer_handler (can_write_in m.pages) s x g false handler may_not))

pub returns : goal.returns
returns c =
    let m = c.args.self.now in
    let g = m.kernel.signals in
    let x = c.args.saved.now in
    let t = c.args.tid.0 in
    let s = c.args.signal in
    let a = action_of s g in
    let old = c.args.writes.now.items in
    let handler : is_handler a ≡ true = ap is_handler (sym c.action.ensures) ∙ sym c.is_handler.ensures ∙ c.if-not-is_handler.false in
    let may : can_write_frame (can_write_in m.pages) a x ≡ true = sym c.frame_writes.ensures.answer ∙ ap (λ (o : Option (ArrayVec Write)). is_some o) c.in-Some.is in
    let its : c.in-Some.frame.items ≡ frame_writes s a c.fault_of-fault.result x (mask_of t g) =
    subst (λ (o : Option (ArrayVec Write)). IfSome o (λ ws. ws.items ≡ frame_writes s a c.fault_of-fault.result x (mask_of t g))) c.in-Some.is c.frame_writes.ensures.writes in
    let told : c.as_slice.result.now ≡ frame_writes s a (fault_of t s g) x (mask_of t g) =
    c.as_slice.ensures.value ∙ its ∙ ap (λ f. frame_writes s a f x (mask_of t g)) c.fault_of-fault.ensures in
    c.add.ensures ∙ ap (λ (ws : List Write). old ++ ws) told
    ∙ ap (λ k. old ++ entered_frame k t s (fault_of t s g) x g) (sym (killer_handler (can_write_in m.pages) s x g true handler may))
