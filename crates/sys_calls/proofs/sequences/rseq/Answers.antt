-- The call unregisters an area.
use Rattle.sys_calls.proofs.Common.{◌≡◌, ◌%◌, ◌^◌, true, eqb, sym, ap, subst, ◌∙◌, AreTables, CallDone, IsMade, Saved, area_of, int_argument, register, unregisters_or_refused, unregistration_asked, cond-true, rseq}
use Rattle.sys_calls.proofs.CallAnswers.{made_answered}
use Rattle.sys_calls.proofs.sequences.rseq.Goals as goal

pub returns-then-asks_to_unregister-clause-made : goal.returns-then-asks_to_unregister-clause-made
returns-then-asks_to_unregister-clause-made c = λ h hart told has read id.
    let t = c.args.tid.0 in
    let k = c.args.kernel.now in
    let k' = c.unregister_area-outcome.new.kernel in
    let m = c.args.pages.now in
    let m' = c.unregister_area-outcome.new.pages in
    let saved = c.args.saved.now in
    let call = unregisters_or_refused h t (unregistration_asked saved (area_of t h.kernel.areas)) in
    let asks : eqb (int_argument h t 2 % 2) 1 ≡ true =
    ap (λ (f : Saved). eqb (register f.file 12 % 2 ^ 32 % 2) 1) (sym read.file) ∙ sym c.asks_to_unregister.ensures ∙ c.if-asks_to_unregister.true in
    let is : rseq h t ≡ call =
    cond-true (eqb (int_argument h t 2 % 2) 1) _ _ asks ∙ ap (λ (f : Saved). unregisters_or_refused h t (unregistration_asked f (area_of t h.kernel.areas))) (sym read.file) in
    let made = made_answered h t c.args.here.0 k k' m m' saved c.go_on.new.saved c.unregister_area-outcome.new.written.items c.unregister_area-outcome.result c.go_on.result call
    hart told has read.file c.requires.caller (c.unregister_area-outcome.ensures.answered h told read)
    (subst AreTables (sym c.unregister_area-outcome.ensures.others) c.requires.caller.tables)
    c.go_on.ensures.saved c.go_on.ensures.stays c.go_on.ensures.runs_on c.go_on.ensures.waits_in_none c.go_on.ensures.ends c.go_on.ensures.answer in
    subst (λ (d : CallDone). IsMade h t k m k' m' c.go_on.new.saved c.go_on.result d) (sym is) made
