-- A registration that is refused.
use Rattle.sys_calls.proofs.Common.{◌≡◌, ℕ, List, sym, ap, ◌∙◌, Area, area_of, refused, registers_or_refused, area_asked}
use Rattle.sys_calls.proofs.CallAnswers.{made_refused}
use Rattle.sys_calls.proofs.sequences.register_asked.Goals as goal

pub returns-in-Err-clause-made : goal.returns-in-Err-clause-made
returns-in-Err-clause-made c = λ h hart told has read id.
    let t = c.args.tid.0 in
    let m = c.args.pages.now in
    let saved = c.args.saved.now in
    let call = registers_or_refused h t (area_asked saved (area_of t h.kernel.areas)) in
    let is : call ≡ refused h t c.in-Err.errno =
    ap (λ (areas : List (ℕ × Area)). registers_or_refused h t (area_asked saved (area_of t areas))) (sym told.areas)
    ∙ ap (registers_or_refused h t) (sym c.asked_area.ensures.answer ∙ c.in-Err.is) in
    made_refused h t c.args.here.0 c.args.kernel.now m saved c.go_on.new.saved c.in-Err.errno c.go_on.result call hart told has read.file c.requires.caller is
    c.go_on.ensures.saved c.go_on.ensures.stays c.go_on.ensures.runs_on c.go_on.ensures.waits_in_none c.go_on.ensures.ends c.go_on.ensures.answer
