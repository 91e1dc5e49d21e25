use Rattle.std.proofs.Common.{sym, ◌∙◌, ap, Option}
use Rattle.std.specs.Option.{option_map}
use Rattle.block_view.specs.Ledgers.{Kept, act_by, begun, kept_in, stopped, stopped_act, taken_in, with_act, with_act_alone}
use Rattle.block_view.specs.declared.forms.Act.{Act}
use Rattle.block_view.specs.declared.forms.Form.{Form}
use Rattle.block_view.specs.declared.turns.Turn.TheVariants.{Ends}
use Rattle.block_view.proofs.Noting.{going_here, noted_alone, noted_begun, noted_more, noted_stopped, place_stays, turn_alone, turn_begun, turn_more, turn_stopped}
use Rattle.block_view.proofs.ledger.Ledger.note.Goals as goal

pub go_on-requires-clause-place : goal.go_on-requires-clause-place
go_on-requires-clause-place c =
    let k = kept_in c.args.self.now in
    let p = c.args.passed.now in
    let on = going_here k p.entry.hart.0 c.hart.result _ _ c.in-Some.is c.hart.ensures c.requires.hart c.index-going.ensures in
    place_stays p k c.in-Some.going _ c.requires.places on (ap (λ (x : Kept). x.acts) c.settle-settled.ensures.settled)

pub stop-requires-clause-place : goal.stop-requires-clause-place
stop-requires-clause-place c =
    let k = kept_in c.args.self.now in
    let p = c.args.passed.now in
    let on = going_here k p.entry.hart.0 c.hart.result _ _ c.in-Some-2.is c.hart.ensures c.requires.hart c.index-going.ensures in
    place_stays p k c.in-Some-2.going _ c.requires.places on (ap (λ (x : Kept). x.acts) c.settle-settled.ensures.settled)

pub returns-in-Some-clause-noted : goal.returns-in-Some-clause-noted
returns-in-Some-clause-noted c =
    let k = kept_in c.args.self.now in
    let p = c.args.passed.now in
    let on = going_here k p.entry.hart.0 c.hart.result _ _ c.in-Some.is c.hart.ensures c.requires.hart c.index-going.ensures in
    c.go_on.ensures
    ∙ ap (taken_in c.in-Some.going p) c.settle-settled.ensures.settled
    ∙ sym (noted_more p k c.in-Some.going on (sym c.is_taken_in.ensures ∙ c.if-is_taken_in.true))

pub returns-in-Some-clause-turn : goal.returns-in-Some-clause-turn
returns-in-Some-clause-turn c =
    let k = kept_in c.args.self.now in
    let p = c.args.passed.now in
    let on = going_here k p.entry.hart.0 c.hart.result _ _ c.in-Some.is c.hart.ensures c.requires.hart c.index-going.ensures in
    turn_more p k c.in-Some.going on (sym c.is_taken_in.ensures ∙ c.if-is_taken_in.true)

pub returns-in_ok-add-in-Some-2-clause-noted : goal.returns-in_ok-add-in-Some-2-clause-noted
returns-in_ok-add-in-Some-2-clause-noted c =
    let k = kept_in c.args.self.now in
    let p = c.args.passed.now in
    let g = c.in-Some-2.going in
    let on = going_here k p.entry.hart.0 c.hart.result _ _ c.in-Some-2.is c.hart.ensures c.requires.hart c.index-going.ensures in
    c.in_ok-add-in-Some-2.ensures
    ∙ ap (λ (form : Form). with_act (act_by p form) (kept_in c.stop.new.self)) c.form_alone.ensures
    ∙ ap (with_act_alone p) c.in_ok-stopped-in-Some-2.ensures.stopped
    ∙ ap (λ x. with_act_alone p (stopped g p x)) c.settle-settled.ensures.settled
    ∙ sym (noted_stopped p k g on (sym c.is_taken_in.ensures ∙ c.if-is_taken_in.false))

pub returns-in_ok-add-in-Some-2-clause-turn : goal.returns-in_ok-add-in-Some-2-clause-turn
returns-in_ok-add-in-Some-2-clause-turn c =
    let k = kept_in c.args.self.now in
    let p = c.args.passed.now in
    let g = c.in-Some-2.going in
    let on = going_here k p.entry.hart.0 c.hart.result _ _ c.in-Some-2.is c.hart.ensures c.requires.hart c.index-going.ensures in
    c.ending.ensures
    ∙ ap (λ (act : Option Act). option_map Ends act) c.in_ok-stopped-in-Some-2.ensures.act
    ∙ ap (λ x. option_map Ends (stopped_act g p x)) c.settle-settled.ensures.settled
    ∙ turn_stopped p k g on (sym c.is_taken_in.ensures ∙ c.if-is_taken_in.false)

pub returns-in_ok-begin-in-None-clause-noted : goal.returns-in_ok-begin-in-None-clause-noted
returns-in_ok-begin-in-None-clause-noted c =
    let k = kept_in c.args.self.now in
    let p = c.args.passed.now in
    let none = going_here k p.entry.hart.0 c.hart.result _ _ c.in-None.is c.hart.ensures c.requires.hart c.index-going.ensures in
    c.in_ok-begin-in-None.ensures ∙ ap (begun p) c.settle-settled.ensures.settled ∙ sym (noted_begun p k none (sym c.begins.ensures ∙ c.if-begins.true))

pub returns-in_ok-begin-in-None-clause-turn : goal.returns-in_ok-begin-in-None-clause-turn
returns-in_ok-begin-in-None-clause-turn c =
    let k = kept_in c.args.self.now in
    let p = c.args.passed.now in
    let none = going_here k p.entry.hart.0 c.hart.result _ _ c.in-None.is c.hart.ensures c.requires.hart c.index-going.ensures in
    c.beginning.ensures ∙ turn_begun p k none (sym c.begins.ensures ∙ c.if-begins.true)

pub returns-in_ok-add-in-None-2-clause-noted : goal.returns-in_ok-add-in-None-2-clause-noted
returns-in_ok-add-in-None-2-clause-noted c =
    let k = kept_in c.args.self.now in
    let p = c.args.passed.now in
    let none = going_here k p.entry.hart.0 c.hart.result _ _ c.in-None-2.is c.hart.ensures c.requires.hart c.index-going.ensures in
    c.in_ok-add-in-None-2.ensures
    ∙ ap (λ (form : Form). with_act (act_by p form) (kept_in c.settle-settled.new.self)) c.form_alone-in-None-2.ensures
    ∙ ap (with_act_alone p) c.settle-settled.ensures.settled
    ∙ sym (noted_alone p k none (sym c.begins.ensures ∙ c.if-begins.false))

pub returns-in_ok-add-in-None-2-clause-turn : goal.returns-in_ok-add-in-None-2-clause-turn
returns-in_ok-add-in-None-2-clause-turn c =
    let k = kept_in c.args.self.now in
    let p = c.args.passed.now in
    let none = going_here k p.entry.hart.0 c.hart.result _ _ c.in-None-2.is c.hart.ensures c.requires.hart c.index-going.ensures in
    c.ending-in-None-2.ensures
    ∙ ap (λ (act : Option Act). option_map Ends act) c.settle-settled.ensures.act
    ∙ turn_alone p k none (sym c.begins.ensures ∙ c.if-begins.false)
