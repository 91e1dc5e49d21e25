-- The words of an area, behind other writes.
use Rattle.process.proofs.Common.{length, List, append-nil, sym, ap, ◌++◌, ◌∙◌, arith, list_any, lowest_cid, words_on, words_written, Write, harts_that, holds, words_to}
use Rattle.process.proofs.Interruptions.{told_all, told_none}
use Rattle.process.proofs.parts.Parts.with_words.Goals as goal

pub add-requires : goal.add-requires
add-requires c = let four = ap length c.words_written.ensures in omega arith

pub returns-in_default : goal.returns-in_default
returns-in_default c h same =
    let w = words_on c.args.hart.0 (lowest_cid (harts_that (λ id. list_any (holds id) c.args.self.now.harts.items) 8)) in
    sym (append-nil c.args.writes.items) ∙ ap (λ a. c.args.writes.items ++ words_to h a w) (sym c.in_default.is)

pub returns-then-not-can_set_cpu : goal.returns-then-not-can_set_cpu
returns-then-not-can_set_cpu c h same =
    let w = words_on c.args.hart.0 (lowest_cid (harts_that (λ id. list_any (holds id) c.args.self.now.harts.items) 8)) in
    sym (append-nil c.args.writes.items) ∙ ap (λ (ws : List Write). c.args.writes.items ++ ws)
    (told_none h c.args.self.now.pages c.args.area c.in-Some.area w c.in-Some.is same (sym c.can_set_cpu.ensures.answer ∙ c.if-not-can_set_cpu.true))

pub returns : goal.returns
returns c h same =
    let w = words_on c.args.hart.0 (lowest_cid (harts_that (λ id. list_any (holds id) c.args.self.now.harts.items) 8)) in
    c.add.ensures ∙ ap (λ (ws : List Write). c.args.writes.items ++ ws)
    (c.words_written.ensures ∙ ap (words_written c.in-Some.area) (λ i. words_on (c.from-cpu.ensures i) ((c.from-cid.ensures ∙ c.next_id.ensures) i))
    ∙ told_all h c.args.self.now.pages c.args.area c.in-Some.area w c.in-Some.is same (sym c.can_set_cpu.ensures.answer ∙ c.if-not-can_set_cpu.false))
