use Rattle.std.proofs.Common.{◌+◌, ◌-◌, ◌∙◌, arith, is_some, refl, sym}
use Rattle.mach_types.proofs.Laws.{first_page-some}
use Rattle.page_map.specs.Map.{permission_in}
use Rattle.page_map.proofs.Runs.{code-found, code-none, code-step}
use Rattle.page_map.proofs.map.PageMap.is_without_code.Goals as goal

pub returns-then-can_execute : goal.returns-then-can_execute
returns-then-can_execute c =
    code-found (permission_in c.args.self.now) c.args.first c.args.count c.loop-number.from c.loop-number.invariant
    (c.args.first + c.args.count) c.in-Some.number refl (sym c.in-Some.ensures) (sym c.can_execute.ensures ∙ c.if-can_execute.true)

pub overflow_add-from : goal.overflow_add-from
overflow_add-from c =
    let is = first_page-some (λ k. is_some (permission_in c.args.self.now k)) c.loop-number.from (c.args.first + c.args.count - c.loop-number.from) c.in-Some.number (sym c.in-Some.ensures) in
    let high = is.high in let end = c.requires in omega arith

pub loop-number-smaller : goal.loop-number-smaller
loop-number-smaller c =
    let is = first_page-some (λ k. is_some (permission_in c.args.self.now k)) c.loop-number.from (c.args.first + c.args.count - c.loop-number.from) c.in-Some.number (sym c.in-Some.ensures) in
    let low = is.low in let high = is.high in let end = c.requires in omega arith

pub loop-number-preserved : goal.loop-number-preserved
loop-number-preserved c =
    code-step (permission_in c.args.self.now) c.args.first c.args.count c.loop-number.from c.loop-number.invariant
    (c.args.first + c.args.count) c.in-Some.number refl (sym c.in-Some.ensures) (sym c.can_execute.ensures ∙ c.if-can_execute.false)

pub returns : goal.returns
returns c =
    code-none (permission_in c.args.self.now) c.args.first c.args.count c.loop-number.from c.loop-number.invariant
    (c.args.first + c.args.count) refl (sym c.in_default.ensures)
