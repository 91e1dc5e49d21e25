use Rattle.std.proofs.Common.{◌+◌, ◌-◌, arith, is_some, refl, sym}
use Rattle.mach_types.proofs.Laws.{first_page-some}
use Rattle.page_map.specs.Map.{permission_in}
use Rattle.page_map.proofs.Runs.{is-mapped, removed-all, removed-count, removed-start, removed-step}
use Rattle.page_map.proofs.map.PageMap.remove_pages.Goals as goal

pub loop-number-init : goal.loop-number-init
loop-number-init c = removed-start c.args.self.now c.args.first c.args.count

pub remove-requires : goal.remove-requires
remove-requires c =
    let is = first_page-some (λ k. is_some (permission_in c.loop-number.self k)) c.loop-number.from (c.args.first + c.args.count - c.loop-number.from) c.in-Some.number (sym c.in-Some.ensures) in
    is-mapped c.loop-number.self c.in-Some.number is.passes

pub overflow_add-from : goal.overflow_add-from
overflow_add-from c =
    let is = first_page-some (λ k. is_some (permission_in c.loop-number.self k)) c.loop-number.from (c.args.first + c.args.count - c.loop-number.from) c.in-Some.number (sym c.in-Some.ensures) in
    let high = is.high in
    let end = c.requires in
    omega arith

pub loop-number-smaller : goal.loop-number-smaller
loop-number-smaller c =
    let is = first_page-some (λ k. is_some (permission_in c.loop-number.self k)) c.loop-number.from (c.args.first + c.args.count - c.loop-number.from) c.in-Some.number (sym c.in-Some.ensures) in
    let low = is.low in
    let high = is.high in
    let end = c.requires in
    omega arith

pub loop-number-preserved : goal.loop-number-preserved
loop-number-preserved c =
    let gone = c.remove.ensures in
    removed-step c.args.self.now c.loop-number.self c.args.first c.args.count c.loop-number.from c.loop-number.invariant c.remove.new.self
    (c.args.first + c.args.count) c.in-Some.number refl (sym c.in-Some.ensures) gone.pages gone.free gone.break_at gone.break_start

pub returns-clause-pages : goal.returns-clause-pages
returns-clause-pages c =
    removed-all c.args.self.now c.loop-number.self c.args.first c.args.count c.loop-number.from c.loop-number.invariant
    (c.args.first + c.args.count) refl (sym c.in_default.ensures)

pub returns-clause-free : goal.returns-clause-free
returns-clause-free c =
    removed-count c.args.self.now c.loop-number.self c.args.first c.args.count c.loop-number.from c.loop-number.invariant
    (c.args.first + c.args.count) refl (sym c.in_default.ensures)
