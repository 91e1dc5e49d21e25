use Rattle.std.proofs.Common.{◌+◌, ◌-◌, arith, is_some, refl, sym}
use Rattle.mach_types.proofs.Laws.{first_page-some}
use Rattle.page_map.specs.Map.{permission_in}
use Rattle.page_map.proofs.Runs.{hole-found, hole-none, hole-start, hole-step}
use Rattle.page_map.proofs.map.PageMap.hole_from.Goals as goal

pub overflow_add-first : goal.overflow_add-first
overflow_add-first c = let high = c.loop-first.invariant.high in let few = c.requires.few in omega arith

pub overflow_add-first-in-Some : goal.overflow_add-first-in-Some
overflow_add-first-in-Some c =
    let is = first_page-some (λ k. is_some (permission_in c.args.self.now k)) c.loop-first.first (c.loop-first.first + c.args.count - c.loop-first.first) c.in-Some.number (sym c.in-Some.ensures) in
    let high = is.high in
    let end = c.loop-first-test.true in
    omega arith

pub loop-first-smaller : goal.loop-first-smaller
loop-first-smaller c =
    let is = first_page-some (λ k. is_some (permission_in c.args.self.now k)) c.loop-first.first (c.loop-first.first + c.args.count - c.loop-first.first) c.in-Some.number (sym c.in-Some.ensures) in
    let low = is.low in
    let high = is.high in
    let end = c.loop-first-test.true in
    omega arith

pub loop-first-preserved : goal.loop-first-preserved
loop-first-preserved c =
    hole-step (permission_in c.args.self.now) c.args.count c.loop-first.first c.loop-first.invariant
    (c.loop-first.first + c.args.count) c.in-Some.number refl c.loop-first-test.true (sym c.in-Some.ensures)

pub returns-in-None : goal.returns-in-None
returns-in-None c =
    hole-found (permission_in c.args.self.now) c.args.count c.loop-first.first c.loop-first.invariant
    (c.loop-first.first + c.args.count) c.requires.some refl c.loop-first-test.true (sym c.in-None.ensures)

pub returns : goal.returns
returns c =
    hole-none (permission_in c.args.self.now) c.args.count c.loop-first.first c.loop-first.invariant
    (c.loop-first.first + c.args.count) refl (omega arith)

pub loop-first-init : goal.loop-first-init
loop-first-init c = hole-start (permission_in c.args.self.now) c.args.count c.args.free c.requires.some c.requires.from c.requires.end c.requires.filled
