use Rattle.std.proofs.Common.{◌≡◌, ◌*◌, ◌/◌, ◌∙◌, ℕ, Some, ap, arith}
use Rattle.mach_types.specs.Kernel.Pages.{can_execute, run}
use Rattle.page_map.specs.Map.{Map, held_in, held_over, page_in, page_over, permission_in}
use Rattle.page_map.proofs.Runs.{can_lie-high, hole-fits, over-code, over-held, prot-no-code, run-in, unmapped-page}
use Rattle.page_map.proofs.map.PageMap.map.Goals as goal

pub map_zeros-requires-clause-end : goal.map_zeros-requires-clause-end
map_zeros-requires-clause-end c =
    let fits = hole-fits (permission_in c.args.self.now) c.pages_of-count.result c.in-Some.first c.in-Some.ensures.hole in
    let high = fits.high in
    omega arith

pub map_zeros-requires-clause-unmapped : goal.map_zeros-requires-clause-unmapped
map_zeros-requires-clause-unmapped c n from to =
    let fits = hole-fits (permission_in c.args.self.now) c.pages_of-count.result c.in-Some.first c.in-Some.ensures.hole in
    ap (λ (m : Map). page_in m n) c.in-Some.ensures.same ∙ unmapped-page c.args.self.now n (fits.none n from to)

pub map_zeros-requires-clause-numbers : goal.map_zeros-requires-clause-numbers
map_zeros-requires-clause-numbers c n from to =
    let fits = hole-fits (permission_in c.args.self.now) c.pages_of-count.result c.in-Some.first c.in-Some.ensures.hole in
    let low = fits.low in
    let high = fits.high in
    can_lie-high _ _ n c.permission_for.result (omega arith) (omega arith)

pub overflow_mul-result : goal.overflow_mul-result
overflow_mul-result c =
    let fits = hole-fits (permission_in c.args.self.now) c.pages_of-count.result c.in-Some.first c.in-Some.ensures.hole in
    let high = fits.high in
    omega arith

pub returns-in-Some-clause-held : goal.returns-in-Some-clause-held
returns-in-Some-clause-held c a =
    let place : c.in-Some.first ≡ c.in-Some.first * 4096 / 4096 = omega arith in
    over-held c.lowest_hole.new.self c.map_zeros.new.self (run c.in-Some.first c.pages_of-count.result (Some c.permission_for.result)) c.map_zeros.ensures.pages a
    ∙ (λ i. held_over (run (place i) (c.pages_of-count.ensures i) (Some (c.permission_for.ensures i))) (held_in (c.in-Some.ensures.same i)) a)

pub returns-in-Some-clause-code : goal.returns-in-Some-clause-code
returns-in-Some-clause-code c =
    let fits = hole-fits (permission_in c.args.self.now) c.pages_of-count.result c.in-Some.first c.in-Some.ensures.hole in
    over-code c.args.self.now c.map_zeros.new.self (run c.in-Some.first c.pages_of-count.result (Some c.permission_for.result))
    (λ n. c.map_zeros.ensures.pages n ∙ ap (λ (m : Map). page_over (run c.in-Some.first c.pages_of-count.result (Some c.permission_for.result)) (page_in m) n) c.in-Some.ensures.same)
    (ap (λ (p : ℕ). can_execute (Some p)) c.permission_for.ensures ∙ prot-no-code c.args.perm)
    (λ n inside. let both = run-in c.in-Some.first c.pages_of-count.result n (Some c.permission_for.result) inside in ap can_execute (fits.none n both.0 both.1))

pub returns-in-Some-clause-ends : goal.returns-in-Some-clause-ends
returns-in-Some-clause-ends c =
    let fits = hole-fits (permission_in c.args.self.now) c.pages_of-count.result c.in-Some.first c.in-Some.ensures.hole in
    let high = fits.high in
    omega arith
