use Rattle.std.proofs.Common.{◌≡◌, ◌-◌, ◌∙◌, Some, ap, arith, refl, sym}
use Rattle.std.proofs.lemmas.Bool.{le-leb}
use Rattle.mach_types.specs.Kernel.Pages.{PageRun, pages_of, run}
use Rattle.mach_types.specs.Kernel.PageCalls.{break_run}
use Rattle.page_map.specs.Map.{break_in, held_in, held_over}
use Rattle.page_map.proofs.Runs.{over-held}
use Rattle.page_map.proofs.map.PageMap.move_break.Goals as goal

pub returns-then-break_at-at-clause-held : goal.returns-then-break_at-at-clause-held
returns-then-break_at-at-clause-held c may a =
    let now = c.args.self.now in
    let grows : break_run (break_in now) c.args.at ≡ run (pages_of (break_in now)) (pages_of c.args.at - pages_of (break_in now)) (Some 6) =
    rw (le-leb (break_in now) c.args.at (omega (arith, c.break_at-2.ensures))) refl in
    over-held now c.grow_break.new.self (run (pages_of (break_in now)) (pages_of c.args.at - pages_of (break_in now)) (Some 6)) c.grow_break.ensures.pages a
    ∙ ap (λ (r : PageRun). held_over r (held_in now) a) (sym grows)
