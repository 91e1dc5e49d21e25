use Rattle.std.proofs.Common.{◌≡◌, ◌+◌, ◌∙◌, subst}
use Rattle.mach_types.specs.declared.events.Advance.TheVariants.{Made}
use Rattle.machine_lock.specs.Logs.{Advances}
use Rattle.hart_workers.proofs.GrowthLemmas.{adds_made}
use Rattle.hart_workers.proofs.turns.go_on.Goals as goal

pub loop-preserved : goal.loop-preserved
loop-preserved g c =
    let old = c.args.machine.now in
    let now = c.loop.machine in
    let new = c.advance.new.self in
    let s = g.M.Meaning.setting old in
    let same : g.M.Meaning.setting now ≡ s = c.loop.invariant.0 in
    let made = subst (λ (s : g.M.Meaning.Setting). Advances (g.M.Meaning.next s) (g.M.Meaning.ended s) c.args.hart (g.M.Meaning.log now) (g.M.Meaning.log new) (Made c.in-Made.field-0)) same c.in-Made.ensures.advanced in (
      c.advance.ensures.setting ∙ same,
      c.loop.invariant.1 + 1,
      adds_made (g.M.Meaning.next s) (g.M.Meaning.ended s) c.args.hart c.loop.invariant.1 (g.M.Meaning.log old) (g.M.Meaning.log now) (g.M.Meaning.log new) c.in-Made.field-0 c.loop.invariant.2 made,
    )
