use Rattle.std.proofs.Common.{◌∙◌, List, Some, sym, arith}
use Rattle.mach_types.specs.declared.user_memory.Write.{Write}
use Rattle.mach_types.specs.declared.user_memory.Write.TheVariants.{Stored}
use Rattle.event_facts.specs.Reservations.{lost_facts}
use Rattle.event_facts.proofs.KernelLosses.{left_at, taken_at}
use Rattle.event_facts.proofs.Lists.{at_end}
use Rattle.event_facts.proofs.kept_reservations.first_lost.Goals as goal

-- the default of an item that is read
abbrev nothing : Write
nothing = Stored (record { at = 0; size = 0; value = 0 })

pub loop-write-preserved : goal.loop-write-preserved
loop-write-preserved c =
    left_at c.args.hart.0 c.args.start c.args.writes.now c.loop-write.write-index nothing _ c.loop-write-test.true (sym c.taken_by.ensures ∙ c.in_default.is)
    c.loop-write.invariant

pub returns : goal.returns
returns c =
    at_end (λ (xs : List Write). lost_facts c.args.hart.0 (Some c.args.start) xs) c.args.writes.now c.loop-write.write-index _ (omega arith)
    c.loop-write.invariant

pub returns-in-Some : goal.returns-in-Some
returns-in-Some c =
    taken_at c.args.hart.0 c.args.start c.args.writes.now c.loop-write.write-index c.in-Some.by nothing _ c.loop-write-test.true
    (sym c.taken_by.ensures ∙ c.in-Some.is) c.loop-write.invariant
