use Rattle.std.specs.Option.{ForSome}
use Rattle.machine_lock.specs.Turnstiles.{origin_of, start_of}
use Rattle.hart_workers.specs.Growth.{Grew}
use Rattle.hart_workers.proofs.turns.drive_one.Given as goal

abbrev pub invariant-loop : goal.invariant-loop
invariant-loop g l =
    Grew g.M.Meaning.setting g.M.Meaning.log g.M.Meaning.next (origin_of l.fn.lock) l.initial.pass l.pass
    × ForSome l.stretch (λ x. g.M.Chronicle.fits x (start_of l.fn.lock) l.hart l.pass.seen)
