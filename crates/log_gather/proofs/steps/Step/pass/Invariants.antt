use Rattle.std.proofs.Common.{◌≡◌, ◌++◌, map, take, drop}
use Rattle.log_gather.specs.Accesses.{bytes_in}
use Rattle.log_gather.specs.Located.{lost_to_bytes}
use Rattle.log_gather.proofs.steps.Step.pass.Given as goal

abbrev pub invariant-loop-reservation : goal.invariant-loop-reservation
invariant-loop-reservation l =
    take l.reservation-index l.reserved ++ map (lost_to_bytes (bytes_in l.self.access.entered)) (drop l.reservation-index l.reserved)
    ≡ map (lost_to_bytes (bytes_in l.self.access.entered)) l.initial.reserved
