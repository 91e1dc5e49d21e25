-- A pair at boot is tied to its empty log.
use Rattle.shared_procs.proofs.Common.{PairSetting, program_in}
use Rattle.shared_procs.proofs.PairTies.{half_start, run_start, tied_start}
use Rattle.shared_procs.proofs.pair.Pair.boot.Goals as goal

pub invariant_of-result : goal.invariant_of-result
invariant_of-result c =
    let one = c.in_ok-one.one in
    let two = c.in_ok-two.two in
    let limits = c.args.limits in
    let s : PairSetting = record { first = program_in one; second = program_in two; limits = limits } in
    let first = half_start c.args.first.now limits (program_in one) one.parts c.in_ok-one.ensures.program c.in_ok-one.ensures.tied in
    let second = half_start c.args.second.now limits (program_in two) two.parts c.in_ok-two.ensures.program c.in_ok-two.ensures.tied in
    record {
      run = rw c.in_ok-log.ensures.items (run_start s);
      tied = rw c.in_ok-log.ensures.items (tied_start s one.parts two.parts c.in_ok-segment.segment first second c.in_ok-segment.ensures);
      limits = c.requires.limits;
      room = c.in_ok-log.ensures.capacity;
    }
