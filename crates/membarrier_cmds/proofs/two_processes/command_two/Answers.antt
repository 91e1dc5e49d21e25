use Rattle.std.proofs.Common.{◌≡◌, ℕ, ℤ, Some, sym, ap, ◌∙◌, of_z, to_z, w32}
use Rattle.std.specs.Option.{option_map_or}
use Rattle.std.proofs.Math.Facts.{to_z-of_z}
use Rattle.mach_types.specs.Kernel.Barriers.{asked, refusal, targets}
use Rattle.mach_types.specs.Kernel.PairBarriers.{answer_beside, concerned, is_concerned}
use Rattle.mach_types.specs.Kernel.Scheduling.{has_hart}
use Rattle.mach_types.specs.declared.barriers.BarrierCommand.{BarrierCommand}
use Rattle.mach_types.specs.declared.errors.TheConstants.{EINVAL}
use Rattle.membarrier_cmds.proofs.HartSets.{targets-same}
use Rattle.membarrier_cmds.proofs.two_processes.command_two.Goals as goal

pub returns-clause-answer : goal.returns-clause-answer
returns-clause-answer c =
    let mine = c.args.mine.now in
    let other = c.args.other.now in
    let flags = c.args.flags in
    let harts = c.args.harts in
    let own = c.args.mine_running in
    let others = c.args.other_running in
    let command = c.in-Some.command in
    let cmd_is : to_z w32 (of_z w32 c.args.cmd) ≡ c.args.cmd = to_z-of_z c.ranges.cmd in
    let cpu_is : to_z w32 (of_z w32 c.args.cpu) ≡ c.args.cpu = to_z-of_z c.ranges.cpu in
    let is_asked : asked c.args.cmd flags ≡ Some command =
    ap (λ (z : ℤ). asked z flags) (sym cmd_is) ∙ sym c.asked.ensures ∙ c.in-Some.is in
    let is_about = λ (h : ℕ). is_concerned command mine other (has_hart own h) (has_hart others h) in
    let same = targets-same is_about c.concerned-about.result c.concerned-about.ensures flags c.args.cpu c.args.here.0 harts in
    let targets_are = c.targets-targets.ensures ∙ ap (λ (z : ℤ). targets flags z c.args.here.0 c.concerned-about.result harts) cpu_is ∙ same in
    c.answer_beside-answer.ensures
    ∙ ap (λ set. answer_beside mine set command) targets_are
    ∙ sym
    (ap
    (λ o. option_map_or
    (λ (k : BarrierCommand). answer_beside mine (targets flags c.args.cpu c.args.here.0 (concerned k mine other own others harts) harts) k)
    o
    (refusal EINVAL))
    is_asked)
