use Rattle.std.proofs.Common.{rules, ◌≡◌, ◌&&◌, ◌||◌, cond, false, sym, ap, ◌∙◌}
use Rattle.mach_types.specs.Kernel.PairBarriers.{is_concerned}
use Rattle.mach_types.specs.Kernel.Scheduling.{has_hart}
use Rattle.membarrier_cmds.proofs.HartSets.{has_hart-if, has_hart-joined, has_hart-none}
use Rattle.membarrier_cmds.proofs.two_processes.concerned.Goals as goal

pub returns-in-Global : goal.returns-in-Global
returns-in-Global c h =
    let own = has_hart c.args.mine_running h in
    let others = has_hart c.args.other_running h in
    has_hart-joined c.args.mine_running c.args.other_running h
    ∙ sym (ap (λ k. is_concerned k c.args.mine.now c.args.other.now own others) c.in-Global.is)

pub returns-in-GlobalExpedited : goal.returns-in-GlobalExpedited
returns-in-GlobalExpedited c h =
    let own = has_hart c.args.mine_running h in
    let others = has_hart c.args.other_running h in
    has_hart-joined c.harts_if.result c.harts_if-in-GlobalExpedited.result h
    ∙ ap (λ set. has_hart set h || has_hart c.harts_if-in-GlobalExpedited.result h) c.harts_if.ensures
    ∙ ap (λ set. has_hart (cond c.args.mine.now.global c.args.mine_running 0) h || has_hart set h) c.harts_if-in-GlobalExpedited.ensures
    ∙ ap (λ b. b || has_hart (cond c.args.other.now.global c.args.other_running 0) h) (has_hart-if c.args.mine.now.global c.args.mine_running h)
    ∙ ap (λ b. c.args.mine.now.global && own || b) (has_hart-if c.args.other.now.global c.args.other_running h)
    ∙ sym (ap (λ k. is_concerned k c.args.mine.now c.args.other.now own others) c.in-GlobalExpedited.is)

pub returns-in-Query : goal.returns-in-Query
returns-in-Query c h =
    let own = has_hart c.args.mine_running h in
    let others = has_hart c.args.other_running h in
    let none : is_concerned c.args.command c.args.mine.now c.args.other.now own others ≡ false = search rules in
    has_hart-none h ∙ sym none
