use Rattle.std.proofs.Common.{◌≡◌, ◌++◌, List, length-append, true, false, sym, subst, arith}
use Rattle.mach_types.specs.declared.events.Entry.{Entry}
unfoldable use Rattle.block_model.specs.Plain.{plain_after}
use Rattle.place_search.specs.Searching.{setting_for, ways_of}
use Rattle.place_search.specs.SettlingSteps.{HasMore, IsStandingAt}
use Rattle.place_search.proofs.MoreSteps.{going_on, settles_at, standing_more, step_more, step_of}
use Rattle.place_search.proofs.remade.Remade.settle_once.Goals as goal

pub returns-clause-there : goal.returns-clause-there
returns-clause-there c =
    let task = c.args.task.now in
    let s = setting_for task in
    let log = c.args.log.now in
    let entries = c.args.entries.now.items in
    let size = length-append log entries in
    let there = c.requires.there in
    let at = going_on s task.signals log entries c.args.self.now.code c.args.owed c.args.self.now.parts c.args.hart.0 there c.requires.task.in_range c.requires.code c.if-is_some.ensures (omega arith) c.requires.hart in
    let on : task.settle ≡ true = cc in
    let may = settles_at s (log ++ entries) c.args.self.now.parts c.args.hart.0 there.run there.stands c.requires.hart
    (λ tied. sym (c.if-not-is_settling.ensures s _ tied c.requires.hart c.requires.code)) c.settling_threads_rest.ensures in
    let longer = c.in-Ok.ensures.ok s (log ++ entries) at in
    let step = step_of s (ways_of task) (log ++ entries) c.args.hart.0 c.in-Ok.entry c.try_choice.new.parts c.args.owed on there.set c.if-has_hart.ensures c.requires.hart may
    (c.in-Ok.ensures.carried s (log ++ entries) at) longer in
    subst (λ (all : List Entry). IsStandingAt s task.signals log all c.args.owed c.try_choice.new.parts) (sym c.in_ok-push.ensures.items)
    (standing_more s (ways_of task) log entries c.args.hart.0 c.in-Ok.entry c.args.self.now.parts c.try_choice.new.parts c.args.owed c.requires.task.in_range.most_steps there step longer)

pub returns-clause-more : goal.returns-clause-more
returns-clause-more c =
    let task = c.args.task.now in
    let s = setting_for task in
    let log = c.args.log.now in
    let entries = c.args.entries.now.items in
    let size = length-append log entries in
    let there = c.requires.there in
    let at = going_on s task.signals log entries c.args.self.now.code c.args.owed c.args.self.now.parts c.args.hart.0 there c.requires.task.in_range c.requires.code c.if-is_some.ensures (omega arith) c.requires.hart in
    let on : task.settle ≡ true = cc in
    let may = settles_at s (log ++ entries) c.args.self.now.parts c.args.hart.0 there.run there.stands c.requires.hart
    (λ tied. sym (c.if-not-is_settling.ensures s _ tied c.requires.hart c.requires.code)) c.settling_threads_rest.ensures in
    let longer = c.in-Ok.ensures.ok s (log ++ entries) at in
    subst (λ (all : List Entry). HasMore s (ways_of task) log entries all) (sym c.in_ok-push.ensures.items)
    (step_more s (ways_of task) log entries c.in-Ok.entry
    (step_of s (ways_of task) (log ++ entries) c.args.hart.0 c.in-Ok.entry c.try_choice.new.parts c.args.owed on there.set c.if-has_hart.ensures c.requires.hart may
    (c.in-Ok.ensures.carried s (log ++ entries) at) longer))
