use Rattle.mach_types.specs.Events.{own_choices}
use Rattle.mach_types.specs.declared.events.Choice.{Choice}
use Rattle.block_model.specs.Deciding.{decide}
use Rattle.place_text.specs.Choices.{choice_line}
use Rattle.place_text.specs.Seen.{past_of}
use Rattle.place_text.proofs.Lists.{index_step}
use Rattle.place_text.proofs.choices.push_own_choices.Goals as goal

pub loop-choice-preserved : goal.loop-choice-preserved
loop-choice-preserved c =
    let v = c.args.machine.now in
    let line = λ (choice : Choice). choice_line c.args.hart.0 choice (decide v.setting (past_of v) c.args.hart.0 choice) in
    index_step line _ _ _ own_choices c.loop-choice.choice-index _ c.loop-choice-test.true c.loop-choice.invariant c.in_ok-push_choice.ensures
