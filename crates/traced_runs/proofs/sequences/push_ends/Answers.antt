use Rattle.block_view.specs.declared.forms.Act.{Act}
use Rattle.block_view.specs.declared.forms.Form.TheVariants.{Step}
use Rattle.trace_text.specs.Traces.{ends_line}
use Rattle.place_text.proofs.Lists.{index_step}
use Rattle.traced_runs.proofs.sequences.push_ends.Goals as goal

-- the default of an act that is read
abbrev no_act : Act
no_act = record { hart = record { 0 = 0 }; first = 0; last = 0; tid = record { 0 = 0 }; form = Step }

pub loop-act-preserved : goal.loop-act-preserved
loop-act-preserved c =
    index_step ends_line c.args.text.now.items c.loop-act.text.items c.push_end.new.text.items c.args.acts.now c.loop-act.act-index no_act c.loop-act-test.true
    c.loop-act.invariant c.in_ok-push_end.ensures
