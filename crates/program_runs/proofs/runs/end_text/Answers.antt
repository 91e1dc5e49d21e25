use Rattle.command_words.specs.Kept.{run_said, source_said}
use Rattle.program_runs.proofs.Wholes.{block_run_at_end}
use Rattle.taken_files.proofs.ScriptRuns.{output_of_run}
use Rattle.program_runs.proofs.runs.end_text.Goals as goal

pub shown_text-requires-clause-run : goal.shown_text-requires-clause-run
shown_text-requires-clause-run g c =
    let run = c.args.run.now in
    block_run_at_end (g.S.Shelf.file c.args.shelf.now) run.program.now (source_said run.source) run.limits
    c.in_ok-made.made.image c.in_ok-made.made.machine c.in_ok-made.ensures.run

pub returns-clause-output : goal.returns-clause-output
returns-clause-output g c =
    output_of_run (g.S.Shelf.file c.args.shelf.now) (run_said c.args.run.now) c.in_ok-made.made.image
    c.in_ok-made.made.machine c.in_ok-shown_text.field-0 c.in_ok-made.ensures.run c.in_ok-shown_text.ensures
