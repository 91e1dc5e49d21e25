use Rattle.command_words.specs.Kept.{run_said, shown_said, source_said}
use Rattle.program_runs.proofs.Wholes.{block_run_at_end, shown_by_workers}
use Rattle.taken_files.proofs.ScriptRuns.{output_of_run}
use Rattle.program_runs.proofs.runs.workers_run_text.Goals as goal

pub shown_text-requires-clause-run : goal.shown_text-requires-clause-run
shown_text-requires-clause-run g c =
    let run = c.args.run.now in
    block_run_at_end (g.S.Shelf.file c.args.shelf.now) run.program.now (source_said run.source) run.limits
    c.in_ok-made.made.image c.in_ok-made.made.machine c.in_ok-made.ensures.run

pub returns-clause-output : goal.returns-clause-output
returns-clause-output g c =
    output_of_run (g.S.Shelf.file c.args.shelf.now) (run_said c.args.run.now) c.in_ok-made.made.image
    c.in_ok-made.made.machine c.in_ok-shown_text.field-0 c.in_ok-made.ensures.run c.in_ok-shown_text.ensures

pub shown_text-requires-clause-shown : goal.shown_text-requires-clause-shown
shown_text-requires-clause-shown g c =
    let run = c.args.run.now in
    shown_by_workers (source_said run.source) (shown_said run.shown) c.requires.workers c.requires.shown
