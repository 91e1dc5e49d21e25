use Rattle.command_words.specs.Kept.{pair_said}
use Rattle.script_texts.proofs.PairCauses.{output_of_pair, range_at_end, run_at_end}
use Rattle.script_texts.proofs.pairing.pair_text.Goals as goal

pub pair_output-requires-clause-limits : goal.pair_output-requires-clause-limits
pair_output-requires-clause-limits g c =
    range_at_end (g.S.Shelf.file c.args.shelf.now) (pair_said c.args.asked.now) c.in_ok-pair.pair c.requires
    c.in_ok-pair.ensures.run

pub pair_output-requires-clause-run : goal.pair_output-requires-clause-run
pair_output-requires-clause-run g c =
    run_at_end (g.S.Shelf.file c.args.shelf.now) (pair_said c.args.asked.now) c.in_ok-pair.pair c.in_ok-pair.ensures.run

pub returns-clause-output : goal.returns-clause-output
returns-clause-output g c =
    output_of_pair (g.S.Shelf.file c.args.shelf.now) (pair_said c.args.asked.now) c.in_ok-pair.pair c.in_ok-pair_output.field-0
    c.in_ok-pair.ensures.run c.in_ok-pair_output.ensures
