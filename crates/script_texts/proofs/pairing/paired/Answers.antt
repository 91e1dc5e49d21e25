use Rattle.std.proofs.Common.{◌∙◌}
use Rattle.std.proofs.lemmas.Result.{IfErr-weaker, IfOk-weaker}
use Rattle.command_words.specs.Kept.{pair_said}
use Rattle.outside.proofs.Rises.{none_falls-then}
use Rattle.taken_files.proofs.Causes.{passed_up}
use Rattle.script_texts.proofs.PairCauses.{both_taken, first_untaken, played_whole, script_unread, second_untaken, unplayed_pair}
use Rattle.script_texts.proofs.pairing.paired.Goals as goal

pub returns-in_err-one-clause-cause : goal.returns-in_err-one-clause-cause
returns-in_err-one-clause-cause g c =
    passed_up c.from_residual.result c.in_err-one.field-0.0 _ c.from_residual.ensures.1
    (first_untaken (g.S.Shelf.file c.args.shelf.now) (pair_said c.args.asked.now) (g.S.Shelf.faults c.args.shelf.now)
    (g.S.Shelf.faults c.taken_as.new.shelf) (g.S.Shelf.last_trouble c.taken_as.new.shelf) c.in_err-one.field-0.0
    c.in_err-one.ensures.cause)

pub returns-in_err-two-clause-cause : goal.returns-in_err-two-clause-cause
returns-in_err-two-clause-cause g c =
    passed_up c.from_residual-in_err-two.result c.in_err-two.field-0.0 _ c.from_residual-in_err-two.ensures.1
    (second_untaken (g.S.Shelf.file c.args.shelf.now) (g.S.Shelf.file c.taken_as.new.shelf) (pair_said c.args.asked.now)
    c.in_ok-one.one (g.S.Shelf.faults c.args.shelf.now) (g.S.Shelf.faults c.taken_as.new.shelf)
    (g.S.Shelf.faults c.taken_as-2.new.shelf) (g.S.Shelf.last_trouble c.taken_as-2.new.shelf) c.taken_as.ensures.files
    c.in_ok-one.ensures.taken c.taken_as.ensures.counts c.taken_as-2.ensures.counts c.in_err-two.field-0.0
    c.in_err-two.ensures.cause)

pub returns-in_err-lines-clause-cause : goal.returns-in_err-lines-clause-cause
returns-in_err-lines-clause-cause g c =
    passed_up c.from_residual-in_err-lines.result c.in_err-lines.field-0.0 _ c.from_residual-in_err-lines.ensures.1
    (script_unread (g.S.Shelf.file c.args.shelf.now) (g.S.Shelf.file c.taken_as-2.new.shelf) (pair_said c.args.asked.now)
    c.in_ok-one.one c.in_ok-two.two (g.S.Shelf.faults c.args.shelf.now) (g.S.Shelf.faults c.taken_as-2.new.shelf)
    (g.S.Shelf.faults c.read_file.new.shelf) (g.S.Shelf.last_trouble c.read_file.new.shelf)
    (c.taken_as-2.ensures.files ∙ c.taken_as.ensures.files)
    (both_taken (g.S.Shelf.file c.args.shelf.now) (g.S.Shelf.file c.taken_as.new.shelf) (pair_said c.args.asked.now)
    c.in_ok-one.one c.in_ok-two.two c.taken_as.ensures.files c.in_ok-one.ensures.taken c.in_ok-two.ensures.taken)
    (none_falls-then (g.S.Shelf.faults c.args.shelf.now) (g.S.Shelf.faults c.taken_as.new.shelf)
    (g.S.Shelf.faults c.taken_as-2.new.shelf) c.taken_as.ensures.counts c.taken_as-2.ensures.counts)
    c.read_file.ensures.counts c.in_err-lines.field-0.0 c.in_err-lines.ensures.cause)

pub returns-clause-cause : goal.returns-clause-cause
returns-clause-cause g c =
    IfErr-weaker c.play_pair.result _ _
    (λ reason. unplayed_pair (g.S.Shelf.file c.args.shelf.now) (g.S.Shelf.file c.taken_as-2.new.shelf) (pair_said c.args.asked.now)
    c.in_ok-one.one c.in_ok-two.two c.in_ok-lines.lines.items c.deref.result.now (g.S.Shelf.faults c.args.shelf.now)
    (g.S.Shelf.faults c.read_file.new.shelf) (g.S.Shelf.last_trouble c.read_file.new.shelf) reason (c.taken_as-2.ensures.files ∙ c.taken_as.ensures.files)
    c.deref.ensures.value
    (both_taken (g.S.Shelf.file c.args.shelf.now) (g.S.Shelf.file c.taken_as.new.shelf) (pair_said c.args.asked.now)
    c.in_ok-one.one c.in_ok-two.two c.taken_as.ensures.files c.in_ok-one.ensures.taken c.in_ok-two.ensures.taken)
    (record { read = c.in_ok-lines.ensures.read; fits = c.in_ok-lines.ensures.fits }))
    c.play_pair.ensures.cause

pub returns-clause-run : goal.returns-clause-run
returns-clause-run g c =
    IfOk-weaker c.play_pair.result _ _
    (λ v. played_whole (g.S.Shelf.file c.args.shelf.now) (g.S.Shelf.file c.taken_as-2.new.shelf)
    (pair_said c.args.asked.now) c.in_ok-one.one c.in_ok-two.two c.in_ok-lines.lines.items c.deref.result.now v
    (c.taken_as-2.ensures.files ∙ c.taken_as.ensures.files) c.deref.ensures.value
    (both_taken (g.S.Shelf.file c.args.shelf.now) (g.S.Shelf.file c.taken_as.new.shelf) (pair_said c.args.asked.now)
    c.in_ok-one.one c.in_ok-two.two c.taken_as.ensures.files c.in_ok-one.ensures.taken c.in_ok-two.ensures.taken)
    (record { read = c.in_ok-lines.ensures.read; fits = c.in_ok-lines.ensures.fits }))
    c.play_pair.ensures.whole
