use Rattle.std.proofs.Common.{subst}
use Rattle.outcomes.specs.Answers.{IsToldFor}
use Rattle.command_words.specs.Words.{texts}
use Rattle.told_answers.proofs.Explaining.{due_is_told, explained_of}
use Rattle.top_call.proofs.calls.quiet_explained.Goals as goal

pub tell-requires : goal.tell-requires
tell-requires g c =
    due_is_told (g.S.Shelf.file c.args.shelf.now) (texts c.args.words.now) (g.S.Shelf.faults c.args.shelf.now)
    (g.S.Shelf.faults c.quiet_answer.new.shelf) (g.S.Shelf.last_trouble c.quiet_answer.new.shelf)
    c.in-Ok.answer c.in-Ok.ensures.answer

pub returns-in-Ok-clause-explained : goal.returns-in-Ok-clause-explained
returns-in-Ok-clause-explained g c =
    explained_of _ _ c.in-Ok.answer c.tell.result
    (record {
      files = c.quiet_answer.ensures.files;
      shelf_counts = c.quiet_answer.ensures.counts;
      sink_counts = c.tell.ensures.counts;
    })
    c.in-Ok.ensures.answer c.tell.ensures.told c.tell.ensures.explained

pub returns-in-Ok-clause-run : goal.returns-in-Ok-clause-run
returns-in-Ok-clause-run g c =
    λ is. subst (λ answer. IsToldFor (g.K.Sink.held c.args.sink.now) (g.K.Sink.held c.tell.new.sink)
    (g.K.Sink.faults c.args.sink.now) (g.K.Sink.faults c.tell.new.sink) answer c.tell.result.status)
    (c.in-Ok.ensures.run is) c.tell.ensures.told
