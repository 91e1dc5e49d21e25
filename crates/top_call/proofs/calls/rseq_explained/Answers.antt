-- Where the words are a `run`, shelf and sink are as they were when its work begins.
use Rattle.std.proofs.Common.{◌≡◌, ap, subst, ◌∙◌}
use Rattle.outside.specs.Counts.{NeverFalls, NoneFalls}
use Rattle.outcomes.specs.Answers.{IsAnswerFor, IsToldFor}
use Rattle.outcomes.specs.Delivery.{IsAsDue, due_for}
use Rattle.command_words.specs.Kept.{said}
use Rattle.command_words.specs.Words.{texts}
use Rattle.told_answers.proofs.Explaining.{answer_for, due_is_told, explained_of}
use Rattle.top_call.proofs.calls.rseq_explained.Goals as goal

pub tell-requires : goal.tell-requires
tell-requires g c =
    due_is_told (g.S.Shelf.file c.quiet_explained.new.shelf) (texts c.args.words.now)
    (g.S.Shelf.faults c.quiet_explained.new.shelf) (g.S.Shelf.faults c.workers_text-answer.new.shelf)
    (g.S.Shelf.last_trouble c.workers_text-answer.new.shelf) c.workers_text-answer.result
    (answer_for (g.S.Shelf.file c.quiet_explained.new.shelf) (texts c.args.words.now)
    (g.S.Shelf.faults c.quiet_explained.new.shelf) (g.S.Shelf.faults c.workers_text-answer.new.shelf)
    (g.S.Shelf.last_trouble c.workers_text-answer.new.shelf) (said c.in-Err.command) c.workers_text-answer.result
    c.in-Err.ensures.left c.workers_text-answer.ensures.output c.workers_text-answer.ensures.cause)

pub returns-in-Err-clause-explained : goal.returns-in-Err-clause-explained
returns-in-Err-clause-explained g c =
    let shelf : c.quiet_explained.new.shelf ≡ c.args.shelf.now = c.in-Err.ensures.unused.0 in
    let sink : c.quiet_explained.new.sink ≡ c.args.sink.now = c.in-Err.ensures.unused.1 in
    let after = c.workers_text-answer.new.shelf in
    let told = c.tell.new.sink in
    let answer = c.workers_text-answer.result in
    explained_of _ _ answer c.tell.result
    (record {
      files = c.workers_text-answer.ensures.files ∙ ap g.S.Shelf.file shelf;
      shelf_counts =
          subst (λ x. NoneFalls (g.S.Shelf.faults x) (g.S.Shelf.faults after)) shelf c.workers_text-answer.ensures.counts;
      sink_counts =
          subst (λ x. NeverFalls (g.K.Sink.faults x) (g.K.Sink.faults told)) sink c.tell.ensures.counts;
    })
    (subst (λ x. IsAnswerFor (g.S.Shelf.file x) (texts c.args.words.now) (g.S.Shelf.faults x) (g.S.Shelf.faults after)
    (g.S.Shelf.last_trouble after) answer)
    shelf
    (answer_for (g.S.Shelf.file c.quiet_explained.new.shelf) (texts c.args.words.now)
    (g.S.Shelf.faults c.quiet_explained.new.shelf) (g.S.Shelf.faults after) (g.S.Shelf.last_trouble after)
    (said c.in-Err.command) answer c.in-Err.ensures.left c.workers_text-answer.ensures.output c.workers_text-answer.ensures.cause))
    (subst (λ x. IsToldFor (g.K.Sink.held x) (g.K.Sink.held told) (g.K.Sink.faults x) (g.K.Sink.faults told) answer
    c.tell.result.status) sink c.tell.ensures.told)
    (subst (λ x. IsAsDue (g.K.Sink.faults x) (g.K.Sink.faults told) (g.K.Sink.last_trouble told) (due_for answer) c.tell.result) sink
    c.tell.ensures.explained)
