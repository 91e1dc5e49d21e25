use Rattle.std.proofs.Common.{◌≡◌, ◌==◌, ◌∙◌, Some, ap, Bool, true, position, sym, slice_index_or}
use Rattle.std.proofs.lemmas.Bool.{eqb-true}
use Rattle.std.proofs.lemmas.List.Quantifiers.{position-Some}
use Rattle.explored_runs.specs.declared.jobs.Batch.{Batch}
use Rattle.explored_runs.proofs.jobs.Job.take.Goals as goal

pub returns-clause-from : goal.returns-clause-from
returns-clause-from c =
    let begins : Batch → Bool = λ batch. batch.from == c.args.from in
    let batches = c.args.self.now.batches.items in
    let batch = c.swap_remove-batch.result in
    let at : position begins batches ≡ Some c.in_ok-place.place =
    ap (position begins) (sym c.deref.ensures.value) ∙ sym c.place_of.ensures ∙ c.in_ok-place.was in
    let passes : begins (slice_index_or batches c.in_ok-place.place batch) ≡ true =
    (position-Some begins batches c.in_ok-place.place batch at).1 in
    ap (λ (b : Batch). b.from) c.swap_remove-batch.ensures.value
    ∙ eqb-true (slice_index_or batches c.in_ok-place.place batch).from c.args.from passes
