use Rattle.std.proofs.Common.{rules, ◌∙◌}
use Rattle.std.proofs.lemmas.List.Sorted.{answers_always}
use Rattle.kernel_threads.specs.declared.rows.Row.{Row}
use Rattle.mach_types.proofs.Places.{searched_place}
use Rattle.kernel_threads.proofs.rows.place_of.Goals as goal

-- the closure gives a row's number
pub returns : goal.returns
returns c =
    let facts = c.binary_search_by_key.ensures in
    let by_number = facts.position (λ (row : Row). row.number) (answers_always _ _ _ (λ f a r g called. search rules)) in
    c.ok.ensures.value ∙ searched_place (λ (row : Row). row.number) c.args.rows.now c.requires c.args.number c.binary_search_by_key.result facts.bound by_number
