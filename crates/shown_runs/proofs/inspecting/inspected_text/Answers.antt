use Rattle.std.proofs.Common.{◌+◌, ◌^◌, ◌≤◌, List, ◌++◌, sym, ap, ◌∙◌, subst}
use Rattle.std.specs.List.{All}
use Rattle.block_model.specs.Deciding.{history}
use Rattle.command_words.specs.declared.spans.MemorySpan.{MemorySpan}
use Rattle.run_texts.specs.Places.{asked_place, spans_text}
use Rattle.place_text.specs.Place.{place_text}
use Rattle.shown_runs.proofs.inspecting.inspected_text.Goals as goal

pub push_spans-requires : goal.push_spans-requires
push_spans-requires c =
    subst (λ (xs : List MemorySpan). All (λ (span : MemorySpan). span.at + span.length ≤ 2 ^ 64) xs) (sym c.deref.ensures.value)
    c.in_ok-spans.ensures.end

pub returns : goal.returns
unfolding asked_place
returns c =
    let v = c.args.machine.now in
    let before = history v.setting v.log in
    let spans = c.deref.ensures.value ∙ c.in_ok-spans.ensures.spans in
    c.in_ok-push_spans.ensures ∙ ap (λ l. l ++ spans_text v.setting before c.deref.result.now) c.in_ok-text.ensures
    ∙ ap (λ (xs : List MemorySpan). place_text v.setting before ++ spans_text v.setting before xs) spans
