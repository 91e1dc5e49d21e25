-- The entries of the gathered log are found from what was seen of the given log.
use Rattle.std.proofs.Common.{◌≡◌, ℕ, ◌+◌, List, [], ◌∷◌, map, refl, sym, ap, ◌∙◌, false, cond, eqb, ◌&&◌, get_or}
use Rattle.std.proofs.Math.Path.{fun_ext}
use Rattle.std.specs.List.{fold}
use Rattle.mach_types.specs.declared.events.Entry.{Entry}
use Rattle.block_model.specs.Setting.{Setting}
use Rattle.block_view.specs.Acts.{acts_of}
use Rattle.log_gather.specs.declared.marks.Details.{Details}
use Rattle.log_gather.specs.declared.marks.Mark.{Mark}
use Rattle.log_gather.specs.declared.passing.Passage.{Passage}
use Rattle.log_gather.specs.declared.steps.Step.{Step}
use Rattle.log_gather.specs.Facts.{first_place}
use Rattle.log_gather.specs.Gathered.{IsGathered, names_in}
use Rattle.log_gather.specs.Located.{at_end, entry_in, event_in, gather_located}
use Rattle.log_gather.specs.LogEvents.{Name}
use Rattle.log_gather.specs.Marks.{entry_marked, steps_of}
use Rattle.log_gather.specs.Passing.{IsPassage}
use Rattle.log_gather.specs.Spans.{begins_act, names_from}
use Rattle.log_gather.specs.Steps.{AllAwait, facts_seen, located_of, names_awaited}
use Rattle.log_gather.proofs.GatheredByActs.{gathered_is_by_acts}
use Rattle.log_gather.proofs.LocatedEvents.{events_located, gathered_by_located}
use Rattle.log_gather.proofs.NamedSequences.{names_by_acts}

-- the sequences that await their turn are those of the log
awaited : (acts : ℕ → ℕ) (xs : List Step) → AllAwait xs → names_awaited acts xs ≡ names_from acts (map event_in (map located_of xs))
awaited acts [] all = refl
awaited acts (x ∷ xs) all =
    let h = x.entry.hart.0 in
    let next = λ (k : ℕ). cond (eqb h k && begins_act (facts_seen x)) (acts k + 1) (acts k) in
    let name : Name = record { hart = h; number = acts h } in
    ap (λ l. cond x.awaits (name ∷ l) l) (awaited next xs all.1)
    ∙ ap (λ b. cond b (name ∷ names_from next (map event_in (map located_of xs))) (names_from next (map event_in (map located_of xs)))) all.0

entries_seen : (xs : List Step) → map (λ x. x.entry) xs ≡ map entry_in (map located_of xs)
entries_seen [] = refl
entries_seen (x ∷ xs) = ap (λ l. x.entry ∷ l) (entries_seen xs)

-- so what becomes of them, sequence by sequence, is the gathered log
pub is_gathered : (s : Setting) (log : List Entry) (x : Passage) (ys : List Step) (entries : List Entry) → IsPassage s log x
    → map located_of ys
    ≡ fold (gather_located (λ k. get_or x.inside_at_end k false)) (map located_of (steps_of x.details x.marks.items)) (names_awaited (λ k. 0) (steps_of x.details x.marks.items))
    → entries ≡ map (λ y. y.entry) ys → IsGathered s log entries
is_gathered s log x ys entries seen made is =
    let given = steps_of x.details x.marks.items in
    let steps = map located_of given in
    let names : names_awaited (λ k. 0) given ≡ names_in (λ k. 0) (acts_of s log) =
    awaited (λ k. 0) given seen.awaits
    ∙ ap (λ l. names_from (λ k. 0) (map event_in l)) seen.steps
    ∙ ap (names_from (λ k. 0)) (events_located s (first_place s) log)
    ∙ names_by_acts s log seen.block_run in
    record {
      block_run = seen.block_run;
      entries_are = is
          ∙ entries_seen ys
          ∙ ap (map entry_in) made
          ∙ ap (λ f. map entry_in (fold (gather_located f) steps (names_awaited (λ k. 0) given))) (fun_ext seen.inside)
          ∙ ap (λ l. map entry_in (fold (gather_located (at_end s log)) steps l)) names
          ∙ ap (λ l. map entry_in (fold (gather_located (at_end s log)) l (names_in (λ k. 0) (acts_of s log)))) seen.steps
          ∙ sym (sym (gathered_is_by_acts s log seen.block_run) ∙ gathered_by_located s log seen.block_run);
    }

pub entries_marked : (d : Details) (ms : List Mark) → map entry_marked ms ≡ map (λ y. y.entry) (steps_of d ms)
entries_marked d [] = refl
entries_marked d (m ∷ ms) = ap (λ l. entry_marked m ∷ l) (entries_marked d ms)
