-- A visit to the place after an event.
use Rattle.std.proofs.Common.{◌≡◌, ℕ, ◌+◌, ◌≤◌, Some, List, [], ◌∷◌, ◌++◌, length, reverse, bytes_eq, Vec, Global, refl, sym, ap, ◌∙◌, subst, All, Contains, length-append}
use Rattle.std.specs.Map.{lookup}
use Rattle.std.proofs.lemmas.List.Elements.{All-push, All-weaker, Contains-push}
use Rattle.mach_types.specs.declared.events.Entry.{Entry}
use Rattle.block_model.specs.Setting.{Setting}
use Rattle.block_model.specs.Run.{IsBlockRun}
use Rattle.block_model.specs.Layouts.{IsLaidOut}
use Rattle.block_model.proofs.Laws.{within_limit}
use Rattle.process.specs.declared.parts.Parts.{Parts}
use Rattle.same_places.specs.Replayed.{StandAfter}
use Rattle.place_keys.specs.Packed.{packed}
use Rattle.place_keys.specs.PartWords.{parts_words}
use Rattle.found_outcomes.specs.Found.{IsEndFound}
use Rattle.search_reductions.specs.declared.signals.Signals.{Signals}
use Rattle.place_search.specs.Logs.{log_next, logs_of}
use Rattle.place_search.specs.Visiting.{AreEndsFound, HasVisited, IsKeyOf, IsMore, MayVisit}
use Rattle.place_search.specs.Visits.{IsAdded, IsNoted}
use Rattle.place_search.specs.declared.remade.Remade.{Remade}
use Rattle.place_search.specs.declared.row.Row.{Row}
use Rattle.place_search.specs.declared.visited.Visited.{Visited}
use Rattle.place_search.specs.declared.visiting.Reached.{Reached}
use Rattle.mach_types.specs.declared.events.Choice.{Choice}
use Rattle.settled_places.specs.Budgets.{spent}
use Rattle.place_search.specs.Preemptions.{ArePaid, kept_at}
use Rattle.place_search.proofs.Logs.{logs_length}
use Rattle.place_search.proofs.Preemptions.{kept_new, paid_push}
use Rattle.place_search.proofs.Visits.{added_has, added_more, end_at, end_stays, key_new, logs_added, more_more, noted_end, noted_has, noted_more}

abbrev pub row_of : Reached → ℕ → ℕ → Vec Entry Global → Row
row_of from n owed own = record { parent = from.place; entries = own; preemptions = n; owed = owed }

abbrev pub log_of : Reached → List Entry → List Entry
log_of from entries = from.log.items ++ entries

-- a key that is known leads back
pub known_back : (s : Setting) (signals : Signals) (v : Visited) (from : Reached) (entries : List Entry) (owed : ℕ) (made : Remade) (key : List ℕ) (number : ℕ) → MayVisit s signals v from entries owed made → key ≡ packed (owed ∷ parts_words made.start made.parts)
    → lookup (bytes_eq key) v.keys ≡ Some number → IsKeyOf s signals made.start (logs_of v.rows.items) (packed (owed ∷ parts_words made.start made.parts), number)
known_back s signals v from entries owed made key number may is known =
    subst (λ (k : List ℕ). IsKeyOf s signals made.start (logs_of v.rows.items) (k, number)) is (may.visited.keys key number known)

-- a place that is added
module _ (s : Setting) (signals : Signals) (v v1 : Visited) (from : Reached) (entries : List Entry) (owed : ℕ) (made : Remade) (key : List ℕ) (depth n : ℕ) (may : MayVisit s signals v from entries owed made) (key_is : key ≡ packed (owed ∷ parts_words made.start made.parts))
    (own : Vec Entry Global) (own_is : reverse own.items ≡ entries) (added : IsAdded (row_of from n owed own) key depth v v1) (depth_is : depth ≡ length from.log.items + length entries) where
  all_entries : depth ≡ length (log_of from entries)
  all_entries = depth_is ∙ sym (length-append from.log.items entries)

  next_is : log_next (logs_of v.rows.items) (row_of from n owed own) ≡ log_of from entries
  next_is = ap (λ (log : List Entry). log ++ reverse own.items) (sym may.log_is) ∙ ap (λ (es : List Entry). from.log.items ++ es) own_is

  short : length (log_of from entries) ≤ s.limits.steps
  short = within_limit s (log_of from entries) may.there.run

  pub next_has : HasVisited s signals made.start v1
  next_has =
      added_has s signals made.start v v1 (row_of from n owed own) key (log_of from entries) made.parts (subst (λ (d : ℕ). IsAdded (row_of from n owed own) key d v v1) all_entries added) may.visited may.place
      next_is short may.there.run may.there.spoken may.there.set may.there.stands (sym key_is)

  next_logs : logs_of v1.rows.items ≡ logs_of v.rows.items ++ log_of from entries ∷ []
  next_logs = logs_added v v1 (row_of from n owed own) key depth (log_of from entries) added next_is

  next_there : Contains (logs_of v1.rows.items) (log_of from entries)
  next_there = subst (λ (logs : List (List Entry)). Contains logs (log_of from entries)) (sym next_logs) (Contains-push (logs_of v.rows.items) (log_of from entries))

  -- what it costs
  pub next_paid : (cost : Choice → ℕ) (budget : ℕ) → spent cost (log_of from entries) ≡ n → n ≤ budget → ArePaid cost budget v.rows.items → ArePaid cost budget v1.rows.items
  next_paid cost budget is few paid =
      subst (ArePaid cost budget) (sym added.rows) (paid_push cost budget v.rows.items (row_of from n owed own) (sym is ∙ ap (spent cost) (sym next_is)) few paid)

  next_more : IsMore v v1
  next_more = added_more v v1 (row_of from n owed own) key depth added

  -- and whose end is noted
  module _ (v2 : Visited) (log : List Entry) (log_is : log ≡ log_of from entries) (noted : IsNoted made.parts.ended made.parts.kernel.console log v1 v2) where
    of_log : IsNoted made.parts.ended made.parts.kernel.console (log_of from entries) v1 v2
    of_log = subst (λ (l : List Entry). IsNoted made.parts.ended made.parts.kernel.console l v1 v2) log_is noted

    pub full_has : HasVisited s signals made.start v2
    full_has =
        noted_has s signals made.start v1 v2 (log_of from entries) made.parts.ended made.parts.kernel.console of_log next_has next_there
        (end_at s (log_of from entries) made.parts may.there.run may.there.stands)

    full_more : IsMore v v2
    full_more = more_more v v1 v2 next_more (noted_more v1 v2 (log_of from entries) made.parts.ended made.parts.kernel.console of_log)

    full_logs : logs_of v.rows.items ++ log_of from entries ∷ [] ≡ logs_of v2.rows.items
    full_logs = sym (ap (λ (rows : List Row). logs_of rows) noted.rows ∙ next_logs)

    pub full_back : (number : ℕ) → number ≡ length v.rows.items + 1 → IsKeyOf s signals made.start (logs_of v2.rows.items) (packed (owed ∷ parts_words made.start made.parts), number)
    full_back number is =
        subst (λ (logs : List (List Entry)). IsKeyOf s signals made.start logs (packed (owed ∷ parts_words made.start made.parts), number)) full_logs
        (key_new s signals made.start (logs_of v.rows.items) (log_of from entries) (packed (owed ∷ parts_words made.start made.parts)) number owed made.parts (is ∙ sym (logs_length v.rows.items)) may.there.set may.there.stands refl)

    pub full_ends : AreEndsFound s v → AreEndsFound s v2
    full_ends ends =
        subst (All (IsEndFound s v2.outcomes.items)) full_logs
        (All-push (IsEndFound s v2.outcomes.items) (logs_of v.rows.items) (log_of from entries)
        (All-weaker (IsEndFound s v.outcomes.items) (IsEndFound s v2.outcomes.items) (end_stays s v v2 full_more) (logs_of v.rows.items) ends)
        (noted_end s v1 v2 (log_of from entries) made.parts.ended made.parts.kernel.console of_log (end_at s (log_of from entries) made.parts may.there.run may.there.stands)))

    pub full_paid : (cost : Choice → ℕ) (budget : ℕ) → spent cost (log_of from entries) ≡ n → n ≤ budget → ArePaid cost budget v.rows.items → ArePaid cost budget v2.rows.items
    full_paid cost budget is few paid = subst (ArePaid cost budget) (sym noted.rows) (next_paid cost budget is few paid)

    pub full_kept : (number : ℕ) → number ≡ length v.rows.items + 1 → kept_at v2.rows.items number ≡ n
    full_kept number is = ap (λ (rows : List Row). kept_at rows number) (noted.rows ∙ added.rows) ∙ kept_new v.rows.items (row_of from n owed own) number is
