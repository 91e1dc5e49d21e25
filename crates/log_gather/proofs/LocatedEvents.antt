-- The gathered log is computed from its events with what every hart has reserved before each of them.
use Rattle.std.proofs.Common.{◌≡◌, ℕ, zero, suc, List, [], ◌∷◌, ◌++◌, map, refl, sym, ap, ◌∙◌, subst, append_assoc, Bool, true, false, not, cond}
use Rattle.std.proofs.Math.Path.{fun_ext}
use Rattle.std.specs.List.{AllByRecursion, fold, list_all}
use Rattle.std.proofs.lemmas.Bool.{and_parts}
use Rattle.mach_types.specs.declared.events.Entry.{Entry}
use Rattle.block_model.proofs.Laws.{run_before, same_state}
use Rattle.block_model.proofs.Swaps.Logs.{seen}
use Rattle.block_model.specs.Here.{runs}
use Rattle.block_model.specs.Plain.{here_in_plain, plain_after}
use Rattle.block_model.specs.Run.{IsBlockRun}
use Rattle.block_model.specs.Setting.{Setting}
use Rattle.block_view.specs.Acts.{acts_of}
use Rattle.log_gather.specs.Gathered.{names_in}
use Rattle.log_gather.specs.Facts.{Facts, Place, facts_along, facts_at, first_place, inside_on, is_of, next_place, other_entries, own_entries, place_after, place_from}
use Rattle.log_gather.specs.Located.{Located, at_end, entry_in, event_in, facts_in, gather_located, gathered_by_events, located, located_from, moved_if, moved_in, others_in, own_in}
use Rattle.log_gather.specs.LogEvents.{Name, clashes_with_none, entry_of, facts_of, is_own, is_undisturbed, log_events, others_of, own_of}
use Rattle.log_gather.specs.Spans.{after_act, after_from, before_act, begins_own, from_act, gather_span, gathered_by_spans, gathered_if, gathered_in, goes_on, has_moved_out, is_inside_at_place, is_inside_next, is_private, is_sequence, names_of, rest_of_act, span_from}
use Rattle.log_gather.proofs.Gatherable.{IsGatherable, other_facts, own_facts}
use Rattle.log_gather.proofs.GatheredSequences.{all_kept, all_map, all_tested, at_first, before_from, facts_along-append, filter_map, gatherable, gathers_one, map_append, place_from-append, span_after, undisturbed_if}
use Rattle.log_gather.proofs.GatheredSpans.{machine_after, span_gathers}
use Rattle.log_gather.proofs.NamedSequences.{names_by_acts}
use Rattle.log_gather.proofs.Reservations.{reserved_is}

-- THE PARTS OF A LIST BY AN ACT

module _ {A B : Type 0} (f : A → Facts) (g : B → A) where
  abbrev fg : B → Facts
  fg y = f (g y)

  goes_map : (h : ℕ) (ys : List B) → goes_on f h (map g ys) ≡ goes_on fg h ys
  goes_map h [] = refl
  goes_map h (y ∷ ys) = ap (cond (is_of h (fg y).entry) _) (goes_map h ys)

  pub before_map : (h n : ℕ) (ys : List B) → before_act f h n (map g ys) ≡ map g (before_act fg h n ys)
  before_map h n [] = refl
  before_map h zero (y ∷ ys) = go (begins_own h (fg y)) (before_map h zero ys)
    where
      go : (b : Bool) → before_act f h zero (map g ys) ≡ map g (before_act fg h zero ys) → cond b [] (g y ∷ before_act f h zero (map g ys)) ≡ map g (cond b [] (y ∷ before_act fg h zero ys))
      go true rest = refl
      go false rest = ap (λ l. g y ∷ l) rest
  before_map h (suc n) (y ∷ ys) = ap (λ l. g y ∷ l) (go (begins_own h (fg y)) (before_map h n ys) (before_map h (suc n) ys))
    where
      go : (b : Bool) → before_act f h n (map g ys) ≡ map g (before_act fg h n ys) → before_act f h (suc n) (map g ys) ≡ map g (before_act fg h (suc n) ys)
          → cond b (before_act f h n (map g ys)) (before_act f h (suc n) (map g ys)) ≡ map g (cond b (before_act fg h n ys) (before_act fg h (suc n) ys))
      go true one other = one
      go false one other = other

  pub from_map : (h n : ℕ) (ys : List B) → from_act f h n (map g ys) ≡ map g (from_act fg h n ys)
  from_map h n [] = refl
  from_map h zero (y ∷ ys) = go (begins_own h (fg y)) (from_map h zero ys)
    where
      go : (b : Bool) → from_act f h zero (map g ys) ≡ map g (from_act fg h zero ys) → cond b (g y ∷ map g ys) (from_act f h zero (map g ys)) ≡ map g (cond b (y ∷ ys) (from_act fg h zero ys))
      go true rest = refl
      go false rest = rest
  from_map h (suc n) (y ∷ ys) = go (begins_own h (fg y)) (from_map h n ys) (from_map h (suc n) ys)
    where
      go : (b : Bool) → from_act f h n (map g ys) ≡ map g (from_act fg h n ys) → from_act f h (suc n) (map g ys) ≡ map g (from_act fg h (suc n) ys)
          → cond b (from_act f h n (map g ys)) (from_act f h (suc n) (map g ys)) ≡ map g (cond b (from_act fg h n ys) (from_act fg h (suc n) ys))
      go true one other = one
      go false one other = other

  rest_map : (h : ℕ) (ys : List B) → rest_of_act f h (map g ys) ≡ map g (rest_of_act fg h ys)
  rest_map h [] = refl
  rest_map h (y ∷ ys) = ap (λ b. cond b (g y ∷ rest_of_act f h (map g ys)) []) (goes_map h (y ∷ ys)) ∙ go (goes_on fg h (y ∷ ys)) (rest_map h ys)
    where
      go : (b : Bool) → rest_of_act f h (map g ys) ≡ map g (rest_of_act fg h ys) → cond b (g y ∷ rest_of_act f h (map g ys)) [] ≡ map g (cond b (y ∷ rest_of_act fg h ys) [])
      go true rest = ap (λ l. g y ∷ l) rest
      go false rest = refl

  after_map : (h : ℕ) (ys : List B) → after_act f h (map g ys) ≡ map g (after_act fg h ys)
  after_map h [] = refl
  after_map h (y ∷ ys) = ap (λ b. cond b (after_act f h (map g ys)) (g y ∷ map g ys)) (goes_map h (y ∷ ys)) ∙ go (goes_on fg h (y ∷ ys)) (after_map h ys)
    where
      go : (b : Bool) → after_act f h (map g ys) ≡ map g (after_act fg h ys) → cond b (after_act f h (map g ys)) (g y ∷ map g ys) ≡ map g (cond b (after_act fg h ys) (y ∷ ys))
      go true rest = rest
      go false rest = refl

  pub span_map : (h : ℕ) (ys : List B) → span_from f h (map g ys) ≡ map g (span_from fg h ys)
  span_map h [] = refl
  span_map h (y ∷ ys) = ap (λ l. g y ∷ l) (rest_map h ys)

  pub later_map : (h : ℕ) (ys : List B) → after_from f h (map g ys) ≡ map g (after_from fg h ys)
  later_map h [] = refl
  later_map h (y ∷ ys) = after_map h ys

-- EVENTS

pub events_located : (s : Setting) (p : Place) (log : List Entry) → map event_in (located s p log) ≡ log_events s p log
events_located s p [] = refl
events_located s p (e ∷ log) = ap (λ l. event_in (record { facts = facts_at s p e; reserved = p.machine.reserved }) ∷ l) (events_located s (next_place s p e) log)

pub entries_located : (s : Setting) (p : Place) (log : List Entry) → map entry_in (located s p log) ≡ log
entries_located s p [] = refl
entries_located s p (e ∷ log) = ap (λ l. e ∷ l) (entries_located s (next_place s p e) log)

facts_located : (s : Setting) (p : Place) (log : List Entry) → map facts_in (located s p log) ≡ facts_along s p log
facts_located s p [] = refl
facts_located s p (e ∷ log) = ap (λ l. facts_at s p e ∷ l) (facts_located s (next_place s p e) log)

pub located-append : (s : Setting) (p : Place) (xs ys : List Entry) → located s p (xs ++ ys) ≡ located s p xs ++ located s (place_from s p xs) ys
located-append s p [] ys = refl
located-append s p (x ∷ xs) ys = ap (λ l. record { facts = facts_at s p x; reserved = p.machine.reserved } ∷ l) (located-append s (next_place s p x) xs ys)

-- what is reserved is found from what was reserved before the first, where all events are plain
located_anew : (s : Setting) (p : Place) (log : List Entry) → AllByRecursion (λ (t : Facts). t.plain ≡ true) (facts_along s p log) → located s p log ≡ located_from p.machine.reserved (facts_along s p log)
located_anew s p [] plain = refl
located_anew s p (e ∷ log) plain =
    ap (λ l. record { facts = facts_at s p e; reserved = p.machine.reserved } ∷ l)
    (located_anew s (next_place s p e) log plain.1 ∙ ap (λ r. located_from r (facts_along s (next_place s p e) log)) (reserved_is s p e plain.0))

moved_anew : (s : Setting) (p : Place) (h : ℕ) (log : List Entry)
    → moved_in h (located s p log) ≡ located_from p.machine.reserved (map facts_in (others_in h (located s p log) ++ own_in h (located s p log)))
moved_anew s p h [] = refl
moved_anew s p h (e ∷ log) = refl

-- two parts of a list
pub record IsSplit (s : Setting) (p : Place) (log : List Entry) (xs ys : List Located) : Type 0 where
  pub entries : log ≡ map entry_in xs ++ map entry_in ys
  pub first : located s p (map entry_in xs) ≡ xs
  pub rest : located s (place_from s p (map entry_in xs)) (map entry_in ys) ≡ ys

split : (s : Setting) (p : Place) (log : List Entry) (xs ys : List Located) → located s p log ≡ xs ++ ys → IsSplit s p log xs ys
split s p log [] ys is =
    let entries : log ≡ map entry_in ys = sym (entries_located s p log) ∙ ap (map entry_in) is in
    record { entries = entries; first = refl; rest = ap (located s p) (sym entries) ∙ is }
split s p [] (x ∷ xs) ys is = absurd cc
split s p (e ∷ log) (x ∷ xs) ys is =
    let here : Located = record { facts = facts_at s p e; reserved = p.machine.reserved } in
    let head : here ≡ x = cc in
    let tail : located s (next_place s p e) log ≡ xs ++ ys = cc in
    let more = split s (next_place s p e) log xs ys tail in
    let one : IsSplit s p (e ∷ log) (here ∷ xs) ys = record {
      entries = ap (λ l. e ∷ l) more.entries;
      first = ap (λ l. here ∷ l) more.first;
      rest = more.rest;
    } in
    subst (λ x. IsSplit s p (e ∷ log) (x ∷ xs) ys) head one

-- what holds of all that are mapped, and of two lists
all_mapped : {A B : Type 0} (P : B → Type 0) (f : A → B) (xs : List A) → AllByRecursion P (map f xs) → AllByRecursion (λ x. P (f x)) xs
all_mapped P f [] all = tt
all_mapped P f (x ∷ xs) all = (all.0, all_mapped P f xs all.1)

all_append : {A : Type 0} (P : A → Type 0) (xs ys : List A) → AllByRecursion P xs → AllByRecursion P ys → AllByRecursion P (xs ++ ys)
all_append P [] ys p q = q
all_append P (x ∷ xs) ys p q = (p.0, all_append P xs ys p.1 q)

-- ONE SEQUENCE

own_events : (h : ℕ) (span : List Located) → own_of h (map event_in span) ≡ map event_in (own_in h span)
own_events h span = filter_map event_in (is_own h) span

other_events : (h : ℕ) (span : List Located) → others_of h (map event_in span) ≡ map event_in (others_in h span)
other_events h span = filter_map event_in (λ x. not (is_own h x)) span

facts_of_events : (span : List Located) → map facts_of (map event_in span) ≡ map facts_in span
facts_of_events [] = refl
facts_of_events (x ∷ span) = ap (λ l. x.facts ∷ l) (facts_of_events span)

entries_of_events : (span : List Located) → map entry_of (map event_in span) ≡ map entry_in span
entries_of_events [] = refl
entries_of_events (x ∷ span) = ap (λ l. x.facts.entry ∷ l) (entries_of_events span)

-- the entries of a log in which a span was moved, or left
abbrev entries_moved : Bool → ℕ → List Located → List Located → List Located → List Entry
entries_moved private h before span later =
    map entry_in before ++ (cond private (map entry_in (others_in h span) ++ map entry_in (own_in h span)) (map entry_in span) ++ map entry_in later)

moved : (s : Setting) (log : List Entry) (h : ℕ) (before span later : List Located) → IsBlockRun s log → located s (first_place s) log ≡ before ++ (span ++ later)
    → is_undisturbed h (map event_in span) ≡ true
    → located s (first_place s) (entries_moved true h before span later) ≡ before ++ (moved_in h span ++ later)
moved s log h before span later run is undisturbed =
    let start = first_place s in
    let one = split s start log before (span ++ later) is in
    let earlier = map entry_in before in
    let p = place_from s start earlier in
    let two = split s p (map entry_in (span ++ later)) span later one.rest in
    let ms = map entry_in span in
    let ls = map entry_in later in
    let os = other_entries h ms in
    let own = own_entries h ms in
    let is_log : log ≡ (earlier ++ ms) ++ ls = one.entries ∙ ap (λ l. earlier ++ l) two.entries ∙ sym (append_assoc earlier ms ls) in
    let run_span = run_before s (earlier ++ ms) ls (subst (λ (l : List Entry). IsBlockRun s l) is_log run) in
    let facts_are : facts_along s p ms ≡ map facts_in span = sym (facts_located s p ms) ∙ ap (map facts_in) two.first in
    let may : IsGatherable h (facts_along s p ms) = subst (IsGatherable h) (facts_of_events span ∙ sym facts_are) (gatherable h (map event_in span) undisturbed) in
    let g = span_gathers s earlier p h ms (at_first s earlier) run_span may in
    let others_are : map entry_in (others_in h span) ≡ os = sym (filter_map entry_in (λ e. not (is_of h e)) span) in
    let own_are : map entry_in (own_in h span) ≡ own = sym (filter_map entry_in (is_of h) span) in
    let other_facts_are : other_facts h (facts_along s p ms) ≡ map facts_in (others_in h span) = ap (other_facts h) facts_are ∙ filter_map facts_in (λ t. not (is_of h t.entry)) span in
    let own_facts_are : own_facts h (facts_along s p ms) ≡ map facts_in (own_in h span) = ap (own_facts h) facts_are ∙ filter_map facts_in (λ t. is_of h t.entry) span in
    let facts_moved : facts_along s p (os ++ own) ≡ map facts_in (others_in h span ++ own_in h span) =
    facts_along-append s p os own ∙ ap (λ l. l ++ facts_along s (place_from s p os) own) (g.others_are ∙ other_facts_are)
    ∙ ap (λ l. map facts_in (others_in h span) ++ l) (g.own_are ∙ own_facts_are) ∙ sym (map_append facts_in (others_in h span) (own_in h span)) in
    let tested = and_parts (list_all (λ x. x.facts.plain) (map event_in span)) (list_all (clashes_with_none (others_of h (map event_in span))) (own_of h (map event_in span))) undisturbed in
    let plain = all_mapped (λ x. x.facts.plain ≡ true) event_in span (all_tested (λ x. x.facts.plain) (map event_in span) tested.0) in
    let plain_moved = all_map (λ (t : Facts). t.plain ≡ true) facts_in (others_in h span ++ own_in h span)
    (all_append (λ x. x.facts.plain ≡ true) (others_in h span) (own_in h span) (all_kept _ (λ x. not (is_of h x.facts.entry)) span plain) (all_kept _ (λ x. is_of h x.facts.entry) span plain)) in
    let span_moved : located s p (os ++ own) ≡ moved_in h span =
    located_anew s p (os ++ own) (subst (AllByRecursion (λ (t : Facts). t.plain ≡ true)) (sym facts_moved) plain_moved) ∙ ap (located_from p.machine.reserved) facts_moved
    ∙ ap (λ l. located_from p.machine.reserved (map facts_in (others_in h l ++ own_in h l))) (sym two.first)
    ∙ sym (moved_anew s p h ms) ∙ ap (moved_in h) two.first in
    let later_stays : located s (place_from s p (os ++ own)) ls ≡ later =
    ap (λ q. located s q ls) (place_from-append s p os own ∙ g.same) ∙ two.rest in
    ap (λ l. located s start (earlier ++ (l ++ ls))) (ap (λ l. l ++ map entry_in (own_in h span)) others_are ∙ ap (λ l. os ++ l) own_are)
    ∙ located-append s start earlier ((os ++ own) ++ ls)
    ∙ ap (λ l. l ++ located s p ((os ++ own) ++ ls)) one.first
    ∙ ap (λ l. before ++ l) (located-append s p (os ++ own) ls ∙ ap (λ l. l ++ located s (place_from s p (os ++ own)) ls) span_moved ∙ ap (λ l. moved_in h span ++ l) later_stays)

moved_or_left : (s : Setting) (log : List Entry) (h : ℕ) (before span later : List Located) (b : Bool) → IsBlockRun s log → located s (first_place s) log ≡ before ++ (span ++ later)
    → (b ≡ true → is_undisturbed h (map event_in span) ≡ true)
    → located s (first_place s) (entries_moved b h before span later) ≡ before ++ (moved_if b h span ++ later)
moved_or_left s log h before span later true run is may = moved s log h before span later run is (may refl)
moved_or_left s log h before span later false run is may =
    let same : entries_moved false h before span later ≡ log =
    ap (λ l. map entry_in before ++ l) (sym (map_append entry_in span later)) ∙ sym (map_append entry_in before (span ++ later)) ∙ ap (map entry_in) (sym is) ∙ entries_located s (first_place s) log in
    ap (located s (first_place s)) same ∙ is

-- the entries of the log as it is gathered
gathered_entries : (h : ℕ) (b : Bool) (before span later : List Located)
    → map entry_of (map event_in before ++ (gathered_if b h (map event_in span) ++ map event_in later)) ≡ entries_moved b h before span later
gathered_entries h b before span later =
    map_append entry_of (map event_in before) (gathered_if b h (map event_in span) ++ map event_in later)
    ∙ ap (λ l. l ++ map entry_of (gathered_if b h (map event_in span) ++ map event_in later)) (entries_of_events before)
    ∙ ap (λ l. map entry_in before ++ l) (map_append entry_of (gathered_if b h (map event_in span)) (map event_in later) ∙ ap (λ l. map entry_of (gathered_if b h (map event_in span)) ++ l) (entries_of_events later)
    ∙ ap (λ l. l ++ map entry_in later) (go b))
  where
    go : (b : Bool) → map entry_of (gathered_if b h (map event_in span)) ≡ cond b (map entry_in (others_in h span) ++ map entry_in (own_in h span)) (map entry_in span)
    go true =
        map_append entry_of (others_of h (map event_in span)) (own_of h (map event_in span))
        ∙ ap (λ l. map entry_of l ++ map entry_of (own_of h (map event_in span))) (other_events h span)
        ∙ ap (λ l. map entry_of (map event_in (others_in h span)) ++ map entry_of l) (own_events h span)
        ∙ ap (λ l. l ++ map entry_of (map event_in (own_in h span))) (entries_of_events (others_in h span))
        ∙ ap (λ l. map entry_in (others_in h span) ++ l) (entries_of_events (own_in h span))
    go false = entries_of_events span

pub located_next : (s : Setting) (log : List Entry) (x : Name) → IsBlockRun s log
    → located s (first_place s) (gather_span s log x) ≡ gather_located (at_end s log) (located s (first_place s) log) x
unfolding gather_span
located_next s log x run =
    let h = x.hart in
    let all = located s (first_place s) log in
    let before = before_act facts_in h x.number all in
    let from = from_act facts_in h x.number all in
    let span = span_from facts_in h from in
    let later = after_from facts_in h from in
    let inside = is_inside_at_place s (place_after s log) h in
    let b = is_private h inside (map event_in span) (map event_in later) in
    let is : all ≡ before ++ (span ++ later) = sym (ap (λ l. before ++ l) (span_after facts_in h from) ∙ before_from facts_in h x.number all) in
    let span_is : span_from facts_of h (from_act facts_of h x.number (map event_in all)) ≡ map event_in span =
    ap (span_from facts_of h) (from_map facts_of event_in h x.number all) ∙ span_map facts_of event_in h from in
    let later_is : after_from facts_of h (from_act facts_of h x.number (map event_in all)) ≡ map event_in later =
    ap (after_from facts_of h) (from_map facts_of event_in h x.number all) ∙ later_map facts_of event_in h from in
    let entries : map entry_of (gathered_in inside x (log_events s (first_place s) log)) ≡ entries_moved b h before span later =
    ap (λ l. map entry_of (gathered_in inside x l)) (sym (events_located s (first_place s) log))
    ∙ ap (λ l. map entry_of (l ++ (gathered_if (is_private h inside (span_from facts_of h (from_act facts_of h x.number (map event_in all))) (after_from facts_of h (from_act facts_of h x.number (map event_in all)))) h (span_from facts_of h (from_act facts_of h x.number (map event_in all))) ++ after_from facts_of h (from_act facts_of h x.number (map event_in all))))) (before_map facts_of event_in h x.number all)
    ∙ ap (λ l. map entry_of (map event_in before ++ (gathered_if (is_private h inside l (after_from facts_of h (from_act facts_of h x.number (map event_in all)))) h l ++ after_from facts_of h (from_act facts_of h x.number (map event_in all))))) span_is
    ∙ ap (λ l. map entry_of (map event_in before ++ (gathered_if (is_private h inside (map event_in span) l) h (map event_in span) ++ l))) later_is
    ∙ gathered_entries h b before span later in
    ap (located s (first_place s)) entries
    ∙ moved_or_left s log h before span later b run is
    (undisturbed_if (is_sequence (map event_in span)) (has_moved_out h (map event_in span)) (not (is_inside_next h inside (map event_in later))) (is_undisturbed h (map event_in span)))

-- THE WHOLE LOG

end_same : (s : Setting) (a b : List Entry) (h : ℕ) → plain_after s a ≡ plain_after s b → at_end s a h ≡ at_end s b h
end_same s a b h same = ap (λ m. let here = here_in_plain s m h in inside_on here (runs here)) (machine_after s a ∙ same ∙ sym (machine_after s b))

same_after : (s : Setting) (log : List Entry) (x : Name) → IsBlockRun s log → plain_after s (gather_span s log x) ≡ plain_after s log
same_after s log x run =
    let good = (gathers_one s log x run).good in
    same_state (seen s (gather_span s log x)) good.block_run ∙ good.same ∙ sym (same_state (seen s log) run)

located_all : (s : Setting) (names : List Name) (log : List Entry) (inside : ℕ → Bool) → IsBlockRun s log → at_end s log ≡ inside
    → located s (first_place s) (fold (gather_span s) log names) ≡ fold (gather_located inside) (located s (first_place s) log) names
located_all s [] log inside run is = refl
located_all s (x ∷ names) log inside run is =
    located_all s names (gather_span s log x) inside (gathers_one s log x run).good.block_run (fun_ext (λ h. end_same s (gather_span s log x) log h (same_after s log x run)) ∙ is)
    ∙ ap (λ l. fold (gather_located inside) l names) (located_next s log x run ∙ ap (λ i. gather_located i (located s (first_place s) log) x) is)

-- the names are those by the acts
pub gathered_by_located : (s : Setting) (log : List Entry) → IsBlockRun s log
    → gathered_by_spans s log ≡ gathered_by_events (at_end s log) (names_in (λ k. 0) (acts_of s log)) (located s (first_place s) log)
unfolding gathered_by_spans
gathered_by_located s log run =
    sym (entries_located s (first_place s) (fold (gather_span s) log (names_of s log))) ∙ ap (map entry_in) (located_all s (names_of s log) log (at_end s log) run refl)
    ∙ ap (λ names. gathered_by_events (at_end s log) names (located s (first_place s) log)) (names_by_acts s log run)
