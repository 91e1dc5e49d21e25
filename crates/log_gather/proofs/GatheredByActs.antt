-- The gathered log is the one by the acts of each log as it then stands.
use Rattle.std.proofs.Common.{◌≡◌, ℕ, ◌+◌, ◌-◌, List, [], ◌∷◌, ◌++◌, length, take, drop, map, refl, sym, ap, ◌∙◌, subst, arith, Bool, true, false, not, cond, ◌&&◌, Option, append_assoc, length-append}
use Rattle.std.specs.List.{AllByRecursion, fold, list_all}
use Rattle.std.proofs.lemmas.Bool.{and_parts, false≢true}
use Rattle.mach_types.specs.declared.events.Entry.{Entry}
use Rattle.block_model.specs.Run.{IsBlockRun}
use Rattle.block_model.specs.Setting.{Setting}
use Rattle.block_view.specs.Acts.{acts_of}
use Rattle.block_view.specs.Counting.{is_ended, is_left}
use Rattle.block_view.specs.declared.forms.Act.{Act}
use Rattle.log_gather.specs.Gathered.{gather_named, gathered_act, gathered, gathered_if_there, is_private_act, span_of, nth_act}
use Rattle.log_gather.specs.LogEvents.{LogEvent, Name, entry_of, clashes_with_none, is_own, is_undisturbed, log_events, others_of, own_of, facts_of}
use Rattle.log_gather.specs.Spans.{after_act, after_from, before_act, begins_act, begins_own, gather_span, gathered_by_spans, gathered_if, gathered_in, has_moved_out, is_inside_at_place, is_inside_next, is_private, names_of, rest_of_act, span_from}
use Rattle.log_gather.specs.Facts.{first_place, place_after}
use Rattle.log_gather.proofs.NamedSequences.{names_by_acts}
use Rattle.log_gather.proofs.LeftSequences.{Plain, and_false, and_true}
use Rattle.log_gather.proofs.NumberedActs.{IsActOf, IsFound, found_in}
use Rattle.log_gather.proofs.NumberedActs.IsFound.{Nowhere, There}
use Rattle.log_gather.proofs.GatheredSequences.{before_from, gathers_one, span_after}
use Rattle.log_gather.proofs.Contiguous.{Begins, begins_from}

take_front : {A : Type 0} (xs ys : List A) → take (length xs) (xs ++ ys) ≡ xs
take_front [] ys = refl
take_front (x ∷ xs) ys = ap (λ l. x ∷ l) (take_front xs ys)

drop_front : {A : Type 0} (xs ys : List A) → drop (length xs) (xs ++ ys) ≡ ys
drop_front [] ys = refl
drop_front (x ∷ xs) ys = drop_front xs ys

-- where nothing disturbs a span, its own events are plain
own_plain : (h : ℕ) (ms : List LogEvent) → list_all (λ x. x.facts.plain) ms ≡ true → AllByRecursion (Plain h) ms
own_plain h [] is = tt
own_plain h (x ∷ ms) is =
    let p = and_parts x.facts.plain (list_all (λ x. x.facts.plain) ms) is in
    (λ own_is. p.0, own_plain h ms p.1)

-- an act that is found: its parts of all events
module _ (h : ℕ) (at_end : Bool) (before : List LogEvent) (z : LogEvent) (xs all : List LogEvent) (a : Act)
    (is : all ≡ before ++ ((z ∷ rest_of_act facts_of h xs) ++ after_act facts_of h xs)) (act : IsActOf h at_end (0 + length before) z xs a) where
  abbrev span : List LogEvent
  span = z ∷ rest_of_act facts_of h xs

  abbrev later : List LogEvent
  later = after_act facts_of h xs

  front : take (a.first - 1) all ≡ before
  front =
      let first : a.first - 1 ≡ length before = let f = act.first in omega arith in
      ap (λ n. take n all) first ∙ ap (take (length before)) is ∙ take_front before (span ++ later)

  pub act_span : z.facts.begins ≡ true → span_of a all ≡ span
  act_span begins =
      let first : a.first - 1 ≡ length before = let f = act.first in omega arith in
      let count : a.last + 1 - a.first ≡ length span = let f = act.first in let l = act.last begins in omega arith in
      ap (λ n. take n (drop (a.first - 1) all)) count ∙ ap (λ n. take (length span) (drop n all)) first
      ∙ ap (λ l. take (length span) (drop (length before) l)) is ∙ ap (take (length span)) (drop_front before (span ++ later)) ∙ take_front span later

  back : z.facts.begins ≡ true → drop a.last all ≡ later
  back begins =
      let total : a.last ≡ length (before ++ span) = let l = act.last begins in omega (arith, length-append before span) in
      ap (λ n. drop n all) total ∙ ap (drop (length (before ++ span))) (is ∙ sym (append_assoc before span later)) ∙ drop_front (before ++ span) later

  undisturbed_same : z.facts.begins ≡ true → is_undisturbed a.hart.0 (span_of a all) ≡ is_undisturbed h span
  undisturbed_same begins = ap (λ k. is_undisturbed k (span_of a all)) act.hart ∙ ap (is_undisturbed h) (act_span begins)

  -- whether it is private
  pub act_private : is_own h z ≡ true → is_private h at_end span later ≡ is_private_act all a
  act_private own = by_first (z.facts.begins) refl
    where
      by_test : (u : Bool) → is_undisturbed h span ≡ u → z.facts.begins ≡ true → is_private h at_end span later ≡ is_private_act all a
      by_test true undisturbed begins =
          let plain = own_plain h span (and_parts (list_all (λ x. x.facts.plain) span) (list_all (clashes_with_none (others_of h span)) (own_of h span)) undisturbed).0 in
          let left = act.left begins (plain.0 own) plain.1 in
          let end = is_ended is_left a.form in
          ap (λ b. b && (has_moved_out h span && (not (is_inside_next h at_end later) && is_undisturbed h span))) begins
          ∙ ap (λ u. has_moved_out h span && (not (is_inside_next h at_end later) && u)) undisturbed
          ∙ ap (λ b. has_moved_out h span && b) (and_true (not (is_inside_next h at_end later)))
          ∙ sym left ∙ sym (and_true end) ∙ ap (λ u. end && u) (sym (undisturbed_same begins ∙ undisturbed))
      by_test false undisturbed begins =
          let end = is_ended is_left a.form in
          ap (λ b. b && (has_moved_out h span && (not (is_inside_next h at_end later) && is_undisturbed h span))) begins
          ∙ ap (λ u. has_moved_out h span && (not (is_inside_next h at_end later) && u)) undisturbed
          ∙ ap (λ b. has_moved_out h span && b) (and_false (not (is_inside_next h at_end later))) ∙ and_false (has_moved_out h span)
          ∙ sym (and_false end) ∙ ap (λ u. end && u) (sym (undisturbed_same begins ∙ undisturbed))

      by_first : (b : Bool) → z.facts.begins ≡ b → is_private h at_end span later ≡ is_private_act all a
      by_first false begins =
          ap (λ b. b && (has_moved_out h span && (not (is_inside_next h at_end later) && is_undisturbed h span))) begins
          ∙ sym (ap (λ b. b && is_undisturbed a.hart.0 (span_of a all)) (act.other begins))
      by_first true begins = by_test (is_undisturbed h span) refl begins

  abbrev moved : List LogEvent
  moved = take (a.first - 1) all ++ ((others_of a.hart.0 (span_of a all) ++ own_of a.hart.0 (span_of a all)) ++ drop a.last all)

  pub act_gathers : is_own h z ≡ true → before ++ (gathered_if (is_private h at_end span later) h span ++ later) ≡ gathered_act all a
  act_gathers own = ap (λ b. before ++ (gathered_if b h span ++ later)) (act_private own) ∙ either (z.facts.begins) refl (is_private_act all a) refl
    where
      made : z.facts.begins ≡ true → moved ≡ before ++ ((others_of h span ++ own_of h span) ++ later)
      made begins =
          ap (λ l. l ++ ((others_of a.hart.0 (span_of a all) ++ own_of a.hart.0 (span_of a all)) ++ drop a.last all)) front
          ∙ ap (λ k. before ++ ((others_of k (span_of a all) ++ own_of k (span_of a all)) ++ drop a.last all)) act.hart
          ∙ ap (λ ms. before ++ ((others_of h ms ++ own_of h ms) ++ drop a.last all)) (act_span begins)
          ∙ ap (λ l. before ++ ((others_of h span ++ own_of h span) ++ l)) (back begins)

      either : (b : Bool) → z.facts.begins ≡ b → (p : Bool) → is_private_act all a ≡ p → before ++ (gathered_if (is_private_act all a) h span ++ later) ≡ gathered_act all a
      either b begins false private = ap (λ p. before ++ (gathered_if p h span ++ later)) private ∙ sym is ∙ sym (ap (λ p. cond p moved all) private)
      either true begins true private = ap (λ p. before ++ (gathered_if p h span ++ later)) private ∙ sym (made begins) ∙ sym (ap (λ p. cond p moved all) private)
      either false begins true private = absurd (false≢true (sym (ap (λ b. b && is_undisturbed a.hart.0 (span_of a all)) (act.other begins)) ∙ private))

-- ONE SEQUENCE

one_by_act : (s : Setting) (log : List Entry) (x : Name) → IsBlockRun s log → gather_span s log x ≡ gather_named s log x
unfolding gather_span gather_named
one_by_act s log x run =
    let h = x.hart in
    let n = x.number in
    let all = log_events s (first_place s) log in
    let at_end = is_inside_at_place s (place_after s log) h in
    ap (map entry_of) (by_found h n at_end all (nth_act h n (acts_of s log)) (found_in s log h n run))
  where
    by_found : (h n : ℕ) (at_end : Bool) (all : List LogEvent) (o : Option Act) → IsFound h n at_end 0 all o → gathered_in at_end (record { hart = h; number = n }) all ≡ gathered_if_there all o
    by_found h n at_end all o (Nowhere from is) =
        let before = before_act facts_of h n all in
        ap (λ f. before ++ (gathered_if (is_private h at_end (span_from facts_of h f) (after_from facts_of h f)) h (span_from facts_of h f) ++ after_from facts_of h f)) from
        ∙ ap (λ f. before ++ f) (sym from) ∙ before_from facts_of h n all
        ∙ sym (ap (gathered_if_there all) is)
    by_found h n at_end all o (There z xs a from is act) =
        let before = before_act facts_of h n all in
        let parts : all ≡ before ++ ((z ∷ rest_of_act facts_of h xs) ++ after_act facts_of h xs) =
        sym (ap (λ l. before ++ l) (span_after facts_of h (z ∷ xs) ∙ sym from) ∙ before_from facts_of h n all) in
        let begins : begins_own h z.facts ≡ true = subst (Begins facts_of h) from (begins_from facts_of h n all) in
        ap (λ f. before ++ (gathered_if (is_private h at_end (span_from facts_of h f) (after_from facts_of h f)) h (span_from facts_of h f) ++ after_from facts_of h f)) from
        ∙ act_gathers h at_end before z xs all a parts act (and_parts (is_own h z) (begins_act z.facts) begins).0
        ∙ sym (ap (gathered_if_there all) is)

-- THE WHOLE LOG

pub all_by_acts : (s : Setting) (names : List Name) (log : List Entry) → IsBlockRun s log → fold (gather_span s) log names ≡ fold (gather_named s) log names
all_by_acts s [] log run = refl
all_by_acts s (x ∷ names) log run =
    all_by_acts s names (gather_span s log x) (gathers_one s log x run).good.block_run ∙ ap (λ l. fold (gather_named s) l names) (one_by_act s log x run)

pub gathered_is_by_acts : (s : Setting) (log : List Entry) → IsBlockRun s log → gathered_by_spans s log ≡ gathered s log
unfolding gathered_by_spans gathered
gathered_is_by_acts s log run =
    all_by_acts s (names_of s log) log run ∙ ap (fold (gather_named s) log) (names_by_acts s log run)
