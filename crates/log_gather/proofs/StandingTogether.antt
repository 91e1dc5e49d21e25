-- Each sequence that is private at its turn stands together in the gathered log, with its own entries alone, by the acts of these logs.
use Rattle.std.proofs.Common.{◌≡◌, ℕ, List, [], ◌∷◌, ◌++◌, map, refl, sym, ap, ◌∙◌, subst, Bool, true, false, cond, ◌&&◌, Option, Some}
use Rattle.std.specs.List.{fold, list_all}
use Rattle.std.proofs.lemmas.Bool.{and_from, and_parts, false≢true}
use Rattle.mach_types.specs.declared.events.Entry.{Entry}
use Rattle.block_model.specs.Run.{IsBlockRun}
use Rattle.block_model.specs.Setting.{Setting}
use Rattle.block_view.specs.Acts.{acts_of}
use Rattle.block_view.specs.declared.forms.Act.{Act}
use Rattle.log_gather.specs.Facts.{Facts, first_place, is_of, own_entries, place_after}
use Rattle.log_gather.specs.Gathered.{IsPrivate, StandsTogether, gather_named, gathered, is_private_act, names_in, nth_act, span_entries, span_of}
use Rattle.log_gather.specs.LogEvents.{LogEvent, Name, entry_of, facts_of, is_own, log_events, own_of}
use Rattle.log_gather.specs.Spans.{after_act, after_from, before_act, begins_act, begins_own, from_act, gather_span, gathered_by_spans, gathered_if, gathered_in, goes_on, is_inside_at_place, is_private, is_private_in, is_private_of, is_sequence, is_together_in, is_unbroken, is_unbroken_from, names_of, rest_of_act, span_from}
use Rattle.log_gather.proofs.Contiguous.{Begins, begins_from}
use Rattle.log_gather.proofs.ContiguousLogs.{all_together}
use Rattle.log_gather.proofs.GatheredByActs.{act_private, act_span, all_by_acts, gathered_is_by_acts}
use Rattle.log_gather.proofs.GatheredSequences.{before_from, filter_append, filter_map, gathers_all, gathers_one, log_events_facts, same_own, span_after}
use Rattle.log_gather.proofs.LocatedEvents.{from_map, span_map}
use Rattle.log_gather.proofs.NamedSequences.{names_by_acts}
use Rattle.log_gather.proofs.NumberedActs.{IsFound, found_in}
use Rattle.log_gather.proofs.NumberedActs.IsFound.{Nowhere, There}
use Rattle.log_gather.proofs.OwnEvents.{from_own, rest_own}

-- AN ACT STAYS A SEQUENCE

-- whether facts begin with those of the first event of a sequence
abbrev begins_first : List Facts → Bool
begins_first [] = false
begins_first (t ∷ ts) = t.begins

first_is : (ms : List LogEvent) → is_sequence ms ≡ begins_first (map facts_of ms)
first_is [] = refl
first_is (x ∷ ms) = refl

by_facts : (h n : ℕ) (ms : List LogEvent) → is_sequence (from_act facts_of h n ms) ≡ begins_first (from_act (λ (t : Facts). t) h n (map facts_of ms))
by_facts h n ms = first_is (from_act facts_of h n ms) ∙ ap begins_first (sym (from_map (λ (t : Facts). t) facts_of h n ms))

-- by the hart's own events alone
first_own : (h : ℕ) (from : List LogEvent) → Begins facts_of h from → is_sequence from ≡ is_sequence (own_of h from)
first_own h [] begins = refl
first_own h (z ∷ zs) begins =
    let own = (and_parts (is_own h z) (begins_act z.facts) begins).0 in
    sym (ap (λ b. is_sequence (cond b (z ∷ own_of h zs) (own_of h zs))) own)

by_own : (h n : ℕ) (ms : List LogEvent) → is_sequence (from_act facts_of h n ms) ≡ is_sequence (from_act facts_of h n (own_of h ms))
by_own h n ms = first_own h (from_act facts_of h n ms) (begins_from facts_of h n ms) ∙ ap is_sequence (from_own facts_of h n ms)

own_kept : (h : ℕ) (at_end : Bool) (y : Name) (all : List LogEvent) → own_of h (gathered_in at_end y all) ≡ own_of h all
own_kept h at_end y all =
    let k = y.hart in
    let before = before_act facts_of k y.number all in
    let from = from_act facts_of k y.number all in
    let span = span_from facts_of k from in
    let later = after_from facts_of k from in
    let b = is_private k at_end span later in
    let parts : all ≡ before ++ (span ++ later) = sym (ap (λ l. before ++ l) (span_after facts_of k from) ∙ before_from facts_of k y.number all) in
    filter_append (is_own h) before (gathered_if b k span ++ later)
    ∙ ap (λ l. own_of h before ++ l) (filter_append (is_own h) (gathered_if b k span) later ∙ ap (λ l. l ++ own_of h later) (either b span) ∙ sym (filter_append (is_own h) span later))
    ∙ sym (filter_append (is_own h) before (span ++ later)) ∙ ap (own_of h) (sym parts)
  where
    either : (b : Bool) (span : List LogEvent) → own_of h (gathered_if b y.hart span) ≡ own_of h span
    either true span = same_own entry_of y.hart h span
    either false span = refl

sequence_stays : (s : Setting) (log : List Entry) (y : Name) (h n : ℕ) → IsBlockRun s log
    → is_sequence (from_act facts_of h n (log_events s (first_place s) (gather_span s log y))) ≡ is_sequence (from_act facts_of h n (log_events s (first_place s) log))
sequence_stays s log y h n run =
    let all = log_events s (first_place s) log in
    let at_end = is_inside_at_place s (place_after s log) y.hart in
    let made = gathered_in at_end y all in
    by_facts h n (log_events s (first_place s) (gather_span s log y))
    ∙ ap (λ l. begins_first (from_act (λ (t : Facts). t) h n l)) (log_events_facts s (first_place s) (gather_span s log y) ∙ (gathers_one s log y run).facts_are)
    ∙ sym (by_facts h n made) ∙ by_own h n made ∙ ap (λ l. is_sequence (from_act facts_of h n l)) (own_kept h at_end y all) ∙ sym (by_own h n all)

sequence_stays_all : (s : Setting) (names : List Name) (log : List Entry) (h n : ℕ) → IsBlockRun s log
    → is_sequence (from_act facts_of h n (log_events s (first_place s) (fold (gather_span s) log names))) ≡ is_sequence (from_act facts_of h n (log_events s (first_place s) log))
sequence_stays_all s [] log h n run = refl
sequence_stays_all s (y ∷ names) log h n run =
    sequence_stays_all s names (gather_span s log y) h n (gathers_one s log y run).good.block_run ∙ sequence_stays s log y h n run

-- AN ACT KEEPS ITS ENTRIES

-- what hart h has of the span of its act n: the entries, by the facts, and by the hart's own events alone
abbrev entries_of_act : ℕ → ℕ → List LogEvent → List Entry
entries_of_act h n ms = own_entries h (map entry_of (span_from facts_of h (from_act facts_of h n ms)))

abbrev entries_by : ℕ → ℕ → List Facts → List Entry
entries_by h n ts = own_entries h (map (λ (t : Facts). t.entry) (span_from (λ (t : Facts). t) h (from_act (λ (t : Facts). t) h n ts)))

abbrev entries_alone : ℕ → ℕ → List LogEvent → List Entry
entries_alone h n ms = map entry_of (span_from facts_of h (from_act facts_of h n ms))

map_entries : (ms : List LogEvent) → map entry_of ms ≡ map (λ (t : Facts). t.entry) (map facts_of ms)
map_entries [] = refl
map_entries (x ∷ ms) = ap (λ l. entry_of x ∷ l) (map_entries ms)

entries_by_facts : (h n : ℕ) (ms : List LogEvent) → entries_of_act h n ms ≡ entries_by h n (map facts_of ms)
entries_by_facts h n ms =
    let from = from_act facts_of h n ms in
    let span : span_from (λ (t : Facts). t) h (from_act (λ (t : Facts). t) h n (map facts_of ms)) ≡ map facts_of (span_from facts_of h from) =
    ap (span_from (λ (t : Facts). t) h) (from_map (λ (t : Facts). t) facts_of h n ms) ∙ span_map (λ (t : Facts). t) facts_of h from in
    ap (own_entries h) (map_entries (span_from facts_of h from) ∙ ap (map (λ (t : Facts). t.entry)) (sym span))

span_own : (h : ℕ) (from : List LogEvent) → Begins facts_of h from → own_of h (span_from facts_of h from) ≡ span_from facts_of h (own_of h from)
span_own h [] begins = refl
span_own h (z ∷ zs) begins =
    let own = (and_parts (is_own h z) (begins_act z.facts) begins).0 in
    let rest = rest_of_act facts_of h zs in
    ap (λ b. cond b (z ∷ own_of h rest) (own_of h rest)) own ∙ ap (λ l. z ∷ l) (rest_own facts_of h zs)
    ∙ sym (ap (λ b. span_from facts_of h (cond b (z ∷ own_of h zs) (own_of h zs))) own)

entries_by_own : (h n : ℕ) (ms : List LogEvent) → entries_of_act h n ms ≡ entries_alone h n (own_of h ms)
entries_by_own h n ms =
    let from = from_act facts_of h n ms in
    filter_map entry_of (is_of h) (span_from facts_of h from)
    ∙ ap (map entry_of) (span_own h from (begins_from facts_of h n ms) ∙ ap (span_from facts_of h) (from_own facts_of h n ms))

entries_stay : (s : Setting) (log : List Entry) (y : Name) (h n : ℕ) → IsBlockRun s log
    → entries_of_act h n (log_events s (first_place s) (gather_span s log y)) ≡ entries_of_act h n (log_events s (first_place s) log)
entries_stay s log y h n run =
    let all = log_events s (first_place s) log in
    let at_end = is_inside_at_place s (place_after s log) y.hart in
    let made = gathered_in at_end y all in
    entries_by_facts h n (log_events s (first_place s) (gather_span s log y))
    ∙ ap (entries_by h n) (log_events_facts s (first_place s) (gather_span s log y) ∙ (gathers_one s log y run).facts_are)
    ∙ sym (entries_by_facts h n made) ∙ entries_by_own h n made ∙ ap (entries_alone h n) (own_kept h at_end y all) ∙ sym (entries_by_own h n all)

entries_stay_all : (s : Setting) (names : List Name) (log : List Entry) (h n : ℕ) → IsBlockRun s log
    → entries_of_act h n (log_events s (first_place s) (fold (gather_span s) log names)) ≡ entries_of_act h n (log_events s (first_place s) log)
entries_stay_all s [] log h n run = refl
entries_stay_all s (y ∷ names) log h n run =
    entries_stay_all s names (gather_span s log y) h n (gathers_one s log y run).good.block_run ∙ entries_stay s log y h n run

-- A PRIVATE SEQUENCE, BY ITS ACT

record IsPrivateSequence (at_end : Bool) (x : Name) (all : List LogEvent) (a : Act) : Type 0 where
  private : is_private_of at_end x all ≡ true
  sequence : is_sequence (from_act facts_of x.hart x.number all) ≡ true
  entries : entries_of_act x.hart x.number all ≡ own_entries x.hart (map entry_of (span_of a all))

private_found : (x : Name) (at_end : Bool) (all : List LogEvent) (o : Option Act) (a : Act) → IsFound x.hart x.number at_end 0 all o → o ≡ Some a → is_private_act all a ≡ true → IsPrivateSequence at_end x all a
private_found x at_end all o a (Nowhere from none) there private = let never : ⊥ = cc in absurd never
private_found x at_end all o a (There z xs b from is act) there private =
    let h = x.hart in
    let before = before_act facts_of h x.number all in
    let parts : all ≡ before ++ ((z ∷ rest_of_act facts_of h xs) ++ after_act facts_of h xs) =
    sym (ap (λ l. before ++ l) (span_after facts_of h (z ∷ xs) ∙ sym from) ∙ before_from facts_of h x.number all) in
    let begins : begins_own h z.facts ≡ true = subst (Begins facts_of h) from (begins_from facts_of h x.number all) in
    let own = (and_parts (is_own h z) (begins_act z.facts) begins).0 in
    let same : b ≡ a = let both : Some b ≡ Some a = sym is ∙ there in cc in
    let its = act_private h at_end before z xs all b parts act own ∙ ap (is_private_act all) same ∙ private in
    let begun = (and_parts z.facts.begins _ its).0 in
    record {
      private = ap (λ f. is_private h at_end (span_from facts_of h f) (after_from facts_of h f)) from ∙ its;
      sequence = ap is_sequence from ∙ begun;
      entries = ap (λ f. own_entries h (map entry_of (span_from facts_of h f))) from
          ∙ ap (λ span. own_entries h (map entry_of span)) (sym (act_span h at_end before z xs all b parts act begun))
          ∙ ap (λ c. own_entries h (map entry_of (span_of c all))) same;
    }

-- A SEQUENCE THAT STANDS TOGETHER, BY ITS ACT

unbroken_alone : (h : ℕ) (xs : List LogEvent) → is_unbroken facts_of h xs ≡ true → list_all (is_own h) (rest_of_act facts_of h xs) ≡ true
unbroken_alone h [] is = refl
unbroken_alone h (x ∷ xs) is = go (goes_on facts_of h (x ∷ xs)) is (unbroken_alone h xs)
  where
    go : (b : Bool) → cond b (is_own h x && is_unbroken facts_of h xs) true ≡ true → (is_unbroken facts_of h xs ≡ true → list_all (is_own h) (rest_of_act facts_of h xs) ≡ true)
        → list_all (is_own h) (cond b (x ∷ rest_of_act facts_of h xs) []) ≡ true
    go true is rest =
        let p = and_parts (is_own h x) (is_unbroken facts_of h xs) is in
        and_from (is_own h x) (list_all (is_own h) (rest_of_act facts_of h xs)) p.0 (rest p.1)
    go false is rest = refl

own_alone : (h : ℕ) (ms : List LogEvent) → list_all (is_own h) ms ≡ true → own_of h ms ≡ ms
own_alone h [] alone = refl
own_alone h (x ∷ ms) alone =
    let p = and_parts (is_own h x) (list_all (is_own h) ms) alone in
    ap (λ b. cond b (x ∷ own_of h ms) (own_of h ms)) p.0 ∙ ap (λ l. x ∷ l) (own_alone h ms p.1)

together_found : (s : Setting) (earlier : List Entry) (was : Act) (log : List Entry) (x : Name) (at_end : Bool)
    → IsFound x.hart x.number at_end 0 (log_events s (first_place s) log) (nth_act x.hart x.number (acts_of s log))
    → is_sequence (from_act facts_of x.hart x.number (log_events s (first_place s) log)) ≡ true → is_together_in s log x ≡ true
    → entries_of_act x.hart x.number (log_events s (first_place s) log) ≡ own_entries x.hart (span_entries s earlier was) → StandsTogether s earlier was log x
unfolding is_together_in
together_found s earlier was log x at_end (Nowhere from none) sequence together entries = absurd (false≢true (sym (ap is_sequence from) ∙ sequence))
together_found s earlier was log x at_end (There z xs a from is act) sequence together entries =
    let h = x.hart in
    let all = log_events s (first_place s) log in
    let before = before_act facts_of h x.number all in
    let parts : all ≡ before ++ ((z ∷ rest_of_act facts_of h xs) ++ after_act facts_of h xs) =
    sym (ap (λ l. before ++ l) (span_after facts_of h (z ∷ xs) ∙ sym from) ∙ before_from facts_of h x.number all) in
    let begins_its : begins_own h z.facts ≡ true = subst (Begins facts_of h) from (begins_from facts_of h x.number all) in
    let own = (and_parts (is_own h z) (begins_act z.facts) begins_its).0 in
    let begins : z.facts.begins ≡ true = sym (ap is_sequence from) ∙ sequence in
    let unbroken : is_unbroken facts_of h xs ≡ true = sym (ap (is_unbroken_from facts_of h) from) ∙ together in
    let its_span = act_span h at_end before z xs all a parts act begins in
    let alone : list_all (is_own h) (span_of a all) ≡ true =
    ap (list_all (is_own h)) its_span ∙ and_from (is_own h z) (list_all (is_own h) (rest_of_act facts_of h xs)) own (unbroken_alone h xs unbroken) in
    record {
      act = a;
      there = is;
      alone = alone;
      entries = ap (map entry_of) (sym (own_alone h (span_of a all) alone)) ∙ sym (filter_map entry_of (is_of h) (span_of a all))
          ∙ ap (λ span. own_entries h (map entry_of span)) its_span ∙ sym (ap (λ f. own_entries h (map entry_of (span_from facts_of h f))) from) ∙ entries;
    }

pub stands_together : (s : Setting) (log : List Entry) (earlier later : List Name) (x : Name) → IsBlockRun s log → names_in (λ k. 0) (acts_of s log) ≡ earlier ++ x ∷ later
    → (private : IsPrivate s (fold (gather_named s) log earlier) x) → StandsTogether s (fold (gather_named s) log earlier) private.act (gathered s log) x
unfolding is_private_in gathered_by_spans
stands_together s log earlier later x run names given =
    let start = first_place s in
    let made = fold (gather_span s) log earlier in
    let named = fold (gather_named s) log earlier in
    let same : made ≡ named = all_by_acts s earlier log run in
    let was = given.act in
    let there : nth_act x.hart x.number (acts_of s made) ≡ Some was = ap (λ l. nth_act x.hart x.number (acts_of s l)) same ∙ given.there in
    let private : is_private_act (log_events s start made) was ≡ true = ap (λ l. is_private_act (log_events s start l) was) same ∙ given.private in
    let run_made = (gathers_all s earlier log run).good.block_run in
    let found = private_found x (is_inside_at_place s (place_after s made) x.hart) (log_events s start made) (nth_act x.hart x.number (acts_of s made)) was (found_in s made x.hart x.number run_made) there private in
    let names_are : names_of s log ≡ earlier ++ x ∷ later = names_by_acts s log run ∙ names in
    let final = gathered_by_spans s log in
    let together = all_together s log earlier later x run names_are found.private in
    let run_final = (gathers_all s (names_of s log) log run).good.block_run in
    let sequence : is_sequence (from_act facts_of x.hart x.number (log_events s start final)) ≡ true =
    sequence_stays_all s (names_of s log) log x.hart x.number run ∙ sym (sequence_stays_all s earlier log x.hart x.number run) ∙ found.sequence in
    let entries : entries_of_act x.hart x.number (log_events s start final) ≡ own_entries x.hart (span_entries s named was) =
    entries_stay_all s (names_of s log) log x.hart x.number run ∙ sym (entries_stay_all s earlier log x.hart x.number run) ∙ found.entries
    ∙ ap (λ l. own_entries x.hart (span_entries s l was)) same in
    subst (λ (l : List Entry). StandsTogether s named was l x) (gathered_is_by_acts s log run)
    (together_found s named was final x (is_inside_at_place s (place_after s final) x.hart) (found_in s final x.hart x.number run_final) sequence together entries)
