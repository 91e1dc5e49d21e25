-- Each sequence that is gathered at its turn stands together in the gathered log.
use Rattle.std.proofs.Common.{◌≡◌, ℕ, zero, suc, List, [], ◌∷◌, ◌++◌, map, refl, sym, ap, ◌∙◌, Bool, true, false, not, cond, ◌&&◌, append_assoc}
use Rattle.std.specs.List.{fold}
use Rattle.std.proofs.lemmas.Bool.{and_parts, false≢true}
use Rattle.mach_types.specs.declared.events.Entry.{Entry}
use Rattle.block_model.specs.Run.{IsBlockRun}
use Rattle.block_model.specs.Setting.{Setting}
use Rattle.log_gather.specs.LogEvents.{LogEvent, Name, log_events, facts_of}
use Rattle.log_gather.specs.Spans.{after_act, after_from, before_act, begins_act, begins_own, from_act, gather_span, gathered_by_spans, gathered_if, gathered_in, goes_on, is_inside_at_place, is_private, is_private_in, is_private_of, is_together, is_together_in, is_unbroken, is_unbroken_from, names_of, rest_of_act, span_from}
use Rattle.log_gather.specs.Facts.{Facts, first_place, is_of, place_after}
use Rattle.log_gather.proofs.GatheredSequences.{before_from, gathers_one, log_events_facts, span_after}
use Rattle.log_gather.proofs.Contiguous.{Begins, as_together, begins_from, first_after, goes_over, its_first, none_begins, owns, owns_continue, owns_own, rest, rest_other, together_before, unbroken_own}

-- the facts decide it
goes_by_facts : (h : ℕ) (xs : List LogEvent) → goes_on (λ (t : Facts). t) h (map facts_of xs) ≡ goes_on facts_of h xs
goes_by_facts h [] = refl
goes_by_facts h (x ∷ xs) = ap (cond (is_of h (facts_of x).entry) (not (begins_act (facts_of x)))) (goes_by_facts h xs)

unbroken_facts : (h : ℕ) (xs : List LogEvent) → is_unbroken (λ (t : Facts). t) h (map facts_of xs) ≡ is_unbroken facts_of h xs
unbroken_facts h [] = refl
unbroken_facts h (x ∷ xs) =
    ap (λ p. cond p (is_of h (facts_of x).entry && is_unbroken (λ (t : Facts). t) h (map facts_of xs)) true) (goes_by_facts h (x ∷ xs))
    ∙ ap (λ p. cond (goes_on facts_of h (x ∷ xs)) (is_of h (facts_of x).entry && p) true) (unbroken_facts h xs)

together_facts : (h n : ℕ) (xs : List LogEvent) → is_together (λ (t : Facts). t) h n (map facts_of xs) ≡ is_together facts_of h n xs
together_facts h n [] = refl
together_facts h zero (x ∷ xs) = go (begins_own h (facts_of x)) (together_facts h zero xs)
  where
    go : (p : Bool) → is_together (λ (t : Facts). t) h zero (map facts_of xs) ≡ is_together facts_of h zero xs
        → is_unbroken_from (λ (t : Facts). t) h (cond p (map facts_of (x ∷ xs)) (from_act (λ (t : Facts). t) h zero (map facts_of xs))) ≡ is_unbroken_from facts_of h (cond p (x ∷ xs) (from_act facts_of h zero xs))
    go true rest = unbroken_facts h xs
    go false rest = rest
together_facts h (suc n) (x ∷ xs) = go (begins_own h (facts_of x)) (together_facts h n xs) (together_facts h (suc n) xs)
  where
    go : (p : Bool) → is_together (λ (t : Facts). t) h n (map facts_of xs) ≡ is_together facts_of h n xs → is_together (λ (t : Facts). t) h (suc n) (map facts_of xs) ≡ is_together facts_of h (suc n) xs
        → is_unbroken_from (λ (t : Facts). t) h (cond p (from_act (λ (t : Facts). t) h n (map facts_of xs)) (from_act (λ (t : Facts). t) h (suc n) (map facts_of xs)))
        ≡ is_unbroken_from facts_of h (cond p (from_act facts_of h n xs) (from_act facts_of h (suc n) xs))
    go true one other = one
    go false one other = other

-- OTHERS STAY TOGETHER

stays_by : (h n k : ℕ) (b : Bool) (before from : List LogEvent) → Begins facts_of k from → is_together facts_of h n (before ++ (span_from facts_of k from ++ after_from facts_of k from)) ≡ true
    → is_together facts_of h n (before ++ (gathered_if b k (span_from facts_of k from) ++ after_from facts_of k from)) ≡ true
stays_by h n k false before from begins is = is
stays_by h n k true before [] begins is = is
stays_by h n k true before (z ∷ xs) begins is =
    let p = and_parts (is_of k (facts_of z).entry) (begins_act (facts_of z)) begins in
    together_before facts_of h n before ((z ∷ rest_of_act facts_of k xs) ++ after_act facts_of k xs)
    ((rest facts_of k (z ∷ rest_of_act facts_of k xs) ++ owns facts_of k (z ∷ rest_of_act facts_of k xs)) ++ after_act facts_of k xs)
    (as_together facts_of h k z xs p.0 p.1) is

stays_together : (h n : ℕ) (at_end : Bool) (x : Name) (all : List LogEvent) → is_together facts_of h n all ≡ true → is_together facts_of h n (gathered_in at_end x all) ≡ true
stays_together h n at_end x all is =
    let k = x.hart in
    let from = from_act facts_of k x.number all in
    let parts : all ≡ before_act facts_of k x.number all ++ (span_from facts_of k from ++ after_from facts_of k from) =
    sym (ap (λ l. before_act facts_of k x.number all ++ l) (span_after facts_of k from) ∙ before_from facts_of k x.number all) in
    stays_by h n k (is_private k at_end (span_from facts_of k from) (after_from facts_of k from)) (before_act facts_of k x.number all) from (begins_from facts_of k x.number all)
    (ap (is_together facts_of h n) (sym parts) ∙ is)

-- ONE COMES TOGETHER

comes_by : (k m : ℕ) (at_end : Bool) (all from : List LogEvent) → from_act facts_of k m all ≡ from → Begins facts_of k from → is_private k at_end (span_from facts_of k from) (after_from facts_of k from) ≡ true
    → is_together facts_of k m (before_act facts_of k m all ++ (gathered_if true k (span_from facts_of k from) ++ after_from facts_of k from)) ≡ true
comes_by k m at_end all [] is begins private = absurd (false≢true private)
comes_by k m at_end all (z ∷ xs) is begins private =
    let more = rest_of_act facts_of k xs in
    let later = after_act facts_of k xs in
    let p = and_parts (is_of k (facts_of z).entry) (begins_act (facts_of z)) begins in
    let ys = (rest facts_of k (z ∷ more) ++ owns facts_of k (z ∷ more)) ++ later in
    let shape : ys ≡ rest facts_of k more ++ ((z ∷ owns facts_of k more) ++ later) =
    ap (λ b. (cond (not b) (z ∷ rest facts_of k more) (rest facts_of k more) ++ cond b (z ∷ owns facts_of k more) (owns facts_of k more)) ++ later) p.0 ∙ append_assoc (rest facts_of k more) (z ∷ owns facts_of k more) later in
    ap (is_unbroken_from facts_of k) (first_after facts_of k m z all ys xs is ∙ ap (from_act facts_of k zero) shape)
    ∙ its_first facts_of k z xs begins (rest facts_of k more) (rest_other facts_of k more)
    (unbroken_own facts_of k (owns facts_of k more) later (owns_own facts_of k more) (owns_continue facts_of k more (none_begins facts_of k xs)) (goes_over facts_of k xs))

comes_together : (at_end : Bool) (x : Name) (all : List LogEvent) → is_private_of at_end x all ≡ true → is_together facts_of x.hart x.number (gathered_in at_end x all) ≡ true
comes_together at_end x all private =
    let k = x.hart in
    let m = x.number in
    let from = from_act facts_of k m all in
    ap (λ b. is_together facts_of k m (before_act facts_of k m all ++ (gathered_if b k (span_from facts_of k from) ++ after_from facts_of k from))) private
    ∙ comes_by k m at_end all from refl (begins_from facts_of k m all) private

-- LOGS

facts_after : (s : Setting) (log : List Entry) (x : Name) (h n : ℕ) → IsBlockRun s log
    → is_together facts_of h n (log_events s (first_place s) (gather_span s log x)) ≡ is_together facts_of h n (gathered_in (is_inside_at_place s (place_after s log) x.hart) x (log_events s (first_place s) log))
facts_after s log x h n run =
    let made = gathers_one s log x run in
    let ms = log_events s (first_place s) (gather_span s log x) in
    let gs = gathered_in (is_inside_at_place s (place_after s log) x.hart) x (log_events s (first_place s) log) in
    sym (together_facts h n ms) ∙ ap (is_together (λ (t : Facts). t) h n) (log_events_facts s (first_place s) (gather_span s log x) ∙ made.facts_are) ∙ together_facts h n gs

keeps_together : (s : Setting) (names : List Name) (log : List Entry) (x : Name) → IsBlockRun s log → is_together_in s log x ≡ true → is_together_in s (fold (gather_span s) log names) x ≡ true
unfolding is_together_in
keeps_together s [] log x run is = is
keeps_together s (y ∷ names) log x run is =
    let made = gathers_one s log y run in
    keeps_together s names (gather_span s log y) x made.good.block_run
    (facts_after s log y x.hart x.number run ∙ stays_together x.hart x.number (is_inside_at_place s (place_after s log) y.hart) y (log_events s (first_place s) log) is)

-- a sequence that is private at its turn stands together in the end
pub gathered_together : (s : Setting) (earlier later : List Name) (log : List Entry) (x : Name) → IsBlockRun s log → is_private_in s (fold (gather_span s) log earlier) x ≡ true
    → is_together_in s (fold (gather_span s) log (earlier ++ x ∷ later)) x ≡ true
unfolding is_private_in is_together_in
gathered_together s [] later log x run private =
    let made = gathers_one s log x run in
    let at_end = is_inside_at_place s (place_after s log) x.hart in
    keeps_together s later (gather_span s log x) x made.good.block_run
    (facts_after s log x x.hart x.number run ∙ comes_together at_end x (log_events s (first_place s) log) private)
gathered_together s (y ∷ earlier) later log x run private =
    gathered_together s earlier later (gather_span s log y) x (gathers_one s log y run).good.block_run private

pub all_together : (s : Setting) (log : List Entry) (earlier later : List Name) (x : Name) → IsBlockRun s log → names_of s log ≡ earlier ++ x ∷ later
    → is_private_in s (fold (gather_span s) log earlier) x ≡ true → is_together_in s (gathered_by_spans s log) x ≡ true
unfolding gathered_by_spans
all_together s log earlier later x run names private =
    ap (λ (l : List Name). is_together_in s (fold (gather_span s) log l) x) names ∙ gathered_together s earlier later log x run private
