-- The events of a hart in a stretch are gathered by exchanges: the entries of other harts come first, one after another.
use Rattle.std.proofs.Common.{◌≡◌, ℕ, List, [], ◌∷◌, ◌++◌, refl, sym, ap, ◌∙◌, subst, append_assoc, Bool, true, false, not, cond}
use Rattle.std.specs.List.{AllByRecursion, fold}
use Rattle.std.proofs.lemmas.List.Sums.{fold-append}
use Rattle.mach_types.specs.Events.{choice_of}
use Rattle.mach_types.specs.declared.events.Entry.{Entry}
use Rattle.block_model.proofs.Laws.{run_before, same_here}
use Rattle.block_model.specs.Plain.{here_in_plain, plain_after, plain_next}
use Rattle.block_model.specs.Run.{IsBlockRun}
use Rattle.block_model.specs.Setting.{Setting}
use Rattle.block_model.specs.Footprints.{AreApart}
use Rattle.block_model.specs.PlainEvents.{footprint, is_plain}
use Rattle.block_model.specs.Swaps.{IsEquivalentRun, MaySwap, here_after}
use Rattle.log_gather.proofs.Gatherable.{AreFree, IsGatherable, other_facts, own_facts}
use Rattle.log_gather.specs.Facts.{Facts, Place, facts_along, facts_at, first_place, here_at, is_of, next_place, other_entries, own_entries, place_after, place_from}
use Rattle.block_model.proofs.Swaps.Pairs.{ArePair}
use Rattle.log_gather.proofs.ExchangedPlaces.{ArePlacesExchanged, accesses_apart, places_exchanged}
use Rattle.block_model.proofs.Swaps.Logs.{pair_at, regrouped, seen, swapped}

-- PLACES

machine_from : (s : Setting) (p : Place) (log : List Entry) → (place_from s p log).machine ≡ fold (plain_next s) p.machine log
machine_from s p [] = refl
machine_from s p (e ∷ log) = machine_from s (next_place s p e) log

pub machine_after : (s : Setting) (log : List Entry) → (place_after s log).machine ≡ plain_after s log
unfolding place_after plain_after
machine_after s log = machine_from s (first_place s) log

pub place-more : (s : Setting) (log more : List Entry) → place_after s (log ++ more) ≡ place_from s (place_after s log) more
unfolding place_after
place-more s log more = fold-append (next_place s) (first_place s) log more

-- TWO

pub record AreTwo (s : Setting) (earlier later : List Entry) (p : Place) (e f : Entry) : Type 0 where
  pub run : IsBlockRun s (earlier ++ f ∷ e ∷ later)
  pub places : ArePlacesExchanged s p e f

may_swap : (s : Setting) (earlier : List Entry) (p : Place) (e f : Entry) → place_after s earlier ≡ p → IsBlockRun s ((earlier ++ e ∷ []) ++ f ∷ [])
    → (facts_at s p e).plain ≡ true → AreFree (facts_at s p e) (facts_at s (next_place s p e) f) → MaySwap s earlier e f
may_swap s earlier p e f at run plain free =
    let run_one = run_before s (earlier ++ e ∷ []) (f ∷ []) run in
    let run_none = run_before s earlier (e ∷ []) run_one in
    let h = e.hart.0 in
    let k = f.hart.0 in
    let there = next_place s p e in
    let at_next : place_after s (earlier ++ e ∷ []) ≡ there = place-more s earlier (e ∷ []) ∙ ap (λ q. next_place s q e) at in
    let is_e = ap (λ (q : Place). here_in_plain s q.machine h) (sym at) ∙ ap (λ m. here_in_plain s m h) (machine_after s earlier) ∙ same_here (seen s earlier) h run_none in
    let is_f = ap (λ (q : Place). here_in_plain s q.machine k) (sym at_next) ∙ ap (λ m. here_in_plain s m k) (machine_after s (earlier ++ e ∷ [])) ∙ same_here (seen s (earlier ++ e ∷ [])) k run_one in
    let apart = accesses_apart s p there e f plain free.plain free.apart in
    record {
      harts = free.harts;
      first = ap (is_plain (choice_of e)) (sym is_e) ∙ plain;
      second = ap (is_plain (choice_of f)) (sym is_f) ∙ free.plain;
      apart = subst (λ z. AreApart (footprint (choice_of e) z) (footprint (choice_of f) (here_after s (earlier ++ e ∷ []) f))) is_e (subst (λ z. AreApart (footprint (choice_of e) (here_at s p e)) (footprint (choice_of f) z)) is_f apart);
    }

two : (s : Setting) (earlier later : List Entry) (p : Place) (e f : Entry) → place_after s earlier ≡ p → IsBlockRun s (earlier ++ e ∷ f ∷ later)
    → (facts_at s p e).plain ≡ true → AreFree (facts_at s p e) (facts_at s (next_place s p e) f) → AreTwo s earlier later p e f
two s earlier later p e f at run plain free =
    let given : IsBlockRun s (((earlier ++ e ∷ []) ++ f ∷ []) ++ later) = subst (λ (l : List Entry). IsBlockRun s l) (regrouped earlier e f later) run in
    let both = run_before s ((earlier ++ e ∷ []) ++ f ∷ []) later given in
    let may = may_swap s earlier p e f at both plain free in
    let machine = sym (machine_after s earlier) ∙ ap (λ (q : Place). q.machine) at in
    let pair = subst (ArePair s e.hart.0 f.hart.0 (choice_of e) (choice_of f)) machine (pair_at s earlier e f both may) in
    record {
      run = IsEquivalentRun.block_run (swapped s earlier later e f run may);
      places = places_exchanged s p e f plain free (record { first = pair.first_file; second = pair.second_file });
    }

-- ONE BEHIND MANY

pub record IsMoved (s : Setting) (earlier later : List Entry) (p : Place) (x : Entry) (os : List Entry) : Type 0 where
  pub run : IsBlockRun s (earlier ++ (os ++ x ∷ later))
  pub others_are : facts_along s p os ≡ facts_along s (next_place s p x) os
  pub last_is : facts_at s (place_from s p os) x ≡ facts_at s p x
  pub same : next_place s (place_from s p os) x ≡ place_from s (next_place s p x) os

pub moved : (s : Setting) (earlier later : List Entry) (p : Place) (x : Entry) (os : List Entry) → place_after s earlier ≡ p → IsBlockRun s (earlier ++ x ∷ (os ++ later))
    → (facts_at s p x).plain ≡ true → AllByRecursion (AreFree (facts_at s p x)) (facts_along s (next_place s p x) os) → IsMoved s earlier later p x os
moved s earlier later p x [] at run plain free = record { run = run; others_are = refl; last_is = refl; same = refl }
moved s earlier later p x (o ∷ os) at run plain free =
    let ex = two s earlier (os ++ later) p x o at run plain free.0 in
    let there = next_place s p o in
    let at_next : place_after s (earlier ++ o ∷ []) ≡ there = place-more s earlier (o ∷ []) ∙ ap (λ q. next_place s q o) at in
    let on : IsBlockRun s ((earlier ++ o ∷ []) ++ x ∷ (os ++ later)) = subst (λ (l : List Entry). IsBlockRun s l) (sym (append_assoc earlier (o ∷ []) (x ∷ (os ++ later)))) ex.run in
    let free_next = subst (λ (t : Facts). AllByRecursion (AreFree t) (facts_along s (next_place s there x) os)) (sym ex.places.first_second)
    (subst (λ q. AllByRecursion (AreFree (facts_at s p x)) (facts_along s q os)) (sym ex.places.same) free.1) in
    let rest = moved s (earlier ++ o ∷ []) later there x os at_next on (ap (λ (t : Facts). t.plain) ex.places.first_second ∙ plain) free_next in
    record {
      run = subst (λ (l : List Entry). IsBlockRun s l) (append_assoc earlier (o ∷ []) (os ++ x ∷ later)) rest.run;
      others_are = ap (λ t. t ∷ facts_along s there os) ex.places.second_first ∙ ap (λ (l : List Facts). facts_at s (next_place s p x) o ∷ l) (rest.others_are ∙ ap (λ q. facts_along s q os) ex.places.same);
      last_is = rest.last_is ∙ ex.places.first_second;
      same = rest.same ∙ ap (λ q. place_from s q os) ex.places.same;
    }

-- MANY

-- the others' entries and then a hart's own, which have these facts and end at this place
pub record IsGatheredAs (s : Setting) (earlier : List Entry) (p : Place) (os ms : List Entry) (tos tms : List Facts) (end : Place) : Type 0 where
  pub run : IsBlockRun s (earlier ++ (os ++ ms))
  pub others_are : facts_along s p os ≡ tos
  pub own_are : facts_along s (place_from s p os) ms ≡ tms
  pub same : place_from s (place_from s p os) ms ≡ end

abbrev pub IsGathered : Setting → List Entry → Place → ℕ → List Entry → Type 0
IsGathered s earlier p h span =
    IsGatheredAs s earlier p (other_entries h span) (own_entries h span) (other_facts h (facts_along s p span)) (own_facts h (facts_along s p span)) (place_from s p span)

-- with one entry more before, of another hart or of this one
with_first : (s : Setting) (earlier : List Entry) (p : Place) (x : Entry) (os ms : List Entry) (tos tms : List Facts) (end : Place) (b : Bool) → place_after s earlier ≡ p
    → IsGatheredAs s (earlier ++ x ∷ []) (next_place s p x) os ms tos tms end
    → AllByRecursion (λ (y : Facts). y.plain ≡ true) (cond b (facts_at s p x ∷ tms) tms)
    → AllByRecursion (λ (y : Facts). AllByRecursion (AreFree y) (cond (not b) (facts_at s p x ∷ tos) tos)) (cond b (facts_at s p x ∷ tms) tms)
    → IsGatheredAs s earlier p (cond (not b) (x ∷ os) os) (cond b (x ∷ ms) ms) (cond (not b) (facts_at s p x ∷ tos) tos) (cond b (facts_at s p x ∷ tms) tms) end
with_first s earlier p x os ms tos tms end false at rest plain free = record {
  run = subst (λ (l : List Entry). IsBlockRun s l) (append_assoc earlier (x ∷ []) (os ++ ms)) rest.run;
  others_are = ap (λ (l : List Facts). facts_at s p x ∷ l) rest.others_are;
  own_are = rest.own_are;
  same = rest.same;
}
with_first s earlier p x os ms tos tms end true at rest plain free =
    let run : IsBlockRun s (earlier ++ x ∷ (os ++ ms)) = subst (λ (l : List Entry). IsBlockRun s l) (append_assoc earlier (x ∷ []) (os ++ ms)) rest.run in
    let m = moved s earlier ms p x os at run plain.0 (subst (AllByRecursion (AreFree (facts_at s p x))) (sym rest.others_are) free.0) in
    record {
      run = m.run;
      others_are = m.others_are ∙ rest.others_are;
      own_are = ap (λ t. t ∷ facts_along s (next_place s (place_from s p os) x) ms) m.last_is ∙ ap (λ (l : List Facts). facts_at s p x ∷ l) (ap (λ q. facts_along s q ms) m.same ∙ rest.own_are);
      same = ap (λ q. place_from s q ms) m.same ∙ rest.same;
    }

fewer : (P : Facts → Type 0) (t : Facts) (ts : List Facts) (b : Bool) → AllByRecursion P (cond b (t ∷ ts) ts) → AllByRecursion P ts
fewer P t ts true all = all.1
fewer P t ts false all = all

fewer_each : (t : Facts) (tos : List Facts) (tms : List Facts) → AllByRecursion (λ (y : Facts). AllByRecursion (AreFree y) (t ∷ tos)) tms → AllByRecursion (λ (y : Facts). AllByRecursion (AreFree y) tos) tms
fewer_each t tos [] all = tt
fewer_each t tos (y ∷ tms) all = (all.0.1, fewer_each t tos tms all.1)

fewer_pairs : (t : Facts) (tos tms : List Facts) (b : Bool) → AllByRecursion (λ (y : Facts). AllByRecursion (AreFree y) (cond (not b) (t ∷ tos) tos)) (cond b (t ∷ tms) tms)
    → AllByRecursion (λ (y : Facts). AllByRecursion (AreFree y) tos) tms
fewer_pairs t tos tms true all = all.1
fewer_pairs t tos tms false all = fewer_each t tos tms all

pub span_gathers : (s : Setting) (earlier : List Entry) (p : Place) (h : ℕ) (span : List Entry) → place_after s earlier ≡ p → IsBlockRun s (earlier ++ span)
    → IsGatherable h (facts_along s p span) → IsGathered s earlier p h span
span_gathers s earlier p h [] at run may = record { run = run; others_are = refl; own_are = refl; same = refl }
span_gathers s earlier p h (x ∷ span) at run may =
    let there = next_place s p x in
    let ts = facts_along s there span in
    let at_next : place_after s (earlier ++ x ∷ []) ≡ there = place-more s earlier (x ∷ []) ∙ ap (λ q. next_place s q x) at in
    let on : IsBlockRun s ((earlier ++ x ∷ []) ++ span) = subst (λ (l : List Entry). IsBlockRun s l) (sym (append_assoc earlier (x ∷ []) span)) run in
    let b = is_of h x in
    let fewer_may : IsGatherable h ts = record {
      plain = fewer (λ (y : Facts). y.plain ≡ true) (facts_at s p x) (own_facts h ts) b may.plain;
      free = fewer_pairs (facts_at s p x) (other_facts h ts) (own_facts h ts) b may.free;
    } in
    with_first s earlier p x (other_entries h span) (own_entries h span) (other_facts h ts) (own_facts h ts) (place_from s there span) b at
    (span_gathers s (earlier ++ x ∷ []) there h span at_next on fewer_may) may.plain may.free
