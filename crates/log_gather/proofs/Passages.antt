-- A log is gone through entry by entry: what was seen of it so far.
use Rattle.std.proofs.Common.{◌≡◌, ◌≢◌, ℕ, zero, suc, ◌+◌, ◌≤◌, ◌<◌, List, [], ◌∷◌, ◌++◌, length, map, get_or, set, replicate, refl, sym, ap, ◌∙◌, subst, arith, Bool, true, false, cond, eqb, ltb, None}
use Rattle.std.proofs.Math.Path.{fun_ext}
use Rattle.std.specs.List.{AllByRecursion}
use Rattle.std.proofs.lemmas.Bool.{eqb-false, eqb-true, ltb-false, ltb-true}
use Rattle.std.proofs.lemmas.List.{get_or-set_other, get_or-set_same, length-set, map-append}
use Rattle.mach_types.specs.Events.{choice_of}
use Rattle.mach_types.specs.declared.events.Entry.{Entry}
use Rattle.mach_types.specs.declared.user_memory.Write.{Write}
use Rattle.mach_types.specs.declared.user_memory.Write.TheVariants.{Stored, Zeroed}
use Rattle.block_model.specs.Deciding.{history}
use Rattle.block_model.specs.Events.{done_of}
use Rattle.block_model.specs.Here.{Here, runs}
use Rattle.block_model.specs.History.{here_in_history, lost_after}
use Rattle.block_model.specs.Plain.{here_in_plain, plain_after}
use Rattle.block_model.specs.Run.{IsBlockRun}
use Rattle.block_model.specs.Setting.{Seen, Setting}
use Rattle.block_model.proofs.Laws.{good_at, history-append, history-nil, running_idle, start_run}
use Rattle.block_model.proofs.Swaps.Logs.{seen}
use Rattle.block_view.proofs.Laws.{HasMadeLog, logged_more, logged_none, run_of_setting}
use Rattle.log_gather.specs.declared.passing.Passage.{Passage}
use Rattle.log_gather.specs.declared.steps.Step.{Step}
use Rattle.log_gather.specs.Facts.{Facts, Place, facts_at, facts_in, first_place, inside_on, next_place, place_after}
use Rattle.log_gather.specs.Located.{at_end, located}
use Rattle.log_gather.specs.Marks.{are_known, steps_of}
use Rattle.log_gather.specs.Passing.{IsPassage, IsSeen, here_on, inside_there}
use Rattle.log_gather.specs.Steps.{AllAwait, AreOfEight, IsOfEight, facts_seen, located_of, reserved_in}
use Rattle.log_gather.proofs.GatheredSequences.{at_first}
use Rattle.log_gather.proofs.GatheredSpans.{machine_after, place-more}
use Rattle.log_gather.proofs.LocatedEvents.{located-append}
use Rattle.log_gather.proofs.NamedSequences.{IsPlaced, placed_next, placed_start}

-- ARRAYS BY HART

pub get_replicate : {A : Type 0} (n k : ℕ) (x : A) → get_or (replicate n x) k x ≡ x
get_replicate zero k x = refl
get_replicate (suc n) zero x = refl
get_replicate (suc n) (suc k) x = get_replicate n k x

-- none is filled
pub filled_none : {A : Type 0} (f : ℕ → A) (d : A) (k : ℕ) → get_or (replicate 8 d) k d ≡ cond (ltb k 0) (f k) d
filled_none f d k = get_replicate 8 k d ∙ go (ltb k 0) refl
  where
    go : (b : Bool) → ltb k 0 ≡ b → d ≡ cond b (f k) d
    go true is = let lt = ltb-true k 0 is in absurd (omega arith)
    go false is = refl

-- those below a number are filled, one more
pub filled_more : {A : Type 0} (f : ℕ → A) (d : A) (n : ℕ) (xs : List A) → n < length xs → ((k : ℕ) → get_or xs k d ≡ cond (ltb k n) (f k) d)
    → (k : ℕ) → get_or (set xs n (f n)) k d ≡ cond (ltb k (n + 1)) (f k) d
filled_more f d n xs lt was k = go (eqb n k) (ltb k n) (ltb k (n + 1)) refl refl refl
  where
    go : (same below upto : Bool) → eqb n k ≡ same → ltb k n ≡ below → ltb k (n + 1) ≡ upto → get_or (set xs n (f n)) k d ≡ cond upto (f k) d
    go true below true is low high = ap (λ j. get_or (set xs n (f n)) j d) (sym (eqb-true n k is)) ∙ get_or-set_same xs n (f n) d lt ∙ ap f (eqb-true n k is)
    go true below false is low high = let same = eqb-true n k is in let least = ltb-false k (n + 1) high in absurd (omega arith)
    go false true true is low high = get_or-set_other xs n k (f n) d (λ same. eqb-false n k is (sym same)) ∙ was k ∙ ap (λ b. cond b (f k) d) low
    go false true false is low high = let lt = ltb-true k n low in let least = ltb-false k (n + 1) high in absurd (omega arith)
    go false false true is low high =
        let ne : n ≢ k = eqb-false n k is in let least = ltb-false k n low in let most = ltb-true k (n + 1) high in absurd (omega arith)
    go false false false is low high = get_or-set_other xs n k (f n) d (λ same. eqb-false n k is (sym same)) ∙ was k ∙ ap (λ b. cond b (f k) d) low

-- the same of an array of eight, in which this is put down for the next hart
pub filled_step : {A : Type 0} (f : ℕ → A) (d x : A) (n : ℕ) (xs : List A) → x ≡ f n → n < 8 → length xs ≡ 8 → ((k : ℕ) → get_or xs k d ≡ cond (ltb k n) (f k) d)
    → (length (set xs n x) ≡ 8) × ((k : ℕ) → get_or (set xs n x) k d ≡ cond (ltb k (n + 1)) (f k) d)
filled_step f d x n xs is few eight was =
    (length-set xs n x ∙ eight, λ k. ap (λ y. get_or (set xs n y) k d) is ∙ filled_more f d n xs (omega arith) was k)

-- PAST THE LAST HART

none_lost : (ws : List Write) → lost_after ws None ≡ None
none_lost [] = refl
none_lost (Stored w ∷ ws) = none_lost ws
none_lost (Zeroed at n ∷ ws) = none_lost ws

-- no hart past the last has reserved anything
abbrev IsUnreserved : Setting → Place → Type 0
IsUnreserved s p = (k : ℕ) → s.limits.harts ≤ k → p.machine.reserved k ≡ None

unreserved_next : (s : Setting) (p : Place) (e : Entry) → e.hart.0 < s.limits.harts → IsUnreserved s p → IsUnreserved s (next_place s p e)
unreserved_next s p e lt was k past = go (eqb e.hart.0 k) refl
  where
    go : (b : Bool) → eqb e.hart.0 k ≡ b
        → cond b (done_of (choice_of e) (here_in_plain s p.machine e.hart.0)).reserved (lost_after (done_of (choice_of e) (here_in_plain s p.machine e.hart.0)).entered (p.machine.reserved k)) ≡ None
    go true is = let same : e.hart.0 ≡ k = eqb-true e.hart.0 k is in absurd (omega arith)
    go false is =
        ap (lost_after (done_of (choice_of e) (here_in_plain s p.machine e.hart.0)).entered) (was k past)
        ∙ none_lost (done_of (choice_of e) (here_in_plain s p.machine e.hart.0)).entered

-- and none runs a thread
idle_past : (s : Setting) (log : List Entry) (k : ℕ) → IsBlockRun s log → s.limits.harts ≤ k → runs (here_in_plain s (plain_after s log) k) ≡ None
idle_past s log k run past =
    let tables = (good_at (seen s log) run).kernel.tables in
    running_idle s.limits.harts k (plain_after s log).kernel.threads (plain_after s log).kernel.scheduling tables
    (λ t on. let lt = tables.below t (record { 0 = k }) on in absurd (omega arith))

-- WHAT WAS SEEN SO FAR

-- a machine made these entries, and this was seen of them
pub record HasSeen (s : Setting) (log : List Entry) (m : Seen) (steps : List Step) (within : List Bool) : Type 0 where
  pub so_far : HasMadeLog s log m
  pub placed : IsPlaced s (place_after s log) (history s log)
  pub unreserved : (k : ℕ) → s.limits.harts ≤ k → (place_after s log).machine.reserved k ≡ None
  pub steps_are : map located_of steps ≡ located s (first_place s) log
  pub harts : AreOfEight steps
  pub awaits : AllAwait steps
  pub within_are : (k : ℕ) → get_or within k false ≡ (place_after s log).within k
  pub eight : length within ≡ 8

pub seen_none : (s : Setting) (seed : ℕ) (m : Seen) → m ≡ record { setting = s; seed = seed; log = [] } → HasSeen s [] m [] (replicate 8 false)
seen_none s seed m is = record {
  so_far = logged_none s seed m is;
  placed =
      subst (λ q. IsPlaced s q (history s [])) (sym (at_first s []))
      (subst (IsPlaced s (first_place s)) (sym (history-nil s)) (placed_start s (start_run s)));
  unreserved = λ k past. ap (λ (q : Place). q.machine.reserved k) (at_first s []);
  steps_are = refl;
  harts = tt;
  awaits = tt;
  within_are = λ k. get_replicate 8 k false ∙ sym (ap (λ (q : Place). q.within k) (at_first s []));
  eight = refl;
}

-- ONE ENTRY MORE

all_more : {A : Type 0} (P : A → Type 0) (xs : List A) (y : A) → AllByRecursion P xs → P y → AllByRecursion P (xs ++ y ∷ [])
all_more P [] y all last = (last, tt)
all_more P (x ∷ xs) y all last = (all.0, all_more P xs y all.1 last)

module _ (s : Setting) (log : List Entry) (m m' : Seen) (e : Entry) (steps : List Step) (within : List Bool) (step : Step)
    (was : HasSeen s log m steps within) (made : IsSeen m m' e (get_or within e.hart.0 false) step) where
  abbrev place : Place
  place = place_after s log

  -- the hart as the machine has it
  there : (h : ℕ) → here_on m h ≡ here_in_history s (history s log) h
  there h =
      ap (λ z. here_in_history z (history z m.log) h) was.so_far.setting
      ∙ ap (λ l. here_in_history s (history s l) h) was.so_far.made

  its_facts : facts_seen step ≡ facts_at s place e
  its_facts =
      made.facts
      ∙ ap (λ here. facts_in here (get_or within e.hart.0 false) e) (there e.hart.0 ∙ sym (was.placed.here e.hart.0))
      ∙ ap (λ b. facts_in (here_in_plain s place.machine e.hart.0) b e) (was.within_are e.hart.0)

  its_reserved : (k : ℕ) (b : Bool) → ltb k m.setting.limits.harts ≡ b → cond b (here_on m k).reserved None ≡ place.machine.reserved k
  its_reserved k true lt = ap (λ (here : Here). here.reserved) (there k ∙ sym (was.placed.here k))
  its_reserved k false past =
      let harts = ap (λ (z : Setting). z.limits.harts) was.so_far.setting in
      let least = ltb-false k m.setting.limits.harts past in
      sym (was.unreserved k (omega arith))

  its_located : located_of step ≡ record { facts = facts_at s place e; reserved = place.machine.reserved }
  its_located =
      let reserved : reserved_in step.reserved ≡ place.machine.reserved =
      fun_ext (λ k. made.reserved k ∙ its_reserved k (ltb k m.setting.limits.harts) refl) in
      λ i. record { facts = its_facts i; reserved = reserved i }

  place_more : place_after s (log ++ e ∷ []) ≡ next_place s place e
  place_more = place-more s log (e ∷ [])

  lt_eight : e.hart.0 < s.limits.harts
  lt_eight = let harts = ap (λ (z : Setting). z.limits.harts) was.so_far.setting in let lt = made.hart in omega arith

  within_next : e.hart.0 < length within → (k : ℕ) (b : Bool) → eqb e.hart.0 k ≡ b
      → get_or (set within e.hart.0 step.within) k false ≡ cond b (facts_at s place e).within (place.within k)
  within_next lt k true is =
      ap (λ j. get_or (set within e.hart.0 step.within) j false) (sym (eqb-true e.hart.0 k is))
      ∙ get_or-set_same within e.hart.0 step.within false lt
      ∙ ap (λ (t : Facts). t.within) its_facts
  within_next lt k false is =
      get_or-set_other within e.hart.0 k step.within false (λ same. eqb-false e.hart.0 k is (sym same)) ∙ was.within_are k

  its_eight : e.hart.0 < length within → step.entry.hart.0 < 8
  its_eight lt = let same = ap (λ (t : Facts). t.entry.hart.0) its_facts in let eight = was.eight in omega arith

  pub seen_more : e.hart.0 < length within → HasSeen s (log ++ e ∷ []) m' (steps ++ step ∷ []) (set within e.hart.0 step.within)
  seen_more lt =
      let so_far = logged_more s log m m' e was.so_far made.made in
      let run = run_of_setting s (log ++ e ∷ []) m' so_far in
      record {
        so_far = so_far;
        placed =
            subst (λ q. IsPlaced s q (history s (log ++ e ∷ []))) (sym place_more)
            (subst (IsPlaced s (next_place s place e)) (sym (history-append s log e)) (placed_next s log place e refl run was.placed));
        unreserved = subst (IsUnreserved s) (sym place_more) (unreserved_next s place e lt_eight was.unreserved);
        steps_are =
            map-append located_of steps (step ∷ [])
            ∙ ap (λ l. l ++ located_of step ∷ []) was.steps_are
            ∙ ap (λ x. located s (first_place s) log ++ x ∷ []) its_located
            ∙ ap (λ (q : Place). located s (first_place s) log ++ record { facts = facts_at s q e; reserved = q.machine.reserved } ∷ []) (at_first s log)
            ∙ sym (located-append s (first_place s) log (e ∷ []));
        harts = all_more IsOfEight steps step was.harts (record { hart = its_eight lt; reserved = made.eight });
        awaits = all_more (λ (x : Step). x.awaits ≡ x.begins) steps step was.awaits made.awaits;
        within_are = λ k. within_next lt k (eqb e.hart.0 k) refl ∙ sym (ap (λ (q : Place). q.within k) place_more);
        eight = length-set within e.hart.0 step.within ∙ was.eight;
      }

-- its hart is one of the eight
pub fits_eight : (s : Setting) (log : List Entry) (m m' : Seen) (e : Entry) (steps : List Step) (within : List Bool) (b : Bool) (step : Step) → HasSeen s log m steps within
    → IsSeen m m' e b step → s.limits.harts ≤ 8 → e.hart.0 < length within
fits_eight s log m m' e steps within b step was made most =
    let harts = ap (λ (z : Setting). z.limits.harts) was.so_far.setting in
    let lt = made.hart in
    let eight = was.eight in
    omega arith

-- AT THE END

module _ (s : Setting) (log : List Entry) (m : Seen) (steps : List Step) (within : List Bool) (was : HasSeen s log m steps within) where
  inside_past : (k : ℕ) (b : Bool) → ltb k m.setting.limits.harts ≡ b → cond b (inside_on (here_on m k) (runs (here_on m k))) false ≡ at_end s log k
  inside_past k true lt =
      ap (λ z. let here = here_in_history z (history z m.log) k in inside_on here (runs here)) was.so_far.setting
      ∙ ap (λ l. let here = here_in_history s (history s l) k in inside_on here (runs here)) was.so_far.made
      ∙ ap (λ here. inside_on here (runs here)) (sym (was.placed.here k))
  inside_past k false past =
      let harts = ap (λ (z : Setting). z.limits.harts) was.so_far.setting in
      let least = ltb-false k m.setting.limits.harts past in
      let run = run_of_setting s log m was.so_far in
      sym (ap (λ n. let here = here_in_plain s n k in inside_on here (runs here)) (machine_after s log)
      ∙ ap (inside_on (here_in_plain s (plain_after s log) k)) (idle_past s log k run (omega arith)))

  pub is_passage : (x : Passage) → steps_of x.details x.marks.items ≡ steps → are_known x.details x.marks.items ≡ true
      → ((k : ℕ) → get_or x.inside_at_end k false ≡ inside_there m k) → IsPassage s log x
  is_passage x steps_are known inside = record {
    block_run = run_of_setting s log m was.so_far;
    steps = ap (map located_of) steps_are ∙ was.steps_are;
    harts = subst AreOfEight (sym steps_are) was.harts;
    awaits = subst AllAwait (sym steps_are) was.awaits;
    known = known;
    inside = λ k. inside k ∙ inside_past k (ltb k m.setting.limits.harts) refl;
  }
