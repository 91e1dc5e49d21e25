-- Each event of a place that is the same as one that was stored, and that can be paid for, settles to such a
-- place.
use Rattle.std.proofs.Common.{◌≡◌, ℕ, ◌+◌, ◌-◌, ◌<◌, ◌≤◌, Bool, List, [], ◌∷◌, ◌++◌, length, Some, None, Contains, refl, sym, ◌∙◌, subst, arith}
use Rattle.std.proofs.lemmas.Bool.{false≢true}
use Rattle.std.proofs.lemmas.List.Elements.{All-contains}
use Rattle.mach_types.specs.Kernel.Threads.{Threads}
use Rattle.mach_types.specs.declared.events.Choice.{Choice}
use Rattle.mach_types.specs.declared.events.Choice.TheVariants as asked
use Rattle.mach_types.specs.declared.events.Entry.{Entry}
use Rattle.mach_types.specs.declared.limits.End.{End}
use Rattle.block_model.specs.Events.{refusal_of}
use Rattle.block_model.specs.Here.{Here}
use Rattle.block_model.specs.Plain.{Plain, here_in_plain, plain_after, plain_over, plain_start}
use Rattle.block_model.specs.Run.{IsBlockRun}
use Rattle.block_model.specs.Setting.{Setting}
use Rattle.block_model.proofs.Laws.{IsGood, run_ready, start_plain}
use Rattle.local_steps.specs.Explorations.{IsClosed, SettlesTo, Tally}
use Rattle.local_steps.specs.Resting.{LeavesAreas, RestsOutside}
use Rattle.local_steps.proofs.Notions.{EndsSo}
use Rattle.local_steps.proofs.Tallies.{AllPass}
use Rattle.local_steps.proofs.WithAreas.{complete_with_areas}
use Rattle.local_steps.specs.Runs.{MayCome, choices, next_of, total}
use Rattle.prompt_runs.specs.Owed.{none_owed, owed_after, owed_next, traps}
use Rattle.prompt_runs.specs.Prompt.{IsInTime, IsSpokenOf}
use Rattle.search_reductions.specs.declared.signals.Signals.{Signals}
use Rattle.prompt_runs.proofs.InTime.{IsFitting, fitting_after, fitting_next, owed_more}
use Rattle.same_places.specs.Closed.{HasOutcome}
use Rattle.same_places.specs.Places.{IsCarried, IsSamePlace}
use Rattle.same_places.proofs.Laws.{same_itself}
use Rattle.same_places.specs.Searched.{IsOpen, IsTried}
use Rattle.settled_places.specs.Budgets.{IsOpenWithin, IsSettledSearchWithin, spent}
use Rattle.settled_places.specs.SettledSearch.{IsOpenInTime, IsSettledSearch, LeadsToStored}
use Rattle.settled_places.specs.Settling.{settles_of}
use Rattle.settled_places.proofs.OwedSignals.{FitsOwed, can_owe_same, owed_same, owed_tally, run_tally}
use Rattle.settled_places.proofs.SameSteps.{calm_same, in_time_back, traps_same}
use Rattle.settled_places.proofs.Events.{HasRoom, IsWell, stands_on, well_on, may_back, next_same}
use Rattle.settled_places.proofs.Leads.{itself}
use Rattle.settled_places.proofs.Settled.{IsThere, settled, tables_of, room_after}

-- what is free costs nothing
pub free_of_charge : (log : List (ℕ × Choice)) → total (λ c. 0) log ≤ 0
free_of_charge [] = omega arith
free_of_charge (a ∷ log) = let rest = free_of_charge log in omega arith

-- a choice that may come has to be tried
tried : (here : Here) (c : Choice) → refusal_of c here ≡ None → IsTried here.kernel.threads c
tried here asked.Exec free = tt
tried here asked.Drain free = tt
tried here asked.Take free = tt
tried here asked.Done free = tt
tried here asked.Preempt free = tt
tried here (asked.Run t) free = (run_ready here t.0 free).1
tried here asked.Signal free = tt

-- it is open among others too
pub open_among : (s : Setting) (logs some : List (List Entry)) (log : List Entry) (h : ℕ) (c : Choice) → Contains logs log → IsOpen s some log h c → IsOpen s logs log h c
open_among s logs some log h c among x = record { visited = among; goes = x.goes; lt = x.lt; tried = x.tried }

pub timely_among : (s : Setting) (signals : Signals) (logs some : List (List Entry)) (log : List Entry) (h : ℕ) (c : Choice) → Contains logs log → IsOpenInTime s signals some log h c
    → IsOpenInTime s signals logs log h c
timely_among s signals logs some log h c among x = record { opens = open_among s logs some log h c among x.opens; in_time = x.in_time }

-- a choice that may come after a log is open there
pub open_where : (s : Setting) (logs : List (List Entry)) (log : List Entry) (a : ℕ × Choice) → Contains logs log → MayCome s (plain_after s log) a → IsOpen s logs log a.0 a.1
open_where s logs log a among may = record { visited = among; goes = may.goes; lt = may.lt; tried = tried (here_in_plain s (plain_after s log) a.0) a.1 may.free }

-- A FAMILY OF LOGS

module _ (s : Setting) (signals : Signals) (threads : ℕ → Bool) (private : ℕ → ℕ → Bool) (cost : Choice → ℕ) (k : ℕ) where
  -- a choice is open after a log, and comes in time, and the two together cost no more than k
  pub record IsPayable (log : List Entry) (h : ℕ) (c : Choice) : Type 0 where
    pub opens : IsOpenInTime s signals (log ∷ []) log h c
    pub cheap : spent cost log + cost c ≤ k

  -- its event settles back to a log of the family that has paid no more than this
  pub record LeadsInto (Stored : List Entry → Type 0) (log : List Entry) (h : ℕ) (c : Choice) : Type 0 where
    pub logs : List (List Entry)
    pub leads : LeadsToStored s signals threads private logs log h c
    pub stored : Stored leads.settles.other
    pub no_dearer : spent cost leads.settles.other ≤ spent cost log + cost c

  -- logs that were stored, and that no event leaves which comes in time and can be paid for
  pub record IsFamily (Stored : List Entry → Type 0) : Type 0 where
    pub steps : s.limits.steps ≤ 1000000
    pub runs : (log : List Entry) → Stored log → IsBlockRun s log
    pub room : (log : List Entry) → Stored log → plain_over (plain_after s log) ≡ None → length log < s.limits.steps
    pub carried : (log : List Entry) (h : ℕ) (c : Choice) → Stored log → IsPayable log h c → IsCarried s (plain_after s log) h c
    pub calm : (log : List Entry) (h : ℕ) (c : Choice) → Stored log → IsPayable log h c → refusal_of c (here_in_plain s (plain_after s log) h) ≡ None
        → LeavesAreas s (settles_of threads) private (plain_after s log) (h, c)
    pub next : (log : List Entry) (h : ℕ) (c : Choice) → Stored log → IsPayable log h c → refusal_of c (here_in_plain s (plain_after s log) h) ≡ None
        → LeadsInto Stored log h c

-- those that a finished search stored are one
pub all_stored : (s : Setting) (signals : Signals) (threads : ℕ → Bool) (private : ℕ → ℕ → Bool) (cost : Choice → ℕ) (k : ℕ) (logs : List (List Entry))
    → IsSettledSearchWithin s signals threads private cost k logs → IsFamily s signals threads private cost k (Contains logs)
all_stored s signals threads private cost k logs found = record {
  steps = found.steps;
  runs = λ log stored. All-contains (IsBlockRun s) logs log found.runs stored;
  room = found.room;
  carried = λ log h c stored x. found.carried log h c (within log h c stored x);
  calm = λ log h c stored x. found.calm log h c (within log h c stored x);
  next = λ log h c stored x free.
      let leads = found.next log h c (within log h c stored x) free in
      record { logs = logs; leads = leads.0; stored = leads.0.settles.stored; no_dearer = leads.1 };
}
  where
    within : (log : List Entry) (h : ℕ) (c : Choice) → Contains logs log → IsPayable s signals threads private cost k log h c → IsOpenWithin s signals cost k logs log h c
    within log h c stored x = record { opens = timely_among s signals logs (log ∷ []) log h c stored x.opens; cheap = x.cheap }

-- and so are some of them, where each event of these leads to one of these, and nothing costs anything
pub part : (s : Setting) (signals : Signals) (threads : ℕ → Bool) (private : ℕ → ℕ → Bool) (logs : List (List Entry)) (found : IsSettledSearch s signals threads private logs) (Stored : List Entry → Type 0)
    → ((log : List Entry) → Stored log → Contains logs log)
    → ((log : List Entry) (h : ℕ) (c : Choice) → Stored log → IsOpenInTime s signals (log ∷ []) log h c → refusal_of c (here_in_plain s (plain_after s log) h) ≡ None
    → (some : List (List Entry)) × (leads : LeadsToStored s signals threads private some log h c) × Stored leads.settles.other)
    → IsFamily s signals threads private (λ c. 0) 0 Stored
part s signals threads private logs found Stored among next = record {
  steps = found.steps;
  runs = λ log stored. All-contains (IsBlockRun s) logs log found.runs (among log stored);
  room = λ log stored. found.room log (among log stored);
  carried = λ log h c stored x. found.carried log h c (timely_among s signals logs (log ∷ []) log h c (among log stored) x.opens);
  calm = λ log h c stored x. found.calm log h c (timely_among s signals logs (log ∷ []) log h c (among log stored) x.opens);
  next = λ log h c stored x free.
      let on = next log h c stored x.opens free in
      let nothing = free_of_charge (choices on.1.settles.other) in
      record { logs = on.0; leads = on.1; stored = on.2; no_dearer = omega arith };
}

-- where choices cost nothing, each can be paid for
pub without_budget : (s : Setting) (signals : Signals) (threads : ℕ → Bool) (private : ℕ → ℕ → Bool) (logs : List (List Entry)) → IsSettledSearch s signals threads private logs
    → IsSettledSearchWithin s signals threads private (λ c. 0) 0 logs
without_budget s signals threads private logs found = record {
  steps = found.steps;
  runs = found.runs;
  spoken = found.spoken;
  room = found.room;
  start = (found.start, free_of_charge (choices found.start.other));
  carried = λ log h c x. found.carried log h c x.opens;
  calm = λ log h c x free. found.calm log h c x.opens free;
  next = λ log h c x free.
      let leads = found.next log h c x.opens free in
      let nothing = free_of_charge (choices leads.settles.other) in
      (leads, omega arith);
}

-- the places after logs of a family
abbrev pub after_stored : Setting → (List Entry → Type 0) → Plain → Type 0
after_stored s Stored p = (log : List Entry) × Stored log × (plain_after s log ≡ p)

-- a machine at a place that was stored, whose log leaves so much of the budget, and after which so much is owed
pub record IsPaid (s : Setting) (signals : Signals) (cost : Choice → ℕ) (k : ℕ) (Stored : List Entry → Type 0) (kept : ℕ × (ℕ → Bool)) (m : Plain) : Type 0 where
  pub there : IsThere s Stored m
  pub cheap : kept.0 + spent cost there.log ≤ k
  pub owes : owed_after signals s there.log ≡ kept.1

-- one that settles to such a machine
pub record Lands (s : Setting) (signals : Signals) (threads : ℕ → Bool) (private : ℕ → ℕ → Bool) (cost : Choice → ℕ) (k : ℕ) (Stored : List Entry → Type 0) (kept : ℕ × (ℕ → Bool)) (m : Plain)
    : Type 0 where
  pub to : Plain
  pub paid : IsPaid s signals cost k Stored kept to
  pub settles : SettlesTo s private (RestsOutside (settles_of threads)) m to

-- what is owed after an event is the same at places that are the same
pub owed_too : (s : Setting) (signals : Signals) (p m : Plain) (a : ℕ × Choice) (before owed : ℕ → Bool) → a.0 < s.limits.harts → IsSamePlace s p m → IsSamePlace s (next_of s p a) (next_of s m a)
    → before ≡ owed → owed_next signals s p before a.0 a.1 ≡ owed_next signals s m owed a.0 a.1
owed_too s signals p m a before owed lt same next owes = λ i j. by_hart j i
  where
    by_hart : (j : ℕ) → owed_next signals s p before a.0 a.1 j ≡ owed_next signals s m owed a.0 a.1 j
    by_hart j =
        owed_same signals s p m before owed a.0 a.1 j (can_owe_same signals s (next_of s p a) (next_of s m a) j (sym next.tables.threads) (sym next.tables.signals))
        (λ is. sym (traps_same s p m same a.0 lt)) (λ i. owes i a.0) (λ i. owes i j)

module _ (s : Setting) (signals : Signals) (threads : ℕ → Bool) (private : ℕ → ℕ → Bool) (cost : Choice → ℕ) (k : ℕ) (Stored : List Entry → Type 0)
    (family : IsFamily s signals threads private cost k Stored) where
  abbrev tally : Tally
  tally = run_tally s signals private cost

  module _ (kept : ℕ × (ℕ → Bool)) (m : Plain) (a : ℕ × Choice) (paid : IsPaid s signals cost k Stored kept m) (may : MayCome s m a) (passes : tally.Passes kept m a) where
    abbrev log : List Entry
    log = paid.there.log

    abbrev p : Plain
    p = plain_after s log

    opens : IsOpen s (log ∷ []) log a.0 a.1
    opens = record {
      visited = itself log;
      goes = sym paid.there.same.over ∙ may.goes;
      lt = may.lt;
      tried = subst (λ (ts : Threads). IsTried ts a.1) paid.there.same.tables.threads (tried (here_in_plain s m a.0) a.1 may.free);
    }

    pub in_time_there : IsInTime p (owed_after signals s log) a.0 a.1
    in_time_there = in_time_back s p m paid.there.same (owed_after signals s log) kept.1 a.0 a.1 may.lt (λ i. sym paid.owes i a.0) passes.1

    payable : IsPayable s signals threads private cost k log a.0 a.1
    payable = let enough = paid.cheap in let free = passes.0 in record { opens = record { opens = opens; in_time = in_time_there }; cheap = omega arith }

    place : HasRoom s p
    place = room_after s log (family.runs log paid.there.stored) (family.room log paid.there.stored opens.goes)

    carried : IsCarried s p a.0 a.1
    carried = family.carried log a.0 a.1 paid.there.stored payable

    pub may_there : MayCome s p a
    may_there = may_back s family.steps p m a place paid.there.well paid.there.same carried may

    leads : IsSamePlace s (next_of s p a) (next_of s m a)
    leads = next_same s family.steps p m a place paid.there.well paid.there.same carried may_there

    calm : LeavesAreas s (settles_of threads) private m a
    calm =
        calm_same s (settles_of threads) private p m a paid.there.same (tables_of s p place.stands) leads (tables_of s (next_of s p a) (stands_on s p a place.stands may_there))
        (family.calm log a.0 a.1 paid.there.stored payable may_there.free)

    lands : Lands s signals threads private cost k Stored (tally.next kept m a) (next_of s m a)
    lands =
        let x = family.next log a.0 a.1 paid.there.stored payable may_there.free in
        let enough = paid.cheap in
        let free = passes.0 in
        let no_dearer = x.no_dearer in
        let e = x.leads.entry in
        let owes : owed_after signals s (log ++ e ∷ []) ≡ owed_next signals s m kept.1 a.0 a.1 =
        owed_more signals s log (e ∷ []) ∙ (λ i. owed_next signals s p (owed_after signals s log) (x.leads.hart i) (x.leads.choice i))
        ∙ owed_too s signals p m a (owed_after signals s log) kept.1 may.lt paid.there.same leads paid.owes in
        let at = settled s signals threads private family.steps x.logs (log ++ e ∷ []) (owed_next signals s m kept.1 a.0 a.1) (next_of s m a) x.leads.settles
        (family.runs x.leads.settles.other x.stored) (well_on s m a paid.there.well may) (subst (λ (y : Plain). IsSamePlace s y (next_of s m a)) (sym x.leads.next) leads) owes
        (fitting_next signals s kept.1 m a.0 a.1) in
        record {
          to = at.to;
          paid = record { there = record { well = at.well; log = x.leads.settles.other; stored = x.stored; same = at.same }; cheap = omega arith; owes = at.owes };
          settles = at.settles;
        }

  outcome : (m : Plain) (e : End) → IsThere s Stored m → plain_over m ≡ Some e → HasOutcome (after_stored s Stored) e m.kernel.console
  outcome m e there over = record {
    place = plain_after s there.log;
    member = (there.log, there.stored, refl);
    over = sym there.same.over ∙ over;
    console_is = sym there.same.tables.console;
  }

  pub closed_by : IsClosed s private (RestsOutside (settles_of threads)) (LeavesAreas s (settles_of threads) private) tally (IsPaid s signals cost k Stored) (HasOutcome (after_stored s Stored))
  closed_by = record {
    ends = λ kept m e paid over. outcome m e paid.there over;
    calm = calm;
    steps = λ kept m a paid may passes. let x = lands kept m a paid may passes in (x.to, x.paid, x.settles);
  }

  -- how a run by choices ends, from a machine that settles to a place of the family
  pub ends_in : (kept : ℕ × (ℕ → Bool)) (m : Plain) → IsGood s m → IsFitting signals s kept.1 m → Lands s signals threads private cost k Stored kept m → (log : List (ℕ × Choice)) (e : End)
      (out : List ℕ) → AllPass s tally kept m log → EndsSo s m log e out → HasOutcome (after_stored s Stored) e out
  ends_in kept m good fits x log e out pass so =
      complete_with_areas s (settles_of threads) private tally (FitsOwed s signals private cost) (owed_tally s signals private cost) (IsPaid s signals cost k Stored) (HasOutcome (after_stored s Stored))
      closed_by (λ kept m paid. paid.there.well.good) kept m x.to log e out good fits x.paid x.settles pass so

-- the start lands where a finished search found it
pub starts : (s : Setting) (signals : Signals) (threads : ℕ → Bool) (private : ℕ → ℕ → Bool) (cost : Choice → ℕ) (k : ℕ) (logs : List (List Entry))
    (found : IsSettledSearchWithin s signals threads private cost k logs) → IsWell s (plain_start s) → Lands s signals threads private cost k (Contains logs) (k, none_owed) (plain_start s)
starts s signals threads private cost k logs found well =
    let back = found.start.0 in
    let free = found.start.1 in
    let at = settled s signals threads private found.steps logs [] none_owed (plain_start s) back (All-contains (IsBlockRun s) logs back.other found.runs back.stored) well
    (subst (λ (y : Plain). IsSamePlace s y (plain_start s)) (sym (start_plain s)) (same_itself s (plain_start s))) refl (λ h is. absurd (false≢true is)) in
    record {
      to = at.to;
      paid = record { there = record { well = at.well; log = back.other; stored = back.stored; same = at.same }; cheap = omega arith; owes = at.owes };
      settles = at.settles;
    }

-- a machine of a family fits
pub paid_fits : (s : Setting) (signals : Signals) (cost : Choice → ℕ) (k : ℕ) (Stored : List Entry → Type 0) (kept : ℕ × (ℕ → Bool)) (m : Plain) → IsPaid s signals cost k Stored kept m
    → IsFitting signals s kept.1 m
paid_fits s signals cost k Stored kept m paid h is =
    let p = plain_after s paid.there.log in
    sym (can_owe_same signals s p m h (sym paid.there.same.tables.threads) (sym paid.there.same.tables.signals)) ∙ fitting_after signals s paid.there.log h ((λ i. paid.owes i h) ∙ is)
