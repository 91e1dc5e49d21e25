-- What walks along the edges of stored places tell of where runs can end, and of how many instructions they execute.
use Rattle.std.proofs.Common.{◌≡◌, ◌≢◌, ℕ, zero, suc, ◌+◌, ◌*◌, ◌<◌, ◌≤◌, Bool, true, List, [], ◌∷◌, ◌++◌, length, Option, Some, None, Contains, refl, sym, ap, ◌∙◌, subst, arith}
use Rattle.std.proofs.Math.Nat.{mul-le-mul_right}
use Rattle.std.proofs.lemmas.List.{get_or_default}
use Rattle.std.proofs.lemmas.List.Elements.{All-contains, Contains-get_or}
use Rattle.mach_types.specs.Events.{choice_of}
use Rattle.mach_types.specs.declared.events.Choice.{Choice}
use Rattle.mach_types.specs.declared.events.Entry.{Entry}
use Rattle.mach_types.specs.declared.limits.End.{End}
use Rattle.block_model.specs.Events.{refusal_of}
use Rattle.block_model.specs.Plain.{Plain, here_in_plain, plain_after, plain_over, plain_start}
use Rattle.block_model.specs.Run.{IsBlockRun}
use Rattle.block_model.specs.Setting.{Seen, Setting}
use Rattle.mach_types.specs.declared.threads.Saved.{Saved}
use Rattle.block_model.proofs.Laws.{IsGood, good_at, standing, within_limit}
use Rattle.local_steps.specs.Explorations.{IsClosed, Settled, SettlesTo, Tally}
use Rattle.local_steps.specs.Resting.{LeavesAreas, RestsOutside}
use Rattle.local_steps.specs.Runs.{MayCome, choices, instructions_by, next_of, total}
use Rattle.local_steps.proofs.BlockRuns.{start_good}
use Rattle.local_steps.proofs.CanEnd.{CanEndFrom, ExecuteAtMost, StepsPass, can_before, can_settled, each_can_end, executes_settled, goes_settled, one_at_most, steps_in}
use Rattle.local_steps.proofs.Notions.{EndsSo, Goes, gone}
use Rattle.local_steps.proofs.Tallies.{AllPass, IsSteady, IsTally}
use Rattle.local_steps.proofs.WithAreas.{areas_pass}
use Rattle.prompt_runs.specs.Owed.{none_owed, owed_after, owed_next}
use Rattle.prompt_runs.specs.Prompt.{IsInTime, IsSpokenOf}
use Rattle.search_reductions.specs.declared.signals.Signals.{Signals}
use Rattle.prompt_runs.proofs.InTime.{IsFitting, fitting_after, fitting_next, owed_more}
use Rattle.same_places.specs.Closed.{HasOutcome}
use Rattle.same_places.specs.FreeRuns.{IsFreeRun}
use Rattle.same_places.specs.Places.{IsSamePlace}
use Rattle.same_places.proofs.Laws.{allowed, same_itself}
use Rattle.settled_places.specs.Edges.{AreBusyEdges, AreEdges, IsEdge, LeadsTo, executed_along, log_by_number}
use Rattle.settled_places.specs.Endings.{CanEnd, HasLongWork, IsWorkBounded}
use Rattle.settled_places.specs.SettledSearch.{IsOpenInTime, IsSettledSearch, LeadsToStored}
use Rattle.settled_places.specs.Settling.{AreSettlingSteps, settles_of}
use Rattle.settled_places.specs.Walks.{AreRanks, ComesTo, GoesRound, IsTrap, ReachesEnd}
use Rattle.settled_places.specs.Walks.ComesTo.{Further, Here}
use Rattle.settled_places.specs.Walks.ReachesEnd.{Along as Along_end, There}
use Rattle.settled_places.proofs.Closed.{IsFamily, IsPaid, Lands, after_stored, all_stored, closed_by, ends_in, free_of_charge, in_time_there, may_there, open_where, owed_too, paid_fits, part, starts, timely_among, without_budget}
use Rattle.settled_places.proofs.Events.{IsWell, may_too, next_same, well_on}
use Rattle.settled_places.proofs.FreeRuns.{can_from, can_of, entries, executed_entries, executed_joined, free_block, goes_start, gone_start, kept_all, pass_all, run_of, spoken_of}
use Rattle.settled_places.proofs.Leads.{only}
use Rattle.settled_places.proofs.OwedSignals.{FitsOwed, can_owe_same, owed_steady, owed_tally, run_tally}
use Rattle.settled_places.proofs.Runs.{none_fits, start_well}
use Rattle.settled_places.proofs.SameSteps.{in_time_same}
use Rattle.settled_places.proofs.Settled.{IsThere, room_after, settled}

some_of : {A : Type 0} (o : Option A) → o ≢ None → (x : A) × (o ≡ Some x)
some_of None none = absurd (none refl)
some_of (Some x) none = (x, refl)

ends_gone : (s : Setting) (log : List (ℕ × Choice)) (m : Plain) (e : End) → Goes s m log → plain_over (gone s m log) ≡ Some e → EndsSo s m log e (gone s m log).kernel.console
ends_gone s [] m e goes over = (over, refl)
ends_gone s (a ∷ log) m e goes over = (goes.0, ends_gone s log (next_of s m a) e goes.1 over)

module _ (s : Setting) (signals : Signals) (threads : ℕ → Bool) (private : ℕ → ℕ → Bool) (logs : List (List Entry)) (found : IsSettledSearch s signals threads private logs) where
  abbrev at : ℕ → List Entry
  at k = log_by_number logs k

  among : (k : ℕ) → k < length logs → Contains logs (at k)
  among k lt = Contains-get_or logs k [] lt

  runs : (k : ℕ) → k < length logs → IsBlockRun s (at k)
  runs k lt = All-contains (IsBlockRun s) logs (at k) found.runs (among k lt)

  spoken : (k : ℕ) → k < length logs → IsSpokenOf signals s (at k)
  spoken k lt = All-contains (IsSpokenOf signals s) logs (at k) found.spoken (among k lt)

  room : (k : ℕ) → k < length logs → plain_over (plain_after s (at k)) ≡ None → length (at k) < s.limits.steps
  room k lt = found.room (at k) (among k lt)

  some_steps : (k : ℕ) → k < length logs → (a : ℕ × Choice) → MayCome s (plain_after s (at k)) a → 0 < s.limits.steps
  some_steps k lt a may = let left = room k lt may.goes in omega arith

  well : (k : ℕ) → k < length logs → IsWell s (plain_after s (at k))
  well k lt =
      let v : Seen = record { setting = s; seed = 0; log = at k } in
      record { good = good_at v (runs k lt); stands = standing v (runs k lt) }

  -- a machine that is the same place as that of log number k
  record IsAt (k : ℕ) (m : Plain) : Type 0 where
    pub lt : k < length logs
    pub well : IsWell s m
    pub same : IsSamePlace s (plain_after s (at k)) m

  itself_at : (k : ℕ) → k < length logs → IsAt k (plain_after s (at k))
  itself_at k lt = record { lt = lt; well = well k lt; same = same_itself s (plain_after s (at k)) }

  -- what is kept along runs, where choices cost nothing, and what is after log number k
  abbrev tally : Tally
  tally = run_tally s signals private (λ c. 0)

  abbrev owed_at : ℕ → ℕ → Bool
  owed_at k = owed_after signals s (at k)

  abbrev kept_at : ℕ → ℕ × (ℕ → Bool)
  kept_at k = (0, owed_at k)

  fits_at : (k : ℕ) (m : Plain) → IsAt k m → IsFitting signals s (owed_at k) m
  fits_at k m x h is =
      sym (can_owe_same signals s (plain_after s (at k)) m h (sym x.same.tables.threads) (sym x.same.tables.signals)) ∙ fitting_after signals s (at k) h is

  -- a machine of the family
  abbrev Seen_there : ℕ × (ℕ → Bool) → Plain → Type 0
  Seen_there kept m = IsPaid s signals (λ c. 0) 0 (Contains logs) kept m

  there_at : (k : ℕ) (m : Plain) → IsAt k m → Seen_there (kept_at k) m
  there_at k m x =
      let nothing = free_of_charge (choices (at k)) in
      record { there = record { well = x.well; log = at k; stored = among k x.lt; same = x.same }; cheap = omega arith; owes = refl }

  at_there : (kept : ℕ × (ℕ → Bool)) (m : Plain) → Seen_there kept m → (k : ℕ) × IsAt k m × (kept_at k ≡ kept)
  at_there kept m x =
      let k = x.there.stored.0 in
      let is : x.there.log ≡ at k = sym x.there.stored.2 ∙ get_or_default logs k x.there.log [] x.there.stored.1 in
      let none : kept.0 ≡ 0 = let paid = x.cheap in omega arith in
      let owes : owed_at k ≡ kept.1 = ap (owed_after signals s) (sym is) ∙ x.owes in (
        k,
        record { lt = x.there.stored.1; well = x.there.well; same = subst (λ (l : List Entry). IsSamePlace s (plain_after s l) m) is x.there.same },
        (λ i. (sym none i, owes i)),
      )

  -- an event comes there too, and leads by n settling steps to the place of log number j
  record Along (n k j : ℕ) (m : Plain) (a : ℕ × Choice) : Type 0 where
    pub may : MayCome s m a
    pub passes : tally.Passes (kept_at k) m a
    pub to : Plain
    pub there : IsAt j to
    pub keeps : kept_at j ≡ tally.next (kept_at k) m a
    pub settles : SettlesTo s private (RestsOutside (settles_of threads)) (next_of s m a) to
    pub steps_pass : StepsPass tally (tally.next (kept_at k) m a) settles
    pub count : steps_in settles ≡ n
    pub few : n ≤ s.limits.steps

  along : (k j : ℕ) (m : Plain) (a : ℕ × Choice) → IsAt k m → j < length logs → MayCome s (plain_after s (at k)) a → IsInTime (plain_after s (at k)) (owed_at k) a.0 a.1
      → (leads : LeadsTo s signals threads private (at k) (at j) a.0 a.1) → Along (length leads.settles.more) k j m a
  along k j m a x lt may in_time leads =
      let p = plain_after s (at k) in
      let place = room_after s (at k) (runs k x.lt) (room k x.lt may.goes) in
      let carried = found.carried (at k) a.0 a.1 (record { opens = open_where s logs (at k) a (among k x.lt) may; in_time = in_time }) in
      let here = may_too s found.steps p m a place x.well x.same carried may in
      let next = next_same s found.steps p m a place x.well x.same carried may in
      let same = subst (λ (y : Plain). IsSamePlace s y (next_of s m a)) (sym leads.next) next in
      let on = well_on s m a x.well here in
      let back = leads.settles in
      let is = only (at j) back.other back.stored in
      let owes : owed_after signals s (at k ++ leads.entry ∷ []) ≡ owed_next signals s m (owed_at k) a.0 a.1 =
      owed_more signals s (at k) (leads.entry ∷ []) ∙ (λ i. owed_next signals s p (owed_at k) (leads.hart i) (leads.choice i))
      ∙ owed_too s signals p m a (owed_at k) (owed_at k) may.lt x.same next refl in
      let landed = settled s signals threads private found.steps (at j ∷ []) (at k ++ leads.entry ∷ []) (owed_next signals s m (owed_at k) a.0 a.1) (next_of s m a) back
      (subst (IsBlockRun s) (sym is) (runs j lt)) on same owes (fitting_next signals s (owed_at k) m a.0 a.1) in
      record {
        may = here;
        passes = (omega arith, in_time_same s p m x.same (owed_at k) (owed_at k) a.0 a.1 may.lt refl in_time);
        to = landed.to;
        there = record { lt = lt; well = landed.well; same = subst (λ (l : List Entry). IsSamePlace s (plain_after s l) landed.to) is landed.same };
        keeps = λ i. (0, (ap (owed_after signals s) (sym is) ∙ landed.owes) i);
        settles = landed.settles;
        steps_pass = landed.passes;
        count = landed.count;
        few = landed.few;
      }

  -- the logs are a family, and the start settles to one of its machines
  family : IsFamily s signals threads private (λ c. 0) 0 (Contains logs)
  family = all_stored s signals threads private (λ c. 0) 0 logs (without_budget s signals threads private logs found)

  start : Lands s signals threads private (λ c. 0) 0 (Contains logs) (0, none_owed) (plain_start s)
  start = starts s signals threads private (λ c. 0) 0 logs (without_budget s signals threads private logs found) (start_well s)

  abbrev MayRest : ℕ → Saved → Plain → Type 0
  MayRest = RestsOutside (settles_of threads)

  abbrev IsCalmAt : Plain → ℕ × Choice → Type 0
  IsCalmAt = LeavesAreas s (settles_of threads) private

  abbrev Fits : ℕ × (ℕ → Bool) → Plain → Type 0
  Fits = FitsOwed s signals private (λ c. 0)

  is_tally : IsTally s tally private Fits
  is_tally = owed_tally s signals private (λ c. 0)

  steady : IsSteady s tally private Fits
  steady = owed_steady s signals private (λ c. 0) refl

  closed : IsClosed s private MayRest IsCalmAt tally Seen_there (HasOutcome (after_stored s (Contains logs)))
  closed = closed_by s signals threads private (λ c. 0) 0 (Contains logs) family

  seen_good : (kept : ℕ × (ℕ → Bool)) (m : Plain) → Seen_there kept m → IsGood s m
  seen_good kept m x = x.there.well.good

  seen_fits : (kept : ℕ × (ℕ → Bool)) (m : Plain) → Seen_there kept m → Fits kept m
  seen_fits kept m x = paid_fits s signals (λ c. 0) 0 (Contains logs) kept m x

  -- where the start goes on, a run may have an entry
  some_by : (more other : List Entry) → AreSettlingSteps s signals threads private [] more → Contains logs other → IsSamePlace s (plain_after s other) (plain_after s ([] ++ more))
      → plain_over (plain_after s []) ≡ None → 0 < s.limits.steps
  some_by [] other steps stored same goes = let left = found.room other stored (sym same.over ∙ goes) in omega arith
  some_by (e ∷ more) other steps stored same goes = let one = within_limit s (e ∷ []) steps.0.run in omega arith

  some_free : (log : List Entry) → IsFreeRun s log → (a : ℕ × Choice) → MayCome s (plain_after s log) a → 0 < s.limits.steps
  some_free [] free a may = let back = found.start in some_by back.more back.other back.steps back.stored back.same may.goes
  some_free (x ∷ log) free a may = (allowed 0 (plain_over (plain_start s)) (choice_of x) (here_in_plain s (plain_start s) x.hart.0) x free.0).room

  module _ (edges : ℕ → List ℕ) (are : AreEdges s signals threads private logs edges) where
    -- WHERE RUNS CAN END

    near_end : (k : ℕ) (m : Plain) → IsAt k m → ReachesEnd s logs edges k → CanEndFrom s tally (kept_at k) m
    near_end k m x (There over) =
        let ended = some_of (plain_over (plain_after s (at k))) over in
        record { log = []; passes = tt; goes = tt; end = ended.0; over = x.same.over ∙ ended.1 }
    near_end k m x (Along_end j listed reaches) =
        let edge = are.made k j x.lt listed in
        let a : ℕ × Choice = (edge.hart, edge.choice) in
        let w = along k j m a x (are.numbers k j x.lt listed) edge.may edge.in_time edge.leads in
        can_before s tally (kept_at k) m a w.may w.passes
        (can_settled s private MayRest IsCalmAt tally Fits is_tally steady (tally.next (kept_at k) m a) (next_of s m a) w.to (well_on s m a x.well w.may).good (is_tally.fits_next (kept_at k) m a)
        w.settles w.steps_pass (subst (λ (kept : ℕ × (ℕ → Bool)). CanEndFrom s tally kept w.to) w.keeps (near_end j w.to w.there reaches)))

    pub can_end : (k : ℕ) → k < length logs → ReachesEnd s logs edges k → CanEnd s signals (at k)
    can_end k lt reaches =
        can_of s signals private (at k) (free_block s (at k) (runs k lt)) (spoken k lt) (some_steps k lt) (near_end k (plain_after s (at k)) (itself_at k lt) reaches)

    seen_ends : ((k : ℕ) → k < length logs → ReachesEnd s logs edges k) → (kept : ℕ × (ℕ → Bool)) (m : Plain) → Seen_there kept m → CanEndFrom s tally kept m
    seen_ends each kept m there =
        let x = at_there kept m there in
        subst (λ (k : ℕ × (ℕ → Bool)). CanEndFrom s tally k m) x.2 (near_end x.0 m x.1 (each x.0 x.1.lt))

    pub all_end : ((k : ℕ) → k < length logs → ReachesEnd s logs edges k) → (log : List Entry) → IsFreeRun s log → IsSpokenOf signals s log → CanEnd s signals log
    all_end each log free is_spoken =
        let can =
        each_can_end s private MayRest IsCalmAt tally Fits is_tally (areas_pass s (settles_of threads) private) Seen_there (HasOutcome (after_stored s (Contains logs))) closed seen_good seen_fits steady
        (seen_ends each) (0, none_owed) (plain_start s) start.to (start_good s) (none_fits s signals (plain_start s)) start.paid start.settles (choices log)
        (pass_all s signals private log none_owed (plain_start s) is_spoken) (goes_start s log free) in
        let there = subst (λ (kept : ℕ × (ℕ → Bool)). CanEndFrom s tally kept (gone s (plain_start s) (choices log))) (kept_all s signals private log none_owed (plain_start s)) can in
        can_of s signals private log free is_spoken (some_free log free) (subst (CanEndFrom s tally (0, owed_after signals s log)) (gone_start s log) there)

    -- WHERE THEY CAN'T

    module _ (marked : ℕ → Bool) (trap : IsTrap s logs edges marked) where
      -- the logs of these numbers are a family
      record IsLost (log : List Entry) : Type 0 where
        pub number : ℕ
        pub lt : number < length logs
        pub among : marked number ≡ true
        pub is : log ≡ at number

      lost_next : (k h : ℕ) (c : Choice) → k < length logs → marked k ≡ true → (log : List Entry) → log ≡ at k → IsOpenInTime s signals (log ∷ []) log h c
          → refusal_of c (here_in_plain s (plain_after s log) h) ≡ None
          → (some : List (List Entry)) × (leads : LeadsToStored s signals threads private some log h c) × IsLost leads.settles.other
      lost_next k h c lt its log is opens free =
          let opened : IsOpenInTime s signals logs log h c = timely_among s signals logs (log ∷ []) log h c (subst (Contains logs) (sym is) (among k lt)) opens in
          let edge =
          are.all k h c lt (subst (λ (l : List Entry). IsOpenInTime s signals logs l h c) is opened) (subst (λ (l : List Entry). refusal_of c (here_in_plain s (plain_after s l) h) ≡ None) is free) in
          let leads = subst (λ (l : List Entry). LeadsTo s signals threads private l (at edge.to) h c) (sym is) edge.leads in (
            at edge.to ∷ [],
            leads,
            record { number = edge.to; lt = are.numbers k edge.to lt edge.listed; among = trap.stays k edge.to lt its edge.listed; is = only (at edge.to) leads.settles.other leads.settles.stored },
          )

      lost_family : IsFamily s signals threads private (λ c. 0) 0 IsLost
      lost_family = part s signals threads private logs found IsLost (λ log lost. subst (Contains logs) (sym lost.is) (among lost.number lost.lt))
          (λ log h c lost opens free. lost_next lost.number h c lost.lt lost.among log lost.is opens free)

      pub hopeless : (k : ℕ) → k < length logs → marked k ≡ true → CanEnd s signals (at k) → ⊥
      hopeless k lt its can =
          let p = plain_after s (at k) in
          let from = can_from s signals private (at k) can in
          let lost : IsLost (at k) = record { number = k; lt = lt; among = its; is = refl } in
          let nothing = free_of_charge (choices (at k)) in
          let there : IsThere s IsLost p = record { well = well k lt; log = at k; stored = lost; same = same_itself s p } in
          let paid : IsPaid s signals (λ c. 0) 0 IsLost (kept_at k) p = record { there = there; cheap = omega arith; owes = refl } in
          let o = ends_in s signals threads private (λ c. 0) 0 IsLost lost_family (kept_at k) p there.well.good (fitting_after signals s (at k))
          (record { to = p; paid = paid; settles = Settled refl }) from.log from.end _ from.passes (ends_gone s from.log p from.end from.goes from.over) in
          let last = o.member.1 in
          let goes = trap.goes last.number last.lt last.among in
          let over = ap plain_over (ap (plain_after s) (sym last.is) ∙ o.member.2) ∙ o.over in
          let bad : None ≡ Some from.end = sym goes ∙ over in
          absurd cc

    module _ (busy : ℕ → List ℕ) (are_busy : AreBusyEdges s signals threads private logs edges busy) where
      -- RUNS THAT EXECUTE AS MANY INSTRUCTIONS AS YOU LIKE

      -- from the place of log number k there is a run that executes so many
      abbrev Executes : ℕ → ℕ → Type 0
      Executes n k = (m : Plain) → IsAt k m → (more : List (ℕ × Choice)) × AllPass s tally (kept_at k) m more × Goes s m more × (n ≤ total instructions_by more)

      -- an edge comes before it
      executes_before : (n k j : ℕ) (edge : IsEdge s signals threads private (at k) (at j)) → j < length logs → Executes n j
          → Executes (n + executed_along edge.choice edge.leads.settles.more) k
      executes_before n k j edge lt executes m x =
          let a : ℕ × Choice = (edge.hart, edge.choice) in
          let w = along k j m a x lt edge.may edge.in_time edge.leads in
          let rest = executes w.to w.there in
          let all = goes_settled s private MayRest IsCalmAt tally Fits is_tally steady (tally.next (kept_at k) m a) (next_of s m a) w.to (well_on s m a x.well w.may).good
          (is_tally.fits_next (kept_at k) m a) w.settles w.steps_pass rest.0 (subst (λ (kept : ℕ × (ℕ → Bool)). AllPass s tally kept w.to rest.0) w.keeps rest.1) rest.2 in
          let enough = rest.3 in
          let more = all.3 in
          let count = w.count in
          (a ∷ all.0, (w.passes, all.1), (w.may, all.2), omega arith)

      -- and a walk
      executes_on : (n to k : ℕ) → k < length logs → ComesTo edges to k → Executes n to → Executes n k
      executes_on n to k lt (Here is) executes m x = subst (Executes n) (sym is) executes m x
      executes_on n to k lt (Further j listed walk) executes m x =
          let edge = are.made k j lt listed in
          let there = are.numbers k j lt listed in
          let all = executes_before n k j edge there (executes_on n to j there walk executes) m x in
          let enough = all.3 in
          (all.0, all.1, all.2, omega arith)

      module _ (round : GoesRound logs edges busy) where
        goes_round : (n : ℕ) → Executes n round.from
        goes_round zero m x = ([], tt, tt, omega arith)
        goes_round (suc n) m x =
            let first = are_busy.made round.from round.to round.visited round.listed in
            let there = are_busy.numbers round.from round.to round.visited round.listed in
            let some = first.busy in
            let all = executes_before n round.from round.to first.edge there (executes_on n round.from round.to there round.back (goes_round n)) m x in
            let enough = all.3 in
            (all.0, all.1, all.2, omega arith)

        pub endless : HasLongWork s signals
        endless n =
            let k = round.from in
            let p = plain_after s (at k) in
            let x = goes_round n p (itself_at k round.visited) in
            let more = entries s p x.0 in
            let count = executed_entries s x.0 p in
            let all = executed_joined (at k) more in
            let many = x.3 in
            let free = free_block s (at k) (runs k round.visited) in (
              at k ++ more,
              run_of s signals private (at k) free (spoken k round.visited) (some_steps k round.visited) x.0 x.2,
              spoken_of s signals private (at k) free (spoken k round.visited) (some_steps k round.visited) x.0 x.1,
              omega (arith, count, all, many),
            )

      -- RUNS THAT ALL EXECUTE A BOUNDED NUMBER

      module _ (rank : ℕ → ℕ) (ranks : AreRanks logs edges busy rank) where
        -- the most that can be executed along an edge, and from the place of log number k
        abbrev most_along : ℕ
        most_along = s.limits.steps + 1

        abbrev most_from : ℕ → ℕ
        most_from k = rank k * most_along

        -- what is executed along an edge is made up for by the ranks
        made_up : (e j k : ℕ) → rank j ≤ rank k → (0 < e → rank j < rank k) → e ≤ most_along → e + most_from j ≤ most_from k
        made_up zero j k less falls few = let all = mul-le-mul_right most_along less in omega (arith, all)
        made_up (suc e) j k less falls few =
            let lower : suc (rank j) ≤ rank k = let lt = falls (omega arith) in omega (arith, lt) in
            let all = mul-le-mul_right most_along lower in
            omega (arith, all)

        executes_from : (i k : ℕ) (m : Plain) → IsAt k m → ExecuteAtMost s private MayRest IsCalmAt tally Fits is_tally i (most_from k) (kept_at k) m
        unfolding there_at
        executes_from i k m x [] short pass goes = omega arith
        executes_from zero k m x (a ∷ log) short pass goes = absurd (omega (arith, short))
        executes_from (suc i) k m x (a ∷ log) short pass goes =
            let seen = there_at k m x in
            let there = may_there s signals threads private (λ c. 0) 0 (Contains logs) family (kept_at k) m a seen goes.0 pass.0 in
            let in_time = in_time_there s signals threads private (λ c. 0) 0 (Contains logs) family (kept_at k) m a seen goes.0 pass.0 in
            let has = are_busy.all k a.0 a.1 x.lt (record { opens = open_where s logs (at k) a (among k x.lt) there; in_time = in_time }) there.free in
            let edge = has.edge in
            let w = along k edge.to m a x (are.numbers k edge.to x.lt edge.listed) there in_time edge.leads in
            let few = w.few in
            let count = w.count in
            let one = one_at_most a.1 in
            let rest =
            executes_settled s private MayRest IsCalmAt tally Fits is_tally (areas_pass s (settles_of threads) private) Seen_there (HasOutcome (after_stored s (Contains logs))) closed seen_good seen_fits
            i (most_from edge.to) (tally.next (kept_at k) m a) (next_of s m a) w.to (well_on s m a x.well w.may).good (is_tally.fits_next (kept_at k) m a)
            (subst (λ (kept : ℕ × (ℕ → Bool)). Seen_there kept w.to) w.keeps (there_at edge.to w.to w.there)) w.settles
            (λ more less pass on. executes_from i edge.to w.to w.there more less (subst (λ (kept : ℕ × (ℕ → Bool)). AllPass s tally kept w.to more) (sym w.keeps) pass) on) log
            (omega (arith, short)) pass.1 goes.1 in
            let made = made_up (executed_along a.1 edge.leads.settles.more) edge.to k (ranks.stays k edge.to x.lt edge.listed) (λ some. ranks.falls k edge.to x.lt (has.told some)) (omega (arith, few, one)) in
            omega (arith, rest, made, count)

        pub bounded : IsWorkBounded s signals
        bounded =
            let x = at_there (0, none_owed) start.to start.paid in
            record {
              most = most_from x.0 + steps_in start.settles;
              each = λ log free is_spoken.
                  let n = length (choices log) in
                  executes_settled s private MayRest IsCalmAt tally Fits is_tally (areas_pass s (settles_of threads) private) Seen_there (HasOutcome (after_stored s (Contains logs))) closed seen_good seen_fits
                  n (most_from x.0) (0, none_owed) (plain_start s) start.to (start_good s) (none_fits s signals (plain_start s)) start.paid start.settles
                  (λ more less pass on. executes_from n x.0 start.to x.1 more less (subst (λ (kept : ℕ × (ℕ → Bool)). AllPass s tally kept start.to more) (sym x.2) pass) on) (choices log)
                  (omega arith) (pass_all s signals private log none_owed (plain_start s) is_spoken) (goes_start s log free);
            }
