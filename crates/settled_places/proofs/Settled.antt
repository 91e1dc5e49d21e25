-- A run settles at each place that is the same.
use Rattle.std.proofs.Common.{◌≡◌, inl, inr, ◌⊎◌, ℕ, suc, ◌+◌, ◌<◌, ◌≤◌, Bool, true, false, leb, leb-false, leb-true, List, [], ◌∷◌, ◌++◌, length, length-append, refl, sym, ap, ◌∙◌, subst, arith, append-nil, append_assoc}
use Rattle.std.proofs.lemmas.Bool.{false≢true}
use Rattle.mach_types.specs.Events.{choice_of}
use Rattle.mach_types.specs.declared.events.Choice.{Choice}
use Rattle.mach_types.specs.declared.events.Choice.TheVariants as asked
use Rattle.mach_types.specs.declared.events.Entry.{Entry}
use Rattle.block_model.specs.Events.{done_of, refusal_of}
use Rattle.block_model.specs.Plain.{Plain, here_in_plain, here_of, plain_after}
use Rattle.block_model.specs.Run.{IsBlockRun}
use Rattle.block_model.specs.Setting.{Seen, Setting}
use Rattle.block_model.specs.Standing.{IsStanding}
use Rattle.block_model.specs.Tables.{IsTables}
use Rattle.block_model.proofs.Laws.{IsGood, good_at, plain_made, run_before, standing, IsNext, next_event, within_limit}
use Rattle.block_model.proofs.Swaps.Logs.{last_decided}
use Rattle.local_steps.specs.Explorations.{Settled, SettlesTo, Steps, Tally}
use Rattle.local_steps.proofs.Ahead.{behind_at}
use Rattle.local_steps.proofs.CanEnd.{StepsPass, steps_in}
use Rattle.prompt_runs.specs.Owed.{owed_after, owed_next}
use Rattle.prompt_runs.specs.Prompt.{IsInTime}
use Rattle.search_reductions.specs.declared.signals.Signals.{Signals}
use Rattle.prompt_runs.proofs.InTime.{IsFitting, fitting_after, owed_more}
use Rattle.local_steps.specs.Resting.{RestsOutside}
use Rattle.local_steps.specs.Runs.{MayCome, next_of}
use Rattle.same_places.specs.Places.{IsSamePlace, alone}
use Rattle.same_places.proofs.Laws.{same_itself, same_same}
use Rattle.settled_places.specs.Settling.{AreSettlingSteps, IsSettlingStep, SettlesBack, settles_of}
use Rattle.settled_places.proofs.OwedSignals.{owes_below, run_tally, step_owed}
use Rattle.settled_places.proofs.SameSteps.{file_same, in_time_same, rests_same, runs_too, step_same}
use Rattle.settled_places.proofs.Events.{HasRoom, IsWell, well_on, may_too, next_same}

pub tables_of : (s : Setting) (p : Plain) → IsStanding (alone s p) → IsTables s.limits.harts p.kernel.threads p.kernel.scheduling
tables_of s p stands = stands.sound.tables

-- what is known of the entry that a block run ends with
pub last_event : (s : Setting) (log : List Entry) (e : Entry) → (run : IsBlockRun s (log ++ e ∷ []))
    → let v : Seen = record { setting = s; seed = 0; log = log } in IsNext v e (done_of (choice_of e) (here_of v e.hart.0))
last_event s log e run =
    let v : Seen = record { setting = s; seed = 0; log = log } in
    next_event v e (done_of (choice_of e) (here_of v e.hart.0)) (run_before s log (e ∷ []) run) (last_decided s log e run) refl

-- the place after a block run, where so many entries have room
pub room_after : (s : Setting) (log : List Entry) → IsBlockRun s log → length log < s.limits.steps → HasRoom s (plain_after s log)
room_after s log run room =
    let v : Seen = record { setting = s; seed = 0; log = log } in
    let made : (plain_after s log).made ≡ length log = plain_made v run in
    record { stands = standing v run; room = omega arith }

-- a machine that stands and is the same place as one that was stored
pub record IsThere (s : Setting) (Stored : List Entry → Type 0) (m : Plain) : Type 0 where
  pub well : IsWell s m
  pub log : List Entry
  pub stored : Stored log
  pub same : IsSamePlace s (plain_after s log) m

-- WHAT IS OWED AT PLACES THAT ARE THE SAME

below_or_not : (h n : ℕ) → (h < n) ⊎ (n ≤ h)
below_or_not h n = go (leb n h) refl
  where
    go : (b : Bool) → leb n h ≡ b → (h < n) ⊎ (n ≤ h)
    go true is = inr (leb-true n h is)
    go false is = inl (leb-false n h is)

module _ (s : Setting) (signals : Signals) where
  -- where no more is owed than can be, it is owed by harts of the machine alone
  none_above : (m : Plain) (owed : ℕ → Bool) → IsStanding (alone s m) → IsFitting signals s owed m → (h : ℕ) → s.limits.harts ≤ h → owed h ≡ false
  none_above m owed stands fits h high = by_test (owed h) refl
    where
      by_test : (b : Bool) → owed h ≡ b → b ≡ false
      by_test true is = absurd (false≢true (sym (owes_below signals s m h (tables_of s m stands) high) ∙ fits h is))
      by_test false is = refl

  -- so what is owed at two machines that stand is the same where it is so by the harts of the machine
  pub owed_all : (m n : Plain) (owed other : ℕ → Bool) → IsStanding (alone s m) → IsStanding (alone s n) → IsFitting signals s owed m → IsFitting signals s other n
      → ((h : ℕ) → h < s.limits.harts → owed h ≡ other h) → owed ≡ other
  owed_all m n owed other here there fits fit below = λ i h. by_hart h i
    where
      by_hart : (h : ℕ) → owed h ≡ other h
      by_hart h = elim (below_or_not h s.limits.harts) [
        | inl lt ↦ below h lt
        | inr high ↦ none_above m owed here fits h high ∙ sym (none_above n other there fit h high)
      ]

module _ (s : Setting) (signals : Signals) (threads : ℕ → Bool) (private : ℕ → ℕ → Bool) where
  -- what is kept along runs where choices cost nothing
  abbrev pub free_tally : Tally
  free_tally = run_tally s signals private (λ c. 0)

  -- a machine that settles by so many steps, all of which pass, to one that stands and is the same place as this log's, where as much
  -- is owed
  record LandsBy (n : ℕ) (other : List Entry) (owed : ℕ → Bool) (m : Plain) : Type 0 where
    pub to : Plain
    pub well : IsWell s to
    pub same : IsSamePlace s (plain_after s other) to
    pub settles : SettlesTo s private (RestsOutside (settles_of threads)) m to
    pub passes : StepsPass free_tally (0, owed) settles
    pub count : steps_in settles ≡ n

  -- by no more steps than a run may have
  pub record LandsAt (n : ℕ) (other : List Entry) (owed : ℕ → Bool) (m : Plain) : Type 0 where
    pub to : Plain
    pub well : IsWell s to
    pub same : IsSamePlace s (plain_after s other) to
    pub owes : owed_after signals s other ≡ owed
    pub settles : SettlesTo s private (RestsOutside (settles_of threads)) m to
    pub passes : StepsPass free_tally (0, owed) settles
    pub count : steps_in settles ≡ n
    pub few : n ≤ s.limits.steps

  module _ (high : s.limits.steps ≤ 1000000) where
    module _ (log : List Entry) (e : Entry) (owed : ℕ → Bool) (m : Plain) (well : IsWell s m) (same : IsSamePlace s (plain_after s log) m) (owes : owed_after signals s log ≡ owed)
        (x : IsSettlingStep s signals threads private log e) where
      abbrev v : Seen
      v = record { setting = s; seed = 0; log = log }

      abbrev p : Plain
      p = plain_after s log

      abbrev a : ℕ × Choice
      a = (e.hart.0, asked.Exec)

      before : IsBlockRun s log
      before = run_before s log (e ∷ []) x.run

      last : IsNext v e (done_of (choice_of e) (here_of v e.hart.0))
      last = last_event s log e x.run

      place : HasRoom s p
      place = room_after s log before last.room

      may_there : MayCome s p a
      may_there = record { goes = last.goes; lt = last.lt; free = ap (λ c. refusal_of c (here_in_plain s p e.hart.0)) (sym x.is_exec) ∙ last.free }

      may_here : MayCome s m a
      may_here = may_too s high p m a place well same x.carried may_there

      in_time : IsInTime m owed e.hart.0 asked.Exec
      in_time = in_time_same s p m same (owed_after signals s log) owed e.hart.0 asked.Exec last.lt (λ i. sym owes i e.hart.0) x.in_time

      steps_on : plain_after s (log ++ e ∷ []) ≡ next_of s p a
      steps_on = last.next ∙ ap (λ c. next_of s p (e.hart.0, c)) x.is_exec

      goes_on : IsSamePlace s (plain_after s (log ++ e ∷ [])) (next_of s m a)
      goes_on = subst (λ (y : Plain). IsSamePlace s y (next_of s m a)) (sym steps_on) (next_same s high p m a place well same x.carried may_there)

      -- a step leaves what is owed
      leaves_owed : owed_after signals s (log ++ e ∷ []) ≡ owed
      leaves_owed =
          let good : IsGood s p = good_at v before in
          owed_more signals s log (e ∷ []) ∙ ap (owed_next signals s p (owed_after signals s log) e.hart.0) x.is_exec
          ∙ step_owed s signals private (λ c. 0) (0, owed_after signals s log) p e.hart.0 x.thread x.file
          (record { fits = fitting_after signals s log; behind = behind_at s private x.thread x.file p e.hart.0 x.runs good may_there x.local; runs = x.runs; may = may_there; passes = (omega arith, x.in_time) })
          ∙ owes

      step : (n : ℕ) (other : List Entry) → LandsBy n other owed (next_of s m a) → LandsBy (suc n) other owed m
      step n other lands =
          let tables = tables_of s p place.stands in
          let file = file_same s p m same e.hart.0 x.thread last.lt x.runs in
          record {
            to = lands.to;
            well = lands.well;
            same = lands.same;
            settles = Steps e.hart.0 x.thread x.file may_here (runs_too s p m same e.hart.0 x.thread x.runs)
                (step_same s p m same tables private x.thread x.file file x.local)
                (rests_same s p m same tables (settles_of threads) x.thread x.file file x.rests) lands.settles;
            passes = ((omega arith, in_time), lands.passes);
            count = ap suc lands.count;
          }

    settle : (more log other : List Entry) (owed : ℕ → Bool) (m : Plain) → AreSettlingSteps s signals threads private log more
        → IsSamePlace s (plain_after s other) (plain_after s (log ++ more)) → IsWell s m → IsSamePlace s (plain_after s log) m → owed_after signals s log ≡ owed → LandsBy (length more) other owed m
    settle [] log other owed m steps back well same owes = record {
      to = m;
      well = well;
      same = same_same s (plain_after s other) (plain_after s log) m (subst (λ (l : List Entry). IsSamePlace s (plain_after s other) (plain_after s l)) (append-nil log) back) same;
      settles = Settled refl;
      passes = tt;
      count = refl;
    }
    settle (e ∷ more) log other owed m steps back well same owes =
        let joined : (log ++ e ∷ []) ++ more ≡ log ++ e ∷ more = append_assoc log (e ∷ []) more in
        let may = may_here log e owed m well same owes steps.0 in
        step log e owed m well same owes steps.0 (length more) other
        (settle more (log ++ e ∷ []) other owed (next_of s m (e.hart.0, asked.Exec)) steps.1
        (subst (λ (l : List Entry). IsSamePlace s (plain_after s other) (plain_after s l)) (sym joined) back)
        (well_on s m (e.hart.0, asked.Exec) well may) (goes_on log e owed m well same owes steps.0) (leaves_owed log e owed m well same owes steps.0))

    -- what is owed stays so along all of them
    all_leave : (more log : List Entry) (owed : ℕ → Bool) (m : Plain) → AreSettlingSteps s signals threads private log more → IsWell s m → IsSamePlace s (plain_after s log) m
        → owed_after signals s log ≡ owed → owed_after signals s (log ++ more) ≡ owed
    all_leave [] log owed m steps well same owes = ap (owed_after signals s) (append-nil log) ∙ owes
    all_leave (e ∷ more) log owed m steps well same owes =
        let joined : (log ++ e ∷ []) ++ more ≡ log ++ e ∷ more = append_assoc log (e ∷ []) more in
        let may = may_here log e owed m well same owes steps.0 in
        ap (owed_after signals s) (sym joined)
        ∙ all_leave more (log ++ e ∷ []) owed (next_of s m (e.hart.0, asked.Exec)) steps.1 (well_on s m (e.hart.0, asked.Exec) well may)
        (goes_on log e owed m well same owes steps.0) (leaves_owed log e owed m well same owes steps.0)

    pub steps_leave : (log more : List Entry) → IsWell s (plain_after s log) → AreSettlingSteps s signals threads private log more
        → owed_after signals s (log ++ more) ≡ owed_after signals s log
    steps_leave log more well steps = all_leave more log (owed_after signals s log) (plain_after s log) steps well (same_itself s (plain_after s log)) refl

    -- the steps are entries of a block run
    all_length : (more log : List Entry) → AreSettlingSteps s signals threads private log more → length log ≤ s.limits.steps → length log + length more ≤ s.limits.steps
    all_length [] log steps short = omega arith
    all_length (e ∷ more) log steps short =
        let rest = all_length more (log ++ e ∷ []) steps.1 (within_limit s (log ++ e ∷ []) steps.0.run) in
        omega (arith, length-append log (e ∷ []))

    settling_length : (more log : List Entry) → AreSettlingSteps s signals threads private log more → length more ≤ s.limits.steps
    settling_length [] log steps = omega arith
    settling_length (e ∷ more) log steps =
        let rest = all_length more (log ++ e ∷ []) steps.1 (within_limit s (log ++ e ∷ []) steps.0.run) in
        omega (arith, length-append log (e ∷ []))

    pub settled : (logs : List (List Entry)) (log : List Entry) (owed : ℕ → Bool) (m : Plain) (back : SettlesBack s signals threads private logs log) → IsBlockRun s back.other → IsWell s m
        → IsSamePlace s (plain_after s log) m → owed_after signals s log ≡ owed → IsFitting signals s owed m → LandsAt (length back.more) back.other owed m
    settled logs log owed m back run well same owes fits =
        let x = settle back.more log back.other owed m back.steps back.same well same owes in
        let v : Seen = record { setting = s; seed = 0; log = back.other } in
        let leaves = all_leave back.more log owed m back.steps well same owes in
        record {
          to = x.to;
          well = x.well;
          same = x.same;
          owes = owed_all s signals (plain_after s back.other) m (owed_after signals s back.other) owed (standing v run) well.stands (fitting_after signals s back.other) fits
              (λ h lt. back.owed h lt ∙ (λ i. leaves i h));
          settles = x.settles;
          passes = x.passes;
          count = x.count;
          few = settling_length back.more log back.steps;
        }
