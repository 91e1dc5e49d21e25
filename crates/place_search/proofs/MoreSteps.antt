-- One settling step more.
use Rattle.std.proofs.Common.{◌≡◌, ℕ, ◌<◌, ◌≤◌, Bool, true, false, List, [], ◌∷◌, ◌++◌, length, Some, is_some, inl, append-nil, append_assoc, sym, ap, ◌∙◌, subst}
use Rattle.mach_types.specs.Kernel.Threads.{running_on}
use Rattle.mach_types.specs.declared.events.Choice.TheVariants as asked
use Rattle.mach_types.specs.declared.events.Entry.{Entry}
unfoldable use Rattle.block_model.specs.Plain.{plain_after}
use Rattle.block_model.specs.Plain.{Plain, here_in_plain}
use Rattle.block_model.specs.Run.{IsBlockRun}
use Rattle.block_model.specs.Setting.{Setting}
use Rattle.same_places.specs.Places.{IsCarried}
use Rattle.process.specs.declared.parts.Parts.{Parts}
use Rattle.same_places.specs.Replayed.{StandAfter}
use Rattle.same_places.specs.Trying.{IsGoing, IsLonger}
use Rattle.mach_types.specs.Kernel.Scheduling.{has_hart}
use Rattle.std.proofs.lemmas.Bool.{false≢true}
use Rattle.block_model.specs.Setting.{Seen}
use Rattle.block_model.proofs.Laws.{good_at, standing}
use Rattle.prompt_runs.specs.Owed.{owed_after}
use Rattle.prompt_runs.specs.Prompt.{IsInTime, IsSpokenOf}
use Rattle.search_reductions.specs.declared.signals.Signals.{Signals}
use Rattle.prompt_runs.proofs.InTime.{spoken_more}
use Rattle.settled_places.proofs.Events.{IsWell}
use Rattle.settled_places.proofs.Settled.{steps_leave}
use Rattle.settled_places.specs.Settling.{AreSettlingSteps, IsSettlingStep}
use Rattle.settling.specs.Settles.{MaySettle}
use Rattle.mach_types.specs.Limits.{InRange}
use Rattle.elf_load.specs.declared.image.ImagePage.{ImagePage}
use Rattle.block_model.specs.Tables.{IsTables}
use Rattle.settling.specs.Settles.{is_settling_here}
use Rattle.same_places.specs.Places.{rested}
use Rattle.place_search.proofs.Steps.{ended_none, tables_at}
use Rattle.place_search.specs.SettlingSteps.{HasMore, IsOwedAfter, IsStandingAt, Ways, all_or_none, none_private}

steps_push : (s : Setting) (ways : Ways) (log more : List Entry) (e : Entry) → AreSettlingSteps s ways.signals (all_or_none ways) none_private log more
    → IsSettlingStep s ways.signals (all_or_none ways) none_private (log ++ more) e → AreSettlingSteps s ways.signals (all_or_none ways) none_private log (more ++ e ∷ [])
steps_push s ways log [] e steps step = (subst (λ (l : List Entry). IsSettlingStep s ways.signals (all_or_none ways) none_private l e) (append-nil log) step, tt)
steps_push s ways log (x ∷ more) e steps step =
    (steps.0, steps_push s ways (log ++ x ∷ []) more e steps.1 (subst (λ (l : List Entry). IsSettlingStep s ways.signals (all_or_none ways) none_private l e) (sym (append_assoc log (x ∷ []) more)) step))

pub step_more : (s : Setting) (ways : Ways) (log entries : List Entry) (e : Entry) → IsSettlingStep s ways.signals (all_or_none ways) none_private (log ++ entries) e → HasMore s ways log entries (entries ++ e ∷ [])
step_more s ways log entries e step = λ first has.
    let at : log ++ entries ≡ (log ++ first) ++ has.more = ap (λ (es : List Entry). log ++ es) has.entries_are ∙ sym (append_assoc log first has.more) in
    record {
      more = has.more ++ e ∷ [];
      entries_are = ap (λ (es : List Entry). es ++ e ∷ []) has.entries_are ∙ append_assoc first has.more (e ∷ []);
      steps = steps_push s ways (log ++ first) has.more e has.steps (subst (λ (l : List Entry). IsSettlingStep s ways.signals (all_or_none ways) none_private l e) at step);
    }

-- where the hart owes its thread no signal
pub step_of : (s : Setting) (ways : Ways) (log : List Entry) (h : ℕ) (e : Entry) (m : Parts) (owed : ℕ) → ways.settle ≡ true → IsOwedAfter s ways.signals log owed → false ≡ has_hart owed h → h < s.limits.harts
    → MaySettle s (plain_after s log) h → IsCarried s (plain_after s log) h asked.Exec → IsLonger s log h asked.Exec e m → IsSettlingStep s ways.signals (all_or_none ways) none_private log e
step_of s ways log h e m owed on set none lt may carried longer =
    let hart : h ≡ e.hart.0 = sym longer.hart in
    record {
      thread = may.thread;
      file = may.file;
      run = longer.run;
      is_exec = longer.choice;
      runs = subst (λ (n : ℕ). running_on n (plain_after s log).kernel.threads ≡ Some may.thread) hart may.runs;
      local = inl may.local;
      rests = may.rests (all_or_none ways) on;
      in_time = subst (λ (n : ℕ). IsInTime (plain_after s log) (owed_after ways.signals s log) n asked.Exec) hart (λ owes apart. absurd (false≢true (none ∙ set h lt ∙ owes)));
      carried = subst (λ (n : ℕ). IsCarried s (plain_after s log) n asked.Exec) hart carried;
    }

-- the run goes on by it, and owes what it owed
pub standing_more : (s : Setting) (ways : Ways) (log entries : List Entry) (h : ℕ) (e : Entry) (before m : Parts) (owed : ℕ) → s.limits.steps ≤ 1000000
    → IsStandingAt s ways.signals log entries owed before → IsSettlingStep s ways.signals (all_or_none ways) none_private (log ++ entries) e → IsLonger s (log ++ entries) h asked.Exec e m
    → IsStandingAt s ways.signals log (entries ++ e ∷ []) owed m
standing_more s ways log entries h e before m owed high there step longer =
    let all = append_assoc log entries (e ∷ []) in
    let so_far = log ++ entries in
    let v : Seen = record { setting = s; seed = 0; log = so_far } in
    let well : IsWell s (plain_after s so_far) = record { good = good_at v there.run; stands = standing v there.run } in
    let leaves = steps_leave s ways.signals (all_or_none ways) none_private high so_far (e ∷ []) well (step, tt) in
    let in_time = subst (λ c. IsInTime (plain_after s so_far) (owed_after ways.signals s so_far) e.hart.0 c) (sym step.is_exec) step.in_time in
    record {
      run = subst (IsBlockRun s) all longer.run;
      spoken = subst (IsSpokenOf ways.signals s) all (spoken_more ways.signals s so_far (e ∷ []) there.spoken (in_time, tt));
      set = λ k lt. there.set k lt ∙ (λ i. sym leaves i k) ∙ (λ i. owed_after ways.signals s (all i) k);
      stands = subst (λ (l : List Entry). StandAfter s l m) all longer.stands;
    }

pub going_on : (s : Setting) (signals : Signals) (log entries : List Entry) (code : List ImagePage) (owed : ℕ) (m : Parts) (h : ℕ) → IsStandingAt s signals log entries owed m → InRange s.limits
    → code ≡ s.program.pages → false ≡ is_some m.ended → length (log ++ entries) < s.limits.steps → h < s.limits.harts → IsGoing s (log ++ entries) code m h
going_on s signals log entries code owed m h there limits pages none room lt = record {
  run = there.run;
  stands = there.stands;
  limits = limits;
  pages = pages;
  goes = sym there.stands.ended ∙ ended_none m.ended none;
  room = room;
  lt = lt;
}

pub settles_at : (s : Setting) (log : List Entry) (m : Parts) (h : ℕ) → IsBlockRun s log → StandAfter s log m → h < s.limits.harts
    → (StandAfter s log m → is_settling_here (here_in_plain s (rested (plain_after s log)) h) ≡ true)
    → ((t : Setting) (p : Plain) (k : ℕ) → is_settling_here (here_in_plain t p k) ≡ true → IsTables t.limits.harts p.kernel.threads p.kernel.scheduling → MaySettle t p k)
    → MaySettle s (plain_after s log) h
settles_at s log m h run stands lt settles law = law s (plain_after s log) h (settles stands) (tables_at s log run)
