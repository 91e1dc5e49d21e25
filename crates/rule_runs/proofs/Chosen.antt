-- Logs of choices: what one attempt of a hart adds, and what a whole run by workers is.
use Rattle.std.proofs.Common.{◌≡◌, ◌≢◌, ℕ, ◌||◌, List, [], ◌∷◌, ◌++◌, length, refl, sym, ap, ◌∙◌, subst, append-nil, append_assoc}
use Rattle.std.proofs.Common.{Bool, true, false, is_some, Option, Some, None}
use Rattle.std.specs.Prelude.{nat_le, if◌then◌else◌}
use Rattle.std.specs.Option.{option_map}
use Rattle.std.proofs.lemmas.Bool.{lt-leb}
use Rattle.mach_types.specs.declared.events.Advance.{Advance}
use Rattle.mach_types.specs.declared.events.Advance.TheVariants.{Ended}
use Rattle.mach_types.specs.declared.events.Choice.{Choice}
use Rattle.mach_types.specs.declared.events.Entry.{Entry}
use Rattle.mach_types.specs.declared.events.Hart.{Hart}
use Rattle.mach_types.specs.declared.limits.End.{End}
use Rattle.mach_types.specs.declared.limits.End.TheVariants.{Unended}
use Rattle.machine_lock.specs.Logs.{Advances, AllNext, Follows}
use Rattle.machine_lock.proofs.Laws.{end_is_last}
use Rattle.block_model.specs.Choosing.{IsChosen, advance_at, choice_at, has_ended, made_or_none, next_entry}
use Rattle.block_model.specs.Deciding.{end_of, entry_in, history}
use Rattle.block_model.specs.History.{History, here_in_history}
use Rattle.block_model.specs.Run.{IsBlockRun}
use Rattle.block_model.specs.Setting.{Seen, Setting}
use Rattle.block_model.proofs.Laws.{chosen_more, chosen_start, is_open, next_is_none, start_run}
use Rattle.machine_core.specs.Advancing.{made_in}
use Rattle.rule_runs.specs.declared.shared.Shared.{Shared}
use Rattle.whole_runs.specs.Runs.{IsChosenRun, IsWholeRun}
use Rattle.rule_runs.specs.Sharing.{Start, ended_in, next_in}

-- the entry that a hart makes next is of that hart
hart_of_choice : (s : Setting) (h : ℕ) (before : History) (c : Option Choice) (e : Entry)
    → option_map (λ c. entry_in c (here_in_history s before h)) c ≡ Some e → e.hart.0 ≡ h
hart_of_choice s h before None e is = absurd cc
hart_of_choice s h before (Some c) e is =
    let same : entry_in c (here_in_history s before h) ≡ e = cc in
    sym (ap (λ (x : Entry). x.hart.0) same)

pub hart_of_next : (s : Setting) (seed : ℕ) (hart : Hart) (before : History) (e : Entry)
    → next_entry s seed hart.0 before ≡ Some e → e.hart ≡ hart
unfolding next_entry
hart_of_next s seed hart before e is = ap (λ (n : ℕ). record { 0 = n })
    (hart_of_choice s hart.0 before (choice_at s seed hart.0 before) e is)

-- what an attempt answers, and what it adds, is what a chronicle says of one
module _ (start : Start) (log : List Entry) (hart : Hart) where
  abbrev before : History
  before = history start.setting log

  abbrev Attempt : Advance → Type 0
  Attempt a = (new : List Entry) → new ≡ log ++ made_in a → Advances (next_in start) (ended_in start) hart log new a

  attempt_open : (next : Option Entry) → has_ended start.setting before ≡ false
      → next_in start log hart ≡ next → Attempt (made_or_none next)
  attempt_open None goes is = λ new whole. (goes, is, whole ∙ append-nil log)
  attempt_open (Some e) goes is = λ new whole. (goes, hart_of_next start.setting start.seed hart before e is, is, whole)

  attempt_by : (over : Bool) → has_ended start.setting before ≡ over
      → Attempt (if over then Ended else made_or_none (next_in start log hart))
  attempt_by true ends = λ new whole. (ends, whole ∙ append-nil log)
  attempt_by false goes = attempt_open (next_in start log hart) goes refl

  attempt : Attempt (advance_at start.setting start.seed hart.0 before)
  unfolding advance_at
  attempt = attempt_by (has_ended start.setting before) refl

  pub advanced : (a : Advance) (new : List Entry) → a ≡ advance_at start.setting start.seed hart.0 before
      → new ≡ log ++ made_in a → Advances (next_in start) (ended_in start) hart log new a
  advanced a new is = subst Attempt (sym is) attempt new

-- a log that goes on by what harts make next is one of choices
chosen_on : (start : Start) (past rest : List Entry) → IsBlockRun start.setting past → IsChosen start.setting start.seed past
    → AllNext (next_in start) past rest → IsBlockRun start.setting (past ++ rest) × IsChosen start.setting start.seed (past ++ rest)
chosen_on start past [] run chosen legal = (
  subst (IsBlockRun start.setting) (sym (append-nil past)) run,
  subst (IsChosen start.setting start.seed) (sym (append-nil past)) chosen,
)
chosen_on start past (e ∷ es) run chosen legal =
    let more = chosen_more start.setting start.seed past e.hart.0 e run chosen legal.0 in
    let whole = append_assoc past (e ∷ []) es in
    let on = chosen_on start (past ++ e ∷ []) es more.0 more.1 legal.1 in
    (subst (IsBlockRun start.setting) whole on.0, subst (IsChosen start.setting start.seed) whole on.1)

-- a run that has ended isn't left open
pub over_when_ended : (s : Setting) (log : List Entry) → IsBlockRun s log → has_ended s (history s log) ≡ true
    → end_of s (history s log) ≢ Unended
unfolding has_ended
over_when_ended s log run ended end =
    let goes = is_open s (history s log) run.allowed end in
    let still = ap (λ (o : Option End). is_some o || nat_le s.limits.steps (length (history s log))) goes.0
    ∙ lt-leb s.limits.steps (length (history s log)) goes.1 in
    absurd (cc (sym still ∙ ended))

chosen_run : (start : Start) (log : List Entry) → Follows (next_in start) [] log
    → ended_in start log ≡ true → IsChosenRun start.setting start.seed log
chosen_run start log f ended =
    let on = chosen_on start [] f.rest (start_run start.setting) (chosen_start start.setting start.seed) f.legal in
    let run = subst (IsBlockRun start.setting) f.whole on.0 in
    record {
      block_run = run;
      chosen = subst (IsChosen start.setting start.seed) f.whole on.1;
      over = over_when_ended start.setting log run ended;
    }

-- a machine that was just booted made choices alone
pub booted_chosen : (s : Setting) (seed : ℕ) (m : Seen) → m ≡ record { setting = s; seed = seed; log = [] }
    → IsChosen m.setting m.seed m.log
booted_chosen s seed m booted = subst (λ (v : Seen). IsChosen v.setting v.seed v.log) (sym booted) (chosen_start s seed)

-- what was put in is the machine that was booted, and a pass has seen its log
pub put_in : (first : Seen) (start shared : Shared) (m : Seen) → start ≡ shared → shared.machine.value ≡ m
    → m ≡ first → start.machine.value ≡ first
put_in first start shared m put is booted = ap (λ (x : Shared). x.machine.value) put ∙ is ∙ booted

pub seen_first : (start shared : Shared) (seen : List Entry) → start ≡ shared → seen ≡ shared.machine.value.log → seen ≡ start.machine.value.log
seen_first start shared seen put is = is ∙ ap (λ (x : Shared). x.machine.value.log) (sym put)

-- what the run of a machine started from
abbrev start_of : Seen → Start
start_of m = record { setting = m.setting; seed = m.seed }

-- the machine that comes out of the turns of all workers, where the machine that went in was just booted: the log that they saw
-- last, at which the run has ended, is the whole log
pub run_of_turns : (s : Setting) (seed : ℕ) (begun closed m : Seen) (first last : List Entry)
    → begun ≡ record { setting = s; seed = seed; log = [] } → first ≡ begun.log
    → Follows (next_in (start_of begun)) first last → ended_in (start_of begun) last ≡ true
    → start_of closed ≡ start_of begun → Follows (next_in (start_of begun)) last closed.log → m ≡ closed
    → IsWholeRun s seed m
run_of_turns s seed begun closed m first last booted begins turns ended kept later out =
    let start : Start = record { setting = s; seed = seed } in
    let same : start_of begun ≡ start = ap start_of booted in
    let all : closed.log ≡ last = end_is_last (next_in (start_of begun)) (ended_in (start_of begun))
    (λ log hart over. next_is_none begun.setting begun.seed log hart.0 over) last closed.log ended later in
    let log : last ≡ m.log = sym (ap (λ (v : Seen). v.log) out ∙ all) in
    let empty : first ≡ [] = begins ∙ ap (λ (v : Seen). v.log) booted in
    let whole : Follows (next_in start) [] last = subst (λ (xs : List Entry). Follows (next_in start) xs last) empty
    (subst (λ (x : Start). Follows (next_in x) first last) same turns) in
    record {
      setting = ap (λ (v : Seen). v.setting) out ∙ ap (λ (x : Start). x.setting) (kept ∙ same);
      run = chosen_run start m.log (subst (Follows (next_in start) []) log whole)
          (subst (λ (xs : List Entry). ended_in start xs ≡ true) log
          (subst (λ (x : Start). ended_in x last ≡ true) same ended));
    }
