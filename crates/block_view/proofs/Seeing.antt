-- What is seen of an entry as it is made again is what is seen of its event.
use Rattle.std.proofs.Common.{◌≡◌, ℕ, ◌+◌, ◌<◌, ◌≤◌, ◌^◌, [], ◌∷◌, ◌++◌, leb, length, length-append, refl, sym, ap, ◌∙◌, subst, arith, cond, Bool, true, false, Option, Some, None, is_none, is_some, Ok}
use Rattle.std.specs.Option.{option_map_or, option_or}
use Rattle.std.proofs.lemmas.Bool.{leb-false}
use Rattle.mach_types.proofs.Laws.{kind_back}
use Rattle.mach_types.specs.Events.{choice_of, kind_of}
use Rattle.mach_types.specs.Limits.{InRange}
use Rattle.mach_types.specs.declared.events.Choice.{Choice}
use Rattle.mach_types.specs.declared.events.Entry.{Entry}
use Rattle.mach_types.specs.declared.events.Hart.{Hart}
use Rattle.mach_types.specs.declared.events.Kind.{Kind}
use Rattle.mach_types.specs.declared.limits.End.{End}
use Rattle.mach_types.specs.declared.limits.End.TheVariants.{Limit, Stuck, Unended}
use Rattle.mach_types.specs.declared.sequences.Seq.{Seq}
use Rattle.mach_types.specs.Kernel.Threads.{is_stuck}
use Rattle.block_model.specs.Deciding.{decide, end_of, end_unless, event, history}
use Rattle.block_model.specs.Here.{Here}
use Rattle.block_model.specs.History.{Event, History, ended, here_in_history, restart, running}
use Rattle.block_model.specs.Run.{IsBlockRun, IsRunHistory}
use Rattle.block_model.specs.Setting.{Seen, Setting}
use Rattle.block_model.proofs.Laws.{history-append, length-history, within_limit}
use Rattle.process.specs.Harts.{file_on}
use Rattle.block_view.specs.Passing.{IsAhead, IsAheadOf, IsDecided, IsMadeAgain, IsMadeBy, inside_at, is_by_signal, is_killed, passed_of, pc_at, would_interrupt}
use Rattle.block_view.specs.declared.passing.Ahead.{Ahead}
use Rattle.block_view.specs.declared.passing.Passed.{Passed}
use Rattle.block_view.proofs.Interruptions.{interrupts_as}
use Rattle.block_view.proofs.Made.{made_at, open_at}

-- HOW THE RUN ENDS

-- by no signal, where no event ended it
full_or_open : (b : Bool) → is_by_signal (cond b Limit Unended) ≡ false
full_or_open true = refl
full_or_open false = refl

no_signal : (s : Setting) (n : ℕ) (stuck : Bool) → is_by_signal (end_unless s n (cond stuck (Some Stuck) None)) ≡ false
no_signal s n true = refl
no_signal s n false = full_or_open (leb s.limits.steps n)

-- and else as the event ended it
by_event : (s : Setting) (n : ℕ) (stuck : Bool) (o : Option End) → is_by_signal (end_unless s n (option_or (option_or o None) (cond stuck (Some Stuck) None))) ≡ is_killed o
by_event s n stuck None = no_signal s n stuck
by_event s n stuck (Some end) = refl

-- a run that no earlier event ended ends by a signal where its newest event ended it so
ends_by_event : (s : Setting) (e : Event) (before : History) → ended before ≡ None → is_by_signal (end_of s (e ∷ before)) ≡ is_killed e.done.ended
unfolding end_of
ends_by_event s e before goes =
    ap (λ o. is_by_signal (end_unless s (length (e ∷ before)) (option_or (option_or e.done.ended o) (cond (is_stuck e.done.kernel.threads) (Some Stuck) None)))) goes
    ∙ by_event s (length (e ∷ before)) (is_stuck e.done.kernel.threads) e.done.ended

-- THE PC

pub file_pc : (here : Here) (o : Option ℕ) → (file_on here o).pc ≡ option_map_or (λ t. (here.file t).pc) o 0
file_pc here None = refl
file_pc here (Some t) = refl

-- THE MACHINE AFTER AN ENTRY

module _ (m m' : Seen) (entry : Entry) (made : IsMadeBy m m' entry) where
  abbrev before : History
  before = history m.setting m.log

  abbrev newest : Event
  newest = event m.setting before entry

  same_setting : m'.setting ≡ m.setting
  same_setting = ap (λ (x : Seen). x.setting) made.longer

  pub longer_log : m'.log ≡ m.log ++ entry ∷ []
  longer_log = ap (λ (x : Seen). x.log) made.longer

  pub history_after : history m'.setting m'.log ≡ newest ∷ before
  history_after = ap (λ (x : Seen). history x.setting x.log) made.longer ∙ history-append m.setting m.log entry

  pub run_after : IsRunHistory m.setting (newest ∷ before)
  run_after =
      subst (λ events. IsRunHistory m.setting events) history_after
      (subst (λ s. IsRunHistory s (history m'.setting m'.log)) same_setting made.block_run.allowed)

  -- it is of a hart of the machine
  pub its_hart_lies : entry.hart.0 < m'.setting.limits.harts
  its_hart_lies =
      let lt = leb-false m.setting.limits.harts entry.hart.0 (open_at m.setting before entry.hart.0 (choice_of entry) entry made.decided).lt in
      let same = ap (λ (s : Setting). s.limits.harts) same_setting in
      omega arith

  -- its log is short
  pub log_is_short : InRange m.setting.limits → length m'.log < 2 ^ 32
  log_is_short limits =
      let within = within_limit m'.setting m'.log made.block_run in
      let same = ap (λ (s : Setting). s.limits.steps) same_setting in
      let most = limits.most_steps in
      omega arith

  seen_as : (n : ℕ) (inside : Option Seq) (interrupts killed : Bool) (pc : ℕ) → n ≡ length before + 1 → inside ≡ inside_at m.setting entry.hart.0 before
      → interrupts ≡ is_some newest.done.interrupted → killed ≡ is_killed newest.done.ended → pc ≡ pc_at m.setting entry.hart.0 (newest ∷ before)
      → record { number = n; entry = entry; inside = inside; interrupts = interrupts; killed = killed; pc = pc } ≡ passed_of m.setting newest before
  unfolding passed_of
  seen_as n inside interrupts killed pc number inside_is tells ends at_pc =
      λ i. record { number = number i; entry = entry; inside = inside_is i; interrupts = tells i; killed = ends i; pc = at_pc i }

  pub made_again : (n : ℕ) (inside : Option Seq) (interrupts killed : Bool) (pc : ℕ) → n ≡ length m'.log
      → inside ≡ inside_at m.setting entry.hart.0 before
      → interrupts ≡ would_interrupt entry.kind (restart entry.hart.0 before) (is_none (running m.setting entry.hart.0 before))
      → killed ≡ is_by_signal (end_of m'.setting (history m'.setting m'.log)) → pc ≡ pc_at m'.setting entry.hart.0 (history m'.setting m'.log)
      → IsMadeAgain m m' entry (record { number = n; entry = entry; inside = inside; interrupts = interrupts; killed = killed; pc = pc })
  made_again n inside interrupts killed pc n_is inside_is interrupts_is killed_is pc_is =
      let here = here_in_history m.setting before entry.hart.0 in
      let at = made_at m.setting newest before run_after in
      let number : n ≡ length before + 1 =
      omega (arith, n_is, ap length longer_log, length-append m.log (entry ∷ []), length-history m.setting m.log) in
      let tells = interrupts_as here entry newest.done at.free at.did in
      let ends : killed ≡ is_killed newest.done.ended =
      killed_is
      ∙ ap (λ s. is_by_signal (end_of s (history m'.setting m'.log))) same_setting
      ∙ ap (λ events. is_by_signal (end_of m.setting events)) history_after
      ∙ ends_by_event m.setting newest before (open_at m.setting before entry.hart.0 (choice_of entry) entry made.decided).goes in
      let at_pc : pc ≡ pc_at m.setting entry.hart.0 (newest ∷ before) =
      pc_is
      ∙ ap (λ s. pc_at s entry.hart.0 (history m'.setting m'.log)) same_setting
      ∙ ap (pc_at m.setting entry.hart.0) history_after in
      record {
        made = made;
        seen = seen_as n inside interrupts killed pc number inside_is (interrupts_is ∙ sym tells) ends at_pc;
      }

-- where the machine has no such hart, nothing is decided of it
pub nothing_decided : (m : Seen) (h : ℕ) (c : Choice) (entry : Entry) → m.setting.limits.harts ≤ h
    → decide m.setting (history m.setting m.log) h c ≡ Ok entry → ⊥
nothing_decided m h c entry past decided =
    let lt = leb-false m.setting.limits.harts h (open_at m.setting (history m.setting m.log) h c entry decided).lt in
    omega arith

pub no_such_hart : (m : Seen) (entry : Entry) → m.setting.limits.harts ≤ entry.hart.0 → IsDecided m entry → ⊥
no_such_hart m entry past decided = nothing_decided m entry.hart.0 (choice_of entry) entry past decided

-- A STEP OF A MACHINE

-- the entry that is seen is the one that was made
pub entry_again : (m m' : Seen) (entry : Entry) (passed : Passed) → IsMadeAgain m m' entry passed → passed.entry ≡ entry
unfolding passed_of
entry_again m m' entry passed again = ap (λ (p : Passed). p.entry) again.seen

module _ (m m' : Seen) (hart : Hart) (c : Choice) (entry : Entry) (is : decide m.setting (history m.setting m.log) hart.0 c ≡ Ok entry)
    (of : (entry.hart ≡ hart) × (choice_of entry ≡ c)) where
  -- a step that is allowed makes the entry that is decided
  pub made_by_step : m' ≡ record m { log = m.log ++ entry ∷ [] } → IsBlockRun m'.setting m'.log → IsMadeBy m m' entry
  made_by_step longer run = record {
    decided = (λ i. decide m.setting (history m.setting m.log) (of.0 i).0 (of.1 i)) ∙ is;
    longer = longer;
    block_run = run;
  }

  -- and what was seen ahead of it was seen ahead of the entry
  pub ahead_of_step : (k : Kind) (ahead : Ahead) → k ≡ kind_of c → IsAheadOf m hart.0 k ahead → IsAhead m entry ahead
  ahead_of_step k ahead asked seen =
      let kinds : k ≡ entry.kind = asked ∙ ap kind_of (sym of.1) ∙ kind_back entry.kind entry.tid in
      subst (λ (h : Hart). IsAheadOf m h.0 entry.kind ahead) (sym of.0) (subst (λ x. IsAheadOf m hart.0 x ahead) kinds seen)
