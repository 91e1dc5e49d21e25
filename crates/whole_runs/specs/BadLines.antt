-- What is wrong with a line of a script (own).
use Rattle.std.specs.Prelude.{ℕ, ◌≡◌, List, Option, Some, None, Result, Ok, Err, if◌then◌else◌}
use Rattle.mach_types.specs.declared.events.Entry.{Entry}
use Rattle.mach_types.specs.declared.events.Tid.{Tid}
use Rattle.block_model.specs.Deciding.{decide, history}
use Rattle.block_model.specs.Replay.{Ask, is_as_said}
use Rattle.block_model.specs.Setting.{Setting}
use Rattle.block_model.specs.declared.refusals.Refused.{Refused}
use Rattle.block_model.specs.declared.refusals.Refused.TheVariants as barred
use Rattle.shared_procs.specs.Pairs.{Pair, PairSetting}
use Rattle.shared_procs.specs.PairRuns.{pair_decide}
use Rattle.shared_procs.specs.declared.outcomes.PairRefused.{PairRefused}
use Rattle.shared_procs.specs.declared.outcomes.PairRefused.TheVariants as two
use Rattle.call_reasons.specs.declared.reasons.LineFault.{LineFault}
use Rattle.call_reasons.specs.declared.reasons.LineFault.TheVariants as line
use Rattle.whole_runs.specs.PlayedPairs.{IsFirstBadOfPair, pair_at}
use Rattle.whole_runs.specs.Runs.{IsFirstBadLine}

-- what is wrong with a line by what is decided of its event: the event isn't allowed, or its entry isn't as the
-- line says; none where nothing is
abbrev pub decided_fault : Option (Tid × ℕ) → Result Entry Refused → Option LineFault
decided_fault check (Err refused) = Some (line.Refused refused)
decided_fault check (Ok e) = if is_as_said check e then None else Some (line.Differs e)

-- what is wrong with a line of a script after a log: it can't be read, or what is decided of it; none where
-- nothing is
abbrev pub line_fault : Setting → List Entry → Option Ask → Option LineFault
line_fault s log None = Some line.Malformed
line_fault s log (Some ask) = decided_fault ask.check (decide s (history s log) ask.hart.0 ask.choice)

-- the line of this number is the first bad one of a script, and this is what is wrong with it
pub record IsBadLine (s : Setting) (text : List ℕ) (number : ℕ) (fault : LineFault) : Type 0 where
  pub first : IsFirstBadLine s text number
  pub why : line_fault s first.log first.line ≡ Some fault

-- what is wrong with a line by what is decided of its event where two processes stand: no process goes on, the event isn't allowed
-- for another reason, or its entry isn't as the line says; none where nothing is
abbrev pub refusal_of_pair : PairRefused → LineFault
refusal_of_pair two.Ended = line.NoneGoesOn
refusal_of_pair two.Full = line.Refused barred.Full
refusal_of_pair (two.NotEnabled why) = line.Refused (barred.NotEnabled why)

abbrev pub decided_for_pair : Option (Tid × ℕ) → Result Entry PairRefused → Option LineFault
decided_for_pair check (Err refused) = Some (refusal_of_pair refused)
decided_for_pair check (Ok e) = if is_as_said check e then None else Some (line.Differs e)

-- what is wrong with a line of a script there: it can't be read, or what is decided of it
abbrev pub line_fault_of_pair : PairSetting → Pair → Option Ask → Option LineFault
line_fault_of_pair s m None = Some line.Malformed
line_fault_of_pair s m (Some ask) = decided_for_pair ask.check (pair_decide s m ask.hart.0 ask.choice)

-- the line of this number is the first bad one of a script of a pair, and this is what is wrong with it
pub record IsBadLineOfPair (s : PairSetting) (text : List ℕ) (number : ℕ) (fault : LineFault) : Type 0 where
  pub first : IsFirstBadOfPair s text number
  pub why : line_fault_of_pair s (pair_at s first.log) first.line ≡ Some fault
