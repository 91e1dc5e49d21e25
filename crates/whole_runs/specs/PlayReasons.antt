-- Why a script isn't played to its end (own).
use Rattle.std.specs.Prelude.{ℕ, List}
use Rattle.block_model.specs.Setting.{Setting}
use Rattle.shared_procs.specs.Pairs.{PairSetting}
use Rattle.call_reasons.specs.declared.reasons.LineFault.{LineFault}
use Rattle.call_reasons.specs.declared.reasons.Reason.{Reason}
use Rattle.call_reasons.specs.declared.reasons.Reason.TheVariants.{Words, Unread, NoMemory, TooBig, Elf, Script, Guest, EndedOtherwise, Unwritten}
use Rattle.whole_runs.specs.BadLines.{IsBadLine, IsBadLineOfPair}

-- why a script isn't played to its end: memory is short, or a line is bad
abbrev pub IsScriptReason : (ℕ → LineFault → Type 0) → Reason → Type 0
IsScriptReason IsBad (Words fault) = ⊥
IsScriptReason IsBad (Unread file trouble) = ⊥
IsScriptReason IsBad NoMemory = Unit {0}
IsScriptReason IsBad (TooBig file) = ⊥
IsScriptReason IsBad (Elf file fault about) = ⊥
IsScriptReason IsBad (Script number fault) = IsBad number fault
IsScriptReason IsBad (Guest number) = ⊥
IsScriptReason IsBad (EndedOtherwise found) = ⊥
IsScriptReason IsBad (Unwritten trouble) = ⊥

-- of a script of one process: one of its lines is the first bad one
abbrev pub IsPlayReason : Setting → List ℕ → Reason → Type 0
IsPlayReason s text reason = IsScriptReason (IsBadLine s text) reason

-- the same of a script of a pair
abbrev pub IsPairPlayReason : PairSetting → List ℕ → Reason → Type 0
IsPairPlayReason s text reason = IsScriptReason (IsBadLineOfPair s text) reason
