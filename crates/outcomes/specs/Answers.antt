-- The answer to a command before it is written: its output, or the fault that is due.
use Rattle.std.specs.Prelude.{ℕ, List, Option, Result, Ok, Err, IfSome}
use Rattle.std.specs.declared.io.ErrorKind.{ErrorKind}
use Rattle.call_reasons.specs.declared.faults.Fault.{Fault}
use Rattle.call_reasons.specs.declared.reasons.OtherEnd.{OtherEnd}
use Rattle.call_reasons.specs.declared.reasons.Reason.{Reason}
use Rattle.command_words.specs.Words.{command_of}
use Rattle.outcomes.specs.Causes.{IsCause}
use Rattle.outcomes.specs.Delivery.{IsDelivered}
use Rattle.outcomes.specs.Judged.{IsJudged, output_status}
use Rattle.outcomes.specs.Programs.{Files}
use Rattle.outcomes.specs.Reasons.{IsReasonOf}
use Rattle.call_reasons.specs.Reasons.{fault_told, reason_status}
use Rattle.call_reasons.specs.Statuses.{fault_status}
use Rattle.call_reasons.specs.FaultLines.{fault_line}

-- an output with what ended otherwise in it than was expected
abbrev pub Judged : Type 0
Judged = List ℕ × Option OtherEnd

-- the text is the output of the words, in which this ended otherwise; or the fault has its cause
abbrev pub IsAnswer : Files → List (List ℕ) → (List ℕ → ℕ) → (List ℕ → ℕ) → Result Judged Fault → Type 0
IsAnswer files words old new (Ok judged) = IsJudged files (command_of words) judged.1 judged.0
IsAnswer files words old new (Err fault) = IsCause files words old new fault

-- the output was written at its status, or the line of the fault at its status, unless the sink failed
abbrev pub IsTold : Option (List ℕ) → Option (List ℕ) → ℕ → ℕ → Result Judged Fault → ℕ → Type 0
IsTold old new before after (Ok judged) status =
    IsDelivered old new before after judged.0 (output_status judged.1) status
IsTold old new before after (Err fault) status =
    IsDelivered old new before after (fault_line fault) (fault_status fault) status

-- the text is the output of the words, in which this ended otherwise; or the reason is why there is none, where the shelf says this of
-- its last fault
abbrev pub IsAnswerFor :
    Files → List (List ℕ) → (List ℕ → ℕ) → (List ℕ → ℕ) → Option ErrorKind → Result Judged Reason → Type 0
IsAnswerFor files words old new said (Ok judged) = IsJudged files (command_of words) judged.1 judged.0
IsAnswerFor files words old new said (Err reason) = IsReasonOf files words old new said reason

-- the output was written at its status, or the line of the reason's fault at the reason's status, unless the sink
-- failed
abbrev pub IsToldFor : Option (List ℕ) → Option (List ℕ) → ℕ → ℕ → Result Judged Reason → ℕ → Type 0
IsToldFor old new before after (Ok judged) status =
    IsDelivered old new before after judged.0 (output_status judged.1) status
IsToldFor old new before after (Err reason) status =
    IfSome (fault_told reason)
    (λ fault. IsDelivered old new before after (fault_line fault) (reason_status reason) status)
