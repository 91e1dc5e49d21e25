-- The outcome of a call and the reason that goes with it, from what was answered and how it was delivered.
use Rattle.std.proofs.Common.{◌≡◌, ◌∙◌, ℕ, inl, inr, List, Option, None, refl, sym, ap, subst, Some, Result, Ok, Err}
use Rattle.std.specs.declared.io.ErrorKind.{ErrorKind}
use Rattle.call_reasons.specs.declared.faults.Fault.{Fault}
use Rattle.call_reasons.specs.declared.faults.Fault.TheVariants as told
use Rattle.call_reasons.specs.declared.reasons.Explained.{Explained}
use Rattle.call_reasons.specs.declared.reasons.Reason.{Reason}
use Rattle.call_reasons.specs.declared.reasons.Reason.TheVariants.{Words, Unread, NoMemory, TooBig, Elf, Script, Guest, EndedOtherwise, Unwritten}
use Rattle.std.specs.Option.{is_some}
use Rattle.std.specs.Prelude.{IfErr, IfOk, IfSome, IsSome, option_map}
use Rattle.command_words.specs.Commands.{Command}
use Rattle.command_words.specs.Words.{command_of}
use Rattle.outcomes.specs.Answers.{IsAnswerFor, IsToldFor, Judged}
use Rattle.call_reasons.specs.declared.reasons.OtherEnd.{OtherEnd}
use Rattle.outcomes.specs.Judged.{IsJudged, IsMet, output_status}
use Rattle.outcomes.specs.Causes.{IsCause}
use Rattle.outside.specs.Told.{GainedPrefix}
use Rattle.outcomes.specs.Delivery.{IsAsDue, IsDelivered, due_for}
use Rattle.outcomes.specs.Outcome.{Call, IsOutcome, WrotePrefix, WroteText}
use Rattle.outcomes.specs.Needs.{needs_of}
use Rattle.outcomes.specs.Programs.{Files}
use Rattle.call_reasons.specs.FaultLines.{fault_line}
use Rattle.outcomes.specs.Reasons.{IsExplained, IsReason, IsReasonFor, IsReasonOf, IsUntold, Troubles, WasDue, WroteLine}
use Rattle.call_reasons.specs.Reasons.{fault_told, reason_status}
use Rattle.told_answers.proofs.Faults.{cause_of, is_told}
use Rattle.told_answers.proofs.Outcomes.{IsKept, told_outcome}

-- the fault that a reason stands for has its cause
cause : (call : Call) (said : Option ErrorKind) (reason : Reason)
    → IsReasonOf call.files call.words call.read_faults call.read_faults_after said reason
    → IfSome (fault_told reason) (IsCause call.files call.words call.read_faults call.read_faults_after)
cause call said reason why =
    cause_of call.files call.words call.read_faults call.read_faults_after said reason why

-- the outcome of an answer that was told
outcome_of : (call : Call) (said : Option ErrorKind) (answer : Result Judged Reason) (status : ℕ) → IsKept call
    → IsAnswerFor call.files call.words call.read_faults call.read_faults_after said answer
    → IsToldFor call.held call.held_after call.write_faults call.write_faults_after answer status
    → IsOutcome call status
outcome_of call said (Ok judged) status keeps output told_so = told_outcome call (Ok judged) status keeps output told_so
outcome_of call said (Err (Words fault)) status keeps why told_so =
    told_outcome call (Err told.Usage) status keeps (cause call said (Words fault) why) told_so
outcome_of call said (Err (Unread file trouble)) status keeps why told_so =
    told_outcome call (Err told.Read) status keeps (cause call said (Unread file trouble) why) told_so
outcome_of call said (Err NoMemory) status keeps why told_so =
    told_outcome call (Err told.Memory) status keeps (cause call said NoMemory why) told_so
outcome_of call said (Err (TooBig file)) status keeps why told_so =
    told_outcome call (Err told.Big) status keeps (cause call said (TooBig file) why) told_so
outcome_of call said (Err (Elf file fault about)) status keeps why told_so =
    told_outcome call (Err (told.Elf fault)) status keeps (cause call said (Elf file fault about) why) told_so
outcome_of call said (Err (Script number fault)) status keeps why told_so =
    told_outcome call (Err (told.Script number)) status keeps (cause call said (Script number fault) why) told_so
outcome_of call said (Err (Guest number)) status keeps why told_so =
    told_outcome call (Err (told.Guest number)) status keeps (cause call said (Guest number) why) told_so
outcome_of call said (Err (EndedOtherwise other)) status keeps why told_so = absurd why
outcome_of call said (Err (Unwritten trouble)) status keeps why told_so = absurd why

-- a reason of the words and the files
module _ (call : Call) (troubles : Troubles) where
  abbrev IsOfFiles : Reason → Type 0
  IsOfFiles reason =
      IsReasonOf call.files call.words call.read_faults call.read_faults_after troubles.shelf reason

  is_reason : (reason : Reason) → IsOfFiles reason → IsReason call troubles reason
  is_reason (Words fault) why = why
  is_reason (Unread file trouble) why = why
  is_reason NoMemory why = why
  is_reason (TooBig file) why = why
  is_reason (Elf file fault about) why = why
  is_reason (Script number fault) why = why
  is_reason (Guest number) why = why
  is_reason (EndedOtherwise other) why = absurd why
  is_reason (Unwritten trouble) why = absurd why

  -- has neither the status of an output nor that of a failed sink
  not_zero : (reason : Reason) → ¬ (reason_status reason ≡ 0)
  not_zero (Words fault) is = absurd cc
  not_zero reason is = absurd cc

  not_six : (reason : Reason) → IsOfFiles reason → ¬ (reason_status reason ≡ 6)
  not_six (Words fault) why is = absurd cc
  not_six (Unread file trouble) why is = absurd cc
  not_six NoMemory why is = absurd cc
  not_six (TooBig file) why is = absurd cc
  not_six (Elf file fault about) why is = absurd cc
  not_six (Script number fault) why is = absurd cc
  not_six (Guest number) why is = absurd cc
  not_six (EndedOtherwise other) why is = absurd why
  not_six (Unwritten trouble) why is = absurd why

  not_unwritten : (reason : Reason) → IsOfFiles reason → ¬ (reason ≡ Unwritten troubles.sink)
  not_unwritten reason why is = subst IsOfFiles is why

  -- and its line was written, where its answer was told and the sink didn't fail
  line_of : (fault : Fault) (due status : ℕ) → status ≡ due → ¬ (due ≡ 6)
      → IsDelivered call.held call.held_after call.write_faults call.write_faults_after (fault_line fault) due status
      → WroteText call (fault_line fault)
  line_of fault due status is well (inl written) = written.gained
  line_of fault due status is well (inr cut) = absurd (well (sym is ∙ cut.status))

  wrote_line : (reason : Reason) (status : ℕ) → status ≡ reason_status reason → ¬ (reason_status reason ≡ 6)
      → IsToldFor call.held call.held_after call.write_faults call.write_faults_after (Err reason) status
      → WroteLine call reason
  wrote_line (Words fault) status is well told_so = line_of told.Usage 2 status is well told_so
  wrote_line (Unread file trouble) status is well told_so = line_of told.Read 5 status is well told_so
  wrote_line NoMemory status is well told_so = line_of told.Memory 7 status is well told_so
  wrote_line (TooBig file) status is well told_so = line_of told.Big 8 status is well told_so
  wrote_line (Elf file fault about) status is well told_so = line_of (told.Elf fault) 3 status is well told_so
  wrote_line (Script number fault) status is well told_so = line_of (told.Script number) 4 status is well told_so
  wrote_line (Guest number) status is well told_so = line_of (told.Guest number) 9 status is well told_so
  wrote_line (EndedOtherwise other) status is well told_so = tt
  wrote_line (Unwritten trouble) status is well told_so = tt

  by_reason : (reason : Reason) → IsOfFiles reason → IsOutcome call (reason_status reason) → WroteLine call reason
      → IsExplained call troubles (record { status = reason_status reason; reason = Some reason; untold = None })
  by_reason reason why outcome line = record {
    outcome = outcome;
    none = (λ e. absurd cc, λ e. absurd (not_zero reason e));
    unwritten = (
      λ e. let is : reason ≡ Unwritten troubles.sink = cc in absurd (not_unwritten reason why is),
      λ e. absurd (not_six reason why e),
    );
    status = refl;
    line = line;
    why = is_reason reason why;
    untold = tt;
    in_part = λ six none. absurd (not_six reason why six);
  }

  -- how a call is explained whose output was written
  by_output : (text : List ℕ) (other : Option OtherEnd) → IsJudged call.files (command_of call.words) other text
      → WroteText call text → IsOutcome call (output_status other)
      → IsExplained call troubles (due_for (Ok (text, other)))
  by_output text None judged gained outcome = record {
    outcome = outcome;
    none = (λ e. refl, λ e. refl);
    unwritten = (λ e. absurd cc, λ e. absurd cc);
    status = tt;
    line = tt;
    why = tt;
    untold = tt;
    in_part = λ six none. absurd (cc six);
  }
  by_output text (Some other) judged gained outcome = record {
    outcome = outcome;
    none = (λ e. absurd cc, λ e. absurd cc);
    unwritten = (λ e. absurd cc, λ e. absurd cc);
    status = refl;
    line = tt;
    why = (text, judged, gained);
    untold = tt;
    in_part = λ six none. absurd (cc six);
  }

  -- its text was written, where the sink didn't fail
  low_or_six : (other : Option OtherEnd) → ¬ (output_status other ≡ 6)
  low_or_six None is = absurd cc
  low_or_six (Some other) is = absurd cc

  text_written : (text : List ℕ) (other : Option OtherEnd) (status : ℕ) → status ≡ output_status other
      → IsDelivered call.held call.held_after call.write_faults call.write_faults_after text (output_status other) status
      → WroteText call text
  text_written text other status is (inl written) = written.gained
  text_written text other status is (inr cut) = absurd (low_or_six other (sym is ∙ cut.status))

  -- a reason of the words and the files was due
  was_due : (reason : Reason) → IsOfFiles reason → WasDue call troubles reason
  was_due (Words fault) why = why
  was_due (Unread file trouble) why = why
  was_due NoMemory why = why
  was_due (TooBig file) why = why
  was_due (Elf file fault about) why = why
  was_due (Script number fault) why = why
  was_due (Guest number) why = why
  was_due (EndedOtherwise other) why = absurd why
  was_due (Unwritten trouble) why = absurd why

  -- where the sink failed, a part of an output was written
  part : (text : List ℕ) (other : Option OtherEnd) (status : ℕ)
      → IsDelivered call.held call.held_after call.write_faults call.write_faults_after text (output_status other) status
      → status ≡ 6 → GainedPrefix call.held call.held_after text
  part text other status (inl written) six = absurd (low_or_six other (sym written.status ∙ six))
  part text other status (inr cut) six = cut.gained

  -- and what was due is untold: an outcome of it that ended otherwise, or a reason of the words and the files
  untold_other : (text : List ℕ) (other : Option OtherEnd) → IsJudged call.files (command_of call.words) other text
      → GainedPrefix call.held call.held_after text → IfSome (option_map EndedOtherwise other) (IsUntold call troubles 6)
  untold_other text None judged gained = tt
  untold_other text (Some other) judged gained = record { unwritten = refl; why = (text, judged, gained) }

  untold_of : (answer : Result Judged Reason) (status : ℕ) → IsAnswerFor call.files call.words call.read_faults
      call.read_faults_after troubles.shelf answer
      → IsToldFor call.held call.held_after call.write_faults call.write_faults_after answer status
      → status ≡ 6 → IfSome (due_for answer).reason (IsUntold call troubles 6)
  untold_of (Ok judged) status is delivered six =
      untold_other judged.0 judged.1 is (part judged.0 judged.1 status delivered six)
  untold_of (Err reason) status why told_so six = record { unwritten = refl; why = was_due reason why }

  -- unless all in it is as was expected
  met_part : (text : List ℕ) (other : Option OtherEnd) → IsJudged call.files (command_of call.words) other text
      → GainedPrefix call.held call.held_after text → option_map EndedOtherwise other ≡ None
      → WrotePrefix call (IsMet call.files (command_of call.words))
  met_part text None judged gained none = (text, judged, gained)
  met_part text (Some other) judged gained none = absurd (cc none)

  part_of : (answer : Result Judged Reason) (status : ℕ) → IsAnswerFor call.files call.words call.read_faults
      call.read_faults_after troubles.shelf answer
      → IsToldFor call.held call.held_after call.write_faults call.write_faults_after answer status
      → status ≡ 6 → (due_for answer).reason ≡ None → WrotePrefix call (IsMet call.files (command_of call.words))
  part_of (Ok judged) status is delivered six none =
      met_part judged.0 judged.1 is (part judged.0 judged.1 status delivered six) none
  part_of (Err reason) status why told_so six none = absurd (cc none)

-- how a call is explained whose answer was told, with this outcome
explained_so : (call : Call) (troubles : Troubles) (answer : Result Judged Reason) (explained : Explained)
    → IsAnswerFor call.files call.words call.read_faults call.read_faults_after troubles.shelf answer
    → IsToldFor call.held call.held_after call.write_faults call.write_faults_after answer explained.status
    → IsAsDue call.write_faults call.write_faults_after troubles.sink (due_for answer) explained
    → IsOutcome call explained.status → IsExplained call troubles explained
explained_so call troubles (Ok judged) explained is told_so (inl due) outcome =
    let status : explained.status ≡ output_status judged.1 = ap (λ (e : Explained). e.status) due in
    subst (IsExplained call troubles) (sym due)
    (by_output call troubles judged.0 judged.1 is
    (text_written call troubles judged.0 judged.1 explained.status status told_so)
    (subst (λ (e : Explained). IsOutcome call e.status) due outcome))
explained_so call troubles (Err reason) explained why told_so (inl due) outcome =
    let is : explained.status ≡ reason_status reason = ap (λ (e : Explained). e.status) due in
    subst (IsExplained call troubles) (sym due)
    (by_reason call troubles reason why (subst (λ (e : Explained). IsOutcome call e.status) due outcome)
    (wrote_line call troubles reason explained.status is (not_six call troubles reason why) told_so))
explained_so call troubles answer explained answered told_so (inr unwritten) outcome =
    subst (IsExplained call troubles) (sym unwritten.failed)
    (record {
      outcome = subst (λ (e : Explained). IsOutcome call e.status) unwritten.failed outcome;
      none = (λ e. absurd cc, λ e. absurd cc);
      unwritten = (λ e. refl, λ e. refl);
      status = refl;
      line = tt;
      why = record { failed = unwritten.rose; trouble_told = refl };
      untold = untold_of call troubles answer explained.status answered told_so
          (ap (λ (e : Explained). e.status) unwritten.failed);
      in_part = λ six none. part_of call troubles answer explained.status answered told_so
          (ap (λ (e : Explained). e.status) unwritten.failed) none;
    })

pub explained_of : (call : Call) (troubles : Troubles) (answer : Result Judged Reason) (explained : Explained)
    → IsKept call
    → IsAnswerFor call.files call.words call.read_faults call.read_faults_after troubles.shelf answer
    → IsToldFor call.held call.held_after call.write_faults call.write_faults_after answer explained.status
    → IsAsDue call.write_faults call.write_faults_after troubles.sink (due_for answer) explained
    → IsExplained call troubles explained
explained_of call troubles answer explained keeps answered told_so due =
    explained_so call troubles answer explained answered told_so due
    (outcome_of call troubles.shelf answer explained.status keeps answered told_so)

-- the reason of an answer stands for a fault, whose line can be told
pub due_is_told : (files : Files) (words : List (List ℕ)) (old new : List ℕ → ℕ) (said : Option ErrorKind)
    (answer : Result Judged Reason) → IsAnswerFor files words old new said answer
    → IfErr answer (λ reason. IsSome (fault_told reason))
due_is_told files words old new said (Ok judged) output = tt
due_is_told files words old new said (Err reason) why = is_told files words old new said reason why

-- a reason of the files that the command of the words needs is one of the words
reason_for : (files : Files) (words : List (List ℕ)) (old new : List ℕ → ℕ) (said : Option ErrorKind)
    (command : Command) (reason : Reason) → command_of words ≡ Some command
    → IsReasonFor files (needs_of (Some command)) old new said reason → IsReasonOf files words old new said reason
reason_for files words old new said command (Words fault) is why = absurd why
reason_for files words old new said command (Unread file trouble) is why =
    subst (λ (c : Option Command). IsReasonFor files (needs_of c) old new said (Unread file trouble)) (sym is) why
reason_for files words old new said command NoMemory is why = ap (λ (c : Option Command). is_some c) is
reason_for files words old new said command (TooBig file) is why =
    subst (λ (c : Option Command). IsReasonFor files (needs_of c) old new said (TooBig file)) (sym is) why
reason_for files words old new said command (Elf file fault about) is why =
    subst (λ (c : Option Command). IsReasonFor files (needs_of c) old new said (Elf file fault about)) (sym is) why
reason_for files words old new said command (Script number fault) is why =
    subst (λ (c : Option Command). IsReasonFor files (needs_of c) old new said (Script number fault)) (sym is) why
reason_for files words old new said command (Guest number) is why =
    subst (λ (c : Option Command). IsReasonFor files (needs_of c) old new said (Guest number)) (sym is) why
reason_for files words old new said command (EndedOtherwise other) is why = absurd why
reason_for files words old new said command (Unwritten trouble) is why = absurd why

-- the answer to the words, from the answer to their command
pub answer_for : (files : Files) (words : List (List ℕ)) (old new : List ℕ → ℕ) (said : Option ErrorKind)
    (command : Command) (answer : Result Judged Reason) → command_of words ≡ Some command
    → IfOk answer (λ judged. IsJudged files (Some command) judged.1 judged.0)
    → IfErr answer (IsReasonFor files (needs_of (Some command)) old new said)
    → IsAnswerFor files words old new said answer
answer_for files words old new said command (Ok judged) is output why =
    subst (λ (c : Option Command). IsJudged files c judged.1 judged.0) (sym is) output
answer_for files words old new said command (Err reason) is output why =
    reason_for files words old new said command reason is why
