-- The outcome of a call, from what was answered and how it was delivered.
use Rattle.std.proofs.Common.{◌≡◌, ℕ, ◌⊎◌, inl, inr, List, refl, sym, ap, ◌∙◌, subst}
use Rattle.std.proofs.Common.{None, Some, Option, Result, Ok, Err}
use Rattle.outside.specs.Counts.{NeverFalls, NoneFalls}
use Rattle.call_reasons.specs.declared.faults.Fault.{Fault}
use Rattle.call_reasons.specs.declared.faults.Fault.TheVariants.{Usage, Read, Memory, Big, Elf, Script, Guest}
use Rattle.outcomes.specs.Answers.{IsAnswer, IsTold, Judged}
use Rattle.outcomes.specs.Causes.{HasBigFile, IsCause, IsCauseOf}
use Rattle.outcomes.specs.Delivery.{IsCutShort, IsDelivered, IsWritten}
use Rattle.outcomes.specs.Judged.{IsJudged, IsMet, IsUnmet, output_status}
use Rattle.outcomes.specs.Needs.{needs_in, needs_of}
use Rattle.outcomes.specs.Outcome.{Call, CouldNotRead, IsDue, IsElfLine, IsGuestLine, IsOutcome, IsScriptLine, IsStatus}
use Rattle.outcomes.specs.Outcome.{Wrote, WroteText}
use Rattle.outcomes.specs.Outputs.{IsOutput, IsOutputOf}
use Rattle.call_reasons.specs.declared.reasons.OtherEnd.{OtherEnd}
use Rattle.outcomes.specs.Programs.{Files}
use Rattle.call_reasons.specs.Statuses.{fault_status}
use Rattle.call_reasons.specs.FaultLines.{fault_line}
use Rattle.command_words.specs.Words.{command_of}
use Rattle.output_laws.proofs.Laws.{fault_when_good, left_by_bad_line, left_by_big, left_by_faulty, left_by_outside, status_left}
use Rattle.output_laws.proofs.Laws.{unused_when_bad_line, unused_when_big}
use Rattle.output_laws.proofs.Laws.{unused_when_faulty, unused_when_outside, used_by_output}
use Rattle.output_laws.proofs.Laws.{judged_output, plain_output_of}

-- what each call leaves as it was
pub record IsKept (call : Call) : Type 0 where
  pub files : call.files_after ≡ call.files
  pub shelf_counts : NoneFalls call.read_faults call.read_faults_after
  pub sink_counts : NeverFalls call.write_faults call.write_faults_after

-- the sink took the whole text, or it failed
abbrev pub IsWrittenBy : Call → List ℕ → ℕ → ℕ → Type 0
IsWrittenBy call text due status = IsWritten call.held call.held_after text due status

abbrev pub IsDeliveredBy : Call → List ℕ → ℕ → ℕ → Type 0
IsDeliveredBy call text due status =
    IsDelivered call.held call.held_after call.write_faults call.write_faults_after text due status

-- one status isn't two
not_both : {P : Type 0} (status a b : ℕ) → status ≡ a → ¬ (a ≡ b) → status ≡ b → P
not_both status a b is other at = absurd (other (sym is ∙ at))

either_way : (due status a b : ℕ) → status ≡ due → (due ≡ a) ⊎ (due ≡ b) → (status ≡ a) ⊎ (status ≡ b)
either_way due status a b is (inl at) = inl (is ∙ at)
either_way due status a b is (inr at) = inr (is ∙ at)

-- the sink failed
cut_short : (call : Call) (text : List ℕ) (status : ℕ) → IsKept call → IsDue call text
    → IsCutShort call.held call.held_after call.write_faults call.write_faults_after text status
    → IsOutcome call status
cut_short call text status keeps due cut =
    let is = cut.status in
    record {
      statuses = inr (inr (inr (inr (inr (inr (inl is))))));
      done = not_both status 6 0 is (λ e. absurd cc);
      plain = not_both status 6 0 is (λ e. absurd cc);
      met = not_both status 6 0 is (λ e. absurd cc);
      unmet = not_both status 6 1 is (λ e. absurd cc);
      usage = not_both status 6 2 is (λ e. absurd cc);
      usage_always = λ none. inr is;
      elf = not_both status 6 3 is (λ e. absurd cc);
      elf_always = λ told none. absurd (none.1 cut.rose);
      script = not_both status 6 4 is (λ e. absurd cc);
      script_always = λ told none. absurd (none.1 cut.rose);
      read = not_both status 6 5 is (λ e. absurd cc);
      write = λ at. (cut.rose, (text, due, cut.gained));
      memory = not_both status 6 7 is (λ e. absurd cc);
      big = not_both status 6 8 is (λ e. absurd cc);
      big_always = λ told none. absurd (none.1 cut.rose);
      guest = not_both status 6 9 is (λ e. absurd cc);
      guest_always = λ number outside none. absurd (none.1 cut.rose);
      complete = λ told none. absurd (none.1 cut.rose);
      files = keeps.files;
      shelf_counts = keeps.shelf_counts;
      sink_counts = keeps.sink_counts;
    }

or_seven : (status : ℕ) → (status ≡ 0) ⊎ (status ≡ 1) → (status ≡ 0) ⊎ (status ≡ 1) ⊎ (status ≡ 7)
or_seven status (inl zero) = inl zero
or_seven status (inr one) = inr (inl one)

-- the status of an output
an_output_status : (other : Option OtherEnd) → IsStatus (output_status other)
an_output_status None = inl refl
an_output_status (Some other) = inr (inl refl)

zero_or_one : (other : Option OtherEnd) → (output_status other ≡ 0) ⊎ (output_status other ≡ 1)
zero_or_one None = inl refl
zero_or_one (Some other) = inr refl

-- it is neither of these
low_status : {P : Type 0} (other : Option OtherEnd) (status high : ℕ) → status ≡ output_status other → ¬ (0 ≡ high)
    → ¬ (1 ≡ high) → status ≡ high → P
low_status None status high is zero one at = absurd (zero (sym is ∙ at))
low_status (Some other) status high is zero one at = absurd (one (sym is ∙ at))

-- what was judged, by the status
met_by : (call : Call) (other : Option OtherEnd) (text : List ℕ) → IsJudged call.files (command_of call.words) other text
    → WroteText call text → output_status other ≡ 0 → Wrote call (IsMet call.files (command_of call.words))
met_by call None text judged gained is = (text, judged, gained)
met_by call (Some other) text judged gained is = absurd cc

unmet_by : (call : Call) (other : Option OtherEnd) (text : List ℕ) → IsJudged call.files (command_of call.words) other text
    → WroteText call text → output_status other ≡ 1 → Wrote call (IsUnmet call.files (command_of call.words))
unmet_by call None text judged gained is = absurd cc
unmet_by call (Some other) text judged gained is = (text, (other, judged), gained)

-- the output was written
written_output : (call : Call) (text : List ℕ) (other : Option OtherEnd) (status : ℕ) → IsKept call
    → IsJudged call.files (command_of call.words) other text → IsWrittenBy call text (output_status other) status
    → IsOutcome call status
written_output call text other status keeps judged written =
    let is = written.status in
    let output : IsOutput call.files call.words text = judged_output call.files (command_of call.words) other text judged in
    let used = used_by_output call.files (command_of call.words) text output in
    record {
      statuses = subst IsStatus (sym is) (an_output_status other);
      done = λ at. (text, output, written.gained);
      plain = λ at. (text, plain_output_of call.files (command_of call.words) text output, written.gained);
      met = λ at. met_by call other text judged written.gained (sym is ∙ at);
      unmet = λ at. unmet_by call other text judged written.gained (sym is ∙ at);
      usage = low_status other status 2 is (λ e. absurd cc) (λ e. absurd cc);
      usage_always = λ none. absurd (subst (λ c. IsOutputOf call.files c text) none output);
      elf = low_status other status 3 is (λ e. absurd cc) (λ e. absurd cc);
      elf_always = λ told none. absurd (unused_when_faulty call.files (needs_in call.words) told used);
      script = low_status other status 4 is (λ e. absurd cc) (λ e. absurd cc);
      script_always = λ told none. absurd (unused_when_bad_line call.files (needs_in call.words) told used);
      read = low_status other status 5 is (λ e. absurd cc) (λ e. absurd cc);
      write = low_status other status 6 is (λ e. absurd cc) (λ e. absurd cc);
      memory = low_status other status 7 is (λ e. absurd cc) (λ e. absurd cc);
      big = low_status other status 8 is (λ e. absurd cc) (λ e. absurd cc);
      big_always = λ told none. absurd (unused_when_big call.files (needs_in call.words) told used);
      guest = low_status other status 9 is (λ e. absurd cc) (λ e. absurd cc);
      guest_always = λ number outside none.
          absurd (unused_when_outside call.files (needs_in call.words) number outside used);
      complete = λ told none. or_seven status (either_way (output_status other) status 0 1 is (zero_or_one other));
      files = keeps.files;
      shelf_counts = keeps.shelf_counts;
      sink_counts = keeps.sink_counts;
    }

-- the fault of a status
a_status : (fault : Fault) → IsStatus (fault_status fault)
a_status Usage = inr (inr (inl refl))
a_status (Elf fault) = inr (inr (inr (inl refl)))
a_status (Script number) = inr (inr (inr (inr (inl refl))))
a_status Read = inr (inr (inr (inr (inr (inl refl)))))
a_status Memory = inr (inr (inr (inr (inr (inr (inr (inl refl)))))))
a_status Big = inr (inr (inr (inr (inr (inr (inr (inr (inl refl))))))))
a_status (Guest number) = inr (inr (inr (inr (inr (inr (inr (inr (inr refl))))))))

no_output_status : (fault : Fault) → ¬ (fault_status fault ≡ 0)
no_output_status Usage is = absurd cc
no_output_status fault is = absurd cc

no_unmet_status : (fault : Fault) → ¬ (fault_status fault ≡ 1)
no_unmet_status Usage is = absurd cc
no_unmet_status fault is = absurd cc

no_write_status : (fault : Fault) → ¬ (fault_status fault ≡ 6)
no_write_status Usage is = absurd cc
no_write_status fault is = absurd cc

-- what a fault that has its cause says by its status
module _ (call : Call) where
  abbrev HasCause : Fault → Type 0
  HasCause fault = IsCause call.files call.words call.read_faults call.read_faults_after fault

  usage_said : (fault : Fault) → HasCause fault → WroteText call (fault_line fault) → fault_status fault ≡ 2
      → (command_of call.words ≡ None) × WroteText call (fault_line Usage)
  usage_said Usage cause gained is = (cause, gained)
  usage_said fault cause gained is = absurd cc

  elf_said : (fault : Fault) → HasCause fault → WroteText call (fault_line fault) → fault_status fault ≡ 3
      → Wrote call (IsElfLine call.files call.words)
  elf_said (Elf fault) cause gained is =
      (fault_line (Elf fault), record { fault = fault; refused = cause; line = refl }, gained)
  elf_said fault cause gained is = absurd cc

  script_said : (fault : Fault) → HasCause fault → WroteText call (fault_line fault) → fault_status fault ≡ 4
      → Wrote call (IsScriptLine call.files call.words)
  script_said (Script number) cause gained is =
      (fault_line (Script number), record { number = number; refused = cause; line = refl }, gained)
  script_said fault cause gained is = absurd cc

  read_said : (fault : Fault) → HasCause fault → WroteText call (fault_line fault) → fault_status fault ≡ 5
      → CouldNotRead call × WroteText call (fault_line Read)
  read_said Read cause gained is = (cause, gained)
  read_said fault cause gained is = absurd cc

  memory_said : (fault : Fault) → HasCause fault → WroteText call (fault_line fault) → fault_status fault ≡ 7
      → WroteText call (fault_line Memory)
  memory_said Memory cause gained is = gained
  memory_said fault cause gained is = absurd cc

  big_said : (fault : Fault) → HasCause fault → WroteText call (fault_line fault) → fault_status fault ≡ 8
      → HasBigFile call.files (needs_in call.words) × WroteText call (fault_line Big)
  big_said Big cause gained is = (cause, gained)
  big_said fault cause gained is = absurd cc

  guest_said : (fault : Fault) → HasCause fault → WroteText call (fault_line fault) → fault_status fault ≡ 9
      → Wrote call (IsGuestLine call.words)
  guest_said (Guest number) cause gained is =
      (fault_line (Guest number), record { number = number; outside = cause; line = refl }, gained)
  guest_said fault cause gained is = absurd cc

-- where there is no command, the fault is one of usage
usage_alone : (files : Files) (old new : List ℕ → ℕ) (fault : Fault) → IsCauseOf files None old new fault
    → fault_status fault ≡ 2
usage_alone files old new Usage cause = refl
usage_alone files old new Memory cause = absurd (cc cause)
usage_alone files old new fault cause = absurd cause

-- the line of a fault was written
written_line : (call : Call) (fault : Fault) (status : ℕ) → IsKept call
    → IsCause call.files call.words call.read_faults call.read_faults_after fault
    → IsWrittenBy call (fault_line fault) (fault_status fault) status → IsOutcome call status
written_line call fault status keeps cause written =
    let is = written.status in
    let command = command_of call.words in
    let needs = needs_of command in
    let old = call.read_faults in
    let new = call.read_faults_after in
    let is_now : (a b : ℕ) → (fault_status fault ≡ a) ⊎ (fault_status fault ≡ b)
    → (status ≡ a) ⊎ (status ≡ b) = λ a b. either_way (fault_status fault) status a b is in
    record {
      statuses = subst IsStatus (sym is) (a_status fault);
      done = λ at. absurd (no_output_status fault (sym is ∙ at));
      plain = λ at. absurd (no_output_status fault (sym is ∙ at));
      met = λ at. absurd (no_output_status fault (sym is ∙ at));
      unmet = λ at. absurd (no_unmet_status fault (sym is ∙ at));
      usage = λ at. usage_said call fault cause written.gained (sym is ∙ at);
      usage_always = λ none. inl (is
          ∙ usage_alone call.files old new fault (subst (λ c. IsCauseOf call.files c old new fault) none cause));
      elf = λ at. elf_said call fault cause written.gained (sym is ∙ at);
      elf_always = λ told none. is_now 3 7
          (status_left call.files command old new 3 fault (left_by_faulty call.files needs told) none.0 cause);
      script = λ at. script_said call fault cause written.gained (sym is ∙ at);
      script_always = λ told none. is_now 4 7
          (status_left call.files command old new 4 fault (left_by_bad_line call.files needs told) none.0 cause);
      read = λ at. read_said call fault cause written.gained (sym is ∙ at);
      write = λ at. absurd (no_write_status fault (sym is ∙ at));
      memory = λ at. memory_said call fault cause written.gained (sym is ∙ at);
      big = λ at. big_said call fault cause written.gained (sym is ∙ at);
      big_always = λ told none. is_now 8 7
          (status_left call.files command old new 8 fault (left_by_big call.files needs told) none.0 cause);
      guest = λ at. guest_said call fault cause written.gained (sym is ∙ at);
      guest_always = λ number outside none. is_now 9 7
          (status_left call.files command old new 9 fault (left_by_outside call.files needs number outside) none.0 cause);
      complete = λ told none. inr (inr (is
          ∙ ap fault_status (fault_when_good call.files command old new fault told none.0 cause)));
      files = keeps.files;
      shelf_counts = keeps.shelf_counts;
      sink_counts = keeps.sink_counts;
    }

-- the outcome of an output, and of a fault
output_delivered : (call : Call) (text : List ℕ) (other : Option OtherEnd) (status : ℕ) → IsKept call
    → IsJudged call.files (command_of call.words) other text → IsDeliveredBy call text (output_status other) status
    → IsOutcome call status
output_delivered call text other status keeps judged (inl written) =
    written_output call text other status keeps judged written
output_delivered call text other status keeps judged (inr cut) =
    cut_short call text status keeps (inl (judged_output call.files (command_of call.words) other text judged)) cut

fault_delivered : (call : Call) (fault : Fault) (status : ℕ) → IsKept call
    → IsCause call.files call.words call.read_faults call.read_faults_after fault
    → IsDeliveredBy call (fault_line fault) (fault_status fault) status → IsOutcome call status
fault_delivered call fault status keeps cause (inl written) =
    written_line call fault status keeps cause written
fault_delivered call fault status keeps cause (inr cut) =
    cut_short call (fault_line fault) status keeps
    (inr (record { fault = fault; cause = cause; line = refl })) cut

-- the outcome of an answer that was told
pub told_outcome : (call : Call) (answer : Result Judged Fault) (status : ℕ) → IsKept call
    → IsAnswer call.files call.words call.read_faults call.read_faults_after answer
    → IsTold call.held call.held_after call.write_faults call.write_faults_after answer status
    → IsOutcome call status
told_outcome call (Ok judged) status keeps is told = output_delivered call judged.0 judged.1 status keeps is told
told_outcome call (Err fault) status keeps cause told = fault_delivered call fault status keeps cause told
