-- Why a call gives no output, exactly: the reason that goes with its status (own).
use Rattle.std.specs.Prelude.{ℕ, ◌≡◌, ◌↔◌, List, Option, Some, None, IfSome, IsSome}
use Rattle.std.specs.declared.io.ErrorKind.{ErrorKind}
use Rattle.mach_types.specs.declared.limits.Limits.{Limits}
use Rattle.elf_load.specs.declared.fault.ElfFault.{ElfFault}
use Rattle.block_model.specs.Setting.{setting_of}
use Rattle.shared_procs.specs.Pairs.{pair_setting_of}
use Rattle.outside.specs.Counts.{Rose}
use Rattle.command_words.specs.declared.faults.WordsFault.{WordsFault}
use Rattle.command_words.specs.Commands.{PairRun}
use Rattle.command_words.specs.WordFaults.{words_fault}
use Rattle.command_words.specs.Words.{command_of}
use Rattle.call_reasons.specs.declared.reasons.ElfPlace.{ElfPlace}
use Rattle.call_reasons.specs.declared.reasons.Explained.{Explained}
use Rattle.call_reasons.specs.declared.reasons.FileRole.{FileRole}
use Rattle.call_reasons.specs.declared.reasons.FileRole.TheVariants as role
use Rattle.call_reasons.specs.declared.reasons.LineFault.{LineFault}
use Rattle.call_reasons.specs.declared.reasons.Reason.{Reason}
use Rattle.call_reasons.specs.declared.reasons.Reason.TheVariants.{Words, Unread, NoMemory, TooBig, Elf, Script, Guest, EndedOtherwise, Unwritten}
use Rattle.outcomes.specs.Causes.{IsBigScript, IsOutsideGuest, IsScriptRefused, IsUnreadScript}
use Rattle.outcomes.specs.ElfPlaces.{place_of}
use Rattle.outcomes.specs.Needs as need
use Rattle.outcomes.specs.Judged.{IsJudged, IsMet}
use Rattle.outcomes.specs.Outcome.{Call, CouldNotWrite, IsOutcome, Wrote, WrotePrefix, WroteText}
use Rattle.outcomes.specs.PairFiles.{AfterBoth, AfterFirst, IsPairScriptRefused}
use Rattle.whole_runs.specs.PlayedPairs.{pair_at}
use Rattle.outcomes.specs.Programs.{Files, IsRefused, IsTooBig}
use Rattle.call_reasons.specs.Reasons.{fault_told, most_program_bytes, most_script_bytes, reason_status}
use Rattle.call_reasons.specs.FaultLines.{fault_line}
use Rattle.whole_runs.specs.BadLines.{line_fault, line_fault_of_pair}

-- the file of this role couldn't be read: the count of faults of the program's name rose, or that of the
-- script's after the program was taken; of a pair that of a file's name after those before it were taken
abbrev pub IsUnread : Files → need.Needs → (List ℕ → ℕ) → (List ℕ → ℕ) → FileRole → Type 0
IsUnread files need.Nothing old new file = ⊥
IsUnread files (need.Program program limits) old new role.Program = Rose (old program) (new program)
IsUnread files (need.Program program limits) old new role.SecondProgram = ⊥
IsUnread files (need.Program program limits) old new role.Script = ⊥
IsUnread files (need.Script program script limits) old new role.Program = Rose (old program) (new program)
IsUnread files (need.Script program script limits) old new role.SecondProgram = ⊥
IsUnread files (need.Script program script limits) old new role.Script =
    IsUnreadScript files program script limits old new
IsUnread files (need.Guest guest) old new file = ⊥
IsUnread files (need.Pair pair) old new role.Program = Rose (old pair.first) (new pair.first)
IsUnread files (need.Pair pair) old new role.SecondProgram =
    AfterFirst files pair (Rose (old pair.second) (new pair.second))
IsUnread files (need.Pair pair) old new role.Script =
    AfterBoth files pair (Rose (old pair.script) (new pair.script))

-- the file of this role has too many bytes: the program, or the script after the program was taken; of a pair a file after those
-- before it were taken
abbrev pub IsBig : Files → need.Needs → FileRole → Type 0
IsBig files need.Nothing file = ⊥
IsBig files (need.Program program limits) role.Program = IsTooBig files program most_program_bytes
IsBig files (need.Program program limits) role.SecondProgram = ⊥
IsBig files (need.Program program limits) role.Script = ⊥
IsBig files (need.Script program script limits) role.Program = IsTooBig files program most_program_bytes
IsBig files (need.Script program script limits) role.SecondProgram = ⊥
IsBig files (need.Script program script limits) role.Script = IsBigScript files program script limits
IsBig files (need.Guest guest) file = ⊥
IsBig files (need.Pair pair) role.Program = IsTooBig files pair.first most_program_bytes
IsBig files (need.Pair pair) role.SecondProgram =
    AfterFirst files pair (IsTooBig files pair.second most_program_bytes)
IsBig files (need.Pair pair) role.Script = AfterBoth files pair (IsTooBig files pair.script most_script_bytes)

-- the program of this name was read, and is refused for this fault, which is about this
pub record IsRefusedAbout
    (files : Files) (name : List ℕ) (limits : Limits) (fault : ElfFault) (about : Option ElfPlace) : Type 0 where
  pub refused : IsRefused files name limits fault
  pub place : about ≡ place_of refused.bytes limits fault

-- the program that is needed is, which has this role
abbrev pub IsRefusalAbout : Files → need.Needs → FileRole → ElfFault → Option ElfPlace → Type 0
IsRefusalAbout files need.Nothing file fault about = ⊥
IsRefusalAbout files (need.Program program limits) file fault about =
    (file ≡ role.Program) × IsRefusedAbout files program limits fault about
IsRefusalAbout files (need.Script program script limits) file fault about =
    (file ≡ role.Program) × IsRefusedAbout files program limits fault about
IsRefusalAbout files (need.Guest guest) file fault about = ⊥
IsRefusalAbout files (need.Pair pair) role.Program fault about =
    IsRefusedAbout files pair.first pair.limits fault about
IsRefusalAbout files (need.Pair pair) role.SecondProgram fault about =
    AfterFirst files pair (IsRefusedAbout files pair.second pair.limits fault about)
IsRefusalAbout files (need.Pair pair) role.Script fault about = ⊥

-- a script is refused at the line of this number, after its program was taken, and this is what is wrong with
-- the line
pub record IsScriptRefusedFor
    (files : Files) (program script : List ℕ) (limits : Limits) (number : ℕ) (fault : LineFault) : Type 0 where
  pub refused : IsScriptRefused files program script limits number
  pub why : line_fault (setting_of refused.image limits) refused.first.log refused.first.line ≡ Some fault

-- the script of a pair is
pub record IsPairScriptRefusedFor (files : Files) (pair : PairRun) (number : ℕ) (fault : LineFault) : Type 0 where
  pub refused : IsPairScriptRefused files pair number
  pub why : line_fault_of_pair (pair_setting_of refused.one refused.two pair.limits)
      (pair_at (pair_setting_of refused.one refused.two pair.limits) refused.first.log) refused.first.line ≡ Some fault

-- the script that is needed is
abbrev pub IsScriptRefusalFor : Files → need.Needs → ℕ → LineFault → Type 0
IsScriptRefusalFor files need.Nothing number fault = ⊥
IsScriptRefusalFor files (need.Program program limits) number fault = ⊥
IsScriptRefusalFor files (need.Script program script limits) number fault =
    IsScriptRefusedFor files program script limits number fault
IsScriptRefusalFor files (need.Guest guest) number fault = ⊥
IsScriptRefusalFor files (need.Pair pair) number fault = IsPairScriptRefusedFor files pair number fault

-- a file of this role couldn't be read, and this is what the shelf says of its last fault
pub record IsUnreadFor
    (files : Files) (needs : need.Needs) (old new : List ℕ → ℕ) (said : Option ErrorKind) (file : FileRole)
    (trouble : Option ErrorKind) : Type 0 where
  pub unread : IsUnread files needs old new file
  pub trouble_told : trouble ≡ said

-- why a reason comes of the files that are needed, or of the guest, where the shelf says this of its last fault; want of memory is
-- free
abbrev pub IsReasonFor : Files → need.Needs → (List ℕ → ℕ) → (List ℕ → ℕ) → Option ErrorKind → Reason → Type 0
IsReasonFor files needs old new said (Words fault) = ⊥
IsReasonFor files needs old new said (Unread file trouble) = IsUnreadFor files needs old new said file trouble
IsReasonFor files needs old new said NoMemory = Unit {0}
IsReasonFor files needs old new said (TooBig file) = IsBig files needs file
IsReasonFor files needs old new said (Elf file fault about) = IsRefusalAbout files needs file fault about
IsReasonFor files needs old new said (Script number fault) = IsScriptRefusalFor files needs number fault
IsReasonFor files needs old new said (Guest number) = IsOutsideGuest needs number
IsReasonFor files needs old new said (EndedOtherwise other) = ⊥
IsReasonFor files needs old new said (Unwritten trouble) = ⊥

-- the words are no command, and this is what is wrong with them
pub record AreWrongWords (words : List (List ℕ)) (fault : WordsFault) : Type 0 where
  pub none : command_of words ≡ None
  pub why : words_fault words ≡ Some fault

-- why a reason comes of the words and of the files that they need; memory is wanted for words of a command alone
abbrev pub IsReasonOf : Files → List (List ℕ) → (List ℕ → ℕ) → (List ℕ → ℕ) → Option ErrorKind → Reason → Type 0
IsReasonOf files words old new said (Words fault) = AreWrongWords words fault
IsReasonOf files words old new said NoMemory = IsSome (command_of words)
IsReasonOf files words old new said reason = IsReasonFor files (need.needs_in words) old new said reason

-- what the shelf and the sink say of their last faults, after a call
pub record Troubles : Type 0 where
  pub shelf : Option ErrorKind
  pub sink : Option ErrorKind

-- the sink failed, and this is what it says of it
pub record IsUnwrittenFor (call : Call) (said trouble : Option ErrorKind) : Type 0 where
  pub failed : CouldNotWrite call
  pub trouble_told : trouble ≡ said

-- why a reason is told of a call: the sink failed; or the output was written, and this is the first outcome of it that ended otherwise
-- than was expected; or it is the reason of the words and the files
abbrev pub IsReason : Call → Troubles → Reason → Type 0
IsReason call troubles (EndedOtherwise other) = Wrote call (IsJudged call.files (command_of call.words) (Some other))
IsReason call troubles (Unwritten trouble) = IsUnwrittenFor call troubles.sink trouble
IsReason call troubles reason =
    IsReasonOf call.files call.words call.read_faults call.read_faults_after troubles.shelf reason

-- the line of the fault that a reason stands for was written, if it stands for one
abbrev pub WroteLine : Call → Reason → Type 0
WroteLine call reason = IfSome (fault_told reason) (λ fault. WroteText call (fault_line fault))

-- why a reason was to be told of a call whose text wasn't written whole: it is the first outcome of that output that ended otherwise
-- than was expected, or the reason of the words and the files
abbrev pub WasDue : Call → Troubles → Reason → Type 0
WasDue call troubles (EndedOtherwise other) =
    WrotePrefix call (IsJudged call.files (command_of call.words) (Some other))
WasDue call troubles reason =
    IsReasonOf call.files call.words call.read_faults call.read_faults_after troubles.shelf reason

-- it was to be told, and the sink failed
pub record IsUntold (call : Call) (troubles : Troubles) (status : ℕ) (reason : Reason) : Type 0 where
  pub unwritten : status ≡ 6
  pub why : WasDue call troubles reason

-- the status of a call, and the reason that goes with it
pub record IsExplained (call : Call) (troubles : Troubles) (explained : Explained) : Type 0 where
  -- the status is what the call answers
  pub outcome : IsOutcome call explained.status
  -- there is no reason exactly at status 0
  pub none : (explained.reason ≡ None) ↔ (explained.status ≡ 0)
  -- the reason is that the text couldn't be written exactly at status 6
  pub unwritten : (explained.reason ≡ Some (Unwritten troubles.sink)) ↔ (explained.status ≡ 6)
  -- the reason has this status
  pub status : IfSome explained.reason (λ reason. explained.status ≡ reason_status reason)
  -- and its line is the one that was written
  pub line : IfSome explained.reason (WroteLine call)
  -- and it is why the output isn't there
  pub why : IfSome explained.reason (IsReason call troubles)
  -- a reason that was to be told comes at status 6 alone, and is of the words and the files, or of an output of which a part was written
  pub untold : IfSome explained.untold (IsUntold call troubles explained.status)
  -- and at status 6 there is one, unless a part of an output was written in which all is as was expected
  pub in_part : explained.status ≡ 6 → explained.untold ≡ None → WrotePrefix call (IsMet call.files (command_of call.words))
