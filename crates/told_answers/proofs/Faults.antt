-- The fault that a reason stands for.
use Rattle.std.proofs.Common.{ℕ, inl, inr, List, refl}
use Rattle.std.proofs.Common.{Option}
use Rattle.std.specs.Prelude.{IfSome, IsSome}
use Rattle.std.specs.declared.io.ErrorKind.{ErrorKind}
use Rattle.call_reasons.specs.declared.reasons.FileRole.{FileRole}
use Rattle.call_reasons.specs.declared.reasons.FileRole.TheVariants as role
use Rattle.call_reasons.specs.declared.reasons.Reason.{Reason}
use Rattle.call_reasons.specs.declared.reasons.Reason.TheVariants.{Words, Unread, NoMemory, TooBig, Elf, Script, Guest, EndedOtherwise, Unwritten}
use Rattle.outcomes.specs.Causes.{HasBigFile, IsCause, IsRefusalOf, IsScriptRefusalOf, ReadFailed}
use Rattle.outcomes.specs.Needs as need
use Rattle.outcomes.specs.Programs.{Files}
use Rattle.outcomes.specs.Reasons.{IsBig, IsReasonOf, IsRefusalAbout}
use Rattle.outcomes.specs.Reasons.{IsScriptRefusalFor, IsUnread}
use Rattle.call_reasons.specs.Reasons.{fault_told}

-- a reason of the words and the files is one of the fault whose line is written
pub cause_of : (files : Files) (words : List (List ℕ)) (old new : List ℕ → ℕ) (said : Option ErrorKind) (reason : Reason)
    → IsReasonOf files words old new said reason → IfSome (fault_told reason) (IsCause files words old new)
cause_of files words old new said (Words fault) why = why.none
cause_of files words old new said (Unread file trouble) why = by_needs (need.needs_in words) file why.unread
  where
    by_needs : (needs : need.Needs) (file : FileRole) → IsUnread files needs old new file
        → ReadFailed files needs old new
    by_needs need.Nothing file why = absurd why
    by_needs (need.Program program limits) role.Program why = why
    by_needs (need.Program program limits) role.SecondProgram why = absurd why
    by_needs (need.Program program limits) role.Script why = absurd why
    by_needs (need.Script program script limits) role.Program why = inl why
    by_needs (need.Script program script limits) role.SecondProgram why = absurd why
    by_needs (need.Script program script limits) role.Script why = inr why
    by_needs (need.Guest guest) file why = absurd why
    by_needs (need.Pair pair) role.Program why = inl why
    by_needs (need.Pair pair) role.SecondProgram why = inr (inl why)
    by_needs (need.Pair pair) role.Script why = inr (inr why)
cause_of files words old new said NoMemory why = why
cause_of files words old new said (TooBig file) why = by_needs (need.needs_in words) file why
  where
    by_needs : (needs : need.Needs) (file : FileRole) → IsBig files needs file → HasBigFile files needs
    by_needs need.Nothing file why = absurd why
    by_needs (need.Program program limits) role.Program why = why
    by_needs (need.Program program limits) role.SecondProgram why = absurd why
    by_needs (need.Program program limits) role.Script why = absurd why
    by_needs (need.Script program script limits) role.Program why = inl why
    by_needs (need.Script program script limits) role.SecondProgram why = absurd why
    by_needs (need.Script program script limits) role.Script why = inr why
    by_needs (need.Guest guest) file why = absurd why
    by_needs (need.Pair pair) role.Program why = inl why
    by_needs (need.Pair pair) role.SecondProgram why = inr (inl why)
    by_needs (need.Pair pair) role.Script why = inr (inr why)
cause_of files words old new said (Elf file fault about) why = by_needs (need.needs_in words) file why
  where
    by_needs : (needs : need.Needs) (file : FileRole) → IsRefusalAbout files needs file fault about
        → IsRefusalOf files needs fault
    by_needs need.Nothing file why = absurd why
    by_needs (need.Program program limits) file why = why.1.refused
    by_needs (need.Script program script limits) file why = why.1.refused
    by_needs (need.Guest guest) file why = absurd why
    by_needs (need.Pair pair) role.Program why = inl why.refused
    by_needs (need.Pair pair) role.SecondProgram why =
        inr (record { image = why.image; taken = why.taken; holds = why.holds.refused })
    by_needs (need.Pair pair) role.Script why = absurd why
cause_of files words old new said (Script number fault) why = by_needs (need.needs_in words) why
  where
    by_needs : (needs : need.Needs) → IsScriptRefusalFor files needs number fault
        → IsScriptRefusalOf files needs number
    by_needs need.Nothing why = absurd why
    by_needs (need.Program program limits) why = absurd why
    by_needs (need.Script program script limits) why = why.refused
    by_needs (need.Guest guest) why = absurd why
    by_needs (need.Pair pair) why = why.refused
cause_of files words old new said (Guest number) why = why
cause_of files words old new said (EndedOtherwise other) why = absurd why
cause_of files words old new said (Unwritten trouble) why = absurd why

-- it stands for a fault
pub is_told : (files : Files) (words : List (List ℕ)) (old new : List ℕ → ℕ) (said : Option ErrorKind) (reason : Reason)
    → IsReasonOf files words old new said reason → IsSome (fault_told reason)
is_told files words old new said (Words fault) why = refl
is_told files words old new said (Unread file trouble) why = refl
is_told files words old new said NoMemory why = refl
is_told files words old new said (TooBig file) why = refl
is_told files words old new said (Elf file fault about) why = refl
is_told files words old new said (Script number fault) why = refl
is_told files words old new said (Guest number) why = refl
is_told files words old new said (EndedOtherwise other) why = absurd why
is_told files words old new said (Unwritten trouble) why = absurd why
