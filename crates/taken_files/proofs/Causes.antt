-- The reason why there is no run of a program, by where it comes: a file isn't taken, or a script isn't played to its end.
use Rattle.std.proofs.Common.{◌≡◌, ℕ, ◌-◌, ◌^◌, ◌<◌, ◌≤◌, List, length, refl, sym, arith, Some, Result, Ok, Err}
use Rattle.std.proofs.Common.{Option, subst, leb, Bool, true, false}
use Rattle.std.proofs.lemmas.Bool.{leb-true, leb-false}
use Rattle.std.specs.Prelude.{IfErr, IsErrAnd}
use Rattle.std.specs.declared.io.ErrorKind.{ErrorKind}
use Rattle.mach_types.specs.declared.limits.Limits.{Limits}
use Rattle.elf_load.specs.declared.image.Image.{Image}
use Rattle.elf_load.specs.Faults.{first_fault}
use Rattle.outside.specs.Counts.{NeverFalls, NoneFalls, Rose}
use Rattle.block_model.specs.Setting.{setting_of}
use Rattle.call_reasons.specs.declared.reasons.FileRole.{FileRole}
use Rattle.call_reasons.specs.declared.reasons.FileRole.TheVariants as role
use Rattle.call_reasons.specs.declared.reasons.Reason.{Reason}
use Rattle.call_reasons.specs.declared.reasons.Reason.TheVariants.{Words, Unread, NoMemory, TooBig, Elf, Script, Guest, EndedOtherwise, Unwritten}
use Rattle.outcomes.specs.Delivery.{IsFileReason, IsLoadReason, IsTakeReason}
use Rattle.whole_runs.specs.PlayReasons.{IsPlayReason}
use Rattle.outcomes.specs.ElfPlaces.{place_of}
use Rattle.outcomes.specs.Needs as need
use Rattle.outcomes.specs.Programs.{Files, IsProgram, IsReadAs, IsScript, IsTooBig}
use Rattle.call_reasons.specs.Reasons.{most_program_bytes}
use Rattle.call_reasons.specs.Reasons.{most_script_bytes}
use Rattle.whole_runs.specs.BadLines.{IsBadLine}
use Rattle.outcomes.specs.Reasons.{IsReasonFor}
use Rattle.call_reasons.specs.Reasons.{most_bytes}

-- a count that rose after it didn't fall rose
pub rose_later : (old mid new : ℕ) → NeverFalls old mid → NeverFalls mid new → Rose mid new → Rose old new
rose_later old mid new first second rose = λ below. by_room (leb (2 ^ 64 - 1) mid) refl below
  where
    by_room : (b : Bool) → leb (2 ^ 64 - 1) mid ≡ b → old < 2 ^ 64 - 1 → old < new
    by_room true full below = let at = leb-true _ _ full in let kept = second.1 at in
        omega (arith, at, kept, below)
    by_room false room below = let under = leb-false _ _ room in let more = rose under in
        omega (arith, more, first.0)

-- a program isn't read
pub unread_as : (files : Files) (name : List ℕ) (file : FileRole) (limits : Limits) (old new : List ℕ → ℕ) (said : Option ErrorKind)
    (reason : Reason) → most_bytes file ≡ most_program_bytes → IsFileReason files name file old new said reason
    → IsTakeReason files name file limits old new said reason
unread_as files name file limits old new said (Words fault) most why = absurd why
unread_as files name file limits old new said (Unread other trouble) most why = why
unread_as files name file limits old new said NoMemory most why = tt
unread_as files name file limits old new said (TooBig other) most why =
    (why.0, subst (λ (n : ℕ). IsTooBig files name n) most why.1)
unread_as files name file limits old new said (Elf other fault about) most why = absurd why
unread_as files name file limits old new said (Script number fault) most why = absurd why
unread_as files name file limits old new said (Guest number) most why = absurd why
unread_as files name file limits old new said (EndedOtherwise other) most why = absurd why
unread_as files name file limits old new said (Unwritten trouble) most why = absurd why

-- it is read, and no image is taken from its bytes
pub refused_as : (files : Files) (name bytes given : List ℕ) (file : FileRole) (limits : Limits) (old new : List ℕ → ℕ)
    (said : Option ErrorKind) (reason : Reason) → given ≡ bytes → IsReadAs files name bytes → length bytes ≤ most_program_bytes
    → IsLoadReason file given limits reason → IsTakeReason files name file limits old new said reason
refused_as files name bytes given file limits old new said (Words fault) same read fits why = absurd why
refused_as files name bytes given file limits old new said (Unread other trouble) same read fits why = absurd why
refused_as files name bytes given file limits old new said NoMemory same read fits why = tt
refused_as files name bytes given file limits old new said (TooBig other) same read fits why = absurd why
refused_as files name bytes given file limits old new said (Elf other fault about) same read fits why = (
  why.0,
  record {
    refused = record {
      bytes = bytes;
      read = read;
      faulty = record {
        fits = fits;
        due = subst (λ (b : List ℕ). first_fault b limits.frames ≡ Some fault) same why.1;
      };
    };
    place = subst (λ (b : List ℕ). about ≡ place_of b limits fault) same why.2;
  },
)
refused_as files name bytes given file limits old new said (Script number fault) same read fits why = absurd why
refused_as files name bytes given file limits old new said (Guest number) same read fits why = absurd why
refused_as files name bytes given file limits old new said (EndedOtherwise other) same read fits why = absurd why
refused_as files name bytes given file limits old new said (Unwritten trouble) same read fits why = absurd why

-- where it is the one that is needed, that is why
pub untaken_program : (files : Files) (program : List ℕ) (limits : Limits) (old new : List ℕ → ℕ) (said : Option ErrorKind)
    (reason : Reason) → IsTakeReason files program role.Program limits old new said reason
    → IsReasonFor files (need.Program program limits) old new said reason
untaken_program files program limits old new said (Words fault) why = absurd why
untaken_program files program limits old new said (Unread role.Program trouble) why =
    record { unread = why.rose; trouble_told = why.trouble_told }
untaken_program files program limits old new said (Unread role.SecondProgram trouble) why = absurd (cc why.role)
untaken_program files program limits old new said (Unread role.Script trouble) why = absurd (cc why.role)
untaken_program files program limits old new said NoMemory why = tt
untaken_program files program limits old new said (TooBig role.Program) why = why.1
untaken_program files program limits old new said (TooBig role.SecondProgram) why = absurd (cc why.0)
untaken_program files program limits old new said (TooBig role.Script) why = absurd (cc why.0)
untaken_program files program limits old new said (Elf file fault about) why = why
untaken_program files program limits old new said (Script number fault) why = absurd why
untaken_program files program limits old new said (Guest number) why = absurd why
untaken_program files program limits old new said (EndedOtherwise other) why = absurd why
untaken_program files program limits old new said (Unwritten trouble) why = absurd why

-- what is said of a program is said of it beside a script too
pub program_beside : (files : Files) (program script : List ℕ) (limits : Limits) (old new : List ℕ → ℕ) (said : Option ErrorKind)
    (reason : Reason) → IsReasonFor files (need.Program program limits) old new said reason
    → IsReasonFor files (need.Script program script limits) old new said reason
program_beside files program script limits old new said (Words fault) why = absurd why
program_beside files program script limits old new said (Unread role.Program trouble) why =
    record { unread = why.unread; trouble_told = why.trouble_told }
program_beside files program script limits old new said (Unread role.SecondProgram trouble) why = absurd why.unread
program_beside files program script limits old new said (Unread role.Script trouble) why = absurd why.unread
program_beside files program script limits old new said NoMemory why = tt
program_beside files program script limits old new said (TooBig role.Program) why = why
program_beside files program script limits old new said (TooBig role.SecondProgram) why = absurd why
program_beside files program script limits old new said (TooBig role.Script) why = absurd why
program_beside files program script limits old new said (Elf file fault about) why = why
program_beside files program script limits old new said (Script number fault) why = absurd why
program_beside files program script limits old new said (Guest number) why = absurd why
program_beside files program script limits old new said (EndedOtherwise other) why = absurd why
program_beside files program script limits old new said (Unwritten trouble) why = absurd why

-- the script isn't read, after the program was taken
pub unread_script : (files same : Files) (program script : List ℕ) (limits : Limits) (image : Image)
    (old mid new : List ℕ → ℕ) (said : Option ErrorKind) (reason : Reason) → same ≡ files → IsProgram files program limits image
    → NoneFalls old mid → NoneFalls mid new → IsFileReason same script role.Script mid new said reason
    → IsReasonFor files (need.Script program script limits) old new said reason
unread_script files same program script limits image old mid new said (Words fault) is taken first second why =
    absurd why
unread_script files same program script limits image old mid new said (Unread role.Program trouble) is taken first second why =
    absurd (cc why.role)
unread_script files same program script limits image old mid new said (Unread role.SecondProgram trouble) is taken first second why =
    absurd (cc why.role)
unread_script files same program script limits image old mid new said (Unread role.Script trouble) is taken first second why =
    record {
      unread = record {
        image = image;
        taken = taken;
        rose = rose_later (old script) (mid script) (new script) (first script) (second script) why.rose;
      };
      trouble_told = why.trouble_told;
    }
unread_script files same program script limits image old mid new said NoMemory is taken first second why = tt
unread_script files same program script limits image old mid new said (TooBig role.Program) is taken first second why =
    absurd (cc why.0)
unread_script files same program script limits image old mid new said (TooBig role.SecondProgram) is taken first second why =
    absurd (cc why.0)
unread_script files same program script limits image old mid new said (TooBig role.Script) is taken first second why =
    record {
      image = image;
      taken = taken;
      big = subst (λ f. IsTooBig f script most_script_bytes) is why.1;
    }
unread_script files same program script limits image old mid new said (Elf file fault about) is taken first second why =
    absurd why
unread_script files same program script limits image old mid new said (Script number fault) is taken first second why =
    absurd why
unread_script files same program script limits image old mid new said (Guest number) is taken first second why = absurd why
unread_script files same program script limits image old mid new said (EndedOtherwise other) is taken first second why = absurd why
unread_script files same program script limits image old mid new said (Unwritten trouble) is taken first second why = absurd why

-- the script isn't played to its end
pub unplayed : (files same : Files) (program script lines text : List ℕ) (limits : Limits) (image : Image)
    (old new : List ℕ → ℕ) (said : Option ErrorKind) (reason : Reason) → same ≡ files → text ≡ lines
    → IsProgram files program limits image
    → IsScript same script lines → IsPlayReason (setting_of image limits) text reason
    → IsReasonFor files (need.Script program script limits) old new said reason
unplayed files same program script lines text limits image old new said (Words fault) is equal taken read why =
    absurd why
unplayed files same program script lines text limits image old new said (Unread file trouble) is equal taken read why =
    absurd why
unplayed files same program script lines text limits image old new said NoMemory is equal taken read why = tt
unplayed files same program script lines text limits image old new said (TooBig file) is equal taken read why =
    absurd why
unplayed files same program script lines text limits image old new said (Elf file fault about) is equal taken read why =
    absurd why
unplayed files same program script lines text limits image old new said (Script number fault) is equal taken read why =
    let bad = subst (λ t. IsBadLine (setting_of image limits) t number fault) equal why in
    record {
      refused = record {
        image = image;
        taken = taken;
        lines = lines;
        read = subst (λ f. IsScript f script lines) is read;
        first = bad.first;
      };
      why = bad.why;
    }
unplayed files same program script lines text limits image old new said (Guest number) is equal taken read why = absurd why
unplayed files same program script lines text limits image old new said (EndedOtherwise other) is equal taken read why = absurd why
unplayed files same program script lines text limits image old new said (Unwritten trouble) is equal taken read why = absurd why

-- an error that is passed on
pub passed_up : {X E : Type 0} (r : Result X E) (e : E) (P : E → Type 0) → IsErrAnd r (λ y. y ≡ e) → P e
    → IfErr r P
passed_up (Ok x) e P is p = tt
passed_up (Err y) e P is p = subst P (sym is) p
