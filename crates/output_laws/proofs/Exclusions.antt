-- What a shelf tells of the files of a command leaves one answer, beside want of memory and failed reads.
use Rattle.std.proofs.Common.{◌≡◌, ℕ, ◌≤◌, ◌⊎◌, inl, inr, List, length, refl, sym, ap, ◌∙◌, subst}
use Rattle.std.proofs.Common.{arith, Option, Some, None, Ok, Err, true}
use Rattle.guest_names.specs.Guests.{is_size}
use Rattle.mach_types.specs.declared.events.Entry.{Entry}
use Rattle.mach_types.specs.declared.limits.Limits.{Limits}
use Rattle.elf_load.specs.declared.fault.ElfFault.{ElfFault}
use Rattle.elf_load.specs.declared.image.Image.{Image}
use Rattle.elf_load.specs.Images.{IsImage}
use Rattle.block_model.specs.Replay.{played_read}
use Rattle.block_model.specs.Setting.{Setting, setting_of}
use Rattle.block_model.proofs.Laws.{is_bad, one_setting, played_read-all, run_is_played}
use Rattle.call_reasons.specs.declared.faults.Fault.{Fault}
use Rattle.call_reasons.specs.declared.faults.Fault.TheVariants as fault
use Rattle.call_reasons.specs.declared.faults.Fault.TheVariants.{Usage, Read, Memory, Big, Elf}
use Rattle.outcomes.specs.Causes.{HasBigFile, IsBigScript, IsCauseOf, IsRefusalOf, IsScriptRefusalOf}
use Rattle.outcomes.specs.Causes.{IsOutsideGuest, IsScriptRefused, ReadFailed}
use Rattle.outcomes.specs.Needs.{Needs, Nothing, Program, Script, Guest, Pair, needs_by, needs_of}
use Rattle.outcomes.specs.PairFiles.{HasPairRun}
use Rattle.shared_procs.specs.PairRuns.{PairSeen}
use Rattle.output_laws.proofs.FileExclusions.{big_program, big_refused, big_script_read, faulty_fits, faulty_program, good_not_refused}
use Rattle.output_laws.proofs.FileExclusions.{not_big, program_fits, read_as_told}
use Rattle.output_laws.proofs.PairExclusions.{no_big_when_faulty_pair, no_big_when_told_pair, no_line_when_good_pair}
use Rattle.output_laws.proofs.PairExclusions.{no_refusal_when_big_pair, no_refusal_when_told_pair, not_taken_when_faulty_pair}
use Rattle.output_laws.proofs.PairExclusions.{unused_when_bad_line_of_pair, unused_when_big_pair}
use Rattle.outcomes.specs.Outputs.{IsLogOf, IsOutputOf}
use Rattle.outcomes.specs.Programs.{Files, IsProgram, IsReadAs, IsScript}
use Rattle.outcomes.specs.Programs.{IsTooBig}
use Rattle.whole_runs.specs.Asks.{asks_of}
use Rattle.call_reasons.specs.Reasons.{most_program_bytes, most_script_bytes}
use Rattle.whole_runs.specs.Runs.{IsFirstBadLine, IsPlayedRun}
use Rattle.call_reasons.specs.Statuses.{fault_status}
use Rattle.outcomes.specs.Told.{TellsBadScript, TellsBig, TellsBigFile, TellsBoth, TellsFaulty}
use Rattle.outcomes.specs.Told.{TellsFaultyProgram, TellsGood, TellsGoodFiles}
use Rattle.command_words.specs.Commands as words
use Rattle.command_words.specs.declared.commands.Guest.{Guest as AskedGuest}

-- a script whose lines are all allowed has no bad line
allowed_not_bad : (s : Setting) (text : List ℕ) (log : List Entry) (n : ℕ) → IsPlayedRun s text log
    → ¬ (IsFirstBadLine s text n)
allowed_not_bad s text log n run first =
    let bad : played_read s (asks_of text) ≡ Err n = is_bad s (asks_of text) n first in
    let good : played_read s (asks_of text) ≡ Ok log =
    ap (played_read s) run.readable ∙ played_read-all s run.lines
    ∙ run_is_played s run.lines log run.block_run run.answers in
    absurd (cc (sym good ∙ bad))

-- the same program and script were taken as are told
same_start : (files : Files) (program script : List ℕ) (limits : Limits) (image : Image)
    → (both : TellsBoth files program script limits) → IsProgram files program limits image
    → setting_of image limits ≡ setting_of both.image limits
same_start files program script limits image both taken =
    let same = read_as_told files program taken.bytes both.bytes taken.read both.told in
    one_setting both.bytes image both.image limits (subst (λ b. IsImage b image) same taken.loaded)
    both.loaded

-- what an output used of the files that are needed, and of the guest
abbrev pub AreUsed : Files → Needs → Type 0
AreUsed files Nothing = Unit {0}
AreUsed files (Program program limits) = (image : Image) × IsProgram files program limits image
AreUsed files (Script program script limits) =
    (image : Image) × (lines : List ℕ) × (log : List Entry) × IsProgram files program limits image
    × IsScript files script lines × IsPlayedRun (setting_of image limits) lines log
AreUsed files (Guest guest) = is_size guest.name guest.size ≡ true
AreUsed files (Pair pair) = (v : PairSeen) × HasPairRun files pair v

used_by_run : (files : Files) (program : List ℕ) (limits : Limits) (source : words.Source) (image : Image)
    (log : List Entry) → IsProgram files program limits image
    → IsLogOf files source (setting_of image limits) log → AreUsed files (needs_by program source limits)
used_by_run files program limits words.Rule image log taken made = (image, taken)
used_by_run files program limits (words.Script name) image log taken made =
    (image, made.lines, log, taken, made.read, made.run)
used_by_run files program limits (words.Workers seed) image log taken made = (image, taken)
used_by_run files program limits (words.Drawn seed draws) image log taken made = (image, taken)
used_by_run files program limits (words.DrawnAfter name seed draws) image log taken made =
    (image, made.script.lines, made.first, taken, made.script.read, made.script.run)

pub used_by_output : (files : Files) (command : Option words.Command) (written : List ℕ)
    → IsOutputOf files command written → AreUsed files (needs_of command)
used_by_output files None written output = tt
used_by_output files (Some (words.Runs run)) written output =
    used_by_run files run.program run.limits run.source output.image output.log output.taken output.made
used_by_output files (Some (words.Makes guest)) written output = output.taken
used_by_output files (Some (words.Tries trial)) written output = output.taken.made.taken
used_by_output files (Some (words.Explores program settings)) written output = (output.image, output.taken)
used_by_output files (Some (words.Searches program settings)) written output = (output.image, output.taken)
used_by_output files (Some (words.Pairs pair)) written output = (output.seen, output.made)

script_fits : (files : Files) (program script : List ℕ) (limits : Limits)
    → (both : TellsBoth files program script limits) → ¬ (IsTooBig files script most_script_bytes)
script_fits files program script limits both =
    not_big files script both.lines most_script_bytes both.script_told both.fits

no_big_file : (files : Files) (program script : List ℕ) (limits : Limits)
    → (both : TellsBoth files program script limits)
    → ¬ (IsTooBig files program most_program_bytes ⊎ IsBigScript files program script limits)
no_big_file files program script limits both (inl big) =
    program_fits files program both.bytes limits both.told both.good big
no_big_file files program script limits both (inr big) = script_fits files program script limits both big.big

-- the lines are those that are told
same_first : (files : Files) (program script : List ℕ) (limits : Limits) (n : ℕ)
    → (both : TellsBoth files program script limits)
    → (refused : IsScriptRefused files program script limits n)
    → IsFirstBadLine (setting_of both.image limits) both.lines n
same_first files program script limits n both refused =
    let lines : refused.lines ≡ both.lines =
    read_as_told files script refused.lines both.lines refused.read.read both.script_told in
    let first = subst (λ (s : Setting). IsFirstBadLine s refused.lines n)
    (same_start files program script limits refused.image both refused.taken) refused.first in
    subst (λ text. IsFirstBadLine (setting_of both.image limits) text n) lines first

-- none but a guest is outside its range
of_guest : (P : Needs → Type 0) (needs : Needs) (n : ℕ)
    → ((guest : AskedGuest) → IsOutsideGuest (Guest guest) n → P (Guest guest)) → IsOutsideGuest needs n → P needs
of_guest P Nothing n holds outside = absurd outside
of_guest P (Program program limits) n holds outside = absurd outside
of_guest P (Script program script limits) n holds outside = absurd outside
of_guest P (Guest guest) n holds outside = holds guest outside
of_guest P (Pair pair) n holds outside = absurd outside

-- what can't be where good files are told
no_big_when_good : (files : Files) (needs : Needs) → TellsGoodFiles files needs → ¬ (HasBigFile files needs)
no_big_when_good files Nothing told big = absurd told
no_big_when_good files (Program program limits) told big =
    program_fits files program told.bytes limits told.told told.good big
no_big_when_good files (Guest guest) told big = big
no_big_when_good files (Script program script limits) told big = no_big_file files program script limits told.both big
no_big_when_good files (Pair pair) told big = no_big_when_told_pair files pair told.all big

no_refusal_when_good : (files : Files) (needs : Needs) (fault : ElfFault) → TellsGoodFiles files needs
    → ¬ (IsRefusalOf files needs fault)
no_refusal_when_good files Nothing fault told refused = absurd told
no_refusal_when_good files (Program program limits) fault told refused =
    good_not_refused files program told.bytes limits fault told.told told.good refused
no_refusal_when_good files (Guest guest) fault told refused = refused
no_refusal_when_good files (Script program script limits) fault told refused =
    good_not_refused files program told.both.bytes limits fault told.both.told told.both.good refused
no_refusal_when_good files (Pair pair) fault told refused = no_refusal_when_told_pair files pair fault told.all refused

no_bad_line_when_good : (files : Files) (needs : Needs) (n : ℕ) → TellsGoodFiles files needs
    → ¬ (IsScriptRefusalOf files needs n)
no_bad_line_when_good files Nothing n told refused = absurd told
no_bad_line_when_good files (Program program limits) n told refused = refused
no_bad_line_when_good files (Guest guest) n told refused = refused
no_bad_line_when_good files (Script program script limits) n told refused =
    allowed_not_bad (setting_of told.both.image limits) told.both.lines told.log n told.run
    (same_first files program script limits n told.both refused)
no_bad_line_when_good files (Pair pair) n told refused = no_line_when_good_pair files pair n told refused

no_guest_when_good : (files : Files) (needs : Needs) (n : ℕ) → TellsGoodFiles files needs
    → ¬ (IsOutsideGuest needs n)
no_guest_when_good files needs n told outside =
    of_guest (λ asked. ¬ (TellsGoodFiles files asked)) needs n (λ guest is size. absurd (cc (sym size ∙ is.0))) outside told

-- a fault comes for a command's needs, for want of memory, or where there is no command
no_usage : (files : Files) (command : Option words.Command) (Tells : Files → Needs → Type 0)
    → ¬ (Tells files Nothing) → Tells files (needs_of command) → ¬ (command ≡ None)
no_usage files command Tells never told none = never (subst (λ c. Tells files (needs_of c)) none told)

-- where good files are told, no fault comes but want of memory
pub fault_when_good : (files : Files) (command : Option words.Command) (old new : List ℕ → ℕ) (fault : Fault)
    → TellsGoodFiles files (needs_of command) → ¬ (ReadFailed files (needs_of command) old new)
    → IsCauseOf files command old new fault → fault ≡ Memory
fault_when_good files command old new Usage told unread cause =
    absurd (no_usage files command TellsGoodFiles (λ never. never) told cause)
fault_when_good files command old new Read told unread cause = absurd (unread cause)
fault_when_good files command old new Memory told unread cause = refl
fault_when_good files command old new Big told unread cause =
    absurd (no_big_when_good files (needs_of command) told cause)
fault_when_good files command old new (Elf fault) told unread cause =
    absurd (no_refusal_when_good files (needs_of command) fault told cause)
fault_when_good files command old new (fault.Guest number) told unread cause =
    absurd (no_guest_when_good files (needs_of command) number told cause)
fault_when_good files command old new (fault.Script number) told unread cause =
    absurd (no_bad_line_when_good files (needs_of command) number told cause)

-- where this holds, each fault that the files or the guest cause has this status, and there is a command
pub record Leaves (files : Files) (needs : Needs) (status : ℕ) : Type 0 where
  pub some : ¬ (needs ≡ Nothing)
  pub big : HasBigFile files needs → fault_status Big ≡ status
  pub refused : (found : ElfFault) → IsRefusalOf files needs found → fault_status (Elf found) ≡ status
  pub line : (number : ℕ) → IsScriptRefusalOf files needs number → fault_status (fault.Script number) ≡ status
  pub guest : (number : ℕ) → IsOutsideGuest needs number → fault_status (fault.Guest number) ≡ status

-- and where no read failed, no other fault is left but want of memory
pub status_left : (files : Files) (command : Option words.Command) (old new : List ℕ → ℕ) (status : ℕ) (fault : Fault)
    → Leaves files (needs_of command) status → ¬ (ReadFailed files (needs_of command) old new)
    → IsCauseOf files command old new fault → (fault_status fault ≡ status) ⊎ (fault_status fault ≡ 7)
status_left files command old new status Usage leaves unread cause = absurd (leaves.some (ap needs_of cause))
status_left files command old new status Read leaves unread cause = absurd (unread cause)
status_left files command old new status Memory leaves unread cause = inr refl
status_left files command old new status Big leaves unread cause = inl (leaves.big cause)
status_left files command old new status (Elf found) leaves unread cause = inl (leaves.refused found cause)
status_left files command old new status (fault.Guest number) leaves unread cause = inl (leaves.guest number cause)
status_left files command old new status (fault.Script number) leaves unread cause = inl (leaves.line number cause)

-- a line is bad of a script beside a program, or of a pair's
no_bad_line : (files : Files) (Tells : Needs → Type 0) (needs : Needs) (n : ℕ)
    → ((program script : List ℕ) (limits : Limits) → Tells (Script program script limits)
    → ¬ (IsScriptRefused files program script limits n))
    → ((pair : words.PairRun) → Tells (Pair pair) → ¬ (IsScriptRefusalOf files (Pair pair) n)) → Tells needs
    → ¬ (IsScriptRefusalOf files needs n)
no_bad_line files Tells Nothing n beside of_pair told bad = bad
no_bad_line files Tells (Program program limits) n beside of_pair told bad = bad
no_bad_line files Tells (Guest guest) n beside of_pair told bad = bad
no_bad_line files Tells (Script program script limits) n beside of_pair told bad = beside program script limits told bad
no_bad_line files Tells (Pair pair) n beside of_pair told bad = of_pair pair told bad

-- what can't be where a faulty program is told
faulty_big : (files : Files) (program script : List ℕ) (limits : Limits) → TellsFaulty files program limits
    → ¬ (IsTooBig files program most_program_bytes ⊎ IsBigScript files program script limits)
faulty_big files program script limits told (inl big) = faulty_fits files program limits told big
faulty_big files program script limits told (inr big) =
    faulty_program files program limits big.image told big.taken

no_big_when_faulty : (files : Files) (needs : Needs) → TellsFaultyProgram files needs
    → ¬ (HasBigFile files needs)
no_big_when_faulty files Nothing told big = absurd told
no_big_when_faulty files (Program program limits) told big = faulty_fits files program limits told big
no_big_when_faulty files (Guest guest) told big = absurd told
no_big_when_faulty files (Script program script limits) told big =
    faulty_big files program script limits told big
no_big_when_faulty files (Pair pair) told big = no_big_when_faulty_pair files pair told big

no_bad_line_when_faulty : (files : Files) (needs : Needs) (n : ℕ) → TellsFaultyProgram files needs
    → ¬ (IsScriptRefusalOf files needs n)
no_bad_line_when_faulty files needs n told refused =
    no_bad_line files (TellsFaultyProgram files) needs n
    (λ program script limits faulty bad. faulty_program files program limits bad.image faulty bad.taken)
    (λ pair faulty bad. not_taken_when_faulty_pair files pair bad.one bad.two faulty bad.taken) told refused

pub unused_when_faulty : (files : Files) (needs : Needs) → TellsFaultyProgram files needs
    → ¬ (AreUsed files needs)
unused_when_faulty files Nothing told used = absurd told
unused_when_faulty files (Program program limits) told used =
    faulty_program files program limits used.0 told used.1
unused_when_faulty files (Guest guest) told used = absurd told
unused_when_faulty files (Script program script limits) told used =
    faulty_program files program limits used.0 told used.3
unused_when_faulty files (Pair pair) told used =
    not_taken_when_faulty_pair files pair used.1.one used.1.two told used.1.taken

-- where a faulty program is told, it is refused
pub left_by_faulty : (files : Files) (needs : Needs) → TellsFaultyProgram files needs → Leaves files needs 3
left_by_faulty files needs told = record {
  some = λ none. subst (TellsFaultyProgram files) none told;
  big = λ big. absurd (no_big_when_faulty files needs told big);
  refused = λ found refused. refl;
  line = λ n refused. absurd (no_bad_line_when_faulty files needs n told refused);
  guest = λ n outside. absurd (of_guest (λ asked. ¬ (TellsFaultyProgram files asked)) needs n (λ guest is never. never) outside told);
}

-- what can't be where a bad line is told
no_big_when_bad_line : (files : Files) (needs : Needs) → TellsBadScript files needs
    → ¬ (HasBigFile files needs)
no_big_when_bad_line files Nothing told big = absurd told
no_big_when_bad_line files (Program program limits) told big = absurd told
no_big_when_bad_line files (Guest guest) told big = absurd told
no_big_when_bad_line files (Script program script limits) told big =
    no_big_file files program script limits told.both big
no_big_when_bad_line files (Pair pair) told big = no_big_when_told_pair files pair told.all big

no_refusal_when_bad_line : (files : Files) (needs : Needs) (fault : ElfFault) → TellsBadScript files needs
    → ¬ (IsRefusalOf files needs fault)
no_refusal_when_bad_line files Nothing fault told refused = absurd told
no_refusal_when_bad_line files (Program program limits) fault told refused = absurd told
no_refusal_when_bad_line files (Guest guest) fault told refused = absurd told
no_refusal_when_bad_line files (Script program script limits) fault told refused =
    good_not_refused files program told.both.bytes limits fault told.both.told told.both.good refused
no_refusal_when_bad_line files (Pair pair) fault told refused = no_refusal_when_told_pair files pair fault told.all refused

pub unused_when_bad_line : (files : Files) (needs : Needs) → TellsBadScript files needs
    → ¬ (AreUsed files needs)
unused_when_bad_line files Nothing told used = absurd told
unused_when_bad_line files (Program program limits) told used = absurd told
unused_when_bad_line files (Guest guest) told used = absurd told
unused_when_bad_line files (Script program script limits) told used =
    let lines = read_as_told files script used.1 told.both.lines used.4.read told.both.script_told in
    let run = subst (λ (s : Setting). IsPlayedRun s used.1 used.2)
    (same_start files program script limits used.0 told.both used.3) used.5 in
    allowed_not_bad (setting_of told.both.image limits) told.both.lines used.2 told.number
    (subst (λ text. IsPlayedRun (setting_of told.both.image limits) text used.2) lines run) told.first
unused_when_bad_line files (Pair pair) told used = unused_when_bad_line_of_pair files pair told used.0 used.1

-- where a bad line is told, the script is refused
pub left_by_bad_line : (files : Files) (needs : Needs) → TellsBadScript files needs → Leaves files needs 4
left_by_bad_line files needs told = record {
  some = λ none. subst (TellsBadScript files) none told;
  big = λ big. absurd (no_big_when_bad_line files needs told big);
  refused = λ found refused. absurd (no_refusal_when_bad_line files needs found told refused);
  line = λ n refused. refl;
  guest = λ n outside. absurd (of_guest (λ asked. ¬ (TellsBadScript files asked)) needs n (λ guest is never. never) outside told);
}

-- what can't be where a file that is too big is told
no_run_when_big : (files : Files) (program script text : List ℕ) (limits : Limits) (image : Image)
    → (TellsBig files program most_program_bytes)
    ⊎ (TellsGood files program limits × TellsBig files script most_script_bytes)
    → IsProgram files program limits image → IsReadAs files script text → ¬ (length text ≤ most_script_bytes)
no_run_when_big files program script text limits image (inl told) taken read fits =
    big_program files program limits image told taken
no_run_when_big files program script text limits image (inr told) taken read fits =
    omega (arith, big_script_read files script text told.1 read, fits)

no_refusal_when_big : (files : Files) (needs : Needs) (fault : ElfFault) → TellsBigFile files needs
    → ¬ (IsRefusalOf files needs fault)
no_refusal_when_big files Nothing fault told refused = absurd told
no_refusal_when_big files (Program program limits) fault told refused =
    big_refused files program limits fault told refused
no_refusal_when_big files (Guest guest) fault told refused = absurd told
no_refusal_when_big files (Script program script limits) fault (inl told) refused =
    big_refused files program limits fault told refused
no_refusal_when_big files (Script program script limits) fault (inr told) refused =
    good_not_refused files program told.0.bytes limits fault told.0.told told.0.good refused
no_refusal_when_big files (Pair pair) fault told refused = no_refusal_when_big_pair files pair fault told refused

no_bad_line_when_big : (files : Files) (needs : Needs) (n : ℕ) → TellsBigFile files needs
    → ¬ (IsScriptRefusalOf files needs n)
no_bad_line_when_big files needs n told refused =
    no_bad_line files (TellsBigFile files) needs n
    (λ program script limits big bad.
    no_run_when_big files program script bad.lines limits bad.image big bad.taken bad.read.read bad.read.fits)
    (λ pair big bad. unused_when_big_pair files pair bad.one bad.two bad.lines big bad.taken bad.read) told refused

pub unused_when_big : (files : Files) (needs : Needs) → TellsBigFile files needs → ¬ (AreUsed files needs)
unused_when_big files Nothing told used = absurd told
unused_when_big files (Program program limits) told used = big_program files program limits used.0 told used.1
unused_when_big files (Guest guest) told used = absurd told
unused_when_big files (Script program script limits) told used =
    no_run_when_big files program script used.1 limits used.0 told used.3 used.4.read used.4.fits
unused_when_big files (Pair pair) told used =
    unused_when_big_pair files pair used.1.one used.1.two used.1.lines told used.1.taken used.1.read

-- where a file that is too big is told, that is said
pub left_by_big : (files : Files) (needs : Needs) → TellsBigFile files needs → Leaves files needs 8
left_by_big files needs told = record {
  some = λ none. subst (TellsBigFile files) none told;
  big = λ big. refl;
  refused = λ found refused. absurd (no_refusal_when_big files needs found told refused);
  line = λ n refused. absurd (no_bad_line_when_big files needs n told refused);
  guest = λ n outside. absurd (of_guest (λ asked. ¬ (TellsBigFile files asked)) needs n (λ guest is never. never) outside told);
}

-- a guest that doesn't take its size leaves nothing else: no output, and no other fault but want of memory
pub unused_when_outside : (files : Files) (needs : Needs) (n : ℕ) → IsOutsideGuest needs n → ¬ (AreUsed files needs)
unused_when_outside files needs n outside used =
    of_guest (λ asked. ¬ (AreUsed files asked)) needs n (λ guest is size. absurd (cc (sym size ∙ is.0))) outside used

pub left_by_outside : (files : Files) (needs : Needs) (n : ℕ) → IsOutsideGuest needs n → Leaves files needs 9
left_by_outside files needs n outside = record {
  some = λ none. subst (λ (asked : Needs). IsOutsideGuest asked n) none outside;
  big = λ big. absurd (of_guest (λ asked. ¬ (HasBigFile files asked)) needs n (λ guest is never. never) outside big);
  refused = λ found refused.
      absurd (of_guest (λ asked. ¬ (IsRefusalOf files asked found)) needs n (λ guest is never. never) outside refused);
  line = λ number refused.
      absurd (of_guest (λ asked. ¬ (IsScriptRefusalOf files asked number)) needs n (λ guest is never. never) outside refused);
  guest = λ number also. refl;
}
