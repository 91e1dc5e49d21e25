-- The reason why there is no output of a pair, by where it comes.
use Rattle.std.proofs.Common.{◌≡◌, ℕ, List, Option, subst, sym}
use Rattle.std.specs.declared.io.ErrorKind.{ErrorKind}
use Rattle.elf_load.specs.declared.image.Image.{Image}
use Rattle.mach_types.specs.Limits.{InRange}
use Rattle.outside.specs.Counts.{NoneFalls}
use Rattle.shared_procs.specs.Pairs.{PairSetting, pair_setting_of}
use Rattle.shared_procs.specs.PairRuns.{IsPairRun, PairSeen}
use Rattle.command_words.specs.Commands.{PairRun}
use Rattle.call_reasons.specs.declared.reasons.FileRole.TheVariants as role
use Rattle.call_reasons.specs.declared.reasons.Reason.{Reason}
use Rattle.call_reasons.specs.declared.reasons.Reason.TheVariants.{Words, Unread, NoMemory, TooBig, Elf, Script, Guest, EndedOtherwise, Unwritten}
use Rattle.outcomes.specs.Delivery.{IsFileReason, IsTakeReason}
use Rattle.whole_runs.specs.PlayReasons.{IsPairPlayReason}
use Rattle.outcomes.specs.Needs.{Pair}
use Rattle.outcomes.specs.PairFiles.{AreTaken, HasPairRun, IsPairOutput}
use Rattle.run_texts.specs.PairText.{pair_output}
use Rattle.whole_runs.specs.PlayedPairs.{IsPlayedPair, IsWholePair}
use Rattle.outcomes.specs.Programs.{Files, IsProgram, IsScript, IsTooBig}
use Rattle.call_reasons.specs.Reasons.{most_program_bytes, most_script_bytes}
use Rattle.whole_runs.specs.BadLines.{IsBadLineOfPair}
use Rattle.outcomes.specs.Reasons.{IsReasonFor, IsRefusedAbout}
use Rattle.taken_files.proofs.Causes.{rose_later}

-- the first program isn't taken
pub first_untaken : (files : Files) (pair : PairRun) (old new : List ℕ → ℕ) (said : Option ErrorKind) (reason : Reason)
    → IsTakeReason files pair.first role.Program pair.limits old new said reason
    → IsReasonFor files (Pair pair) old new said reason
first_untaken files pair old new said (Words fault) why = absurd why
first_untaken files pair old new said (Unread role.Program trouble) why =
    record { unread = why.rose; trouble_told = why.trouble_told }
first_untaken files pair old new said (Unread role.SecondProgram trouble) why = absurd (cc why.role)
first_untaken files pair old new said (Unread role.Script trouble) why = absurd (cc why.role)
first_untaken files pair old new said NoMemory why = tt
first_untaken files pair old new said (TooBig role.Program) why = why.1
first_untaken files pair old new said (TooBig role.SecondProgram) why = absurd (cc why.0)
first_untaken files pair old new said (TooBig role.Script) why = absurd (cc why.0)
first_untaken files pair old new said (Elf role.Program fault about) why = why.1
first_untaken files pair old new said (Elf role.SecondProgram fault about) why = absurd (cc why.0)
first_untaken files pair old new said (Elf role.Script fault about) why = absurd (cc why.0)
first_untaken files pair old new said (Script number fault) why = absurd why
first_untaken files pair old new said (Guest number) why = absurd why
first_untaken files pair old new said (EndedOtherwise other) why = absurd why
first_untaken files pair old new said (Unwritten trouble) why = absurd why

-- the second isn't, after the first was
module _ (files same : Files) (pair : PairRun) (one : Image) (old mid new : List ℕ → ℕ) (said : Option ErrorKind)
    (is : same ≡ files) (taken : IsProgram files pair.first pair.limits one) (first : NoneFalls old mid)
    (second : NoneFalls mid new) where
  pub second_untaken : (reason : Reason) → IsTakeReason same pair.second role.SecondProgram pair.limits mid new said reason
      → IsReasonFor files (Pair pair) old new said reason
  second_untaken (Words fault) why = absurd why
  second_untaken (Unread role.Program trouble) why = absurd (cc why.role)
  second_untaken (Unread role.SecondProgram trouble) why = record {
    unread = record {
      image = one;
      taken = taken;
      holds = rose_later (old pair.second) (mid pair.second) (new pair.second) (first pair.second) (second pair.second)
          why.rose;
    };
    trouble_told = why.trouble_told;
  }
  second_untaken (Unread role.Script trouble) why = absurd (cc why.role)
  second_untaken NoMemory why = tt
  second_untaken (TooBig role.Program) why = absurd (cc why.0)
  second_untaken (TooBig role.SecondProgram) why = record {
    image = one;
    taken = taken;
    holds = subst (λ (f : Files). IsTooBig f pair.second most_program_bytes) is why.1;
  }
  second_untaken (TooBig role.Script) why = absurd (cc why.0)
  second_untaken (Elf role.Program fault about) why = absurd (cc why.0)
  second_untaken (Elf role.SecondProgram fault about) why = record {
    image = one;
    taken = taken;
    holds = subst (λ (f : Files). IsRefusedAbout f pair.second pair.limits fault about) is why.1;
  }
  second_untaken (Elf role.Script fault about) why = absurd (cc why.0)
  second_untaken (Script number fault) why = absurd why
  second_untaken (Guest number) why = absurd why
  second_untaken (EndedOtherwise other) why = absurd why
  second_untaken (Unwritten trouble) why = absurd why

-- the script isn't read, after both were
module _ (files same : Files) (pair : PairRun) (one two : Image) (old mid new : List ℕ → ℕ) (said : Option ErrorKind)
    (is : same ≡ files) (taken : AreTaken files pair one two) (first : NoneFalls old mid) (second : NoneFalls mid new) where
  pub script_unread : (reason : Reason) → IsFileReason same pair.script role.Script mid new said reason
      → IsReasonFor files (Pair pair) old new said reason
  script_unread (Words fault) why = absurd why
  script_unread (Unread role.Program trouble) why = absurd (cc why.role)
  script_unread (Unread role.SecondProgram trouble) why = absurd (cc why.role)
  script_unread (Unread role.Script trouble) why = record {
    unread = record {
      one = one;
      two = two;
      taken = taken;
      holds = rose_later (old pair.script) (mid pair.script) (new pair.script) (first pair.script) (second pair.script)
          why.rose;
    };
    trouble_told = why.trouble_told;
  }
  script_unread NoMemory why = tt
  script_unread (TooBig role.Program) why = absurd (cc why.0)
  script_unread (TooBig role.SecondProgram) why = absurd (cc why.0)
  script_unread (TooBig role.Script) why = record {
    one = one;
    two = two;
    taken = taken;
    holds = subst (λ (f : Files). IsTooBig f pair.script most_script_bytes) is why.1;
  }
  script_unread (Elf file fault about) why = absurd why
  script_unread (Script number fault) why = absurd why
  script_unread (Guest number) why = absurd why
  script_unread (EndedOtherwise other) why = absurd why
  script_unread (Unwritten trouble) why = absurd why

-- both were taken, where the second was after the first
pub both_taken : (files same : Files) (pair : PairRun) (one two : Image) → same ≡ files
    → IsProgram files pair.first pair.limits one → IsProgram same pair.second pair.limits two → AreTaken files pair one two
both_taken files same pair one two is first second =
    record { first = first; second = subst (λ (f : Files). IsProgram f pair.second pair.limits two) is second }

-- it isn't played to its end
pub unplayed_pair : (files same : Files) (pair : PairRun) (one two : Image) (lines text : List ℕ) (old new : List ℕ → ℕ)
    (said : Option ErrorKind) (reason : Reason) → same ≡ files → text ≡ lines → AreTaken files pair one two
    → IsScript same pair.script lines → IsPairPlayReason (pair_setting_of one two pair.limits) text reason
    → IsReasonFor files (Pair pair) old new said reason
unplayed_pair files same pair one two lines text old new said (Words fault) is equal taken read why = absurd why
unplayed_pair files same pair one two lines text old new said (Unread file trouble) is equal taken read why = absurd why
unplayed_pair files same pair one two lines text old new said NoMemory is equal taken read why = tt
unplayed_pair files same pair one two lines text old new said (TooBig file) is equal taken read why = absurd why
unplayed_pair files same pair one two lines text old new said (Elf file fault about) is equal taken read why = absurd why
unplayed_pair files same pair one two lines text old new said (Script number fault) is equal taken read why =
    let bad = subst (λ t. IsBadLineOfPair (pair_setting_of one two pair.limits) t number fault) equal why in
    record {
      refused = record {
        one = one;
        two = two;
        taken = taken;
        lines = lines;
        read = subst (λ (f : Files). IsScript f pair.script lines) is read;
        first = bad.first;
      };
      why = bad.why;
    }
unplayed_pair files same pair one two lines text old new said (Guest number) is equal taken read why = absurd why
unplayed_pair files same pair one two lines text old new said (EndedOtherwise other) is equal taken read why = absurd why
unplayed_pair files same pair one two lines text old new said (Unwritten trouble) is equal taken read why = absurd why

-- it is
pub played_whole : (files same : Files) (pair : PairRun) (one two : Image) (lines text : List ℕ) (v : PairSeen) → same ≡ files
    → text ≡ lines → AreTaken files pair one two → IsScript same pair.script lines
    → IsWholePair (pair_setting_of one two pair.limits) text v → HasPairRun files pair v
played_whole files same pair one two lines text v is equal taken read whole = record {
  one = one;
  two = two;
  taken = taken;
  setting = whole.setting;
  lines = lines;
  read = subst (λ (f : Files). IsScript f pair.script lines) is read;
  run = subst (λ (t : List ℕ). IsPlayedPair (pair_setting_of one two pair.limits) t v.log) equal whole.run;
}

pub output_of_pair : (files : Files) (pair : PairRun) (v : PairSeen) (text : List ℕ) → HasPairRun files pair v
    → text ≡ pair_output v → IsPairOutput files pair text
output_of_pair files pair v text made is = record { seen = v; made = made; text = is }

-- the pair at its end made a pair run under its limits
pub run_at_end : (files : Files) (pair : PairRun) (v : PairSeen) → HasPairRun files pair v → IsPairRun v.setting v.log
run_at_end files pair v made = subst (λ (s : PairSetting). IsPairRun s v.log) (sym made.setting) made.run.pair_run

pub range_at_end : (files : Files) (pair : PairRun) (v : PairSeen) → InRange pair.limits → HasPairRun files pair v
    → InRange v.setting.limits
range_at_end files pair v range made = subst (λ (s : PairSetting). InRange s.limits) (sym made.setting) range
