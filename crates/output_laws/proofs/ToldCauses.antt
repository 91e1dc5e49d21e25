-- Where the files of a command are told, a cause of a fault is told too, and it leaves one fault.
use Rattle.std.proofs.Common.{◌≡◌, ◌∙◌, ℕ, ◌<◌, inl, inr, List, Option, Some, None, Err, length, refl, sym, ap, ap₂, subst}
use Rattle.std.specs.Prelude.{IfSome, IsSome}
use Rattle.mach_types.specs.declared.limits.Limits.{Limits}
use Rattle.elf_load.specs.Faults.{first_fault}
use Rattle.elf_load.specs.declared.fault.ElfFault.{ElfFault}
use Rattle.block_model.specs.Replay.{played_read}
use Rattle.block_model.specs.Setting.{Setting, setting_of}
use Rattle.block_model.proofs.Laws.{is_bad}
use Rattle.shared_procs.specs.Pairs.{PairSetting, pair_setting_of}
use Rattle.command_words.specs.Commands as words
use Rattle.outcomes.specs.Causes.{HasBigFile, IsOutsideGuest, IsRefusalOf, IsScriptRefusalOf}
use Rattle.outcomes.specs.Needs.{Needs, Nothing, Program, Script, Guest, Pair, needs_of}
use Rattle.outcomes.specs.Outputs.{IsOutputOf}
use Rattle.outcomes.specs.PairFiles.{IsPairScriptRefused}
use Rattle.whole_runs.specs.PlayedPairs.{IsFirstBadOfPair}
use Rattle.outcomes.specs.Programs.{Files, IsRefused, IsTooBig}
use Rattle.whole_runs.specs.Asks.{asks_of}
use Rattle.call_reasons.specs.Reasons.{most_program_bytes, most_script_bytes}
use Rattle.outcomes.specs.Told.{TellsBadScript, TellsBig, TellsBigFile, TellsFaulty, TellsFaultyProgram, TellsGoodFiles}
use Rattle.output_laws.specs.Agreement.{IsAllTold}
use Rattle.output_laws.proofs.Exclusions.{AreUsed, used_by_output}
use Rattle.output_laws.proofs.FileExclusions.{faulty_program}
use Rattle.output_laws.proofs.OneOutput.{needs_some, one_reading, one_start, read_is_told, taken_is_good, used_are_good}
use Rattle.output_laws.proofs.OnePairRun.{one_bad_line}

-- GOOD FILES

used_are_told : (files : Files) (needs : Needs) → ¬ (needs ≡ Nothing) → IsAllTold files needs → AreUsed files needs
    → TellsGoodFiles files needs
used_are_told files Nothing some told used = absurd (some refl)
used_are_told files (Program program limits) some told used = used_are_good files (Program program limits) some told used
used_are_told files (Script program script limits) some told used =
    used_are_good files (Script program script limits) some told used
used_are_told files (Guest guest) some told used = used
used_are_told files (Pair pair) some told used = used_are_good files (Pair pair) some told used

-- an output is of good files
pub good_told : (files : Files) (command : Option words.Command) (written : List ℕ) → IsAllTold files (needs_of command)
    → IsOutputOf files command written → TellsGoodFiles files (needs_of command)
good_told files command written told output =
    used_are_told files (needs_of command) (needs_some files command written output) told
    (used_by_output files command written output)

-- FAULTS

refused_told : (files : Files) (name : List ℕ) (limits : Limits) (fault : ElfFault) → IsSome (files name)
    → IsRefused files name limits fault → TellsFaulty files name limits
refused_told files name limits fault told refused = record {
  bytes = refused.bytes;
  told = read_is_told (files name) refused.bytes told refused.read;
  fault = fault;
  faulty = refused.faulty;
}

pub faulty_told : (files : Files) (needs : Needs) (fault : ElfFault) → IsAllTold files needs → IsRefusalOf files needs fault
    → TellsFaultyProgram files needs
faulty_told files Nothing fault told refused = refused
faulty_told files (Program program limits) fault told refused = refused_told files program limits fault told refused
faulty_told files (Script program script limits) fault told refused =
    refused_told files program limits fault told.0 refused
faulty_told files (Guest guest) fault told refused = refused
faulty_told files (Pair pair) fault told (inl first) = inl (refused_told files pair.first pair.limits fault told.0 first)
faulty_told files (Pair pair) fault told (inr second) =
    inr (
      taken_is_good files pair.first pair.limits second.image told.0 second.taken,
      refused_told files pair.second pair.limits fault told.1 second.holds,
    )

pub bad_line_told : (files : Files) (needs : Needs) (n : ℕ) → IsAllTold files needs → IsScriptRefusalOf files needs n
    → TellsBadScript files needs
bad_line_told files Nothing n told refused = refused
bad_line_told files (Program program limits) n told refused = refused
bad_line_told files (Script program script limits) n told refused = record {
  both = record {
    bytes = refused.taken.bytes;
    told = read_is_told (files program) refused.taken.bytes told.0 refused.taken.read;
    good = refused.taken.good;
    image = refused.image;
    loaded = refused.taken.loaded;
    lines = refused.lines;
    script_told = read_is_told (files script) refused.lines told.1 refused.read.read;
    fits = refused.read.fits;
  };
  number = n;
  first = refused.first;
}
bad_line_told files (Guest guest) n told refused = refused
bad_line_told files (Pair pair) n told refused = record {
  all = record {
    first = taken_is_good files pair.first pair.limits refused.one told.0 refused.taken.first;
    one = refused.one;
    first_loaded = refused.taken.first.loaded;
    second = taken_is_good files pair.second pair.limits refused.two told.1 refused.taken.second;
    two = refused.two;
    second_loaded = refused.taken.second.loaded;
    lines = refused.lines;
    script_told = read_is_told (files pair.script) refused.lines told.2 refused.read.read;
    fits = refused.read.fits;
  };
  number = n;
  first = refused.first;
}

big_told : (files : Files) (name : List ℕ) (most : ℕ) → IsSome (files name) → IsTooBig files name most
    → TellsBig files name most
big_told files name most told big = by_bytes (files name) refl told big
  where
    by_bytes : (o : Option (List ℕ)) → files name ≡ o → IsSome o → IfSome o (λ (bytes : List ℕ). most < length bytes)
        → TellsBig files name most
    by_bytes None at some long = absurd cc
    by_bytes (Some bytes) at some long = record { bytes = bytes; told = at; big = long }

pub big_file_told : (files : Files) (needs : Needs) → IsAllTold files needs → HasBigFile files needs
    → TellsBigFile files needs
big_file_told files Nothing told big = big
big_file_told files (Program program limits) told big = big_told files program most_program_bytes told big
big_file_told files (Script program script limits) told (inl big) =
    inl (big_told files program most_program_bytes told.0 big)
big_file_told files (Script program script limits) told (inr big) =
    inr (taken_is_good files program limits big.image told.0 big.taken, big_told files script most_script_bytes told.1 big.big)
big_file_told files (Guest guest) told big = big
big_file_told files (Pair pair) told (inl big) = inl (big_told files pair.first most_program_bytes told.0 big)
big_file_told files (Pair pair) told (inr (inl big)) =
    inr (inl (
      taken_is_good files pair.first pair.limits big.image told.0 big.taken,
      big_told files pair.second most_program_bytes told.1 big.holds,
    ))
big_file_told files (Pair pair) told (inr (inr big)) =
    inr (inr (
      taken_is_good files pair.first pair.limits big.one told.0 big.taken.first,
      taken_is_good files pair.second pair.limits big.two told.1 big.taken.second,
      big_told files pair.script most_script_bytes told.2 big.holds,
    ))

-- ONE FAULT

one_fault : (files : Files) (name : List ℕ) (limits : Limits) (fault other : ElfFault) → IsSome (files name)
    → IsRefused files name limits fault → IsRefused files name limits other → fault ≡ other
one_fault files name limits fault other told one two =
    let bytes = one_reading (files name) one.bytes two.bytes told one.read two.read in
    let first : first_fault two.bytes limits.frames ≡ Some fault =
    ap (λ (b : List ℕ). first_fault b limits.frames) (sym bytes) ∙ one.faulty.due in
    let second : first_fault two.bytes limits.frames ≡ Some other = two.faulty.due in
    cc

pub one_refusal : (files : Files) (needs : Needs) (fault other : ElfFault) → IsAllTold files needs
    → IsRefusalOf files needs fault → IsRefusalOf files needs other → fault ≡ other
one_refusal files Nothing fault other told one two = absurd one
one_refusal files (Program program limits) fault other told one two =
    one_fault files program limits fault other told one two
one_refusal files (Script program script limits) fault other told one two =
    one_fault files program limits fault other told.0 one two
one_refusal files (Guest guest) fault other told one two = absurd one
one_refusal files (Pair pair) fault other told (inl one) (inl two) =
    one_fault files pair.first pair.limits fault other told.0 one two
one_refusal files (Pair pair) fault other told (inl one) (inr two) =
    absurd (faulty_program files pair.first pair.limits two.image
    (refused_told files pair.first pair.limits fault told.0 one) two.taken)
one_refusal files (Pair pair) fault other told (inr one) (inl two) =
    absurd (faulty_program files pair.first pair.limits one.image
    (refused_told files pair.first pair.limits other told.0 two) one.taken)
one_refusal files (Pair pair) fault other told (inr one) (inr two) =
    one_fault files pair.second pair.limits fault other told.1 one.holds two.holds

one_pair_line : (files : Files) (pair : words.PairRun) (n m : ℕ) → IsAllTold files (Pair pair)
    → IsPairScriptRefused files pair n → IsPairScriptRefused files pair m → n ≡ m
one_pair_line files pair n m told one two =
    let first = one_start files pair.first pair.limits one.one two.one told.0 one.taken.first two.taken.first in
    let second = one_start files pair.second pair.limits one.two two.two told.1 one.taken.second two.taken.second in
    let start : pair_setting_of one.one one.two pair.limits ≡ pair_setting_of two.one two.two pair.limits =
    λ i. record { first = (first i).program; second = (second i).program; limits = pair.limits } in
    let text = one_reading (files pair.script) one.lines two.lines told.2 one.read.read two.read.read in
    let bad = subst (λ (s : PairSetting). IsFirstBadOfPair s one.lines n) start one.first in
    one_bad_line (pair_setting_of two.one two.two pair.limits) two.lines n m
    (subst (λ (t : List ℕ). IsFirstBadOfPair (pair_setting_of two.one two.two pair.limits) t n) text bad) two.first

pub one_line : (files : Files) (needs : Needs) (n m : ℕ) → IsAllTold files needs → IsScriptRefusalOf files needs n
    → IsScriptRefusalOf files needs m → n ≡ m
one_line files Nothing n m told one two = absurd one
one_line files (Program program limits) n m told one two = absurd one
one_line files (Script program script limits) n m told one two =
    let start = one_start files program limits one.image two.image told.0 one.taken two.taken in
    let text = one_reading (files script) one.lines two.lines told.1 one.read.read two.read.read in
    let first : played_read (setting_of two.image limits) (asks_of two.lines) ≡ Err n =
    ap₂ (λ (s : Setting) (t : List ℕ). played_read s (asks_of t)) (sym start) (sym text)
    ∙ is_bad (setting_of one.image limits) (asks_of one.lines) n one.first in
    let second : played_read (setting_of two.image limits) (asks_of two.lines) ≡ Err m =
    is_bad (setting_of two.image limits) (asks_of two.lines) m two.first in
    cc
one_line files (Guest guest) n m told one two = absurd one
one_line files (Pair pair) n m told one two = one_pair_line files pair n m told one two

pub one_size : (needs : Needs) (n m : ℕ) → IsOutsideGuest needs n → IsOutsideGuest needs m → n ≡ m
one_size Nothing n m one two = absurd one
one_size (Program program limits) n m one two = absurd one
one_size (Script program script limits) n m one two = absurd one
one_size (Guest guest) n m one two = one.1 ∙ sym two.1
one_size (Pair pair) n m one two = absurd one
