-- What a shelf tells of the files of a pair leaves one answer.
use Rattle.std.proofs.Common.{◌≡◌, ℕ, inl, inr, List, ap, subst, arith}
use Rattle.mach_types.specs.declared.limits.Limits.{Limits}
use Rattle.elf_load.specs.declared.fault.ElfFault.{ElfFault}
use Rattle.elf_load.specs.declared.image.Image.{Image}
use Rattle.elf_load.specs.Images.{IsImage}
use Rattle.elf_load.specs.Start.{program_of}
use Rattle.block_model.specs.Setting.{Setting}
use Rattle.block_model.proofs.Laws.{one_setting}
use Rattle.shared_procs.specs.Pairs.{PairSetting, pair_setting_of}
use Rattle.shared_procs.specs.PairRuns.{PairSeen}
use Rattle.command_words.specs.Commands.{PairRun}
use Rattle.outcomes.specs.Causes.{HasBigFile, IsRefusalOf}
use Rattle.outcomes.specs.Needs.{Pair}
use Rattle.outcomes.specs.PairFiles.{AreTaken, HasPairRun, IsPairScriptRefused}
use Rattle.whole_runs.specs.PlayedPairs.{IsFirstBadOfPair, IsPlayedPair}
use Rattle.outcomes.specs.Programs.{Files, IsProgram, IsScript}
use Rattle.call_reasons.specs.Reasons.{most_script_bytes}
use Rattle.outcomes.specs.Told.{TellsAllowedPair, TellsBadLineOfPair, TellsBigFile, TellsFaultyProgram, TellsGood, TellsPair}
use Rattle.output_laws.proofs.FileExclusions.{big_program, big_refused, big_script_read, faulty_fits, faulty_program, good_not_refused}
use Rattle.output_laws.proofs.FileExclusions.{not_big, program_fits, read_as_told}
use Rattle.output_laws.proofs.OnePairRun.{allowed_not_bad_pair}

-- all files are told, and the programs are good
pub no_big_when_told_pair : (files : Files) (pair : PairRun) → TellsPair files pair → ¬ (HasBigFile files (Pair pair))
no_big_when_told_pair files pair all (inl big) =
    program_fits files pair.first all.first.bytes pair.limits all.first.told all.first.good big
no_big_when_told_pair files pair all (inr (inl big)) =
    program_fits files pair.second all.second.bytes pair.limits all.second.told all.second.good big.holds
no_big_when_told_pair files pair all (inr (inr big)) =
    not_big files pair.script all.lines most_script_bytes all.script_told all.fits big.holds

pub no_refusal_when_told_pair : (files : Files) (pair : PairRun) (fault : ElfFault) → TellsPair files pair
    → ¬ (IsRefusalOf files (Pair pair) fault)
no_refusal_when_told_pair files pair fault all (inl refused) =
    good_not_refused files pair.first all.first.bytes pair.limits fault all.first.told all.first.good refused
no_refusal_when_told_pair files pair fault all (inr refused) =
    good_not_refused files pair.second all.second.bytes pair.limits fault all.second.told all.second.good refused.holds

-- the same program was taken as is told
same_program : (files : Files) (name : List ℕ) (limits : Limits) (told : TellsGood files name limits) (image taken : Image)
    → IsImage told.bytes image → IsProgram files name limits taken → program_of taken ≡ program_of image
same_program files name limits told image taken loaded is =
    let same = read_as_told files name is.bytes told.bytes is.read told.told in
    ap (λ (s : Setting). s.program)
    (one_setting told.bytes taken image limits (subst (λ (b : List ℕ). IsImage b taken) same is.loaded) loaded)

same_start : (files : Files) (pair : PairRun) (one two : Image) → (all : TellsPair files pair) → AreTaken files pair one two
    → pair_setting_of one two pair.limits ≡ pair_setting_of all.one all.two pair.limits
same_start files pair one two all taken =
    let first = same_program files pair.first pair.limits all.first all.one one all.first_loaded taken.first in
    let second = same_program files pair.second pair.limits all.second all.two two all.second_loaded taken.second in
    λ i. record { first = first i; second = second i; limits = pair.limits }

-- and the lines are those that are told
bad_as_told : (files : Files) (pair : PairRun) (n : ℕ) → (all : TellsPair files pair) → IsPairScriptRefused files pair n
    → IsFirstBadOfPair (pair_setting_of all.one all.two pair.limits) all.lines n
bad_as_told files pair n all refused =
    let lines = read_as_told files pair.script refused.lines all.lines refused.read.read all.script_told in
    let first = subst (λ (s : PairSetting). IsFirstBadOfPair s refused.lines n)
    (same_start files pair refused.one refused.two all refused.taken) refused.first in
    subst (λ (text : List ℕ). IsFirstBadOfPair (pair_setting_of all.one all.two pair.limits) text n) lines first

pub no_line_when_good_pair : (files : Files) (pair : PairRun) (n : ℕ) → TellsAllowedPair files pair
    → ¬ (IsPairScriptRefused files pair n)
no_line_when_good_pair files pair n told refused =
    allowed_not_bad_pair (pair_setting_of told.all.one told.all.two pair.limits) told.all.lines told.log n told.run
    (bad_as_told files pair n told.all refused)

-- a bad line is told
pub unused_when_bad_line_of_pair : (files : Files) (pair : PairRun) → (told : TellsBadLineOfPair files pair) → (v : PairSeen)
    → ¬ (HasPairRun files pair v)
unused_when_bad_line_of_pair files pair told v used =
    let all = told.all in
    let lines = read_as_told files pair.script used.lines all.lines used.read.read all.script_told in
    let run = subst (λ (s : PairSetting). IsPlayedPair s used.lines v.log) (same_start files pair used.one used.two all used.taken)
    used.run in
    allowed_not_bad_pair (pair_setting_of all.one all.two pair.limits) all.lines v.log told.number
    (subst (λ (text : List ℕ). IsPlayedPair (pair_setting_of all.one all.two pair.limits) text v.log) lines run) told.first

-- a faulty program is told
pub not_taken_when_faulty_pair : (files : Files) (pair : PairRun) (one two : Image) → TellsFaultyProgram files (Pair pair)
    → ¬ (AreTaken files pair one two)
not_taken_when_faulty_pair files pair one two (inl told) taken =
    faulty_program files pair.first pair.limits one told taken.first
not_taken_when_faulty_pair files pair one two (inr told) taken =
    faulty_program files pair.second pair.limits two told.1 taken.second

pub no_big_when_faulty_pair : (files : Files) (pair : PairRun) → TellsFaultyProgram files (Pair pair)
    → ¬ (HasBigFile files (Pair pair))
no_big_when_faulty_pair files pair (inl told) (inl big) = faulty_fits files pair.first pair.limits told big
no_big_when_faulty_pair files pair (inl told) (inr (inl big)) =
    faulty_program files pair.first pair.limits big.image told big.taken
no_big_when_faulty_pair files pair (inr told) (inl big) =
    program_fits files pair.first told.0.bytes pair.limits told.0.told told.0.good big
no_big_when_faulty_pair files pair (inr told) (inr (inl big)) = faulty_fits files pair.second pair.limits told.1 big.holds
no_big_when_faulty_pair files pair told (inr (inr big)) =
    not_taken_when_faulty_pair files pair big.one big.two told big.taken

-- a file that is too big is told
pub no_refusal_when_big_pair : (files : Files) (pair : PairRun) (fault : ElfFault) → TellsBigFile files (Pair pair)
    → ¬ (IsRefusalOf files (Pair pair) fault)
no_refusal_when_big_pair files pair fault (inl told) (inl refused) =
    big_refused files pair.first pair.limits fault told refused
no_refusal_when_big_pair files pair fault (inl told) (inr refused) =
    big_program files pair.first pair.limits refused.image told refused.taken
no_refusal_when_big_pair files pair fault (inr (inl told)) (inl refused) =
    good_not_refused files pair.first told.0.bytes pair.limits fault told.0.told told.0.good refused
no_refusal_when_big_pair files pair fault (inr (inl told)) (inr refused) =
    big_refused files pair.second pair.limits fault told.1 refused.holds
no_refusal_when_big_pair files pair fault (inr (inr told)) (inl refused) =
    good_not_refused files pair.first told.0.bytes pair.limits fault told.0.told told.0.good refused
no_refusal_when_big_pair files pair fault (inr (inr told)) (inr refused) =
    good_not_refused files pair.second told.1.bytes pair.limits fault told.1.told told.1.good refused.holds

pub unused_when_big_pair : (files : Files) (pair : PairRun) (one two : Image) (lines : List ℕ)
    → TellsBigFile files (Pair pair) → AreTaken files pair one two → ¬ (IsScript files pair.script lines)
unused_when_big_pair files pair one two lines (inl told) taken read =
    big_program files pair.first pair.limits one told taken.first
unused_when_big_pair files pair one two lines (inr (inl told)) taken read =
    big_program files pair.second pair.limits two told.1 taken.second
unused_when_big_pair files pair one two lines (inr (inr told)) taken read =
    omega (arith, big_script_read files pair.script lines told.2 read.read, read.fits)
