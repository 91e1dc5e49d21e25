-- What is told of one file leaves one answer.
use Rattle.std.proofs.Common.{◌≡◌, ◌≢◌, ℕ, ◌<◌, ◌≤◌, List, length, sym, ◌∙◌, subst, arith, Some}
use Rattle.std.specs.Prelude.{IfSome}
use Rattle.mach_types.specs.declared.limits.Limits.{Limits}
use Rattle.elf_load.specs.declared.fault.ElfFault.{ElfFault}
use Rattle.elf_load.specs.declared.image.Image.{Image}
use Rattle.outcomes.specs.Programs.{Files, IsFaulty, IsGood, IsProgram, IsReadAs, IsRefused, IsTooBig}
use Rattle.call_reasons.specs.Reasons.{most_program_bytes}
use Rattle.call_reasons.specs.Reasons.{most_script_bytes}
use Rattle.outcomes.specs.Told.{TellsBig, TellsFaulty}

-- a file that is told was read as it is
pub read_as_told : (files : Files) (name bytes told : List ℕ) → IsReadAs files name bytes → files name ≡ Some told
    → bytes ≡ told
read_as_told files name bytes told read is = subst (λ o. IfSome o (λ t. bytes ≡ t)) is read

pub big_as_told : (files : Files) (name told : List ℕ) (most : ℕ) → IsTooBig files name most
    → files name ≡ Some told → most < length told
big_as_told files name told most big is = subst (λ o. IfSome o (λ t. most < length t)) is big

-- a file that fits isn't too big
pub not_big : (files : Files) (name told : List ℕ) (most : ℕ) → files name ≡ Some told → length told ≤ most
    → ¬ (IsTooBig files name most)
not_big files name told most is fits big = omega (arith, big_as_told files name told most big is)

-- one program is good or faulty, not both, and neither where it is too big
pub good_not_faulty : (limits : Limits) (bytes other : List ℕ) (fault : ElfFault) → IsGood limits bytes
    → IsFaulty limits other fault → other ≢ bytes
good_not_faulty limits bytes other fault good faulty same =
    let none = subst (λ b. IsGood limits b) (sym same) good in
    absurd (cc (sym none.no_fault ∙ faulty.due))

pub good_not_refused : (files : Files) (name bytes : List ℕ) (limits : Limits) (fault : ElfFault)
    → files name ≡ Some bytes → IsGood limits bytes → ¬ (IsRefused files name limits fault)
good_not_refused files name bytes limits fault told good refused =
    good_not_faulty limits bytes refused.bytes fault good refused.faulty
    (read_as_told files name refused.bytes bytes refused.read told)

pub faulty_not_taken : (files : Files) (name bytes : List ℕ) (limits : Limits) (fault : ElfFault) (image : Image)
    → files name ≡ Some bytes → IsFaulty limits bytes fault → ¬ (IsProgram files name limits image)
faulty_not_taken files name bytes limits fault image told faulty taken =
    good_not_faulty limits taken.bytes bytes fault taken.good faulty
    (sym (read_as_told files name taken.bytes bytes taken.read told))

-- what was read of a file that is too big doesn't fit
big_not_read : (files : Files) (name bytes read : List ℕ) → files name ≡ Some bytes → most_program_bytes < length bytes
    → IsReadAs files name read → ¬ (length read ≤ most_program_bytes)
big_not_read files name bytes read told big is fits =
    let same = read_as_told files name read bytes is told in
    let long = subst (λ b. most_program_bytes < length b) (sym same) big in
    omega (arith, long, fits)

pub big_not_taken : (files : Files) (name bytes : List ℕ) (limits : Limits) (image : Image)
    → files name ≡ Some bytes → most_program_bytes < length bytes → ¬ (IsProgram files name limits image)
big_not_taken files name bytes limits image told big taken =
    big_not_read files name bytes taken.bytes told big taken.read taken.good.fits

pub big_not_refused : (files : Files) (name bytes : List ℕ) (limits : Limits) (fault : ElfFault)
    → files name ≡ Some bytes → most_program_bytes < length bytes → ¬ (IsRefused files name limits fault)
big_not_refused files name bytes limits fault told big refused =
    big_not_read files name bytes refused.bytes told big refused.read refused.faulty.fits

-- the program is good
pub program_fits : (files : Files) (name bytes : List ℕ) (limits : Limits) → files name ≡ Some bytes
    → IsGood limits bytes → ¬ (IsTooBig files name most_program_bytes)
program_fits files name bytes limits told good = not_big files name bytes most_program_bytes told good.fits

-- a faulty program is told
pub faulty_fits : (files : Files) (name : List ℕ) (limits : Limits) → (told : TellsFaulty files name limits)
    → ¬ (IsTooBig files name most_program_bytes)
faulty_fits files name limits told =
    not_big files name told.bytes most_program_bytes told.told told.faulty.fits

pub faulty_program : (files : Files) (name : List ℕ) (limits : Limits) (image : Image)
    → (told : TellsFaulty files name limits) → ¬ (IsProgram files name limits image)
faulty_program files name limits image told =
    faulty_not_taken files name told.bytes limits told.fault image told.told told.faulty

-- a program, or a script, that is too big is told
pub big_program : (files : Files) (name : List ℕ) (limits : Limits) (image : Image)
    → (told : TellsBig files name most_program_bytes) → ¬ (IsProgram files name limits image)
big_program files name limits image told = big_not_taken files name told.bytes limits image told.told told.big

pub big_refused : (files : Files) (name : List ℕ) (limits : Limits) (fault : ElfFault)
    → (told : TellsBig files name most_program_bytes) → ¬ (IsRefused files name limits fault)
big_refused files name limits fault told =
    big_not_refused files name told.bytes limits fault told.told told.big

pub big_script_read : (files : Files) (script text : List ℕ) → TellsBig files script most_script_bytes
    → IsReadAs files script text → most_script_bytes < length text
big_script_read files script text told read =
    subst (λ t. most_script_bytes < length t) (sym (read_as_told files script text told.bytes read told.told))
    told.big
