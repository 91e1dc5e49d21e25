-- What a command asks for is told by what it takes: a command's word with arguments is a command exactly where it
-- has such names, and where each option that is given is one of its own, with a number in its range.
use Rattle.std.proofs.Common.{◌≡◌, ◌∙◌, ℕ, ◌<◌, ◌≤◌, Bool, cond, true, false, List, [], ◌∷◌, ◌++◌, length, Option, Some}
use Rattle.std.proofs.Common.{None, refl, sym, ap, arith, option_map, zero, suc}
use Rattle.std.specs.Prelude.{◌&&◌}
use Rattle.std.specs.Option.{is_none, is_some}
use Rattle.std.proofs.lemmas.Bool.{and_parts}
use Rattle.guest_names.specs.declared.names.Name.{Name as GuestName}
use Rattle.guest_names.specs.Guests.{name_of}
use Rattle.command_words.specs.declared.commands.Guest.{Guest as AskedGuest}
use Rattle.command_words.specs.declared.commands.Settings.{Settings}
use Rattle.step_log.specs.Script.{◌>>=◌}
use Rattle.command_words.specs.declared.table.CommandKind.{CommandKind}
use Rattle.command_words.specs.declared.table.CommandKind.TheVariants.{Runs, Makes, Tries, Explores, Searches, Pairs}
use Rattle.command_words.specs.declared.table.SourceKind.{SourceKind}
use Rattle.command_words.specs.declared.table.SourceKind.TheVariants.{ByRule, ByScript, ByWorkers, ByDraws}
use Rattle.command_words.specs.declared.takes.NameKind.{NameKind}
use Rattle.command_words.specs.declared.takes.NameKind.TheVariants.{Program, SecondProgram, Script, Guest, Size}
use Rattle.command_words.specs.Commands.{Source, Rule, Workers}
use Rattle.command_words.specs.Grammar.{Arguments, all_suit, asked_by, asked_for, command_for, drawn_source, files_for, guest_for}
use Rattle.mach_types.specs.declared.limits.Limits.{Limits}
use Rattle.command_words.specs.Grammar.{guest_named, one_name, pair_for, program_for, settings_of, suits, two_names}
use Rattle.command_words.specs.Options.{OptionName, After, Memory, number_of}
use Rattle.command_words.specs.Table.{command_kind}
use Rattle.command_words.specs.Takes.{Takes, takes_by, takes_kind, takes_of}
use Rattle.command_words.specs.WordFaults.{kind_at}
use Rattle.command_words.proofs.ClapTurns.{and_false, value_of}
use Rattle.command_words.proofs.EachOption.{all_of, each_of}

-- with a truth
and_true : (b : Bool) → (b && true) ≡ b
and_true true = refl
and_true false = refl

-- a name is of its kind
abbrev pub name_suits : NameKind → List ℕ → Bool
name_suits Program text = true
name_suits SecondProgram text = true
name_suits Script text = true
name_suits Guest text = is_some (name_of text)
name_suits Size text = is_some (number_of text)

-- the name at a place, where there is one, is of its kind
abbrev pub suits_at : Option NameKind → List ℕ → Bool
suits_at None text = false
suits_at (Some kind) text = name_suits kind text

-- names are of these kinds, and as many; or not more
abbrev pub names_fit : List NameKind → List (List ℕ) → Bool
names_fit [] [] = true
names_fit [] (name ∷ names) = false
names_fit (kind ∷ kinds) [] = false
names_fit (kind ∷ kinds) (name ∷ names) = name_suits kind name && names_fit kinds names

abbrev pub names_begin : List NameKind → List (List ℕ) → Bool
names_begin kinds [] = true
names_begin [] (name ∷ names) = false
names_begin (kind ∷ kinds) (name ∷ names) = name_suits kind name && names_begin kinds names

-- names that fit are as many, and those that may are not more
fit_length : (kinds : List NameKind) (names : List (List ℕ)) → names_fit kinds names ≡ true
    → length names ≡ length kinds
fit_length [] [] is = refl
fit_length [] (name ∷ names) is = absurd (cc is)
fit_length (kind ∷ kinds) [] is = absurd (cc is)
fit_length (kind ∷ kinds) (name ∷ names) is =
    let rest = fit_length kinds names (and_parts (name_suits kind name) (names_fit kinds names) is).1 in omega arith

-- names that fit may stand there
fit_begins : (kinds : List NameKind) (names : List (List ℕ)) → names_fit kinds names ≡ true
    → names_begin kinds names ≡ true
fit_begins [] [] is = refl
fit_begins [] (name ∷ names) is = absurd (cc is)
fit_begins (kind ∷ kinds) [] is = absurd (cc is)
fit_begins (kind ∷ kinds) (name ∷ names) is =
    let parts = and_parts (name_suits kind name) (names_fit kinds names) is in
    let rest = fit_begins kinds names parts.1 in
    rw (parts.0, rest) refl

-- those that may stand there fit where no name is missing
begin_fit : (kinds : List NameKind) (names : List (List ℕ)) → names_begin kinds names ≡ true
    → names_fit kinds names ≡ is_none (kind_at kinds (length names))
begin_fit [] [] is = refl
begin_fit [] (name ∷ names) is = absurd (cc is)
begin_fit (kind ∷ kinds) [] is = refl
begin_fit (kind ∷ kinds) (name ∷ names) is =
    let parts = and_parts (name_suits kind name) (names_begin kinds names) is in
    let rest = begin_fit kinds names parts.1 in
    rw parts.0 rest

-- a name more
and_assoc : (a b c : Bool) → (a && (b && c)) ≡ ((a && b) && c)
and_assoc true b c = refl
and_assoc false b c = refl

pub begin_more : (kinds : List NameKind) (names : List (List ℕ)) (name : List ℕ)
    → names_begin kinds (names ++ name ∷ []) ≡ (names_begin kinds names && suits_at (kind_at kinds (length names)) name)
begin_more [] [] name = refl
begin_more [] (first ∷ names) name = refl
begin_more (kind ∷ kinds) [] name = and_true (name_suits kind name)
begin_more (kind ∷ kinds) (first ∷ names) name =
    ap (λ b. name_suits kind first && b) (begin_more kinds names name)
    ∙ and_assoc (name_suits kind first) (names_begin kinds names) (suits_at (kind_at kinds (length names)) name)

-- a place that has a name is before the end
pub kind_within : (kinds : List NameKind) (place : ℕ) (kind : NameKind) → kind_at kinds place ≡ Some kind
    → place < length kinds
kind_within [] place kind is = absurd (cc is)
kind_within (first ∷ kinds) zero kind is = omega arith
kind_within (first ∷ kinds) (suc place) kind is = let rest = kind_within kinds place kind is in omega arith

-- the arguments are a command's that takes this
abbrev pub fits : Takes → Arguments → Bool
fits takes given = names_fit takes.names given.names && all_suit takes given.values

-- names give files exactly where there are so many
one_is : (source : Source) (names : List (List ℕ)) → is_some (one_name source names) ≡ names_fit (Program ∷ []) names
one_is source [] = refl
one_is source (a ∷ []) = refl
one_is source (a ∷ b ∷ more) = refl

two_are : (names : List (List ℕ)) → is_some (two_names names) ≡ names_fit (Program ∷ Script ∷ []) names
two_are [] = refl
two_are (a ∷ []) = refl
two_are (a ∷ b ∷ []) = refl
two_are (a ∷ b ∷ c ∷ more) = refl

files_are : (source : SourceKind) (names : List (List ℕ)) (settings : Settings) (after : Option (List ℕ))
    → is_some (files_for source names settings after) ≡ names_fit (takes_by source).names names
files_are ByRule names settings after = one_is Rule names
files_are ByScript names settings after = two_are names
files_are ByWorkers names settings after = one_is (Workers settings.seed) names
files_are ByDraws names settings after = one_is (drawn_source settings after) names

-- and a guest exactly where the first is one's and the second is a number
abbrev guest_of : GuestName → ℕ → AskedGuest
guest_of name size = record { name = name; size = size }

guest_is : (word text : List ℕ)
    → is_some (guest_named word text) ≡ (is_some (name_of word) && (is_some (number_of text) && true))
guest_is word text = by_parts (name_of word) (number_of text)
  where
    by_parts : (a : Option GuestName) (b : Option ℕ)
        → is_some (a >>= (λ name. b >>= (λ size. Some (guest_of name size)))) ≡ (is_some a && (is_some b && true))
    by_parts None b = refl
    by_parts (Some x) None = refl
    by_parts (Some x) (Some y) = refl

guests_are : (names : List (List ℕ)) → is_some (guest_for names) ≡ names_fit (Guest ∷ Size ∷ []) names
guests_are [] = refl
guests_are (a ∷ []) = sym (and_false (is_some (name_of a)))
guests_are (a ∷ b ∷ []) = guest_is a b
guests_are (a ∷ b ∷ c ∷ more) =
    sym (ap (λ x. is_some (name_of a) && x) (and_false (is_some (number_of b))) ∙ and_false (is_some (name_of a)))

-- and a program alone where there is one name
program_is : (names : List (List ℕ)) → is_some (program_for names) ≡ names_fit (Program ∷ []) names
program_is [] = refl
program_is (a ∷ []) = refl
program_is (a ∷ b ∷ more) = refl

-- and a pair where there are three
pair_is : (limits : Limits) (names : List (List ℕ))
    → is_some (pair_for limits names) ≡ names_fit (Program ∷ SecondProgram ∷ Script ∷ []) names
pair_is limits [] = refl
pair_is limits (a ∷ []) = refl
pair_is limits (a ∷ b ∷ []) = refl
pair_is limits (a ∷ b ∷ c ∷ []) = refl
pair_is limits (a ∷ b ∷ c ∷ d ∷ more) = refl

mapped : {A B : Type 0} (f : A → B) (o : Option A) → is_some (option_map f o) ≡ is_some o
mapped f None = refl
mapped f (Some x) = refl

names_are : (kind : CommandKind) (settings : Settings) (after memory : Option (List ℕ)) (names : List (List ℕ))
    → is_some (command_for kind settings after memory names) ≡ names_fit (takes_kind kind).names names
names_are (Runs source shown) settings after memory names =
    mapped _ (files_for source names settings after) ∙ files_are source names settings after
names_are Makes settings after memory names = mapped _ (guest_for names) ∙ guests_are names
names_are Tries settings after memory names = mapped _ (guest_for names) ∙ guests_are names
names_are Explores settings after memory names = mapped _ (program_for names) ∙ program_is names
names_are Searches settings after memory names = mapped _ (program_for names) ∙ program_is names
names_are Pairs settings after memory names = mapped _ (pair_for settings.limits names) ∙ pair_is settings.limits names

-- so a command of a kind is asked for exactly where the arguments are its own
kind_fits : (kind : CommandKind) (given : Arguments) → is_some (asked_for kind given) ≡ fits (takes_kind kind) given
kind_fits kind given = by_suit (all_suit (takes_kind kind) given.values)
  where
    by_suit : (b : Bool)
        → is_some (cond b (command_for kind (settings_of given.values) (given.values After) (given.values Memory) given.names) None)
        ≡ (names_fit (takes_kind kind).names given.names && b)
    by_suit true =
        names_are kind (settings_of given.values) (given.values After) (given.values Memory) given.names
        ∙ sym (and_true (names_fit (takes_kind kind).names given.names))
    by_suit false = sym (and_false (names_fit (takes_kind kind).names given.names))

-- what the command of a word asks for
pub asked_fits : (word : List ℕ) (takes : Takes) (given : Arguments) → takes_of word ≡ Some takes
    → is_some (asked_by word given) ≡ fits takes given
asked_fits word takes given is = by_kind (command_kind word) is
  where
    by_kind : (o : Option CommandKind) → option_map takes_kind o ≡ Some takes
        → is_some (o >>= (λ (kind : CommandKind). asked_for kind given)) ≡ fits takes given
    by_kind None is = absurd (cc is)
    by_kind (Some kind) is =
        let same : takes_kind kind ≡ takes = cc is in
        kind_fits kind given ∙ ap (λ (t : Takes). fits t given) same

-- a word of no command asks for nothing
pub none_asked : (word : List ℕ) (given : Arguments) → takes_of word ≡ None → asked_by word given ≡ None
none_asked word given is = by_kind (command_kind word) is
  where
    by_kind : (o : Option CommandKind) → option_map takes_kind o ≡ None
        → (o >>= (λ (kind : CommandKind). asked_for kind given)) ≡ None
    by_kind None is = refl
    by_kind (Some kind) is = absurd (cc is)

-- a command has three names at most
three_names_by : (source : SourceKind) → length (takes_by source).names ≤ 3
three_names_by ByRule = omega arith
three_names_by ByScript = omega arith
three_names_by ByWorkers = omega arith
three_names_by ByDraws = omega arith

three_names_most : (kind : CommandKind) → length (takes_kind kind).names ≤ 3
three_names_most (Runs source shown) = three_names_by source
three_names_most Makes = omega arith
three_names_most Tries = omega arith
three_names_most Explores = omega arith
three_names_most Searches = omega arith
three_names_most Pairs = omega arith

pub few_taken : (word : List ℕ) (takes : Takes) → takes_of word ≡ Some takes → length takes.names ≤ 3
few_taken word takes is = by_kind (command_kind word) is
  where
    by_kind : (o : Option CommandKind) → option_map takes_kind o ≡ Some takes → length takes.names ≤ 3
    by_kind None is = absurd (cc is)
    by_kind (Some kind) is =
        let same : takes_kind kind ≡ takes = cc is in
        omega (arith, three_names_most kind, ap (λ (t : Takes). length t.names) same)

-- arguments that aren't a command's ask for nothing
nothing_there : {A : Type 0} (o : Option A) → is_some o ≡ false → o ≡ None
nothing_there None is = refl
nothing_there (Some x) is = absurd (cc is)

nothing_asked : (word : List ℕ) (given : Arguments) → ((kind : CommandKind) → fits (takes_kind kind) given ≡ false)
    → asked_by word given ≡ None
nothing_asked word given never = by_kind (command_kind word)
  where
    by_kind : (o : Option CommandKind) → (o >>= (λ (kind : CommandKind). asked_for kind given)) ≡ None
    by_kind None = refl
    by_kind (Some kind) = nothing_there (asked_for kind given) (kind_fits kind given ∙ never kind)

-- nor do more names than three
pub many_names : (word : List ℕ) (given : Arguments) → 3 < length given.names → asked_by word given ≡ None
many_names word given many = nothing_asked word given (λ kind. by_test kind (names_fit (takes_kind kind).names given.names) refl)
  where
    by_test : (kind : CommandKind) (b : Bool) → names_fit (takes_kind kind).names given.names ≡ b
        → (b && all_suit (takes_kind kind) given.values) ≡ false
    by_test kind false is = refl
    by_test kind true is =
        let most = three_names_most kind in
        let same = fit_length (takes_kind kind).names given.names is in
        absurd (omega arith)

-- the arguments so far may become a command's: names of their kinds, not too many, and options that suit it
pub record Sound (takes : Takes) (given : Arguments) : Type 0 where
  pub begin : names_begin takes.names given.names ≡ true
  pub suit : (option : OptionName) → suits takes option (value_of option given) ≡ true

-- where all options suit, each does
parts_suit : (takes : Takes) (given : Arguments) → all_suit takes given.values ≡ true
    → (option : OptionName) → suits takes option (value_of option given) ≡ true
parts_suit takes given all = each_of (λ option. suits takes option (given.values option)) all

-- where one doesn't suit, nothing is asked for
pub unsuited : (word : List ℕ) (given : Arguments) (option : OptionName)
    → ((kind : CommandKind) → suits (takes_kind kind) option (value_of option given) ≡ false)
    → asked_by word given ≡ None
unsuited word given option bad = nothing_asked word given (λ kind. by_test kind (fits (takes_kind kind) given) refl)
  where
    by_test : (kind : CommandKind) (b : Bool) → fits (takes_kind kind) given ≡ b → b ≡ false
    by_test kind false is = refl
    by_test kind true is =
        let all = (and_parts (names_fit (takes_kind kind).names given.names) (all_suit (takes_kind kind) given.values) is).1 in
        absurd (cc (sym (parts_suit (takes_kind kind) given all option) ∙ bad kind))

-- the arguments of a command are sound
pub fitting_sound : (takes : Takes) (given : Arguments) → fits takes given ≡ true → Sound takes given
fitting_sound takes given is =
    let both = and_parts (names_fit takes.names given.names) (all_suit takes given.values) is in
    record { begin = fit_begins takes.names given.names both.0; suit = parts_suit takes given both.1 }

-- sound arguments are a command's where no name is missing
pub sound_fits : (takes : Takes) (given : Arguments) → Sound takes given
    → fits takes given ≡ is_none (kind_at takes.names (length given.names))
sound_fits takes given sound =
    let all : all_suit takes given.values ≡ true =
    all_of (λ option. suits takes option (given.values option)) sound.suit in
    ap (λ b. names_fit takes.names given.names && b) all ∙ and_true (names_fit takes.names given.names)
    ∙ begin_fit takes.names given.names sound.begin
