-- Nothing is wrong with words exactly where they name a command.
use Rattle.std.proofs.Common.{◌≡◌, ◌∙◌, ◌↔◌, ◌⊎◌, inl, inr, ℕ, ◌+◌, ◌-◌, ◌<◌, ◌≤◌, Bool, true, false, List, [], ◌∷◌}
use Rattle.std.proofs.Common.{length, Option, Some, None, refl, sym, ap, ap₂, arith, codes, lt-ltb}
use Rattle.std.specs.Prelude.{nat_lt}
use Rattle.std.specs.List.{before_first}
use Rattle.std.specs.Option.{IsSome, is_none, is_some, option_map}
use Rattle.std.specs.Str.{bytes_eq}
use Rattle.std.proofs.lemmas.Bool.{and_parts}
use Rattle.step_log.specs.Script.{◌>>=◌}
use Rattle.command_words.specs.declared.faults.WordsFault.{WordsFault}
use Rattle.command_words.specs.declared.faults.WordsFault.TheVariants.{NoNumber, NotTaken, NoValue}
use Rattle.command_words.specs.declared.faults.WordsFault.TheVariants.{OneNameTooMany, Twice, UnknownGuest, UnknownOption}
use Rattle.command_words.specs.declared.takes.NameKind.{NameKind}
use Rattle.command_words.specs.declared.takes.NameKind.TheVariants.{Program, SecondProgram, Script, Guest, Size}
use Rattle.command_words.specs.Commands.{Command}
use Rattle.command_words.specs.Grammar.{Arguments, Item, Name, Given, asked_by, begins_with_dash, is_option, suits}
use Rattle.command_words.specs.Options.{OptionName, is_value, option_named, values_of}
use Rattle.command_words.specs.Takes.{Takes, has, takes_of}
use Rattle.command_words.specs.WordFaults.{fault_at, kind_at, kind_fault, missing}
use Rattle.command_words.specs.WordFaults.{SoFar, fault_among, fault_behind, joined_fault, name_fault, name_missing, none_of}
use Rattle.command_words.specs.WordFaults.{option_word_fault, value_fault}
use Rattle.command_words.specs.WordFaults.{with_word, word_fault, words_fault}
use Rattle.command_words.specs.Words.{Reading, Options, Value, Names, arguments_of, behind_equals, command_of}
use Rattle.command_words.specs.Words.{is_equals, option_read, word_read}
use Rattle.command_words.proofs.Parts.{no_arguments, with_item, with_option}
use Rattle.command_words.proofs.Gathering.{arguments_gathered, none_after}
use Rattle.command_words.proofs.ClapTurns.{value_of}
use Rattle.command_words.proofs.ClapGoes.{option_item, option_twice}
use Rattle.command_words.proofs.Suits.{Sound, asked_fits, begin_more, few_taken, kind_within, name_suits}
use Rattle.command_words.proofs.Suits.{names_begin, none_asked, sound_fits, suits_at}
use Rattle.command_words.proofs.FaultTurns.{asks, given_options, has_given, own_value, stood, name_more, names_same, never_asks, options_after}
use Rattle.command_words.proofs.FaultTurns.{refused_asks, sound_name, sound_value, standing, taken_asks}
use Rattle.command_words.proofs.FaultTurns.{unread_asks, with_name}

-- an option that wants its value is one of the command's, and isn't given yet
abbrev Awaits : Takes → Arguments → Reading → Type 0
Awaits takes given Options = Unit {0}
Awaits takes given (Value option) = (has takes.options option ≡ true) × (value_of option given ≡ None)
Awaits takes given Names = Unit {0}

-- nothing is wrong with the words that follow exactly where they give a command
abbrev Agrees : List ℕ → Takes → List (List ℕ) → ℕ → Reading → Arguments → Type 0
Agrees word takes words next reading given =
    is_none (fault_among (standing takes next reading given) words) ≡ asks word given reading words

abbrev Later : List ℕ → Takes → List (List ℕ) → Type 0
Later word takes rest = (next : ℕ) (reading : Reading) (given : Arguments) → Sound takes given
    → Awaits takes given reading → Agrees word takes rest next reading given

-- a word that is wrong, and one that isn't
wrong : (so_far : SoFar) (next : List ℕ) (rest : List (List ℕ)) (fault : WordsFault)
    → word_fault so_far next ≡ Some fault → is_none (fault_among so_far (next ∷ rest)) ≡ false
wrong so_far next rest fault is = rw is refl

right : (so_far after : SoFar) (next : List ℕ) (rest : List (List ℕ)) → word_fault so_far next ≡ None
    → with_word so_far next ≡ Some after → fault_among so_far (next ∷ rest) ≡ fault_among after rest
right so_far after next rest is goes = rw is (rw goes refl)

-- a word that is read leaves the words behind it to what it was read as
goes_on : (word : List ℕ) (takes : Takes) (next : ℕ) (reading after : Reading) (given more : Arguments)
    (item : Option Item) (text : List ℕ) (rest : List (List ℕ))
    → word_read reading text ≡ Some (item, after) → with_item given item ≡ Some more
    → word_fault (standing takes next reading given) text ≡ None
    → with_word (standing takes next reading given) text ≡ Some (standing takes (next + 1) after more)
    → Agrees word takes rest (next + 1) after more → Agrees word takes (text ∷ rest) next reading given
goes_on word takes next reading after given more item text rest read taken fault goes later =
    ap (λ (o : Option WordsFault). is_none o)
    (right (standing takes next reading given) (standing takes (next + 1) after more) text rest fault goes)
    ∙ later ∙ sym (taken_asks word given more reading after item text rest read taken)

-- one that is wrong gives no command
stops : (word : List ℕ) (takes : Takes) (next : ℕ) (reading : Reading) (given : Arguments) (text : List ℕ)
    (rest : List (List ℕ)) (fault : WordsFault) → word_fault (standing takes next reading given) text ≡ Some fault
    → asks word given reading (text ∷ rest) ≡ false → Agrees word takes (text ∷ rest) next reading given
stops word takes next reading given text rest fault is none =
    wrong (standing takes next reading given) text rest fault is ∙ sym none

-- a name is wrong where it isn't of its kind
abbrev IsFault : Option WordsFault → Type 0
IsFault o = (fault : WordsFault) × (o ≡ Some fault)

kind_wrong : (kind : NameKind) (word : ℕ) (text : List ℕ) → name_suits kind text ≡ false
    → IsFault (kind_fault kind word text)
kind_wrong Program word text is = absurd (cc is)
kind_wrong SecondProgram word text is = absurd (cc is)
kind_wrong Script word text is = absurd (cc is)
kind_wrong Guest word text is = (UnknownGuest word, rw is refl)
kind_wrong Size word text is = (NoNumber word, rw is refl)

place_wrong : (o : Option NameKind) (word : ℕ) (text : List ℕ) → suits_at o text ≡ false → IsFault (fault_at o word text)
place_wrong None word text is = (OneNameTooMany word, refl)
place_wrong (Some kind) word text is = kind_wrong kind word text is

kind_right : (kind : NameKind) (word : ℕ) (text : List ℕ) → name_suits kind text ≡ true
    → kind_fault kind word text ≡ None
kind_right Program word text is = refl
kind_right SecondProgram word text is = refl
kind_right Script word text is = refl
kind_right Guest word text is = rw is refl
kind_right Size word text is = rw is refl

place_right : (o : Option NameKind) (word : ℕ) (text : List ℕ) → suits_at o text ≡ true → fault_at o word text ≡ None
place_right None word text is = absurd (cc is)
place_right (Some kind) word text is = kind_right kind word text is

-- one that is of its kind is one of three at most
place_within : (takes : Takes) (place : ℕ) (text : List ℕ) → length takes.names ≤ 3
    → suits_at (kind_at takes.names place) text ≡ true → place < 3
place_within takes place text few is = by_kind (kind_at takes.names place) refl is
  where
    by_kind : (o : Option NameKind) → kind_at takes.names place ≡ o → suits_at o text ≡ true → place < 3
    by_kind None at is = absurd (cc is)
    by_kind (Some kind) at is = let within = kind_within takes.names place kind at in omega arith

-- a name
named_on : (word : List ℕ) (takes : Takes) (next : ℕ) (reading after : Reading) (given : Arguments) (text : List ℕ)
    (rest : List (List ℕ)) → takes_of word ≡ Some takes → Sound takes given
    → ((more : Arguments) → Awaits takes more after) → Later word takes rest
    → word_read reading text ≡ Some (Some (Name text), after)
    → word_fault (standing takes next reading given) text ≡ name_fault (standing takes next reading given) text
    → Agrees word takes (text ∷ rest) next reading given
named_on word takes next reading after given text rest is sound awaits later read fault =
    by_kind (suits_at (kind_at takes.names (length given.names)) text) refl
  where
    here : SoFar
    here = standing takes next reading given

    goes : with_word (standing takes next reading given) text ≡ Some (standing takes (next + 1) after (with_name text given))
    goes =
        rw read (ap (λ n. Some (stood takes (next + 1) after n (given_options given))) (sym (name_more text given)))

    never : (b : Bool) → nat_lt (length given.names) 3 ≡ b
        → suits_at (kind_at takes.names (length given.names)) text ≡ false
        → asks word given reading (text ∷ rest) ≡ false
    never false full off =
        refused_asks word given reading after (Some (Name text)) text rest read (rw full refl)
    never true room off =
        let bad : Sound takes (with_name text given) → ⊥ = λ sound.
        let suits = (and_parts (names_begin takes.names given.names)
        (suits_at (kind_at takes.names (length given.names)) text)
        (sym (begin_more takes.names given.names text) ∙ sound.begin)).1 in
        cc (sym suits ∙ off) in
        taken_asks word given (with_name text given) reading after (Some (Name text)) text rest read (rw room refl)
        ∙ never_asks word takes rest (with_name text given) after is bad

    by_kind : (b : Bool) → suits_at (kind_at takes.names (length given.names)) text ≡ b
        → Agrees word takes (text ∷ rest) next reading given
    by_kind true suits =
        let within = place_within takes (length given.names) text (few_taken word takes is) suits in
        let room : nat_lt (length given.names) 3 ≡ true = lt-ltb (length given.names) 3 within in
        let taken : with_item given (Some (Name text)) ≡ Some (with_name text given) = rw room refl in
        goes_on word takes next reading after given (with_name text given) (Some (Name text)) text rest read taken
        (fault ∙ place_right (kind_at takes.names (length given.names)) next text suits) goes
        (later (next + 1) after (with_name text given) (sound_name takes text given sound suits)
        (awaits (with_name text given)))
    by_kind false off =
        let wrong = place_wrong (kind_at takes.names (length given.names)) next text off in
        stops word takes next reading given text rest wrong.0 (fault ∙ wrong.1)
        (never (nat_lt (length given.names) 3) refl off)

-- a value of an option that is the command's, and isn't given yet
valued_on : (word : List ℕ) (takes : Takes) (next : ℕ) (reading : Reading) (given : Arguments) (option : OptionName)
    (value text : List ℕ) (rest : List (List ℕ)) → takes_of word ≡ Some takes → Sound takes given
    → Later word takes rest → has takes.options option ≡ true → value_of option given ≡ None
    → word_read reading text ≡ Some (Some (Given option value), Options)
    → word_fault (standing takes next reading given) text ≡ value_fault (standing takes next reading given) option value
    → Agrees word takes (text ∷ rest) next reading given
valued_on word takes next reading given option value text rest is sound later own lacks read fault =
    by_number (is_value (values_of option) value) refl
  where
    goes : with_word (standing takes next reading given) text
        ≡ Some (standing takes (next + 1) Options (with_option option value given))
    goes =
        rw read (ap₂ (λ n o. Some (stood takes (next + 1) Options n o))
        (ap (length {A = List ℕ}) (sym (names_same option value given))) (sym (options_after option value given)))

    taken : with_item given (Some (Given option value)) ≡ Some (with_option option value given)
    taken = option_item option value given lacks

    by_number : (b : Bool) → is_value (values_of option) value ≡ b
        → Agrees word takes (text ∷ rest) next reading given
    by_number true number =
        let suit : suits takes option (Some value) ≡ true = rw (own, number) refl in
        goes_on word takes next reading Options given (with_option option value given) (Some (Given option value)) text
        rest read taken (fault ∙ rw number refl) goes
        (later (next + 1) Options (with_option option value given)
        (sound_value takes option value given sound suit) tt)
    by_number false number =
        let bad : Sound takes (with_option option value given) → ⊥ = λ sound.
        let suit = sound.suit option in
        let not_suit : suits takes option (value_of option (with_option option value given)) ≡ false =
        ap (suits takes option) (own_value option value given) ∙ rw (own, number) refl in
        cc (sym suit ∙ not_suit) in
        stops word takes next reading given text rest (none_of (values_of option) next) (fault ∙ rw number refl)
        (taken_asks word given (with_option option value given) reading Options (Some (Given option value)) text rest
        read taken ∙ never_asks word takes rest (with_option option value given) Options is bad)

-- an option that isn't the command's, or is given before
abbrev IsOff : Takes → Arguments → OptionName → Type 0
IsOff takes given option = (has takes.options option ≡ false) ⊎ (is_some (value_of option given) ≡ true)

-- the value of such an option gives no command
off_value : (word : List ℕ) (takes : Takes) (reading after : Reading) (given : Arguments) (option : OptionName)
    (value text : List ℕ) (rest : List (List ℕ)) → takes_of word ≡ Some takes → IsOff takes given option
    → word_read reading text ≡ Some (Some (Given option value), after)
    → asks word given reading (text ∷ rest) ≡ false
off_value word takes reading after given option value text rest is off read =
    by_value (value_of option given) refl off
  where
    by_value : (o : Option (List ℕ)) → value_of option given ≡ o → IsOff takes given option
        → asks word given reading (text ∷ rest) ≡ false
    by_value (Some x) there off =
        refused_asks word given reading after (Some (Given option value)) text rest read
        (option_twice option value x given there)
    by_value None lacks (inr there) = absurd (cc (sym there ∙ ap (is_some {T = List ℕ}) lacks))
    by_value None lacks (inl other) =
        let bad : Sound takes (with_option option value given) → ⊥ = λ sound.
        let suit = sound.suit option in
        let not_suit : suits takes option (value_of option (with_option option value given)) ≡ false =
        ap (suits takes option) (own_value option value given) ∙ rw other refl in
        cc (sym suit ∙ not_suit) in
        taken_asks word given (with_option option value given) reading after (Some (Given option value)) text rest read
        (option_item option value given lacks)
        ∙ never_asks word takes rest (with_option option value given) after is bad

-- nor does its word
off_option : (word : List ℕ) (takes : Takes) (given : Arguments) (option : OptionName) (words : List (List ℕ))
    → takes_of word ≡ Some takes → IsOff takes given option → asks word given (Value option) words ≡ false
off_option word takes given option [] is off = refl
off_option word takes given option (text ∷ rest) is off = by_dash (begins_with_dash text) refl
  where
    by_dash : (b : Bool) → begins_with_dash text ≡ b → asks word given (Value option) (text ∷ rest) ≡ false
    by_dash true dash = unread_asks word given (Value option) text rest (rw dash refl)
    by_dash false dash =
        off_value word takes (Value option) Options given option text text rest is off (rw dash refl)

-- a word that is read as an option
option_on : (word : List ℕ) (takes : Takes) (next : ℕ) (given : Arguments) (text : List ℕ) (rest : List (List ℕ))
    → takes_of word ≡ Some takes → Sound takes given → Later word takes rest
    → word_read Options text ≡ option_read (option_named (before_first is_equals text)) (behind_equals text)
    → word_fault (standing takes next Options given) text ≡ option_word_fault (standing takes next Options given) text
    → Agrees word takes (text ∷ rest) next Options given
option_on word takes next given text rest is sound later read fault =
    by_option (option_named (before_first is_equals text)) (behind_equals text) refl refl
  where
    refused : (option : OptionName) (v : Option (List ℕ)) → word_read Options text ≡ option_read (Some option) v
        → IsOff takes given option → asks word given Options (text ∷ rest) ≡ false
    refused option None read off =
        taken_asks word given given Options (Value option) None text rest read refl
        ∙ off_option word takes given option rest is off
    refused option (Some value) read off =
        off_value word takes Options Options given option value text rest is off read

    own_on : (option : OptionName) (v : Option (List ℕ)) → word_read Options text ≡ option_read (Some option) v
        → word_fault (standing takes next Options given) text ≡ joined_fault (standing takes next Options given) (Some option) v
        → has takes.options option ≡ true → value_of option given ≡ None
        → Agrees word takes (text ∷ rest) next Options given
    own_on option None read fault own lacks =
        goes_on word takes next Options (Value option) given given None text rest read refl fault (rw read refl)
        (later (next + 1) (Value option) given sound (own, lacks))
    own_on option (Some value) read fault own lacks =
        valued_on word takes next Options given option value text rest is sound later own lacks read fault

    by_own : (option : OptionName) (v : Option (List ℕ)) → option_named (before_first is_equals text) ≡ Some option
        → behind_equals text ≡ v → (b : Bool) (o : Option (List ℕ)) → has takes.options option ≡ b
        → value_of option given ≡ o → Agrees word takes (text ∷ rest) next Options given
    by_own option v named behind false o own value =
        stops word takes next Options given text rest (NotTaken next) (fault ∙ rw (named, own) refl)
        (refused option v (read ∙ rw (named, behind) refl) (inl own))
    by_own option v named behind true (Some x) own value =
        let given_before : is_some (value_of option given) ≡ true = rw value refl in
        let has_it : has (given_options given) option ≡ true = has_given option given ∙ given_before in
        stops word takes next Options given text rest (Twice next) (fault ∙ rw (named, own, has_it) refl)
        (refused option v (read ∙ rw (named, behind) refl) (inr given_before))
    by_own option v named behind true None own value =
        let lacks_it : has (given_options given) option ≡ false = has_given option given ∙ rw value refl in
        own_on option v (read ∙ rw (named, behind) refl) (fault ∙ rw (named, behind, own, lacks_it) refl) own value

    by_option : (o : Option OptionName) (v : Option (List ℕ)) → option_named (before_first is_equals text) ≡ o
        → behind_equals text ≡ v → Agrees word takes (text ∷ rest) next Options given
    by_option None v named behind =
        stops word takes next Options given text rest (UnknownOption next) (fault ∙ rw named refl)
        (unread_asks word given Options text rest (read ∙ rw named refl))
    by_option (Some option) v named behind =
        by_own option v named behind (has takes.options option) (value_of option given) refl refl

-- a word that is read as the value of the option before it
dash_on : (word : List ℕ) (takes : Takes) (next : ℕ) (given : Arguments) (option : OptionName) (text : List ℕ)
    (rest : List (List ℕ)) → takes_of word ≡ Some takes → Sound takes given → Awaits takes given (Value option)
    → Later word takes rest → Agrees word takes (text ∷ rest) next (Value option) given
dash_on word takes next given option text rest is sound awaits later = by_dash (begins_with_dash text) refl
  where
    by_dash : (b : Bool) → begins_with_dash text ≡ b → Agrees word takes (text ∷ rest) next (Value option) given
    by_dash true dash =
        stops word takes next (Value option) given text rest (NoValue (next - 1)) (rw dash refl)
        (unread_asks word given (Value option) text rest (rw dash refl))
    by_dash false dash =
        valued_on word takes next (Value option) given option text text rest is sound later awaits.0 awaits.1
        (rw dash refl) (rw dash refl)

-- a word before `--`
any_on : (word : List ℕ) (takes : Takes) (next : ℕ) (given : Arguments) (text : List ℕ) (rest : List (List ℕ))
    → takes_of word ≡ Some takes → Sound takes given → Later word takes rest
    → Agrees word takes (text ∷ rest) next Options given
any_on word takes next given text rest is sound later = by_kind (bytes_eq text (codes "--")) (is_option text) refl refl
  where
    by_kind : (ends dashed : Bool) → bytes_eq text (codes "--") ≡ ends → is_option text ≡ dashed
        → Agrees word takes (text ∷ rest) next Options given
    by_kind true dashed ends at =
        goes_on word takes next Options Names given given None text rest (rw ends refl) refl (rw ends refl)
        (rw ends refl) (later (next + 1) Names given sound tt)
    by_kind false true ends at =
        option_on word takes next given text rest is sound later (rw (ends, at) refl) (rw (ends, at) refl)
    by_kind false false ends at =
        named_on word takes next Options Options given text rest is sound (λ more. tt) later (rw (ends, at) refl)
        (rw (ends, at) refl)

-- where no words follow
no_name_missing : (o : Option NameKind) → is_none (option_map missing o) ≡ is_none o
no_name_missing None = refl
no_name_missing (Some kind) = refl

-- a name is missing exactly where sound arguments are no command yet
ended : (word : List ℕ) (takes : Takes) (given : Arguments) (next : ℕ) (reading : Reading) → takes_of word ≡ Some takes
    → Sound takes given
    → is_none (name_missing (standing takes next reading given)) ≡ is_some (asked_by word given)
ended word takes given next reading is sound =
    no_name_missing (kind_at takes.names (length given.names)) ∙ sym (sound_fits takes given sound)
    ∙ sym (asked_fits word takes given is)

-- behind sound arguments nothing is wrong with the words exactly where they give a command
agree : (word : List ℕ) (takes : Takes) (words : List (List ℕ)) (next : ℕ) (reading : Reading) (given : Arguments)
    → takes_of word ≡ Some takes → Sound takes given → Awaits takes given reading
    → Agrees word takes words next reading given
agree word takes [] next Options given is sound awaits = ended word takes given next Options is sound
agree word takes [] next (Value option) given is sound awaits = refl
agree word takes [] next Names given is sound awaits = ended word takes given next Names is sound
agree word takes (text ∷ rest) next Names given is sound awaits =
    named_on word takes next Names Names given text rest is sound (λ more. tt) (λ n r g. agree word takes rest n r g is)
    refl refl
agree word takes (text ∷ rest) next (Value option) given is sound awaits =
    dash_on word takes next given option text rest is sound awaits (λ n r g. agree word takes rest n r g is)
agree word takes (text ∷ rest) next Options given is sound awaits =
    any_on word takes next given text rest is sound (λ n r g. agree word takes rest n r g is)

-- no argument is given yet, which is sound
nothing_sound : (takes : Takes) → Sound takes no_arguments
nothing_sound takes = record { begin = refl; suit = λ option. refl }

-- nothing is wrong behind the first word exactly where they name a command
behind_command : (word : List ℕ) (rest : List (List ℕ)) (o : Option Takes) → takes_of word ≡ o
    → is_none (fault_behind o rest) ≡ is_some (command_of (word ∷ rest))
unfolding command_of
behind_command word rest None is =
    ap (is_some {T = Command}) (sym (none_after (arguments_of rest) (asked_by word) (λ given. none_asked word given is)))
behind_command word rest (Some takes) is =
    agree word takes rest 2 Options no_arguments is (nothing_sound takes) tt
    ∙ ap (λ (o : Option Arguments). is_some (o >>= asked_by word)) (arguments_gathered rest)

-- so for all words
agreed : (words : List (List ℕ)) → is_none (words_fault words) ≡ is_some (command_of words)
unfolding command_of words_fault
agreed [] = refl
agreed (word ∷ rest) = behind_command word rest (takes_of word) refl

-- nothing is wrong with words exactly where they name a command
pub fault_or_command : (words : List (List ℕ)) → (words_fault words ≡ None) ↔ IsSome (command_of words)
fault_or_command words = by_parts (words_fault words) (command_of words) (agreed words)
  where
    by_parts : (fault : Option WordsFault) (command : Option Command) → is_none fault ≡ is_some command
        → (fault ≡ None) ↔ IsSome command
    by_parts None None is = absurd (cc is)
    by_parts None (Some command) is = (λ none. refl, λ some. refl)
    by_parts (Some fault) None is = (λ none. absurd (cc none), λ some. absurd (cc some))
    by_parts (Some fault) (Some command) is = absurd (cc is)

-- and words with which something is wrong name none
pub wrong_is_none : (words : List (List ℕ)) (fault : WordsFault) → words_fault words ≡ Some fault
    → command_of words ≡ None
wrong_is_none words fault is =
    by_command (command_of words) (sym (agreed words) ∙ ap (λ (o : Option WordsFault). is_none o) is)
  where
    by_command : (o : Option Command) → is_some o ≡ false → o ≡ None
    by_command None none = refl
    by_command (Some command) none = absurd (cc none)
