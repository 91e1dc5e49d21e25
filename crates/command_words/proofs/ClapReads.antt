-- What `clap` finds asks each command for what the grammar asks it for: the two differ at a value that is `-`
-- alone, which is no number of any option.
use Rattle.std.proofs.Common.{◌≡◌, ◌∙◌, ◌⊎◌, inl, inr, ◌≤◌, Bool, cond, true, false, List, [], ◌∷◌, ◌++◌}
use Rattle.std.proofs.Common.{length, Option, Some, None, refl, sym, ap, subst, codes, arith, String}
use Rattle.std.specs.Prelude.{◌&&◌, nat_lt, slice_get}
use Rattle.std.specs.declared.alloc.Global.{Global}
use Rattle.std.proofs.lemmas.Str.{IsUtf8-string_bytes}
use Rattle.step_log.specs.Script.{◌>>=◌}
use Rattle.clap.specs.Walk.{Row, Text, first_of}
use Rattle.clap.specs.Simple.{matches_of}
use Rattle.clap.specs.Faults.{fault_of}
use Rattle.command_words.specs.Grammar.{Arguments, Item, Name, Given, asked_by, begins_with_dash, is_option, suits}
use Rattle.command_words.specs.Line.{AsksAlike, arguments_found, line, names_found}
use Rattle.command_words.specs.Options.{OptionName, is_value, long_name, same_option}
use Rattle.command_words.specs.Options.{values_of}
use Rattle.command_words.specs.Takes.{has, takes_kind}
use Rattle.command_words.specs.Words.{Reading, Options, Value, Names, texts, word_read}
use Rattle.command_words.proofs.EachOption.{none_passes, same_is, same_self}
use Rattle.command_words.proofs.Parts.{no_arguments, with_item, with_option}
use Rattle.command_words.proofs.Gathering.{arguments_gathered, with_words}
use Rattle.command_words.proofs.Gathering.{word_refused, word_taken, word_unread}
use Rattle.command_words.proofs.ClapRows.{first_held}
use Rattle.command_words.proofs.ClapWords.{by_form}
use Rattle.command_words.proofs.ClapTurns.{AreLetters, Ends, Fits, and_false, value_of}
use Rattle.command_words.proofs.ClapWalk.{loose, loosely, read_on}
use Rattle.command_words.proofs.ClapGoes.{long_word_is, option_item, option_twice}
use Rattle.command_words.proofs.ClapLine.{fault_is, matches_are, start, whole}
use Rattle.command_words.proofs.Suits.{unsuited}

-- ---- no command takes a value that is `-`

abbrev pub dash : Text
dash = 45 ∷ []

none_takes : (o : OptionName) → is_value (values_of o) dash ≡ false
none_takes o = none_passes (λ o. is_value (values_of o) dash) refl o

-- ---- such a value stays

pub stays_apart : (o other : OptionName) (v : Text) (given : Arguments)
    → (o ≡ other) ⊎ (value_of o (with_option other v given) ≡ value_of o given)
stays_apart o other v given = go (same_option other o) refl
  where
    go : (b : Bool) → same_option other o ≡ b
        → (o ≡ other) ⊎ (value_of o (with_option other v given) ≡ value_of o given)
    go true same = inl (sym (same_is other o same))
    go false apart = inr (rw apart refl)

pub same_value : (o : OptionName) (names : List Text) (given : Arguments)
    → value_of o (record given { names = names }) ≡ value_of o given
same_value o names given = refl

name_stays : (o : OptionName) (text : Text) (given next : Arguments) (b : Bool)
    → cond b (Some (record given { names = given.names ++ text ∷ [] })) None ≡ Some next
    → value_of o next ≡ value_of o given
name_stays o text given next true is =
    let same : record given { names = given.names ++ text ∷ [] } ≡ next = cc is in
    ap (value_of o) (sym same) ∙ same_value o (given.names ++ text ∷ []) given
name_stays o text given next false is = absurd (cc is)

value_stays : (o other : OptionName) (x text : Text) (given next : Arguments) (value : Option Text)
    → value_of other given ≡ value → value_of o given ≡ Some x → with_item given (Some (Given other text)) ≡ Some next
    → value_of o next ≡ value_of o given
value_stays o other x text given next (Some y) has there is =
    absurd (cc (sym (option_twice other text y given has) ∙ is))
value_stays o other x text given next None has there is =
    let same : with_option other text given ≡ next = cc (sym (option_item other text given has) ∙ is) in
    ap (value_of o) (sym same) ∙ go (stays_apart o other text given)
  where
    go : (o ≡ other) ⊎ (value_of o (with_option other text given) ≡ value_of o given)
        → value_of o (with_option other text given) ≡ value_of o given
    go (inl equal) =
        let lacks : value_of o given ≡ None = ap (λ (n : OptionName). value_of n given) equal ∙ has in
        absurd (cc (sym there ∙ lacks))
    go (inr apart) = apart

pub item_stays : (o : OptionName) (x : Text) (item : Option Item) (given next : Arguments) → value_of o given ≡ Some x
    → with_item given item ≡ Some next → value_of o next ≡ Some x
item_stays o x None given next there is =
    let same : given ≡ next = cc is in
    ap (value_of o) (sym same) ∙ there
item_stays o x (Some (Name text)) given next there is =
    name_stays o text given next (nat_lt (length given.names) 3) is ∙ there
item_stays o x (Some (Given other text)) given next there is =
    value_stays o other x text given next (value_of other given) refl there is ∙ there

-- a word that begins with `-` and may be a name is `-`
alone : (next : Text) → begins_with_dash next ≡ true → is_option next ≡ false → next ≡ dash
alone next =
    by_form (λ w. begins_with_dash w ≡ true → is_option w ≡ false → w ≡ dash)
    (λ begins name. absurd (cc begins)) (λ begins name. refl) (λ begins name. absurd (cc name))
    (λ z rest begins name. absurd (cc (sym (long_word_is 45 (z ∷ rest)) ∙ name)))
    (λ y rest e begins name. absurd (cc (sym (long_word_is y rest) ∙ name)))
    (λ x rest e f begins name.
    let other : begins_with_dash (x ∷ rest) ≡ false = rw f refl in
    absurd (cc (sym other ∙ begins)))
    next

given_dash : (o : OptionName) (given : Arguments) → value_of o (with_option o dash given) ≡ Some dash
given_dash o given = rw (same_self o) refl

-- ---- the loose reading and the grammar's ask for the same

-- whatever is asked of arguments, where nothing is asked of those with a value that is `-`
module _ {A : Type 0} (ask : Arguments → Option A)
    (asks_none : (o : OptionName) (given : Arguments) → value_of o given ≡ Some dash → ask given ≡ None) where
  asked_after : (o : OptionName) (given : Arguments) (rest : List Text)
      (read : Option (Option Item × Reading))
      → ((next : Arguments) (after : Reading) → value_of o next ≡ Some dash
      → (loose rest next after >>= ask) ≡ None)
      → value_of o given ≡ Some dash
      → ((read >>= read_on (loose rest) given) >>= ask) ≡ None
  asked_after o given rest None later there = refl
  asked_after o given rest (Some (item, after)) later there = go (with_item given item) refl
    where
      go : (added : Option Arguments) → with_item given item ≡ added
          → ((added >>= (λ next. loose rest next after)) >>= ask) ≡ None
      go None is = refl
      go (Some next) is = later next after (item_stays o dash item given next there is)

  none_later : (o : OptionName) (words : List Text) (given : Arguments) (reading : Reading)
      → value_of o given ≡ Some dash → (loose words given reading >>= ask) ≡ None
  none_later o [] given Options there = asks_none o given there
  none_later o [] given (Value other) there = refl
  none_later o [] given Names there = asks_none o given there
  none_later o (next ∷ rest) given reading there =
      asked_after o given rest (loosely reading next)
      (λ given reading there. none_later o rest given reading there) there

  abbrev Alike : List Text → Type 0
  Alike rest = (given : Arguments) (reading : Reading)
      → (loose rest given reading >>= ask) ≡ (with_words given reading rest >>= ask)

  alike_after : (next : Text) (rest : List Text) (given : Arguments) (reading : Reading)
      (read : Option (Option Item × Reading)) → word_read reading next ≡ read → Alike rest
      → ((read >>= read_on (loose rest) given) >>= ask)
      ≡ (with_words given reading (next ∷ rest) >>= ask)
  alike_after next rest given reading None is later =
      sym (ap (λ (o : Option Arguments). o >>= ask) (word_unread given reading next rest is))
  alike_after next rest given reading (Some (item, after)) is later = go (with_item given item) refl
    where
      go : (added : Option Arguments) → with_item given item ≡ added
          → ((added >>= (λ more. loose rest more after)) >>= ask)
          ≡ (with_words given reading (next ∷ rest) >>= ask)
      go None fits =
          sym (ap (λ (o : Option Arguments). o >>= ask) (word_refused given reading after item next rest
          is fits))
      go (Some more) fits = later more after
          ∙ sym (ap (λ (o : Option Arguments). o >>= ask) (word_taken given more reading after item next
          rest is fits))

  dash_asks_none : (o : OptionName) (rest : List Text) (given : Arguments) (value : Option Text)
      → value_of o given ≡ value
      → ((with_item given (Some (Given o dash)) >>= (λ more. loose rest more Options)) >>= ask) ≡ None
  dash_asks_none o rest given (Some x) has =
      ap (λ (e : Option Arguments). (e >>= (λ more. loose rest more Options)) >>= ask)
      (option_twice o dash x given has)
  dash_asks_none o rest given None has =
      ap (λ (e : Option Arguments). (e >>= (λ more. loose rest more Options)) >>= ask)
      (option_item o dash given has)
      ∙ none_later o rest (with_option o dash given) Options (given_dash o given)

  value_asks_none : (o : OptionName) (next : Text) (rest : List Text) (given : Arguments) (b : Bool)
      → is_option next ≡ b → begins_with_dash next ≡ true
      → ((cond b None (Some (Some (Given o next), Options)) >>= read_on (loose rest) given) >>= ask) ≡ None
  value_asks_none o next rest given true is begins = refl
  value_asks_none o next rest given false is begins =
      subst (λ (n : Text). ((with_item given (Some (Given o n)) >>= (λ more. loose rest more Options)) >>=
      ask) ≡ None)
      (sym (alone next begins is)) (dash_asks_none o rest given (value_of o given) refl)

  alike_value : (o : OptionName) (next : Text) (rest : List Text) (given : Arguments) (b : Bool)
      → begins_with_dash next ≡ b → Alike rest
      → (loose (next ∷ rest) given (Value o) >>= ask)
      ≡ (with_words given (Value o) (next ∷ rest) >>= ask)
  alike_value o next rest given true begins later =
      let unread : word_read (Value o) next ≡ None = rw begins refl in
      value_asks_none o next rest given (is_option next) refl begins
      ∙ sym (ap (λ (e : Option Arguments). e >>= ask) (word_unread given (Value o) next rest unread))
  alike_value o next rest given false begins later =
      let same : loosely (Value o) next ≡ word_read (Value o) next = rw
      (begins, and_false (nat_lt 1 (length next))) refl in
      ap (λ (r : Option (Option Item × Reading)). (r >>= read_on (loose rest) given) >>= ask) same
      ∙ alike_after next rest given (Value o) (word_read (Value o) next) refl later

  alike_on : (words : List Text) → Alike words
  alike_on [] given Options = refl
  alike_on [] given (Value o) = refl
  alike_on [] given Names = refl
  alike_on (next ∷ rest) given Options =
      alike_after next rest given Options (word_read Options next) refl (alike_on rest)
  alike_on (next ∷ rest) given Names =
      alike_after next rest given Names (word_read Names next) refl (alike_on rest)
  alike_on (next ∷ rest) given (Value o) =
      alike_value o next rest given (begins_with_dash next) refl (alike_on rest)

-- a command asks for nothing of such arguments
none_asked : (word : Text) (o : OptionName) (given : Arguments) → value_of o given ≡ Some dash
    → asked_by word given ≡ None
none_asked word o given is =
    unsuited word given o (λ kind. ap (suits (takes_kind kind) o) is
    ∙ ap (λ b. has (takes_kind kind).options o && b) (none_takes o) ∙ and_false (has (takes_kind kind).options o))

loose_asks : (words : List Text) → AsksAlike (loose words no_arguments Options) words
loose_asks words word =
    alike_on (asked_by word) (none_asked word) words no_arguments Options
    ∙ ap (λ (o : Option Arguments). o >>= asked_by word) (arguments_gathered words)

asks_as : (a b : Option Arguments) (words : List Text) → a ≡ b → AsksAlike b words → AsksAlike a words
asks_as a b words same alike word = ap (λ (o : Option Arguments). o >>= asked_by word) same ∙ alike word

-- ---- what `clap` found

names_back : (names : List Text) → length names ≤ 3
    → names_found (slice_get names 0) (slice_get names 1) (slice_get names 2) ≡ names
names_back [] few = refl
names_back (a ∷ []) few = refl
names_back (a ∷ b ∷ []) few = refl
names_back (a ∷ b ∷ c ∷ []) few = refl
names_back (a ∷ b ∷ c ∷ d ∷ more) few = absurd (omega arith)

read_back : (given : Arguments) (rows : List Row) → Fits given rows → arguments_found rows ≡ given
read_back given rows fits =
    let first = first_held (codes "first") rows (slice_get given.names 0) fits.first in
    let second = first_held (codes "second") rows (slice_get given.names 1) fits.second in
    let third = first_held (codes "third") rows (slice_get given.names 2) fits.third in
    let names : names_found (first_of (codes "first") rows) (first_of (codes "second") rows) (first_of (codes "third") rows)
    ≡ given.names =
    (λ i. names_found (first i) (second i) (third i)) ∙ names_back given.names fits.few in
    let value : (o : OptionName) → first_of (long_name o) rows ≡ given.values o =
    λ o. first_held (long_name o) rows (given.values o) (fits.options o) in
    λ i. record { names = names i; values = λ option. value option i }

by_ends : (words : List Text) (o : Option Arguments) → loose words no_arguments Options ≡ o → Ends start words o
    → (rows : List Row) → fault_of line words ≡ [] → rows ≡ matches_of line words
    → AsksAlike (Some (arguments_found rows)) words
by_ends words None is ends rows none are = absurd (ends (sym (fault_is words) ∙ none))
by_ends words (Some given) is ends rows none are =
    let fits = subst (λ (r : List Row). Fits given r) (sym (are ∙ matches_are words)) ends.1 in
    asks_as (Some (arguments_found rows)) (loose words no_arguments Options) words
    (ap Some (read_back given rows fits) ∙ sym is) (loose_asks words)

-- the words of a line are letters
letters : (words : List (String Global)) → AreLetters (texts words)
letters [] = tt
letters (word ∷ rest) = (IsUtf8-string_bytes word, letters rest)

-- where a parse ends well
pub found_asks : (words : List (String Global)) (rows : List Row) → fault_of line (texts words) ≡ []
    → rows ≡ matches_of line (texts words) → AsksAlike (Some (arguments_found rows)) (texts words)
found_asks words rows none are =
    by_ends (texts words) (loose (texts words) no_arguments Options) refl (whole (texts words) (letters words))
    rows none are

refused_by : (words : List Text) (o : Option Arguments) → loose words no_arguments Options ≡ o → Ends start words o
    → (fault_of line words ≡ [] → ⊥) → AsksAlike None words
refused_by words None is ends bad =
    asks_as None (loose words no_arguments Options) words (sym is) (loose_asks words)
refused_by words (Some given) is ends bad = absurd (bad (fault_is words ∙ ends.0))

-- where it is refused
pub none_asks : (words : List (String Global)) → (fault_of line (texts words) ≡ [] → ⊥) → AsksAlike None (texts words)
none_asks words bad =
    refused_by (texts words) (loose (texts words) no_arguments Options) refl (whole (texts words) (letters words)) bad
