-- What the words so far say of a fault, and what their arguments may yet ask for.
use Rattle.std.proofs.Common.{◌≡◌, ◌∙◌, ◌⊎◌, inl, inr, ℕ, ◌+◌, Bool, cond, true, false, List, [], ◌∷◌}
use Rattle.std.proofs.Common.{◌++◌, length, Option, Some, None, refl, sym, ap, subst, length-append}
use Rattle.std.specs.Prelude.{nat_lt}
use Rattle.std.proofs.lemmas.Bool.{and_parts}
use Rattle.std.specs.Option.{is_some}
use Rattle.step_log.specs.Script.{◌>>=◌}
use Rattle.command_words.specs.Grammar.{Arguments, Item, Name, Given, asked_by, suits}
use Rattle.command_words.specs.Options.{OptionName, Harts, Frames, Steps, Seed, Policy, Calm, After, RunCount, Until, By, Jobs, From, To, Memory, Expect, Places, Deep, Scripts, Without, Preemptions, OwnSignals}
use Rattle.command_words.specs.Takes.{OptionSet, Takes, has, takes_of}
use Rattle.command_words.specs.Takes.{with_option as with_one}
use Rattle.command_words.specs.WordFaults.{SoFar, kind_at}
use Rattle.command_words.specs.Words.{Reading, Options, Value, Names, word_read}
use Rattle.command_words.proofs.EachOption.{same_self}
use Rattle.command_words.proofs.Parts.{with_item, with_option}
use Rattle.command_words.proofs.Gathering.{with_words, word_refused, word_taken, word_unread}
use Rattle.command_words.proofs.ClapTurns.{value_of}
use Rattle.command_words.proofs.ClapGoes.{option_item, option_twice}
use Rattle.command_words.proofs.ClapReads.{item_stays, same_value, stays_apart}
use Rattle.command_words.proofs.Suits.{Sound, asked_fits, begin_more, fits, fitting_sound, names_begin}
use Rattle.command_words.proofs.Suits.{suits_at}

-- which options the arguments give
abbrev pub given_options : Arguments → OptionSet
given_options given = record {
  harts = is_some (given.values Harts);
  frames = is_some (given.values Frames);
  steps = is_some (given.values Steps);
  seed = is_some (given.values Seed);
  policy = is_some (given.values Policy);
  calm = is_some (given.values Calm);
  after = is_some (given.values After);
  run_count = is_some (given.values RunCount);
  until = is_some (given.values Until);
  by = is_some (given.values By);
  jobs = is_some (given.values Jobs);
  from = is_some (given.values From);
  to = is_some (given.values To);
  memory = is_some (given.values Memory);
  expect = is_some (given.values Expect);
  places = is_some (given.values Places);
  deep = is_some (given.values Deep);
  scripts = is_some (given.values Scripts);
  without = is_some (given.values Without);
  preemptions = is_some (given.values Preemptions);
  signals = is_some (given.values OwnSignals);
}

-- how far the words are read that give so many names and these options, or these arguments
abbrev pub stood : Takes → ℕ → Reading → ℕ → OptionSet → SoFar
stood takes next reading names options =
    record { takes = takes; next = next; reading = reading; names = names; options = options }

abbrev pub standing : Takes → ℕ → Reading → Arguments → SoFar
standing takes next reading given = stood takes next reading (length given.names) (given_options given)

-- an option is among those where it has a value
pub has_given : (option : OptionName) (given : Arguments)
    → has (given_options given) option ≡ is_some (value_of option given)
has_given Harts given = refl
has_given Frames given = refl
has_given Steps given = refl
has_given Seed given = refl
has_given Policy given = refl
has_given Calm given = refl
has_given After given = refl
has_given RunCount given = refl
has_given Until given = refl
has_given By given = refl
has_given Jobs given = refl
has_given From given = refl
has_given To given = refl
has_given Memory given = refl
has_given Expect given = refl
has_given Places given = refl
has_given Deep given = refl
has_given Scripts given = refl
has_given Without given = refl
has_given Preemptions given = refl
has_given OwnSignals given = refl

-- with a value more the names stay
pub names_same : (option : OptionName) (text : List ℕ) (given : Arguments)
    → (with_option option text given).names ≡ given.names
names_same option text given = refl

-- its option is given then, too
pub options_after : (option : OptionName) (text : List ℕ) (given : Arguments)
    → given_options (with_option option text given) ≡ with_one (given_options given) option
options_after Harts text given = refl
options_after Frames text given = refl
options_after Steps text given = refl
options_after Seed text given = refl
options_after Policy text given = refl
options_after Calm text given = refl
options_after After text given = refl
options_after RunCount text given = refl
options_after Until text given = refl
options_after By text given = refl
options_after Jobs text given = refl
options_after From text given = refl
options_after To text given = refl
options_after Memory text given = refl
options_after Expect text given = refl
options_after Places text given = refl
options_after Deep text given = refl
options_after Scripts text given = refl
options_after Without text given = refl
options_after Preemptions text given = refl
options_after OwnSignals text given = refl

-- with this value
pub own_value : (option : OptionName) (text : List ℕ) (given : Arguments)
    → value_of option (with_option option text given) ≡ Some text
own_value option text given = rw (same_self option) refl

abbrev pub with_name : List ℕ → Arguments → Arguments
with_name text given = record given { names = given.names ++ text ∷ [] }

-- with a name more there is one more
pub name_more : (text : List ℕ) (given : Arguments) → length (with_name text given).names ≡ length given.names + 1
name_more text given = length-append given.names (text ∷ [])

-- arguments stay sound with a value that suits, and with a name that isn't one too many
pub sound_value : (takes : Takes) (option : OptionName) (text : List ℕ) (given : Arguments) → Sound takes given
    → suits takes option (Some text) ≡ true → Sound takes (with_option option text given)
sound_value takes option text given sound fine = record {
  begin = ap (names_begin takes.names) (names_same option text given) ∙ sound.begin;
  suit = λ other. by_same other (stays_apart other option text given);
}
  where
    by_same : (other : OptionName)
        → (other ≡ option) ⊎ (value_of other (with_option option text given) ≡ value_of other given)
        → suits takes other (value_of other (with_option option text given)) ≡ true
    by_same other (inr apart) = ap (suits takes other) apart ∙ sound.suit other
    by_same other (inl same) =
        subst (λ (o : OptionName). suits takes o (value_of o (with_option option text given)) ≡ true) (sym same)
        (ap (suits takes option) (own_value option text given) ∙ fine)

pub sound_name : (takes : Takes) (text : List ℕ) (given : Arguments) → Sound takes given
    → suits_at (kind_at takes.names (length given.names)) text ≡ true → Sound takes (with_name text given)
sound_name takes text given sound fine = record {
  begin = begin_more takes.names given.names text ∙ rw (sound.begin, fine) refl;
  suit = λ option. ap (suits takes option) (same_value option (given.names ++ text ∷ []) given) ∙ sound.suit option;
}

-- where names with an item more are of their kinds, those before it are
names_before : (takes : Takes) (item : Option Item) (given next : Arguments) → with_item given item ≡ Some next
    → names_begin takes.names next.names ≡ true → names_begin takes.names given.names ≡ true
names_before takes None given next is fine =
    let same : given ≡ next = cc is in ap (λ (g : Arguments). names_begin takes.names g.names) same ∙ fine
names_before takes (Some (Name text)) given next is fine = by_room (nat_lt (length given.names) 3) is
  where
    by_room : (b : Bool) → cond b (Some (with_name text given)) None ≡ Some next
        → names_begin takes.names given.names ≡ true
    by_room true is =
        let same : with_name text given ≡ next = cc is in
        (and_parts (names_begin takes.names given.names) (suits_at (kind_at takes.names (length given.names)) text)
        (sym (begin_more takes.names given.names text)
        ∙ ap (λ (g : Arguments). names_begin takes.names g.names) same ∙ fine)).0
    by_room false is = absurd (cc is)
names_before takes (Some (Given option text)) given next is fine = by_value (value_of option given) refl
  where
    by_value : (o : Option (List ℕ)) → value_of option given ≡ o → names_begin takes.names given.names ≡ true
    by_value (Some x) there = absurd (cc (sym (option_twice option text x given there) ∙ is))
    by_value None lacks =
        let same : with_option option text given ≡ next = cc (sym (option_item option text given lacks) ∙ is) in
        ap (names_begin takes.names) (sym (names_same option text given))
        ∙ ap (λ (g : Arguments). names_begin takes.names g.names) same ∙ fine

-- what becomes sound was sound
pub sound_before : (takes : Takes) (item : Option Item) (given next : Arguments) → with_item given item ≡ Some next
    → Sound takes next → Sound takes given
sound_before takes item given next is sound = record {
  begin = names_before takes item given next is sound.begin;
  suit = λ option. by_value option (value_of option given) refl;
}
  where
    by_value : (option : OptionName) (value : Option (List ℕ)) → value_of option given ≡ value
        → suits takes option (value_of option given) ≡ true
    by_value option None lacks = ap (suits takes option) lacks
    by_value option (Some x) there =
        ap (suits takes option) (there ∙ sym (item_stays option x item given next there is)) ∙ sound.suit option

-- whether the words, with these arguments before them, give a command's word a command
abbrev pub asks : List ℕ → Arguments → Reading → List (List ℕ) → Bool
asks word given reading words = is_some (with_words given reading words >>= asked_by word)

-- a word that can't stand there, one whose item is refused, and one that is read
pub unread_asks : (word : List ℕ) (given : Arguments) (reading : Reading) (next : List ℕ) (rest : List (List ℕ))
    → word_read reading next ≡ None → asks word given reading (next ∷ rest) ≡ false
unread_asks word given reading next rest is =
    ap (λ (o : Option Arguments). is_some (o >>= asked_by word)) (word_unread given reading next rest is)

pub refused_asks : (word : List ℕ) (given : Arguments) (reading after : Reading) (item : Option Item) (next : List ℕ)
    (rest : List (List ℕ)) → word_read reading next ≡ Some (item, after) → with_item given item ≡ None
    → asks word given reading (next ∷ rest) ≡ false
refused_asks word given reading after item next rest is refused =
    ap (λ (o : Option Arguments). is_some (o >>= asked_by word))
    (word_refused given reading after item next rest is refused)

pub taken_asks : (word : List ℕ) (given more : Arguments) (reading after : Reading) (item : Option Item)
    (next : List ℕ) (rest : List (List ℕ)) → word_read reading next ≡ Some (item, after)
    → with_item given item ≡ Some more
    → asks word given reading (next ∷ rest) ≡ asks word more after rest
taken_asks word given more reading after item next rest is taken =
    ap (λ (o : Option Arguments). is_some (o >>= asked_by word))
    (word_taken given more reading after item next rest is taken)

-- arguments that aren't sound give no command
ended_asks : (word : List ℕ) (takes : Takes) (given : Arguments) → takes_of word ≡ Some takes
    → (Sound takes given → ⊥) → is_some (asked_by word given) ≡ false
ended_asks word takes given is bad = asked_fits word takes given is ∙ by_test (fits takes given) refl
  where
    by_test : (b : Bool) → fits takes given ≡ b → b ≡ false
    by_test true fitting = absurd (bad (fitting_sound takes given fitting))
    by_test false fitting = refl

-- whatever follows
pub never_asks : (word : List ℕ) (takes : Takes) (words : List (List ℕ)) (given : Arguments) (reading : Reading)
    → takes_of word ≡ Some takes → (Sound takes given → ⊥) → asks word given reading words ≡ false
never_asks word takes [] given Options is bad = ended_asks word takes given is bad
never_asks word takes [] given (Value option) is bad = refl
never_asks word takes [] given Names is bad = ended_asks word takes given is bad
never_asks word takes (next ∷ rest) given reading is bad =
    by_read (λ more after worse. never_asks word takes rest more after is worse) (word_read reading next) refl
  where
    by_item : ((more : Arguments) (after : Reading) → (Sound takes more → ⊥) → asks word more after rest ≡ false)
        → (item : Option Item) (after : Reading) → word_read reading next ≡ Some (item, after)
        → (o : Option Arguments) → with_item given item ≡ o → asks word given reading (next ∷ rest) ≡ false
    by_item later item after read None at = refused_asks word given reading after item next rest read at
    by_item later item after read (Some more) at =
        taken_asks word given more reading after item next rest read at
        ∙ later more after (λ sound. bad (sound_before takes item given more at sound))

    by_read : ((more : Arguments) (after : Reading) → (Sound takes more → ⊥) → asks word more after rest ≡ false)
        → (o : Option (Option Item × Reading)) → word_read reading next ≡ o
        → asks word given reading (next ∷ rest) ≡ false
    by_read later None at = unread_asks word given reading next rest at
    by_read later (Some (item, after)) at = by_item later item after at (with_item given item) refl
