-- What is wrong with the words of a command line (own). The words are read from the left, as `items` reads them,
-- and the first that is wrong, given those before it, gives the fault. Where none is wrong, a name may be
-- missing. Words are counted from 1.
use Rattle.std.specs.Prelude.{ℕ, ◌+◌, ◌-◌, ◌≤◌, List, [], ◌∷◌, Option, Some, None, if◌then◌else◌}
use Rattle.std.specs.Prelude.{not, codes, zero, suc}
use Rattle.std.specs.List.{before_first}
use Rattle.std.specs.Option.{IfSome, is_some, option_map, option_or}
use Rattle.std.specs.Str.{bytes_eq}
use Rattle.guest_names.specs.Guests.{name_of}
use Rattle.step_log.specs.Script.{◌>>=◌}
use Rattle.command_words.specs.declared.faults.WordsFault.{WordsFault}
use Rattle.command_words.specs.declared.faults.WordsFault.TheVariants.{NoCommand, UnknownCommand, UnknownOption}
use Rattle.command_words.specs.declared.faults.WordsFault.TheVariants.{NotTaken, Twice, NoValue, OutOfRange, UnknownPolicy}
use Rattle.command_words.specs.declared.faults.WordsFault.TheVariants.{NeitherTextNorEnd, NoSpans, NoEnd, NeitherYesNorNo, UnknownReduction, NeitherPromptNorAny}
use Rattle.command_words.specs.declared.faults.WordsFault.TheVariants.{OneNameTooMany, NoProgram, NoSecondProgram, NoScript}
use Rattle.command_words.specs.declared.faults.WordsFault.TheVariants.{UnknownGuest, NoNumber, NoGuest, NoSize}
use Rattle.command_words.specs.declared.takes.NameKind.{NameKind}
use Rattle.command_words.specs.declared.takes.NameKind.TheVariants.{Program, SecondProgram, Script, Guest, Size}
use Rattle.command_words.specs.Grammar.{Item, Name, Given, begins_with_dash, is_option}
use Rattle.command_words.specs.Options.{OptionName, Values, Numbers, PolicyNames, KeyNames, FileNames, MemorySpans, EndNames, YesOrNo, ReductionNames, PromptOrAny, is_value, number_of, option_named, values_of}
use Rattle.command_words.specs.Takes.{OptionSet, Takes, has, no_options, takes_of, with_option}
use Rattle.command_words.specs.Words.{Reading, Options, Value, Names, behind_equals, is_equals, word_read}

-- how far the words are read, none of them wrong: what the command takes, which word is the next and how it is
-- read, and what those before it give: how many names, and which options
pub record SoFar : Type 0 where
  pub takes : Takes
  pub next : ℕ
  pub reading : Reading
  pub names : ℕ
  pub options : OptionSet

-- the command's word is read
abbrev pub command_read : Takes → SoFar
command_read takes = record { takes = takes; next = 2; reading = Options; names = 0; options = no_options }

-- an option that some command has is this command's too, and isn't given before
abbrev pub option_fault : SoFar → Option OptionName → Option WordsFault
option_fault so_far None = Some (UnknownOption so_far.next)
option_fault so_far (Some option) =
    if not (has so_far.takes.options option) then Some (NotTaken so_far.next)
    else if has so_far.options option then Some (Twice so_far.next)
    else None

-- the fault where the value in this word is none of these
abbrev pub none_of : Values → ℕ → WordsFault
none_of (Numbers range) word = OutOfRange word range.least range.most
none_of PolicyNames word = UnknownPolicy word
none_of KeyNames word = NeitherTextNorEnd word
none_of FileNames word = NoValue word
none_of MemorySpans word = NoSpans word
none_of EndNames word = NoEnd word
none_of YesOrNo word = NeitherYesNorNo word
none_of ReductionNames word = UnknownReduction word
none_of PromptOrAny word = NeitherPromptNorAny word

-- a value is one of those that its option takes
abbrev pub value_fault : SoFar → OptionName → List ℕ → Option WordsFault
value_fault so_far option text =
    if is_value (values_of option) text then None else Some (none_of (values_of option) so_far.next)

-- the value that stands in its option's word; one in the next word is read there
abbrev pub joined_fault : SoFar → Option OptionName → Option (List ℕ) → Option WordsFault
joined_fault so_far (Some option) (Some text) = value_fault so_far option text
joined_fault so_far _ _ = None

-- what the name at a place is, counted from 0, where there is one
abbrev pub kind_at : List NameKind → ℕ → Option NameKind
kind_at [] place = None
kind_at (kind ∷ more) zero = Some kind
kind_at (kind ∷ more) (suc place) = kind_at more place

-- what is wrong with a name in this word: a guest's is one of theirs, and its size is a number
abbrev pub kind_fault : NameKind → ℕ → List ℕ → Option WordsFault
kind_fault Program word text = None
kind_fault SecondProgram word text = None
kind_fault Script word text = None
kind_fault Guest word text = if is_some (name_of text) then None else Some (UnknownGuest word)
kind_fault Size word text = if is_some (number_of text) then None else Some (NoNumber word)

-- a name is one of those that the command has
abbrev pub fault_at : Option NameKind → ℕ → List ℕ → Option WordsFault
fault_at None word text = Some (OneNameTooMany word)
fault_at (Some kind) word text = kind_fault kind word text

abbrev pub name_fault : SoFar → List ℕ → Option WordsFault
name_fault so_far text = fault_at (kind_at so_far.takes.names so_far.names) so_far.next text

-- what is wrong with an option's word: first its name, then its value
abbrev pub option_word_fault : SoFar → List ℕ → Option WordsFault
option_word_fault so_far word =
    let option = option_named (before_first is_equals word) in
    option_or (option_fault so_far option) (joined_fault so_far option (behind_equals word))

-- what is wrong with the next word, by how it is read
abbrev pub fault_read : SoFar → Reading → List ℕ → Option WordsFault
fault_read so_far Options word =
    if bytes_eq word (codes "--") then None
    else if is_option word then option_word_fault so_far word
    else name_fault so_far word
fault_read so_far (Value option) word =
    if begins_with_dash word then Some (NoValue (so_far.next - 1)) else value_fault so_far option word
fault_read so_far Names word = name_fault so_far word

abbrev pub word_fault : SoFar → List ℕ → Option WordsFault
word_fault so_far word = fault_read so_far so_far.reading word

-- an item more, if a word ends one
abbrev pub with_item : SoFar → Option Item → SoFar
with_item so_far None = so_far
with_item so_far (Some (Name text)) = record so_far { names = so_far.names + 1 }
with_item so_far (Some (Given option text)) = record so_far { options = with_option so_far.options option }

-- what a word is read as: the item that it ends, if it ends one, and how the next word is read
abbrev pub with_read : SoFar → Option Item × Reading → SoFar
with_read so_far read = record (with_item so_far read.0) { reading = read.1 }

abbrev pub one_further : SoFar → SoFar
one_further so_far = record so_far { next = so_far.next + 1 }

-- a word more, where it can be read
abbrev pub with_word : SoFar → List ℕ → Option SoFar
with_word so_far word = option_map (λ read. one_further (with_read so_far read)) (word_read so_far.reading word)

-- where no words follow, no option may want its value
abbrev pub value_missing : SoFar → Reading → Option WordsFault
value_missing so_far Options = None
value_missing so_far (Value option) = Some (NoValue (so_far.next - 1))
value_missing so_far Names = None

-- the fault where such a name is missing
abbrev pub missing : NameKind → WordsFault
missing Program = NoProgram
missing SecondProgram = NoSecondProgram
missing Script = NoScript
missing Guest = NoGuest
missing Size = NoSize

-- and all names are given
abbrev pub name_missing : SoFar → Option WordsFault
name_missing so_far = option_map missing (kind_at so_far.takes.names so_far.names)

abbrev pub end_fault : SoFar → Option WordsFault
end_fault so_far = option_or (value_missing so_far so_far.reading) (name_missing so_far)

-- what is wrong with the words that follow: the first that is wrong
abbrev pub fault_among : SoFar → List (List ℕ) → Option WordsFault
fault_among so_far [] = end_fault so_far
fault_among so_far (word ∷ rest) =
    option_or (word_fault so_far word) (with_word so_far word >>= (λ read. fault_among read rest))

abbrev pub fault_behind : Option Takes → List (List ℕ) → Option WordsFault
fault_behind None rest = Some UnknownCommand
fault_behind (Some takes) rest = fault_among (command_read takes) rest

abbrev pub fault_in : List (List ℕ) → Option WordsFault
fault_in [] = Some NoCommand
fault_in (word ∷ rest) = fault_behind (takes_of word) rest

-- what is wrong with the words, if anything is
unfoldable pub words_fault : List (List ℕ) → Option WordsFault
words_fault words = fault_in words

-- the word that is wrong, where one is
abbrev pub word_of : WordsFault → Option ℕ
word_of NoCommand = None
word_of UnknownCommand = Some 1
word_of (UnknownOption word) = Some word
word_of (NotTaken word) = Some word
word_of (Twice word) = Some word
word_of (NoValue word) = Some word
word_of (OutOfRange word least most) = Some word
word_of (UnknownPolicy word) = Some word
word_of (NeitherTextNorEnd word) = Some word
word_of (NoSpans word) = Some word
word_of (NoEnd word) = Some word
word_of (NeitherYesNorNo word) = Some word
word_of (UnknownReduction word) = Some word
word_of (NeitherPromptNorAny word) = Some word
word_of (OneNameTooMany word) = Some word
word_of (UnknownGuest word) = Some word
word_of (NoNumber word) = Some word
word_of NoProgram = None
word_of NoSecondProgram = None
word_of NoScript = None
word_of NoGuest = None
word_of NoSize = None

-- it is one of so many words
abbrev pub IsAmong : ℕ → WordsFault → Type 0
IsAmong count fault = IfSome (word_of fault) (λ word. (1 ≤ word) × (word ≤ count))
