-- A word that is wrong is one of the words.
use Rattle.std.proofs.Common.{◌≡◌, ℕ, ◌+◌, ◌-◌, ◌≤◌, Bool, cond, true, false, List, [], ◌∷◌, length}
use Rattle.std.proofs.Common.{Option, Some, None, refl, arith, codes}
use Rattle.std.specs.Prelude.{not}
use Rattle.std.specs.List.{before_first}
use Rattle.std.specs.Option.{IfSome, is_some, option_map, option_or}
use Rattle.std.specs.Str.{bytes_eq}
use Rattle.guest_names.specs.Guests.{name_of}
use Rattle.step_log.specs.Script.{◌>>=◌}
use Rattle.command_words.specs.declared.faults.WordsFault.{WordsFault}
use Rattle.command_words.specs.declared.faults.WordsFault.TheVariants.{NoNumber, NotTaken, NoValue, Twice}
use Rattle.command_words.specs.declared.faults.WordsFault.TheVariants.{UnknownGuest}
use Rattle.command_words.specs.declared.takes.NameKind.{NameKind}
use Rattle.command_words.specs.declared.takes.NameKind.TheVariants.{Program, SecondProgram, Script, Guest, Size}
use Rattle.command_words.specs.Grammar.{Item, Name, Given, begins_with_dash, is_option}
use Rattle.command_words.specs.Options.{OptionName, Values, Numbers, PolicyNames, KeyNames, FileNames, MemorySpans, EndNames, YesOrNo, ReductionNames, PromptOrAny, is_value, number_of, option_named, values_of}
use Rattle.command_words.specs.Takes.{Takes, has, takes_of}
use Rattle.command_words.specs.WordFaults.{fault_at, kind_at, kind_fault, missing}
use Rattle.command_words.specs.WordFaults.{IsAmong, SoFar, command_read, end_fault, fault_among, fault_behind, fault_read, joined_fault}
use Rattle.command_words.specs.WordFaults.{name_fault, name_missing, one_further, option_fault, option_word_fault, none_of}
use Rattle.command_words.specs.WordFaults.{value_fault, value_missing, with_item, with_read, word_of, words_fault}
use Rattle.command_words.specs.Words.{Reading, Options, Value, Names, behind_equals, is_equals, word_read}

-- the fault, if there is one, is in a word from the one before the next up to this
abbrev IsNear : ℕ → ℕ → Option WordsFault → Type 0
IsNear next most fault = IfSome fault (λ f. IfSome (word_of f) (λ word. (next ≤ word + 1) × (word ≤ most)))

-- a value, a name, and an option's name that are wrong are so in the next word
near_value : (so_far : SoFar) (option : OptionName) (text : List ℕ)
    → IsNear so_far.next so_far.next (value_fault so_far option text)
near_value so_far option text = by_test (is_value (values_of option) text)
  where
    none_near : (values : Values) → IsNear so_far.next so_far.next (Some (none_of values so_far.next))
    none_near (Numbers range) = (omega arith, omega arith)
    none_near PolicyNames = (omega arith, omega arith)
    none_near KeyNames = (omega arith, omega arith)
    none_near FileNames = (omega arith, omega arith)
    none_near MemorySpans = (omega arith, omega arith)
    none_near EndNames = (omega arith, omega arith)
    none_near YesOrNo = (omega arith, omega arith)
    none_near ReductionNames = (omega arith, omega arith)
    none_near PromptOrAny = (omega arith, omega arith)

    by_test : (b : Bool) → IsNear so_far.next so_far.next (cond b None (Some (none_of (values_of option) so_far.next)))
    by_test true = tt
    by_test false = none_near (values_of option)

near_kind : (kind : NameKind) (word : ℕ) (text : List ℕ) → IsNear word word (kind_fault kind word text)
near_kind Program word text = tt
near_kind SecondProgram word text = tt
near_kind Script word text = tt
near_kind Guest word text = by_name (is_some (name_of text))
  where
    by_name : (b : Bool) → IsNear word word (cond b None (Some (UnknownGuest word)))
    by_name true = tt
    by_name false = (omega arith, omega arith)
near_kind Size word text = by_number (is_some (number_of text))
  where
    by_number : (b : Bool) → IsNear word word (cond b None (Some (NoNumber word)))
    by_number true = tt
    by_number false = (omega arith, omega arith)

near_name : (so_far : SoFar) (text : List ℕ) → IsNear so_far.next so_far.next (name_fault so_far text)
near_name so_far text = by_kind (kind_at so_far.takes.names so_far.names)
  where
    by_kind : (o : Option NameKind) → IsNear so_far.next so_far.next (fault_at o so_far.next text)
    by_kind None = (omega arith, omega arith)
    by_kind (Some kind) = near_kind kind so_far.next text

-- the first of two faults
near_either : (next most : ℕ) (a b : Option WordsFault) → IsNear next most a → IsNear next most b
    → IsNear next most (option_or a b)
near_either next most None b first second = second
near_either next most (Some fault) b first second = first

near_option : (so_far : SoFar) (o : Option OptionName) → IsNear so_far.next so_far.next (option_fault so_far o)
near_option so_far None = (omega arith, omega arith)
near_option so_far (Some option) = by_own (has so_far.takes.options option) (has so_far.options option)
  where
    by_own : (own given : Bool)
        → IsNear so_far.next so_far.next
        (cond (not own) (Some (NotTaken so_far.next)) (cond given (Some (Twice so_far.next)) None))
    by_own false given = (omega arith, omega arith)
    by_own true true = (omega arith, omega arith)
    by_own true false = tt

-- a value in its option's word
near_joined : (so_far : SoFar) (o : Option OptionName) (value : Option (List ℕ))
    → IsNear so_far.next so_far.next (joined_fault so_far o value)
near_joined so_far None value = tt
near_joined so_far (Some option) None = tt
near_joined so_far (Some option) (Some text) = near_value so_far option text

-- the next word, or the option's before it that lacks its value
near_word : (so_far : SoFar) (reading : Reading) (word : List ℕ)
    → IsNear so_far.next so_far.next (fault_read so_far reading word)
near_word so_far Names word = near_name so_far word
near_word so_far (Value option) word = by_dash (begins_with_dash word)
  where
    by_dash : (b : Bool)
        → IsNear so_far.next so_far.next (cond b (Some (NoValue (so_far.next - 1))) (value_fault so_far option word))
    by_dash true = (omega arith, omega arith)
    by_dash false = near_value so_far option word
near_word so_far Options word = by_kind (bytes_eq word (codes "--")) (is_option word)
  where
    by_kind : (ends dashed : Bool)
        → IsNear so_far.next so_far.next
        (cond ends None (cond dashed (option_word_fault so_far word) (name_fault so_far word)))
    by_kind true dashed = tt
    by_kind false true =
        let option = option_named (before_first is_equals word) in
        near_either so_far.next so_far.next (option_fault so_far option)
        (joined_fault so_far option (behind_equals word)) (near_option so_far option)
        (near_joined so_far option (behind_equals word))
    by_kind false false = near_name so_far word

-- where no words follow, the last one
near_end : (so_far : SoFar) → 1 ≤ so_far.next → IsNear so_far.next (so_far.next - 1) (end_fault so_far)
near_end so_far some = by_reading so_far.reading
  where
    names : IsNear so_far.next (so_far.next - 1) (name_missing so_far)
    names = by_kind (kind_at so_far.takes.names so_far.names)
      where
        by_kind : (o : Option NameKind) → IsNear so_far.next (so_far.next - 1) (option_map missing o)
        by_kind None = tt
        by_kind (Some Program) = tt
        by_kind (Some SecondProgram) = tt
        by_kind (Some Script) = tt
        by_kind (Some Guest) = tt
        by_kind (Some Size) = tt

    by_reading : (reading : Reading)
        → IsNear so_far.next (so_far.next - 1) (option_or (value_missing so_far reading) (name_missing so_far))
    by_reading Options = names
    by_reading (Value option) = (omega arith, omega arith)
    by_reading Names = names

-- a fault within some bounds is within wider ones
wider : (next more most bound : ℕ) (fault : Option WordsFault) → next ≤ more → most ≤ bound → IsNear more most fault
    → IsNear next bound fault
wider next more most bound None low high near = tt
wider next more most bound (Some fault) low high near = by_word (word_of fault) near
  where
    by_word : (o : Option ℕ) → IfSome o (λ word. (more ≤ word + 1) × (word ≤ most))
        → IfSome o (λ word. (next ≤ word + 1) × (word ≤ bound))
    by_word None near = tt
    by_word (Some word) near = (let from = near.0 in omega arith, let to = near.1 in omega arith)

-- a word that is read leaves the one behind it as the next
next_on : (so_far : SoFar) (read : Option Item × Reading) → (one_further (with_read so_far read)).next ≡ so_far.next + 1
next_on so_far read = by_item read.0
  where
    by_item : (item : Option Item) → (with_item so_far item).next + 1 ≡ so_far.next + 1
    by_item None = refl
    by_item (Some (Name text)) = refl
    by_item (Some (Given option text)) = refl

-- the words that follow, up to the last
near_among : (words : List (List ℕ)) (so_far : SoFar) → 1 ≤ so_far.next
    → IsNear so_far.next (so_far.next + length words - 1) (fault_among so_far words)
near_among [] so_far some =
    wider so_far.next so_far.next (so_far.next - 1) (so_far.next + 0 - 1) (end_fault so_far) (omega arith) (omega arith)
    (near_end so_far some)
near_among (word ∷ rest) so_far some =
    near_either so_far.next (so_far.next + length (word ∷ rest) - 1) (fault_read so_far so_far.reading word)
    (option_map (λ read. one_further (with_read so_far read)) (word_read so_far.reading word)
    >>= (λ read. fault_among read rest))
    (wider so_far.next so_far.next so_far.next (so_far.next + length (word ∷ rest) - 1)
    (fault_read so_far so_far.reading word) (omega arith) (omega arith) (near_word so_far so_far.reading word))
    (by_read (λ read some. near_among rest read some) (word_read so_far.reading word))
  where
    by_read : ((read : SoFar) → 1 ≤ read.next → IsNear read.next (read.next + length rest - 1) (fault_among read rest))
        → (o : Option (Option Item × Reading))
        → IsNear so_far.next (so_far.next + length (word ∷ rest) - 1)
        (option_map (λ read. one_further (with_read so_far read)) o >>= (λ read. fault_among read rest))
    by_read later None = tt
    by_read later (Some read) =
        let after : SoFar = one_further (with_read so_far read) in
        let on : after.next ≡ so_far.next + 1 = next_on so_far read in
        wider so_far.next after.next (after.next + length rest - 1) (so_far.next + length (word ∷ rest) - 1)
        (fault_among after rest) (omega arith) (omega arith) (later after (omega arith))

-- behind the command's word, a fault is in one of the words
among : (count : ℕ) (fault : Option WordsFault) → IsNear 2 count fault → IfSome fault (IsAmong count)
among count None near = tt
among count (Some fault) near = by_word (word_of fault) near
  where
    by_word : (o : Option ℕ) → IfSome o (λ word. (2 ≤ word + 1) × (word ≤ count))
        → IfSome o (λ word. (1 ≤ word) × (word ≤ count))
    by_word None near = tt
    by_word (Some word) near = (let low = near.0 in omega arith, near.1)

-- the word that is wrong is one of the words
pub fault_among_words : (words : List (List ℕ)) → IfSome (words_fault words) (IsAmong (length words))
unfolding words_fault
fault_among_words [] = tt
fault_among_words (word ∷ rest) = by_takes (takes_of word)
  where
    by_takes : (o : Option Takes) → IfSome (fault_behind o rest) (IsAmong (length (word ∷ rest)))
    by_takes None = (omega arith, omega arith)
    by_takes (Some takes) =
        among (length (word ∷ rest)) (fault_among (command_read takes) rest)
        (wider 2 2 (2 + length rest - 1) (length (word ∷ rest)) (fault_among (command_read takes) rest) (omega arith)
        (omega arith) (near_among rest (command_read takes) (omega arith)))
