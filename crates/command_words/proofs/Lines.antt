-- A line of the grammar and the items that are read from it: each tells the other.
use Rattle.std.proofs.Common.{◌≡◌, ◌↔◌, ℕ, ◌+◌, ◌<◌, Bool, true, false, cond, ltb, List, [], ◌∷◌, ◌++◌}
use Rattle.std.proofs.Common.{length, map, Option, Some, None, refl, sym, ap, ◌∙◌, subst, arith, append_assoc}
use Rattle.std.proofs.Common.{lt-ltb, add-one, drop, take, drop-cons, get_or, inl, inr, codes, suc}
use Rattle.std.proofs.Common.{option_map, length-append}
use Rattle.std.proofs.lemmas.Bool.{ltb-false, ltb-true, true≢false}
use Rattle.std.proofs.lemmas.List.{append-nil, take-append-drop, take_all}
use Rattle.std.proofs.lemmas.List.Sums.{passes_at_first}
use Rattle.std.proofs.lemmas.Bool.Decides.{nat_tests}
use Rattle.std.proofs.lemmas.Slice.Eq.{bytes_eq-Decides}
use Rattle.std.specs.Prelude.{nat_le, slice_get}
use Rattle.std.specs.List.{before_first, list_all, position_or_len}
use Rattle.std.specs.Option.{option_to_list}
use Rattle.std.specs.Str.{bytes_eq}
use Rattle.step_log.specs.Script.{◌>>=◌}
use Rattle.command_words.specs.Commands.{Command}
use Rattle.command_words.specs.Grammar.{Arguments, AreWritten, Given, IsCommandLine, IsLine}
use Rattle.command_words.specs.Grammar.{IsWritten, Item, Name, arguments_in, asked_by, names_in}
use Rattle.command_words.specs.Grammar.{values_in, begins_with_dash, command_in, is_option}
use Rattle.command_words.specs.Options.{OptionName, Harts, Frames, Steps, Seed, Policy, Calm, After, RunCount, Until, By, Jobs, From, To, Memory, Expect, Places, Deep, Scripts, Without, Preemptions, OwnSignals, all_options, option_named}
use Rattle.command_words.specs.Options.{option_word}
use Rattle.command_words.specs.Words.{Reading, Options, Value, Names, arguments_of, behind_equals, command_of}
use Rattle.command_words.specs.Words.{few_arguments, is_equals, items, option_read, word_read}
use Rattle.command_words.proofs.EachOption.{found_passes}
use Rattle.command_words.proofs.Suits.{many_names}

-- the word that names an option is its word
named_word : (word : List ℕ) (option : OptionName) → option_named word ≡ Some option → word ≡ option_word option
named_word word option is =
    (bytes_eq-Decides word (option_word option)).0
    (found_passes (λ option. bytes_eq word (option_word option)) all_options option is)

-- a word and its first `=`
no_equals : (word : List ℕ) → behind_equals word ≡ None → before_first is_equals word ≡ word
no_equals word none = by_room (ltb (position_or_len is_equals word) (length word)) refl none
  where
    by_room : (b : Bool) → ltb (position_or_len is_equals word) (length word) ≡ b
        → option_map (λ place. drop (place + 1) word) (cond b (Some (position_or_len is_equals word)) None)
        ≡ None
        → take (position_or_len is_equals word) word ≡ word
    by_room true room is = absurd cc
    by_room false full is = take_all (position_or_len is_equals word) word (ltb-false _ _ full)

equals_byte : (byte : ℕ) → is_equals byte ≡ true → byte ≡ 61
equals_byte byte is = grind (arith, nat_tests)

parted : (word text : List ℕ) → behind_equals word ≡ Some text
    → word ≡ before_first is_equals word ++ codes "=" ++ text
parted word text is = by_room (ltb (position_or_len is_equals word) (length word)) refl is
  where
    by_room : (b : Bool) → ltb (position_or_len is_equals word) (length word) ≡ b
        → option_map (λ place. drop (place + 1) word) (cond b (Some (position_or_len is_equals word)) None)
        ≡ Some text
        → word ≡ take (position_or_len is_equals word) word ++ codes "=" ++ text
    by_room false full none = absurd cc
    by_room true room there =
        let at = position_or_len is_equals word in
        let within : at < length word = ltb-true _ _ room in
        let rest : drop (at + 1) word ≡ text = cc in
        let byte : get_or word at 0 ≡ 61 =
        equals_byte (get_or word at 0) (passes_at_first is_equals word 0 within) in
        let cut : drop at word ≡ 61 ∷ text =
        drop-cons word at 0 within ∙ ap (λ b. b ∷ drop (suc at) word) byte
        ∙ ap (λ r. 61 ∷ r) (ap (λ n. drop n word) (sym (add-one at)) ∙ rest) in
        sym (take-append-drop at word) ∙ ap (λ r. take at word ++ r) cut
        ∙ sym (append_assoc (take at word) (codes "=") text)

-- what reading words from here on says of them
abbrev IsRead : Reading → List Item → List (List ℕ) → Type 0
IsRead Options found words = IsLine found words
IsRead (Value option) found words =
    (text : List ℕ) × (rest : List (List ℕ)) × (more : List Item) × (words ≡ text ∷ rest)
    × (found ≡ Given option text ∷ more) × (begins_with_dash text ≡ false) × IsLine more rest
IsRead Names found words = found ≡ map Name words

-- an item more at the front of a line
line_next : (item : Item) (first : List (List ℕ)) (more : List Item) (rest : List (List ℕ))
    → IsWritten item first → IsLine more rest → IsLine (item ∷ more) (first ++ rest)
line_next item first more rest is (inl written) = inl (first, rest, refl, is, written)
line_next item first more rest is (inr ended) = inr (record {
  before = item ∷ ended.before;
  front = first ++ ended.front;
  names = ended.names;
  all = ap (λ found. item ∷ found) ended.all;
  parts = ap (λ words. first ++ words) ended.parts
      ∙ sym (append_assoc first ended.front (codes "--" ∷ ended.names));
  written = (first, ended.front, refl, is, ended.written);
})

-- one reading is of one item, and goes on in one way
abbrev read_as : Option Item → Reading → Option (Option Item × Reading)
read_as item after = Some (item, after)

same_read : (item other : Option Item) (after next : Reading) → read_as item after ≡ read_as other next
    → (item ≡ other) × (after ≡ next)
same_read item other after next is =
    let here : Option Item × Reading = (item, after) in
    let there : Option Item × Reading = (other, next) in
    let pairs : here ≡ there = cc in
    (ap (λ (p : Option Item × Reading). p.0) pairs, ap (λ (p : Option Item × Reading). p.1) pairs)

-- an option's word
option_step : (word : List ℕ) (rest : List (List ℕ)) (item : Option Item) (after : Reading) (more : List Item)
    (o : Option OptionName) (value : Option (List ℕ))
    → option_named (before_first is_equals word) ≡ o → behind_equals word ≡ value
    → option_read o value ≡ Some (item, after) → IsRead after more rest
    → IsLine (option_to_list item ++ more) (word ∷ rest)
option_step word rest item after more None value named behind is read = absurd cc
option_step word rest item after more (Some option) None named behind is read =
    let both = same_read None item (Value option) after is in
    let alone : None ≡ item = both.0 in
    let next : Value option ≡ after = both.1 in
    let own : word ≡ option_word option =
    sym (no_equals word behind) ∙ named_word (before_first is_equals word) option named in
    let far : IsRead (Value option) more rest = subst (λ (r : Reading). IsRead r more rest) (sym next) read in
    let line : IsLine (Given option far.0 ∷ far.2) ((option_word option ∷ far.0 ∷ []) ++ far.1) =
    line_next (Given option far.0) (option_word option ∷ far.0 ∷ []) far.2 far.1 (inr (refl, far.5))
    far.6 in
    let same_words : option_word option ∷ far.0 ∷ far.1 ≡ word ∷ rest = cc (far.3, own) in
    let same_items : Given option far.0 ∷ far.2 ≡ more = sym far.4 in
    subst (λ (i : Option Item). IsLine (option_to_list i ++ more) (word ∷ rest)) alone
    (subst (λ (found : List Item). IsLine found (word ∷ rest)) same_items
    (subst (λ (words : List (List ℕ)). IsLine (Given option far.0 ∷ far.2) words) same_words line))
option_step word rest item after more (Some option) (Some text) named behind is read =
    let both = same_read (Some (Given option text)) item Options after is in
    let one : Some (Given option text) ≡ item = both.0 in
    let next : Options ≡ after = both.1 in
    let own : word ≡ option_word option ++ codes "=" ++ text =
    parted word text behind
    ∙ ap (λ front. front ++ codes "=" ++ text)
    (named_word (before_first is_equals word) option named) in
    let far : IsLine more rest = subst (λ (r : Reading). IsRead r more rest) (sym next) read in
    subst (λ (i : Option Item). IsLine (option_to_list i ++ more) (word ∷ rest)) one
    (line_next (Given option text) (word ∷ []) more rest (inl (ap (λ w. w ∷ []) own)) far)

-- a word, by how it is read
step_options : (word : List ℕ) (rest : List (List ℕ)) (item : Option Item) (after : Reading)
    (more : List Item) (ends dashed : Bool) → bytes_eq word (codes "--") ≡ ends → is_option word ≡ dashed
    → cond ends (Some (None, Names))
    (cond dashed (option_read (option_named (before_first is_equals word)) (behind_equals word))
    (Some (Some (Name word), Options))) ≡ Some (item, after)
    → IsRead after more rest → IsLine (option_to_list item ++ more) (word ∷ rest)
step_options word rest item after more true dashed ends at is read =
    let both = same_read None item Names after is in
    let none : None ≡ item = both.0 in
    let next : Names ≡ after = both.1 in
    let names : more ≡ map Name rest = subst (λ (r : Reading). IsRead r more rest) (sym next) read in
    let own : word ≡ codes "--" = (bytes_eq-Decides word (codes "--")).0 ends in
    subst (λ (i : Option Item). IsLine (option_to_list i ++ more) (word ∷ rest)) none
    (inr (record {
      before = [];
      front = [];
      names = rest;
      all = names;
      parts =
          ap (λ w. w ∷ rest) own;
      written = refl;
    }))
step_options word rest item after more false true ends at is read =
    option_step word rest item after more _ _ refl refl is read
step_options word rest item after more false false ends at is read =
    let both = same_read (Some (Name word)) item Options after is in
    let one : Some (Name word) ≡ item = both.0 in
    let next : Options ≡ after = both.1 in
    let far : IsLine more rest = subst (λ (r : Reading). IsRead r more rest) (sym next) read in
    subst (λ (i : Option Item). IsLine (option_to_list i ++ more) (word ∷ rest)) one
    (line_next (Name word) (word ∷ []) more rest (refl, at) far)

step_value : (option : OptionName) (word : List ℕ) (rest : List (List ℕ)) (item : Option Item)
    (after : Reading) (more : List Item) (dash : Bool) → begins_with_dash word ≡ dash
    → cond {A = Option (Option Item × Reading)} dash None (Some (Some (Given option word), Options))
    ≡ Some (item, after) → IsRead after more rest
    → IsRead (Value option) (option_to_list item ++ more) (word ∷ rest)
step_value option word rest item after more true at is read = absurd cc
step_value option word rest item after more false at is read =
    let both = same_read (Some (Given option word)) item Options after is in
    let one : Some (Given option word) ≡ item = both.0 in
    let next : Options ≡ after = both.1 in
    let far : IsLine more rest = subst (λ (r : Reading). IsRead r more rest) (sym next) read in
    (word, rest, more, refl, ap (λ (i : Option Item). option_to_list i ++ more) (sym one), at, far)

step : (reading : Reading) (word : List ℕ) (rest : List (List ℕ)) (item : Option Item) (after : Reading)
    (more : List Item) → word_read reading word ≡ Some (item, after) → IsRead after more rest
    → IsRead reading (option_to_list item ++ more) (word ∷ rest)
step Options word rest item after more is read = step_options word rest item after more _ _ refl refl is read
step (Value option) word rest item after more is read =
    step_value option word rest item after more _ refl is read
step Names word rest item after more is read =
    let both = same_read (Some (Name word)) item Names after is in
    let one : Some (Name word) ≡ item = both.0 in
    let next : Names ≡ after = both.1 in
    let names : more ≡ map Name rest = subst (λ (r : Reading). IsRead r more rest) (sym next) read in
    ap (λ (i : Option Item). option_to_list i ++ more) (sym one) ∙ ap (λ found. Name word ∷ found) names

-- the items that are read from words are a line's
lines_read : (reading : Reading) (words : List (List ℕ)) (found : List Item)
    → items reading words ≡ Some found → IsRead reading found words
lines_read Options [] found is = let none : found ≡ [] = cc in
    inl (subst (λ (f : List Item). AreWritten f []) (sym none) refl)
lines_read (Value option) [] found is = absurd cc
lines_read Names [] found is = let none : found ≡ [] = cc in none
lines_read reading (word ∷ rest) found is =
    by_word (λ after more at. lines_read after rest more at) (word_read reading word) refl is
  where
    by_rest : ((after : Reading) (more : List Item) → items after rest ≡ Some more → IsRead after more rest)
        → (item : Option Item) (after : Reading) (o : Option (List Item))
        → word_read reading word ≡ Some (item, after) → items after rest ≡ o
        → (o >>= (λ more. Some (option_to_list item ++ more))) ≡ Some found
        → IsRead reading found (word ∷ rest)
    by_rest later item after None read at none = absurd cc
    by_rest later item after (Some more) read at all =
        let whole : option_to_list item ++ more ≡ found = cc in
        subst (λ (f : List Item). IsRead reading f (word ∷ rest)) whole
        (step reading word rest item after more read (later after more at))

    by_word : ((after : Reading) (more : List Item) → items after rest ≡ Some more → IsRead after more rest)
        → (o : Option (Option Item × Reading)) → word_read reading word ≡ o
        → (o >>= (λ read. items read.1 rest >>= (λ more. Some (option_to_list read.0 ++ more)))) ≡ Some found
        → IsRead reading found (word ∷ rest)
    by_word later None at none = absurd cc
    by_word later (Some (item, after)) at all = by_rest later item after (items after rest) at refl all

-- the words of an item are read as it
names_read : (names : List (List ℕ)) → items Names names ≡ Some (map Name names)
names_read [] = refl
names_read (name ∷ more) = rw (names_read more)

no_ending : (text : List ℕ) → is_option text ≡ false → bytes_eq text (codes "--") ≡ false
no_ending text plain = by_test (bytes_eq text (codes "--")) refl
  where
    by_test : (b : Bool) → bytes_eq text (codes "--") ≡ b → b ≡ false
    by_test false at = refl
    by_test true at =
        let own : text ≡ codes "--" = (bytes_eq-Decides text (codes "--")).0 at in
        absurd (true≢false (ap is_option (sym own) ∙ plain))

longer_than : (n : ℕ) (front text : List ℕ) → n < length front → ltb n (length (front ++ text)) ≡ true
longer_than n front text long =
    lt-ltb n (length (front ++ text)) (let all = length-append front text in omega arith)

joined_read : (option : OptionName) (text : List ℕ)
    → word_read Options (option_word option ++ codes "=" ++ text) ≡ Some (Some (Given option text), Options)
joined_read Harts text =
    simp (
      longer_than 1 (codes "--harts=") text (omega arith),
      longer_than 7 (codes "--harts=") text
          (omega arith),
    )
joined_read Frames text =
    simp (
      longer_than 1 (codes "--frames=") text (omega arith),
      longer_than 8 (codes "--frames=") text
          (omega arith),
    )
joined_read Steps text =
    simp (
      longer_than 1 (codes "--steps=") text (omega arith),
      longer_than 7 (codes "--steps=") text
          (omega arith),
    )
joined_read Seed text =
    simp (
      longer_than 1 (codes "--seed=") text (omega arith),
      longer_than 6 (codes "--seed=") text
          (omega arith),
    )
joined_read Policy text =
    simp (
      longer_than 1 (codes "--policy=") text (omega arith),
      longer_than 8 (codes "--policy=") text
          (omega arith),
    )
joined_read Calm text =
    simp (
      longer_than 1 (codes "--calm=") text (omega arith),
      longer_than 6 (codes "--calm=") text
          (omega arith),
    )
joined_read After text =
    simp (
      longer_than 1 (codes "--after=") text (omega arith),
      longer_than 7 (codes "--after=") text
          (omega arith),
    )
joined_read RunCount text =
    simp (
      longer_than 1 (codes "--runs=") text (omega arith),
      longer_than 6 (codes "--runs=") text
          (omega arith),
    )
joined_read Until text =
    simp (
      longer_than 1 (codes "--until=") text (omega arith),
      longer_than 7 (codes "--until=") text
          (omega arith),
    )
joined_read By text =
    simp (
      longer_than 1 (codes "--by=") text (omega arith),
      longer_than 4 (codes "--by=") text
          (omega arith),
    )
joined_read Jobs text =
    simp (
      longer_than 1 (codes "--jobs=") text (omega arith),
      longer_than 6 (codes "--jobs=") text
          (omega arith),
    )
joined_read From text =
    simp (
      longer_than 1 (codes "--from=") text (omega arith),
      longer_than 6 (codes "--from=") text
          (omega arith),
    )
joined_read To text =
    simp (
      longer_than 1 (codes "--to=") text (omega arith),
      longer_than 4 (codes "--to=") text
          (omega arith),
    )
joined_read Memory text =
    simp (
      longer_than 1 (codes "--memory=") text (omega arith),
      longer_than 8 (codes "--memory=") text
          (omega arith),
    )
joined_read Expect text =
    simp (
      longer_than 1 (codes "--expect=") text (omega arith),
      longer_than 8 (codes "--expect=") text
          (omega arith),
    )
joined_read Places text =
    simp (
      longer_than 1 (codes "--places=") text (omega arith),
      longer_than 8 (codes "--places=") text
          (omega arith),
    )
joined_read Deep text =
    simp (
      longer_than 1 (codes "--deep=") text (omega arith),
      longer_than 6 (codes "--deep=") text
          (omega arith),
    )
joined_read Scripts text =
    simp (
      longer_than 1 (codes "--scripts=") text (omega arith),
      longer_than 9 (codes "--scripts=") text
          (omega arith),
    )
joined_read Without text =
    simp (
      longer_than 1 (codes "--without=") text (omega arith),
      longer_than 9 (codes "--without=") text
          (omega arith),
    )
joined_read Preemptions text =
    simp (
      longer_than 1 (codes "--preemptions=") text (omega arith),
      longer_than 13 (codes "--preemptions=") text
          (omega arith),
    )
joined_read OwnSignals text =
    simp (
      longer_than 1 (codes "--signals=") text (omega arith),
      longer_than 9 (codes "--signals=") text
          (omega arith),
    )

option_alone : (option : OptionName) → word_read Options (option_word option) ≡ Some (None, Value option)
option_alone Harts = refl
option_alone Frames = refl
option_alone Steps = refl
option_alone Seed = refl
option_alone Policy = refl
option_alone Calm = refl
option_alone After = refl
option_alone RunCount = refl
option_alone Until = refl
option_alone By = refl
option_alone Jobs = refl
option_alone From = refl
option_alone To = refl
option_alone Memory = refl
option_alone Expect = refl
option_alone Places = refl
option_alone Deep = refl
option_alone Scripts = refl
option_alone Without = refl
option_alone Preemptions = refl
option_alone OwnSignals = refl

value_read : (option : OptionName) (text : List ℕ) → begins_with_dash text ≡ false
    → word_read (Value option) text ≡ Some (Some (Given option text), Options)
value_read option text plain = rw plain

-- a word that ends no item is followed by what follows it
passed_on : (option : OptionName) (text : List ℕ) (o : Option (List Item))
    → ((o >>= (λ more. Some (Given option text ∷ more))) >>= (λ more. Some more))
    ≡ (o >>= (λ more. Some (Given option text ∷ more)))
passed_on option text None = refl
passed_on option text (Some more) = refl

-- what a word that was read makes of the words that follow
abbrev followed : List (List ℕ) → Option (Option Item × Reading) → Option (List Item)
followed rest o = o >>= (λ read. items read.1 rest >>= (λ more. Some (option_to_list read.0 ++ more)))

item_read : (item : Item) (first rest : List (List ℕ)) → IsWritten item first
    → items Options (first ++ rest) ≡ (items Options rest >>= (λ more. Some (item ∷ more)))
item_read (Name text) first rest is =
    let plain : word_read Options text ≡ Some (Some (Name text), Options) = rw (no_ending text is.1, is.1) in
    ap (λ f. items Options (f ++ rest)) is.0 ∙ ap (followed rest) plain
item_read (Given option text) first rest (inl is) =
    ap (λ f. items Options (f ++ rest)) is ∙ ap (followed rest) (joined_read option text)
item_read (Given option text) first rest (inr is) =
    ap (λ f. items Options (f ++ rest)) is.0 ∙ ap (followed (text ∷ rest)) (option_alone option)
    ∙ ap (λ o. followed rest o >>= (λ more. Some more)) (value_read option text is.1)
    ∙ passed_on option text (items Options rest)

-- the words of items are read as them, and what follows as it is read alone
two_fronts : (item : Item) (front : List Item) (o : Option (List Item))
    → ((o >>= (λ more. Some (front ++ more))) >>= (λ more. Some (item ∷ more)))
    ≡ (o >>= (λ more. Some (item ∷ front ++ more)))
two_fronts item front None = refl
two_fronts item front (Some more) = refl

no_front : (o : Option (List Item)) → o ≡ (o >>= (λ more. Some more))
no_front None = refl
no_front (Some more) = refl

items_read : (found : List Item) (front rest : List (List ℕ)) → AreWritten found front
    → items Options (front ++ rest) ≡ (items Options rest >>= (λ more. Some (found ++ more)))
items_read [] front rest is = ap (λ f. items Options (f ++ rest)) is ∙ no_front (items Options rest)
items_read (item ∷ found) front rest is =
    let first = is.0 in
    let behind = is.1 in
    ap (λ f. items Options (f ++ rest)) is.2 ∙ ap (items Options) (append_assoc first behind rest)
    ∙ item_read item first (behind ++ rest) is.3
    ∙ ap (λ o. o >>= (λ more. Some (item ∷ more))) (items_read found behind rest is.4)
    ∙ two_fronts item found (items Options rest)

line_read : (found : List Item) (words : List (List ℕ)) → IsLine found words
    → items Options words ≡ Some found
line_read found words (inl written) =
    ap (items Options) (sym (append-nil words)) ∙ items_read found words [] written
    ∙ ap Some (append-nil found)
line_read found words (inr ended) =
    let behind : items Options (codes "--" ∷ ended.names) ≡ Some (map Name ended.names) =
    ap (λ o. o >>= (λ more. Some more)) (names_read ended.names) in
    ap (items Options) ended.parts
    ∙ items_read ended.before ended.front (codes "--" ∷ ended.names) ended.written
    ∙ ap (λ o. o >>= (λ more. Some (ended.before ++ more))) behind ∙ ap Some (sym ended.all)

-- no command has more than three names
too_many : (word : List ℕ) (given : Arguments) (b : Bool) → 3 < length given.names
    → (cond b (Some given) None >>= asked_by word) ≡ None
too_many word given true many = many_names word given many
too_many word given false many = refl

few_asked : (found : List Item) (word : List ℕ) (many : Bool) → ltb 3 (length (names_in found)) ≡ many
    → (cond many None (arguments_in found) >>= asked_by word) ≡ (arguments_in found >>= asked_by word)
few_asked found word false at = refl
few_asked found word true at =
    sym (too_many word (record { names = names_in found; values = λ option. slice_get (values_in option found) 0 })
    (list_all (λ option. nat_le (length (values_in option found)) 1) all_options)
    (ltb-true 3 (length (names_in found)) at))

-- the command of the words behind a command's word
arguments_then : (o : Option (List Item)) (word : List ℕ)
    → ((o >>= few_arguments) >>= asked_by word) ≡ (o >>= (λ found. arguments_in found >>= asked_by word))
arguments_then None word = refl
arguments_then (Some found) word = few_asked found word _ refl

command_along : (word : List ℕ) (rest : List (List ℕ))
    → command_of (word ∷ rest) ≡ (items Options rest >>= command_in word)
unfolding command_of arguments_of command_in
command_along word rest = arguments_then (items Options rest) word

no_word : command_of [] ≡ None
unfolding command_of
no_word = refl

-- the command that is read from words is theirs
pub command_written : (words : List (List ℕ)) (command : Command) → command_of words ≡ Some command
    → IsCommandLine words command
command_written [] command is = absurd (cc no_word)
command_written (word ∷ rest) command is =
    by_items (items Options rest) refl (sym (command_along word rest) ∙ is)
  where
    by_items : (o : Option (List Item)) → items Options rest ≡ o → (o >>= command_in word) ≡ Some command
        → IsCommandLine (word ∷ rest) command
    by_items None at none = absurd cc
    by_items (Some found) at asks =
        record {
          word = word;
          rest = rest;
          items = found;
          parts = refl;
          line = lines_read Options rest found
              at;
          asks = asks;
        }

pub command_read : (words : List (List ℕ)) (command : Command) → IsCommandLine words command
    → command_of words ≡ Some command
command_read words command is =
    ap command_of is.parts ∙ command_along is.word is.rest
    ∙ ap (λ o. o >>= command_in is.word) (line_read is.items is.rest is.line) ∙ is.asks

pub one_command : (words : List (List ℕ)) (a b : Command) → IsCommandLine words a → IsCommandLine words b
    → a ≡ b
one_command words a b first second =
    let read_a = command_read words a first in
    let read_b = command_read words b second in
    cc

-- no command is read exactly where the words are of none
pub no_command : (words : List (List ℕ))
    → (command_of words ≡ None) ↔ ((command : Command) → ¬ (IsCommandLine words command))
no_command words = (
  λ none command is. absurd (cc (sym none ∙ command_read words command is)),
  λ never.
      by_reading never (command_of words) refl,
)
  where
    by_reading : ((command : Command) → ¬ (IsCommandLine words command)) → (o : Option Command)
        → command_of words ≡ o → o ≡ None
    by_reading never None at = refl
    by_reading never (Some command) at = absurd (never command (command_written words command at))
