-- The items of words, gathered one after another.
use Rattle.std.proofs.Common.{◌≡◌, ℕ, ◌<◌, ◌≤◌, Bool, true, false, cond, ltb, List, [], ◌∷◌, ◌++◌}
use Rattle.std.proofs.Common.{length, Option, Some, None, refl, sym, ap, ◌∙◌, arith, append_assoc}
use Rattle.std.proofs.Common.{length-append, lt-ltb, suc}
use Rattle.std.proofs.lemmas.Bool.{ltb-false}
use Rattle.std.proofs.lemmas.Bool.Decides.{nat_tests}
use Rattle.std.proofs.lemmas.List.{append-nil}
use Rattle.std.specs.Prelude.{nat_le, slice_get}
use Rattle.std.specs.List.{list_all}
use Rattle.std.specs.Option.{is_some, option_to_list}
use Rattle.step_log.specs.Script.{◌>>=◌}
use Rattle.command_words.specs.Words.{Reading, few_arguments}
use Rattle.command_words.specs.Words.{Options}
use Rattle.command_words.specs.Options.{OptionName, all_options, same_option}
use Rattle.command_words.proofs.EachOption.{all_of, one_fails, same_is, same_self}
use Rattle.command_words.proofs.Parts.{no_arguments, with_item, with_option}
use Rattle.command_words.specs.Grammar.{Item, Name, Given, Arguments, names_in, values_in}
use Rattle.command_words.specs.Words.{items, word_read, arguments_of}

-- the arguments, with more items added
abbrev pub added : Arguments → List Item → Option Arguments
added given [] = Some given
added given (item ∷ more) = with_item given (Some item) >>= (λ next. added next more)

-- the arguments, with what the words that follow add
abbrev pub with_words : Arguments → Reading → List (List ℕ) → Option Arguments
with_words given reading words = items reading words >>= added given

one_item : (given next : Arguments) (item : Option Item) (found : Option (List Item))
    → with_item given item ≡ Some next
    → (found >>= (λ more. Some (option_to_list item ++ more))) >>= added given ≡ found >>= added next
one_item given next None None fits = refl
one_item given next None (Some more) fits = let same : given ≡ next = cc in ap (λ g. added g more) same
one_item given next (Some item) None fits = refl
one_item given next (Some item) (Some more) fits = rw fits

item_refused : (given : Arguments) (item : Option Item) (found : Option (List Item))
    → with_item given item ≡ None
    → (found >>= (λ more. Some (option_to_list item ++ more))) >>= added given ≡ None
item_refused given None found fits = absurd (cc fits)
item_refused given (Some item) None fits = refl
item_refused given (Some item) (Some more) fits = rw fits

-- a word that is read
pub word_taken : (given next : Arguments) (reading after : Reading) (item : Option Item) (word : List ℕ)
    (rest : List (List ℕ))
    → word_read reading word ≡ Some (item, after) → with_item given item ≡ Some next
    → with_words given reading (word ∷ rest) ≡ with_words next after rest
word_taken given next reading after item word rest read fits =
    rw read (one_item given next item (items after rest) fits)

-- a word that can't stand there
pub word_unread : (given : Arguments) (reading : Reading) (word : List ℕ) (rest : List (List ℕ))
    → word_read reading word ≡ None
    → with_words given reading (word ∷ rest) ≡ None
word_unread given reading word rest read = rw read

-- a word whose item is one too many
pub word_refused : (given : Arguments) (reading after : Reading) (item : Option Item) (word : List ℕ)
    (rest : List (List ℕ))
    → word_read reading word ≡ Some (item, after) → with_item given item ≡ None
    → with_words given reading (word ∷ rest) ≡ None
word_refused given reading after item word rest read fits =
    rw read (item_refused given item (items after rest) fits)

-- what items say of each option: the values that they give it
abbrev Lists : Type 0
Lists = OptionName → List (List ℕ)

abbrev once : Lists → Bool
once lists = list_all (λ option. nat_le (length (lists option)) 1) all_options

-- the arguments of these names and values
sorted : List (List ℕ) → Lists → Option Arguments
sorted names lists =
    cond (ltb 3 (length names)) None
    (cond (once lists) (Some (record { names = names; values = λ option. slice_get (lists option) 0 })) None)

pub none_either : {A : Type 0} (b : Bool) (o : Option A) → o ≡ None → cond b None o ≡ None
none_either true o none = refl
none_either false o none = none

pub none_after : {A B : Type 0} (o : Option A) (f : A → Option B) → ((x : A) → f x ≡ None) → o >>= f ≡ None
none_after None f none = refl
none_after (Some x) f none = none x

too_many : (names : List (List ℕ)) (lists : Lists) → 3 < length names → sorted names lists ≡ None
unfolding sorted
too_many names lists more = rw (lt-ltb 3 (length names) more)

twice : (names : List (List ℕ)) (lists : Lists) (option : OptionName) → nat_le (length (lists option)) 1 ≡ false
    → sorted names lists ≡ None
unfolding sorted
twice names lists option many =
    none_either (ltb 3 (length names)) _
    (rw (one_fails (λ option. nat_le (length (lists option)) 1) option many) refl)

-- what is given already, with no item behind it
abbrev with_more : Arguments → List Item → Lists
with_more given more option = option_to_list (given.values option) ++ values_in option more

one_at_most : (o : Option (List ℕ)) → nat_le (length (option_to_list o ++ [])) 1 ≡ true
one_at_most None = refl
one_at_most (Some text) = refl

one_kept : (o : Option (List ℕ)) → o ≡ slice_get (option_to_list o ++ []) 0
one_kept None = refl
one_kept (Some text) = refl

same_kept : (given : Arguments)
    → Some given
    ≡ Some (record { names = given.names ++ []; values = λ option. slice_get (with_more given [] option) 0 })
same_kept given = λ i. Some (record {
  names = sym (append-nil given.names) i;
  values = λ option. one_kept (given.values option) i;
})

kept : (given : Arguments) → length given.names ≤ 3 → Some given ≡ sorted (given.names ++ []) (with_more given [])
unfolding sorted
kept given few =
    let no_more : ltb 3 (length (given.names ++ [])) ≡ false =
    simp append-nil (grind (arith, nat_tests)) in
    let each : once (with_more given []) ≡ true =
    all_of (λ option. nat_le (length (with_more given [] option)) 1) (λ option. one_at_most (given.values option)) in
    rw (no_more, each) (same_kept given)

name_gathered : (b : Bool) (given : Arguments) (text : List ℕ) (rest : List (List ℕ)) (lists : Lists) (more : List Item)
    → ltb (length given.names) 3 ≡ b
    → (length (given.names ++ text ∷ []) ≤ 3
    → added (record given { names = given.names ++ text ∷ [] }) more ≡ sorted ((given.names ++ text ∷ []) ++ rest) lists)
    → cond b (Some (record given { names = given.names ++ text ∷ [] })) None >>= (λ (next : Arguments). added next more)
    ≡ sorted (given.names ++ text ∷ rest) lists
name_gathered true given text rest lists more room whole =
    let short : length (given.names ++ text ∷ []) ≤ 3 = simp length-append (grind (arith, nat_tests)) in
    whole short ∙ ap (λ ns. sorted ns lists) (append_assoc given.names (text ∷ []) rest)
name_gathered false given text rest lists more full whole =
    let many : 3 < length (given.names ++ text ∷ rest) =
    simp length-append (omega (arith, ltb-false (length given.names) 3 full)) in
    sym (too_many (given.names ++ text ∷ rest) lists many)

-- a value more: the option had none
one_more : (given : Arguments) (option : OptionName) (text : List ℕ) (more : List Item) → given.values option ≡ None
    → (other : OptionName)
    → with_more (with_option option text given) more other ≡ with_more given (Given option text ∷ more) other
one_more given option text more none other = go (same_option option other) refl
  where
    go : (b : Bool) → same_option option other ≡ b
        → option_to_list (cond b (Some text) (given.values other)) ++ values_in other more
        ≡ option_to_list (given.values other) ++ cond b (text ∷ values_in other more) (values_in other more)
    go false apart = refl
    go true same =
        let free : given.values other ≡ None = ap given.values (sym (same_is option other same)) ∙ none in
        rw free refl

-- the option had one
more_than_one : (n : ℕ) → nat_le (suc (suc n)) 1 ≡ false
more_than_one n = grind (arith, nat_tests)

two_values : (given : Arguments) (option : OptionName) (text x : List ℕ) (more : List Item)
    → given.values option ≡ Some x
    → nat_le (length (with_more given (Given option text ∷ more) option)) 1 ≡ false
two_values given option text x more some =
    rw (some, same_self option) (more_than_one (length (values_in option more)))

-- adding items one after another comes to what they say together
gathered : (given : Arguments) (found : List Item) → length given.names ≤ 3
    → added given found ≡ sorted (given.names ++ names_in found) (with_more given found)
gathered given [] few = kept given few
gathered given (Name text ∷ more) few =
    name_gathered (ltb (length given.names) 3) given text (names_in more) (with_more given more) more refl
    (λ short. gathered (record given { names = given.names ++ text ∷ [] }) more short)
gathered given (Given option text ∷ more) few =
    by_value (gathered (with_option option text given) more few) (given.values option) refl
  where
    by_value : added (with_option option text given) more
        ≡ sorted (given.names ++ names_in more) (with_more (with_option option text given) more)
        → (o : Option (List ℕ)) → given.values option ≡ o
        → (cond (is_some o) None (Some (with_option option text given)) >>= (λ (next : Arguments). added next more))
        ≡ sorted (given.names ++ names_in more) (with_more given (Given option text ∷ more))
    by_value later None none =
        later ∙ (λ i. sorted (given.names ++ names_in more) (λ other. one_more given option text more none other i))
    by_value later (Some x) some =
        sym (twice (given.names ++ names_in more) (with_more given (Given option text ∷ more)) option
        (two_values given option text x more some))

gathered_all : (found : List Item) → added no_arguments found ≡ few_arguments found
unfolding sorted
gathered_all found = gathered no_arguments found (omega arith)

pub arguments_gathered : (words : List (List ℕ)) → with_words no_arguments Options words ≡ arguments_of words
unfolding arguments_of
arguments_gathered words = go (items Options words)
  where
    go : (o : Option (List Item)) → o >>= added no_arguments ≡ o >>= few_arguments
    go None = refl
    go (Some found) = gathered_all found
