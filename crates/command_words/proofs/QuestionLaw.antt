-- Words that ask for help or for the version are no command: the grammar has no such option, and no such command.
use Rattle.std.proofs.Common.{◌≡◌, ◌∙◌, ◌⊎◌, inl, inr, ℕ, Bool, cond, true, false, List, [], ◌∷◌, ◌++◌}
use Rattle.std.proofs.Common.{Option, Some, None, refl, sym, subst, codes}
use Rattle.std.specs.Prelude.{◌||◌, ◌&&◌}
use Rattle.std.specs.List.{before_first}
use Rattle.std.specs.Option.{is_some, option_to_list}
use Rattle.std.specs.Str.{bytes_eq}
use Rattle.std.proofs.lemmas.Slice.Eq.{bytes_eq-Decides}
use Rattle.step_log.specs.Script.{◌>>=◌}
use Rattle.command_words.specs.declared.questions.Question.{Question}
use Rattle.command_words.specs.declared.questions.Question.TheVariants.{AllCommands, OneCommand, Version}
use Rattle.command_words.specs.Commands.{Command}
use Rattle.command_words.specs.Grammar.{Arguments, Item, Name, Given, asked_by, begins_with_dash, is_option}
use Rattle.command_words.specs.Options.{OptionName, option_named}
use Rattle.command_words.specs.Questions.{asks_help, asks_version, has_help, question_of}
use Rattle.command_words.specs.Table.{command_kind}
use Rattle.command_words.specs.Words.{Reading, Options, Value, Names, arguments_of, behind_equals, command_of}
use Rattle.command_words.specs.Words.{few_arguments, is_equals, items, option_read, word_read}

-- ---- help behind a command

-- names alone aren't read yet
abbrev IsBefore : Reading → Type 0
IsBefore Options = Unit {0}
IsBefore (Value option) = Unit {0}
IsBefore Names = ⊥

-- a word of two
one_of : (word : List ℕ) (a b : List ℕ) → (bytes_eq word a || bytes_eq word b) ≡ true → (word ≡ a) ⊎ (word ≡ b)
one_of word a b is = go (bytes_eq word a) refl is
  where
    go : (x : Bool) → bytes_eq word a ≡ x → (x || bytes_eq word b) ≡ true → (word ≡ a) ⊎ (word ≡ b)
    go true same is = inl ((bytes_eq-Decides word a).0 same)
    go false other is = inr ((bytes_eq-Decides word b).0 is)

-- a word for help is neither an option nor a value
help_unread : (word : List ℕ) → asks_help word ≡ true → (reading : Reading) → IsBefore reading
    → word_read reading word ≡ None
help_unread word is reading before = elim (one_of word (codes "--help") (codes "-h") is) [
  | inl same ↦ subst (λ (w : List ℕ). word_read reading w ≡ None) (sym same) (long reading before)
  | inr same ↦ subst (λ (w : List ℕ). word_read reading w ≡ None) (sym same) (short reading before)
]
  where
    long : (reading : Reading) → IsBefore reading → word_read reading (codes "--help") ≡ None
    long Options before = refl
    long (Value option) before = refl
    long Names before = absurd before

    short : (reading : Reading) → IsBefore reading → word_read reading (codes "-h") ≡ None
    short Options before = refl
    short (Value option) before = refl
    short Names before = absurd before

-- where no word but `--` is read, nothing is
module _ (word : List ℕ) (other : bytes_eq word (codes "--") ≡ false)
    (more : Option Item × Reading → Option (List Item))
    (none : (item : Option Item) (after : Reading) → IsBefore after → more (item, after) ≡ None) where
  by_option : (b : Bool) (option : Option OptionName) (value : Option (List ℕ))
      → (cond b (option_read option value) (Some (Some (Name word), Options)) >>= more) ≡ None
  by_option false option value = none (Some (Name word)) Options tt
  by_option true None value = refl
  by_option true (Some option) None = none None (Value option) tt
  by_option true (Some option) (Some text) = none (Some (Given option text)) Options tt

  by_value : (b : Bool) (option : OptionName)
      → (cond b None (Some (Some (Given option word), Options)) >>= more) ≡ None
  by_value true option = refl
  by_value false option = none (Some (Given option word)) Options tt

  unread_after : (reading : Reading) → IsBefore reading → (word_read reading word >>= more) ≡ None
  unread_after Options before =
      rw other (by_option (is_option word) (option_named (before_first is_equals word)) (behind_equals word))
  unread_after (Value option) before = by_value (begins_with_dash word) option
  unread_after Names before = absurd before

-- words with one for help are read as no items
abbrev IsUnread : List (List ℕ) → Type 0
IsUnread words = has_help words ≡ true → (reading : Reading) → IsBefore reading → items reading words ≡ None

unread : (words : List (List ℕ)) → IsUnread words
unread [] is reading before = absurd (cc is)
unread (word ∷ rest) is reading before = by_end (unread rest) (bytes_eq word (codes "--")) refl is
  where
    by_word : IsUnread rest → (b : Bool) → bytes_eq word (codes "--") ≡ false → asks_help word ≡ b
        → (b || has_help rest) ≡ true → items reading (word ∷ rest) ≡ None
    by_word later true other asks is = rw (help_unread word asks reading before) refl
    by_word later false other asks is =
        unread_after word other
        (λ (read : Option Item × Reading). items read.1 rest >>= (λ more. Some (option_to_list read.0 ++ more)))
        (λ item after next. rw (later is after next) refl) reading before

    by_end : IsUnread rest → (b : Bool) → bytes_eq word (codes "--") ≡ b
        → cond b false (asks_help word || has_help rest) ≡ true → items reading (word ∷ rest) ≡ None
    by_end later true ends is = absurd (cc is)
    by_end later false other is = by_word later (asks_help word) other refl is

no_arguments_ask : (rest : List (List ℕ)) → has_help rest ≡ true → arguments_of rest ≡ None
unfolding arguments_of
no_arguments_ask rest is = rw (unread rest is Options tt) refl

-- ---- help or the version in place of a command

no_kind : (word : List ℕ) → (given : Option Arguments) → command_kind word ≡ None → (given >>= asked_by word) ≡ None
no_kind word None is = refl
no_kind word (Some given) is = rw is refl

help_is_none : (word : List ℕ) → (asks_help word || bytes_eq word (codes "help")) ≡ true → command_kind word ≡ None
help_is_none word is = go (asks_help word) refl is
  where
    by_help : (word ≡ codes "--help") ⊎ (word ≡ codes "-h") → command_kind word ≡ None
    by_help (inl same) = rw same refl
    by_help (inr same) = rw same refl

    go : (b : Bool) → asks_help word ≡ b → (b || bytes_eq word (codes "help")) ≡ true → command_kind word ≡ None
    go true asks is = by_help (one_of word (codes "--help") (codes "-h") asks)
    go false asks is =
        let same : word ≡ codes "help" = (bytes_eq-Decides word (codes "help")).0 is in
        rw same refl

version_is_none : (word : List ℕ) → asks_version word ≡ true → command_kind word ≡ None
version_is_none word is = go (one_of word (codes "--version") (codes "-V") is)
  where
    go : (word ≡ codes "--version") ⊎ (word ≡ codes "-V") → command_kind word ≡ None
    go (inl same) = rw same refl
    go (inr same) = rw same refl

-- ---- all

module _ (word : List ℕ) (rest : List (List ℕ)) where
  abbrev IsNone : Type 0
  IsNone = (arguments_of rest >>= asked_by word) ≡ None

  by_rest : (b : Bool) (question : Question) → has_help rest ≡ b → cond b (Some OneCommand) None ≡ Some question → IsNone
  by_rest false question is asks = absurd (cc asks)
  by_rest true question is asks = rw (no_arguments_ask rest is) refl

  by_kind : (b : Bool) (question : Question) → cond (b && has_help rest) (Some OneCommand) None ≡ Some question → IsNone
  by_kind false question asks = absurd (cc asks)
  by_kind true question asks = by_rest (has_help rest) question refl asks

  by_version : (b : Bool) (question : Question) → asks_version word ≡ b
      → cond b (Some Version) (cond (is_some (command_kind word) && has_help rest) (Some OneCommand) None) ≡ Some question
      → IsNone
  by_version true question is asks = no_kind word (arguments_of rest) (version_is_none word is)
  by_version false question is asks = by_kind (is_some (command_kind word)) question asks

  by_first : (b : Bool) (question : Question) → (asks_help word || bytes_eq word (codes "help")) ≡ b
      → cond b (Some AllCommands) (cond (asks_version word) (Some Version)
      (cond (is_some (command_kind word) && has_help rest) (Some OneCommand) None)) ≡ Some question
      → IsNone
  by_first true question is asks = no_kind word (arguments_of rest) (help_is_none word is)
  by_first false question is asks = by_version (asks_version word) question refl asks

pub no_command_asks : (words : List (List ℕ)) (question : Question) → question_of words ≡ Some question
    → command_of words ≡ None
unfolding command_of question_of
no_command_asks [] question asks = refl
no_command_asks (word ∷ rest) question asks =
    by_first word rest (asks_help word || bytes_eq word (codes "help")) question refl asks
