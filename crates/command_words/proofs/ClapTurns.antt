-- What `clap` makes of one word.
use Rattle.std.proofs.Common.{◌≡◌, ◌∙◌, ℕ, ◌+◌, ◌≤◌, Bool, cond, true, false, List, [], ◌∷◌}
use Rattle.std.proofs.Common.{length, Option, Some, None, refl, sym, ap, subst, codes, arith}
use Rattle.std.specs.Prelude.{◌&&◌, ◌||◌, ◌==◌, fold, slice_get, nat_lt}
use Rattle.std.specs.Option.{is_some}
use Rattle.std.specs.Str.{IsUtf8, bytes_eq, chars}
use Rattle.std.proofs.lemmas.Str.{encodes-chars}
use Rattle.std.proofs.lemmas.Slice.Eq.{bytes_eq-Decides}
use Rattle.clap.specs.Lexer.{long_of, short_of}
use Rattle.clap.specs.Kinds.{Kinds, or_else}
use Rattle.clap.specs.Walk.{Held, Row, Rule, Text, Waiting, Walk, arg_by_index}
use Rattle.clap.specs.Walk.{idle, is_pending, settled, takes_values, value, walked, word_met}
use Rattle.clap.specs.Faults.{flags_fault, long_fault, option_fault, positional_fault, react_fault, settle_fault, step_fault}
use Rattle.clap.specs.Faults.{turn_fault, walk_fault, word_fault, bundle_fault}
use Rattle.clap.specs.declared.error.kind.ErrorKind.TheVariants as kind
use Rattle.command_words.specs.Grammar.{Arguments, is_option}
use Rattle.command_words.specs.Options.{OptionName, long_name}
use Rattle.command_words.proofs.ClapRows.{Holds}
use Rattle.command_words.proofs.ClapWords.{name_at_1, name_at_2, name_at_3, name_built, no_short, none_at_4, rules, shape}

-- each word is UTF-8
abbrev pub AreLetters : List Text → Type 0
AreLetters [] = Unit {0}
AreLetters (word ∷ rest) = IsUtf8 word × AreLetters rest

-- where the walk stands
abbrev pub held : List Row → Option (Text × List Text) → Held
held rows pending = record { rows = rows; pending = pending; skip = 0 }

abbrev pub walk_at : Held → Waiting → ℕ → Bool → Walk
walk_at h waiting position trailing = record {
  held = h;
  waiting = waiting;
  position = position;
  is_trailing = trailing;
  stopped = None;
}

abbrev pub end_of : Walk → List Text → Held
end_of w words = (fold (walked rules []) w words).held

-- what the walk and its end fail by
abbrev pub fails : Walk → List Text → Kinds
fails w words = or_else (walk_fault shape [] w words) (settle_fault rules false (end_of w words))

-- the arguments are those of the rows
abbrev pub value_of : OptionName → Arguments → Option Text
value_of option given = given.values option

pub record Fits (given : Arguments) (rows : List Row) : Type 0 where
  pub options : (o : OptionName) → Holds (long_name o) rows (value_of o given)
  pub first : Holds (codes "first") rows (slice_get given.names 0)
  pub second : Holds (codes "second") rows (slice_get given.names 1)
  pub third : Holds (codes "third") rows (slice_get given.names 2)
  pub few : length given.names ≤ 3

abbrev pub Ends : Walk → List Text → Option Arguments → Type 0
Ends w words None = fails w words ≡ [] → ⊥
Ends w words (Some given) = (fails w words ≡ []) × Fits given (settled rules (end_of w words)).rows

-- ---- one turn

left_empty : (a b : Kinds) → or_else a b ≡ [] → a ≡ []
left_empty [] b is = refl
left_empty (k ∷ ks) b is = absurd (cc is)

pub or_bad : (a b : Kinds) → (a ≡ [] → ⊥) → or_else a b ≡ [] → ⊥
or_bad a b bad is = bad (left_empty a b is)

pub step_to : (w next : Walk) (word : Text) (rest : List Text) (o : Option Arguments)
    → turn_fault shape [] w word ≡ [] → walked rules [] w word ≡ next → Ends next rest o → Ends w (word ∷ rest) o
unfolding walk_fault
step_to w next word rest None fine goes ends =
    let same : fails w (word ∷ rest) ≡ fails next rest = rw fine (ap (λ (x : Walk). fails x rest) goes) in
    λ is. ends (sym same ∙ is)
step_to w next word rest (Some given) fine goes ends =
    let same : fails w (word ∷ rest) ≡ fails next rest = rw fine (ap (λ (x : Walk). fails x rest) goes) in
    (same ∙ ends.0, subst (λ (x : Walk). Fits given (settled rules (end_of x rest)).rows) (sym goes) ends.1)

pub step_off : (w : Walk) (word : Text) (rest : List Text) → (turn_fault shape [] w word ≡ [] → ⊥)
    → Ends w (word ∷ rest) None
unfolding walk_fault
step_off w word rest bad =
    λ is. bad (left_empty _ _ (left_empty _ _ is))

-- ---- words that are no flags

pub and_false : (b : Bool) → (b && false) ≡ false
and_false true = refl
and_false false = refl

pub or_false : (b : Bool) → (b || false) ≡ b
or_false true = refl
or_false false = refl

pub record IsPlainWord (word : Text) : Type 0 where
  pub dashes : bytes_eq word (45 ∷ 45 ∷ []) ≡ false
  pub long : long_of word ≡ None
  pub short : short_of word ≡ None
  pub name : is_option word ≡ false

pub nothing_plain : IsPlainWord []
nothing_plain = record { dashes = refl; long = refl; short = refl; name = refl }

pub dash_plain : IsPlainWord (45 ∷ [])
dash_plain = record { dashes = refl; long = refl; short = refl; name = refl }

not_dashes : (x : ℕ) (rest : Text) → (x == 45) ≡ false → bytes_eq (x ∷ rest) (45 ∷ 45 ∷ []) ≡ false
not_dashes x rest e = go (bytes_eq (x ∷ rest) (45 ∷ 45 ∷ [])) refl
  where
    go : (b : Bool) → bytes_eq (x ∷ rest) (45 ∷ 45 ∷ []) ≡ b → b ≡ false
    go false is = refl
    go true is =
        let same : x ∷ rest ≡ 45 ∷ 45 ∷ [] = (bytes_eq-Decides (x ∷ rest) (45 ∷ 45 ∷ [])).0 is in
        let first : x ≡ 45 = cc same in
        let bad : (x == 45) ≡ true = rw first refl in
        absurd (cc (bad, e))

pub other_plain : (x : ℕ) (rest : Text) → (x == 45) ≡ false → (45 == x) ≡ false → IsPlainWord (x ∷ rest)
other_plain x rest e f = record {
  dashes = not_dashes x rest e;
  long = rw e refl;
  short = rw e refl;
  name = rw f (and_false (nat_lt 1 (length (x ∷ rest))));
}

pub plain_met : (position : ℕ) (word : Text) (h : Held) → IsPlainWord word
    → word_met rules [] false idle position word h ≡ (h, value)
plain_met position word h is = rw (is.dashes, is.long, is.short) refl

pub plain_fine : (word : Text) (h : Held) (waiting : Waiting) → IsPlainWord word
    → word_fault shape [] false idle word h ≡ []
plain_fine word h waiting is = rw (is.dashes, is.long, is.short) refl

-- ---- words that are short flags, of which there are none

chars_of : (word cs : Text) → IsUtf8 word → chars word ≡ cs → (word ≡ [] → ⊥)
    → (x : ℕ) × (slice_get (chars word) 0 ≡ Some x)
chars_of word [] letters is some =
    let all = encodes-chars word letters in
    absurd (some (sym all ∙ rw is refl))
chars_of word (c ∷ cs) letters is some = (c, rw is refl)

pub short_bad : (y : ℕ) (rest : Text) (h : Held) → IsUtf8 (y ∷ rest) → h.skip ≡ 0
    → bundle_fault rules false (y ∷ rest) h ≡ [] → ⊥
unfolding flags_fault
short_bad y rest h letters none is =
    let letter = chars_of (y ∷ rest) (chars (y ∷ rest)) letters refl (λ e. absurd (cc e)) in
    let bad : bundle_fault rules false (y ∷ rest) h ≡ kind.UnknownArgument ∷ [] = rw (none, letter.1, no_short letter.0) refl in
    absurd (cc (sym bad ∙ is))

-- ---- words that are long flags, where what is held fails

pub long_bad : (found : Option Rule) (v : Option Text) (h : Held) → (settle_fault rules false h ≡ [] → ⊥)
    → long_fault rules false found v h ≡ [] → ⊥
long_bad None v h bad is = absurd (cc is)
long_bad (Some a) v h bad is = go (takes_values a) v is
  where
    go : (b : Bool) (v : Option Text)
        → cond b (option_fault rules false a v h) (cond (is_some v) (kind.TooManyValues ∷ [])
        (react_fault rules false a [] h)) ≡ []
        → ⊥
    go true (Some v) is = bad (left_empty _ _ is)
    go true None is = bad is
    go false (Some v) is = absurd (cc is)
    go false None is = bad (left_empty _ _ is)

-- a name where what is held fails
pass : (b : Bool) (k : Kinds) → cond (b && false) [] k ≡ [] → k ≡ []
pass true k is = is
pass false k is = is

step_at : (position : ℕ) (a : Rule) (h : Held) → arg_by_index rules position ≡ Some a
    → step_fault shape position h value ≡ positional_fault rules false a h
step_at position a h found = rw found refl

pub name_bad : (names : List Text) (h : Held) → length names ≤ 3 → (settle_fault rules false h ≡ [] → ⊥)
    → step_fault shape (1 + length names) h value ≡ [] → ⊥
name_bad [] h few bad is = bad (pass (is_pending (name_built 1 (codes "first")) h.pending)
    (settle_fault rules false h) (sym (step_at 1 (name_built 1 (codes "first")) h name_at_1) ∙ is))
name_bad (a ∷ []) h few bad is = bad (pass (is_pending (name_built 2 (codes "second")) h.pending)
    (settle_fault rules false h) (sym (step_at 2 (name_built 2 (codes "second")) h name_at_2) ∙ is))
name_bad (a ∷ b ∷ []) h few bad is = bad (pass (is_pending (name_built 3 (codes "third")) h.pending)
    (settle_fault rules false h) (sym (step_at 3 (name_built 3 (codes "third")) h name_at_3) ∙ is))
name_bad (a ∷ b ∷ c ∷ []) h few bad is =
    let stray : step_fault shape 4 h value ≡ kind.UnknownArgument ∷ [] = rw none_at_4 refl in
    absurd (cc (sym stray ∙ is))
name_bad (a ∷ b ∷ c ∷ d ∷ more) h few bad is = absurd (omega arith)
