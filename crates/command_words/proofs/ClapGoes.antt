-- `clap` goes on from word to word as the grammar does.
use Rattle.std.proofs.Common.{◌≡◌, ◌∙◌, inl, inr, ℕ, ◌+◌, ◌≤◌, Bool, cond, true, false, List, []}
use Rattle.std.proofs.Common.{◌∷◌, length, Option, Some, None, refl, sym, ap, subst, codes, arith}
use Rattle.std.proofs.Common.{lt-ltb}
use Rattle.std.specs.Prelude.{◌&&◌, ◌==◌}
use Rattle.std.specs.Option.{is_some}
use Rattle.std.specs.Str.{IsUtf8, bytes_eq}
use Rattle.std.proofs.lemmas.Slice.Eq.{bytes_eq-Decides}
use Rattle.std.proofs.lemmas.Str.{IsUtf8-drop, IsCharBoundary-after_ascii}
use Rattle.step_log.specs.Script.{◌>>=◌}
use Rattle.clap.specs.Lexer.{long_of, name_and_value, short_of}
use Rattle.clap.specs.Kinds.{Kinds}
use Rattle.clap.specs.declared.error.kind.ErrorKind.TheVariants.{ArgumentConflict, InvalidValue}
use Rattle.clap.specs.declared.error.kind.ErrorKind.TheVariants.{UnknownArgument}
use Rattle.clap.specs.Walk.{Held, Row, Text, Waiting, Walk, arg_by_long, has_row, idle}
use Rattle.clap.specs.Walk.{is_pending, option, settled, used, value, walked, word_met}
use Rattle.clap.specs.Faults.{bundle_fault, settle_fault, step_fault, turn_fault, walk_fault, word_fault}
use Rattle.command_words.specs.Grammar.{Arguments, Item, Given, is_option}
use Rattle.command_words.specs.Options.{OptionName, long_name, option_named}
use Rattle.command_words.proofs.Parts.{with_item, with_name, with_option}
use Rattle.command_words.specs.Words.{Reading, Options, Value, Names, option_read}
use Rattle.command_words.proofs.ClapRows.{has_held}
use Rattle.command_words.proofs.ClapEquals.{long_read, short_unread}
use Rattle.command_words.proofs.ClapWords.{by_form, long_named, name_at_1, name_at_2, name_at_3, name_built, none_at_4, option_built, option_found, rules, shape}
use Rattle.command_words.proofs.ClapTurns.{AreLetters, Ends, Fits, IsPlainWord, nothing_plain, dash_plain}
use Rattle.command_words.proofs.ClapTurns.{other_plain, and_false, or_false, held, long_bad, name_bad}
use Rattle.command_words.proofs.ClapTurns.{or_bad, plain_fine, plain_met, short_bad, step_off, step_to}
use Rattle.command_words.proofs.ClapTurns.{value_of, walk_at}
use Rattle.command_words.proofs.ClapWalk.{GoesOn, Goes, IsReady, loose, read_on}
use Rattle.command_words.proofs.ClapWalk.{first_fits, first_free, option_fits, option_free, second_fits, second_free}
use Rattle.command_words.proofs.ClapWalk.{third_fits, third_free, with_names}

-- ---- a name

passed : (b : Bool) (k : Kinds) → k ≡ [] → cond (b && false) [] k ≡ []
passed true k is = is
passed false k is = is

abbrev rows_of_held : List Row → Option (Text × List Text) → List Row
rows_of_held rows pending = (settled rules (held rows pending)).rows

name_goes : (b : Bool) (word : Text) (rest : List Text) (given : Arguments) (names : List Text) (rows : List Row)
    (pending : Option (Text × List Text)) (target : Arguments → Option Arguments)
    → ((next : Arguments) (rows : List Row) (pending : Option (Text × List Text)) → length next.names ≤ 3
    → IsReady next rows pending
    → Ends (walk_at (held rows pending) idle (1 + length next.names) b) rest (target next))
    → length names ≤ 3 → IsReady (with_names names given) rows pending
    → word_met rules [] b idle (1 + length names) word (held rows pending) ≡ (held rows pending, value)
    → word_fault shape [] b idle word (held rows pending) ≡ []
    → Ends (walk_at (held rows pending) idle (1 + length names) b) (word ∷ rest)
    (with_name (with_names names given) word >>= target)
unfolding walked
name_goes b word rest given [] rows pending target on few ready met fine =
    let h = held rows pending in
    let now = rows_of_held rows pending in
    step_to (walk_at h idle 1 b) (walk_at (held now (Some (codes "first", word ∷ []))) idle 2 b) word rest
    (target (with_names (word ∷ []) given))
    (rw (fine, met, name_at_1) (passed (is_pending (name_built 1 (codes "first")) pending) (settle_fault rules false h) ready.0))
    (rw (met, name_at_1, and_false (is_pending (name_built 1 (codes "first")) pending), or_false b) refl)
    (on (with_names (word ∷ []) given) now (Some (codes "first", word ∷ [])) (omega arith) (
      first_free (with_names [] given) now word ready.1 refl,
      first_fits (with_names [] given) now word
          ready.1 refl,
    ))
name_goes b word rest given (a ∷ []) rows pending target on few ready met fine =
    let h = held rows pending in
    let now = rows_of_held rows pending in
    step_to (walk_at h idle 2 b) (walk_at (held now (Some (codes "second", word ∷ []))) idle 3 b) word rest
    (target (with_names (a ∷ word ∷ []) given))
    (rw (fine, met, name_at_2) (passed (is_pending (name_built 2 (codes "second")) pending) (settle_fault rules false h) ready.0))
    (rw (met, name_at_2, and_false (is_pending (name_built 2 (codes "second")) pending), or_false b) refl)
    (on (with_names (a ∷ word ∷ []) given) now (Some (codes "second", word ∷ [])) (omega arith) (
      second_free (with_names (a ∷ []) given) now word ready.1 a refl,
      second_fits (with_names (a ∷ []) given)
          now word ready.1 a refl,
    ))
name_goes b word rest given (a ∷ c ∷ []) rows pending target on few ready met fine =
    let h = held rows pending in
    let now = rows_of_held rows pending in
    step_to (walk_at h idle 3 b) (walk_at (held now (Some (codes "third", word ∷ []))) idle 4 b) word rest
    (target (with_names (a ∷ c ∷ word ∷ []) given))
    (rw (fine, met, name_at_3) (passed (is_pending (name_built 3 (codes "third")) pending) (settle_fault rules false h) ready.0))
    (rw (met, name_at_3, and_false (is_pending (name_built 3 (codes "third")) pending), or_false b) refl)
    (on (with_names (a ∷ c ∷ word ∷ []) given) now (Some (codes "third", word ∷ [])) (omega arith) (
      third_free (with_names (a ∷ c ∷ []) given) now word ready.1 a c refl,
      third_fits (with_names (a ∷ c ∷ []) given)
          now word ready.1 a c refl,
    ))
name_goes b word rest given (a ∷ c ∷ d ∷ []) rows pending target on few ready met fine =
    let h = held rows pending in
    let turn : turn_fault shape [] (walk_at h idle 4 b) word ≡ UnknownArgument ∷ [] = rw (fine, met, none_at_4) refl in
    step_off (walk_at h idle 4 b) word rest (λ is. absurd (cc (sym turn ∙ is)))
name_goes b word rest given (a ∷ c ∷ d ∷ e ∷ more) rows pending target on few ready met fine = absurd (omega arith)

-- ---- what is held fails

pub doomed_names : (words : List Text) (names : List Text) (h : Held) (waiting : Waiting) → length names ≤ 3
    → (settle_fault rules false h ≡ [] → ⊥) → Ends (walk_at h waiting (1 + length names) true) words None
unfolding walk_fault
doomed_names [] names h waiting few bad = bad
doomed_names (word ∷ rest) names h waiting few bad =
    step_off (walk_at h waiting (1 + length names) true) word rest (name_bad names h few bad)

-- ---- words that are flags

past_dash : (word : Text) → IsUtf8 (45 ∷ word) → IsUtf8 word
past_dash word letters = IsUtf8-drop (45 ∷ word) 1 letters (IsCharBoundary-after_ascii (45 ∷ word) 0 letters
    (omega arith) (omega arith))

short_off : (waiting : Waiting) (position : ℕ) (y : ℕ) (more : Text) (rest : List Text) (rows : List Row)
    (pending : Option (Text × List Text)) → (y == 45) ≡ false → IsUtf8 (45 ∷ y ∷ more)
    → word_fault shape [] false waiting (45 ∷ y ∷ more) (held rows pending) ≡ bundle_fault rules false
    (y ∷ more) (held rows pending)
    → Ends (walk_at (held rows pending) waiting position false) ((45 ∷ y ∷ more) ∷ rest) None
short_off waiting position y more rest rows pending e letters is =
    step_off (walk_at (held rows pending) waiting position false) (45 ∷ y ∷ more) rest
    (or_bad (word_fault shape [] false waiting (45 ∷ y ∷ more) (held rows pending)) _
    (λ none. short_bad y more (held rows pending) (past_dash (y ∷ more) letters) refl (sym is ∙ none)))

pub long_word_is : (z : ℕ) (more : Text) → is_option (45 ∷ z ∷ more) ≡ true
long_word_is z more = rw (lt-ltb 1 (length (45 ∷ z ∷ more)) (omega arith)) refl

plain_turn : (names : List Text) (w : Text) (rows : List Row) (pending : Option (Text × List Text)) → IsPlainWord w
    → turn_fault shape [] (walk_at (held rows pending) idle (1 + length names) false) w ≡ []
    → step_fault shape (1 + length names) (held rows pending) value ≡ []
plain_turn names w rows pending is none =
    let same : turn_fault shape [] (walk_at (held rows pending) idle (1 + length names) false) w
    ≡ step_fault shape (1 + length names) (held rows pending) value =
    rw (plain_fine w (held rows pending) idle is, plain_met (1 + length names) w (held rows pending) is) refl in
    sym same ∙ none

dashed : (waiting : Waiting) (position : ℕ) (rows : List Row) (pending : Option (Text × List Text)) → waiting ≡ idle
    → walked rules [] (walk_at (held rows pending) waiting position false) (45 ∷ 45 ∷ [])
    ≡ walk_at (held rows pending) waiting position true
unfolding walked
dashed waiting position rows pending is = rw is refl

short_is : (y : ℕ) (more : Text) (rows : List Row) (pending : Option (Text × List Text)) → (y == 45) ≡ false
    → word_fault shape [] false idle (45 ∷ y ∷ more) (held rows pending) ≡ bundle_fault rules false (y ∷ more)
    (held rows pending)
short_is y more rows pending e =
    let dashes : bytes_eq (45 ∷ y ∷ more) (45 ∷ 45 ∷ []) ≡ false = rw e refl in
    let long : long_of (45 ∷ y ∷ more) ≡ None = rw e refl in
    let short : short_of (45 ∷ y ∷ more) ≡ Some (y ∷ more) = rw e refl in
    rw (dashes, long, short) refl

-- what is held fails, and no value is waited for
pub doomed : (words : List Text) → AreLetters words → (names : List Text) (rows : List Row)
    (pending : Option (Text × List Text))
    → length names ≤ 3 → (settle_fault rules false (held rows pending) ≡ [] → ⊥)
    → Ends (walk_at (held rows pending) idle (1 + length names) false) words None
unfolding walk_fault
doomed [] letters names rows pending few bad = bad
doomed (word ∷ rest) letters names rows pending few bad =
    by_form (λ w. IsUtf8 w → Ends (walk_at (held rows pending) idle (1 + length names) false) (w ∷ rest) None)
    (λ u. plain [] nothing_plain) (λ u. plain (45 ∷ []) dash_plain)
    (λ u. step_to (walk_at (held rows pending) idle (1 + length names) false) (walk_at (held rows pending) idle
    (1 + length names) true)
    (45 ∷ 45 ∷ []) rest None refl (dashed idle (1 + length names) rows pending refl)
    (doomed_names rest names (held rows pending) idle few bad))
    (λ z more u. step_off (walk_at (held rows pending) idle (1 + length names) false) (45 ∷ 45 ∷ z ∷ more) rest
    (or_bad (word_fault shape [] false idle (45 ∷ 45 ∷ z ∷ more) (held rows pending)) _
    (long_bad (arg_by_long rules (name_and_value (z ∷ more)).0) (name_and_value (z ∷ more)).1
    (held rows pending) bad)))
    (λ y more e u. short_off idle (1 + length names) y more rest rows pending e u (short_is y more rows pending e))
    (λ x more e f u. plain (x ∷ more) (other_plain x more e f))
    word letters.0
  where
    plain : (w : Text) → IsPlainWord w → Ends (walk_at (held rows pending) idle (1 + length names) false)
        (w ∷ rest) None
    plain w is = step_off (walk_at (held rows pending) idle (1 + length names) false) w rest
        (λ none. name_bad names (held rows pending) few bad (plain_turn names w rows pending is none))

-- ---- an option

pub option_item : (o : OptionName) (v : Text) (given : Arguments) → value_of o given ≡ None
    → with_item given (Some (Given o v)) ≡ Some (with_option o v given)
option_item o v given none = rw none refl

pub option_twice : (o : OptionName) (v x : Text) (given : Arguments) → value_of o given ≡ Some x
    → with_item given (Some (Given o v)) ≡ None
option_twice o v x given some = rw some refl

few_after : (o : OptionName) (v : Text) (given : Arguments) → length given.names ≤ 3
    → length (with_option o v given).names ≤ 3
few_after o v given few = few

same_place : (o : OptionName) (v : Text) (given : Arguments) → length given.names
    ≡ length (with_option o v given).names
same_place o v given = refl

repeated : (o : OptionName) (v x : Text) (given : Arguments) (rows : List Row) → Fits given rows
    → value_of o given ≡ Some x
    → has_row (long_name o) rows ≡ true
repeated o v x given rows fits some =
    has_held (long_name o) rows (value_of o given) (fits.options o) ∙ ap (λ (y : Option Text). is_some y) some

absent_row : (o : OptionName) (given : Arguments) (rows : List Row) → Fits given rows → value_of o given ≡ None
    → has_row (long_name o) rows ≡ false
absent_row o given rows fits none =
    has_held (long_name o) rows (value_of o given) (fits.options o) ∙ ap (λ (y : Option Text). is_some y) none

module _ (word : Text) (rest : List Text) (on : GoesOn rest) (given : Arguments) (rows : List Row)
    (pending : Option (Text × List Text)) (few : length given.names ≤ 3) (ready : IsReady given rows pending)
    (dashes : bytes_eq word (45 ∷ 45 ∷ []) ≡ false) where
  abbrev here : Walk
  here = walk_at (held rows pending) idle (1 + length given.names) false

  waits : (o : OptionName) → long_of word ≡ Some (long_name o, None) → Ends here (word ∷ rest)
      (loose rest given (Value o))
  unfolding walked
  waits o long =
      let now = rows_of_held rows pending in
      let turn : turn_fault shape [] here word ≡ [] = rw (dashes, long, (option_found o).0, ready.0) refl in
      let goes : walked rules [] here word ≡ walk_at (held now (Some (long_name o, []))) (option (long_name o))
      (1 + length given.names) false =
      rw (dashes, long, (option_found o).0) refl in
      step_to here (walk_at (held now (Some (long_name o, []))) (option (long_name o)) (1 + length given.names) false)
      word rest
      (loose rest given (Value o)) turn goes (on given (Value o) now (Some (long_name o, [])) few (refl, ready.1))

  has_value : (o : OptionName) (v : Text) (x : Option Text) → value_of o given ≡ x → long_of word
      ≡ Some (long_name o, Some v)
      → Ends here (word ∷ rest) (read_on (loose rest) given (Some (Given o v), Options))
  unfolding walked
  has_value o v (Some x) some long =
      let now = rows_of_held rows pending in
      let there = repeated o v x given now ready.1 some in
      let turn : turn_fault shape [] here word ≡ ArgumentConflict ∷ [] =
      rw (dashes, long, (option_found o).0, ready.0, there) refl in
      subst (λ (e : Option Arguments). Ends here (word ∷ rest) (e >>= (λ next. loose rest next Options)))
      (sym (option_twice o v x given some)) (step_off here word rest (λ is. absurd (cc (sym turn ∙ is))))
  has_value o v None none long =
      let now = rows_of_held rows pending in
      let absent = absent_row o given now ready.1 none in
      let after = used (option_built (long_name o)) (v ∷ []) now in
      let next = walk_at (held after None) idle (1 + length (with_option o v given).names) false in
      let turn : turn_fault shape [] here word ≡ [] = rw (dashes, long, (option_found o).0, ready.0, absent) refl in
      let goes : walked rules [] here word ≡ walk_at (held after None) idle (1 + length given.names) false =
      rw (dashes, long, (option_found o).0) refl in
      let placed : walk_at (held after None) idle (1 + length given.names) false ≡ next =
      ap (λ (n : ℕ). walk_at (held after None) idle (1 + n) false) (same_place o v given) in
      subst (λ (e : Option Arguments). Ends here (word ∷ rest) (e >>= (λ later. loose rest later Options)))
      (sym (option_item o v given none))
      (step_to here next word rest (loose rest (with_option o v given) Options) turn (goes ∙ placed)
      (on (with_option o v given) Options after None (few_after o v given few) (
        refl,
        option_fits given now v
            ready.1 o none,
      )))

  flag : (name : Text) (v : Option Text) → long_of word ≡ Some (name, v)
      → Ends here (word ∷ rest) (option_read (option_named (45 ∷ 45 ∷ name)) v >>= read_on (loose rest) given)
  flag name v long = elim (long_named name) [
    | inl is ↦ subst (λ (e : Option OptionName). Ends here (word ∷ rest)
        (option_read e v >>= read_on (loose rest) given)) (sym is.2)
        (by_value is.0 v (long ∙ ap (λ (n : Text). Some (n, v)) is.1))
    | inr is ↦ subst (λ (e : Option OptionName). Ends here (word ∷ rest)
        (option_read e v >>= read_on (loose rest) given)) (sym is.1)
        (step_off here word rest (λ none. absurd (cc (sym (unknown name v long is.0) ∙ none))))
  ]
    where
      by_value : (o : OptionName) (v : Option Text) → long_of word ≡ Some (long_name o, v)
          → Ends here (word ∷ rest) (option_read (Some o) v >>= read_on (loose rest) given)
      by_value o None long = waits o long
      by_value o (Some text) long = has_value o text (value_of o given) refl long

      unknown : (name : Text) (v : Option Text) → long_of word ≡ Some (name, v) → arg_by_long rules name ≡ None
          → turn_fault shape [] here word ≡ UnknownArgument ∷ []
      unknown name v long none = rw (dashes, long, none) refl

options_turn : (word : Text) (rest : List Text) → GoesOn rest → IsUtf8 word → (given : Arguments) (rows : List Row)
    (pending : Option (Text × List Text)) → length given.names ≤ 3 → IsReady given rows pending
    → Goes (word ∷ rest) given Options rows pending
options_turn word rest on letters given rows pending few ready =
    by_form (λ w. IsUtf8 w → Goes (w ∷ rest) given Options rows pending)
    (λ u. plain [] nothing_plain) (λ u. plain (45 ∷ []) dash_plain)
    (λ u. step_to (walk_at (held rows pending) idle (1 + length given.names) false)
    (walk_at (held rows pending) idle (1 + length given.names) true)
    (45 ∷ 45 ∷ []) rest (loose rest given Names) refl (dashed idle (1 + length given.names) rows pending refl)
    (on given Names rows pending few ready))
    (λ z more u. subst (λ (r : Option (Option Item × Reading)). Ends (walk_at (held rows pending) idle
    (1 + length given.names) false) ((45 ∷ 45 ∷ z ∷ more) ∷ rest) (r >>= read_on (loose rest) given))
    (sym (long_read z more))
    (flag (45 ∷ 45 ∷ z ∷ more) rest on given rows pending few ready refl (name_and_value (z ∷ more)).0
    (name_and_value (z ∷ more)).1 refl))
    (λ y more e u. subst (λ (r : Option (Option Item × Reading)). Ends (walk_at (held rows pending) idle
    (1 + length given.names) false) ((45 ∷ y ∷ more) ∷ rest) (r >>= read_on (loose rest) given))
    (sym (short_unread y more e))
    (short_off idle (1 + length given.names) y more rest rows pending e u (short_is y more rows pending e)))
    (λ x more e f u. plain (x ∷ more) (other_plain x more e f))
    word letters
  where
    plain : (w : Text) → IsPlainWord w → Goes (w ∷ rest) given Options rows pending
    plain w is =
        let same : loose (w ∷ rest) given Options ≡ (with_name given w >>= (λ next. loose rest next Options)) =
        rw (is.dashes, is.name) refl in
        subst (λ (o : Option Arguments). Ends (walk_at (held rows pending) idle (1 + length given.names) false)
        (w ∷ rest) o) (sym same)
        (name_goes false w rest given given.names rows pending (λ next. loose rest next Options)
        (λ next rows pending few ready. on next Options rows pending few ready) few ready
        (plain_met (1 + length given.names) w (held rows pending) is) (plain_fine w (held rows pending) idle is))

names_turn : (word : Text) (rest : List Text) → GoesOn rest → (given : Arguments) (rows : List Row)
    (pending : Option (Text × List Text)) → length given.names ≤ 3 → IsReady given rows pending
    → Goes (word ∷ rest) given Names rows pending
names_turn word rest on given rows pending few ready =
    name_goes true word rest given given.names rows pending (λ next. loose rest next Names)
    (λ next rows pending few ready. on next Names rows pending few ready) few ready refl refl

-- ---- a word where a value is wanted

lacking : (o : OptionName) (rows : List Row) → settle_fault rules false (held rows (Some (long_name o, [])))
    ≡ InvalidValue ∷ []
lacking o rows = rw (option_found o).1 refl

short_waits : (o : OptionName) (y : ℕ) (more : Text) (rows : List Row) → (y == 45) ≡ false
    → word_fault shape [] false (option (long_name o)) (45 ∷ y ∷ more) (held rows (Some (long_name o, [])))
    ≡ bundle_fault rules false (y ∷ more) (held rows (Some (long_name o, [])))
short_waits o y more rows e =
    let dashes : bytes_eq (45 ∷ y ∷ more) (45 ∷ 45 ∷ []) ≡ false = rw e refl in
    let long : long_of (45 ∷ y ∷ more) ≡ None = rw e refl in
    let short : short_of (45 ∷ y ∷ more) ≡ Some (y ∷ more) = rw e refl in
    rw (dashes, long, short) refl

module _ (o : OptionName) (rest : List Text) (on : GoesOn rest) (later : AreLetters rest) (given : Arguments)
    (rows : List Row) (few : length given.names ≤ 3) (fits : Fits given rows) where
  abbrev lacks : Held
  lacks = held rows (Some (long_name o, []))

  abbrev asks : Walk
  asks = walk_at lacks (option (long_name o)) (1 + length given.names) false

  bad : settle_fault rules false lacks ≡ [] → ⊥
  bad is = absurd (cc (sym (lacking o rows) ∙ is))

  -- the word is the option's value
  module _ (w : Text) (is : IsPlainWord w) where
    abbrev filled : Walk
    filled = walk_at (held rows (Some (long_name o, w ∷ []))) idle (1 + length given.names) false

    same : bytes_eq (long_name o) (long_name o) ≡ true
    same = (bytes_eq-Decides (long_name o) (long_name o)).1 refl

    fine : turn_fault shape [] asks w ≡ []
    fine = rw (is.dashes, is.long, is.short) refl

    goes : walked rules [] asks w ≡ filled
    unfolding walked
    goes = rw (is.dashes, is.long, is.short, (option_found o).1, same) refl

    value_ends : (x : Option Text) → value_of o given ≡ x
        → Ends asks (w ∷ rest) (read_on (loose rest) given (Some (Given o w), Options))
    value_ends (Some v) some =
        let there = repeated o w v given rows fits some in
        let conflict : settle_fault rules false (held rows (Some (long_name o, w ∷ []))) ≡ ArgumentConflict ∷ [] =
        rw ((option_found o).1, there) refl in
        subst (λ (e : Option Arguments). Ends asks (w ∷ rest) (e >>= (λ n. loose rest n Options)))
        (sym (option_twice o w v given some)) (step_to asks filled w rest None fine goes
        (doomed rest later given.names rows (Some (long_name o, w ∷ [])) few (λ none. absurd (cc (sym conflict ∙ none)))))
    value_ends None none =
        let settles : (settled rules (held rows (Some (long_name o, w ∷ [])))).rows ≡ used (option_built (long_name o))
        (w ∷ []) rows = rw (option_found o).1 refl in
        let after = walk_at (held rows (Some (long_name o, w ∷ []))) idle (1 + length (with_option o w given).names)
        false in
        let placed : filled ≡ after = ap (λ (n : ℕ). walk_at (held rows (Some (long_name o, w ∷ []))) idle (1 + n)
        false) (same_place o w given) in
        subst (λ (e : Option Arguments). Ends asks (w ∷ rest) (e >>= (λ n. loose rest n Options)))
        (sym (option_item o w given none))
        (step_to asks after w rest (loose rest (with_option o w given) Options) fine (goes ∙ placed)
        (on (with_option o w given) Options rows (Some (long_name o, w ∷ [])) (few_after o w given few) (
          option_free given rows w fits o none,
          subst (λ (rs : List Row). Fits (with_option o w given) rs)
              (sym settles) (option_fits given rows w fits o none),
        )))

    value_goes : Goes (w ∷ rest) given (Value o) rows (Some (long_name o, []))
    value_goes =
        subst (λ (b : Bool). Ends asks (w ∷ rest) (cond b None (Some (Some (Given o w), Options)) >>= read_on
        (loose rest) given))
        (sym is.name) (value_ends (value_of o given) refl)

  value_turn : (word : Text) → IsUtf8 word → Goes (word ∷ rest) given (Value o) rows (Some (long_name o, []))
  unfolding walked
  value_turn word letters =
      by_form (λ w. IsUtf8 w → Goes (w ∷ rest) given (Value o) rows (Some (long_name o, [])))
      (λ u. value_goes [] nothing_plain) (λ u. value_goes (45 ∷ []) dash_plain)
      (λ u. step_to asks (walk_at lacks (option (long_name o)) (1 + length given.names) true)
      (45 ∷ 45 ∷ []) rest None refl refl (doomed_names rest given.names lacks (option (long_name o)) few bad))
      (λ z more u. subst (λ (b : Bool). Ends asks ((45 ∷ 45 ∷ z ∷ more) ∷ rest)
      (cond b None (Some (Some (Given o (45 ∷ 45 ∷ z ∷ more)), Options)) >>= read_on (loose rest) given))
      (sym (long_word_is 45 (z ∷ more)))
      (step_off asks (45 ∷ 45 ∷ z ∷ more) rest
      (or_bad (word_fault shape [] false (option (long_name o)) (45 ∷ 45 ∷ z ∷ more) lacks) _
      (long_bad (arg_by_long rules (name_and_value (z ∷ more)).0) (name_and_value (z ∷ more)).1 lacks bad))))
      (λ y more e u. subst (λ (b : Bool). Ends asks ((45 ∷ y ∷ more) ∷ rest)
      (cond b None (Some (Some (Given o (45 ∷ y ∷ more)), Options)) >>= read_on (loose rest) given))
      (sym (long_word_is y more))
      (short_off (option (long_name o)) (1 + length given.names) y more rest rows (Some (long_name o, [])) e u
      (short_waits o y more rows e)))
      (λ x more e f u. value_goes (x ∷ more) (other_plain x more e f))
      word letters

-- `clap` goes on as the grammar does
pub goes_on : (words : List Text) → AreLetters words → GoesOn words
unfolding walk_fault
goes_on [] letters given Options rows pending few ready = ready
goes_on [] letters given Names rows pending few ready = ready
goes_on [] letters given (Value o) rows pending few ready =
    subst (λ (p : Option (Text × List Text)). Goes [] given (Value o) rows p) (sym ready.0)
    (λ is. absurd (cc (sym (lacking o rows) ∙ is)))
goes_on (word ∷ rest) letters given Options rows pending few ready =
    options_turn word rest (goes_on rest letters.1) letters.0 given rows pending few ready
goes_on (word ∷ rest) letters given Names rows pending few ready =
    names_turn word rest (goes_on rest letters.1) given rows pending few ready
goes_on (word ∷ rest) letters given (Value o) rows pending few ready =
    subst (λ (p : Option (Text × List Text)). Goes (word ∷ rest) given (Value o) rows p) (sym ready.0)
    (value_turn o rest (goes_on rest letters.1) letters.1 given rows few ready.1 word letters.0)
