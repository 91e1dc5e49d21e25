-- `clap` walks over the words as the grammar reads them.
use Rattle.std.proofs.Common.{◌≡◌, ◌∙◌, ℕ, ◌+◌, ◌≤◌, Bool, cond, true, false, List, [], ◌∷◌}
use Rattle.std.proofs.Common.{◌++◌, length, Option, Some, None, refl, sym, ap, subst, codes, arith}
use Rattle.std.proofs.Common.{append-nil}
use Rattle.std.specs.Prelude.{not, slice_get, option_map}
use Rattle.std.specs.List.{list_all}
use Rattle.std.specs.Option.{is_some}
use Rattle.std.specs.Str.{bytes_eq}
use Rattle.step_log.specs.Script.{◌>>=◌}
use Rattle.clap.specs.Walk.{Row, Text, Waiting, arg_by_id, has_row, idle, option, more_values}
use Rattle.clap.specs.Walk.{settled, used, with_values, without}
use Rattle.clap.specs.Faults.{settle_fault}
use Rattle.clap.specs.declared.parser.matches.ValueSource.TheVariants.{CommandLine}
use Rattle.clap.specs.declared.builder.value_parser.Reading.TheVariants.{AsWritten}
use Rattle.std.proofs.lemmas.Slice.Eq.{bytes_eq-Decides}
use Rattle.command_words.specs.Grammar.{Arguments, Item, Given, is_option}
use Rattle.command_words.specs.Options.{OptionName, all_options, long_name, same_option}
use Rattle.command_words.proofs.EachOption.{names_apart, none_passes, other_way, same_is}
use Rattle.command_words.proofs.Parts.{with_item, with_option}
use Rattle.command_words.specs.Words.{Reading, Options, Value, Names, word_read}
use Rattle.command_words.proofs.ClapRows.{Holds, has_held, found_before, found_last, row_added}
use Rattle.command_words.proofs.ClapWords.{first_found, name_built, option_built, option_found, rules, second_found, third_found}
use Rattle.command_words.proofs.ClapTurns.{Ends, Fits, held}
use Rattle.command_words.proofs.ClapTurns.{value_of, walk_at}

-- the grammar's reading, but for a value that is `-`
abbrev pub loosely : Reading → Text → Option (Option Item × Reading)
loosely Options word = word_read Options word
loosely (Value o) word = cond (is_option word) None (Some (Some (Given o word), Options))
loosely Names word = word_read Names word

abbrev pub read_on : (Arguments → Reading → Option Arguments) → Arguments → Option Item × Reading → Option Arguments
read_on more given (item, after) = with_item given item >>= (λ next. more next after)

abbrev pub read_end : Arguments → Reading → Option Arguments
read_end given Options = Some given
read_end given (Value o) = None
read_end given Names = Some given

abbrev pub loose : List Text → Arguments → Reading → Option Arguments
loose [] given reading = read_end given reading
loose (word ∷ rest) given reading = loosely reading word >>= read_on (loose rest) given

-- what is held between two words
abbrev pub IsReady : Arguments → List Row → Option (Text × List Text) → Type 0
IsReady given rows pending =
    (settle_fault rules false (held rows pending) ≡ []) × Fits given (settled rules (held rows pending)).rows

abbrev pub IsHeld : Reading → Arguments → List Row → Option (Text × List Text) → Type 0
IsHeld Options given rows pending = IsReady given rows pending
IsHeld (Value o) given rows pending = (pending ≡ Some (long_name o, [])) × Fits given rows
IsHeld Names given rows pending = IsReady given rows pending

abbrev pub waits_for : Reading → Waiting
waits_for Options = idle
waits_for (Value o) = option (long_name o)
waits_for Names = idle

abbrev pub trails : Reading → Bool
trails Options = false
trails (Value o) = false
trails Names = true

-- what is to be shown of the words that follow
abbrev pub Goes : List Text → Arguments → Reading → List Row → Option (Text × List Text) → Type 0
Goes rest given reading rows pending =
    Ends (walk_at (held rows pending) (waits_for reading) (1 + length given.names) (trails reading)) rest
    (loose rest given reading)

abbrev pub GoesOn : List Text → Type 0
GoesOn rest = (given : Arguments) (reading : Reading) (rows : List Row) (pending : Option (Text × List Text))
    → length given.names ≤ 3 → IsHeld reading given rows pending → Goes rest given reading rows pending

-- ---- a name or a value more

abbrev pub with_names : List Text → Arguments → Arguments
with_names names given = record given { names = names }

abbrev pub new_row : Text → Text → Row
new_row id v = record {
  id = id;
  values = v ∷ [];
  count = None;
  source = Some CommandLine;
  reading = AsWritten;
}

pub used_option : (name v : Text) (rows : List Row) → has_row name rows ≡ false
    → used (option_built name) (v ∷ []) rows ≡ rows ++ new_row name v ∷ []
used_option name v rows none =
    let first : without name rows ≡ rows = row_added name (λ (r : Row). []) [] rows none ∙ append-nil rows in
    ap (λ (rs : List Row). with_values name AsWritten CommandLine (v ∷ []) rs) first
    ∙ row_added name (more_values CommandLine (v ∷ [])) (new_row name v ∷ []) rows none

pub used_name : (place : ℕ) (name v : Text) (rows : List Row) → has_row name rows ≡ false
    → used (name_built place name) (v ∷ []) rows ≡ rows ++ new_row name v ∷ []
used_name place name v rows none = used_option name v rows none

module _ (given : Arguments) (rows : List Row) (v : Text) (fits : Fits given rows) where
  last : (o : OptionName) → value_of o given ≡ None → Holds (long_name o) (rows ++ new_row (long_name o) v ∷ []) (Some v)
  last o none =
      let absent = has_held (long_name o) rows (value_of o given) (fits.options o)
      ∙ ap (λ (x : Option Text). is_some x) none in
      let own : bytes_eq (long_name o) (long_name o) ≡ true = (bytes_eq-Decides (long_name o) (long_name o)).1 refl in
      found_last (long_name o) rows (new_row (long_name o) v) v own refl absent

  options_after : (o other : OptionName) → value_of o given ≡ None
      → Holds (long_name other) (rows ++ new_row (long_name o) v ∷ []) (value_of other (with_option o v given))
  options_after o other none = go (same_option o other) refl
    where
      go : (b : Bool) → same_option o other ≡ b
          → Holds (long_name other) (rows ++ new_row (long_name o) v ∷ []) (cond b (Some v) (given.values other))
      go true same =
          subst (λ (n : OptionName). Holds (long_name n) (rows ++ new_row (long_name o) v ∷ []) (Some v))
          (same_is o other same) (last o none)
      go false other_name =
          found_before (long_name other) rows (new_row (long_name o) v) (given.values other)
          (names_apart o other other_name) (fits.options other)

  pub names_after : (o : OptionName) → (with_option o v given).names ≡ given.names
  names_after o = refl

  -- an option has no name's id, and no name an option's
  abbrev IsApart : OptionName → Text → Type 0
  IsApart o name = (bytes_eq (long_name o) name ≡ false) × (bytes_eq name (long_name o) ≡ false)

  is_apart : (name : Text) → list_all (λ o. not (bytes_eq (long_name o) name)) all_options ≡ true
      → (o : OptionName) → IsApart o name
  is_apart name none o =
      let other = none_passes (λ o. bytes_eq (long_name o) name) none o in
      (other, other_way name (long_name o) ∙ other)

  apart : (o : OptionName) → IsApart o (codes "first") × IsApart o (codes "second") × IsApart o (codes "third")
  apart o = (is_apart (codes "first") refl o, is_apart (codes "second") refl o, is_apart (codes "third") refl o)

  as_before : (names : List Text) (o : OptionName) → Holds (long_name o) rows (value_of o (with_names names given))
  as_before names o = fits.options o

  -- what is held of the names, where these are the names
  named_at : (place : ℕ) (names : List Text) → given.names ≡ names
      → option_map (λ (t : Text). t ∷ []) (slice_get given.names place)
      ≡ option_map (λ (t : Text). t ∷ []) (slice_get names place)
  named_at place names is = ap (λ (ns : List Text). option_map (λ (t : Text). t ∷ []) (slice_get ns place)) is

  pub option_fits : (o : OptionName) → value_of o given ≡ None
      → Fits (with_option o v given) (used (option_built (long_name o)) (v ∷ []) rows)
  option_fits o none =
      let absent : has_row (long_name o) rows ≡ false = has_held (long_name o) rows (value_of o given) (fits.options o)
      ∙ ap (λ (x : Option Text). is_some x) none in
      let row = new_row (long_name o) v in
      let one = found_before (codes "first") rows row (slice_get given.names 0) (apart o).0.0 fits.first in
      let two = found_before (codes "second") rows row (slice_get given.names 1) (apart o).1.0 fits.second in
      let three = found_before (codes "third") rows row (slice_get given.names 2) (apart o).2.0 fits.third in
      let same = names_after o in
      subst (λ (rs : List Row). Fits (with_option o v given) rs) (sym (used_option (long_name o) v rows absent)) (record {
        options = λ (other : OptionName). options_after o other none;
        first = one ∙ sym (ap (λ (ns : List Text). option_map (λ (t : Text). t ∷ []) (slice_get ns 0)) same);
        second = two ∙ sym (ap (λ (ns : List Text). option_map (λ (t : Text). t ∷ []) (slice_get ns 1)) same);
        third = three ∙ sym (ap (λ (ns : List Text). option_map (λ (t : Text). t ∷ []) (slice_get ns 2)) same);
        few = subst (λ (ns : List Text). length ns ≤ 3) (sym same) fits.few;
      })

  pub option_free : (o : OptionName) → value_of o given ≡ None
      → settle_fault rules false (held rows (Some (long_name o, v ∷ []))) ≡ []
  option_free o none =
      let absent : has_row (long_name o) rows ≡ false = has_held (long_name o) rows (value_of o given) (fits.options o)
      ∙ ap (λ (x : Option Text). is_some x) none in
      rw ((option_found o).1, absent) refl

  -- a name that is held gets its row
  abbrev settled_name : Text → List Row
  settled_name name = (settled rules (held rows (Some (name, v ∷ [])))).rows

  name_settled : (place : ℕ) (name : Text) → arg_by_id rules name ≡ Some (name_built place name)
      → has_row name rows ≡ false → settled_name name ≡ rows ++ new_row name v ∷ []
  name_settled place name found absent =
      let uses : settled_name name ≡ used (name_built place name) (v ∷ []) rows = rw found refl in
      uses ∙ used_name place name v rows absent

  pub first_fits : given.names ≡ []
      → Fits (with_names (v ∷ []) given) (settled_name (codes "first"))
  first_fits none =
      let first : Holds (codes "first") rows None = fits.first ∙ named_at 0 [] none in
      let second : Holds (codes "second") rows None = fits.second ∙ named_at 1 [] none in
      let third : Holds (codes "third") rows None = fits.third ∙ named_at 2 [] none in
      let absent = has_held (codes "first") rows None first in
      let row = new_row (codes "first") v in
      subst (λ (rs : List Row). Fits (with_names (v ∷ []) given) rs)
      (sym (name_settled 1 (codes "first") first_found absent)) (record {
        options = λ (other : OptionName). found_before (long_name other) rows row
            (value_of other (with_names (v ∷ []) given)) (apart other).0.1 (as_before (v ∷ []) other);
        first = found_last (codes "first") rows row v refl refl absent;
        second = found_before (codes "second") rows row None refl second;
        third = found_before (codes "third") rows row None refl third;
        few = omega arith;
      })

  pub second_fits : (a : Text) → given.names ≡ a ∷ []
      → Fits (with_names (a ∷ v ∷ []) given) (settled_name (codes "second"))
  second_fits a one =
      let first : Holds (codes "first") rows (Some a) = fits.first ∙ named_at 0 (a ∷ []) one in
      let second : Holds (codes "second") rows None = fits.second ∙ named_at 1 (a ∷ []) one in
      let third : Holds (codes "third") rows None = fits.third ∙ named_at 2 (a ∷ []) one in
      let absent = has_held (codes "second") rows None second in
      let row = new_row (codes "second") v in
      subst (λ (rs : List Row). Fits (with_names (a ∷ v ∷ []) given) rs)
      (sym (name_settled 2 (codes "second") second_found absent)) (record {
        options = λ (other : OptionName). found_before (long_name other) rows row
            (value_of other (with_names (a ∷ v ∷ []) given)) (apart other).1.1 (as_before (a ∷ v ∷ []) other);
        first = found_before (codes "first") rows row (Some a) refl first;
        second = found_last (codes "second") rows row v refl refl absent;
        third = found_before (codes "third") rows row None refl third;
        few = omega arith;
      })

  pub third_fits : (a b : Text) → given.names ≡ a ∷ b ∷ []
      → Fits (with_names (a ∷ b ∷ v ∷ []) given) (settled_name (codes "third"))
  third_fits a b two =
      let first : Holds (codes "first") rows (Some a) = fits.first ∙ named_at 0 (a ∷ b ∷ []) two in
      let second : Holds (codes "second") rows (Some b) = fits.second ∙ named_at 1 (a ∷ b ∷ []) two in
      let third : Holds (codes "third") rows None = fits.third ∙ named_at 2 (a ∷ b ∷ []) two in
      let absent = has_held (codes "third") rows None third in
      let row = new_row (codes "third") v in
      subst (λ (rs : List Row). Fits (with_names (a ∷ b ∷ v ∷ []) given) rs)
      (sym (name_settled 3 (codes "third") third_found absent)) (record {
        options = λ (other : OptionName). found_before (long_name other) rows row
            (value_of other (with_names (a ∷ b ∷ v ∷ []) given)) (apart other).2.1 (as_before (a ∷ b ∷ v ∷ []) other);
        first = found_before (codes "first") rows row (Some a) refl first;
        second = found_before (codes "second") rows row (Some b) refl second;
        third = found_last (codes "third") rows row v refl refl absent;
        few = omega arith;
      })

  pub first_free : given.names ≡ [] → settle_fault rules false (held rows (Some (codes "first", v ∷ []))) ≡ []
  first_free none =
      let absent : has_row (codes "first") rows ≡ false =
      has_held (codes "first") rows None (fits.first ∙ named_at 0 [] none) in
      rw (first_found, absent) refl

  pub second_free : (a : Text) → given.names ≡ a ∷ []
      → settle_fault rules false (held rows (Some (codes "second", v ∷ []))) ≡ []
  second_free a one =
      let absent : has_row (codes "second") rows ≡ false =
      has_held (codes "second") rows None (fits.second ∙ named_at 1 (a ∷ []) one) in
      rw (second_found, absent) refl

  pub third_free : (a b : Text) → given.names ≡ a ∷ b ∷ []
      → settle_fault rules false (held rows (Some (codes "third", v ∷ []))) ≡ []
  third_free a b two =
      let absent : has_row (codes "third") rows ≡ false =
      has_held (codes "third") rows None (fits.third ∙ named_at 2 (a ∷ b ∷ []) two) in
      rw (third_found, absent) refl
