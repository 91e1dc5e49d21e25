-- What `clap` takes a word for, and what the grammar does.
use Rattle.std.proofs.Common.{◌≡◌, ◌⊎◌, inl, inr, ℕ, Bool, true, false, List, [], ◌∷◌}
use Rattle.std.proofs.Common.{◌++◌, ◌∙◌, map, Option, Some, None, ap, refl, sym, subst, codes}
use Rattle.std.proofs.lemmas.Slice.Eq.{bytes_eq-Decides}
use Rattle.std.proofs.lemmas.Bool.Decides.{Decides-eqb}
use Rattle.std.specs.Prelude.{◌==◌, ◌&&◌, find}
use Rattle.std.specs.List.{list_any}
use Rattle.std.specs.Str.{bytes_eq}
use Rattle.clap.specs.Walk.{Rule, Text, arg_by_id, arg_by_index, arg_by_long, arg_by_short}
use Rattle.clap.specs.Simple.{Shape, built, filled, new_shape}
use Rattle.clap.specs.Words.{new_rule}
use Rattle.command_words.specs.Line.{line, option_rule}
use Rattle.command_words.specs.Options.{OptionName, all_options, long_name, option_named, option_word}
use Rattle.command_words.proofs.EachOption.{named_back, other_way}

-- a word is of one of these forms
pub by_form : (P : Text → Type 0) → P [] → P (45 ∷ []) → P (45 ∷ 45 ∷ [])
    → ((z : ℕ) (rest : Text) → P (45 ∷ 45 ∷ z ∷ rest))
    → ((y : ℕ) (rest : Text) → (y == 45) ≡ false → P (45 ∷ y ∷ rest))
    → ((x : ℕ) (rest : Text) → (x == 45) ≡ false → (45 == x) ≡ false → P (x ∷ rest))
    → (word : Text) → P word
by_form P nothing dash dashes long short plain [] = nothing
by_form P nothing dash dashes long short plain (x ∷ rest) = first (x == 45) refl
  where
    third : (more : Text) → P (45 ∷ 45 ∷ more)
    third [] = dashes
    third (z ∷ more) = long z more

    second : (y : ℕ) (more : Text) (b : Bool) → (y == 45) ≡ b → P (45 ∷ y ∷ more)
    second y more true is = subst (λ (n : ℕ). P (45 ∷ n ∷ more)) (sym ((Decides-eqb y 45).0 is)) (third more)
    second y more false is = short y more is

    behind : (more : Text) → P (45 ∷ more)
    behind [] = dash
    behind (y ∷ more) = second y more (y == 45) refl

    turned : (b : Bool) → (45 == x) ≡ b → (x == 45) ≡ false → (45 == x) ≡ false
    turned false is not_dash = is
    turned true is not_dash =
        let same : 45 ≡ x = (Decides-eqb 45 x).0 is in
        let bad : (45 == 45) ≡ false = subst (λ (n : ℕ). (n == 45) ≡ false) (sym same) not_dash in
        absurd (cc bad)

    first : (b : Bool) → (x == 45) ≡ b → P (x ∷ rest)
    first true is = subst (λ (n : ℕ). P (n ∷ rest)) (sym ((Decides-eqb x 45).0 is)) (behind rest)
    first false is = plain x rest is (turned (45 == x) refl is)

-- ---- the rules of a line

abbrev pub option_built : Text → Rule
option_built name = filled (option_rule name)

abbrev pub name_built : ℕ → Text → Rule
name_built place name = record (filled (new_rule name)) { index = Some place }

abbrev name_rules : List Rule
name_rules = name_built 1 (codes "first") ∷ name_built 2 (codes "second") ∷ name_built 3 (codes "third") ∷ []

abbrev rules_with : List OptionName → List Rule
rules_with options = map (λ option. option_built (long_name option)) options ++ name_rules

-- the rules of a line, which other proofs know by the laws below alone
pub rules : List Rule
rules = rules_with all_options

-- and what else is read of a line
abbrev pub shape : Shape
shape = record (new_shape (codes "rseq_run")) {
  rules = rules;
  no_binary_name = true;
  disable_help_flag = true;
  disable_help_subcommand = true;
  is_built = true;
}

pub line_built : built line ≡ record { top = shape; subs = [] }
unfolding rules
line_built = refl

-- ---- options

abbrev named_among : List OptionName → Text → Option OptionName
named_among options word = find (λ option. bytes_eq word (option_word option)) options

-- a name is that of this option, which its word and both ways to look for a rule find
record IsOption (options : List OptionName) (name : Text) : Type 0 where
  option : OptionName
  is : name ≡ long_name option
  named : named_among options (45 ∷ 45 ∷ name) ≡ Some option
  by_long : arg_by_long (rules_with options) name ≡ Some (option_built (long_name option))
  by_id : arg_by_id (rules_with options) name ≡ Some (option_built (long_name option))

-- or no option's, and none is found
record IsNoOption (options : List OptionName) (name : Text) : Type 0 where
  named : named_among options (45 ∷ 45 ∷ name) ≡ None
  by_long : arg_by_long (rules_with options) name ≡ None
  by_id : arg_by_id (rules_with options) name ≡ arg_by_id name_rules name

told_among : (name : Text) (options : List OptionName) → IsOption options name ⊎ IsNoOption options name
told_among name [] = inr (record { named = refl; by_long = refl; by_id = refl })
told_among name (first ∷ options) = go (bytes_eq name (long_name first)) refl (told_among name options)
  where
    go : (b : Bool) → bytes_eq name (long_name first) ≡ b → IsOption options name ⊎ IsNoOption options name
        → IsOption (first ∷ options) name ⊎ IsNoOption (first ∷ options) name
    go true is later =
        let back : bytes_eq (long_name first) name ≡ true = other_way (long_name first) name ∙ is in
        inl (record {
          option = first;
          is = (bytes_eq-Decides name (long_name first)).0 is;
          named = rw is refl;
          by_long = rw back refl;
          by_id = rw back refl;
        })
    go false is (inl found) =
        let back : bytes_eq (long_name first) name ≡ false = other_way (long_name first) name ∙ is in
        inl (record {
          option = found.option;
          is = found.is;
          named = rw is found.named;
          by_long = rw back found.by_long;
          by_id = rw back found.by_id;
        })
    go false is (inr none) =
        let back : bytes_eq (long_name first) name ≡ false = other_way (long_name first) name ∙ is in
        inr (record {
          named = rw is none.named;
          by_long = rw back none.by_long;
          by_id = rw back none.by_id;
        })

-- a long name is an option's, or none
abbrev pub IsNamed : Text → Type 0
IsNamed name =
    ((option : OptionName) × (name ≡ long_name option) × (option_named (45 ∷ 45 ∷ name) ≡ Some option))
    ⊎ ((arg_by_long rules name ≡ None) × (option_named (45 ∷ 45 ∷ name) ≡ None))

pub long_named : (name : Text) → IsNamed name
unfolding rules
long_named name = elim (told_among name all_options) [
  | inl found ↦ inl (found.option, found.is, found.named)
  | inr none ↦ inr (none.by_long, none.named)
]

-- an option's rule is found by its name
pub option_found : (o : OptionName) → (arg_by_long rules (long_name o) ≡ Some (option_built (long_name o)))
    × (arg_by_id rules (long_name o) ≡ Some (option_built (long_name o)))
unfolding rules
option_found o = elim (told_among (long_name o) all_options) [
  | inl found ↦
      let same : option_built (long_name found.option) ≡ option_built (long_name o) = ap option_built (sym found.is) in
      (found.by_long ∙ ap Some same, found.by_id ∙ ap Some same)
  | inr none ↦ absurd (cc (sym (named_back o) ∙ none.named))
]

-- ---- names

-- a name's rule is found by its place, and there are three
pub name_at_1 : arg_by_index rules 1 ≡ Some (name_built 1 (codes "first"))
unfolding rules
name_at_1 = refl

pub name_at_2 : arg_by_index rules 2 ≡ Some (name_built 2 (codes "second"))
unfolding rules
name_at_2 = refl

pub name_at_3 : arg_by_index rules 3 ≡ Some (name_built 3 (codes "third"))
unfolding rules
name_at_3 = refl

pub none_at_4 : arg_by_index rules 4 ≡ None
unfolding rules
none_at_4 = refl

-- and by its own name
pub first_found : arg_by_id rules (codes "first") ≡ Some (name_built 1 (codes "first"))
unfolding rules
first_found = refl

pub second_found : arg_by_id rules (codes "second") ≡ Some (name_built 2 (codes "second"))
unfolding rules
second_found = refl

pub third_found : arg_by_id rules (codes "third") ≡ Some (name_built 3 (codes "third"))
unfolding rules
third_found = refl

-- ---- what no rule has

-- no rule has a letter
no_short_among : (x : ℕ) (options : List OptionName) → arg_by_short (rules_with options) x ≡ None
no_short_among x [] = refl
no_short_among x (first ∷ options) = no_short_among x options

pub no_short : (x : ℕ) → arg_by_short rules x ≡ None
unfolding rules
no_short x = no_short_among x all_options

-- nor a value where none is given
abbrev pub HasNoDefaults : List Rule → Type 0
HasNoDefaults [] = Unit {0}
HasNoDefaults (rule ∷ rest) = (rule.defaults ≡ []) × HasNoDefaults rest

no_defaults_among : (options : List OptionName) → HasNoDefaults (rules_with options)
no_defaults_among [] = (refl, (refl, (refl, tt)))
no_defaults_among (first ∷ options) = (refl, no_defaults_among options)

pub no_defaults : HasNoDefaults rules
unfolding rules
no_defaults = no_defaults_among all_options

-- and none is required
none_required_among : (f : Rule → Bool) (options : List OptionName)
    → list_any (λ rule. rule.required && f rule) (rules_with options) ≡ false
none_required_among f [] = refl
none_required_among f (first ∷ options) = none_required_among f options

pub none_required : (f : Rule → Bool) → list_any (λ rule. rule.required && f rule) rules ≡ false
unfolding rules
none_required f = none_required_among f all_options
