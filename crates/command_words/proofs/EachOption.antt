-- What holds of each option, and of all of them.
use Rattle.std.proofs.Common.{◌≡◌, ◌∙◌, ℕ, Bool, cond, true, false, List, [], ◌∷◌, ◌++◌, Some, refl, sym, ap, subst, codes}
use Rattle.std.specs.Prelude.{◌||◌, find, not}
use Rattle.std.specs.List.{list_all, list_any}
use Rattle.std.specs.Str.{bytes_eq}
use Rattle.std.proofs.lemmas.Bool.{and_parts}
use Rattle.std.proofs.lemmas.Slice.Eq.{bytes_eq-Decides}
use Rattle.command_words.specs.Options.{OptionName, Harts, Frames, Steps, Seed, Policy, Calm, After, RunCount, Until, By, Jobs, From, To, Memory, Expect, Places, Deep, Scripts, Without, Preemptions, OwnSignals, all_options, long_name, option_named}
use Rattle.command_words.specs.Options.{option_word, same_option}

-- an option is named by its word
pub named_back : (o : OptionName) → option_named (option_word o) ≡ Some o
named_back Harts = refl
named_back Frames = refl
named_back Steps = refl
named_back Seed = refl
named_back Policy = refl
named_back Calm = refl
named_back After = refl
named_back RunCount = refl
named_back Until = refl
named_back By = refl
named_back Jobs = refl
named_back From = refl
named_back To = refl
named_back Memory = refl
named_back Expect = refl
named_back Places = refl
named_back Deep = refl
named_back Scripts = refl
named_back Without = refl
named_back Preemptions = refl
named_back OwnSignals = refl

-- two texts agree in either order
pub other_way : (a b : List ℕ) → bytes_eq a b ≡ bytes_eq b a
other_way a b = go (bytes_eq a b) refl (bytes_eq b a) refl
  where
    go : (x : Bool) → bytes_eq a b ≡ x → (y : Bool) → bytes_eq b a ≡ y → x ≡ y
    go true is true back = refl
    go false is false back = refl
    go true is false back =
        let agree : bytes_eq b a ≡ true = (bytes_eq-Decides b a).1 (sym ((bytes_eq-Decides a b).0 is)) in
        absurd (cc (agree, back))
    go false is true back =
        let agree : bytes_eq a b ≡ true = (bytes_eq-Decides a b).1 (sym ((bytes_eq-Decides b a).0 back)) in
        absurd (cc (agree, is))

-- so an option is among all options
found_among : (o : OptionName) (options : List OptionName)
    → find (λ x. bytes_eq (option_word o) (option_word x)) options ≡ Some o
    → list_any (λ x. same_option x o) options ≡ true
found_among o [] is = absurd (cc is)
found_among o (x ∷ options) is = go (bytes_eq (option_word o) (option_word x)) refl (found_among o options) is
  where
    go : (b : Bool) → bytes_eq (option_word o) (option_word x) ≡ b
        → (find (λ x. bytes_eq (option_word o) (option_word x)) options ≡ Some o
        → list_any (λ x. same_option x o) options ≡ true)
        → cond b (Some x) (find (λ x. bytes_eq (option_word o) (option_word x)) options) ≡ Some o
        → (same_option x o || list_any (λ x. same_option x o) options) ≡ true
    go true same later is =
        let first : same_option x o ≡ true = other_way (option_word x) (option_word o) ∙ same in
        rw first refl
    go false other later is =
        let first : same_option x o ≡ false = other_way (option_word x) (option_word o) ∙ other in
        rw first (later is)

is_one : (o : OptionName) → list_any (λ x. same_option x o) all_options ≡ true
is_one o = found_among o all_options (named_back o)

-- two options are told apart by their words
pub same_self : (o : OptionName) → same_option o o ≡ true
same_self o = (bytes_eq-Decides (option_word o) (option_word o)).1 refl

pub same_is : (one other : OptionName) → same_option one other ≡ true → one ≡ other
same_is one other is =
    let words : option_word one ≡ option_word other = (bytes_eq-Decides (option_word one) (option_word other)).0 is in
    let both : Some one ≡ Some other = sym (named_back one) ∙ ap option_named words ∙ named_back other in
    cc both

-- and by their names
pub names_apart : (one other : OptionName) → same_option one other ≡ false
    → bytes_eq (long_name one) (long_name other) ≡ false
names_apart one other apart = go (bytes_eq (long_name one) (long_name other)) refl
  where
    go : (b : Bool) → bytes_eq (long_name one) (long_name other) ≡ b → b ≡ false
    go false is = refl
    go true is =
        let names = (bytes_eq-Decides (long_name one) (long_name other)).0 is in
        let words : option_word one ≡ option_word other = ap (λ name. codes "--" ++ name) names in
        let same = (bytes_eq-Decides (option_word one) (option_word other)).1 words in
        absurd (cc (same, apart))

-- what each option passes, all do
all_pass : {A : Type 0} (f : A → Bool) (xs : List A) → ((x : A) → f x ≡ true) → list_all f xs ≡ true
all_pass f [] each = refl
all_pass f (x ∷ xs) each = rw (each x) (all_pass f xs each)

pub all_of : (f : OptionName → Bool) → ((o : OptionName) → f o ≡ true) → list_all f all_options ≡ true
all_of f each = all_pass f all_options each

-- what all options pass, each does
passes_among : (f : OptionName → Bool) (options : List OptionName) (o : OptionName)
    → list_any (λ x. same_option x o) options ≡ true → list_all f options ≡ true → f o ≡ true
passes_among f [] o there all = absurd (cc there)
passes_among f (x ∷ options) o there all =
    let both = and_parts (f x) (list_all f options) all in
    go (λ later. passes_among f options o later both.1) both.0 (same_option x o) refl there
  where
    go : (list_any (λ x. same_option x o) options ≡ true → f o ≡ true) → f x ≡ true → (b : Bool) → same_option x o ≡ b
        → (b || list_any (λ x. same_option x o) options) ≡ true → f o ≡ true
    go later first true is there = subst (λ (n : OptionName). f n ≡ true) (same_is x o is) first
    go later first false is there = later there

pub each_of : (f : OptionName → Bool) → list_all f all_options ≡ true → (o : OptionName) → f o ≡ true
each_of f all o = passes_among f all_options o (is_one o) all

-- where one fails, not all pass
pub one_fails : (f : OptionName → Bool) (o : OptionName) → f o ≡ false → list_all f all_options ≡ false
one_fails f o fails = go (list_all f all_options) refl
  where
    go : (b : Bool) → list_all f all_options ≡ b → b ≡ false
    go false is = refl
    go true is = absurd (cc (sym (each_of f is o) ∙ fails))

-- what is found passes
pub found_passes : {A : Type 0} (f : A → Bool) (xs : List A) (x : A) → find f xs ≡ Some x → f x ≡ true
found_passes f [] x is = absurd (cc is)
found_passes {A} f (y ∷ xs) x is = go (found_passes f xs x) (f y) refl is
  where
    go : (find f xs ≡ Some x → f x ≡ true) → (b : Bool) → f y ≡ b → cond b (Some y) (find f xs) ≡ Some x → f x ≡ true
    go later true passes is =
        let same : y ≡ x = cc is in
        subst (λ (z : A). f z ≡ true) same passes
    go later false fails is = later is

-- what a computation over all options finds to be false of each, is false of each
pub none_passes : (f : OptionName → Bool) → list_all (λ o. not (f o)) all_options ≡ true → (o : OptionName) → f o ≡ false
none_passes f none o = go (f o) (each_of (λ o. not (f o)) none o)
  where
    go : (b : Bool) → not b ≡ true → b ≡ false
    go true is = absurd (cc is)
    go false is = refl
