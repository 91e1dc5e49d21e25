-- The first `=` of a word, as `clap` and as the grammar see it.
use Rattle.std.proofs.Common.{◌≡◌, ◌∙◌, ℕ, ◌+◌, Bool, cond, true, false, ltb, [], ◌∷◌}
use Rattle.std.proofs.Common.{length, drop, Some, None, refl, sym, ap, suc, arith, add-one}
use Rattle.std.proofs.Common.{option_map, lt-ltb}
use Rattle.std.proofs.lemmas.Bool.Decides.{nat_tests}
use Rattle.std.specs.Prelude.{◌==◌, ◌||◌, not}
use Rattle.std.specs.List.{after_first, before_first, list_any, position_or_len}
use Rattle.clap.specs.Lexer.{name_and_value}
use Rattle.clap.specs.Walk.{Text}
use Rattle.command_words.specs.Options.{option_named}
use Rattle.command_words.specs.Words.{behind_equals, is_equals, option_read, word_read, Options}
use Rattle.command_words.specs.Grammar.{is_option}

one_more : (n : ℕ) → 1 + n ≡ suc n
one_more n = omega arith

-- a word whose first byte is no `=`
pub before_later : (x : ℕ) (rest : Text) → is_equals x ≡ false → before_first is_equals (x ∷ rest)
    ≡ x ∷ before_first is_equals rest
before_later x rest no_equals = rw (no_equals, one_more (position_or_len is_equals rest)) refl

within_later : (n m : ℕ) → ltb (1 + n) (suc m) ≡ ltb n m
within_later n m = go (ltb n m) refl
  where
    go : (b : Bool) → ltb n m ≡ b → ltb (1 + n) (suc m) ≡ b
    go true is = grind (arith, nat_tests)
    go false is = grind (arith, nat_tests)

there : (rest : Text) → list_any is_equals rest ≡ ltb (position_or_len is_equals rest) (length rest)
there [] = refl
there (x ∷ rest) = go (is_equals x) (there rest)
  where
    go : (b : Bool) → list_any is_equals rest ≡ ltb (position_or_len is_equals rest) (length rest)
        → (b || list_any is_equals rest) ≡ ltb (cond (not b) (1 + position_or_len is_equals rest) 0)
        (suc (length rest))
    go true e = sym (lt-ltb 0 (suc (length rest)) (omega arith))
    go false e = e ∙ sym (within_later (position_or_len is_equals rest) (length rest))

pub behind_later : (x : ℕ) (rest : Text) → is_equals x ≡ false → behind_equals (x ∷ rest) ≡ behind_equals rest
behind_later x rest no_equals = rw (no_equals, within_later (position_or_len is_equals rest) (length rest))
    (go (ltb (position_or_len is_equals rest) (length rest)) refl)
  where
    go : (b : Bool) → ltb (position_or_len is_equals rest) (length rest) ≡ b
        → option_map (λ place. drop (place + 1) (x ∷ rest)) (cond b (Some (1 + position_or_len is_equals rest)) None)
        ≡ option_map (λ place. drop (place + 1) rest) (cond b (Some (position_or_len is_equals rest)) None)
    go true e = rw (
      add-one (position_or_len is_equals rest),
      one_more (position_or_len is_equals rest),
      add-one (suc (position_or_len is_equals rest)),
    ) refl
    go false e = refl

pub behind_is : (rest : Text) → behind_equals rest ≡ (name_and_value rest).1
behind_is rest = rw (there rest) (go (ltb (position_or_len is_equals rest) (length rest)))
  where
    go : (b : Bool) → option_map (λ place. drop (place + 1) rest)
        (cond b (Some (position_or_len is_equals rest)) None)
        ≡ cond b (Some (after_first is_equals rest)) None
    go true = refl
    go false = refl

pub long_read : (z : ℕ) (more : Text) → word_read Options (45 ∷ 45 ∷ z ∷ more)
    ≡ option_read (option_named (45 ∷ 45 ∷ (name_and_value (z ∷ more)).0)) (name_and_value (z ∷ more)).1
long_read z more =
    let long : is_option (45 ∷ 45 ∷ z ∷ more) ≡ true = rw (lt-ltb 1 (length (45 ∷ 45 ∷ z ∷ more)) (omega arith))
    refl in
    let name = before_later 45 (45 ∷ z ∷ more) refl ∙ ap (λ (t : Text). 45 ∷ t) (before_later 45 (z ∷ more) refl) in
    let behind = behind_later 45 (45 ∷ z ∷ more) refl ∙ behind_later 45 (z ∷ more) refl ∙ behind_is (z ∷ more) in
    rw (long, name, behind) refl

short_named : (y : ℕ) (more : Text) → (y == 45) ≡ false → option_named (45 ∷ before_first is_equals (y ∷ more)) ≡ None
short_named y more e = go (is_equals y) refl
  where
    go : (b : Bool) → is_equals y ≡ b → option_named (45 ∷ before_first is_equals (y ∷ more)) ≡ None
    go true is = rw is refl
    go false is = rw (before_later y more is, e) refl

pub short_unread : (y : ℕ) (more : Text) → (y == 45) ≡ false → word_read Options (45 ∷ y ∷ more) ≡ None
short_unread y more e =
    let long : is_option (45 ∷ y ∷ more) ≡ true = rw (lt-ltb 1 (length (45 ∷ y ∷ more)) (omega arith)) refl in
    let name = before_later 45 (y ∷ more) refl in
    rw (e, long, name, short_named y more e) refl
