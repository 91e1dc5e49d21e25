-- Which of a hart's events an act has hangs on the hart's events alone; so it stays as it is while sequences are gathered.
use Rattle.std.proofs.Common.{◌≡◌, ℕ, zero, suc, List, [], ◌∷◌, filter, refl, sym, ap, ◌∙◌, Bool, true, false, not, cond, ◌&&◌}
use Rattle.log_gather.specs.Spans.{before_act, begins_act, from_act, goes_on, rest_of_act}
use Rattle.log_gather.specs.Facts.{Facts, is_of}

module _ {A : Type 0} (f : A → Facts) (h : ℕ) where
  abbrev own : A → Bool
  own x = is_of h (f x).entry

  abbrev owns : List A → List A
  owns xs = filter own xs

  goes_own : (xs : List A) → goes_on f h (owns xs) ≡ goes_on f h xs
  goes_own [] = refl
  goes_own (x ∷ xs) = go (own x) refl (goes_own xs)
    where
      go : (b : Bool) → own x ≡ b → goes_on f h (owns xs) ≡ goes_on f h xs → goes_on f h (cond b (x ∷ owns xs) (owns xs)) ≡ cond b (not (begins_act (f x))) (goes_on f h xs)
      go true is rest = ap (λ b. cond b (not (begins_act (f x))) (goes_on f h (owns xs))) is
      go false is rest = rest

  -- how many of its events come before an act
  pub before_own : (n : ℕ) (xs : List A) → owns (before_act f h n xs) ≡ before_act f h n (owns xs)
  before_own n [] = refl
  before_own zero (x ∷ xs) = go (own x) refl (begins_act (f x)) refl (before_own zero xs)
    where
      go : (b : Bool) → own x ≡ b → (c : Bool) → begins_act (f x) ≡ c → owns (before_act f h zero xs) ≡ before_act f h zero (owns xs)
          → owns (cond (b && c) [] (x ∷ before_act f h zero xs)) ≡ before_act f h zero (cond b (x ∷ owns xs) (owns xs))
      go true is true begins rest = rw is (rw begins refl)
      go true is false begins rest = rw is (rw begins (ap (λ l. x ∷ l) rest))
      go false is c begins rest = rw is rest
  before_own (suc n) (x ∷ xs) = go (own x) refl (begins_act (f x)) refl (before_own n xs) (before_own (suc n) xs)
    where
      go : (b : Bool) → own x ≡ b → (c : Bool) → begins_act (f x) ≡ c → owns (before_act f h n xs) ≡ before_act f h n (owns xs) → owns (before_act f h (suc n) xs) ≡ before_act f h (suc n) (owns xs)
          → owns (x ∷ cond (b && c) (before_act f h n xs) (before_act f h (suc n) xs)) ≡ before_act f h (suc n) (cond b (x ∷ owns xs) (owns xs))
      go true is true begins one other = rw is (rw begins (ap (λ l. x ∷ l) one))
      go true is false begins one other = rw is (rw begins (ap (λ l. x ∷ l) other))
      go false is c begins one other = rw is other

  -- and which come from its first on
  pub from_own : (n : ℕ) (xs : List A) → owns (from_act f h n xs) ≡ from_act f h n (owns xs)
  from_own n [] = refl
  from_own zero (x ∷ xs) = go (own x) refl (begins_act (f x)) refl (from_own zero xs)
    where
      go : (b : Bool) → own x ≡ b → (c : Bool) → begins_act (f x) ≡ c → owns (from_act f h zero xs) ≡ from_act f h zero (owns xs)
          → owns (cond (b && c) (x ∷ xs) (from_act f h zero xs)) ≡ from_act f h zero (cond b (x ∷ owns xs) (owns xs))
      go true is true begins rest = rw is (rw begins refl)
      go true is false begins rest = rw is (rw begins rest)
      go false is c begins rest = rest
  from_own (suc n) (x ∷ xs) = go (own x) refl (begins_act (f x)) refl (from_own n xs) (from_own (suc n) xs)
    where
      go : (b : Bool) → own x ≡ b → (c : Bool) → begins_act (f x) ≡ c → owns (from_act f h n xs) ≡ from_act f h n (owns xs) → owns (from_act f h (suc n) xs) ≡ from_act f h (suc n) (owns xs)
          → owns (cond (b && c) (from_act f h n xs) (from_act f h (suc n) xs)) ≡ from_act f h (suc n) (cond b (x ∷ owns xs) (owns xs))
      go true is true begins one other = rw is (rw begins one)
      go true is false begins one other = rw is (rw begins other)
      go false is c begins one other = other

  stops : (xs : List A) → goes_on f h xs ≡ false → rest_of_act f h xs ≡ []
  stops [] over = refl
  stops (x ∷ xs) over = rw over refl

  -- and how many it has after the first
  pub rest_own : (xs : List A) → owns (rest_of_act f h xs) ≡ rest_of_act f h (owns xs)
  rest_own [] = refl
  rest_own (x ∷ xs) = go (goes_on f h (x ∷ xs)) refl (own x) refl (rest_own xs)
    where
      go : (g : Bool) → goes_on f h (x ∷ xs) ≡ g → (b : Bool) → own x ≡ b → owns (rest_of_act f h xs) ≡ rest_of_act f h (owns xs)
          → owns (cond g (x ∷ rest_of_act f h xs) []) ≡ rest_of_act f h (cond b (x ∷ owns xs) (owns xs))
      go false goes b is rest = sym (stops (cond b (x ∷ owns xs) (owns xs)) (ap (λ b. goes_on f h (cond b (x ∷ owns xs) (owns xs))) (sym is) ∙ goes_own (x ∷ xs) ∙ goes))
      go true goes true is rest =
          let goes_there : goes_on f h (x ∷ owns xs) ≡ true = ap (λ b. goes_on f h (cond b (x ∷ owns xs) (owns xs))) (sym is) ∙ goes_own (x ∷ xs) ∙ goes in
          ap (λ b. cond b (x ∷ owns (rest_of_act f h xs)) (owns (rest_of_act f h xs))) is ∙ ap (λ l. x ∷ l) rest
          ∙ sym (ap (λ b. cond b (x ∷ rest_of_act f h (owns xs)) []) goes_there)
      go true goes false is rest = ap (λ b. cond b (x ∷ owns (rest_of_act f h xs)) (owns (rest_of_act f h xs))) is ∙ rest
