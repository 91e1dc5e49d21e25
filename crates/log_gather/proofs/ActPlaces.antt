-- Where an act of a hart begins: at the event before which so many acts of the hart began.
use Rattle.std.proofs.Common.{◌≡◌, ℕ, zero, suc, List, [], ◌∷◌, ◌++◌, map, refl, ap, ◌∙◌, arith, Bool, true, false, not, cond}
use Rattle.log_gather.specs.Facts.{Facts, is_of}
use Rattle.log_gather.specs.Spans.{after_act, begins_act, begins_own, before_act, from_act, goes_on, rest_of_act}

-- how many acts of a hart begin in a stretch
abbrev pub acts_begun : {A : Type 0} → (A → Facts) → ℕ → List A → ℕ
acts_begun f h [] = zero
acts_begun f h (x ∷ xs) = cond (begins_own h (f x)) (suc (acts_begun f h xs)) (acts_begun f h xs)

module _ {A : Type 0} (f : A → Facts) (h : ℕ) (x : A) (ys : List A) (begins : begins_own h (f x) ≡ true) where
  pub before_at : (n : ℕ) (xs : List A) → n ≡ acts_begun f h xs → before_act f h n (xs ++ x ∷ ys) ≡ xs
  before_at zero [] is = ap (λ b. cond b [] (x ∷ before_act f h zero ys)) begins
  before_at (suc n) [] is = absurd (omega (arith, is))
  before_at zero (y ∷ xs) is = go (begins_own h (f y)) is (before_at zero xs)
    where
      go : (b : Bool) → zero ≡ cond b (suc (acts_begun f h xs)) (acts_begun f h xs)
          → (zero ≡ acts_begun f h xs → before_act f h zero (xs ++ x ∷ ys) ≡ xs)
          → cond b [] (y ∷ before_act f h zero (xs ++ x ∷ ys)) ≡ y ∷ xs
      go true is rest = absurd (omega (arith, is))
      go false is rest = ap (λ l. y ∷ l) (rest is)
  before_at (suc n) (y ∷ xs) is = go (begins_own h (f y)) is (before_at n xs) (before_at (suc n) xs)
    where
      go : (b : Bool) → suc n ≡ cond b (suc (acts_begun f h xs)) (acts_begun f h xs)
          → (n ≡ acts_begun f h xs → before_act f h n (xs ++ x ∷ ys) ≡ xs)
          → (suc n ≡ acts_begun f h xs → before_act f h (suc n) (xs ++ x ∷ ys) ≡ xs)
          → y ∷ cond b (before_act f h n (xs ++ x ∷ ys)) (before_act f h (suc n) (xs ++ x ∷ ys)) ≡ y ∷ xs
      go true is one other = ap (λ l. y ∷ l) (one (omega (arith, is)))
      go false is one other = ap (λ l. y ∷ l) (other is)

  pub from_at : (n : ℕ) (xs : List A) → n ≡ acts_begun f h xs → from_act f h n (xs ++ x ∷ ys) ≡ x ∷ ys
  from_at zero [] is = ap (λ b. cond b (x ∷ ys) (from_act f h zero ys)) begins
  from_at (suc n) [] is = absurd (omega (arith, is))
  from_at zero (y ∷ xs) is = go (begins_own h (f y)) is (from_at zero xs)
    where
      go : (b : Bool) → zero ≡ cond b (suc (acts_begun f h xs)) (acts_begun f h xs)
          → (zero ≡ acts_begun f h xs → from_act f h zero (xs ++ x ∷ ys) ≡ x ∷ ys)
          → cond b (y ∷ (xs ++ x ∷ ys)) (from_act f h zero (xs ++ x ∷ ys)) ≡ x ∷ ys
      go true is rest = absurd (omega (arith, is))
      go false is rest = rest is
  from_at (suc n) (y ∷ xs) is = go (begins_own h (f y)) is (from_at n xs) (from_at (suc n) xs)
    where
      go : (b : Bool) → suc n ≡ cond b (suc (acts_begun f h xs)) (acts_begun f h xs)
          → (n ≡ acts_begun f h xs → from_act f h n (xs ++ x ∷ ys) ≡ x ∷ ys)
          → (suc n ≡ acts_begun f h xs → from_act f h (suc n) (xs ++ x ∷ ys) ≡ x ∷ ys)
          → cond b (from_act f h n (xs ++ x ∷ ys)) (from_act f h (suc n) (xs ++ x ∷ ys)) ≡ x ∷ ys
      go true is one other = one (omega (arith, is))
      go false is one other = other is

-- of events that are read through a map
module _ {A B : Type 0} (f : B → Facts) (g : A → B) (h : ℕ) where
  abbrev through : A → Facts
  through x = f (g x)

  pub acts_begun_map : (xs : List A) → acts_begun f h (map g xs) ≡ acts_begun through h xs
  acts_begun_map [] = refl
  acts_begun_map (x ∷ xs) = ap (λ n. cond (begins_own h (f (g x))) (suc n) n) (acts_begun_map xs)

  pub goes_on_map : (xs : List A) → goes_on f h (map g xs) ≡ goes_on through h xs
  goes_on_map [] = refl
  goes_on_map (x ∷ xs) = ap (cond (is_of h (f (g x)).entry) (not (begins_act (f (g x))))) (goes_on_map xs)

  pub rest_of_act_map : (xs : List A) → rest_of_act f h (map g xs) ≡ map g (rest_of_act through h xs)
  rest_of_act_map [] = refl
  rest_of_act_map (x ∷ xs) = ap (λ b. cond b (g x ∷ rest_of_act f h (map g xs)) []) (goes_on_map (x ∷ xs)) ∙ go (goes_on through h (x ∷ xs)) (rest_of_act_map xs)
    where
      go : (b : Bool) → rest_of_act f h (map g xs) ≡ map g (rest_of_act through h xs)
          → cond b (g x ∷ rest_of_act f h (map g xs)) [] ≡ map g (cond b (x ∷ rest_of_act through h xs) [])
      go true rest = ap (λ l. g x ∷ l) rest
      go false rest = refl

  pub after_act_map : (xs : List A) → after_act f h (map g xs) ≡ map g (after_act through h xs)
  after_act_map [] = refl
  after_act_map (x ∷ xs) = ap (λ b. cond b (after_act f h (map g xs)) (g x ∷ map g xs)) (goes_on_map (x ∷ xs)) ∙ go (goes_on through h (x ∷ xs)) (after_act_map xs)
    where
      go : (b : Bool) → after_act f h (map g xs) ≡ map g (after_act through h xs)
          → cond b (after_act f h (map g xs)) (g x ∷ map g xs) ≡ map g (cond b (after_act through h xs) (x ∷ xs))
      go true rest = rest
      go false rest = refl

-- an act and what follows it are the whole
module _ {A : Type 0} (f : A → Facts) (h : ℕ) where
  pub act_and_after : (xs : List A) → rest_of_act f h xs ++ after_act f h xs ≡ xs
  act_and_after [] = refl
  act_and_after (x ∷ xs) = go (goes_on f h (x ∷ xs)) (act_and_after xs)
    where
      go : (b : Bool) → rest_of_act f h xs ++ after_act f h xs ≡ xs
          → cond b (x ∷ rest_of_act f h xs) [] ++ cond b (after_act f h xs) (x ∷ xs) ≡ x ∷ xs
      go true rest = ap (λ l. x ∷ l) rest
      go false rest = refl
