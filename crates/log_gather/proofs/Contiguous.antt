-- A sequence that is gathered stands together, and stays so while others are gathered.
use Rattle.std.proofs.Common.{◌≡◌, ◌≢◌, ℕ, zero, suc, List, [], ◌∷◌, ◌++◌, filter, refl, sym, ap, ◌∙◌, subst, Bool, true, false, not, cond, ◌&&◌, inl, inr, append_assoc}
use Rattle.std.specs.List.{AllByRecursion}
use Rattle.std.proofs.lemmas.Bool.{and_parts, cases_eq, eqb-true, false≢true, ne_eqb, not-true}
use Rattle.log_gather.specs.Spans.{after_act, before_act, begins_act, begins_own, from_act, goes_on, is_together, is_unbroken, is_unbroken_from, rest_of_act}
use Rattle.log_gather.specs.Facts.{Facts, is_of}

module _ {A : Type 0} (f : A → Facts) where
  abbrev pub own : ℕ → A → Bool
  own h x = is_of h (f x).entry

  abbrev pub owns : ℕ → List A → List A
  owns h xs = filter (own h) xs

  abbrev pub rest : ℕ → List A → List A
  rest h xs = filter (λ x. not (own h x)) xs

  -- whether an act goes on hangs on the hart's events alone
  goes_on_same : (h : ℕ) (b xs ys : List A) → goes_on f h xs ≡ goes_on f h ys → goes_on f h (b ++ xs) ≡ goes_on f h (b ++ ys)
  goes_on_same h [] xs ys same = same
  goes_on_same h (x ∷ b) xs ys same = ap (cond (own h x) (not (begins_act (f x)))) (goes_on_same h b xs ys same)

  -- what isn't of the hart is passed over
  passes_others : (h : ℕ) (b xs : List A) → AllByRecursion (λ x. own h x ≡ false) b → goes_on f h (b ++ xs) ≡ goes_on f h xs
  passes_others h [] xs all = refl
  passes_others h (x ∷ b) xs all = rw (all.0) (passes_others h b xs all.1)

  from_others : (h n : ℕ) (b xs : List A) → AllByRecursion (λ x. own h x ≡ false) b → from_act f h n (b ++ xs) ≡ from_act f h n xs
  from_others h n [] xs all = refl
  from_others h zero (x ∷ b) xs all = rw (all.0) (from_others h zero b xs all.1)
  from_others h (suc n) (x ∷ b) xs all = rw (all.0) (from_others h (suc n) b xs all.1)

  -- where no act goes on it is unbroken
  over_unbroken : (h : ℕ) (xs : List A) → goes_on f h xs ≡ false → is_unbroken f h xs ≡ true
  over_unbroken h [] over = refl
  over_unbroken h (x ∷ xs) over = rw over refl

  -- A PART BEFORE

  -- what follows a part may be exchanged for what holds as much
  pub record IsAsTogether (h : ℕ) (xs ys : List A) : Type 0 where
    pub goes : goes_on f h xs ≡ goes_on f h ys
    pub unbroken : is_unbroken f h xs ≡ true → is_unbroken f h ys ≡ true
    pub together : (n : ℕ) → is_together f h n xs ≡ true → is_together f h n ys ≡ true

  unbroken_before : (h : ℕ) (b xs ys : List A) → IsAsTogether h xs ys → is_unbroken f h (b ++ xs) ≡ true → is_unbroken f h (b ++ ys) ≡ true
  unbroken_before h [] xs ys like is = like.unbroken is
  unbroken_before h (x ∷ b) xs ys like is = go (goes_on f h (x ∷ (b ++ xs))) (goes_on f h (x ∷ (b ++ ys))) (goes_on_same h (x ∷ b) xs ys like.goes) is (unbroken_before h b xs ys like)
    where
      go : (p q : Bool) → p ≡ q → cond p (own h x && is_unbroken f h (b ++ xs)) true ≡ true → (is_unbroken f h (b ++ xs) ≡ true → is_unbroken f h (b ++ ys) ≡ true)
          → cond q (own h x && is_unbroken f h (b ++ ys)) true ≡ true
      go p false same is more = refl
      go true true same is more = let t = and_parts (own h x) (is_unbroken f h (b ++ xs)) is in rw (t.0) (more t.1)
      go false true same is more = absurd (false≢true same)

  pub together_before : (h n : ℕ) (b xs ys : List A) → IsAsTogether h xs ys → is_together f h n (b ++ xs) ≡ true → is_together f h n (b ++ ys) ≡ true
  together_before h n [] xs ys like is = like.together n is
  together_before h zero (x ∷ b) xs ys like is = go (begins_own h (f x)) is (together_before h zero b xs ys like) (unbroken_before h b xs ys like)
    where
      go : (p : Bool) → is_unbroken_from f h (cond p (x ∷ (b ++ xs)) (from_act f h zero (b ++ xs))) ≡ true → (is_together f h zero (b ++ xs) ≡ true → is_together f h zero (b ++ ys) ≡ true)
          → (is_unbroken f h (b ++ xs) ≡ true → is_unbroken f h (b ++ ys) ≡ true) → is_unbroken_from f h (cond p (x ∷ (b ++ ys)) (from_act f h zero (b ++ ys))) ≡ true
      go true is more here = here is
      go false is more here = more is
  together_before h (suc n) (x ∷ b) xs ys like is = go (begins_own h (f x)) is (together_before h n b xs ys like) (together_before h (suc n) b xs ys like)
    where
      go : (p : Bool) → is_unbroken_from f h (cond p (from_act f h n (b ++ xs)) (from_act f h (suc n) (b ++ xs))) ≡ true → (is_together f h n (b ++ xs) ≡ true → is_together f h n (b ++ ys) ≡ true)
          → (is_together f h (suc n) (b ++ xs) ≡ true → is_together f h (suc n) (b ++ ys) ≡ true) → is_unbroken_from f h (cond p (from_act f h n (b ++ ys)) (from_act f h (suc n) (b ++ ys))) ≡ true
      go true is one other = one is
      go false is one other = other is

  -- A SPAN OF HART k

  pub goes_over : (k : ℕ) (xs : List A) → goes_on f k (after_act f k xs) ≡ false
  goes_over k [] = refl
  goes_over k (x ∷ xs) = go (goes_on f k (x ∷ xs)) refl (goes_over k xs)
    where
      go : (b : Bool) → goes_on f k (x ∷ xs) ≡ b → goes_on f k (after_act f k xs) ≡ false → goes_on f k (cond b (after_act f k xs) (x ∷ xs)) ≡ false
      go true is rest = rest
      go false is rest = is

  -- after the first, those of the hart begin no act
  abbrev pub Continues : ℕ → A → Type 0
  Continues k x = own k x ≡ true → begins_act (f x) ≡ false

  pub none_begins : (k : ℕ) (xs : List A) → AllByRecursion (Continues k) (rest_of_act f k xs)
  none_begins k [] = tt
  none_begins k (x ∷ xs) = go (goes_on f k (x ∷ xs)) refl (none_begins k xs)
    where
      go : (b : Bool) → goes_on f k (x ∷ xs) ≡ b → AllByRecursion (Continues k) (rest_of_act f k xs) → AllByRecursion (Continues k) (cond b (x ∷ rest_of_act f k xs) [])
      go true is rest = (λ own_is. not-true (begins_act (f x)) (sym (ap (λ b. cond b (not (begins_act (f x))) (goes_on f k xs)) own_is) ∙ is), rest)
      go false is rest = tt

  from_none : (k n : ℕ) (b xs : List A) → AllByRecursion (Continues k) b → from_act f k n (b ++ xs) ≡ from_act f k n xs
  from_none k n [] xs all = refl
  from_none k zero (x ∷ b) xs all = go (own k x) (all.0) (from_none k zero b xs all.1)
    where
      go : (p : Bool) → (p ≡ true → begins_act (f x) ≡ false) → from_act f k zero (b ++ xs) ≡ from_act f k zero xs → cond (p && begins_act (f x)) (x ∷ (b ++ xs)) (from_act f k zero (b ++ xs)) ≡ from_act f k zero xs
      go true never rest = rw (never refl) rest
      go false never rest = rest
  from_none k (suc n) (x ∷ b) xs all = go (own k x) (all.0) (from_none k (suc n) b xs all.1)
    where
      go : (p : Bool) → (p ≡ true → begins_act (f x) ≡ false) → from_act f k (suc n) (b ++ xs) ≡ from_act f k (suc n) xs → cond (p && begins_act (f x)) (from_act f k n (b ++ xs)) (from_act f k (suc n) (b ++ xs)) ≡ from_act f k (suc n) xs
      go true never rest = rw (never refl) rest
      go false never rest = rest

  pub owns_continue : (k : ℕ) (b : List A) → AllByRecursion (Continues k) b → AllByRecursion (Continues k) (owns k b)
  owns_continue k [] all = tt
  owns_continue k (x ∷ b) all = go (own k x) (owns_continue k b all.1)
    where
      go : (p : Bool) → AllByRecursion (Continues k) (owns k b) → AllByRecursion (Continues k) (cond p (x ∷ owns k b) (owns k b))
      go true rest = (all.0, rest)
      go false rest = rest

  pub owns_own : (k : ℕ) (b : List A) → AllByRecursion (λ x. own k x ≡ true) (owns k b)
  owns_own k [] = tt
  owns_own k (x ∷ b) = go (own k x) refl (owns_own k b)
    where
      go : (p : Bool) → own k x ≡ p → AllByRecursion (λ x. own k x ≡ true) (owns k b) → AllByRecursion (λ x. own k x ≡ true) (cond p (x ∷ owns k b) (owns k b))
      go true is rest = (is, rest)
      go false is rest = rest

  pub rest_other : (k : ℕ) (b : List A) → AllByRecursion (λ x. own k x ≡ false) (rest k b)
  rest_other k [] = tt
  rest_other k (x ∷ b) = go (own k x) refl (rest_other k b)
    where
      go : (p : Bool) → own k x ≡ p → AllByRecursion (λ x. own k x ≡ false) (rest k b) → AllByRecursion (λ x. own k x ≡ false) (cond (not p) (x ∷ rest k b) (rest k b))
      go true is more = more
      go false is more = (is, more)

  pub unbroken_own : (k : ℕ) (b xs : List A) → AllByRecursion (λ x. own k x ≡ true) b → AllByRecursion (Continues k) b → goes_on f k xs ≡ false → is_unbroken f k (b ++ xs) ≡ true
  unbroken_own k [] xs own_is all over = over_unbroken k xs over
  unbroken_own k (x ∷ b) xs own_is all over = rw (own_is.0) (rw (all.0 own_is.0) (unbroken_own k b xs own_is.1 all.1 over))

  -- ITS OWN HART

  pub its_first : (k : ℕ) (z : A) (xs : List A) → begins_own k (f z) ≡ true → (b : List A) → AllByRecursion (λ x. own k x ≡ false) b
      → is_unbroken f k (owns k (rest_of_act f k xs) ++ after_act f k xs) ≡ true
      → is_together f k zero (b ++ ((z ∷ owns k (rest_of_act f k xs)) ++ after_act f k xs)) ≡ true
  its_first k z xs begun b apart unbroken =
      let more = rest_of_act f k xs in
      let later = after_act f k xs in
      ap (is_unbroken_from f k) (from_others k zero b ((z ∷ owns k more) ++ later) apart ∙ ap (λ p. cond p (z ∷ (owns k more ++ later)) (from_act f k zero (owns k more ++ later))) begun) ∙ unbroken

  its_own : (k : ℕ) (z : A) (xs : List A) → begins_own k (f z) ≡ true → (n : ℕ) → is_together f k n ((z ∷ rest_of_act f k xs) ++ after_act f k xs) ≡ true
      → (b : List A) → AllByRecursion (λ x. own k x ≡ false) b → is_unbroken f k (owns k (rest_of_act f k xs) ++ after_act f k xs) ≡ true
      → is_together f k n (b ++ ((z ∷ owns k (rest_of_act f k xs)) ++ after_act f k xs)) ≡ true
  its_own k z xs begun zero was b apart unbroken = its_first k z xs begun b apart unbroken
  its_own k z xs begun (suc n) was b apart unbroken =
      let more = rest_of_act f k xs in
      let later = after_act f k xs in
      ap (is_unbroken_from f k)
      (from_others k (suc n) b ((z ∷ owns k more) ++ later) apart
      ∙ ap (λ p. cond p (from_act f k n (owns k more ++ later)) (from_act f k (suc n) (owns k more ++ later))) begun
      ∙ from_none k n (owns k more) later (owns_continue k more (none_begins k xs))
      ∙ sym (ap (λ p. cond p (from_act f k n (more ++ later)) (from_act f k (suc n) (more ++ later))) begun ∙ from_none k n more later (none_begins k xs)))
      ∙ was

  -- the span of an act that begins with z: it is gathered, and the hart's other acts are as they were
  same_hart : (k : ℕ) (z : A) (xs : List A) → own k z ≡ true → begins_act (f z) ≡ true
      → IsAsTogether k ((z ∷ rest_of_act f k xs) ++ after_act f k xs) ((rest k (z ∷ rest_of_act f k xs) ++ owns k (z ∷ rest_of_act f k xs)) ++ after_act f k xs)
  same_hart k z xs own_is begins =
      let more = rest_of_act f k xs in
      let later = after_act f k xs in
      let others = rest k more in
      let made = others ++ ((z ∷ owns k more) ++ later) in
      let is : (rest k (z ∷ more) ++ owns k (z ∷ more)) ++ later ≡ made =
      ap (λ b. (cond (not b) (z ∷ rest k more) (rest k more) ++ cond b (z ∷ owns k more) (owns k more)) ++ later) own_is ∙ append_assoc others (z ∷ owns k more) later in
      let apart = rest_other k more in
      let stops : goes_on f k made ≡ false = passes_others k others ((z ∷ owns k more) ++ later) apart ∙ rw own_is (ap not begins) in
      let begun : begins_own k (f z) ≡ true = rw own_is begins in
      let unbroken = unbroken_own k (owns k more) later (owns_own k more) (owns_continue k more (none_begins k xs)) (goes_over k xs) in
      subst (IsAsTogether k ((z ∷ more) ++ later)) (sym is)
      (record {
        goes = rw own_is (ap not begins) ∙ sym stops;
        unbroken = λ was. over_unbroken k made stops;
        together = λ n was. its_own k z xs begun n was others apart unbroken;
      })

  -- ANOTHER HART

  module _ (h k : ℕ) (ne : h ≢ k) where
    not_both : (x : A) → own k x ≡ true → own h x ≡ false
    not_both x is = ne_eqb (f x).entry.hart.0 h (λ q. ne (sym q ∙ eqb-true (f x).entry.hart.0 k is))

    others_all : (b : List A) → AllByRecursion (λ x. own k x ≡ true) b → AllByRecursion (λ x. own h x ≡ false) b
    others_all [] all = tt
    others_all (x ∷ b) all = (not_both x all.0, others_all b all.1)

    module _ (o : List A) (own_is : AllByRecursion (λ x. own k x ≡ true) o) where
      goes_rest : (b xs : List A) → goes_on f h (b ++ xs) ≡ goes_on f h (rest k b ++ (o ++ xs))
      goes_rest [] xs = sym (passes_others h o xs (others_all o own_is))
      goes_rest (x ∷ b) xs = go (own k x) refl (goes_rest b xs)
        where
          go : (p : Bool) → own k x ≡ p → goes_on f h (b ++ xs) ≡ goes_on f h (rest k b ++ (o ++ xs))
              → cond (own h x) (not (begins_act (f x))) (goes_on f h (b ++ xs)) ≡ goes_on f h (cond (not p) (x ∷ rest k b) (rest k b) ++ (o ++ xs))
          go true is more = rw (not_both x is) more
          go false is more = ap (cond (own h x) (not (begins_act (f x)))) more

      -- within an act of hart k that goes on
      unbroken_rest : (xs : List A) → goes_on f k xs ≡ true → is_unbroken f h (rest_of_act f k xs ++ after_act f k xs) ≡ true
          → is_unbroken f h (rest k (rest_of_act f k xs) ++ (o ++ after_act f k xs)) ≡ true
      unbroken_rest [] goes is = absurd (false≢true goes)
      unbroken_rest (x ∷ xs) goes is =
          let more = rest_of_act f k xs in
          let later = after_act f k xs in
          let was : is_unbroken f h ((x ∷ more) ++ later) ≡ true = sym (ap (λ p. is_unbroken f h (cond p (x ∷ more) [] ++ cond p later (x ∷ xs))) goes) ∙ is in
          ap (λ p. is_unbroken f h (rest k (cond p (x ∷ more) []) ++ (o ++ cond p later (x ∷ xs)))) goes
          ∙ by_x x xs (goes_on f h ((x ∷ more) ++ later)) refl was goes (unbroken_rest xs)
        where
          by_x : (x : A) (xs : List A) (p : Bool) → goes_on f h ((x ∷ rest_of_act f k xs) ++ after_act f k xs) ≡ p
              → cond (goes_on f h ((x ∷ rest_of_act f k xs) ++ after_act f k xs)) (own h x && is_unbroken f h (rest_of_act f k xs ++ after_act f k xs)) true ≡ true
              → goes_on f k (x ∷ xs) ≡ true
              → (goes_on f k xs ≡ true → is_unbroken f h (rest_of_act f k xs ++ after_act f k xs) ≡ true → is_unbroken f h (rest k (rest_of_act f k xs) ++ (o ++ after_act f k xs)) ≡ true)
              → is_unbroken f h (rest k (x ∷ rest_of_act f k xs) ++ (o ++ after_act f k xs)) ≡ true
          by_x x xs false is was goes more = over_unbroken h (rest k (x ∷ rest_of_act f k xs) ++ (o ++ after_act f k xs)) (sym (goes_rest (x ∷ rest_of_act f k xs) (after_act f k xs)) ∙ is)
          by_x x xs true is was goes more =
              let t = and_parts (own h x) (is_unbroken f h (rest_of_act f k xs ++ after_act f k xs)) (sym (ap (λ p. cond p (own h x && is_unbroken f h (rest_of_act f k xs ++ after_act f k xs)) true) is) ∙ was) in
              let other = not_own x t.0 in
              let further : goes_on f k xs ≡ true = sym (ap (λ p. cond p (not (begins_act (f x))) (goes_on f k xs)) other) ∙ goes in
              ap (λ p. is_unbroken f h (cond (not p) (x ∷ rest k (rest_of_act f k xs)) (rest k (rest_of_act f k xs)) ++ (o ++ after_act f k xs))) other
              ∙ both x xs t.0 (more further t.1)
            where
              not_own : (x : A) → own h x ≡ true → own k x ≡ false
              not_own x is = ne_eqb (f x).entry.hart.0 k (λ q. ne (sym (eqb-true (f x).entry.hart.0 h is) ∙ q))

              both : (x : A) (xs : List A) → own h x ≡ true → is_unbroken f h (rest k (rest_of_act f k xs) ++ (o ++ after_act f k xs)) ≡ true
                  → is_unbroken f h ((x ∷ rest k (rest_of_act f k xs)) ++ (o ++ after_act f k xs)) ≡ true
              both x xs own_x more = either (goes_on f h ((x ∷ rest k (rest_of_act f k xs)) ++ (o ++ after_act f k xs)))
                where
                  either : (p : Bool) → cond p (own h x && is_unbroken f h (rest k (rest_of_act f k xs) ++ (o ++ after_act f k xs))) true ≡ true
                  either true = rw own_x more
                  either false = refl

      together_rest : (n : ℕ) (xs : List A) → is_together f h n (rest_of_act f k xs ++ after_act f k xs) ≡ true
          → is_together f h n (rest k (rest_of_act f k xs) ++ (o ++ after_act f k xs)) ≡ true
      together_rest n [] is = ap (is_unbroken_from f h) (from_others h n o [] (others_all o own_is)) ∙ is
      together_rest n (x ∷ xs) is = by_goes x xs (goes_on f k (x ∷ xs)) refl is (λ j. together_rest j xs)
        where
          further : (x : A) (xs : List A) → goes_on f k (x ∷ xs) ≡ true → own k x ≡ false → goes_on f k xs ≡ true
          further x xs goes other = sym (ap (λ p. cond p (not (begins_act (f x))) (goes_on f k xs)) other) ∙ goes

          one_more : (n : ℕ) (x : A) (xs : List A) (p : Bool) → begins_own h (f x) ≡ p → goes_on f k xs ≡ true
              → is_together f h n ((x ∷ rest_of_act f k xs) ++ after_act f k xs) ≡ true
              → ((j : ℕ) → is_together f h j (rest_of_act f k xs ++ after_act f k xs) ≡ true → is_together f h j (rest k (rest_of_act f k xs) ++ (o ++ after_act f k xs)) ≡ true)
              → is_together f h n ((x ∷ rest k (rest_of_act f k xs)) ++ (o ++ after_act f k xs)) ≡ true
          one_more zero x xs true begun goes is more = rw begun (unbroken_rest xs goes (rw begun at is))
          one_more zero x xs false begun goes is more = rw begun (more zero (rw begun at is))
          one_more (suc n) x xs true begun goes is more = rw begun (more n (rw begun at is))
          one_more (suc n) x xs false begun goes is more = rw begun (more (suc n) (rw begun at is))

          by_own : (x : A) (xs : List A) (p : Bool) → own k x ≡ p → goes_on f k (x ∷ xs) ≡ true
              → is_together f h n ((x ∷ rest_of_act f k xs) ++ after_act f k xs) ≡ true
              → ((j : ℕ) → is_together f h j (rest_of_act f k xs ++ after_act f k xs) ≡ true → is_together f h j (rest k (rest_of_act f k xs) ++ (o ++ after_act f k xs)) ≡ true)
              → is_together f h n (cond (not p) (x ∷ rest k (rest_of_act f k xs)) (rest k (rest_of_act f k xs)) ++ (o ++ after_act f k xs)) ≡ true
          by_own x xs true is_own goes is more =
              more n (sym (ap (is_unbroken_from f h) (from_others h n (x ∷ []) (rest_of_act f k xs ++ after_act f k xs) (not_both x is_own, tt))) ∙ is)
          by_own x xs false is_own goes is more = one_more n x xs (begins_own h (f x)) refl (further x xs goes is_own) is more

          by_goes : (x : A) (xs : List A) (p : Bool) → goes_on f k (x ∷ xs) ≡ p
              → is_together f h n (cond p (x ∷ rest_of_act f k xs) [] ++ cond p (after_act f k xs) (x ∷ xs)) ≡ true
              → ((j : ℕ) → is_together f h j (rest_of_act f k xs ++ after_act f k xs) ≡ true → is_together f h j (rest k (rest_of_act f k xs) ++ (o ++ after_act f k xs)) ≡ true)
              → is_together f h n (rest k (cond p (x ∷ rest_of_act f k xs) []) ++ (o ++ cond p (after_act f k xs) (x ∷ xs))) ≡ true
          by_goes x xs true goes is more = by_own x xs (own k x) refl goes is more
          by_goes x xs false goes is more = ap (is_unbroken_from f h) (from_others h n o (x ∷ xs) (others_all o own_is)) ∙ is

    other_hart : (z : A) (xs : List A) → own k z ≡ true
        → IsAsTogether h ((z ∷ rest_of_act f k xs) ++ after_act f k xs) ((rest k (z ∷ rest_of_act f k xs) ++ owns k (z ∷ rest_of_act f k xs)) ++ after_act f k xs)
    other_hart z xs own_is =
        let more = rest_of_act f k xs in
        let later = after_act f k xs in
        let o = owns k (z ∷ more) in
        let all = owns_own k (z ∷ more) in
        let is : (rest k (z ∷ more) ++ o) ++ later ≡ rest k (z ∷ more) ++ (o ++ later) = append_assoc (rest k (z ∷ more)) o later in
        let first : rest k (z ∷ more) ≡ rest k more = ap (λ p. cond (not p) (z ∷ rest k more) (rest k more)) own_is in
        let goes = goes_rest o all (z ∷ more) later in
        subst (IsAsTogether h ((z ∷ more) ++ later)) (sym is)
        (record {
          goes = goes;
          unbroken = λ was. by_first (goes_on f h ((z ∷ more) ++ later)) refl z more later (rest k (z ∷ more) ++ (o ++ later)) (not_both z own_is) goes was;
          together = λ n was.
              ap (λ (l : List A). is_together f h n (l ++ (o ++ later))) first
              ∙ together_rest o all n xs (sym (ap (is_unbroken_from f h) (from_others h n (z ∷ []) (more ++ later) (not_both z own_is, tt))) ∙ was);
        })
      where
        by_first : (p : Bool) {q : Bool} → q ≡ p → (z : A) (more later ys : List A) → own h z ≡ false → q ≡ goes_on f h ys
            → cond q (own h z && is_unbroken f h (more ++ later)) true ≡ true → is_unbroken f h ys ≡ true
        by_first false is z more later ys other goes was = over_unbroken h ys (sym goes ∙ is)
        by_first true is z more later ys other goes was = absurd (false≢true (sym (ap (λ b. b && is_unbroken f h (more ++ later)) other) ∙ sym (ap (λ p. cond p (own h z && is_unbroken f h (more ++ later)) true) is) ∙ was))

  -- ANY SPAN

  pub as_together : (h k : ℕ) (z : A) (xs : List A) → own k z ≡ true → begins_act (f z) ≡ true
      → IsAsTogether h ((z ∷ rest_of_act f k xs) ++ after_act f k xs) ((rest k (z ∷ rest_of_act f k xs) ++ owns k (z ∷ rest_of_act f k xs)) ++ after_act f k xs)
  as_together h k z xs own_is begins = elim (cases_eq h k) [
    | inl same ↦ subst (λ j. IsAsTogether j ((z ∷ rest_of_act f k xs) ++ after_act f k xs) ((rest k (z ∷ rest_of_act f k xs) ++ owns k (z ∷ rest_of_act f k xs)) ++ after_act f k xs)) (sym same) (same_hart k z xs own_is begins)
    | inr other ↦ other_hart h k other z xs own_is
  ]

  -- what comes from an act on begins with an event of the hart that begins one
  abbrev pub Begins : ℕ → List A → Type 0
  Begins k [] = Unit {0}
  Begins k (z ∷ xs) = begins_own k (f z) ≡ true

  pub begins_from : (k m : ℕ) (all : List A) → Begins k (from_act f k m all)
  begins_from k m [] = tt
  begins_from k zero (x ∷ all) = go (begins_own k (f x)) refl (begins_from k zero all)
    where
      go : (p : Bool) → begins_own k (f x) ≡ p → Begins k (from_act f k zero all) → Begins k (cond p (x ∷ all) (from_act f k zero all))
      go true is rest = is
      go false is rest = rest
  begins_from k (suc m) (x ∷ all) = go (begins_own k (f x)) (begins_from k m all) (begins_from k (suc m) all)
    where
      go : (p : Bool) → Begins k (from_act f k m all) → Begins k (from_act f k (suc m) all) → Begins k (cond p (from_act f k m all) (from_act f k (suc m) all))
      go true one other = one
      go false one other = other

  -- what comes before an act has no more of the hart's acts
  pub first_after : (k m : ℕ) (z : A) (all ys xs : List A) → from_act f k m all ≡ z ∷ xs → from_act f k m (before_act f k m all ++ ys) ≡ from_act f k zero ys
  first_after k m z [] ys xs is = absurd cc
  first_after k zero z (x ∷ all) ys xs is = go (begins_own k (f x)) refl is (first_after k zero z all ys xs)
    where
      go : (p : Bool) → begins_own k (f x) ≡ p → cond p (x ∷ all) (from_act f k zero all) ≡ z ∷ xs → (from_act f k zero all ≡ z ∷ xs → from_act f k zero (before_act f k zero all ++ ys) ≡ from_act f k zero ys)
          → from_act f k zero (cond p [] (x ∷ before_act f k zero all) ++ ys) ≡ from_act f k zero ys
      go true begun is more = refl
      go false begun is more = rw begun (more is)
  first_after k (suc m) z (x ∷ all) ys xs is = go (begins_own k (f x)) is (first_after k m z all ys xs) (first_after k (suc m) z all ys xs)
    where
      go : (p : Bool) → cond p (from_act f k m all) (from_act f k (suc m) all) ≡ z ∷ xs
          → (from_act f k m all ≡ z ∷ xs → from_act f k m (before_act f k m all ++ ys) ≡ from_act f k zero ys)
          → (from_act f k (suc m) all ≡ z ∷ xs → from_act f k (suc m) (before_act f k (suc m) all ++ ys) ≡ from_act f k zero ys)
          → cond p (from_act f k m (cond p (before_act f k m all) (before_act f k (suc m) all) ++ ys)) (from_act f k (suc m) (cond p (before_act f k m all) (before_act f k (suc m) all) ++ ys)) ≡ from_act f k zero ys
      go true is one other = one is
      go false is one other = other is
