-- The credits and the generators after an event, where it was the choice of `run` and where it wasn't.
use Rattle.machine_core.proofs.Common.{◌≡◌, ◌≢◌, ℕ, ◌+◌, ◌<◌, List, [], ◌∷◌, ◌++◌, length, refl, sym, ap, ◌∙◌, Bool, true, false, cond, eqb, ◌&&◌, Option, eq-eqb, ◌⊎◌, inl, inr, option_map, cases_eq, lt-ltb, ne_eqb, choice_of, Choice, Entry, HartState, History, Setting, Sight, here_in_history, ran, Pick, draws, pick, Generator, generator_in, next_generator, word, after_pick-settled, Luck, all_chosen, choice_at, credit_at, has_ended, luck, pick_at, sight_with, history, sight_in, followed, generators_after, is_followed, is_picked, seen_if, generator_at, false≢true, after_pick, after_words, first_generator, after_pick-other, after_pick-own, is_choice, all_chosen_next, luck_of_other, luck_of_own, with_credit}
use native.Mathlib.Numerals.{unary_clauses}

-- the choice at a place that hasn't ended is the pick's
pub choice_where : (s : Setting) (seed h : ℕ) (before : History) → has_ended s before ≡ false → h < s.limits.harts
    → choice_at s seed h before ≡ option_map (λ (p : Pick). p.choice) (pick_at s seed h before)
unfolding choice_at
choice_where s seed h before goes lt = rw (goes, lt-ltb h s.limits.harts lt) refl

-- what is known of a machine before an event, and of the event
pub record IsFollowing (s : Setting) (seed : ℕ) (log : List Entry) (h : ℕ) (c : Choice) (e : Entry) (chosen : Bool) (generators : List Generator) : Type 0 where
  pub goes : has_ended s (history s log) ≡ false
  pub lt : h < s.limits.harts
  pub hart : e.hart.0 ≡ h
  pub choice : choice_of e ≡ c
  pub so_far : chosen ≡ all_chosen s seed (history s log)
  pub generator : chosen ≡ true → (k : ℕ) → k < s.limits.harts → generator_in generators k ≡ generator_at s seed k (history s log)

-- where every entry was chosen, the credit is luck's, and what is picked by what is seen is the place's pick
pub credit_read : (s : Setting) (seed : ℕ) (before : History) (h : ℕ) → true ≡ all_chosen s seed before → credit_at s seed h before ≡ (luck s seed h before).credit
unfolding credit_at
credit_read s seed before h all = rw (← all) refl

pub sight_read : (s : Setting) (seed : ℕ) (before : History) (h : ℕ) → true ≡ all_chosen s seed before
    → sight_in (here_in_history s before h) (ran h before) (credit_at s seed h before) ≡ sight_with s h before (luck s seed h before)
sight_read s seed before h all = ap (sight_in (here_in_history s before h) (ran h before)) (credit_read s seed before h all)

pub pick_read : (s : Setting) (seed : ℕ) (before : History) (h : ℕ) (generators : List Generator) → true ≡ all_chosen s seed before
    → generator_in generators h ≡ generator_at s seed h before
    → pick (sight_in (here_in_history s before h) (ran h before) (credit_at s seed h before)) (word (generator_in generators h)) ≡ pick_at s seed h before
pick_read s seed before h generators all same = rw (sight_read s seed before h all, same) refl

-- one word more
after_more : (n : ℕ) (g : Generator) → after_words (n + 1) g ≡ next_generator (after_words n g)
after_more n g = simp unary_clauses refl

module _ (s : Setting) (seed : ℕ) (log : List Entry) (h : ℕ) (c : Choice) (e : Entry) (chosen : Bool) (generators : List Generator) where
  abbrev before : History
  before = history s log

  abbrev after : History
  after = history s (log ++ e ∷ [])

  abbrev seen : Option Sight
  seen = seen_if chosen s seed h before

  abbrev picked : Option Pick
  picked = pick_at s seed h before

  -- the new log is one of choices where the old one is and the event was picked
  pub chosen_after : IsFollowing s seed log h c e chosen generators → is_followed seen generators h c ≡ all_chosen s seed after
  chosen_after is = by_case chosen refl
    where
      next : all_chosen s seed after ≡ (all_chosen s seed before && is_choice (choice_at s seed h before) c)
      next = all_chosen_next s seed log e
          ∙ (ap (λ k. all_chosen s seed before && is_choice (choice_at s seed k before) (choice_of e)) is.hart
          ∙ ap (λ z. all_chosen s seed before && is_choice (choice_at s seed h before) z) is.choice)

      by_case : (b : Bool) → chosen ≡ b → is_followed (seen_if b s seed h before) generators h c ≡ all_chosen s seed after
      by_case false isn =
          let none : false ≡ all_chosen s seed before = sym isn ∙ is.so_far in
          sym (next ∙ ap (λ b. b && is_choice (choice_at s seed h before) c) (sym none))
      by_case true was_so =
          let all : true ≡ all_chosen s seed before = sym was_so ∙ is.so_far in
          ap (is_picked c) (pick_read s seed before h generators all (is.generator was_so h is.lt))
          ∙ (ap (λ o. is_choice o c) (sym (choice_where s seed h before is.goes is.lt))
          ∙ sym (next ∙ ap (λ b. b && is_choice (choice_at s seed h before) c) (sym all)))

  -- where an entry wasn't chosen no credit is shown
  none_shown : (k : ℕ) (past : History) → false ≡ all_chosen s seed past → credit_at s seed k past ≡ 0
  unfolding credit_at
  none_shown k past none = rw (← none) refl

  all_shown : (k : ℕ) (past : History) → true ≡ all_chosen s seed past → credit_at s seed k past ≡ (luck s seed k past).credit
  all_shown k past all = credit_read s seed past k all

  -- the luck of the own hart after its pick, and that of another
  own_credit : IsFollowing s seed log h c e chosen generators → is_picked c picked ≡ true → (luck s seed h after).credit ≡ with_credit picked
  own_credit is was =
      let event : is_choice (option_map (λ (p : Pick). p.choice) picked) (choice_of e) ≡ true = ap (λ z. is_choice (option_map (λ (p : Pick). p.choice) picked) z) is.choice ∙ was in
      ap (λ (l : Luck). l.credit) (luck_of_own s seed log h e is.hart) ∙ rw event refl

  own_drawn : IsFollowing s seed log h c e chosen generators → is_picked c picked ≡ true
      → (luck s seed h after).drawn ≡ cond (draws (sight_with s h before (luck s seed h before))) ((luck s seed h before).drawn + 1) (luck s seed h before).drawn
  own_drawn is was =
      let event : is_choice (option_map (λ (p : Pick). p.choice) picked) (choice_of e) ≡ true = ap (λ z. is_choice (option_map (λ (p : Pick). p.choice) picked) z) is.choice ∙ was in
      ap (λ (l : Luck). l.drawn) (luck_of_own s seed log h e is.hart) ∙ rw event refl

  other_luck : IsFollowing s seed log h c e chosen generators → (k : ℕ) → k ≢ h → luck s seed k after ≡ luck s seed k before
  other_luck is k ne = luck_of_other s seed log k e (λ same. ne (sym same ∙ is.hart))

  -- the credit of a hart after the event is the one that is shown
  pub credit_after : IsFollowing s seed log h c e chosen generators → (k : ℕ) (x : HartState) → x.credit ≡ credit_at s seed k before
      → (followed seen generators h c k x).credit ≡ credit_at s seed k after
  credit_after is k x shown = by_case chosen refl (chosen_after is)
    where
      by_case : (b : Bool) → chosen ≡ b → is_followed (seen_if b s seed h before) generators h c ≡ all_chosen s seed after
          → (followed (seen_if b s seed h before) generators h c k x).credit ≡ credit_at s seed k after
      by_case false isn next = shown ∙ (none_shown k before (sym isn ∙ is.so_far) ∙ sym (none_shown k after next))
      by_case true was_so next =
          let all : true ≡ all_chosen s seed before = sym was_so ∙ is.so_far in
          let p : Option Pick = pick (sight_in (here_in_history s before h) (ran h before) (credit_at s seed h before)) (word (generator_in generators h)) in
          let same : p ≡ picked = pick_read s seed before h generators all (is.generator was_so h is.lt) in
          by_pick (is_picked c p) refl next all same
        where
          p : Option Pick
          p = pick (sight_in (here_in_history s before h) (ran h before) (credit_at s seed h before)) (word (generator_in generators h))

          by_hart : is_picked c p ≡ true → true ≡ all_chosen s seed after → true ≡ all_chosen s seed before → p ≡ picked → (k ≡ h) ⊎ (k ≢ h)
              → cond (eqb k h) (with_credit p) x.credit ≡ credit_at s seed k after
          by_hart was next all same (inl own) =
              let picked_there : is_picked c picked ≡ true = ap (is_picked c) (sym same) ∙ was in
              rw (own, eq-eqb h h refl) (ap with_credit same ∙ (sym (own_credit is picked_there) ∙ sym (all_shown h after next)))
          by_hart was next all same (inr ne) =
              rw (ne_eqb k h ne) (shown ∙ (all_shown k before all ∙ (ap (λ (l : Luck). l.credit) (sym (other_luck is k ne)) ∙ sym (all_shown k after next))))

          by_pick : (b : Bool) → is_picked c p ≡ b → is_picked c p ≡ all_chosen s seed after → true ≡ all_chosen s seed before → p ≡ picked
              → cond (is_picked c p) (cond (eqb k h) (with_credit p) x.credit) 0 ≡ credit_at s seed k after
          by_pick false was next all same = rw was (sym (none_shown k after (sym was ∙ next)))
          by_pick true was next all same = rw was (by_hart was (sym was ∙ next) all same (cases_eq k h))

  -- the generators after it are those after the choices
  pub generator_after : IsFollowing s seed log h c e chosen generators → h < length generators → is_followed seen generators h c ≡ true → (k : ℕ) → k < s.limits.harts
      → generator_in (generators_after seen h generators) k ≡ generator_at s seed k after
  generator_after is room goes_on k below = by_case chosen refl goes_on
    where
      own_moves : true ≡ all_chosen s seed before → chosen ≡ true → is_picked c picked ≡ true → (x : Sight) → x ≡ sight_with s h before (luck s seed h before)
          → generator_in (after_pick x h generators) h ≡ generator_at s seed h after
      own_moves all was_so was x at = by_draw (draws x) refl
        where
          at_start : generator_in generators h ≡ generator_at s seed h before
          at_start = is.generator was_so h is.lt

          drawn : (luck s seed h after).drawn ≡ cond (draws x) ((luck s seed h before).drawn + 1) (luck s seed h before).drawn
          drawn = own_drawn is was ∙ ap (λ (y : Sight). cond (draws y) ((luck s seed h before).drawn + 1) (luck s seed h before).drawn) (sym at)

          by_draw : (b : Bool) → draws x ≡ b → generator_in (after_pick x h generators) h ≡ generator_at s seed h after
          by_draw true d =
              let more : (luck s seed h after).drawn ≡ (luck s seed h before).drawn + 1 = drawn ∙ rw d refl in
              after_pick-own x h generators d room
              ∙ (ap next_generator at_start ∙ (sym (after_more (luck s seed h before).drawn (first_generator seed h)) ∙ ap (λ n. after_words n (first_generator seed h)) (sym more)))
          by_draw false d =
              let same : (luck s seed h after).drawn ≡ (luck s seed h before).drawn = drawn ∙ rw d refl in
              ap (λ g. generator_in g h) (after_pick-settled x h generators d)
              ∙ (at_start ∙ ap (λ n. after_words n (first_generator seed h)) (sym same))

      by_case : (b : Bool) → chosen ≡ b → is_followed (seen_if b s seed h before) generators h c ≡ true
          → generator_in (generators_after (seen_if b s seed h before) h generators) k ≡ generator_at s seed k after
      by_case false isn was = absurd (false≢true was)
      by_case true was_so was = by_hart (cases_eq k h)
        where
          all : true ≡ all_chosen s seed before
          all = sym was_so ∙ is.so_far

          x : Sight
          x = sight_in (here_in_history s before h) (ran h before) (credit_at s seed h before)

          there : is_picked c picked ≡ true
          there = ap (is_picked c) (sym (pick_read s seed before h generators all (is.generator was_so h is.lt))) ∙ was

          by_hart : (k ≡ h) ⊎ (k ≢ h) → generator_in (after_pick x h generators) k ≡ generator_at s seed k after
          by_hart (inl own) = rw own (own_moves all was_so there x (sight_read s seed before h all))
          by_hart (inr ne) =
              after_pick-other x h k generators ne
              ∙ (is.generator was_so k below ∙ ap (λ (l : Luck). after_words l.drawn (first_generator seed k)) (sym (other_luck is k ne)))
