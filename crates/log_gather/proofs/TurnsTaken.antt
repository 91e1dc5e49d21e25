-- One turn after the other: what is left to do gives what all was to give.
use Rattle.std.proofs.Common.{◌≡◌, ℕ, ◌+◌, ◌-◌, ◌<◌, ◌≤◌, List, [], ◌∷◌, ◌++◌, length, get_or, map, take, drop, refl, sym, ap, subst, ◌∙◌, arith, append-nil, length-append, Bool, true, false, not, eqb, ltb, ◌&&◌, ◌||◌, Option, Some, None}
use Rattle.std.specs.List.{fold, list_all}
use Rattle.std.proofs.lemmas.Bool.{and_from, and_parts, eq-eqb, eqb-true, lt-ltb}
use Rattle.std.proofs.lemmas.List.{drop-take, drop_all, get_or-drop, length-drop, length-take-le, take-append-drop, take-take, take_at, take_rest}
use Rattle.std.proofs.lemmas.List.Folds.{list_all-append}
use borrow.Rule.Slice.PartMut.{put_mid}
use Rattle.log_gather.specs.declared.steps.Step.{Step}
use Rattle.log_gather.specs.Located.{gather_located}
use Rattle.log_gather.specs.Spans.{after_from, begins_own, span_from}
use Rattle.log_gather.specs.Steps.{AllAwait, AreOfEight, facts_seen, located_of, names_awaited}
use Rattle.log_gather.specs.Turns.{IsNextTurn, IsPrivateLength, IsPrivateSpan, after_turn, after_turns, awaits_rightly, is_of_eight, is_private_from, moved_steps, moved_steps_if, none_await, other_steps, own_steps, renewed, reserved_after, taken, taken_first}
use Rattle.log_gather.proofs.ActPlaces.{act_and_after}
use Rattle.log_gather.proofs.AwaitedNames.{names_past}
use Rattle.log_gather.proofs.TurnTaken.{all_append, all_parted, length_after, turn_located, turn_names}

-- A TURN AS CODE TAKES IT

module _ (at_end : ℕ → Bool) (x : Step) (xs : List Step) where
  abbrev hart : ℕ
  hart = x.entry.hart.0

  abbrev from : List Step
  from = taken x ∷ xs

  abbrev span : List Step
  span = span_from facts_seen hart from

  abbrev later : List Step
  later = after_from facts_seen hart from

  whole : span ++ later ≡ from
  whole = ap (λ l. taken x ∷ l) (act_and_after facts_seen hart xs)

  -- its span is moved, if it is private
  moved_here : (inside : Bool) (o : Option ℕ) (n : ℕ) (made : List Step) → inside ≡ at_end hart → IsPrivateLength hart inside from o → o ≡ Some n
      → made ≡ moved_steps hart (take n from) → made ++ drop n from ≡ after_turn at_end (x ∷ xs)
  moved_here inside o n made same private there is =
      let P : Option ℕ → Type 0 = λ o. IsPrivateLength hart inside from o in
      let s : IsPrivateSpan hart inside from n = subst P there private in
      ap (λ l. l ++ drop n from) is
      ∙ ap (λ l. moved_steps hart l ++ drop n from) s.span
      ∙ ap (λ l. moved_steps hart span ++ l) s.later
      ∙ ap (λ b. moved_steps_if b hart span ++ later) (sym s.private ∙ ap (λ b. is_private_from hart b from) same)

  -- else it stays
  kept_here : (inside : Bool) (o : Option ℕ) → inside ≡ at_end hart → IsPrivateLength hart inside from o → o ≡ None → from ≡ after_turn at_end (x ∷ xs)
  kept_here inside o same private none =
      let P : Option ℕ → Type 0 = λ o. IsPrivateLength hart inside from o in
      let left : is_private_from hart inside from ≡ false = subst P none private in
      sym whole ∙ ap (λ b. moved_steps_if b hart span ++ later) (sym left ∙ ap (λ b. is_private_from hart b from) same)

  all_after : (p : Step → Bool) → ((b : Bool) → list_all p (moved_steps_if b hart span) ≡ true) → list_all p from ≡ true → list_all p (after_turn at_end (x ∷ xs)) ≡ true
  all_after p moved all =
      let parts = and_parts (list_all p span) (list_all p later) (sym (list_all-append p span later) ∙ ap (list_all p) whole ∙ all) in
      all_append p (moved_steps_if (is_private_from hart (at_end hart) from) hart span) later (moved (is_private_from hart (at_end hart) from)) parts.1

  all_span : (p : Step → Bool) → list_all p from ≡ true → list_all p span ≡ true
  all_span p all = (and_parts (list_all p span) (list_all p later) (sym (list_all-append p span later) ∙ ap (list_all p) whole ∙ all)).0

pub turn_private : (at_end : ℕ → Bool) (old new : List Step) (d : Step) (inside : Bool) (o : Option ℕ) (n : ℕ) (made : List Step) → 0 < length old → new ≡ taken_first old
    → inside ≡ at_end (get_or new 0 d).entry.hart.0 → IsPrivateLength (get_or new 0 d).entry.hart.0 inside new o → o ≡ Some n
    → made ≡ moved_steps (get_or new 0 d).entry.hart.0 (take n new) → made ++ drop n new ≡ after_turn at_end old
turn_private at_end [] new d inside o n made some is same private there moved = absurd (omega (arith, some))
turn_private at_end (x ∷ xs) new d inside o n made some is same private there moved =
    let P : List Step → Type 0 = λ l. inside ≡ at_end (get_or l 0 d).entry.hart.0 → IsPrivateLength (get_or l 0 d).entry.hart.0 inside l o
    → made ≡ moved_steps (get_or l 0 d).entry.hart.0 (take n l) → made ++ drop n l ≡ after_turn at_end (x ∷ xs) in
    subst P (sym is) (λ same private moved. moved_here at_end x xs inside o n made same private there moved) same private moved

pub turn_kept : (at_end : ℕ → Bool) (old new : List Step) (d : Step) (inside : Bool) (o : Option ℕ) → 0 < length old → new ≡ taken_first old
    → inside ≡ at_end (get_or new 0 d).entry.hart.0 → IsPrivateLength (get_or new 0 d).entry.hart.0 inside new o → o ≡ None → new ≡ after_turn at_end old
turn_kept at_end [] new d inside o some is same private none = absurd (omega (arith, some))
turn_kept at_end (x ∷ xs) new d inside o some is same private none =
    let P : List Step → Type 0 = λ l. inside ≡ at_end (get_or l 0 d).entry.hart.0 → IsPrivateLength (get_or l 0 d).entry.hart.0 inside l o → l ≡ after_turn at_end (x ∷ xs) in
    subst P (sym is) (λ same private. kept_here at_end x xs inside o same private none) same private

-- and what holds of all before it
all_taken : (p : Step → Bool) (xs : List Step) (n : ℕ) → list_all p xs ≡ true → list_all p (take n xs) ≡ true
all_taken p xs n all = (and_parts (list_all p (take n xs)) (list_all p (drop n xs)) (sym (list_all-append p (take n xs) (drop n xs)) ∙ ap (list_all p) (take-append-drop n xs) ∙ all)).0

all_dropped : (p : Step → Bool) (xs : List Step) (n : ℕ) → list_all p xs ≡ true → list_all p (drop n xs) ≡ true
all_dropped p xs n all = (and_parts (list_all p (take n xs)) (list_all p (drop n xs)) (sym (list_all-append p (take n xs) (drop n xs)) ∙ ap (list_all p) (take-append-drop n xs) ∙ all)).1

pub eight_first : (old : List Step) → list_all is_of_eight old ≡ true → list_all is_of_eight (taken_first old) ≡ true
eight_first [] all = refl
eight_first (x ∷ xs) all = all

pub eight_span : (old new : List Step) (n : ℕ) → new ≡ taken_first old → list_all is_of_eight old ≡ true → list_all is_of_eight (take n new) ≡ true
eight_span old new n is all = all_taken is_of_eight new n (ap (list_all is_of_eight) is ∙ eight_first old all)

-- WHAT STAYS

eight_renewed : (reserved : List (Option ℕ)) (xs : List Step) → length reserved ≡ 8 → list_all is_of_eight xs ≡ true → list_all is_of_eight (renewed reserved xs) ≡ true
eight_renewed reserved [] long all = refl
eight_renewed reserved (x ∷ xs) long all =
    let q = and_parts (is_of_eight x) (list_all is_of_eight xs) all in
    let eight = and_parts (ltb x.entry.hart.0 8) (eqb (length x.reserved) 8) q.0 in
    and_from (ltb x.entry.hart.0 8 && eqb (length reserved) 8) (list_all is_of_eight (renewed (reserved_after x reserved) xs))
    (and_from (ltb x.entry.hart.0 8) (eqb (length reserved) 8) eight.0 (eq-eqb (length reserved) 8 long))
    (eight_renewed (reserved_after x reserved) xs (length_after x reserved ∙ long) q.1)

right_renewed : (reserved : List (Option ℕ)) (xs : List Step) → list_all awaits_rightly (renewed reserved xs) ≡ list_all awaits_rightly xs
right_renewed reserved [] = refl
right_renewed reserved (x ∷ xs) = ap (λ b. awaits_rightly x && b) (right_renewed (reserved_after x reserved) xs)

eight_moved : (h : ℕ) (xs : List Step) → list_all is_of_eight xs ≡ true → list_all is_of_eight (moved_steps h xs) ≡ true
eight_moved h [] all = refl
eight_moved h (x ∷ xs) all =
    let q = and_parts (is_of_eight x) (list_all is_of_eight xs) all in
    let eight = and_parts (ltb x.entry.hart.0 8) (eqb (length x.reserved) 8) q.0 in
    eight_renewed x.reserved (other_steps h (x ∷ xs) ++ own_steps h (x ∷ xs)) (eqb-true (length x.reserved) 8 eight.1) (all_parted is_of_eight h (x ∷ xs) all)

right_moved : (h : ℕ) (xs : List Step) → list_all awaits_rightly xs ≡ true → list_all awaits_rightly (moved_steps h xs) ≡ true
right_moved h [] all = refl
right_moved h (x ∷ xs) all = right_renewed x.reserved (other_steps h (x ∷ xs) ++ own_steps h (x ∷ xs)) ∙ all_parted awaits_rightly h (x ∷ xs) all

eight_after : (at_end : ℕ → Bool) (from : List Step) → list_all is_of_eight from ≡ true → list_all is_of_eight (after_turn at_end from) ≡ true
eight_after at_end [] all = refl
eight_after at_end (x ∷ xs) all = all_after at_end x xs is_of_eight go all
  where
    go : (b : Bool) → list_all is_of_eight (moved_steps_if b x.entry.hart.0 (span_from facts_seen x.entry.hart.0 (taken x ∷ xs))) ≡ true
    go true = eight_moved x.entry.hart.0 (span_from facts_seen x.entry.hart.0 (taken x ∷ xs)) (all_span at_end x xs is_of_eight all)
    go false = all_span at_end x xs is_of_eight all

right_after : (at_end : ℕ → Bool) (from : List Step) → list_all awaits_rightly from ≡ true → list_all awaits_rightly (after_turn at_end from) ≡ true
right_after at_end [] all = refl
right_after at_end (x ∷ xs) all = all_after at_end x xs awaits_rightly go right
  where
    right : list_all awaits_rightly (taken x ∷ xs) ≡ true
    right = (and_parts (awaits_rightly x) (list_all awaits_rightly xs) all).1

    go : (b : Bool) → list_all awaits_rightly (moved_steps_if b x.entry.hart.0 (span_from facts_seen x.entry.hart.0 (taken x ∷ xs))) ≡ true
    go true = right_moved x.entry.hart.0 (span_from facts_seen x.entry.hart.0 (taken x ∷ xs)) (all_span at_end x xs awaits_rightly right)
    go false = all_span at_end x xs awaits_rightly right

-- ONE AFTER THE OTHER

-- after a turn at place f
pub record IsTurn (at_end : ℕ → Bool) (old : List Step) (f : ℕ) (new : List Step) : Type 0 where
  pub within : f ≤ length new
  pub past : none_await (take f new) ≡ true
  pub eight : list_all is_of_eight new ≡ true
  pub right : list_all awaits_rightly new ≡ true
  pub stays : after_turns at_end new ≡ after_turns at_end old
  pub fewer : length (names_awaited (λ k. 0) new) < length (names_awaited (λ k. 0) old)

rightly : (within awaits begins : Bool) → awaits ≡ true → (not awaits || begins) ≡ true → (not within || begins) ≡ true
rightly true true begins awaits right = right
rightly false true begins awaits right = refl
rightly within false begins awaits right = absurd (cc)

split_turn : (at_end : ℕ → Bool) (earlier : List Step) (x : Step) (ys : List Step) (f : ℕ) → length earlier ≡ f → none_await earlier ≡ true → x.awaits ≡ true
    → list_all is_of_eight (earlier ++ x ∷ ys) ≡ true → list_all awaits_rightly (earlier ++ x ∷ ys) ≡ true
    → IsTurn at_end (earlier ++ x ∷ ys) f (earlier ++ after_turn at_end (x ∷ ys))
split_turn at_end earlier x ys f long none awaits eight right =
    let made = earlier ++ after_turn at_end (x ∷ ys) in
    let e = and_parts (list_all is_of_eight earlier) (list_all is_of_eight (x ∷ ys)) (sym (list_all-append is_of_eight earlier (x ∷ ys)) ∙ eight) in
    let r = and_parts (list_all awaits_rightly earlier) (list_all awaits_rightly (x ∷ ys)) (sym (list_all-append awaits_rightly earlier (x ∷ ys)) ∙ right) in
    let q = and_parts (awaits_rightly x) (list_all awaits_rightly ys) r.1 in
    let begins : begins_own x.entry.hart.0 (facts_seen x) ≡ true =
    and_from (eqb x.entry.hart.0 x.entry.hart.0) (not x.within || x.begins) (eq-eqb x.entry.hart.0 x.entry.hart.0 refl) (rightly x.within x.awaits x.begins awaits q.0) in
    let names = turn_names at_end earlier x ys none awaits q.1 in
    let events = turn_located at_end earlier x ys begins e.1 in
    let rest = names_awaited (λ k. 0) made in
    record {
      within = omega (arith, long, length-append earlier (after_turn at_end (x ∷ ys)));
      past = ap none_await (take_at earlier (after_turn at_end (x ∷ ys)) f long) ∙ none;
      eight = all_append is_of_eight earlier (after_turn at_end (x ∷ ys)) e.0 (eight_after at_end (x ∷ ys) e.1);
      right = all_append awaits_rightly earlier (after_turn at_end (x ∷ ys)) r.0 (right_after at_end (x ∷ ys) r.1);
      stays =
          ap (λ l. fold (gather_located at_end) l rest) events
          ∙ ap (fold (gather_located at_end) (map located_of (earlier ++ x ∷ ys))) (sym names);
      fewer = omega (arith, ap length names);
    }

pub turn_here : (at_end : ℕ → Bool) (steps : List Step) (from k f : ℕ) → f ≡ from + k → from ≤ length steps → none_await (take from steps) ≡ true
    → list_all is_of_eight steps ≡ true → list_all awaits_rightly steps ≡ true → IsNextTurn (drop from steps) k
    → IsTurn at_end steps f (take f steps ++ after_turn at_end (drop f steps))
turn_here at_end steps from k f is within past eight right next = go (drop f steps) refl
  where
    low : f ≤ length steps
    low = omega (arith, is, within, next.within, length-drop from steps)

    both : take from (take (from + k) steps) ++ drop from (take (from + k) steps) ≡ take (from + k) steps
    both = take-append-drop from (take (from + k) steps)

    parts : take f steps ≡ take from steps ++ take k (drop from steps)
    parts =
        ap (λ n. take n steps) is ∙ sym both
        ∙ ap (λ l. l ++ drop from (take (from + k) steps)) (take-take from (from + k) steps (omega arith))
        ∙ ap (λ l. take from steps ++ l) (drop-take from k steps)

    none : none_await (take f steps) ≡ true
    none = ap none_await parts ∙ all_append (λ x. not x.awaits) (take from steps) (take k (drop from steps)) past next.before

    go : (rest : List Step) → drop f steps ≡ rest → IsTurn at_end steps f (take f steps ++ after_turn at_end (drop f steps))
    go [] there = absurd (omega (arith, is, within, next.within, length-drop from steps, length-drop f steps, ap length there))
    go (x ∷ ys) there =
        let whole : take f steps ++ x ∷ ys ≡ steps = ap (λ l. take f steps ++ l) (sym there) ∙ take-append-drop f steps in
        let element : get_or (drop from steps) k x ≡ x =
        get_or-drop from steps k x ∙ ap (λ n. get_or steps n x) (omega (arith, is)) ∙ sym (get_or-drop f steps 0 x) ∙ ap (λ l. get_or l 0 x) there in
        let awaits : x.awaits ≡ true = ap (λ (y : Step). y.awaits) (sym element) ∙ next.here x in
        let turn = split_turn at_end (take f steps) x ys f (length-take-le f steps low) none awaits
        (ap (list_all is_of_eight) whole ∙ eight) (ap (list_all awaits_rightly) whole ∙ right) in
        let P : List Step → Type 0 = λ l. IsTurn at_end l f (take f steps ++ after_turn at_end (x ∷ ys)) in
        let Q : List Step → Type 0 = λ l. IsTurn at_end steps f (take f steps ++ after_turn at_end l) in
        subst Q (sym there) (subst P whole turn)

-- where none awaits its turn all had theirs
pub all_had_turns : (at_end : ℕ → Bool) (steps : List Step) (from : ℕ) → none_await (take from steps) ≡ true → none_await (drop from steps) ≡ true → map located_of steps ≡ after_turns at_end steps
all_had_turns at_end steps from past rest =
    let none : none_await steps ≡ true = ap none_await (sym (take-append-drop from steps)) ∙ all_append (λ x. not x.awaits) (take from steps) (drop from steps) past rest in
    let names : names_awaited (λ k. 0) steps ≡ [] = ap (names_awaited (λ k. 0)) (sym (append-nil steps)) ∙ names_past (λ k. 0) steps [] none in
    sym (ap (fold (gather_located at_end) (map located_of steps)) names)

-- AS CODE DOES THEM

pub to_end : {A : Type 0} (f : ℕ) (xs : List A) → take (length xs - f) (drop f xs) ≡ drop f xs
to_end f xs = take_rest xs f

pub put_to_end : {A : Type 0} (f : ℕ) (xs ys : List A) → put_mid f (length xs - f) xs ys ≡ take f xs ++ ys
put_to_end f xs ys = ap (λ l. take f xs ++ (ys ++ l)) (drop_all (length xs - f) (drop f xs) (omega (arith, length-drop f xs))) ∙ ap (λ l. take f xs ++ l) (append-nil ys)

pub eight_drop : (steps : List Step) (f : ℕ) → list_all is_of_eight steps ≡ true → list_all is_of_eight (drop f steps) ≡ true
eight_drop steps f all = all_dropped is_of_eight steps f all

pub eight_of : (steps : List Step) → AreOfEight steps → list_all is_of_eight steps ≡ true
eight_of [] all = refl
eight_of (x ∷ xs) all =
    and_from (is_of_eight x) (list_all is_of_eight xs)
    (and_from (ltb x.entry.hart.0 8) (eqb (length x.reserved) 8) (lt-ltb x.entry.hart.0 8 all.0.hart) (eq-eqb (length x.reserved) 8 all.0.reserved))
    (eight_of xs all.1)

begins_rightly : (awaits begins : Bool) → awaits ≡ begins → (not awaits || begins) ≡ true
begins_rightly true begins same = sym same
begins_rightly false begins same = refl

pub rightly_of : (steps : List Step) → AllAwait steps → list_all awaits_rightly steps ≡ true
rightly_of [] all = refl
rightly_of (x ∷ xs) all = and_from (awaits_rightly x) (list_all awaits_rightly xs) (begins_rightly x.awaits x.begins all.0) (rightly_of xs all.1)
