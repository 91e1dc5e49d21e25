-- The events of a hart are taken out of a span, one by one, and put behind those of others.
use Rattle.std.proofs.Common.{◌≡◌, ℕ, ◌+◌, ◌-◌, ◌<◌, ◌≤◌, List, [], ◌∷◌, ◌++◌, length, get_or, set, take, drop, refl, sym, ap, ◌∙◌, arith, append-nil, length-append, Bool, true, false, not, cond}
use Rattle.std.proofs.lemmas.List.{drop-drop, drop-set-lt, get_or-drop, length-drop, length-set, take_all, take_more, take_more_set}
use Rattle.std.proofs.lemmas.List.Elements.{filter-append}
use Rattle.std.proofs.lemmas.List.Filters.{length-filter_both}
use borrow.Rule.Slice.PartMut.{put_mid}
use Rattle.log_gather.specs.declared.marks.Mark.{Mark}
use Rattle.log_gather.specs.Facts.{is_of}
use Rattle.log_gather.specs.Marks.{AreTaken, entry_marked, other_marks, own_marks}
use Rattle.log_gather.proofs.TurnsTaken.{put_to_end, to_end}

module _ (h : ℕ) (span : List Mark) (i : ℕ) (d : Mark) (within : i < length span) where
  abbrev mark : Mark
  mark = get_or span i d

  own_more : own_marks h (take (i + 1) span) ≡ own_marks h (take i span) ++ cond (is_of h (entry_marked mark)) (mark ∷ []) []
  own_more = ap (own_marks h) (take_more span i d within) ∙ filter-append (λ x. is_of h (entry_marked x)) (take i span) (mark ∷ [])

  other_more : other_marks h (take (i + 1) span) ≡ other_marks h (take i span) ++ cond (not (is_of h (entry_marked mark))) (mark ∷ []) []
  other_more = ap (other_marks h) (take_more span i d within) ∙ filter-append (λ x. not (is_of h (entry_marked x))) (take i span) (mark ∷ [])

  -- one of the hart
  pub own_with : is_of h (entry_marked mark) ≡ true → own_marks h (take i span) ++ mark ∷ [] ≡ own_marks h (take (i + 1) span)
  own_with own = sym (own_more ∙ ap (λ b. own_marks h (take i span) ++ cond b (mark ∷ []) []) own)

  pub others_same : is_of h (entry_marked mark) ≡ true → other_marks h (take i span) ≡ other_marks h (take (i + 1) span)
  others_same own = sym (other_more ∙ ap (λ b. other_marks h (take i span) ++ cond (not b) (mark ∷ []) []) own ∙ append-nil (other_marks h (take i span)))

  -- one of another
  pub own_same : is_of h (entry_marked mark) ≡ false → own_marks h (take i span) ≡ own_marks h (take (i + 1) span)
  own_same other = sym (own_more ∙ ap (λ b. own_marks h (take i span) ++ cond b (mark ∷ []) []) other ∙ append-nil (own_marks h (take i span)))

  pub others_with : is_of h (entry_marked mark) ≡ false → other_marks h (take i span) ++ mark ∷ [] ≡ other_marks h (take (i + 1) span)
  others_with other = sym (other_more ∙ ap (λ b. other_marks h (take i span) ++ cond (not b) (mark ∷ []) []) other)

-- an event that is still in its place
pub still_there : (old new : List Mark) (i : ℕ) (d : Mark) → drop i new ≡ drop i old → get_or new i d ≡ get_or old i d
still_there old new i d rest =
    let start : i + 0 ≡ i = omega arith in
    ap (λ n. get_or new n d) (sym start) ∙ sym (get_or-drop i new 0 d) ∙ ap (λ l. get_or l 0 d) rest ∙ get_or-drop i old 0 d ∙ ap (λ n. get_or old n d) start

-- the marks so far are taken out, or at the front
pub record AreTakenTo (h : ℕ) (old new : List Mark) (i n : ℕ) (these : List Mark) : Type 0 where
  pub long : length new ≡ length old
  pub low : n ≤ i
  pub many : n ≡ length (other_marks h (take i old))
  pub own : these ≡ own_marks h (take i old)
  pub front : take n new ≡ other_marks h (take i old)
  pub rest : drop i new ≡ drop i old

module _ (h : ℕ) (old new : List Mark) (i n : ℕ) (these : List Mark) (was : AreTakenTo h old new i n these) (m : Mark) (within : i < length old) where
  abbrev next : Mark
  next = get_or new i m

  here : next ≡ get_or old i m
  here = still_there old new i m was.rest

  rest_more : drop (i + 1) new ≡ drop (i + 1) old
  rest_more = drop_one_more new ∙ ap (drop 1) was.rest ∙ sym (drop_one_more old)
    where
      drop_one_more : (xs : List Mark) → drop (i + 1) xs ≡ drop 1 (drop i xs)
      drop_one_more xs = sym (drop-drop 1 i xs)

  pub one_taken : (more : List Mark) → is_of h (entry_marked next) ≡ true → more ≡ these ++ next ∷ [] → AreTakenTo h old new (i + 1) n more
  one_taken more own is =
      let its : is_of h (entry_marked (get_or old i m)) ≡ true = ap (λ (x : Mark). is_of h (entry_marked x)) (sym here) ∙ own in
      record {
        long = was.long;
        low = omega (arith, was.low);
        many = was.many ∙ ap length (others_same h old i m within its);
        own = is ∙ ap (λ l. l ++ next ∷ []) was.own ∙ ap (λ x. own_marks h (take i old) ++ x ∷ []) here ∙ own_with h old i m within its;
        front = was.front ∙ others_same h old i m within its;
        rest = rest_more;
      }

  pub one_passed : is_of h (entry_marked next) ≡ false → AreTakenTo h old (set new n next) (i + 1) (n + 1) these
  one_passed other =
      let its : is_of h (entry_marked (get_or old i m)) ≡ false = ap (λ (x : Mark). is_of h (entry_marked x)) (sym here) ∙ other in
      let more = others_with h old i m within its in
      record {
        long = length-set new n next ∙ was.long;
        low = omega (arith, was.low);
        many = omega (arith, was.many, ap length more, length-append (other_marks h (take i old)) (get_or old i m ∷ []));
        own = was.own ∙ own_same h old i m within its;
        front =
            take_more_set new n next (omega (arith, was.low, within, was.long)) ∙ ap (λ l. l ++ next ∷ []) was.front
            ∙ ap (λ x. other_marks h (take i old) ++ x ∷ []) here ∙ more;
        rest = drop-set-lt (i + 1) new n next (omega (arith, was.low)) ∙ rest_more;
      }

-- at the end
pub all_taken : (h : ℕ) (old new own : List Mark) (i n : ℕ) → length old ≤ i → n ≡ length (other_marks h (take i old)) → own ≡ own_marks h (take i old) → take n new ≡ other_marks h (take i old)
    → AreTaken h old new own
all_taken h old new own i n over many owns front =
    let whole : take i old ≡ old = take_all i old over in
    record {
      own = owns ∙ ap (own_marks h) whole;
      others = ap (λ k. take k new) (sym (many ∙ ap (λ l. length (other_marks h l)) whole)) ∙ front ∙ ap (other_marks h) whole;
    }

not_not : (b : Bool) → b ≡ not (not b)
not_not true = refl
not_not false = refl

pub parted_length : (h : ℕ) (span : List Mark) → length (other_marks h span) + length (own_marks h span) ≡ length span
parted_length h span = length-filter_both (λ (x : Mark). not (is_of h (entry_marked x))) (λ (x : Mark). is_of h (entry_marked x)) (λ x. not_not (is_of h (entry_marked x))) span

-- they are put behind
pub put_behind : (h : ℕ) (old new own made : List Mark) → AreTaken h old new own → length new ≡ length old → made ≡ own
    → put_mid (length new - length own) (length new - (length new - length own)) new made ≡ other_marks h old ++ own_marks h old
put_behind h old new own made taken long is =
    let n = length new - length own in
    let many : n ≡ length (other_marks h old) = omega (arith, long, parted_length h old, ap length taken.own) in
    put_to_end n new made
    ∙ ap (λ k. take k new ++ made) many
    ∙ ap (λ l. l ++ made) taken.others
    ∙ ap (λ l. other_marks h old ++ l) (is ∙ taken.own)

-- there is room for them
pub own_fits : (h : ℕ) (old new own : List Mark) → AreTaken h old new own → length new ≡ length old → length own ≤ length new
own_fits h old new own taken long = omega (arith, long, parted_length h old, ap length taken.own)

pub own_room : (h : ℕ) (old new own these : List Mark) → AreTaken h old new own → length new ≡ length old → these ≡ own
    → length (take (length new - (length new - length own)) (drop (length new - length own) new)) ≡ length these
own_room h old new own these taken long is =
    let n = length new - length own in
    let fits = own_fits h old new own taken long in
    ap length (to_end n new) ∙ length-drop n new ∙ omega (arith, fits, ap length is)
