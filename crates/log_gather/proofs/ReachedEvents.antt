-- How far an act goes on, found in one pass over what follows its first event.
use Rattle.std.proofs.Common.{◌≡◌, ℕ, suc, ◌+◌, ◌<◌, ◌≤◌, List, [], ◌∷◌, length, get_or, map, take, drop, refl, sym, ap, subst, ◌∙◌, arith, length-append, Bool, true, false, not, cond, ◌&&◌, ◌||◌}
use Rattle.std.specs.List.{fold}
use Rattle.std.proofs.lemmas.List.{drop_all, drop_at, drop_more, take_at}
use Rattle.mach_types.specs.Events.{is_instruction}
use Rattle.log_gather.specs.declared.marks.Details.{Details}
use Rattle.log_gather.specs.declared.marks.Mark.{Mark}
use Rattle.log_gather.specs.declared.spans.Reach.{Reach}
use Rattle.log_gather.specs.declared.steps.Step.{Step}
use Rattle.log_gather.specs.Facts.{is_of}
use Rattle.log_gather.specs.LogEvents.{LogEvent, entry_of, is_own}
use Rattle.log_gather.specs.Marks.{entry_marked, step_of, steps_of}
use Rattle.log_gather.specs.Spans.{after_act, begins_act, goes_on, is_inside_next, rest_of_act}
use Rattle.log_gather.specs.Steps.{facts_seen}
use Rattle.log_gather.specs.Turns.{IsReach, event_of}
use Rattle.log_gather.proofs.ActPlaces.{act_and_after}

module _ (h : ℕ) (at_end : Bool) where
  -- whether the last instruction moved the pc out, after an event of the hart more
  abbrev pub moved_by : Bool → Step → Bool
  moved_by was x = cond (is_instruction x.entry.kind) x.moves_out was

  -- the pass: the next event is number i, of those so far so many are of the act
  abbrev pub reached : ℕ → ℕ → Bool → List Step → Reach
  reached i n moved [] = record { length = n; moved_out = moved; inside_next = at_end }
  reached i n moved (x ∷ xs) =
      cond (is_of h x.entry)
      (cond (begins_act (facts_seen x)) (record { length = n; moved_out = moved; inside_next = x.inside }) (reached (i + 1) (i + 1) (moved_by moved x) xs))
      (reached (i + 1) n moved xs)

  abbrev moved_past : Bool → LogEvent → Bool
  moved_past was x = cond (is_own h x && is_instruction (entry_of x).kind) x.facts.moves_out was

  abbrev goes : List Step → Bool
  goes xs = goes_on facts_seen h xs

  abbrev act : List Step → List Step
  act xs = rest_of_act facts_seen h xs

  abbrev past : List Step → List Step
  past xs = after_act facts_seen h xs

  act_stops : (xs : List Step) → goes xs ≡ false → act xs ≡ []
  act_stops [] over = refl
  act_stops (x ∷ xs) over = ap (λ b. cond b (x ∷ act xs) []) over

  past_stops : (xs : List Step) → goes xs ≡ false → past xs ≡ xs
  past_stops [] over = refl
  past_stops (x ∷ xs) over = ap (λ b. cond b (past xs) (x ∷ xs)) over

  reached_length : (i n : ℕ) (moved : Bool) (xs : List Step) → (reached i n moved xs).length ≡ cond (goes xs) (i + length (act xs)) n
  reached_length i n moved [] = refl
  reached_length i n moved (x ∷ xs) =
      go (is_of h x.entry) (begins_act (facts_seen x)) (goes xs) refl
      (reached_length (i + 1) (i + 1) (moved_by moved x) xs) (reached_length (i + 1) n moved xs)
    where
      go : (own begins g : Bool) → goes xs ≡ g
          → (reached (i + 1) (i + 1) (moved_by moved x) xs).length ≡ cond g (i + 1 + length (act xs)) (i + 1)
          → (reached (i + 1) n moved xs).length ≡ cond g (i + 1 + length (act xs)) n
          → (cond own (cond begins (record { length = n; moved_out = moved; inside_next = x.inside }) (reached (i + 1) (i + 1) (moved_by moved x) xs)) (reached (i + 1) n moved xs)).length
          ≡ cond (cond own (not begins) g) (i + length (cond (cond own (not begins) g) (x ∷ act xs) [])) n
      go true true g is one other = refl
      go true false true is one other = one ∙ omega arith
      go true false false is one other = one ∙ ap (λ l. i + suc (length l)) (sym (act_stops xs is))
      go false begins true is one other = other ∙ omega arith
      go false begins false is one other = other

  reached_moved : (i n : ℕ) (moved : Bool) (xs : List Step) → (reached i n moved xs).moved_out ≡ fold moved_past moved (map event_of (act xs))
  reached_moved i n moved [] = refl
  reached_moved i n moved (x ∷ xs) =
      go (is_of h x.entry) refl (begins_act (facts_seen x)) (goes xs) refl
      (reached_moved (i + 1) (i + 1) (moved_by moved x) xs) (reached_moved (i + 1) n moved xs)
    where
      go : (own : Bool) → is_of h x.entry ≡ own → (begins g : Bool) → goes xs ≡ g
          → (reached (i + 1) (i + 1) (moved_by moved x) xs).moved_out ≡ fold moved_past (moved_by moved x) (map event_of (act xs))
          → (reached (i + 1) n moved xs).moved_out ≡ fold moved_past moved (map event_of (act xs))
          → (cond own (cond begins (record { length = n; moved_out = moved; inside_next = x.inside }) (reached (i + 1) (i + 1) (moved_by moved x) xs)) (reached (i + 1) n moved xs)).moved_out
          ≡ fold moved_past moved (map event_of (cond (cond own (not begins) g) (x ∷ act xs) []))
      go true is true g stops one other = refl
      go true is false g stops one other = one ∙ ap (λ b. fold moved_past (cond (b && is_instruction x.entry.kind) x.moves_out moved) (map event_of (act xs))) (sym is)
      go false is begins true stops one other = other ∙ ap (λ b. fold moved_past (cond (b && is_instruction x.entry.kind) x.moves_out moved) (map event_of (act xs))) (sym is)
      go false is begins false stops one other = other ∙ ap (λ l. fold moved_past moved (map event_of l)) (act_stops xs stops)

  reached_inside : (i n : ℕ) (moved : Bool) (xs : List Step) → (reached i n moved xs).inside_next ≡ is_inside_next h at_end (map event_of (past xs))
  reached_inside i n moved [] = refl
  reached_inside i n moved (x ∷ xs) =
      go (is_of h x.entry) refl (begins_act (facts_seen x)) (goes xs) refl
      (reached_inside (i + 1) (i + 1) (moved_by moved x) xs) (reached_inside (i + 1) n moved xs)
    where
      go : (own : Bool) → is_of h x.entry ≡ own → (begins g : Bool) → goes xs ≡ g
          → (reached (i + 1) (i + 1) (moved_by moved x) xs).inside_next ≡ is_inside_next h at_end (map event_of (past xs))
          → (reached (i + 1) n moved xs).inside_next ≡ is_inside_next h at_end (map event_of (past xs))
          → (cond own (cond begins (record { length = n; moved_out = moved; inside_next = x.inside }) (reached (i + 1) (i + 1) (moved_by moved x) xs)) (reached (i + 1) n moved xs)).inside_next
          ≡ is_inside_next h at_end (map event_of (cond (cond own (not begins) g) (past xs) (x ∷ xs)))
      go true is true g stops one other = ap (λ b. cond b x.inside (is_inside_next h at_end (map event_of xs))) (sym is)
      go true is false g stops one other = one
      go false is begins true stops one other = other
      go false is begins false stops one other =
          other ∙ ap (λ l. is_inside_next h at_end (map event_of l)) (past_stops xs stops)
          ∙ ap (λ b. cond b x.inside (is_inside_next h at_end (map event_of xs))) (sym is)

  -- from its first event on
  pub reach_is : (x : Step) (xs : List Step) → IsReach h at_end (x ∷ xs) (reached 1 1 (moved_past false (event_of x)) xs)
  reach_is x xs =
      let m = moved_past false (event_of x) in
      let r = reached 1 1 m xs in
      let whole = act_and_after facts_seen h xs in
      let count : r.length ≡ suc (length (act xs)) = reached_length 1 1 m xs ∙ go (goes xs) refl in
      record {
        within = omega (arith, count, ap length whole, length-append (act xs) (past xs));
        span = ap (λ n. take n (x ∷ xs)) count ∙ ap (λ l. x ∷ take (length (act xs)) l) (sym whole) ∙ ap (λ l. x ∷ l) (take_at (act xs) (past xs) (length (act xs)) refl);
        later = ap (λ n. drop n (x ∷ xs)) count ∙ ap (drop (length (act xs))) (sym whole) ∙ drop_at (act xs) (past xs) (length (act xs)) refl;
        moved_out = reached_moved 1 1 m xs;
        inside_next = reached_inside 1 1 m xs;
      }
    where
      go : (g : Bool) → goes xs ≡ g → cond g (1 + length (act xs)) 1 ≡ suc (length (act xs))
      go true is = omega arith
      go false is = ap (λ l. suc (length l)) (sym (act_stops xs is))

  -- the same pass over marks
  abbrev pub passed : ℕ → ℕ → Bool → List Mark → Reach
  passed i n moved [] = record { length = n; moved_out = moved; inside_next = at_end }
  passed i n moved (x ∷ xs) =
      cond (is_of h (entry_marked x))
      (cond (not x.within || x.begins) (record { length = n; moved_out = moved; inside_next = x.inside }) (passed (i + 1) (i + 1) (cond (is_instruction x.kind) x.moves_out moved) xs))
      (passed (i + 1) n moved xs)

  passed_is : (d : Details) (i n : ℕ) (moved : Bool) (xs : List Mark) → reached i n moved (steps_of d xs) ≡ passed i n moved xs
  passed_is d i n moved [] = refl
  passed_is d i n moved (x ∷ xs) =
      let over : Reach = record { length = n; moved_out = moved; inside_next = x.inside } in
      let goes : Bool = cond (is_instruction x.kind) x.moves_out moved in
      λ j. cond (is_of h (entry_marked x)) (cond (not x.within || x.begins) over (passed_is d (i + 1) (i + 1) goes xs j)) (passed_is d (i + 1) n moved xs j)

  abbrev pub pass_of : List Mark → Reach
  pass_of [] = record { length = 0; moved_out = false; inside_next = at_end }
  pass_of (x ∷ xs) = passed 1 1 (cond (is_of h (entry_marked x) && is_instruction x.kind) x.moves_out false) xs

  pass_reaches : (d : Details) (from : List Mark) → 0 < length from → IsReach h at_end (steps_of d from) (pass_of from)
  pass_reaches d [] some = absurd (omega (arith, some))
  pass_reaches d (x ∷ xs) some =
      subst (IsReach h at_end (steps_of d (x ∷ xs))) (passed_is d 1 1 (cond (is_of h (entry_marked x) && is_instruction x.kind) x.moves_out false) xs)
      (reach_is (step_of d x) (steps_of d xs))

  pub pass_starts : (from : List Mark) (x : Mark) → 0 < length from → x ≡ get_or from 0 x
      → passed 1 1 (cond (is_of h (entry_marked x) && is_instruction x.kind) x.moves_out false) (drop 1 from) ≡ pass_of from
  pass_starts [] x some is = absurd (omega (arith, some))
  pass_starts (y ∷ ys) x some is = ap (λ (z : Mark). passed 1 1 (cond (is_of h (entry_marked z) && is_instruction z.kind) z.moves_out false) ys) is

  -- where it comes to an event that begins another act, and to the end
  pub reach_before : (d : Details) (i n : ℕ) (moved : Bool) (from : List Mark) (m : Mark) → 0 < length from → passed i n moved (drop i from) ≡ pass_of from → i < length from
      → is_of h (entry_marked (get_or from i m)) ≡ true → (not (get_or from i m).within || (get_or from i m).begins) ≡ true
      → IsReach h at_end (steps_of d from) (record { length = n; moved_out = moved; inside_next = (get_or from i m).inside })
  reach_before d i n moved from m some stays within own begins =
      let x = get_or from i m in
      let goes : Bool = cond (is_instruction x.kind) x.moves_out moved in
      let rest : Bool → Bool → Reach = λ o b.
      cond o (cond b (record { length = n; moved_out = moved; inside_next = x.inside }) (passed (i + 1) (i + 1) goes (drop (i + 1) from))) (passed (i + 1) n moved (drop (i + 1) from)) in
      let made : pass_of from ≡ record { length = n; moved_out = moved; inside_next = x.inside } =
      sym stays ∙ ap (passed i n moved) (drop_more from i m within) ∙ ap (λ o. rest o (not x.within || x.begins)) own ∙ ap (rest true) begins in
      subst (IsReach h at_end (steps_of d from)) made (pass_reaches d from some)

  pub reach_to_end : (d : Details) (i n : ℕ) (moved : Bool) (from : List Mark) → 0 < length from → passed i n moved (drop i from) ≡ pass_of from → length from ≤ i
      → IsReach h at_end (steps_of d from) (record { length = n; moved_out = moved; inside_next = at_end })
  reach_to_end d i n moved from some stays over =
      subst (IsReach h at_end (steps_of d from)) (sym stays ∙ ap (passed i n moved) (drop_all i from over)) (pass_reaches d from some)
