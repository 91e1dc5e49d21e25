-- The acts that a ledger tells where a log ends are those of the sequences that no event has ended.
use Rattle.std.proofs.Common.{◌≡◌, ℕ, suc, ◌+◌, ◌<◌, ◌≤◌, List, [], ◌∷◌, ◌++◌, ◌||◌, map, drop, length, get_or, slice_get, append_assoc, append-nil, refl, sym, ap, ◌∙◌, arith, eqb, Bool, true, false, cond, Option, Some, None}
use Rattle.std.specs.List.{filter_map}
use Rattle.std.specs.Option.{option_map}
use Rattle.std.proofs.lemmas.Bool.{eqb-true}
use Rattle.std.proofs.lemmas.List.{drop_all, drop_more}
use Rattle.mach_types.proofs.Laws.{eqb_same}
use Rattle.block_model.specs.History.{History}
use Rattle.block_model.specs.Setting.{Setting}
use Rattle.block_view.specs.Ledgers.{Kept, going_on, hanging_of, is_open, is_place, open_from, open_one}
use Rattle.block_view.specs.Standing.{Standing, at_the_end, standings}
use Rattle.block_view.specs.Standing.Standing.{Over, Going, Hanging}
use Rattle.block_view.specs.Tied.{IsTied, StandsAt, tid_of}
use Rattle.block_view.specs.Turns.{acts_left_open, open_act}
use Rattle.block_view.specs.declared.forms.Act.{Act}
use Rattle.block_view.specs.declared.ledger.Going.{Going as KeptGoing}
use Rattle.block_view.specs.declared.ledger.Hanging.{Hanging as KeptHanging}
use Rattle.block_view.proofs.Closing.{goes_on}

-- LISTS

-- one act more of those from a place on
pub one_more_open : (k : Kept) (all told more : List Act) (i : ℕ) (act : Act) → act ≡ get_or all i act → i < length all → more ≡ told ++ open_one k i act
    → open_from k 0 all ≡ told ++ open_from k i (drop i all) → open_from k 0 all ≡ more ++ open_from k (i + 1) (drop (i + 1) all)
one_more_open k all told more i act at lt is so_far =
    let split : drop i all ≡ act ∷ drop (i + 1) all = drop_more all i act lt ∙ ap (λ x. x ∷ drop (i + 1) all) (sym at) in
    so_far ∙ ap (λ xs. told ++ open_from k i xs) split
    ∙ sym (append_assoc told (open_one k i act) (open_from k (i + 1) (drop (i + 1) all)))
    ∙ ap (λ xs. xs ++ open_from k (i + 1) (drop (i + 1) all)) (sym is)

-- and once there are no more
pub all_open : (k : Kept) (all told : List Act) (i : ℕ) → length all ≤ i → open_from k 0 all ≡ told ++ open_from k i (drop i all) → told ≡ open_from k 0 all
all_open k all told i past so_far =
    sym (so_far ∙ ap (λ xs. told ++ open_from k i xs) (drop_all i all past) ∙ append-nil told)

-- WHICH PLACES ARE OPEN

abbrev has_no_end : Standing → Bool
has_no_end (Over act) = false
has_no_end (Going q) = true
has_no_end (Hanging q) = true

or_false : (a b : Bool) → a ≡ false → b ≡ false → (a || b) ≡ false
or_false true b is isnt = is
or_false false b is isnt = isnt

or_true : (a : Bool) → (a || true) ≡ true
or_true true = refl
or_true false = refl

module _ (s : Setting) (all : History) (k : Kept) (tied : IsTied s all k) where
  abbrev standing : List Standing
  standing = standings s all

  -- what stands elsewhere isn't there
  elsewhere : (act : Act) (i place : ℕ) (x : Standing) → StandsAt standing i (Over act) → StandsAt standing place x
      → (Some x ≡ Some (Over act) → ⊥) → eqb place i ≡ false
  elsewhere act i place x over stands never = by_place (eqb place i) refl
    where
      by_place : (b : Bool) → eqb place i ≡ b → b ≡ false
      by_place false is = refl
      by_place true is = absurd (never (sym stands ∙ ap (slice_get standing) (eqb-true place i is) ∙ over))

  no_going : (act : Act) (i : ℕ) → StandsAt standing i (Over act) → (o : Option KeptGoing) → going_on k act.hart.0 ≡ o → is_place i (option_map (λ g. g.place) o) ≡ false
  no_going act i at None on = refl
  no_going act i at (Some g) on =
      let there = goes_on s all k tied act.hart.0 g on in
      elsewhere act i g.place (Going there.sequence) at there.stands (λ same. cc)

  no_hanging : (act : Act) (i : ℕ) → StandsAt standing i (Over act) → (o : Option KeptHanging) → hanging_of k act.tid ≡ o → is_place i (option_map (λ x. x.place) o) ≡ false
  no_hanging act i at None hangs = refl
  no_hanging act i at (Some x) hangs =
      let there = tied.hangs act.tid x hangs in
      elsewhere act i x.place (Hanging there.sequence) at there.stands (λ same. cc)

  -- an act is open exactly where it has no end
  open_at : (i : ℕ) (x : Standing) → StandsAt standing i x → is_open k i (at_the_end s all [] x) ≡ has_no_end x
  open_at i (Over act) at =
      or_false (is_place i (option_map (λ g. g.place) (going_on k act.hart.0))) (is_place i (option_map (λ x. x.place) (hanging_of k act.tid)))
      (no_going act i at (going_on k act.hart.0) refl) (no_hanging act i at (hanging_of k act.tid) refl)
  open_at i (Going q) at =
      ap (λ o. is_place i (option_map (λ g. g.place) o) || is_place i (option_map (λ x. x.place) (hanging_of k (tid_of q)))) (tied.going i q at)
      ∙ ap (λ b. b || is_place i (option_map (λ x. x.place) (hanging_of k (tid_of q)))) (eqb_same i)
  open_at i (Hanging q) at =
      ap (λ o. is_place i (option_map (λ g. g.place) (going_on k q.hart)) || is_place i (option_map (λ x. x.place) o)) (tied.hanging i q at)
      ∙ ap (λ b. is_place i (option_map (λ g. g.place) (going_on k q.hart)) || b) (eqb_same i)
      ∙ or_true (is_place i (option_map (λ g. g.place) (going_on k q.hart)))

  -- so those are told that have none
  module _ (kept : List Act) where
    abbrev closed : Kept
    closed = record k { acts = kept }

    told_from : (xs : List Standing) (i : ℕ) → ((j : ℕ) (x : Standing) → slice_get xs j ≡ Some x → is_open closed (i + j) (at_the_end s all [] x) ≡ has_no_end x)
        → open_from closed i (map (at_the_end s all []) xs) ≡ filter_map (open_act s all) xs
    told_from [] i tells = refl
    told_from (x ∷ xs) i tells =
        let rest = told_from xs (i + 1) (λ j y at.
        let further : i + 1 + j ≡ i + suc j = omega arith in
        ap (λ n. is_open closed n (at_the_end s all [] y)) further ∙ tells (suc j) y at) in
        let here : i ≡ i + 0 = omega arith in
        ap (λ b. cond b (at_the_end s all [] x ∷ []) [] ++ open_from closed (i + 1) (map (at_the_end s all []) xs))
        (ap (λ n. is_open closed n (at_the_end s all [] x)) here ∙ tells 0 x refl)
        ∙ ap (λ ys. cond (has_no_end x) (at_the_end s all [] x ∷ []) [] ++ ys) rest ∙ one_told x xs
      where
        one_told : (x : Standing) (xs : List Standing)
            → cond (has_no_end x) (at_the_end s all [] x ∷ []) [] ++ filter_map (open_act s all) xs ≡ filter_map (open_act s all) (x ∷ xs)
        one_told (Over act) xs = refl
        one_told (Going q) xs = refl
        one_told (Hanging q) xs = refl

    pub open_told : open_from closed 0 (map (at_the_end s all []) standing) ≡ acts_left_open s all
    open_told = told_from standing 0 (λ j x at. let same : 0 + j ≡ j = omega arith in ap (λ n. is_open closed n (at_the_end s all [] x)) same ∙ open_at j x at)
