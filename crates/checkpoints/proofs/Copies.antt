-- Checkpoints of a log, and one more.
use Rattle.std.proofs.Common.{◌≡◌, ◌≢◌, ◌++◌, ℕ, ◌+◌, ◌-◌, ◌<◌, ◌≤◌, Bool, true, false, if◌then◌else◌, List, [], ◌∷◌, Some, drop, length, get_or, slice_get, slice_set, take, refl, sym, ap, ◌∙◌, subst, arith, inl, inr, zero, suc}
use Rattle.std.proofs.lemmas.Bool.{cases_eq}
use Rattle.std.proofs.lemmas.List.{length-append, take-append-drop, take-append-le}
use Rattle.mach_types.specs.declared.events.Entry.{Entry}
use Rattle.block_model.proofs.Laws.{run_before}
use Rattle.block_model.specs.Run.{IsBlockRun}
use Rattle.block_model.specs.Setting.{Setting}
use Rattle.same_places.specs.Replayed.{StandAfter}
use Rattle.checkpoints.specs.Standing.{AreCheckpoints, AreWithin, IsCheckpoint}
use Rattle.checkpoints.specs.declared.checkpoint.Checkpoint.{Checkpoint}

-- so many first entries there are
take_length : {A : Type 0} (n : ℕ) (xs : List A) → n ≤ length xs → length (take n xs) ≡ n
take_length zero xs h = refl
take_length (suc n) [] h = absurd (omega arith)
take_length (suc n) (x ∷ xs) h = let rest = take_length n xs (omega arith) in omega arith

-- the first entries of a run are one
pub run_taken : (s : Setting) (log : List Entry) (n : ℕ) → IsBlockRun s log → IsBlockRun s (take n log)
run_taken s log n run = run_before s (take n log) (drop n log) (subst (λ (l : List Entry). IsBlockRun s l) (sym (take-append-drop n log)) run)

-- one checkpoint more is within the entries of both
item_at : {A : Type 0} (xs : List A) (n : ℕ) (x d : A) → slice_get xs n ≡ Some x → get_or xs n d ≡ x
item_at [] n x d at = cc
item_at (y ∷ ys) zero x d at = cc
item_at (y ∷ ys) (suc n) x d at = item_at ys n x d at

pub within_more : (slots : List Checkpoint) (n most : ℕ) (q : Checkpoint) → q ≡ get_or slots n q → q.length ≤ most → AreWithin slots n most → AreWithin slots (n + 1) most
within_more slots n most q is low within i k lt at = elim (cases_eq i n) [
  | inl here ↦
      let same : q ≡ k = is ∙ item_at slots n k q (subst (λ (j : ℕ). slice_get slots j ≡ Some k) here at) in
      subst (λ (z : Checkpoint). z.length ≤ most) same low
  | inr other ↦ within i k (omega arith) at
]

-- one item of a list is another
set_here : {A : Type 0} (xs : List A) (n : ℕ) (x : A) → n < length xs → slice_get (slice_set xs n x) n ≡ Some x
set_here [] n x lt = absurd (omega arith)
set_here (y ∷ xs) zero x lt = refl
set_here (y ∷ xs) (suc n) x lt = set_here xs n x (omega arith)

set_other : {A : Type 0} (xs : List A) (n i : ℕ) (x : A) → i ≢ n → slice_get (slice_set xs n x) i ≡ slice_get xs i
set_other [] n i x two = refl
set_other (y ∷ xs) zero zero x two = absurd (two refl)
set_other (y ∷ xs) zero (suc i) x two = refl
set_other (y ∷ xs) (suc n) zero x two = refl
set_other (y ∷ xs) (suc n) (suc i) x two = set_other xs n i x (λ e. two (ap suc e))

-- parts that stand after so many entries
pub checkpoint_of : (s : Setting) (log given : List Entry) (count : ℕ) (k : Checkpoint) → count ≤ length log → given ≡ log → k.length ≡ length (take count given)
    → StandAfter s (take count given) k.parts → IsCheckpoint s log k
checkpoint_of s log given count k within is size stands =
    let long : k.length ≡ count = size ∙ ap (λ (l : List Entry). length (take count l)) is ∙ take_length count log within in
    record {
      within = omega arith;
      stands = subst (λ (n : ℕ). StandAfter s (take n log) k.parts) (sym long) (subst (λ (l : List Entry). StandAfter s (take count l) k.parts) is stands);
    }

-- one checkpoint more
pub one_more : (s : Setting) (log : List Entry) (slots : List Checkpoint) (used : ℕ) (k : Checkpoint) → used < length slots → IsCheckpoint s log k
    → AreCheckpoints s log slots used → AreCheckpoints s log (slice_set slots used k) (used + 1)
one_more s log slots used k room is stand i q lt at = elim (cases_eq i used) [
  | inl here ↦
      let one : Some q ≡ Some k = sym at ∙ ap (slice_get (slice_set slots used k)) here ∙ set_here slots used k room in
      let same : k ≡ q = cc in
      subst (IsCheckpoint s log) same is
  | inr other ↦ stand i q (omega arith) (sym (set_other slots used i k other) ∙ at)
]

-- the parts past them may be others
pub others_past : (s : Setting) (log : List Entry) (slots : List Checkpoint) (used : ℕ) (k : Checkpoint) → AreCheckpoints s log slots used → AreCheckpoints s log (slice_set slots used k) used
others_past s log slots used k stand i q lt at = stand i q lt (sym (set_other slots used i k (λ e. omega arith)) ∙ at)

-- the first entries of the first ones
take_of_take : {A : Type 0} (m n : ℕ) (xs : List A) → m ≤ n → take m (take n xs) ≡ take m xs
take_of_take zero n xs h = refl
take_of_take (suc m) zero xs h = absurd (omega arith)
take_of_take (suc m) (suc n) [] h = refl
take_of_take {A} (suc m) (suc n) (x ∷ xs) h = ap (λ (l : List A). x ∷ l) (take_of_take m n xs (omega arith))

-- a checkpoint that stands after entries which are kept is one of the new log
kept_one : (s : Setting) (log new : List Entry) (k : Checkpoint) → IsCheckpoint s log k → k.length ≤ length new → take k.length new ≡ take k.length log → IsCheckpoint s new k
kept_one s log new k was within same = record { within = within; stands = subst (λ (l : List Entry). StandAfter s l k.parts) (sym same) was.stands }

pub still_one : (s : Setting) (log new more : List Entry) (n : ℕ) (k : Checkpoint) (ok : Bool) → IsCheckpoint s log k → k.length ≤ n → n ≤ length log
    → new ≡ (if ok then take n log ++ more else take n log) → IsCheckpoint s new k
still_one s log new more n k true was low within is =
    let long = take_length n log within in
    let size : length new ≡ n + length more = ap length is ∙ length-append (take n log) more ∙ ap (λ (m : ℕ). m + length more) long in
    kept_one s log new k was (omega (arith, low, size))
    (ap (take k.length) is ∙ take-append-le k.length (take n log) more (omega (arith, low, long)) ∙ take_of_take k.length n log low)
still_one s log new more n k false was low within is =
    let size : length new ≡ n = ap length is ∙ take_length n log within in
    kept_one s log new k was (omega (arith, low, size)) (ap (take k.length) is ∙ take_of_take k.length n log low)
