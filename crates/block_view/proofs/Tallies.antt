-- Counts add up: an act more is counted once, one that changes as it is then, and the counts of a hart are together as many as its acts.
use Rattle.std.proofs.Common.{◌≡◌, ◌≤◌, ℕ, zero, suc, ◌+◌, ◌-◌, ◌&&◌, List, [], ◌∷◌, ◌++◌, eqb, filter, length, map, slice_get, refl, sym, ap, ◌∙◌, arith, Bool, true, false, cond, Some}
use Rattle.block_model.specs.declared.acts.SeqEnd.{SeqEnd}
use Rattle.block_model.specs.declared.acts.SeqEnd.TheVariants as ends
use Rattle.block_view.specs.Counters.{ended_one}
use Rattle.block_view.specs.Counting.{counted, counted_end, counts_of, how_many, is_cut, is_dead, is_dropped, is_ended, is_kernel, is_left, is_step, is_unended, total}
use Rattle.block_view.specs.Ledgers.{changed_at, with_end, with_last}
use Rattle.block_view.specs.declared.forms.Act.{Act}
use Rattle.block_view.specs.declared.forms.Form.{Form}
use Rattle.block_view.specs.declared.forms.Form.TheVariants.{Step, Kernel, Sequence}
use Rattle.block_view.specs.declared.tally.Counts.{Counts}

-- 1 where a test is true
abbrev once : Bool → ℕ
once b = cond b 1 0

-- HOW MANY ACTS PASS A TEST

-- an act at the head of a list counts where it passes
kept_first : (b : Bool) (a : Act) (rest : List Act) → length (cond b (a ∷ rest) rest) ≡ once b + length rest
kept_first true a rest = omega arith
kept_first false a rest = omega arith

-- and so does one at its end
passing_last : (passes : Act → Bool) (list : List Act) (a : Act)
    → length (filter passes (list ++ a ∷ [])) ≡ length (filter passes list) + once (passes a)
passing_last passes [] a = kept_first (passes a) a [] ∙ omega arith
passing_last passes (x ∷ list) a =
    kept_first (passes x) x (filter passes (list ++ a ∷ []))
    ∙ ap (λ n. once (passes x) + n) (passing_last passes list a)
    ∙ sym (ap (λ n. n + once (passes a)) (kept_first (passes x) x (filter passes list)) ∙ omega arith)

-- ONE ACT MORE

-- counts are known by their fields
same_counts : (a b : Counts) → a.step ≡ b.step → a.left ≡ b.left → a.cut ≡ b.cut → a.dropped ≡ b.dropped → a.dead ≡ b.dead
    → a.unended ≡ b.unended → a.kernel ≡ b.kernel → a ≡ b
same_counts a b step left cut dropped dead unended kernel = λ i. record {
  step = step i;
  left = left i;
  cut = cut i;
  dropped = dropped i;
  dead = dead i;
  unended = unended i;
  kernel = kernel i;
}

-- counts to which is added 1 where each test is true
abbrev added : Counts → (so : (Form → Bool) → Bool) → Counts
added counts so = record {
  step = counts.step + once (so is_step);
  left = counts.left + once (so (is_ended is_left));
  cut = counts.cut + once (so is_cut);
  dropped = counts.dropped + once (so (is_ended is_dropped));
  dead = counts.dead + once (so (is_ended is_dead));
  unended = counts.unended + once (so (is_ended is_unended));
  kernel = counts.kernel + once (so is_kernel);
}

-- an act at the end of a list adds 1 where it is of the hart and passes
added_last : (list : List Act) (a : Act) (h : ℕ) → counts_of (list ++ a ∷ []) h ≡ added (counts_of list h) (λ so. eqb a.hart.0 h && so a.form)
added_last list a h =
    same_counts _ _ (at is_step) (at (is_ended is_left)) (at is_cut) (at (is_ended is_dropped)) (at (is_ended is_dead))
    (at (is_ended is_unended)) (at is_kernel)
  where
    at : (so : Form → Bool) → how_many h so (list ++ a ∷ []) ≡ how_many h so list + once (eqb a.hart.0 h && so a.form)
    at so = passing_last (λ (act : Act). eqb act.hart.0 h && so act.form) list a

-- adding nothing changes nothing
plus_none : (n : ℕ) → n + 0 ≡ n
plus_none n = omega arith

-- an act of another hart isn't counted
added_none : (counts : Counts) → added counts (λ so. false) ≡ counts
added_none counts = simp plus_none

-- one of the hart is counted once, and together they are one more
record IsOneMore (form : Form) (counts : Counts) : Type 0 where
  one : added counts (λ so. so form) ≡ counted form counts
  more : total (counted form counts) ≡ total counts + 1

is_one_more : (form : Form) (counts : Counts) → IsOneMore form counts
is_one_more Step counts = record { one = simp plus_none; more = omega arith }
is_one_more Kernel counts = record { one = simp plus_none; more = omega arith }
is_one_more (Sequence ends.Dead) counts = record { one = simp plus_none; more = omega arith }
is_one_more (Sequence (ends.Cut at)) counts = record { one = simp plus_none; more = omega arith }
is_one_more (Sequence ends.Left) counts = record { one = simp plus_none; more = omega arith }
is_one_more (Sequence ends.Dropped) counts = record { one = simp plus_none; more = omega arith }
is_one_more (Sequence ends.Unended) counts = record { one = simp plus_none; more = omega arith }

added_one : (form : Form) (counts : Counts) → added counts (λ so. so form) ≡ counted form counts
added_one form counts = (is_one_more form counts).one

-- so an act of the hart is counted
pub counts_last : (list : List Act) (a : Act) (h : ℕ) → eqb a.hart.0 h ≡ true → counts_of (list ++ a ∷ []) h ≡ counted a.form (counts_of list h)
counts_last list a h own =
    added_last list a h ∙ ap (λ b. added (counts_of list h) (λ so. b && so a.form)) own ∙ added_one a.form (counts_of list h)

-- and one of another hart isn't
pub counts_other : (list : List Act) (a : Act) (h : ℕ) → eqb a.hart.0 h ≡ false → counts_of (list ++ a ∷ []) h ≡ counts_of list h
counts_other list a h other =
    added_last list a h ∙ ap (λ b. added (counts_of list h) (λ so. b && so a.form)) other ∙ added_none (counts_of list h)

-- TOGETHER

-- an act at the head of a list adds 1 where it is of the hart and passes
added_first : (list : List Act) (a : Act) (h : ℕ) → counts_of (a ∷ list) h ≡ added (counts_of list h) (λ so. eqb a.hart.0 h && so a.form)
added_first list a h =
    same_counts _ _ (at is_step) (at (is_ended is_left)) (at is_cut) (at (is_ended is_dropped)) (at (is_ended is_dead))
    (at (is_ended is_unended)) (at is_kernel)
  where
    at : (so : Form → Bool) → how_many h so (a ∷ list) ≡ how_many h so list + once (eqb a.hart.0 h && so a.form)
    at so = kept_first (eqb a.hart.0 h && so a.form) a (filter (λ (act : Act). eqb act.hart.0 h && so act.form) list) ∙ omega arith

-- so the sum grows by 1 where it is of the hart
total_added : (own : Bool) (form : Form) (counts : Counts) → total (added counts (λ so. own && so form)) ≡ total counts + once own
total_added true form counts = ap total (added_one form counts) ∙ (is_one_more form counts).more
total_added false form counts = ap total (added_none counts) ∙ omega arith

-- the counts of a hart are as many as its acts
pub total_is : (list : List Act) (h : ℕ) → total (counts_of list h) ≡ length (filter (λ (act : Act). eqb act.hart.0 h) list)
total_is [] h = refl
total_is (a ∷ list) h =
    ap total (added_first list a h)
    ∙ total_added (eqb a.hart.0 h) a.form (counts_of list h)
    ∙ ap (λ n. n + once (eqb a.hart.0 h)) (total_is list h)
    ∙ sym (kept_first (eqb a.hart.0 h) a (filter (λ (act : Act). eqb act.hart.0 h) list) ∙ omega arith)

-- a test adds at most 1
kept_most : (b : Bool) → once b ≤ 1
kept_most true = omega arith
kept_most false = omega arith

-- so they are at most as many as all acts
pub total_most : (list : List Act) (h : ℕ) → total (counts_of list h) ≤ length list
total_most [] h = omega arith
total_most (a ∷ list) h =
    let one = ap total (added_first list a h) ∙ total_added (eqb a.hart.0 h) a.form (counts_of list h) in
    omega (arith, one, kept_most (eqb a.hart.0 h), total_most list h)

-- AN ACT THAT CHANGES

-- the acts but for the one at a place
abbrev but : ℕ → List Act → List Act
but i [] = []
but zero (x ∷ acts) = acts
but (suc i) (x ∷ acts) = x ∷ but i acts

-- what is added in two goes can be added in the other order
plus_swap : (a b c : ℕ) → a + b + c ≡ a + c + b
plus_swap a b c = omega arith

added_swap : (counts : Counts) (one other : (Form → Bool) → Bool) → added (added counts one) other ≡ added (added counts other) one
added_swap counts one other =
    same_counts _ _ (plus_swap counts.step _ _) (plus_swap counts.left _ _) (plus_swap counts.cut _ _) (plus_swap counts.dropped _ _)
    (plus_swap counts.dead _ _) (plus_swap counts.unended _ _) (plus_swap counts.kernel _ _)

-- 1 is added where an act of the hart passes
abbrev of_act : ℕ → Act → (Form → Bool) → Bool
of_act h act so = eqb act.hart.0 h && so act.form

-- an act that changes is counted as it is then, beside the others
changed_counts : (f : Act → Act) (acts : List Act) (i h : ℕ) (act : Act) → slice_get acts i ≡ Some act
    → counts_of (changed_at i f acts) h ≡ added (counts_of (but i acts) h) (of_act h (f act))
changed_counts f [] i h act at = absurd cc
changed_counts f (x ∷ acts) zero h act at =
    let same : x ≡ act = cc in
    added_first acts (f x) h ∙ ap (λ (a : Act). added (counts_of acts h) (of_act h (f a))) same
changed_counts f (x ∷ acts) (suc i) h act at =
    added_first (changed_at i f acts) x h
    ∙ ap (λ (c : Counts). added c (of_act h x)) (changed_counts f acts i h act at)
    ∙ added_swap (counts_of (but i acts) h) (of_act h (f act)) (of_act h x)
    ∙ ap (λ (c : Counts). added c (of_act h (f act))) (sym (added_first (but i acts) x h))

unchanged : (acts : List Act) (i : ℕ) → changed_at i (λ act. act) acts ≡ acts
unchanged [] i = refl
unchanged (x ∷ acts) zero = refl
unchanged (x ∷ acts) (suc i) = ap (λ xs. x ∷ xs) (unchanged acts i)

module _ (acts : List Act) (i h : ℕ) (act : Act) (at : slice_get acts i ≡ Some act) where
  abbrev others : Counts
  others = counts_of (but i acts) h

  as_it_is : counts_of acts h ≡ added others (of_act h act)
  as_it_is = ap (λ xs. counts_of xs h) (sym (unchanged acts i)) ∙ changed_counts (λ a. a) acts i h act at

  -- it takes in an entry
  pub counts_with_last : (n : ℕ) → counts_of (changed_at i (with_last n) acts) h ≡ counts_of acts h
  counts_with_last n = changed_counts (with_last n) acts i h act at ∙ sym as_it_is

  -- it is of another hart
  pub counts_elsewhere : (end : SeqEnd) → eqb act.hart.0 h ≡ false → counts_of (changed_at i (with_end end) acts) h ≡ counts_of acts h
  counts_elsewhere end other =
      changed_counts (with_end end) acts i h act at
      ∙ ap (λ b. added others (λ so. b && so (Sequence end))) other
      ∙ sym (as_it_is ∙ ap (λ b. added others (λ so. b && so act.form)) other)

  -- it is a sequence of the hart that is unended
  module _ (own : eqb act.hart.0 h ≡ true) (opens : act.form ≡ Sequence ends.Unended) where
    open_one : counts_of acts h ≡ counted (Sequence ends.Unended) others
    open_one =
        as_it_is
        ∙ ap (λ b. added others (λ so. b && so act.form)) own
        ∙ ap (λ (form : Form). added others (λ so. so form)) opens
        ∙ added_one (Sequence ends.Unended) others

    less_one : (n : ℕ) → n + 1 - 1 ≡ n
    less_one n = omega arith

    pub counts_ended : (end : SeqEnd) → counts_of (changed_at i (with_end end) acts) h ≡ ended_one end (counts_of acts h)
    counts_ended end =
        changed_counts (with_end end) acts i h act at
        ∙ ap (λ b. added others (λ so. b && so (Sequence end))) own
        ∙ added_one (Sequence end) others
        ∙ sym (ap (ended_one end) open_one ∙ ap (λ n. counted_end end (record others { unended = n })) (less_one others.unended))

    pub one_is_open : 1 ≤ (counts_of acts h).unended
    one_is_open = let is = ap (λ (c : Counts). c.unended) open_one in omega arith

-- ACTS THAT COUNT ALIKE

-- two acts are counted alike for a hart: they are the same, or neither is of it
pub data CountsAlike (h : ℕ) (a b : Act) : Type 0 where
  Same : a ≡ b → CountsAlike h a b
  Neither : eqb a.hart.0 h ≡ false → eqb b.hart.0 h ≡ false → CountsAlike h a b

alike_first : (h : ℕ) (a b : Act) (counts : Counts) → CountsAlike h a b → added counts (of_act h a) ≡ added counts (of_act h b)
alike_first h a b counts (Same is) = ap (λ x. added counts (of_act h x)) is
alike_first h a b counts (Neither one other) =
    ap (λ x. added counts (λ so. x && so a.form)) one ∙ sym (ap (λ x. added counts (λ so. x && so b.form)) other)

pub counts_alike : {X : Type 0} (f g : X → Act) (xs : List X) (h : ℕ) → ((j : ℕ) (x : X) → slice_get xs j ≡ Some x → CountsAlike h (f x) (g x))
    → counts_of (map f xs) h ≡ counts_of (map g xs) h
counts_alike f g [] h alike = refl
counts_alike f g (x ∷ xs) h alike =
    added_first (map f xs) (f x) h
    ∙ alike_first h (f x) (g x) (counts_of (map f xs) h) (alike 0 x refl)
    ∙ ap (λ (c : Counts). added c (of_act h (g x))) (counts_alike f g xs h (λ j y at. alike (suc j) y at))
    ∙ sym (added_first (map g xs) (g x) h)
