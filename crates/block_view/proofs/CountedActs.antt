-- A counter that counts what a ledger lists does so after one entry more.
use Rattle.std.proofs.Common.{◌≡◌, ◌≢◌, ℕ, ◌+◌, ◌<◌, ◌^◌, inl, inr, List, [], ◌∷◌, ◌++◌, ◌&&◌, length, length-set, map, set, slice_get, get_or, get_or-set_same, get_or-set_other, find, filter, refl, sym, ap, ◌∙◌, subst, arith, eqb, Bool, true, false, cond, not, Option, Some, None, is_some}
use Rattle.std.specs.Option.{option_map}
use Rattle.std.proofs.lemmas.Bool.{cases_eq, eqb-true, false_from_ne_true, false≢true}
use Rattle.std.proofs.lemmas.List.{get_or_default, map-append}
use Rattle.mach_types.proofs.Laws.{eqb_same, instruction_runs_none}
use Rattle.mach_types.specs.Events.{is_instruction, is_preempt, is_run}
use Rattle.mach_types.specs.declared.events.Hart.{Hart}
use Rattle.mach_types.specs.declared.events.Kind.{Kind}
use Rattle.mach_types.specs.declared.events.Kind.TheVariants as kind
use Rattle.mach_types.specs.declared.events.Tid.{Tid}
use Rattle.block_model.specs.Acts.{takes_in}
use Rattle.block_model.specs.declared.acts.SeqEnd.{SeqEnd}
use Rattle.block_model.specs.declared.acts.SeqEnd.TheVariants as ends
use Rattle.block_view.specs.Acts.{form_alone}
use Rattle.block_view.specs.Counters.{CanEnd, CanNote, CountsAs, KeptCounts, count_noted, count_settled, count_settled_by, ended_one, halted, hart_in, hart_noted, hart_noted_of, hart_of, hung_as, hung_now, hung_of, is_hung, nothing_done, with_alone, with_begun, with_ended}
use Rattle.block_view.specs.Counting.{counted, counts_of, total}
use Rattle.block_view.specs.Ledgers.{Kept, act_by, begins, begun, course_by, end_by, going_on, gone_by, gone_on, hanging_of, is_more, is_of, leaves_inside, noted, settled, settled_by, stopped, taken_in, verdict_by, with_act_alone, with_end_at, with_going, with_hanging}
use Rattle.block_view.specs.declared.counter.HartCount.{HartCount}
use Rattle.block_view.specs.declared.counter.Hung.{Hung}
use Rattle.block_view.specs.declared.course.Course.{Course}
use Rattle.block_view.specs.declared.forms.Act.{Act}
use Rattle.block_view.specs.declared.forms.Form.{Form}
use Rattle.block_view.specs.declared.forms.Form.TheVariants.{Sequence}
use Rattle.block_view.specs.declared.ledger.Going.{Going}
use Rattle.block_view.specs.declared.ledger.Hanging.{Hanging}
use Rattle.block_view.specs.declared.passing.Passed.{Passed}
use Rattle.block_view.specs.declared.tally.Counts.{Counts}
use Rattle.block_view.proofs.Noting.{length-settled, noted_alone, noted_begun, noted_more, noted_stopped, settled_else}
use Rattle.block_view.proofs.Tallies.{counts_elsewhere, counts_ended, counts_last, counts_other, counts_with_last, one_is_open, total_most}

-- SEQUENCES WITH NO END

-- the act at a place is a sequence of a hart that is unended
pub record IsOpenAct (k : Kept) (i h : ℕ) : Type 0 where
  pub act : Act
  pub at : slice_get k.acts i ≡ Some act
  pub hart : act.hart.0 ≡ h
  pub form : act.form ≡ Sequence ends.Unended

-- so is that of each sequence that goes on or hangs
pub record HasOpenActs (k : Kept) : Type 0 where
  pub going : (h : ℕ) (g : Going) → going_on k h ≡ Some g → IsOpenAct k g.place h
  pub hanging : (tid : Tid) (x : Hanging) → hanging_of k tid ≡ Some x → IsOpenAct k x.place x.hart.0 × (x.hart.0 < length k.going)

apart : (a b : ℕ) → b ≢ a → eqb a b ≡ false
apart a b other = false_from_ne_true (eqb a b) (λ is. other (sym (eqb-true a b is)))

pub alike : (a b : ℕ) → a ≡ b → eqb a b ≡ true
alike a b is = ap (eqb a) (sym is) ∙ eqb_same a

pub can_end : (k : Kept) (i h : ℕ) → IsOpenAct k i h → length k.acts < 2 ^ 32 → CanEnd (counts_of k.acts h)
can_end k i h is few = record {
  one = one_is_open k.acts i h is.act is.at (alike is.act.hart.0 h is.hart) is.form;
  few = let most = total_most k.acts h in omega arith;
}

-- LISTS THAT ARE MAPPED

found_as : (tid : Tid) (xs : List Hanging) → find (is_hung tid) (map hung_as xs) ≡ option_map hung_as (find (is_of tid) xs)
found_as tid [] = refl
found_as tid (x ∷ xs) = by_head (is_of tid x) (found_as tid xs)
  where
    by_head : (b : Bool) → find (is_hung tid) (map hung_as xs) ≡ option_map hung_as (find (is_of tid) xs)
        → cond b (Some (hung_as x)) (find (is_hung tid) (map hung_as xs)) ≡ option_map hung_as (cond b (Some x) (find (is_of tid) xs))
    by_head true rest = refl
    by_head false rest = rest

kept_as : (tid : Tid) (xs : List Hanging) → filter (λ y. not (is_hung tid y)) (map hung_as xs) ≡ map hung_as (filter (λ x. not (is_of tid x)) xs)
kept_as tid [] = refl
kept_as tid (x ∷ xs) = by_head (not (is_of tid x)) (kept_as tid xs)
  where
    by_head : (b : Bool) → filter (λ y. not (is_hung tid y)) (map hung_as xs) ≡ map hung_as (filter (λ z. not (is_of tid z)) xs)
        → cond b (hung_as x ∷ filter (λ y. not (is_hung tid y)) (map hung_as xs)) (filter (λ y. not (is_hung tid y)) (map hung_as xs))
        ≡ map hung_as (cond b (x ∷ filter (λ z. not (is_of tid z)) xs) (filter (λ z. not (is_of tid z)) xs))
    by_head true rest = ap (λ ys. hung_as x ∷ ys) rest
    by_head false rest = rest

pub hung_is : (k : Kept) (t : KeptCounts) (tid : Tid) → CountsAs k t → hung_of t tid ≡ option_map hung_as (hanging_of k tid)
hung_is k t tid was = ap (find (is_hung tid)) was.hanging ∙ found_as tid k.hanging

-- ONE HART'S COUNTS ARE WRITTEN

written : (k k' : Kept) (t : KeptCounts) (h : ℕ) (x : HartCount) (hanging : List Hung) → CountsAs k t → length k'.going ≡ length k.going
    → h < length k.going → x ≡ hart_of k' h → ((j : ℕ) → j ≢ h → hart_of k j ≡ hart_of k' j) → hanging ≡ map hung_as k'.hanging
    → CountsAs k' (record { harts = set t.harts h x; hanging = hanging })
written k k' t h x hanging was same lt is others hangs = record {
  harts = length-set t.harts h x ∙ was.harts ∙ sym same;
  each = λ j less. elim (cases_eq j h) [
    | inl own ↦
        ap (λ n. get_or (set t.harts h x) n nothing_done) own ∙ get_or-set_same t.harts h x nothing_done (let l = was.harts in omega arith) ∙ is
        ∙ ap (hart_of k') (sym own)
    | inr other ↦ get_or-set_other t.harts h j x nothing_done other ∙ was.each j (omega (arith, same)) ∙ others j other
  ];
  hanging = hangs;
}

-- what is kept of a hart, by its parts
abbrev hart_with : Counts → Option Course → HartCount
hart_with counts going = record { counts = counts; going = going }

parts : (counts counts' : Counts) (going going' : Option Course) → counts ≡ counts' → going ≡ going' → hart_with counts going ≡ hart_with counts' going'
parts counts counts' going going' one other = λ i. record { counts = one i; going = other i }

abbrev course_in : Option Going → Option Course
course_in o = option_map (λ (g : Going). g.course) o

-- A SEQUENCE THAT HANGS ENDS

ended_here : (k : Kept) (t : KeptCounts) (v : SeqEnd) (i h : ℕ) → CountsAs k t → IsOpenAct k i h → h < length k.going
    → with_ended v (hart_in t h) ≡ hart_of (with_end_at i v k) h
ended_here k t v i h was opens lt =
    ap (with_ended v) (was.each h lt)
    ∙ ap (λ (c : Counts). record { counts = c; going = course_in (going_on k h) })
    (sym (counts_ended k.acts i h opens.act opens.at (alike opens.act.hart.0 h opens.hart) opens.form v))

elsewhere : (k : Kept) (v : SeqEnd) (i h : ℕ) → IsOpenAct k i h → (j : ℕ) → j ≢ h → counts_of (with_end_at i v k).acts j ≡ counts_of k.acts j
elsewhere k v i h opens j other =
    counts_elsewhere k.acts i j opens.act opens.at v (apart opens.act.hart.0 j (λ same. other (same ∙ opens.hart)))

settled_to : (k : Kept) (t : KeptCounts) (p : Passed) (x : Hanging) → CountsAs k t → HasOpenActs k → hanging_of k p.entry.tid ≡ Some x
    → CountsAs (settled_by p (Some x) k) (count_settled_by p (Some (hung_as x)) t)
settled_to k t p x was opens hangs =
    let act = opens.hanging p.entry.tid x hangs in
    let v = verdict_by p in
    let k' = settled_by p (Some x) k in
    written k k' t x.hart.0 (with_ended v (hart_in t x.hart.0)) (filter (λ y. not (is_hung p.entry.tid y)) t.hanging) was refl act.1
    (ended_here k t v x.place x.hart.0 was act.0 act.1)
    (λ j other. ap (λ (c : Counts). record { counts = c; going = course_in (going_on k j) }) (sym (elsewhere k v x.place x.hart.0 act.0 j other)))
    (ap (filter (λ y. not (is_hung p.entry.tid y))) was.hanging ∙ kept_as p.entry.tid k.hanging)

settled_by_hanging : (k : Kept) (t : KeptCounts) (p : Passed) → CountsAs k t → HasOpenActs k → (o : Option Hanging) → hanging_of k p.entry.tid ≡ o
    → CountsAs (settled_by p o k) (count_settled_by p (option_map hung_as o) t)
settled_by_hanging k t p was opens None hangs = was
settled_by_hanging k t p was opens (Some x) hangs = settled_to k t p x was opens hangs

pub settles_alike : (k : Kept) (t : KeptCounts) (p : Passed) → CountsAs k t → HasOpenActs k → CountsAs (settled p k) (count_settled p t)
settles_alike k t p was opens = by_run (is_run p.entry.kind)
  where
    by_run : (b : Bool) → CountsAs (cond b (settled_by p (hanging_of k p.entry.tid) k) k) (cond b (count_settled_by p (hung_of t p.entry.tid) t) t)
    by_run true =
        subst (λ (o : Option Hung). CountsAs (settled_by p (hanging_of k p.entry.tid) k) (count_settled_by p o t)) (sym (hung_is k t p.entry.tid was))
        (settled_by_hanging k t p was opens (hanging_of k p.entry.tid) refl)
    by_run false = was

-- what goes on stays
going_stays : (k : Kept) (p : Passed) → (settled p k).going ≡ k.going
going_stays k p = by_run (is_run p.entry.kind)
  where
    by_hanging : (o : Option Hanging) → (settled_by p o k).going ≡ k.going
    by_hanging None = refl
    by_hanging (Some x) = refl

    by_run : (b : Bool) → (cond b (settled_by p (hanging_of k p.entry.tid) k) k).going ≡ k.going
    by_run true = by_hanging (hanging_of k p.entry.tid)
    by_run false = refl

-- WHAT AN ENTRY MAKES OF ITS HART

-- an act more is counted on its hart, and on no other
counted_one : (acts : List Act) (p : Passed) (form : Form) → counts_of (acts ++ act_by p form ∷ []) p.entry.hart.0 ≡ counted form (counts_of acts p.entry.hart.0)
counted_one acts p form = counts_last acts (act_by p form) p.entry.hart.0 (eqb_same p.entry.hart.0)

counted_none : (acts : List Act) (p : Passed) (form : Form) (j : ℕ) → j ≢ p.entry.hart.0 → counts_of (acts ++ act_by p form ∷ []) j ≡ counts_of acts j
counted_none acts p form j other = counts_other acts (act_by p form) j (apart p.entry.hart.0 j other)

-- an entry that a sequence takes in preempts no thread
takes_stays : (k : Kind) (interrupts inside : Bool) → (inside && takes_in k interrupts) ≡ true → (inside && is_preempt k) ≡ false
takes_stays k interrupts false is = refl
takes_stays kind.Exec interrupts true is = refl
takes_stays kind.Drain interrupts true is = refl
takes_stays kind.Take interrupts true is = refl
takes_stays k interrupts true is = absurd (false≢true is)

and_false : (b : Bool) → (b && false) ≡ false
and_false true = refl
and_false false = refl

-- an instruction begins to run no thread
begins_stays : (k : Kind) (inside : Bool) → (inside && is_instruction k) ≡ true → is_run k ≡ false
begins_stays k false is = absurd (false≢true is)
begins_stays k true is = instruction_runs_none k is

module _ (k : Kept) (t : KeptCounts) (p : Passed) (was : CountsAs k t) (lt : p.entry.hart.0 < length k.going) where
  abbrev h : ℕ
  h = p.entry.hart.0

  abbrev own : HartCount
  own = hart_in t h

  own_is : (o : Option Going) → going_on k h ≡ o → own ≡ record { counts = counts_of k.acts h; going = course_in o }
  own_is o on = was.each h lt ∙ ap (λ (x : Option Going). record { counts = counts_of k.acts h; going = course_in x }) on

  -- none hangs from now on where the entry doesn't preempt its thread inside, or where no sequence goes on
  hangs_none : leaves_inside p && is_some own.going ≡ false → hung_now p t ≡ t
  hangs_none is = ap (λ b. cond b (record t { hanging = t.hanging ++ record { tid = p.entry.tid; hart = p.entry.hart } ∷ [] }) t) is

  noted_as : (k' : Kept) (x : HartCount) (hanging : List Hung) → hung_now p t ≡ record t { hanging = hanging } → hart_noted p own ≡ x
      → CountsAs k' (record { harts = set t.harts h x; hanging = hanging }) → CountsAs k' (hart_noted_of p (hung_now p t))
  noted_as k' x hanging now is counts =
      subst (λ (u : KeptCounts). CountsAs k' (hart_noted_of p u)) (sym now)
      (subst (λ (y : HartCount). CountsAs k' (record { harts = set t.harts h y; hanging = hanging })) (sym is) counts)

  -- where no sequence goes on there
  module _ (none : going_on k h ≡ None) where
    none_hangs : hung_now p t ≡ t
    none_hangs = hangs_none (ap (λ (x : HartCount). leaves_inside p && is_some x.going) (own_is None none) ∙ and_false (leaves_inside p))

    none_noted : (b : Bool) → begins p ≡ b → hart_noted p own ≡ cond b (with_begun p (hart_of k h)) (with_alone p (hart_of k h))
    none_noted b is =
        ap (λ (x : HartCount). hart_noted p x) (own_is None none)
        ∙ ap (λ x. cond x (with_begun p (record { counts = counts_of k.acts h; going = None })) (with_alone p (record { counts = counts_of k.acts h; going = None }))) is
        ∙ ap (λ (o : Option Going). cond b (with_begun p (record { counts = counts_of k.acts h; going = course_in o }))
        (with_alone p (record { counts = counts_of k.acts h; going = course_in o }))) (sym none)

    pub begun_counts : begins p ≡ true → CountsAs (begun p k) (hart_noted_of p (hung_now p t))
    begun_counts starts =
        let g : Going = record { place = length k.acts; course = course_by p } in
        noted_as (begun p k) (with_begun p (hart_of k h)) t.hanging none_hangs (none_noted true starts)
        (written k (begun p k) t h (with_begun p (hart_of k h)) t.hanging was (length-set k.going h (Some g)) lt
        (parts _ _ _ _ (sym (counted_one k.acts p (Sequence ends.Unended))) (sym (ap course_in (get_or-set_same k.going h (Some g) None lt))))
        (λ j other. parts _ _ _ _ (sym (counted_none k.acts p (Sequence ends.Unended) j other)) (sym (ap course_in (get_or-set_other k.going h j (Some g) None other))))
        was.hanging)

    pub alone_counts : begins p ≡ false → CountsAs (with_act_alone p k) (hart_noted_of p (hung_now p t))
    alone_counts other =
        let form = form_alone p.entry.kind in
        noted_as (with_act_alone p k) (with_alone p (hart_of k h)) t.hanging none_hangs (none_noted false other)
        (written k (with_act_alone p k) t h (with_alone p (hart_of k h)) t.hanging was refl lt
        (ap (λ (c : Counts). record { counts = c; going = course_in (going_on k h) }) (sym (counted_one k.acts p form)))
        (λ j apart. ap (λ (c : Counts). record { counts = c; going = course_in (going_on k j) }) (sym (counted_none k.acts p form j apart)))
        was.hanging)

  -- where one does
  module _ (g : Going) (on : going_on k h ≡ Some g) (opens : IsOpenAct k g.place h) where
    some_noted : (b : Bool) → is_more p ≡ b → hart_noted p own
        ≡ cond b (record { counts = counts_of k.acts h; going = Some (gone_by g.course p) })
        (with_alone p (halted g.course p (record { counts = counts_of k.acts h; going = Some g.course })))
    some_noted b is =
        ap (λ (x : HartCount). hart_noted p x) (own_is (Some g) on)
        ∙ ap (λ x. cond x (record { counts = counts_of k.acts h; going = Some (gone_by g.course p) })
        (with_alone p (halted g.course p (record { counts = counts_of k.acts h; going = Some g.course })))) is

    pub more_counts : is_more p ≡ true → CountsAs (taken_in g p k) (hart_noted_of p (hung_now p t))
    more_counts more =
        let k' = taken_in g p k in
        let x : HartCount = record { counts = counts_of k.acts h; going = Some (gone_by g.course p) } in
        let stays = ap (λ b. b && is_some own.going) (takes_stays p.entry.kind p.interrupts (is_some p.inside) more) in
        noted_as k' x t.hanging (hangs_none stays) (some_noted true more)
        (written k k' t h x t.hanging was (length-set k.going h (Some (gone_on g p))) lt
        (parts _ _ _ _ (sym (counts_with_last k.acts g.place h opens.act opens.at p.number))
        (sym (ap course_in (get_or-set_same k.going h (Some (gone_on g p)) None lt))))
        (λ j other. parts _ _ _ _ (sym (counts_with_last k.acts g.place j opens.act opens.at p.number))
        (sym (ap course_in (get_or-set_other k.going h j (Some (gone_on g p)) None other))))
        was.hanging)

    -- one that goes on no longer, and the act that the entry is by itself
    module _ (other : is_more p ≡ false) where
      abbrev form : Form
      form = form_alone p.entry.kind

      halted_counts : (kept : Kept) (counts : Counts) (hanging : List Hung) → kept.going ≡ set k.going h None
          → counts ≡ counts_of kept.acts h → ((j : ℕ) → j ≢ h → counts_of kept.acts j ≡ counts_of k.acts j)
          → hanging ≡ map hung_as kept.hanging
          → CountsAs (with_act_alone p kept) (record { harts = set t.harts h (record { counts = counted form counts; going = None }); hanging = hanging })
      halted_counts kept counts hanging going here there hangs =
          let none : (j : ℕ) → j ≢ h → course_in (going_on kept j) ≡ course_in (going_on k j) =
          λ j apart. ap (λ (xs : List (Option Going)). course_in (get_or xs j None)) going ∙ ap course_in (get_or-set_other k.going h j None None apart) in
          written k (with_act_alone p kept) t h (record { counts = counted form counts; going = None }) hanging was
          (ap length going ∙ length-set k.going h None) lt
          (parts _ _ _ _ (ap (counted form) here ∙ sym (counted_one kept.acts p form))
          (sym (ap (λ (xs : List (Option Going)). course_in (get_or xs h None)) going ∙ ap course_in (get_or-set_same k.going h None None lt))))
          (λ j apart. parts _ _ _ _ (sym (counted_none kept.acts p form j apart ∙ there j apart)) (sym (none j apart)))
          hangs

      halted_noted : (b : Bool) → leaves_inside p ≡ b → hart_noted p own
          ≡ record { counts = counted form (cond b (counts_of k.acts h) (ended_one (end_by g.course p) (counts_of k.acts h))); going = None }
      halted_noted b is =
          some_noted false other
          ∙ ap (λ x. record { counts = counted form (cond x (counts_of k.acts h) (ended_one (end_by g.course p) (counts_of k.acts h))); going = None }) is

      hung_counts : leaves_inside p ≡ true → CountsAs (with_act_alone p (stopped g p k)) (hart_noted_of p (hung_now p t))
      hung_counts leaves =
          let x : Hanging = record { tid = p.entry.tid; hart = p.entry.hart; place = g.place } in
          let kept = with_going h None (with_hanging x k) in
          let hanging = t.hanging ++ hung_as x ∷ [] in
          let so : stopped g p k ≡ kept = ap (λ b. with_going h None (cond b (with_hanging x k) (with_end_at g.place (end_by g.course p) k))) leaves in
          let hangs : leaves_inside p && is_some own.going ≡ true =
          ap (λ b. b && is_some own.going) leaves ∙ ap (λ (y : HartCount). is_some y.going) (own_is (Some g) on) in
          let now : hung_now p t ≡ record t { hanging = hanging } = ap (λ b. cond b (record t { hanging = hanging }) t) hangs in
          subst (λ y. CountsAs (with_act_alone p y) (hart_noted_of p (hung_now p t))) (sym so)
          (noted_as (with_act_alone p kept) (record { counts = counted form (counts_of k.acts h); going = None }) hanging now (halted_noted true leaves)
          (halted_counts kept (counts_of k.acts h) hanging refl refl (λ j apart. refl)
          (ap (λ xs. xs ++ hung_as x ∷ []) was.hanging ∙ sym (map-append hung_as k.hanging (x ∷ [])))))

      ended_counts : leaves_inside p ≡ false → CountsAs (with_act_alone p (stopped g p k)) (hart_noted_of p (hung_now p t))
      ended_counts stays =
          let x : Hanging = record { tid = p.entry.tid; hart = p.entry.hart; place = g.place } in
          let v = end_by g.course p in
          let kept = with_going h None (with_end_at g.place v k) in
          let so : stopped g p k ≡ kept = ap (λ b. with_going h None (cond b (with_hanging x k) (with_end_at g.place v k))) stays in
          let counts = ended_one v (counts_of k.acts h) in
          subst (λ y. CountsAs (with_act_alone p y) (hart_noted_of p (hung_now p t))) (sym so)
          (noted_as (with_act_alone p kept) (record { counts = counted form counts; going = None }) t.hanging
          (hangs_none (ap (λ b. b && is_some own.going) stays)) (halted_noted false stays)
          (halted_counts kept counts t.hanging refl
          (sym (counts_ended k.acts g.place h opens.act opens.at (alike opens.act.hart.0 h opens.hart) opens.form v))
          (λ j apart. elsewhere k v g.place h opens j apart)
          was.hanging))

      stopped_by : (b : Bool) → leaves_inside p ≡ b → CountsAs (with_act_alone p (stopped g p k)) (hart_noted_of p (hung_now p t))
      stopped_by true leaves = hung_counts leaves
      stopped_by false stays = ended_counts stays

      pub stopped_counts : CountsAs (with_act_alone p (stopped g p k)) (hart_noted_of p (hung_now p t))
      stopped_counts = stopped_by (leaves_inside p) refl

-- EACH ENTRY

module _ (k : Kept) (t : KeptCounts) (p : Passed) (was : CountsAs k t) (opens : HasOpenActs k) (lt : p.entry.hart.0 < length k.going)
    (runs : (g : Going) → going_on k p.entry.hart.0 ≡ Some g → is_run p.entry.kind ≡ false) where
  abbrev k' : Kept
  k' = settled p k

  abbrev t' : KeptCounts
  t' = count_settled p t

  was' : CountsAs k' t'
  was' = settles_alike k t p was opens

  lt' : p.entry.hart.0 < length k'.going
  lt' = subst (λ (xs : List (Option Going)). p.entry.hart.0 < length xs) (sym (going_stays k p)) lt

  stays : (o : Option Going) → going_on k p.entry.hart.0 ≡ o → going_on k' p.entry.hart.0 ≡ o
  stays o on = ap (λ (xs : List (Option Going)). get_or xs p.entry.hart.0 None) (going_stays k p) ∙ on

  none_by : (b : Bool) → begins p ≡ b → going_on k p.entry.hart.0 ≡ None → CountsAs (noted p k) (count_noted p t)
  unfolding count_noted
  none_by true starts none =
      subst (λ x. CountsAs x (hart_noted_of p (hung_now p t'))) (sym (noted_begun p k none starts))
      (begun_counts k' t' p was' lt' (stays None none) starts)
  none_by false other none =
      subst (λ x. CountsAs x (hart_noted_of p (hung_now p t'))) (sym (noted_alone p k none other))
      (alone_counts k' t' p was' lt' (stays None none) other)

  -- the act of one that goes on is as it was, since no thread begins to run
  still_open : (g : Going) → going_on k p.entry.hart.0 ≡ Some g → IsOpenAct k' g.place p.entry.hart.0
  still_open g on =
      subst (λ x. IsOpenAct x g.place p.entry.hart.0) (sym (settled_else p k (runs g on))) (opens.going p.entry.hart.0 g on)

  some_by : (g : Going) (b : Bool) → is_more p ≡ b → going_on k p.entry.hart.0 ≡ Some g → CountsAs (noted p k) (count_noted p t)
  unfolding count_noted
  some_by g true more on =
      subst (λ x. CountsAs x (hart_noted_of p (hung_now p t'))) (sym (noted_more p k g on more))
      (more_counts k' t' p was' lt' g (stays (Some g) on) (still_open g on) more)
  some_by g false other on =
      subst (λ x. CountsAs x (hart_noted_of p (hung_now p t'))) (sym (noted_stopped p k g on other))
      (stopped_counts k' t' p was' lt' g (stays (Some g) on) (still_open g on) other)

  by_going : (o : Option Going) → going_on k p.entry.hart.0 ≡ o → CountsAs (noted p k) (count_noted p t)
  by_going None none = none_by (begins p) refl none
  by_going (Some g) on = some_by g (is_more p) refl on

  pub noted_counts : CountsAs (noted p k) (count_noted p t)
  noted_counts = by_going (going_on k p.entry.hart.0) refl

  -- AND IT CAN BE COUNTED

  module _ (few : length k.acts + 1 < 2 ^ 32) where
    few' : length k'.acts + 1 < 2 ^ 32
    few' = omega (arith, few, length-settled p k)

    -- what goes on on the hart of a counter goes on in the ledger
    its_going : (c : Course) → (hart_in t' p.entry.hart.0).going ≡ Some c → (o : Option Going) → going_on k p.entry.hart.0 ≡ o → CanEnd (hart_in t' p.entry.hart.0).counts
    its_going c is None none =
        let nothing : (hart_in t' p.entry.hart.0).going ≡ None =
        ap (λ (x : HartCount). x.going) (was'.each p.entry.hart.0 lt') ∙ ap course_in (stays None none) in
        absurd (never (sym nothing ∙ is))
      where
        never : {X : Type 0} {x : X} → None ≡ Some x → ⊥
        never same = cc
    its_going c is (Some g) on =
        subst (λ (x : HartCount). CanEnd x.counts) (sym (was'.each p.entry.hart.0 lt'))
        (can_end k' g.place p.entry.hart.0 (still_open g on) (omega (arith, few')))

    its_hung : (x : Hung) (o : Option Hanging) → hanging_of k p.entry.tid ≡ o → option_map hung_as o ≡ Some x
        → (x.hart.0 < length t.harts) × CanEnd (hart_in t x.hart.0).counts
    its_hung x None none is = absurd cc
    its_hung x (Some y) hangs is =
        let there = opens.hanging p.entry.tid y hangs in
        let same : hung_as y ≡ x = cc in
        subst (λ (z : Hung). (z.hart.0 < length t.harts) × CanEnd (hart_in t z.hart.0).counts) same (
          omega (arith, there.1, was.harts),
          subst (λ (z : HartCount). CanEnd z.counts) (sym (was.each y.hart.0 there.1)) (can_end k y.place y.hart.0 there.0 (omega (arith, few))),
        )

    pub can_note : CanNote p t
    can_note = record {
      hart = omega (arith, lt, was.harts);
      hung = λ x is. its_hung x (hanging_of k p.entry.tid) refl (sym (hung_is k t p.entry.tid was) ∙ is);
      counts = record {
        few = let most = total_most k'.acts p.entry.hart.0 in let same = ap (λ (x : HartCount). total x.counts) (was'.each p.entry.hart.0 lt') in omega (arith, few', most, same);
        going = λ c is. its_going c is (going_on k p.entry.hart.0) refl;
      };
    }

-- WHAT IS READ AND WRITTEN

-- what is read of a hart is what is kept of it
pub hart_read : (t : KeptCounts) (h place : ℕ) (x : HartCount) → place ≡ h → h < length t.harts → x ≡ get_or t.harts place x → x ≡ hart_in t h
hart_read t h place x same lt read =
    read ∙ ap (λ n. get_or t.harts n x) same ∙ get_or_default t.harts h x nothing_done lt

-- a hart that is written takes in the entry
pub hart_written : (p : Passed) (t : KeptCounts) (place : ℕ) (x y : HartCount) → place ≡ p.entry.hart.0 → p.entry.hart.0 < length t.harts
    → x ≡ get_or t.harts place x → y ≡ hart_noted p x → record t { harts = set t.harts place y } ≡ hart_noted_of p t
hart_written p t place x y same lt read is =
    let noted_is : y ≡ hart_noted p (hart_in t p.entry.hart.0) =
    is ∙ ap (hart_noted p) (hart_read t p.entry.hart.0 place x same lt read) in
    λ i. record t { harts = set t.harts (same i) (noted_is i) }

-- as many harts as before
pub many_settled : (p : Passed) (t : KeptCounts) → length (count_settled p t).harts ≡ length t.harts
many_settled p t = by_run (is_run p.entry.kind)
  where
    by_hung : (o : Option Hung) → length (count_settled_by p o t).harts ≡ length t.harts
    by_hung None = refl
    by_hung (Some x) = length-set t.harts x.hart.0 (with_ended (verdict_by p) (hart_in t x.hart.0))

    by_run : (b : Bool) → length (cond b (count_settled_by p (hung_of t p.entry.tid) t) t).harts ≡ length t.harts
    by_run true = by_hung (hung_of t p.entry.tid)
    by_run false = refl

pub many_hung : (p : Passed) (t : KeptCounts) → length (hung_now p t).harts ≡ length t.harts
many_hung p t = by_hanging (leaves_inside p && is_some (hart_in t p.entry.hart.0).going)
  where
    by_hanging : (b : Bool) → length (cond b (record t { hanging = t.hanging ++ record { tid = p.entry.tid; hart = p.entry.hart } ∷ [] }) t).harts ≡ length t.harts
    by_hanging true = refl
    by_hanging false = refl

-- the sequence that hangs, by its hart
pub record IsHungOn (t : KeptCounts) (tid : Tid) (hart : Hart) : Type 0 where
  pub hung : Hung
  pub at : hung_of t tid ≡ Some hung
  pub own : hung.hart ≡ hart

pub hung_on : (t : KeptCounts) (tid : Tid) (hart : Hart) → option_map (λ (x : Hung). x.hart) (hung_of t tid) ≡ Some hart → IsHungOn t tid hart
hung_on t tid hart is = by_hung (hung_of t tid) refl is
  where
    by_hung : (o : Option Hung) → hung_of t tid ≡ o → option_map (λ (x : Hung). x.hart) o ≡ Some hart → IsHungOn t tid hart
    by_hung None at same = absurd cc
    by_hung (Some x) at same = record { hung = x; at = at; own = cc }
