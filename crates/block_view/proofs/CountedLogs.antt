-- A counter beside a machine: at the start, after one entry more, and where the log ends.
use Rattle.std.proofs.Common.{◌≡◌, ◌≢◌, ℕ, ◌+◌, ◌<◌, ◌≤◌, inl, inr, List, [], ◌∷◌, ◌++◌, length, length-append, map, slice_get, refl, sym, ap, ◌∙◌, subst, arith, eqb, Bool, true, false, cond, Option, Some, None}
use Rattle.std.specs.Option.{option_map}
use Rattle.std.proofs.lemmas.Bool.{cases_eq, cases_lt, eqb-true, false_from_ne_true}
use Rattle.std.proofs.lemmas.List.{get_or-replicate, length-map, length-replicate}
use Rattle.mach_types.specs.Limits.{InRange}
use Rattle.mach_types.specs.Events.{is_run}
use Rattle.mach_types.specs.declared.events.Entry.{Entry}
use Rattle.mach_types.specs.declared.events.Tid.{Tid}
use Rattle.block_model.specs.Acts.{Sequence as Known, end_so_far, is_inside_at, sequence_on}
use Rattle.block_model.specs.Deciding.{event, history}
use Rattle.block_model.specs.History.{Event, History}
use Rattle.block_model.specs.Run.{IsBlockRun, IsRunHistory}
use Rattle.block_model.specs.Setting.{Seen, Setting}
use Rattle.block_model.proofs.Laws.{length-history, within_limit}
use Rattle.block_view.specs.Acts.{act_of, acts_of}
use Rattle.block_view.specs.Counters.{CanEnd, CanNote, CountsAs, HasCounts, IsCountOf, KeptCounts, count_noted, counts_at_end, counts_by, hart_in, hart_of, nothing_counted, nothing_done}
use Rattle.block_view.specs.Counting.{counts_of}
use Rattle.block_view.specs.Ledgers.{Kept, changed_at, end_here, going_on, hanging_of, noted, nothing_kept, with_end}
use Rattle.block_view.specs.Passing.{IsMadeAgain, passed_of}
use Rattle.block_view.specs.Standing.{Standing, at_the_end, begun_by, listed, standings, unended}
use Rattle.block_view.specs.Standing.Standing.{Over, Going, Hanging}
use Rattle.block_view.specs.Tied.{IsTied, StandsAt, hanging_at, tid_of}
use Rattle.block_view.specs.declared.counter.HartCount.{HartCount}
use Rattle.block_view.specs.declared.course.Course.{Course}
use Rattle.block_view.specs.declared.forms.Act.{Act}
use Rattle.block_view.specs.declared.ledger.Going.{Going as KeptGoing}
use Rattle.block_view.specs.declared.ledger.Hanging.{Hanging as KeptHanging}
use Rattle.block_view.specs.declared.passing.Passed.{Passed}
use Rattle.block_view.specs.declared.tally.Counts.{Counts}
use Rattle.block_view.proofs.Closing.{as_many, changed_as, ends_here, goes_on, map_as}
use Rattle.block_view.proofs.CountedActs.{HasOpenActs, IsOpenAct, alike, can_end, can_note, noted_counts}
use Rattle.block_view.proofs.Entering.{hart_of_more, tied_to_more, tied_to_none}
use Rattle.block_view.proofs.Growing.{at-the-end}
use Rattle.block_view.proofs.Indices.{at_seam, in_changed, in_first}
use Rattle.block_view.proofs.Made.{made_at}
use Rattle.block_view.proofs.Places.{Began, Hung, Left, Stood, came, going_is_on, hangs, never_hanging, one_going}
use Rattle.block_view.proofs.Seeing.{log_is_short, longer_log, run_after}
use Rattle.block_view.proofs.Tallies.{CountsAlike, Neither, Same, counts_alike, counts_ended}
use Rattle.block_view.proofs.Ties.{isnt_run}

something : {X : Type 0} {x : X} → Some x ≡ None → ⊥
something is = cc

-- A LEDGER THAT IS TIED TO A LOG

-- a sequence that hangs is of a hart of the machine
hart_lies : (s : Setting) (before : History) (i : ℕ) (q : Known) → IsRunHistory s before → StandsAt (standings s before) i (Hanging q)
    → q.hart < s.limits.harts
hart_lies s [] i q run at = absurd cc
hart_lies s (e ∷ before) i q run at = elim (came s e before i (Hanging q) at) [
  | Stood x was is ↦ elim (hangs s e before x q is) [
    | Left same own inside preempts ↦
        let hart = eqb-true e.entry.hart.0 q.hart own in
        let lt = (made_at s e before run).lt in
        omega arith
    | Hung same isnt ↦ hart_lies s before i q run.0 (was ∙ ap Some same)
  ]
  | Began place begins ↦
      absurd (never_hanging e before q (sequence_on s e.entry.hart.0 before) (sequence_on s e.entry.hart.0 (e ∷ before)) begins)
]

module _ (s : Setting) (before : History) (k : Kept) (tied : IsTied s before k) where
  listed_there : (i : ℕ) (x : Standing) → StandsAt (standings s before) i x → slice_get k.acts i ≡ Some (listed x)
  listed_there i x at = ap (λ xs. slice_get xs i) tied.acts ∙ in_changed listed (standings s before) i x at

  going_open : (h : ℕ) (g : KeptGoing) → going_on k h ≡ Some g → IsOpenAct k g.place h
  going_open h g on =
      let there = goes_on s before k tied h g on in
      record { act = unended there.sequence; at = listed_there g.place (Going there.sequence) there.stands; hart = there.hart; form = refl }

  hanging_open : IsRunHistory s before → (tid : Tid) (x : KeptHanging) → hanging_of k tid ≡ Some x → IsOpenAct k x.place x.hart.0 × (x.hart.0 < length k.going)
  hanging_open run tid x is =
      let there = tied.hangs tid x is in
      let q = there.sequence in
      let own : tid_of q ≡ tid = ap (λ n. record { 0 = n }) there.thread in
      let both : Some (hanging_at x.place q) ≡ Some x = sym (tied.hanging x.place q there.stands) ∙ ap (hanging_of k) own ∙ is in
      let same : hanging_at x.place q ≡ x = cc in
      let hart : q.hart ≡ x.hart.0 = ap (λ (y : KeptHanging). y.hart.0) same in
      let lt = hart_lies s before x.place q run there.stands in (
        record { act = unended q; at = listed_there x.place (Hanging q) there.stands; hart = hart; form = refl },
        omega (arith, hart, lt, tied.harts),
      )

  pub open_acts : IsRunHistory s before → HasOpenActs k
  open_acts run = record { going = going_open; hanging = hanging_open run }

-- no more acts have begun than there are events
begun_few : (e : Event) (before : History) (earlier now : Option Known) → length (begun_by e before earlier now) ≤ 1
begun_few e before earlier None = omega arith
begun_few e before None (Some q) = omega arith
begun_few e before (Some r) (Some q) = omega arith

few_standings : (s : Setting) (before : History) → length (standings s before) ≤ length before
few_standings s [] = omega arith
few_standings s (e ∷ before) =
    let h = e.entry.hart.0 in
    let one = begun_few e before (sequence_on s h before) (sequence_on s h (e ∷ before)) in
    let rest = few_standings s before in
    omega (arith, one, rest, parts)
  where
    parts : length (standings s (e ∷ before))
        ≡ length (standings s before) + length (begun_by e before (sequence_on s e.entry.hart.0 before) (sequence_on s e.entry.hart.0 (e ∷ before)))
    parts = length-append _ _ ∙ ap (λ n. n + length (begun_by e before (sequence_on s e.entry.hart.0 before) (sequence_on s e.entry.hart.0 (e ∷ before)))) (length-map (standings s before) _)

-- AT THE START

pub counted_to_none : (m : Seen) (harts : ℕ) (t : KeptCounts) → m.setting.limits.harts ≡ harts → m.log ≡ [] → t ≡ nothing_counted harts → IsCountOf m t
counted_to_none m harts t same none is = record {
  ledger = nothing_kept harts;
  tied = tied_to_none m harts (nothing_kept harts) same none refl;
  counts = subst (CountsAs (nothing_kept harts)) (sym is) (record {
    harts = length-replicate {A = HartCount} harts nothing_done ∙ sym (length-replicate {A = Option KeptGoing} harts None);
    each = λ h lt.
        let less : h < harts = omega (arith, lt, length-replicate {A = Option KeptGoing} harts None) in
        get_or-replicate harts h nothing_done nothing_done less
        ∙ ap (λ (o : Option KeptGoing). record { counts = counts_of [] h; going = option_map (λ (g : KeptGoing). g.course) o })
        (sym (get_or-replicate {A = Option KeptGoing} harts h None None less));
    hanging = refl;
  });
}

-- ONE ENTRY MORE

module _ (m m' : Seen) (t : KeptCounts) (entry : Entry) (passed : Passed) (counted : IsCountOf m t) (again : IsMadeAgain m m' entry passed) where
  abbrev s : Setting
  s = m.setting

  abbrev before : History
  before = history m.setting m.log

  abbrev newest : Event
  newest = event m.setting before entry

  abbrev k : Kept
  k = counted.ledger

  run : IsRunHistory s (newest ∷ before)
  run = run_after m m' entry again.made

  its_entry : passed.entry ≡ newest.entry
  unfolding passed_of
  its_entry = ap (λ (p : Passed). p.entry) again.seen

  opens : HasOpenActs k
  opens = open_acts s before k counted.tied run.0

  lt : passed.entry.hart.0 < length k.going
  lt = hart_of_more m m' k entry passed counted.tied again

  -- no thread begins to run on a hart on which a sequence goes on
  runs : (g : KeptGoing) → going_on k passed.entry.hart.0 ≡ Some g → is_run passed.entry.kind ≡ false
  runs g on =
      let there = goes_on s before k counted.tied passed.entry.hart.0 g on in
      let q = there.sequence in
      let own : q.hart ≡ newest.entry.hart.0 = there.hart ∙ ap (λ (e : Entry). e.hart.0) its_entry in
      let was : sequence_on s newest.entry.hart.0 before ≡ Some q = ap (λ h. sequence_on s h before) (sym own) ∙ going_is_on s before g.place q there.stands in
      ap (λ (e : Entry). is_run e.kind) its_entry ∙ isnt_run s newest before k run counted.tied q was

  pub counted_next : IsCountOf m' (count_noted passed t)
  counted_next = record {
    ledger = noted passed k;
    tied = tied_to_more m m' k entry passed counted.tied again;
    counts = noted_counts k t passed counted.counts opens lt runs;
  }

  pub can_follow : InRange m.setting.limits → CanNote passed t
  can_follow limits =
      let few = few_standings s before in
      let many = as_many s before k counted.tied in
      let short = log_is_short m m' entry again.made limits in
      let longer = ap length (longer_log m m' entry again.made) ∙ length-append m.log (entry ∷ []) in
      can_note k t passed counted.counts opens lt runs (omega (arith, few, many, short, longer, length-history m.setting m.log))

-- WHERE THE LOG ENDS

module _ (s : Setting) (all : History) (k : Kept) (tied : IsTied s all k) (h : ℕ) where
  abbrev standing : List Standing
  standing = standings s all

  -- an act as it is once the sequence of this hart has ended
  abbrev closed_at : Standing → Act
  closed_at (Over act) = act
  closed_at (Going q) = cond (eqb q.hart h) (act_of (record { sequence = q; end = end_so_far s q all })) (unended q)
  closed_at (Hanging q) = unended q

  -- it counts for the hart as it does in the end
  alike_by : (q : Known) (b : Bool) → eqb q.hart h ≡ b → CountsAlike h (closed_at (Going q)) (at_the_end s all [] (Going q))
  alike_by q true own = Same (ap (λ b. cond b (act_of (record { sequence = q; end = end_so_far s q all })) (unended q)) own)
  alike_by q false other =
      Neither (ap (λ b. eqb (cond b (act_of (record { sequence = q; end = end_so_far s q all })) (unended q)).hart.0 h) other ∙ other) other

  alike_at_end : (j : ℕ) (x : Standing) → StandsAt standing j x → CountsAlike h (closed_at x) (at_the_end s all [] x)
  alike_at_end j (Over act) at = Same refl
  alike_at_end j (Going q) at = alike_by q (eqb q.hart h) refl
  alike_at_end j (Hanging q) at = Same refl

  -- that of another hart is as it is listed
  listed_by : (x : Standing) → ((q : Known) → x ≡ Going q → q.hart ≢ h) → listed x ≡ closed_at x
  listed_by (Over act) other = refl
  listed_by (Going q) other =
      sym (ap (λ b. cond b (act_of (record { sequence = q; end = end_so_far s q all })) (unended q))
      (false_from_ne_true (eqb q.hart h) (λ own. other q refl (eqb-true q.hart h own))))
  listed_by (Hanging q) other = refl

  module _ (inside : Bool) (is : inside ≡ is_inside_at s h all) where
    by_going : (o : Option KeptGoing) → going_on k h ≡ o
        → counts_by (option_map (λ (g : KeptGoing). g.course) o) inside (counts_of k.acts h) ≡ counts_of (map closed_at standing) h
    by_going None none =
        ap (λ xs. counts_of xs h)
        (tied.acts ∙ map_as listed closed_at standing (λ j x at. listed_by x
        (λ q same own. something (sym (tied.going j q (at ∙ ap Some same)) ∙ ap (going_on k) own ∙ none))))
    by_going (Some g) on =
        let there = goes_on s all k tied h g on in
        let q = there.sequence in
        let opens = going_open s all k tied h g on in
        let end : end_here g.course inside ≡ end_so_far s q all =
        ap (λ (x : KeptGoing). end_here x.course inside) there.kept
        ∙ ends_here s all k tied q inside (is ∙ ap (λ n. is_inside_at s n all) (sym there.hart)) in
        let own : closed_at (Going q) ≡ act_of (record { sequence = q; end = end_so_far s q all }) =
        ap (λ b. cond b (act_of (record { sequence = q; end = end_so_far s q all })) (unended q)) (alike q.hart h there.hart) in
        sym (counts_ended k.acts g.place h opens.act opens.at (alike opens.act.hart.0 h opens.hart) opens.form (end_here g.course inside))
        ∙ ap (λ xs. counts_of (changed_at g.place (with_end (end_here g.course inside)) xs) h) tied.acts
        ∙ ap (λ xs. counts_of xs h)
        (changed_as (with_end (end_here g.course inside)) listed closed_at standing g.place (Going q) there.stands
        (ap (λ e. act_of (record { sequence = q; end = e })) end ∙ sym own)
        (λ j y at other. listed_by y (λ r same theirs. other (one_going s all j g.place r q (at ∙ ap Some same) there.stands (theirs ∙ sym there.hart)))))

    counts_closed : (t : KeptCounts) → CountsAs k t → h < length k.going
        → counts_at_end inside (hart_in t h) ≡ counts_of (map (at_the_end s all []) standing) h
    counts_closed t was lt =
        ap (counts_at_end inside) (was.each h lt)
        ∙ by_going (going_on k h) refl
        ∙ counts_alike closed_at (at_the_end s all []) standing h alike_at_end

module _ (m : Seen) (t : KeptCounts) (h : ℕ) (counted : IsCountOf m t) (lt : h < m.setting.limits.harts) where
  kept_lt : h < length counted.ledger.going
  kept_lt = omega (arith, lt, counted.tied.harts)

  -- the counts of a hart are those of the acts of the log
  pub counts_of_log : (inside : Bool) → inside ≡ is_inside_at m.setting h (history m.setting m.log)
      → counts_at_end inside (hart_in t h) ≡ counts_of (acts_of m.setting m.log) h
  unfolding acts_of
  counts_of_log inside is =
      let all = history m.setting m.log in
      counts_closed m.setting all counted.ledger counted.tied h inside is t counted.counts kept_lt
      ∙ ap (λ xs. counts_of xs h) (at-the-end m.setting all)

  -- and a sequence that goes on can end there
  pub can_end_there : InRange m.setting.limits → IsBlockRun m.setting m.log → (c : Course) → (hart_in t h).going ≡ Some c → CanEnd (hart_in t h).counts
  can_end_there limits run c is = by_going_there (going_on counted.ledger h) refl
    where
      never : {X : Type 0} {x : X} → None ≡ Some x → ⊥
      never same = cc

      here : hart_in t h ≡ hart_of counted.ledger h
      here = counted.counts.each h kept_lt

      by_going_there : (o : Option KeptGoing) → going_on counted.ledger h ≡ o → CanEnd (hart_in t h).counts
      by_going_there None none =
          absurd (never (sym (ap (λ (x : HartCount). x.going) here ∙ ap (option_map (λ (g : KeptGoing). g.course)) none) ∙ is))
      by_going_there (Some g) on =
          let all = history m.setting m.log in
          let few = few_standings m.setting all in
          let many = as_many m.setting all counted.ledger counted.tied in
          let within = within_limit m.setting m.log run in
          let most = limits.most_steps in
          subst (λ (x : HartCount). CanEnd x.counts) (sym here)
          (can_end counted.ledger g.place h (going_open m.setting all counted.ledger counted.tied h g on)
          (omega (arith, few, many, within, most, length-history m.setting m.log)))

-- HART BY HART

pub no_counts_yet : (s : Setting) (log : List Entry) (list : List Counts) → list ≡ [] → HasCounts s log 0 list
no_counts_yet s log list is = record { harts = ap length is; counts = λ h lt. absurd (omega arith) }

pub one_more_hart : (s : Setting) (log : List Entry) (n : ℕ) (list list' : List Counts) (c : Counts) → HasCounts s log n list
    → list' ≡ list ++ c ∷ [] → c ≡ counts_of (acts_of s log) n → HasCounts s log (n + 1) list'
one_more_hart s log n list list' c was is own = record {
  harts = ap length is ∙ length-append list (c ∷ []) ∙ ap (λ l. l + 1) was.harts;
  counts = λ h lt. ap (λ xs. slice_get xs h) is ∙ elim (cases_eq h n) [
    | inl same ↦
        ap (slice_get (list ++ c ∷ [])) (same ∙ sym was.harts) ∙ at_seam list [] c ∙ ap Some own ∙ ap (λ j. Some (counts_of (acts_of s log) j)) (sym same)
    | inr other ↦ in_first list (c ∷ []) h _ (was.counts h (below h other lt))
  ];
}
  where
    below : (h : ℕ) → h ≢ n → h < n + 1 → h < n
    below h other lt = elim (cases_lt h n) [
      | inl less ↦ less
      | inr more ↦ absurd (other (omega arith))
    ]
