-- A sequence of a block that is used as it should be.
use Rattle.std.proofs.Common.{◌≡◌, ◌≢◌, ℕ, ◌+◌, ◌*◌, ◌-◌, ◌%◌, ◌^◌, ◌<◌, [], ◌∷◌, refl, sym, ap, ◌∙◌}
use Rattle.std.proofs.Common.{true, false, ◌⊎◌, Some, inl, inr, length, subst, arith}
use Rattle.std.proofs.lemmas.Bool.{lt-ltb}
use Rattle.mach_types.specs.Kernel.Areas.{is_inside}
use Rattle.mach_types.specs.declared.sequences.Area.{Area}
use Rattle.block_model.specs.Acts.{Sequence, end_before, end_so_far, sequence_on}
use Rattle.block_model.specs.History.{Event, History, file, running}
use Rattle.block_model.specs.Run.{IsRunHistory}
use Rattle.block_model.specs.Setting.{Setting}
use Rattle.alone_laws.specs.Blocks.{Block, IsFairSince, IsPlaceOf}
use Rattle.alone_laws.specs.Entering.{AreEntered, IsIn}
use Rattle.alone_laws.specs.Uses.{IsWellPlaced, Placed, in_block}
use Rattle.alone_laws.proofs.Arrivals.{IsCode}
use Rattle.alone_laws.proofs.Ends.{before_left, last_left, left_before, left_last}
use Rattle.alone_laws.proofs.Entered.{entered, points}
use Rattle.alone_laws.proofs.Entering.{begins_at_start, goes_there}
use Rattle.alone_laws.proofs.Processors.{tells}
use Rattle.block_model.specs.Whole.{IsWholeHistory}
use Rattle.block_model.proofs.Laws.{Begins, Elsewhere, IsOf, IsStep, Own, SequenceStep, TakesIn, has_registers}
use Rattle.block_model.proofs.Laws.{sequence_step, step_of}
use Rattle.percpu_lib.specs.Forms.{AreBlockUsed, Form, HoldsBlock, IsAtStart, IsBlockPlace, IsLeftFrom, block_of}
use Rattle.percpu_lib.specs.Forms.{committed, placed_of, range_of}
use Rattle.percpu_lib.proofs.BlockCode.{KnowsTable, behind_range, block_aligned, block_code, block_placed}
use Rattle.percpu_lib.proofs.BlockCode.{within_range}
use Rattle.percpu_lib.proofs.Courses.{HasCourse, IsCourse}

-- what is held at a place was held before its newest event
pub held_before : (s : Setting) (e : Event) (before : History) (form : Form) (at : ℕ) (area : Area) (t : ℕ)
    → HoldsBlock s (e ∷ before) form at area t → HoldsBlock s before form at area t
held_before s e before form at area t held = record {
  stands = held.stands;
  slots = held.slots;
  some_table = held.some_table;
  low_table = held.low_table;
  low = held.low;
  low_area = held.low_area;
  used = held.used.0;
  processor = held.processor.0;
  few = held.few;
  uses = held.uses.0;
}

-- a block that has its course, and is used so
module _ (s : Setting) (form : Form) (at : ℕ) (area : Area) (t : ℕ) (law : HasCourse form) where
  abbrev b : Placed
  b = placed_of form at area

  pub is_placed : (history : History) → HoldsBlock s history form at area t → IsWellPlaced b
  is_placed history held =
      block_placed s form at area law.formed held.stands held.low_table held.low held.low_area held.some_table

  pub is_code : (history : History) → HoldsBlock s history form at area t → IsCode s b (KnowsTable form)
  is_code history held =
      block_code s form at area law.formed held.stands held.low_table held.low held.low_area

  pub short : committed form < 2 ^ 8
  short =
      let within = law.formed.within in
      let all = law.formed.short in
      omega arith

  -- the start is inside, and in the block
  pub inside_start : at < 2 ^ 37 → is_inside (range_of form at) (at + 4 * form.first) ≡ true
  inside_start low =
      let inside = law.formed.inside in
      within_range form at form.first low short (omega arith) (omega arith)

  start_in_block : at < 2 ^ 37 → in_block b (at + 4 * form.first) ≡ true
  start_in_block low =
      let within = law.formed.within in
      let all = law.formed.short in
      lt-ltb ((at + 4 * form.first + (2 ^ 64 - at)) % 2 ^ 64) (4 * length form.words) (omega arith)

  -- a thread that stands at the start before an event, and what it has there
  pub place_there : (h : ℕ) (e : Event) (before : History) → IsRunHistory s (e ∷ before)
      → HoldsBlock s (e ∷ before) form at area t → h < 8 → IsAtStart s (at + 4 * form.first) h t before
      → IsBlockPlace s form at area h t before
  place_there h e before run held few start =
      let fair = held.used.1.fair h before start (inl refl) in
      let inside : is_inside (range_of form at) (file s t before).pc ≡ true =
      ap (is_inside (range_of form at)) start.pc ∙ inside_start held.low in
      let went = goes_there s (range_of form at) t h e before run in
      let placed = is_placed (e ∷ before) held in
      let code = is_code (e ∷ before) held in
      record {
        runs = start.runs;
        pc = start.pc;
        aligned = block_aligned s form at law.formed held.stands;
        low = held.low;
        low_area = held.low_area;
        few = few;
        apart = held.used.1.begins h start;
        area_is = held.uses.1.registers h start.runs (ap (in_block b) start.pc ∙ start_in_block held.low);
        many = has_registers s before run.0 t;
        points = points s b t (KnowsTable form) placed code before h run.0 held.uses.0 went start.runs inside;
        on_cpu = tells s t area held.few before h run.0 held.processor.0 start.runs fair.place.registered;
      }

  module _ (h : ℕ) (begun : History) (start : IsAtStart s (at + 4 * form.first) h t begun) where
    pub fair_since : (before : History) → AreBlockUsed s form at area t before
        → IsFairSince s (block_of s form at area h t begun) h t begun before
    fair_since [] used = tt
    fair_since (e ∷ before) used = (fair_since before used.0, λ open_here. used.1.fair h begun start open_here)

    abbrev Earlier : History → Type 0
    Earlier before = (r : Sequence) → sequence_on s h before ≡ Some r → r.begun ≡ begun
        → IsBlockPlace s form at area h t begun

    -- the place where an open sequence began is one before an event
    place_of : (before : History) (q : Sequence) → IsRunHistory s before
        → HoldsBlock s before form at area t → sequence_on s h before ≡ Some q → q.begun ≡ begun
        → IsBlockPlace s form at area h t begun
    place_of [] q run held is from = absurd cc
    place_of (e ∷ before) q run held is from =
        by_step (λ r was begins.
        place_of before r run.0 (held_before s e before form at area t held) was begins)
        (sequence_step s e before h q is) from
      where
        few_harts : e.entry.hart.0 ≡ h → IsStep s e before → h < 8
        few_harts own step =
            let lt = step.good.lt in
            let few = held.few in
            omega (arith, own)

        of_own : e.entry.hart.0 ≡ h → Earlier before → {r : Sequence} → IsOf s e before h r → r.begun ≡ begun
            → IsBlockPlace s form at area h t begun
        of_own own earlier (Begins none first) here =
            let there : IsAtStart s (at + 4 * form.first) h t before =
            subst (λ (x : History). IsAtStart s (at + 4 * form.first) h t x) (sym here) start in
            subst (λ (x : History). IsBlockPlace s form at area h t x) here
            (place_there h e before run held (few_harts own (step_of s e before run)) there)
        of_own own earlier (TakesIn r was takes) begins = earlier r was begins

        by_step : Earlier before → SequenceStep s e before h q → q.begun ≡ begun
            → IsBlockPlace s form at area h t begun
        by_step earlier (Elsewhere apart was) begins = earlier q was begins
        by_step earlier (Own own inside its) begins = of_own own earlier its begins

-- the thread of a sequence ran on its hart where it began
first_runs : (s : Setting) (before : History) (h : ℕ) (q : Sequence) → IsWholeHistory s before
    → sequence_on s h before ≡ Some q → running s h q.begun ≡ Some q.thread
first_runs s [] h q whole is = (whole.runs h q is).first
first_runs s (e ∷ before) h q whole is = (whole.1.place.runs h q is).first

-- a sequence of the block, in a run in which a thread uses it as it should
module _ (s : Setting) (history : History) (form : Form) (at : ℕ) (area : Area) (law : HasCourse form) (h : ℕ)
    (q : Sequence) (run : IsRunHistory s history) (whole : IsWholeHistory s history)
    (held : HoldsBlock s history form at area q.thread) (is : sequence_on s h history ≡ Some q)
    (inside : IsIn s (range_of form at) q.thread q.begun) where
  abbrev t : ℕ
  t = q.thread

  abbrev block : Block
  block = block_of s form at area h t q.begun

  comes : AreEntered s (range_of form at) t history
  comes =
      entered s (placed_of form at area) t (KnowsTable form) (is_placed s form at area t law history held)
      (is_code s form at area t law history held) history run held.uses

  start : IsAtStart s (at + 4 * form.first) h t q.begun
  start =
      let runs = first_runs s history h q whole is in
      record {
        runs = runs;
        pc = begins_at_start s (range_of form at) t h history q run comes is runs inside;
      }

  fair : IsFairSince s block h t q.begun history
  fair = fair_since s form at area t law h q.begun start history held.used

  place : IsBlockPlace s form at area h t q.begun
  place = place_of s form at area t law h q.begun start history q run held is refl

  course : IsCourse s form at area h t q.begun
  course = law.course s at area h t q.begun held.stands held.slots place

  pub once : ((file s t q.reached).pc ≡ at + 4 * committed form → form.Whole s h t q.begun q.reached)
      × ((file s t q.reached).pc ≢ at + 4 * committed form → form.Partial s h t q.begun q.reached)
  once = course.once history q run fair is refl

  -- how it ends
  module _ (stands : IsPlaceOf s block h t history) where
    outside : (file s t q.reached).pc ≡ at + 4 * committed form
        → is_inside (range_of form at) (file s t q.reached).pc ≡ false
    outside pc =
        let near = short s form at area t law in
        ap (is_inside (range_of form at)) pc ∙ behind_range form at (committed form) held.low (omega arith) (omega arith)

    gone_to : is_inside (range_of form at) (file s t q.reached).pc ≡ false
        → ((file s t q.reached).pc ≡ at + 4 * committed form) ⊎ ((file s t q.reached).pc ≡ at)
    gone_to out = course.out history q run fair is refl out

    pub left_at_end : IsLeftFrom (at + 4 * committed form) at (file s t q.reached).pc (end_so_far s q history)
    left_at_end = record {
      committed = λ pc. left_last s block h t q.begun place.runs course.sole inside history q run comes fair stands
          is refl refl (outside pc);
      left = λ left. gone_to (last_left s block h t q.begun place.runs course.sole inside history q run comes fair
          stands is refl refl left);
    }

    pub left_before_next : (e : Event)
        → IsLeftFrom (at + 4 * committed form) at (file s t q.reached).pc (end_before s q e history)
    left_before_next e = record {
      committed = λ pc. left_before s block h t q.begun place.runs course.sole inside history q run comes fair stands
          is refl refl e (outside pc);
      left = λ left. gone_to (before_left s block h t q.begun place.runs course.sole inside history q run comes
          fair stands is refl refl e left);
    }

-- how a sequence ends whose hart goes on with an event
pub ends_before : (s : Setting) (e : Event) (before : History) (form : Form) (at : ℕ) (area : Area)
    (law : HasCourse form) (h : ℕ) (q : Sequence) → IsRunHistory s before → IsWholeHistory s before
    → HoldsBlock s (e ∷ before) form at area q.thread → sequence_on s h before ≡ Some q
    → IsIn s (range_of form at) q.thread q.begun
    → IsLeftFrom (at + 4 * committed form) at (file s q.thread q.reached).pc (end_before s q e before)
ends_before s e before form at area law h q run whole held is inside =
    let earlier = held_before s e before form at area q.thread held in
    let begun = start s before form at area law h q run whole earlier is inside in
    left_before_next s before form at area law h q run whole earlier is inside
    (held.used.1.fair h q.begun begun (inr (q, is, refl))).place e
