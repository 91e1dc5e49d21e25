-- A restartable sequence of a block is one run of its thread alone.
use Rattle.std.proofs.Common.{◌≡◌, ◌≢◌, ℕ, zero, suc, ◌+◌, ◌<◌, ◌≤◌, [], ◌∷◌, refl, sym, ap, ◌∙◌, arith}
use Rattle.std.proofs.Common.{subst, Bool, true, false, not, ◌&&◌, Option, Some, None, unwrap_or, cond, eqb}
use Rattle.std.proofs.Common.{leb, ltb, inl, inr, ⊎_elim, is_none}
use Rattle.std.specs.Option.{option_map_or}
use Rattle.std.proofs.lemmas.Bool.{eqb-false, false≢true, le-leb, lt-ltb, cases_lt}
use Rattle.mach_types.specs.Bytes.{each_byte, word_at}
use Rattle.mach_types.specs.Events.{choice_with, is_instruction}
use Rattle.mach_types.specs.Kernel.Areas.{can_read_area, can_read_descriptor, descriptor_at, has_flags}
use Rattle.mach_types.specs.Kernel.Areas.{is_inside, is_inside_named, is_out_of_range, is_signed, named}
use Rattle.mach_types.specs.Kernel.Areas.{named_by, number_at, pointer_of, sequence_of}
use Rattle.mach_types.specs.declared.address_space.TheConstants.{USER_END}
use Rattle.mach_types.specs.declared.events.Kind.{Kind}
use Rattle.mach_types.specs.declared.events.Kind.TheVariants as kind
use Rattle.mach_types.specs.declared.sequences.Area.{Area}
use Rattle.mach_types.specs.declared.sequences.BadWhy.{BadWhy}
use Rattle.mach_types.specs.declared.sequences.BadWhy.TheVariants as bad
use Rattle.mach_types.specs.declared.sequences.Named.{Named}
use Rattle.mach_types.specs.declared.sequences.Named.TheVariants as names
use Rattle.mach_types.specs.declared.sequences.Outcome.{Outcome}
use Rattle.mach_types.specs.declared.sequences.Seq.{Seq}
use Rattle.mach_types.specs.declared.sequences.TheConstants.{RSEQ_CS}
use Rattle.mach_types.specs.declared.threads.Saved.{Saved}
use Rattle.rv_inst.specs.Execution.{seen_byte}
use Rattle.alone.specs.Alone.{Stand}
use Rattle.block_model.specs.Acts.{Sequence, is_inside_at, is_taken_in}
use Rattle.block_model.specs.Acts.{sequence_on}
use Rattle.block_model.specs.Here.{view}
use Rattle.block_model.specs.History.{Event, History, here_in_history, running}
use Rattle.block_model.specs.Run.{IsRunHistory}
use Rattle.block_model.specs.Sequences.{is_inside_here}
use Rattle.block_model.specs.Setting.{Setting}
use Rattle.block_model.proofs.Laws.{Begins, Elsewhere, IsOf, IsStep, Own, SequenceStep, TakesIn}
use Rattle.block_model.proofs.Laws.{sequence_step, step_of}
use Rattle.alone_laws.specs.Blocks.{Block, IsFair, IsFairSince, IsPlaceOf, IsSoFar, IsSole, StaysInside}
use Rattle.alone_laws.specs.Blocks.{among, pointer_bytes}
use Rattle.alone_laws.specs.Spans.{IsStanding, alone_from, code_of, seen_at}
use Rattle.alone_laws.proofs.Steps.{standing_apart, standing_drain, standing_exec, standing_start}
use Rattle.alone_laws.proofs.Steps.{standing_take, view_is, word_same}

-- WHAT IS NAMED

skip : (pc : ℕ) (b : Bool) (w : BadWhy) (y : Named) → is_inside_named (cond b (names.Bad w) y) pc ≡ true
    → is_inside_named y pc ≡ true
skip pc true w y is = absurd (false≢true is)
skip pc false w y is = is

skip_nothing : (pc : ℕ) (b : Bool) (y : Named) → is_inside_named (cond b names.Nothing y) pc ≡ true
    → is_inside_named y pc ≡ true
skip_nothing pc true y is = absurd (false≢true is)
skip_nothing pc false y is = is

-- a thread is inside what its area names only where it is inside the range of the descriptor at which its
-- pointer points
inside_named : (byte : ℕ → Option ℕ) (area : Area) (pc : ℕ) → is_inside_named (named byte area pc) pc ≡ true
    → is_inside (sequence_of (descriptor_at byte (pointer_of byte area))) pc ≡ true
inside_named byte area pc is =
    let pointer = pointer_of byte area in
    let d = descriptor_at byte pointer in
    let g = sequence_of d in
    let one = skip pc (not (can_read_area byte area)) bad.AreaBytes _ is in
    let two = skip_nothing pc (eqb pointer 0) _ one in
    let three = skip pc (leb USER_END pointer) bad.Pointer _ two in
    let four = skip pc (not (can_read_descriptor byte pointer)) bad.Descriptor (named_by byte area pc d) three
    in
    let five = skip pc (not (eqb d.version 0)) bad.Version _ four in
    let six = skip pc (is_out_of_range g) bad.Range _ five in
    let seven = skip pc (is_inside g g.abort) bad.AbortInside _ six in
    let eight = skip pc (not (is_signed byte area g)) bad.Signature _ seven in
    skip pc (is_inside g pc && has_flags byte area d) bad.SeqFlags (names.Good g) eight

pub number_is : (byte : ℕ → Option ℕ) (at n v : ℕ) → word_at byte at n ≡ Some v → number_at byte at n ≡ v
unfolding number_at
number_is byte at n v is = ap (λ o. unwrap_or o 0) is

among_is : (at n a : ℕ) → at ≤ a → a < at + n → among at n a ≡ true
among_is at n a low high = ap (λ b. b && ltb a (at + n)) (le-leb at a low) ∙ lt-ltb a (at + n) high

-- bytes among others
pub each_among : (at n from m : ℕ) → at ≤ from → from + m ≤ at + n → each_byte (among at n) from m ≡ true
each_among at n from zero low high = refl
each_among at n from (suc m) low high =
    ap (λ b. b && each_byte (among at n) (from + 1) m) (among_is at n from low (omega arith))
    ∙ each_among at n (from + 1) m (omega arith) (omega arith)

-- where the thread stands, and its pointer is that of the block's descriptor, it is inside only where it is
-- inside the block's range
pub in_range : (s : Setting) (b : Block) (h t : ℕ) (begun before : History) (x : Stand) → IsPlaceOf s b h t before
    → ((a : ℕ) → pointer_bytes b a ≡ true → b.words a ≡ true)
    → word_at (seen_byte x.executed (seen_at s h begun)) (b.area.at + RSEQ_CS) 8 ≡ Some b.table
    → IsStanding s (pointer_bytes b) h t begun before x → is_inside_at s h before ≡ true
    → is_inside b.range x.file.pc ≡ true
in_range s b h t begun before x place covers points was inside =
    let here = here_in_history s before h in
    let same : (a : ℕ) → pointer_bytes b a ≡ true → view here a ≡ seen_byte x.executed (seen_at s h begun) a =
    λ a has. view_is s h before a (place.usable.read a (covers a has)) ∙ ap Some (was.sees a has) in
    let pointer : pointer_of (view here) b.area ≡ b.table =
    number_is (view here) (b.area.at + RSEQ_CS) 8 b.table
    (word_same (pointer_bytes b) (view here) (seen_byte x.executed (seen_at s h begun)) same
    (b.area.at + RSEQ_CS) 8 (each_among (b.area.at + RSEQ_CS) 8 (b.area.at + RSEQ_CS) 8 (omega arith)
    (omega arith)) ∙ points) in
    let one : is_inside_here here t ≡ true = sym
    (ap (λ (r : Option ℕ). option_map_or (is_inside_here here) r false) was.runs) ∙ inside in
    let two : is_inside_named (named (view here) b.area (here.file t).pc) (here.file t).pc ≡ true =
    sym (ap (λ (o : Option Area). is_inside_named
    (option_map_or (λ (a : Area). named (view here) a (here.file t).pc) o names.Nothing) (here.file t).pc)
    place.registered) ∙ one in
    let three = inside_named (view here) b.area (here.file t).pc two in
    sym (ap (λ (g : Seq). is_inside g x.file.pc)
    (ap (λ p. sequence_of (descriptor_at (view here) p)) pointer ∙ place.described))
    ∙ sym (ap (λ (f : Saved). is_inside
    (sequence_of (descriptor_at (view here) (pointer_of (view here) b.area))) f.pc) was.file) ∙ three

-- ONE MORE EVENT

pub is_none_true : (o : Option Outcome) → is_none o ≡ true → o ≡ None
is_none_true None is = refl
is_none_true (Some x) is = absurd (false≢true is)

module _ (s : Setting) (b : Block) (h t : ℕ) (begun : History)
    (sole : IsSole (code_of s.program.pages) (seen_at s h begun) (alone_from s h t begun 0) b) where
  fewer : (begun' before : History) (x : Stand) → IsStanding s b.words h t begun' before x
      → IsStanding s (pointer_bytes b) h t begun' before x
  fewer begun' before x was = record {
    runs = was.runs;
    file = was.file;
    stores = was.stores;
    sees = λ a has.
        was.sees a (sole.covers a has);
  }

  -- one more instruction stays inside
  inside_more : (n : ℕ) → StaysInside (code_of s.program.pages) (seen_at s h begun) (alone_from s h t begun 0)
      b.range n
      → is_inside b.range (alone_from s h t begun n).file.pc ≡ true
      → StaysInside (code_of s.program.pages) (seen_at s h begun) (alone_from s h t begun 0) b.range (suc n)
  inside_more n below here k lt =
      ⊎_elim (λ (less : k < n). below k less)
      (λ (more : n ≤ k). let same : n ≡ k = omega arith in subst
      (λ j. is_inside b.range (alone_from s h t begun j).file.pc ≡ true) same here)
      (cases_lt k n)

  -- an event of another hart
  pub apart_step : (e : Event) (before reached : History) (n : ℕ) → IsStep s e before → IsFair s b h t e before
      → eqb e.entry.hart.0 h ≡ false
      → IsSoFar s b h t begun reached before n → IsSoFar s b h t begun reached (e ∷ before) n
  apart_step e before reached n step fair apart was =
      let x = alone_from s h t begun n in
      let other : e.entry.hart.0 ≢ h = eqb-false e.entry.hart.0 h apart in
      record {
        below = was.below;
        reached = was.reached;
        now = standing_apart s (pointer_bytes b) h t begun e before x step apart (fair.spared.pointer other)
            was.now;
        inside = λ is. standing_apart s b.words h t begun e before x step apart
            (fair.spared.words other (ap (λ (f : Saved). is_inside b.range f.pc) was.now.file ∙ is))
            (was.inside is);
      }

  -- where the thread is inside before an event of its hart, it stands
  pub stands : (before reached : History) (n : ℕ) → IsPlaceOf s b h t before → is_inside_at s h before ≡ true
      → IsSoFar s b h t begun reached before n
      → is_inside b.range (alone_from s h t begun n).file.pc ≡ true
  stands before reached n place inside was =
      in_range s b h t begun before (alone_from s h t begun n) place sole.covers (sole.points n was.below)
      was.now inside

  pub so_far : (now : History) (n : ℕ) → StaysInside (code_of s.program.pages) (seen_at s h begun) (alone_from s h
      t begun 0) b.range n
      → IsStanding s b.words h t begun now (alone_from s h t begun n) → IsSoFar s b h t begun now now n
  so_far now n below at = record {
    below = below;
    reached = at;
    now = fewer begun now
        (alone_from s h t begun n) at;
    inside = λ is. at;
  }

  -- an instruction
  pub exec_step : (e : Event) (before reached : History) (n : ℕ) → IsStep s e before → IsFair s b h t e before
      → e.entry.hart.0 ≡ h
      → e.entry.kind ≡ kind.Exec → is_inside_at s h before ≡ true → IsSoFar s b h t begun reached before n
      → IsSoFar s b h t begun (e ∷ before) (e ∷ before) (suc n)
  exec_step e before reached n step fair own is inside was =
      let here = stands before reached n fair.place inside was in
      let does = sole.goes n was.below here in
      so_far (e ∷ before) (suc n) (inside_more n was.below here)
      (standing_exec s b.words h t begun e before (alone_from s h t begun n) does.0 step own
      (ap (λ k. choice_with k e.entry) is) fair.place.usable does.1 does.2 (was.inside here))

  -- an event of the hart that a sequence takes in
  taken_step : (e : Event) (before reached : History) (n : ℕ) (k : Kind) → IsStep s e before
      → IsFair s b h t e before → e.entry.hart.0 ≡ h
      → e.entry.kind ≡ k → is_taken_in k e.done.interrupted ≡ true → is_inside_at s h before ≡ true
      → IsSoFar s b h t begun reached before n
      → (m : ℕ) × IsSoFar s b h t begun (e ∷ before) (e ∷ before) m
  taken_step e before reached n kind.Exec step fair own is taken inside
      was = (suc n, exec_step e before reached n step fair own is inside was)
  taken_step e before reached n kind.Drain step fair own is taken inside was =
      let here = stands before reached n fair.place inside was in (
        n,
        so_far (e ∷ before) n was.below
            (standing_drain s b.words h t begun e before (alone_from s h t begun n) step own
            (ap (λ k. choice_with k e.entry) is) (was.inside here)),
      )
  taken_step e before reached n kind.Take step fair own is taken inside was =
      let here = stands before reached n fair.place inside was in (
        n,
        so_far (e ∷ before) n was.below
            (standing_take s b.words h t begun e before (alone_from s h t begun n) step own
            (ap (λ k. choice_with k e.entry) is) (is_none_true e.done.interrupted taken)
            (was.inside here)),
      )
  taken_step e before reached n other step fair own is taken inside was = absurd (false≢true taken)

-- WHOLE SEQUENCES

-- only an instruction begins one
pub exec_kind : (k : Kind) → is_instruction k ≡ true → k ≡ kind.Exec
exec_kind kind.Exec is = refl
exec_kind other is = absurd (false≢true is)

module _ (s : Setting) (b : Block) (h t : ℕ) (begun : History) (runs : running s h begun ≡ Some t)
    (sole : IsSole (code_of s.program.pages) (seen_at s h begun) (alone_from s h t begun 0) b) where
  abbrev GoesSoFar : History → Sequence → Type 0
  GoesSoFar before q = (n : ℕ) × IsSoFar s b h t begun q.reached before n

  abbrev Earlier : History → Type 0
  Earlier before = (p : Sequence) → sequence_on s h before ≡ Some p → p.begun ≡ begun → GoesSoFar before p

  -- it began here
  pub starts : (before : History) → before ≡ begun → IsSoFar s b h t begun before before 0
  starts before is =
      so_far s b h t begun sole before 0 (λ k lt. absurd (omega arith))
      (subst (λ x. IsStanding s b.words h t begun x (alone_from s h t begun 0)) (sym is)
      (standing_start s b.words h t begun runs))

  pub sole_so_far : (before : History) (q : Sequence) → IsRunHistory s before
      → IsFairSince s b h t begun before
      → sequence_on s h before ≡ Some q → q.begun ≡ begun → GoesSoFar before q
  sole_so_far [] q run fair is from = cc
  sole_so_far (e ∷ before) q run fair is from =
      by_step (λ p was begins. sole_so_far before p run.0 fair.0 was begins) (sequence_step s e before h q is)
      from
    where
      of_own : Earlier before → e.entry.hart.0 ≡ h → is_inside_at s h before ≡ true → {r : Sequence}
          → IsOf s e before h r → r.begun ≡ begun → GoesSoFar (e ∷ before) r
      of_own earlier own inside (Begins none first) begins =
          let kind_is = exec_kind e.entry.kind first in (
            1,
            exec_step s b h t begun sole e before before 0 (step_of s e before run) (fair.1 (inl begins)) own
                kind_is inside (starts before begins),
          )
      of_own earlier own inside (TakesIn p was takes) begins =
          let so = earlier p was begins in
          taken_step s b h t begun sole e before p.reached so.0 e.entry.kind (step_of s e before run)
          (fair.1 (inr (p, was, begins))) own refl takes inside so.1

      by_step : Earlier before → SequenceStep s e before h q → q.begun ≡ begun → GoesSoFar (e ∷ before) q
      by_step earlier (Elsewhere apart was) begins =
          let so = earlier q was begins in (
            so.0,
            apart_step s b h t begun sole e before q.reached so.0 (step_of s e before run)
                (fair.1 (inr (q, was, begins))) apart so.1,
          )
      by_step earlier (Own own inside its) begins = of_own earlier own inside its begins
