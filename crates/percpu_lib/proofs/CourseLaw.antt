-- The course of a block whose thread keeps on a path: what all blocks have of it, from what each says of its
-- own path.
use Rattle.std.proofs.Common.{◌≡◌, ◌≢◌, ℕ, ◌+◌, ◌*◌, ◌<◌, ◌≤◌, ◌^◌, List, [], ◌++◌, refl, sym, ap, ◌∙◌}
use Rattle.std.proofs.Common.{arith, subst, Bool, true, false, ◌&&◌, eqb, ltb, Option, Some, inl, inr, ◌⊎◌}
use Rattle.std.proofs.Common.{append-nil}
use Rattle.std.proofs.lemmas.Bool.{false≢true, le-leb, lt-ltb}
use Rattle.mach_types.specs.Bytes.{each_byte, overlay, word_at}
use Rattle.mach_types.specs.Kernel.Areas.{is_inside}
use Rattle.mach_types.specs.Registers.{register}
use Rattle.mach_types.specs.declared.sequences.Area.{Area}
use Rattle.mach_types.specs.declared.threads.Saved.{Saved}
use Rattle.mach_types.specs.declared.user_memory.Store.{Store}
use Rattle.rv_inst.specs.Execution.{seen_byte}
use Rattle.alone.specs.Paths.{IsOn, KeepsOn, Path}
use Rattle.alone.proofs.Laws.{word_unchanged}
use Rattle.alone.proofs.Paths.{few_inside}
use Rattle.alone_laws.specs.Blocks.{Block, IsFairSince, IsSole, StaysInside, among, pointer_bytes}
use Rattle.alone_laws.specs.Spans.{IsStanding, alone_from, code_of, seen_at, sees}
use Rattle.alone_laws.proofs.PathLaw.{path_law, path_of, sole}
use Rattle.alone_laws.proofs.Sequences.{each_among}
use Rattle.alone_laws.proofs.Steps.{each_implies, word_same}
use Rattle.alone_laws.proofs.StoredWords.{among_low}
use Rattle.block_model.specs.Acts.{Sequence, sequence_on}
use Rattle.block_model.specs.History.{History, file, stores}
use Rattle.block_model.specs.Run.{IsRunHistory}
use Rattle.block_model.specs.Setting.{Setting}
use Rattle.percpu_lib.specs.Forms.{Form, IsBlockPlace, block_of, committed, range_of}
use Rattle.percpu_lib.specs.Words.{AreHeld, AreSlots}
use Rattle.percpu_lib.proofs.BlockCode.{IsFormed, behind_range}
use Rattle.percpu_lib.proofs.Courses.{HasCourse, IsCourse}

-- a word where nothing was stored
pub unstored : (seen : ℕ → Option ℕ) (es : List Store) → es ≡ [] → (from : ℕ)
    → word_at (seen_byte es seen) from 8 ≡ word_at seen from 8
unstored seen es none from =
    ap (λ (x : List Store). word_at (seen_byte x seen) from 8) none ∙ word_unchanged seen from 8

-- a block of a form at a place where a thread is about to begin it; what holds of the stores that were
-- executed as long as the thread is inside, and of registers and stores where it is at the post-commit
-- address
module _ (s : Setting) (form : Form) (at : ℕ) (area : Area) (h t : ℕ) (begun : History)
    (Inside : List Store → Type 0) (Done : (ℕ → ℕ) → List Store → Type 0) where
  abbrev pub block : Block
  block = block_of s form at area h t begun

  abbrev pub seen : ℕ → Option ℕ
  seen = seen_at s h begun

  -- it is left for the retry label by a thread that isn't on the chosen processor, before any store, or for
  -- the post-commit address
  abbrev pub Left : ℕ → (ℕ → ℕ) → List Store → Type 0
  Left to temps es =
      ((to ≡ at) × (es ≡ []) × (eqb h (register (file s t begun).file 5) ≡ false))
      ⊎ ((to ≡ at + 4 * committed form) × Done temps es)

  abbrev pub way : Path
  way = path_of s block h t begun form.may Inside Left

  -- a later place, where the thread has these registers and has executed these stores
  pub record IsAfter (temps : ℕ → ℕ) (es : List Store) (last : History) : Type 0 where
    pub temp : (r : ℕ) → form.may r ≡ true → register (file s t last).file r ≡ temps r
    pub kept : (r : ℕ) → form.may r ≡ false
        → register (file s t last).file r ≡ register (file s t begun).file r
    pub stored : stores h last ≡ stores h begun ++ es
    pub sees : (from : ℕ) → each_byte block.words from 8 ≡ true
        → word_at (seen_at s h last) from 8 ≡ word_at (seen_byte es seen) from 8

  -- where nothing was stored, the stores and each word of the block are as they were
  module _ (temps : ℕ → ℕ) (es : List Store) (last : History) (after : IsAfter temps es last) (none : es ≡ [])
    where
      pub same_stores : stores h last ≡ stores h begun
      same_stores =
          after.stored ∙ ap (λ (x : List Store). stores h begun ++ x) none ∙ append-nil (stores h begun)

      pub same_word : (from : ℕ) → each_byte block.words from 8 ≡ true
          → word_at (seen_at s h last) from 8 ≡ word_at seen from 8
      same_word from within = after.sees from within ∙ unstored seen es none from

  -- what each block says: its thread keeps on the path; its bytes are also those of the area, and no store is
  -- to the area's pointer; and what was done inside, and at the end
  pub record HasPath : Type 0 where
    pub keeps : KeepsOn way (alone_from s h t begun 0)
    pub nothing : Inside []
    pub area_bytes : (a : ℕ) → among area.at 32 a ≡ true → block.words a ≡ true
    pub points : (es : List Store) → Inside es
        → word_at (seen_byte es seen) (area.at + 8) 8 ≡ word_at seen (area.at + 8) 8
    pub points_done : (temps : ℕ → ℕ) (es : List Store) → Done temps es
        → word_at (seen_byte es seen) (area.at + 8) 8 ≡ word_at seen (area.at + 8) 8
    pub partial : (temps : ℕ → ℕ) (es : List Store) (last : History) → IsAfter temps es last → Inside es
        → form.Partial s h t begun last
    pub whole : (temps : ℕ → ℕ) (es : List Store) (last : History) → IsAfter temps es last → Done temps es
        → form.Whole s h t begun last

  -- the bytes of the area are among the block's
  pub in_area : ((a : ℕ) → among area.at 32 a ≡ true → block.words a ≡ true) → (from m : ℕ) → area.at ≤ from
      → from + m ≤ area.at + 32 → each_byte block.words from m ≡ true
  in_area has from m low high =
      each_implies (among area.at 32) block.words has from m (each_among area.at 32 from m low high)

  module _ (formed : IsFormed form) (place : IsBlockPlace s form at area h t begun) (path : HasPath) where
    short : committed form < 2 ^ 8
    short =
        let within = formed.within in
        let all = formed.short in
        omega arith

    end_outside : is_inside (range_of form at) (at + 4 * committed form) ≡ false
    end_outside =
        let near = short in
        behind_range form at (committed form) place.low (omega arith) (omega arith)

    in_bytes : (a : ℕ) → pointer_bytes block a ≡ true → block.words a ≡ true
    in_bytes a is =
        let within = among_low (area.at + 8) 8 a is in
        let low = within.0 in
        let high = within.1 in
        path.area_bytes a
        (ap (λ b. b && ltb a (area.at + 32)) (le-leb area.at a (omega arith))
        ∙ lt-ltb a (area.at + 32) (omega arith))

    points_in : (es : List Store) → Inside es
        → word_at (seen_byte es seen) (area.at + 8) 8 ≡ Some form.slots.table
    points_in es is = path.points es is ∙ place.points

    points_out : (to : ℕ) (temps : ℕ → ℕ) (es : List Store) → Left to temps es
        → word_at (seen_byte es seen) (area.at + 8) 8 ≡ Some form.slots.table
    points_out to temps es (inl back) =
        ap (λ (x : List Store). word_at (seen_byte x seen) (area.at + 8) 8) back.1 ∙ points_in [] path.nothing
    points_out to temps es (inr done) = path.points_done temps es done.1 ∙ place.points

    -- after so many of its instructions
    module _ (last : History) (n : ℕ) (was : IsStanding s block.words h t begun last
        (alone_from s h t begun n))
        (on : IsOn way (alone_from s h t begun n)) where
      same_pc : (file s t last).pc ≡ on.at
      same_pc = ap (λ (g : Saved). g.pc) was.file ∙ on.stands.pc

      after : IsAfter on.temps on.stores last
      after = record {
        temp = λ r is. ap (λ (g : Saved). register g.file r) was.file ∙ on.stands.like.temp r is;
        kept = λ r is. ap (λ (g : Saved). register g.file r) was.file ∙ on.stands.like.rest r is;
        stored = was.stores ∙ ap (λ (es : List Store). stores h begun ++ es) on.stands.executed;
        sees = λ from within.
            word_same block.words (seen_at s h last) (seen_byte on.stores seen)
            (λ a has. ap Some (was.sees a has ∙ ap (λ (es : List Store). overlay es a (sees s h begun a))
            on.stands.executed)) from 8 within;
      }

      -- back at the retry label nothing was stored
      back_at : (es : List Store) → on.stores ≡ es → es ≡ [] → form.Partial s h t begun last
      back_at es is none = path.partial on.temps on.stores last after
          (subst Inside (sym (is ∙ none)) path.nothing)

      by_left : on.at ≡ at + 4 * committed form → Left on.at on.temps on.stores → form.Whole s h t begun last
      by_left end (inl back) =
          let inside = formed.inside in
          let low = place.low in
          absurd (omega (arith, back.0))
      by_left end (inr done) = path.whole on.temps on.stores last after done.1

      whole_there : (file s t last).pc ≡ at + 4 * committed form → form.Whole s h t begun last
      whole_there is =
          by_left (sym same_pc ∙ is) (on.left (ap (is_inside (range_of form at)) (sym same_pc ∙ is)
          ∙ end_outside))

      by_place : (c : Bool) → is_inside (range_of form at) on.at ≡ c
          → (file s t last).pc ≢ at + 4 * committed form
          → form.Partial s h t begun last
      by_place true here other = path.partial on.temps on.stores last after (on.inside here).0
      by_place false out other = gone (on.left out)
        where
          gone : Left on.at on.temps on.stores → form.Partial s h t begun last
          gone (inl back) = back_at on.stores refl back.1
          gone (inr done) = absurd (other (same_pc ∙ done.0))

    once : (before : History) (q : Sequence) → IsRunHistory s before
        → IsFairSince s block h t begun before → sequence_on s h before ≡ Some q → q.begun ≡ begun
        → ((file s t q.reached).pc ≡ at + 4 * committed form → form.Whole s h t begun q.reached)
        × ((file s t q.reached).pc ≢ at + 4 * committed form → form.Partial s h t begun q.reached)
    once before q run fair is from =
        let x = path_law s block h t begun form.may Inside Left path.keeps in_bytes points_in points_out place.runs
        before q run fair is from in (
          whole_there q.reached x.0 x.1 x.2,
          by_place q.reached x.0 x.1 x.2 (is_inside (range_of form at) x.2.at) refl,
        )

    -- it is one run of its thread alone
    alone_in_it : IsSole (code_of s.program.pages) seen (alone_from s h t begun 0) block
    alone_in_it = sole s block h t begun form.may Inside Left path.keeps in_bytes points_in points_out

    -- out of the range its thread is at the post-commit address, or at the retry label
    out_at : (before : History) (q : Sequence) → IsRunHistory s before
        → IsFairSince s block h t begun before → sequence_on s h before ≡ Some q → q.begun ≡ begun
        → is_inside (range_of form at) (file s t q.reached).pc ≡ false
        → ((file s t q.reached).pc ≡ at + 4 * committed form) ⊎ ((file s t q.reached).pc ≡ at)
    out_at before q run fair is from out =
        let x = path_law s block h t begun form.may Inside Left path.keeps in_bytes points_in points_out place.runs
        before q run fair is from in
        let same = same_pc q.reached x.0 x.1 x.2 in
        by_way x.2.at x.2.temps x.2.stores same (x.2.left (ap (is_inside (range_of form at)) (sym same)
        ∙ out))
      where
        by_way : (to : ℕ) (temps : ℕ → ℕ) (es : List Store) → (file s t q.reached).pc ≡ to → Left to temps es
            → ((file s t q.reached).pc ≡ at + 4 * committed form) ⊎ ((file s t q.reached).pc ≡ at)
        by_way to temps es same (inl back) = inr (same ∙ back.0)
        by_way to temps es same (inr done) = inl (same ∙ done.0)

    -- a thread that was on the chosen processor is inside after so many instructions, or at the post-commit
    -- address
    gone_on : eqb h (register (file s t begun).file 5) ≡ true → (n : ℕ)
        → StaysInside (code_of s.program.pages) seen (alone_from s h t begun 0) (range_of form at) n
        → ((is_inside (range_of form at) (alone_from s h t begun n).file.pc ≡ true) × (n < form.inside))
        ⊎ ((alone_from s h t begun n).file.pc ≡ at + 4 * committed form)
    gone_on chosen n begin = by_range (is_inside (range_of form at) on.at) refl
      where
        on : IsOn way (alone_from s h t begun n)
        on = path.keeps n begin

        by_way : (to : ℕ) (temps : ℕ → ℕ) (es : List Store) → (alone_from s h t begun n).file.pc ≡ to
            → Left to temps es → (alone_from s h t begun n).file.pc ≡ at + 4 * committed form
        by_way to temps es same (inl back) = absurd (false≢true (sym back.2 ∙ chosen))
        by_way to temps es same (inr done) = same ∙ done.0

        by_range : (c : Bool) → is_inside (range_of form at) on.at ≡ c
            → ((is_inside (range_of form at) (alone_from s h t begun n).file.pc ≡ true) × (n < form.inside))
            ⊎ ((alone_from s h t begun n).file.pc ≡ at + 4 * committed form)
        by_range true here =
            let low = place.low in
            let near = short in
            let inside = ap (is_inside (range_of form at)) on.stands.pc ∙ here in
            let few = few_inside way (alone_from s h t begun 0) path.keeps place.pc
            (omega arith) n begin inside in
            inl (inside, omega arith)
        by_range false out = inr (by_way on.at on.temps on.stores on.stands.pc (on.left out))

    pub course_of : IsCourse s form at area h t begun
    course_of = record { sole = alone_in_it; once = once; out = out_at; gone_on = gone_on }

-- a block that has such a path wherever it stands has such a course
pub record SomePath (s : Setting) (form : Form) (at : ℕ) (area : Area) (h t : ℕ) (begun : History) : Type 1
  where
    pub Inside : List Store → Type 0
    pub Done : (ℕ → ℕ) → List Store → Type 0
    pub path : HasPath s form at area h t begun Inside Done

pub has_course : (form : Form) → IsFormed form
    → ((s : Setting) (at : ℕ) (area : Area) (h t : ℕ) (begun : History)
    → AreHeld (code_of s.program.pages) at form.words → AreSlots form.slots
    → IsBlockPlace s form at area h t begun → SomePath s form at area h t begun) → HasCourse form
has_course form formed paths = record {
  formed = formed;
  course = λ s at area h t begun held slots place.
      let its = paths s at area h t begun held slots place in
      course_of s form at area h t begun its.Inside its.Done formed place its.path;
}
