-- Threads with an area may rest where they are outside what it looks at, while no other event changes that.
use Rattle.local_steps.proofs.Common.{◌≡◌, ◌≢◌, ◌≤◌, inl, inr, ℕ, List, [], refl, sym, ap, ◌∙◌, subst, Bool, true, false, not, cond, eqb, false≢true, ◌&&◌, Option, Some, None, option_map, Area, Choice, Done, Here, Plain, Saved, Setting, ThreadState, refusal_of, apply, area_of, here_in_plain, interruption, is_ready, is_writable, memory, memory_in, running_on, runs, state_of, waiting_here, sequence_of, is_inside, descriptor_at, pointer_of, can_read_descriptor, can_read_area, named, USER_END, has_flags, is_out_of_range, is_signed, leb}
use Rattle.mach_types.specs.Kernel.Areas.{outcome_of, is_clearable}
use Rattle.mach_types.specs.declared.events.Choice.TheVariants as asked
use Rattle.mach_types.specs.declared.limits.End.{End}
use Rattle.mach_types.specs.declared.sequences.BadWhy.{BadWhy}
use Rattle.mach_types.specs.declared.sequences.BadWhy.TheVariants as why
use Rattle.mach_types.specs.declared.sequences.Named.{Named}
use Rattle.mach_types.specs.declared.sequences.Named.TheVariants as names
use Rattle.mach_types.specs.declared.sequences.Seq.{Seq}
use Rattle.mach_types.specs.declared.sequences.Outcome.{Outcome}
use Rattle.mach_types.specs.declared.sequences.Outcome.TheVariants as comes_to
use Rattle.mach_types.specs.declared.threads.ThreadState.TheVariants.{Ready}
use Rattle.rv_inst.specs.Execution.{seen_byte}
use Rattle.local_steps.specs.Explorations.{IsClosed, SettlesTo, Tally}
use Rattle.local_steps.specs.LocalSteps.{IsLoadStep, IsLocalStep, IsStepAt, seen_by, seen_in}
use Rattle.local_steps.proofs.Notions.{EndsSo, IsOutside, MayInterrupt, moved, with_file}
use Rattle.local_steps.specs.Resting.{IsOther, IsPast, LeavesAreas, Looked, RestsOutside, looked}
use Rattle.local_steps.specs.Runs.{MayCome, next_of}
use Rattle.mach_types.specs.Bytes.{joined, word_at}
use Rattle.rv_inst.specs.Memory.{loaded}
use Rattle.rv_inst.specs.Words.{sum_64}
use Rattle.block_model.specs.Instruction.{next_effect}
use Rattle.mach_types.specs.Registers.{with_register}
use Rattle.std.proofs.Common.{◌<◌, ◌+◌, arith, zero, suc, is_some, unwrap_or}
use Rattle.block_model.proofs.Laws.{run_ready, its_ready, running_is, IsGood}
use Rattle.local_steps.proofs.Congruence.{IsAlikeFor}
use Rattle.local_steps.proofs.Ahead.{IsBehind, IsPassedTo, steps_ahead}
use Rattle.local_steps.proofs.Closed.{closed_is_complete}
use Rattle.local_steps.proofs.Passing.{LetsPass}
use Rattle.local_steps.proofs.Tallies.{AllPass, IsTally}
use Rattle.local_steps.proofs.WithoutArea.{area_stays, outside}

-- WHAT AN INTERRUPTION COMES TO

-- it doesn't hang on a pc that is outside, and restarts nothing
abbrev NoAbort : Outcome → Type 0
NoAbort o = (at : ℕ) → o ≢ comes_to.Aborted at

module _ (byte : ℕ → Option ℕ) (can_write : ℕ → Bool) (area : Area) (f g : ℕ) where
  pub record IsSame (x y : Named) : Type 0 where
    pub same : outcome_of can_write area g x ≡ outcome_of can_write area f y
    pub kept : NoAbort (outcome_of can_write area f y)

  bad : (why : BadWhy) → IsSame (names.Bad why) (names.Bad why)
  bad why = record { same = refl; kept = λ at is. absurd cc }

  nothing : IsSame names.Nothing names.Nothing
  nothing = record { same = refl; kept = λ at is. absurd cc }

  good : (s : Seq) → is_inside s f ≡ false → is_inside s g ≡ false → IsSame (names.Good s) (names.Good s)
  good s past_f past_g = record { same = rw (past_f, past_g) refl; kept = rw past_f (by_clearable (not (is_clearable can_write area))) }
    where
      by_clearable : (b : Bool) → NoAbort (cond b (comes_to.Killed why.AreaBytes) comes_to.Cleared)
      by_clearable true at is = absurd cc
      by_clearable false at is = absurd cc

  by_test : (b : Bool) {x y u v : Named} → (b ≡ true → IsSame x y) → (b ≡ false → IsSame u v) → IsSame (cond b x u) (cond b y v)
  by_test true p q = p refl
  by_test false p q = q refl

  by_flags : (b c h : Bool) (s : Seq) → b ≡ false → c ≡ false → IsSame (names.Good s) (names.Good s)
      → IsSame (cond (c && h) (names.Bad why.SeqFlags) (names.Good s)) (cond (b && h) (names.Bad why.SeqFlags) (names.Good s))
  by_flags false false h s p q same = same
  by_flags true c h s p q same = absurd cc
  by_flags false true h s p q same = absurd cc

  abbrev pointer : ℕ
  pointer = pointer_of byte area

  abbrev sequence : Seq
  sequence = sequence_of (descriptor_at byte pointer)

  past_inside : (pc : ℕ) → eqb pointer 0 ≡ false → not (can_read_descriptor byte pointer) ≡ false → IsPast (looked byte area) pc → is_inside sequence pc ≡ false
  past_inside pc some readable (inl none) = absurd (false≢true (sym some ∙ ap (λ n. eqb n 0) none))
  past_inside pc some readable (inr (inl unreadable)) = absurd (false≢true (sym readable ∙ ap not unreadable))
  past_inside pc some readable (inr (inr past)) = past

  pub same_outside : IsPast (looked byte area) f → IsPast (looked byte area) g → IsSame (named byte area g) (named byte area f)
  same_outside past_f past_g =
      by_test (not (can_read_area byte area)) (λ _. bad why.AreaBytes) (λ _.
      by_test (eqb pointer 0) (λ _. nothing) (λ some.
      by_test (leb USER_END pointer) (λ _. bad why.Pointer) (λ _.
      by_test (not (can_read_descriptor byte pointer)) (λ _. bad why.Descriptor) (λ readable.
      by_test (not (eqb (descriptor_at byte pointer).version 0)) (λ _. bad why.Version) (λ _.
      by_test (is_out_of_range sequence) (λ _. bad why.Range) (λ _.
      by_test (is_inside sequence sequence.abort) (λ _. bad why.AbortInside) (λ _.
      by_test (not (is_signed byte area sequence)) (λ _. bad why.Signature) (λ _.
      let in_f = past_inside f some readable past_f in
      let in_g = past_inside g some readable past_g in
      by_flags (is_inside sequence f) (is_inside sequence g) (has_flags byte area (descriptor_at byte pointer)) sequence in_f in_g (good sequence in_f in_g)))))))))

-- WHAT A THREAD SEES

word_same : (f g : ℕ → Option ℕ) (at n : ℕ) → ((a : ℕ) → at ≤ a → a < at + n → f a ≡ g a) → word_at f at n ≡ word_at g at n
word_same f g at zero same = refl
word_same f g at (suc n) same =
    let first = same at (omega arith) (omega arith) in
    let rest = word_same f g (at + 1) n (λ a low high. same a (omega arith) (omega arith)) in
    λ i. joined (first i) (rest i)

-- as memory is, where no store waits
view_empty : (byte : ℕ → Option ℕ) → seen_byte [] byte ≡ byte
view_empty byte = λ i a. kept (byte a) i
  where
    kept : (o : Option ℕ) → option_map (λ (x : ℕ). x) o ≡ o
    kept None = refl
    kept (Some x) = refl

ready_sees : (o : Option ThreadState) (m : Plain) → its_ready o ≡ true → seen_in m o ≡ memory_in m.kernel m.byte
ready_sees (Some Ready) m is = refl
ready_sees o m is = absurd (false≢true is)

-- the run of a thread that rests

module _ (s : Setting) (threads : ℕ → Type 0) (private : ℕ → ℕ → Bool) (t : ℕ) (g : Saved) (m : Plain) (a : ℕ × Choice) (behind : IsBehind s private t g m) (rests : RestsOutside threads t g m) where
  abbrev here : Here
  here = here_in_plain s m a.0

  running_sees : runs here ≡ Some t → waiting_here here ≡ [] → seen_by t m ≡ memory here
  running_sees at empty =
      ap (λ o. seen_in m o) (running_is s.limits.harts a.0 t m.kernel.threads m.kernel.scheduling behind.good.kernel.tables at)
      ∙ ap (λ ws. seen_byte ws (memory here)) empty ∙ view_empty (memory here)

  -- what it sees where it is interrupted is memory
  sees_memory : (c : Choice) → refusal_of c here ≡ None → MayInterrupt c here t → seen_by t m ≡ memory here
  sees_memory (asked.Run u) free same = ready_sees (state_of t m.kernel.threads) m (ap (λ n. is_ready n m.kernel.threads) (sym same) ∙ (run_ready here u.0 free).1)
  sees_memory asked.Take free x = running_sees x.0 x.1
  sees_memory asked.Signal free x = running_sees x.0 x.1
  sees_memory c free x = absurd x

  outside_by : (o : Option Area) → area_of t m.kernel.areas ≡ o → seen_by t m ≡ memory here → IsOutside here t g
  outside_by None is seen = outside here t g is
  outside_by (Some area) is seen =
      let f = m.file t in
      let x = same_outside (memory here) (is_writable here) area f.pc g.pc
      (subst (λ (byte : ℕ → Option ℕ). IsPast (looked byte area) f.pc) seen (rests.before area is))
      (subst (λ (byte : ℕ → Option ℕ). IsPast (looked byte area) g.pc) seen (rests.after area is)) in
      let comes = λ (pc : ℕ). ap (λ o. interruption (memory here) (is_writable here) o pc) is in
      record { same = comes g.pc ∙ x.same ∙ sym (comes f.pc); kept = λ at aborts. x.kept at (sym (comes f.pc) ∙ aborts) }

  pub interrupted_outside : MayCome s m a → MayInterrupt a.1 here t → IsOutside here t g
  interrupted_outside may interrupts = outside_by (area_of t m.kernel.areas) refl (sees_memory a.1 may.free interrupts)

  module _ (may : MayCome s m a) (other : IsOther a.1 here t) (x : IsPassedTo s private t g m a) (calm : LeavesAreas s threads private (moved t g m) a) where
    seen_next : seen_by t (next_of s (moved t g m) a) ≡ seen_by t (next_of s m a)
    seen_next = ap (λ (y : Plain). seen_by t y) x.next

    past_on : (area : Area) (pc : ℕ) → area_of t m.kernel.areas ≡ Some area → IsPast (looked (seen_by t m) area) pc → IsPast (looked (seen_by t (next_of s m a)) area) pc
    past_on area pc is past = elim (calm.1 t area rests.may is other) [
      | inl same ↦ subst (λ (l : Looked). IsPast l pc) (sym same ∙ ap (λ (byte : ℕ → Option ℕ). looked byte area) seen_next) past
      | inr null ↦ inl (ap (λ (byte : ℕ → Option ℕ). pointer_of byte area) (sym seen_next) ∙ null)
    ]

    still_has : (area : Area) → area_of t (next_of s m a).kernel.areas ≡ Some area → area_of t m.kernel.areas ≡ Some area
    still_has area is = sym (area_stays s private t g m a behind may other) ∙ is

    pub rests_next : RestsOutside threads t g (next_of s m a)
    rests_next = record {
      may = rests.may;
      before = λ area is. subst (λ (f : Saved). IsPast (looked (seen_by t (next_of s m a)) area) f.pc) (sym x.file) (past_on area (m.file t).pc (still_has area is) (rests.before area (still_has area is)));
      after = λ area is. past_on area g.pc (still_has area is) (rests.after area (still_has area is));
    }

    -- what it would load stays
    word_still : (load : IsLoadStep s private t g m) → word_at (seen_by t (next_of s m a)) load.at load.size ≡ word_at (seen_by t m) load.at load.size
    word_still load = word_same _ _ load.at load.size
        (λ b low high. ap (λ (byte : ℕ → Option ℕ). byte b) (sym seen_next) ∙ calm.2 t b rests.may (load.own b low high) other)

    load_still : IsLoadStep s private t g m → IsLoadStep s private t g (next_of s m a)
    load_still load =
        let p = sym x.file in
        let q = sym (word_still load) in
        record {
          at = load.at;
          size = load.size;
          is_signed = load.is_signed;
          rd = load.rd;
          is = ap (λ (f : Saved). next_effect s.program.pages f) x.file ∙ load.is;
          own = load.own;
          can_read = ap (λ (o : Option ℕ). is_some o) (word_still load) ∙ load.can_read;
          leaves = load.leaves ∙ (λ i. record { file = with_register (p i).file load.rd (loaded (unwrap_or (q i) 0) load.size load.is_signed); pc = sum_64 (p i).pc 4 });
        }

    pub still_steps : IsStepAt s private t g (next_of s m a)
    still_steps = elim behind.local [
      | inl local ↦ inl (subst (λ (f : Saved). IsLocalStep s f g) (sym x.file) local)
      | inr load ↦ inr (load_still load)
    ]

module _ (s : Setting) (threads : ℕ → Type 0) (private : ℕ → ℕ → Bool) where
  -- it leaves areas alone too where it does the same
  leaves_too : (t : ℕ) (g : Saved) (m : Plain) (a : ℕ × Choice) → IsAlikeFor (here_in_plain s m a.0) m.file (with_file t g m.file) a.1
      → LeavesAreas s threads private (moved t g m) a → LeavesAreas s threads private m a
  leaves_too t g m a alike calm = (
    calm.0,
    λ v area may is other.
        let q = ap (λ (x : Done). seen_by v (apply a.0 x (moved t g m))) (sym alike.done) in
        elim (calm.1 v area may is other) [
          | inl same ↦ inl (ap (λ (byte : ℕ → Option ℕ). looked byte area) (sym q) ∙ same)
          | inr null ↦ inr (ap (λ (byte : ℕ → Option ℕ). pointer_of byte area) (sym q) ∙ null)
        ],
    λ v b may own other.
        let q = ap (λ (x : Done). seen_by v (apply a.0 x (moved t g m)) b) (sym alike.done) in
        sym q ∙ calm.2 v b may own other,
  )

  step_leaves : (m : Plain) (h t : ℕ) (g : Saved) → IsGood s m → running_on h m.kernel.threads ≡ Some t → IsStepAt s private t g m → LeavesAreas s threads private m (h, asked.Exec)
  step_leaves m h t g good at local =
      ((λ is. absurd cc), λ v area may is other. inl (ap (λ (x : Plain). looked (seen_by v x) area) (steps_ahead s private t g m h at good local)), λ v b may own other. ap (λ (x : Plain). seen_by v x b) (steps_ahead s private t g m h at good local))

  -- what rests outside its area lets calm events pass
  pub areas_pass : LetsPass s private (RestsOutside threads) (LeavesAreas s threads private)
  areas_pass = record {
    calm_alike = λ m n a alike calm. subst (λ (x : Plain). LeavesAreas s threads private x a) alike calm;
    calm_step = step_leaves;
    calms = λ t g m a behind may rests calm. record {
      outside = interrupted_outside s threads private t g m a behind rests may;
      unhandled = λ is at signal next. calm.0 is t signal rests.may at next;
    };
    calm_back = leaves_too;
    rests_on = λ t g m a behind may other rests x calm. (rests_next s threads private t g m a behind rests may other x calm, still_steps s threads private t g m a behind rests may other x calm);
  }

  module _ (tally : Tally) (Fits : tally.Kept → Plain → Type 0) (tallies : IsTally s tally private Fits) (IsSeen : tally.Kept → Plain → Type 0) (IsOutcome : End → List ℕ → Type 0)
      (closed : IsClosed s private (RestsOutside threads) (LeavesAreas s threads private) tally IsSeen IsOutcome) (seen_good : (k : tally.Kept) (m : Plain) → IsSeen k m → IsGood s m) where
    pub complete_with_areas : (k : tally.Kept) (m n : Plain) (log : List (ℕ × Choice)) (e : End) (console : List ℕ) → IsGood s m → Fits k m → IsSeen k n → SettlesTo s private (RestsOutside threads) m n
        → AllPass s tally k m log → EndsSo s m log e console → IsOutcome e console
    complete_with_areas = closed_is_complete s private (RestsOutside threads) (LeavesAreas s threads private) areas_pass tally Fits tallies IsSeen IsOutcome closed seen_good
