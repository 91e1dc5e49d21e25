-- Each retry of a ring block works on the value that came in: it is copied into x28 at the retry label, and
-- once more inside, and brought back from there inside, and where the block was aborted.
use Rattle.std.proofs.Common.{◌≡◌, ◌≢◌, ℕ, zero, suc, ◌+◌, ◌*◌, ◌<◌, ◌≤◌, ◌^◌, ◌⊎◌, inl, inr, List, [], ◌∷◌}
use Rattle.std.proofs.Common.{◌++◌, refl, sym, ◌%◌, ap, ◌∙◌, ◌-◌, arith, Bool, true, false, not, ◌||◌, eqb}
use Rattle.std.proofs.Common.{slice_get, subst, Option, Some, None, pos, length, append_assoc, append-nil}
use Rattle.std.proofs.Common.{rules}
use Rattle.std.proofs.lemmas.Bool.{cases_eq, cases_lt, false≢true, ne_eqb}
use Rattle.mach_types.proofs.Laws.{eqb_same}
use Rattle.mach_types.specs.Kernel.Areas.{is_inside}
use Rattle.mach_types.specs.Registers.{register}
use Rattle.mach_types.specs.declared.events.Entry.{Entry}
use Rattle.mach_types.specs.declared.registers.Regs.{Regs}
use Rattle.mach_types.specs.declared.sequences.Area.{Area}
use Rattle.mach_types.specs.declared.threads.Saved.{Saved}
use Rattle.rv_inst.specs.Execution.{Outcome, outcome}
use Rattle.rv_inst.specs.Meaning.{meaning}
use Rattle.rv_inst.specs.Words.{sum_64, word}
use Rattle.rv_inst.specs.declared.effects.Effect.{Effect}
use Rattle.rv_inst.specs.declared.instruction.Inst.{Inst}
use Rattle.rv_inst.specs.declared.instruction.Inst.TheVariants as inst
use Rattle.alone.specs.Alone.{effect_at}
use Rattle.alone.specs.Temps.{is_scratch}
use Rattle.alone.proofs.Laws.{written_same}
use Rattle.alone.proofs.Means.{means_addi}
use Rattle.block_model.specs.Deciding.{event, history}
use Rattle.block_model.specs.History.{History, file}
use Rattle.block_model.specs.Run.{IsBlockRun}
use Rattle.block_model.specs.Setting.{Setting}
use Rattle.block_model.proofs.Laws.{HasRegisters, history-append}
use Rattle.alone_laws.specs.Retries.{Retries}
use Rattle.alone_laws.specs.Spans.{code_of}
use Rattle.alone_laws.specs.Uses.{Placed}
use Rattle.alone_laws.proofs.Arrivals.{IsCode, KnowsAt}
use Rattle.alone_laws.proofs.Retrying.{IsAskedRun, IsKept, first_place, known_throughout}
use Rattle.percpu_lib.specs.Forms.{AreBlockUsed, Form, HoldsBlock, IsBlockUsed, committed, placed_of}
use Rattle.percpu_lib.specs.Forms.{range_of}
use Rattle.percpu_lib.specs.RingForms.{front_with, get_front, get_insts, put_front, put_insts, repeated}
use Rattle.percpu_lib.specs.RingForms.{IsNoGet, IsNoPut, IsWholeGet, IsWholePut, ring_form, ring_get_form}
use Rattle.percpu_lib.specs.RingForms.{ring_end, ring_put_form}
use Rattle.percpu_lib.specs.RingKinds.{RingKind, gets, puts, ring_form_of}
use Rattle.percpu_lib.specs.Words.{AreSlots}
use Rattle.percpu_lib.specs.declared.slots.Slots.{Slots}
use Rattle.percpu_lib.proofs.BlockCode.{IsFormed, IsInstruction, KnowsTable, before_range, block_aligned}
use Rattle.percpu_lib.proofs.BlockCode.{block_code, it, leads_at, outcome_is}
use Rattle.percpu_lib.proofs.Changes.{scratch_not, some_value}
use Rattle.percpu_lib.proofs.FormedWords.{AreFitBut, Unless, tame_at}
use Rattle.percpu_lib.proofs.RingFormed.{front_inner, get_formed, get_long, get_six, put_formed, put_long}
use Rattle.percpu_lib.proofs.RingFormed.{put_six, to_end, word_inner, words_long}
use Rattle.percpu_lib.proofs.RingWords.{at_end, repeated_length}
use Rattle.percpu_lib.proofs.WordLaws.{Leads, begins_anew, beq_pc, bne_pc, goes_on, leads_out, leaves_block}
use Rattle.percpu_lib.proofs.WordLaws.{straight_of}

-- WHICH WORDS CHANGE X28, AND WHICH THE VALUE

abbrev but_copy : ℕ → Bool
but_copy k = eqb k 0 || eqb k 9

abbrev but_value : ℕ → ℕ → Bool
but_value count k = eqb k 14 || (eqb k 16 || eqb k (20 + 6 * count))

-- a block, where some register alone may not change
abbrev keeping : Form → ℕ → Form
keeping form r = record form { may = λ x. not (eqb x r) }

any : (b : Bool) (P : Type 0) → P → Unless b P
any true P is = tt
any false P is = is

none : (b : Bool) (P : Type 0) → b ≡ true → Unless b P
none true P is = tt
none false P is = absurd (false≢true is)

module _ (but : ℕ → Bool) (form : Form) where
  fit_append : (k : ℕ) (xs ys : List (Option Inst)) → AreFitBut but form k xs
      → AreFitBut but form (k + length xs) ys
      → AreFitBut but form k (xs ++ ys)
  fit_append k [] ys first rest = subst (λ n. AreFitBut but form n ys) (omega arith) rest
  fit_append k (None ∷ xs) ys first rest =
      fit_append (k + 1) xs ys first (subst (λ n. AreFitBut but form n ys) (omega arith) rest)
  fit_append k (Some i ∷ xs) ys first rest =
      (first.0, fit_append (k + 1) xs ys first.1 (subst (λ n. AreFitBut but form n ys) (omega arith) rest))

  fit_repeated : (words : ℕ → List (Option Inst)) → ((k : ℕ) → length (words k) ≡ 6) → (m n : ℕ)
      → ((k : ℕ) → k < n → AreFitBut but form (m + 6 * k) (words k)) → AreFitBut but form m (repeated words n)
  fit_repeated words six m zero are = tt
  fit_repeated words six m (suc n) are =
      let long = repeated_length words six n in
      fit_append m (repeated words n) (words n) (fit_repeated words six m n (λ k lt. are k (omega arith)))
      (subst (λ j. AreFitBut but form j (words n)) (omega (arith, long)) (are n (omega arith)))

  fit_all : (front : List (Option Inst)) (words : ℕ → List (Option Inst)) (rest : List (Option Inst))
      (count : ℕ)
      → length front ≡ 17 → ((k : ℕ) → length (words k) ≡ 6) → AreFitBut but form 0 front
      → ((k : ℕ) → k < count → AreFitBut but form (17 + 6 * k) (words k))
      → AreFitBut but form (17 + 6 * count) rest
      → AreFitBut but form 0 (front ++ (repeated words count ++ rest))
  fit_all front words rest count seventeen six first each last =
      let long = repeated_length words six count in
      fit_append 0 front (repeated words count ++ rest) first
      (subst (λ n. AreFitBut but form n (repeated words count ++ rest)) (omega (arith, seventeen))
      (fit_append 17 (repeated words count) rest (fit_repeated words six 17 count each)
      (subst (λ n. AreFitBut but form n rest) (omega (arith, long)) last)))

module _ (count : ℕ) (few : count ≤ 4) (p : Slots) (slots : AreSlots p) where
  abbrev put_form : Form
  put_form = ring_put_form count p

  abbrev get_form : Form
  get_form = ring_get_form count p

  not_28 : not (eqb p.value 28) ≡ true
  not_28 = ap not (ne_eqb p.value 28 (λ same. scratch_not 28 p.value refl slots.value (sym same)))

  other : (r : ℕ) → is_scratch r ≡ true → not (eqb r p.value) ≡ true
  other r scratch = ap not (ne_eqb r p.value (scratch_not r p.value scratch slots.value))

  -- word k stands at one of these places
  abbrev here : ℕ → ℕ
  here k = 17 + 6 * k

  put_word_copy : (k : ℕ) → k < count → AreFitBut but_copy (keeping put_form 28) (here k) (put_insts p k)
  put_word_copy k lt = search (rules, arith, any, word_inner count, lt)

  get_word_copy : (k : ℕ) → k < count → AreFitBut but_copy (keeping get_form 28) (here k) (get_insts p k)
  get_word_copy k lt = search (rules, arith, any, word_inner count, lt)

  put_word_value : (k : ℕ) → k < count → AreFitBut (but_value count) (keeping put_form p.value) (here k)
      (put_insts p k)
  put_word_value k lt = search (rules, arith, any, word_inner count, other, lt)

  get_word_value : (k : ℕ) → k < count → AreFitBut (but_value count) (keeping get_form p.value) (here k)
      (get_insts p k)
  get_word_value k lt = search (rules, arith, any, word_inner count, other, lt)

  end_copy : (form : Form) → committed form ≡ 18 + 6 * count → length form.words ≡ 22 + 6 * count
      → (offset : ℕ)
      → AreFitBut but_copy (keeping form 28) (here count) (ring_end p count offset)
  end_copy form at_end long offset = (
    any (but_copy (here count)) _ (ne_eqb (here count) (committed form) (λ same. omega (arith, at_end)), tt),
    (
      any (but_copy (here count + 1)) _ (refl, omega (arith, long)),
      (
        any (but_copy (here count + 1 + 1 + 1)) _
            (ne_eqb (here count + 1 + 1 + 1) (committed form) (λ same. omega (arith, at_end)), not_28),
        (
          any (but_copy (here count + 1 + 1 + 1 + 1)) _ (refl, omega arith),
          tt,
        ),
      ),
    ),
  )

  at_handler : but_value count (here count + 1 + 1 + 1) ≡ true
  at_handler =
      let same : here count + 1 + 1 + 1 ≡ 20 + 6 * count = omega arith in
      ap (but_value count) same ∙ last (eqb (20 + 6 * count) 14) (eqb (20 + 6 * count) 16)
    where
      last : (a b : Bool) → (a || (b || eqb (20 + 6 * count) (20 + 6 * count))) ≡ true
      last true b = refl
      last false true = refl
      last false false = eqb_same (20 + 6 * count)

  end_value : (form : Form) → committed form ≡ 18 + 6 * count → length form.words ≡ 22 + 6 * count
      → (offset : ℕ)
      → AreFitBut (but_value count) (keeping form p.value) (here count) (ring_end p count offset)
  end_value form at_end long offset = (
    any (but_value count (here count)) _ (ne_eqb (here count) (committed form) (λ same. omega (arith, at_end)), tt),
    (
      any (but_value count (here count + 1)) _ (refl, omega (arith, long)),
      (
        none (but_value count (here count + 1 + 1 + 1)) _ at_handler,
        (
          any (but_value count (here count + 1 + 1 + 1 + 1)) _ (refl, omega arith),
          tt,
        ),
      ),
    ),
  )

  -- a whole block
  copy_kept_in : (form : Form) (front : List (Option Inst)) (insts : ℕ → List (Option Inst)) (offset : ℕ)
      → committed form ≡ 18 + 6 * count → length form.words ≡ 22 + 6 * count → length front ≡ 17
      → ((k : ℕ) → length (insts k) ≡ 6) → AreFitBut but_copy (keeping form 28) 0 front
      → ((k : ℕ) → k < count → AreFitBut but_copy (keeping form 28) (here k) (insts k))
      → AreFitBut but_copy (keeping form 28) 0 (front ++ (repeated insts count ++ ring_end p count offset))
  copy_kept_in form front insts offset commits long seventeen six first each =
      fit_all but_copy (keeping form 28) front insts (ring_end p count offset) count seventeen six first each
      (end_copy form commits long offset)

  value_kept_in : (form : Form) (front : List (Option Inst)) (insts : ℕ → List (Option Inst)) (offset : ℕ)
      → committed form ≡ 18 + 6 * count → length form.words ≡ 22 + 6 * count → length front ≡ 17
      → ((k : ℕ) → length (insts k) ≡ 6) → AreFitBut (but_value count) (keeping form p.value) 0 front
      → ((k : ℕ) → k < count → AreFitBut (but_value count) (keeping form p.value) (here k) (insts k))
      → AreFitBut (but_value count) (keeping form p.value) 0
      (front ++ (repeated insts count ++ ring_end p count offset))
  value_kept_in form front insts offset commits long seventeen six first each =
      fit_all (but_value count) (keeping form p.value) front insts (ring_end p count offset) count seventeen six
      first each (end_value form commits long offset)

  pub put_copy_kept : AreFitBut but_copy (keeping put_form 28) 0 put_form.words
  put_copy_kept =
      copy_kept_in put_form (put_front p count) (put_insts p) 8 (omega arith) (put_long p count) refl (put_six p)
      (search (rules, front_inner count, to_end count, not_28)) put_word_copy

  pub get_copy_kept : AreFitBut but_copy (keeping get_form 28) 0 get_form.words
  get_copy_kept =
      copy_kept_in get_form (get_front p count) (get_insts p) 0 (omega arith) (get_long p count) refl (get_six p)
      (search (rules, front_inner count, to_end count, not_28)) get_word_copy

  pub put_value_kept : AreFitBut (but_value count) (keeping put_form p.value) 0 put_form.words
  put_value_kept =
      value_kept_in put_form (put_front p count) (put_insts p) 8 (omega arith) (put_long p count) refl (put_six p)
      (search (rules, any, front_inner count, to_end count, other)) put_word_value

  pub get_value_kept : AreFitBut (but_value count) (keeping get_form p.value) 0 get_form.words
  get_value_kept =
      value_kept_in get_form (get_front p count) (get_insts p) 0 (omega arith) (get_long p count) refl (get_six p)
      (search (rules, any, front_inner count, to_end count, other)) get_word_value

-- WHAT RING BLOCKS HAVE IN COMMON

pub record IsRing (form : Form) (count : ℕ) : Type 0 where
  pub first : form.first ≡ 5
  pub commits : committed form ≡ 18 + 6 * count
  pub long : length form.words ≡ 22 + 6 * count
  pub copies : slice_get form.words 0 ≡ Some (Some (inst.Addi 28 form.slots.value (pos 0)))
  pub copies_again : slice_get form.words 9 ≡ Some (Some (inst.Addi 28 form.slots.value (pos 0)))
  pub clears : slice_get form.words 14 ≡ Some (Some (inst.Addi form.slots.value 0 (pos 0)))
  pub restores : slice_get form.words 16 ≡ Some (Some (inst.Addi form.slots.value 28 (pos 0)))
  pub handles : slice_get form.words (20 + 6 * count) ≡ Some (Some (inst.Addi form.slots.value 28 (pos 0)))
  -- the branch behind the test leads on, or to the post-commit address
  pub tests : Inst
  pub tests_there : slice_get form.words 15 ≡ Some (Some tests)
  pub tests_to : (seen : ℕ → Option ℕ) (f : Regs) (pc to : ℕ) (r : Option ℕ)
      → sum_64 pc (12 + 24 * count) ≡ to → to % 4 ≡ 0
      → ((outcome seen f pc r (meaning tests f pc)).pc ≡ to)
      ⊎ ((outcome seen f pc r (meaning tests f pc)).pc ≡ sum_64 pc 4)
  pub copy_kept : AreFitBut but_copy (keeping form 28) 0 form.words
  pub value_kept : AreFitBut (but_value count) (keeping form form.slots.value) 0 form.words
  -- what is asked of the data where its sequence is about to begin: the words at the value don't pass 2^64
  pub low_words : (s : Setting) (area : Area) (h t : ℕ) (begun : History) → form.Apart s area h t begun
      → register (file s t begun).file form.slots.value + 8 * count ≤ 2 ^ 64

module _ (count : ℕ) (few : count ≤ 4) (p : Slots) (slots : AreSlots p) where
  small : word (pos (12 + 24 * count)) ≡ 12 + 24 * count
  small = omega arith

  third_behind : 20 + 6 * count ≡ 17 + 6 * count + 3
  third_behind = omega arith

  -- one by the words of its test and those that move a word
  module _ (i j d c b : Inst) (insts : ℕ → List (Option Inst)) (six : (k : ℕ) → length (insts k) ≡ 6) (offset : ℕ)
      (Whole Partial : Setting → ℕ → ℕ → ℕ → History → History → Type 0) where
    abbrev form_with : Form
    form_with =
        ring_form p (front_with p i j d c b ++ (repeated insts count ++ ring_end p count offset)) count Whole Partial

    is_ring_with : ((seen : ℕ → Option ℕ) (f : Regs) (pc to : ℕ) (r : Option ℕ)
        → sum_64 pc (12 + 24 * count) ≡ to → to % 4 ≡ 0
        → ((outcome seen f pc r (meaning b f pc)).pc ≡ to)
        ⊎ ((outcome seen f pc r (meaning b f pc)).pc ≡ sum_64 pc 4))
        → AreFitBut but_copy (keeping form_with 28) 0 form_with.words
        → AreFitBut (but_value count) (keeping form_with p.value) 0 form_with.words → IsRing form_with count
    is_ring_with to copy value = record {
      first = refl;
      commits = omega arith;
      long = words_long (front_with p i j d c b) insts p count offset refl six;
      copies = refl;
      copies_again = refl;
      clears = refl;
      restores = refl;
      handles = ap (slice_get form_with.words) third_behind
          ∙ at_end insts six (front_with p i j d c b) (ring_end p count offset) refl count 3;
      tests = b;
      tests_there = refl;
      tests_to = to;
      copy_kept = copy;
      value_kept = value;
      low_words = λ s area h t begun apart. apart.low_words;
    }

  pub put_is_ring : IsRing (ring_put_form count p) count
  put_is_ring =
      is_ring_with (inst.Ld 6 5 (pos 8)) (inst.Ld 7 5 (pos 0)) (inst.Sub 7 6 7) (inst.Sltiu 7 7 (pos (513 - count)))
      (inst.Beq 7 0 (pos (12 + 24 * count))) (put_insts p) (put_six p) 8
      (λ s ring h t. IsWholePut s p ring h t count) (λ s ring h t. IsNoPut s p ring h t count)
      (λ seen f pc to r is even. beq_pc 7 0 (pos (12 + 24 * count)) seen f pc to r (ap (sum_64 pc) small ∙ is) even)
      (put_copy_kept count few p slots) (put_value_kept count few p slots)

  pub get_is_ring : IsRing (ring_get_form count p) count
  get_is_ring =
      is_ring_with (inst.Ld 6 5 (pos 0)) (inst.Ld 7 5 (pos 8)) (inst.Sub 7 7 6) (inst.Sltiu 7 7 (pos count))
      (inst.Bne 7 0 (pos (12 + 24 * count))) (get_insts p) (get_six p) 0
      (λ s ring h t. IsWholeGet s p ring h t count) (λ s ring h t. IsNoGet s p ring h t count)
      (λ seen f pc to r is even. bne_pc 7 0 (pos (12 + 24 * count)) seen f pc to r (ap (sum_64 pc) small ∙ is) even)
      (get_copy_kept count few p slots) (get_value_kept count few p slots)

-- WHAT IS ASKED OF THE DATA

module _ (s : Setting) (form : Form) (at : ℕ) (area : Area) (t : ℕ) where
  abbrev Used : List Entry → Type 0
  Used log = AreBlockUsed s form at area t (history s log)

  used_before : (log more : List Entry) → Used (log ++ more) → Used log
  used_before log [] used = subst Used (append-nil log) used
  used_before log (x ∷ more) used =
      (subst (AreBlockUsed s form at area t) (history-append s log x)
      (used_before (log ++ x ∷ []) more (subst Used (sym (append_assoc log (x ∷ []) more)) used))).0

  -- a block is used as it is to be at each place from which a log goes on
  used_at : (log : List Entry) (x : Entry) (more : List Entry) → Used (log ++ x ∷ more)
      → IsBlockUsed s form at area t (event s (history s log) x) (history s log)
  used_at log x more used =
      (subst (AreBlockUsed s form at area t) (history-append s log x)
      (used_before (log ++ x ∷ []) more (subst Used (sym (append_assoc log (x ∷ []) more)) used))).1

-- WHAT IS KNOWN

-- where the value is the one that came in: up to the word that sets it to 0, from the one behind that which
-- brings it back to the last before the post-commit address, and behind the abort handler
abbrev HasValue : ℕ → ℕ → Type 0
HasValue count k = (k ≤ 14) ⊎ (((17 ≤ k) × (k < 18 + 6 * count)) ⊎ (k ≡ 21 + 6 * count))

-- what is known of x6; that the 64 bits of the value v are in x28 behind the first word; that v is the value
-- there; and that it has no more bits behind the first word of the sequence
record KnowsValue (form : Form) (count v k : ℕ) (regs : Regs) : Type 0 where
  table : KnowsTable form k regs
  copy : 1 ≤ k → register regs 28 ≡ v % 2 ^ 64
  value : HasValue count k → register regs form.slots.value ≡ v
  small : 6 ≤ k → v < 2 ^ 64
  uncommitted : k ≢ 18 + 6 * count

module _ (s : Setting) (past : History) (form : Form) (count : ℕ) (some_words : 1 ≤ count)
    (many_words : count ≤ 4)
    (at : ℕ) (area : Area) (t v : ℕ) (formed : IsFormed form) (ring : IsRing form count)
    (held : HoldsBlock s past form at area t) where
  abbrev b : Placed
  b = placed_of form at area

  abbrev value : ℕ
  value = form.slots.value

  abbrev Know : ℕ → Regs → Type 0
  Know k regs = KnowsValue form count v k regs

  -- what is asked where the thread is at the start
  abbrev Asked : Saved → Type 0
  Asked f = f.pc ≡ at + 4 * form.first → register f.file form.slots.value + 8 * count ≤ 2 ^ 64

  -- so there the value has 64 bits
  small_at : (f : Saved) (k : ℕ) → Asked f → f.pc ≡ at + 4 * k → Know k f.file → 5 ≤ k → v < 2 ^ 64
  small_at f k asked pc know from = by_word (cases_lt k 6)
    where
      by_word : (k < 6) ⊎ (6 ≤ k) → v < 2 ^ 64
      by_word (inl start) =
          let some = some_words in
          let first = ring.first in
          let is = know.value (inl (omega arith)) in
          let low = asked (pc ∙ omega arith) in
          omega arith
      by_word (inr later) = know.small later

  code : IsCode s b (KnowsTable form)
  code = block_code s form at area formed held.stands held.low_table held.low held.low_area

  low : at < 2 ^ 37
  low = held.low

  even : at % 4 ≡ 0
  even = block_aligned s form at formed held.stands

  without : (f : Saved) → KnowsAt b Know f → KnowsAt b (KnowsTable form) f
  without f at_it = record { word = at_it.word; below = at_it.below; pc = at_it.pc; know = at_it.know.table }

  -- a thread at word k executes it, and comes to another word
  module _ (f : Saved) (e : Effect) (seen : ℕ → Option ℕ) (r : Option ℕ) (many : HasRegisters f)
      (is : effect_at (code_of s.program.pages) f ≡ Some e) (k : ℕ) (pc : f.pc ≡ at + 4 * k)
      (below : k < length form.words) (asked : Asked f) (know : Know k f.file) where
    abbrev o : Outcome
    o = outcome seen f.file f.pc r e

    found : IsInstruction form form.words 0 k
    found = it s form at area formed held.stands held.low_table held.low held.low_area f e seen r is k pc
        below know.table

    does : o ≡ outcome seen f.file f.pc r (meaning found.i f.file f.pc)
    does = outcome_is s form at area formed held.stands held.low_table held.low held.low_area f e seen r is k
        found.i pc
        found.there

    does_word : (n : ℕ) (i : Inst) → k ≡ n → slice_get form.words n ≡ Some (Some i)
        → o ≡ outcome seen f.file f.pc r (meaning i f.file f.pc)
    does_word n i same there =
        outcome_is s form at area formed held.stands held.low_table held.low held.low_area f e seen r is k i
        pc
        (ap (slice_get form.words) same ∙ there)

    near : length form.words < 2 ^ 8
    near = formed.short

    inner_near : committed form < 2 ^ 8
    inner_near = let within = formed.within in let all = near in omega arith

    copy_stays : k ≢ 0 → k ≢ 9 → register o.regs 28 ≡ register f.file 28
    copy_stays not_first not_again =
        let all = near in
        ap (λ (x : Outcome). register x.regs 28) does
        ∙ (tame_at (keeping form 28) near inner_near but_copy form.words k found.i (omega arith)
        ring.copy_kept found.there
        (ap (λ c. c || eqb k 9) (ne_eqb k 0 not_first) ∙ ne_eqb k 9 not_again)).keeps seen f.file f.pc r 28
        refl

    value_stays : k ≢ 14 → k ≢ 16 → k ≢ 20 + 6 * count → register o.regs value ≡ register f.file value
    value_stays no_clear no_restore no_abort =
        let all = near in
        ap (λ (x : Outcome). register x.regs value) does
        ∙ (tame_at (keeping form value) near inner_near (but_value count) form.words k found.i (omega arith)
        ring.value_kept
        found.there
        (ap (λ c. c || (eqb k 16 || eqb k (20 + 6 * count))) (ne_eqb k 14 no_clear)
        ∙ ap (λ c. c || eqb k (20 + 6 * count)) (ne_eqb k 16 no_restore)
        ∙ ne_eqb k (20 + 6 * count) no_abort)).keeps seen
        f.file f.pc r value (ap not (eqb_same value))

    -- the copy, and the way back
    sum_is : sum_64 v (word (pos 0)) ≡ v % 2 ^ 64
    sum_is = omega arith

    sum_back : v < 2 ^ 64 → sum_64 (v % 2 ^ 64) (word (pos 0)) ≡ v
    sum_back small = omega arith

    copy_made : (n : ℕ) → slice_get form.words n ≡ Some (Some (inst.Addi 28 value (pos 0))) → k ≡ n → n ≤ 14
        → register o.regs 28 ≡ v % 2 ^ 64
    copy_made n there same early =
        let i : Inst = inst.Addi 28 value (pos 0) in
        ap (λ (x : Outcome). register x.regs 28) (does_word n i same there)
        ∙ ap (λ d. register (outcome seen f.file f.pc r d).regs 28)
        (means_addi f.file f.pc (sum_64 f.pc 4) refl 28 value (pos 0) v (v % 2 ^ 64)
        (know.value (inl (omega arith)))
        sum_is)
        ∙ written_same f.file 28 (v % 2 ^ 64) refl (subst (λ n. 28 < n) (sym many) (omega arith))

    brought_back : (n : ℕ) → slice_get form.words n ≡ Some (Some (inst.Addi value 28 (pos 0))) → k ≡ n → 6 ≤ n
        → register o.regs value ≡ v
    brought_back n there same some =
        let i : Inst = inst.Addi value 28 (pos 0) in
        ap (λ (x : Outcome). register x.regs value) (does_word n i same there)
        ∙ ap (λ d. register (outcome seen f.file f.pc r d).regs value)
        (means_addi f.file f.pc (sum_64 f.pc 4) refl value 28 (pos 0) (v % 2 ^ 64) v (know.copy (omega arith))
        (sum_back (know.small (omega arith))))
        ∙ written_same f.file value v (some_value form.slots held.slots)
        (subst (λ n. value < n) (sym many) held.slots.low_value)

    -- where it comes to
    module _ (to : ℕ) (goes : o.pc ≡ at + 4 * to) (within : to < length form.words)
        (uncommitted : to ≢ 18 + 6 * count) where
      led : (to ≡ k + 1) ⊎ (to ≡ 0)
      led = by_way go.0 go.1 (omega (arith, go.2, goes))
        where
          go : (n : ℕ) × Leads form k n × (o.pc ≡ at + 4 * n)
          go = leads_at s form at area formed held.stands held.low_table held.low held.low_area f e seen r is
              k pc below
              know.table

          by_way : (n : ℕ) → Leads form k n → n ≡ to → (to ≡ k + 1) ⊎ (to ≡ 0)
          by_way n (goes_on next inner) same = inl (omega arith)
          by_way n (begins_anew first) same = inr (omega arith)
          by_way n (leads_out out) same = let commits = ring.commits in absurd (uncommitted (omega arith))
          by_way n (leaves_block behind) same = absurd (omega arith)

      small_there : 6 ≤ to → v < 2 ^ 64
      small_there from = by_way led
        where
          by_way : (to ≡ k + 1) ⊎ (to ≡ 0) → v < 2 ^ 64
          by_way (inl next) = small_at f k asked pc know (omega arith)
          by_way (inr first) = absurd (omega arith)

      copy_there : 1 ≤ to → register o.regs 28 ≡ v % 2 ^ 64
      copy_there some = by_word (cases_eq k 0) (cases_eq k 9)
        where
          by_word : (k ≡ 0) ⊎ (k ≢ 0) → (k ≡ 9) ⊎ (k ≢ 9) → register o.regs 28 ≡ v % 2 ^ 64
          by_word (inl first) again = copy_made 0 ring.copies first (omega arith)
          by_word (inr later) (inl again) = copy_made 9 ring.copies_again again (omega arith)
          by_word (inr later) (inr other) = copy_stays later other ∙ know.copy (omega arith)

      -- the word that sets it to 0 leads to the next, and so does the branch behind it, if not out
      after_clear : k ≡ 14 → to ≡ 15
      after_clear same =
          let close = low in
          let i : Inst = inst.Addi value 0 (pos 0) in
          let next : o.pc ≡ sum_64 f.pc 4 =
          ap (λ (x : Outcome). x.pc) (does_word 14 i same ring.clears)
          ∙ (straight_of (λ x. eqb x value) (inst.Addi value 0 (pos 0)) (eqb_same value)).on seen f.file f.pc
          r in
          let far : sum_64 f.pc 4 ≡ at + 4 * k + 4 = ap (λ n. sum_64 n 4) pc ∙ omega arith in
          omega (arith, next, far, goes)

      after_test : k ≡ 15 → to ≡ 16
      after_test same =
          let close = low in
          let four = even in
          let way = ap (λ (x : Outcome). x.pc) (does_word 15 ring.tests same ring.tests_there) in
          let target : sum_64 f.pc (12 + 24 * count) ≡ at + 4 * (18 + 6 * count) =
          ap (λ n. sum_64 n (12 + 24 * count)) pc ∙ omega arith in
          let far : sum_64 f.pc 4 ≡ at + 4 * k + 4 = ap (λ n. sum_64 n 4) pc ∙ omega arith in
          by_way way far (ring.tests_to seen f.file f.pc (at + 4 * (18 + 6 * count)) r target (omega arith))
        where
          by_way : o.pc ≡ (outcome seen f.file f.pc r (meaning ring.tests f.file f.pc)).pc
              → sum_64 f.pc 4 ≡ at + 4 * k + 4
              → ((outcome seen f.file f.pc r (meaning ring.tests f.file f.pc)).pc ≡ at + 4 * (18 + 6 * count))
              ⊎ ((outcome seen f.file f.pc r (meaning ring.tests f.file f.pc)).pc ≡ sum_64 f.pc 4) → to ≡ 16
          by_way way far (inl out) = absurd (uncommitted (omega (arith, way, out, goes)))
          by_way way far (inr next) = omega (arith, way, next, far, goes)

      value_there : HasValue count to → register o.regs value ≡ v
      value_there here_it =
          by_word (cases_eq k 14) (cases_eq k 15) (cases_eq k 16) (cases_eq k (20 + 6 * count)) here_it
        where
          not_between : to ≡ 15 → HasValue count to → ⊥
          not_between same (inl early) = omega arith
          not_between same (inr (inl later)) = let from = later.0 in omega arith
          not_between same (inr (inr last)) = omega arith

          not_behind : to ≡ 16 → HasValue count to → ⊥
          not_behind same (inl early) = omega arith
          not_behind same (inr (inl later)) = let from = later.0 in omega arith
          not_behind same (inr (inr last)) = omega arith

          had : (k < 14) ⊎ (14 ≤ k) → (k < 18 + 6 * count) ⊎ (18 + 6 * count ≤ k) → k ≢ 14 → k ≢ 15 → k ≢ 16
              → k ≢ 20 + 6 * count → HasValue count k
          had (inl early) place no_clear no_test no_restore no_abort = inl (omega arith)
          had (inr from) (inl before) no_clear no_test no_restore no_abort = inr (inl (omega arith, before))
          had (inr from) (inr past_it) no_clear no_test no_restore no_abort =
              let not_post = know.uncommitted in
              let signature = know.table.code in
              let commits = ring.commits in
              let long = ring.long in
              inr (inr (omega arith))

          by_word : (k ≡ 14) ⊎ (k ≢ 14) → (k ≡ 15) ⊎ (k ≢ 15) → (k ≡ 16) ⊎ (k ≢ 16)
              → (k ≡ 20 + 6 * count) ⊎ (k ≢ 20 + 6 * count) → HasValue count to → register o.regs value ≡ v
          by_word (inl clear) test restore abort there = absurd (not_between (after_clear clear) there)
          by_word (inr no_clear) (inl test) restore abort there = absurd (not_behind (after_test test) there)
          by_word (inr no_clear) (inr no_test) (inl restore) abort there =
              brought_back 16 ring.restores restore (omega arith)
          by_word (inr no_clear) (inr no_test) (inr no_restore) (inl abort) there =
              brought_back (20 + 6 * count) ring.handles abort (omega arith)
          by_word (inr no_clear) (inr no_test) (inr no_restore) (inr no_abort) there =
              value_stays no_clear no_restore no_abort
              ∙ know.value (had (cases_lt k 14) (cases_lt k (18 + 6 * count)) no_clear no_test no_restore
              no_abort)

  kept : IsKept s b Asked Know
  kept = record {
    plain = λ f e at_it is. code.no_call f e (without f at_it) is;
    goes = λ f e seen r many asked at_it is inside uncommitted.
        let now = code.goes f e seen r many (without f at_it) is inside in
        let other : now.word ≢ 18 + 6 * count = (λ same. uncommitted (now.pc ∙ post now.word same)) in
        record {
          word = now.word;
          below = now.below;
          pc = now.pc;
          know = record {
            table = now.know;
            copy = copy_there f e seen r many is at_it.word at_it.pc at_it.below asked at_it.know now.word now.pc
                now.below
                other;
            value = value_there f e seen r many is at_it.word at_it.pc at_it.below asked at_it.know now.word now.pc
                now.below
                other;
            small = small_there f e seen r many is at_it.word at_it.pc at_it.below asked at_it.know now.word now.pc
                now.below
                other;
            uncommitted = other;
          };
        };
    cut = λ f asked at_it inside. record {
      word = 20 + 6 * count;
      below = let long = ring.long in omega arith;
      pc = let commits = ring.commits in omega arith;
      know = record {
        table = subst (λ n. KnowsTable form n f.file) handler_is (code.handled f.file);
        copy = λ some.
            let from = in_sequence f at_it inside (cases_lt at_it.word 5) in
            at_it.know.copy (omega arith);
        value = λ here_it. absurd (not_there here_it);
        small = λ from.
            small_at f at_it.word asked at_it.pc at_it.know (in_sequence f at_it inside
            (cases_lt at_it.word 5));
        uncommitted = λ same. absurd (omega arith);
      };
    };
    retry = λ f is start. let first = ring.first in absurd (omega (arith, is, start));
    handler = λ f is start.
        let first = ring.first in
        let commits = ring.commits in
        absurd (omega (arith, is, start));
  }
    where
      post : (to : ℕ) → to ≡ 18 + 6 * count → at + 4 * to ≡ at + 4 * form.first + 4 * form.inside
      post to same = let commits = ring.commits in omega arith

      handler_is : code.handler ≡ 20 + 6 * count
      handler_is =
          let there : at + 4 * (committed form + 2) ≡ at + 4 * code.handler = code.handler_at in
          let commits = ring.commits in
          omega arith

      not_there : HasValue count (20 + 6 * count) → ⊥
      not_there (inl early) = omega arith
      not_there (inr (inl later)) = let before = later.1 in omega arith
      not_there (inr (inr last)) = omega arith

      in_sequence : (f : Saved) (at_it : KnowsAt b Know f) → is_inside (range_of form at) f.pc ≡ true
          → (at_it.word < 5) ⊎ (5 ≤ at_it.word) → 5 ≤ at_it.word
      in_sequence f at_it inside (inl early) =
          let close = held.low in
          let first = ring.first in
          let all = formed.short in
          let within = formed.within in
          absurd (false≢true (sym (before_range form at at_it.word close (omega arith) (omega arith))
          ∙ sym (ap (is_inside (range_of form at)) at_it.pc) ∙ inside))
      in_sequence f at_it inside (inr late) = late

  -- where the thread is at the retry label or at the start, the value is what it was where the retries began
  pub value_came_in : (first log later : List Entry) → IsBlockRun s (log ++ later) → history s (log ++ later)
      ≡ past
      → Retries s b t first log → v ≡ register (file s t (history s first)).file value
      → ((file s t (history s log)).pc ≡ at) ⊎ ((file s t (history s log)).pc ≡ at + 4 * form.first)
      → register (file s t (history s log)).file value ≡ v
  value_came_in first log later run whole retries is there =
      let f = file s t (history s first) in
      let start : KnowsAt b Know f = record {
        word = 0;
        below = code.some;
        pc = first_place s b t first log retries ∙ omega arith;
        know = record {
          table = code.first f.file;
          copy = λ some. absurd (omega arith);
          value = λ here_it. sym is;
          small = λ from. absurd (omega arith);
          uncommitted = λ same. absurd (omega arith);
        };
      } in
      let used = subst (AreBlockUsed s form at area t) (sym whole) held.used in
      let asked_run : IsAskedRun s t Asked (log ++ later) = record {
        run = run;
        asked = λ h earlier x rest same runs begins.
            ring.low_words s area h t (history s earlier)
            ((used_at s form at area t earlier x rest
            (subst (λ (l : List Entry). AreBlockUsed s form at area t (history s l)) same used)).begins h
            (record { runs = runs; pc = begins }));
      } in
      let known = known_throughout s b t Asked Know kept first log retries later asked_run start in
      known.know.value (inl (early known.word known.pc there))
    where
      early : (k : ℕ) → (file s t (history s log)).pc ≡ at + 4 * k
          → ((file s t (history s log)).pc ≡ at) ⊎ ((file s t (history s log)).pc ≡ at + 4 * form.first) → k
          ≤ 14
      early k pc (inl retry) = omega arith
      early k pc (inr start) = let first = ring.first in omega arith

pub ring_value_comes_in : (k : RingKind) (count : ℕ) (s : Setting) (first log later : List Entry) (p : Slots)
    (at : ℕ)
    (area : Area) (t : ℕ) → 1 ≤ count → count ≤ 4 → IsBlockRun s (log ++ later)
    → HoldsBlock s (history s (log ++ later)) (ring_form_of k count p) at area t
    → Retries s (placed_of (ring_form_of k count p) at area) t first log
    → ((file s t (history s log)).pc ≡ at) ⊎ ((file s t (history s log)).pc ≡ at
    + 4 * (ring_form_of k count p).first)
    → register (file s t (history s log)).file p.value ≡ register (file s t (history s first)).file p.value
ring_value_comes_in puts count s first log later p at area t some few run held retries there =
    value_came_in s (history s (log ++ later)) (ring_put_form count p) count some few at area t
    (register (file s t (history s first)).file p.value) (put_formed count few p)
    (put_is_ring count few p held.slots)
    held first log later run refl retries refl there
ring_value_comes_in gets count s first log later p at area t some few run held retries there =
    value_came_in s (history s (log ++ later)) (ring_get_form count p) count some few at area t
    (register (file s t (history s first)).file p.value) (get_formed count few p)
    (get_is_ring count few p held.slots)
    held first log later run refl retries refl there
