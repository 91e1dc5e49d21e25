-- Each retry of a free block works on the value that came in: its 64 bits are copied into x28 at the retry
-- label, and an abort brings them back from there.
use Rattle.std.proofs.Common.{◌≡◌, ◌≢◌, ℕ, ◌+◌, ◌*◌, ◌<◌, ◌≤◌, ◌^◌, ◌⊎◌, inl, inr, List, ◌++◌, refl, sym, ap}
use Rattle.std.proofs.Common.{◌∙◌, ◌%◌, arith, Bool, true, not, ◌||◌, eqb, slice_get, subst, Option, Some}
use Rattle.std.proofs.Common.{pos, rules}
use Rattle.std.proofs.lemmas.Bool.{cases_eq, cases_lt, false≢true, ne_eqb}
use Rattle.mach_types.proofs.Laws.{eqb_same}
use Rattle.mach_types.specs.Kernel.Areas.{is_inside}
use Rattle.mach_types.specs.Registers.{register}
use Rattle.mach_types.specs.declared.events.Entry.{Entry}
use Rattle.mach_types.specs.declared.registers.Regs.{Regs}
use Rattle.mach_types.specs.declared.sequences.Area.{Area}
use Rattle.mach_types.specs.declared.threads.Saved.{Saved}
use Rattle.rv_inst.specs.Execution.{Outcome, outcome}
use Rattle.rv_inst.specs.Meaning.{meaning}
use Rattle.rv_inst.specs.Words.{sum_64, word}
use Rattle.rv_inst.specs.declared.effects.Effect.{Effect}
use Rattle.rv_inst.specs.declared.instruction.Inst.{Inst}
use Rattle.rv_inst.specs.declared.instruction.Inst.TheVariants as inst
use Rattle.alone.specs.Alone.{effect_at}
use Rattle.alone.specs.Temps.{is_scratch}
use Rattle.alone.proofs.Laws.{written_same}
use Rattle.alone.proofs.Means.{means_addi}
use Rattle.block_model.specs.Deciding.{history}
use Rattle.block_model.specs.History.{History, file}
use Rattle.block_model.specs.Run.{IsBlockRun}
use Rattle.block_model.specs.Setting.{Setting}
use Rattle.block_model.proofs.Laws.{HasRegisters}
use Rattle.alone_laws.specs.Retries.{Retries}
use Rattle.alone_laws.specs.Spans.{code_of}
use Rattle.alone_laws.specs.Uses.{Placed}
use Rattle.alone_laws.proofs.Arrivals.{IsCode, KnowsAt}
use Rattle.alone_laws.proofs.Retrying.{AsksNothing, IsKept, asks_nothing, first_place, known_throughout}
use Rattle.percpu_lib.specs.Forms.{Form, HoldsBlock, placed_of, range_of}
use Rattle.percpu_lib.specs.Frees.{free_block, free_form}
use Rattle.percpu_lib.specs.Kinds.{frees}
use Rattle.percpu_lib.specs.Words.{AreSlots, is_changed}
use Rattle.percpu_lib.specs.declared.slots.Slots.{Slots}
use Rattle.percpu_lib.proofs.BlockCode.{IsInstruction, KnowsTable, before_range, it, leads_at, outcome_is}
use Rattle.percpu_lib.proofs.Changes.{scratch_not, some_value, value_changed}
use Rattle.percpu_lib.proofs.FormedWords.{AreFitBut, tame_at}
use Rattle.percpu_lib.proofs.FormedBlocks.{block_formed}
use Rattle.percpu_lib.proofs.FreeLaw.{free_course}
use Rattle.percpu_lib.proofs.UsesLaw.{is_code}
use Rattle.percpu_lib.proofs.WordLaws.{Leads, begins_anew, goes_on, leads_out, leaves_block, straight_of}

-- WHICH WORDS CHANGE X28, AND WHICH THE VALUE

abbrev but_copy : ℕ → Bool
but_copy k = eqb k 0

abbrev but_value : ℕ → Bool
but_value k = eqb k 16 || eqb k 20

-- the block, where some register alone may not change
abbrev keeping : Slots → ℕ → Form
keeping p r = record (free_form p) { may = λ x. not (eqb x r) }

module _ (p : Slots) (slots : AreSlots p) where
  not_28 : not (eqb p.value 28) ≡ true
  not_28 = ap not (ne_eqb p.value 28 (λ same. scratch_not 28 p.value refl slots.value (sym same)))

  copy_kept : AreFitBut but_copy (keeping p 28) 0 (free_block p)
  copy_kept = search (rules, not_28)

  other : (r : ℕ) → is_scratch r ≡ true → not (eqb r p.value) ≡ true
  other r scratch = ap not (ne_eqb r p.value (scratch_not r p.value scratch slots.value))

  value_kept : AreFitBut but_value (keeping p p.value) 0 (free_block p)
  value_kept = search (rules, other)

-- WHAT IS KNOWN

-- a number is v, or its 64 bits
abbrev IsOf : ℕ → ℕ → Type 0
IsOf v n = (n ≡ v) ⊎ (n ≡ v % 2 ^ 64)

-- what is known of x6; that the 64 bits of the value v are in x28 behind the first word; and that the value
-- is v or its 64 bits up to the word that sets the value to 0, and behind the abort handler
record KnowsCopy (p : Slots) (v k : ℕ) (regs : Regs) : Type 0 where
  table : KnowsTable (free_form p) k regs
  copy : 1 ≤ k → register regs 28 ≡ v % 2 ^ 64
  value : (k ≤ 16) ⊎ (k ≡ 21) → IsOf v (register regs p.value)
  uncommitted : k ≢ 18

module _ (s : Setting) (past : History) (p : Slots) (at : ℕ) (area : Area) (t v : ℕ)
    (held : HoldsBlock s past (free_form p) at area t) where
  abbrev form : Form
  form = free_form p

  abbrev b : Placed
  b = placed_of form at area

  abbrev Know : ℕ → Regs → Type 0
  Know k regs = KnowsCopy p v k regs

  code : IsCode s b (KnowsTable form)
  code = is_code s form at area t (free_course p) past held

  without : (f : Saved) → KnowsAt b Know f → KnowsAt b (KnowsTable form) f
  without f at_it = record { word = at_it.word; below = at_it.below; pc = at_it.pc; know = at_it.know.table }

  -- a thread at word k executes it, and comes to another word
  module _ (f : Saved) (e : Effect) (seen : ℕ → Option ℕ) (r : Option ℕ) (many : HasRegisters f)
      (is : effect_at (code_of s.program.pages) f ≡ Some e) (k : ℕ) (pc : f.pc ≡ at + 4 * k) (below : k < 22)
      (know : Know k f.file) where
    abbrev o : Outcome
    o = outcome seen f.file f.pc r e

    found : IsInstruction form (free_block p) 0 k
    found = it s form at area (block_formed frees p) held.stands held.low_table held.low held.low_area f e seen r is
        k pc below
        know.table

    does : o ≡ outcome seen f.file f.pc r (meaning found.i f.file f.pc)
    does = outcome_is s form at area (block_formed frees p) held.stands held.low_table held.low held.low_area f e
        seen r is k
        found.i pc found.there

    -- a word of which the instruction is known
    does_word : (n : ℕ) (i : Inst) → k ≡ n → slice_get (free_block p) n ≡ Some (Some i)
        → o ≡ outcome seen f.file f.pc r (meaning i f.file f.pc)
    does_word n i same there =
        outcome_is s form at area (block_formed frees p) held.stands held.low_table held.low held.low_area f e seen r
        is k i pc
        (ap (λ m. slice_get (free_block p) m) same ∙ there)

    copy_stays : k ≢ 0 → register o.regs 28 ≡ register f.file 28
    copy_stays other =
        ap (λ (x : Outcome). register x.regs 28) does
        ∙ (tame_at (keeping p 28) (omega arith) (omega arith) but_copy (free_block p) k found.i (omega arith)
        (copy_kept p held.slots) found.there (ne_eqb k 0 other)).keeps seen f.file f.pc r 28 refl

    value_stays : k ≢ 16 → k ≢ 20 → register o.regs p.value ≡ register f.file p.value
    value_stays no_clear no_abort =
        ap (λ (x : Outcome). register x.regs p.value) does
        ∙ (tame_at (keeping p p.value) (omega arith) (omega arith) but_value (free_block p) k found.i
        (omega arith)
        (value_kept p held.slots) found.there
        (ap (λ c. c || eqb k 20) (ne_eqb k 16 no_clear) ∙ ne_eqb k 20 no_abort)).keeps seen f.file f.pc r
        p.value
        (ap not (eqb_same p.value))

    -- the copy, and the way back
    abbrev bits : ℕ
    bits = v % 2 ^ 64

    sum_is : sum_64 v (word (pos 0)) ≡ bits
    sum_is = omega arith

    sum_again : sum_64 bits (word (pos 0)) ≡ bits
    sum_again = omega arith

    copied_from : (a : ℕ) → register f.file p.value ≡ a → sum_64 a (word (pos 0)) ≡ bits → k ≡ 0
        → register o.regs 28 ≡ bits
    copied_from a is sum first =
        let i : Inst = inst.Addi 28 p.value (pos 0) in
        ap (λ (x : Outcome). register x.regs 28) (does_word 0 i first refl)
        ∙ ap (λ d. register (outcome seen f.file f.pc r d).regs 28)
        (means_addi f.file f.pc (sum_64 f.pc 4) refl 28 p.value (pos 0) a bits is sum)
        ∙ written_same f.file 28 bits refl (subst (λ n. 28 < n) (sym many) (omega arith))

    copy_made : k ≡ 0 → register o.regs 28 ≡ bits
    copy_made first = by_value (know.value (inl (omega arith)))
      where
        by_value : IsOf v (register f.file p.value) → register o.regs 28 ≡ bits
        by_value (inl same) = copied_from v same sum_is first
        by_value (inr same) = copied_from bits same sum_again first

    brought_back : k ≡ 20 → register o.regs p.value ≡ bits
    brought_back handler =
        let i : Inst = inst.Addi p.value 28 (pos 0) in
        ap (λ (x : Outcome). register x.regs p.value) (does_word 20 i handler refl)
        ∙ ap (λ d. register (outcome seen f.file f.pc r d).regs p.value)
        (means_addi f.file f.pc (sum_64 f.pc 4) refl p.value 28 (pos 0) bits bits (know.copy (omega arith))
        sum_again)
        ∙ written_same f.file p.value bits (some_value p held.slots)
        (subst (λ n. p.value < n) (sym many) held.slots.low_value)

    -- where it comes to
    module _ (to : ℕ) (goes : o.pc ≡ at + 4 * to) (within : to < 22) (uncommitted : to ≢ 18) where
      led : (to ≡ k + 1) ⊎ (to ≡ 0)
      led = by_way go.0 go.1 (omega (arith, go.2, goes))
        where
          go : (n : ℕ) × Leads form k n × (o.pc ≡ at + 4 * n)
          go = leads_at s form at area (block_formed frees p) held.stands held.low_table held.low held.low_area f e
              seen r is k
              pc below know.table

          by_way : (n : ℕ) → Leads form k n → n ≡ to → (to ≡ k + 1) ⊎ (to ≡ 0)
          by_way n (goes_on next inner) same = inl (omega arith)
          by_way n (begins_anew first) same = inr (omega arith)
          by_way n (leads_out out) same = absurd (uncommitted (omega arith))
          by_way n (leaves_block behind) same = absurd (omega arith)

      low : at < 2 ^ 37
      low = held.low

      straight : (n : ℕ) (i : Inst) → k ≡ n → slice_get (free_block p) n ≡ Some (Some i)
          → (outcome seen f.file f.pc r (meaning i f.file f.pc)).pc ≡ sum_64 f.pc 4 → to ≡ k + 1
      straight n i same there on =
          let near = low in
          let next : o.pc ≡ sum_64 f.pc 4 = ap (λ (x : Outcome). x.pc) (does_word n i same there) ∙ on in
          let far : sum_64 f.pc 4 ≡ at + 4 * k + 4 = ap (λ n. sum_64 n 4) pc ∙ omega arith in
          omega (arith, next, far, goes)

      copy_there : 1 ≤ to → register o.regs 28 ≡ bits
      copy_there some = by_word (cases_eq k 0)
        where
          by_word : (k ≡ 0) ⊎ (k ≢ 0) → register o.regs 28 ≡ bits
          by_word (inl first) = copy_made first
          by_word (inr later) = copy_stays later ∙ know.copy (omega arith)

      -- the value is set to 0 just before the store that commits
      after_clear : k ≡ 16 → to ≡ 17
      after_clear same =
          let on = straight 16 (inst.Addi p.value 0 (pos 0)) same refl
          ((straight_of (is_changed p) (inst.Addi p.value 0 (pos 0)) (value_changed p)).on seen f.file f.pc r)
          in
          omega arith

      after_commit : k ≡ 17 → to ≡ 18
      after_commit same =
          let on = straight 17 (inst.Sd 5 6 (pos 0)) same refl
          ((straight_of (is_changed p) (inst.Sd 5 6 (pos 0)) tt).on seen f.file f.pc r) in
          omega arith

      known_value : k ≢ 16 → k ≢ 20 → (k ≤ 16) ⊎ (k ≡ 21) → IsOf v (register o.regs p.value)
      known_value no_clear no_abort at_it =
          subst (IsOf v) (sym (value_stays no_clear no_abort)) (know.value at_it)

      value_there : (to ≤ 16) ⊎ (to ≡ 21) → IsOf v (register o.regs p.value)
      value_there here = by_word (cases_lt k 16)
        where
          behind : 16 ≤ k → (k ≡ 20) ⊎ (k ≢ 20) → (k ≡ 21) ⊎ (k ≢ 21) → (k ≡ 16) ⊎ (k ≢ 16) → (k ≡ 17)
              ⊎ (k ≢ 17)
              → (to ≤ 16) ⊎ (to ≡ 21) → IsOf v (register o.regs p.value)
          behind from (inl handler) last clear commit at_to = inr (brought_back handler)
          behind from (inr no_abort) (inl last) clear commit at_to =
              known_value (omega arith) no_abort (inr last)
          behind from (inr no_abort) (inr no_last) (inl clear) commit (inl early) =
              let on = after_clear clear in
              absurd (omega arith)
          behind from (inr no_abort) (inr no_last) (inl clear) commit (inr late) =
              let on = after_clear clear in
              absurd (omega arith)
          behind from (inr no_abort) (inr no_last) (inr no_clear) (inl commit) at_to =
              absurd (uncommitted (after_commit commit))
          behind from (inr no_abort) (inr no_last) (inr no_clear) (inr no_commit) at_to =
              let not_post = know.uncommitted in
              let signature = know.table.code in
              absurd (omega arith)

          by_word : (k < 16) ⊎ (16 ≤ k) → IsOf v (register o.regs p.value)
          by_word (inl before) = known_value (omega arith) (omega arith) (inl (omega arith))
          by_word (inr from) =
              behind from (cases_eq k 20) (cases_eq k 21) (cases_eq k 16) (cases_eq k 17) here

  kept : IsKept s b AsksNothing Know
  kept = record {
    plain = λ f e at_it is. code.no_call f e (without f at_it) is;
    goes = λ f e seen r many asked at_it is inside uncommitted.
        let now = code.goes f e seen r many (without f at_it) is inside in
        let to = now.word in
        let other : to ≢ 18 = (λ same. uncommitted (now.pc ∙ ap (λ n. at + 4 * n) same ∙ omega arith)) in
        record {
          word = to;
          below = now.below;
          pc = now.pc;
          know = record {
            table = now.know;
            copy = copy_there f e seen r many is at_it.word at_it.pc at_it.below at_it.know to now.pc
                now.below other;
            value = value_there f e seen r many is at_it.word at_it.pc at_it.below at_it.know to now.pc
                now.below other;
            uncommitted = other;
          };
        };
    cut = λ f asked at_it inside. record {
      word = 20;
      below = omega arith;
      pc = refl;
      know = record {
        table = subst (λ n. KnowsTable form n f.file) handler_is (code.handled f.file);
        copy = λ some. at_it.know.copy (not_first f at_it inside (cases_lt at_it.word 5));
        value = λ here. absurd (not_there 20 refl here);
        uncommitted = λ same. absurd (omega arith);
      };
    };
    retry = λ f at. tt;
    handler = λ f at. tt;
  }
    where
      handler_is : code.handler ≡ 20
      handler_is =
          let there : at + 80 ≡ at + 4 * code.handler = code.handler_at in
          omega arith

      not_there : (k : ℕ) → k ≡ 20 → (k ≤ 16) ⊎ (k ≡ 21) → ⊥
      not_there k handler (inl early) = omega arith
      not_there k handler (inr late) = omega arith

      not_first : (f : Saved) (at_it : KnowsAt b Know f) → is_inside (range_of form at) f.pc ≡ true
          → (at_it.word < 5) ⊎ (5 ≤ at_it.word) → 1 ≤ at_it.word
      not_first f at_it inside (inl early) =
          let low = held.low in
          absurd (false≢true (sym (before_range form at at_it.word low (omega arith) early)
          ∙ sym (ap (is_inside (range_of form at)) at_it.pc) ∙ inside))
      not_first f at_it inside (inr late) = omega arith

-- where the thread is at the retry label or at the start, the value is what it was where the retries began,
-- or its 64 bits
value_is : (s : Setting) (p : Slots) (at : ℕ) (area : Area) (t : ℕ) (first log later : List Entry)
    → IsBlockRun s (log ++ later) → HoldsBlock s (history s (log ++ later)) (free_form p) at area t
    → Retries s (placed_of (free_form p) at area) t first log
    → ((file s t (history s log)).pc ≡ at) ⊎ ((file s t (history s log)).pc ≡ at + 20)
    → IsOf (register (file s t (history s first)).file p.value)
    (register (file s t (history s log)).file p.value)
value_is s p at area t first log later run held retries there =
    let b = placed_of (free_form p) at area in
    let v = register (file s t (history s first)).file p.value in
    let past = history s (log ++ later) in
    let f = file s t (history s first) in
    let start : KnowsAt b (Know s past p at area t v held) f = record {
      word = 0;
      below = (code s past p at area t v held).some;
      pc = first_place s b t first log retries ∙ omega arith;
      know = record {
        table = (code s past p at area t v held).first f.file;
        copy = λ some. absurd (omega arith);
        value = λ here. inl refl;
        uncommitted = λ same. absurd (omega arith);
      };
    } in
    let known =
    known_throughout s b t AsksNothing (Know s past p at area t v held) (kept s past p at area t v held) first
    log retries later (asks_nothing s t (log ++ later) run) start in
    known.know.value (inl (early known.word known.pc there))
  where
    early : (k : ℕ) → (file s t (history s log)).pc ≡ at + 4 * k
        → ((file s t (history s log)).pc ≡ at) ⊎ ((file s t (history s log)).pc ≡ at + 20) → k ≤ 16
    early k pc (inl retry) = omega arith
    early k pc (inr start) = omega arith

-- so its 64 bits are what they were; and so is the value, where it is a number of 64 bits
module _ (s : Setting) (p : Slots) (at : ℕ) (area : Area) (t : ℕ) (first log later : List Entry)
    (run : IsBlockRun s (log ++ later)) (held : HoldsBlock s (history s (log ++ later)) (free_form p) at area
    t)
    (retries : Retries s (placed_of (free_form p) at area) t first log)
    (there : ((file s t (history s log)).pc ≡ at) ⊎ ((file s t (history s log)).pc ≡ at + 20)) where
  same_bits : (v n : ℕ) → IsOf v n → n % 2 ^ 64 ≡ v % 2 ^ 64
  same_bits v n (inl same) = ap (λ m. m % 2 ^ 64) same
  same_bits v n (inr same) = omega (arith, same)

  same_number : (v n : ℕ) → v < 2 ^ 64 → IsOf v n → n ≡ v
  same_number v n small (inl same) = same
  same_number v n small (inr same) = omega (arith, same)

  abbrev was : ℕ
  was = register (file s t (history s first)).file p.value

  abbrev now : ℕ
  now = register (file s t (history s log)).file p.value

  pub freed_bits_stay : now % 2 ^ 64 ≡ was % 2 ^ 64
  freed_bits_stay = same_bits was now (value_is s p at area t first log later run held retries there)

  pub freed_value_stays : was < 2 ^ 64 → now ≡ was
  freed_value_stays small =
      same_number was now small (value_is s p at area t first log later run held retries there)
