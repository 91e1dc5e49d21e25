-- The code of a block keeps its threads on its words, and stores the address of the descriptor in the area just
-- before the start.
use Rattle.std.proofs.Common.{◌≡◌, ◌≢◌, ℕ, zero, suc, ◌+◌, ◌*◌, ◌-◌, ◌/◌, ◌%◌, ◌^◌, ◌<◌, ◌≤◌, ◌⊎◌, inl, inr}
use Rattle.std.proofs.Common.{refl, sym, ap, ◌∙◌, subst, arith, Bool, true, false, List, [], ◌∷◌}
use Rattle.std.proofs.Common.{ltb, ◌||◌, leb, length, slice_get, Option, Some, None, ℤ, pos}
use Rattle.std.proofs.Common.{negsuc, ◌-ℤ◌}
use Rattle.std.specs.Option.{option_map}
use Rattle.std.proofs.lemmas.Bool.{cases_lt, cases_order, false≢true, le-ltb, lt-leb, lt-ltb}
use Rattle.std.proofs.lemmas.Bool.{ltb-true, ne_eqb}
use Rattle.std.proofs.lemmas.Int.{ints}
use Rattle.mach_types.specs.Kernel.Areas.{is_inside, is_out_of_range}
use Rattle.mach_types.specs.declared.address_space.TheConstants.{USER_END}
use Rattle.mach_types.specs.Registers.{register}
use Rattle.mach_types.specs.declared.registers.Regs.{Regs}
use Rattle.mach_types.specs.declared.sequences.Area.{Area}
use Rattle.mach_types.specs.declared.threads.Saved.{Saved}
use Rattle.rv_inst.specs.Class.{is_call}
use Rattle.rv_inst.specs.Execution.{Outcome, outcome}
use Rattle.rv_inst.specs.Meaning.{meaning}
use Rattle.rv_inst.specs.Memory.{low_bytes}
use Rattle.rv_inst.specs.Words.{sum_64, word}
use Rattle.rv_inst.specs.declared.effects.Effect.{Effect}
use Rattle.rv_inst.specs.declared.effects.Effect.TheVariants as effect
use Rattle.rv_inst.specs.declared.instruction.Inst.{Inst}
use Rattle.rv_inst.specs.declared.instruction.Inst.TheVariants as inst
use Rattle.alone.specs.Alone.{effect_at}
use Rattle.alone.proofs.Laws.{written_other, written_same}
use Rattle.alone_laws.specs.Spans.{code_of}
use Rattle.alone_laws.specs.Uses.{IsWellPlaced, Placed, in_block}
use Rattle.alone_laws.proofs.Arrivals.{IsCode, KnowsAt, StoresPointer}
use Rattle.block_model.specs.Setting.{Setting}
use Rattle.percpu_lib.specs.Forms.{Form, committed, placed_of, range_of}
use Rattle.percpu_lib.specs.Words.{AreHeld, lower, upper}
use Rattle.percpu_lib.proofs.BlockWords.{held_aligned}
use Rattle.percpu_lib.proofs.WordLaws.{IsWord, Leads, begins_anew, goes_on, leads_out, leaves_block}

-- THE WORDS OF A BLOCK

-- each word from one on leads on in the block; the signature alone is no instruction
abbrev pub AreWords : Form → ℕ → List (Option Inst) → Type 0
AreWords form k [] = Unit {0}
AreWords form k (None ∷ rest) = (k ≡ committed form + 1) × AreWords form (k + 1) rest
AreWords form k (Some i ∷ rest) = IsWord form k i × AreWords form (k + 1) rest

-- the words of a form: those just before the start make the address of the descriptor and store it in the area
pub record IsFormed (form : Form) : Type 0 where
  pub some : 4 ≤ form.first
  pub within : committed form + 2 < length form.words
  pub short : length form.words < 2 ^ 8
  pub inside : 0 < form.inside
  pub lui : slice_get form.words (form.first - 3) ≡ Some (Some (inst.Lui 6 (upper form.slots.table)))
  pub addi : slice_get form.words (form.first - 2) ≡ Some (Some (inst.Addi 6 6 (lower form.slots.table)))
  pub store : slice_get form.words (form.first - 1) ≡ Some (Some (inst.Sd form.slots.area 6 (pos 8)))
  pub words : AreWords form 0 form.words
  pub entry : (i : Inst) × (slice_get form.words 0 ≡ Some (Some i))

-- word k of a block is the signature, or an instruction
pub record IsInstruction (form : Form) (xs : List (Option Inst)) (k n : ℕ) : Type 0 where
  pub i : Inst
  pub there : slice_get xs n ≡ Some (Some i)
  pub leads : IsWord form (k + n) i

word_there : (form : Form) (k : ℕ) (xs : List (Option Inst)) (n : ℕ) → AreWords form k xs → n < length xs
    → (k + n ≡ committed form + 1) ⊎ IsInstruction form xs k n
word_there form k [] n are lt = absurd (omega arith)
word_there form k (None ∷ rest) zero are lt = let is = are.0 in inl (omega arith)
word_there form k (Some i ∷ rest) zero are lt =
    inr (record { i = i; there = refl; leads = subst (λ n. IsWord form n i) (omega arith) are.0 })
word_there form k (None ∷ rest) (suc n) are lt =
    further (word_there form (k + 1) rest n are.1 (omega arith))
  where
    further : (k + 1 + n ≡ committed form + 1) ⊎ IsInstruction form rest (k + 1) n
        → (k + suc n ≡ committed form + 1) ⊎ IsInstruction form (None ∷ rest) k (suc n)
    further (inl is) = inl (omega arith)
    further (inr it) =
        inr (record { i = it.i; there = it.there; leads = subst (λ m. IsWord form m it.i) (omega arith) it.leads })
word_there form k (Some j ∷ rest) (suc n) are lt =
    further (word_there form (k + 1) rest n are.1 (omega arith))
  where
    further : (k + 1 + n ≡ committed form + 1) ⊎ IsInstruction form rest (k + 1) n
        → (k + suc n ≡ committed form + 1) ⊎ IsInstruction form (Some j ∷ rest) k (suc n)
    further (inl is) = inl (omega arith)
    further (inr it) =
        inr (record { i = it.i; there = it.there; leads = subst (λ m. IsWord form m it.i) (omega arith) it.leads })

-- WHAT IS KNOWN OF X6

-- x6 has the upper part of the address behind the LUI, and all of it behind the ADDI; nobody comes to the
-- signature
pub record KnowsTable (form : Form) (k : ℕ) (regs : Regs) : Type 0 where
  pub part : k + 2 ≡ form.first → register regs 6 ≡ (form.slots.table + 2048) / 4096 * 4096
  pub whole : k + 1 ≡ form.first → register regs 6 ≡ form.slots.table
  pub code : k ≢ committed form + 1

-- what LUI, ADDI and the store do
lui_value : (f : Regs) (pc n : ℕ)
    → meaning (inst.Lui 6 (upper n)) f pc ≡ effect.Next 6 (word (upper n)) (sum_64 pc 4)
unfolding meaning
lui_value f pc n = refl

addi_value : (f : Regs) (pc n : ℕ) → meaning (inst.Addi 6 6 (lower n)) f pc ≡ effect.Next 6 (sum_64
    (register f 6) (word (lower n))) (sum_64 pc 4)
unfolding meaning
addi_value f pc n = refl

sd_effect : (f : Regs) (pc rs1 : ℕ) → meaning (inst.Sd rs1 6 (pos 8)) f pc ≡ effect.Store (sum_64
    (register f rs1) 8) 8 (low_bytes 8 (register f 6))
unfolding meaning
sd_effect f pc rs1 = refl

-- both parts make the address
makes_address : (n : ℕ) → n < 0x7FFFF800 → sum_64 ((n + 2048) / 4096 * 4096) (word (lower n)) ≡ n
makes_address n low = by_sign (lower n) refl
  where
    by_sign : (z : ℤ) → z ≡ pos n -ℤ pos ((n + 2048) / 4096 * 4096)
        → sum_64 ((n + 2048) / 4096 * 4096) (word z) ≡ n
    by_sign (pos k) is = omega (arith, ints)
    by_sign (negsuc k) is = omega (arith, ints)

upper_word : (n : ℕ) → n < 0x7FFFF800 → word (upper n) ≡ (n + 2048) / 4096 * 4096
upper_word n low = omega arith

one_effect : (x y : Effect) → Some x ≡ Some y → x ≡ y
one_effect x y is = cc

-- WHERE THE SEQUENCE IS

pub within_range : (form : Form) (at k : ℕ) → at < 2 ^ 37 → committed form < 2 ^ 8 → form.first ≤ k
    → k < committed form → is_inside (range_of form at) (at + 4 * k) ≡ true
within_range form at k low short from lt =
    let first = form.first in
    let inside = form.inside in
    let far : (at + 4 * k + (2 ^ 64 - (at + 4 * form.first))) % 2 ^ 64 ≡ 4 * k - 4 * form.first = omega arith in
    ap (λ n. ltb n (4 * form.inside)) far ∙ lt-ltb (4 * k - 4 * form.first) (4 * form.inside) (omega arith)

pub before_range : (form : Form) (at k : ℕ) → at < 2 ^ 37 → committed form < 2 ^ 8 → k < form.first
    → is_inside (range_of form at) (at + 4 * k) ≡ false
before_range form at k low short lt =
    let far : (at + 4 * k + (2 ^ 64 - (at + 4 * form.first))) % 2 ^ 64 ≡ 2 ^ 64 + 4 * k - 4 * form.first = omega arith in
    ap (λ n. ltb n (4 * form.inside)) far ∙ le-ltb (2 ^ 64 + 4 * k - 4 * form.first) (4 * form.inside) (omega arith)

pub behind_range : (form : Form) (at k : ℕ) → at < 2 ^ 37 → k < 2 ^ 9 → committed form ≤ k
    → is_inside (range_of form at) (at + 4 * k) ≡ false
behind_range form at k low short from =
    let far : (at + 4 * k + (2 ^ 64 - (at + 4 * form.first))) % 2 ^ 64 ≡ 4 * k - 4 * form.first = omega arith in
    ap (λ n. ltb n (4 * form.inside)) far ∙ le-ltb (4 * k - 4 * form.first) (4 * form.inside) (omega arith)

-- A WORD OF THE BLOCK

pub block_aligned : (s : Setting) (form : Form) (at : ℕ) → IsFormed form
    → AreHeld (code_of s.program.pages) at form.words → at % 4 ≡ 0
block_aligned s form at formed held =
    let first = held_aligned s.program.pages (at + 4 * 0) formed.entry.0
    (held.holds 0 formed.entry.0 formed.entry.1) in
    omega (arith, first)

module _ (s : Setting) (form : Form) (at : ℕ) (area : Area) (formed : IsFormed form)
    (held : AreHeld (code_of s.program.pages) at form.words) (low : form.slots.table < 0x7FFFF800)
    (low_at : at < 2 ^ 37) (low_area : area.at + 32 ≤ 2 ^ 38) where
  abbrev b : Placed
  b = placed_of form at area

  abbrev Know : ℕ → Regs → Type 0
  Know k regs = KnowsTable form k regs

  aligned : at % 4 ≡ 0
  aligned = block_aligned s form at formed held

  -- the last word before the signature, and the block's length
  short : committed form + 2 < 2 ^ 8
  short =
      let within = formed.within in
      let all = formed.short in
      omega arith

  -- a word that isn't just behind the LUI or the ADDI
  elsewhere : (k : ℕ) (regs : Regs) → k + 2 ≢ form.first → k + 1 ≢ form.first → k ≢ committed form + 1 → Know k regs
  elsewhere k regs no_part no_whole code = record {
    part = λ is. absurd (no_part is);
    whole = λ is. absurd (no_whole is);
    code = code;
  }

  first_known : (regs : Regs) → Know 0 regs
  first_known regs =
      let some = formed.some in
      elsewhere 0 regs (λ is. omega arith) (λ is. omega arith) (λ is. omega arith)

  -- a thread that stands at a word, with its next effect, and what it comes to
  module _ (f : Saved) (e : Effect) (seen : ℕ → Option ℕ) (r : Option ℕ)
      (is : effect_at (code_of s.program.pages) f ≡ Some e) where
    abbrev o : Outcome
    o = outcome seen f.file f.pc r e

    abbrev after : Saved
    after = record { file = o.regs; pc = o.pc }

    module _ (k : ℕ) (i : Inst) (pc : f.pc ≡ at + 4 * k) (slot : slice_get form.words k ≡ Some (Some i)) where
      effect_is : e ≡ meaning i f.file f.pc
      effect_is =
          let there : code_of s.program.pages f.pc ≡ Some i =
          ap (code_of s.program.pages) pc ∙ held.holds k i slot in
          let same : Some (meaning i f.file f.pc) ≡ Some e =
          sym (ap (option_map (λ j. meaning j f.file f.pc)) there) ∙ is in
          one_effect e (meaning i f.file f.pc) (sym same)

      pub outcome_is : o ≡ outcome seen f.file f.pc r (meaning i f.file f.pc)
      outcome_is = ap (outcome seen f.file f.pc r) effect_is

    -- behind the LUI, and behind the ADDI
    part_known : (k : ℕ) → k + 3 ≡ form.first → f.pc ≡ at + 4 * k → length f.file.x ≡ 32
        → register o.regs 6 ≡ (form.slots.table + 2048) / 4096 * 4096
    part_known k from pc many =
        let table = form.slots.table in
        let i : Inst = inst.Lui 6 (upper table) in
        let slot : slice_get form.words k ≡ Some (Some i) = subst (λ n. slice_get form.words n ≡ Some (Some i)) (omega arith) formed.lui in
        ap (λ (x : Outcome). register x.regs 6) (outcome_is k i pc slot)
        ∙ ap (λ d. register (outcome seen f.file f.pc r d).regs 6) (lui_value f.file f.pc table)
        ∙ written_same f.file 6 (word (upper table)) refl (subst (λ n. 6 < n) (sym many) (omega arith))
        ∙ upper_word table low

    whole_known : (k : ℕ) → k + 2 ≡ form.first → f.pc ≡ at + 4 * k → length f.file.x ≡ 32
        → register f.file 6 ≡ (form.slots.table + 2048) / 4096 * 4096 → register o.regs 6 ≡ form.slots.table
    whole_known k from pc many part =
        let table = form.slots.table in
        let i : Inst = inst.Addi 6 6 (lower table) in
        let slot : slice_get form.words k ≡ Some (Some i) = subst (λ n. slice_get form.words n ≡ Some (Some i)) (omega arith) formed.addi in
        ap (λ (x : Outcome). register x.regs 6) (outcome_is k i pc slot)
        ∙ ap (λ d. register (outcome seen f.file f.pc r d).regs 6) (addi_value f.file f.pc table)
        ∙ written_same f.file 6 (sum_64 (register f.file 6) (word (lower table))) refl
        (subst (λ n. 6 < n) (sym many) (omega arith))
        ∙ ap (λ n. sum_64 n (word (lower table))) part ∙ makes_address table low

    -- the instruction just before the start
    stores_it : (k : ℕ) → k + 1 ≡ form.first → f.pc ≡ at + 4 * k → Know k f.file
        → register f.file form.slots.area ≡ area.at → StoresPointer b o
    stores_it k from pc know area_is =
        let p = form.slots in
        let i : Inst = inst.Sd p.area 6 (pos 8) in
        let slot : slice_get form.words k ≡ Some (Some i) = subst (λ n. slice_get form.words n ≡ Some (Some i)) (omega arith) formed.store in
        let near = short in
        let does : e ≡ effect.Store (area.at + 8) 8 p.table =
        effect_is k i pc slot ∙ sd_effect f.file f.pc p.area
        ∙ ap (λ n. effect.Store (sum_64 n 8) 8 (low_bytes 8 (register f.file 6))) area_is
        ∙ ap (λ n. effect.Store n 8 (low_bytes 8 (register f.file 6))) (omega arith)
        ∙ ap (λ n. effect.Store (area.at + 8) 8 (low_bytes 8 n)) (know.whole from)
        ∙ ap (effect.Store (area.at + 8) 8) (omega arith) in
        let same : o ≡ outcome seen f.file f.pc r (effect.Store (area.at + 8) 8 p.table) = ap
        (outcome seen f.file f.pc r) does in
        let next : o.pc ≡ sum_64 f.pc 4 = ap (λ (x : Outcome). x.pc) same in
        record {
          starts = next ∙ ap (λ n. sum_64 n 4) pc ∙ omega arith;
          stores = ap (λ (x : Outcome). x.executed) same;
          enters = ap (λ (x : Outcome). x.entered) same;
        }

    module _ (k : ℕ) (pc : f.pc ≡ at + 4 * k) (lt : k < length form.words) (know : Know k f.file) where
      pub it : IsInstruction form form.words 0 k
      it = instruction (word_there form 0 form.words k formed.words lt)
        where
          instruction : (0 + k ≡ committed form + 1) ⊎ IsInstruction form form.words 0 k
              → IsInstruction form form.words 0 k
          instruction (inl signature) = absurd (know.code (omega arith))
          instruction (inr found) = found

      leads : IsWord form k it.i
      leads = subst (λ n. IsWord form n it.i) (omega arith) it.leads

      pub plain_at : is_call e ≡ false
      plain_at = ap is_call (effect_is k it.i pc it.there) ∙ leads.tame.plain f.file f.pc

      pub registers_at : (x : ℕ) → form.may x ≡ false → register o.regs x ≡ register f.file x
      registers_at x kept =
          ap (λ (y : Outcome). register y.regs x) (outcome_is k it.i pc it.there)
          ∙ leads.tame.keeps seen f.file f.pc r x kept

      pub leads_at : (to : ℕ) × Leads form k to × (o.pc ≡ at + 4 * to)
      leads_at =
          let goes = leads.leads seen f.file f.pc at r pc aligned low_at in
          (goes.0, goes.1, ap (λ (y : Outcome). y.pc) (outcome_is k it.i pc it.there) ∙ goes.2)

      -- it is at a word of the block, or behind the block
      module _ (many : length f.file.x ≡ 32) where
        known_there : (to : ℕ) → Leads form k to → to < length form.words → Know to o.regs
        known_there to (goes_on is inner) below = record {
          part = λ two. part_known k (omega arith) pc many;
          whole = λ one. whole_known k (omega arith) pc many (know.part (omega arith));
          code = λ signature. inner (omega arith);
        }
        known_there to (begins_anew is) below =
            subst (λ n. Know n o.regs) (sym is) (first_known o.regs)
        known_there to (leads_out is) below =
            let some = formed.inside in
            elsewhere to o.regs (λ part. omega arith) (λ whole. omega arith) (λ signature. omega arith)
        known_there to (leaves_block is) below = absurd (omega arith)

        goes_at : in_block b o.pc ≡ true → KnowsAt b Know after
        goes_at now =
            let go = leads_at in
            let to = go.0 in
            let all = formed.short in
            let below : to < length form.words = within_block to (leads_near to go.1) (sym (ap (in_block b) go.2) ∙ now) in
            record { word = to; below = below; pc = go.2; know = known_there to go.1 below }
          where
            leads_near : (to : ℕ) → Leads form k to → to < 2 ^ 9
            leads_near to (goes_on is inner) = let all = formed.short in omega arith
            leads_near to (begins_anew is) = omega arith
            leads_near to (leads_out is) = let all = short in omega arith
            leads_near to (leaves_block is) = let all = formed.short in omega arith

            within_block : (to : ℕ) → to < 2 ^ 9 → in_block b (at + 4 * to) ≡ true → to < length form.words
            within_block to near inside =
                let lt = ltb-true ((at + 4 * to + (2 ^ 64 - at)) % 2 ^ 64) (4 * length form.words) inside in
                omega arith

      starts_at : register f.file form.slots.area ≡ area.at → is_inside (range_of form at) o.pc ≡ true
          → (is_inside (range_of form at) f.pc ≡ true) ⊎ StoresPointer b o
      starts_at area_is now =
          let go = leads_at in
          let here : is_inside (range_of form at) (at + 4 * go.0) ≡ true =
          sym (ap (is_inside (range_of form at)) go.2) ∙ now in
          from go.0 go.1 here
        where
          not_behind : (to : ℕ) → is_inside (range_of form at) (at + 4 * to) ≡ true → to < 2 ^ 9
              → committed form ≤ to → ⊥
          not_behind to here near past = false≢true (sym (behind_range form at to low_at near past) ∙ here)

          by_order : k + 1 < committed form
              → (k + 1 ≡ form.first) ⊎ ((k + 1 < form.first) ⊎ (form.first < k + 1))
              → is_inside (range_of form at) (at + 4 * (k + 1)) ≡ true
              → (is_inside (range_of form at) f.pc ≡ true) ⊎ StoresPointer b o
          by_order near (inl is) here = inr (stores_it k is pc know area_is)
          by_order near (inr (inl before)) here =
              let all = short in
              absurd (false≢true (sym (before_range form at (k + 1) low_at (omega arith) before) ∙ here))
          by_order near (inr (inr inside)) here =
              let all = short in
              inl (ap (is_inside (range_of form at)) pc
              ∙ within_range form at k low_at (omega arith) (omega arith) (omega arith))

          to_next : (k + 1 < committed form) ⊎ (committed form ≤ k + 1)
              → is_inside (range_of form at) (at + 4 * (k + 1)) ≡ true
              → (is_inside (range_of form at) f.pc ≡ true) ⊎ StoresPointer b o
          to_next (inl near) here = by_order near (cases_order (k + 1) form.first) here
          to_next (inr past) here =
              let all = formed.short in
              absurd (not_behind (k + 1) here (omega arith) past)

          from : (to : ℕ) → Leads form k to → is_inside (range_of form at) (at + 4 * to) ≡ true
              → (is_inside (range_of form at) f.pc ≡ true) ⊎ StoresPointer b o
          from to (goes_on is inner) here =
              to_next (cases_lt (k + 1) (committed form))
              (subst (λ n. is_inside (range_of form at) (at + 4 * n) ≡ true) is here)
          from to (begins_anew is) here =
              let all = short in
              let some = formed.some in
              absurd (false≢true (sym (before_range form at 0 low_at (omega arith) (omega arith))
              ∙ subst (λ n. is_inside (range_of form at) (at + 4 * n) ≡ true) is here))
          from to (leads_out is) here =
              let all = short in
              absurd (not_behind to here (omega arith) (omega arith))
          from to (leaves_block is) here =
              let all = formed.short in
              let within = formed.within in
              absurd (not_behind to here (omega arith) (omega arith))

  pub block_code : IsCode s b Know
  block_code = record {
    some = let within = formed.within in omega arith;
    first = first_known;
    handler = committed form + 2;
    handler_below = formed.within;
    handler_at = refl;
    handled = λ regs.
        let inside = formed.inside in
        elsewhere (committed form + 2) regs (λ is. omega arith) (λ is. omega arith) (λ is. omega arith);
    answered = λ k v regs know. record {
      part = λ is. written_other regs 10 v 6 (λ same. absurd (omega arith)) ∙ know.part is;
      whole = λ is. written_other regs 10 v 6 (λ same. absurd (omega arith)) ∙ know.whole is;
      code = know.code;
    };
    no_call = λ f e knows is. plain_at f e (λ a. None) None is knows.word knows.pc knows.below knows.know;
    goes = λ f e seen r many knows is now.
        goes_at f e seen r is knows.word knows.pc knows.below knows.know many now;
    starts = λ f e seen r knows area_is is now.
        starts_at f e seen r is knows.word knows.pc knows.below knows.know area_is now;
  }

  -- the sequence lies in the block
  in_words : (pc : ℕ) → is_inside (range_of form at) pc ≡ true → in_block b pc ≡ true
  in_words pc inside =
      let all = formed.short in
      let within = formed.within in
      let near = ltb-true ((pc + (2 ^ 64 - (at + 4 * form.first))) % 2 ^ 64) (4 * form.inside) inside in
      lt-ltb ((pc + (2 ^ 64 - at)) % 2 ^ 64) (4 * length form.words) (omega arith)

  none_of : (x y z : Bool) → x ≡ false → y ≡ false → z ≡ false → (x || y || z) ≡ false
  none_of x y z first second third = ap (λ c. c || y || z) first ∙ ap (λ c. c || z) second ∙ third

  in_user : is_out_of_range (range_of form at) ≡ false
  in_user =
      let all = short in
      none_of (leb USER_END (at + 4 * form.first)) (leb USER_END (at + 4 * (committed form + 2)))
      (leb USER_END (at + 4 * form.first + 4 * form.inside))
      (lt-leb USER_END (at + 4 * form.first) (omega arith))
      (lt-leb USER_END (at + 4 * (committed form + 2)) (omega arith))
      (lt-leb USER_END (at + 4 * form.first + 4 * form.inside) (omega arith))

  pub block_placed : form.slots.table ≢ 0 → IsWellPlaced b
  block_placed some = record {
    within = in_words;
    first =
        let all = short in
        let four = formed.some in
        ap (is_inside (range_of form at)) (omega arith) ∙ before_range form at 0 low_at (omega arith) (omega arith);
    handler =
        let all = short in
        behind_range form at (committed form + 2) low_at (omega arith) (omega arith);
    low = in_user;
    some_table = ne_eqb form.slots.table 0 some;
    low_table = lt-leb USER_END form.slots.table (omega arith);
  }
