-- No sequence of a block of the library has a word of another block before its sequence: those words are a
-- load into x5, a LUI, an ADDI and a store, maybe behind a copy, and a sequence begins with a load into x6,
-- ends with a store and has neither of the first two.
use Rattle.std.proofs.Common.{◌≡◌, ℕ, zero, suc, ◌+◌, ◌*◌, ◌-◌, ◌/◌, ◌%◌, ◌<◌, ◌≤◌, ◌^◌, List, [], ◌∷◌}
use Rattle.std.proofs.Common.{length, refl, sym, ap, ◌∙◌, ◌++◌, arith, Bool, true, false, eqb, Option, Some}
use Rattle.std.proofs.Common.{slice_get, ℤ, pos, inl, inr, ◌⊎◌}
use Rattle.std.specs.Option.{option_map}
use Rattle.std.proofs.lemmas.Bool.{cases_lt, false≢true, ltb-true}
use Rattle.elf_load.specs.declared.image.ImagePage.{ImagePage}
use Rattle.mach_types.specs.Kernel.Areas.{is_inside}
use Rattle.mach_types.specs.declared.sequences.Area.{Area}
use Rattle.rv_asm.specs.Assembly.{aimed, distance, index_of}
use Rattle.rv_inst.specs.declared.instruction.Inst.{Inst}
use Rattle.rv_inst.specs.declared.instruction.Inst.TheVariants as inst
use Rattle.alone_laws.specs.Pointers.{LiesBeside}
use Rattle.alone_laws.specs.Spans.{code_of}
use Rattle.alone_laws.specs.Uses.{Placed, is_before}
use Rattle.percpu_lib.specs.Adds.{add_steps}
use Rattle.percpu_lib.specs.Allocs.{alloc_steps}
use Rattle.percpu_lib.specs.Beside.{HoldsSequence, IsOfLibrary, is_add, is_alloc, is_free, is_pop, is_push}
use Rattle.percpu_lib.specs.Beside.{is_ring_get, is_ring_put, sequence_lines}
use Rattle.percpu_lib.specs.Forms.{Form, placed_of}
use Rattle.percpu_lib.specs.Frees.{free_steps}
use Rattle.percpu_lib.specs.Lines.{instructions}
use Rattle.percpu_lib.specs.Pops.{pop_steps}
use Rattle.percpu_lib.specs.Pushes.{push_steps}
use Rattle.percpu_lib.specs.Rings.{get_steps, get_word, get_words, put_steps, put_word, put_words}
use Rattle.percpu_lib.specs.declared.lines.Line.TheVariants as line
use Rattle.percpu_lib.specs.Words.{AreHeld, lower, upper}
use Rattle.percpu_lib.specs.declared.lines.Line.{Line}
use Rattle.percpu_lib.specs.declared.slots.Slots.{Slots}
use Rattle.percpu_lib.proofs.BlockCourse.{AsksFirst}
use Rattle.percpu_lib.proofs.BlockWords.{held_aligned}
use Rattle.percpu_lib.proofs.RingLines.{AreFirst, first_gets, first_puts, of_first}
use Rattle.percpu_lib.proofs.RingPlaces.{one_to_four}

-- an instruction that no sequence has; one with which a sequence ends; and one with which it begins
abbrev is_early : Inst → Bool
is_early (inst.Lui rd imm) = true
is_early (inst.Lw rd rs1 imm) = eqb rd 5
is_early other = false

abbrev is_store : Inst → Bool
is_store (inst.Sd rs1 rs2 imm) = true
is_store other = false

abbrev is_start : Inst → Bool
is_start (inst.Lw rd rs1 imm) = true
is_start other = false

-- words that are known, and none of which is early
pub record IsLate (o : Option Inst) : Type 0 where
  pub instruction : Inst
  pub is : o ≡ Some instruction
  pub late : is_early instruction ≡ false

abbrev AreLate : List (Option Inst) → Type 0
AreLate [] = Unit {0}
AreLate (o ∷ rest) = IsLate o × AreLate rest

-- lines of instructions that aren't early, and whose branches lead to labels that are bound
abbrev AreLateLines : List (Option ℕ) → List Line → Type 0
AreLateLines labels [] = Unit {0}
AreLateLines labels (line.Label n ∷ rest) = AreLateLines labels rest
AreLateLines labels (line.Plain i ∷ rest) = (is_early i ≡ false) × AreLateLines labels rest
AreLateLines labels (line.Branch i l ∷ rest) = ((to : ℕ) × (index_of labels l ≡ Some to)
    × ((z : ℤ) → is_early (aimed i z) ≡ false)) × AreLateLines labels rest
AreLateLines labels (line.Data w ∷ rest) = ⊥

late_joined : (labels : List (Option ℕ)) (xs ys : List Line) → AreLateLines labels xs → AreLateLines labels ys
    → AreLateLines labels (xs ++ ys)
late_joined labels [] ys are rest = rest
late_joined labels (line.Label n ∷ xs) ys are rest = late_joined labels xs ys are rest
late_joined labels (line.Plain i ∷ xs) ys are rest = (are.0, late_joined labels xs ys are.1 rest)
late_joined labels (line.Branch i l ∷ xs) ys are rest = (are.0, late_joined labels xs ys are.1 rest)
late_joined labels (line.Data w ∷ xs) ys are rest = absurd are

lines_late : (labels : List (Option ℕ)) (n : ℕ) (xs : List Line) → AreLateLines labels xs
    → AreLate (instructions labels n xs)
lines_late labels n [] are = tt
lines_late labels n (line.Label l ∷ xs) are = lines_late labels n xs are
lines_late labels n (line.Plain i ∷ xs) are =
    (record { instruction = i; is = refl; late = are.0 }, lines_late labels (n + 1) xs are.1)
lines_late labels n (line.Branch i l ∷ xs) are = (
  record {
    instruction = aimed i (distance n are.0.0);
    is = ap (option_map (λ t. aimed i (distance n t))) are.0.1;
    late = are.0.2 (distance n are.0.0);
  },
  lines_late labels (n + 1) xs are.1,
)
lines_late labels n (line.Data w ∷ xs) are = absurd are

fewer : (labels : List (Option ℕ)) (n : ℕ) (xs : List Line) → length (instructions labels n xs) ≤ length xs
fewer labels n [] = omega arith
fewer labels n (line.Label l ∷ xs) = let less = fewer labels n xs in omega arith
fewer labels n (line.Plain i ∷ xs) = let less = fewer labels (n + 1) xs in omega arith
fewer labels n (line.Branch i l ∷ xs) = let less = fewer labels (n + 1) xs in omega arith
fewer labels n (line.Data w ∷ xs) = let less = fewer labels (n + 1) xs in omega arith

-- the words of the first numbers, and the store behind them
words_late : (labels : List (Option ℕ)) (word words : ℕ → List Line) → AreFirst word words
    → ((j : ℕ) → AreLateLines labels (word j)) → (count : ℕ) (imm : ℤ)
    → AreLateLines labels (words count ++ line.Plain (inst.Sd 5 6 imm) ∷ [])
words_late labels word words first each count imm =
    late_joined labels (words count) (line.Plain (inst.Sd 5 6 imm) ∷ [])
    (of_first (AreLateLines labels) word words first tt (late_joined labels) count (λ j lt. each j) count
    (omega arith))
    (refl, tt)

put_word_late : (labels : List (Option ℕ)) (q : Slots) (j : ℕ) → AreLateLines labels (put_word q j)
put_word_late labels q j = (refl, (refl, (refl, (refl, (refl, (refl, tt))))))

get_word_late : (labels : List (Option ℕ)) (q : Slots) (j : ℕ) → AreLateLines labels (get_word q j)
get_word_late labels q j = (refl, (refl, (refl, (refl, (refl, (refl, tt))))))

-- what a ring block does inside, where the post-commit address is bound
put_late : (labels : List (Option ℕ)) (q : Slots) (base count n : ℕ) → index_of labels (base + 2) ≡ Some n
    → AreLateLines labels (put_steps q base count)
put_late labels q base count n bound =
    let words = words_late labels (put_word q) (put_words q) (first_puts q) (put_word_late labels q) count (pos 8) in
    (refl, (refl, (refl, (refl, (refl, (refl, ((n, bound, λ z. refl), (refl, words))))))))

get_late : (labels : List (Option ℕ)) (q : Slots) (base count n : ℕ) → index_of labels (base + 2) ≡ Some n
    → AreLateLines labels (get_steps q base count)
get_late labels q base count n bound =
    let words = words_late labels (get_word q) (get_words q) (first_gets q) (get_word_late labels q) count (pos 0) in
    (refl, (refl, (refl, (refl, (refl, (refl, ((n, bound, λ z. refl), (refl, words))))))))

each_late : (ws : List (Option Inst)) → AreLate ws → (k : ℕ) → k < length ws
    → (i : Inst) × (slice_get ws k ≡ Some (Some i)) × (is_early i ≡ false)
each_late [] are k lt = absurd (omega arith)
each_late (o ∷ rest) are zero lt = (are.0.instruction, ap Some are.0.is, are.0.late)
each_late (o ∷ rest) are (suc k) lt = each_late rest are.1 k (omega arith)

same_inst : (i j : Inst) → Some i ≡ Some j → i ≡ j
same_inst i j is = cc

-- TWO BLOCKS

-- a sequence of instructions that are known: none is early, the first is a load, and the last a store
record IsKnown (q : Slots) (ws : List (Option Inst)) : Type 0 where
  few : length ws ≤ 100
  some : 1 ≤ length ws
  late : AreLate ws
  starts : slice_get ws 0 ≡ Some (Some (inst.Lw 6 q.area (pos 4)))
  last : Inst
  ends : slice_get ws (length ws - 1) ≡ Some (Some last)
  stores : is_store last ≡ true

module _ (pages : List ImagePage) (form : Form) (lead : ℕ) (asks : AsksFirst form lead) (one : lead ≤ 1)
    (at : ℕ)
    (area : Area) (x : Placed) (q : Slots) (ws : List (Option Inst))
    (held : AreHeld (code_of pages) at form.words)
    (low : at < 2 ^ 37) (stands : AreHeld (code_of pages) x.range.start ws)
    (long : x.range.length ≡ 4 * length ws)
    (low_start : x.range.start < 2 ^ 37) (known : IsKnown q ws) where
  abbrev p : Slots
  p = form.slots

  abbrev start : ℕ
  start = x.range.start

  -- an early word doesn't stand in the sequence, and its first word is a load
  not_early : (a k : ℕ) (i : Inst) → code_of pages a ≡ Some i → is_early i ≡ true → a ≡ start + 4 * k → k
      < length ws
      → ⊥
  not_early a k i is early same lt =
      let w = each_late ws known.late k lt in
      let both : i ≡ w.0 = same_inst i w.0 (sym is ∙ ap (code_of pages) same ∙ stands.holds k w.0 w.1) in
      false≢true (sym w.2 ∙ sym (ap is_early both) ∙ early)

  is_first : (a : ℕ) (i : Inst) → code_of pages a ≡ Some i → is_start i ≡ false → a ≡ start + 4 * 0 → ⊥
  is_first a i is other same =
      let both : i ≡ inst.Lw 6 q.area (pos 4) =
      same_inst i (inst.Lw 6 q.area (pos 4)) (sym is ∙ ap (code_of pages) same
      ∙ stands.holds 0 (inst.Lw 6 q.area (pos 4)) known.starts) in
      false≢true (sym other ∙ ap is_start both)

  word_0 : code_of pages (at + 4 * lead) ≡ Some (inst.Lw 5 p.area (pos 0))
  word_0 = held.holds lead (inst.Lw 5 p.area (pos 0)) asks.lw

  word_1 : code_of pages (at + 4 * (lead + 1)) ≡ Some (inst.Lui 6 (upper p.table))
  word_1 = held.holds (lead + 1) (inst.Lui 6 (upper p.table)) asks.lui

  word_2 : code_of pages (at + 4 * (lead + 2)) ≡ Some (inst.Addi 6 6 (lower p.table))
  word_2 = held.holds (lead + 2) (inst.Addi 6 6 (lower p.table)) asks.addi

  word_3 : code_of pages (at + 4 * (lead + 3)) ≡ Some (inst.Sd p.area 6 (pos 8))
  word_3 = held.holds (lead + 3) (inst.Sd p.area 6 (pos 8)) asks.store

  not_asked : (k : ℕ) → at + 4 * lead ≡ start + 4 * k → k < length ws → ⊥
  not_asked k same lt = not_early (at + 4 * lead) k (inst.Lw 5 p.area (pos 0)) word_0 refl same lt

  not_upper : (k : ℕ) → at + 4 * (lead + 1) ≡ start + 4 * k → k < length ws → ⊥
  not_upper k same lt = not_early (at + 4 * (lead + 1)) k (inst.Lui 6 (upper p.table)) word_1 refl same lt

  not_lower : (k : ℕ) → at + 4 * (lead + 2) ≡ start + 4 * k → k < length ws → ⊥
  not_lower zero same lt = is_first (at + 4 * (lead + 2)) (inst.Addi 6 6 (lower p.table)) word_2 refl same
  not_lower (suc k) same lt = not_upper k (omega arith) (omega arith)

  not_store : (k : ℕ) → at + 4 * (lead + 3) ≡ start + 4 * k → k < length ws → ⊥
  not_store zero same lt = is_first (at + 4 * (lead + 3)) (inst.Sd p.area 6 (pos 8)) word_3 refl same
  not_store (suc k) same lt = not_lower k (omega arith) (omega arith)

  -- a copy is no store, and the word behind it is early
  not_copy : (j k : ℕ) → j < lead → at + 4 * j ≡ start + 4 * k → k < length ws → ⊥
  not_copy j k lt same within = by_place (cases_lt (k + 1) (length ws))
    where
      copy : code_of pages (at + 4 * j) ≡ Some (inst.Addi (asks.copies j lt).rd (asks.copies j lt).rs
          (asks.copies j lt).imm)
      copy = held.holds j (inst.Addi (asks.copies j lt).rd (asks.copies j lt).rs (asks.copies j lt).imm)
          (asks.copies j lt).there

      no_last : at + 4 * j ≡ start + 4 * (length ws - 1) → ⊥
      no_last there =
          let i : Inst = inst.Addi (asks.copies j lt).rd (asks.copies j lt).rs (asks.copies j lt).imm in
          let both : i ≡ known.last =
          same_inst i known.last (sym copy ∙ ap (code_of pages) there
          ∙ stands.holds (length ws - 1) known.last known.ends) in
          false≢true (ap is_store both ∙ known.stores)

      by_place : (k + 1 < length ws) ⊎ (length ws ≤ k + 1) → ⊥
      by_place (inl before) =
          let first = one in
          not_asked (k + 1) (omega arith) before
      by_place (inr last) =
          let some = known.some in
          let here : k ≡ length ws - 1 = omega arith in
          no_last (same ∙ ap (λ n. start + 4 * n) here)

  -- a word of both
  behind_lead : (i j k : ℕ) → j ≡ lead + i → i < 4 → at + 4 * j ≡ start + 4 * k → k < length ws → ⊥
  behind_lead zero j k is lt same within = not_asked k (omega arith) within
  behind_lead (suc zero) j k is lt same within = not_upper k (omega arith) within
  behind_lead (suc (suc zero)) j k is lt same within = not_lower k (omega arith) within
  behind_lead (suc (suc (suc zero))) j k is lt same within = not_store k (omega arith) within
  behind_lead (suc (suc (suc (suc i)))) j k is lt same within = absurd (omega arith)

  by_word : (j k : ℕ) → j < lead + 4 → at + 4 * j ≡ start + 4 * k → k < length ws → ⊥
  by_word j k lt same within = by_lead (cases_lt j lead)
    where
      by_lead : (j < lead) ⊎ (lead ≤ j) → ⊥
      by_lead (inl before) = not_copy j k before same within
      by_lead (inr past) = behind_lead (j - lead) j k (omega arith) (omega arith) same within

  aligned : at % 4 ≡ 0
  aligned =
      let first = held_aligned pages (at + 4 * lead) (inst.Lw 5 p.area (pos 0)) word_0 in
      omega (arith, first)

  start_aligned : start % 4 ≡ 0
  start_aligned =
      let first = held_aligned pages (start + 4 * 0) (inst.Lw 6 q.area (pos 4))
      (stands.holds 0 (inst.Lw 6 q.area (pos 4)) known.starts) in
      omega (arith, first)

  -- an address of both
  by_address : (d e : ℕ) → at + d ≡ start + e → d < 4 * (lead + 4) → e < 4 * length ws → ⊥
  by_address d e same near within =
      by_word (d / 4) (e / 4) (omega arith) (omega (arith, aligned, start_aligned)) (omega arith)

  near_at : (from pc n : ℕ) → from < 2 ^ 37 → n < 2 ^ 37 → (pc + (2 ^ 64 - from)) % 2 ^ 64 < n
      → pc % 2 ^ 64 ≡ from + (pc + (2 ^ 64 - from)) % 2 ^ 64
  near_at from pc n low_from small near = omega arith

  apart : (pc : ℕ) → is_before (placed_of form at area) pc ≡ true → is_inside x.range pc ≡ false
  apart pc here = by_test (is_inside x.range pc) refl
    where
      near : (pc + (2 ^ 64 - at)) % 2 ^ 64 < 4 * (lead + 4)
      near =
          let small = one in
          let all = asks.all in
          let first : (at + 4 * form.first + (2 ^ 64 - at)) % 2 ^ 64 ≡ 4 * (lead + 4) = omega arith in
          let lt =
          ltb-true ((pc + (2 ^ 64 - at)) % 2 ^ 64) ((at + 4 * form.first + (2 ^ 64 - at)) % 2 ^ 64) here in
          omega arith

      by_test : (c : Bool) → is_inside x.range pc ≡ c → is_inside x.range pc ≡ false
      by_test false out = out
      by_test true inside =
          let small = one in
          let few = known.few in
          let within = ltb-true ((pc + (2 ^ 64 - start)) % 2 ^ 64) x.range.length inside in
          let one_way = near_at at pc (4 * (lead + 4)) low (omega arith) near in
          let other_way = near_at start pc x.range.length low_start (omega (arith, long)) within in
          absurd (by_address ((pc + (2 ^ 64 - at)) % 2 ^ 64) ((pc + (2 ^ 64 - start)) % 2 ^ 64)
          (sym one_way ∙ other_way)
          near (omega (arith, long)))

module _ (pages : List ImagePage) (form : Form) (lead : ℕ) (asks : AsksFirst form lead) (one : lead ≤ 1)
    (at : ℕ)
    (area : Area) (x : Placed) (held : AreHeld (code_of pages) at form.words) (low : at < 2 ^ 37) where
  of_sequence : (q : Slots) (base shift : ℕ) (inside : List Line)
      (its : HoldsSequence (code_of pages) x q base shift inside)
      → AreLateLines its.labels inside → length inside ≤ 90 → (last : Inst)
      → slice_get (instructions its.labels its.first (sequence_lines q base shift inside))
      (length (instructions its.labels its.first (sequence_lines q base shift inside)) - 1) ≡ Some (Some last)
      → is_store last ≡ true → LiesBeside (placed_of form at area) x
  of_sequence q base shift inside its late few last ends stores = record {
    low_table = let small = its.low_table in omega arith;
    apart = apart pages form lead asks one at area x q
        (instructions its.labels its.first (sequence_lines q base shift inside)) held low its.stands its.long
        its.low known;
  }
    where
      known : IsKnown q (instructions its.labels its.first (sequence_lines q base shift inside))
      known =
          let most = fewer its.labels (its.first + 1 + 1 + 1 + 1) inside in
          record {
            few = omega arith;
            some = omega arith;
            late = lines_late its.labels its.first (sequence_lines q base shift inside)
                (refl, ((its.retry, its.bound_retry, λ z. refl), (refl, (refl, late))));
            starts = refl;
            last = last;
            ends = ends;
            stores = stores;
          }

  -- a sequence of a ring block
  abbrev OfRing : Slots → ℕ → List Line → ℕ → Type 0
  OfRing q base steps offset = (its : HoldsSequence (code_of pages) x q base 13 steps) → length steps ≤ 90
      → slice_get (instructions its.labels its.first (sequence_lines q base 13 steps))
      (length (instructions its.labels its.first (sequence_lines q base 13 steps)) - 1)
      ≡ Some (Some (inst.Sd 5 6 (pos offset)))
      → LiesBeside (placed_of form at area) x

  of_put : (q : Slots) (base count : ℕ) → OfRing q base (put_steps q base count) 8
  of_put q base count its few ends =
      of_sequence q base 13 (put_steps q base count) its (put_late its.labels q base count its.leave its.bound_leave)
      few (inst.Sd 5 6 (pos 8)) ends refl

  of_get : (q : Slots) (base count : ℕ) → OfRing q base (get_steps q base count) 0
  of_get q base count its few ends =
      of_sequence q base 13 (get_steps q base count) its (get_late its.labels q base count its.leave its.bound_leave)
      few (inst.Sd 5 6 (pos 0)) ends refl

  -- a block of each count
  abbrev FromRing : Slots → ℕ → List Line → Type 0
  FromRing q base steps = HoldsSequence (code_of pages) x q base 13 steps → LiesBeside (placed_of form at area) x

  of_puts : (q : Slots) (base count : ℕ) → 1 ≤ count → count ≤ 4 → FromRing q base (put_steps q base count)
  of_puts q base =
      one_to_four (λ n. FromRing q base (put_steps q base n)) (λ its. of_put q base 1 its (omega arith) refl)
      (λ its. of_put q base 2 its (omega arith) refl) (λ its. of_put q base 3 its (omega arith) refl)
      (λ its. of_put q base 4 its (omega arith) refl)

  of_gets : (q : Slots) (base count : ℕ) → 1 ≤ count → count ≤ 4 → FromRing q base (get_steps q base count)
  of_gets q base =
      one_to_four (λ n. FromRing q base (get_steps q base n)) (λ its. of_get q base 1 its (omega arith) refl)
      (λ its. of_get q base 2 its (omega arith) refl) (λ its. of_get q base 3 its (omega arith) refl)
      (λ its. of_get q base 4 its (omega arith) refl)

  pub beside : IsOfLibrary (code_of pages) x → LiesBeside (placed_of form at area) x
  beside (is_add q base its) =
      of_sequence q base 6 (add_steps q) its (refl, (refl, (refl, tt))) (omega arith) (inst.Sd 5 6 (pos 0)) refl refl
  beside (is_push q base its) =
      of_sequence q base 6 (push_steps q) its (refl, (refl, (refl, tt))) (omega arith) (inst.Sd 5 q.value (pos 0))
      refl refl
  beside (is_pop q base its) =
      of_sequence q base 6 (pop_steps q base) its
      (refl, ((its.leave, its.bound_leave, λ z. refl), (refl, (refl, tt)))) (omega arith) (inst.Sd 5 6 (pos 0)) refl refl
  beside (is_alloc q base its) =
      of_sequence q base 13 (alloc_steps q base) its
      (refl, (refl, ((its.leave, its.bound_leave, λ z. refl), (refl, (refl, (refl, (refl, (refl, tt))))))))
      (omega arith) (inst.Sd 5 6 (pos 0)) refl refl
  beside (is_free q base its) =
      of_sequence q base 13 (free_steps q base) its
      (refl, (refl, ((its.leave, its.bound_leave, λ z. refl), (refl, (refl, (refl, (refl, (refl, (refl, tt)))))))))
      (omega arith) (inst.Sd 5 6 (pos 0)) refl refl
  beside (is_ring_put q base count some few its) = of_puts q base count some few its
  beside (is_ring_get q base count some few its) = of_gets q base count some few its
