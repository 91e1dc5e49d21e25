-- The words of ring blocks lead on in them.
use Rattle.std.proofs.Common.{◌≡◌, ℕ, ◌+◌, ◌*◌, ◌<◌, ◌≤◌, ◌^◌, List, ◌++◌, refl, arith, true, length}
use Rattle.std.proofs.Common.{false, eqb, ltb, Option, subst, pos, rules}
use Rattle.std.proofs.lemmas.Bool.{ltb-true, ne_eqb}
use Rattle.rv_inst.specs.declared.instruction.Inst.{Inst}
use Rattle.rv_inst.specs.declared.instruction.Inst.TheVariants as inst
use Rattle.percpu_lib.specs.Forms.{Form, committed}
use Rattle.percpu_lib.specs.RingForms.{get_block, get_front, get_insts, put_block, put_front, put_insts}
use Rattle.percpu_lib.specs.RingForms.{repeated, ring_end, ring_get_form, ring_put_form}
use Rattle.percpu_lib.specs.RingKinds.{RingKind, gets, puts, ring_form_of}
use Rattle.percpu_lib.specs.declared.slots.Slots.{Slots}
use Rattle.percpu_lib.proofs.BlockCode.{AreWords, IsFormed}
use Rattle.percpu_lib.proofs.Changes.{value_changed}
use Rattle.percpu_lib.proofs.FormedWords.{AreFit, IsInner, formed_of, words_fit}
use Rattle.percpu_lib.proofs.RingWords.{in_all, repeated_length, words_append, words_repeated}

pub put_six : (p : Slots) (k : ℕ) → length (put_insts p k) ≡ 6
put_six p k = refl

pub get_six : (p : Slots) (k : ℕ) → length (get_insts p k) ≡ 6
get_six p k = refl

pub words_long : (front : List (Option Inst)) (insts : ℕ → List (Option Inst)) (p : Slots) (count offset : ℕ)
    → length front ≡ 17 → ((k : ℕ) → length (insts k) ≡ 6)
    → length (front ++ (repeated insts count ++ ring_end p count offset)) ≡ 22 + 6 * count
words_long front insts p count offset seventeen six =
    let all = in_all insts six front (ring_end p count offset) seventeen count in
    omega (arith, all)

pub put_long : (p : Slots) (count : ℕ) → length (put_block p count) ≡ 22 + 6 * count
put_long p count = words_long (put_front p count) (put_insts p) p count 8 refl (put_six p)

pub get_long : (p : Slots) (count : ℕ) → length (get_block p count) ≡ 22 + 6 * count
get_long p count = words_long (get_front p count) (get_insts p) p count 0 refl (get_six p)

-- where the sequence of a ring block begins and ends, and how many words it has
pub record HasParts (form : Form) (count : ℕ) : Type 0 where
  pub first : form.first ≡ 5
  pub commits : committed form ≡ 18 + 6 * count
  pub long : length form.words ≡ 22 + 6 * count

pub ring_parts : (k : RingKind) (count : ℕ) (p : Slots) → HasParts (ring_form_of k count p) count
ring_parts puts count p = record { first = refl; commits = omega arith; long = put_long p count }
ring_parts gets count p = record { first = refl; commits = omega arith; long = get_long p count }

-- a ring block has 17 words in front, six for each word of the ring, and an end
module _ (count : ℕ) (few : count ≤ 4) (p : Slots) (form : Form) (commits : committed form ≡ 18 + 6 * count)
    (long : length form.words ≡ 22 + 6 * count) (changed : form.may p.value ≡ true) where
  inner : (k : ℕ) → k < 18 + 6 * count → IsInner form k
  inner k lt = ne_eqb k (committed form) (λ same. omega (arith, commits))

  -- the store that commits and what stands behind it
  end_fits : (offset : ℕ) → AreFit form (17 + 6 * count) (ring_end p count offset)
  end_fits offset = (
    (inner (17 + 6 * count) (omega arith), tt),
    (
      (refl, omega (arith, long)),
      (
        omega (arith, commits),
        (
          (ne_eqb (17 + 6 * count + 1 + 1 + 1) (committed form) (λ same. omega (arith, commits)), changed),
          ((refl, omega arith), tt),
        ),
      ),
    ),
  )

  words_are : (front : List (Option Inst)) (insts : ℕ → List (Option Inst)) (offset : ℕ) → length front ≡ 17
      → ((k : ℕ) → length (insts k) ≡ 6) → AreFit form 0 front
      → ((k : ℕ) → k < count → AreFit form (17 + 6 * k) (insts k))
      → AreWords form 0 (front ++ (repeated insts count ++ ring_end p count offset))
  words_are front insts offset seventeen sixes front_fits word_fits =
      let all : length form.words < 2 ^ 8 = omega (arith, long) in
      let near : committed form < 2 ^ 8 = omega (arith, commits) in
      let six = repeated_length insts sixes count in
      words_append form 0 front (repeated insts count ++ ring_end p count offset)
      (words_fit form all near 0 front (omega (arith, seventeen)) front_fits)
      (subst (λ n. AreWords form n (repeated insts count ++ ring_end p count offset))
      (omega (arith, seventeen))
      (words_append form 17 (repeated insts count) (ring_end p count offset)
      (words_repeated form insts sixes 17 count
      (λ k lt. words_fit form all near (17 + 6 * k) (insts k) (omega (arith, sixes k)) (word_fits k lt)))
      (subst (λ n. AreWords form n (ring_end p count offset)) (omega (arith, six))
      (words_fit form all near (17 + 6 * count) (ring_end p count offset) (omega arith) (end_fits offset)))))

module _ (count : ℕ) where
  -- a word of the front, and one of a word of the ring, isn't the one at the post-commit address
  pub front_inner : (k : ℕ) → ltb k 18 ≡ true → eqb k (5 + (13 + 6 * count)) ≡ false
  front_inner k low =
      let less = ltb-true k 18 low in
      ne_eqb k (5 + (13 + 6 * count)) (λ same. omega arith)

  pub word_inner : (k : ℕ) → k < 18 + 6 * count → eqb k (5 + (13 + 6 * count)) ≡ false
  word_inner k lt = ne_eqb k (5 + (13 + 6 * count)) (λ same. omega arith)

  -- the branch behind the test
  pub to_end : 60 + (12 + 24 * count) ≡ 4 * (5 + (13 + 6 * count))
  to_end = omega arith

module _ (count : ℕ) (few : count ≤ 4) (p : Slots) where
  abbrev put_form : Form
  put_form = ring_put_form count p

  abbrev get_form : Form
  get_form = ring_get_form count p

  put_word_fits : (k : ℕ) → k < count → AreFit put_form (17 + 6 * k) (put_insts p k)
  put_word_fits k lt = search (rules, arith, word_inner count, lt)

  get_word_fits : (k : ℕ) → k < count → AreFit get_form (17 + 6 * k) (get_insts p k)
  get_word_fits k lt = search (rules, arith, word_inner count, lt, value_changed p)

  put_leads : AreWords put_form 0 put_form.words
  put_leads =
      words_are count few p put_form (omega arith) (put_long p count) (value_changed p) (put_front p count) (put_insts p)
      8 refl (put_six p) (search (rules, front_inner count, to_end count, value_changed p)) put_word_fits

  get_leads : AreWords get_form 0 get_form.words
  get_leads =
      words_are count few p get_form (omega arith) (get_long p count) (value_changed p) (get_front p count) (get_insts p)
      0 refl (get_six p) (search (rules, front_inner count, to_end count, value_changed p)) get_word_fits

  pub put_formed : IsFormed put_form
  put_formed =
      let long = put_long p count in
      formed_of put_form (omega arith) (omega (arith, long)) (omega (arith, long)) (omega arith) refl refl refl
      (inst.Addi 28 p.value (pos 0)) refl put_leads

  pub get_formed : IsFormed get_form
  get_formed =
      let long = get_long p count in
      formed_of get_form (omega arith) (omega (arith, long)) (omega (arith, long)) (omega arith) refl refl refl
      (inst.Addi 28 p.value (pos 0)) refl get_leads
