-- Words in memory, one behind the other.
use Rattle.std.proofs.Common.{◌≡◌, ℕ, ◌+◌, ◌-◌, ◌*◌, ◌<◌, ◌≤◌, Bool, true, false, ◌&&◌, List, [], ◌∷◌, ◌++◌, length, take, drop, set, get_or, Option, Some, None, option_map, zero, suc, refl, sym, ap, ◌∙◌, append-nil, append_assoc, arith}
use Rattle.std.proofs.Math.Seq.{take-suc-set, drop-cons, take-length, drop-length}
use Rattle.mach_types.specs.Bytes.{each_byte, word_at, written, after_write, byte_over}
use Rattle.mach_types.specs.Kernel.SignalFrames.{words_at, words_stored, word_before}
use Rattle.mach_types.specs.declared.user_memory.Store.{Store}
use Rattle.mach_types.specs.declared.user_memory.Write.{Write}
use Rattle.mach_types.specs.declared.user_memory.Write.TheVariants.{Stored}
use Rattle.signals.specs.Writing.{can_write_words}

-- WHETHER WORDS CAN BE WRITTEN

each_byte_split : (test : ℕ → Bool) (m n at : ℕ) → each_byte test at (m + n) ≡ (each_byte test at m && each_byte test (at + m) n)
each_byte_split test zero n at =
    let none : zero + n ≡ n = omega arith in
    let same : at + zero ≡ at = omega arith in
    ap (each_byte test at) none ∙ ap (λ a. each_byte test a n) (sym same)
each_byte_split test (suc m) n at =
    let more : suc m + n ≡ suc (m + n) = omega arith in
    let along : at + 1 + m ≡ at + suc m = omega arith in
    let rest = each_byte_split test m n (at + 1) ∙ ap (λ a. each_byte test (at + 1) m && each_byte test a n) along in
    ap (each_byte test at) more ∙ ap (λ b. test at && b) rest ∙ and_assoc (test at) (each_byte test (at + 1) m) (each_byte test (at + suc m) n)
  where
    and_assoc : (a b c : Bool) → (a && (b && c)) ≡ ((a && b) && c)
    and_assoc true b c = refl
    and_assoc false b c = refl

-- of words from an address on, the first one and the others
pub first_word : (test : ℕ → Bool) (at n : ℕ) → can_write_words test at (suc n) ≡ (each_byte test at 8 && can_write_words test (at + 8) n)
unfolding can_write_words
first_word test at n =
    let e : 8 * suc n ≡ 8 + 8 * n = omega arith in
    ap (each_byte test at) e ∙ each_byte_split test 8 (8 * n) at

pub no_word : (test : ℕ → Bool) (at : ℕ) → can_write_words test at 0 ≡ true
unfolding can_write_words
no_word test at = refl

-- and so in the middle of a run
pub word_there : (test : ℕ → Bool) (at i count : ℕ) → i < count
    → can_write_words test (at + 8 * i) (count - i) ≡ (each_byte test (at + 8 * i) 8 && can_write_words test (at + 8 * (i + 1)) (count - (i + 1)))
word_there test at i count h =
    let more : count - i ≡ suc (count - (i + 1)) = omega arith in
    let next : at + 8 * i + 8 ≡ at + 8 * (i + 1) = omega arith in
    ap (can_write_words test (at + 8 * i)) more ∙ first_word test (at + 8 * i) (count - (i + 1))
    ∙ ap (λ a. each_byte test (at + 8 * i) 8 && can_write_words test a (count - (i + 1))) next

and_left : (a b : Bool) → (a && b) ≡ true → a ≡ true
and_left true b e = refl
and_left false b e = e

and_right : (a b : Bool) → (a && b) ≡ true → b ≡ true
and_right true b e = e
and_right false b e = cc

pub this_word : (test : ℕ → Bool) (at i count : ℕ) → i < count → can_write_words test (at + 8 * i) (count - i) ≡ true → each_byte test (at + 8 * i) 8 ≡ true
this_word test at i count h e = and_left _ _ (sym (word_there test at i count h) ∙ e)

pub later_words : (test : ℕ → Bool) (at i count : ℕ) → i < count → can_write_words test (at + 8 * i) (count - i) ≡ true
    → can_write_words test (at + 8 * (i + 1)) (count - (i + 1)) ≡ true
later_words test at i count h e = and_right (each_byte test (at + 8 * i) 8) _ (sym (word_there test at i count h) ∙ e)

pub fails_here : (test : ℕ → Bool) (at i count : ℕ) → i < count → each_byte test (at + 8 * i) 8 ≡ false → can_write_words test (at + 8 * i) (count - i) ≡ false
fails_here test at i count h e = word_there test at i count h ∙ ap (λ b. b && can_write_words test (at + 8 * (i + 1)) (count - (i + 1))) e

pub passes_here : (test : ℕ → Bool) (at i count : ℕ) → i < count → each_byte test (at + 8 * i) 8 ≡ true
    → can_write_words test (at + 8 * i) (count - i) ≡ can_write_words test (at + 8 * (i + 1)) (count - (i + 1))
passes_here test at i count h e = word_there test at i count h ∙ ap (λ b. b && can_write_words test (at + 8 * (i + 1)) (count - (i + 1))) e

pub past_the_last : (test : ℕ → Bool) (at i count : ℕ) → count ≤ i → can_write_words test (at + 8 * i) (count - i) ≡ true
past_the_last test at i count h =
    let none : count - i ≡ 0 = omega arith in
    ap (can_write_words test (at + 8 * i)) none ∙ no_word test (at + 8 * i)

pub from_the_first : (test : ℕ → Bool) (at count : ℕ) → can_write_words test at count ≡ can_write_words test (at + 8 * 0) (count - 0)
from_the_first test at count =
    let here : at ≡ at + 8 * 0 = omega arith in
    let all : count ≡ count - 0 = omega arith in
    ap (λ a. can_write_words test a count) here ∙ ap (can_write_words test (at + 8 * 0)) all

-- WORDS THAT ARE WRITTEN

-- what is left to be written from word i on gives in the end what all words give
abbrev pub LeftToWrite : (ℕ → Option ℕ) → ℕ → List ℕ → ℕ → (ℕ → Option ℕ) → Type 0
LeftToWrite first at words i byte =
    (a : ℕ) → option_map (written (words_stored (at + 8 * i) (drop i words)) a) (byte a) ≡ option_map (written (words_stored at words) a) (first a)

pub all_left : (first : ℕ → Option ℕ) (at : ℕ) (words : List ℕ) → LeftToWrite first at words 0 first
all_left first at words a =
    let here : at + 8 * 0 ≡ at = omega arith in
    ap (λ b. option_map (written (words_stored b words) a) (first a)) here

mapped_twice : (f g : ℕ → ℕ) (o : Option ℕ) → option_map f (option_map g o) ≡ option_map (λ n. f (g n)) o
mapped_twice f g (Some n) = refl
mapped_twice f g None = refl

pub one_less : (first byte later : ℕ → Option ℕ) (at i : ℕ) (words : List ℕ) (made : Bool) → i < length words → made ≡ true
    → ((a : ℕ) → later a ≡ after_write made (record { at = at + 8 * i; size = 8; value = get_or words i 0 }) byte a)
    → LeftToWrite first at words i byte → LeftToWrite first at words (i + 1) later
one_less first byte later at i words made h was_made wrote left a =
    let store : Store = record { at = at + 8 * i; size = 8; value = get_or words i 0 } in
    let rest = drop (i + 1) words in
    let next : at + 8 * (i + 1) ≡ at + 8 * i + 8 = omega arith in
    let more : suc i ≡ i + 1 = omega arith in
    let split : drop i words ≡ get_or words i 0 ∷ rest = drop-cons words i 0 h ∙ ap (λ n. get_or words i 0 ∷ drop n words) more in
    ap (λ b. option_map (written (words_stored b rest) a) (later a)) next
    ∙ ap (option_map (written (words_stored (at + 8 * i + 8) rest) a)) (wrote a ∙ ap (λ b. after_write b store byte a) was_made)
    ∙ mapped_twice (written (words_stored (at + 8 * i + 8) rest) a) (byte_over store a) (byte a)
    ∙ sym (ap (λ ws. option_map (written (words_stored (at + 8 * i) ws) a) (byte a)) split) ∙ left a

pub nothing_left : (first byte : ℕ → Option ℕ) (at i : ℕ) (words : List ℕ) → length words ≡ i → LeftToWrite first at words i byte
    → (a : ℕ) → byte a ≡ option_map (written (words_stored at words) a) (first a)
nothing_left first byte at i words e left a =
    let none : drop i words ≡ [] = ap (λ n. drop n words) (sym e) ∙ drop-length words in
    same (byte a) ∙ sym (ap (λ ws. option_map (written (words_stored (at + 8 * i) ws) a) (byte a)) none) ∙ left a
  where
    same : (o : Option ℕ) → o ≡ option_map (λ n. n) o
    same (Some n) = refl
    same None = refl

-- THE WRITES OF WORDS

-- the writes of the first i words are there
abbrev pub PushedSoFar : ℕ → List ℕ → List Write → ℕ → Type 0
PushedSoFar at words writes i = words_stored at words ≡ writes ++ words_stored (at + 8 * i) (drop i words)

pub none_pushed : (at : ℕ) (words : List ℕ) → PushedSoFar at words [] 0
none_pushed at words =
    let here : at ≡ at + 8 * 0 = omega arith in
    ap (λ a. words_stored a words) here

pub one_pushed : (at : ℕ) (words : List ℕ) (writes : List Write) (i : ℕ) → i < length words → PushedSoFar at words writes i
    → PushedSoFar at words (writes ++ Stored (record { at = at + 8 * i; size = 8; value = get_or words i 0 }) ∷ []) (i + 1)
one_pushed at words writes i inside so_far =
    let w : Write = Stored (record { at = at + 8 * i; size = 8; value = get_or words i 0 }) in
    let rest = drop (i + 1) words in
    let next : at + 8 * i + 8 ≡ at + 8 * (i + 1) = omega arith in
    let more : suc i ≡ i + 1 = omega arith in
    let split : drop i words ≡ get_or words i 0 ∷ rest = drop-cons words i 0 inside ∙ ap (λ n. get_or words i 0 ∷ drop n words) more in
    so_far ∙ ap (λ ws. writes ++ words_stored (at + 8 * i) ws) split
    ∙ ap (λ a. writes ++ w ∷ words_stored a rest) next
    ∙ sym (append_assoc writes (w ∷ []) (words_stored (at + 8 * (i + 1)) rest))

pub all_pushed : (at : ℕ) (words : List ℕ) (writes : List Write) (i : ℕ) → length words ≡ i → PushedSoFar at words writes i
    → writes ≡ words_stored at words
all_pushed at words writes i e so_far =
    let none : drop i words ≡ [] = ap (λ n. drop n words) (sym e) ∙ drop-length words in
    sym (so_far ∙ ap (λ ws. writes ++ words_stored (at + 8 * i) ws) none ∙ append-nil writes)

-- WORDS THAT ARE READ

-- words that were read, before those that are left
abbrev pub before : List ℕ → Option (List ℕ) → Option (List ℕ)
before words left = option_map (λ rest. words ++ rest) left

-- the first i words were read
abbrev pub ReadSoFar : (ℕ → Option ℕ) → ℕ → ℕ → List ℕ → ℕ → Type 0
ReadSoFar byte at count words i = words_at byte at count ≡ before (take i words) (words_at byte (at + 8 * i) (count - i))

pub none_read : (byte : ℕ → Option ℕ) (at : ℕ) (words : List ℕ) → ReadSoFar byte at (length words) words 0
none_read byte at words =
    let here : at ≡ at + 8 * 0 = omega arith in
    let all : length words ≡ length words - 0 = omega arith in
    same (words_at byte at (length words)) ∙ ap (λ a. before [] (words_at byte a (length words))) here ∙ ap (λ n. before [] (words_at byte (at + 8 * 0) n)) all
  where
    same : (o : Option (List ℕ)) → o ≡ before [] o
    same (Some ws) = refl
    same None = refl

next_word : (byte : ℕ → Option ℕ) (at count i : ℕ) → i < count
    → words_at byte (at + 8 * i) (count - i) ≡ word_before (word_at byte (at + 8 * i) 8) (words_at byte (at + 8 * (i + 1)) (count - (i + 1)))
next_word byte at count i h =
    let more : count - i ≡ suc (count - (i + 1)) = omega arith in
    let next : at + 8 * i + 8 ≡ at + 8 * (i + 1) = omega arith in
    ap (words_at byte (at + 8 * i)) more ∙ ap (λ a. word_before (word_at byte (at + 8 * i) 8) (words_at byte a (count - (i + 1)))) next

joined : (words : List ℕ) (w : ℕ) (left : Option (List ℕ)) → before words (word_before (Some w) left) ≡ before (words ++ w ∷ []) left
joined words w (Some ws) = ap Some (sym (append_assoc words (w ∷ []) ws))
joined words w None = refl

pub one_read : (byte : ℕ → Option ℕ) (at count : ℕ) (words : List ℕ) (i w : ℕ) → length words ≡ count → i < length words → word_at byte (at + 8 * i) 8 ≡ Some w
    → ReadSoFar byte at count words i → ReadSoFar byte at count (set words i w) (i + 1)
one_read byte at count words i w e h here so_far =
    let rest = words_at byte (at + 8 * (i + 1)) (count - (i + 1)) in
    let inside : i < count = omega arith in
    let more : suc i ≡ i + 1 = omega arith in
    let longer : take (i + 1) (set words i w) ≡ take i words ++ w ∷ [] = ap (λ n. take n (set words i w)) (sym more) ∙ take-suc-set words i w h in
    so_far ∙ ap (before (take i words)) (next_word byte at count i inside ∙ ap (λ o. word_before o rest) here) ∙ joined (take i words) w rest
    ∙ sym (ap (λ ws. before ws rest) longer)

pub one_missing : (byte : ℕ → Option ℕ) (at count : ℕ) (words : List ℕ) (i : ℕ) → i < count → word_at byte (at + 8 * i) 8 ≡ None
    → ReadSoFar byte at count words i → words_at byte at count ≡ None
one_missing byte at count words i inside here so_far =
    so_far ∙ ap (before (take i words)) (next_word byte at count i inside ∙ ap (λ o. word_before o (words_at byte (at + 8 * (i + 1)) (count - (i + 1)))) here)

pub all_read : (byte : ℕ → Option ℕ) (at count : ℕ) (words : List ℕ) (i : ℕ) → length words ≡ i → count ≡ i → ReadSoFar byte at count words i → words_at byte at count ≡ Some words
all_read byte at count words i e f so_far =
    let none : count - i ≡ 0 = omega arith in
    so_far ∙ ap (λ n. before (take i words) (words_at byte (at + 8 * i) n)) none
    ∙ ap (λ ws. Some ws) (append-nil (take i words) ∙ ap (λ n. take n words) (sym e) ∙ take-length words)
