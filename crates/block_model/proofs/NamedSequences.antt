-- What an area names where a thread is inside (rseq(2)), and that it stays where the bytes do at which a check looks.
use Rattle.block_model.proofs.Common.{◌≡◌, ◌≢◌, ℕ, zero, suc, ◌+◌, ◌-◌, ◌≤◌, ◌<◌, refl, sym, ap, ◌∙◌, arith, Bool, true, false, not, cond, ◌&&◌, eqb, leb, Option, is_some, unwrap_or, subst, eq-eqb, Some, None, Area, BadWhy, Named, RSEQ_CS, Seq, USER_END, are_readable, can_read_area, can_read_descriptor, descriptor_at, each_byte, eqb-true, false≢true, has_flags, is_inside, is_inside_named, is_out_of_range, is_signed, named, named_by, nat_tests, number_at, option_map_or, pointer_of, sequence_of, word_at, word_at-read, Descriptor}
use Rattle.mach_types.specs.Bytes.{joined}
use Rattle.mach_types.specs.Kernel.Areas.{flags_of}
use Rattle.mach_types.specs.declared.sequences.BadWhy.TheVariants as bad
use Rattle.mach_types.specs.declared.sequences.Named.TheVariants as names
use Rattle.mach_types.specs.declared.sequences.TheConstants.{AREA_SIZE, DESCRIPTOR_SIZE, FLAGS}

-- two readings have the same at so many bytes from an address on
pub record Agree (byte byte' : ℕ → Option ℕ) (at n : ℕ) : Type 0 where
  pub same : (a : ℕ) → at ≤ a → a < at + n → byte' a ≡ byte a

module _ (byte byte' : ℕ → Option ℕ) where
  agree_part : (at n from m : ℕ) → Agree byte byte' at n → at ≤ from → from + m ≤ at + n → Agree byte byte' from m
  agree_part at n from m is low high = record { same = λ a more less. is.same a (omega arith) (omega arith) }

  agree_rest : (at n : ℕ) → Agree byte byte' at (suc n) → Agree byte byte' (at + 1) n
  agree_rest at n is = agree_part at (suc n) (at + 1) n is (omega arith) (omega arith)

  word_agrees : (at n : ℕ) → Agree byte byte' at n → word_at byte' at n ≡ word_at byte at n
  word_agrees at zero is = refl
  word_agrees at (suc n) is =
      ap (λ o. joined o (word_at byte' (at + 1) n)) (is.same at (omega arith) (omega arith))
      ∙ ap (joined (byte at)) (word_agrees (at + 1) n (agree_rest at n is))

  each_agrees : (at n : ℕ) → Agree byte byte' at n → each_byte (λ a. is_some (byte' a)) at n ≡ each_byte (λ a. is_some (byte a)) at n
  each_agrees at zero is = refl
  each_agrees at (suc n) is =
      ap (λ (o : Option ℕ). is_some o && each_byte (λ a. is_some (byte' a)) (at + 1) n) (is.same at (omega arith) (omega arith))
      ∙ ap (λ b. is_some (byte at) && b) (each_agrees (at + 1) n (agree_rest at n is))

  pub number_agrees : (at n : ℕ) → Agree byte byte' at n → number_at byte' at n ≡ number_at byte at n
  unfolding number_at
  number_agrees at n is = ap (λ o. unwrap_or o 0) (word_agrees at n is)

  readable_agrees : (at n : ℕ) → Agree byte byte' at n → are_readable byte' at n ≡ are_readable byte at n
  unfolding are_readable
  readable_agrees at n is = each_agrees at n is

  descriptor_agrees : (at : ℕ) → Agree byte byte' at DESCRIPTOR_SIZE → descriptor_at byte' at ≡ descriptor_at byte at
  descriptor_agrees at is =
      let version = number_agrees at 4 (agree_part at DESCRIPTOR_SIZE at 4 is (omega arith) (omega arith)) in
      let flags = number_agrees (at + 4) 4 (agree_part at DESCRIPTOR_SIZE (at + 4) 4 is (omega arith) (omega arith)) in
      let start = number_agrees (at + 8) 8 (agree_part at DESCRIPTOR_SIZE (at + 8) 8 is (omega arith) (omega arith)) in
      let offset = number_agrees (at + 16) 8 (agree_part at DESCRIPTOR_SIZE (at + 16) 8 is (omega arith) (omega arith)) in
      let abort = number_agrees (at + 24) 8 (agree_part at DESCRIPTOR_SIZE (at + 24) 8 is (omega arith) (omega arith)) in
      cc

-- what is named, over the tests that come first
abbrev over_reads : Bool → ℕ → Bool → Named → Named
over_reads area_read pointer descriptor_read then =
    cond (not area_read) (names.Bad bad.AreaBytes)
    (cond (eqb pointer 0) names.Nothing
    (cond (leb USER_END pointer) (names.Bad bad.Pointer)
    (cond (not descriptor_read) (names.Bad bad.Descriptor) then)))

abbrev over_descriptor : ℕ → Seq → Bool → Bool → Named
over_descriptor version sequence signed flagged =
    cond (not (eqb version 0)) (names.Bad bad.Version)
    (cond (is_out_of_range sequence) (names.Bad bad.Range)
    (cond (is_inside sequence sequence.abort) (names.Bad bad.AbortInside)
    (cond (not signed) (names.Bad bad.Signature)
    (cond flagged (names.Bad bad.SeqFlags) (names.Good sequence)))))

module _ (g : Seq) where
  not_bad : (b : Bool) (x y : Named) → x ≢ names.Good g → cond b x y ≡ names.Good g → (b ≡ false) × (y ≡ names.Good g)
  not_bad true x y never is = absurd (never is)
  not_bad false x y never is = (refl, is)

  reads_good : (a : Bool) (p : ℕ) (d : Bool) (x y : Named) → over_reads a p d x ≡ names.Good g
      → (x ≡ names.Good g) × (over_reads a p d y ≡ y)
  reads_good a p d x y is =
      let one = not_bad (not a) (names.Bad bad.AreaBytes) _ (λ never. absurd cc) is in
      let two = not_bad (eqb p 0) names.Nothing _ (λ never. absurd cc) one.1 in
      let three = not_bad (leb USER_END p) (names.Bad bad.Pointer) _ (λ never. absurd cc) two.1 in
      let four = not_bad (not d) (names.Bad bad.Descriptor) x (λ never. absurd cc) three.1 in
      (four.1, rw (one.0, two.0, three.0, four.0) refl)

  both_false : (a b c : Bool) → a ≡ true → (a && b) ≡ false → (c && b) ≡ false
  both_false true true c is never = absurd (false≢true (sym never))
  both_false true false true is never = refl
  both_false true false false is never = refl
  both_false false b c is never = absurd (false≢true is)

  descriptor_good : (v : ℕ) (q : Seq) (signed flags : Bool) (pc pc' : ℕ) → over_descriptor v q signed (is_inside q pc && flags) ≡ names.Good g
      → is_inside g pc ≡ true → (q ≡ g) × (over_descriptor v q signed (is_inside q pc' && flags) ≡ names.Good g)
  descriptor_good v q signed flags pc pc' is inside =
      let one = not_bad (not (eqb v 0)) (names.Bad bad.Version) _ (λ never. absurd cc) is in
      let two = not_bad (is_out_of_range q) (names.Bad bad.Range) _ (λ never. absurd cc) one.1 in
      let three = not_bad (is_inside q q.abort) (names.Bad bad.AbortInside) _ (λ never. absurd cc) two.1 in
      let four = not_bad (not signed) (names.Bad bad.Signature) _ (λ never. absurd cc) three.1 in
      let five = not_bad (is_inside q pc && flags) (names.Bad bad.SeqFlags) (names.Good q) (λ never. absurd cc) four.1 in
      let same : q ≡ g = cc in
      let none = both_false (is_inside q pc) flags (is_inside q pc') (ap (λ (x : Seq). is_inside x pc) same ∙ inside) five.0 in
      (same, rw (one.0, two.0, three.0, four.0, none) five.1)

-- the same reads and the same descriptor
same_reads : (a a' : Bool) (p p' : ℕ) (d d' : Bool) (x x' : Named) → a' ≡ a → p' ≡ p → d' ≡ d → x' ≡ x → over_reads a' p' d' x' ≡ over_reads a p d x
same_reads a a' p p' d d' x x' e f g h = cc

module _ (byte byte' : ℕ → Option ℕ) (area : Area) (g : Seq) (own : Agree byte byte' area.at AREA_SIZE)
    (descriptor : Agree byte byte' (pointer_of byte area) DESCRIPTOR_SIZE) (signature : Agree byte byte' (g.abort - 4) 4) where
  pointer_same : pointer_of byte' area ≡ pointer_of byte area
  pointer_same = number_agrees byte byte' (area.at + RSEQ_CS) 8 (agree_part byte byte' area.at AREA_SIZE (area.at + RSEQ_CS) 8 own (omega arith) (omega arith))

  flags_same : flags_of byte' area ≡ flags_of byte area
  flags_same = number_agrees byte byte' (area.at + FLAGS) 4 (agree_part byte byte' area.at AREA_SIZE (area.at + FLAGS) 4 own (omega arith) (omega arith))

  area_same : can_read_area byte' area ≡ can_read_area byte area
  area_same =
      let pointer = readable_agrees byte byte' (area.at + RSEQ_CS) 8 (agree_part byte byte' area.at AREA_SIZE (area.at + RSEQ_CS) 8 own (omega arith) (omega arith)) in
      let flags = readable_agrees byte byte' (area.at + FLAGS) 4 (agree_part byte byte' area.at AREA_SIZE (area.at + FLAGS) 4 own (omega arith) (omega arith)) in
      cc

  read_same : can_read_descriptor byte' (pointer_of byte' area) ≡ can_read_descriptor byte (pointer_of byte area)
  read_same = ap (can_read_descriptor byte') pointer_same ∙ readable_agrees byte byte' (pointer_of byte area) DESCRIPTOR_SIZE descriptor

  descriptor_same : descriptor_at byte' (pointer_of byte' area) ≡ descriptor_at byte (pointer_of byte area)
  descriptor_same = ap (descriptor_at byte') pointer_same ∙ descriptor_agrees byte byte' (pointer_of byte area) descriptor

  signed_same : is_signed byte' area g ≡ is_signed byte area g
  signed_same =
      let readable = readable_agrees byte byte' (g.abort - 4) 4 signature in
      let number = number_agrees byte byte' (g.abort - 4) 4 signature in
      cc

  named_by_same : (d : Descriptor) (pc : ℕ) → sequence_of d ≡ g → named_by byte' area pc d ≡ named_by byte area pc d
  named_by_same d pc is =
      let signed : is_signed byte' area (sequence_of d) ≡ is_signed byte area (sequence_of d) =
      ap (is_signed byte' area) is ∙ signed_same ∙ sym (ap (is_signed byte area) is) in
      let flags = flags_same in
      let flagged : has_flags byte' area d ≡ has_flags byte area d = ap (λ n. not (eqb n 0 && eqb d.flags 0)) flags in
      ap (over_descriptor d.version (sequence_of d) (is_signed byte' area (sequence_of d))) (ap (λ b. is_inside (sequence_of d) pc && b) flagged)
      ∙ ap (λ b. over_descriptor d.version (sequence_of d) b (is_inside (sequence_of d) pc && has_flags byte area d)) signed

  -- where the thread was inside, the same is named at each pc
  pub named_stays : (pc pc' : ℕ) → named byte area pc ≡ names.Good g → is_inside g pc ≡ true → named byte' area pc' ≡ names.Good g
  named_stays pc pc' is inside =
      let pointer = pointer_of byte area in
      let d = descriptor_at byte pointer in
      let flags = has_flags byte area d in
      let signed = is_signed byte area (sequence_of d) in
      let then = named_by byte area pc' d in
      let reads = reads_good g (can_read_area byte area) pointer (can_read_descriptor byte pointer) (named_by byte area pc d) then is in
      let good = descriptor_good g d.version (sequence_of d) signed flags pc pc' reads.0 inside in
      let named_same : named_by byte' area pc' (descriptor_at byte' (pointer_of byte' area)) ≡ then =
      ap (named_by byte' area pc') descriptor_same ∙ named_by_same d pc' good.0 in
      same_reads (can_read_area byte area) (can_read_area byte' area) pointer (pointer_of byte' area)
      (can_read_descriptor byte pointer) (can_read_descriptor byte' (pointer_of byte' area)) then _ area_same pointer_same read_same named_same
      ∙ reads.1 ∙ good.1

-- BYTES AND NUMBERS

-- a byte that can't be read, or is 0
abbrev pub IsNull : Option ℕ → Type 0
IsNull None = Unit {0}
IsNull (Some b) = b ≡ 0

null_joined : (o p : Option ℕ) → IsNull o → IsNull p → IsNull (joined o p)
null_joined (Some b) (Some n) low high = omega arith
null_joined o p low high = tt

null_word : (byte : ℕ → Option ℕ) (at n : ℕ) → ((a : ℕ) → at ≤ a → a < at + n → IsNull (byte a)) → IsNull (word_at byte at n)
null_word byte at zero null = refl
null_word byte at (suc n) null =
    null_joined (byte at) (word_at byte (at + 1) n) (null at (omega arith) (omega arith))
    (null_word byte (at + 1) n (λ a low high. null a (omega arith) (omega arith)))

null_value : (o : Option ℕ) → IsNull o → unwrap_or o 0 ≡ 0
null_value None null = refl
null_value (Some b) null = null

pub number_null : (byte : ℕ → Option ℕ) (at n : ℕ) → ((a : ℕ) → at ≤ a → a < at + n → IsNull (byte a)) → number_at byte at n ≡ 0
unfolding number_at
number_null byte at n null = null_value (word_at byte at n) (null_word byte at n null)

-- WHAT AN AREA NAMES

bad_or : (P : Named → Type 0) → ((why : BadWhy) → P (names.Bad why)) → (b : Bool) (why : BadWhy) (n : Named) → (b ≡ false → P n)
    → P (cond b (names.Bad why) n)
bad_or P fails true why n holds = fails why
bad_or P fails false why n holds = holds refl

-- an area that names nothing has a pointer of 0, and a good sequence is signed
abbrev IsNamed : (ℕ → Option ℕ) → Area → Named → Type 0
IsNamed byte area names.Nothing = pointer_of byte area ≡ 0
IsNamed byte area (names.Good sequence) = (4 ≤ sequence.abort) × (word_at byte (sequence.abort - 4) 4 ≡ Some area.sig)
IsNamed byte area (names.Bad why) = Unit {0}

both : (a b c : Bool) → not (a && b && c) ≡ false → (a ≡ true) × (b ≡ true) × (c ≡ true)
both true true true is = (refl, refl, refl)
both a b c is = absurd (false≢true (sym is))

signed_by : (byte : ℕ → Option ℕ) (area : Area) (sequence : Seq) → not (is_signed byte area sequence) ≡ false
    → (4 ≤ sequence.abort) × (word_at byte (sequence.abort - 4) 4 ≡ Some area.sig)
signed_by byte area sequence is =
    let at = sequence.abort - 4 in
    let p = both (leb 4 sequence.abort) (are_readable byte at 4) (eqb (number_at byte at 4) area.sig) is in
    let above : 4 ≤ sequence.abort = grind (arith, nat_tests, p.0) in
    (above, word_at-read byte at 4 ∙ ap (λ b. cond b (Some (number_at byte at 4)) None) p.1 ∙ ap Some (eqb-true (number_at byte at 4) area.sig p.2))

named_by_is : (byte : ℕ → Option ℕ) (area : Area) (pc : ℕ) (d : Descriptor) → IsNamed byte area (named_by byte area pc d)
named_by_is byte area pc d =
    let sequence = sequence_of d in
    let P = IsNamed byte area in
    let fails : (why : BadWhy) → P (names.Bad why) = λ why. tt in
    bad_or P fails (not (eqb d.version 0)) bad.Version _ (λ a.
    bad_or P fails (is_out_of_range sequence) bad.Range _ (λ b.
    bad_or P fails (is_inside sequence sequence.abort) bad.AbortInside _ (λ c.
    bad_or P fails (not (is_signed byte area sequence)) bad.Signature _ (λ signed.
    bad_or P fails (is_inside sequence pc && has_flags byte area d) bad.SeqFlags _ (λ f.
    signed_by byte area sequence signed)))))

null_or : (byte : ℕ → Option ℕ) (area : Area) (b : Bool) (n : Named) → eqb (pointer_of byte area) 0 ≡ b → IsNamed byte area n
    → IsNamed byte area (cond b names.Nothing n)
null_or byte area true n is rest = eqb-true (pointer_of byte area) 0 is
null_or byte area false n is rest = rest

named_is : (byte : ℕ → Option ℕ) (area : Area) (pc : ℕ) → IsNamed byte area (named byte area pc)
named_is byte area pc =
    let pointer = pointer_of byte area in
    let P = IsNamed byte area in
    let fails : (why : BadWhy) → P (names.Bad why) = λ why. tt in
    bad_or P fails (not (can_read_area byte area)) bad.AreaBytes _ (λ a.
    null_or byte area (eqb pointer 0) _ refl
    (bad_or P fails (leb USER_END pointer) bad.Pointer _ (λ b.
    bad_or P fails (not (can_read_descriptor byte pointer)) bad.Descriptor _ (λ c.
    named_by_is byte area pc (descriptor_at byte pointer)))))

pub good_signed : (byte : ℕ → Option ℕ) (area : Area) (pc : ℕ) (sequence : Seq) → named byte area pc ≡ names.Good sequence
    → (4 ≤ sequence.abort) × (word_at byte (sequence.abort - 4) 4 ≡ Some area.sig)
good_signed byte area pc sequence is = subst (IsNamed byte area) is (named_is byte area pc)

-- the pointer of an area can be read that names nothing bad
read_unless : (pointer flags : Bool) (n : Named) → ((why : BadWhy) → cond (not (pointer && flags)) (names.Bad bad.AreaBytes) n ≡ names.Bad why → ⊥)
    → pointer ≡ true
read_unless true flags n never = refl
read_unless false flags n never = absurd (never bad.AreaBytes refl)

pub read_unless_bad : (byte : ℕ → Option ℕ) (area : Area) (pc : ℕ) → ((why : BadWhy) → named byte area pc ≡ names.Bad why → ⊥)
    → are_readable byte (area.at + RSEQ_CS) 8 ≡ true
read_unless_bad byte area pc never = read_unless (are_readable byte (area.at + RSEQ_CS) 8) (are_readable byte (area.at + FLAGS) 4) _ never

pub nothing_null : (byte : ℕ → Option ℕ) (area : Area) (pc : ℕ) → named byte area pc ≡ names.Nothing → pointer_of byte area ≡ 0
nothing_null byte area pc is = subst (IsNamed byte area) is (named_is byte area pc)

-- and with a pointer of 0 no thread is inside
null_outside : (readable : Bool) (pointer pc : ℕ) (rest : Named) → pointer ≡ 0
    → is_inside_named (cond (not readable) (names.Bad bad.AreaBytes) (cond (eqb pointer 0) names.Nothing rest)) pc ≡ false
null_outside true pointer pc rest is = ap (λ b. is_inside_named (cond b names.Nothing rest) pc) (eq-eqb pointer 0 is)
null_outside false pointer pc rest is = refl

pub outside_where_null : (byte : ℕ → Option ℕ) (o : Option Area) (pc : ℕ) → ((area : Area) → o ≡ Some area → pointer_of byte area ≡ 0)
    → is_inside_named (option_map_or (λ area. named byte area pc) o names.Nothing) pc ≡ false
outside_where_null byte None pc null = refl
outside_where_null byte (Some area) pc null = null_outside (can_read_area byte area) (pointer_of byte area) pc _ (null area refl)
