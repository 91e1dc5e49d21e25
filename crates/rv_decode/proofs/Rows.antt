-- From what is known of a word's fields to its row.
use Rattle.std.proofs.Common.{◌≡◌, ℕ, ◌+◌, ◌-◌, ◌*◌, ◌/◌, ◌^◌, ◌==◌, Bool, true, false, not, ◌&&◌, ◌||◌, cond, if◌then◌else◌, List, [], ◌∷◌, Option, Some, None, refl, ap, sym, ◌∙◌, eqb-true, eq-eqb}
use Rattle.std.proofs.lemmas.Bool.{and_from, and_parts, false≢true}
use Rattle.std.specs.Int.Bits.{bit_and}
use Rattle.std.proofs.lemmas.Nat.{and_assoc, and_comm, shl-shr}
use Rattle.rv_inst.specs.declared.instruction.Inst.{Inst}
use Rattle.rv_inst.specs.Fields.{field, rs2}
use Rattle.rv_inst.specs.Table.{Row, is_of_row, first_row, rows, row_of}
use Rattle.rv_decode.specs.Selectors.{opcode, funct3, funct5, funct6, funct7}
use Rattle.rv_decode.proofs.Masks.{and_field, and_7f, and_707f, and_fe00707f, and_fc00707f, and_f800707f, and_f9f0707f}

false_unless_true : (b : Bool) → (b ≡ true → ⊥) → b ≡ false
false_unless_true true why = absurd (why refl)
false_unless_true false why = refl

not_of_false : (b : Bool) → b ≡ false → not b ≡ true
not_of_false true e = absurd (false≢true (sym e))
not_of_false false e = refl

not_equal : (n m : ℕ) → (n ≡ m → ⊥) → not (n == m) ≡ true
not_equal n m differs = not_of_false (n == m) (false_unless_true (n == m) (λ e. differs (eqb-true n m e)))

-- ---- the bits under a mask are known

-- the first row that a word can be of whose bits under a mask are a value: a row with other bits is passed over,
-- and a row whose own mask is covered is decided
abbrev decided : ℕ → ℕ → Row → ℕ → Option Inst → Option Inst
decided mask value r w rest =
    if not (bit_and value r.mask == bit_and r.match mask) then rest
    else if (bit_and mask r.mask == r.mask) && (bit_and value r.mask == r.match) then Some (r.read w)
    else if is_of_row w r then Some (r.read w) else rest

abbrev pub first_known : ℕ → ℕ → List Row → ℕ → Option Inst
first_known mask value [] w = None
first_known mask value (r ∷ rs) w = decided mask value r w (first_known mask value rs w)

-- a word of a row agrees with what is known
agrees : (w mask value : ℕ) (r : Row) → bit_and w mask ≡ value → is_of_row w r ≡ true → bit_and value r.mask ≡ bit_and r.match mask
agrees w mask value r known of_r =
    ap (λ n. bit_and n r.mask) (sym known) ∙ and_assoc r.mask w mask ∙ ap (bit_and w) (and_comm mask r.mask) ∙ sym (and_assoc mask w r.mask)
    ∙ ap (λ n. bit_and n mask) (eqb-true _ _ of_r)

-- a covered row is matched
matched : (w mask value : ℕ) (r : Row) → bit_and w mask ≡ value → bit_and mask r.mask ≡ r.mask → bit_and value r.mask ≡ r.match → is_of_row w r ≡ true
matched w mask value r known covered same =
    eq-eqb _ _ (ap (bit_and w) (sym covered) ∙ sym (and_assoc r.mask w mask) ∙ ap (λ n. bit_and n r.mask) known ∙ same)

one_decided : (agree covered of_r : Bool) (here rest : Option Inst) → (of_r ≡ true → agree ≡ true) → (covered ≡ true → of_r ≡ true) →
    cond of_r here rest ≡ (if not agree then rest else if covered then here else if of_r then here else rest)
one_decided true true true here rest p q = refl
one_decided true true false here rest p q = absurd (false≢true (q refl))
one_decided true false of_r here rest p q = refl
one_decided false covered true here rest p q = absurd (false≢true (p refl))
one_decided false covered false here rest p q = refl

known_list : (w mask value : ℕ) (rs : List Row) → bit_and w mask ≡ value → first_row rs w ≡ first_known mask value rs w
known_list w mask value [] known = refl
known_list w mask value (r ∷ rs) known =
    ap (λ o. cond (is_of_row w r) (Some (r.read w)) o) (known_list w mask value rs known)
    ∙ one_decided (bit_and value r.mask == bit_and r.match mask) ((bit_and mask r.mask == r.mask) && (bit_and value r.mask == r.match)) (is_of_row w r) (Some (r.read w)) (first_known mask value rs w)
    (λ of_r. eq-eqb _ _ (agrees w mask value r known of_r))
    (λ both. matched w mask value r known
    (eqb-true _ _ (and_parts (bit_and mask r.mask == r.mask) (bit_and value r.mask == r.match) both).0)
    (eqb-true _ _ (and_parts (bit_and mask r.mask == r.mask) (bit_and value r.mask == r.match) both).1))

pub by_mask : (w mask value : ℕ) → bit_and w mask ≡ value → row_of w ≡ first_known mask value rows w
unfolding row_of
by_mask w mask value known = known_list w mask value rows known

pub by_opcode : (w op : ℕ) → opcode w ≡ op → row_of w ≡ first_known 0x7f op rows w
by_opcode w op is_op = by_mask w 0x7f op (and_7f w ∙ is_op)

pub by_funct3 : (w op f3 : ℕ) → opcode w ≡ op → funct3 w ≡ f3 → row_of w ≡ first_known 0x707f (f3 * 4096 + op) rows w
by_funct3 w op f3 is_op is_f3 =
    by_mask w 0x707f (f3 * 4096 + op) (and_707f w ∙ ap (λ n. n * 4096 + opcode w) is_f3 ∙ ap (λ n. f3 * 4096 + n) is_op)

pub by_funct7 : (w op f3 f7 : ℕ) → opcode w ≡ op → funct3 w ≡ f3 → funct7 w ≡ f7 → row_of w ≡ first_known 0xfe00707f (f7 * 33554432 + f3 * 4096 + op) rows w
by_funct7 w op f3 f7 is_op is_f3 is_f7 =
    by_mask w 0xfe00707f (f7 * 33554432 + f3 * 4096 + op)
    (and_fe00707f w ∙ ap (λ n. n * 33554432 + funct3 w * 4096 + opcode w) is_f7 ∙ ap (λ n. f7 * 33554432 + n * 4096 + opcode w) is_f3 ∙ ap (λ n. f7 * 33554432 + f3 * 4096 + n) is_op)

pub by_funct6 : (w op f3 f6 : ℕ) → opcode w ≡ op → funct3 w ≡ f3 → funct6 w ≡ f6 → row_of w ≡ first_known 0xfc00707f (f6 * 67108864 + f3 * 4096 + op) rows w
by_funct6 w op f3 f6 is_op is_f3 is_f6 =
    by_mask w 0xfc00707f (f6 * 67108864 + f3 * 4096 + op)
    (and_fc00707f w ∙ ap (λ n. n * 67108864 + funct3 w * 4096 + opcode w) is_f6 ∙ ap (λ n. f6 * 67108864 + n * 4096 + opcode w) is_f3 ∙ ap (λ n. f6 * 67108864 + f3 * 4096 + n) is_op)

pub by_funct5 : (w op f3 f5 : ℕ) → opcode w ≡ op → funct3 w ≡ f3 → funct5 w ≡ f5 → row_of w ≡ first_known 0xf800707f (f5 * 134217728 + f3 * 4096 + op) rows w
by_funct5 w op f3 f5 is_op is_f3 is_f5 =
    by_mask w 0xf800707f (f5 * 134217728 + f3 * 4096 + op)
    (and_f800707f w ∙ ap (λ n. n * 134217728 + funct3 w * 4096 + opcode w) is_f5 ∙ ap (λ n. f5 * 134217728 + n * 4096 + opcode w) is_f3 ∙ ap (λ n. f5 * 134217728 + f3 * 4096 + n) is_op)

pub by_rs2 : (w op f3 f5 second : ℕ) → opcode w ≡ op → funct3 w ≡ f3 → funct5 w ≡ f5 → rs2 w ≡ second → row_of w ≡ first_known 0xf9f0707f (f5 * 134217728 + second * 1048576 + f3 * 4096 + op) rows w
by_rs2 w op f3 f5 second is_op is_f3 is_f5 is_second =
    by_mask w 0xf9f0707f (f5 * 134217728 + second * 1048576 + f3 * 4096 + op)
    (and_f9f0707f w ∙ ap (λ n. n * 134217728 + rs2 w * 1048576 + funct3 w * 4096 + opcode w) is_f5 ∙ ap (λ n. f5 * 134217728 + n * 1048576 + funct3 w * 4096 + opcode w) is_second
    ∙ ap (λ n. f5 * 134217728 + second * 1048576 + n * 4096 + opcode w) is_f3 ∙ ap (λ n. f5 * 134217728 + second * 1048576 + f3 * 4096 + n) is_op)

-- ---- a field passes a test

abbrev field_mask : ℕ → ℕ → ℕ
field_mask low count = 2 ^ (count + low) - 2 ^ low

-- the rows that a word can be of whose field passes a test
abbrev passes : ℕ → ℕ → (ℕ → Bool) → Row → Bool
passes low count test r = if bit_and r.mask (field_mask low count) == field_mask low count then test (field low count r.match) else true

abbrev pub kept : ℕ → ℕ → (ℕ → Bool) → List Row → List Row
kept low count test [] = []
kept low count test (r ∷ rs) = if passes low count test r then r ∷ kept low count test rs else kept low count test rs

-- a word of a row has its fields
same_field : (low count w : ℕ) (r : Row) → bit_and r.mask (field_mask low count) ≡ field_mask low count → is_of_row w r ≡ true → field low count w ≡ field low count r.match
same_field low count w r fixed of_r =
    let same : field low count w * 2 ^ low ≡ field low count r.match * 2 ^ low =
    sym (and_field low count w) ∙ ap (bit_and w) (sym fixed) ∙ sym (and_assoc (field_mask low count) w r.mask)
    ∙ ap (λ n. bit_and n (field_mask low count)) (eqb-true _ _ of_r) ∙ and_field low count r.match in
    sym (shl-shr (field low count w) low) ∙ ap (λ n. n / 2 ^ low) same ∙ shl-shr (field low count r.match) low

passes_if : (fixed : Bool) (test : Bool) → (fixed ≡ true → test ≡ true) → (if fixed then test else true) ≡ true
passes_if true test why = why refl
passes_if false test why = refl

row_passes : (low count w : ℕ) (test : ℕ → Bool) (r : Row) → test (field low count w) ≡ true → is_of_row w r ≡ true → passes low count test r ≡ true
row_passes low count w test r passed of_r =
    passes_if (bit_and r.mask (field_mask low count) == field_mask low count) (test (field low count r.match))
    (λ fixed. ap test (sym (same_field low count w r (eqb-true _ _ fixed) of_r)) ∙ passed)

kept_step : (of_r pass : Bool) (here rest rest_kept : Option Inst) → (of_r ≡ true → pass ≡ true) → rest ≡ rest_kept → cond of_r here rest ≡ cond pass (cond of_r here rest_kept) rest_kept
kept_step true true here rest rest_kept why e = refl
kept_step true false here rest rest_kept why e = absurd (false≢true (why refl))
kept_step false true here rest rest_kept why e = e
kept_step false false here rest rest_kept why e = e

first_of_kept : (pass : Bool) (r : Row) (rs : List Row) (w : ℕ) → first_row (if pass then r ∷ rs else rs) w ≡ cond pass (cond (is_of_row w r) (Some (r.read w)) (first_row rs w)) (first_row rs w)
first_of_kept true r rs w = refl
first_of_kept false r rs w = refl

pub narrowed : (low count : ℕ) (test : ℕ → Bool) (rs : List Row) (w : ℕ) → test (field low count w) ≡ true → first_row rs w ≡ first_row (kept low count test rs) w
narrowed low count test [] w passed = refl
narrowed low count test (r ∷ rs) w passed =
    kept_step (is_of_row w r) (passes low count test r) (Some (r.read w)) (first_row rs w) (first_row (kept low count test rs) w)
    (row_passes low count w test r passed) (narrowed low count test rs w passed)
    ∙ sym (first_of_kept (passes low count test r) r (kept low count test rs) w)

-- whether a number is none of a list
abbrev pub is_none_of : List ℕ → ℕ → Bool
is_none_of [] n = true
is_none_of (m ∷ ms) n = not (n == m) && is_none_of ms n

-- no row has another major opcode
pub no_opcode : (w : ℕ) → is_none_of (0x03 ∷ 0x0f ∷ 0x13 ∷ 0x17 ∷ 0x1b ∷ 0x23 ∷ 0x2f ∷ 0x33 ∷ 0x37 ∷ 0x3b ∷ 0x63 ∷ 0x67 ∷ 0x6f ∷ 0x73 ∷ []) (opcode w) ≡ true → row_of w ≡ None
unfolding row_of rows
no_opcode w passed = narrowed 0 7 (λ n. is_none_of (0x03 ∷ 0x0f ∷ 0x13 ∷ 0x17 ∷ 0x1b ∷ 0x23 ∷ 0x2f ∷ 0x33 ∷ 0x37 ∷ 0x3b ∷ 0x63 ∷ 0x67 ∷ 0x6f ∷ 0x73 ∷ []) n) rows w passed

pub no_field : (op low count : ℕ) (values : List ℕ) (w : ℕ) → opcode w ≡ op → is_none_of values (field low count w) ≡ true → row_of w ≡ first_row (kept low count (is_none_of values) (kept 0 7 (λ n. n == op) rows)) w
unfolding row_of
no_field op low count values w is_op passed =
    narrowed 0 7 (λ n. n == op) rows w (eq-eqb _ _ is_op) ∙ narrowed low count (is_none_of values) (kept 0 7 (λ n. n == op) rows) w passed

-- the same where another field is known too
pub no_two_fields : (op low count known below width : ℕ) (values : List ℕ) (w : ℕ) → opcode w ≡ op → field low count w ≡ known → is_none_of values (field below width w) ≡ true →
    row_of w ≡ first_row (kept below width (is_none_of values) (kept low count (λ n. n == known) (kept 0 7 (λ n. n == op) rows))) w
unfolding row_of
no_two_fields op low count known below width values w is_op is_known passed =
    narrowed 0 7 (λ n. n == op) rows w (eq-eqb _ _ is_op) ∙ narrowed low count (λ n. n == known) (kept 0 7 (λ n. n == op) rows) w (eq-eqb _ _ is_known)
    ∙ narrowed below width (is_none_of values) (kept low count (λ n. n == known) (kept 0 7 (λ n. n == op) rows)) w passed

pub none_more : (n m : ℕ) (ms : List ℕ) → (n ≡ m → ⊥) → is_none_of ms n ≡ true → is_none_of (m ∷ ms) n ≡ true
none_more n m ms differs rest = and_from (not (n == m)) (is_none_of ms n) (not_equal n m differs) rest

-- ---- one field tells the row

-- the rows of an opcode, and those of them where a field is known
abbrev pub rows_of : ℕ → List Row
rows_of op = kept 0 7 (λ n. n == op) rows

abbrev pub rows_with : ℕ → ℕ → ℕ → ℕ → List Row
rows_with op low count known = kept low count (λ n. n == known) (rows_of op)

-- the first row of a list by a field, which decides the rows with this mask
abbrev told_by : ℕ → ℕ → ℕ → ℕ → Row → ℕ → Option Inst → Option Inst
told_by mask low count n r w rest =
    if n == field low count r.match then (if (r.mask == mask) || is_of_row w r then Some (r.read w) else rest) else rest

abbrev pub by_field : ℕ → ℕ → ℕ → ℕ → List Row → ℕ → Option Inst
by_field mask low count n [] w = None
by_field mask low count n (r ∷ rs) w = told_by mask low count n r w (by_field mask low count n rs w)

-- whether the rows of a list fix the field, and those with this mask all else that is known
abbrev differs_in : ℕ → ℕ → ℕ → ℕ → Row → Bool
differs_in mask base low count r =
    (bit_and r.mask (field_mask low count) == field_mask low count)
    && (not (r.mask == mask) || (r.match == base + field low count r.match * 2 ^ low))

abbrev pub differ_in : ℕ → ℕ → ℕ → ℕ → List Row → Bool
differ_in mask base low count [] = true
differ_in mask base low count (r ∷ rs) = differs_in mask base low count r && differ_in mask base low count rs

one_told : (equal same of_r : Bool) (here rest rest' : Option Inst) → (of_r ≡ true → equal ≡ true) → (same ≡ true → equal ≡ true → of_r ≡ true) → rest ≡ rest' →
    cond of_r here rest ≡ (if equal then (if same || of_r then here else rest') else rest')
one_told true true true here rest rest' p q e = refl
one_told true true false here rest rest' p q e = absurd (false≢true (q refl refl))
one_told true false true here rest rest' p q e = refl
one_told true false false here rest rest' p q e = e
one_told false same true here rest rest' p q e = absurd (false≢true (p refl))
one_told false same false here rest rest' p q e = e

if_not : (b c : Bool) → (not b || c) ≡ true → b ≡ true → c ≡ true
if_not true c either is = either
if_not false c either is = absurd (false≢true is)

-- a row with this mask is a word's where the field is
is_told : (mask base low count w : ℕ) (r : Row) → r.mask ≡ mask → r.match ≡ base + field low count r.match * 2 ^ low →
    bit_and w mask ≡ base + field low count w * 2 ^ low → field low count w ≡ field low count r.match → is_of_row w r ≡ true
is_told mask base low count w r same is_match known equal =
    eq-eqb _ _ (ap (bit_and w) same ∙ known ∙ ap (λ n. base + n * 2 ^ low) equal ∙ sym is_match)

pub told : (mask base low count w : ℕ) (rs : List Row) → differ_in mask base low count rs ≡ true →
    bit_and w mask ≡ base + field low count w * 2 ^ low → first_row rs w ≡ by_field mask low count (field low count w) rs w
told mask base low count w [] differ known = refl
told mask base low count w (r ∷ rs) differ known =
    let one = (and_parts (differs_in mask base low count r) (differ_in mask base low count rs) differ).0 in
    let parts = and_parts (bit_and r.mask (field_mask low count) == field_mask low count) (not (r.mask == mask) || (r.match == base + field low count r.match * 2 ^ low)) one in
    one_told (field low count w == field low count r.match) (r.mask == mask) (is_of_row w r) (Some (r.read w)) (first_row rs w) (by_field mask low count (field low count w) rs w)
    (λ of_r. eq-eqb _ _ (same_field low count w r (eqb-true _ _ parts.0) of_r))
    (λ same equal. is_told mask base low count w r (eqb-true _ _ same)
    (eqb-true _ _ (if_not (r.mask == mask) (r.match == base + field low count r.match * 2 ^ low) parts.1 same)) known (eqb-true _ _ equal))
    (told mask base low count w rs (and_parts (differs_in mask base low count r) (differ_in mask base low count rs) differ).1 known)

pub of_opcode : (op w : ℕ) → opcode w ≡ op → row_of w ≡ first_row (rows_of op) w
unfolding row_of
of_opcode op w is_op = narrowed 0 7 (λ n. n == op) rows w (eq-eqb _ _ is_op)

pub of_field : (op low count known w : ℕ) → opcode w ≡ op → field low count w ≡ known → row_of w ≡ first_row (rows_with op low count known) w
of_field op low count known w is_op is_known =
    of_opcode op w is_op ∙ narrowed low count (λ n. n == known) (rows_of op) w (eq-eqb _ _ is_known)

pub of_two_fields : (op low count known low' count' known' w : ℕ) → opcode w ≡ op → field low count w ≡ known → field low' count' w ≡ known' →
    row_of w ≡ first_row (kept low' count' (λ n. n == known') (rows_with op low count known)) w
of_two_fields op low count known low' count' known' w is_op is_known is_known' =
    of_field op low count known w is_op is_known ∙ narrowed low' count' (λ n. n == known') (rows_with op low count known) w (eq-eqb _ _ is_known')
