-- What an assembler holds, and what it assembles.
use Rattle.std.specs.Prelude.{◌≡◌, ℕ, ◌+◌, ◌*◌, ◌^◌, ◌<◌, List, [], ◌∷◌, length, slice_get, Bool, false, Option, Some, None, if◌then◌else◌, ℤ, pos, ◌-ℤ◌, All, unwrap_or, replicate}
use Rattle.std.specs.Option.{option_or}
use Rattle.std.specs.List.{flat_map}
use Rattle.std.specs.Int.{w32, to_le_bytes}
use Rattle.rv_inst.specs.declared.instruction.Inst.{Inst}
use Rattle.rv_inst.specs.declared.instruction.Inst.TheVariants as inst
use Rattle.rv_inst.specs.Table.{row_of}
use Rattle.rv_asm.specs.declared.item.Item.{Item}
use Rattle.rv_asm.specs.declared.item.Item.TheVariants as item
use Rattle.rv_asm.specs.declared.fault.AsmFault.{AsmFault}
use Rattle.rv_asm.specs.declared.fault.AsmFault.TheVariants as fault
use Rattle.rv_asm.specs.Fields.{has_signed_bits, is_register, are_two}

-- the address of the first word, the words and branches in their order, and for each label the index of the word that
-- it is bound to, if it is bound
pub record Assembly : Type 0 where
  pub at : ℕ
  pub items : List Item
  pub labels : List (Option ℕ)

-- nothing yet, and no label bound
abbrev pub empty : ℕ → ℕ → Assembly
empty at count = record { at = at; items = []; labels = replicate count None }

-- ---- labels

-- the index that a label is bound to; none where there is no such label or it is unbound
abbrev pub index_of : List (Option ℕ) → ℕ → Option ℕ
index_of labels n = unwrap_or (slice_get labels n) None

-- the address of the word at an index: each word has 4 bytes
abbrev pub address_of : ℕ → Option ℕ → Option ℕ
address_of at None = None
address_of at (Some index) = Some (at + 4 * index)

-- ---- branches

-- the instructions that have a distance (format J, and format B), with registers that fit
abbrev pub is_aimable : Inst → Bool
is_aimable (inst.Jal rd imm) = is_register rd
is_aimable (inst.Beq rs1 rs2 imm) = are_two rs1 rs2
is_aimable (inst.Bne rs1 rs2 imm) = are_two rs1 rs2
is_aimable (inst.Blt rs1 rs2 imm) = are_two rs1 rs2
is_aimable (inst.Bge rs1 rs2 imm) = are_two rs1 rs2
is_aimable (inst.Bltu rs1 rs2 imm) = are_two rs1 rs2
is_aimable (inst.Bgeu rs1 rs2 imm) = are_two rs1 rs2
is_aimable _ = false

-- such an instruction with another distance
abbrev pub aimed : Inst → ℤ → Inst
aimed (inst.Jal rd imm) distance = inst.Jal rd distance
aimed (inst.Beq rs1 rs2 imm) distance = inst.Beq rs1 rs2 distance
aimed (inst.Bne rs1 rs2 imm) distance = inst.Bne rs1 rs2 distance
aimed (inst.Blt rs1 rs2 imm) distance = inst.Blt rs1 rs2 distance
aimed (inst.Bge rs1 rs2 imm) distance = inst.Bge rs1 rs2 distance
aimed (inst.Bltu rs1 rs2 imm) distance = inst.Bltu rs1 rs2 distance
aimed (inst.Bgeu rs1 rs2 imm) distance = inst.Bgeu rs1 rs2 distance
aimed other distance = other

-- whether a distance fits: 21 bits in format J, 13 in format B
abbrev pub fits_distance : Inst → ℤ → Bool
fits_distance (inst.Jal rd imm) distance = has_signed_bits 21 distance
fits_distance other distance = has_signed_bits 13 distance

-- the distance in bytes from one word to another
abbrev pub distance : ℕ → ℕ → ℤ
distance from to = pos (4 * to) -ℤ pos (4 * from)

-- ---- refusals

-- a label that is used and unbound
abbrev pub if_unbound : Option ℕ → ℕ → Option ℕ
if_unbound None label = Some label
if_unbound (Some index) label = None

abbrev pub unbound_label : List (Option ℕ) → Item → Option ℕ
unbound_label labels (item.Word word) = None
unbound_label labels (item.Aimed instruction label) = if_unbound (index_of labels label) label

-- a label that is bound and out of reach of the instruction at an index
abbrev pub if_too_far : Inst → ℕ → Option ℕ → ℕ → Option ℕ
if_too_far instruction index None label = None
if_too_far instruction index (Some to) label = if fits_distance instruction (distance index to) then None else Some label

abbrev pub far_label : List (Option ℕ) → ℕ → Item → Option ℕ
far_label labels index (item.Word word) = None
far_label labels index (item.Aimed instruction label) = if_too_far instruction index (index_of labels label) label

-- the first of each, in the order of the items, of which the first has this index
abbrev pub first_unbound : List (Option ℕ) → List Item → Option ℕ
first_unbound labels [] = None
first_unbound labels (entry ∷ items) = option_or (unbound_label labels entry) (first_unbound labels items)

abbrev pub first_too_far : List (Option ℕ) → ℕ → List Item → Option ℕ
first_too_far labels index [] = None
first_too_far labels index (entry ∷ items) = option_or (far_label labels index entry) (first_too_far labels (index + 1) items)

-- why code can't be finished: a used label is unbound, or else a branch doesn't reach its label
abbrev pub refused_by : Option ℕ → Option ℕ → Option AsmFault
refused_by (Some label) far = Some (fault.UnboundLabel label)
refused_by None (Some label) = Some (fault.TooFar label)
refused_by None None = None

-- ---- code

-- a word is that of an item at an index: itself, or a word of the instruction aimed at its label
abbrev pub IsWordOf : List (Option ℕ) → ℕ → Item → ℕ → Type 0
IsWordOf labels index (item.Word word) w = w ≡ word
IsWordOf labels index (item.Aimed instruction label) w =
    (to : ℕ) → index_of labels label ≡ Some to → row_of w ≡ Some (aimed instruction (distance index to))

-- bytes are those of words, the low byte of each first, and each word is that of its item
pub record AreAssembled (labels : List (Option ℕ)) (items : List Item) (bytes : List ℕ) : Type 0 where
  pub words : List ℕ
  pub bytes_are : bytes ≡ flat_map (λ w. to_le_bytes w32 w) words
  pub count : length words ≡ length items
  pub have_32_bits : All (λ w. w < 2 ^ 32) words
  pub each : (index : ℕ) (entry : Item) (w : ℕ) → slice_get items index ≡ Some entry → slice_get words index ≡ Some w → IsWordOf labels index entry w
