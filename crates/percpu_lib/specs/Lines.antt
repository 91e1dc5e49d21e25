-- What an assembler holds after lines of a block.
use Rattle.std.specs.Prelude.{ℕ, ◌≡◌, ◌+◌, ◌<◌, Bool, true, false, List, [], ◌∷◌, ◌++◌, length, slice_get}
use Rattle.std.specs.Prelude.{slice_set, Option, Some, None, if◌then◌else◌, is_none}
use Rattle.std.specs.Option.{option_map, option_map_or}
use Rattle.rv_asm.specs.Assembly.{Assembly, aimed, distance, index_of, is_aimable}
use Rattle.rv_asm.specs.Fields.{fits_fields}
use Rattle.rv_asm.specs.declared.item.Item.{Item}
use Rattle.rv_asm.specs.declared.item.Item.TheVariants as item
use Rattle.rv_inst.specs.declared.instruction.Inst.{Inst}
use Rattle.rv_inst.specs.Table.{row_of}
use Rattle.percpu_lib.specs.declared.lines.Line.{Line}
use Rattle.percpu_lib.specs.declared.lines.Line.TheVariants as line

-- a label is free where there is one and it is unbound
abbrev pub is_free : Option (Option ℕ) → Bool
is_free o = option_map_or is_none o false

-- the label is bound to the next word, if it is free
abbrev pub with_label : Assembly → ℕ → Assembly
with_label a n = if is_free (slice_get a.labels n) then record a
    { labels = slice_set a.labels n (Some (length a.items)) } else a

abbrev pub with_item : Assembly → Item → Assembly
with_item a i = record a { items = a.items ++ i ∷ [] }

-- an instruction that has a word, and a branch to one of so many labels
abbrev pub IsEmittable : ℕ → Line → Type 0
IsEmittable labels (line.Label n) = Unit {0}
IsEmittable labels (line.Plain i) = fits_fields i ≡ true
IsEmittable labels (line.Branch i n) = (is_aimable i ≡ true) × (n < labels)
IsEmittable labels (line.Data w) = Unit {0}

-- what is held after these lines: an instruction is a word that is of its row
abbrev pub IsEmitted : List Line → Assembly → Assembly → Type 0
IsEmitted [] a b = b ≡ a
IsEmitted (line.Label n ∷ rest) a b = IsEmitted rest (with_label a n) b
IsEmitted (line.Plain i ∷ rest) a b = (w : ℕ) × (row_of w ≡ Some i)
    × IsEmitted rest (with_item a (item.Word w)) b
IsEmitted (line.Branch i n ∷ rest) a b = IsEmitted rest (with_item a (item.Aimed i n)) b
IsEmitted (line.Data w ∷ rest) a b = IsEmitted rest (with_item a (item.Word w)) b

-- the same, as one fact
pub record AreEmitted (lines : List Line) (a b : Assembly) : Type 0 where
  pub are : IsEmitted lines a b

-- an assembler goes on from another: its words and branches come behind those, and what was bound is bound so
pub record IsContinued (a b : Assembly) : Type 0 where
  pub later : List Item
  pub items : b.items ≡ a.items ++ later
  pub labels : (n index : ℕ) → index_of a.labels n ≡ Some index → index_of b.labels n ≡ Some index

-- eight labels from one on are free
abbrev pub HasRoom : List (Option ℕ) → ℕ → Type 0
HasRoom labels base = (k : ℕ) → k < 8 → slice_get labels (base + k) ≡ Some None

-- the instructions of lines whose first word has an index, one for each word, where labels are bound so; a
-- word of data is none
abbrev pub instructions : List (Option ℕ) → ℕ → List Line → List (Option Inst)
instructions labels n [] = []
instructions labels n (line.Label l ∷ rest) = instructions labels n rest
instructions labels n (line.Plain i ∷ rest) = Some i ∷ instructions labels (n + 1) rest
instructions labels n (line.Branch i l ∷ rest) = option_map (λ to. aimed i (distance n to))
    (index_of labels l) ∷ instructions labels (n + 1) rest
instructions labels n (line.Data w ∷ rest) = None ∷ instructions labels (n + 1) rest
