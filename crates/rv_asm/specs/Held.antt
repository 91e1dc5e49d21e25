-- What is true of each assembler.
use Rattle.std.specs.Prelude.{◌≡◌, ℕ, ◌%◌, ◌^◌, ◌<◌, ◌≤◌, List, length, Option, Some, All, true}
use Rattle.rv_asm.specs.declared.item.Item.{Item}
use Rattle.rv_asm.specs.declared.item.Item.TheVariants as item
use Rattle.rv_asm.specs.Assembly.{Assembly, index_of, is_aimable}

-- an item that is to be aimed has a distance
abbrev pub IsAimable : Item → Type 0
IsAimable (item.Word word) = Unit {0}
IsAimable (item.Aimed instruction label) = is_aimable instruction ≡ true

-- each bound label is bound to no later index
abbrev pub AreWithin : ℕ → List (Option ℕ) → Type 0
AreWithin limit labels = (n index : ℕ) → index_of labels n ≡ Some index → index ≤ limit

-- the first address is that of a word; the numbers of items and labels are those that a vector and a `u32` can have
pub record IsHeld (a : Assembly) : Type 0 where
  pub aligned : a.at % 4 ≡ 0
  pub low : a.at < 2 ^ 37
  pub few_items : length a.items ≤ 2 ^ 60
  pub few_labels : length a.labels < 2 ^ 32
  pub bound_within : AreWithin (length a.items) a.labels
  pub aimable : All IsAimable a.items
