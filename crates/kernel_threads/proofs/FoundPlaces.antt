-- What a search answers in a list as it was read holds of the list.
use Rattle.std.proofs.Common.{◌≡◌, ℕ, Bool, List, Option, sym, ap, ◌∙◌}
use Rattle.std.specs.List.{position}

pub found_at : {X : Type 0} (is : X → Bool) {read items : List X} {found now : Option ℕ} → read ≡ items
    → found ≡ position is read → found ≡ now → position is items ≡ now
found_at is same looks at = ap (position is) (sym same) ∙ sym looks ∙ at
