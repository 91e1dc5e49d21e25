-- Stretches of a log in which a hart is left undisturbed: it executes instructions, its stores enter memory,
-- and nothing else happens on it (own).
use Rattle.std.specs.Prelude.{ℕ, ◌≡◌, ◌+◌, ◌<◌, ◌==◌, ◌&&◌, ◌⊎◌, Bool, List, [], ◌∷◌, ◌++◌, if◌then◌else◌}
use Rattle.mach_types.specs.Events.{is_instruction}
use Rattle.mach_types.specs.declared.events.Entry.{Entry}
use Rattle.mach_types.specs.declared.events.Kind.TheVariants as kind
use Rattle.block_model.specs.Deciding.{history}
use Rattle.block_model.specs.History.{History}
use Rattle.block_model.specs.Setting.{Setting}

-- each entry of hart h is an instruction, or a store that enters memory
abbrev pub IsUndisturbed : ℕ → List Entry → Type 0
IsUndisturbed h [] = Unit {0}
IsUndisturbed h (e ∷ rest) =
    (e.hart.0 ≡ h → (e.kind ≡ kind.Exec) ⊎ (e.kind ≡ kind.Drain)) × IsUndisturbed h rest

-- how many of its entries are instructions
abbrev pub executes : ℕ → Entry → Bool
executes h e = (e.hart.0 == h) && is_instruction e.kind

abbrev pub executed_on : ℕ → List Entry → ℕ
executed_on h [] = 0
executed_on h (e ∷ rest) = if executes h e then executed_on h rest + 1 else executed_on h rest

-- one of the first n instructions of hart h in a stretch behind a log brings it to a place like this
pub record Brings (s : Setting) (h n : ℕ) (IsLikeThis : History → Type 0) (log stretch : List Entry) : Type 0
  where
    pub earlier : List Entry
    pub entry : Entry
    pub later : List Entry
    pub stretch_is : stretch ≡ earlier ++ entry ∷ later
    pub own : entry.hart.0 ≡ h
    pub executed : entry.kind ≡ kind.Exec
    pub soon : executed_on h earlier < n
    pub there : IsLikeThis (history s (log ++ earlier ++ entry ∷ []))
