-- Acts that change at a place.
use Rattle.std.proofs.Common.{◌≡◌, ℕ, zero, suc, ◌<◌, List, [], ◌∷◌, length, get_or, set, slice_get, refl, ap, ◌∙◌, arith, Some}
use Rattle.std.specs.Option.{option_map}
use Rattle.block_model.specs.declared.acts.SeqEnd.{SeqEnd}
use Rattle.block_view.specs.Ledgers.{changed_at, with_end}
use Rattle.block_view.specs.declared.forms.Act.{Act}

-- a write at a place changes the act that stands there
pub set_changes : (f : Act → Act) (acts : List Act) (i : ℕ) (act : Act) → act ≡ get_or acts i act → i < length acts
    → set acts i (f act) ≡ changed_at i f acts
set_changes f [] i act is lt = absurd (omega arith)
set_changes f (x ∷ acts) zero act is lt = ap (λ y. f y ∷ acts) is
set_changes f (x ∷ acts) (suc i) act is lt = ap (λ ys. x ∷ ys) (set_changes f acts i act is (omega arith))

-- there are as many
pub length-changed_at : (f : Act → Act) (acts : List Act) (i : ℕ) → length (changed_at i f acts) ≡ length acts
length-changed_at f [] i = refl
length-changed_at f (x ∷ acts) zero = refl
length-changed_at f (x ∷ acts) (suc i) = ap suc (length-changed_at f acts i)

-- what is read there afterwards is the act that ended
pub ended_there : (end : SeqEnd) (acts : List Act) (i : ℕ) (was now : Act) → was ≡ get_or acts i was → i < length acts → now ≡ get_or (set acts i (with_end end was)) i now
    → Some now ≡ option_map (with_end end) (slice_get acts i)
ended_there end [] i was now is lt read = absurd (omega arith)
ended_there end (x ∷ acts) zero was now is lt read = ap (λ act. Some act) (read ∙ ap (with_end end) is)
ended_there end (x ∷ acts) (suc i) was now is lt read = ended_there end acts i was now is (omega arith) read
