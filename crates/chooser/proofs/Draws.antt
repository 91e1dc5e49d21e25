-- Which generators a pick leaves as they are.
use Rattle.std.proofs.Common.{◌≡◌, ◌≢◌, ℕ, ◌<◌, Bool, true, false, List, length, if◌then◌else◌, slice_set, refl, ap, ◌∙◌}
use Rattle.std.proofs.lemmas.List.{get_or-set_same, get_or-set_other}
use Rattle.mach_types.specs.declared.events.Sight.{Sight}
use Rattle.chooser.specs.declared.cases.Case.{Case}
use Rattle.chooser.specs.declared.cases.Case.TheVariants.{Settled, Open}
use Rattle.chooser.specs.Cases.{case_of, is_open, draws, pick_in, pick}
use Rattle.chooser.specs.Generators.{Generator, next_generator, generator_in, after_pick}

pub pick-same : (seen : Sight) (one other : ℕ) → draws seen ≡ false → pick seen one ≡ pick seen other
unfolding pick
pick-same seen one other settled = go (case_of seen) settled
  where
    go : (k : Case) → is_open k ≡ false → pick_in k one seen ≡ pick_in k other seen
    go (Settled p) e = refl
    go Open e = cc

-- the generators after a word of hart h, and those after a pick that draws one or not
abbrev moved : ℕ → List Generator → List Generator
moved h generators = slice_set generators h (next_generator (generator_in generators h))

abbrev after : Bool → ℕ → List Generator → List Generator
after drawn h generators = if drawn then moved h generators else generators

pub after_pick-settled : (seen : Sight) (h : ℕ) (generators : List Generator)
    → draws seen ≡ false → after_pick seen h generators ≡ generators
after_pick-settled seen h generators settled = ap (λ (drawn : Bool). after drawn h generators) settled

pub after_pick-other : (seen : Sight) (h k : ℕ) (generators : List Generator)
    → k ≢ h → generator_in (after_pick seen h generators) k ≡ generator_in generators k
after_pick-other seen h k generators apart = go (draws seen)
  where
    go : (drawn : Bool) → generator_in (after drawn h generators) k ≡ generator_in generators k
    go true = get_or-set_other generators h k _ _ apart
    go false = refl

pub after_pick-own : (seen : Sight) (h : ℕ) (generators : List Generator)
    → draws seen ≡ true → h < length generators
    → generator_in (after_pick seen h generators) h ≡ next_generator (generator_in generators h)
after_pick-own seen h generators drawn within =
    ap (λ (drawn : Bool). generator_in (after drawn h generators) h) drawn
    ∙ get_or-set_same generators h (next_generator (generator_in generators h)) _ within
