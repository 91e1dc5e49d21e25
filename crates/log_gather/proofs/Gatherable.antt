-- Stretches of a log in which the events of a hart can be gathered.
use Rattle.std.specs.Prelude.{ℕ, ◌≡◌, ◌≢◌, true, not, List, filter}
use Rattle.std.specs.List.{AllByRecursion}
use Rattle.block_model.specs.Footprints.{AreApart}
use Rattle.log_gather.specs.Facts.{Facts, is_of}

-- the facts of the events of hart h, and of those of others
abbrev pub own_facts : ℕ → List Facts → List Facts
own_facts h facts = filter (λ x. is_of h x.entry) facts

abbrev pub other_facts : ℕ → List Facts → List Facts
other_facts h facts = filter (λ x. not (is_of h x.entry)) facts

-- plain events of which neither touches the other's bytes
pub record AreFree (x y : Facts) : Type 0 where
  pub harts : x.entry.hart.0 ≢ y.entry.hart.0
  pub plain : y.plain ≡ true
  pub apart : AreApart x.touched y.touched

-- a stretch in which nothing keeps the events of hart h from being gathered
pub record IsGatherable (h : ℕ) (facts : List Facts) : Type 0 where
  pub plain : AllByRecursion (λ (x : Facts). x.plain ≡ true) (own_facts h facts)
  pub free : AllByRecursion (λ (x : Facts). AllByRecursion (AreFree x) (other_facts h facts)) (own_facts h facts)
