use Rattle.std.proofs.Common.{ℕ, List, Option, get_or, ap, sym, ◌∙◌}
use Rattle.std.specs.Option.{option_map_or}
use Rattle.mach_types.specs.Kernel.Scheduling.{is_of}
use Rattle.mach_types.proofs.Places.{found_there, not_found}
use Rattle.scheduler.proofs.affinities.Affinities.set_of.Goals as goal

pub returns-in-Some : goal.returns-in-Some
returns-in-Some c =
    let found = found_there (is_of c.args.tid) c.args.self.now c.in-Some.place (0, 0) (sym c.place_of.ensures ∙ c.in-Some.is) in
    ap (λ (es : List (ℕ × ℕ)). (get_or es c.in-Some.place (0, 0)).1) (c.deref.ensures.0 ∙ c.self.view_is)
    ∙ sym (ap (λ (o : Option (ℕ × ℕ)). option_map_or (λ entry. entry.1) o 0) found)

pub returns-in-None : goal.returns-in-None
returns-in-None c =
    sym (ap (λ (o : Option (ℕ × ℕ)). option_map_or (λ entry. entry.1) o 0) (not_found (is_of c.args.tid) c.args.self.now (sym c.place_of.ensures ∙ c.in-None.is)))
