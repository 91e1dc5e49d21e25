-- The store that enters memory with a plain event: what stood there, and which reservations it ends.
use Rattle.std.proofs.Common.{◌≡◌, ℕ, List, [], ◌∷◌, ◌++◌, eqb, refl, sym, ap, ◌∙◌, Bool, true, false, cond, Option, Some, None}
use Rattle.std.specs.List.{range_with_len}
use Rattle.std.specs.Option.{option_map, option_to_list}
use Rattle.mach_types.specs.Bytes.{after_writes, all_stored, written}
use Rattle.mach_types.specs.declared.user_memory.Store.{Store}
use Rattle.rv_inst.specs.Execution.{word_seen}
use Rattle.block_model.specs.Here.{Here, memory}
use Rattle.block_model.specs.History.{History, reservation}
use Rattle.fact_types.specs.declared.facts.Fact.{Fact}
use Rattle.fact_types.specs.declared.facts.Fact.TheVariants.{Entered}
use Rattle.event_facts.specs.Deeds.{entered_in}
use Rattle.event_facts.specs.Facts.{entered_facts, number_before}
use Rattle.event_facts.specs.Reservations.{all_lost, lost_facts, lost_of}
use Rattle.event_facts.specs.declared.deeds.Deed.{Deed}
use Rattle.event_facts.proofs.Lists.{nothing_in_all}

-- before the first write memory is as it was
kept : (a : ℕ) (o : Option ℕ) → option_map (written [] a) o ≡ o
kept a None = refl
kept a (Some b) = refl

no_writes : (byte : ℕ → Option ℕ) → after_writes [] byte ≡ byte
no_writes byte = λ i a. kept a (byte a) i

pub entered_told : (here : Here) (deed : Deed) (w : Store) (old line n : ℕ) (f0 f1 : List Fact) → deed.entered ≡ Some w → old ≡ word_seen (memory here) w.at w.size → line ≡ n
    → f1 ≡ f0 ++ Entered w old line ∷ [] → f1 ≡ f0 ++ entered_facts (memory here) n [] (entered_in deed)
entered_told here deed w old line n f0 f1 is old_is line_is pushed =
    let there : old ≡ number_before (memory here) [] w = old_is ∙ ap (λ byte. word_seen byte w.at w.size) (sym (no_writes (memory here))) in
    pushed
    ∙ (λ i. f0 ++ Entered w (there i) (line_is i) ∷ [])
    ∙ ap (λ (o : Option Store). f0 ++ entered_facts (memory here) n [] (all_stored (option_to_list o))) (sym is)

-- where none enters, none is lost
lost_to_none : (k : ℕ) (r : Option ℕ) → lost_facts k r [] ≡ []
lost_to_none k None = refl
lost_to_none k (Some r) = refl

none_of : (h : ℕ) (before : History) (k : ℕ) → lost_of h before [] k ≡ []
none_of h before k = go (eqb h k)
  where
    go : (b : Bool) → cond b [] (lost_facts k (reservation k before) []) ≡ []
    go true = refl
    go false = lost_to_none k (reservation k before)

pub none_lost : (h : ℕ) (before : History) (o : Option Store) (n : ℕ) → o ≡ None → all_lost h before (all_stored (option_to_list o)) n ≡ []
none_lost h before o n is =
    ap (λ (x : Option Store). all_lost h before (all_stored (option_to_list x)) n) is
    ∙ nothing_in_all (lost_of h before []) (range_with_len 0 n) (none_of h before)
