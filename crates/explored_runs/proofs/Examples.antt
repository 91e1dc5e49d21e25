-- Worked examples: seeds, what is told of a few runs, and the text of that.
use Rattle.std.proofs.Common.{◌≡◌, ℕ, List, [], ◌∷◌, ◌++◌, Some, fold, refl}
use Rattle.std.specs.Fmt.{digits}
use Rattle.std.specs.Prelude.{codes}
use Rattle.mach_types.specs.declared.limits.End.{End}
use Rattle.mach_types.specs.declared.limits.End.TheVariants.{Exit, Stuck}
use Rattle.draw_policies.specs.declared.policies.Policy.TheVariants as policy
use Rattle.drawn_machine.specs.Waits.{counts_of, no_waits}
use Rattle.drawn_machine.specs.declared.store_pcs.StorePcs.{StorePcs}
use Rattle.draw_policies.specs.declared.outcome_keys.OutcomeKey.TheVariants.{ByText, ByEnd}
use Rattle.explored_runs.specs.declared.made.Made.{Made}
use Rattle.explored_runs.specs.Accounts.{Account, nothing, told}
use Rattle.explored_runs.specs.Explorations.{seed_at}
use Rattle.explored_runs.specs.Text.{explored_text}

-- behind the last seed stands 0
seed_behind_the_last : seed_at 0xffff_ffff_ffff_ffff 1 ≡ 0
seed_behind_the_last = refl

-- runs of seeds 7 to 9: the first and the last come to one outcome
abbrev run : ℕ → List ℕ → End → StorePcs → Made
run seed console end stores = record {
  seed = seed;
  policy = policy.Short;
  steps = 100;
  console = console;
  end = end;
  tally = record { harts = 2; switches = 5; preemptions = 1; inside = 1; waits = counts_of (0 ∷ 2 ∷ 0 ∷ 300 ∷ []); stores = stores };
}

-- the stores at 0x100B0 and 0x100C0 are executed in all of them, that at 0x100B8 in one; that at 0x100C0 is overtaken in two
abbrev three : Account
three =
    fold told nothing
    (run 7 (codes "ab") (Exit 0) (record { executed = 0x100B0 ∷ 0x100C0 ∷ []; overtaken = 0x100C0 ∷ [] })
    ∷ run 8 (codes "ab") Stuck (record { executed = 0x100B0 ∷ 0x100B8 ∷ 0x100C0 ∷ []; overtaken = [] })
    ∷ run 9 (codes "ab") (Exit 0) (record { executed = 0x100B0 ∷ 0x100C0 ∷ []; overtaken = 0x100C0 ∷ [] }) ∷ [])

text_of_three : explored_text ByText three
    ≡ codes "outcomes 2\nruns 2 seed 7 policy short steps 100\nconsole 2\nab\nend exit 0\n"
    ++ codes "runs 1 seed 8 policy short steps 100\nconsole 2\nab\nend stuck\n"
    ++ codes "runs 3\nharts 2 3\nswitches 15\npreemptions 3 inside 3\nwaited 0 0 0 0 0 0 2 2 2 255+ 255+\novertaken 1 of 3\n"
unfolding explored_text digits no_waits
text_of_three = refl

-- by their ends alone, and with others
text_with_others : explored_text ByEnd (record three { others = Some (record { runs = 4; seed = 10 }) })
    ≡ codes "outcomes 2\nruns 2 seed 7 policy short steps 100\nend exit 0\nruns 1 seed 8 policy short steps 100\nend stuck\n"
    ++ codes "others 4 seed 10\nruns 3\nharts 2 3\nswitches 15\npreemptions 3 inside 3\nwaited 0 0 0 0 0 0 2 2 2 255+ 255+\novertaken 1 of 3\n"
unfolding explored_text digits no_waits
text_with_others = refl
