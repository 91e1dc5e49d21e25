-- Kinds of event, told apart; and which kind it is by which a thread begins to run.
use Rattle.std.proofs.Common.{◌≡◌, ◌≢◌, ℕ, refl, sym, ap, ◌∙◌, Bool, true, false, get_or}
use Rattle.std.proofs.lemmas.Bool.{eqb-true, false≢true}
use Rattle.mach_types.proofs.Times.{eqb_same}
use Rattle.mach_types.specs.Events.{all_kinds, choice_for, is_instruction, is_kind, is_run, kind_of, number_of_kind}
use Rattle.mach_types.specs.declared.events.Kind.{Kind}
use Rattle.mach_types.specs.declared.events.Kind.TheVariants as kind
use Rattle.mach_types.specs.declared.events.Tid.{Tid}

-- a kind stands at its number among all
kind_again : (k : Kind) → get_or all_kinds (number_of_kind k) kind.Exec ≡ k
kind_again kind.Exec = refl
kind_again other = refl

pub kind_is : (k j : Kind) → is_kind k j ≡ true → k ≡ j
kind_is k j is =
    sym (kind_again k) ∙ ap (λ n. get_or all_kinds n kind.Exec) (eqb-true (number_of_kind k) (number_of_kind j) is) ∙ kind_again j

pub kind_is_not : (i k j : Kind) → i ≡ k → is_kind k j ≡ false → i ≢ j
kind_is_not i k j is other same =
    false≢true (sym other ∙ ap (λ x. is_kind x j) (sym is ∙ same) ∙ eqb_same (number_of_kind j))

-- the kind of a choice of a kind
pub kind_back : (k : Kind) (t : Tid) → kind_of (choice_for k t) ≡ k
kind_back kind.Exec t = refl
kind_back other t = refl

-- a thread begins to run by one kind alone
pub run_is : (k : Kind) → is_run k ≡ true → k ≡ kind.Run
run_is kind.Run is = refl
run_is other is = absurd (false≢true is)

-- an instruction begins to run no thread
pub instruction_runs_none : (k : Kind) → is_instruction k ≡ true → is_run k ≡ false
instruction_runs_none kind.Run is = absurd (false≢true is)
instruction_runs_none other is = refl
