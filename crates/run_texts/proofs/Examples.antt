-- Worked examples of texts, by computation.
use Rattle.std.proofs.Common.{◌≡◌, ℕ, [], ◌∷◌, ◌++◌, refl, codes}
use Rattle.std.specs.Fmt.{digits}
use Rattle.mach_types.specs.declared.events.Kind.TheVariants.{Exec, Done, Take}
use Rattle.mach_types.specs.declared.limits.End.TheVariants.{Exit}
use Rattle.step_log.specs.Text.{hex_text}
use Rattle.block_model.specs.declared.acts.SeqEnd.TheVariants.{Cut}
use Rattle.block_view.specs.declared.forms.Act.{Act}
use Rattle.block_view.specs.declared.forms.Form.{Form}
use Rattle.block_view.specs.declared.forms.Form.TheVariants.{Step, Kernel, Sequence}
use Rattle.shared_procs.specs.declared.outcomes.PairEnd.TheVariants as pair
use Rattle.shared_procs.specs.declared.outcomes.ProcState.TheVariants as process
use Rattle.run_texts.specs.PairText.{pair_tail, pair_text}
use Rattle.run_texts.specs.Summary.{ends_text, summary_text}
use Rattle.run_texts.specs.Text.{output_text}

-- a run that makes one event and exits with 7
one_event : output_text []
    (record { hart = record { 0 = 0 }; kind = Exec; tid = record { 0 = 1 }; pc = 0x10078 } ∷ []) (Exit 7)
    ≡ codes "console 0\n\nlog 1\n0 exec 1 0000000000010078\nend exit 7\n"
unfolding output_text digits hex_text
one_event = refl

-- two processes: the second took a request as its thread ran, and both have exited
pair_done : pair_text [] []
    (record { hart = record { 0 = 1 }; kind = Take; tid = record { 0 = 2147483649 }; pc = 0x1009c } ∷ [])
    (pair_tail (process.Exit 1) (process.Exit 0) pair.Done)
    ≡ codes "console 0\n\nconsole 0\n\nlog 1\n1 take 2147483649 000000000001009c\n"
    ++ codes "process 1 exit 1\nprocess 2 exit 0\nend done\n"
unfolding pair_text digits hex_text
pair_done = refl

-- one process wrote a byte and is live, the other was killed
pair_open : pair_text (65 ∷ []) [] [] (pair_tail process.Live (process.Killed 11) pair.Unended)
    ≡ codes "console 1\nA\nconsole 0\n\nlog 0\nprocess 1 live\nprocess 2 killed 11\nend open\n"
unfolding pair_text digits
pair_open = refl

-- an act of a hart, from one entry to another
abbrev an_act : ℕ → ℕ → ℕ → Form → Act
an_act hart first last form = record {
  hart = record { 0 = hart };
  first = first;
  last = last;
  tid = record { 0 = 1 };
  form = form;
}

-- the summary of two harts: the first has a step and a sequence that was cut, the other the return of a barrier
two_harts : summary_text 2
    (an_act 0 1 1 Step ∷ an_act 0 2 3 (Sequence (Cut 0x10110)) ∷ an_act 1 4 4 Kernel ∷ [])
    (record { hart = record { 0 = 1 }; kind = Done; tid = record { 0 = 2 }; pc = 0x10108 } ∷ []) (Exit 1)
    ≡ codes "hart 0 step 1 left 0 cut 1 dropped 0 dead 0 open 0 kernel 0\n"
    ++ codes "hart 1 step 0 left 0 cut 0 dropped 0 dead 0 open 0 kernel 1\n" ++ codes "barriers 1\nend exit 1\n"
unfolding summary_text ends_text digits
two_harts = refl
