use Rattle.std.proofs.Common.{◌≡◌, ◌∙◌, ◌++◌, ◌∷◌, [], List, Result, Ok, ap, sym}
use Rattle.mach_types.specs.Events.{choice_of}
use Rattle.mach_types.specs.declared.events.Choice.{Choice}
use Rattle.mach_types.specs.declared.events.Entry.{Entry}
use Rattle.mach_types.specs.declared.user_memory.Write.{Write}
use Rattle.block_model.specs.Deciding.{decide}
use Rattle.block_model.specs.Events.{done_of}
use Rattle.block_model.specs.Setting.{Seen}
use Rattle.block_model.specs.declared.refusals.Refused.{Refused}
use Rattle.event_facts.specs.Telling.{here_on, past_of}
use Rattle.event_facts.proofs.KernelDeeds.{is_calling_here}
use Rattle.event_facts.proofs.kernel_events.make_call.Goals as goal

pub step_call-made-requires : goal.step_call-made-requires
step_call-made-requires c =
    let m = c.args.machine.now in
    let h = c.args.entry.hart.0 in
    let its = is_calling_here (choice_of c.args.entry) (here_on m h) c.args.call c.requires.call in
    record {
      allowed = (c.args.entry, ap (decide m.setting (past_of m) h) (sym its.choice) ∙ c.requires.decided);
      call = its.effect;
      no_fault = its.fault;
    }

same_entry : (r : Result Entry Refused) (e x : Entry) → r ≡ Ok e → r ≡ Ok x → e ≡ x
same_entry r e x is there = let both : Ok e ≡ Ok x = sym is ∙ there in cc

pub returns : goal.returns
returns c =
    let m = c.args.machine.now in
    let entry = c.args.entry in
    let its = is_calling_here (choice_of entry) (here_on m entry.hart.0) c.args.call c.requires.call in
    let same = same_entry _ c.step_call-made.result.0 entry c.step_call-made.ensures.answer
    (ap (decide m.setting (past_of m) entry.hart.0) (sym its.choice) ∙ c.requires.decided) in
    record {
      machine = c.step_call-made.ensures.log ∙ ap (λ (e : Entry). let z : Seen = record m { log = m.log ++ e ∷ [] } in z) same;
      run = c.step_call-made.ensures.block_run;
      written = c.in_ok-extend_from_slice.ensures.items
          ∙ ap (λ (ws : List Write). c.args.written.now.items ++ ws)
          (c.as_slice.ensures.value ∙ c.step_call-made.ensures.written ∙ ap (λ (k : Choice). (done_of k (here_on m entry.hart.0)).entered) (sym its.choice));
    }
