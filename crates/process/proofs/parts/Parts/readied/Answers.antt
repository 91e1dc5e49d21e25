use Rattle.process.proofs.Common.{rules, ◌≡◌, sym, ap, ◌∙◌, false, fun_ext, Saved, can_write_in, is_writable}
use Rattle.process.proofs.Interruptions.{is_fatal, readied_told}
use Rattle.process.proofs.parts.Parts.readied.Goals as goal

pub returns-in-Nothing : goal.returns-in-Nothing
returns-in-Nothing c = record {
  readied = λ h t waits.
      let o = c.interrupted-outcome.result in
      let x = c.args.saved.now in
      let mid = c.interrupted-outcome.new.self in
      let goes : is_fatal o ≡ false = search rules in
      let writable : is_writable h ≡ can_write_in mid.pages = sym waits.writable ∙ sym (fun_ext c.interrupted-outcome.ensures.writable) in
      readied_told h t c.args.hart.0 o c.told.result x (record { file = x.file; pc = c.pc_after-saved.result }) c.args.self.now mid c.told.new.self c.args.area c.args.id waits
      (sym c.interrupted-outcome.ensures.outcome) goes (ap (λ n. let y : Saved = record { file = x.file; pc = n } in y) c.pc_after-saved.ensures)
      (c.told.ensures.answer h writable) c.interrupted-outcome.ensures.pages (c.told.ensures.pages h writable)
      c.interrupted-outcome.ensures.harts (λ k. c.told.ensures.harts h k writable);
  kernel = c.told.ensures.kernel ∙ c.interrupted-outcome.ensures.kernel;
  ended = c.told.ensures.ended ∙ c.interrupted-outcome.ensures.ended;
}
