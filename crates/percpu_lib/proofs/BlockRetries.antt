-- No word of a block changes its value where it may not, so each of its retries works on the value that came in.
use Rattle.std.proofs.Common.{◌≡◌, ℕ, List, ◌++◌, false, refl, ◌∙◌, arith}
use Rattle.mach_types.specs.Registers.{register}
use Rattle.mach_types.specs.declared.events.Entry.{Entry}
use Rattle.mach_types.specs.declared.registers.Regs.{Regs}
use Rattle.mach_types.specs.declared.sequences.Area.{Area}
use Rattle.mach_types.specs.declared.threads.Saved.{Saved}
use Rattle.rv_inst.specs.Execution.{outcome}
use Rattle.block_model.specs.Deciding.{history}
use Rattle.block_model.specs.History.{History, file}
use Rattle.block_model.specs.Run.{IsBlockRun}
use Rattle.block_model.specs.Setting.{Setting}
use Rattle.alone_laws.specs.Retries.{Retries}
use Rattle.alone_laws.specs.Uses.{Placed}
use Rattle.alone_laws.proofs.Arrivals.{IsCode, KnowsAt}
use Rattle.alone_laws.proofs.Retrying.{AsksNothing, IsKept, asks_nothing, first_place, known_throughout}
use Rattle.percpu_lib.specs.Forms.{Form, HoldsBlock, placed_of}
use Rattle.percpu_lib.proofs.BlockCode.{KnowsTable, registers_at}
use Rattle.percpu_lib.proofs.Courses.{HasCourse}
use Rattle.percpu_lib.proofs.UsesLaw.{is_code}

-- what is known of x6, and that the value is v
record KnowsValue (form : Form) (v k : ℕ) (regs : Regs) : Type 0 where
  table : KnowsTable form k regs
  value : register regs form.slots.value ≡ v

module _ (s : Setting) (past : History) (form : Form) (at : ℕ) (area : Area) (t v : ℕ) (law : HasCourse form)
    (keeps : form.may form.slots.value ≡ false) (held : HoldsBlock s past form at area t) where
  abbrev b : Placed
  b = placed_of form at area

  abbrev Know : ℕ → Regs → Type 0
  Know k regs = KnowsValue form v k regs

  code : IsCode s b (KnowsTable form)
  code = is_code s form at area t law past held

  without : (f : Saved) → KnowsAt b Know f → KnowsAt b (KnowsTable form) f
  without f at_it = record { word = at_it.word; below = at_it.below; pc = at_it.pc; know = at_it.know.table }

  with_value : (f : Saved) → register f.file form.slots.value ≡ v → KnowsAt b (KnowsTable form) f → KnowsAt b Know f
  with_value f is at_it = record {
    word = at_it.word;
    below = at_it.below;
    pc = at_it.pc;
    know = record { table = at_it.know; value = is };
  }

  value_kept : IsKept s b AsksNothing Know
  value_kept = record {
    plain = λ f e at_it is. code.no_call f e (without f at_it) is;
    goes = λ f e seen r many asked at_it is inside uncommitted.
        with_value (record { file = (outcome seen f.file f.pc r e).regs; pc = (outcome seen f.file f.pc r e).pc })
        (registers_at s form at area law.formed held.stands held.low_table held.low held.low_area f e seen r is
        at_it.word at_it.pc at_it.below at_it.know.table form.slots.value keeps ∙ at_it.know.value)
        (code.goes f e seen r many (without f at_it) is inside);
    cut = λ f asked at_it inside. record {
      word = code.handler;
      below = code.handler_below;
      pc = code.handler_at;
      know = record { table = code.handled f.file; value = at_it.know.value };
    };
    retry = λ f at. tt;
    handler = λ f at. tt;
  }

-- at each place of the retries the value is what it was at the first
pub value_stays : (s : Setting) (form : Form) (at : ℕ) (area : Area) (t : ℕ) (law : HasCourse form)
    → form.may form.slots.value ≡ false → (first log later : List Entry)
    → IsBlockRun s (log ++ later) → HoldsBlock s (history s (log ++ later)) form at area t
    → Retries s (placed_of form at area) t first log
    → register (file s t (history s log)).file form.slots.value
    ≡ register (file s t (history s first)).file form.slots.value
value_stays s form at area t law keeps first log later run held retries =
    let b = placed_of form at area in
    let v = register (file s t (history s first)).file form.slots.value in
    let past = history s (log ++ later) in
    let f = file s t (history s first) in
    let start : KnowsAt b (KnowsTable form) f = record {
      word = 0;
      below = (code s past form at area t v law keeps held).some;
      pc = first_place s b t first log retries ∙ omega arith;
      know = (code s past form at area t v law keeps held).first f.file;
    } in
    (known_throughout s b t AsksNothing (Know s past form at area t v law keeps held)
    (value_kept s past form at area t v law keeps held) first log retries later (asks_nothing s t (log ++ later) run)
    (with_value s past form at area t v law keeps held f refl start)).know.value
