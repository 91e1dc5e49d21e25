use Rattle.std.proofs.Common.{[], ◌∷◌, eqb, refl, take}
use Rattle.std.proofs.lemmas.Bool.{and_parts, eqb-true}
use Rattle.percpu_lib.specs.Adds.{cell_seen}
use Rattle.percpu_lib.specs.Pushes.{node_of}
use Rattle.percpu_lib.specs.Uses.{cells_of}
use Rattle.percpu_lib.proofs.UseTests.{is_just, just_is}
use Rattle.guest_names.specs.declared.names.Name.TheVariants.{List as Lists}
use Rattle.guest_programs.proofs.GuestCode.{assembler_of, code_of_words, list_code, list_words}
use Rattle.guest_programs.proofs.ListLog as example
use Rattle.guest_programs.proofs.theorems.lists_use_their_block.Goals as goal

pub returns : goal.returns
returns c = record {
  push =
      let its = example.pushes_well in
      let q = its.sequence in (
        assembler_of Lists list_words,
        code_of_words list_words,
        example.listing,
        take 62 example.log,
        example.push_slots,
        example.push.at,
        example.push_area,
        example.the_pop ∷ [],
        q,
        list_code.emitted,
        list_code.assembled,
        refl,
        its.used,
        just_is (cell_seen example.listing 0 (cells_of example.listing example.push_slots q.thread q.begun) q.reached)
            (node_of example.listing example.push_slots q.thread q.begun) its.passes,
      );
  pop =
      let its = example.pops_well in
      let q = its.sequence in
      let cells = cells_of example.listing example.pop_slots q.thread q.begun in
      let one = and_parts (is_just (cell_seen example.listing 0 cells q.begun) 0x40000) _ its.passes in
      let two = and_parts (eqb (node_of example.listing example.pop_slots q.thread q.reached) 0x40000) _ one.1 in (
        assembler_of Lists list_words,
        code_of_words list_words,
        example.listing,
        take 137 example.log,
        example.pop_slots,
        example.pop.at,
        example.pop_area,
        example.the_push ∷ [],
        q,
        list_code.emitted,
        list_code.assembled,
        refl,
        its.used,
        just_is (cell_seen example.listing 0 cells q.begun) 0x40000 one.0,
        eqb-true (node_of example.listing example.pop_slots q.thread q.reached) 0x40000 two.0,
        just_is (cell_seen example.listing 0 cells q.reached) 0x44000 two.1,
      );
}
