use Rattle.std.proofs.Common.{◌+◌, ◌-◌, ◌^◌, [], ◌∷◌, ◌∙◌, sym, eqb, refl, length, take}
use Rattle.std.proofs.lemmas.Bool.{and_parts, eqb-true}
use Rattle.mach_types.specs.Kernel.Areas.{is_inside}
use Rattle.block_model.specs.History.{file, stores}
use Rattle.percpu_lib.specs.Frees.{value_of}
use Rattle.percpu_lib.specs.Pushes.{word_seen}
use Rattle.percpu_lib.specs.RingForms.{slot_of}
use Rattle.percpu_lib.proofs.ExampleParts.{place_of}
use Rattle.percpu_lib.proofs.RingExample as example
use Rattle.percpu_lib.proofs.RingExample.{ring_of}
use Rattle.percpu_lib.proofs.UseTests.{is_just, just_is}
use Rattle.percpu_lib.proofs.ring_theorems.ring_blocks_are_used.Goals as goal

pub returns : goal.returns
returns c = record {
  put =
      let its = example.put_used in
      let q = its.sequence in
      let ring = ring_of example.setting example.put_slots q in
      let one = and_parts (eqb q.thread 1) _ its.passes in
      let two = and_parts (is_just (word_seen example.setting 0 (slot_of ring 511) q.reached) 7) _ one.1 in
      let three = and_parts (is_just (word_seen example.setting 0 (slot_of ring 0) q.reached) 9) _ two.1 in
      let was = example.was_cut in
      let torn = was.sequence in
      let place = ring_of example.setting example.put_slots torn in
      let four = and_parts (eqb torn.thread 1) _ was.passes in
      let five = and_parts (is_inside (place_of example.put).range (file example.setting torn.thread torn.begun).pc) _
      four.1 in
      let six = and_parts (eqb (file example.setting torn.thread torn.reached).pc (example.put.at + 88)) _
      five.1 in
      let seven = and_parts (is_just (word_seen example.setting 0 (slot_of place 511) torn.reached) 7) _
      six.1 in (
        example.setting,
        example.cut,
        example.cut_rest,
        example.put_slots,
        example.put.at,
        example.area,
        place_of example.get ∷ [],
        torn,
        q,
        its.used,
        refl,
        was.is,
        eqb-true torn.thread 1 four.0 ∙ sym (eqb-true q.thread 1 one.0),
        five.0,
        eqb-true (file example.setting torn.thread torn.reached).pc (example.put.at + 88) six.0,
        just_is (word_seen example.setting 0 (slot_of place 511) torn.reached) 7 seven.0,
        just_is (word_seen example.setting 0 (place + 8) torn.reached) (2 ^ 64 - 1) seven.1,
        just_is (word_seen example.setting 0 (slot_of ring 511) q.reached) 7 two.0,
        just_is (word_seen example.setting 0 (slot_of ring 0) q.reached) 9 three.0,
        just_is (word_seen example.setting 0 (ring + 8) q.reached) 1 three.1,
      );
  get =
      let its = example.get_used in
      let q = its.sequence in
      let at = value_of example.setting example.get_slots q.thread q.begun in
      let one = and_parts (is_just (word_seen example.setting 0 at q.reached) 7) _ its.passes in
      let two = and_parts (is_just (word_seen example.setting 0 (at + 8) q.reached) 9) _ one.1 in (
        example.setting,
        take 105 example.log,
        example.get_slots,
        example.get.at,
        example.area,
        place_of example.put ∷ [],
        q,
        its.used,
        refl,
        just_is (word_seen example.setting 0 at q.reached) 7 one.0,
        just_is (word_seen example.setting 0 (at + 8) q.reached) 9 two.0,
        just_is (word_seen example.setting 0 (ring_of example.setting example.get_slots q) q.reached) 1 two.1,
      );
  none =
      let its = example.none_used in
      let q = its.sequence in
      let one = and_parts (eqb (value_of example.setting example.get_slots q.thread q.reached) 0) _
      its.passes in (
        example.setting,
        take 127 example.log,
        example.get_slots,
        example.get.at,
        example.area,
        place_of example.put ∷ [],
        q,
        its.used,
        refl,
        eqb-true (value_of example.setting example.get_slots q.thread q.reached) 0 one.0,
        eqb-true (length (stores 0 q.reached)) (length (stores 0 q.begun)) one.1,
      );
  full =
      let its = example.full_used in
      let q = its.sequence in
      let ring = ring_of example.full_setting example.full_slots q in
      let one = and_parts (eqb (value_of example.full_setting example.full_slots q.thread q.reached) 0) _
      its.passes in
      let two = and_parts (is_just (word_seen example.full_setting 0 ring q.reached) (2 ^ 64 - 1)) _ one.1 in
      let three = and_parts (is_just (word_seen example.full_setting 0 (ring + 8) q.reached) 511) _
      two.1 in (
        example.full_setting,
        take 27 example.full_log,
        example.full_slots,
        example.full.at,
        example.area,
        [],
        q,
        its.used,
        eqb-true (value_of example.full_setting example.full_slots q.thread q.reached) 0 one.0,
        just_is (word_seen example.full_setting 0 ring q.reached) (2 ^ 64 - 1) two.0,
        just_is (word_seen example.full_setting 0 (ring + 8) q.reached) 511 three.0,
        eqb-true (length (stores 0 q.reached)) (length (stores 0 q.begun)) three.1,
      );
  retried =
      let its = example.used_again in (
        example.setting,
        example.again.first_time,
        example.again.anew,
        example.again.rest,
        example.put_slots,
        example.put.at,
        example.area,
        1,
        place_of example.get ∷ [],
        its.used.run,
        its.used.holds,
        its.used.begins,
        its.used.shares,
        its.retried,
        example.runs_anew,
        example.at_label,
        example.undisturbed,
        example.enough,
      );
}
