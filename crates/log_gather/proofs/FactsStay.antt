-- The facts of a plain event are the same after a plain event of another hart that wrote nothing which it reads or writes.
use Rattle.std.proofs.Common.{◌≡◌, ℕ, List, [], ◌∷◌, ◌++◌, refl, sym, ap, ◌∙◌, subst, Bool, true, false, not, cond, ◌&&◌, ◌||◌, Option, Some, None}
use Rattle.std.specs.Option.{option_map_or}
use Rattle.std.proofs.lemmas.Bool.{false≢true, or_parts}
use Rattle.mach_types.specs.Events.{choice_of}
use Rattle.mach_types.specs.declared.events.Entry.{Entry}
use Rattle.mach_types.specs.declared.sequences.Area.{Area}
use Rattle.mach_types.specs.declared.sequences.Named.TheVariants as names
use Rattle.mach_types.specs.declared.threads.Saved.{Saved}
use Rattle.mach_types.specs.declared.user_memory.Write.{Write}
use Rattle.mach_types.specs.Kernel.Areas.{is_inside_named, named}
use Rattle.block_model.specs.Events.{done_of}
use Rattle.block_model.specs.Here.{Done, Here, runs, view}
use Rattle.block_model.specs.History.{file_among}
use Rattle.block_model.specs.Sequences.{area_here, named_here}
use Rattle.rv_inst.specs.Accesses.{Bytes}
use Rattle.block_model.specs.Footprints.{Footprint, bytes_of_all, has_byte, have_byte}
use Rattle.block_model.proofs.Swaps.PlainDone.{PlainDone}
use Rattle.block_model.specs.PlainEvents.{footprint, is_plain, no_bytes}
use Rattle.log_gather.specs.Facts.{facts_in, inside_on, looked_here, looked_on, moves_out_on, touched_by, with_files, within_by}
use Rattle.log_gather.specs.Lookups.{looked_over}
use Rattle.log_gather.proofs.AreaLookups.{LooksAlike, looks_alike}
use Rattle.block_model.proofs.Swaps.PlainEvents.{Around, IsClear, IsPassed, done_is_plain, footprint_passes, done_passes, out_of, passed, plain_passes, reserved_passes, view_passes}

-- LISTS OF BYTES

pub have_append : (xs ys : List Bytes) (a : ℕ) → have_byte (xs ++ ys) a ≡ (have_byte xs a || have_byte ys a)
have_append [] ys a = refl
have_append (x ∷ xs) ys a = ap (λ b. has_byte x a || b) (have_append xs ys a) ∙ or_assoc (has_byte x a) (have_byte xs a) (have_byte ys a)
  where
    or_assoc : (x y z : Bool) → (x || (y || z)) ≡ ((x || y) || z)
    or_assoc true y z = refl
    or_assoc false y z = refl

in_left : (b c : Bool) → b ≡ true → (b || c) ≡ true
in_left true c is = refl
in_left false c is = absurd (false≢true is)

in_right : (b c : Bool) → c ≡ true → (b || c) ≡ true
in_right true c is = refl
in_right false c is = is

pub have_first : (xs ys : List Bytes) (a : ℕ) → have_byte xs a ≡ true → have_byte (xs ++ ys) a ≡ true
have_first xs ys a is = have_append xs ys a ∙ in_left (have_byte xs a) (have_byte ys a) is

pub have_rest : (xs ys : List Bytes) (a : ℕ) → have_byte ys a ≡ true → have_byte (xs ++ ys) a ≡ true
have_rest xs ys a is = have_append xs ys a ∙ in_right (have_byte xs a) (have_byte ys a) is

-- WHAT THE AREA NAMES

-- none of these was written
abbrev pub AreUnwritten : List Write → List Bytes → Type 0
AreUnwritten ws xs = (a : ℕ) → have_byte (bytes_of_all ws) a ≡ true → have_byte xs a ≡ false

abbrev AreAlike : Here → Here → ℕ → Type 0
AreAlike here there t = (named_here there t ≡ named_here here t) × (looked_here there t ≡ looked_here here t)

alike_by : (here there : Here) (t : ℕ) (o : Option Area) → there.file t ≡ here.file t
    → ((area : Area) → o ≡ Some area → LooksAlike (view here) (view there) area (here.file t).pc)
    → (option_map_or (λ area. named (view there) area (there.file t).pc) o names.Nothing ≡ option_map_or (λ area. named (view here) area (here.file t).pc) o names.Nothing)
    × (option_map_or (looked_over (view there)) o [] ≡ option_map_or (looked_over (view here)) o [])
alike_by here there t None same alike = (refl, refl)
alike_by here there t (Some area) same alike =
    let l = alike area refl in
    (ap (λ (f : Saved). named (view there) area f.pc) same ∙ l.named_is, l.looked_is)

unwritten_view : (here : Here) (a : Around) (xs : List Bytes) → IsPassed here a → AreUnwritten a.lost xs → (x : ℕ) → have_byte xs x ≡ true → view here x ≡ view (passed here a) x
unwritten_view here a xs by clear x is = view_passes here a x by (out_of (have_byte (bytes_of_all a.lost) x) (have_byte xs x) is (clear x))

alike : (here : Here) (a : Around) (t : ℕ) → IsPassed here a → a.file t ≡ here.file t → AreUnwritten a.lost (looked_here here t) → AreAlike here (passed here a) t
alike here a t by same clear =
    alike_by here (passed here a) t (area_here here t) same
    (λ area is. looks_alike (view here) (view (passed here a)) area (here.file t).pc
    (λ x in_it. sym (unwritten_view here a (looked_over (view here) area) by (subst (λ o. AreUnwritten a.lost (option_map_or (looked_over (view here)) o [])) is clear) x in_it)))

alike_back : (here : Here) (a : Around) (t : ℕ) → IsPassed here a → a.file t ≡ here.file t → AreUnwritten a.lost (looked_here (passed here a) t) → AreAlike here (passed here a) t
alike_back here a t by same clear =
    let back = alike_by (passed here a) here t (area_here here t) (sym same)
    (λ area is. looks_alike (view (passed here a)) (view here) area (a.file t).pc
    (λ x in_it. unwritten_view here a (looked_over (view (passed here a)) area) by (subst (λ o. AreUnwritten a.lost (option_map_or (looked_over (view (passed here a))) o [])) is clear) x in_it)) in
    (sym back.0, sym back.1)

-- FACTS

looked_back : (here : Here) (a : Around) (o : Option ℕ) → ((t : ℕ) → o ≡ Some t → a.file t ≡ here.file t) → IsPassed here a → AreUnwritten a.lost (looked_on (passed here a) o)
    → looked_on (passed here a) o ≡ looked_on here o
looked_back here a None same by clear = refl
looked_back here a (Some t) same by clear = (alike_back here a t by (same t refl) clear).1

looked_same : (here : Here) (a : Around) (o : Option ℕ) → ((t : ℕ) → o ≡ Some t → a.file t ≡ here.file t) → IsPassed here a → AreUnwritten a.lost (looked_on here o)
    → looked_on (passed here a) o ≡ looked_on here o
looked_same here a None same by clear = refl
looked_same here a (Some t) same by clear = (alike here a t by (same t refl) clear).1

inside_same : (here : Here) (a : Around) (o : Option ℕ) → ((t : ℕ) → o ≡ Some t → a.file t ≡ here.file t) → IsPassed here a → AreUnwritten a.lost (looked_on here o)
    → inside_on (passed here a) o ≡ inside_on here o
inside_same here a None same by clear = refl
inside_same here a (Some t) same by clear =
    ap (λ n. is_inside_named n (a.file t).pc) (alike here a t by (same t refl) clear).0
    ∙ ap (λ (f : Saved). is_inside_named (named_here here t) f.pc) (same t refl)

moves_out_same : (here : Here) (a : Around) (files files' : List (ℕ × Saved)) (o : Option ℕ) → files' ≡ files → ((t : ℕ) → o ≡ Some t → a.file t ≡ here.file t) → IsPassed here a → AreUnwritten a.lost (looked_on here o)
    → moves_out_on (passed here a) (with_files files' (passed here a)) o ≡ moves_out_on here (with_files files here) o
moves_out_same here a files files' None is same by clear = refl
moves_out_same here a files files' (Some t) is same by clear =
    ap (λ n. not (is_inside_named n (file_among files' t (a.file t)).pc)) (alike here a t by (same t refl) clear).0
    ∙ ap (λ (fs : List (ℕ × Saved)). not (is_inside_named (named_here here t) (file_among fs t (a.file t)).pc)) is
    ∙ ap (λ (f : Saved). not (is_inside_named (named_here here t) (file_among files t f).pc)) (same t refl)

-- of two lists of which none is written
parts_unwritten : (ws : List Write) (xs ys : List Bytes) → AreUnwritten ws (xs ++ ys) → AreUnwritten ws xs × AreUnwritten ws ys
parts_unwritten ws xs ys clear = (
  λ a is. (or_parts (have_byte xs a) (have_byte ys a) (sym (have_append xs ys a) ∙ clear a is)).0,
  λ a is. (or_parts (have_byte xs a) (have_byte ys a) (sym (have_append xs ys a) ∙ clear a is)).1,
)

-- what a plain event touches
pub touched_is : (here : Here) (was : Bool) (e : Entry) → is_plain (choice_of e) here ≡ true → (facts_in here was e).touched ≡ touched_by (choice_of e) here
touched_is here was e plain = ap (λ b. cond b (touched_by (choice_of e) here) no_bytes) plain

facts_by : (here : Here) (a : Around) (was : Bool) (e : Entry) → IsPassed here a → is_plain (choice_of e) here ≡ true → looked_on (passed here a) (runs here) ≡ looked_on here (runs here)
    → IsClear a.lost (touched_by (choice_of e) here) → facts_in (passed here a) was e ≡ facts_in here was e
facts_by here a was e by plain looked clear =
    let c = choice_of e in
    let there = passed here a in
    let parts = parts_unwritten a.lost (footprint c here).reads (looked_on here (runs here)) clear.unread in
    let own : IsClear a.lost (footprint c here) = record { unread = parts.0; unwritten = clear.unwritten } in
    let plain_there = plain_passes c here a by ∙ plain in
    let did = done_is_plain c here plain in
    let did_there = done_is_plain c there plain_there in
    let quiet : (done_of c there).interrupted ≡ (done_of c here).interrupted = ap (λ (d : Done). d.interrupted) did_there ∙ sym (ap (λ (d : Done). d.interrupted) did) in
    let files : (done_of c there).files ≡ (done_of c here).files =
    ap (λ (d : Done). d.files) did_there ∙ ap (λ (x : PlainDone). x.files) (done_passes c here a by plain own) ∙ sym (ap (λ (d : Done). d.files) did) in
    let entered : bytes_of_all (done_of c there).entered ≡ bytes_of_all (done_of c here).entered =
    ap bytes_of_all (ap (λ (d : Done). d.entered) did_there ∙ ap (λ (x : PlainDone). x.entered) (done_passes c here a by plain own) ∙ sym (ap (λ (d : Done). d.entered) did)) in
    let is_plain_too = plain_passes c here a by in
    let reserves = reserved_passes c here a by in
    let inside = inside_same here a (runs here) by.file by parts.1 in
    let moves = moves_out_same here a (done_of c here).files (done_of c there).files (runs here) files by.file by parts.1 in
    λ i. record {
      entry = e;
      plain = is_plain_too i;
      inside = inside i;
      within = within_by (inside i) was e (quiet i);
      begins = within_by (inside i) was e (quiet i) && not was;
      moves_out = is_plain_too i && moves i;
      touched = cond (is_plain_too i) (record { reads = (footprint_passes c here a by i).reads ++ looked i; writes = (footprint_passes c here a by i).writes }) no_bytes;
      reserves = cond (is_plain_too i) (reserves i) None;
      entered = cond (is_plain_too i) (entered i) [];
    }

pub facts_pass : (here : Here) (a : Around) (was : Bool) (e : Entry) → IsPassed here a → is_plain (choice_of e) here ≡ true → IsClear a.lost (facts_in here was e).touched
    → facts_in (passed here a) was e ≡ facts_in here was e
facts_pass here a was e by plain given =
    let clear = subst (IsClear a.lost) (touched_is here was e plain) given in
    let parts = parts_unwritten a.lost (footprint (choice_of e) here).reads (looked_on here (runs here)) clear.unread in
    facts_by here a was e by plain (looked_same here a (runs here) by.file by parts.1) clear

pub facts_pass_back : (here : Here) (a : Around) (was : Bool) (e : Entry) → IsPassed here a → is_plain (choice_of e) here ≡ true → IsClear a.lost (facts_in (passed here a) was e).touched
    → facts_in (passed here a) was e ≡ facts_in here was e
facts_pass_back here a was e by plain given =
    let c = choice_of e in
    let there = passed here a in
    let clear = subst (IsClear a.lost) (touched_is there was e (plain_passes c here a by ∙ plain)) given in
    let parts = parts_unwritten a.lost (footprint c there).reads (looked_on there (runs here)) clear.unread in
    let looked = looked_back here a (runs here) by.file by parts.1 in
    let touched = footprint_passes c here a by in
    let clear_here : IsClear a.lost (touched_by c here) = record {
      unread = λ x is. ap (λ (p : Footprint). have_byte (p.reads ++ looked_on here (runs here)) x) (sym touched) ∙ ap (λ (l : List Bytes). have_byte ((footprint c there).reads ++ l) x) (sym looked) ∙ clear.unread x is;
      unwritten = λ x is. ap (λ (p : Footprint). have_byte p.writes x) (sym touched) ∙ clear.unwritten x is;
    } in
    facts_by here a was e by plain looked clear_here
