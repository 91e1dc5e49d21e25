-- The state that a machine keeps of a hart has all that the lines of the hart say.
use Rattle.std.proofs.Common.{◌≡◌, ℕ, List, ◌++◌, Option, Some, None, refl, sym, ap, ◌∙◌, append_assoc}
use Rattle.std.specs.Option.{option_and_then, option_map, option_map_or}
use Rattle.hart_state.specs.declared.hart.HartState.{HartState}
use Rattle.mach_types.specs.declared.events.Tid.{Tid}
use Rattle.mach_types.specs.declared.sequences.Named.TheVariants as names
use Rattle.block_model.specs.Here.{Here, runs, waiting_here}
use Rattle.block_model.specs.Ids.{id_of}
use Rattle.block_model.specs.Sequences.{area_here, named_here}
use Rattle.block_model.specs.Sights.{thread}
use Rattle.process.specs.Harts.{file_on, hart_in, id_on}
use Rattle.process.specs.Sequences.{area_on, named_on}
use Rattle.place_text.specs.Harts.{barrier_line, hart_text, idle_line, idle_text, kept_here, kept_lines, running_text, store_lines, thread_line}
use Rattle.place_text.specs.Registers.{register_lines}
use Rattle.place_text.specs.Sequences.{area_line, names_line}

-- the lines of a state in which thread t runs, with what its area names
abbrev pub running_lines : Here → HartState → ℕ → List ℕ
running_lines here x t =
    (thread_line here.hart t x.pc x.cid ++ register_lines here.hart x.file ++ store_lines here.hart x.buffer)
    ++ kept_lines here.hart x.reserved x.requests x.restart
    ++ barrier_line here.hart x.waits
    ++ (area_line here.hart (area_on here) ++ names_line here.hart (named_on here) x.pc)

-- they are the lines of the hart
pub running_shown : (here : Here) (x : HartState) (t ran events credit : ℕ) → x ≡ hart_in here ran events credit → runs here ≡ Some t
    → running_lines here x t ≡ running_text here t
unfolding running_text
running_shown here x t ran events credit is on =
    let lines : Option ℕ → List ℕ = λ o.
    (thread_line here.hart t (file_on here o).pc (id_on here o) ++ register_lines here.hart (file_on here o).file ++ store_lines here.hart (waiting_here here))
    ++ kept_here here
    ++ barrier_line here.hart here.awaits
    ++ (area_line here.hart (option_and_then (area_here here) o) ++ names_line here.hart (option_map_or (named_here here) o names.Nothing) (file_on here o).pc)
    in
    let earlier = (thread_line here.hart t (here.file t).pc (id_of t here.kernel.ids) ++ register_lines here.hart (here.file t).file ++ store_lines here.hart (waiting_here here))
    ++ kept_here here ++ barrier_line here.hart here.awaits
    in
    ap (λ y. running_lines here y t) is ∙ ap lines on
    ∙ sym (append_assoc earlier (area_line here.hart (area_here here t)) (names_line here.hart (named_here here t) (here.file t).pc))

-- the thread that a state names runs there; and where it names none, none does
tid_of : (o : Option ℕ) (tid : Tid) → option_map thread o ≡ Some tid → o ≡ Some tid.0
tid_of None tid is = cc
tid_of (Some t) tid is = cc

none_of : (o : Option ℕ) → option_map thread o ≡ None → o ≡ None
none_of None is = refl
none_of (Some t) is = cc

pub running_here : (here : Here) (x : HartState) (tid : Tid) (ran events credit : ℕ) → x ≡ hart_in here ran events credit
    → x.running ≡ Some tid → runs here ≡ Some tid.0
running_here here x tid ran events credit is on = tid_of (runs here) tid (sym (ap (λ (y : HartState). y.running) is) ∙ on)

-- the lines of a hart on which a thread runs, and of an idle one
pub running_hart : (here : Here) (t : ℕ) → runs here ≡ Some t → running_text here t ≡ hart_text here
unfolding hart_text
running_hart here t on = rw on refl

pub idle_hart : (here : Here) (x : HartState) (ran events credit : ℕ) → x ≡ hart_in here ran events credit → x.running ≡ None
    → idle_line here.hart ++ store_lines here.hart x.buffer ++ kept_lines here.hart x.reserved x.requests x.restart ≡ hart_text here
unfolding hart_text idle_text
idle_hart here x ran events credit is off =
    let none = none_of (runs here) (sym (ap (λ (y : HartState). y.running) is) ∙ off) in
    ap (λ (y : HartState). idle_line here.hart ++ store_lines here.hart y.buffer ++ kept_lines here.hart y.reserved y.requests y.restart) is
    ∙ rw none refl
