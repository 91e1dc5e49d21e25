-- The frame of a handler on the stack: who loses a reservation of it, that it can be read, and where it lies.
use Rattle.process.proofs.Common.{nat_tests, ◌≡◌, ℕ, suc, ◌+◌, ◌*◌, List, [], ◌∷◌, take, drop, set, length, refl, sym, ap, ◌∙◌, arith, Bool, true, false, is_some, Option, Some, None, option_map, and_parts, length-set, take_all, after_writes, each_byte, can_write_frame, frame_writes, stack_pointer, Action, HartState, IsWritten, Saved, lost_unless, IsAlike, Map, are_visible, byte_in, can_write_in, writable_is_visible, lost_after, cond, length-append, get_or-set_other, get_or-set_same, frame_at, frame_words, handler_file, words_stored, Zeroed, has_reserved, lost_by, ◌++◌}
use Rattle.std.specs.Prelude.{replicate}
use Rattle.mach_types.specs.Kernel.SignalFrames.{context_words, first_address, frame_size, info_words, second_address, wants_info, words_of_frame}
use Rattle.mach_types.specs.declared.signal_words.Fault.{Fault}
use Rattle.mach_types.proofs.Laws.{each_byte-split}
use Rattle.process.proofs.Interruptions.{written_by}

-- RESERVATIONS

-- 8 bytes and the run behind them are one run
lost_more : (at n : ℕ) (r : Option ℕ) → lost_by (at + 8) n (lost_by at 8 r) ≡ lost_by at (8 + n) r
lost_more at n None = refl
lost_more at n (Some r) = go (has_reserved r at 8) refl
  where
    go : (b : Bool) → has_reserved r at 8 ≡ b → lost_by (at + 8) n (cond b None (Some r)) ≡ lost_by at (8 + n) (Some r)
    go true lost = grind (arith, nat_tests)
    go false stays = grind (arith, nat_tests)

-- words one behind the other are a run of bytes
lost_words : (at : ℕ) (ws : List ℕ) (r : Option ℕ) → lost_after (words_stored at ws) r ≡ lost_by at (8 * length ws) r
lost_words at [] None = refl
lost_words at [] (Some r) = refl
lost_words at (w ∷ ws) r =
    let count : 8 + 8 * length ws ≡ 8 * suc (length ws) = omega arith in
    lost_words (at + 8) ws (lost_by at 8 r) ∙ lost_more at (8 * length ws) r ∙ ap (λ n. lost_by at n r) count

registers_stored : (x : List ℕ) → length x ≡ 32 → length (take 31 (drop 1 x)) ≡ 31
registers_stored [] long = absurd (omega (arith, long))
registers_stored (y ∷ ys) long = ap length (take_all 31 ys (omega (arith, long))) ∙ omega (arith, long)

count_plain : (x : Saved) (mask : ℕ) → length x.file.x ≡ 32 → length (frame_words x mask) ≡ 34
count_plain x mask long =
    let known = registers_stored x.file.x long in
    let both = length-append (take 31 (drop 1 x.file.x)) (mask ∷ 0 ∷ []) in
    omega (arith, known, both)

count_info : (s : ℕ) (fault : Option Fault) → length (info_words s fault) ≡ 16
count_info s None = refl
count_info s (Some f) = refl

count_informed : (s : ℕ) (fault : Option Fault) (x : Saved) (mask : ℕ) → length x.file.x ≡ 32 → length (info_words s fault ++ context_words x mask) ≡ 136
count_informed s fault x mask long =
    let told = count_info s fault in
    let known = registers_stored x.file.x long in
    let nothing : List ℕ = replicate 66 0 in
    let zeros : length nothing ≡ 66 = refl in
    let context = length-append (take 31 (drop 1 x.file.x)) nothing in
    let both = length-append (info_words s fault) (context_words x mask) in
    omega (arith, told, known, zeros, context, both)

-- the words of a frame fill its bytes
count_by : (form : Bool) (s : ℕ) (fault : Option Fault) (x : Saved) (mask : ℕ) → length x.file.x ≡ 32
    → 8 * length (cond form (info_words s fault ++ context_words x mask) (frame_words x mask)) ≡ cond form 1088 272
count_by true s fault x mask long = let n = count_informed s fault x mask long in omega (arith, n)
count_by false s fault x mask long = let n = count_plain x mask long in omega (arith, n)

count_words : (s : ℕ) (a : Action) (fault : Option Fault) (x : Saved) (mask : ℕ) → length x.file.x ≡ 32 → 8 * length (words_of_frame s a fault x mask) ≡ frame_size a
count_words s a fault x mask long = count_by (wants_info a) s fault x mask long

frame_lost : (b : Bool) (s : ℕ) (a : Action) (fault : Option Fault) (x : Saved) (mask : ℕ) (o : Option HartState) → length x.file.x ≡ 32
    → option_map (lost_unless b (Zeroed (frame_at a (stack_pointer x)) (frame_size a) ∷ [])) o ≡ option_map (lost_unless b (frame_writes s a fault x mask)) o
frame_lost b s a fault x mask None long = refl
frame_lost true s a fault x mask (Some y) long = refl
frame_lost false s a fault x mask (Some y) long =
    let at = frame_at a (stack_pointer x) in
    let same : lost_after (frame_writes s a fault x mask) y.reserved ≡ lost_by at (frame_size a) y.reserved =
    lost_words at (words_of_frame s a fault x mask) y.reserved ∙ ap (λ n. lost_by at n y.reserved) (count_words s a fault x mask long) in
    ap (λ r. let z : HartState = record y { reserved = r } in Some z) (sym same)

-- where the handler's stack pointer is, the frame lies
pub handler_stack : (s : ℕ) (a : Action) (x : Saved) → length x.file.x ≡ 32 → stack_pointer (handler_file s a x) ≡ frame_at a (stack_pointer x)
handler_stack s a saved long =
    let at = frame_at a (stack_pointer saved) in
    let one = first_address a at in
    let two = second_address a at in
    let x = saved.file.x in
    let arguments : List ℕ = set (set (set x 10 s) 11 one) 12 two in
    let same : length arguments ≡ 32 = length-set (set (set x 10 s) 11 one) 12 two ∙ length-set (set x 10 s) 11 one ∙ length-set x 10 s ∙ long in
    get_or-set_other (set arguments 2 at) 1 2 _ 0 (omega arith) ∙ get_or-set_same arguments 2 at 0 (omega (arith, same))

-- so who loses a reservation of the bytes there loses it of the frame
pub frame_is_lost : (b : Bool) (s : ℕ) (a : Action) (fault : Option Fault) (x : Saved) (mask at size : ℕ) (o : Option HartState) → length x.file.x ≡ 32
    → at ≡ stack_pointer (handler_file s a x) → size ≡ frame_size a
    → option_map (lost_unless b (Zeroed at size ∷ [])) o ≡ option_map (lost_unless b (frame_writes s a fault x mask)) o
frame_is_lost b s a fault x mask at size o long is bytes =
    ap (λ n. option_map (lost_unless b (Zeroed n size ∷ [])) o) (is ∙ handler_stack s a x long)
    ∙ ap (λ n. option_map (lost_unless b (Zeroed (frame_at a (stack_pointer x)) n ∷ [])) o) bytes ∙ frame_lost b s a fault x mask o long

-- PAGES

words_visible : (m : Map) (at : ℕ) (ws : List ℕ) → each_byte (λ a. is_some (byte_in m a)) at (8 * length ws) ≡ true → are_visible m (words_stored at ws) ≡ true
words_visible m at [] all = refl
words_visible m at (w ∷ ws) all =
    let test : ℕ → Bool = λ a. is_some (byte_in m a) in
    let count : 8 * suc (length ws) ≡ 8 + 8 * length ws = omega arith in
    let parts = and_parts (each_byte test at 8) (each_byte test (at + 8) (8 * length ws)) (sym (each_byte-split test at 8 (8 * length ws)) ∙ ap (each_byte test at) (sym count) ∙ all) in
    rw (parts.0) (words_visible m (at + 8) ws parts.1)

pub frame_written : (m m' : Map) (s : ℕ) (a : Action) (fault : Option Fault) (x : Saved) (mask : ℕ) → length x.file.x ≡ 32
    → can_write_frame (can_write_in m) a x ≡ true → IsAlike m m'
    → ((b : ℕ) → byte_in m' b ≡ after_writes (frame_writes s a fault x mask) (byte_in m) b) → IsWritten (frame_writes s a fault x mask) m m'
unfolding can_write_frame
frame_written m m' s a fault x mask long may alike bytes =
    let at = frame_at a (stack_pointer x) in
    let words = words_of_frame s a fault x mask in
    let count = count_words s a fault x mask long in
    let seen = writable_is_visible m at (frame_size a) may in
    written_by m m' (frame_writes s a fault x mask) alike (words_visible m at words (ap (each_byte (λ b. is_some (byte_in m b)) at) count ∙ seen)) bytes
