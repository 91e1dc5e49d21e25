-- The words of a hart tell all of it but its counts and its credit.
use Rattle.std.proofs.Common.{◌≡◌, ℕ, List, ◌++◌, map, ap}
use Rattle.mach_types.specs.declared.events.Tid.{Tid}
use Rattle.mach_types.specs.declared.registers.Regs.{Regs}
use Rattle.mach_types.specs.declared.user_memory.Store.{Store}
use Rattle.hart_state.specs.declared.hart.HartState.{HartState}
use Rattle.place_keys.specs.HartWords.{hart_words, store_words, tid_word}
use Rattle.place_keys.proofs.Alike.{uncounted}
use Rattle.place_keys.specs.Differences.{sparse_words}
use Rattle.place_keys.specs.Words.{of_bool, of_list, of_option, word}
use Rattle.place_keys.proofs.Codes.{IsKey, after, bool_key, list_key, option_key, whole_key, word_key}
use Rattle.place_keys.proofs.DifferenceCodes.{sparse_key}

tid_key : IsKey (λ (t : Tid). t) tid_word
tid_key a b x y e =
    let number : a.0 ≡ b.0 = cc in
    (ap (λ n. let t : Tid = record { 0 = n } in t) number, cc)

store_key : IsKey (λ (w : Store). w) store_words
store_key a b x y e =
    let at : a.at ≡ b.at = cc in
    let size : a.size ≡ b.size = cc in
    let value : a.value ≡ b.value = cc in
    (same a.at b.at a.size b.size a.value b.value at size value, cc)
  where
    store : ℕ → ℕ → ℕ → Store
    store at size value = record { at = at; size = size; value = value }

    same : (p q m n u v : ℕ) → p ≡ q → m ≡ n → u ≡ v → store p m u ≡ store q n v
    same p q m n u v e f g = cc

-- what follows each of its fields
abbrev past_reserved : HartState → List ℕ
past_reserved x = word x.cid

abbrev past_waits : HartState → List ℕ
past_waits x = of_option word x.reserved ++ past_reserved x

abbrev past_restart : HartState → List ℕ
past_restart x = of_option word x.waits ++ past_waits x

abbrev past_requests : HartState → List ℕ
past_requests x = of_bool x.restart ++ past_restart x

abbrev past_running : HartState → List ℕ
past_running x = word x.requests ++ past_requests x

abbrev past_buffer : HartState → List ℕ
past_buffer x = of_option tid_word x.running ++ past_running x

abbrev past_pc : HartState → List ℕ
past_pc x = of_list store_words x.buffer ++ past_buffer x

abbrev past_file : HartState → List ℕ
past_file x = word x.pc ++ past_pc x

pub hart_key : IsKey uncounted hart_words
hart_key a b x y e =
    let file = after (λ xs. xs) sparse_words sparse_key a.file.x b.file.x (past_file a) (past_file b) x y e in
    let pc = after (λ n. n) word word_key a.pc b.pc (past_pc a) (past_pc b) x y file.1 in
    let buffer = after (λ xs. xs) (of_list store_words) (whole_key store_words store_key) a.buffer b.buffer (past_buffer a) (past_buffer b) x y pc.1 in
    let running = after (λ o. o) (of_option tid_word) (option_key tid_word tid_key) a.running b.running (past_running a) (past_running b) x y buffer.1 in
    let requests = after (λ n. n) word word_key a.requests b.requests (past_requests a) (past_requests b) x y running.1 in
    let restart = after (λ n. n) of_bool bool_key a.restart b.restart (past_restart a) (past_restart b) x y requests.1 in
    let waits = after (λ o. o) (of_option word) (option_key word word_key) a.waits b.waits (past_waits a) (past_waits b) x y restart.1 in
    let reserved = after (λ o. o) (of_option word) (option_key word word_key) a.reserved b.reserved (past_reserved a) (past_reserved b) x y waits.1 in
    let cid = word_key a.cid b.cid x y reserved.1 in
    (same a b file.0 pc.0 buffer.0 running.0 requests.0 restart.0 waits.0 reserved.0 cid.0, cid.1)
  where
    same : (a b : HartState) → a.file.x ≡ b.file.x → a.pc ≡ b.pc → a.buffer ≡ b.buffer → a.running ≡ b.running → a.requests ≡ b.requests → a.restart ≡ b.restart
        → a.waits ≡ b.waits → a.reserved ≡ b.reserved → a.cid ≡ b.cid → uncounted a ≡ uncounted b
    same a b f p s r q t w v c = let g : a.file ≡ b.file = ap (λ xs. let r : Regs = record { x = xs } in r) f in cc

pub harts_key : IsKey (map uncounted) (of_list hart_words)
harts_key = list_key uncounted hart_words hart_key
