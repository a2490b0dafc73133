-- A front decides what is read of the head.
use Rattle.std.proofs.Common.{ℕ, zero, suc, ◌+◌, ◌*◌, List, [], ◌∷◌, Ok}
use Rattle.byte_reader.specs.Reading.{Read, ◌>>=◌, byte_at, bytes_at, short_at}
use Rattle.byte_reader.specs.Exact.{IsStable}
use Rattle.byte_reader.proofs.StableLemmas.{stable_then, stable_end, stable_byte, stable_bytes, stable_short}
use Rattle.slot_bytes.specs.Reading.{Preamble, Head, preamble_at, body_len_at, long_text_at, rcpts_at, low_most, head_at, head_of}
use Rattle.slot_bytes.specs.Layout.{mark_count}

abbrev Texts : Type 0
Texts = List (List ℕ)

stable_long_text : (least most : ℕ) → IsStable (List ℕ) (long_text_at least most)
unfolding long_text_at
stable_long_text least most = stable_then ℕ (List ℕ) (short_at least most) (λ n. bytes_at n) (stable_short least most) (λ n. stable_bytes n)

stable_rcpts : (n : ℕ) → IsStable Texts (rcpts_at n)
unfolding rcpts_at
stable_rcpts zero = stable_end Texts []
stable_rcpts (suc n) =
    stable_then (List ℕ) Texts (long_text_at 1 256) (λ text bytes. rcpts_at n bytes >>= λ more. Ok (text ∷ more.0, more.1)) (stable_long_text 1 256)
    (λ text. stable_then Texts Texts (rcpts_at n) (λ more bytes. Ok (text ∷ more, bytes)) (stable_rcpts n) (λ more. stable_end Texts (text ∷ more)))

abbrev low_of : ℕ → List ℕ → Read ℕ
low_of high bytes = short_at 0 (low_most high) bytes >>= λ low. Ok (65536 * high + low.0, low.1)

abbrev high_of : List ℕ → Read ℕ
high_of bytes = short_at 0 1024 bytes >>= λ high. low_of high.0 high.1

abbrev second_of : List ℕ → Read ℕ
second_of bytes = short_at 0 0 bytes >>= λ second. high_of second.1

stable_low : (high : ℕ) → IsStable ℕ (low_of high)
stable_low high = stable_then ℕ ℕ (short_at 0 (low_most high)) (λ low bytes. Ok (65536 * high + low, bytes)) (stable_short 0 (low_most high)) (λ low. stable_end ℕ (65536 * high + low))

stable_body_len : IsStable ℕ body_len_at
unfolding body_len_at
stable_body_len =
    let high : IsStable ℕ high_of = stable_then ℕ ℕ (short_at 0 1024) low_of (stable_short 0 1024) stable_low in
    let second : IsStable ℕ second_of = stable_then ℕ ℕ (short_at 0 0) (λ a. high_of) (stable_short 0 0) (λ a. high) in
    stable_then ℕ ℕ (short_at 0 0) (λ a. second_of) (stable_short 0 0) (λ a. second)

abbrev preamble_of : ℕ → ℕ → ℕ → Preamble
preamble_of gate aside version = record { gate = gate; aside = aside; version = version }

abbrev version_of : ℕ → ℕ → List ℕ → Read Preamble
version_of gate aside bytes = byte_at 49 50 bytes >>= λ v. Ok (preamble_of gate aside v.0, v.1)

abbrev s_of : ℕ → ℕ → List ℕ → Read Preamble
s_of gate aside bytes = byte_at 83 83 bytes >>= λ s. version_of gate aside s.1

abbrev w_of : ℕ → ℕ → List ℕ → Read Preamble
w_of gate aside bytes = byte_at 87 87 bytes >>= λ w. s_of gate aside w.1

abbrev f_of : ℕ → ℕ → List ℕ → Read Preamble
f_of gate aside bytes = byte_at 70 70 bytes >>= λ f. w_of gate aside f.1

abbrev aside_of : ℕ → List ℕ → Read Preamble
aside_of gate bytes = byte_at 0 255 bytes >>= λ aside. f_of gate aside.0 aside.1

stable_tag : (gate aside : ℕ) → IsStable Preamble (f_of gate aside)
stable_tag gate aside =
    let version : IsStable Preamble (version_of gate aside) = stable_then ℕ Preamble (byte_at 49 50) (λ v bytes. Ok (preamble_of gate aside v, bytes)) (stable_byte 49 50) (λ v. stable_end Preamble (preamble_of gate aside v)) in
    let s : IsStable Preamble (s_of gate aside) = stable_then ℕ Preamble (byte_at 83 83) (λ a. version_of gate aside) (stable_byte 83 83) (λ a. version) in
    let w : IsStable Preamble (w_of gate aside) = stable_then ℕ Preamble (byte_at 87 87) (λ a. s_of gate aside) (stable_byte 87 87) (λ a. s) in
    stable_then ℕ Preamble (byte_at 70 70) (λ a. w_of gate aside) (stable_byte 70 70) (λ a. w)

stable_preamble : IsStable Preamble preamble_at
unfolding preamble_at
stable_preamble =
    stable_then ℕ Preamble (byte_at 1 255) aside_of (stable_byte 1 255)
    (λ gate. stable_then ℕ Preamble (byte_at 0 255) (f_of gate) (stable_byte 0 255) (stable_tag gate))

abbrev rcpts_of : Preamble → ℕ → ℕ → List ℕ → List ℕ → List ℕ → Read Head
rcpts_of start len n marks from bytes = rcpts_at n bytes >>= λ rcpts. Ok (head_of start len marks from rcpts.0, rcpts.1)

abbrev from_of : Preamble → ℕ → ℕ → List ℕ → List ℕ → Read Head
from_of start len n marks bytes = long_text_at 0 256 bytes >>= λ from. rcpts_of start len n marks from.0 from.1

abbrev marks_of : Preamble → ℕ → ℕ → List ℕ → Read Head
marks_of start len n bytes = bytes_at (mark_count start.version n) bytes >>= λ marks. from_of start len n marks.0 marks.1

abbrev count_of : Preamble → ℕ → List ℕ → Read Head
count_of start len bytes = short_at 1 1000 bytes >>= λ n. marks_of start len n.0 n.1

abbrev len_of : Preamble → List ℕ → Read Head
len_of start bytes = body_len_at bytes >>= λ len. count_of start len.0 len.1

stable_tail : (start : Preamble) (len n : ℕ) (marks from : List ℕ) → IsStable Head (rcpts_of start len n marks from)
stable_tail start len n marks from = stable_then Texts Head (rcpts_at n) (λ rcpts bytes. Ok (head_of start len marks from rcpts, bytes)) (stable_rcpts n) (λ rcpts. stable_end Head (head_of start len marks from rcpts))

pub stable_head : IsStable Head head_at
unfolding head_at
stable_head =
    stable_then Preamble Head preamble_at len_of stable_preamble
    (λ start. stable_then ℕ Head body_len_at (count_of start) stable_body_len
    (λ len. stable_then ℕ Head (short_at 1 1000) (marks_of start len) (stable_short 1 1000)
    (λ n. stable_then (List ℕ) Head (bytes_at (mark_count start.version n)) (from_of start len n) (stable_bytes (mark_count start.version n))
    (λ marks. stable_then (List ℕ) Head (long_text_at 0 256) (rcpts_of start len n marks) (stable_long_text 0 256) (stable_tail start len n marks)))))
