-- Steps of loops over recipients.
use Rattle.std.proofs.Common.{◌≡◌, ℕ, zero, suc, ◌+◌, ◌-◌, ◌<◌, List, [], ◌∷◌, ◌++◌, drop, length, get_or, Ok, Err, refl, sym, ap, ◌∙◌, append_assoc, arith}
use Rattle.std.specs.List.{AllByRecursion}
use Rattle.std.proofs.lemmas.List.{drop_more, append-nil}
use Rattle.byte_reader.specs.Reading.{Read, ◌>>=◌}
use Rattle.slot_bytes.specs.Layout.{IsTextFrom, all_waiting, counted, each_counted, place_at, places_from}
use Rattle.slot_bytes.specs.Reading.{long_text_at, rcpts_at}
use Rattle.slot_bytes.specs.Views.{behind}

abbrev Texts : Type 0
Texts = List (List ℕ)

-- ---- reading

one_more : (text : List ℕ) (done : Texts) (read : Read Texts) → behind done (read >>= λ more. Ok (text ∷ more.0, more.1)) ≡ behind (done ++ text ∷ []) read
one_more text done (Ok x) = ap (λ (l : Texts). let r : Read Texts = Ok (l, x.1) in r) (sym (append_assoc done (text ∷ []) x.0))
one_more text done (Err left) = refl

pub rcpts_none : (read : Read Texts) → read ≡ behind [] read
rcpts_none (Ok x) = refl
rcpts_none (Err left) = refl

pub rcpts_step : (left : ℕ) (bytes text rest : List ℕ) (done : Texts) → 0 < left → long_text_at 1 256 bytes ≡ Ok (text, rest)
    → behind done (rcpts_at left bytes) ≡ behind (done ++ text ∷ []) (rcpts_at (left - 1) rest)
unfolding rcpts_at
rcpts_step zero bytes text rest done some e = absurd (omega arith)
rcpts_step (suc n) bytes text rest done some e =
    let before : suc n - 1 ≡ n = omega arith in
    rw (e, before) (one_more text done (rcpts_at n rest))

pub rcpts_stop : (left : ℕ) (bytes : List ℕ) (stop : ℕ) (done : Texts) → 0 < left → long_text_at 1 256 bytes ≡ Err stop → behind done (rcpts_at left bytes) ≡ Err stop
unfolding rcpts_at
rcpts_stop zero bytes stop done some e = absurd (omega arith)
rcpts_stop (suc n) bytes stop done some e = rw e refl

pub rcpts_end : (left : ℕ) (bytes : List ℕ) (done : Texts) → left ≡ 0 → behind done (rcpts_at left bytes) ≡ Ok (done, bytes)
unfolding rcpts_at
rcpts_end left bytes done e = rw (e, append-nil done) refl

-- ---- writing

pub put_step : (out : List ℕ) (texts : Texts) (i : ℕ) (all : List ℕ) → i < length texts → out ++ each_counted (drop i texts) ≡ all
    → (out ++ counted (get_or texts i [])) ++ each_counted (drop (i + 1) texts) ≡ all
put_step out texts i all lt e =
    append_assoc out (counted (get_or texts i [])) (each_counted (drop (i + 1) texts))
    ∙ ap (λ (l : Texts). out ++ each_counted l) (sym (drop_more texts i [] lt)) ∙ e

pub fits_at : (texts : Texts) (i : ℕ) → i < length texts → AllByRecursion (IsTextFrom 1 256) (drop i texts) → IsTextFrom 1 256 (get_or texts i []) × AllByRecursion (IsTextFrom 1 256) (drop (i + 1) texts)
fits_at texts i lt all = let h = rw (drop_more texts i [] lt) at all in (h.0, h.1)

pub waiting_step : (out : List ℕ) (texts : Texts) (i : ℕ) (all : List ℕ) → i < length texts → out ++ all_waiting (drop i texts) ≡ all
    → (out ++ 0 ∷ []) ++ all_waiting (drop (i + 1) texts) ≡ all
waiting_step out texts i all lt e =
    append_assoc out (0 ∷ []) (all_waiting (drop (i + 1) texts))
    ∙ ap (λ (l : Texts). out ++ all_waiting l) (sym (drop_more texts i [] lt)) ∙ e

-- ---- places

pub places_step : (done marks : List ℕ) (i : ℕ) (all : List ℕ) → i < length marks → done ++ places_from i (drop i marks) ≡ all
    → (done ++ place_at i (get_or marks i 0)) ++ places_from (i + 1) (drop (i + 1) marks) ≡ all
places_step done marks i all lt e =
    append_assoc done (place_at i (get_or marks i 0)) (places_from (i + 1) (drop (i + 1) marks))
    ∙ ap (λ (l : List ℕ). done ++ places_from i l) (sym (drop_more marks i 0 lt)) ∙ e
