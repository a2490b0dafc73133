-- One call more adds its answer to those so far.
use Rattle.std.proofs.Common.{◌≡◌, ℕ, ◌+◌, ◌-◌, ◌%◌, ◌<◌, ◌^◌, Bool, true, false, List, [], ◌∷◌, ◌++◌, map, refl, sym, ap, ◌∙◌, arith}
use Rattle.std.specs.Prelude.{Some, ◌==◌, ◌||◌}
use Rattle.std.proofs.lemmas.Bool.Decides.{nat_tests}
use Rattle.std.specs.List.{range_with_len}
use Rattle.std.proofs.lemmas.List.FromFn.{map-range_with_len_more}
use Rattle.fw_memory.specs.CallCounter.{CallCounter, answers, one_call}
use Rattle.fw_memory.specs.MemDiceView.{MemDiceView, salt_of, dice_view_of}
use Rattle.fw_outside.specs.ClockView.{GaveTime}
use Rattle.fw_outside.specs.ToldList.{AddsOne}
use Rattle.fw_outside.specs.DiceView.{GaveSalt}
use Rattle.fw_memory.specs.MemClockView.{MemClockView, clock_view_of, moment_next, moment_of}

adds_at : {A : Type 0} (answer : ℕ → A) (one : A) (calls next : ℕ) (over last : Bool) → (last ≡ false → next ≡ calls + 1) → (over ≡ false → one ≡ answer calls) → AddsOne one (answers answer (record { calls = calls; over = over })) (answers answer (record { calls = next; over = over || last }))
adds_at answer one calls next true last step is = tt
adds_at answer one calls next false true step is = tt
adds_at answer one calls next false false step is =
    let more : map answer (range_with_len 0 (calls + 1)) ≡ map answer (range_with_len 0 calls) ++ answer calls ∷ [] = map-range_with_len_more answer 0 calls calls (omega arith) in
    rw (step refl, is refl) (ap Some (sym more))

not_last : (calls : ℕ) → calls < 2 ^ 64 → (calls == 2 ^ 64 - 1) ≡ false → (calls + 1) % 2 ^ 64 ≡ calls + 1
not_last calls fits other = grind (arith, nat_tests)

pub adds : {A : Type 0} (answer : ℕ → A) (one : A) (t : CallCounter) → t.calls < 2 ^ 64 → (t.over ≡ false → one ≡ answer t.calls) → AddsOne one (answers answer t) (answers answer (one_call t))
adds answer one t fits is = adds_at answer one t.calls ((t.calls + 1) % 2 ^ 64) t.over (t.calls == 2 ^ 64 - 1) (not_last t.calls fits) is

next_is : (w : MemClockView) → w.counter.over ≡ false → moment_next w ≡ moment_of w.moments w.counter.calls
next_is w is = rw is refl

pub gave_time : (w new : MemClockView) (moment : ℕ) → w.counter.calls < 2 ^ 64 → moment ≡ moment_next w → new ≡ record w { counter = one_call w.counter } → GaveTime moment (clock_view_of w) (clock_view_of new)
gave_time w new moment fits answer is = rw is (adds (moment_of w.moments) moment w.counter fits (λ e. answer ∙ next_is w e))

pub gave_salt : (c new : MemDiceView) (salt : List ℕ) → c.counter.calls < 2 ^ 64 → salt ≡ salt_of c.first c.counter.calls → new ≡ record c { counter = one_call c.counter } → GaveSalt salt (dice_view_of c) (dice_view_of new)
gave_salt c new salt fits answer is = rw is (adds (salt_of c.first) salt c.counter fits (λ _. answer))
