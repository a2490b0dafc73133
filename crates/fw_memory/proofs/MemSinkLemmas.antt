-- How a gift to a sink in memory is cut short.
use Rattle.std.proofs.Common.{◌≡◌, ℕ, ◌<◌, List, [], ◌++◌, length, take, drop, refl, sym, arith, ap}
use Rattle.std.proofs.lemmas.List.{append-nil, take-append-drop, length-drop}
use Rattle.fw_outside.specs.Counts.{Rose}
use Rattle.fw_outside.specs.SinkView.{Cut}
use Rattle.fw_memory.specs.MemSinkView.{MemSinkView, sink_view_of}

-- nothing was given, and the failure was counted
pub cut_at_once : (bytes : List ℕ) (old new : MemSinkView) → new.given ≡ old.given → new.shut ≡ old.shut → new.mark ≡ old.mark → Rose old.faults new.faults → Cut bytes (sink_view_of old) (sink_view_of new)
cut_at_once bytes old new given shut mark rose =
    let nothing = append-nil old.given in
    record { part = []; rest = bytes; count = new.faults; cut = refl; short = λ some. some; rose = rose; is = cc }

-- what there was room for was given, and the failure was counted
pub cut_short : (bytes : List ℕ) (space : ℕ) (old new : MemSinkView) → space < length bytes → new.given ≡ old.given ++ take space bytes → new.shut ≡ old.shut → new.mark ≡ old.mark → Rose old.faults new.faults → Cut bytes (sink_view_of old) (sink_view_of new)
cut_short bytes space old new more given shut mark rose = record {
  part = take space bytes;
  rest = drop space bytes;
  count = new.faults;
  cut = sym (take-append-drop space bytes);
  short = λ _ none. let long = ap length none in absurd (omega (arith, length-drop space bytes, long));
  rose = rose;
  is = cc;
}
