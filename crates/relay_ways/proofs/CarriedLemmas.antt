-- A way that begins with bytes which were taken before.
use Rattle.std.proofs.Common.{◌≡◌, ◌≢◌, ℕ, ◌+◌, ◌≤◌, Bool, true, false, List, [], ◌++◌, length, refl, sym, ap, ◌∙◌, subst, append_assoc, append-nil, arith}
use Rattle.std.specs.Prelude.{◌==◌}
use mathlib.Core.Bool.{true≢false}
use Rattle.std.proofs.lemmas.Bool.{eq-eqb, eqb-true}
use Rattle.std.proofs.lemmas.List.{length-append}
use Rattle.fw_outside.specs.SinkView.{SinkView}
use Rattle.fw_outside.specs.SourceView.{SourceView}
use Rattle.fw_outside.proofs.ListenLemmas.{pulled_none}
use Rattle.relay_ways.specs.Carried.{Carries, LeavesSink, LeavesSource, Loses, is_write_fault}
use Rattle.relay_ways.specs.Way.{CopiesTo, Ends, holding, is_spent, most_in_piece}
use Rattle.relay_ways.specs.declared.way_end.WayEnd.{WayEnd}
use Rattle.relay_ways.specs.declared.way_end.WayEnd.TheVariants.{Done, ReadFault, WriteFault, Idle, Spent}
use Rattle.relay_ways.proofs.WayLemmas.{holding_more}

ends_short : (how : WayEnd) (rest : List ℕ) (before after : SourceView) (old new : SinkView) → Ends how rest before after old new → length rest ≤ most_in_piece
ends_short Done rest before after old new h = let none = ap length h.0 in omega (arith, none)
ends_short ReadFault rest before after old new h = let none = ap length h.0 in omega (arith, none)
ends_short WriteFault rest before after old new h = h.short
ends_short Idle rest before after old new h = let none = ap length h.0 in omega (arith, none)
ends_short Spent rest before after old new h = let none = ap length h.0 in omega (arith, none)

ends_whole : (how : WayEnd) (rest : List ℕ) (before after : SourceView) (old new : SinkView) → Ends how rest before after old new → is_write_fault how ≡ false → rest ≡ []
ends_whole Done rest before after old new h other = h.0
ends_whole ReadFault rest before after old new h other = h.0
ends_whole WriteFault rest before after old new h other = absurd (true≢false other)
ends_whole Idle rest before after old new h other = h.0
ends_whole Spent rest before after old new h other = h.0

-- where all that was taken was given, the limit was reached exactly if nothing is left of it
given_all : (bytes part rest : List ℕ) → bytes ≡ part ++ rest → rest ≡ [] → length bytes ≡ length part
given_all bytes part rest cut none = ap length (cut ∙ ap (λ (r : List ℕ). part ++ r) none ∙ append-nil part)

some_left : (limit left : ℕ) (bytes part rest : List ℕ) → bytes ≡ part ++ rest → rest ≡ [] → limit ≡ length bytes + left → false ≡ (length part == limit) → left ≢ 0
some_left limit left bytes part rest cut none room spent empty =
    let same = given_all bytes part rest cut none in
    true≢false (sym (eq-eqb (length part) limit (omega (arith, same, room, empty))) ∙ sym spent)

eqb_is : (a b : ℕ) → true ≡ (a == b) → a ≡ b
eqb_is a b is = eqb-true a b (sym is)

none_left : (limit left : ℕ) (bytes part rest : List ℕ) → bytes ≡ part ++ rest → rest ≡ [] → limit ≡ length bytes + left → true ≡ (length part == limit) → left ≡ 0
none_left limit left bytes part rest cut none room spent =
    let same = given_all bytes part rest cut none in
    let all = eqb_is (length part) limit spent in
    omega (arith, same, all, room)

ends_source : (how : WayEnd) (limit left : ℕ) (bytes part rest : List ℕ) (before after : SourceView) (old new : SinkView) → bytes ≡ part ++ rest → limit ≡ length bytes + left → is_spent how ≡ (length part == limit)
    → Ends how rest before after old new → LeavesSource how rest left before after
ends_source Done limit left bytes part rest before after old new cut room spent h = (some_left limit left bytes part rest cut h.0 room spent, h.1.0)
ends_source ReadFault limit left bytes part rest before after old new cut room spent h = (some_left limit left bytes part rest cut h.0 room spent, h.1.0)
ends_source WriteFault limit left bytes part rest before after old new cut room spent h = (h.over, h.source)
ends_source Idle limit left bytes part rest before after old new cut room spent h = (some_left limit left bytes part rest cut h.0 room spent, h.1.0)
ends_source Spent limit left bytes part rest before after old new cut room spent h = (none_left limit left bytes part rest cut h.0 room spent, h.1.0)

ends_sink : (how : WayEnd) (rest : List ℕ) (before after : SourceView) (old new : SinkView) → Ends how rest before after old new → LeavesSink how old new
ends_sink Done rest before after old new h = h.1.1
ends_sink ReadFault rest before after old new h = h.1.1
ends_sink WriteFault rest before after old new h = record { count = h.count; rose = h.rose; is = h.is }
ends_sink Idle rest before after old new h = h.1.1
ends_sink Spent rest before after old new h = h.1.1

-- what was taken before was given, and then the way went on
pub carried : (ahead : List ℕ) (limit left : ℕ) (how : WayEnd) (before after : SourceView) (old now new : SinkView) → now ≡ holding ahead old → CopiesTo limit left how before after now new → Carries ahead limit left how before after old new
carried ahead limit left how before after old now new given to =
    let c = to.copies in
    let sink : holding c.part now ≡ holding (ahead ++ c.part) old = ap (holding c.part) given ∙ holding_more ahead c.part old in
    record {
      way = record {
        taken = ahead ++ c.bytes;
        given = ahead ++ c.part;
        lost = c.rest;
        end = how;
        cut = ap (λ (b : List ℕ). ahead ++ b) c.cut ∙ sym (append_assoc ahead c.part c.rest);
        short = ends_short how c.rest c.middle after (holding c.part now) new c.ends;
        whole = ends_whole how c.rest c.middle after (holding c.part now) new c.ends;
      };
      is = refl;
      drains = record {
        bytes = c.bytes;
        middle = c.middle;
        all = refl;
        takes = c.takes;
        room = to.room;
        leaves = ends_source how limit left c.bytes c.part c.rest c.middle after (holding c.part now) new c.cut to.room c.spent c.ends;
      };
      supplies = subst (λ (s : SinkView). LeavesSink how s new) sink (ends_sink how c.rest c.middle after (holding c.part now) new c.ends);
    }

-- the sink failed within what was taken before
pub carried_none : (ahead : List ℕ) (limit : ℕ) (before : SourceView) (old new : SinkView) → length ahead ≤ most_in_piece → Loses ahead old new → Carries ahead limit limit WriteFault before before old new
carried_none ahead limit before old new few h =
    let parts : length ahead ≡ length h.part + length h.rest = ap length h.cut ∙ length-append h.part h.rest in
    record {
      way = record {
        taken = ahead;
        given = h.part;
        lost = h.rest;
        end = WriteFault;
        cut = h.cut;
        short = omega (arith, parts, few);
        whole = λ other. absurd (true≢false other);
      };
      is = refl;
      drains = record {
        bytes = [];
        middle = before;
        all = sym (append-nil ahead);
        takes = pulled_none before;
        room = omega (arith);
        leaves = (λ none. absurd (h.some none), refl);
      };
      supplies = record { count = h.count; rose = h.rose; is = h.is };
    }
